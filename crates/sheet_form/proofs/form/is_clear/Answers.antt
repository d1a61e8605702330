-- `is_clear` meets its contract: the fours are clear, and the rest.
use Rattle.std.proofs.Common.{rules, ◌≡◌, ◌∙◌, sym, ap, ℕ, List, eqb, ◌&&◌, ◌*◌, ◌/◌, length, drop}
use borrow.Author.Tests.{tests}
use Rattle.std.specs.List.{list_all}
use Rattle.std.specs.Simd.{first_chunks}
use Rattle.std.proofs.lemmas.Iterator.{YieldsList-from_slice}
use Rattle.std.proofs.lemmas.Iterator.Search.{all_from_yields_List}
use Rattle.words.specs.Words.{word_at}
use Rattle.sheet_form.proofs.Forming.{clear_fours, few_fours}
use Rattle.sheet_form.proofs.form.is_clear.Goals as goal

pub returns-then-all : goal.returns-then-all
returns-then-all c =
    let part = c.args.part.now in
    let n = length part / 4 in
    let fours : c.all.result ≡ list_all (λ (four : List ℕ). eqb (word_at four 0) 0) (first_chunks 4 n part) = all_from_yields_List (λ (four : List ℕ). eqb (word_at four 0) 0) _ _ _ c.all.ensures.ran (YieldsList-from_slice _ (c.iter.ensures.rest ∙ c.as_chunks.ensures.front)) (λ x b q k. search (rules, tests)) in
    let rest : c.all-then-all.result ≡ list_all (λ (x : ℕ). eqb x 0) (drop (n * 4) part) = all_from_yields_List (λ (x : ℕ). eqb x 0) _ _ _ c.all-then-all.ensures.ran (YieldsList-from_slice _ (c.iter-then-all.ensures.rest ∙ c.as_chunks.ensures.back)) (λ x b q k. search (rules, tests)) in
    rest ∙ ap (λ t. t && list_all (λ (x : ℕ). eqb x 0) (drop (n * 4) part)) (sym c.if-all.true ∙ fours) ∙ clear_fours n part (few_fours part)

pub returns-else-all : goal.returns-else-all
returns-else-all c =
    let part = c.args.part.now in
    let n = length part / 4 in
    let fours : c.all.result ≡ list_all (λ (four : List ℕ). eqb (word_at four 0) 0) (first_chunks 4 n part) = all_from_yields_List (λ (four : List ℕ). eqb (word_at four 0) 0) _ _ _ c.all.ensures.ran (YieldsList-from_slice _ (c.iter.ensures.rest ∙ c.as_chunks.ensures.front)) (λ x b q k. search (rules, tests)) in
    c.if-all.false ∙ ap (λ t. t && list_all (λ (x : ℕ). eqb x 0) (drop (n * 4) part)) (sym c.if-all.false ∙ fours) ∙ clear_fours n part (few_fours part)
