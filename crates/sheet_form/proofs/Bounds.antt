-- What is kept of the labels from call to call of a sheet: that it answers a jump, and that it stays right.
use Rattle.std.proofs.Common.{◌≡◌, ◌≢◌, sym, ◌∙◌, ℕ, ◌≤◌, ◌<◌, List, Option, Some, None, option_map, max, refl, true, false, cond, ltb, Bool, arith}
use Rattle.std.proofs.lemmas.Option.{same_Some}
use Rattle.buffer.specs.State.{none}
use Rattle.buffer.specs.steps.Below.{under, greatest_below, Told}
use Rattle.buffer.proofs.Below.{under_yes, under_no, below_nearer}
use Rattle.sheet_form.specs.declared.bound.Bound.{Bound}
use Rattle.sheet_form.specs.Form.{bind_call}
use Rattle.sheet_form.specs.steps.Bound.{Known, Follows, limit_of}
use borrow.Author.Tests.{ltb-true}

-- an offset that is known, and below another
abbrev pub kept_below : ℕ → Option ℕ → Option ℕ
kept_below code None = None
kept_below code (Some k) = cond (ltb k code) (Some k) None

module _ {labels : List ℕ} {n : ℕ} {s : Bound} (known : Known labels n s) where
  -- the greatest offset, known or not, as a word
  pub limit_small : limit_of s.greatest ≤ none
  limit_small = by s.greatest refl
    where
      by : (greatest : Option ℕ) → s.greatest ≡ greatest → limit_of greatest ≤ none
      by None e = omega arith
      by (Some m) e = known.word m e

  pub limit_right : limit_of s.greatest ≢ none → limit_of s.greatest ≡ greatest_below labels n none
  limit_right ne = by s.greatest refl ne
    where
      by : (greatest : Option ℕ) → s.greatest ≡ greatest → limit_of greatest ≢ none → limit_of greatest ≡ greatest_below labels n none
      by None e ne = absurd (ne refl)
      by (Some m) e ne = known.first m e ne

  -- Every label is bound below the current offset, or none is bound between it and the greatest offset.
  pub greatest_told : (code : ℕ) → limit_of s.greatest < code → code ≤ none → Told labels n code (Some (limit_of s.greatest))
  greatest_told code below limit =
      let is = limit_right (λ e. omega arith) in
      record { right = λ at e. sym (same_Some (limit_of s.greatest) at e) ∙ is ∙ sym (below_nearer labels n none code (omega arith) limit) }

  second_kept : (code k : ℕ) → s.second ≡ Some k → k < code → code ≤ limit_of s.greatest → Told labels n code (Some k)
  second_kept code k second below limit =
      let small = limit_small in
      let is = known.next k second (λ e. omega arith) in
      record { right = λ at e. sym (same_Some k at e) ∙ is ∙ sym (below_nearer labels n (limit_of s.greatest) code (omega arith) limit) }

  pub second_told : (code : ℕ) → code ≤ limit_of s.greatest → Told labels n code (kept_below code s.second)
  second_told code limit = by s.second refl
    where
      chosen : (k : ℕ) (t : Bool) → s.second ≡ Some k → ltb k code ≡ t → Told labels n code (cond t (Some k) None)
      chosen k true e h = second_kept code k e (ltb-true k code h) limit
      chosen k false e h = record { right = λ at e. absurd (cc) }

      by : (second : Option ℕ) → s.second ≡ second → Told labels n code (kept_below code second)
      by None e = record { right = λ at e. absurd (cc) }
      by (Some k) e = chosen k (ltb k code) e refl

module _ {kind code : ℕ} {labels labels' : List ℕ} {n n' : ℕ} {s : Bound} (follows : Follows kind code labels n labels' n') (known : Known labels n s) where
  -- a call that binds nothing
  pub known_still : kind ≢ bind_call → Known labels' n' s
  known_still other =
      record {
        word = known.word;
        first = λ m e ne. known.first m e ne ∙ sym (follows.kept other none (omega arith));
        next = λ k f ne. known.next k f ne ∙ sym (follows.kept other (limit_of s.greatest) (limit_small known));
      }

  module _ (binds : kind ≡ bind_call) (limit : code ≤ none) where
    -- a bind past the greatest offset, which is the second now
    pub known_past : (most : ℕ) → most ≡ limit_of s.greatest → most < code → Known labels' n' (record { greatest = Some code; second = Some most })
    known_past most is past =
        let was = limit_right known (λ e. omega arith) in
        record {
          word = λ m' e. let so : code ≡ m' = same_Some code m' e in omega arith;
          first = λ m' e ne.
              let so : code ≡ m' = same_Some code m' e in
              omega (arith, was, under_yes code none (omega arith), follows.bound binds limit none (omega arith));
          next = λ k f ne.
              let so : most ≡ k = same_Some most k f in
              let here : greatest_below labels' n' code ≡ max (under code code) (greatest_below labels n code) = follows.bound binds limit code limit in
              rw (← so) (omega (arith, was, under_no code code (omega arith), below_nearer labels n none code (omega arith) limit, here));
        }

    -- one at the greatest offset
    pub known_there : limit_of s.greatest ≡ code → Known labels' n' s
    known_there there =
        let small = limit_small known in
        record {
          word = known.word;
          first = λ m' e ne.
              let is : limit_of s.greatest ≡ m' = rw e in
              omega (arith, known.first m' e ne, under_yes code none (omega arith), follows.bound binds limit none (omega arith));
          next = λ k f ne. omega (arith, known.next k f ne, under_no code (limit_of s.greatest) (omega arith), follows.bound binds limit (limit_of s.greatest) small);
        }

    -- one before it
    pub known_before : code < limit_of s.greatest → Known labels' n' (record { greatest = s.greatest; second = option_map (λ k. max k code) s.second })
    known_before before = by s.second refl
      where
        first : (m' : ℕ) → s.greatest ≡ Some m' → m' ≢ none → m' ≡ greatest_below labels' n' none
        first m' e ne =
            let is : limit_of s.greatest ≡ m' = rw e in
            let word = known.word m' e in
            omega (arith, known.first m' e ne, under_yes code none (omega arith), follows.bound binds limit none (omega arith))

        by : (second : Option ℕ) → s.second ≡ second → Known labels' n' (record { greatest = s.greatest; second = option_map (λ k. max k code) second })
        by None e = record { word = known.word; first = first; next = λ k f ne. absurd (cc) }
        by (Some k0) e = record {
          word = known.word;
          first = first;
          next = λ k f ne.
              let so : max k0 code ≡ k = same_Some (max k0 code) k f in
              rw (← so) (omega (arith, known.next k0 e (λ z. ne (omega arith)), under_yes code (limit_of s.greatest) before, follows.bound binds limit (limit_of s.greatest) (limit_small known)));
        }
