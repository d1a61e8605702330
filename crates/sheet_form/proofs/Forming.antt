-- The form of a sheet: what each scan over it has found.
use mathlib.Core.Path.{◌≡◌, refl, sym, ap, ◌∙◌}
use mathlib.Core.Logic.{◌⊎◌, inl, inr, ◌≢◌, ⊎_elim}
use mathlib.Core.Bool.{Bool, true, false, ◌&&◌}
use mathlib.Core.List.{List, [], ◌∷◌}
use borrow.Author.Tests.{eq-eqb, ne_eqb, leb-true}
use Prim.Native.Nat.{ℕ, zero, suc, ◌+◌, ◌*◌, ◌/◌, ◌-◌, ◌≤◌, ◌<◌}
use native.Mathlib.Numerals.{add-one}
use native.Mathlib.Omega.{arith}
use lib.Dec.{eqb, leb}
use lib.ListN.{length, get_or, take, drop, drop_of_length-le, length-take, length-drop}
use lib.Seq.{drop-cons, drop-drop, take_all}
use Rattle.std.specs.List.{list_all}
use Rattle.std.specs.Simd.{first_chunks}
use Rattle.seqs.specs.Every.{every}
use Rattle.seqs.specs.Pick.{pick}
use Rattle.seqs.proofs.Numbers.{eq_or_ne}
use Rattle.seqs.proofs.Booleans.{both_true, true_is_not_false}
use Rattle.seqs.proofs.Picking.{pick_yes, pick_no}
use Rattle.words.specs.Words.{word_at}
use Rattle.sheet_form.specs.declared.kinds.Kind.{Kind}
use Rattle.sheet_form.specs.declared.kinds.Kind.TheVariants.{Bytes, NewLabel, Bind, Align, Use, Ref, Jump, Constant, ConstantLabel, Relocation}
use Rattle.sheet_form.specs.Kinds.{code_of}
use Rattle.sheet_form.specs.Form.{is_counted, in_range, used_bytes, used, is_clear, is_formed, first_broken, argument_size, most_bytes}

module _ (kinds arguments : List ℕ) (i : ℕ) where
  pub next_arguments : drop argument_size (drop (i * argument_size) arguments) ≡ drop ((i + 1) * argument_size) arguments
  next_arguments =
      let e : i * argument_size + argument_size ≡ (i + 1) * argument_size = omega arith in
      drop-drop argument_size (i * argument_size) arguments ∙ ap (λ (n : ℕ). drop n arguments) e

  -- the bytes of argument i, as the program takes them
  pub argument_part : take (i * argument_size + argument_size - i * argument_size) (drop (i * argument_size) arguments) ≡ take argument_size (drop (i * argument_size) arguments)
  argument_part = let e : i * argument_size + argument_size - i * argument_size ≡ argument_size = omega arith in rw e

  pub argument_length : i < length kinds → length arguments ≡ length kinds * argument_size
      → length (take (i * argument_size + argument_size - i * argument_size) (drop (i * argument_size) arguments)) ≡ argument_size
  argument_length h e =
      omega (arith, length-take (i * argument_size + argument_size - i * argument_size) (drop (i * argument_size) arguments), length-drop (i * argument_size) arguments, e)

  -- a call that has its form is passed
  pub broken_step : i < length kinds → is_formed (get_or kinds i 0) (take argument_size (drop (i * argument_size) arguments)) ≡ true
      → first_broken (drop i kinds) (drop (i * argument_size) arguments) ≡ suc (first_broken (drop (i + 1) kinds) (drop ((i + 1) * argument_size) arguments))
  unfolding first_broken
  broken_step h e =
      ap (λ l. first_broken l (drop (i * argument_size) arguments)) (drop-cons kinds i 0 h)
      ∙ (pick_yes _ _ _ e
      ∙ (ap (λ l. suc (first_broken (drop (suc i) kinds) l)) next_arguments
      ∙ ap (λ (n : ℕ). suc (first_broken (drop n kinds) (drop ((i + 1) * argument_size) arguments))) (sym (add-one i))))

  pub broken_here : i < length kinds → is_formed (get_or kinds i 0) (take argument_size (drop (i * argument_size) arguments)) ≡ false
      → first_broken (drop i kinds) (drop (i * argument_size) arguments) ≡ 0
  unfolding first_broken
  broken_here h e = rw (drop-cons kinds i 0 h) (pick_no _ _ _ e)

  pub broken_end : length kinds ≤ i → first_broken (drop i kinds) (drop (i * argument_size) arguments) ≡ 0
  unfolding first_broken
  broken_end h = rw (drop_of_length-le kinds {i = i} h)

-- four bytes are clear where the word that they make is 0
clear_four : (a b c d : ℕ) → eqb (word_at (a ∷ b ∷ c ∷ d ∷ []) 0) 0 ≡ (eqb a 0 && (eqb b 0 && (eqb c 0 && (eqb d 0 && true))))
unfolding word_at
clear_four a b c d =
    ⊎_elim
    (λ (zero : word_at (a ∷ b ∷ c ∷ d ∷ []) 0 ≡ 0).
    rw (eq-eqb _ 0 zero, eq-eqb a 0 (omega arith), eq-eqb b 0 (omega arith), eq-eqb c 0 (omega arith), eq-eqb d 0 (omega arith)) refl)
    (λ (some : word_at (a ∷ b ∷ c ∷ d ∷ []) 0 ≢ 0). ne_eqb _ 0 some ∙ sym (not_all (eq_or_ne a 0) (eq_or_ne b 0) (eq_or_ne c 0) (eq_or_ne d 0) some))
    (eq_or_ne (word_at (a ∷ b ∷ c ∷ d ∷ []) 0) 0)
  where
    not_all : (a ≡ 0) ⊎ (a ≢ 0) → (b ≡ 0) ⊎ (b ≢ 0) → (c ≡ 0) ⊎ (c ≢ 0) → (d ≡ 0) ⊎ (d ≢ 0) → a + b * 256 + c * 65536 + d * 16777216 ≢ 0 → (eqb a 0 && (eqb b 0 && (eqb c 0 && (eqb d 0 && true)))) ≡ false
    not_all (inr x) _ _ _ h = rw (ne_eqb a 0 x)
    not_all (inl p) (inr x) _ _ h = rw (eq-eqb a 0 p, ne_eqb b 0 x)
    not_all (inl p) (inl q) (inr x) _ h = rw (eq-eqb a 0 p, eq-eqb b 0 q, ne_eqb c 0 x)
    not_all (inl p) (inl q) (inl r) (inr x) h = rw (eq-eqb a 0 p, eq-eqb b 0 q, eq-eqb c 0 r, ne_eqb d 0 x)
    not_all (inl p) (inl q) (inl r) (inl s) h = absurd (h (omega arith))

five : (a b c d e f : Bool) → (a && (b && (c && (d && true))) && e && f) ≡ (a && (b && (c && (d && (e && f)))))
five true true true true e f = refl
five true true true false e f = refl
five true true false d e f = refl
five true false c d e f = refl
five false b c d e f = refl

pub clear_fours : (n : ℕ) (xs : List ℕ) → n * 4 ≤ length xs
    → (list_all (λ (four : List ℕ). eqb (word_at four 0) 0) (first_chunks 4 n xs) && list_all (λ (x : ℕ). eqb x 0) (drop (n * 4) xs)) ≡ is_clear xs
unfolding every
clear_fours zero [] h = refl
clear_fours zero (x ∷ xs) h = ap (λ (t : Bool). eqb x 0 && t) (clear_fours zero xs (omega arith))
clear_fours (suc n) (a ∷ b ∷ c ∷ d ∷ xs) h =
    let over : suc n * 4 ≡ suc (suc (suc (suc (n * 4)))) = omega arith in
    rw (over, clear_four a b c d, ← clear_fours n xs (omega arith)) (five (eqb a 0) (eqb b 0) (eqb c 0) (eqb d 0) (list_all (λ (four : List ℕ). eqb (word_at four 0) 0) (first_chunks 4 n xs)) (list_all (λ (x : ℕ). eqb x 0) (drop (n * 4) xs)))
clear_fours (suc n) (a ∷ b ∷ c ∷ []) h = absurd (omega arith)
clear_fours (suc n) (a ∷ b ∷ []) h = absurd (omega arith)
clear_fours (suc n) (a ∷ []) h = absurd (omega arith)
clear_fours (suc n) [] h = absurd (omega arith)

pub few_fours : (xs : List ℕ) → length xs / 4 * 4 ≤ length xs
few_fours xs = omega arith

-- no entry of the list is above m
abbrev AtMost : ℕ → List ℕ → Type 0
AtMost m [] = Unit {0}
AtMost m (x ∷ xs) = (x ≤ m) × AtMost m xs

at_most : (m : ℕ) (l : List ℕ) → AtMost m l → (i : ℕ) → get_or l i 0 ≤ m
at_most m [] h i = omega arith
at_most m (x ∷ xs) h zero = h.0
at_most m (x ∷ xs) h (suc i) = at_most m xs h.1 i

used_words : (kind : ℕ) → get_or used_bytes kind 0 ≤ argument_size
used_words kind =
    at_most argument_size used_bytes
    (omega arith, (omega arith, (omega arith, (omega arith, (omega arith, (omega arith, (omega arith, (omega arith, (omega arith, (omega arith, (omega arith, tt)))))))))))
    kind

-- what is counted follows one word
counted_word : (kind : ℕ) → is_counted kind ≡ true → get_or used_bytes kind 0 ≡ 4
counted_word kind h =
    ⊎_elim
    (λ (one : kind ≡ 1). rw one refl)
    (λ not-one.
    ⊎_elim
    (λ (eight : kind ≡ 8). rw eight refl)
    (λ not_eight. absurd (true_is_not_false (sym h ∙ rw (ne_eqb kind 1 not-one, ne_eqb kind 8 not_eight))))
    (eq_or_ne kind 8))
    (eq_or_ne kind 1)

-- a call in its ranges uses no more than its argument
used_by : (kind counted : ℕ) (others t : Bool) → is_counted kind ≡ t → pick t (leb counted most_bytes) others ≡ true → get_or used_bytes kind 0 + pick t counted 0 ≤ argument_size
unfolding pick
used_by kind counted others true e h = omega (arith, leb-true counted 12 h, counted_word kind e)
used_by kind counted others false e h = omega (arith, used_words kind)

pub used_fits : (kind : ℕ) (arguments : List ℕ) → in_range kind arguments ≡ true → used kind arguments ≤ argument_size
unfolding in_range used
used_fits kind arguments h = used_by kind (word_at arguments 0) _ (is_counted kind) refl h

-- a kind's number is one of the ten
kind_low : (kind : Kind) → leb 1 (code_of kind) ≡ true
kind_low Bytes = refl
kind_low NewLabel = refl
kind_low Bind = refl
kind_low Align = refl
kind_low Use = refl
kind_low Ref = refl
kind_low Jump = refl
kind_low Constant = refl
kind_low ConstantLabel = refl
kind_low Relocation = refl

kind_high : (kind : Kind) → leb (code_of kind) 10 ≡ true
kind_high Bytes = refl
kind_high NewLabel = refl
kind_high Bind = refl
kind_high Align = refl
kind_high Use = refl
kind_high Ref = refl
kind_high Jump = refl
kind_high Constant = refl
kind_high ConstantLabel = refl
kind_high Relocation = refl

module _ (kind : Kind) (byte : ℕ) (arguments : List ℕ) (is : code_of kind ≡ byte) where
  pub out_of_range : in_range (code_of kind) arguments ≡ false → false ≡ is_formed byte arguments
  unfolding is_formed
  out_of_range h = rw (← is, kind_low kind, kind_high kind, h)

  -- in its ranges, a call is formed where the rest of its argument is clear
  pub formed_clear : (n : ℕ) → n ≡ used (code_of kind) arguments → in_range (code_of kind) arguments ≡ true
      → is_clear (take (length arguments - n) (drop n arguments)) ≡ is_formed byte arguments
  unfolding is_formed
  formed_clear n e h =
      rw (take_all (length arguments - n) (drop n arguments) (omega (arith, length-drop n arguments)), ← is, kind_low kind, kind_high kind, h, e)

-- among calls of which none is broken, each has a kind
pub has_kind : (kinds arguments : List ℕ) (i : ℕ) → i < length kinds → length kinds ≤ first_broken kinds arguments
    → (leb 1 (get_or kinds i 0) && leb (get_or kinds i 0) 10) ≡ true
unfolding pick first_broken is_formed
has_kind [] arguments i h unbroken = absurd (omega arith)
has_kind (kind ∷ kinds) arguments i h unbroken = by (is_formed kind (take argument_size arguments)) refl unbroken i h (λ j l u. has_kind kinds (drop argument_size arguments) j l u)
  where
    by : (t : Bool) → is_formed kind (take argument_size arguments) ≡ t → suc (length kinds) ≤ pick t (suc (first_broken kinds (drop argument_size arguments))) 0 → (i : ℕ) → i < suc (length kinds)
        → ((j : ℕ) → j < length kinds → length kinds ≤ first_broken kinds (drop argument_size arguments) → (leb 1 (get_or kinds j 0) && leb (get_or kinds j 0) 10) ≡ true)
        → (leb 1 (get_or (kind ∷ kinds) i 0) && leb (get_or (kind ∷ kinds) i 0) 10) ≡ true
    by true formed u zero h rest = (both_true _ _ formed).0
    by true formed u (suc i) h rest = rest i (omega arith) (omega arith)
    by false broken u i h rest = absurd (omega arith)
