-- The inverse branch is one of the same kind, and is taken exactly if the branch is not.
use Rattle.std.proofs.Common.{rules, ◌≡◌, ℕ, ◌+◌, ◌-◌, ◌*◌, ◌/◌, ◌%◌, ◌^◌, ◌<◌, Bool, true, not, ◌&&◌, ◌||◌, eqb, ltb, ◌⊎◌, get_or, ◌∙◌, ⊎_elim, arith, ltb-true, eq-eqb, ne_eqb, eqb-true}
use Rattle.seqs.specs.Pick.{pick}
use Rattle.seqs.proofs.Picking.{yes_eq, no_eq}
use Rattle.seqs.proofs.Booleans.{both_true}
use Rattle.seqs.proofs.Numbers.{eq_or_ne}
use Rattle.fields.specs.Bits.{bits, insert_bits}
use Rattle.fields.specs.Branches.{State, register, same, bases, condition_holds, test_holds, compare_holds, is_test, is_compare, is_on_flags, taken, is_branch, turned, inverse}

-- bit 24 turned, and what stays
pub turned_24 : (w : ℕ) → bits 24 24 (turned 24 w) ≡ 1 - bits 24 24 w
unfolding insert_bits
turned_24 w = omega arith

pub above_24 : (w : ℕ) → turned 24 w / 33554432 ≡ w / 33554432
unfolding insert_bits
above_24 w = omega arith

pub below_24 : (w : ℕ) → turned 24 w % 16777216 ≡ w % 16777216
unfolding insert_bits
below_24 w = omega arith

-- bit 0 turned, and what stays
pub turned_0 : (w : ℕ) → turned 0 w % 2 ≡ 1 - w % 2
unfolding insert_bits
turned_0 w = omega arith

pub above_0 : (w : ℕ) → turned 0 w / 2 ≡ w / 2
unfolding insert_bits
above_0 w = omega arith

-- of two bits, one is the other's inverse where it is not the other
other_bit : (x b : ℕ) → x < 2 → b < 2 → eqb x (1 - b) ≡ not (eqb x b)
other_bit x b h l = grind (arith, eq-eqb, ne_eqb)

same_not : (a b : Bool) → same a (not b) ≡ not (same a b)
same_not a b = search rules

bit_small : (at r : ℕ) → bits at at r < 2
bit_small at r = let e : at + 1 - at ≡ 1 = omega arith in rw e (omega arith)

-- what a test and a comparison read beside bit 24
module _ (w : ℕ) where
  b5 : bits 31 31 (turned 24 w) ≡ bits 31 31 w
  b5 = let e = above_24 w in omega arith

  b40 : bits 23 19 (turned 24 w) ≡ bits 23 19 w
  b40 = let e = below_24 w in omega arith

  rt : bits 4 0 (turned 24 w) ≡ bits 4 0 w
  rt = let e = below_24 w in omega arith

  pub family_24 : bits 30 25 (turned 24 w) ≡ bits 30 25 w
  family_24 = let e = above_24 w in omega arith

  pub test_inverts : (s : State) → test_holds s (turned 24 w) ≡ not (test_holds s w)
  unfolding test_holds
  test_inverts s =
      let at = bits 31 31 w * 32 + bits 23 19 w in
      let r = register s (bits 4 0 w) in
      rw (b5, b40, rt, turned_24 w) (other_bit (bits at at r) (bits 24 24 w) (bit_small at r) (omega arith))

  op_inverts : eqb (1 - bits 24 24 w) 0 ≡ not (eqb (bits 24 24 w) 0)
  op_inverts = grind (arith, eq-eqb, ne_eqb)

  pub compare_inverts : (s : State) → compare_holds s (turned 24 w) ≡ not (compare_holds s w)
  unfolding compare_holds
  compare_inverts s =
      rw (b5, rt, turned_24 w, op_inverts)
      (same_not (eqb (register s (bits 4 0 w) % 2 ^ (32 + bits 31 31 w * 32)) 0) (eqb (bits 24 24 w) 0))

  -- the condition of B.cond beside its lowest bit
  pub flags_0 : bits 31 24 (turned 0 w) ≡ bits 31 24 w
  flags_0 = let e = above_0 w in omega arith

  pub bit_4 : bits 4 4 (turned 0 w) ≡ bits 4 4 w
  bit_4 = let e = above_0 w in omega arith

  base_0 : bits 3 1 (bits 3 0 (turned 0 w)) ≡ bits 3 1 (bits 3 0 w)
  base_0 = let e = above_0 w in omega arith

  low_0 : bits 0 0 (bits 3 0 (turned 0 w)) ≡ 1 - bits 0 0 (bits 3 0 w)
  low_0 = let e = turned_0 w in omega arith

  pub below_14 : bits 3 0 w < 14 → bits 3 0 (turned 0 w) < 14
  below_14 h = let e = above_0 w in omega arith

low_turns : (b : ℕ) (base : Bool) → b < 2 → pick (eqb (1 - b) 1) (not base) base ≡ not (pick (eqb b 1) (not base) base)
unfolding pick
low_turns b base h = search rules

and-true : (t : Bool) → (t && true) ≡ t
and-true t = search rules

-- the eight pairs of conditions, of which AL is none that a branch records
holds_below : (s : State) (cond : ℕ) → cond < 14
    → condition_holds s cond ≡ pick (eqb (bits 0 0 cond) 1) (not (get_or (bases s) (bits 3 1 cond) true)) (get_or (bases s) (bits 3 1 cond) true)
unfolding condition_holds
holds_below s cond h = rw (ne_eqb cond 15 (λ e. omega arith), and-true (eqb (bits 0 0 cond) 1))

pub condition_inverts : (s : State) (w : ℕ) → bits 3 0 w < 14 → condition_holds s (bits 3 0 (turned 0 w)) ≡ not (condition_holds s (bits 3 0 w))
condition_inverts s w h =
    rw (holds_below s (bits 3 0 (turned 0 w)) (below_14 w h), holds_below s (bits 3 0 w) h, base_0 w, low_0 w)
    (low_turns (bits 0 0 (bits 3 0 w)) (get_or (bases s) (bits 3 1 (bits 3 0 w)) true) (omega arith))

-- what a word is, if it is a branch of a code
pub data Kind (code w : ℕ) : Type 0 where
  test : code ≡ 9 → is_test w ≡ true → Kind code w
  compare : code ≡ 10 → is_compare w ≡ true → Kind code w
  flags : code ≡ 10 → is_on_flags w ≡ true → bits 3 0 w < 14 → Kind code w

either_of : (a b : Bool) → (a || b) ≡ true → (a ≡ true) ⊎ (b ≡ true)
either_of a b h = search rules

pub kind_of : (code w : ℕ) → is_branch code w ≡ true → Kind code w
unfolding is_branch
kind_of code w h =
    ⊎_elim
    (λ (nine : code ≡ 9). test nine (rw (yes_eq code 9 (is_test w) _ nine) at h))
    (λ other.
    let b = both_true (eqb code 10) (is_compare w || is_on_flags w && ltb (bits 3 0 w) 14) (rw (no_eq code 9 (is_test w) _ other) at h) in
    ⊎_elim
    (λ c. compare (eqb-true code 10 b.0) c)
    (λ f. let g = both_true (is_on_flags w) (ltb (bits 3 0 w) 14) f in flags (eqb-true code 10 b.0) g.0 (ltb-true (bits 3 0 w) 14 g.1))
    (either_of (is_compare w) (is_on_flags w && ltb (bits 3 0 w) 14) b.1))
    (eq_or_ne code 9)

-- the three do not overlap
inverse_24 : (w f : ℕ) → bits 30 25 w ≡ f → f < 42 → inverse w ≡ turned 24 w
unfolding inverse pick
inverse_24 w f h l = rw (ne_eqb (bits 31 24 w) 84 (λ e. omega arith))

inverse_0 : (w : ℕ) → bits 31 24 w ≡ 84 → inverse w ≡ turned 0 w
unfolding inverse pick
inverse_0 w h = rw (eq-eqb (bits 31 24 w) 84 h)

pub taken_test : (s : State) (w : ℕ) → bits 30 25 w ≡ 27 → taken s w ≡ test_holds s w
unfolding taken pick
taken_test s w h = rw (eq-eqb (bits 30 25 w) 27 h)

pub taken_compare : (s : State) (w : ℕ) → bits 30 25 w ≡ 26 → taken s w ≡ compare_holds s w
unfolding taken pick
taken_compare s w h = rw (ne_eqb (bits 30 25 w) 27 (λ e. omega arith), eq-eqb (bits 30 25 w) 26 h)

pub taken_flags : (s : State) (w : ℕ) → bits 31 24 w ≡ 84 → taken s w ≡ condition_holds s (bits 3 0 w)
unfolding taken pick
taken_flags s w h = rw (ne_eqb (bits 30 25 w) 27 (λ e. omega arith), ne_eqb (bits 30 25 w) 26 (λ e. omega arith))

-- For every state of registers and flags the inverse branch is taken exactly if the branch is not.
pub inverse_inverts : (s : State) (code w : ℕ) → is_branch code w ≡ true → taken s (inverse w) ≡ not (taken s w)
inverse_inverts s code w h = by (kind_of code w h)
  where
    by : Kind code w → taken s (inverse w) ≡ not (taken s w)
    by (test c t) =
        let f = eqb-true (bits 30 25 w) 27 t in
        rw (inverse_24 w 27 f (omega arith), taken_test s (turned 24 w) (family_24 w ∙ f), taken_test s w f) (test_inverts w s)
    by (compare c t) =
        let f = eqb-true (bits 30 25 w) 26 t in
        rw (inverse_24 w 26 f (omega arith), taken_compare s (turned 24 w) (family_24 w ∙ f), taken_compare s w f) (compare_inverts w s)
    by (flags c t l) =
        let b = both_true (eqb (bits 31 24 w) 84) (eqb (bits 4 4 w) 0) t in
        let f = eqb-true (bits 31 24 w) 84 b.0 in
        rw (inverse_0 w f, taken_flags s (turned 0 w) (flags_0 w ∙ f), taken_flags s w f) (condition_inverts s w l)

-- what a test and a comparison read
pub test_same : (s : State) (w w' : ℕ) → bits 31 31 w' ≡ bits 31 31 w → bits 23 19 w' ≡ bits 23 19 w → bits 4 0 w' ≡ bits 4 0 w → bits 24 24 w' ≡ bits 24 24 w
    → test_holds s w' ≡ test_holds s w
unfolding test_holds
test_same s w w' a b c d = rw (a, b, c, d)

pub compare_same : (s : State) (w w' : ℕ) → bits 31 31 w' ≡ bits 31 31 w → bits 4 0 w' ≡ bits 4 0 w → bits 24 24 w' ≡ bits 24 24 w
    → compare_holds s w' ≡ compare_holds s w
unfolding compare_holds
compare_same s w w' a c d = rw (a, c, d)

-- the inverse of a branch is one with the same code
pub inverse_kind : (code w : ℕ) → Kind code w → Kind code (inverse w)
inverse_kind code w (test c t) =
    let f = eqb-true (bits 30 25 w) 27 t in
    rw (inverse_24 w 27 f (omega arith)) (test c (eq-eqb (bits 30 25 (turned 24 w)) 27 (family_24 w ∙ f)))
inverse_kind code w (compare c t) =
    let f = eqb-true (bits 30 25 w) 26 t in
    rw (inverse_24 w 26 f (omega arith)) (compare c (eq-eqb (bits 30 25 (turned 24 w)) 26 (family_24 w ∙ f)))
inverse_kind code w (flags c t l) =
    let b = both_true (eqb (bits 31 24 w) 84) (eqb (bits 4 4 w) 0) t in
    let f = eqb-true (bits 31 24 w) 84 b.0 in
    let e : is_on_flags (turned 0 w) ≡ true = rw (flags_0 w, bit_4 w) t in
    rw (inverse_0 w f) (flags c e (below_14 w l))
