-- A branch whose displacement is written is read as one to its label, short or long: demand 2 of a branch.
use Rattle.std.proofs.Common.{rules, ◌≡◌, ℕ, ◌+◌, ◌-◌, ◌/◌, ◌%◌, ◌^◌, ◌<◌, Bool, true, false, cond, not, eqb, ◌++◌, length, sym, refl, ap, ◌∙◌, subst, arith, eq-eqb, ne_eqb, eqb-true}
use Rattle.seqs.specs.Pick.{pick}
use Rattle.seqs.proofs.Booleans.{both_true}
use Rattle.words.specs.Words.{word_at, bytes_of}
use Rattle.words.proofs.Laws.{word_at_bytes_of}
use Rattle.fields.specs.declared.LabelUse.{LabelUse}
use Rattle.fields.specs.declared.LabelUse.TheVariants.{A64Branch14, A64Branch19, A64Branch26}
use Rattle.fields.specs.Words64.{modulus, plus, minus, sign_extend}
use Rattle.fields.specs.Bits.{bits, insert_bits}
use Rattle.fields.specs.Kinds.{patch_size}
use Rattle.fields.specs.Reach.{can_reach}
use Rattle.fields.specs.Patch.{patched_word, patched}
use Rattle.fields.specs.Arm.{b, cbz, tbz}
use Rattle.fields.proofs.Insertion.{insert_read, insert_below, insert_above, insert_lt}
use Rattle.fields.proofs.Patching.{patched_field}
use Rattle.fields.proofs.Meaning.{patched_means}
use Rattle.fields.specs.Branches.{State, condition_holds, test_holds, compare_holds, is_on_flags, taken, is_branch, turned, inverse, field_kind, skipping, open_b, short_branch}
use Rattle.fields.specs.Branching.{Goes, test_bit, compare, on_flags, always, ShortReads, LongReads}
use Rattle.fields.proofs.Inverting.{Kind, kind_of, inverse_inverts, inverse_kind, taken_test, taken_compare, taken_flags, test_same, compare_same}

-- two words that agree in all but the field of a displacement
pub record Agree (w w' : ℕ) : Type 0 where
  pub high : w' / 16777216 ≡ w / 16777216
  pub low : w' % 32 ≡ w % 32

-- where the field is imm14, in bits 19 to 23 too
pub record AgreeMore (w w' : ℕ) : Type 0 where
  pub high : w' / 524288 ≡ w / 524288
  pub low : w' % 32 ≡ w % 32

imm14 : (w v : ℕ) → AgreeMore w (insert_bits 5 14 w v)
imm14 w v = record { high = insert_above 5 14 w v 19 (omega arith); low = sym (one (insert_bits 5 14 w v)) ∙ insert_below 5 14 w v 0 5 (omega arith) ∙ one w }
  where
    one : (x : ℕ) → x / 2 ^ 0 % 2 ^ 5 ≡ x % 32
    one x = omega arith

imm19 : (w v : ℕ) → Agree w (insert_bits 5 19 w v)
imm19 w v = record { high = insert_above 5 19 w v 24 (omega arith); low = sym (one (insert_bits 5 19 w v)) ∙ insert_below 5 19 w v 0 5 (omega arith) ∙ one w }
  where
    one : (x : ℕ) → x / 2 ^ 0 % 2 ^ 5 ≡ x % 32
    one x = omega arith

-- what a test and a comparison read is outside the field
top : (w w' : ℕ) → w' / 16777216 ≡ w / 16777216 → bits 31 31 w' ≡ bits 31 31 w
top w w' h = omega arith

op : (w w' : ℕ) → w' / 16777216 ≡ w / 16777216 → bits 24 24 w' ≡ bits 24 24 w
op w w' h = omega arith

register_same : (w w' : ℕ) → w' % 32 ≡ w % 32 → bits 4 0 w' ≡ bits 4 0 w
register_same w w' l = omega arith

upper : (w w' : ℕ) → w' / 524288 ≡ w / 524288 → w' / 16777216 ≡ w / 16777216
upper w w' h = omega arith

upper_b40 : (w w' : ℕ) → w' / 524288 ≡ w / 524288 → bits 23 19 w' ≡ bits 23 19 w
upper_b40 w w' h = omega arith

-- words that agree have one condition
module _ (w w' : ℕ) (same : Agree w w') where
  family : bits 30 25 w' ≡ bits 30 25 w
  family = let h = same.high in omega arith

  flag_family : bits 31 24 w' ≡ bits 31 24 w
  flag_family = let h = same.high in omega arith

  fourth : bits 4 4 w' ≡ bits 4 4 w
  fourth = let l = same.low in omega arith

  cond_same : bits 3 0 w' ≡ bits 3 0 w
  cond_same = let l = same.low in omega arith

  compare_holds_lem : (s : State) → compare_holds s w' ≡ compare_holds s w
  compare_holds_lem s = compare_same s w w' (top w w' same.high) (register_same w w' same.low) (op w w' same.high)

module _ (w w' : ℕ) (same : AgreeMore w w') where
  test_family : bits 30 25 w' ≡ bits 30 25 w
  test_family = let h = same.high in omega arith

  test_holds_lem : (s : State) → test_holds s w' ≡ test_holds s w
  test_holds_lem s =
      let h : w' / 16777216 ≡ w / 16777216 = upper w w' same.high in
      test_same s w w' (top w w' h) (upper_b40 w w' same.high) (register_same w w' same.low) (op w w' h)

eqb_same : (a b n : ℕ) → a ≡ b → eqb b n ≡ true → eqb a n ≡ true
eqb_same a b n e h = rw e h

-- A word with its field anew goes where the field says, on the condition that it had.
written_goes : (s : State) (pc code w v : ℕ) (to : ℕ) → Kind code w
    → (code ≡ 9 → tbz pc (insert_bits 5 14 w v) ≡ to) → (code ≡ 10 → cbz pc (insert_bits 5 19 w v) ≡ to)
    → Goes s pc (cond (eqb code 9) (insert_bits 5 14 w v) (insert_bits 5 19 w v)) (pick (taken s w) to (plus pc 4))
written_goes s pc code w v to (Kind.test c t) short long =
    let w' = insert_bits 5 14 w v in
    let f = eqb-true (bits 30 25 w) 27 t in
    let same = imm14 w v in
    let is : pick (test_holds s w') (tbz pc w') (plus pc 4) ≡ pick (taken s w) to (plus pc 4) = rw (test_holds_lem w w' same s, short c, taken_test s w f) in
    rw (eq-eqb code 9 c) (subst (λ (x : ℕ). Goes s pc w' x) is (test_bit w' (eqb_same (bits 30 25 w') (bits 30 25 w) 27 (test_family w w' same) t)))
written_goes s pc code w v to (Kind.compare c t) short long =
    let w' = insert_bits 5 19 w v in
    let f = eqb-true (bits 30 25 w) 26 t in
    let same = imm19 w v in
    let is : pick (compare_holds s w') (cbz pc w') (plus pc 4) ≡ pick (taken s w) to (plus pc 4) = rw (compare_holds_lem w w' same s, long c, taken_compare s w f) in
    rw (ne_eqb code 9 (λ e. omega arith)) (subst (λ (x : ℕ). Goes s pc w' x) is (compare w' (eqb_same (bits 30 25 w') (bits 30 25 w) 26 (family w w' same) t)))
written_goes s pc code w v to (Kind.flags c t l) short long =
    let w' = insert_bits 5 19 w v in
    let g = both_true (eqb (bits 31 24 w) 84) (eqb (bits 4 4 w) 0) t in
    let f = eqb-true (bits 31 24 w) 84 g.0 in
    let same = imm19 w v in
    let is : pick (condition_holds s (bits 3 0 w')) (cbz pc w') (plus pc 4) ≡ pick (taken s w) to (plus pc 4) = rw (cond_same w w' same, long c, taken_flags s w f) in
    let flag : is_on_flags w' ≡ true = rw (flag_family w w' same, fourth w w' same) t in
    rw (ne_eqb code 9 (λ e. omega arith)) (subst (λ (x : ℕ). Goes s pc w' x) is (on_flags w' flag))

-- a patched word of four bytes, read back
word_read : (k : LabelUse) (offset target w : ℕ) → patch_size k ≡ 4 → w < 4294967296 → patched_word k w offset target < 4294967296
    → patched k offset target (bytes_of w) ≡ bytes_of (patched_word k w offset target)
word_read k offset target w four small fits =
    let size : length (bytes_of w) ≡ patch_size k = sym four in
    patched_field k offset target (bytes_of w) size ∙ rw (four, word_at_bytes_of w small)

kind_four : (code : ℕ) → patch_size (field_kind code) ≡ 4
kind_four code = search rules

field_lt : (code offset target w : ℕ) → w < 4294967296 → patched_word (field_kind code) w offset target < 4294967296
field_lt code offset target w h = by (eqb code 9)
  where
    by : (t : Bool) → patched_word (cond t A64Branch14 A64Branch19) w offset target < 4294967296
    by true = insert_lt 5 14 w (minus target offset / 4) 32 (omega arith) h
    by false = insert_lt 5 19 w (minus target offset / 4) 32 (omega arith) h

field_is : (code offset target w : ℕ)
    → patched_word (field_kind code) w offset target ≡ cond (eqb code 9) (insert_bits 5 14 w (minus target offset / 4)) (insert_bits 5 19 w (minus target offset / 4))
field_is code offset target w = search rules

module _ (base start label code w : ℕ) (is : is_branch code w ≡ true) (small : w < 4294967296) (start_fits : start + 4 < modulus) (label_fits_lem : label < modulus) where
  -- A short branch that reaches is read as the recorded condition, to the label.
  pub short_reads : can_reach (field_kind code) start label ≡ true
      → ShortReads (plus base start) w (plus base label) (patched (field_kind code) start label (short_branch w))
  short_reads r =
      rw (word_read (field_kind code) start label w (kind_four code) small (field_lt code start label w small))
      (record {
        size = refl;
        goes = λ s.
            rw (word_at_bytes_of (patched_word (field_kind code) w start label) (field_lt code start label w small), field_is code start label w)
            (written_goes s (plus base start) code w (minus label start / 4) (plus base label) (kind_of code w is) (λ c. nine c) (λ c. ten c));
      })
    where
      nine : code ≡ 9 → tbz (plus base start) (insert_bits 5 14 w (minus label start / 4)) ≡ plus base label
      nine c =
          let r9 : can_reach A64Branch14 start label ≡ true = subst (λ (n : ℕ). can_reach (field_kind n) start label ≡ true) c r in
          patched_means A64Branch14 base start label w (omega arith) label_fits_lem (omega arith) tt r9

      ten : code ≡ 10 → cbz (plus base start) (insert_bits 5 19 w (minus label start / 4)) ≡ plus base label
      ten c =
          let r10 : can_reach A64Branch19 start label ≡ true = subst (λ (n : ℕ). can_reach (field_kind n) start label ≡ true) c r in
          patched_means A64Branch19 base start label w (omega arith) label_fits_lem (omega arith) tt r10

  inverse_small : inverse w < 4294967296
  unfolding inverse pick
  inverse_small = by (eqb (bits 31 24 w) 84)
    where
      by : (t : Bool) → pick t (turned 0 w) (turned 24 w) < 4294967296
      by true = insert_lt 0 1 w (1 - bits 0 0 w) 32 (omega arith) small
      by false = insert_lt 24 1 w (1 - bits 24 24 w) 32 (omega arith) small

  -- displacement 8
  eight_tbz : (v : ℕ) → tbz (plus base start) (insert_bits 5 14 v 2) ≡ plus (plus base start) 8
  unfolding sign_extend
  eight_tbz v = rw (insert_read 5 14 v 2)

  eight_cbz : (v : ℕ) → cbz (plus base start) (insert_bits 5 19 v 2) ≡ plus (plus base start) 8
  unfolding sign_extend
  eight_cbz v = rw (insert_read 5 19 v 2)

  pick_not : (t : Bool) (x y : ℕ) → pick (not t) x y ≡ pick t y x
  unfolding pick
  pick_not t x y = search rules

  -- A long branch whose B reaches is read as: where the condition holds, on to B and to the label; else over it.
  pub long_reads : can_reach A64Branch26 (start + 4) label ≡ true
      → LongReads (plus base start) w (plus base label) (bytes_of (skipping code w) ++ patched A64Branch26 (start + 4) label (bytes_of open_b))
  unfolding word_at
  long_reads r =
      rw (word_read A64Branch26 (start + 4) label open_b refl (omega arith) (insert_lt 0 26 open_b (minus label (start + 4) / 4) 32 (omega arith) (omega arith)))
      (record {
        size = refl;
        skips = λ s. skips_of s;
        lands = λ s. lands_of s;
      })
    where
      skip_small : skipping code w < 4294967296
      skip_small = field_lt code 0 8 (inverse w) inverse_small

      first_word : word_at (bytes_of (skipping code w) ++ bytes_of (patched_word A64Branch26 open_b (start + 4) label)) 0 ≡ skipping code w
      first_word = word_at_bytes_of (skipping code w) skip_small

      second_word : word_at (bytes_of (skipping code w) ++ bytes_of (patched_word A64Branch26 open_b (start + 4) label)) 1 ≡ patched_word A64Branch26 open_b (start + 4) label
      second_word = word_at_bytes_of (patched_word A64Branch26 open_b (start + 4) label) (insert_lt 0 26 open_b (minus label (start + 4) / 4) 32 (omega arith) (omega arith))

      skips_of : (s : State) → Goes s (plus base start) (word_at (bytes_of (skipping code w) ++ bytes_of (patched_word A64Branch26 open_b (start + 4) label)) 0)
          (pick (taken s w) (plus (plus base start) 4) (plus (plus base start) 8))
      skips_of s =
          let goes = written_goes s (plus base start) code (inverse w) 2 (plus (plus base start) 8) (inverse_kind code w (kind_of code w is))
          (λ c. eight_tbz (inverse w)) (λ c. eight_cbz (inverse w)) in
          let turns : pick (taken s (inverse w)) (plus (plus base start) 8) (plus (plus base start) 4) ≡ pick (taken s w) (plus (plus base start) 4) (plus (plus base start) 8)
          = ap (λ (t : Bool). pick t (plus (plus base start) 8) (plus (plus base start) 4)) (inverse_inverts s code w is) ∙ pick_not (taken s w) (plus (plus base start) 8) (plus (plus base start) 4) in
          rw (first_word, field_is code 0 8 (inverse w)) (subst (λ (x : ℕ). Goes s (plus base start) (cond (eqb code 9) (insert_bits 5 14 (inverse w) 2) (insert_bits 5 19 (inverse w) 2)) x) turns goes)

      lands_of : (s : State) → Goes s (plus (plus base start) 4) (word_at (bytes_of (skipping code w) ++ bytes_of (patched_word A64Branch26 open_b (start + 4) label)) 1) (plus base label)
      lands_of s =
          let v = minus label (start + 4) / 4 in
          let at : plus (plus base start) 4 ≡ plus base (start + 4) = omega arith in
          let means : b (plus base (start + 4)) (insert_bits 0 26 open_b v) ≡ plus base label
          = patched_means A64Branch26 base (start + 4) label open_b start_fits label_fits_lem (omega arith) tt r in
          let high : insert_bits 0 26 open_b v / 67108864 ≡ 5 = insert_above 0 26 open_b v 26 (omega arith) in
          rw (second_word, at) (subst (λ (x : ℕ). Goes s (plus base (start + 4)) (insert_bits 0 26 open_b v) x) means (always (insert_bits 0 26 open_b v) (ap (λ (x : ℕ). x % 64) high)))
