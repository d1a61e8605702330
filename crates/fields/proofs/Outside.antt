-- Patching changes no bit outside the field.
use Rattle.std.proofs.Common.{rules, ◌≡◌, ℕ, ◌+◌, ◌-◌, ◌*◌, ◌/◌, ◌%◌, ◌^◌, ◌<◌, ◌≤◌, true, false, ◌||◌, ◌⊎◌, sym, ap, ◌∙◌, inl, inr, ⊎_elim, arith, lt-ltb, le-leb}
use Rattle.seqs.proofs.Booleans.{true_is_not_false, both_false}
use Rattle.seqs.proofs.Numbers.{lt_or_ge}
use Rattle.fields.specs.declared.LabelUse.{LabelUse}
use Rattle.fields.specs.Bits.{bits, insert_bits}
use Rattle.fields.specs.Kinds.{patch_size}
use Rattle.fields.specs.Patch.{patched_word, insert_adr}
use Rattle.fields.specs.Meaning.{covers, in_field}
use Rattle.fields.proofs.Insertion.{insert_below, insert_above}

-- a bit outside a field is below it or above it
outside : (p n i : ℕ) → covers p n i ≡ false → (1 + i ≤ p) ⊎ (p + n ≤ i)
outside p n i h =
    ⊎_elim
    (λ lt. inl (omega arith))
    (λ ge.
    ⊎_elim
    (λ lt.
    let yes : covers p n i ≡ true = rw (le-leb p i ge, lt-ltb i (p + n) lt) in
    absurd (true_is_not_false (sym yes ∙ h)))
    (λ above. inr above)
    (lt_or_ge i (p + n)))
    (lt_or_ge i p)

-- bit i, as Arm writes word<i:i>
bit : (i word : ℕ) → bits i i word ≡ word / 2 ^ i % 2 ^ 1
bit i word = let e : i + 1 - i ≡ 1 = omega arith in ap (λ (n : ℕ). word / 2 ^ i % 2 ^ n) e

insert_outside : (p n w v i : ℕ) → covers p n i ≡ false → bits i i (insert_bits p n w v) ≡ bits i i w
insert_outside p n w v i h =
    bit i (insert_bits p n w v)
    ∙ ⊎_elim
    (λ below. insert_below p n w v i 1 below)
    (λ above. ap (λ (x : ℕ). x % 2 ^ 1) (insert_above p n w v i above))
    (outside p n i h)
    ∙ sym (bit i w)

adr_outside : (w v i : ℕ) → (covers 5 19 i || covers 29 2 i) ≡ false → bits i i (insert_adr w v) ≡ bits i i w
adr_outside w v i h =
    let n = both_false (covers 5 19 i) (covers 29 2 i) h in
    insert_outside 5 19 (insert_bits 29 2 w v) (v / 4) i n.0 ∙ insert_outside 29 2 w v i n.1

inside : (size i : ℕ) → i < size → covers 0 size i ≡ false → ⊥
inside size i l h = ⊎_elim (λ below. omega arith) (λ above. omega arith) (outside 0 size i h)

-- Of the bits of a field's bytes, those that are not the field's own stay.
pub outside_stays : (k : LabelUse) (word offset target i : ℕ) → i < 8 * patch_size k → in_field k i ≡ false
    → bits i i (patched_word k word offset target) ≡ bits i i word
outside_stays k word offset target i l h = search (rules, insert_outside, adr_outside, inside)
