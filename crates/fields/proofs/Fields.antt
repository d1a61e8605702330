-- The theorems of this crate over a field's own bytes, as `patch_with_addend` and `patch` leave them.
use Rattle.std.proofs.Common.{rules, ◌≡◌, ℕ, ◌+◌, ◌*◌, ◌/◌, ◌%◌, ◌^◌, ◌<◌, true, false, ◌⊎◌, List, length, get_or, take, sym, refl, ap, ◌∙◌, subst, inl, inr, ⊎_elim, mod-lt, mod-eq_of_lt, arith}
use Rattle.seqs.proofs.Numbers.{lt_or_ge, eq_or_ne}
use Rattle.words.specs.Words.{word_at, bytes_of}
use Rattle.words.proofs.Laws.{word_at_bytes_of, word_at_small}
use Rattle.fields.specs.declared.LabelUse.{LabelUse}
use Rattle.fields.specs.declared.LabelUse.TheVariants.{X86JmpRel32}
use Rattle.fields.specs.Words64.{modulus, plus, minus, sign_extend}
use Rattle.fields.specs.Bits.{bits, insert_bits}
use Rattle.fields.specs.Kinds.{patch_size}
use Rattle.fields.specs.Reach.{can_reach}
use Rattle.fields.specs.Patch.{insert_adr, patched_word, patched, held_addend, patched_use}
use Rattle.fields.specs.Meaning.{meaning, demanded, load_multiple, Clear, in_field}
use Rattle.fields.proofs.Insertion.{insert_lt}
use Rattle.fields.proofs.Signed.{extend_positive, extend_negative}
use Rattle.fields.proofs.Patching.{four_unless_one, patched_field}
use Rattle.fields.proofs.Meaning.{patched_means}
use Rattle.fields.proofs.Outside.{outside_stays}

adr_lt : (w v : ℕ) → w < 4294967296 → insert_adr w v < 4294967296
adr_lt w v h = insert_lt 5 19 (insert_bits 29 2 w v) (v / 4) 32 (omega arith) (insert_lt 29 2 w v 32 (omega arith) h)

-- a patched number fits its field
patched_lt : (k : LabelUse) (offset target word : ℕ) → word < 4294967296 → patched_word k word offset target < 2 ^ (8 * patch_size k)
patched_lt k offset target word h = search (rules, mod-lt, insert_lt, adr_lt)

-- a number of one byte or of four, written and read
number_read : (size v : ℕ) → (size ≡ 1) ⊎ (size ≡ 4) → v < 2 ^ (8 * size) → word_at (take size (bytes_of v)) 0 ≡ v
unfolding word_at
number_read size v (inl one) h = let l : v < 256 = subst (λ (n : ℕ). v < 2 ^ (8 * n)) one h in rw one (omega arith)
number_read size v (inr four) h = rw four (word_at_bytes_of v (subst (λ (n : ℕ). v < 2 ^ (8 * n)) four h))

-- A field: as many bytes as its kind has.
pub record Field (k : LabelUse) (bytes : List ℕ) : Type 0 where
  pub size : length bytes ≡ patch_size k
  pub small : (i : ℕ) → get_or bytes i 0 < 256

-- what is read from a patched field is the number that was written
patched_number : (k : LabelUse) (offset target : ℕ) (bytes : List ℕ) → Field k bytes
    → word_at (patched k offset target bytes) 0 ≡ patched_word k (word_at bytes 0) offset target
patched_number k offset target bytes f =
    ap (λ (l : List ℕ). word_at l 0) (patched_field k offset target bytes f.size)
    ∙ number_read (patch_size k) (patched_word k (word_at bytes 0) offset target)
    (⊎_elim (λ one. inl one) (λ other. inr (four_unless_one k other)) (eq_or_ne (patch_size k) 1))
    (patched_lt k offset target (word_at bytes 0) (word_at_small bytes 0 f.small))

-- Demand 2 of one field: patched, it means by the manuals what its target demands, wherever the code is loaded.
pub field_means : (k : LabelUse) (base offset target : ℕ) (bytes : List ℕ) → Field k bytes → offset < modulus → target < modulus
    → base % load_multiple k ≡ 0 → Clear k (word_at bytes 0) → can_reach k offset target ≡ true
    → meaning k (plus base offset) (word_at (patched k offset target bytes) 0) ≡ demanded k (plus base target)
field_means k base offset target bytes f o t a c r =
    ap (λ (x : ℕ). meaning k (plus base offset) x) (patched_number k offset target bytes f)
    ∙ patched_means k base offset target (word_at bytes 0) o t a c r

-- Bits of the bytes that are not the field's own stay.
pub field_outside_stays : (k : LabelUse) (offset target i : ℕ) (bytes : List ℕ) → Field k bytes → i < 8 * patch_size k → in_field k i ≡ false
    → bits i i (word_at (patched k offset target bytes) 0) ≡ bits i i (word_at bytes 0)
field_outside_stays k offset target i bytes f l h =
    ap (λ (x : ℕ). bits i i x) (patched_number k offset target bytes f) ∙ outside_stays k (word_at bytes 0) offset target i l h

-- what a 32-bit number extends to is, modulo 2^32, that number
extend_modulo : (v : ℕ) → v < 4294967296 → sign_extend 32 v % 4294967296 ≡ v
extend_modulo v small =
    let l : v % 4294967296 ≡ v = mod-eq_of_lt small in
    ⊎_elim
    (λ lt. rw (extend_positive 32 v lt, l) (omega arith))
    (λ ge. rw (extend_negative 32 v ge, l) (omega arith))
    (lt_or_ge (v % 4294967296) 2147483648)

-- modulo 2^32, a sum of addresses is the sum, and what is taken away comes back
plus_modulo : (a b : ℕ) → plus a b % 4294967296 ≡ (a + b) % 4294967296
plus_modulo a b = omega arith

minus_modulo : (a b : ℕ) → b < 4294967296 → (minus a b + b) % 4294967296 ≡ a % 4294967296
minus_modulo a b small = omega arith

same_sum : (a b c d : ℕ) → a % 4294967296 ≡ b % 4294967296 → c % 4294967296 ≡ d % 4294967296 → (a + c) % 4294967296 ≡ (b + d) % 4294967296
same_sum a b c d e f = omega arith

-- A use of code 0 adds the value already in its field: within reach or not, it means, modulo 2^32, its label plus that.
pub use_adds_held : (base offset label : ℕ) (bytes : List ℕ) → Field X86JmpRel32 bytes → offset < 4294967296
    → meaning X86JmpRel32 (plus base offset) (word_at (patched_use X86JmpRel32 offset label bytes) 0) % 4294967296
    ≡ demanded X86JmpRel32 (plus base (plus label (sign_extend 32 (word_at bytes 0)))) % 4294967296
unfolding held_addend
use_adds_held base offset label bytes f o =
    let target = plus label (sign_extend 32 (word_at bytes 0)) in
    let far = minus target offset in
    let near = minus far 4 in
    let here = plus base offset in
    let next = plus here 4 in
    let d = sign_extend 32 (near % 4294967296) in
    let ends : next % 4294967296 ≡ (base + offset + 4) % 4294967296 = plus_modulo here 4 ∙ same_sum here (base + offset) 4 4 (plus_modulo base offset) refl in
    let back : (near + 4 + offset) % 4294967296 ≡ target % 4294967296 =
    same_sum (near + 4) far offset offset (minus_modulo far 4 (omega arith)) refl ∙ minus_modulo target offset o in
    let turned : base + offset + 4 + near ≡ base + (near + 4 + offset) = omega arith in
    rw (patched_number X86JmpRel32 offset target bytes f)
    (plus_modulo next d
    ∙ same_sum next (base + offset + 4) d near ends (extend_modulo (near % 4294967296) (omega arith))
    ∙ ap (λ (x : ℕ). x % 4294967296) turned
    ∙ same_sum base base (near + 4 + offset) target refl back
    ∙ sym (plus_modulo base target))
