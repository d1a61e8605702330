-- Lists of bytes: what is padded, patched or written over stays one.
use mathlib.Core.Path.{◌≡◌, refl}
use mathlib.Core.Bool.{Bool, true, false, cond, ◌&&◌}
use mathlib.Core.List.{List, [], ◌∷◌, ◌++◌}
use Prim.Native.Nat.{ℕ, zero, suc, ◌/◌, ◌%◌, ◌≤◌, ◌<◌}
use native.Mathlib.Nat.{mod-lt}
use native.Mathlib.Omega.{arith}
use lib.Dec.{eqb, ltb}
use lib.ListN.{length, get_or, take, drop, replicate}
use borrow.Author.Tests.{ltb-true}
use Rattle.seqs.specs.Over.{over}
use Rattle.seqs.proofs.Booleans.{both_true}
use Rattle.words.specs.Words.{bytes_of, word_at}
use Rattle.encoder.specs.Nops.{form, nops_by, nops}
use Rattle.encoder.proofs.Forms.{up_to_9}
use Rattle.fields.specs.declared.LabelUse.{LabelUse}
use Rattle.fields.specs.Words64.{plus}
use Rattle.fields.specs.Kinds.{Decoded, Use, Unsupported, Unknown, patch_size, decoded}
use Rattle.fields.specs.Patch.{patched_word, patched, held_addend}
use Rattle.buffer.specs.State.{none}
use Rattle.buffer.specs.Calls.{padding}
use Rattle.recording.specs.View as tables
use Rattle.fresh.specs.Pooled.{pooled_one, asked_constant, pooled_to}
use Rattle.fresh.specs.Fill.{part, fill_use, fill_uses}
use Rattle.demands.specs.Demand2.{Bytes, pad_length}

bytes_nil : Bytes []
bytes_nil i = omega arith

bytes_cons : (x : ℕ) (l : List ℕ) → x < 256 → Bytes l → Bytes (x ∷ l)
bytes_cons x l h b zero = h
bytes_cons x l h b (suc i) = b i

bytes_append : (xs ys : List ℕ) → Bytes xs → Bytes ys → Bytes (xs ++ ys)
bytes_append [] ys a b = b
bytes_append (x ∷ xs) ys a b = bytes_cons x (xs ++ ys) (a 0) (bytes_append xs ys (λ i. a (suc i)) b)

pub bytes_take : (n : ℕ) (l : List ℕ) → Bytes l → Bytes (take n l)
bytes_take zero l b = bytes_nil
bytes_take (suc n) [] b = bytes_nil
bytes_take (suc n) (x ∷ l) b = bytes_cons x (take n l) (b 0) (bytes_take n l (λ i. b (suc i)))

bytes_drop : (n : ℕ) (l : List ℕ) → Bytes l → Bytes (drop n l)
bytes_drop zero l b = b
bytes_drop (suc n) [] b = bytes_nil
bytes_drop (suc n) (x ∷ l) b = bytes_drop n l (λ i. b (suc i))

pub bytes_part : (l : List ℕ) (a n : ℕ) → Bytes l → Bytes (part l a n)
bytes_part l a n b = bytes_take n (drop a l) (bytes_drop a l b)

bytes_over : (xs : List ℕ) (at : ℕ) (ys : List ℕ) → Bytes xs → Bytes ys → Bytes (over xs at ys)
unfolding over
bytes_over [] at ys a b = bytes_nil
bytes_over (x ∷ xs) zero [] a b = a
bytes_over (x ∷ xs) zero (y ∷ ys) a b = bytes_cons y (over xs zero ys) (b 0) (bytes_over xs zero ys (λ i. a (suc i)) (λ i. b (suc i)))
bytes_over (x ∷ xs) (suc at) ys a b = bytes_cons x (over xs at ys) (a 0) (bytes_over xs at ys (λ i. a (suc i)) b)

bytes_of_lem : (v : ℕ) → Bytes (bytes_of v)
bytes_of_lem v =
    let d3 : List ℕ = v / 16777216 % 256 ∷ [] in
    let d2 : List ℕ = v / 65536 % 256 ∷ d3 in
    let d1 : List ℕ = v / 256 % 256 ∷ d2 in
    bytes_cons (v % 256) d1 (mod-lt v (omega arith))
    (bytes_cons (v / 256 % 256) d2 (mod-lt (v / 256) (omega arith))
    (bytes_cons (v / 65536 % 256) d3 (mod-lt (v / 65536) (omega arith))
    (bytes_cons (v / 16777216 % 256) [] (mod-lt (v / 16777216) (omega arith)) bytes_nil)))

bytes_patched : (k : LabelUse) (offset target : ℕ) (l : List ℕ) → Bytes l → Bytes (patched k offset target l)
unfolding patched
bytes_patched k offset target l b = by (eqb (length l) (patch_size k))
  where
    by : (t : Bool) → Bytes (cond t (take (patch_size k) (bytes_of (patched_word k (word_at l 0) offset target))) l)
    by true = bytes_take (patch_size k) (bytes_of (patched_word k (word_at l 0) offset target)) (bytes_of_lem (patched_word k (word_at l 0) offset target))
    by false = b

bytes_used : (d : Decoded) (offset label : ℕ) (l : List ℕ) → Bytes l → Bytes (fill_use d offset label l)
unfolding fill_use
bytes_used (Use k) offset label l b =
    bytes_over l offset _ b (bytes_patched k offset (plus label (held_addend k (part l offset (patch_size k)))) (part l offset (patch_size k)) (bytes_part l offset (patch_size k) b))
bytes_used Unsupported offset label l b = b
bytes_used Unknown offset label l b = b

-- Filled uses leave bytes.
pub bytes_filled : (labels : List ℕ) (us : List tables.Use) (l : List ℕ) → Bytes l → Bytes (fill_uses labels us l)
unfolding fill_uses
bytes_filled labels [] l b = b
bytes_filled labels (u ∷ us) l b = bytes_filled labels us _ (bytes_used (decoded u.code) u.offset (get_or labels u.label none) l b)

bytes_zeros : (n : ℕ) → Bytes (replicate n 0)
bytes_zeros zero = bytes_nil
bytes_zeros (suc n) = bytes_cons 0 (replicate n 0) (omega arith) (bytes_zeros n)

-- by a test
abbrev are_bytes : List ℕ → Bool
are_bytes [] = true
are_bytes (x ∷ l) = ltb x 256 && are_bytes l

tested_bytes : (l : List ℕ) → are_bytes l ≡ true → Bytes l
tested_bytes [] h = bytes_nil
tested_bytes (x ∷ l) h =
    let both = both_true (ltb x 256) (are_bytes l) h in bytes_cons x l (ltb-true x 256 both.0) (tested_bytes l both.1)

form_tested : (n : ℕ) → n ≤ 9 → are_bytes (form n) ≡ true
unfolding form
form_tested = up_to_9 (λ n. are_bytes (form n) ≡ true) refl refl refl refl refl refl refl refl refl refl

bytes_form : (n : ℕ) → n ≤ 9 → Bytes (form n)
bytes_form n h = tested_bytes (form n) (form_tested n h)

bytes_nops_by : (nines remainder : ℕ) → remainder ≤ 9 → Bytes (nops_by nines remainder)
unfolding nops_by
bytes_nops_by zero r h = bytes_form r h
bytes_nops_by (suc q) r h = bytes_append (form 9) (nops_by q r) (bytes_form 9 (omega arith)) (bytes_nops_by q r h)

bytes_padding : (arch n : ℕ) → Bytes (padding arch n)
unfolding nops
bytes_padding arch n = by (eqb arch 6)
  where
    by : (t : Bool) → Bytes (cond t (replicate n 0) (nops n))
    by true = bytes_zeros n
    by false = bytes_nops_by (n / 9) (n % 9) (omega arith)

-- pooling keeps the architecture
pub pooled_arch : (arch : ℕ) (v : tables.View) (n : ℕ) → (pooled_to arch v n).arch ≡ arch
unfolding pooled_one
pooled_arch arch v zero = refl
pooled_arch arch v (suc n) = pooled_arch arch v n

-- Pooled code is bytes where the recorded code is.
pub bytes_pooled : (arch : ℕ) (v : tables.View) (n : ℕ) → Bytes v.code → Bytes (pooled_to arch v n).code
unfolding pooled_one
bytes_pooled arch v zero b = b
bytes_pooled arch v (suc n) b =
    let zeros : List ℕ = replicate (length (asked_constant v n).bytes) 0 in
    rw (pooled_arch arch v n)
    (bytes_append (pooled_to arch v n).code (padding arch (pad_length arch v n) ++ zeros) (bytes_pooled arch v n b)
    (bytes_append (padding arch (pad_length arch v n)) zeros (bytes_padding arch (pad_length arch v n)) (bytes_zeros (length (asked_constant v n).bytes))))
