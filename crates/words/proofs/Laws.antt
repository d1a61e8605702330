-- Laws of words in bytes.
use mathlib.Core.Path.{◌≡◌, sym, ap, ◌∙◌}
use mathlib.Core.Logic.{◌≢◌, ⊎_elim}
use mathlib.Core.List.{List}
use Prim.Native.Nat.{ℕ, ◌+◌, ◌*◌, ◌/◌, ◌%◌, ◌≤◌, ◌<◌}
use native.Mathlib.Omega.{arith}
use native.Mathlib.Nat.{div-div-eq-div-mul, mod-eq_of_lt, add-zero}
use lib.ListN.{length, get_or}
use Rattle.seqs.specs.Over.{over}
use Rattle.seqs.proofs.Numbers.{lt_or_ge}
use Rattle.seqs.proofs.Overwrites.{length_over, get_d_over_in, get_d_over_before, get_d_over_after}
use Rattle.words.specs.Words.{bytes_of, word_at, set_word}

-- a word is the sum of its bytes
bytes_sum : (v : ℕ) → v < 4294967296 → v % 256 + v / 256 % 256 * 256 + v / 65536 % 256 * 65536 + v / 16777216 % 256 * 16777216 ≡ v
bytes_sum v h = omega (arith, div-div-eq-div-mul v 256 256, div-div-eq-div-mul v 65536 256, mod-eq_of_lt {n = v / 16777216} {m = 256} (omega arith))

-- what is written as bytes is read as a word
pub word_at_bytes_of : (v : ℕ) → v < 4294967296 → word_at (bytes_of v) 0 ≡ v
unfolding word_at
word_at_bytes_of v h = bytes_sum v h

pub length_set_word : (bytes : List ℕ) (k v : ℕ) → length (set_word bytes k v) ≡ length bytes
unfolding set_word
length_set_word bytes k v = length_over bytes (k * 4) (bytes_of v)

-- what was written is read
pub word_at_same : (bytes : List ℕ) (k v : ℕ) → k * 4 + 4 ≤ length bytes → v < 4294967296 → word_at (set_word bytes k v) k ≡ v
unfolding word_at set_word
word_at_same bytes k v h f =
    let i = k * 4 in
    let e0 : get_or (over bytes i (bytes_of v)) i 0 ≡ v % 256 =
    ap (λ (n : ℕ). get_or (over bytes i (bytes_of v)) n 0) (sym (add-zero i)) ∙ get_d_over_in bytes i (bytes_of v) 0 0 (omega arith) (omega arith) in
    rw (
      e0,
      get_d_over_in bytes i (bytes_of v) 1 0 (omega arith) (omega arith),
      get_d_over_in bytes i (bytes_of v) 2 0 (omega arith) (omega arith),
      get_d_over_in bytes i (bytes_of v) 3 0 (omega arith) (omega arith),
    ) (bytes_sum v f)

-- four bytes that an overwrite does not touch
untouched : (bytes ys : List ℕ) (at k : ℕ) → ((i : ℕ) → i < 4 → get_or (over bytes at ys) (k * 4 + i) 0 ≡ get_or bytes (k * 4 + i) 0)
    → word_at (over bytes at ys) k ≡ word_at bytes k
unfolding word_at
untouched bytes ys at k same =
    let e0 : get_or (over bytes at ys) (k * 4) 0 ≡ get_or bytes (k * 4) 0 =
    ap (λ (n : ℕ). get_or (over bytes at ys) n 0) (sym (add-zero (k * 4))) ∙ same 0 (omega arith) ∙ ap (λ (n : ℕ). get_or bytes n 0) (add-zero (k * 4)) in
    rw (e0, same 1 (omega arith), same 2 (omega arith), same 3 (omega arith))

-- words before an overwrite stay
pub word_at_before : (bytes ys : List ℕ) (at k : ℕ) → k * 4 + 4 ≤ at → word_at (over bytes at ys) k ≡ word_at bytes k
word_at_before bytes ys at k h = untouched bytes ys at k (λ i l. get_d_over_before bytes at ys (k * 4 + i) 0 (omega arith))

-- every other word stays
pub word_at_other : (bytes : List ℕ) (k v j : ℕ) → j ≢ k → word_at (set_word bytes k v) j ≡ word_at bytes j
unfolding set_word
word_at_other bytes k v j h =
    ⊎_elim
    (λ lt. word_at_before bytes (bytes_of v) (k * 4) j (omega arith))
    (λ ge. untouched bytes (bytes_of v) (k * 4) j (λ i l. get_d_over_after bytes (k * 4) (bytes_of v) (j * 4 + i) 0 (omega arith)))
    (lt_or_ge j k)

-- what is read of bytes is a word
pub word_at_small : (bytes : List ℕ) (k : ℕ) → ((i : ℕ) → get_or bytes i 0 < 256) → word_at bytes k < 4294967296
unfolding word_at
word_at_small bytes k small = omega (arith, small (k * 4), small (k * 4 + 1), small (k * 4 + 2), small (k * 4 + 3))
