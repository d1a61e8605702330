-- Laws of `nops`: its length, and how it is written form by form.
use Rattle.std.proofs.Common.{◌≡◌, ℕ, zero, suc, ◌+◌, ◌-◌, ◌*◌, ◌/◌, ◌%◌, ◌<◌, ◌≤◌, min, List, [], ◌++◌, length, take, drop, sym, refl, ◌∙◌, ⊎_elim, append-nil, mod-eq_of_lt, add-one, arith, length-append, length-drop, length-take}
use native.Mathlib.Nat.{div-eq_of_lt}
use Rattle.seqs.specs.Over.{over}
use Rattle.seqs.proofs.Numbers.{lt_or_ge}
use Rattle.seqs.proofs.Overwrites.{over_append, over_mid}
use Rattle.encoder.specs.Nops.{form, nops_by, nops}
use Rattle.encoder.proofs.Forms.{form_length}

pub nops_zero : nops 0 ≡ []
unfolding nops nops_by form
nops_zero = refl

pub nops_below_9 : (n : ℕ) → n < 9 → nops n ≡ form n
unfolding nops nops_by
nops_below_9 n h = rw (div-eq_of_lt {n = n} {m = 9} h, mod-eq_of_lt {n = n} {m = 9} h)

nops_from_9 : (n : ℕ) → 9 ≤ n → nops n ≡ form 9 ++ nops (n - 9)
unfolding nops nops_by
nops_from_9 n h =
    let q : n / 9 ≡ (n - 9) / 9 + 1 = omega arith in
    let r : n % 9 ≡ (n - 9) % 9 = omega arith in
    rw (q, r, add-one)

-- The document's example: 10 is 9 then 1.
nops_10 : nops 10 ≡ form 9 ++ form 1
unfolding nops nops_by form
nops_10 = refl

-- The longest form that fits, then the rest.
pub nops_longest_first : (n : ℕ) → 0 < n → nops n ≡ form (min n 9) ++ nops (n - min n 9)
nops_longest_first n h =
    ⊎_elim
    (λ lt.
    let e : min n 9 ≡ n = omega arith in
    let z : n - n ≡ 0 = omega arith in
    rw (e, z, nops_zero) (nops_below_9 n lt ∙ sym (append-nil (form n))))
    (λ ge. let e : min n 9 ≡ 9 = omega arith in rw e (nops_from_9 n ge))
    (lt_or_ge n 9)

nops_by_length : (q r : ℕ) → r ≤ 9 → length (nops_by q r) ≡ q * 9 + r
unfolding nops_by
nops_by_length zero r h = omega (arith, form_length r h)
nops_by_length (suc q) r h = omega (arith, length-append (form 9) (nops_by q r), form_length 9 (omega arith), nops_by_length q r h)

-- `nops n` is n bytes.
pub nops_length : (n : ℕ) → length (nops n) ≡ n
unfolding nops
nops_length n = nops_by_length (n / 9) (n % 9) (omega arith) ∙ omega arith

-- `form n` in the place of n bytes, as a lent part of a slice gives it back.
pub over_form : (pad part : List ℕ) (i n : ℕ) → n ≤ 9 → i + n ≤ length pad → part ≡ form (length (take (i + n - i) (drop i pad)))
    → take i pad ++ (part ++ drop (i + n - i) (drop i pad)) ≡ over pad i (form n)
over_form pad part i n h k e =
    let l : length (take (i + n - i) (drop i pad)) ≡ n = simp (length-take, length-drop) (omega arith) in
    rw (e, l) (over_mid pad i (i + n - i) (form n) (omega (arith, form_length n h)) (omega arith))

-- The same up to the end e.
pub over_form_to : (pad part : List ℕ) (i e : ℕ) → e - i ≤ 9 → i ≤ e → e ≤ length pad → part ≡ form (length (take (e - i) (drop i pad)))
    → take i pad ++ (part ++ drop (e - i) (drop i pad)) ≡ over pad i (form (e - i))
over_form_to pad part i e h j k q =
    let l : length (take (e - i) (drop i pad)) ≡ e - i = simp (length-take, length-drop) (omega arith) in
    rw (q, l) (over_mid pad i (e - i) (form (e - i)) (omega (arith, form_length (e - i) h)) (omega arith))

-- The longest form at i, and the rest after it, are what was left to write at i.
pub over_longest_first : (pad : List ℕ) (i n len : ℕ) → i < len → n ≡ min (len - i) 9 → length pad ≡ len
    → over (over pad i (form n)) (i + n) (nops (len - (i + n))) ≡ over pad i (nops (len - i))
over_longest_first pad i n len h e k =
    let l : length (form n) ≡ n = form_length n (omega arith) in
    let p : i + n ≡ i + length (form n) = omega arith in
    let r : len - (i + n) ≡ len - i - n = omega arith in
    rw (r, p) (over_append pad i (form n) (nops (len - i - n)) ∙ rw (e, ← nops_longest_first (len - i) (omega arith)))
