-- Laws of `over`: overwrites that follow one another, lie apart, or come from a lent part of a slice.
use mathlib.Core.Path.{◌≡◌, refl, sym, ap, ◌∙◌}
use mathlib.Core.List.{List, [], ◌∷◌, ◌++◌}
use Prim.Native.Nat.{ℕ, zero, suc, ◌+◌, ◌≤◌, ◌<◌, min}
use native.Mathlib.Nat.{not-suc-le-zero, le_of_suc-le-suc, zero-add, suc-add}
use native.Mathlib.Numerals.{add-one}
use native.Mathlib.Omega.{arith}
use lib.ListN.{length, get_or, set, take, drop}
use lib.Seq.{length-take-le, take-suc, take-nil}
use Rattle.seqs.specs.Over.{over}

module _ {A : Type 0} where
  pub length_over : (xs : List A) (at : ℕ) (ys : List A) → length (over xs at ys) ≡ length xs
  unfolding over
  length_over [] n ys = refl
  length_over (x ∷ xs) zero [] = refl
  length_over (x ∷ xs) zero (y ∷ ys) = ap suc (length_over xs zero ys)
  length_over (x ∷ xs) (suc n) ys = ap suc (length_over xs n ys)

  pub over_nil : (xs : List A) (at : ℕ) → over xs at [] ≡ xs
  unfolding over
  over_nil [] n = refl
  over_nil (x ∷ xs) zero = refl
  over_nil (x ∷ xs) (suc n) = ap (λ (l : List A). x ∷ l) (over_nil xs n)

  -- a store is an overwrite by one element
  pub set_over : (xs : List A) (i : ℕ) (v : A) → set xs i v ≡ over xs i (v ∷ [])
  unfolding over
  set_over [] i v = refl
  set_over (x ∷ xs) zero v = ap (λ (l : List A). v ∷ l) (sym (over_nil xs zero))
  set_over (x ∷ xs) (suc i) v = ap (λ (l : List A). x ∷ l) (set_over xs i v)

  -- an overwrite, and one that goes on where it ended
  pub over_append : (xs : List A) (at : ℕ) (ys zs : List A) → over (over xs at ys) (at + length ys) zs ≡ over xs at (ys ++ zs)
  unfolding over
  over_append [] at ys zs = refl
  over_append (x ∷ xs) zero [] zs = refl
  over_append (x ∷ xs) zero (y ∷ ys) zs = rw zero-add (ap (λ (l : List A). y ∷ l) (ap (λ (n : ℕ). over (over xs zero ys) n zs) (sym (zero-add (length ys))) ∙ over_append xs zero ys zs))
  over_append (x ∷ xs) (suc n) ys zs = rw suc-add (ap (λ (l : List A). x ∷ l) (over_append xs n ys zs))

  -- the same as parts
  pub over_eq : (xs : List A) (at : ℕ) (ys : List A) → at + length ys ≤ length xs → over xs at ys ≡ take at xs ++ (ys ++ drop (length ys) (drop at xs))
  unfolding over
  over_eq [] zero [] h = refl
  over_eq [] zero (y ∷ ys) h = absurd (not-suc-le-zero (rw zero-add at h))
  over_eq [] (suc n) ys h = absurd (not-suc-le-zero (rw suc-add at h))
  over_eq (x ∷ xs) zero [] h = refl
  over_eq (x ∷ xs) zero (y ∷ ys) h = ap (λ (l : List A). y ∷ l) (over_eq xs zero ys (omega arith))
  over_eq (x ∷ xs) (suc n) ys h = ap (λ (l : List A). x ∷ l) (over_eq xs n ys (omega arith))

  pub get_d_over_in : (xs : List A) (at : ℕ) (ys : List A) (i : ℕ) (d : A) → i < length ys → at + i < length xs → get_or (over xs at ys) (at + i) d ≡ get_or ys i d
  unfolding over
  get_d_over_in [] at ys i d h k = absurd (not-suc-le-zero k)
  get_d_over_in (x ∷ xs) zero [] i d h k = absurd (not-suc-le-zero h)
  get_d_over_in (x ∷ xs) zero (y ∷ ys) zero d h k = refl
  get_d_over_in (x ∷ xs) zero (y ∷ ys) (suc i) d h k = rw zero-add (ap (λ (n : ℕ). get_or (over xs zero ys) n d) (sym (zero-add i)) ∙ get_d_over_in xs zero ys i d (le_of_suc-le-suc h) (omega arith))
  get_d_over_in (x ∷ xs) (suc n) ys i d h k = rw suc-add (get_d_over_in xs n ys i d h (omega arith))

  pub get_d_over_before : (xs : List A) (at : ℕ) (ys : List A) (j : ℕ) (d : A) → j < at → get_or (over xs at ys) j d ≡ get_or xs j d
  unfolding over
  get_d_over_before [] at ys j d h = refl
  get_d_over_before (x ∷ xs) zero ys j d h = absurd (not-suc-le-zero h)
  get_d_over_before (x ∷ xs) (suc n) ys zero d h = refl
  get_d_over_before (x ∷ xs) (suc n) ys (suc j) d h = get_d_over_before xs n ys j d (le_of_suc-le-suc h)

  pub get_d_over_after : (xs : List A) (at : ℕ) (ys : List A) (j : ℕ) (d : A) → at + length ys ≤ j → get_or (over xs at ys) j d ≡ get_or xs j d
  unfolding over
  get_d_over_after [] at ys j d h = refl
  get_d_over_after (x ∷ xs) zero [] j d h = refl
  get_d_over_after (x ∷ xs) zero (y ∷ ys) zero d h = absurd (not-suc-le-zero (rw zero-add at h))
  get_d_over_after (x ∷ xs) zero (y ∷ ys) (suc j) d h = get_d_over_after xs zero ys j d (omega arith)
  get_d_over_after (x ∷ xs) (suc n) ys zero d h = absurd (not-suc-le-zero (rw suc-add at h))
  get_d_over_after (x ∷ xs) (suc n) ys (suc j) d h = get_d_over_after xs n ys j d (omega arith)

  -- a store right after what has been written: a turn of a loop that appends
  pub over_snoc : (xs : List A) (at : ℕ) (ys : List A) (j : ℕ) (v : A) → j ≡ at + length ys → set (over xs at ys) j v ≡ over xs at (ys ++ (v ∷ []))
  over_snoc xs at ys j v e = set_over (over xs at ys) j v ∙ ap (λ (n : ℕ). over (over xs at ys) n (v ∷ [])) e ∙ over_append xs at ys (v ∷ [])

  -- a turn of a loop that copies the elements of s from at on
  pub over_copy : (xs : List A) (at : ℕ) (s : List A) (i j : ℕ) (d : A) → i < length s → j ≡ at + i → set (over xs at (take i s)) j (get_or s i d) ≡ over xs at (take (i + 1) s)
  over_copy xs at s i j d h e =
      over_snoc xs at (take i s) j (get_or s i d) (e ∙ ap (λ (n : ℕ). at + n) (sym (length-take-le i s (omega arith))))
      ∙ ap (λ (l : List A). over xs at l) (sym (take-suc s i d h) ∙ ap (λ (n : ℕ). take n s) (sym (add-one i)))

  -- all of it
  pub over_all : (xs ys : List A) → length ys ≡ length xs → over xs 0 ys ≡ ys
  unfolding over
  over_all [] [] h = refl
  over_all [] (y ∷ ys) h = let z : ⊥ = omega arith in absurd z
  over_all (x ∷ xs) [] h = let z : ⊥ = omega arith in absurd z
  over_all (x ∷ xs) (y ∷ ys) h = ap (λ (l : List A). y ∷ l) (over_all xs ys (omega arith))

  pub set4_over : (xs : List A) (i : ℕ) (a b c d : A) → set (set (set (set xs i a) (i + 1) b) (i + 2) c) (i + 3) d ≡ over xs i (a ∷ b ∷ c ∷ d ∷ [])
  set4_over xs i a b c d =
      rw (set_over xs i a, over_snoc xs i (a ∷ []) (i + 1) b refl, over_snoc xs i (a ∷ b ∷ []) (i + 2) c refl, over_snoc xs i (a ∷ b ∷ c ∷ []) (i + 3) d refl)

  -- what a slice holds when a part of it, lent as `&mut xs[a..e]`, is back at ys
  pub over_mid : (xs : List A) (a k : ℕ) (ys : List A) → length ys ≡ k → a + k ≤ length xs → take a xs ++ (ys ++ drop k (drop a xs)) ≡ over xs a ys
  over_mid xs a k ys e h = rw (← e) (sym (over_eq xs a ys (omega arith)))

  -- all that fits is written
  pub over_take : (xs ys : List A) (n : ℕ) → min (length ys) (length xs) ≤ n → over xs 0 (take n ys) ≡ over xs 0 ys
  unfolding over
  over_take [] ys n h = refl
  over_take (x ∷ xs) [] n h = rw take-nil
  over_take (x ∷ xs) (y ∷ ys) zero h = let z : ⊥ = omega arith in absurd z
  over_take (x ∷ xs) (y ∷ ys) (suc n) h = ap (λ (l : List A). y ∷ l) (over_take xs ys n (omega arith))

  -- a part that lies before an overwrite, one that lies after it, and what was written
  pub part_before : (xs : List A) (at : ℕ) (ys : List A) (a m : ℕ) → a + m ≤ at → take m (drop a (over xs at ys)) ≡ take m (drop a xs)
  unfolding over
  part_before [] at ys a m h = refl
  part_before (x ∷ xs) zero ys zero zero h = refl
  part_before (x ∷ xs) zero ys zero (suc m) h = let z : ⊥ = omega arith in absurd z
  part_before (x ∷ xs) zero ys (suc a) m h = let z : ⊥ = omega arith in absurd z
  part_before (x ∷ xs) (suc at) ys zero zero h = refl
  part_before (x ∷ xs) (suc at) ys zero (suc m) h = ap (λ (l : List A). x ∷ l) (part_before xs at ys zero m (omega arith))
  part_before (x ∷ xs) (suc at) ys (suc a) m h = part_before xs at ys a m (omega arith)

  pub drop_over : (xs : List A) (at : ℕ) (ys : List A) (n : ℕ) → at + length ys ≤ n → drop n (over xs at ys) ≡ drop n xs
  unfolding over
  drop_over [] at ys n h = refl
  drop_over (x ∷ xs) zero [] n h = refl
  drop_over (x ∷ xs) zero (y ∷ ys) zero h = let z : ⊥ = omega arith in absurd z
  drop_over (x ∷ xs) zero (y ∷ ys) (suc n) h = drop_over xs zero ys n (omega arith)
  drop_over (x ∷ xs) (suc at) ys zero h = let z : ⊥ = omega arith in absurd z
  drop_over (x ∷ xs) (suc at) ys (suc n) h = drop_over xs at ys n (omega arith)

  pub part_over : (xs : List A) (at : ℕ) (ys : List A) → at + length ys ≤ length xs → take (length ys) (drop at (over xs at ys)) ≡ ys
  unfolding over
  part_over [] zero [] h = refl
  part_over [] zero (y ∷ ys) h = let z : ⊥ = omega arith in absurd z
  part_over [] (suc n) ys h = let z : ⊥ = omega arith in absurd z
  part_over (x ∷ xs) zero [] h = refl
  part_over (x ∷ xs) zero (y ∷ ys) h = ap (λ (l : List A). y ∷ l) (part_over xs zero ys (omega arith))
  part_over (x ∷ xs) (suc n) ys h = part_over xs n ys (omega arith)

  -- all that stands before the end of an overwrite that follows on
  pub take_over_end : (xs : List A) (at : ℕ) (ys : List A) → at + length ys ≤ length xs → take (at + length ys) (over xs at ys) ≡ take at xs ++ ys
  unfolding over
  take_over_end [] zero [] h = refl
  take_over_end [] zero (y ∷ ys) h = let z : ⊥ = omega arith in absurd z
  take_over_end [] (suc n) ys h = let z : ⊥ = omega arith in absurd z
  take_over_end (x ∷ xs) zero [] h = refl
  take_over_end (x ∷ xs) zero (y ∷ ys) h =
      let e : 0 + suc (length ys) ≡ suc (0 + length ys) = omega arith in rw e (ap (λ (l : List A). y ∷ l) (take_over_end xs zero ys (omega arith)))
  take_over_end (x ∷ xs) (suc n) ys h =
      let e : suc n + length ys ≡ suc (n + length ys) = omega arith in rw e (ap (λ (l : List A). x ∷ l) (take_over_end xs n ys (omega arith)))

  -- what was written over the front
  pub take_over_front : (xs ys : List A) → length ys ≤ length xs → take (length ys) (over xs 0 ys) ≡ ys
  take_over_front xs ys h = let e : 0 + length ys ≡ length ys = omega arith in rw e at (take_over_end xs 0 ys (omega arith))
