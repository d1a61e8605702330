-- Laws of `padding_length`, of an offset o and a multiple m: it takes o to a multiple, and is the least that does; and of `padding_within`, which spends
-- that or nothing.
use Rattle.std.proofs.Common.{◌≡◌, ℕ, zero, suc, ◌+◌, ◌-◌, ◌%◌, ◌^◌, ◌<◌, ◌≤◌, sym, refl, ◌∙◌, inl, inr, ⊎_elim, not-suc-le-zero, mod-lt, mod-eq_of_lt, zero-add, arith, pow_pos, pow-add, le-leb}
use Prim.Native.Nat.{◌∣◌}
use native.Mathlib.Nat.{mod-le, mod_self, add-mod-mod, mod-add-mod, sub-zero, dvd-mul_right, mod-mod_of_dvd, mod-eq-zero_of_dvd}
use lib.Bits.{bit_and, and_mask}
use borrow.Author.Tests.{lt-leb}
use Rattle.seqs.proofs.Picking.{pick_yes, pick_no, yes_le}
use Rattle.seqs.proofs.Numbers.{lt_or_ge}
use Rattle.encoder.specs.Padding.{padding_length, padding_within, Spends}
use Rattle.encoder.proofs.Powers.{Power}

-- The definition, of a multiple above 0.
pub padding_is : (o m : ℕ) → 0 < m → padding_length o m ≡ (m - o % m) % m
unfolding padding_length
padding_is o zero h = absurd (not-suc-le-zero h)
padding_is o (suc m) h = refl

-- At a multiple it is none.
pub padding_none : (o m : ℕ) → 0 < m → o % m ≡ 0 → padding_length o m ≡ 0
padding_none o m h e = rw (padding_is o m h, e, sub-zero m) (mod_self m)

-- Past a multiple it is what is left to the next.
pub padding_some : (o m : ℕ) → 0 < m → 0 < o % m → padding_length o m ≡ m - o % m
padding_some o m h k = padding_is o m h ∙ mod-eq_of_lt (omega arith)

-- The offset and the padding together are a multiple.
pub padding_aligns : (o m : ℕ) → 0 < m → (o + padding_length o m) % m ≡ 0
padding_aligns o m h =
    let e : o % m + (m - o % m) ≡ m = omega (arith, mod-lt o h) in
    rw (padding_is o m h, add-mod-mod o (m - o % m) m, ← mod-add-mod o m (m - o % m), e) (mod_self m)

-- It is below the multiple.
pub padding_below : (o m : ℕ) → 0 < m → padding_length o m < m
padding_below o m h = rw (padding_is o m h) (mod-lt (m - o % m) h)

-- Fewer bytes reach no multiple.
pub padding_least : (o m k : ℕ) → 0 < m → (o + k) % m ≡ 0 → padding_length o m ≤ k
padding_least o m k h e =
    rw (padding_is o m h)
    (⊎_elim
    (λ lt.
    let z : o % m + k ≡ 0 = sym (mod-eq_of_lt lt) ∙ mod-add-mod o m k ∙ e in
    let a : m - o % m ≡ m = omega arith in
    rw (a, mod_self m) (omega arith))
    (λ ge. omega (arith, mod-le (m - o % m) m))
    (lt_or_ge (o % m + k) m))

-- No other number below the multiple reaches a multiple.
pub padding_unique : (o m k : ℕ) → k < m → (o + k) % m ≡ 0 → k ≡ padding_length o m
padding_unique o m k h e =
    let p = padding_length o m in
    let least : p ≤ k = padding_least o m k (omega arith) e in
    let sum : o + k ≡ o + p + (k - p) = omega arith in
    let over : (k - p) % m ≡ (o + k) % m = rw (padding_aligns o m (omega arith), zero-add, ← sum) at (mod-add-mod (o + p) m (k - p)) in
    omega (arith, sym (mod-eq_of_lt {n = k - p} {m = m} (omega arith)) ∙ over ∙ e)

-- What is needed is spent where it is no more than the most that may be; else nothing is.
pub within_needed : (o m most : ℕ) → padding_length o m ≤ most → padding_within o m most ≡ padding_length o m
unfolding padding_within
within_needed o m most h = pick_yes _ _ _ (le-leb (padding_length o m) most h)

pub within_none : (o m most : ℕ) → most < padding_length o m → padding_within o m most ≡ 0
unfolding padding_within
within_none o m most h = pick_no _ _ _ (lt-leb (padding_length o m) most h)

-- Never more than is needed.
pub within_below : (o m most : ℕ) → 0 < m → padding_within o m most < m
within_below o m most h =
    ⊎_elim
    (λ (over : most < padding_length o m). rw (within_none o m most over) h)
    (λ (enough : padding_length o m ≤ most). rw (within_needed o m most enough) (padding_below o m h))
    (lt_or_ge most (padding_length o m))

-- The padding ends on its multiple, or is empty and more than the most was needed; never more than the most is spent.
pub padding_spends : (o m most : ℕ) → 0 < m → Spends m most o (o + padding_within o m most)
padding_spends o m most h =
    ⊎_elim
    (λ (over : most < padding_length o m).
    rw (within_none o m most over)
    (record { ends = inr (omega arith, λ k e. omega (arith, over, padding_least o m k h e)); few = omega arith }))
    (λ (enough : padding_length o m ≤ most).
    rw (within_needed o m most enough) (record { ends = inl (padding_aligns o m h); few = omega (arith, enough) }))
    (lt_or_ge most (padding_length o m))

-- Where an alignment ends never falls as its start rises: so no layout puts anything before where the layout before it did.
pub within_rises : (o p m most : ℕ) → o ≤ p → o + padding_within o m most ≤ p + padding_within p m most
unfolding padding_length padding_within
within_rises o p zero most le = rw (yes_le {A = ℕ} 0 most 0 0 (omega arith)) (omega arith)
within_rises o p (suc k) most le =
    let m = suc k in
    let h : 0 < m = omega arith in
    let end = o + padding_length o m in
    ⊎_elim
    (λ (over : most < padding_length o m). rw (within_none o m most over) (omega arith))
    (λ (enough : padding_length o m ≤ most).
    rw (within_needed o m most enough)
    (⊎_elim
    (λ (before : p < end).
    let left : p + (end - p) ≡ end = omega arith in
    let fewer : padding_length p m ≤ end - p = padding_least p m (end - p) h (rw left (padding_aligns o m h)) in
    let far : o + (p - o + padding_length p m) ≡ p + padding_length p m = omega arith in
    let least : padding_length o m ≤ p - o + padding_length p m = padding_least o m (p - o + padding_length p m) h (rw far (padding_aligns p m h)) in
    rw (within_needed p m most (omega (arith, enough, fewer))) (omega (arith, least)))
    (λ (past : end ≤ p). omega arith)
    (lt_or_ge p end)))
    (lt_or_ge most (padding_length o m))

-- For a power of two it is asmkit's `offset.wrapping_neg() & (align - 1)`.
pub padding_masked : (o k : ℕ) → o < 2 ^ 32 → k ≤ 32 → bit_and ((2 ^ 32 - o) % 2 ^ 32) (2 ^ k - 1) ≡ padding_length o (2 ^ k)
padding_masked o k h l =
    let e : k + (32 - k) ≡ 32 = omega arith in
    let d : 2 ^ k ∣ 2 ^ 32 = rw (← pow-add 2 k (32 - k), e) at (dvd-mul_right (2 ^ k) (2 ^ (32 - k))) in
    let sum : o + (2 ^ 32 - o) ≡ 2 ^ 32 = omega arith in
    and_mask ((2 ^ 32 - o) % 2 ^ 32) k
    ∙ mod-mod_of_dvd (2 ^ k) (2 ^ 32 - o) d
    ∙ padding_unique o (2 ^ k) ((2 ^ 32 - o) % 2 ^ k) (mod-lt (2 ^ 32 - o) (pow_pos k)) (rw (add-mod-mod o (2 ^ 32 - o) (2 ^ k), sum) (mod-eq-zero_of_dvd (2 ^ k) d))

-- The same of any r that wraps to 0 with the offset.
pub padding_wrapped : (o a r : ℕ) → o < 2 ^ 32 → r < 2 ^ 32 → (r + o) % 2 ^ 32 ≡ 0 → Power 32 a → bit_and r (a - 1) ≡ padding_length o a
padding_wrapped o a r h l e p =
    let back : r ≡ (2 ^ 32 - o) % 2 ^ 32 = omega arith in
    rw (p.is, back) (padding_masked o p.exponent h p.least)

-- What `Spends` claims, in numbers: from 6 an alignment to 16 that may spend 10 bytes ends at 16; from 16 one to 32 that may spend 5 is empty; from 3 one to 8
-- that may spend 7 is not; and one that may spend 4 does not end at 8.
pub spends_all : (end : ℕ) → 6 ≤ end → Spends 16 10 6 end → end ≡ 16
spends_all end h s = ⊎_elim (λ (e : end % 16 ≡ 0). omega (arith, s.few)) (λ q. absurd (omega (arith, q.1 10 refl))) s.ends

pub spends_none : (end : ℕ) → 16 ≤ end → Spends 32 5 16 end → end ≡ 16
spends_none end h s = ⊎_elim (λ (e : end % 32 ≡ 0). absurd (omega (arith, s.few))) (λ q. q.0) s.ends

pub spends_where_it_may : Spends 8 7 3 3 → ⊥
spends_where_it_may s = ⊎_elim (λ (e : 3 % 8 ≡ 0). omega (arith, e)) (λ q. omega (arith, q.1 5 refl)) s.ends

pub spends_no_more : Spends 8 4 3 8 → ⊥
spends_no_more s = omega (arith, s.few)
