-- Pieces of code in order: of those that start before an offset the last decides.
use mathlib.Core.Path.{◌≡◌, refl, sym, subst}
use mathlib.Core.Logic.{⊎_elim}
use mathlib.Core.Bool.{Bool, true, false, ◌||◌, or-true, or_comm}
use mathlib.Core.List.{List}
use Prim.Native.Nat.{ℕ, zero, suc, ◌+◌, ◌-◌, ◌≤◌, ◌<◌}
use native.Mathlib.Nat.{not-suc-le-zero}
use native.Mathlib.Omega.{arith}
use borrow.Author.Tests.{le-leb, lt-leb, ltb-true, ltb-false}
use lib.Dec.{leb, ltb}
use Rattle.seqs.proofs.Numbers.{lt_or_ge, eq_or_ne}
use Rattle.recording.specs.Sound.{start_at, end_at}
use Rattle.words.specs.Words.{word_at}
use Rattle.pool.specs.steps.Pool.{size_at, label_at, pool_start, pool_offset}
use Rattle.seqs.specs.Every.{all}
use Rattle.checks.specs.Entries.{outside}
use Rattle.checks.specs.steps.Fields.{clear_of_events, clear_of_pool}
use Rattle.lookup.specs.steps.Index.{Rises, Around, Parted}
use Rattle.checks.specs.steps.Search.{Ordered, Before, Halved, Placed}
use Rattle.seqs.proofs.Every.{all_of, all_fails, all_same}

-- Halving: before the first turn, where nothing is known, and where an index has told how far the search has to look.
pub halved_first : (start : ℕ → ℕ) (n to : ℕ) → Halved start n to 0 n
halved_first start n to =
    record {
      most = omega arith;
      rise = omega arith;
      below = λ j l. absurd (not-suc-le-zero l);
      above = λ j h l. let z : ⊥ = omega arith in absurd z;
    }

pub halved_around : {start : ℕ → ℕ} {n to low high : ℕ} → Around start n to low high → Halved start n to low high
halved_around a =
    record {
      most = a.within;
      rise = a.order;
      below = a.under;
      above = λ j h k. omega (arith, a.above j h k);
    }

module _ (start end : ℕ → ℕ) where
  starts_rise : (n i j : ℕ) → Ordered start end n → i ≤ j → j < n → start i ≤ start j
  starts_rise n i j o h l =
      ⊎_elim
      (λ (same : i ≡ j). rw same (omega arith))
      (λ other. omega (arith, o.forward i (omega arith), o.order i j (omega arith) l))
      (eq_or_ne i j)

  pub starts_rises : (n : ℕ) → Ordered start end n → Rises start n
  starts_rises n o = record { rises = λ i j h l. starts_rise n i j o h l }

  -- where a search by halving stops that asks of each piece whether it starts before an offset
  pub parted_before : {answered : ℕ → Bool → Type 0} {n to low high r : ℕ} → Ordered start end n → Halved start n to low high → Parted answered low high r
      → ((j : ℕ) (b : Bool) → answered j b → b ≡ ltb (start j) to) → Before start n to r
  parted_before {n = n} {to} {low} {high} {r} o h p asked =
      record {
        few = omega (arith, p.last, h.most);
        below = λ j l.
            ⊎_elim
            (λ (early : j < low). h.below j early)
            (λ late.
            omega (
              arith,
              starts_rise n j (r - 1) o (omega arith) (omega (arith, p.last, h.most)),
              ltb-true (start (r - 1)) to (sym (asked (r - 1) true (p.before (omega arith)))),
            ))
            (lt_or_ge j low);
        above = λ j k l.
            ⊎_elim
            (λ (early : j < high). omega (arith, starts_rise n r j o k l, ltb-false (start r) to (sym (asked r false (p.after (omega arith))))))
            (λ late. h.above j late l)
            (lt_or_ge j high);
      }

  -- piece j lies before `from` or after `to`
  abbrev pub apart : ℕ → ℕ → ℕ → Bool
  apart from to j = leb (end j) from || leb to (start j)

  pub none_before : (n from to : ℕ) → Before start n to 0 → all (apart from to) n ≡ true
  none_before n from to b =
      all_of (apart from to) n (λ j l. rw (le-leb to (start j) (b.above j (omega arith) l)) (or-true (leb (end j) from)))

  pub last_before : (n from to k : ℕ) → Ordered start end n → Before start n to (k + 1) → leb (end k) from ≡ all (apart from to) n
  last_before n from to k o b =
      ⊎_elim
      (λ (over : from < end k).
      rw (lt-leb (end k) from over)
      (sym
      (all_fails (apart from to) n k (omega (arith, b.few)) (rw (lt-leb (end k) from over, lt-leb to (start k) (b.below k (omega arith)))))))
      (λ (ends : end k ≤ from).
      rw (le-leb (end k) from ends)
      (sym
      (all_of (apart from to) n (λ j l.
      ⊎_elim
      (λ (early : j < k + 1).
      rw
      (le-leb (end j) from
      (⊎_elim
      (λ (same : j ≡ k). rw same ends)
      (λ other. omega (arith, o.order j k (omega arith) (omega (arith, b.few)), o.forward k (omega (arith, b.few))))
      (eq_or_ne j k))))
      (λ late. rw (le-leb to (start j) (b.above j late l)) (or-true (leb (end j) from)))
      (lt_or_ge j (k + 1))))))
      (lt_or_ge from (end k))

-- an offset is outside the events where the empty piece at it is clear of them
pub outside_clear : (events : List ℕ) (n offset : ℕ) → clear_of_events events n offset offset ≡ outside events n offset
unfolding clear_of_events outside
outside_clear events n offset =
    all_same (λ (j : ℕ). leb (end_at events j) offset || leb offset (start_at events j)) (λ (j : ℕ). leb offset (start_at events j) || leb (end_at events j) offset) n
    (λ j l. or_comm (leb (end_at events j) offset) (leb offset (start_at events j)))

-- the pool's alignments are in order
pub pool_next : (code : ℕ) (constants asked : List ℕ) (j : ℕ) → pool_start code constants asked (j + 1) ≡ pool_offset code constants asked j + size_at constants asked j
unfolding pool_start
pool_next code constants asked j = let e : j + 1 ≡ suc j = omega arith in rw e

pool_rises : (code : ℕ) (constants asked : List ℕ) (i k : ℕ) → pool_offset code constants asked i ≤ pool_start code constants asked (i + 1 + k)
pool_rises code constants asked i zero =
    let e : i + 1 + 0 ≡ i + 1 = omega arith in rw (e, pool_next code constants asked i) (omega arith)
pool_rises code constants asked i (suc k) =
    let e : i + 1 + suc k ≡ i + 1 + k + 1 = omega arith in
    rw (e, pool_next code constants asked (i + 1 + k)) (omega (arith, pool_rises code constants asked i k))

pub pool_ordered : (code : ℕ) (constants asked : List ℕ) (n : ℕ) → Ordered (pool_start code constants asked) (pool_offset code constants asked) n
pool_ordered code constants asked n =
    record {
      forward = λ j l. omega arith;
      order = λ i j l m.
          let e : i + 1 + (j - (i + 1)) ≡ j = omega arith in
          rw e at (pool_rises code constants asked i (j - (i + 1)));
    }

-- where an alignment starts, by the label of the constant before it
pub after_constant_lem : (labels constants asked : List ℕ) (code j : ℕ) → 0 < j → Placed labels constants asked code j
    → word_at labels (label_at constants asked (j - 1)) + size_at constants asked (j - 1) ≡ pool_start code constants asked j
after_constant_lem labels constants asked code j h p =
    let e : j - 1 + 1 ≡ j = omega arith in
    rw (p.stands (j - 1) (omega arith)) (rw e at (sym (pool_next code constants asked (j - 1))))

-- the first starts at the end of the code
pub pool_first : (code : ℕ) (constants asked : List ℕ) → pool_start code constants asked 0 ≡ code
unfolding pool_start
pool_first code constants asked = refl

-- what the searches answer
pub clear_none : (events : List ℕ) (n from to k : ℕ) → k ≡ 0 → Before (start_at events) n to k → true ≡ clear_of_events events n from to
unfolding clear_of_events
clear_none events n from to k e b = sym (none_before (start_at events) (end_at events) n from to (rw e at b))

pub clear_last : (events : List ℕ) (n from to k : ℕ) → 0 < k → Ordered (start_at events) (end_at events) n → Before (start_at events) n to k
    → leb (end_at events (k - 1)) from ≡ clear_of_events events n from to
unfolding clear_of_events
clear_last events n from to k h o b =
    let e : k ≡ k - 1 + 1 = omega arith in last_before (start_at events) (end_at events) n from to (k - 1) o (subst (λ (m : ℕ). Before (start_at events) n to m) e b)

pub pool_clear_none : (code : ℕ) (constants asked : List ℕ) (n from to k : ℕ) → k ≡ 0 → Before (pool_start code constants asked) n to k
    → true ≡ clear_of_pool code constants asked n from to
unfolding clear_of_pool
pool_clear_none code constants asked n from to k e b =
    sym (none_before (pool_start code constants asked) (pool_offset code constants asked) n from to (rw e at b))

pub pool_clear_last : (from : ℕ) {labels constants asked : List ℕ} {code n to k : ℕ} → Placed labels constants asked code n
    → Before (pool_start code constants asked) n to k → 0 < k
    → leb (word_at labels (label_at constants asked (k - 1))) from ≡ clear_of_pool code constants asked n from to
unfolding clear_of_pool
pool_clear_last from {constants = constants} {asked} {code} {n} {to} {k} p b h =
    let e : k ≡ k - 1 + 1 = omega arith in
    rw (p.stands (k - 1) (omega (arith, b.few)))
    (last_before
    (pool_start code constants asked)
    (pool_offset code constants asked)
    n
    from
    to
    (k - 1)
    (pool_ordered code constants asked n)
    (subst (λ (m : ℕ). Before (pool_start code constants asked) n to m) e b))
