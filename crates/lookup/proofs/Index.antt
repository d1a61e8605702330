-- A coarse index: what filling it keeps, and what it says of an offset.
use mathlib.Core.Path.{◌≡◌}
use mathlib.Core.Logic.{⊎_elim}
use mathlib.Core.List.{List}
use Prim.Native.Nat.{ℕ, ◌+◌, ◌/◌, ◌^◌, ◌≤◌, ◌<◌}
use native.Mathlib.Omega.{arith}
use lib.ListN.{length, get_or}
use lib.Pow.{shr_mono, shr_lt}
use Rattle.seqs.proofs.Numbers.{lt_or_ge, eq_or_ne}
use Rattle.lookup.specs.steps.Index.{parts, index_size, part, Rises, Before, Indexed, Filled, Marked, Narrowed, Around}

-- What lies further on lies in no earlier part.
part_rises : (size shift : ℕ) {x y : ℕ} → x ≤ y → part size shift x ≤ part size shift y
unfolding part
part_rises size shift {x} {y} h = omega (arith, shr_mono shift h)

part_small : (size shift x : ℕ) → part size shift x ≤ parts size
unfolding part
part_small size shift x = omega arith

part_tells : (size shift : ℕ) {x y : ℕ} → part size shift x < part size shift y → x < y
part_tells size shift {x} {y} h = ⊎_elim (λ l. l) (λ (back : y ≤ x). absurd (omega (arith, part_rises size shift back))) (lt_or_ge x y)

-- An index that nothing is marked in.
pub filled_none : (index : List ℕ) (key : ℕ → ℕ) (n shift : ℕ) → shift < 32 → index_size ≤ length index → Filled index key n shift 0 0
filled_none index key n shift b e = record {
  few_bits = b;
  size = e;
  most = omega arith;
  counts = λ p l. absurd (omega arith);
  passed = λ j l. absurd (omega arith);
}

module _ {key : ℕ → ℕ} {n shift : ℕ} {index after : List ℕ} {i next to r : ℕ} where
  -- The entries that are written as offset i is marked count the i offsets before it: these lie in parts before `next`, and those from i on in none before `to`.
  marked_counts : Filled index key n shift i next → Marked index after next to i r → i ≤ n
      → ((j : ℕ) → i ≤ j → j < n → to ≤ part (length index) shift (key j) + 1) → (p : ℕ) → p < r → Before key n (length index) shift p (get_or after p 0)
  marked_counts f m few late p l =
      ⊎_elim
      (λ (old : p < next). rw (m.kept p old) (f.counts p old))
      (λ (new : next ≤ p).
      rw (m.marks p new l)
      (record {
        few = few;
        below = λ j h. omega (arith, f.passed j h);
        above = λ j h k. omega (arith, late j h k, m.reached);
      }))
      (lt_or_ge p next)

-- One offset more is marked.
pub filled_one : {index after : List ℕ} {key : ℕ → ℕ} {n shift i next r : ℕ} → Rises key n → Filled index key n shift i next → i < n
    → Marked index after next (part (length index) shift (key i) + 1) i r → Filled after key n shift (i + 1) r
filled_one {index} {after} {key} {n} {shift} {i} {next} {r} o f l m =
    record {
      few_bits = f.few_bits;
      size = omega (arith, m.size, f.size);
      most = omega (arith, part_small (length index) shift (key i), m.reached, m.size, f.most, f.size);
      counts = rw m.size (marked_counts f m (omega arith) (λ j h k. omega (arith, part_rises (length index) shift (o.rises i j h k))));
      passed = rw m.size (λ j h. omega (arith, part_rises (length index) shift (o.rises j i (omega arith) l), m.reached));
    }

-- After the last offset the rest of the entries count them all.
pub filled_all : {index after : List ℕ} {key : ℕ → ℕ} {n shift next r : ℕ} → Filled index key n shift n next → Marked index after next (length index) n r
    → Indexed after key n shift
filled_all f m =
    record {
      few_bits = f.few_bits;
      counts = rw m.size (λ s p l. marked_counts f m (omega arith) (λ j h k. absurd (omega arith)) p (omega (arith, m.reached)));
    }

-- Without an index.
pub indexed_none : (index : List ℕ) (key : ℕ → ℕ) (n shift : ℕ) → shift < 32 → length index < index_size → Indexed index key n shift
indexed_none index key n shift b l = record { few_bits = b; counts = λ s. absurd (omega arith) }

-- An index serves all tables that have these offsets.
pub indexed_same : {index : List ℕ} {key other : ℕ → ℕ} {n shift : ℕ} → Indexed index key n shift → ((j : ℕ) → j < n → key j ≡ other j) → Indexed index other n shift
indexed_same {shift = shift} x same =
    record {
      few_bits = x.few_bits;
      counts = λ s p l.
          let before = x.counts s p l in
          record {
            few = before.few;
            below = λ j h. rw (← same j (omega (arith, before.few))) (before.below j h);
            above = λ j h k. rw (← same j k) (before.above j h k);
          };
    }

module _ {index : List ℕ} {key : ℕ → ℕ} {n shift : ℕ} (offset : ℕ) {low high : ℕ} (x : Indexed index key n shift) (w : Narrowed index n (part (length index) shift offset) low high) where
  around_all : length index < index_size → Around key n offset low high
  around_all s =
      let ends = w.all s in
      record {
        order = omega (arith, ends);
        within = omega (arith, ends);
        under = λ j l. absurd (omega (arith, ends));
        above = λ j h k. absurd (omega (arith, ends));
      }

  around_part : index_size ≤ length index → Around key n offset low high
  around_part s =
      let size = length index in
      let here = part size shift offset in
      let small = part_small size shift offset in
      let first : Before key n size shift here low = rw (w.first s) (x.counts s here (omega arith)) in
      let last : Before key n size shift (here + 1) high = rw (w.last s) (x.counts s (here + 1) (omega arith)) in
      record {
        order =
            ⊎_elim
            (λ (back : high < low). absurd (omega (arith, first.below high back, last.above high (omega arith) (omega (arith, first.few)))))
            (λ l. l)
            (lt_or_ge high low);
        within = last.few;
        under = λ j l. part_tells size shift (first.below j l);
        above = λ j h k. part_tells size shift (omega (arith, last.above j h k));
      }

  -- What `narrow` finds: a search for the offset has to look between these alone.
  pub narrowed_around : Around key n offset low high
  narrowed_around = ⊎_elim around_all around_part (lt_or_ge (length index) index_size)

-- Shifted by 22 bits every offset lies in the parts that are told apart.
pub shift_grows : (end shift told : ℕ) → end < 2 ^ 32 → shift ≤ 22 → 1024 ≤ told → told ≤ end / 2 ^ shift → shift < 22
shift_grows end shift told l h some far =
    ⊎_elim
    (λ (most : shift ≡ 22). let near : end / 2 ^ 22 < 2 ^ 10 = shr_lt 10 22 l in absurd (omega (arith, rw most at far)))
    (λ other. omega arith)
    (eq_or_ne shift 22)
