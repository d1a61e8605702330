-- What is claimed of joins, at `wargnifla_join`; and finish, then join.
use mathlib.Core.Path.{◌≡◌, refl, sym, ap, ◌∙◌, subst}
use mathlib.Core.Logic.{◌≢◌, ⊎_elim}
use mathlib.Core.Bool.{Bool, true, false}
use mathlib.Core.List.{List, map}
use Prim.Native.Nat.{ℕ, ◌+◌, ◌-◌, ◌%◌, ◌≤◌, ◌<◌}
use native.Mathlib.Omega.{arith}
use lib.Dec.{ltb}
use lib.ListN.{length, get_or, drop, get_or-eq_default, get_or-map}
use lib.Seq.{get_or-take, get_or-drop, ext_get_or}
use Rattle.seqs.specs.Pick.{pick}
use Rattle.seqs.proofs.Numbers.{lt_or_ge}
use Rattle.seqs.proofs.Every.{all_at}
use Rattle.seqs.proofs.Picking.{no_eq}
use Rattle.words.specs.Words.{word_at}
use Rattle.fields.specs.declared.LabelUse.{LabelUse}
use Rattle.fields.specs.Kinds.{arch_a64, patch_size}
use Rattle.fields.specs.Meaning.{load_multiple}
use Rattle.fields.specs.Words64.{plus, sign_extend}
use Rattle.relax.specs.declared.Segment.{Segment}
use Rattle.buffer.specs.State.{none}
use Rattle.recording.specs.View.{entries}
use Rattle.recording.proofs.Views.{length_entries, get_d_entries}
use Rattle.fresh.specs.Pooled.{Pooled}
use Rattle.fresh.specs.Forms.{moves}
use Rattle.fresh.specs.Fresh.{Choice, moved, target}
use Rattle.fresh.specs.Fill.{part}
use Rattle.fresh.proofs.Rounds.{rounds_unique, rounds_settle}
use Rattle.join.specs.Pieces as joining
use Rattle.join.specs.Join as joins
use Rattle.join.specs.Whole.{piece, before, base, Whole}
use Rattle.join.proofs.Accepted.{passed}
use Rattle.join.proofs.Meaning.{loads_on_multiple}
use Rattle.join.proofs.Leaving.{whole_holds}
use Rattle.wargnifla.specs.Boundary.{record_size, Lent, recording_in, finish, join}
use Rattle.demands.specs.Demand2.{Bytes, use_of, ref_of, new_start, new_end}
use Rattle.demands.specs.Boundary.{Answer, finished_code, labels_of, offsets_of, pooled_in, Demands}
use Rattle.demands.specs.Joining.{Handed, label_in, Stays, long_in, JoinedMeans}
use Rattle.demands.proofs.Kept.{length_part}
use Rattle.demands.proofs.Offsets.{moved_none}
use Rattle.demands.proofs.Boundary.{c_finish_meets_the_demands}

-- an answer of 0 is the second's where the first is a number
second : {B : Type 0} (t : Bool) (x y : ℕ × B) → x.0 ≢ 0 → (pick t x y).0 ≡ 0 → pick t x y ≡ y
unfolding pick
second true x y some e = absurd (some e)
second false x y some e = refl

abbrev Out : Type 0
Out = ℕ × (joins.Left × List ℕ)

module _ (l : joining.Lent) (output labels relocs finalized : List ℕ) (zero : (join l output labels relocs finalized).0 ≡ 0) where
  called : (join l output labels relocs finalized).1.0 ≡ (joins.join l output labels relocs).1
  unfolding join
  called = ap (λ (a : Out). a.1.0) (second (ltb (length finalized) record_size) _ _ (λ z. omega arith) zero)

  answered : (joins.join l output labels relocs).0.refusal ≡ 0
  unfolding join
  answered = sym (ap (λ (a : Out). a.0) (second (ltb (length finalized) record_size) _ _ (λ z. omega arith) zero)) ∙ zero

  -- A caller of `wargnifla_join` that is answered 0 has the whole.
  pub c_join_holds : Whole l (join l output labels relocs finalized).1.0.0 (join l output labels relocs finalized).1.0.1.0
      (join l output labels relocs finalized).1.0.1.1
  c_join_holds = subst (λ (x : joins.Left). Whole l x.0 x.1.0 x.1.1) (sym called) (whole_holds l output labels relocs answered)

  -- On AArch64 every piece lies on a page of a whole that is loaded on one.
  pub c_join_pages : (k : ℕ) → k < joining.piece_count l.pieces → (piece l k).arch ≡ arch_a64 → (load : ℕ) → load % 4096 ≡ 0 → (kind : LabelUse)
      → (load + base l k) % load_multiple kind ≡ 0
  unfolding joining.pieces_fit
  c_join_pages k known arch load page kind =
      loads_on_multiple (piece l k) (before l k)
      (all_at (λ (i : ℕ). joining.piece_fits (joining.piece_at l.pieces i)) (joining.piece_count l.pieces) k (passed l output labels relocs answered).0.pieces known)
      arch load page kind

-- offset and base together
shift : (load from x : ℕ) → plus (load + from) x ≡ plus load (from + x)
shift load from x = let e : load + from + x ≡ load + (from + x) = omega arith in rw e refl

shift_sum : (load from x y : ℕ) → plus (load + from) (plus x y) ≡ plus load (plus (from + x) y)
shift_sum load from x y = omega arith

module _ (l : joining.Lent) (code labels relocs : List ℕ) (whole : Whole l code labels relocs) (k : ℕ) (f : Lent) (output finalized : List ℕ) (a : Answer)
    (d : Demands f output finalized a) (h : Handed l k f a) where
  abbrev p : Pooled
  p = pooled_in f

  abbrev c : Choice
  c = long_in f

  -- a part of the piece that no filled field covers
  part_in_whole : (x n : ℕ) → x + n ≤ (piece l k).len → Stays l k x n → part code (base l k + x) n ≡ part (finished_code a) x n
  part_in_whole x n fits s =
      let room = whole.within k h.known in
      let here = length_part code (base l k + x) n (omega (arith, room, fits)) in
      let there = length_part (finished_code a) x n (omega (arith, fits, h.len)) in
      ext_get_or 0 (part code (base l k + x) n) (part (finished_code a) x n) (here ∙ sym there)
      (λ i lt.
      let small : i < n = omega (arith, lt, here) in
      let inside : x + i < (piece l k).len = omega (arith, fits, small) in
      let at : base l k + x + i ≡ base l k + (x + i) = omega arith in
      get_or-take n (drop (base l k + x) code) i 0 small
      ∙ get_or-drop (base l k + x) code i 0
      ∙ ap (λ (y : ℕ). get_or code y 0) at
      ∙ whole.bytes k h.known (x + i) inside (s (x + i) (omega arith) (omega arith))
      ∙ h.code (x + i) inside
      ∙ sym (get_or-take n (drop x (finished_code a)) i 0 small ∙ get_or-drop x (finished_code a) i 0))

  -- a bound label
  label_in_whole : (i : ℕ) → get_or (offsets_of f a) i none ≢ none → label_in l labels k i ≡ base l k + get_or (offsets_of f a) i none
  label_in_whole i bound =
      let count = (recording_in f).buffer.labels in
      let known : i < count =
      ⊎_elim
      (λ (lt : i < count). lt)
      (λ (ge : count ≤ i).
      let past : length (entries (word_at (labels_of a)) count) ≤ i = omega (arith, length_entries (word_at (labels_of a)) count) in
      absurd (bound (get_or-eq_default (entries (word_at (labels_of a)) count) none past)))
      (lt_or_ge i count) in
      let listed : i < (piece l k).labels = omega (arith, h.labels) in
      let read : get_or (offsets_of f a) i none ≡ word_at (labels_of a) i = get_d_entries (word_at (labels_of a)) count i none known in
      let word : word_at l.labels ((before l k).labels + i) ≡ get_or (offsets_of f a) i none = h.offsets i listed ∙ sym read in
      whole.moved k h.known i listed
      ∙ ap (joins.moved_label (base l k)) word
      ∙ no_eq (get_or (offsets_of f a) i none) none none (base l k + get_or (offsets_of f a) i none) bound

  -- with a jump, an offset handed out is where the label has moved
  target_left : moves p.events ≡ true → (i : ℕ) → get_or (offsets_of f a) i none ≡ target p c i
  target_left jump i =
      let three = d.three h.taken jump in
      let same : three.choice ≡ c = (rounds_unique three.rounds (rounds_settle p)).0 in
      ap (λ (t : List ℕ). get_or t i none) (three.offsets ∙ ap (λ (x : Choice). map (moved p x) p.labels) same)
      ∙ (ap (λ (n : ℕ). get_or (map (moved p c) p.labels) i n) (sym (moved_none p c)) ∙ get_or-map (moved p c) p.labels i none)

  pub finish_then_join : JoinedMeans l code labels k f a
  finish_then_join =
      record {
        uses = λ none·moves i kind known is later constants clear held stays load on.
            let offset = (use_of p i).offset in
            let label = (use_of p i).label in
            let left : get_or (offsets_of f a) label none ≡ get_or p.labels label none = ap (λ (t : List ℕ). get_or t label none) (d.unmoved h.taken none·moves) in
            let means = ((d.two h.taken).straight none·moves).0.uses i kind known is later constants clear held (load + base l k) on in
            let fits : offset + patch_size kind ≤ (piece l k).len = omega (arith, h.len, ((d.two h.taken).straight none·moves).0.inside i kind known is) in
            let bound = (d.bound h.taken).uses i known in
            rw (part_in_whole offset _ fits stays, label_in_whole label bound, left, ← shift load (base l k) offset, ← shift load (base l k) (get_or p.labels label none)) means;
        refs = λ jump i kind known is later constants stays load on.
            let offset = moved p c (ref_of p i).offset in
            let label = (ref_of p i).label in
            let means = ((d.two h.taken).jumped jump).refs i kind known is later constants (load + base l k) on in
            let fits : offset + patch_size kind ≤ (piece l k).len = omega (arith, h.len, ((d.two h.taken).jumped jump).inside i kind known is) in
            let bound = (d.bound h.taken).refs i known in
            rw (
              part_in_whole offset _ fits stays,
              label_in_whole label bound,
              target_left jump label,
              ← shift load (base l k) offset,
              ← shift_sum load (base l k) (target p c label) (sign_extend 32 (ref_of p i).addend),
            ) means;
        jumps = λ jump i v known is stays load.
            let start = new_start p c i in
            let reads = ((d.two h.taken).jumped jump).jumps i v known is (load + base l k) in
            let fits : start + (new_end p c i - start) ≤ (piece l k).len = omega (arith, h.len, ((d.two h.taken).jumped jump).within i known) in
            let bound = (d.bound h.taken).jumps i v known is in
            rw (
              part_in_whole start _ fits stays,
              label_in_whole v.label bound,
              target_left jump v.label,
              ← shift load (base l k) start,
              ← shift load (base l k) (target p c v.label),
            ) reads;
        padding = λ jump i v known is stays.
            let start = new_start p c i in
            let fits : start + (new_end p c i - start) ≤ (piece l k).len = omega (arith, h.len, ((d.two h.taken).jumped jump).within i known) in
            rw (part_in_whole start _ fits stays) (((d.two h.taken).jumped jump).padding i v known is);
        copied = λ none·moves x n fits stays uses constants. part_in_whole x n fits stays ∙ ((d.two h.taken).straight none·moves).0.copied x n uses constants;
      }

-- A caller of `wargnifla_finish` and then of `wargnifla_join`: what demand 2 says of each piece holds in the whole.
pub c_finish_then_join : (f : Lent) (ss : List Segment) (finished finalized : List ℕ) → Bytes f.counts → Bytes f.code
    → (l : joining.Lent) (output labels relocs record·of : List ℕ) → (join l output labels relocs record·of).0 ≡ 0
    → (k : ℕ) → Handed l k f (finish f ss finished finalized)
    → JoinedMeans l (join l output labels relocs record·of).1.0.0 (join l output labels relocs record·of).1.0.1.0 k f (finish f ss finished finalized)
c_finish_then_join f ss finished finalized counts code l output labels relocs record·of zero k handed =
    finish_then_join l _ _ (join l output labels relocs record·of).1.0.1.1 (c_join_holds l output labels relocs record·of zero) k f finished finalized (finish f ss finished finalized)
    (c_finish_meets_the_demands f ss finished finalized counts code) handed
