-- The three demands and what is claimed of pooled constants, at the C boundary, of `wargnifla_finish`.
use mathlib.Core.Path.{◌≡◌, refl, sym, ap, ◌∙◌, subst}
use mathlib.Core.Logic.{◌≢◌, ⊎_elim}
use mathlib.Core.Bool.{Bool, true, false}
use mathlib.Core.List.{List}
use Prim.Native.Nat.{ℕ, ◌≤◌, ◌<◌}
use native.Mathlib.Omega.{arith}
use lib.Dec.{ltb}
use lib.ListN.{length, take}
use borrow.Author.Tests.{ltb-true, ltb-false}
use Rattle.seqs.specs.Pick.{pick}
use Rattle.words.specs.Words.{word_at, over_words}
use Rattle.words.proofs.Entries.{word_read}
use Rattle.relax.specs.declared.Segment.{Segment}
use Rattle.buffer.specs.declared.CodeBuffer.{CodeBuffer}
use Rattle.recording.specs.View.{entries, view}
use Rattle.fresh.specs.Forms.{moves}
use Rattle.fresh.specs.Demand.{Demand3}
use Rattle.fresh.proofs.Rounds.{rounds_bound}
use Rattle.fresh.proofs.Tests.{split}
use Rattle.layout.proofs.Settled.{jumps_le}
use Rattle.finish.specs.declared.CodeBufferFinalized.{CodeBufferFinalized}
use Rattle.finish.specs.Finish as finishing
use Rattle.wargnifla.specs.Boundary.{record_size, Lent, counts_of, record_of, recording_in, too_short, finish}
use Rattle.wargnifla.proofs.Counts.{counts_stay}
use Rattle.demands.specs.Demand1.{LentUnchanged}
use Rattle.demands.specs.Demand2.{Bytes, Demand2}
use Rattle.demands.specs.Demand2 as claim
use Rattle.demands.specs.Constants.{Constants}
use Rattle.demands.specs.Boundary.{Answer, finished_code, labels_of, word_of, pooled_in, LabelsBound, Demands}
use Rattle.demands.proofs.Answers.{finish_answered}
use Rattle.demands.proofs.Demand1.{refused_finish_changes_nothing}
use Rattle.demands.proofs.Demand2.{demand2}
use Rattle.demands.proofs.Demand3.{demand3_holds}
use Rattle.demands.proofs.Constants.{constants_hold}
use Rattle.demands.proofs.Offsets.{offsets_kept}
use Rattle.demands.proofs.Binding.{use_bound, ref_bound, jump_bound_lem}

-- whichever of three answers two tests pick
one_of : (Q : Answer → Type 0) (s t : Bool) (x y z : Answer) → (s ≡ true → Q x) → Q y → (z.0 ≢ 0 → Q z) → (pick s x (pick t y z)).0 ≢ 0
    → Q (pick s x (pick t y z))
unfolding pick
one_of Q true t x y z a b c ne = a refl
one_of Q false true x y z a b c ne = b
one_of Q false false x y z a b c ne = c ne

-- an answer of 0 is the third's where the others are numbers
third : (s t : Bool) (x y z : Answer) → x.0 ≢ 0 → y.0 ≢ 0 → (pick s x (pick t y z)).0 ≡ 0 → (s ≡ false) × (pick s x (pick t y z) ≡ z)
unfolding pick
third true t x y z a b e = absurd (a e)
third false true x y z a b e = absurd (b e)
third false false x y z a b e = (refl, refl)

-- Lent counts are bytes. Whatever they and the tables hold, a finish that answers a number leaves all of it, and the output, as it was.
pub refused_c_finish_changes_nothing : (l : Lent) (ss : List Segment) (output finalized : List ℕ) → Bytes l.counts
    → (finish l ss output finalized).0 ≢ 0 → LentUnchanged l output finalized (finish l ss output finalized)
unfolding finish
refused_c_finish_changes_nothing l ss output finalized small ne =
    one_of (LentUnchanged l output finalized) _ _ _ _ _
    (λ short.
    record {
      counts = refl;
      labels = refl;
      relocs = refl;
      written = refl;
      given = λ room. absurd (omega (arith, ltb-true (length finalized) record_size short));
    })
    (record { counts = refl; labels = refl; relocs = refl; written = refl; given = λ room. refl })
    (λ refused.
    let u = refused_finish_changes_nothing (recording_in l) ss output refused in
    record {
      counts = ap (λ (b : CodeBuffer). over_words l.counts (counts_of b)) u.counts ∙ counts_stay l.counts small;
      labels = u.labels;
      relocs = u.relocs;
      written = u.written;
      given = λ room. ap (λ (f : CodeBufferFinalized). over_words finalized (record_of f)) u.given;
    })
    ne

-- what is left where the answer is 0: finish was called, and the record has room for what it reports
pub record Called (l : Lent) (ss : List Segment) (output finalized : List ℕ) : Type 0 where
  pub room : record_size ≤ length finalized
  pub zero : (finishing.finish (recording_in l) ss output).0.refusal ≡ 0
  pub is : finish l ss output finalized ≡ (
    (finishing.finish (recording_in l) ss output).0.refusal,
    (
      over_words l.counts (counts_of (finishing.finish (recording_in l) ss output).0.buffer),
      ((finishing.finish (recording_in l) ss output).1, over_words finalized (record_of (finishing.finish (recording_in l) ss output).0.code)),
    ),
  )

pub c_finish_calls : (l : Lent) (ss : List Segment) (output finalized : List ℕ) → (finish l ss output finalized).0 ≡ 0 → Called l ss output finalized
unfolding finish
c_finish_calls l ss output finalized e =
    let both = third (ltb (length finalized) record_size) (too_short l.counts) _ _ _ (λ z. omega arith) (λ z. omega arith) e in
    record {
      room = ltb-false (length finalized) record_size both.0;
      zero = sym (ap (λ (a : Answer). a.0) both.1) ∙ e;
      is = both.1;
    }

module _ (l : Lent) (ss : List Segment) (output finalized : List ℕ) (called : Called l ss output finalized) where
  -- the length that finish reports is a word, and so are the layouts of a jump
  len_small : (finishing.finish (recording_in l) ss output).0.code.len < 4294967296
  len_small =
      let a = finish_answered (recording_in l) ss output called.zero in
      split (moves (pooled_in l).events)
      (λ jump. let done = a.jumped jump in omega (arith, done.reported, done.fits, a.fit.room))
      (λ none. let done = a.straight none in omega (arith, done.reported, a.fit.small))

  layouts_small : moves (pooled_in l).events ≡ true → (finishing.finish (recording_in l) ss output).0.code.layouts < 4294967296
  layouts_small jump =
      let a = finish_answered (recording_in l) ss output called.zero in
      let done = a.jumped jump in
      omega (arith, done.rounds, rounds_bound (pooled_in l), jumps_le (pooled_in l).events, done.room, a.fit.segments)

  -- the record's words
  len_read : word_of (finish l ss output finalized) 1 ≡ (finishing.finish (recording_in l) ss output).0.code.len
  len_read =
      ap (λ (a : Answer). word_of a 1) called.is
      ∙ word_read finalized (record_of (finishing.finish (recording_in l) ss output).0.code) 1 (omega arith) called.room len_small

  layouts_read : moves (pooled_in l).events ≡ true → word_of (finish l ss output finalized) 3 ≡ (finishing.finish (recording_in l) ss output).0.code.layouts
  layouts_read jump =
      ap (λ (a : Answer). word_of a 3) called.is
      ∙ word_read finalized (record_of (finishing.finish (recording_in l) ss output).0.code) 3 (omega arith) called.room (layouts_small jump)

  alignment_read : word_of (finish l ss output finalized) 2 ≡ (finishing.finish (recording_in l) ss output).0.code.alignment
  alignment_read =
      ap (λ (a : Answer). word_of a 2) called.is
      ∙ word_read finalized (record_of (finishing.finish (recording_in l) ss output).0.code) 2 (omega arith) called.room
      (⊎_elim (λ (e : _ ≡ 32). omega arith) (λ (e : _ ≡ 64). omega arith) (constants_hold (recording_in l) ss output called.zero).known)

  pub code_read : finished_code (finish l ss output finalized) ≡ claim.finished_code (recording_in l) ss output
  code_read =
      ap (λ (n : ℕ). take n (finish l ss output finalized).1.1.0.1.1.1) len_read
      ∙ ap (λ (a : Answer). take (finishing.finish (recording_in l) ss output).0.code.len a.1.1.0.1.1.1) called.is

-- A caller of `wargnifla_finish` has what the user demands: of every recording, made by calls or by hand, with any bytes in its counts and its code.
pub c_finish_meets_the_demands : (l : Lent) (ss : List Segment) (output finalized : List ℕ) → Bytes l.counts → Bytes l.code
    → Demands l output finalized (finish l ss output finalized)
c_finish_meets_the_demands l ss output finalized counts code =
    let r = recording_in l in
    let answer = finish l ss output finalized in
    record {
      one = refused_c_finish_changes_nothing l ss output finalized counts;
      two = λ zero.
          let called = c_finish_calls l ss output finalized zero in
          subst (Demand2 r) (sym (code_read l ss output finalized called)) (demand2 r ss output code called.zero);
      three = λ zero jump.
          let called = c_finish_calls l ss output finalized zero in
          let f = finishing.finish r ss output in
          let made = claim.finished_code r ss output in
          let labels : List ℕ → List ℕ = λ t. entries (word_at t) r.buffer.labels in
          subst (Demand3 (pooled_in l) (finished_code answer) (labels (labels_of answer)) (word_of answer 1)) (sym (layouts_read l ss output finalized called jump))
          (subst (λ (n : ℕ). Demand3 (pooled_in l) (finished_code answer) (labels (labels_of answer)) n f.0.code.layouts) (sym (len_read l ss output finalized called))
          (subst (λ (c : List ℕ). Demand3 (pooled_in l) c (labels (labels_of answer)) f.0.code.len f.0.code.layouts) (sym (code_read l ss output finalized called))
          (subst (λ (t : List ℕ). Demand3 (pooled_in l) made (labels t) f.0.code.len f.0.code.layouts) (sym (ap labels_of called.is))
          (demand3_holds r ss output called.zero jump))));
      unmoved = λ zero none.
          let called = c_finish_calls l ss output finalized zero in
          ap (λ (b : Answer). entries (word_at (labels_of b)) r.buffer.labels) called.is ∙ offsets_kept r ss output called.zero none;
      bound = λ zero.
          let called = c_finish_calls l ss output finalized zero in
          subst (LabelsBound l) (sym called.is)
          (record {
            uses = use_bound r ss output called.zero;
            refs = ref_bound r ss output called.zero;
            jumps = jump_bound_lem r ss output called.zero;
          });
      constants = λ zero.
          let called = c_finish_calls l ss output finalized zero in
          let f = finishing.finish r ss output in
          let made = claim.finished_code r ss output in
          let labels : List ℕ → List ℕ = λ t. entries (word_at t) r.buffer.labels in
          subst (Constants (view r) (finished_code answer) (labels (labels_of answer))) (sym (alignment_read l ss output finalized called))
          (subst (λ (c : List ℕ). Constants (view r) c (labels (labels_of answer)) f.0.code.alignment) (sym (code_read l ss output finalized called))
          (subst (λ (t : List ℕ). Constants (view r) made (labels t) f.0.code.alignment) (sym (ap labels_of called.is))
          (constants_hold r ss output called.zero)));
    }
