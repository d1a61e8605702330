-- Demand 3: what a finish with a jump that answers 0 leaves meets it.
use mathlib.Core.Path.{◌≡◌, sym, ap, ◌∙◌, subst}
use mathlib.Core.Bool.{true}
use mathlib.Core.List.{List, map}
use Prim.Native.Nat.{ℕ}
use lib.ListN.{length}
use Rattle.words.specs.Words.{word_at}
use Rattle.relax.specs.declared.Segment.{Segment}
use Rattle.recording.specs.Calls.{Recording}
use Rattle.recording.specs.View.{entries, view}
use Rattle.fresh.specs.Pooled.{pooled}
use Rattle.fresh.specs.Rounds.{settled}
use Rattle.fresh.specs.Segments.{map_offset, segments_of}
use Rattle.fresh.specs.Demand.{Demand3}
use Rattle.fresh.proofs.Fill.{built_assembled, labels_same}
use Rattle.fresh.proofs.Demand.{demand3}
use Rattle.fresh.specs.Forms.{moves}
use Rattle.finish.specs.Finish.{finish}
use Rattle.demands.specs.Demand2.{finished_code}
use Rattle.demands.proofs.Answers.{finish_answered}
use Rattle.demands.proofs.Discharged.{keeps, fitting}
use Rattle.demands.proofs.Offsets.{offsets_moved}

-- With a jump: the finished bytes, the label table as it is left, and the length and the layouts reported.
pub demand3_holds : (r : Recording) (ss : List Segment) (output : List ℕ) → (finish r ss output).0.refusal ≡ 0
    → moves (pooled r.buffer.arch (view r)).events ≡ true
    → Demand3 (pooled r.buffer.arch (view r)) (finished_code r ss output) (entries (word_at (finish r ss output).1.0) r.buffer.labels)
    (finish r ss output).0.code.len (finish r ss output).0.code.layouts
demand3_holds r ss output e jump =
    let b = r.buffer in
    let p = pooled b.arch (view r) in
    let c = (settled p).choice in
    let a = finish_answered r ss output e in
    let sound = a.fit.sound in
    let few = a.fit.few in
    let done = a.jumped jump in
    let fits = fitting r sound few (keeps r sound few jump) a.fit a.bound done in
    let code = finished_code r ss output in
    let labels = entries (word_at (finish r ss output).1.0) b.labels in
    subst (Demand3 p code labels (finish r ss output).0.code.len) (sym done.rounds)
    (subst (λ (n : ℕ). Demand3 p code labels n (settled p).rounds) (ap length done.is ∙ sym done.reported)
    (subst (λ (l : List ℕ). Demand3 p code l (length code) (settled p).rounds) (labels_same p c fits.formed ∙ sym (offsets_moved r ss output e jump))
    (subst (λ (l : List ℕ). Demand3 p l (map (map_offset (segments_of p c)) p.labels) (length l) (settled p).rounds) (built_assembled p c fits.formed ∙ sym done.is)
    (demand3 p fits.formed fits.bound))))
