-- What finish answers and leaves in everything that it is lent, for every input: document 01, "finish"; document 02, Request One, "The finished record
-- gives ..".
use Rattle.std.specs.Prelude.{List, map, ℕ, zero, suc, ◌*◌, eqb, length, Result, Ok, Err}
use Rattle.refusals.specs.Numbers as refusals
use Rattle.refusals.specs.declared.Refusal.{Refusal}
use Rattle.refusals.specs.Answers.{number_of}
use Rattle.seqs.specs.Over.{over}
use Rattle.seqs.specs.Pick.{pick}
use Rattle.words.specs.Words.{word_at, set_word, over_words}
use Rattle.relax.specs.declared.Segment.{Segment}
use Rattle.buffer.specs.declared.CodeBuffer.{CodeBuffer}
use Rattle.buffer.specs.Tables.{reloc_words}
use Rattle.recording.specs.Calls.{Recording}
use Rattle.recording.specs.View.{view}
use Rattle.layout.specs.declared.Summary.{Summary}
use Rattle.fresh.specs.Pooled.{Pooled, pooled, code_alignment}
use Rattle.fresh.specs.Fresh.{moved}
use Rattle.fresh.specs.Rounds.{settled}
use Rattle.fresh.specs.Fill.{assembled, in_place}
use Rattle.fresh.specs.Segments.{map_offset, segments_of}
use Rattle.fresh.specs.Forms.{moves}
use Rattle.finish.specs.declared.CodeBufferFinalized.{CodeBufferFinalized}
use Rattle.finish.specs.declared.Finished as program
use Rattle.finish.specs.Refusals.{all_bound, why_not_laid, why_not_written, why_not_in_place, why_unfit}

-- the recording after a finish, 0 or the refusal's number, and the record; it has zeros where finish refuses
pub record Finished : Type 0 where
  pub buffer : CodeBuffer
  pub refusal : ℕ
  pub code : CodeBufferFinalized

-- what becomes of a pooled recording: 0 or the refusal's number, bytes of finished code, rounds
pub record Outcome : Type 0 where
  pub refusal : ℕ
  pub len : ℕ
  pub layouts : ℕ

-- the table of relocations, whose entries are six words, with each of the first n offsets mapped
unfoldable pub relocated : (ℕ → ℕ) → List ℕ → ℕ → List ℕ
relocated at relocs zero = relocs
relocated at relocs (suc i) = set_word (relocated at relocs i) (i * reloc_words) (at (word_at relocs (i * reloc_words)))

-- the table of segments with the settled ones
abbrev pub settled_segments : Pooled → List Segment → List Segment
settled_segments p ss = over ss 0 (segments_of p (settled p).choice)

-- what a stage answers, and the labels, relocations, segments and output that it leaves
abbrev pub Left : Type 0
Left = List ℕ × (List ℕ × (List Segment × List ℕ))

abbrev pub refused_with : ℕ → Outcome
refused_with why = record { refusal = why; len = 0; layouts = 0 }

-- what the program answers, in these words
abbrev pub outcome_of : Result Summary Refusal → Outcome
outcome_of (Ok laid) = record { refusal = 0; len = laid.len; layouts = laid.layouts }
outcome_of (Err why) = refused_with (number_of why)

-- With a jump: "Then labels, relocations and pool offsets are mapped, refs patched in order, then jumps". 18 and 23 leave the settled segments, 16 and 17
-- leave the table untouched.
unfoldable pub relaxed : Pooled → ℕ → List ℕ → List ℕ → List Segment → List ℕ → Outcome × Left
relaxed p count labels relocs ss output =
    let c = (settled p).choice in
    let early = why_not_laid p (length ss) in
    let late = why_not_written p (length output) in
    pick (eqb early 0)
    (pick (eqb late 0) (
      record { refusal = 0; len = length (assembled p c); layouts = (settled p).rounds },
      (
        over_words labels (map (moved p c) p.labels),
        (relocated (map_offset (segments_of p c)) relocs count, (settled_segments p ss, over output 0 (assembled p c))),
      ),
    )
    (refused_with late, (labels, (relocs, (settled_segments p ss, output)))))
    (refused_with early, (labels, (relocs, (ss, output))))

-- Without a jump: "uses are patched in order, refs are not .., nothing moves, and layouts are 0".
unfoldable pub unrelaxed : Pooled → List ℕ → List ℕ → List Segment → List ℕ → Outcome × Left
unrelaxed p labels relocs ss output =
    let why = why_not_in_place p (length output) in
    pick (eqb why 0)
    (record { refusal = 0; len = length p.code; layouts = 0 }, (labels, (relocs, (ss, over output 0 (in_place p)))))
    (refused_with why, (labels, (relocs, (ss, output))))

-- finished, and nothing is open: every label that an entry names is bound
abbrev pub with_finished : CodeBuffer → CodeBuffer
with_finished b = record { arch = b.arch; symbols = b.symbols; finished = 1; refusal = b.refusal; code = b.code; labels = b.labels; events = b.events; uses = b.uses; refs = b.refs; constants = b.constants; asked = b.asked; relocs = b.relocs; unresolved = 0 }

-- "With the record, finish reports how many layouts it made."
abbrev pub finished_with : CodeBuffer → ℕ → Outcome → Finished
finished_with b alignment placed =
    record {
      buffer = with_finished b;
      refusal = 0;
      code = record {
        arch = b.arch;
        len = placed.len;
        alignment = alignment;
        layouts = placed.layouts;
        labels = b.labels;
        relocs = b.relocs;
      };
    }

-- "A refused finish records nothing", and gives a record of zeros.
abbrev pub unfinished : CodeBuffer → ℕ → Finished
unfinished b why =
    record { buffer = b; refusal = why; code = record { arch = 0; len = 0; alignment = 0; layouts = 0; labels = 0; relocs = 0 } }

-- what the program answers, in these words
abbrev pub finished_by : CodeBuffer → Result CodeBufferFinalized Refusal → Finished
finished_by b (Ok code) = record { buffer = b; refusal = 0; code = code }
finished_by b (Err why) = unfinished b (number_of why)

abbrev pub finished_as : program.Finished → Finished
finished_as f = finished_by f.buffer f.answer

-- once the recording is fit: 15, then with or without a jump
unfoldable pub placed_by : Pooled → Recording → List Segment → List ℕ → Outcome × Left
placed_by p r ss output =
    let labels = over_words r.labels p.labels in
    pick (all_bound p (view r).relocs)
    (pick (moves p.events) (relaxed p r.buffer.relocs labels r.relocs ss output) (unrelaxed p labels r.relocs ss output))
    (refused_with refusals.unbound_label, (labels, (r.relocs, (ss, output))))

-- The answer, and the labels, relocations, segments and output at the end: "On success the recording's labels and relocations hold their final offsets, the
-- rest of it stays, and output past the finished length is untouched." A refused finish leaves recording and output unchanged.
unfoldable pub finish : Recording → List Segment → List ℕ → Finished × Left
finish r ss output =
    let b = r.buffer in
    let why = why_unfit r (length ss) (length output) in
    let p = pooled b.arch (view r) in
    let placed = placed_by p r ss output in
    pick (eqb why 0)
    (pick (eqb placed.0.refusal 0)
    (finished_with b (code_alignment p.pool) placed.0, placed.1)
    (unfinished b placed.0.refusal, (r.labels, placed.1.1)))
    (unfinished b why, (r.labels, (r.relocs, (ss, output))))
