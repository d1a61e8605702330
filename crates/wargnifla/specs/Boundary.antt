-- The C functions: what each answers and leaves in everything that it is lent, for every input. Behind each stands the definition of the call: here are
-- only the counts and the record as lent bytes (document 01: "Each call takes the recording's counts by value and hands them back").
use Rattle.std.specs.Prelude.{Bool, List, [], ◌∷◌, ℕ, ltb, length}
use Rattle.refusals.specs.Numbers as refusals
use Rattle.seqs.specs.Pick.{pick}
use Rattle.words.specs.Words.{word_at, over_words}
use Rattle.relax.specs.declared.Segment.{Segment}
use Rattle.buffer.specs.declared.CodeBuffer.{CodeBuffer}
use Rattle.buffer.specs.State.{none}
use Rattle.buffer.specs.Calls as calls
use Rattle.recording.specs.Calls.{Recording}
use Rattle.finish.specs.declared.CodeBufferFinalized.{CodeBufferFinalized}
use Rattle.finish.specs.Finish as finishing
use Rattle.elf.specs.Elf as elf
use Rattle.join.specs.Pieces as joining
use Rattle.join.specs.Join as joins
use Rattle.sheet.specs.Run as sheets

-- the library's version: its major number times 1,000,000, its minor number times 1,000, and its patch number
abbrev pub version : ℕ
version = 8000

-- the bytes of counts, thirteen words, and of a record, six
abbrev pub counts_size : ℕ
counts_size = 52

abbrev pub record_size : ℕ
record_size = 24

-- the counts that are lent as bytes, and the words of counts
abbrev pub counts_at : List ℕ → CodeBuffer
counts_at counts =
    record {
      arch = word_at counts 0;
      symbols = word_at counts 1;
      finished = word_at counts 2;
      refusal = word_at counts 3;
      code = word_at counts 4;
      labels = word_at counts 5;
      events = word_at counts 6;
      uses = word_at counts 7;
      refs = word_at counts 8;
      constants = word_at counts 9;
      asked = word_at counts 10;
      relocs = word_at counts 11;
      unresolved = word_at counts 12;
    }

abbrev pub counts_of : CodeBuffer → List ℕ
counts_of b =
    b.arch ∷ b.symbols ∷ b.finished ∷ b.refusal ∷ b.code ∷ b.labels ∷ b.events ∷ b.uses ∷ b.refs ∷ b.constants ∷ b.asked ∷ b.relocs ∷ b.unresolved ∷ []

-- the words of what finish reports, and the report that is lent as bytes
abbrev pub record_of : CodeBufferFinalized → List ℕ
record_of f = f.arch ∷ f.len ∷ f.alignment ∷ f.layouts ∷ f.labels ∷ f.relocs ∷ []

abbrev pub record_at : List ℕ → CodeBufferFinalized
record_at finalized =
    record {
      arch = word_at finalized 0;
      len = word_at finalized 1;
      alignment = word_at finalized 2;
      layouts = word_at finalized 3;
      labels = word_at finalized 4;
      relocs = word_at finalized 5;
    }

-- fewer bytes than counts take
abbrev pub too_short : List ℕ → Bool
too_short counts = ltb (length counts) counts_size

-- the answer and the counts
unfoldable pub start : ℕ → ℕ → List ℕ → ℕ × List ℕ
start arch symbols counts =
    let a = calls.started arch symbols in
    pick (too_short counts) (refusals.malformed, counts) (a.refusal, over_words counts (counts_of a.buffer))

-- the answer, the counts and the code
unfoldable pub put_bytes : List ℕ → List ℕ → List ℕ → ℕ × (List ℕ × List ℕ)
put_bytes counts code bytes =
    let a = calls.put_bytes (counts_at counts) code bytes in
    pick (too_short counts) (refusals.malformed, (counts, code)) (a.0.refusal, (over_words counts (counts_of a.0.buffer), a.1))

-- the answer, the counts, the code and the events
unfoldable pub align : List ℕ → List ℕ → List ℕ → ℕ → ℕ → ℕ × (List ℕ × (List ℕ × List ℕ))
align counts code events multiple most =
    let a = calls.align_to (counts_at counts) code events multiple most in
    pick (too_short counts) (refusals.malformed, (counts, (code, events))) (a.0.refusal, (over_words counts (counts_of a.0.buffer), a.1))

-- the answer, the counts, the constants and the number
unfoldable pub add_constant : List ℕ → List ℕ → List ℕ → ℕ × (List ℕ × (List ℕ × ℕ))
add_constant counts constants bytes =
    let a = calls.add_constant (counts_at counts) constants bytes in
    pick (too_short counts)
    (refusals.malformed, (counts, (constants, none)))
    (a.0.refusal, (over_words counts (counts_of a.0.buffer), (a.1, a.0.number)))

-- the answer, the counts and the relocations
unfoldable pub add_reloc : List ℕ → List ℕ → List ℕ → ℕ → ℕ → ℕ → ℕ → ℕ × (List ℕ × List ℕ)
add_reloc counts labels relocs offset kind target addend =
    let a = calls.add_reloc (counts_at counts) labels relocs offset kind target addend in
    pick (too_short counts) (refusals.malformed, (counts, relocs)) (a.0.refusal, (over_words counts (counts_of a.0.buffer), a.1))

-- a recording that is lent: counts as bytes, and the tables
pub record Lent : Type 0 where
  pub counts : List ℕ
  pub code : List ℕ
  pub labels : List ℕ
  pub events : List ℕ
  pub uses : List ℕ
  pub refs : List ℕ
  pub constants : List ℕ
  pub asked : List ℕ
  pub relocs : List ℕ

abbrev pub lent_of : List ℕ → List ℕ → List ℕ → List ℕ → List ℕ → List ℕ → List ℕ → List ℕ → List ℕ → Lent
lent_of counts code labels events uses refs constants asked relocs =
    record {
      counts = counts;
      code = code;
      labels = labels;
      events = events;
      uses = uses;
      refs = refs;
      constants = constants;
      asked = asked;
      relocs = relocs;
    }

abbrev pub recording_in : Lent → Recording
recording_in l =
    record {
      buffer = counts_at l.counts;
      code = l.code;
      labels = l.labels;
      events = l.events;
      uses = l.uses;
      refs = l.refs;
      constants = l.constants;
      asked = l.asked;
      relocs = l.relocs;
    }

-- the same bytes with a recording in them
abbrev pub lent_with : List ℕ → Recording → Lent
lent_with counts r =
    record {
      counts = over_words counts (counts_of r.buffer);
      code = r.code;
      labels = r.labels;
      events = r.events;
      uses = r.uses;
      refs = r.refs;
      constants = r.constants;
      asked = r.asked;
      relocs = r.relocs;
    }

-- the answer, the index, and the recording as it is lent
unfoldable pub run_sheet : List ℕ → Lent → (ℕ × ℕ) × Lent
run_sheet sheet l =
    let a = sheets.run_sheet sheet (recording_in l) in
    pick (too_short l.counts) ((refusals.malformed, 0), l) (a.0, lent_with l.counts a.1)

-- the answer, the counts, the labels, relocations, segments and output, and the record; a refused finish gives a record of zeros
unfoldable pub finish : Lent → List Segment → List ℕ → List ℕ → ℕ × (List ℕ × (finishing.Left × List ℕ))
finish l segments output finalized =
    let a = finishing.finish (recording_in l) segments output in
    let left : finishing.Left = (l.labels, (l.relocs, (segments, output))) in
    pick (ltb (length finalized) record_size)
    (refusals.malformed, (l.counts, (left, finalized)))
    (pick (too_short l.counts)
    (refusals.malformed, (l.counts, (left, over_words finalized (0 ∷ 0 ∷ 0 ∷ 0 ∷ 0 ∷ 0 ∷ []))))
    (a.0.refusal, (over_words l.counts (counts_of a.0.buffer), (a.1, over_words finalized (record_of a.0.code)))))

-- the answer and the output
unfoldable pub write_relas : List ℕ → List ℕ → List ℕ → ℕ → List ℕ → ℕ × List ℕ
write_relas finalized labels relocs section output =
    pick (ltb (length finalized) record_size) (refusals.malformed, output) (elf.write_relas (record_at finalized) labels relocs section output)

-- the answer and the table: no counts and no record cross the boundary
abbrev pub read_relas : List ℕ → List ℕ → ℕ × List ℕ
read_relas relas table = elf.read_relas relas table

-- the answer, the code, labels and relocations of the whole, and its record
unfoldable pub join : joining.Lent → List ℕ → List ℕ → List ℕ → List ℕ → ℕ × (joins.Left × List ℕ)
join l output labels relocs finalized =
    let a = joins.join l output labels relocs in
    pick (ltb (length finalized) record_size)
    (refusals.malformed, ((output, (labels, relocs)), finalized))
    (a.0.refusal, (a.1, over_words finalized (record_of a.0.code)))
