-- The table entries that finish takes; it answers 1 to any other: document 01, "An entry meant by 1 is a value outside the ranges here or foreign to the
-- architecture; a number past its count; ..". `Sound` (recording/specs/Sound) says the same of every recording that calls make (`sound_fits`).
use Rattle.std.specs.Prelude.{Bool, not, ◌&&◌, ◌||◌, List, ℕ, ◌+◌, ◌*◌, eqb, leb, ltb}
use Rattle.seqs.specs.Every.{all}
use Rattle.words.specs.Words.{word_at}
use Rattle.encoder.specs.Padding.{padding_within}
use Rattle.fields.specs.Kinds.{decoded, unsupported_code, last_code}
use Rattle.relax.specs.Events.{event_words, jump_kind, alignment_kind, no_condition, most_jump, short_len}
use Rattle.buffer.specs.declared.CodeBuffer.{CodeBuffer}
use Rattle.buffer.specs.State.{none, keeps_events}
use Rattle.buffer.specs.Refusals.{is_alignment, foreign, foreign_reloc, target_known, last_end}
use Rattle.buffer.specs.Tables.{last_offset, most_constant, last_reloc, use_words, ref_words, constant_words, reloc_words}
use Rattle.recording.specs.Calls.{Recording}
use Rattle.recording.specs.Sound.{start_at, end_at, label_of}

-- The columns of an event: a jump (length 2..15, a known label, a condition up to 16), or an alignment (a power of two up to 4,096, "that
-- length alone" that it spends at its start: document 02, Request Seven).
unfoldable pub form_fits : ℕ → ℕ → ℕ → ℕ → ℕ → ℕ → Bool
form_fits labels kind start len what how =
    eqb kind jump_kind && (leb short_len len && leb len most_jump && (ltb what labels && leb how no_condition))
    || eqb kind alignment_kind && (is_alignment what && eqb len (padding_within start what how))

-- "an event past that end or starting before the last one's end"
unfoldable pub event_fits : List ℕ → ℕ → ℕ → ℕ → Bool
event_fits events labels code j =
    form_fits labels (word_at events (j * event_words)) (word_at events (j * event_words + 1)) (word_at events (j * event_words + 2)) (word_at events (j * event_words + 3)) (word_at events (j * event_words + 4))
    && (leb (end_at events j) code && leb (last_end events j) (start_at events j))

-- not every architecture keeps events and refs
unfoldable pub kept_only : ℕ → ℕ → Bool
kept_only arch n = keeps_events arch || eqb n 0

unfoldable pub events_fit : ℕ → List ℕ → ℕ → ℕ → ℕ → Bool
events_fit arch events n labels code = kept_only arch n && all (event_fits events labels code) n

-- the offset lies strictly inside none of the events
unfoldable pub outside : List ℕ → ℕ → ℕ → Bool
outside events n offset = all (λ (j : ℕ). leb offset (start_at events j) || leb (end_at events j) offset) n

-- "a label bound past the code's end or strictly inside an event"
unfoldable pub label_fits : List ℕ → ℕ → ℕ → ℕ → Bool
label_fits events n code offset = eqb offset none || leb offset code && outside events n offset

unfoldable pub labels_fit : List ℕ → ℕ → List ℕ → ℕ → ℕ → Bool
labels_fit labels n events m code = all (λ (i : ℕ). label_fits events m code (word_at labels i)) n

-- a use: offset, label, code
unfoldable pub use_fits : List ℕ → ℕ → ℕ → ℕ → Bool
use_fits uses arch labels i =
    leb (word_at uses (i * use_words + 2)) last_code
    && (not (eqb (word_at uses (i * use_words + 2)) unsupported_code) && (not (foreign (decoded (word_at uses (i * use_words + 2))) arch) && ltb (word_at uses (i * use_words + 1)) labels))

unfoldable pub uses_fit : List ℕ → ℕ → ℕ → ℕ → Bool
uses_fit uses n arch labels = all (use_fits uses arch labels) n

-- a ref: offset, label, code, addend
unfoldable pub ref_fits : List ℕ → ℕ → ℕ → ℕ → Bool
ref_fits refs arch labels i = not (foreign (decoded (word_at refs (i * ref_words + 2))) arch) && ltb (word_at refs (i * ref_words + 1)) labels

unfoldable pub refs_fit : List ℕ → ℕ → ℕ → ℕ → Bool
refs_fit refs n arch labels = kept_only arch n && all (ref_fits refs arch labels) n

-- a relocation: offset, kind, target
unfoldable pub reloc_fits : CodeBuffer → List ℕ → ℕ → Bool
reloc_fits b relocs i =
    leb (word_at relocs (i * reloc_words)) last_offset
    && (leb (word_at relocs (i * reloc_words + 1)) last_reloc
    && (not (foreign_reloc (word_at relocs (i * reloc_words + 1)) b.arch) && target_known b (word_at relocs (i * reloc_words + 2))))

unfoldable pub relocs_fit : CodeBuffer → List ℕ → Bool
relocs_fit b relocs = all (reloc_fits b relocs) b.relocs

-- a constant: size, label
unfoldable pub constant_fits : List ℕ → ℕ → ℕ → Bool
constant_fits constants labels i = leb (word_at constants (i * constant_words)) most_constant && (eqb (label_of constants i) none || ltb (label_of constants i) labels)

unfoldable pub constants_fit : List ℕ → ℕ → ℕ → Bool
constants_fit constants n labels = all (constant_fits constants labels) n

-- a constant that is asked for is known and has a label
unfoldable pub asked_fits : List ℕ → List ℕ → ℕ → ℕ → Bool
asked_fits asked constants known i = ltb (word_at asked i) known && not (eqb (label_of constants (word_at asked i)) none)

-- none before it is the same constant ("asked for twice") or has the same label ("sharing its label")
unfoldable pub asked_once : List ℕ → List ℕ → ℕ → Bool
asked_once asked constants j =
    all
    (λ (i : ℕ).
    not (eqb (word_at asked i) (word_at asked j)) && not (eqb (label_of constants (word_at asked i)) (label_of constants (word_at asked j))))
    j

-- the order of asking lists the constant
unfoldable pub is_asked : List ℕ → ℕ → ℕ → Bool
is_asked asked n k = not (all (λ (i : ℕ). not (eqb (word_at asked i) k)) n)

-- every constant that has a label is listed, and every listed one has a label of its own
unfoldable pub order_fits : List ℕ → ℕ → List ℕ → ℕ → Bool
order_fits asked n constants known =
    all (λ (i : ℕ). asked_fits asked constants known i && asked_once asked constants i) n
    && all (λ (k : ℕ). eqb (label_of constants k) none || is_asked asked n k) known

-- every entry of a recording's tables
unfoldable pub entries_fit : Recording → Bool
entries_fit r =
    let b = r.buffer in
    events_fit b.arch r.events b.events b.labels b.code
    && (labels_fit r.labels b.labels r.events b.events b.code
    && (uses_fit r.uses b.uses b.arch b.labels
    && (refs_fit r.refs b.refs b.arch b.labels
    && (constants_fit r.constants b.constants b.labels
    && (order_fits r.asked b.asked r.constants b.constants && relocs_fit b r.relocs)))))
