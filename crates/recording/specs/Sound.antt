-- The entries that recordings write: document 01, "an entry meant by 1", turned round. Finish answers 1 to any other.
use Rattle.std.specs.Prelude.{◌≡◌, ◌⊎◌, ◌≢◌, true, false, List, ℕ, ◌+◌, ◌*◌, ◌/◌, ◌≤◌, ◌<◌, length}
use Rattle.words.specs.Words.{word_at}
use Rattle.encoder.specs.Padding.{padding_within}
use Rattle.fields.specs.Kinds.{decoded, unsupported_code, last_code}
use Rattle.relax.specs.Events.{event_words, event_size, jump_kind, alignment_kind, no_condition, most_jump, short_len}
use Rattle.buffer.specs.State.{none, label_target, keeps_events}
use Rattle.buffer.specs.Refusals.{foreign, foreign_reloc, is_alignment}
use Rattle.buffer.specs.Tables.{most_entries, most_code, last_offset, most_constant, last_reloc, label_size, use_words, use_size, ref_words, ref_size, constant_words, constant_size, asked_size, reloc_words, reloc_size}
use Rattle.recording.specs.Calls.{Recording}

-- the bytes of code lie within what is lent, and within the limit
pub record CodeSound (code : List ℕ) (count : ℕ) : Type 0 where
  pub room : count ≤ length code
  pub limit : count ≤ most_code

-- an event's start and end, in the table
abbrev pub start_at : List ℕ → ℕ → ℕ
start_at events j = word_at events (j * event_words + 1)

abbrev pub end_at : List ℕ → ℕ → ℕ
end_at events j = word_at events (j * event_words + 1) + word_at events (j * event_words + 2)

-- A label is unbound, or bound within the code and strictly inside no event.
abbrev pub LabelSound : List ℕ → ℕ → ℕ → ℕ → Type 0
LabelSound events count code offset = (offset ≡ none) ⊎ ((offset ≤ code) × ((j : ℕ) → j < count → (offset ≤ start_at events j) ⊎ (end_at events j ≤ offset)))

pub record LabelsSound (labels : List ℕ) (count : ℕ) (events : List ℕ) (event_count code : ℕ) : Type 0 where
  pub room : count ≤ length labels / label_size
  pub limit : count ≤ most_entries
  pub entry : (i : ℕ) → i < count → LabelSound events event_count code (word_at labels i)

-- The columns of an event. A jump: length 2..15, a known label, a condition up to 16. An alignment: a power of two up to 4,096, and the length that
-- it spends at its start: "number 1 then accepts that length alone" (document 02, Request Seven).
abbrev pub FormOf : ℕ → ℕ → ℕ → ℕ → ℕ → ℕ → Type 0
FormOf labels kind start len what how =
    ((kind ≡ jump_kind) × (short_len ≤ len) × (len ≤ most_jump) × (what < labels) × (how ≤ no_condition))
    ⊎ ((kind ≡ alignment_kind) × (is_alignment what ≡ true) × (len ≡ padding_within start what how))

abbrev pub EventForm : List ℕ → ℕ → ℕ → Type 0
EventForm events labels j =
    FormOf labels (word_at events (j * event_words)) (word_at events (j * event_words + 1)) (word_at events (j * event_words + 2)) (word_at events (j * event_words + 3)) (word_at events (j * event_words + 4))

-- An event ends within the code and starts after those before it.
pub record EventSound (events : List ℕ) (labels code j : ℕ) : Type 0 where
  pub form : EventForm events labels j
  pub ends : end_at events j ≤ code
  pub follows : (i : ℕ) → i < j → end_at events i ≤ start_at events j

-- not every architecture keeps events
pub record EventsSound (events : List ℕ) (count labels code arch : ℕ) : Type 0 where
  pub room : count ≤ length events / event_size
  pub tracked : (keeps_events arch ≡ true) ⊎ (count ≡ 0)
  pub entry : (j : ℕ) → j < count → EventSound events labels code j

-- A use: a code of the architecture other than 15, a known label.
pub record UseSound (uses : List ℕ) (arch labels i : ℕ) : Type 0 where
  pub code : word_at uses (i * use_words + 2) ≤ last_code
  pub patched : word_at uses (i * use_words + 2) ≢ unsupported_code
  pub native : foreign (decoded (word_at uses (i * use_words + 2))) arch ≡ false
  pub label : word_at uses (i * use_words + 1) < labels

pub record UsesSound (uses : List ℕ) (count arch labels : ℕ) : Type 0 where
  pub room : count ≤ length uses / use_size
  pub entry : (i : ℕ) → i < count → UseSound uses arch labels i

pub record RefSound (refs : List ℕ) (arch labels i : ℕ) : Type 0 where
  pub native : foreign (decoded (word_at refs (i * ref_words + 2))) arch ≡ false
  pub label : word_at refs (i * ref_words + 1) < labels

-- nor refs
pub record RefsSound (refs : List ℕ) (count arch labels : ℕ) : Type 0 where
  pub room : count ≤ length refs / ref_size
  pub tracked : (keeps_events arch ≡ true) ⊎ (count ≡ 0)
  pub entry : (i : ℕ) → i < count → RefSound refs arch labels i

-- a symbol below the count, or a known label + 2^31
abbrev pub Target : ℕ → ℕ → ℕ → Type 0
Target symbols labels target = ((target < label_target) × (target < symbols)) ⊎ ((label_target ≤ target) × (target < label_target + labels))

pub record RelocSound (relocs : List ℕ) (arch symbols labels i : ℕ) : Type 0 where
  pub offset : word_at relocs (i * reloc_words) ≤ last_offset
  pub kind : word_at relocs (i * reloc_words + 1) ≤ last_reloc
  pub native : foreign_reloc (word_at relocs (i * reloc_words + 1)) arch ≡ false
  pub target : Target symbols labels (word_at relocs (i * reloc_words + 2))

pub record RelocsSound (relocs : List ℕ) (count arch symbols labels : ℕ) : Type 0 where
  pub room : count ≤ length relocs / reloc_size
  pub entry : (i : ℕ) → i < count → RelocSound relocs arch symbols labels i

-- A constant has at most 64 bytes; its label is none or known.
pub record ConstantSound (constants : List ℕ) (labels i : ℕ) : Type 0 where
  pub size : word_at constants (i * constant_words) ≤ most_constant
  pub label : (word_at constants (i * constant_words + 1) ≡ none) ⊎ (word_at constants (i * constant_words + 1) < labels)

pub record ConstantsSound (constants : List ℕ) (count labels : ℕ) : Type 0 where
  pub room : count ≤ length constants / constant_size
  pub limit : count ≤ most_entries
  pub entry : (i : ℕ) → i < count → ConstantSound constants labels i

abbrev pub label_of : List ℕ → ℕ → ℕ
label_of constants i = word_at constants (i * constant_words + 1)

-- The order of asking lists known constants that have a label, none twice, no two of which share a label; and every constant that has one.
pub record AskedSound (asked : List ℕ) (count : ℕ) (constants : List ℕ) (known : ℕ) : Type 0 where
  pub room : count ≤ length asked / asked_size
  pub listed : (i : ℕ) → i < count → (word_at asked i < known) × (label_of constants (word_at asked i) ≢ none)
  pub once : (i j : ℕ) → i < j → j < count → (word_at asked i ≢ word_at asked j) × (label_of constants (word_at asked i) ≢ label_of constants (word_at asked j))
  pub all : (n : ℕ) → n < known → label_of constants n ≢ none → (i : ℕ) × (i < count) × (word_at asked i ≡ n)

-- A recording whose counts fit and whose every entry is one that recordings write.
pub record Sound (r : Recording) : Type 0 where
  pub code : CodeSound r.code r.buffer.code
  pub labels : LabelsSound r.labels r.buffer.labels r.events r.buffer.events r.buffer.code
  pub events : EventsSound r.events r.buffer.events r.buffer.labels r.buffer.code r.buffer.arch
  pub uses : UsesSound r.uses r.buffer.uses r.buffer.arch r.buffer.labels
  pub refs : RefsSound r.refs r.buffer.refs r.buffer.arch r.buffer.labels
  pub constants : ConstantsSound r.constants r.buffer.constants r.buffer.labels
  pub asked : AskedSound r.asked r.buffer.asked r.constants r.buffer.constants
  pub relocs : RelocsSound r.relocs r.buffer.relocs r.buffer.arch r.buffer.symbols r.buffer.labels
