-- What finish leaves in what it is lent: the code written event by event, and fields, labels and relocations entry by entry, as the tables of a recording
-- have them. Fill and Segments (fresh/specs) say the same of lists.
use Rattle.std.specs.Prelude.{◌≡◌, ℕ, zero, suc, ◌+◌, ◌*◌, ◌<◌, ◌≤◌, Bool, true, false, ◌≢◌, List, length, take, slice_index_or}
use Rattle.seqs.specs.Every.{all}
use Rattle.words.specs.Words.{word_at, set_word}
use Rattle.fields.specs.Words64.{plus, minus, sign_extend}
use Rattle.fields.specs.Kinds.{Decoded, Use, Unsupported, Unknown, decoded, patch_size}
use Rattle.fields.specs.Reach.{can_reach_delta}
use Rattle.relax.specs.declared.Condition.{Condition}
use Rattle.relax.specs.declared.Condition.TheVariants.{Always, On}
use Rattle.relax.specs.declared.LayoutEvent.{LayoutEvent}
use Rattle.relax.specs.declared.LayoutEvent.TheVariants.{Jump, Align, Far}
use Rattle.relax.specs.declared.Segment.{Segment}
use Rattle.fields.specs.Branches.{short_branch, long_branch}
use Rattle.relax.specs.Events.{event_at, event_size, branch_len}
use Rattle.buffer.specs.State.{none}
use Rattle.buffer.specs.Tables.{label_size, use_words, use_size, ref_words, ref_size}
use Rattle.recording.specs.View.{entries}
use Rattle.fresh.specs.Forms.{short_form, long_form, Branch, field_of, branches, role_of}
use Rattle.fresh.specs.Segments.{segments, map_offset}
use Rattle.fresh.specs.Fill.{fill_field, fill_use, fill_jump}
use Rattle.fresh.specs.Order.{Ordered}
use Rattle.fresh.specs.steps.Runs.{runs}
use Rattle.pool.specs.steps.Pool.{offset_bound}
use Rattle.layout.specs.steps.Layout.{zero_segment}

-- a jump's form, short or long, displacement 0
abbrev pub jump_form : Condition → Bool → List ℕ
jump_form cc false = short_form cc
jump_form cc true = long_form cc

-- a branch's form, short or long: of a recorded word
abbrev pub branch_form : ℕ → ℕ → Bool → List ℕ
branch_form code word false = short_branch word
branch_form code word true = long_branch code word

-- a condition that has an opcode
abbrev pub Encodes : Condition → Type 0
Encodes Always = Unit {0}
Encodes (On c) = c < 16

-- an event whose form can be written
abbrev pub Writes : LayoutEvent → Type 0
Writes (Jump j) = Encodes j.cc
Writes (Align a) = Unit {0}
Writes (Far f) = f.len ≡ branch_len

-- the word that a form keeps of the event's recorded bytes: a branch's own
abbrev pub Keeps : LayoutEvent → ℕ → List ℕ → Type 0
Keeps (Jump j) word bytes = Unit {0}
Keeps (Align a) word bytes = Unit {0}
Keeps (Far f) word bytes = word ≡ word_at bytes 0

-- a field of a kind at an offset lies within `room` bytes
abbrev pub Within : Decoded → ℕ → ℕ → Type 0
Within (Use k) offset room = offset + patch_size k ≤ room
Within Unsupported offset room = Unit {0}
Within Unknown offset room = Unit {0}

-- an offset that was recorded, or none
abbrev pub Recorded : ℕ → Type 0
Recorded offset = offset ≢ none → offset ≤ offset_bound

-- the events and the runs between them are written: the table of segments is the layout of a choice of long jumps
pub record Emits (output code events : List ℕ) (long : List Bool) (ss : List Segment) (n len arch : ℕ) : Type 0 where
  pub recorded : n * event_size ≤ length events
  pub chosen : n ≤ length long
  pub laid : take n ss ≡ segments 0 0 (entries (event_at events) n) long
  pub ordered : Ordered 0 len (entries (event_at events) n)
  pub coded : len ≤ length code
  pub writes : (i : ℕ) → i < n → Writes (event_at events i)
  pub room : length (runs arch 0 0 (take len code) (entries (event_at events) n) long) ≤ length output

-- The uses. An entry is offset, label and code.
abbrev pub use_filled : List ℕ → List ℕ → ℕ → List ℕ → List ℕ
use_filled uses labels i l = fill_use (decoded (word_at uses (i * use_words + 2))) (word_at uses (i * use_words)) (word_at labels (word_at uses (i * use_words + 1))) l

-- the output with the first n uses patched
unfoldable pub uses_filled : List ℕ → List ℕ → List ℕ → ℕ → List ℕ
uses_filled output uses labels zero = output
uses_filled output uses labels (suc i) = use_filled uses labels i (uses_filled output uses labels i)

pub record UseFits (room : ℕ) (uses labels : List ℕ) (i : ℕ) : Type 0 where
  pub entry : i * use_size + use_size ≤ length uses
  pub known : word_at uses (i * use_words + 1) * label_size + label_size ≤ length labels
  pub within : Within (decoded (word_at uses (i * use_words + 2))) (word_at uses (i * use_words)) room

pub record UsesFit (room : ℕ) (uses labels : List ℕ) (count : ℕ) : Type 0 where
  pub each : (i : ℕ) → i < count → UseFits room uses labels i

-- The refs. An entry is offset, label, code and addend; a ref's field stands where the segments take its offset.
abbrev pub ref_at : List ℕ → List Segment → ℕ → ℕ → ℕ
ref_at refs ss n i = map_offset (take n ss) (word_at refs (i * ref_words))

abbrev pub ref_filled : List ℕ → List ℕ → ℕ → ℕ → List ℕ → List ℕ
ref_filled refs labels at i l =
    fill_field (decoded (word_at refs (i * ref_words + 2))) at (word_at labels (word_at refs (i * ref_words + 1))) (word_at refs (i * ref_words + 3)) l

-- the output with the first refs filled, where the labels have their new offsets
unfoldable pub refs_filled : List ℕ → List ℕ → List ℕ → List Segment → ℕ → ℕ → List ℕ
refs_filled output refs labels ss n zero = output
refs_filled output refs labels ss n (suc i) = ref_filled refs labels (ref_at refs ss n i) i (refs_filled output refs labels ss n i)

pub record RefFits (room : ℕ) (refs labels : List ℕ) (at i : ℕ) : Type 0 where
  pub entry : i * ref_size + ref_size ≤ length refs
  pub known : word_at refs (i * ref_words + 1) * label_size + label_size ≤ length labels
  pub within : Within (decoded (word_at refs (i * ref_words + 2))) at room

pub record RefsFit (room : ℕ) (refs labels : List ℕ) (ss : List Segment) (n count : ℕ) : Type 0 where
  pub recorded : (i : ℕ) → i < count → Recorded (word_at refs (i * ref_words))
  pub each : (i : ℕ) → i < count → RefFits room refs labels (ref_at refs ss n i) i

-- whether a field of a kind reaches a label with an addend
abbrev pub field_reaches : Decoded → ℕ → ℕ → ℕ → Bool
field_reaches (Use k) offset label addend = can_reach_delta k (minus (plus label (sign_extend 32 addend)) offset)
field_reaches Unsupported offset label addend = true
field_reaches Unknown offset label addend = true

-- whether ref i does, where the labels have their recorded offsets
abbrev pub ref_reaches : List ℕ → List ℕ → List Segment → ℕ → ℕ → Bool
ref_reaches refs labels ss n i =
    field_reaches (decoded (word_at refs (i * ref_words + 2))) (ref_at refs ss n i)
    (map_offset (take n ss) (word_at labels (word_at refs (i * ref_words + 1)))) (word_at refs (i * ref_words + 3))

-- the first refs all do
unfoldable pub refs_reach : List ℕ → List ℕ → List Segment → ℕ → ℕ → Bool
refs_reach refs labels ss n count = all (ref_reaches refs labels ss n) count

pub record RefKnown (refs labels : List ℕ) (i : ℕ) : Type 0 where
  pub entry : i * ref_size + ref_size ≤ length refs
  pub known : word_at refs (i * ref_words + 1) * label_size + label_size ≤ length labels
  pub recorded : Recorded (word_at refs (i * ref_words))
  pub bound : Recorded (word_at labels (word_at refs (i * ref_words + 1)))

pub record RefsKnown (refs labels : List ℕ) (count : ℕ) : Type 0 where
  pub each : (i : ℕ) → i < count → RefKnown refs labels i

-- The jumps. Where event i starts:
abbrev pub start_at : List Segment → ℕ → ℕ
start_at ss i = (slice_index_or ss i zero_segment).new_start

-- the output with the first n jumps' displacements
unfoldable pub jumps_filled : List ℕ → List ℕ → List ℕ → List Bool → List Segment → ℕ → List ℕ
jumps_filled output events labels long ss zero = output
jumps_filled output events labels long ss (suc i) =
    fill_jump (word_at labels) (event_at events i) (slice_index_or long i false) (start_at ss i) (jumps_filled output events labels long ss i)

-- a jump, long or not, that starts at `start`: its label is in the table, and its field in the output
pub record JumpFits (room : ℕ) (events labels : List ℕ) (long : Bool) (start i : ℕ) : Type 0 where
  pub entry : i * event_size + event_size ≤ length events
  pub known : (b : Branch) → role_of (event_at events i) ≡ branches b → b.label * label_size + label_size ≤ length labels
  pub within : (b : Branch) → role_of (event_at events i) ≡ branches b → start + (field_of b long).place + patch_size (field_of b long).kind ≤ room
  pub small : start ≤ offset_bound

pub record JumpsFit (room : ℕ) (events labels : List ℕ) (long : List Bool) (ss : List Segment) (n : ℕ) : Type 0 where
  pub chosen : n ≤ length long
  pub laid : n ≤ length ss
  pub each : (i : ℕ) → i < n → JumpFits room events labels (slice_index_or long i false) (start_at ss i) i

-- The words 0, stride, 2 stride, .. of a table, mapped: labels (stride 1), and relocations' offsets (stride 6).
unfoldable pub mapped_words : (ℕ → ℕ) → List ℕ → ℕ → ℕ → List ℕ
mapped_words f t stride zero = t
mapped_words f t stride (suc i) = set_word (mapped_words f t stride i) (i * stride) (f (word_at t (i * stride)))

pub record WordsFit (t : List ℕ) (stride count : ℕ) : Type 0 where
  pub some : 0 < stride
  pub entry : (i : ℕ) → i < count → i * stride * 4 + 4 ≤ length t
  pub recorded : (i : ℕ) → i < count → Recorded (word_at t (i * stride))
