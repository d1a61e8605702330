-- What the checks are handed: counts that fit the tables, labels that lie in theirs, and marks.
use Rattle.std.specs.Prelude.{◌≡◌, ◌≢◌, Bool, false, not, ◌&&◌, ◌||◌, List, [], ℕ, ◌+◌, ◌-◌, ◌*◌, ◌≤◌, ◌<◌, eqb, length, get_or}
use Rattle.words.specs.Words.{word_at}
use Rattle.relax.specs.Events.{event_size}
use Rattle.buffer.specs.declared.CodeBuffer.{CodeBuffer}
use Rattle.buffer.specs.State.{none, label_target}
use Rattle.buffer.specs.Tables.{most_entries, label_size, use_words, use_size, ref_size, constant_size, asked_size, reloc_words, reloc_size}
use Rattle.recording.specs.Calls.{Recording}
use Rattle.recording.specs.Sound.{label_of}
use Rattle.seqs.specs.Every.{all}
use Rattle.checks.specs.Entries.{asked_fits, asked_once}

-- the counts of a recording, but that of its code, fit its tables; those of labels and constants are within the limit
pub record CountsFit (b : CodeBuffer) (labels events uses refs constants asked relocs : List ℕ) : Type 0 where
  pub labels_room : b.labels * label_size ≤ length labels
  pub labels_limit : b.labels ≤ most_entries
  pub events_room : b.events * event_size ≤ length events
  pub uses_room : b.uses * use_size ≤ length uses
  pub refs_room : b.refs * ref_size ≤ length refs
  pub constants_room : b.constants * constant_size ≤ length constants
  pub constants_limit : b.constants ≤ most_entries
  pub asked_room : b.asked * asked_size ≤ length asked
  pub relocs_room : b.relocs * reloc_size ≤ length relocs

-- the recording of these tables, its code left out: no entry is judged by the code's bytes
abbrev pub tables : CodeBuffer → List ℕ → List ℕ → List ℕ → List ℕ → List ℕ → List ℕ → List ℕ → Recording
tables b labels events uses refs constants asked relocs =
    record { buffer = b; code = []; labels = labels; events = events; uses = uses; refs = refs; constants = constants; asked = asked; relocs = relocs }

-- the label that a use names
abbrev pub use_label : List ℕ → ℕ → ℕ
use_label uses i = word_at uses (i * use_words + 1)

-- the labels that the first n entries name lie in the table of labels
pub record Named (label : ℕ → ℕ) (n : ℕ) (labels : List ℕ) : Type 0 where
  pub known : (i : ℕ) → i < n → label i * label_size + label_size ≤ length labels

-- those of the targets among the first n relocations
pub record TargetsNamed (relocs : List ℕ) (n : ℕ) (labels : List ℕ) : Type 0 where
  pub known : (i : ℕ) → i < n → label_target ≤ word_at relocs (i * reloc_words + 2) → (word_at relocs (i * reloc_words + 2) - label_target) * label_size + label_size ≤ length labels

-- the first n constants lie in the table, and each has one of `labels` labels, or none
pub record Labelled (constants : List ℕ) (n labels : ℕ) : Type 0 where
  pub room : n * constant_size ≤ length constants
  pub label : (i : ℕ) → i < n → label_of constants i ≢ none → label_of constants i < labels

-- marks of a small recording: constants, and labels
abbrev pub few_marks : ℕ
few_marks = 256

-- the label of the constant that was asked for as number i
abbrev pub asked_label : List ℕ → List ℕ → ℕ → ℕ
asked_label constants asked i = label_of constants (word_at asked i)

-- one of the first n numbers is k
unfoldable pub occurs : (ℕ → ℕ) → ℕ → ℕ → Bool
occurs f n k = not (all (λ (i : ℕ). not (eqb (f i) k)) n)

-- of the numbers that have a mark those that occur are marked
pub record Marks (marks : List Bool) (f : ℕ → ℕ) (n : ℕ) : Type 0 where
  pub marked : (k : ℕ) → k < length marks → get_or marks k false ≡ occurs f n k

-- the first i constants that are asked for are marked, and their labels; each of `known` constants has a mark, and each of their labels
pub record Marking (asked constants : List ℕ) (known i : ℕ) (seen taken : List Bool) : Type 0 where
  pub labelled : Labelled constants known (length taken)
  pub enough : known ≤ length seen
  pub constants_marked : Marks seen (word_at asked) i
  pub labels_marked : Marks taken (asked_label constants asked) i

-- entry i of the order of asking is fit and new
abbrev pub new_at : List ℕ → List ℕ → ℕ → ℕ → Bool
new_at asked constants known i = asked_fits asked constants known i && asked_once asked constants i

-- constant k has no label; it has none, or is marked
abbrev pub unlabelled : List ℕ → ℕ → Bool
unlabelled constants k = eqb (label_of constants k) none

abbrev pub unlabelled_or : List ℕ → List Bool → ℕ → Bool
unlabelled_or constants marks k = unlabelled constants k || get_or marks k false
