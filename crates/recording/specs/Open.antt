-- What is still open: document 02, Request Five, "how many label uses, refs, jumps and label relocations point to an unbound label", "where unknown labels
-- count as unbound".
use Rattle.std.specs.Prelude.{Bool, false, not, ◌&&◌, List, [], ℕ, ◌+◌, ◌-◌, eqb, leb, get_or}
use Rattle.seqs.specs.Counting.{count}
use Rattle.seqs.specs.Every.{every}
use Rattle.relax.specs.declared.LayoutEvent.{LayoutEvent}
use Rattle.relax.specs.declared.LayoutEvent.TheVariants.{Jump, Align, Far}
use Rattle.buffer.specs.State.{none, label_target}
use Rattle.recording.specs.View.{Use, Ref, Relocation, View}

-- Whether the label that an entry names has a property: of a use and of a ref; of an event that is a jump or a branch; of a relocation whose target is a label's, from
-- 2^31 on.
abbrev pub use_names : (ℕ → Bool) → Use → Bool
use_names f u = f u.label

abbrev pub ref_names : (ℕ → Bool) → Ref → Bool
ref_names f r = f r.label

abbrev pub jump_names : (ℕ → Bool) → LayoutEvent → Bool
jump_names f (Jump j) = f j.label
jump_names f (Align a) = false
jump_names f (Far b) = f b.label

abbrev pub target_names : (ℕ → Bool) → Relocation → Bool
target_names f l = leb label_target l.target && f (l.target - label_target)

-- how many entries name a label that has it
unfoldable pub naming : (ℕ → Bool) → View → ℕ
naming f v = count (use_names f) v.uses + count (ref_names f) v.refs + count (target_names f) v.relocs + count (jump_names f) v.events

-- a label that is not bound, or unknown
abbrev pub is_open : List ℕ → ℕ → Bool
is_open labels label = eqb (get_or labels label none) none

-- the count over the tables
abbrev pub open_of : View → ℕ
open_of v = naming (is_open v.labels) v

-- the label of a constant that was asked for
abbrev pub is_pooled : View → ℕ → Bool
is_pooled v label = not (every (λ (n : ℕ). not (eqb (get_or v.constants n (record { bytes = []; label = none })).label label)) v.asked)

-- "the entries which their labels settle", the pooled constants'
abbrev pub settled_by : View → ℕ
settled_by v = naming (is_pooled v) v
