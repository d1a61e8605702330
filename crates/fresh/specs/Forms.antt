-- What a fresh assembly asks of an event, case by case; everything else asks through these. What it writes for one: document 01, the paragraph on
-- relax.rs, "Short is 2 bytes .. Long is ..", and "for an alignment it writes the padding that the new offset needs, for a jump its short or long form,
-- displacement open"; document 02, Request Eight, of a branch. Which label it names, and the field of its displacement.
use Rattle.std.specs.Prelude.{Bool, true, false, ◌||◌, List, [], ◌∷◌, ℕ, ◌+◌, ◌-◌}
use Rattle.encoder.specs.Padding.{padding_within}
use Rattle.fields.specs.declared.LabelUse.{LabelUse}
use Rattle.fields.specs.declared.LabelUse.TheVariants.{X86JmpRel32, X86BranchRel8, A64Branch26}
use Rattle.words.specs.Words.{word_at}
use Rattle.fields.specs.Branches.{field_kind, short_branch, long_branch}
use Rattle.relax.specs.declared.Condition.{Condition}
use Rattle.relax.specs.declared.Condition.TheVariants.{Always, On}
use Rattle.relax.specs.declared.LayoutEvent.{LayoutEvent}
use Rattle.relax.specs.declared.LayoutEvent.TheVariants.{Jump, Align, Far}
use Rattle.relax.specs.declared.FarBranch.{FarBranch}
use Rattle.relax.specs.declared.RelaxableJump.{RelaxableJump}
use Rattle.relax.specs.Events.{short_len, long_len, branch_len, far_len}
use Rattle.buffer.specs.Calls.{padding}

-- EB, or 70 + condition, and a displacement of 1 byte
abbrev pub short_form : Condition → List ℕ
short_form Always = 0xEB ∷ 0 ∷ []
short_form (On c) = (0x70 + c) ∷ 0 ∷ []

-- E9, or 0F and 80 + condition, and a displacement of 4 bytes
abbrev pub long_form : Condition → List ℕ
long_form Always = 0xE9 ∷ 0 ∷ 0 ∷ 0 ∷ 0 ∷ []
long_form (On c) = 0x0F ∷ (0x80 + c) ∷ 0 ∷ 0 ∷ 0 ∷ 0 ∷ []

-- how many bytes an event takes at the new offset n, long or not
unfoldable pub width : LayoutEvent → Bool → ℕ → ℕ
width (Jump j) false n = short_len
width (Jump j) true n = long_len j.cc
width (Align a) long n = padding_within n a.align a.most
width (Far f) false n = branch_len
width (Far f) true n = far_len

-- what is written for an event there, on an architecture; `bytes` are the event's recorded ones, of which a branch keeps its word
unfoldable pub form : ℕ → LayoutEvent → List ℕ → Bool → ℕ → List ℕ
form arch (Jump j) bytes false n = short_form j.cc
form arch (Jump j) bytes true n = long_form j.cc
form arch (Align a) bytes long n = padding arch (padding_within n a.align a.most)
form arch (Far f) bytes false n = short_branch (word_at bytes 0)
form arch (Far f) bytes true n = long_branch f.code (word_at bytes 0)

-- a field of a kind, so many bytes after an event's start
pub record Field : Type 0 where
  pub kind : LabelUse
  pub place : ℕ

-- a branch: the number of the label that it names, and the field of its displacement in its short and in its long form
pub record Branch : Type 0 where
  pub label : ℕ
  pub short : Field
  pub long : Field

abbrev pub field_of : Branch → Bool → Field
field_of b false = b.short
field_of b true = b.long

-- an event pads, or it branches to a label
pub data Role : Type 0 where
  pads : Role
  branches : Branch → Role

-- a jump's displacement is its last byte, or its last four
abbrev pub branch_of : RelaxableJump → Branch
branch_of j =
    record {
      label = j.label;
      short = record { kind = X86BranchRel8; place = short_len - 1 };
      long = record { kind = X86JmpRel32; place = long_len j.cc - 4 };
    }

-- a far branch's is in its own word, or in the B after its inverse
abbrev pub far_branch_of : FarBranch → Branch
far_branch_of f =
    record { label = f.label; short = record { kind = field_kind f.code; place = 0 }; long = record { kind = A64Branch26; place = branch_len } }

unfoldable pub role_of : LayoutEvent → Role
role_of (Jump j) = branches (branch_of j)
role_of (Align a) = pads
role_of (Far f) = branches (far_branch_of f)

-- an event that makes finish lay out anew: "relax if a jump stands", or a branch
abbrev pub is_moving : LayoutEvent → Bool
is_moving (Jump j) = true
is_moving (Align a) = false
is_moving (Far f) = true

-- one of the events does
unfoldable pub moves : List LayoutEvent → Bool
moves [] = false
moves (e ∷ es) = is_moving e || moves es
