-- Finish, then join, where a C program meets them: what demand 2 says of finished code holds in the whole that it is joined into.
use Rattle.std.specs.Prelude.{◌≡◌, true, false, List, ℕ, ◌+◌, ◌-◌, ◌%◌, ◌≤◌, ◌<◌, length, get_or}
use Rattle.words.specs.Words.{word_at}
use Rattle.encoder.specs.Intel.{AreNops}
use Rattle.fields.specs.declared.LabelUse.{LabelUse}
use Rattle.fields.specs.Words64.{plus, sign_extend}
use Rattle.fields.specs.Kinds.{Use, code_of, patch_size, decoded}
use Rattle.fields.specs.Meaning.{meaning, demanded, load_multiple, Clear}
use Rattle.relax.specs.declared.LayoutEvent.TheVariants.{Jump, Align}
use Rattle.relax.specs.declared.RelaxableJump.{RelaxableJump}
use Rattle.relax.specs.declared.Alignment.{Alignment}
use Rattle.fresh.specs.Forms.{moves}
use Rattle.fresh.specs.Fresh.{Choice, moved}
use Rattle.fresh.specs.Rounds.{settled}
use Rattle.fresh.specs.Fill.{part}
use Rattle.join.specs.Pieces as joining
use Rattle.join.specs.Whole.{piece, before, base, Uncovered}
use Rattle.wargnifla.specs.Boundary.{Lent, recording_in}
use Rattle.demands.specs.Reading.{Reads}
use Rattle.demands.specs.Demand2.{use_of, ref_of, event_of, new_start, new_end, RefMisses, UseMisses, ConstantMisses, held_by}
use Rattle.demands.specs.Boundary.{Answer, finished_code, labels_of, pooled_in}

-- Piece k of what is lent to join is what a finish of f answered: its code and the offsets of its labels stand in the slices, where the pieces before end.
pub record Handed (l : joining.Lent) (k : ℕ) (f : Lent) (a : Answer) : Type 0 where
  pub known : k < joining.piece_count l.pieces
  pub taken : a.0 ≡ 0
  pub len : (piece l k).len ≡ length (finished_code a)
  pub labels : (piece l k).labels ≡ (recording_in f).buffer.labels
  pub code : (i : ℕ) → i < (piece l k).len → get_or l.code ((before l k).code + i) 0 ≡ get_or (finished_code a) i 0
  pub offsets : (j : ℕ) → j < (piece l k).labels → word_at l.labels ((before l k).labels + j) ≡ word_at (labels_of a) j

-- label number i of piece k, in the label table of the whole
abbrev pub label_in : joining.Lent → List ℕ → ℕ → ℕ → ℕ
label_in l labels k i = word_at labels ((before l k).labels + i)

-- no field that join fills covers one of the n bytes from x on of piece k
abbrev pub Stays : joining.Lent → ℕ → ℕ → ℕ → Type 0
Stays l k x n = (y : ℕ) → x ≤ y → y < x + n → Uncovered l k y

abbrev pub long_in : Lent → Choice
long_in f = (settled (pooled_in f)).choice

-- In the whole, loaded anywhere (`load` and the piece's base together on a multiple of 4,096 for the page kinds; a base is one on AArch64): every use, ref and
-- jump of the piece means its label as the label table of the whole has it, and all padding is NOPs.
pub record JoinedMeans (l : joining.Lent) (code labels : List ℕ) (k : ℕ) (f : Lent) (a : Answer) : Type 0 where
  pub uses : moves (pooled_in f).events ≡ false → (i : ℕ) (kind : LabelUse) → i < length (pooled_in f).uses → decoded (use_of (pooled_in f) i).code ≡ Use kind
      → ((j : ℕ) → i < j → UseMisses (pooled_in f) (use_of (pooled_in f) i).offset (patch_size kind) j)
      → ((j : ℕ) → ConstantMisses (λ (offset : ℕ). offset) (pooled_in f) (use_of (pooled_in f) i).offset (patch_size kind) j)
      → Clear kind (word_at (held_by (pooled_in f) i kind) 0) → (code_of kind ≡ 0 → word_at (held_by (pooled_in f) i kind) 0 ≡ 0)
      → Stays l k (use_of (pooled_in f) i).offset (patch_size kind)
      → (load : ℕ) → (load + base l k) % load_multiple kind ≡ 0
      → meaning kind (plus load (base l k + (use_of (pooled_in f) i).offset)) (word_at (part code (base l k + (use_of (pooled_in f) i).offset) (patch_size kind)) 0)
      ≡ demanded kind (plus load (label_in l labels k (use_of (pooled_in f) i).label))
  pub refs : moves (pooled_in f).events ≡ true → (i : ℕ) (kind : LabelUse) → i < length (pooled_in f).refs → decoded (ref_of (pooled_in f) i).code ≡ Use kind
      → ((j : ℕ) → i < j → RefMisses (pooled_in f) (long_in f) (moved (pooled_in f) (long_in f) (ref_of (pooled_in f) i).offset) (patch_size kind) j)
      → ((j : ℕ) → ConstantMisses (moved (pooled_in f) (long_in f)) (pooled_in f) (moved (pooled_in f) (long_in f) (ref_of (pooled_in f) i).offset) (patch_size kind) j)
      → Stays l k (moved (pooled_in f) (long_in f) (ref_of (pooled_in f) i).offset) (patch_size kind)
      → (load : ℕ) → (load + base l k) % load_multiple kind ≡ 0
      → meaning kind (plus load (base l k + moved (pooled_in f) (long_in f) (ref_of (pooled_in f) i).offset))
      (word_at (part code (base l k + moved (pooled_in f) (long_in f) (ref_of (pooled_in f) i).offset) (patch_size kind)) 0)
      ≡ demanded kind (plus load (plus (label_in l labels k (ref_of (pooled_in f) i).label) (sign_extend 32 (ref_of (pooled_in f) i).addend)))
  pub jumps : moves (pooled_in f).events ≡ true → (i : ℕ) (v : RelaxableJump) → i < length (pooled_in f).events → event_of (pooled_in f) i ≡ Jump v
      → Stays l k (new_start (pooled_in f) (long_in f) i) (new_end (pooled_in f) (long_in f) i - new_start (pooled_in f) (long_in f) i)
      → (load : ℕ)
      → Reads (plus load (base l k + new_start (pooled_in f) (long_in f) i))
      (part code (base l k + new_start (pooled_in f) (long_in f) i) (new_end (pooled_in f) (long_in f) i - new_start (pooled_in f) (long_in f) i)) v.cc
      (plus load (label_in l labels k v.label))
  pub padding : moves (pooled_in f).events ≡ true → (i : ℕ) (v : Alignment) → i < length (pooled_in f).events → event_of (pooled_in f) i ≡ Align v
      → Stays l k (new_start (pooled_in f) (long_in f) i) (new_end (pooled_in f) (long_in f) i - new_start (pooled_in f) (long_in f) i)
      → AreNops (part code (base l k + new_start (pooled_in f) (long_in f) i) (new_end (pooled_in f) (long_in f) i - new_start (pooled_in f) (long_in f) i))
  -- what no use and no constant covers, recorded padding and opcodes too, is as it was recorded and padded
  pub copied : moves (pooled_in f).events ≡ false → (x n : ℕ) → x + n ≤ (piece l k).len → Stays l k x n → ((j : ℕ) → UseMisses (pooled_in f) x n j)
      → ((j : ℕ) → ConstantMisses (λ (offset : ℕ). offset) (pooled_in f) x n j) → part code (base l k + x) n ≡ part (pooled_in f).code x n
