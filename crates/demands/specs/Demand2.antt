-- Demand 2, as one claim about finished code: "By Intel's manual and Arm's A64 manual, every finished jump, branch, address field and padding byte that
-- nothing written later covers means what its label demands".
use Rattle.std.specs.Prelude.{◌≡◌, ◌≢◌, true, false, List, [], ℕ, ◌+◌, ◌-◌, ◌*◌, ◌%◌, ◌≤◌, ◌<◌, length, get_or, take, replicate}
use Rattle.words.specs.Words.{word_at}
use Rattle.encoder.specs.Padding.{padding_length, padding_within, Spends}
use Rattle.encoder.specs.Intel.{AreNops}
use Rattle.fields.specs.declared.LabelUse.{LabelUse}
use Rattle.fields.specs.Words64.{plus, minus, sign_extend}
use Rattle.fields.specs.Bits.{bits}
use Rattle.fields.specs.Kinds.{Use, arch_a64, code_of, patch_size, decoded}
use Rattle.fields.specs.Meaning.{meaning, demanded, load_multiple, Clear, in_field}
use Rattle.relax.specs.declared.LayoutEvent.{LayoutEvent}
use Rattle.relax.specs.declared.LayoutEvent.TheVariants.{Jump, Align}
use Rattle.relax.specs.declared.Segment.{Segment}
use Rattle.relax.specs.declared.RelaxableJump.{RelaxableJump}
use Rattle.relax.specs.Events.{no_event}
use Rattle.relax.specs.declared.Alignment.{Alignment}
use Rattle.buffer.specs.State.{none}
use Rattle.buffer.specs.Calls.{padding}
use Rattle.recording.specs.Calls.{Recording}
use Rattle.recording.specs.View as tables
use Rattle.fresh.specs.Pooled.{constant_alignment, Placed, Pooled, asked_constant, pooled_to, pooled}
use Rattle.fresh.specs.Forms.{width, moves}
use Rattle.fresh.specs.Fresh.{Choice, walk, moved, target, starts}
use Rattle.fresh.specs.Rounds.{settled}
use Rattle.fresh.specs.Fill.{part, fill_uses}
use Rattle.fields.specs.Kinds.{size_of}
use Rattle.finish.specs.Finish.{finish}
use Rattle.demands.specs.Reading.{Reads}

-- no byte is both one of the n bytes from a on and one of the m bytes from b on
abbrev pub Disjoint : ℕ → ℕ → ℕ → ℕ → Type 0
Disjoint a n b m = (x : ℕ) → a ≤ x → x < a + n → b ≤ x → x < b + m → ⊥

-- each is a byte
abbrev pub Bytes : List ℕ → Type 0
Bytes l = (i : ℕ) → get_or l i 0 < 256

-- entry number i
abbrev pub use_of : Pooled → ℕ → tables.Use
use_of p i = get_or p.uses i (record { offset = 0; label = 0; code = 0 })

abbrev pub ref_of : Pooled → ℕ → tables.Ref
ref_of p i = get_or p.refs i (record { offset = 0; label = 0; code = 0; addend = 0 })

abbrev pub event_of : Pooled → ℕ → LayoutEvent
event_of p i = get_or p.events i no_event

abbrev pub constant_of : Pooled → ℕ → Placed
constant_of p i = get_or p.pool i (record { offset = 0; bytes = [] })

-- where event i starts and ends in the code of a choice: it takes the bytes of its form, a jump those of its short or long one as the choice says
abbrev pub new_start : Pooled → Choice → ℕ → ℕ
new_start p c i = get_or (starts 0 (walk p) c) i 0

abbrev pub new_end : Pooled → Choice → ℕ → ℕ
new_end p c i = new_start p c i + width (event_of p i) (get_or c i false) (new_start p c i)

-- the field of ref j, the field of use j, or the bytes of constant j cover none of the n bytes from a on
abbrev pub RefMisses : Pooled → Choice → ℕ → ℕ → ℕ → Type 0
RefMisses p c a n j = j < length p.refs → Disjoint a n (moved p c (ref_of p j).offset) (size_of (decoded (ref_of p j).code))

abbrev pub UseMisses : Pooled → ℕ → ℕ → ℕ → Type 0
UseMisses p a n j = j < length p.uses → Disjoint a n (use_of p j).offset (size_of (decoded (use_of p j).code))

abbrev pub ConstantMisses : (ℕ → ℕ) → Pooled → ℕ → ℕ → ℕ → Type 0
ConstantMisses at p a n j = j < length p.pool → Disjoint a n (at (constant_of p j).offset) (length (constant_of p j).bytes)

-- wherever the code is loaded (on a 4,096 multiple for the page kinds), a field of kind k at `offset` with these bytes means what its target demands
abbrev pub Means : LabelUse → ℕ → ℕ → List ℕ → Type 0
Means k offset target bytes =
    (base : ℕ) → base % load_multiple k ≡ 0 → meaning k (plus base offset) (word_at bytes 0) ≡ demanded k (plus base target)

-- the bits of these bytes that are not the field's own, opcode and registers, are those of `before`
abbrev pub Keeps : LabelUse → List ℕ → List ℕ → Type 0
Keeps k before bytes = (i : ℕ) → i < 8 * patch_size k → in_field k i ≡ false → bits i i (word_at bytes 0) ≡ bits i i (word_at before 0)

-- 32 bits hold a 64-bit number, signed: it lies in -2^31..2^31 - 1
abbrev pub Signed32 : ℕ → Type 0
Signed32 v = plus v 2147483648 < 4294967296

-- With a jump: p is the pooled recording, c the choice of long jumps. Refs are filled first, then jumps, then the constants.
pub record Relaxed (p : Pooled) (c : Choice) (code : List ℕ) : Type 0 where
  -- a ref that no later ref and no constant covers means its label plus its addend; no jump covers one
  pub refs : (i : ℕ) (k : LabelUse) → i < length p.refs → decoded (ref_of p i).code ≡ Use k
      → ((j : ℕ) → i < j → RefMisses p c (moved p c (ref_of p i).offset) (patch_size k) j)
      → ((j : ℕ) → ConstantMisses (moved p c) p (moved p c (ref_of p i).offset) (patch_size k) j)
      → Means k (moved p c (ref_of p i).offset) (plus (target p c (ref_of p i).label) (sign_extend 32 (ref_of p i).addend))
      (part code (moved p c (ref_of p i).offset) (patch_size k))
  -- and leaves what was recorded beside its field; of x86's kinds every bit is the field's own
  pub keeps : (i : ℕ) (k : LabelUse) → i < length p.refs → decoded (ref_of p i).code ≡ Use k
      → Keeps k (part p.code (ref_of p i).offset (patch_size k)) (part code (moved p c (ref_of p i).offset) (patch_size k))
  -- every jump is read, on its condition, as a jump to its label; nothing covers one
  pub jumps : (i : ℕ) (v : RelaxableJump) → i < length p.events → event_of p i ≡ Jump v → (base : ℕ)
      → Reads (plus base (new_start p c i)) (part code (new_start p c i) (new_end p c i - new_start p c i)) v.cc (plus base (target p c v.label))
  -- all padding, an alignment's or a pooled constant's, is NOPs; nothing covers it
  pub padding : (i : ℕ) (a : Alignment) → i < length p.events → event_of p i ≡ Align a
      → AreNops (part code (new_start p c i) (new_end p c i - new_start p c i))
  -- an alignment ends on its multiple, or is empty where that would have taken more than it may spend (document 02, Request Seven)
  pub spends : (i : ℕ) (a : Alignment) → i < length p.events → event_of p i ≡ Align a → Spends a.align a.most (new_start p c i) (new_end p c i)
  -- every field lies within the code
  pub inside : (i : ℕ) (k : LabelUse) → i < length p.refs → decoded (ref_of p i).code ≡ Use k → moved p c (ref_of p i).offset + patch_size k ≤ length code
  -- and all of it lies within the code
  pub within : (i : ℕ) → i < length p.events → new_end p c i ≤ length code

-- from its recorded start to its recorded end
abbrev pub SpendsAsRecorded : Alignment → Type 0
SpendsAsRecorded a = Spends a.align a.most a.start (a.start + a.len)

-- what stands in the field of use i, of kind k, when its turn comes
abbrev pub held_by : Pooled → ℕ → LabelUse → List ℕ
held_by p i k = part (fill_uses p.labels (take i p.uses) p.code) (use_of p i).offset (patch_size k)

-- Without a jump: p is the pooled recording. Nothing moves; uses are filled first, then the constants.
pub record InPlace (p : Pooled) (code : List ℕ) : Type 0 where
  -- a use that no later use and no constant covers means its label: code 16 where sh was 0, code 0 where its field held 0
  pub uses : (i : ℕ) (k : LabelUse) → i < length p.uses → decoded (use_of p i).code ≡ Use k
      → ((j : ℕ) → i < j → UseMisses p (use_of p i).offset (patch_size k) j)
      → ((j : ℕ) → ConstantMisses (λ (offset : ℕ). offset) p (use_of p i).offset (patch_size k) j)
      → Clear k (word_at (held_by p i k) 0) → (code_of k ≡ 0 → word_at (held_by p i k) 0 ≡ 0)
      → Means k (use_of p i).offset (get_or p.labels (use_of p i).label none) (part code (use_of p i).offset (patch_size k))
  -- code 0 adds what its field held: it means, modulo 2^32, its label plus that
  pub adds : (i : ℕ) (k : LabelUse) → i < length p.uses → decoded (use_of p i).code ≡ Use k → code_of k ≡ 0
      → ((j : ℕ) → i < j → UseMisses p (use_of p i).offset (patch_size k) j)
      → ((j : ℕ) → ConstantMisses (λ (offset : ℕ). offset) p (use_of p i).offset (patch_size k) j)
      → (base : ℕ) → meaning k (plus base (use_of p i).offset) (word_at (part code (use_of p i).offset (patch_size k)) 0) % 4294967296
      ≡ demanded k (plus base (plus (get_or p.labels (use_of p i).label none) (sign_extend 32 (word_at (held_by p i k) 0)))) % 4294967296
  -- and exactly that, wherever the label plus what the field held, less the field's end, fits in 32 bits, signed
  pub exact : (i : ℕ) (k : LabelUse) → i < length p.uses → decoded (use_of p i).code ≡ Use k → code_of k ≡ 0
      → ((j : ℕ) → i < j → UseMisses p (use_of p i).offset (patch_size k) j)
      → ((j : ℕ) → ConstantMisses (λ (offset : ℕ). offset) p (use_of p i).offset (patch_size k) j)
      → Signed32 (minus (plus (get_or p.labels (use_of p i).label none) (sign_extend 32 (word_at (held_by p i k) 0))) ((use_of p i).offset + 4))
      → Means k (use_of p i).offset (plus (get_or p.labels (use_of p i).label none) (sign_extend 32 (word_at (held_by p i k) 0)))
      (part code (use_of p i).offset (patch_size k))
  -- every field lies within the code
  pub inside : (i : ℕ) (k : LabelUse) → i < length p.uses → decoded (use_of p i).code ≡ Use k → (use_of p i).offset + patch_size k ≤ length code
  -- a use leaves what its field held beside its own bits; and its field held what was recorded where no earlier use covers it
  pub keeps : (i : ℕ) (k : LabelUse) → i < length p.uses → decoded (use_of p i).code ≡ Use k
      → ((j : ℕ) → i < j → UseMisses p (use_of p i).offset (patch_size k) j)
      → ((j : ℕ) → ConstantMisses (λ (offset : ℕ). offset) p (use_of p i).offset (patch_size k) j)
      → Keeps k (held_by p i k) (part code (use_of p i).offset (patch_size k))
  pub held : (i : ℕ) (k : LabelUse) → ((j : ℕ) → j < i → UseMisses p (use_of p i).offset (patch_size k) j)
      → held_by p i k ≡ part p.code (use_of p i).offset (patch_size k)
  -- an alignment that is kept ends on its multiple, or is empty where that would have taken more than it may spend; nothing has moved
  pub spends : (i : ℕ) (a : Alignment) → i < length p.events → event_of p i ≡ Align a → SpendsAsRecorded a
  -- what no use and no constant covers, recorded padding too, stays as it was recorded and padded
  pub copied : (a n : ℕ) → ((j : ℕ) → UseMisses p a n j) → ((j : ℕ) → ConstantMisses (λ (offset : ℕ). offset) p a n j) → part code a n ≡ part p.code a n

-- n bytes of padding: NOPs on X86 and X64, zeros on AArch64
pub record IsPadding (arch n : ℕ) (bytes : List ℕ) : Type 0 where
  pub nops : arch ≢ arch_a64 → AreNops bytes
  pub zeros : arch ≡ arch_a64 → bytes ≡ replicate n 0

-- the padding before constant j of the pool: where it starts, and how long it is
abbrev pub pad_start : ℕ → tables.View → ℕ → ℕ
pad_start arch v j = length (pooled_to arch v j).code

abbrev pub pad_length : ℕ → tables.View → ℕ → ℕ
pad_length arch v j = padding_length (pad_start arch v j) (constant_alignment (length (asked_constant v j).bytes))

-- The n bytes from a on in the code of p, without a jump, were recorded or pooled as padding: each that no use and no constant covers is the byte that
-- padding has there; where none of them is covered, together they are padding.
pub record Padded (p : Pooled) (arch a n : ℕ) (code : List ℕ) : Type 0 where
  pub each : (x : ℕ) → a ≤ x → x < a + n → ((i : ℕ) → UseMisses p x 1 i) → ((i : ℕ) → ConstantMisses (λ (offset : ℕ). offset) p x 1 i)
      → get_or code x 0 ≡ get_or (padding arch n) (x - a) 0
  pub whole : ((i : ℕ) → UseMisses p a n i) → ((i : ℕ) → ConstantMisses (λ (offset : ℕ). offset) p a n i) → IsPadding arch n (part code a n)

-- the padding before every constant
abbrev pub PoolPadded : ℕ → tables.View → List ℕ → Type 0
PoolPadded arch v code = (j : ℕ) → j < length v.asked → Padded (pooled arch v) arch (pad_start arch v j) (pad_length arch v j) code

-- the padding of an alignment that was recorded when the recording was r; p is the pooled recording in the end
abbrev pub AlignPadded : Recording → ℕ → ℕ → Pooled → List ℕ → Type 0
AlignPadded r multiple most p code = Padded p r.buffer.arch r.buffer.code (padding_within r.buffer.code multiple most) code

-- the finished bytes: as many of the output as the answer says
abbrev pub finished_code : Recording → List Segment → List ℕ → List ℕ
finished_code r ss output = take (finish r ss output).0.code.len (finish r ss output).1.1.1.1

-- of the finished code of a recording
pub record Demand2 (r : Recording) (code : List ℕ) : Type 0 where
  pub jumped : moves (pooled r.buffer.arch (tables.view r)).events ≡ true
      → Relaxed (pooled r.buffer.arch (tables.view r)) (settled (pooled r.buffer.arch (tables.view r))).choice code
  pub straight : moves (pooled r.buffer.arch (tables.view r)).events ≡ false
      → InPlace (pooled r.buffer.arch (tables.view r)) code × PoolPadded r.buffer.arch (tables.view r) code
