-- Every claim of the demands, restated in full: one that is dropped, or put under a premise, is refused here.
use mathlib.Core.Path.{◌≡◌}
use mathlib.Core.Logic.{◌≢◌, ◌⊎◌}
use mathlib.Core.Bool.{true, false}
use mathlib.Core.List.{List, [], ◌∷◌, map}
use Prim.Native.Nat.{ℕ, ◌+◌, ◌-◌, ◌*◌, ◌%◌, ◌≤◌, ◌<◌}
use lib.ListN.{length, get_or, drop, replicate}
use Rattle.words.specs.Words.{word_at, over_words}
use Rattle.encoder.specs.Intel.{nop_length, AreNops}
use Rattle.encoder.specs.Padding.{Spends}
use Rattle.encoder.proofs.Reading.{nop_opens}
use Rattle.fields.specs.declared.LabelUse.{LabelUse}
use Rattle.fields.specs.Words64.{plus, minus, sign_extend}
use Rattle.fields.specs.Bits.{bits}
use Rattle.fields.specs.Kinds.{Use, arch_a64, info, code_of, patch_size, decoded}
use Rattle.fields.specs.Meaning.{meaning, demanded, load_multiple, Clear, in_field}
use Rattle.relax.specs.declared.LayoutEvent.TheVariants.{Jump, Align}
use Rattle.relax.specs.declared.RelaxableJump.{RelaxableJump}
use Rattle.relax.specs.declared.Alignment.{Alignment}
use Rattle.relax.specs.declared.LayoutEvent.{LayoutEvent}
use Rattle.relax.specs.Events.{no_event}
use Rattle.buffer.specs.State.{none}
use Rattle.buffer.specs.Calls.{padding}
use Rattle.recording.specs.Calls.{Recording}
use Rattle.recording.specs.View.{View, entries, view}
use Rattle.fresh.specs.Pooled.{Pooled, asked_constant, pooled}
use Rattle.fresh.specs.Forms.{Branch, branches, role_of, moves}
use Rattle.fresh.specs.Fresh.{Choice, walk, starts, moved, target}
use Rattle.fresh.specs.Rounds.{all_short, jumps, Rounds, settled}
use Rattle.fresh.specs.Fill.{part, assembled}
use Rattle.fresh.specs.Demand.{Fits, Branches, NoAlign, Includes, Demand3}
use Rattle.finish.specs.Finish.{Finished, Left}
use Rattle.wargnifla.specs.Boundary.{record_size, record_of, Lent, recording_in}
use Rattle.demands.specs.Reading.{Reads}
use Rattle.demands.specs.Demand1.{zeros, Unchanged, LentUnchanged}
use Rattle.demands.specs.Demand2.{
  use_of,
  ref_of,
  event_of,
  new_start,
  new_end,
  RefMisses,
  UseMisses,
  ConstantMisses,
  Means,
  Relaxed,
  held_by,
  InPlace,
  IsPadding,
  Padded,
  PoolPadded,
  Demand2,
}
use Rattle.demands.specs.Constants.{alignment_of, offset_of, Constants}
use Rattle.demands.specs.Boundary.{Answer, finished_code, labels_of, word_of, pooled_in, Demands}

abbrev here : ℕ → ℕ
here offset = offset

-- The words that the claims are made of, written out: one that asks less, or more where it is a premise, is refused here.
module _ {multiple most start end : ℕ} (s : Spends multiple most start end) where
  spends_to_a_multiple : (end % multiple ≡ 0) ⊎ ((end ≡ start) × ((k : ℕ) → (start + k) % multiple ≡ 0 → most < k))
  spends_to_a_multiple = s.ends

  spends_no_more : end ≤ start + most
  spends_no_more = s.few

-- padding starts with 90 or 0F 1F, or with 66 and one of them
nops_open : (l : List ℕ) → 0 < nop_length l
    → ((get_or l 0 0 ≡ 0x90) ⊎ ((get_or l 0 0 ≡ 0x0F) × (get_or l 1 0 ≡ 0x1F)))
    ⊎ ((get_or l 0 0 ≡ 0x66) × ((get_or (drop 1 l) 0 0 ≡ 0x90) ⊎ ((get_or (drop 1 l) 0 0 ≡ 0x0F) × (get_or (drop 1 l) 1 0 ≡ 0x1F))))
nops_open = nop_opens

-- a recording whose every event names a label has neither alignment nor constant
every_jump_counts : (b : Branch) → Branches (branches b)
every_jump_counts b = tt

no_event_no_alignment : NoAlign []
unfolding NoAlign
no_event_no_alignment = tt

no_alignment_before : (e : LayoutEvent) (es : List LayoutEvent) (b : Branch) → role_of e ≡ branches b → NoAlign es → NoAlign (e ∷ es)
unfolding NoAlign
no_alignment_before e es b r rest = (rw r tt, rest)

module _ (p : Pooled) (c : Choice) where
  abbrev InReach : Type 0
  InReach = (i : ℕ) (b : Branch) → i < length p.events → role_of (get_or p.events i no_event) ≡ branches b → get_or c i false ≡ false
      → (get_or (starts 0 (walk p) c) i 0 + b.short.place + (info b.short.kind).from ≤ target p c b.label + (info b.short.kind).low)
      × (target p c b.label ≤ get_or (starts 0 (walk p) c) i 0 + b.short.place + (info b.short.kind).from + (info b.short.kind).high)

  fits_in_reach : Fits p c → InReach
  unfolding Fits
  fits_in_reach fits i b known role short = ((fits i b known role short).back, (fits i b known role short).ahead)

  in_reach_fits : InReach → Fits p c
  unfolding Fits
  in_reach_fits reach i b known role short = record { back = (reach i b known role short).0; ahead = (reach i b known role short).1 }

includes_each : (c d : Choice) → Includes c d → (i : ℕ) → get_or c i false ≡ true → get_or d i false ≡ true
unfolding Includes
includes_each c d h = h

-- Demand 1.
module _ {r : Recording} {output : List ℕ} {answer : Finished × Left} (d : Unchanged r output answer) where
  counts_stay : answer.0.buffer ≡ r.buffer
  counts_stay = d.counts

  zeros_given : answer.0.code ≡ zeros
  zeros_given = d.given

  labels_stay : answer.1.0 ≡ r.labels
  labels_stay = d.labels

  relocs_stay : answer.1.1.0 ≡ r.relocs
  relocs_stay = d.relocs

  output_stays : answer.1.1.1.1 ≡ output
  output_stays = d.written

module _ {l : Lent} {output finalized : List ℕ} {answer : Answer} (d : LentUnchanged l output finalized answer) where
  lent_counts_stay : answer.1.0 ≡ l.counts
  lent_counts_stay = d.counts

  lent_labels_stay : answer.1.1.0.0 ≡ l.labels
  lent_labels_stay = d.labels

  lent_relocs_stay : answer.1.1.0.1.0 ≡ l.relocs
  lent_relocs_stay = d.relocs

  lent_output_stays : answer.1.1.0.1.1.1 ≡ output
  lent_output_stays = d.written

  lent_zeros_given : record_size ≤ length finalized → answer.1.1.1 ≡ over_words finalized (record_of zeros)
  lent_zeros_given = d.given

-- Demand 2, with a jump.
module _ {p : Pooled} {c : Choice} {code : List ℕ} (d : Relaxed p c code) where
  refs_mean : (i : ℕ) (k : LabelUse) → i < length p.refs → decoded (ref_of p i).code ≡ Use k
      → ((j : ℕ) → i < j → RefMisses p c (moved p c (ref_of p i).offset) (patch_size k) j)
      → ((j : ℕ) → ConstantMisses (moved p c) p (moved p c (ref_of p i).offset) (patch_size k) j)
      → Means k (moved p c (ref_of p i).offset) (plus (target p c (ref_of p i).label) (sign_extend 32 (ref_of p i).addend))
      (part code (moved p c (ref_of p i).offset) (patch_size k))
  refs_mean = d.refs

  refs_keep : (i : ℕ) (k : LabelUse) → i < length p.refs → decoded (ref_of p i).code ≡ Use k
      → (n : ℕ) → n < 8 * patch_size k → in_field k n ≡ false
      → bits n n (word_at (part code (moved p c (ref_of p i).offset) (patch_size k)) 0) ≡ bits n n (word_at (part p.code (ref_of p i).offset (patch_size k)) 0)
  refs_keep = d.keeps

  jumps_read : (i : ℕ) (v : RelaxableJump) → i < length p.events → event_of p i ≡ Jump v → (base : ℕ)
      → Reads (plus base (new_start p c i)) (part code (new_start p c i) (new_end p c i - new_start p c i)) v.cc (plus base (target p c v.label))
  jumps_read = d.jumps

  padding_reads : (i : ℕ) (a : Alignment) → i < length p.events → event_of p i ≡ Align a
      → AreNops (part code (new_start p c i) (new_end p c i - new_start p c i))
  padding_reads = d.padding

  alignments_spend : (i : ℕ) (a : Alignment) → i < length p.events → event_of p i ≡ Align a → Spends a.align a.most (new_start p c i) (new_end p c i)
  alignments_spend = d.spends

  refs_lie_within : (i : ℕ) (k : LabelUse) → i < length p.refs → decoded (ref_of p i).code ≡ Use k → moved p c (ref_of p i).offset + patch_size k ≤ length code
  refs_lie_within = d.inside

  events_lie_within : (i : ℕ) → i < length p.events → new_end p c i ≤ length code
  events_lie_within = d.within

-- Without one.
module _ {p : Pooled} {code : List ℕ} (d : InPlace p code) where
  uses_mean : (i : ℕ) (k : LabelUse) → i < length p.uses → decoded (use_of p i).code ≡ Use k
      → ((j : ℕ) → i < j → UseMisses p (use_of p i).offset (patch_size k) j)
      → ((j : ℕ) → ConstantMisses here p (use_of p i).offset (patch_size k) j)
      → Clear k (word_at (held_by p i k) 0) → (code_of k ≡ 0 → word_at (held_by p i k) 0 ≡ 0)
      → Means k (use_of p i).offset (get_or p.labels (use_of p i).label none) (part code (use_of p i).offset (patch_size k))
  uses_mean = d.uses

  uses_add : (i : ℕ) (k : LabelUse) → i < length p.uses → decoded (use_of p i).code ≡ Use k → code_of k ≡ 0
      → ((j : ℕ) → i < j → UseMisses p (use_of p i).offset (patch_size k) j)
      → ((j : ℕ) → ConstantMisses here p (use_of p i).offset (patch_size k) j)
      → (base : ℕ) → meaning k (plus base (use_of p i).offset) (word_at (part code (use_of p i).offset (patch_size k)) 0) % 4294967296
      ≡ demanded k (plus base (plus (get_or p.labels (use_of p i).label none) (sign_extend 32 (word_at (held_by p i k) 0)))) % 4294967296
  uses_add = d.adds

  uses_add_exactly : (i : ℕ) (k : LabelUse) → i < length p.uses → decoded (use_of p i).code ≡ Use k → code_of k ≡ 0
      → ((j : ℕ) → i < j → UseMisses p (use_of p i).offset (patch_size k) j)
      → ((j : ℕ) → ConstantMisses here p (use_of p i).offset (patch_size k) j)
      → plus (minus (plus (get_or p.labels (use_of p i).label none) (sign_extend 32 (word_at (held_by p i k) 0))) ((use_of p i).offset + 4)) 2147483648 < 4294967296
      → (base : ℕ) → base % load_multiple k ≡ 0 → meaning k (plus base (use_of p i).offset) (word_at (part code (use_of p i).offset (patch_size k)) 0)
      ≡ demanded k (plus base (plus (get_or p.labels (use_of p i).label none) (sign_extend 32 (word_at (held_by p i k) 0))))
  uses_add_exactly = d.exact

  uses_lie_within : (i : ℕ) (k : LabelUse) → i < length p.uses → decoded (use_of p i).code ≡ Use k → (use_of p i).offset + patch_size k ≤ length code
  uses_lie_within = d.inside

  uses_keep : (i : ℕ) (k : LabelUse) → i < length p.uses → decoded (use_of p i).code ≡ Use k
      → ((j : ℕ) → i < j → UseMisses p (use_of p i).offset (patch_size k) j)
      → ((j : ℕ) → ConstantMisses here p (use_of p i).offset (patch_size k) j)
      → (n : ℕ) → n < 8 * patch_size k → in_field k n ≡ false
      → bits n n (word_at (part code (use_of p i).offset (patch_size k)) 0) ≡ bits n n (word_at (held_by p i k) 0)
  uses_keep = d.keeps

  uses_hold : (i : ℕ) (k : LabelUse) → ((j : ℕ) → j < i → UseMisses p (use_of p i).offset (patch_size k) j)
      → held_by p i k ≡ part p.code (use_of p i).offset (patch_size k)
  uses_hold = d.held

  kept_alignments_spend : (i : ℕ) (a : Alignment) → i < length p.events → event_of p i ≡ Align a
      → Spends a.align a.most a.start (a.start + a.len)
  kept_alignments_spend = d.spends

  uncovered_stays : (a n : ℕ) → ((j : ℕ) → UseMisses p a n j) → ((j : ℕ) → ConstantMisses here p a n j) → part code a n ≡ part p.code a n
  uncovered_stays = d.copied

module _ {arch n : ℕ} {bytes : List ℕ} (d : IsPadding arch n bytes) where
  nops_on_x86 : arch ≢ arch_a64 → AreNops bytes
  nops_on_x86 = d.nops

  zeros_on_aarch64 : arch ≡ arch_a64 → bytes ≡ replicate n 0
  zeros_on_aarch64 = d.zeros

module _ {p : Pooled} {arch a n : ℕ} {code : List ℕ} (d : Padded p arch a n code) where
  each_byte_pads : (x : ℕ) → a ≤ x → x < a + n → ((i : ℕ) → UseMisses p x 1 i) → ((i : ℕ) → ConstantMisses here p x 1 i)
      → get_or code x 0 ≡ get_or (padding arch n) (x - a) 0
  each_byte_pads = d.each

  all_bytes_pad : ((i : ℕ) → UseMisses p a n i) → ((i : ℕ) → ConstantMisses here p a n i) → IsPadding arch n (part code a n)
  all_bytes_pad = d.whole

module _ {r : Recording} {code : List ℕ} (d : Demand2 r code) where
  relaxed_with_a_jump : moves (pooled r.buffer.arch (view r)).events ≡ true
      → Relaxed (pooled r.buffer.arch (view r)) (settled (pooled r.buffer.arch (view r))).choice code
  relaxed_with_a_jump = d.jumped

  in_place_without : moves (pooled r.buffer.arch (view r)).events ≡ false
      → InPlace (pooled r.buffer.arch (view r)) code × PoolPadded r.buffer.arch (view r) code
  in_place_without = d.straight

-- Demand 3.
module _ {p : Pooled} {code labels : List ℕ} {len layouts : ℕ} (d : Demand3 p code labels len layouts) where
  layouts_are_rounds : Rounds p (all_short p.events) d.choice layouts
  layouts_are_rounds = d.rounds

  length_is_fresh : len ≡ length (assembled p d.choice)
  length_is_fresh = d.finished

  bytes_are_fresh : code ≡ assembled p d.choice
  bytes_are_fresh = d.bytes

  offsets_are_fresh : labels ≡ map (moved p d.choice) p.labels
  offsets_are_fresh = d.offsets

  layouts_are_few : layouts ≤ jumps p.events + 1
  layouts_are_few = d.few

  short_jumps_reach : Fits p d.choice
  short_jumps_reach = d.reach

  long_jumps_are_least : NoAlign p.events → (e : Choice) → Fits p e → Includes d.choice e
  long_jumps_are_least = d.least

-- Pooled constants.
module _ {v : View} {code labels : List ℕ} {alignment : ℕ} (d : Constants v code labels alignment) where
  constants_stand : (j : ℕ) → j < length v.asked → part code (offset_of v labels j) (length (asked_constant v j).bytes) ≡ (asked_constant v j).bytes
  constants_stand = d.stands

  constants_are_aligned : (j : ℕ) → j < length v.asked → offset_of v labels j % alignment_of v j ≡ 0
  constants_are_aligned = d.aligned

  alignment_is_32_or_64 : (alignment ≡ 32) ⊎ (alignment ≡ 64)
  alignment_is_32_or_64 = d.known

  alignment_is_a_multiple : (j : ℕ) → j < length v.asked → alignment % alignment_of v j ≡ 0
  alignment_is_a_multiple = d.multiple

  alignment_is_least : (m : ℕ) → 32 ≤ m → ((j : ℕ) → j < length v.asked → alignment_of v j ≤ m) → alignment ≤ m
  alignment_is_least = d.least

  loaded_constants_are_aligned : (base j : ℕ) → base % alignment ≡ 0 → j < length v.asked → (base + offset_of v labels j) % alignment_of v j ≡ 0
  loaded_constants_are_aligned = d.loaded

-- All of them, at the C boundary.
module _ {l : Lent} {output finalized : List ℕ} {a : Answer} (d : Demands l output finalized a) where
  c_demand1 : a.0 ≢ 0 → LentUnchanged l output finalized a
  c_demand1 = d.one

  c_demand2 : a.0 ≡ 0 → Demand2 (recording_in l) (finished_code a)
  c_demand2 = d.two

  c_demand3 : a.0 ≡ 0 → moves (pooled_in l).events ≡ true
      → Demand3 (pooled_in l) (finished_code a) (entries (word_at (labels_of a)) (recording_in l).buffer.labels) (word_of a 1) (word_of a 3)
  c_demand3 = d.three

  c_unmoved : a.0 ≡ 0 → moves (pooled_in l).events ≡ false → entries (word_at (labels_of a)) (recording_in l).buffer.labels ≡ (pooled_in l).labels
  c_unmoved = d.unmoved

  c_uses_bound : a.0 ≡ 0 → (i : ℕ) → i < length (pooled_in l).uses
      → get_or (entries (word_at (labels_of a)) (recording_in l).buffer.labels) (use_of (pooled_in l) i).label none ≢ none
  c_uses_bound zero = (d.bound zero).uses

  c_refs_bound : a.0 ≡ 0 → (i : ℕ) → i < length (pooled_in l).refs
      → get_or (entries (word_at (labels_of a)) (recording_in l).buffer.labels) (ref_of (pooled_in l) i).label none ≢ none
  c_refs_bound zero = (d.bound zero).refs

  c_jumps_bound : a.0 ≡ 0 → (i : ℕ) (v : RelaxableJump) → i < length (pooled_in l).events → event_of (pooled_in l) i ≡ Jump v
      → get_or (entries (word_at (labels_of a)) (recording_in l).buffer.labels) v.label none ≢ none
  c_jumps_bound zero = (d.bound zero).jumps

  c_constants : a.0 ≡ 0 → Constants (view (recording_in l)) (finished_code a) (entries (word_at (labels_of a)) (recording_in l).buffer.labels) (word_of a 2)
  c_constants = d.constants
