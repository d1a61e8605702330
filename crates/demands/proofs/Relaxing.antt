-- The code of a fresh assembly at a choice that fits meets demand 2.
use mathlib.Core.Path.{◌≡◌, refl, sym, ap, ◌∙◌, subst}
use mathlib.Core.Logic.{◌⊎◌, inl, inr, ◌≢◌, ⊎_elim}
use mathlib.Core.Bool.{Bool, true, false}
use mathlib.Core.List.{List}
use Prim.Native.Nat.{ℕ, ◌+◌, ◌-◌, ◌*◌, ◌≤◌, ◌<◌}
use native.Mathlib.Nat.{mod-lt}
use native.Mathlib.Omega.{arith}
use lib.ListN.{length, get_or}
use borrow.Author.Tests.{ne_eqb, le-leb, lt-ltb}
use Rattle.seqs.proofs.Booleans.{true_is_not_false}
use Rattle.seqs.specs.Over.{over}
use Rattle.seqs.proofs.Numbers.{eq_or_ne}
use Rattle.encoder.specs.Padding.{padding_within, Spends}
use Rattle.encoder.specs.Intel.{AreNops}
use Rattle.encoder.proofs.Reading.{nops_read}
use Rattle.fields.specs.declared.LabelUse.{LabelUse}
use Rattle.fields.specs.declared.LabelUse.TheVariants.{
  X86JmpRel32,
  X86BranchRel8,
  A64Branch14,
  A64Branch19,
  A64Branch26,
  A64Ldr19,
  A64Adr21,
  A64Adrp21,
  A64AddAbsLo12,
}
use Rattle.fields.specs.Meaning.{covers, in_field}
use Rattle.fields.specs.Words64.{plus, minus, sign_extend}
use Rattle.fields.specs.Kinds.{Decoded, Use, info, patch_size, decoded}
use Rattle.fields.specs.Reach.{can_reach_delta}
use Rattle.fields.specs.Patch.{patched}
use Rattle.relax.specs.declared.LayoutEvent.{LayoutEvent}
use Rattle.relax.specs.declared.LayoutEvent.TheVariants.{Jump, Align}
use Rattle.relax.specs.declared.RelaxableJump.{RelaxableJump}
use Rattle.relax.specs.declared.Alignment.{Alignment}
use Rattle.buffer.specs.State.{none}
use Rattle.fresh.specs.Pooled.{constant_alignment, Pooled}
use Rattle.fresh.specs.Forms.{form, width, Branch, field_of, pads, branches, branch_of, role_of}
use Rattle.fresh.specs.Fresh.{Choice, starts, walk, placed, moved, target}
use Rattle.fresh.specs.Fill.{part, fill_refs, fill_jumps, fill, assembled}
use Rattle.fresh.specs.Demand.{Reach, Fits}
use Rattle.fresh.specs.Order.{Apart, WellFormed}
use Rattle.fresh.proofs.AlignedEnds.{EndsOn}
use Rattle.fresh.proofs.Least.{Bound}
use Rattle.fresh.specs.steps.Runs.{Small, Modest}
use Rattle.fresh.proofs.Forms.{field_inside, alignment_spends}
use Rattle.fresh.proofs.Loops.{modest_at}
use Rattle.fresh.proofs.Fill.{length_assembled, length_fill_refs}
use Rattle.fresh.proofs.Within.{moved_le, moved_within, end_within}
use Rattle.fields.specs.Kinds.{size_of}
use Rattle.emit.specs.steps.Emit.{Encodes}
use Rattle.finish.specs.Refusals.{reaches_by, ref_reaches}
use Rattle.demands.specs.Reading.{Reads}
use Rattle.demands.specs.Demand2.{Disjoint, ref_of, event_of, constant_of, new_start, new_end, RefMisses, ConstantMisses, Means, Keeps, Relaxed}
use Rattle.demands.proofs.Kept.{FieldMisses, refs_kept, jumps_kept, pool_kept, ref_filled_lem, jump_filled}
use Rattle.demands.proofs.Placing.{Standing, stands_placed, form_stands}
use Rattle.demands.proofs.Missing.{moved_beside, events_apart}
use Rattle.demands.proofs.Jumping.{Near, short_reads, long_reads}
use Rattle.demands.proofs.Fielding.{x86_means}

-- what holds of a pooled recording with a jump that finish does not refuse, at the settled choice
pub record Fitting (p : Pooled) (c : Choice) : Type 0 where
  pub formed : WellFormed p
  pub recorded : length p.code < none
  pub small : length (placed p c) < 2147483648
  pub fits : Fits p c
  pub padded : p.arch ≢ 6
  pub modest : Modest p.events
  pub bound : Bound p.labels p.events
  pub known : (i : ℕ) (v : RelaxableJump) → i < length p.events → event_of p i ≡ Jump v → Encodes v.cc
  pub native : (i : ℕ) (k : LabelUse) → i < length p.refs → decoded (ref_of p i).code ≡ Use k → (info k).x86 ≡ true
  pub apart : (i : ℕ) → i < length p.refs → Apart p (ref_of p i).offset (size_of (decoded (ref_of p i).code))
  pub pool_apart : (i : ℕ) → i < length p.pool → Apart p (constant_of p i).offset (length (constant_of p i).bytes)
  pub pool_aligned : (i : ℕ) → i < length p.pool → EndsOn p (constant_alignment (length (constant_of p i).bytes)) (constant_of p i).offset
  pub reach : (i : ℕ) → i < length p.refs → ref_reaches p c (ref_of p i) ≡ true

-- n bytes from s to e, or the last d of them, share none with what lies before s or after e
before_or_after : (s e a n : ℕ) → s ≤ e → (a + n ≤ s) ⊎ (e ≤ a) → Disjoint s (e - s) a n
before_or_after s e a n h (inl b) = λ x p q u v. omega arith
before_or_after s e a n h (inr b) = λ x p q u v. omega arith

inner_disjoint : (s e q d a n : ℕ) → s + q + d ≤ e → (a + n ≤ s) ⊎ (e ≤ a) → Disjoint a n (s + q) d
inner_disjoint s e q d a n h (inl b) = λ x p r u v. omega arith
inner_disjoint s e q d a n h (inr b) = λ x p r u v. omega arith

-- the field of event j, if it is a jump, covers none of the n bytes from a on
abbrev JumpMisses : Pooled → Choice → ℕ → ℕ → ℕ → Type 0
JumpMisses p c a n j = j < length p.events → FieldMisses (event_of p j) (get_or c j false) (new_start p c j) a n

reach_of : (d : Decoded) (k : LabelUse) (distance : ℕ) → d ≡ Use k → reaches_by d distance ≡ true → can_reach_delta k distance ≡ true
reach_of d k distance e h = rw e at h

-- a form with its field patched is read as a jump to the label
form_reads : (arch : ℕ) (v : RelaxableJump) (recorded : List ℕ) (long : Bool) (base start label : ℕ) → label < 2147483648
    → start + width (Jump v) long start < 2147483648 → Encodes v.cc → (long ≡ false → Reach (branch_of v) start label)
    → (held : List ℕ) → length held ≡ patch_size (field_of (branch_of v) long).kind
    → Reads (plus base start)
    (over (form arch (Jump v) recorded long start) (field_of (branch_of v) long).place
    (patched (field_of (branch_of v) long).kind (start + (field_of (branch_of v) long).place) (plus label 0) held))
    v.cc (plus base label)
unfolding form width
form_reads arch v recorded false base start label l h known r held size =
    let near : Near (start + 2) label = (omega (arith, (r refl).back), omega (arith, (r refl).ahead)) in
    short_reads base start label l v.cc known h near held size
form_reads arch v recorded true base start label l h known r held size = long_reads base start label l v.cc known h held size

whole : (n b : ℕ) → b < n → covers 0 n b ≡ true
whole n b h = rw (le-leb 0 b (omega arith), lt-ltb b (0 + n) (omega arith)) refl

-- of x86's kinds every bit is the field's own
x86_whole : (k : LabelUse) (b : ℕ) → (info k).x86 ≡ true → b < 8 * patch_size k → in_field k b ≡ false → ⊥
x86_whole X86JmpRel32 b native within outside = true_is_not_false (sym (whole 32 b within) ∙ outside)
x86_whole X86BranchRel8 b native within outside = true_is_not_false (sym (whole 8 b within) ∙ outside)
x86_whole A64Branch14 b native within outside = true_is_not_false (sym native)
x86_whole A64Branch19 b native within outside = true_is_not_false (sym native)
x86_whole A64Branch26 b native within outside = true_is_not_false (sym native)
x86_whole A64Ldr19 b native within outside = true_is_not_false (sym native)
x86_whole A64Adr21 b native within outside = true_is_not_false (sym native)
x86_whole A64Adrp21 b native within outside = true_is_not_false (sym native)
x86_whole A64AddAbsLo12 b native within outside = true_is_not_false (sym native)

module _ (p : Pooled) (c : Choice) (fitting : Fitting p c) where
  abbrev at : ℕ → ℕ
  at = moved p c

  abbrev named : ℕ → ℕ
  named label = target p c label

  abbrev new : List ℕ
  new = starts 0 (walk p) c

  abbrev filled : List ℕ
  filled = fill_refs at p.labels p.refs (placed p c)

  -- a part that no constant covers
  pool_stays : (a n : ℕ) → ((j : ℕ) → ConstantMisses at p a n j)
      → part (assembled p c) a n ≡ part (fill_jumps named p.events c new filled) a n
  unfolding assembled fill
  pool_stays a n miss = pool_kept at p.pool _ a n _ miss

  -- a part that no jump and no constant covers
  jumps_stay : (a n : ℕ) → ((j : ℕ) → JumpMisses p c a n j) → ((j : ℕ) → ConstantMisses at p a n j) → part (assembled p c) a n ≡ part filled a n
  jumps_stay a n jumps constants = pool_stays a n constants ∙ jumps_kept named p.events c new filled a n (λ j l. jumps j l)

  -- where event i stands
  standing : (i : ℕ) → i < length p.events → Standing p.arch (event_of p i) (get_or c i false) 0 (new_start p c i) (new_end p c i) (placed p c)
  standing i h = let s = stands_placed p c i h in rw s.ends_at at s

  -- the field of a jump lies in it
  in_jump : (i : ℕ) (b : Branch) → i < length p.events → role_of (event_of p i) ≡ branches b
      → new_start p c i + (field_of b (get_or c i false)).place + patch_size (field_of b (get_or c i false)).kind ≤ new_end p c i
  in_jump i b h r = omega (arith, field_inside (event_of p i) b r (get_or c i false) (new_start p c i))

  -- no field and no constant apart from the events covers one
  beside : (offset n : ℕ) → Apart p offset n → (i : ℕ) → i < length p.events → (at offset + n ≤ new_start p c i) ⊎ (new_end p c i ≤ at offset)
  beside offset n a i h = moved_beside p c fitting.formed offset n (omega (arith, a.0, fitting.recorded)) a i h

  event_missed : (i : ℕ) → i < length p.events → (offset n : ℕ) → Apart p offset n
      → Disjoint (new_start p c i) (new_end p c i - new_start p c i) (at offset) n
  event_missed i h offset n a = before_or_after (new_start p c i) (new_end p c i) (at offset) n (omega arith) (beside offset n a i h)

  jump_misses_field : (offset n : ℕ) → Apart p offset n → (j : ℕ) → JumpMisses p c (at offset) n j
  jump_misses_field offset n a j l b r =
      inner_disjoint (new_start p c j) (new_end p c j) (field_of b (get_or c j false)).place (patch_size (field_of b (get_or c j false)).kind) (at offset) n
      (in_jump j b l r) (beside offset n a j l)

  jump_misses_event : (i : ℕ) → i < length p.events → (j : ℕ) → j ≢ i → JumpMisses p c (new_start p c i) (new_end p c i - new_start p c i) j
  jump_misses_event i h j ne l b r =
      inner_disjoint (new_start p c j) (new_end p c j) (field_of b (get_or c j false)).place (patch_size (field_of b (get_or c j false)).kind) (new_start p c i)
      (new_end p c i - new_start p c i) (in_jump j b l r) (⊎_elim (λ x. inl (omega arith)) (λ x. inr x) (events_apart p c i j ne h l))

  field_apart : (i : ℕ) (k : LabelUse) → i < length p.refs → decoded (ref_of p i).code ≡ Use k → Apart p (ref_of p i).offset (patch_size k)
  field_apart i k h is = subst (λ (d : Decoded). Apart p (ref_of p i).offset (size_of d)) is (fitting.apart i h)

  ref_within : (i : ℕ) (k : LabelUse) → i < length p.refs → decoded (ref_of p i).code ≡ Use k
      → at (ref_of p i).offset + patch_size k ≤ length (placed p c)
  ref_within i k h is =
      let a = field_apart i k h is in
      moved_within p c fitting.formed (ref_of p i).offset (patch_size k) (omega (arith, a.0, fitting.recorded)) a

  ref_means : (i : ℕ) (k : LabelUse) → i < length p.refs → decoded (ref_of p i).code ≡ Use k
      → ((j : ℕ) → i < j → RefMisses p c (at (ref_of p i).offset) (patch_size k) j)
      → ((j : ℕ) → ConstantMisses at p (at (ref_of p i).offset) (patch_size k) j)
      → Means k (at (ref_of p i).offset) (plus (target p c (ref_of p i).label) (sign_extend 32 (ref_of p i).addend))
      (part (assembled p c) (at (ref_of p i).offset) (patch_size k))
  unfolding ref_reaches
  ref_means i k h is refs constants =
      let offset = at (ref_of p i).offset in
      let goal = plus (target p c (ref_of p i).label) (sign_extend 32 (ref_of p i).addend) in
      let f = ref_filled_lem at p.labels p.refs (placed p c) _ i k h is (ref_within i k h is) refs in
      subst (λ (bytes : List ℕ). Means k offset goal bytes)
      (sym (jumps_stay offset (patch_size k) (jump_misses_field (ref_of p i).offset (patch_size k) (field_apart i k h is)) constants ∙ f.is))
      (x86_means k offset goal f.held (fitting.native i k h is) f.size
      (omega (arith, ref_within i k h is, fitting.small))
      (mod-lt (target p c (ref_of p i).label + sign_extend 32 (ref_of p i).addend) (omega arith))
      (reach_of (decoded (ref_of p i).code) k (minus goal offset) is (fitting.reach i h)))

  ref_keeps : (i : ℕ) (k : LabelUse) → i < length p.refs → decoded (ref_of p i).code ≡ Use k
      → Keeps k (part p.code (ref_of p i).offset (patch_size k)) (part (assembled p c) (at (ref_of p i).offset) (patch_size k))
  ref_keeps i k h is b within outside = absurd (x86_whole k b (fitting.native i k h is) within outside)

  label_small : (i : ℕ) (b : Branch) → i < length p.events → role_of (event_of p i) ≡ branches b → target p c b.label < 2147483648
  label_small i b h r =
      let lies = fitting.formed.landed b.label (fitting.bound i b h r) in
      omega (arith, fitting.small, moved_le p c (get_or p.labels b.label none) (omega (arith, lies.0, fitting.recorded)))

  -- its form stands
  form_stays : (i : ℕ) (h : i < length p.events)
      → part filled (new_start p c i) (new_end p c i - new_start p c i) ≡ form p.arch (event_of p i) (standing i h).recorded (get_or c i false) (new_start p c i)
  form_stays i h =
      refs_kept at p.labels p.refs (placed p c) (new_start p c i) (new_end p c i - new_start p c i) _
      (λ j l. event_missed i h (ref_of p j).offset (size_of (decoded (ref_of p j).code)) (fitting.apart j l))
      ∙ form_stands p.arch (event_of p i) (get_or c i false) (new_start p c i) (new_end p c i) (placed p c) (standing i h)

  constants_miss : (i : ℕ) → i < length p.events → (j : ℕ) → ConstantMisses at p (new_start p c i) (new_end p c i - new_start p c i) j
  constants_miss i h j l = event_missed i h (constant_of p j).offset (length (constant_of p j).bytes) (fitting.pool_apart j l)

  end_small : (i : ℕ) → i < length p.events → new_end p c i < 2147483648
  end_small i h = omega (arith, fitting.small, end_within p c i h)

  filled_long : length filled ≡ length (placed p c)
  filled_long = length_fill_refs at p.labels p.refs (placed p c)

  jump_reads : (i : ℕ) (v : RelaxableJump) → i < length p.events → event_of p i ≡ Jump v → (base : ℕ)
      → Reads (plus base (new_start p c i)) (part (assembled p c) (new_start p c i) (new_end p c i - new_start p c i)) v.cc (plus base (target p c v.label))
  unfolding Fits role_of
  jump_reads i v h is base =
      let b = branch_of v in
      let r : role_of (event_of p i) ≡ branches b = ap role_of is in
      let start = new_start p c i in
      let n = new_end p c i - new_start p c i in
      let long = get_or c i false in
      let label = target p c v.label in
      let recorded = (standing i h).recorded in
      let stands : part filled start n ≡ form p.arch (Jump v) recorded long start
      = form_stays i h ∙ ap (λ (e : LayoutEvent). form p.arch e recorded long start) is in
      let wide : start + width (Jump v) long start < 2147483648
      = subst (λ (e : LayoutEvent). start + width e long start < 2147483648) is (end_small i h) in
      let f = jump_filled named p.events c new filled i n b h r (omega (arith, filled_long, in_jump i b h r, end_within p c i h))
      (λ j ne l. jump_misses_event i h j ne l) in
      let field = patched (field_of b long).kind (start + (field_of b long).place) (plus label 0) f.held in
      let written = pool_stays start n (constants_miss i h) ∙ f.is ∙ ap (λ (x : List ℕ). over x (field_of b long).place field) stands in
      subst (λ (bytes : List ℕ). Reads (plus base start) bytes v.cc (plus base label)) (sym written)
      (form_reads p.arch v recorded long base start label (label_small i b h r) wide (fitting.known i v h is) (λ short. fitting.fits i b h r short)
      f.held f.size)

  align_nops : (a : Alignment) (recorded : List ℕ) (long : Bool) (n : ℕ) → AreNops (form p.arch (Align a) recorded long n)
  unfolding form
  align_nops a recorded long n = rw (ne_eqb p.arch 6 fitting.padded) (nops_read (padding_within n a.align a.most))

  -- an alignment is no jump, and other jumps miss it
  no_jump_covers : (i : ℕ) (a : Alignment) → i < length p.events → event_of p i ≡ Align a
      → (j : ℕ) → JumpMisses p c (new_start p c i) (new_end p c i - new_start p c i) j
  unfolding role_of
  no_jump_covers i a h is j l b r =
      ⊎_elim
      (λ (same : j ≡ i).
      let role : pads ≡ branches b = sym (ap role_of is) ∙ (sym (ap (λ (k : ℕ). role_of (event_of p k)) same) ∙ r) in
      let z : ◌≡◌ {A = ℕ} 0 1 = cc in
      absurd (omega arith))
      (λ (ne : j ≢ i). jump_misses_event i h j ne l b r)
      (eq_or_ne j i)

  padding_nops : (i : ℕ) (a : Alignment) → i < length p.events → event_of p i ≡ Align a
      → AreNops (part (assembled p c) (new_start p c i) (new_end p c i - new_start p c i))
  padding_nops i a h is =
      let s = new_start p c i in
      subst AreNops
      (sym (jumps_stay s (new_end p c i - s) (no_jump_covers i a h is) (constants_miss i h) ∙ form_stays i h
      ∙ ap (λ (e : LayoutEvent). form p.arch e (standing i h).recorded (get_or c i false) s) is))
      (align_nops a (standing i h).recorded (get_or c i false) s)

  alignments_spend : (i : ℕ) (a : Alignment) → i < length p.events → event_of p i ≡ Align a → Spends a.align a.most (new_start p c i) (new_end p c i)
  alignments_spend i a h is =
      let long = get_or c i false in
      let s = new_start p c i in
      subst (λ (e : LayoutEvent). Spends a.align a.most s (s + width e long s)) (sym is)
      (alignment_spends a long s (subst Small is (modest_at p.events i fitting.modest h)).0)

  -- Every field, jump and padding of the code of a fresh assembly.
  pub assembled_means : Relaxed p c (assembled p c)
  assembled_means =
      record {
        refs = ref_means;
        keeps = ref_keeps;
        inside = λ i k h is. omega (arith, length_assembled p c, ref_within i k h is);
        jumps = jump_reads;
        within = λ i h. omega (arith, length_assembled p c, end_within p c i h);
        padding = padding_nops;
        spends = alignments_spend;
      }
