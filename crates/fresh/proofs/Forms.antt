-- The facts on events that go by cases; every other theorem asks of an event only what stands here.
use mathlib.Core.Path.{◌≡◌, refl}
use mathlib.Core.Bool.{Bool, true, false, cond}
use mathlib.Core.List.{List}
use Prim.Native.Nat.{ℕ, suc, ◌+◌, ◌%◌, ◌≤◌, ◌<◌}
use native.Mathlib.Omega.{arith}
use lib.Dec.{lit≤, eqb}
use lib.ListN.{length}
use Rattle.encoder.specs.Padding.{padding_within, Spends}
use Rattle.encoder.proofs.Padding.{padding_aligns, padding_below, within_needed, within_below, padding_spends}
use Rattle.fields.specs.declared.LabelUse.{LabelUse}
use Rattle.fields.specs.declared.LabelUse.TheVariants.{A64Branch14, A64Branch19}
use Rattle.fields.specs.Branches.{field_kind}
use Rattle.fields.specs.Kinds.{info, patch_size}
use Rattle.relax.specs.declared.Alignment.{Alignment}
use Rattle.relax.specs.declared.Condition.{Condition}
use Rattle.relax.specs.declared.Condition.TheVariants.{Always, On}
use Rattle.relax.specs.declared.LayoutEvent.{LayoutEvent}
use Rattle.relax.specs.declared.LayoutEvent.TheVariants.{Jump, Align, Far}
use Rattle.relax.specs.Events.{short_len, long_len}
use Rattle.buffer.proofs.Appends.{padding_length_lem}
use Rattle.fresh.specs.Forms.{short_form, long_form, form, width, Branch, field_of, branches, branch_of, far_branch_of, role_of}
use Rattle.fresh.specs.steps.Runs.{Small}
use Rattle.fresh.proofs.Tests.{no_confusion}

pub length_short_form : (c : Condition) → length (short_form c) ≡ 2
length_short_form Always = refl
length_short_form (On c) = refl

pub length_long_form : (c : Condition) → length (long_form c) ≡ long_len c
length_long_form Always = refl
length_long_form (On c) = refl

pub long_len_range : (c : Condition) → (5 ≤ long_len c) × (long_len c ≤ 6)
long_len_range Always = omega arith
long_len_range (On c) = omega arith

-- The bytes written for an event are as many as its width says.
pub length_form : (arch : ℕ) (e : LayoutEvent) (bytes : List ℕ) (long : Bool) (n : ℕ) → length (form arch e bytes long n) ≡ width e long n
unfolding width form
length_form arch (Jump j) bytes false n = length_short_form j.cc
length_form arch (Jump j) bytes true n = length_long_form j.cc
length_form arch (Align a) bytes long n = padding_length_lem arch (padding_within n a.align a.most)
length_form arch (Far f) bytes false n = refl
length_form arch (Far f) bytes true n = refl

-- An event of modest size takes at most 4,096 bytes.
pub width_small : (e : LayoutEvent) (long : Bool) (n : ℕ) → Small e → width e long n ≤ 4096
unfolding width
width_small (Jump j) true n h = omega (arith, long_len_range j.cc)
width_small (Jump j) false n h = lit≤ tt
width_small (Align a) long n h = omega (arith, h.0, h.1, within_below n a.align a.most h.0)
width_small (Far f) true n h = lit≤ tt
width_small (Far f) false n h = lit≤ tt

-- A branch is no shorter when it is long, wherever it stands.
pub branch_wider : (e : LayoutEvent) (b : Branch) → role_of e ≡ branches b → (long longer : Bool) (n m : ℕ) → (long ≡ true → longer ≡ true)
    → width e long n ≤ width e longer m
unfolding width role_of
branch_wider (Jump j) b r false false n m h = omega arith
branch_wider (Jump j) b r false true n m h = omega (arith, long_len_range j.cc)
branch_wider (Jump j) b r true false n m h = no_confusion (h refl)
branch_wider (Jump j) b r true true n m h = omega arith
branch_wider (Align a) b r long longer n m h = let z : ◌≡◌ {A = ℕ} 0 1 = cc in absurd (omega arith)
branch_wider (Far f) b r false false n m h = omega arith
branch_wider (Far f) b r false true n m h = omega arith
branch_wider (Far f) b r true false n m h = no_confusion (h refl)
branch_wider (Far f) b r true true n m h = omega arith

-- A branch has room for its short form.
pub branch_wide : (e : LayoutEvent) (b : Branch) → role_of e ≡ branches b → (long : Bool) (n : ℕ) → short_len ≤ width e long n
unfolding width role_of
branch_wide (Jump j) b r false n = omega arith
branch_wide (Jump j) b r true n = omega (arith, long_len_range j.cc)
branch_wide (Align a) b r long n = let z : ◌≡◌ {A = ℕ} 0 1 = cc in absurd (omega arith)
branch_wide (Far f) b r false n = omega arith
branch_wide (Far f) b r true n = omega arith

-- the kinds of a far branch's own field, imm14 and imm19
pub field_either : (P : LabelUse → Type 0) → P A64Branch14 → P A64Branch19 → (code : ℕ) → P (field_kind code)
field_either P nine ten code = by (eqb code 9)
  where
    by : (t : Bool) → P (cond t A64Branch14 A64Branch19)
    by true = nine
    by false = ten

-- A branch holds its displacement.
pub field_inside : (e : LayoutEvent) (b : Branch) → role_of e ≡ branches b → (long : Bool) (n : ℕ)
    → (field_of b long).place + patch_size (field_of b long).kind ≤ width e long n
unfolding width role_of
field_inside (Jump j) b r false n = let is : branch_of j ≡ b = cc in rw (← is) (lit≤ tt)
field_inside (Jump j) b r true n = let is : branch_of j ≡ b = cc in rw (← is) (omega (arith, long_len_range j.cc))
field_inside (Align a) b r long n = let z : ◌≡◌ {A = ℕ} 0 1 = cc in absurd (omega arith)
field_inside (Far f) b r false n =
    let is : far_branch_of f ≡ b = cc in rw (← is) (field_either (λ (k : LabelUse). 0 + patch_size k ≤ 4) (lit≤ tt) (lit≤ tt) f.code)
field_inside (Far f) b r true n = let is : far_branch_of f ≡ b = cc in rw (← is) (lit≤ tt)

-- A short branch reaches its own start.
pub home_reached : (e : LayoutEvent) (b : Branch) → role_of e ≡ branches b → b.short.place + (info b.short.kind).from ≤ (info b.short.kind).low
unfolding role_of
home_reached (Jump j) b r = let is : branch_of j ≡ b = cc in rw (← is) (lit≤ tt)
home_reached (Align a) b r = let z : ◌≡◌ {A = ℕ} 0 1 = cc in absurd (omega arith)
home_reached (Far f) b r =
    let is : far_branch_of f ≡ b = cc in rw (← is) (field_either (λ (k : LabelUse). 0 + (info k).from ≤ (info k).low) (lit≤ tt) (lit≤ tt) f.code)

-- An alignment ends on its multiple, or is empty where that would have taken more than it may spend; it never spends more.
pub alignment_spends : (a : Alignment) (long : Bool) (n : ℕ) → 0 < a.align → Spends a.align a.most n (n + width (Align a) long n)
unfolding width
alignment_spends a long n h = padding_spends n a.align a.most h

-- One that may spend whatever an offset needs ends on its multiple.
pub padding_ends : (a : Alignment) (long : Bool) (n : ℕ) → 0 < a.align → a.align ≤ suc a.most → (n + width (Align a) long n) % a.align ≡ 0
unfolding width
padding_ends a long n h enough =
    rw (within_needed n a.align a.most (omega (arith, padding_below n a.align h))) (padding_aligns n a.align h)
