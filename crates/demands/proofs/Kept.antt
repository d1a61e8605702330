-- A part of the code that no write covers stays; each write leaves its own bytes.
use mathlib.Core.Path.{◌≡◌, refl, sym, ap, ◌∙◌}
use mathlib.Core.Logic.{◌≢◌, ⊎_elim}
use mathlib.Core.Bool.{Bool, false}
use mathlib.Core.List.{List, [], ◌∷◌}
use Prim.Native.Nat.{ℕ, zero, suc, ◌+◌, ◌≤◌, ◌<◌}
use native.Mathlib.Omega.{arith}
use lib.ListN.{length, get_or, take, drop, length-drop, length-take}
use lib.Seq.{length-take-le}
use Rattle.seqs.specs.Over.{over}
use Rattle.seqs.proofs.Numbers.{lt_or_ge, eq_or_ne}
use Rattle.seqs.proofs.Overwrites.{length_over, over_nil, part_before, drop_over, part_over}
use Rattle.fields.specs.declared.LabelUse.{LabelUse}
use Rattle.fields.specs.Words64.{plus, sign_extend}
use Rattle.fields.specs.Kinds.{Decoded, Use, Unsupported, Unknown, decoded, patch_size}
use Rattle.fields.specs.Patch.{patched, patched_use, held_addend}
use Rattle.fields.proofs.Patching.{patched_other}
use Rattle.relax.specs.declared.LayoutEvent.{LayoutEvent}
use Rattle.relax.specs.Events.{no_event}
use Rattle.buffer.specs.State.{none}
use Rattle.recording.specs.View as tables
use Rattle.fresh.specs.Pooled.{Placed}
use Rattle.fresh.specs.Fresh.{Choice, is_long, others}
use Rattle.fresh.specs.Rounds.{first_start, other_starts}
use Rattle.fresh.specs.Fill.{part, fill_field, fill_refs, fill_jump, fill_jumps, fill_pool, fill_use, fill_uses}
use Rattle.fresh.proofs.Choices.{is_long_get_d, others_get_d, first_start_get_d, other_starts_get_d}
use Rattle.fresh.proofs.Fill.{length_fill_field, length_fill_use, fill_jump_pads, fill_jump_branch, length_fill_jump}
use Rattle.fresh.proofs.Past.{length_patched}
use Rattle.fresh.specs.Forms.{Branch, field_of, branches, role_of}
use Rattle.fresh.proofs.Tests.{by_role}
use Rattle.fields.specs.Kinds.{size_of}
use Rattle.demands.specs.Demand2.{Disjoint}

-- A part that an overwrite does not cover stays.
pub part_kept : (l : List ℕ) (b : ℕ) (ys : List ℕ) (m a n : ℕ) → length ys ≤ m → Disjoint a n b m → part (over l b ys) a n ≡ part l a n
part_kept l b [] m a n few apart = ap (λ (x : List ℕ). part x a n) (over_nil l b)
part_kept l b (y ∷ ys) m a n few apart =
    ⊎_elim
    (λ (before : a + n < b + 1). part_before l b (y ∷ ys) a n (omega arith))
    (λ (ge : b + 1 ≤ a + n).
    ⊎_elim
    (λ (after : b + suc (length ys) < a + 1). ap (take n) (drop_over l b (y ∷ ys) a (omega arith)))
    (λ (inside : a + 1 ≤ b + suc (length ys)).
    ⊎_elim
    (λ (lt : a < b). absurd (apart b (omega arith) (omega arith) (omega arith) (omega arith)))
    (λ (le : b ≤ a).
    ⊎_elim
    (λ (none : n < 1). let z : n ≡ 0 = omega arith in rw z refl)
    (λ (some : 1 ≤ n). absurd (apart a (omega arith) (omega arith) (omega arith) (omega arith)))
    (lt_or_ge n 1))
    (lt_or_ge a b))
    (lt_or_ge (b + suc (length ys)) (a + 1)))
    (lt_or_ge (a + n) (b + 1))

pub length_part : (l : List ℕ) (at n : ℕ) → at + n ≤ length l → length (part l at n) ≡ n
length_part l at n h = length-take-le n (drop at l) (rw (length-drop at l) (omega arith))

-- a field is written with at most its own bytes
patched_short : (k : LabelUse) (offset target at : ℕ) (l : List ℕ) → length (patched k offset target (part l at (patch_size k))) ≤ patch_size k
patched_short k offset target at l =
    ⊎_elim
    (λ (e : length (part l at (patch_size k)) ≡ patch_size k). omega (arith, length_patched k offset target (part l at (patch_size k)) e))
    (λ (ne : length (part l at (patch_size k)) ≢ patch_size k).
    omega (arith, ap length (patched_other k offset target (part l at (patch_size k)) ne), length-take (patch_size k) (drop at l)))
    (eq_or_ne (length (part l at (patch_size k))) (patch_size k))

field_kept : (d : Decoded) (offset label addend a n : ℕ) (l : List ℕ) → Disjoint a n offset (size_of d)
    → part (fill_field d offset label addend l) a n ≡ part l a n
unfolding fill_field
field_kept (Use k) offset label addend a n l apart = part_kept l offset _ (patch_size k) a n (patched_short k offset _ offset l) apart
field_kept Unsupported offset label addend a n l apart = refl
field_kept Unknown offset label addend a n l apart = refl

use_kept : (d : Decoded) (offset label a n : ℕ) (l : List ℕ) → Disjoint a n offset (size_of d) → part (fill_use d offset label l) a n ≡ part l a n
unfolding fill_use
use_kept (Use k) offset label a n l apart = part_kept l offset _ (patch_size k) a n (patched_short k offset _ offset l) apart
use_kept Unsupported offset label a n l apart = refl
use_kept Unknown offset label a n l apart = refl

-- Refs, uses, jumps and constants that do not cover a part leave it. z is any of them.
pub refs_kept : (at : ℕ → ℕ) (labels : List ℕ) (rs : List tables.Ref) (l : List ℕ) (a n : ℕ) (z : tables.Ref)
    → ((j : ℕ) → j < length rs → Disjoint a n (at (get_or rs j z).offset) (size_of (decoded (get_or rs j z).code)))
    → part (fill_refs at labels rs l) a n ≡ part l a n
unfolding fill_refs
refs_kept at labels [] l a n z miss = refl
refs_kept at labels (r ∷ rs) l a n z miss =
    refs_kept at labels rs _ a n z (λ j h. miss (suc j) (omega arith))
    ∙ field_kept (decoded r.code) (at r.offset) (at (get_or labels r.label none)) r.addend a n l (miss 0 (omega arith))

pub uses_kept : (labels : List ℕ) (us : List tables.Use) (l : List ℕ) (a n : ℕ) (z : tables.Use)
    → ((j : ℕ) → j < length us → Disjoint a n (get_or us j z).offset (size_of (decoded (get_or us j z).code)))
    → part (fill_uses labels us l) a n ≡ part l a n
unfolding fill_uses
uses_kept labels [] l a n z miss = refl
uses_kept labels (u ∷ us) l a n z miss =
    uses_kept labels us _ a n z (λ j h. miss (suc j) (omega arith))
    ∙ use_kept (decoded u.code) u.offset (get_or labels u.label none) a n l (miss 0 (omega arith))

pub pool_kept : (at : ℕ → ℕ) (ks : List Placed) (l : List ℕ) (a n : ℕ) (z : Placed)
    → ((j : ℕ) → j < length ks → Disjoint a n (at (get_or ks j z).offset) (length (get_or ks j z).bytes))
    → part (fill_pool at ks l) a n ≡ part l a n
unfolding fill_pool
pool_kept at [] l a n z miss = refl
pool_kept at (k ∷ ks) l a n z miss =
    pool_kept at ks _ a n z (λ j h. miss (suc j) (omega arith))
    ∙ part_kept l (at k.offset) k.bytes (length k.bytes) a n (omega arith) (miss 0 (omega arith))

-- A constant that no later one covers leaves its bytes.
pub constant_written : (at : ℕ → ℕ) (ks : List Placed) (l : List ℕ) (z : Placed) (i : ℕ) → i < length ks
    → at (get_or ks i z).offset + length (get_or ks i z).bytes ≤ length l
    → ((j : ℕ) → i < j → j < length ks → Disjoint (at (get_or ks i z).offset) (length (get_or ks i z).bytes) (at (get_or ks j z).offset) (length (get_or ks j z).bytes))
    → part (fill_pool at ks l) (at (get_or ks i z).offset) (length (get_or ks i z).bytes) ≡ (get_or ks i z).bytes
unfolding fill_pool
constant_written at [] l z i h room miss = absurd (omega arith)
constant_written at (k ∷ ks) l z zero h room miss =
    pool_kept at ks _ (at k.offset) (length k.bytes) z (λ j q. miss (suc j) (omega arith) (omega arith)) ∙ part_over l (at k.offset) k.bytes room
constant_written at (k ∷ ks) l z (suc i) h room miss =
    constant_written at ks (over l (at k.offset) k.bytes) z i (omega arith) (rw (length_over l (at k.offset) k.bytes) room)
    (λ j q w. miss (suc j) (omega arith) (omega arith))

-- the field of a jump
abbrev pub FieldMisses : LayoutEvent → Bool → ℕ → ℕ → ℕ → Type 0
FieldMisses e long start a n = (b : Branch) → role_of e ≡ branches b → Disjoint a n (start + (field_of b long).place) (patch_size (field_of b long).kind)

jump_kept : (at : ℕ → ℕ) (e : LayoutEvent) (long : Bool) (start a n : ℕ) (l : List ℕ) → FieldMisses e long start a n
    → part (fill_jump at e long start l) a n ≡ part l a n
jump_kept at e long start a n l miss = by_role e
    (λ r. ap (λ (x : List ℕ). part x a n) (fill_jump_pads at e long start l r))
    (λ b r. ap (λ (x : List ℕ). part x a n) (fill_jump_branch at e b long start l r)
    ∙ field_kept (Use (field_of b long).kind) (start + (field_of b long).place) (at b.label) 0 a n l (miss b r))

pub jumps_kept : (at : ℕ → ℕ) (es : List LayoutEvent) (c : Choice) (starts l : List ℕ) (a n : ℕ)
    → ((j : ℕ) → j < length es → FieldMisses (get_or es j no_event) (get_or c j false) (get_or starts j 0) a n)
    → part (fill_jumps at es c starts l) a n ≡ part l a n
unfolding fill_jumps
jumps_kept at [] c starts l a n miss = refl
jumps_kept at (e ∷ es) c starts l a n miss =
    jumps_kept at es (others c) (other_starts starts) _ a n (λ j h. rw (others_get_d c j, other_starts_get_d starts j) (miss (suc j) (omega arith)))
    ∙ jump_kept at e (is_long c) (first_start starts) a n l (rw (is_long_get_d c, first_start_get_d starts) (miss 0 (omega arith)))

-- what fills the field of a ref: the patched bytes of a field of its kind
pub record Filled (k : LabelUse) (offset target : ℕ) (now : List ℕ) : Type 0 where
  pub held : List ℕ
  pub size : length held ≡ patch_size k
  pub is : now ≡ patched k offset target held

patched_part : (k : LabelUse) (offset target : ℕ) (l : List ℕ) → offset + patch_size k ≤ length l
    → part (over l offset (patched k offset target (part l offset (patch_size k)))) offset (patch_size k)
    ≡ patched k offset target (part l offset (patch_size k))
patched_part k offset target l room =
    let size = length_patched k offset target (part l offset (patch_size k)) (length_part l offset (patch_size k) room) in
    ap (λ (n : ℕ). part (over l offset (patched k offset target (part l offset (patch_size k)))) offset n) (sym size)
    ∙ part_over l offset (patched k offset target (part l offset (patch_size k))) (omega (arith, size))

field_filled_lem : (d : Decoded) (k : LabelUse) (offset label addend : ℕ) (l : List ℕ) → d ≡ Use k → offset + patch_size k ≤ length l
    → Filled k offset (plus label (sign_extend 32 addend)) (part (fill_field d offset label addend l) offset (patch_size k))
unfolding fill_field
field_filled_lem d k offset label addend l is room =
    rw is
    (record {
      held = part l offset (patch_size k);
      size = length_part l offset (patch_size k) room;
      is = patched_part k offset (plus label (sign_extend 32 addend)) l room;
    })

-- The field of a ref that no later ref covers is the one that it filled.
pub ref_filled_lem : (at : ℕ → ℕ) (labels : List ℕ) (rs : List tables.Ref) (l : List ℕ) (z : tables.Ref) (i : ℕ) (k : LabelUse) → i < length rs
    → decoded (get_or rs i z).code ≡ Use k → at (get_or rs i z).offset + patch_size k ≤ length l
    → ((j : ℕ) → i < j → j < length rs → Disjoint (at (get_or rs i z).offset) (patch_size k) (at (get_or rs j z).offset) (size_of (decoded (get_or rs j z).code)))
    → Filled k (at (get_or rs i z).offset) (plus (at (get_or labels (get_or rs i z).label none)) (sign_extend 32 (get_or rs i z).addend))
    (part (fill_refs at labels rs l) (at (get_or rs i z).offset) (patch_size k))
unfolding fill_refs
ref_filled_lem at labels [] l z i k h is room miss = absurd (omega arith)
ref_filled_lem at labels (r ∷ rs) l z zero k h is room miss =
    rw (refs_kept at labels rs (fill_field (decoded r.code) (at r.offset) (at (get_or labels r.label none)) r.addend l) (at r.offset) (patch_size k) z
    (λ j q. miss (suc j) (omega arith) (omega arith)))
    (field_filled_lem (decoded r.code) k (at r.offset) (at (get_or labels r.label none)) r.addend l is room)
ref_filled_lem at labels (r ∷ rs) l z (suc i) k h is room miss =
    ref_filled_lem at labels rs _ z i k (omega arith) is
    (rw (length_fill_field (decoded r.code) (at r.offset) (at (get_or labels r.label none)) r.addend l) room)
    (λ j q w. miss (suc j) (omega arith) (omega arith))

use_written : (d : Decoded) (k : LabelUse) (offset label : ℕ) (l : List ℕ) → d ≡ Use k → offset + patch_size k ≤ length l
    → part (fill_use d offset label l) offset (patch_size k) ≡ patched_use k offset label (part l offset (patch_size k))
unfolding fill_use
use_written d k offset label l is room = rw is (patched_part k offset (plus label (held_addend k (part l offset (patch_size k)))) l room)

-- The field of a use that no later use covers is patched over what stood in it when its turn came.
pub use_filled_lem : (labels : List ℕ) (us : List tables.Use) (l : List ℕ) (z : tables.Use) (i : ℕ) (k : LabelUse) → i < length us
    → decoded (get_or us i z).code ≡ Use k → (get_or us i z).offset + patch_size k ≤ length l
    → ((j : ℕ) → i < j → j < length us → Disjoint (get_or us i z).offset (patch_size k) (get_or us j z).offset (size_of (decoded (get_or us j z).code)))
    → part (fill_uses labels us l) (get_or us i z).offset (patch_size k)
    ≡ patched_use k (get_or us i z).offset (get_or labels (get_or us i z).label none)
    (part (fill_uses labels (take i us) l) (get_or us i z).offset (patch_size k))
unfolding fill_uses
use_filled_lem labels [] l z i k h is room miss = absurd (omega arith)
use_filled_lem labels (u ∷ us) l z zero k h is room miss =
    uses_kept labels us _ u.offset (patch_size k) z (λ j q. miss (suc j) (omega arith) (omega arith))
    ∙ use_written (decoded u.code) k u.offset (get_or labels u.label none) l is room
use_filled_lem labels (u ∷ us) l z (suc i) k h is room miss =
    use_filled_lem labels us _ z i k (omega arith) is
    (rw (length_fill_use (decoded u.code) u.offset (get_or labels u.label none) l) room)
    (λ j q w. miss (suc j) (omega arith) (omega arith))

-- an overwrite inside a part
drop_inner : (l : List ℕ) (a q : ℕ) (ys : List ℕ) → drop a (over l (a + q) ys) ≡ over (drop a l) q ys
unfolding over
drop_inner l zero q ys = let e : 0 + q ≡ q = omega arith in rw e refl
drop_inner [] (suc a) q ys = refl
drop_inner (x ∷ l) (suc a) q ys = let e : suc a + q ≡ suc (a + q) = omega arith in rw e (drop_inner l a q ys)

take_inner : (l : List ℕ) (n q : ℕ) (ys : List ℕ) → take n (over l q ys) ≡ over (take n l) q ys
unfolding over
take_inner l zero q ys = refl
take_inner [] (suc n) q ys = refl
take_inner (x ∷ l) (suc n) zero [] = refl
take_inner (x ∷ l) (suc n) zero (y ∷ ys) = ap (λ (t : List ℕ). y ∷ t) (take_inner l n zero ys)
take_inner (x ∷ l) (suc n) (suc q) ys = ap (λ (t : List ℕ). x ∷ t) (take_inner l n q ys)

part_inner : (l : List ℕ) (a n q : ℕ) (ys : List ℕ) → part (over l (a + q) ys) a n ≡ over (part l a n) q ys
part_inner l a n q ys = ap (take n) (drop_inner l a q ys) ∙ take_inner (drop a l) n q ys

-- The bytes of a jump that no other jump's field covers are those that stood there, its own field patched.
pub record JumpFilled (b : Branch) (long : Bool) (start n label : ℕ) (before now : List ℕ) : Type 0 where
  pub held : List ℕ
  pub size : length held ≡ patch_size (field_of b long).kind
  pub is : now ≡ over before (field_of b long).place (patched (field_of b long).kind (start + (field_of b long).place) (plus label 0) held)

one_filled : (at : ℕ → ℕ) (e : LayoutEvent) (b : Branch) (long : Bool) (start n : ℕ) (l : List ℕ) → role_of e ≡ branches b
    → start + (field_of b long).place + patch_size (field_of b long).kind ≤ length l
    → JumpFilled b long start n (at b.label) (part l start n) (part (fill_jump at e long start l) start n)
unfolding fill_field sign_extend
one_filled at e b long start n l r room =
    record {
      held = part l (start + (field_of b long).place) (patch_size (field_of b long).kind);
      size = length_part l (start + (field_of b long).place) (patch_size (field_of b long).kind) room;
      is = ap (λ (x : List ℕ). part x start n) (fill_jump_branch at e b long start l r) ∙ part_inner l start n (field_of b long).place _;
    }

pub jump_filled : (at : ℕ → ℕ) (es : List LayoutEvent) (c : Choice) (starts l : List ℕ) (i n : ℕ) (b : Branch) → i < length es
    → role_of (get_or es i no_event) ≡ branches b
    → get_or starts i 0 + (field_of b (get_or c i false)).place + patch_size (field_of b (get_or c i false)).kind ≤ length l
    → ((j : ℕ) → j ≢ i → j < length es → FieldMisses (get_or es j no_event) (get_or c j false) (get_or starts j 0) (get_or starts i 0) n)
    → JumpFilled b (get_or c i false) (get_or starts i 0) n (at b.label) (part l (get_or starts i 0) n) (part (fill_jumps at es c starts l) (get_or starts i 0) n)
unfolding fill_jumps
jump_filled at [] c starts l i n b h r room miss = absurd (omega arith)
jump_filled at (e ∷ es) c starts l zero n b h r room miss =
    rw (jumps_kept at es (others c) (other_starts starts) (fill_jump at e (is_long c) (first_start starts) l) (get_or starts 0 0) n
    (λ j q. rw (others_get_d c j, other_starts_get_d starts j) (miss (suc j) (λ z. omega arith) (omega arith))))
    (rw (is_long_get_d c, first_start_get_d starts) (one_filled at e b (get_or c 0 false) (get_or starts 0 0) n l r room))
jump_filled at (e ∷ es) c starts l (suc i) n b h r room miss =
    let rest =
    jump_filled at es (others c) (other_starts starts) (fill_jump at e (is_long c) (first_start starts) l) i n b (omega arith) r
    (rw (others_get_d c i, other_starts_get_d starts i, length_fill_jump at e (is_long c) (first_start starts) l) room)
    (λ j q w. rw (others_get_d c j, other_starts_get_d starts j, other_starts_get_d starts i) (miss (suc j) (λ z. q (omega arith)) (omega arith))) in
    let same = jump_kept at e (is_long c) (first_start starts) (get_or starts (suc i) 0) n l
    (rw (is_long_get_d c, first_start_get_d starts) (miss 0 (λ z. omega arith) (omega arith))) in
    rw same at (rw (others_get_d c i, other_starts_get_d starts i) at rest)
