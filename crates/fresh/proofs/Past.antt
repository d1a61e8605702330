-- Filling the code in front of a longer buffer: what stands past the code stays.
use mathlib.Core.Path.{◌≡◌, refl, ◌∙◌, ap}
use mathlib.Core.Logic.{⊎_elim}
use mathlib.Core.Bool.{false}
use mathlib.Core.List.{List, [], ◌∷◌}
use Prim.Native.Nat.{ℕ, zero, suc, ◌+◌, ◌≤◌, ◌<◌}
use native.Mathlib.Omega.{arith}
use lib.ListN.{length, get_or, drop, length-drop}
use lib.Seq.{length-take-le}
use Rattle.seqs.specs.Over.{over}
use Rattle.seqs.proofs.Numbers.{eq_or_ne}
use Rattle.seqs.proofs.Overwrites.{length_over}
use Rattle.words.specs.Words.{bytes_of}
use Rattle.fields.specs.declared.LabelUse.{LabelUse}
use Rattle.fields.specs.Words64.{plus, sign_extend}
use Rattle.fields.specs.Kinds.{Decoded, Use, Unsupported, Unknown, decoded, patch_size}
use Rattle.fields.specs.Patch.{patched_word, patched, held_addend}
use Rattle.fields.proofs.Patching.{four_unless_one, patched_field}
use Rattle.relax.specs.declared.LayoutEvent.{LayoutEvent}
use Rattle.relax.specs.Events.{no_event}
use Rattle.buffer.specs.State.{none}
use Rattle.recording.specs.View as view
use Rattle.fresh.specs.Pooled.{Placed, Pooled}
use Rattle.fresh.specs.Forms.{Branch, field_of, branches, role_of}
use Rattle.fresh.specs.Fresh.{Choice, is_long, others}
use Rattle.fresh.specs.Rounds.{first_start, other_starts}
use Rattle.fresh.specs.Segments.{map_offset, segments_of}
use Rattle.fresh.specs.Fill.{part, fill_field, fill_refs, fill_jump, fill_jumps, fill_pool, fill, fill_use, fill_uses, in_place}
use Rattle.fresh.specs.Order.{Apart, WellFormed}
use Rattle.fresh.specs.steps.Runs.{new_starts, runs, built}
use Rattle.fresh.proofs.Tests.{by_role}
use Rattle.fresh.proofs.Choices.{is_long_get_d, others_get_d, first_start_get_d, other_starts_get_d}
use Rattle.fresh.proofs.Fill.{length_fill_field, length_fill_refs, fill_jump_pads, fill_jump_branch, length_fill_jump, length_fill_jumps, length_fill_use, length_fill_uses}
use Rattle.fresh.proofs.Within.{mapped_within, field_within}

-- an overwrite within what stands in front, and a part of it
pub over_front : (out l : List ℕ) (at : ℕ) (ys : List ℕ) → at + length ys ≤ length l → over (over out 0 l) at ys ≡ over out 0 (over l at ys)
unfolding over
over_front [] l at ys h = refl
over_front (x ∷ out) [] zero [] h = refl
over_front (x ∷ out) [] zero (y ∷ ys) h = absurd (omega arith)
over_front (x ∷ out) [] (suc at) ys h = absurd (omega arith)
over_front (x ∷ out) (v ∷ l) zero [] h = refl
over_front (x ∷ out) (v ∷ l) zero (y ∷ ys) h = ap (λ (t : List ℕ). y ∷ t) (over_front out l zero ys (omega arith))
over_front (x ∷ out) (v ∷ l) (suc at) ys h = ap (λ (t : List ℕ). v ∷ t) (over_front out l at ys (omega arith))

part_front : (out l : List ℕ) (at n : ℕ) → length l ≤ length out → at + n ≤ length l → part (over out 0 l) at n ≡ part l at n
unfolding over
part_front [] [] at n h k = refl
part_front [] (v ∷ l) at n h k = absurd (omega arith)
part_front (x ∷ out) [] zero zero h k = refl
part_front (x ∷ out) [] zero (suc n) h k = absurd (omega arith)
part_front (x ∷ out) [] (suc at) n h k = absurd (omega arith)
part_front (x ∷ out) (v ∷ l) zero zero h k = refl
part_front (x ∷ out) (v ∷ l) zero (suc n) h k = ap (λ (t : List ℕ). v ∷ t) (part_front out l zero n (omega arith) (omega arith))
part_front (x ∷ out) (v ∷ l) (suc at) n h k = part_front out l at n (omega arith) (omega arith)

-- a patched field is as long as it was
size_le_four : (k : LabelUse) → patch_size k ≤ 4
size_le_four k = ⊎_elim (λ one. omega arith) (λ other. omega (arith, four_unless_one k other)) (eq_or_ne (patch_size k) 1)

length_part : (l : List ℕ) (at n : ℕ) → at + n ≤ length l → length (part l at n) ≡ n
length_part l at n h = length-take-le n (drop at l) (rw (length-drop at l) (omega arith))

pub length_patched : (k : LabelUse) (offset target : ℕ) (bytes : List ℕ) → length bytes ≡ patch_size k → length (patched k offset target bytes) ≡ patch_size k
length_patched k offset target bytes h =
    ap length (patched_field k offset target bytes h)
    ∙ length-take-le (patch_size k) (bytes_of (patched_word k _ offset target)) (size_le_four k)

-- a field of a kind that is patched lies within n bytes
abbrev pub FieldWithin : Decoded → ℕ → ℕ → Type 0
FieldWithin d offset n = (k : LabelUse) → d ≡ Use k → offset + patch_size k ≤ n

patch_front : (k : LabelUse) (offset target : ℕ) (out l : List ℕ) → length l ≤ length out → offset + patch_size k ≤ length l
    → over (over out 0 l) offset (patched k offset target (part l offset (patch_size k)))
    ≡ over out 0 (over l offset (patched k offset target (part l offset (patch_size k))))
patch_front k offset target out l h f =
    over_front out l offset _ (rw (length_patched k offset target (part l offset (patch_size k)) (length_part l offset (patch_size k) f)) f)

field_front : (d : Decoded) (offset label addend : ℕ) (out l : List ℕ) → length l ≤ length out → FieldWithin d offset (length l)
    → fill_field d offset label addend (over out 0 l) ≡ over out 0 (fill_field d offset label addend l)
unfolding fill_field
field_front (Use k) offset label addend out l h f =
    rw (part_front out l offset (patch_size k) h (f k refl)) (patch_front k offset (plus label (sign_extend 32 addend)) out l h (f k refl))
field_front Unsupported offset label addend out l h f = refl
field_front Unknown offset label addend out l h f = refl

use_front : (d : Decoded) (offset label : ℕ) (out l : List ℕ) → length l ≤ length out → FieldWithin d offset (length l)
    → fill_use d offset label (over out 0 l) ≡ over out 0 (fill_use d offset label l)
unfolding fill_use
use_front (Use k) offset label out l h f =
    rw (part_front out l offset (patch_size k) h (f k refl))
    (patch_front k offset (plus label (held_addend k (part l offset (patch_size k)))) out l h (f k refl))
use_front Unsupported offset label out l h f = refl
use_front Unknown offset label out l h f = refl

-- Refs whose fields lie within the code fill it in front of the buffer. z is any ref.
pub fill_refs_past : (at : ℕ → ℕ) (labels : List ℕ) (rs : List view.Ref) (out l : List ℕ) (z : view.Ref) → length l ≤ length out
    → ((i : ℕ) → i < length rs → FieldWithin (decoded (get_or rs i z).code) (at (get_or rs i z).offset) (length l))
    → fill_refs at labels rs (over out 0 l) ≡ over out 0 (fill_refs at labels rs l)
unfolding fill_refs
fill_refs_past at labels [] out l z h f = refl
fill_refs_past at labels (r ∷ rs) out l z h f =
    ap (fill_refs at labels rs) (field_front (decoded r.code) (at r.offset) (at (get_or labels r.label none)) r.addend out l h (f 0 (omega arith)))
    ∙ fill_refs_past at labels rs out _ z (omega (arith, same)) (λ i k. rw same (f (suc i) (omega arith)))
  where
    same : length (fill_field (decoded r.code) (at r.offset) (at (get_or labels r.label none)) r.addend l) ≡ length l
    same = length_fill_field (decoded r.code) (at r.offset) (at (get_or labels r.label none)) r.addend l

-- Uses likewise.
pub fill_uses_past : (labels : List ℕ) (us : List view.Use) (out l : List ℕ) (z : view.Use) → length l ≤ length out
    → ((i : ℕ) → i < length us → FieldWithin (decoded (get_or us i z).code) (get_or us i z).offset (length l))
    → fill_uses labels us (over out 0 l) ≡ over out 0 (fill_uses labels us l)
unfolding fill_uses
fill_uses_past labels [] out l z h f = refl
fill_uses_past labels (u ∷ us) out l z h f =
    ap (fill_uses labels us) (use_front (decoded u.code) u.offset (get_or labels u.label none) out l h (f 0 (omega arith)))
    ∙ fill_uses_past labels us out _ z (omega (arith, same)) (λ i k. rw same (f (suc i) (omega arith)))
  where
    same : length (fill_use (decoded u.code) u.offset (get_or labels u.label none) l) ≡ length l
    same = length_fill_use (decoded u.code) u.offset (get_or labels u.label none) l

-- Jumps whose fields lie within the code.
pub fill_jumps_past : (at : ℕ → ℕ) (es : List LayoutEvent) (c : Choice) (starts out l : List ℕ) → length l ≤ length out
    → ((i : ℕ) (b : Branch) → i < length es → role_of (get_or es i no_event) ≡ branches b
    → get_or starts i 0 + (field_of b (get_or c i false)).place + patch_size (field_of b (get_or c i false)).kind ≤ length l)
    → fill_jumps at es c starts (over out 0 l) ≡ over out 0 (fill_jumps at es c starts l)
unfolding fill_jumps
fill_jumps_past at [] c starts out l h f = refl
fill_jumps_past at (e ∷ es) c starts out l h f =
    ap (fill_jumps at es (others c) (other_starts starts)) here
    ∙ fill_jumps_past at es (others c) (other_starts starts) out _ (omega (arith, same))
    (λ i b k r. rw (same, others_get_d c i, other_starts_get_d starts i) (f (suc i) b (omega arith) r))
  where
    same : length (fill_jump at e (is_long c) (first_start starts) l) ≡ length l
    same = length_fill_jump at e (is_long c) (first_start starts) l

    here : fill_jump at e (is_long c) (first_start starts) (over out 0 l) ≡ over out 0 (fill_jump at e (is_long c) (first_start starts) l)
    here = by_role e
        (λ r. rw (fill_jump_pads at e (is_long c) (first_start starts) (over out 0 l) r, fill_jump_pads at e (is_long c) (first_start starts) l r))
        (λ b r. rw (
          fill_jump_branch at e b (is_long c) (first_start starts) (over out 0 l) r,
          fill_jump_branch at e b (is_long c) (first_start starts) l r,
        )
        (field_front (Use (field_of b (is_long c)).kind) (first_start starts + (field_of b (is_long c)).place) (at b.label) 0 out l h
        (λ k is. let kind : (field_of b (is_long c)).kind ≡ k = cc in
        rw (← kind, is_long_get_d c, first_start_get_d starts) (f 0 b (omega arith) r))))

-- Constants that lie within the code. z is any of them.
pub fill_pool_past : (at : ℕ → ℕ) (ks : List Placed) (out l : List ℕ) (z : Placed) → length l ≤ length out
    → ((i : ℕ) → i < length ks → at (get_or ks i z).offset + length (get_or ks i z).bytes ≤ length l)
    → fill_pool at ks (over out 0 l) ≡ over out 0 (fill_pool at ks l)
unfolding fill_pool
fill_pool_past at [] out l z h f = refl
fill_pool_past at (k ∷ ks) out l z h f =
    ap (fill_pool at ks) (over_front out l (at k.offset) k.bytes (f 0 (omega arith)))
    ∙ fill_pool_past at ks out _ z (omega (arith, same)) (λ i m. rw same (f (suc i) (omega arith)))
  where
    same : length (over l (at k.offset) k.bytes) ≡ length l
    same = length_over l (at k.offset) k.bytes

-- Without a jump: where the uses' fields and the constants lie within the code, it is filled in place in front of a buffer.
pub in_place_past : (p : Pooled) (out : List ℕ) (zu : view.Use) (zk : Placed) → length p.code ≤ length out
    → ((i : ℕ) → i < length p.uses → FieldWithin (decoded (get_or p.uses i zu).code) (get_or p.uses i zu).offset (length p.code))
    → ((i : ℕ) → i < length p.pool → (get_or p.pool i zk).offset + length (get_or p.pool i zk).bytes ≤ length p.code)
    → fill_pool (λ (offset : ℕ). offset) p.pool (fill_uses p.labels p.uses (over out 0 p.code)) ≡ over out 0 (in_place p)
unfolding in_place
in_place_past p out zu zk room uses pool =
    ap (fill_pool (λ (offset : ℕ). offset) p.pool) (fill_uses_past p.labels p.uses out p.code zu room uses)
    ∙ fill_pool_past (λ (offset : ℕ). offset) p.pool out (fill_uses p.labels p.uses p.code) zk (rw filled room) (λ i k. rw filled (pool i k))
  where
    filled : length (fill_uses p.labels p.uses p.code) ≡ length p.code
    filled = length_fill_uses p.labels p.uses p.code

-- With jumps: where the refs' fields and the constants lie apart from the events, a finish that fills the code in front of a buffer has built it there.
pub built_past : (p : Pooled) (c : Choice) → WellFormed p → length p.code < none → (out : List ℕ) (zr : view.Ref) (zk : Placed)
    → ((i : ℕ) (k : LabelUse) → i < length p.refs → decoded (get_or p.refs i zr).code ≡ Use k → Apart p (get_or p.refs i zr).offset (patch_size k))
    → ((i : ℕ) → i < length p.pool → Apart p (get_or p.pool i zk).offset (length (get_or p.pool i zk).bytes))
    → length (runs p.arch 0 0 p.code p.events c) ≤ length out
    → fill (map_offset (segments_of p c)) p c (new_starts (segments_of p c)) (over out 0 (runs p.arch 0 0 p.code p.events c)) ≡ over out 0 (built p c)
unfolding fill built
built_past p c wf small out zr zk refs pool room =
    ap (λ l. fill_pool at p.pool (fill_jumps named p.events c new l))
    (fill_refs_past at p.labels p.refs out code zr room
    (λ i k u e. mapped_within p c wf (get_or p.refs i zr).offset (patch_size u) (omega (arith, (refs i u k e).0)) (refs i u k e)))
    ∙ (ap (fill_pool at p.pool)
    (fill_jumps_past named p.events c new out filled (rw fills room)
    (λ i b k r. rw fills (field_within p c wf i b k r)))
    ∙ fill_pool_past at p.pool out (fill_jumps named p.events c new filled) zk (rw all_fills room)
    (λ i k.
    rw all_fills
    (mapped_within p c wf (get_or p.pool i zk).offset (length (get_or p.pool i zk).bytes) (omega (arith, (pool i k).0)) (pool i k))))
  where
    at : ℕ → ℕ
    at = map_offset (segments_of p c)

    named : ℕ → ℕ
    named label = at (get_or p.labels label none)

    new : List ℕ
    new = new_starts (segments_of p c)

    code : List ℕ
    code = runs p.arch 0 0 p.code p.events c

    filled : List ℕ
    filled = fill_refs at p.labels p.refs code

    fills : length filled ≡ length code
    fills = length_fill_refs at p.labels p.refs code

    all_fills : length (fill_jumps named p.events c new filled) ≡ length code
    all_fills = length_fill_jumps named p.events c new filled ∙ fills
