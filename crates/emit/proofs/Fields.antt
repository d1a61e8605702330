-- Fields: a part that was lent, patched and is back.
use Rattle.std.proofs.Common.{◌≡◌, ℕ, ◌+◌, ◌-◌, ◌≤◌, List, ◌++◌, length, take, drop, ap, ◌∙◌, arith, length-drop, length-take}
use Rattle.seqs.specs.Over.{over}
use Rattle.seqs.proofs.Overwrites.{over_mid}
use Rattle.fields.specs.declared.LabelUse.{LabelUse}
use Rattle.fields.specs.Words64.{plus}
use Rattle.fields.specs.Kinds.{patch_size}
use Rattle.fields.specs.Patch.{patched, patched_use, held_addend}
use Rattle.fresh.specs.Fill.{part}
use Rattle.fresh.proofs.Past.{length_patched}

part_length : (xs : List ℕ) (at k : ℕ) → at + k ≤ length xs → length (take k (drop at xs)) ≡ k
part_length xs at k h = simp (length-take, length-drop) (omega arith)

-- the field's own bytes, lent as a part
pub field_back : (xs field : List ℕ) (kind : LabelUse) (at size target : ℕ) → size ≡ patch_size kind → at + patch_size kind ≤ length xs
    → field ≡ patched kind at target (take (at + size - at) (drop at xs))
    → take at xs ++ (field ++ drop (at + size - at) (drop at xs)) ≡ over xs at (patched kind at target (part xs at (patch_size kind)))
field_back xs field kind at size target e h f =
    let k : at + size - at ≡ patch_size kind = omega arith in
    let l = length_patched kind at target (part xs at (patch_size kind)) (part_length xs at (patch_size kind) h) in
    rw (k) (ap (λ (ys : List ℕ). take at xs ++ (ys ++ drop (patch_size kind) (drop at xs))) (rw k at f) ∙ over_mid xs at (patch_size kind) (patched kind at target (part xs at (patch_size kind))) l h)

-- the same of a use, whose field may hold an addend
pub use_back : (xs field : List ℕ) (kind : LabelUse) (at size label : ℕ) → size ≡ patch_size kind → at + patch_size kind ≤ length xs
    → field ≡ patched_use kind at label (take (at + size - at) (drop at xs))
    → take at xs ++ (field ++ drop (at + size - at) (drop at xs)) ≡ over xs at (patched_use kind at label (part xs at (patch_size kind)))
use_back xs field kind at size label e h f =
    let k : at + size - at ≡ patch_size kind = omega arith in
    let bytes = part xs at (patch_size kind) in
    field_back xs field kind at size (plus label (held_addend kind bytes)) e h (rw k (rw k at f))
