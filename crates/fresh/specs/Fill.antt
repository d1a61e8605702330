-- How what is placed is filled: document 01, "Once all is placed, refs are filled in order by the rules for fields, each jump with its label's new offset
-- minus its own new end, and the constants' bytes last"; and, without a jump, "uses are patched in order, refs are not".
-- `at` takes a recorded offset to its new one.
use Rattle.std.specs.Prelude.{Bool, List, [], ◌∷◌, ℕ, ◌+◌, get_or, take, drop}
use Rattle.seqs.specs.Over.{over}
use Rattle.fields.specs.Words64.{plus, sign_extend}
use Rattle.fields.specs.Kinds.{Decoded, Use, Unsupported, Unknown, decoded, patch_size}
use Rattle.fields.specs.Patch.{patched, patched_use}
use Rattle.relax.specs.declared.LayoutEvent.{LayoutEvent}
use Rattle.buffer.specs.State.{none}
use Rattle.recording.specs.View as view
use Rattle.fresh.specs.Pooled.{Placed, Pooled}
use Rattle.fresh.specs.Forms.{field_of, pads, branches, role_of}
use Rattle.fresh.specs.Fresh.{Choice, is_long, others, walk, starts, placed, moved}
use Rattle.fresh.specs.Rounds.{first_start, other_starts}

-- n bytes from an offset on
abbrev pub part : List ℕ → ℕ → ℕ → List ℕ
part l offset n = take n (drop offset l)

-- a ref of a kind, whose field stands at `offset` and whose label at `label`: it "adds its recorded addend and ignores the field"
unfoldable pub fill_field : Decoded → ℕ → ℕ → ℕ → List ℕ → List ℕ
fill_field (Use k) offset label addend l = over l offset (patched k offset (plus label (sign_extend 32 addend)) (part l offset (patch_size k)))
fill_field Unsupported offset label addend l = l
fill_field Unknown offset label addend l = l

unfoldable pub fill_refs : (ℕ → ℕ) → List ℕ → List view.Ref → List ℕ → List ℕ
fill_refs at labels [] l = l
fill_refs at labels (r ∷ rs) l =
    fill_refs at labels rs (fill_field (decoded r.code) (at r.offset) (at (get_or labels r.label none)) r.addend l)

-- a jump, long or not, that starts at `start`: its field counts from its end. Here `at` knows a label's new offset by the label's number.
unfoldable pub fill_jump : (ℕ → ℕ) → LayoutEvent → Bool → ℕ → List ℕ → List ℕ
fill_jump at e long start l = elim (role_of e) [
  | pads ↦ l
  | branches b ↦ fill_field (Use (field_of b long).kind) (start + (field_of b long).place) (at b.label) 0 l
]

unfoldable pub fill_jumps : (ℕ → ℕ) → List LayoutEvent → Choice → List ℕ → List ℕ → List ℕ
fill_jumps at [] c starts l = l
fill_jumps at (e ∷ es) c starts l = fill_jumps at es (others c) (other_starts starts) (fill_jump at e (is_long c) (first_start starts) l)

unfoldable pub fill_pool : (ℕ → ℕ) → List Placed → List ℕ → List ℕ
fill_pool at [] l = l
fill_pool at (k ∷ ks) l = fill_pool at ks (over l (at k.offset) k.bytes)

-- what is placed as l, with the events' new starts, filled
unfoldable pub fill : (ℕ → ℕ) → Pooled → Choice → List ℕ → List ℕ → List ℕ
fill at p c starts l =
    fill_pool at p.pool (fill_jumps (λ (label : ℕ). at (get_or p.labels label none)) p.events c starts (fill_refs at p.labels p.refs l))

-- the bytes of a fresh assembly
unfoldable pub assembled : Pooled → Choice → List ℕ
assembled p c = fill (moved p c) p c (starts 0 (walk p) c) (placed p c)

-- a use of a kind: code 0 "adds, modulo 2^32, the value already in its field"
unfoldable pub fill_use : Decoded → ℕ → ℕ → List ℕ → List ℕ
fill_use (Use k) offset label l = over l offset (patched_use k offset label (part l offset (patch_size k)))
fill_use Unsupported offset label l = l
fill_use Unknown offset label l = l

unfoldable pub fill_uses : List ℕ → List view.Use → List ℕ → List ℕ
fill_uses labels [] l = l
fill_uses labels (u ∷ us) l = fill_uses labels us (fill_use (decoded u.code) u.offset (get_or labels u.label none) l)

-- the bytes of a recording without a jump: "nothing moves"
unfoldable pub in_place : Pooled → List ℕ
in_place p = fill_pool (λ (offset : ℕ). offset) p.pool (fill_uses p.labels p.uses p.code)
