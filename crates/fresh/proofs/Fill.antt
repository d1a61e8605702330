-- Filling by segments is filling by the walk, and a fill leaves the length.
use mathlib.Core.Path.{◌≡◌, refl, sym, ◌∙◌, ap, fun_ext}
use mathlib.Core.Bool.{Bool}
use mathlib.Core.List.{List, [], ◌∷◌, map}
use Prim.Native.Nat.{ℕ, suc, ◌+◌}
use lib.ListN.{length, get_or}
use Rattle.seqs.proofs.Overwrites.{length_over}
use Rattle.fields.specs.Kinds.{Decoded, Use, Unsupported, Unknown}
use Rattle.relax.specs.declared.LayoutEvent.{LayoutEvent}
use Rattle.buffer.specs.State.{none}
use Rattle.recording.specs.View as view
use Rattle.fresh.specs.Pooled.{Placed, Pooled}
use Rattle.fresh.specs.Forms.{Branch, field_of, pads, branches, role_of}
use Rattle.fresh.specs.Fresh.{Choice, is_long, walk, starts, placed, moved}
use Rattle.fresh.specs.Rounds.{first_start}
use Rattle.fresh.specs.Fill.{fill_field, fill_refs, fill_jump, fill_jumps, fill_pool, fill, assembled, fill_use, fill_uses, in_place}
use Rattle.fresh.specs.Segments.{map_offset, segments_of}
use Rattle.fresh.specs.Order.{RefsLie, PoolLies, WellFormed}
use Rattle.fresh.specs.steps.Runs.{runs, built}
use Rattle.fresh.proofs.Tests.{by_role}
use Rattle.fresh.proofs.Segments.{placed_runs, starts_are, moved_map, target_map}

-- lengths
pub length_fill_field : (k : Decoded) (offset label addend : ℕ) (l : List ℕ) → length (fill_field k offset label addend l) ≡ length l
unfolding fill_field
length_fill_field (Use k) offset label addend l = length_over l offset _
length_fill_field Unsupported offset label addend l = refl
length_fill_field Unknown offset label addend l = refl

pub length_fill_refs : (at : ℕ → ℕ) (labels : List ℕ) (rs : List view.Ref) (l : List ℕ) → length (fill_refs at labels rs l) ≡ length l
unfolding fill_refs
length_fill_refs at labels [] l = refl
length_fill_refs at labels (r ∷ rs) l = length_fill_refs at labels rs _ ∙ length_fill_field _ _ _ _ l

-- a jump is filled as a field is, and padding is not
pub fill_jump_pads : (at : ℕ → ℕ) (e : LayoutEvent) (long : Bool) (start : ℕ) (l : List ℕ) → role_of e ≡ pads
    → fill_jump at e long start l ≡ l
unfolding fill_jump
fill_jump_pads at e long start l r = rw (r, fill_jump)

pub fill_jump_branch : (at : ℕ → ℕ) (e : LayoutEvent) (b : Branch) (long : Bool) (start : ℕ) (l : List ℕ) → role_of e ≡ branches b
    → fill_jump at e long start l
    ≡ fill_field (Use (field_of b long).kind) (start + (field_of b long).place) (at b.label) 0 l
unfolding fill_jump
fill_jump_branch at e b long start l r = rw (r, fill_jump)

pub length_fill_jump : (at : ℕ → ℕ) (e : LayoutEvent) (long : Bool) (start : ℕ) (l : List ℕ)
    → length (fill_jump at e long start l) ≡ length l
length_fill_jump at e long start l = by_role e
    (λ r. ap length (fill_jump_pads at e long start l r))
    (λ b r. ap length (fill_jump_branch at e b long start l r) ∙ length_fill_field (Use (field_of b long).kind) _ _ 0 l)

pub length_fill_jumps : (at : ℕ → ℕ) (es : List LayoutEvent) (c : Choice) (starts l : List ℕ)
    → length (fill_jumps at es c starts l) ≡ length l
unfolding fill_jumps
length_fill_jumps at [] c starts l = refl
length_fill_jumps at (e ∷ es) c starts l = length_fill_jumps at es _ _ _ ∙ length_fill_jump at e (is_long c) (first_start starts) l

pub length_fill_pool : (at : ℕ → ℕ) (ks : List Placed) (l : List ℕ) → length (fill_pool at ks l) ≡ length l
unfolding fill_pool
length_fill_pool at [] l = refl
length_fill_pool at (k ∷ ks) l = length_fill_pool at ks _ ∙ length_over l (at k.offset) k.bytes

pub length_fill : (at : ℕ → ℕ) (p : Pooled) (c : Choice) (starts l : List ℕ) → length (fill at p c starts l) ≡ length l
unfolding fill
length_fill at p c starts l =
    length_fill_pool at p.pool _ ∙ (length_fill_jumps _ p.events c starts _ ∙ length_fill_refs at p.labels p.refs l)

pub length_fill_use : (k : Decoded) (offset label : ℕ) (l : List ℕ) → length (fill_use k offset label l) ≡ length l
unfolding fill_use
length_fill_use (Use k) offset label l = length_over l offset _
length_fill_use Unsupported offset label l = refl
length_fill_use Unknown offset label l = refl

pub length_fill_uses : (labels : List ℕ) (us : List view.Use) (l : List ℕ) → length (fill_uses labels us l) ≡ length l
unfolding fill_uses
length_fill_uses labels [] l = refl
length_fill_uses labels (u ∷ us) l = length_fill_uses labels us _ ∙ length_fill_use _ _ _ l

pub length_built : (p : Pooled) (c : Choice) → length (built p c) ≡ length (runs p.arch 0 0 p.code p.events c)
unfolding built
length_built p c = length_fill _ p c _ _

pub length_assembled : (p : Pooled) (c : Choice) → length (assembled p c) ≡ length (placed p c)
unfolding assembled
length_assembled p c = length_fill _ p c _ _

pub length_in_place : (p : Pooled) → length (in_place p) ≡ length p.code
unfolding in_place
length_in_place p = length_fill_pool _ p.pool _ ∙ length_fill_uses p.labels p.uses p.code

-- functions that agree at each entry agree on the list
map_same : (f g : ℕ → ℕ) (l : List ℕ) (d : ℕ) → ((i : ℕ) → f (get_or l i d) ≡ g (get_or l i d)) → map f l ≡ map g l
map_same f g [] d h = refl
map_same f g (x ∷ l) d h = cc (h 0, map_same f g l d (λ i. h (suc i)))

module _ (p : Pooled) (c : Choice) (wf : WellFormed p) where
  refs_same : (rs : List view.Ref) → RefsLie p rs → (l : List ℕ)
      → fill_refs (moved p c) p.labels rs l ≡ fill_refs (map_offset (segments_of p c)) p.labels rs l
  unfolding fill_refs RefsLie
  refs_same [] h l = refl
  refs_same (r ∷ rs) h l = rw (moved_map p c wf r.offset h.0, target_map p c wf r.label) (refs_same rs h.1 _)

  pool_same : (ks : List Placed) → PoolLies p ks → (l : List ℕ) → fill_pool (moved p c) ks l ≡ fill_pool (map_offset (segments_of p c)) ks l
  unfolding fill_pool PoolLies
  pool_same [] h l = refl
  pool_same (k ∷ ks) h l = rw (moved_map p c wf k.offset h.0) (pool_same ks h.1 _)

  -- Every byte.
  pub built_assembled : built p c ≡ assembled p c
  unfolding built assembled fill
  built_assembled =
      sym (pool_same p.pool wf.constants _
      ∙ ap (fill_pool (map_offset (segments_of p c)) p.pool)
      (ap (λ (at : ℕ → ℕ). fill_jumps at p.events c (starts 0 (walk p) c) (fill_refs (moved p c) p.labels p.refs (placed p c))) (fun_ext (target_map p c wf))
      ∙ rw (starts_are p c wf, placed_runs p c wf, refs_same p.refs wf.fields (runs p.arch 0 0 p.code p.events c)) refl))

  -- Every label.
  pub labels_same : map (map_offset (segments_of p c)) p.labels ≡ map (moved p c) p.labels
  labels_same = map_same _ _ p.labels none (λ l. sym (target_map p c wf l))
