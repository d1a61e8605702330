-- Small recordings: offsets at an event, and what demand 3 asks of a recording. Document 01's cases stand in crate `cases`.
use mathlib.Core.Path.{◌≡◌, refl}
use mathlib.Core.Logic.{◌≢◌}
use mathlib.Core.Bool.{true, false}
use mathlib.Core.List.{[], ◌∷◌}
use Prim.Native.Nat.{ℕ, zero, suc}
use native.Mathlib.Omega.{arith}
use lib.Dec.{lit≤}
use lib.ListN.{get_or}
use borrow.Author.Tests.{eqb-false}
use Rattle.seqs.specs.Pick.{pick}
use Rattle.encoder.specs.Padding.{padding_length, padding_within}
use Rattle.relax.specs.declared.LayoutEvent.TheVariants.{Align}
use Rattle.relax.specs.Events.{no_event}
use Rattle.buffer.specs.State.{none}
use Rattle.buffer.specs.Tables.{default_most}
use Rattle.fresh.specs.Samples.{jmp, zeros}
use Rattle.fresh.specs.Forms.{width, Branch, branches, role_of}
use Rattle.fresh.specs.Pooled.{Pooled}
use Rattle.fresh.specs.Fresh.{items, starts, stands, moved, walk}
use Rattle.fresh.specs.Rounds.{jumps, reaches, is_far, far_of, any, join, settle, settled}
use Rattle.fresh.specs.Demand.{Fits, Includes, Branches, NoAlign}
use Rattle.fresh.specs.Segments.{segments, image, chosen, decided, map_offset, segments_of}
use Rattle.fresh.specs.Order.{Ordered, Clear, Lies, RefsLie, PoolLies, WellFormed}
use Rattle.fresh.proofs.Least.{Bound}
use Rattle.fresh.proofs.Rounds.{none_fits}
use Rattle.fresh.proofs.Tests.{no_confusion}

-- A label at an alignment of length 0 goes behind the padding that it gains: 2 bytes of jump, 11 plain ones, 3 of padding.
pub behind_gained_padding : moved (zeros 16 (jmp 0 0 ∷ Align (record { start = 16; len = 0; align = 16; most = default_most }) ∷ []) (16 ∷ [])) (false ∷ false ∷ []) 16 ≡ 16
unfolding pick padding_length padding_within width items stands moved
behind_gained_padding = refl

-- two jumps to the end of the code, and behind them an alignment to 8 that may spend 5 bytes
abbrev pub skipping : Pooled
skipping = zeros 134 (jmp 0 0 ∷ jmp 5 0 ∷ Align (record { start = 10; len = 0; align = 8; most = 5 }) ∷ []) (134 ∷ [])

-- A skipped alignment still counts as one. The first round pads with 4 bytes, so neither jump reaches and both become long. Then 6 would be needed, and
-- the alignment is skipped. With the first jump alone long it spends 1 byte and the second reaches: the settled choice is not the least.
pub least_fails_with_a_skipped_alignment : (width (get_or skipping.events 2 no_event) false (get_or (starts 0 (walk skipping) (settled skipping).choice) 2 0) ≡ 0)
    × Fits skipping (true ∷ false ∷ false ∷ []) × (Includes (settled skipping).choice (true ∷ false ∷ false ∷ []) → ⊥)
unfolding pick padding_length padding_within width role_of items starts stands moved jumps reaches is_far far_of any join settle Includes
least_fails_with_a_skipped_alignment = (refl, none_fits skipping (true ∷ false ∷ false ∷ []) refl, λ includes. no_confusion (includes 1 refl))

-- The end of a jump that became short goes to its new end.
pub end_goes_to_end : map_offset (segments_of (zeros 132 (jmp 0 0 ∷ []) (132 ∷ [])) (false ∷ [])) 5 ≡ 2
unfolding width segments image chosen decided map_offset
end_goes_to_end = refl

-- What demand 3 asks of a recording can be met: case A's is in good order, and its jump's label is bound.
pub met : WellFormed (zeros 132 (jmp 0 0 ∷ []) (132 ∷ [])) × Bound (132 ∷ []) (jmp 0 0 ∷ [])
unfolding Ordered Clear RefsLie PoolLies role_of
met = (record { ordered = (lit≤ tt, lit≤ tt); landed = lands; fields = tt; constants = tt }, λ i b h r. bound i b r)
  where
    lands : (l : ℕ) → get_or (132 ∷ []) l none ≢ none → Lies (zeros 132 (jmp 0 0 ∷ []) (132 ∷ [])) (get_or (132 ∷ []) l none)
    lands zero h = (lit≤ tt, (λ w. lit≤ tt, tt))
    lands (suc l) h = absurd (h refl)

    bound : (i : ℕ) (b : Branch) → role_of (get_or (jmp 0 0 ∷ []) i no_event) ≡ branches b → get_or (132 ∷ []) b.label none ≢ none
    bound zero b r = let first : 0 ≡ b.label = cc in rw (← first) (eqb-false 132 none refl)
    bound (suc i) b r = let z : ◌≡◌ {A = ℕ} 0 1 = cc in absurd (omega arith)

-- Cases B and C have neither alignment nor constant, whichever labels their jumps go to.
pub least_is_of_every_jump : ((b : Branch) → Branches (branches b)) × (NoAlign (jmp 0 0 ∷ []) × NoAlign (jmp 0 0 ∷ jmp 5 1 ∷ []))
unfolding role_of NoAlign
least_is_of_every_jump = (λ b. tt, ((tt, tt), (tt, (tt, tt))))
