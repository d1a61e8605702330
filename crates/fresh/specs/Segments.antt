-- The segments that a layout fills and `map`, which searches them: document 01, the paragraph on relax.rs. Labels and a ref's field go where the fresh
-- assembly has them (`moved_map`); relocations go where `map` says.
use Rattle.std.specs.Prelude.{Bool, true, false, List, [], ◌∷◌, ℕ, ◌+◌, ◌-◌, ltb, leb, eqb}
use Rattle.relax.specs.declared.LayoutEvent.{LayoutEvent}
use Rattle.relax.specs.declared.Segment.{Segment}
use Rattle.relax.specs.Events.{end_of, start_of}
use Rattle.buffer.specs.State.{none}
use Rattle.fresh.specs.Pooled.{Pooled}
use Rattle.fresh.specs.Forms.{width}
use Rattle.fresh.specs.Fresh.{Choice, is_long, others}

-- the segment of an event, where the event before ended at the recorded offset o and the new offset n
abbrev pub segment : ℕ → ℕ → LayoutEvent → Bool → Segment
segment o n e long =
    record {
      old_start = start_of e;
      old_end = end_of e;
      new_start = n + (start_of e - o);
      new_end = n + (start_of e - o) + width e long (n + (start_of e - o));
    }

-- "Segments follow events in order."
unfoldable pub segments : ℕ → ℕ → List LayoutEvent → Choice → List Segment
segments o n [] c = []
segments o n (e ∷ es) c = segment o n e (is_long c) ∷ segments (end_of e) (segment o n e (is_long c)).new_end es (others c)

-- "an offset in an event counts from its start, any other from the end of the event before"
unfoldable pub image : Segment → ℕ → ℕ
image s t = elim (ltb t s.old_end) [ true ↦ t - s.old_start + s.new_start | false ↦ t - s.old_end + s.new_end ]

-- a segment that starts at or before t decides, else d stays
unfoldable pub chosen : Segment → ℕ → ℕ → ℕ
chosen s t d = elim (leb s.old_start t) [ true ↦ image s t | false ↦ d ]

-- "of events starting at one offset the last decides"
unfoldable pub decided : List Segment → ℕ → ℕ → ℕ
decided [] t d = d
decided (s ∷ ss) t d = decided ss t (chosen s t d)

-- "`map` keeps 0xFFFFFFFF"
unfoldable pub map_offset : List Segment → ℕ → ℕ
map_offset ss t = elim (eqb t none) [ true ↦ t | false ↦ decided ss t t ]

-- the layout of a choice of long jumps
abbrev pub segments_of : Pooled → Choice → List Segment
segments_of p c = segments 0 0 p.events c
