-- The code as runs between events, and how far a layout and the runs have come after some of their turns: what the contracts of layout and emit speak of.
use Rattle.std.specs.Prelude.{◌≡◌, Bool, false, List, [], ◌∷◌, ◌++◌, map, ℕ, zero, suc, ◌+◌, ◌-◌, ◌≤◌, ◌<◌, get_or, take, drop}
use Rattle.fields.specs.Kinds.{info}
use Rattle.fields.specs.Branches.{field_kind}
use Rattle.relax.specs.declared.LayoutEvent.{LayoutEvent}
use Rattle.relax.specs.declared.LayoutEvent.TheVariants.{Jump, Align, Far}
use Rattle.relax.specs.declared.Segment.{Segment}
use Rattle.relax.specs.Events.{start_of, extent_of, end_of, no_event, short_len, most_jump, branch_len}
use Rattle.buffer.specs.Tables.{most_alignment}
use Rattle.fresh.specs.Pooled.{Pooled}
use Rattle.fresh.specs.Forms.{form}
use Rattle.fresh.specs.Fresh.{Choice, is_long, others}
use Rattle.fresh.specs.Segments.{segment, map_offset, segments_of}
use Rattle.fresh.specs.Fill.{part, fill}

-- a jump was recorded with 2 to 15 bytes, an alignment is to at most 4,096, a branch was recorded with 4 bytes
abbrev pub Small : LayoutEvent → Type 0
Small (Jump j) = (short_len ≤ j.len) × (j.len ≤ most_jump)
Small (Align a) = (0 < a.align) × (a.align ≤ most_alignment)
Small (Far f) = f.len ≡ branch_len

-- how far before and after the end of its short form an event reaches: label minus end lies in -behind..ahead
abbrev pub behind_of : LayoutEvent → ℕ
behind_of (Jump j) = 128
behind_of (Align a) = 0
behind_of (Far f) = (info (field_kind f.code)).low + branch_len

abbrev pub ahead_of : LayoutEvent → ℕ
ahead_of (Jump j) = 127
ahead_of (Align a) = 0
ahead_of (Far f) = (info (field_kind f.code)).high - branch_len

unfoldable pub Modest : List LayoutEvent → Type 0
Modest [] = Unit {0}
Modest (e ∷ es) = Small e × Modest es

-- the events' new starts
abbrev pub new_starts : List Segment → List ℕ
new_starts ss = map (λ (s : Segment). s.new_start) ss

-- what is written for an event of the code
abbrev pub form_at : ℕ → List ℕ → LayoutEvent → Bool → ℕ → List ℕ
form_at arch code e long n = form arch e (part code (start_of e) (extent_of e)) long n

-- the code from the recorded offset o on, as runs between events
unfoldable pub runs : ℕ → ℕ → ℕ → List ℕ → List LayoutEvent → Choice → List ℕ
runs arch o n code [] c = drop o code
runs arch o n code (e ∷ es) c =
    take (start_of e - o) (drop o code)
    ++ (form_at arch code e (is_long c) (segment o n e (is_long c)).new_start
    ++ runs arch (end_of e) (segment o n e (is_long c)).new_end code es (others c))

-- the code as a finish makes it from segments
unfoldable pub built : Pooled → Choice → List ℕ
built p c = fill (map_offset (segments_of p c)) p c (new_starts (segments_of p c)) (runs p.arch 0 0 p.code p.events c)

-- where a layout stands: the recorded offset and the new one
pub record Cursor : Type 0 where
  pub old : ℕ
  pub new : ℕ

-- where it stands after i events, from o and n on
unfoldable pub after : ℕ → ℕ → ℕ → List LayoutEvent → Choice → Cursor
after zero o n es c = record { old = o; new = n }
after (suc i) o n [] c = record { old = o; new = n }
after (suc i) o n (e ∷ es) c = after i (end_of e) (segment o n e (is_long c)).new_end es (others c)

-- the segment of event i, from where the layout stands before it
unfoldable pub segment_at : ℕ → ℕ → ℕ → List LayoutEvent → Choice → Segment
segment_at i o n es c = segment (after i o n es c).old (after i o n es c).new (get_or es i no_event) (get_or c i false)

-- the first i events and the runs before them
unfoldable pub runs_to : ℕ → ℕ → ℕ → ℕ → List ℕ → List LayoutEvent → Choice → List ℕ
runs_to zero arch o n code es c = []
runs_to (suc i) arch o n code [] c = []
runs_to (suc i) arch o n code (e ∷ es) c =
    take (start_of e - o) (drop o code)
    ++ (form_at arch code e (is_long c) (segment o n e (is_long c)).new_start
    ++ runs_to i arch (end_of e) (segment o n e (is_long c)).new_end code es (others c))
