-- `find_targets` meets its contract: a turn writes one target more, and leaves what is searched.
use mathlib.Core.List.{List}
use Rattle.words.specs.Words.{word_at}
use Rattle.relax.specs.declared.LayoutEvent.{LayoutEvent}
use Rattle.layout.specs.steps.Targets.{Shown, SamePast}
use Rattle.layout.proofs.Targets.{Targeted}
use Rattle.layout.proofs.find_targets.Given as goal

abbrev pub invariant-loop-i : goal.invariant-loop-i
invariant-loop-i l =
    ((es : List LayoutEvent) → Shown es l.initial.segments l.events l.n l.all → Targeted es (word_at l.labels) l.events l.n l.all l.i l.segments)
    × SamePast l.n l.initial.segments l.segments
