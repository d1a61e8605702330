-- `map_words` meets its contract: after i turns the first i of the words are mapped.
use Rattle.std.proofs.Common.{◌≡◌, take}
use Rattle.fresh.specs.Segments.{map_offset}
use Rattle.emit.specs.steps.Emit.{mapped_words}
use Rattle.emit.proofs.map_words.Given as goal

abbrev pub invariant-loop-i : goal.invariant-loop-i
invariant-loop-i l = l.table ≡ mapped_words (map_offset (take l.offsets.count l.offsets.segments.now)) l.initial.table l.stride l.i
