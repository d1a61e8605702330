-- `put_pieces` meets its contract: the pieces passed stand in the outputs.
use Rattle.std.proofs.Common.{◌≡◌, ◌≤◌, length}
use Rattle.join.specs.Pieces.{lent_of, cursor_at}
use Rattle.join.specs.steps.Writes.{Joins}
use Rattle.join.specs.Symbols.{find}
use Rattle.join.specs.Join.{count_remaining}
use Rattle.join.proofs.Putting.{Stands}
use Rattle.join.proofs.write.put_pieces.Given as goal

abbrev pub invariant-loop-k : goal.invariant-loop-k
invariant-loop-k l =
    (l.k ≤ l.resolver.count) × (l.cursor ≡ cursor_at l.resolver.pieces.now l.k) × (l.at ≡ count_remaining l.resolver.pieces.now l.relocs l.k)
    × Stands (find l.resolver.pieces.now l.resolver.labels.now l.resolver.definitions.now l.resolver.count) (lent_of l.resolver.pieces.now l.code l.resolver.labels.now l.relocs l.resolver.definitions.now) l.initial.output l.initial.joined_labels l.initial.joined_relocs l.k l.output l.joined_labels l.joined_relocs
    × Joins (lent_of l.resolver.pieces.now l.code l.resolver.labels.now l.relocs l.resolver.definitions.now) l.resolver.count (length l.initial.output) (length l.initial.joined_labels) (length l.initial.joined_relocs)
