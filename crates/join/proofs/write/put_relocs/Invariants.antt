-- `put_relocs` meets its contract: those passed that remain stand there, moved.
use Rattle.std.proofs.Common.{◌≡◌, ◌+◌, ◌*◌, ◌≤◌}
use Rattle.seqs.specs.Over.{over}
use Rattle.words.specs.Words.{bytes_of_all}
use Rattle.buffer.specs.Tables.{reloc_size}
use Rattle.join.specs.Join.{remaining_in, count_remaining_in}
use Rattle.join.proofs.write.put_relocs.Given as goal

abbrev pub invariant-loop-j : goal.invariant-loop-j
invariant-loop-j l = (l.j ≤ l.placed.piece.relocs) × (l.i ≡ l.at + count_remaining_in l.relocs l.placed.piece l.placed.cursor l.j) × (l.joined ≡ over l.initial.joined (l.at * reloc_size) (bytes_of_all (remaining_in l.relocs l.placed.piece l.placed.cursor l.j)))
