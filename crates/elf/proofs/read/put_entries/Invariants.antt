-- `put_entries` meets its contract: after i turns the first i entries stand in the table.
use Rattle.std.proofs.Common.{◌≡◌, ◌≤◌}
use Rattle.words.specs.Words.{over_words}
use Rattle.elf.specs.Elf.{words_of_entries}
use Rattle.elf.proofs.read.put_entries.Given as goal

abbrev pub invariant-loop-i : goal.invariant-loop-i
invariant-loop-i l = (l.i ≤ l.n) × (l.table ≡ over_words l.initial.table (words_of_entries l.relas l.i))
