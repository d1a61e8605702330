-- `put_relas` meets its contract: after i turns the first i entries stand in the output.
use Rattle.std.proofs.Common.{◌≡◌, ◌≤◌}
use Rattle.words.specs.Words.{over_words}
use Rattle.elf.specs.Elf.{words_of_relas}
use Rattle.elf.proofs.write.put_relas.Given as goal

abbrev pub invariant-loop-i : goal.invariant-loop-i
invariant-loop-i l = (l.i ≤ l.n) × (l.output ≡ over_words l.initial.output (words_of_relas l.arch l.labels l.section l.relocs l.i))
