-- `put_entries` meets its contract: after i turns the first i entries stand in the table.
use Rattle.std.proofs.Common.{ℕ, length, sym, refl, ap, ◌∙◌, arith}
use Rattle.seqs.proofs.Overwrites.{length_over, over_nil}
use Rattle.words.specs.Words.{bytes_of_all}
use Rattle.elf.specs.Elf.{rela_at, words_of_entry, words_of_entries}
use Rattle.elf.proofs.Entries.{put_one, six_over}
use Rattle.elf.proofs.read.put_entries.Goals as goal

pub loop-i-init : goal.loop-i-init
loop-i-init c = (omega arith, sym (over_nil _ 0))

pub put_reloc-requires : goal.put_reloc-requires
put_reloc-requires c =
    let a = c.args in
    omega (arith, ap length c.loop-i.invariant.1 ∙ length_over a.table.now 0 (bytes_of_all (words_of_entries a.relas.now c.loop-i.i)))

pub loop-i-preserved : goal.loop-i-preserved
loop-i-preserved c =
    let a = c.args in
    let l = c.loop-i in
    let written = c.put_reloc.ensures ∙ six_over l.table l.i _ _ _ _ _ _ in
    (omega arith, rw (written, l.invariant.1, c.rela_at-rela.ensures) (put_one (λ (j : ℕ). words_of_entry (rela_at a.relas.now j)) (λ j. refl) a.table.now l.i))

pub shape_of-table : goal.shape_of-table
shape_of-table c =
    let a = c.args in
    ap length c.loop-i.invariant.1 ∙ length_over a.table.now 0 (bytes_of_all (words_of_entries a.relas.now c.loop-i.i))
