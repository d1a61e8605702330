-- `put_relas` meets its contract: after i turns the first i entries stand in the output.
use Rattle.std.proofs.Common.{ℕ, List, length, sym, refl, ap, ◌∙◌, arith}
use Rattle.seqs.proofs.Overwrites.{length_over, over_nil}
use Rattle.words.specs.Words.{bytes_of_all}
use Rattle.recording.specs.View.{reloc_at}
use Rattle.elf.specs.Elf.{words_of_rela, rela_of, words_of_relas}
use Rattle.elf.proofs.Entries.{put_one}
use Rattle.elf.proofs.write.put_relas.Goals as goal

pub loop-i-init : goal.loop-i-init
loop-i-init c = (omega arith, sym (over_nil _ 0))

pub rela_of-requires : goal.rela_of-requires
rela_of-requires c =
    record { relocs_within = omega arith; labels_within = c.requires.targets_named.known _ c.loop-i-test.true }

pub put_rela-requires : goal.put_rela-requires
put_rela-requires c =
    let a = c.args in
    let words = words_of_relas a.arch a.labels.now a.section a.relocs.now c.loop-i.i in
    omega (arith, ap length c.loop-i.invariant.1 ∙ length_over a.output.now 0 (bytes_of_all words))

pub loop-i-preserved : goal.loop-i-preserved
loop-i-preserved c =
    let a = c.args in
    let l = c.loop-i in
    let entry : ℕ → List ℕ = λ j. words_of_rela (rela_of a.arch a.labels.now a.section (reloc_at a.relocs.now j)) in
    (omega arith, rw (c.put_rela.ensures, l.invariant.1, c.rela_of.ensures) (put_one entry (λ j. refl) a.output.now l.i))

pub shape_of-output : goal.shape_of-output
shape_of-output c =
    let a = c.args in
    let words = words_of_relas a.arch a.labels.now a.section a.relocs.now c.loop-i.i in
    ap length c.loop-i.invariant.1 ∙ length_over a.output.now 0 (bytes_of_all words)
