-- `count_remaining_in` meets its contract: how many of those passed remain.
use Rattle.std.proofs.Common.{ℕ, not, sym, ◌∙◌, arith}
use Rattle.seqs.proofs.Picking.{yes_not, no_not}
use Rattle.seqs.proofs.Counting.{none_counted, one_counted}
use Rattle.join.specs.Join.{is_filled, piece_reloc, count_remaining_in}
use Rattle.join.proofs.relocs.count_remaining_in.Goals.{then-not-is_filled, else-not-is_filled}
use Rattle.join.proofs.relocs.count_remaining_in.Goals as goal

pub loop-j-init : goal.loop-j-init
unfolding count_remaining_in
loop-j-init c = (omega arith, sym (none_counted _), omega arith)

pub loop-j-preserved : goal.loop-j-preserved
unfolding count_remaining_in
loop-j-preserved c =
    let a = c.args in
    let more = one_counted (λ (i : ℕ). not (is_filled a.placed.piece.arch (piece_reloc a.relocs.now a.placed.cursor i))) c.loop-j.j in
    let asked = rw c.reloc_at.ensures at c.is_filled.ensures in
    elim c.if-not-is_filled.branch [
      | then-not-is_filled w ↦
          let one = yes_not {A = ℕ} _ 1 0 (sym asked ∙ w.if-not-is_filled.true) in
          (omega arith, omega (arith, c.loop-j.invariant.1, w.count-is, more, one), omega (arith, w.count-is))
      | else-not-is_filled w ↦
          let none = no_not {A = ℕ} _ 1 0 (sym asked ∙ w.if-not-is_filled.false) in
          (omega arith, omega (arith, c.loop-j.invariant.1, w.count-is, more, none), omega (arith, w.count-is))
    ]
