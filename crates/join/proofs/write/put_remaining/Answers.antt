-- `put_remaining` meets its contract: nothing is written of one that is filled.
use Rattle.std.proofs.Common.{ℕ, sym, ◌∙◌, arith}
use Rattle.seqs.proofs.Picking.{yes_not, no_not}
use Rattle.join.proofs.Writing.{filled_left, remaining_put}
use Rattle.join.proofs.write.put_remaining.Goals as goal

pub returns-then-is_filled : goal.returns-then-is_filled
returns-then-is_filled c =
    let a = c.args in
    let filled = sym c.is_filled.ensures ∙ c.if-is_filled.true in
    (omega (arith, no_not {A = ℕ} _ 1 0 filled), filled_left a.joined.now a.i a.placed.piece a.placed.cursor a.reloc filled)

pub put_reloc-requires : goal.put_reloc-requires
put_reloc-requires c =
    let remains = sym c.is_filled.ensures ∙ c.if-is_filled.false in
    omega (arith, c.requires.joined_within, yes_not {A = ℕ} _ 1 0 remains)

pub returns : goal.returns
returns c =
    let a = c.args in
    let remains = sym c.is_filled.ensures ∙ c.if-is_filled.false in (
      omega (arith, yes_not {A = ℕ} _ 1 0 remains),
      c.put_reloc.ensures
          ∙ remaining_put a.joined.now a.i a.placed.piece a.placed.cursor a.reloc remains c.base.result c.moved_target-target.result
          c.base.ensures.0
          c.moved_target-target.ensures,
    )
