-- `patch_branch` meets its contract: the field is that of the word, or of the B after it.
use native.Mathlib.Numerals.{unary_clauses}
use Rattle.std.proofs.Common.{arith}
use Rattle.fresh.specs.Fill.{fill_field}
use Rattle.emit.proofs.patch_branch.Goals as goal

pub patch_field-requires : goal.patch_field-requires
patch_field-requires c =
    rw c.if-long.true at c.requires.output_within

pub returns-then-long : goal.returns-then-long
unfolding fill_field
returns-then-long c =
    rw c.if-long.true c.patch_field.ensures

pub patch_field-requires-else-long : goal.patch_field-requires-else-long
patch_field-requires-else-long c =
    let within = rw c.if-long.false at c.requires.output_within in rw c.field_kind.ensures (omega (arith, within))

pub returns-else-long : goal.returns-else-long
unfolding fill_field
returns-else-long c =
    rw (c.if-long.false, ← c.field_kind.ensures) (simp unary_clauses c.patch_field-else-long.ensures)
