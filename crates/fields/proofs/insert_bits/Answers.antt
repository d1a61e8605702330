-- `insert_bits` meets its contract: its sums and products fit.
use Rattle.std.proofs.Common.{arith}
use Rattle.fields.proofs.Insertion.{insert_fits}
use Rattle.fields.proofs.insert_bits.Goals as goal

pub overflow_mul-result-2 : goal.overflow_mul-result-2
overflow_mul-result-2 c = let a = c.args in omega (arith, insert_fits a.position a.width c.from-w.result a.value c.requires (omega arith))

pub overflow_add-result-2 : goal.overflow_add-result-2
overflow_add-result-2 c = let a = c.args in omega (arith, insert_fits a.position a.width c.from-w.result a.value c.requires (omega arith))

pub overflow_cast-result : goal.overflow_cast-result
overflow_cast-result c = let a = c.args in omega (arith, insert_fits a.position a.width c.from-w.result a.value c.requires (omega arith))
