-- `why_no_bytes` meets its contract: its tests are those of `why_bytes`, in order.
use Rattle.std.proofs.Common.{sym, arith}
use Rattle.buffer.proofs.Standing.{count_fits}
use Rattle.buffer.proofs.CodeBuffer.why_no_bytes.Goals as goal

pub overflow_sub-lent : goal.overflow_sub-lent
overflow_sub-lent c =
    let a = c.args in omega (arith, count_fits a.self a.self.code a.lent _ (sym c.in_ok-standing.ensures))
