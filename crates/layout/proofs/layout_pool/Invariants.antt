-- `layout_pool` meets its contract: a turn lays out one alignment more.
use Rattle.layout.proofs.Pooling.{PoolLaid}
use Rattle.layout.proofs.layout_pool.Given as goal

abbrev pub invariant-loop-j : goal.invariant-loop-j
invariant-loop-j l =
    PoolLaid l.initial.segments l.segments l.pool.constants.now l.pool.asked.now l.n l.old l.new l.j l.from l.to
