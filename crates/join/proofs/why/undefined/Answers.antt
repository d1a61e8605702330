-- `undefined` meets its contract: 28 and 29.
use Rattle.std.proofs.Common.{rules}
use borrow.Author.Tests.{tests}
use Rattle.seqs.proofs.Picking.{picks}
use Rattle.join.specs.Pieces.{Lent, lent_of}
use Rattle.join.specs.Join.{Defined, holds, known_in, why_undefined}
use Rattle.join.proofs.Fits.{unfits}
use Rattle.join.proofs.why.undefined.Goals as goal

pub settle-requires : goal.settle-requires
settle-requires c = search (rules, unfits)

pub returns-then-not-settle : goal.returns-then-not-settle
unfolding why_undefined
returns-then-not-settle c = search (rules, picks)

pub all_hold-requires-clause-relocations : goal.all_hold-requires-clause-relocations
all_hold-requires-clause-relocations c = search (rules, unfits)

pub invariant_of-resolver : goal.invariant_of-resolver
invariant_of-resolver c = search (rules, unfits)

pub returns-then-not-all_hold : goal.returns-then-not-all_hold
unfolding why_undefined holds
returns-then-not-all_hold c =
    let a = c.args in
    let l : Lent = lent_of a.pieces.now a.code.now a.labels.now a.relocs.now a.definitions.now in
    let held = c.all_hold.ensures Defined (known_in l) (λ p r b called. search (rules, tests, picks)) in
    search (rules, picks, held)

pub returns : goal.returns
unfolding why_undefined holds
returns c =
    let a = c.args in
    let l : Lent = lent_of a.pieces.now a.code.now a.labels.now a.relocs.now a.definitions.now in
    let held = c.all_hold.ensures Defined (known_in l) (λ p r b called. search (rules, tests, picks)) in
    search (rules, picks, held)
