-- `no_field` meets its contract: 17 and 18.
use Rattle.std.proofs.Common.{rules}
use borrow.Author.Tests.{tests}
use Rattle.seqs.proofs.Picking.{picks}
use Rattle.join.specs.Pieces.{Lent, lent_of}
use Rattle.join.specs.Join.{Inside, Reaches, holds, known_in, why_no_field}
use Rattle.join.proofs.Fits.{unfits}
use Rattle.join.proofs.why.no_field.Goals as goal

pub all_hold-requires-clause-relocations : goal.all_hold-requires-clause-relocations
all_hold-requires-clause-relocations c = search (rules, unfits)

pub returns-then-not-all_hold : goal.returns-then-not-all_hold
unfolding why_no_field holds
returns-then-not-all_hold c =
    let a = c.args in
    let l : Lent = lent_of a.pieces.now a.code.now a.labels.now a.relocs.now a.definitions.now in
    let inside = c.all_hold.ensures Inside (known_in l) (λ p r b called. search (rules, tests, picks)) in
    search (rules, picks, inside)

pub all_hold-requires-2-clause-relocations : goal.all_hold-requires-2-clause-relocations
all_hold-requires-2-clause-relocations c = search (rules, unfits)

pub invariant_of-resolver : goal.invariant_of-resolver
invariant_of-resolver c = search (rules, unfits)

pub returns-then-not-all_hold-2 : goal.returns-then-not-all_hold-2
unfolding why_no_field holds
returns-then-not-all_hold-2 c =
    let a = c.args in
    let l : Lent = lent_of a.pieces.now a.code.now a.labels.now a.relocs.now a.definitions.now in
    let inside = c.all_hold.ensures Inside (known_in l) (λ p r b called. search (rules, tests, picks)) in
    let reaches = c.all_hold-2.ensures Reaches (known_in l) (λ p r b called. search (rules, tests, picks)) in
    search (rules, picks, inside, reaches)

pub returns : goal.returns
unfolding why_no_field holds
returns c =
    let a = c.args in
    let l : Lent = lent_of a.pieces.now a.code.now a.labels.now a.relocs.now a.definitions.now in
    let inside = c.all_hold.ensures Inside (known_in l) (λ p r b called. search (rules, tests, picks)) in
    let reaches = c.all_hold-2.ensures Reaches (known_in l) (λ p r b called. search (rules, tests, picks)) in
    search (rules, picks, inside, reaches)
