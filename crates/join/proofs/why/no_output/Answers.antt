-- `no_output` meets its contract: 23.
use Rattle.std.proofs.Common.{rules}
use borrow.Author.Tests.{tests}
use Rattle.seqs.proofs.Picking.{picks}
use Rattle.join.specs.Pieces.{Lent, lent_of}
use Rattle.join.specs.Join.{Moves, holds, known_in, why_no_output}
use Rattle.join.proofs.Fits.{unfits}
use Rattle.join.proofs.why.no_output.Goals.{then-sum-gt-LAST_PLACE-via-then-sum-gt-LAST_PLACE, then-sum-gt-LAST_PLACE-via-else-sum-gt-LAST_PLACE+then-output-sum, then-sum-gt-LAST_PLACE-via-else-sum-gt-LAST_PLACE+else-output-sum+then-not-all_labels_move, then-sum-gt-LAST_PLACE-via-else-sum-gt-LAST_PLACE+else-output-sum+else-not-all_labels_move+then-not-all_hold}
use Rattle.join.proofs.why.no_output.Goals as goal

pub sum-sum-requires-clause-in_bound : goal.sum-sum-requires-clause-in_bound
sum-sum-requires-clause-in_bound c = search (rules, unfits)

pub sum-sum-requires-clause-pieces_fit : goal.sum-sum-requires-clause-pieces_fit
sum-sum-requires-clause-pieces_fit c = search (rules, unfits)

pub all_labels_move-requires : goal.all_labels_move-requires
all_labels_move-requires c = search (rules, unfits)

pub all_hold-requires-clause-relocations : goal.all_hold-requires-clause-relocations
all_hold-requires-clause-relocations c = search (rules, unfits)

pub returns-then-sum-gt-LAST_PLACE : goal.returns-then-sum-gt-LAST_PLACE
unfolding why_no_output holds
returns-then-sum-gt-LAST_PLACE c =
    let a = c.args in
    let l : Lent = lent_of a.pieces.now a.code.now a.labels.now a.relocs.now a.definitions.now in
    elim c.then-sum-gt-LAST_PLACE.branch [
      | then-sum-gt-LAST_PLACE-via-then-sum-gt-LAST_PLACE w ↦ search (rules, picks)
      | then-sum-gt-LAST_PLACE-via-else-sum-gt-LAST_PLACE+then-output-sum w ↦ search (rules, picks)
      | then-sum-gt-LAST_PLACE-via-else-sum-gt-LAST_PLACE+else-output-sum+then-not-all_labels_move w ↦ search (rules, picks)
      | then-sum-gt-LAST_PLACE-via-else-sum-gt-LAST_PLACE+else-output-sum+else-not-all_labels_move+then-not-all_hold w ↦
          let held = w.all_hold.ensures Moves (known_in l) (λ p r b called. search (rules, tests, picks)) in
          search (rules, picks, held)
    ]

pub returns : goal.returns
unfolding why_no_output holds
returns c =
    let a = c.args in
    let l : Lent = lent_of a.pieces.now a.code.now a.labels.now a.relocs.now a.definitions.now in
    let held = c.all_hold.ensures Moves (known_in l) (λ p r b called. search (rules, tests, picks)) in
    search (rules, picks, held)
