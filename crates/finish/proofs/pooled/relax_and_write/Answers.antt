-- `relax_and_write` meets its contract: each return is one case of proofs/Stages.
use mathlib.Core.Path.{refl, ap}
use mathlib.Core.List.{[]}
use native.Mathlib.Omega.{arith}
use lib.ListN.{length, length-replicate}
use Rattle.finish.proofs.RelaxedRequires.{recorded, labelled, labels_fit_lem, refs_known}
use Rattle.refusals.proofs.Variants.{number_not_0}
use borrow.Author.Rules.{rules}
use Rattle.finish.proofs.StageAnswers.{handed_on, room, few, clear, segments_rise, why_by, refused_late, writing_is, done}
use Rattle.finish.proofs.pooled.relax_and_write.Goals as goal

pub relax_jumps-laid-requires : goal.relax_jumps-laid-requires
relax_jumps-laid-requires c =
    let x = c.requires.layable in
    let ready = x.relaxable.ready in
    record { recorded = recorded ready; labelled = labelled ready; within = (few x, room x, simp length-replicate at (ap length c.requires.none_long), c.shift_for-shift.ensures.small) }

pub end-end-requires : goal.end-end-requires
end-end-requires c =
    record { in_bound = omega (arith, (recorded c.requires.layable.relaxable.ready).small) }

pub overflow_add-offsets : goal.overflow_add-offsets
overflow_add-offsets c = omega (arith, few c.requires.layable)

pub invariant_of-offsets-clause-rising : goal.invariant_of-offsets-clause-rising
invariant_of-offsets-clause-rising c = segments_rise c.requires.layable c.relax_jumps-laid.ensures.relaxed

pub refs_reach-reach-requires : goal.refs_reach-reach-requires
refs_reach-reach-requires c =
    let x = c.requires.layable in
    refs_known x.relaxable.ready x.relaxable.referred (clear x)

pub returns-in_err-why_not_written : goal.returns-in_err-why_not_written
returns-in_err-why_not_written c = λ us.
    let x = c.requires.layable in
    let late = why_by c.relax_jumps-laid.result.len (length c.args.output.now) c.refs_reach-reach.ensures c.in_err-why_not_written.ensures in
    refused_late _ x.relaxable us x.unrefused refl c.requires.none_long c.relax_jumps-laid.ensures.relaxed late (number_not_0 c.in_err-why_not_written.field-0.0) (handed_on c.in_err-why_not_written.field-0.0 (search rules))

pub map_words-requires : goal.map_words-requires
map_words-requires c = labels_fit_lem c.requires.layable.relaxable.ready

pub map_words-requires-2 : goal.map_words-requires-2
map_words-requires-2 c = c.requires.layable.relaxable.moved

pub write_relaxed-requires : goal.write_relaxed-requires
write_relaxed-requires c =
    let pre = c.requires in
    let marks = simp length-replicate at (ap length pre.none_long) in
    let late = why_by c.relax_jumps-laid.result.len (length c.args.output.now) c.refs_reach-reach.ensures c.in_ok-why_not_written.ensures in
    record { counted = refl; writing = writing_is _ pre.layable.relaxable [] pre.layable.unrefused refl pre.none_long c.relax_jumps-laid.ensures.relaxed late refl (omega (arith, marks, c.relax_jumps-laid.auto)) c.map_words.ensures }

pub returns : goal.returns
returns c = λ us.
    let pre = c.requires in
    let marks = simp length-replicate at (ap length pre.none_long) in
    let late = why_by c.relax_jumps-laid.result.len (length c.args.output.now) c.refs_reach-reach.ensures c.in_ok-why_not_written.ensures in
    done _ pre.layable.relaxable us pre.layable.unrefused refl pre.none_long c.relax_jumps-laid.ensures.relaxed late refl (omega (arith, marks, c.relax_jumps-laid.auto)) c.map_words.ensures refl c.map_words-2.ensures c.write_relaxed.ensures

pub shape_of-segments : goal.shape_of-segments
shape_of-segments c =
    omega (arith, c.relax_jumps-laid.auto)

pub shape_of-long : goal.shape_of-long
shape_of-long c =
    omega (arith, c.relax_jumps-laid.auto)

pub shape_of-index : goal.shape_of-index
shape_of-index c =
    omega (arith, c.relax_jumps-laid.auto)
