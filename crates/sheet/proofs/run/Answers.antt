-- `run` meets its contract: what is left of the calls, on the recording that is meant, gives what the whole gives, and what is kept of the labels is right.
use mathlib.Core.Path.{◌≡◌, refl, ap, ◌∙◌}
use Prim.Native.Nat.{◌*◌}
use native.Mathlib.Omega.{arith}
use lib.ListN.{length, get_or, take, drop}
use Rattle.sheet.specs.Run.{call_of, run_calls}
use Rattle.sheet_form.proofs.Forming.{argument_part, argument_length, has_kind}
use Rattle.sheet.proofs.Following.{call_follows}
use Rattle.sheet.proofs.Counting.{call_meant, meant_on, going_fits, going_on, gone_labels, gone_code}
use Rattle.sheet.proofs.Running.{run_again, run_refused, run_end}
use Rattle.sheet_form.specs.Form.{argument_size}
use Rattle.refusals.proofs.Variants.{number_not_0}
use Rattle.std.proofs.Common.{rules}
use Rattle.sheet.proofs.run.Goals as goal

pub loop-i-init : goal.loop-i-init
loop-i-init c =
    (omega arith, refl, refl, refl, refl, refl, refl, refl, refl, record { word = λ m e. absurd (cc); first = λ m e ne. absurd (cc); next = λ k f ne. absurd (cc) }, refl, c.requires.going, omega (arith, c.well_formed))

pub before_call-bound-requires : goal.before_call-bound-requires
before_call-bound-requires c =
    c.loop-i.invariant.9

pub of_byte-kind-requires : goal.of_byte-kind-requires
of_byte-kind-requires c = has_kind c.args.kinds.now c.args.arguments.now c.loop-i.i c.loop-i-test.true c.requires.formed

pub call-done-requires : goal.call-done-requires
call-done-requires c =
    (argument_length c.args.kinds.now c.args.arguments.now c.loop-i.i c.loop-i-test.true c.requires.within.0, c.nearest-nearest.ensures _ _ c.before_call-bound.ensures)

pub returns-in-Err : goal.returns-in-Err
returns-in-Err c =
    let a = c.args in
    let going = c.loop-i.invariant.11 in
    let call = call_of (get_or a.kinds.now c.loop-i.i 0) (take argument_size (drop (c.loop-i.i * argument_size) a.arguments.now)) in
    let e = rw (c.in-Err.is, c.of_byte-kind.ensures, argument_part a.kinds.now a.arguments.now c.loop-i.i) at c.call-done.ensures in record { relocs_after = run_refused a.kinds.now a.arguments.now c.loop-i.i _ _ c.loop-i.invariant.10 _ _ c.loop-i-test.true (call_meant a.kept call _ going c.loop-i.invariant.12 e) (number_not_0 _); fitting = going_fits call _ going e }

pub loop-i-preserved : goal.loop-i-preserved
loop-i-preserved c =
    let a = c.args in
    let going = c.loop-i.invariant.11 in
    let call = call_of (get_or a.kinds.now c.loop-i.i 0) (take argument_size (drop (c.loop-i.i * argument_size) a.arguments.now)) in
    let e = rw (c.of_byte-kind.ensures, argument_part a.kinds.now a.arguments.now c.loop-i.i) at c.call-done.ensures in (
      omega (arith, c.loop-i-test.true),
      omega (arith, c.call-done.auto, c.loop-i.invariant),
      omega (arith, c.call-done.auto, c.loop-i.invariant),
      omega (arith, c.call-done.auto, c.loop-i.invariant),
      omega (arith, c.call-done.auto, c.loop-i.invariant),
      omega (arith, c.call-done.auto, c.loop-i.invariant),
      omega (arith, c.call-done.auto, c.loop-i.invariant),
      omega (arith, c.call-done.auto, c.loop-i.invariant),
      omega (arith, c.call-done.auto, c.loop-i.invariant),
      rw (c.going_on-last.ensures, gone_labels a.kept c.call-done.result.buffer)
          (c.after_call-bound.ensures _ _ _ _ (rw c.of_byte-kind.ensures at (call_follows _ _ _ c.call-done.ensures (search rules))) c.before_call-bound.ensures),
      rw c.going_on-last.ensures
          (ap (run_calls _ _) (meant_on a.kept _)
          ∙ run_again a.kinds.now a.arguments.now c.loop-i.i _ _ c.loop-i.invariant.10 _ _ c.loop-i-test.true (call_meant a.kept call _ going c.loop-i.invariant.12 e) (search rules)),
      rw c.going_on-last.ensures (going_on a.kept call _ going e),
      rw (c.going_on-last.ensures, gone_code a.kept c.call-done.result.buffer) (omega (arith, c.call-done.type_inv)),
    )

pub returns : goal.returns
returns c =
    let a = c.args in
    let all : c.loop-i.i ≡ length a.kinds.now = omega (arith, c.loop-i-test.false) in
    record { relocs_after = rw all at (run_end a.kinds.now a.arguments.now c.loop-i.i _ _ c.loop-i.invariant.10 c.loop-i-test.false); fitting = c.loop-i.invariant.11.fitting }
