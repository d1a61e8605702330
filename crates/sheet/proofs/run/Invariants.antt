-- `run` meets its contract: what is left of the calls, on the recording that is meant, gives what the whole gives, and what is kept of the labels is right.
use mathlib.Core.Path.{◌≡◌}
use Prim.Native.Nat.{◌*◌, ◌≤◌, ◌<◌}
use lib.ListN.{length, drop}
use Rattle.checks.specs.Lent.{recording_of}
use Rattle.sheet.specs.Run.{calls_of, run_calls}
use Rattle.sheet_form.specs.Form.{argument_size}
use Rattle.sheet_form.specs.steps.Bound.{Known}
use Rattle.sheet.specs.steps.Meant.{meant, Going}
use Rattle.sheet.proofs.run.Given as goal

abbrev pub invariant-loop-i : goal.invariant-loop-i
invariant-loop-i l = (l.i ≤ length l.kinds) × (length l.code ≡ length l.initial.code) × (length l.labels ≡ length l.initial.labels) × (length l.events ≡ length l.initial.events) × (length l.uses ≡ length l.initial.uses) × (length l.refs ≡ length l.initial.refs) × (length l.constants ≡ length l.initial.constants) × (length l.asked ≡ length l.initial.asked) × (length l.relocs ≡ length l.initial.relocs) × (Known l.labels l.last.labels l.bound) × (run_calls (calls_of (drop l.i l.kinds) (drop (l.i * argument_size) l.arguments)) l.i (meant l.kept (recording_of l.last l.code l.labels l.events l.uses l.refs l.constants l.asked l.relocs)) ≡ run_calls (calls_of l.kinds l.arguments) 0 (meant l.kept (recording_of l.initial.last l.initial.code l.initial.labels l.initial.events l.initial.uses l.initial.refs l.initial.constants l.initial.asked l.initial.relocs))) × Going l.kept (recording_of l.last l.code l.labels l.events l.uses l.refs l.constants l.asked l.relocs) × (l.last.code < 4294967296)
