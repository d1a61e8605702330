-- Calls of a sheet that does not keep the number of open entries: what it goes on from stands for a recording with the right one.
use mathlib.Core.Path.{◌≡◌, refl, ap, ◌∙◌, sym, subst}
use mathlib.Core.Bool.{Bool, true, false, not}
use Prim.Native.Nat.{ℕ, ◌≤◌, ◌<◌}
use native.Mathlib.Omega.{arith}
use Rattle.seqs.specs.Pick.{pick}
use Rattle.seqs.proofs.Booleans.{true_is_not_false}
use Rattle.buffer.specs.declared.CodeBuffer.{CodeBuffer}
use Rattle.buffer.specs.State.{with_open}
use Rattle.buffer.specs.Refusals.{standing}
use Rattle.buffer.specs.Tables.{most_open}
use Rattle.buffer.proofs.Standing.{stands}
use Rattle.buffer.specs.steps.Count.{open_count}
use Rattle.recording.specs.Calls.{Recording, Call, with_buffer}
use Rattle.recording.specs.Open.{naming}
use Rattle.recording.specs.steps.Righted.{with_number, righted, Fitting}
use Rattle.recording.proofs.Fitting.{few_open, call_fits}
use Rattle.recording.proofs.Naming.{open_count_lem}
use Rattle.recording.proofs.Righted.{call_righted}
use Rattle.checks.specs.Lent.{counts_fit, within_limits}
use Rattle.checks.proofs.CountsWithinLimits.{counted, counted_namers}
use Rattle.sheet.specs.Run.{called}
use Rattle.sheet.specs.steps.Meant.{meant, Going}

-- the recording from which the next call goes on
abbrev pub gone_on : Bool → Recording → Recording
gone_on kept r = with_buffer r (pick kept r.buffer (with_open r.buffer 0))

-- a call on what is meant leaves what is meant by what the call leaves
pub call_meant : (kept : Bool) {refusal : ℕ} {s : Recording} (c : Call) (r : Recording) → Going kept r → r.buffer.code < 4294967296
    → (refusal, s) ≡ called c r → (refusal, meant kept s) ≡ called c (meant kept r)
unfolding pick naming
call_meant true c r going small e = e
call_meant false {refusal} {s} c r going small e =
    let same = call_righted c r small (going.few refl) (few_open r going.fitting) in
    ap (λ (a : ℕ × Recording). (a.0, righted a.1)) e ∙ rw (same.0, same.1)

-- so does the next turn
pub meant_on : (kept : Bool) (r : Recording) → meant kept (gone_on kept r) ≡ meant kept r
unfolding pick naming
meant_on true r = refl
meant_on false r = refl

pub going_fits : {kept : Bool} {refusal : ℕ} {s : Recording} (c : Call) (r : Recording) → Going kept r → (refusal, s) ≡ called c r → Fitting s
going_fits {s = s} c r going e = subst Fitting (sym (ap (λ (a : ℕ × Recording). a.1) e)) (call_fits c r going.fitting)

pub going_on : (kept : Bool) {refusal : ℕ} {s : Recording} (c : Call) (r : Recording) → Going kept r → (refusal, s) ≡ called c r → Going kept (gone_on kept s)
unfolding pick
going_on true {s = s} c r going e = record { fitting = going_fits c r going e; few = λ no. absurd (true_is_not_false no) }
going_on false {s = s} c r going e =
    let f = going_fits c r going e in
    let x = f.namers in
    record {
      fitting = record {
        namers = record { events_room = x.events_room; uses_room = x.uses_room; refs_room = x.refs_room; relocs_room = x.relocs_room; events_few = x.events_few; uses_few = x.uses_few; refs_few = x.refs_few; relocs_few = x.relocs_few };
        labels = f.labels;
      };
      few = λ yes. omega arith;
    }

-- the labels are as many, and the current offset is the same
pub gone_labels : (kept : Bool) (b : CodeBuffer) → (pick kept b (with_open b 0)).labels ≡ b.labels
unfolding pick
gone_labels true b = refl
gone_labels false b = refl

pub gone_code : (kept : Bool) (b : CodeBuffer) → (pick kept b (with_open b 0)).code ≡ b.code
unfolding pick
gone_code true b = refl
gone_code false b = refl

-- with what is counted the number is right, and where it was right it stays
counted_is : (r : Recording) → with_number r (open_count r.buffer r.labels r.events r.uses r.refs r.relocs) ≡ righted r
counted_is r = ap (with_number r) (sym (open_count_lem r))

right_is : (r : Recording) → r.buffer.unresolved ≡ open_count r.buffer r.labels r.events r.uses r.refs r.relocs → righted r ≡ r
right_is r right = ap (with_number r) (open_count_lem r ∙ sym right)

-- so a sheet leaves what is meant, and starts from it
pub counted_meant : (kept : Bool) (r : Recording)
    → with_buffer r (pick kept r.buffer (with_open r.buffer (open_count r.buffer r.labels r.events r.uses r.refs r.relocs))) ≡ meant kept r
unfolding pick
counted_meant true r = refl
counted_meant false r = counted_is r

pub meant_first : (after : Bool) (r : Recording) → (after ≡ true → r.buffer.unresolved ≡ open_count r.buffer r.labels r.events r.uses r.refs r.relocs)
    → meant (not after) r ≡ r
unfolding pick
meant_first true r right = right_is r (right refl)
meant_first false r right = refl

-- on a recording that a sheet is not turned down for, open entries can be counted
pub standing_fits : (r : Recording) → standing r.buffer (counts_fit r) (within_limits r 0 0) ≡ 0 → Fitting r × (r.buffer.unresolved ≤ most_open)
standing_fits r stood =
    let s = stands r.buffer (counts_fit r) (within_limits r 0 0) stood in
    let c = counted r 0 0 s.fits s.limited in
    (record { namers = counted_namers c; labels = omega (arith, c.labels) }, s.few_open)
