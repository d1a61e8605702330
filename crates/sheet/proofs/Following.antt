-- What an accepted call of a sheet makes of the labels.
use mathlib.Core.Path.{◌≡◌, refl, sym, ap, ◌∙◌}
use mathlib.Core.Logic.{◌≢◌}
use mathlib.Core.Bool.{false}
use mathlib.Core.List.{List}
use Prim.Native.Nat.{ℕ}
use native.Mathlib.Omega.{arith}
use lib.Dec.{eqb}
use Rattle.seqs.specs.Pick.{pick}
use Rattle.seqs.proofs.Picking.{no_eq}
use Rattle.buffer.specs.steps.Below.{greatest_below}
use Rattle.recording.specs.Calls.{Recording, Call, after}
use Rattle.recording.proofs.Steps.{either}
use Rattle.recording.proofs.Bound.{binds, below_kept, below_bound}
use Rattle.sheet_form.specs.Form.{bytes_call, new_label_call, bind_call, align_call, use_call, ref_call, jump_call, constant_call, constant_label_call}
use Rattle.sheet_form.specs.steps.Bound.{Follows}
use Rattle.sheet.specs.Run.{word, call_of, called}

-- only calls of one kind bind labels
others_bind_nothing : (kind : ℕ) (arguments : List ℕ) → kind ≢ bind_call → binds (call_of kind arguments) ≡ false
unfolding call_of
others_bind_nothing kind arguments other =
    let P : Call → Type 0 = λ c. binds c ≡ false in
    either (eqb kind bytes_call) P _ _ refl
    (either (eqb kind new_label_call) P _ _ refl
    (rw (no_eq kind bind_call)
    (either (eqb kind align_call) P _ _ refl
    (either (eqb kind use_call) P _ _ refl
    (either (eqb kind ref_call) P _ _ refl
    (either (eqb kind jump_call) P _ _ refl
    (either (eqb kind constant_call) P _ _ refl
    (either (eqb kind constant_label_call) P _ _ refl refl))))))))

pub call_follows : {refusal : ℕ} {r' : Recording} (kind : ℕ) (arguments : List ℕ) (r : Recording) → (refusal, r') ≡ called (call_of kind arguments) r → refusal ≡ 0
    → Follows kind r.buffer.code r.labels r.buffer.labels r'.labels r'.buffer.labels
unfolding pick call_of
call_follows {refusal} {r'} kind arguments r e accepted =
    let answers = sym (ap (λ (a : ℕ × Recording). a.0) e) ∙ accepted in
    let same : (limit : ℕ) → greatest_below r'.labels r'.buffer.labels limit
    ≡ greatest_below (after (call_of kind arguments) r).labels (after (call_of kind arguments) r).buffer.labels limit =
    λ limit. ap (λ (a : ℕ × Recording). greatest_below a.1.labels a.1.buffer.labels limit) e in
    record {
      bound = λ is small limit bounded. same limit ∙ rw is (below_bound r limit bounded (word arguments 0) (omega arith) (rw is at answers));
      kept = λ other limit bounded. same limit ∙ below_kept r limit bounded (call_of kind arguments) (others_bind_nothing kind arguments other);
    }
