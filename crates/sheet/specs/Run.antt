-- Running a sheet: document 01, "A sheet of calls"; document 02, Request Seven. "Form is checked over the whole sheet before any call runs (index 0 for a
-- wrong length). It stops at its first refusal, giving its number and the call's index from 0; without one it gives 0 and n."
use Rattle.std.specs.Prelude.{List, [], ◌∷◌, ℕ, suc, ◌%◌, eqb, ltb, take, drop}
use Rattle.std.proofs.Common.{arith}
use Rattle.refusals.specs.Numbers as refusals
use Rattle.seqs.specs.Pick.{pick}
use Rattle.words.specs.Words.{word_at}
use Rattle.fields.specs.Words64.{sign_extend}
use Rattle.buffer.specs.Refusals.{standing}
use Rattle.buffer.specs.Tables.{default_most}
use Rattle.recording.specs.Calls.{Recording, Word, Word64, Call, bytes, new_label, bind, align, use_of_label, ref, jump, constant, label_of_constant, relocation, answered, after}
use Rattle.checks.specs.Lent.{counts_fit, within_limits}
use Rattle.sheet_form.specs.Form.{is_whole, kinds_of, arguments_of, first_broken, bytes_call, new_label_call, bind_call, align_call, use_call, ref_call, jump_call, constant_call, constant_label_call, argument_size}

-- a word of an argument; it is below 2^32 whatever the list holds
abbrev pub word : List ℕ → ℕ → Word
word arguments k = record { value = word_at arguments k % 4294967296; small = omega arith }

-- a signed word, widened to 64 bits
abbrev pub signed_word : List ℕ → ℕ → Word64
signed_word arguments k = record { value = sign_extend 32 (word_at arguments k) % 18446744073709551616; small = omega arith }

-- the most bytes that an alignment may spend: its second word, "with 0 meaning the default"
abbrev pub most_in : List ℕ → Word
most_in arguments = record { value = pick (eqb (word_at arguments 1) 0) default_most (word_at arguments 1) % 4294967296; small = omega arith }

-- the bytes behind a count
abbrev pub bytes_in : List ℕ → List ℕ
bytes_in arguments = take (word_at arguments 0) (drop 4 arguments)

-- the call of a kind, with its arguments, in the order of document 01's list
unfoldable pub call_of : ℕ → List ℕ → Call
call_of kind a =
    pick (eqb kind bytes_call) (bytes (bytes_in a))
    (pick (eqb kind new_label_call) new_label
    (pick (eqb kind bind_call) (bind (word a 0))
    (pick (eqb kind align_call) (align (word a 0) (most_in a))
    (pick (eqb kind use_call) (use_of_label (word a 0) (word a 1) (word a 2))
    (pick (eqb kind ref_call) (ref (word a 0) (word a 1) (word a 2) (word a 3))
    (pick (eqb kind jump_call) (jump (word a 0) (word a 1) (word a 2) (word a 3))
    (pick (eqb kind constant_call) (constant (bytes_in a))
    (pick (eqb kind constant_label_call) (label_of_constant (word a 0))
    (relocation (word a 0) (word a 1) (word a 2) (signed_word a 3))))))))))

unfoldable pub calls_of : List ℕ → List ℕ → List Call
calls_of [] arguments = []
calls_of (kind ∷ kinds) arguments = call_of kind (take argument_size arguments) ∷ calls_of kinds (drop argument_size arguments)

-- what a call answers, and the recording after it
abbrev pub called : Call → Recording → ℕ × Recording
called c r = (answered c r, after c r)

-- a refusal's number, the index of its call, and the recording after the calls up to that one; i calls were made before
unfoldable pub run_calls : List Call → ℕ → Recording → (ℕ × ℕ) × Recording
run_calls [] i r = ((0, i), r)
run_calls (c ∷ cs) i r = pick (eqb (answered c r) 0) (run_calls cs (suc i) (after c r)) ((answered c r, i), after c r)

-- A whole sheet. Running one is a call that is lent a whole recording: before the first of its calls it answers what any of them would, an empty sheet too.
unfoldable pub run_sheet : List ℕ → Recording → (ℕ × ℕ) × Recording
run_sheet sheet r =
    let n = word_at sheet 0 in
    let broken = first_broken (kinds_of sheet) (arguments_of sheet) in
    let why = standing r.buffer (counts_fit r) (within_limits r 0 0) in
    pick (is_whole sheet)
    (pick (ltb broken n)
    ((refusals.malformed, broken), r)
    (pick (eqb why 0) (run_calls (calls_of (kinds_of sheet) (arguments_of sheet)) 0 r) ((why, 0), r)))
    ((refusals.malformed, 0), r)
