-- The calls of a sheet, one after the other, and a sheet as a whole.
use mathlib.Core.Path.{◌≡◌, sym, ap, ◌∙◌}
use mathlib.Core.Logic.{◌≢◌}
use mathlib.Core.Bool.{true, false}
use mathlib.Core.List.{List, ◌∷◌}
use Prim.Native.Nat.{ℕ, suc, ◌+◌, ◌*◌, ◌-◌, ◌≤◌, ◌<◌}
use native.Mathlib.Numerals.{add-one}
use lib.ListN.{length, get_or, take, drop, drop_of_length-le}
use lib.Seq.{drop-cons}
use Rattle.seqs.proofs.Picking.{pick_yes, pick_no, yes_eq, no_eq, yes_lt, no_lt}
use Rattle.words.specs.Words.{word_at}
use Rattle.buffer.specs.Refusals.{standing}
use Rattle.recording.specs.Calls.{Recording, Call, answered}
use Rattle.checks.specs.Lent.{counts_fit, within_limits}
use Rattle.sheet_form.specs.Form.{is_whole, kinds_of, arguments_of, first_broken, argument_size}
use Rattle.sheet.specs.Run.{call_of, calls_of, called, run_calls, run_sheet}
use Rattle.sheet_form.proofs.Forming.{next_arguments}
use Rattle.sheet_form.proofs.Parts.{kinds_part, arguments_part}

module _ (kinds arguments : List ℕ) (i : ℕ) (r : Recording) (total : (ℕ × ℕ) × Recording) (so_far : run_calls (calls_of (drop i kinds) (drop (i * argument_size) arguments)) i r ≡ total) where
  abbrev call : Call
  call = call_of (get_or kinds i 0) (take argument_size (drop (i * argument_size) arguments))

  abbrev rest : List Call
  rest = calls_of (drop (i + 1) kinds) (drop ((i + 1) * argument_size) arguments)

  next_call : i < length kinds → calls_of (drop i kinds) (drop (i * argument_size) arguments) ≡ call ∷ rest
  unfolding calls_of
  next_call h =
      ap (λ l. calls_of l (drop (i * argument_size) arguments)) (drop-cons kinds i 0 h)
      ∙ (ap (λ l. call ∷ calls_of (drop (suc i) kinds) l) (next_arguments kinds arguments i)
      ∙ ap (λ (n : ℕ). call ∷ calls_of (drop n kinds) (drop ((i + 1) * argument_size) arguments)) (sym (add-one i)))

  -- a call that is accepted goes on to the next
  pub run_again : (refusal : ℕ) (r' : Recording) → i < length kinds → (refusal, r') ≡ called call r → refusal ≡ 0 → run_calls rest (i + 1) r' ≡ total
  unfolding run_calls
  run_again refusal r' h e zero-refusal =
      let accepted : answered call r ≡ 0 = sym (ap (λ (a : ℕ × Recording). a.0) e) ∙ zero-refusal in
      ap (λ (n : ℕ). run_calls rest n r') (add-one i)
      ∙ (ap (λ (a : ℕ × Recording). run_calls rest (suc i) a.1) e
      ∙ (sym (yes_eq _ 0 _ _ accepted) ∙ (ap (λ cs. run_calls cs i r) (sym (next_call h)) ∙ so_far)))

  -- one that is refused is the last
  pub run_refused : (refusal : ℕ) (r' : Recording) → i < length kinds → (refusal, r') ≡ called call r → refusal ≢ 0 → ((refusal, i), r') ≡ total
  unfolding run_calls
  run_refused refusal r' h e refused =
      ap (λ (a : ℕ × Recording). ((a.0, i), a.1)) e
      ∙ (sym (no_eq _ 0 _ _ (λ z. refused (ap (λ (a : ℕ × Recording). a.0) e ∙ z))) ∙ (ap (λ cs. run_calls cs i r) (sym (next_call h)) ∙ so_far))

  pub run_end : length kinds ≤ i → ((0, i), r) ≡ total
  unfolding run_calls calls_of
  run_end h = rw (drop_of_length-le kinds {i = i} h) at so_far

-- the calls of a sheet's parts, as the program takes them, are its calls
pub parts_run : (sheet : List ℕ) (n : ℕ) (r : Recording) → n ≡ word_at sheet 0
    → run_calls (calls_of (take (4 + n - 4) (drop 4 sheet)) (take (length sheet - (4 + n)) (drop (4 + n) sheet))) 0 r ≡ run_calls (calls_of (kinds_of sheet) (arguments_of sheet)) 0 r
parts_run sheet n r e = rw (kinds_part sheet n e, arguments_part sheet n e)

-- a sheet whose length is wrong
module _ (sheet : List ℕ) (r : Recording) where
  pub sheet_cut : is_whole sheet ≡ false → ((1, 0), r) ≡ run_sheet sheet r
  unfolding run_sheet
  sheet_cut h = sym (pick_no _ _ _ h)

  module _ (whole : is_whole sheet ≡ true) where
    abbrev broken : ℕ
    broken = first_broken (kinds_of sheet) (arguments_of sheet)

    -- one with a broken call
    pub sheet_broken : (i : ℕ) → i ≡ broken → i < word_at sheet 0 → ((1, i), r) ≡ run_sheet sheet r
    unfolding run_sheet
    sheet_broken i e h = rw e (sym (pick_yes _ _ _ whole ∙ yes_lt _ _ _ _ (rw e at h)))

    module _ (i : ℕ) (same : i ≡ broken) (formed : word_at sheet 0 ≤ i) where
      -- one on a recording that answers every call alike
      pub sheet_not_standing : (why : ℕ) → why ≡ standing r.buffer (counts_fit r) (within_limits r 0 0) → why ≢ 0 → ((why, 0), r) ≡ run_sheet sheet r
      unfolding run_sheet
      sheet_not_standing why e h =
          rw e (sym (pick_yes _ _ _ whole ∙ (no_lt _ _ _ _ (rw same at formed) ∙ no_eq _ 0 _ _ (λ z. h (e ∙ z)))))

      pub sheet_run : (why : ℕ) → why ≡ standing r.buffer (counts_fit r) (within_limits r 0 0) → why ≡ 0 → run_calls (calls_of (kinds_of sheet) (arguments_of sheet)) 0 r ≡ run_sheet sheet r
      unfolding run_sheet
      sheet_run why e h = sym (pick_yes _ _ _ whole ∙ (no_lt _ _ _ _ (rw same at formed) ∙ yes_eq _ 0 _ _ (sym e ∙ h)))
