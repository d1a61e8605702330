-- `run_sheet` meets its contract: where the number of open entries that was handed in is right, it may be counted at the end.
use mathlib.Core.Path.{◌≡◌, refl, sym, ap, ◌∙◌}
use mathlib.Core.Bool.{true}
use mathlib.Core.List.{List}
use Prim.Native.Nat.{◌+◌, ◌-◌, ◌*◌, ◌≤◌, ℕ}
use native.Mathlib.Omega.{arith}
use lib.ListN.{length, length-take, drop}
use Rattle.words.specs.Words.{word_at}
use Rattle.buffer.specs.Tables.{most_open}
use Rattle.recording.specs.Calls.{Recording}
use Rattle.recording.specs.steps.Righted.{Fitting}
use Rattle.checks.specs.Lent.{recording_of}
use Rattle.sheet_form.specs.Form.{is_whole, kinds_of, arguments_of, first_broken}
use Rattle.sheet_form.proofs.Parts.{whole_length, kinds_part, arguments_part, parts_match, kinds_few}
use Rattle.sheet.specs.Run.{run_calls}
use Rattle.sheet.proofs.Counting.{standing_fits, counted_meant, meant_first}
use Rattle.sheet.proofs.Running.{sheet_cut, sheet_broken, sheet_not_standing, sheet_run, parts_run}
use Rattle.refusals.specs.Answers.{answer_of}
use Rattle.refusals.proofs.Variants.{number_not_0}
use Rattle.sheet.proofs.run_sheet.Goals as goal

-- what is known of a sheet that passed the first test, once its count is read
long : (sheet : List ℕ) {n : ℕ} → is_whole sheet ≡ true → n ≡ word_at sheet 0 → length sheet ≡ 4 + 17 * n
long sheet whole count = omega (arith, (whole_length sheet whole).1, count)

pub returns-then-not-is_whole : goal.returns-then-not-is_whole
returns-then-not-is_whole c =
    sheet_cut _ _ (sym c.is_whole.ensures ∙ c.if-not-is_whole.true)

pub word_at-n-requires : goal.word_at-n-requires
word_at-n-requires c =
    omega (arith, (whole_length _ (sym c.is_whole.ensures ∙ c.if-not-is_whole.false)).0)

pub slice_bounds-kinds-end : goal.slice_bounds-kinds-end
slice_bounds-kinds-end c =
    omega (arith, long c.args.sheet.now (sym c.is_whole.ensures ∙ c.if-not-is_whole.false) c.word_at-n.ensures)

pub slice_bounds-arguments-count : goal.slice_bounds-arguments-count
slice_bounds-arguments-count c =
    omega (arith, long c.args.sheet.now (sym c.is_whole.ensures ∙ c.if-not-is_whole.false) c.word_at-n.ensures)

pub slice_bounds-arguments-start : goal.slice_bounds-arguments-start
slice_bounds-arguments-start c =
    omega (arith, long c.args.sheet.now (sym c.is_whole.ensures ∙ c.if-not-is_whole.false) c.word_at-n.ensures)

pub first_broken-broken-requires : goal.first_broken-broken-requires
first_broken-broken-requires c =
    parts_match _ (sym c.is_whole.ensures ∙ c.if-not-is_whole.false) _ c.word_at-n.ensures

pub returns-then-broken-n : goal.returns-then-broken-n
returns-then-broken-n c =
    let broken : c.first_broken-broken.result ≡ first_broken (kinds_of c.args.sheet.now) (arguments_of c.args.sheet.now) = rw (kinds_part c.args.sheet.now _ c.word_at-n.ensures, arguments_part c.args.sheet.now _ c.word_at-n.ensures) at c.first_broken-broken.ensures in
    sheet_broken _ _ (sym c.is_whole.ensures ∙ c.if-not-is_whole.false) _ broken (omega (arith, c.if-broken-n.true, c.word_at-n.ensures))

pub returns-in-Err : goal.returns-in-Err
returns-in-Err c =
    let broken : c.first_broken-broken.result ≡ first_broken (kinds_of c.args.sheet.now) (arguments_of c.args.sheet.now) = rw (kinds_part c.args.sheet.now _ c.word_at-n.ensures, arguments_part c.args.sheet.now _ c.word_at-n.ensures) at c.first_broken-broken.ensures in
    let unbroken : word_at c.args.sheet.now 0 ≤ c.first_broken-broken.result = omega (arith, c.if-broken-n.false, c.word_at-n.ensures) in
    sheet_not_standing _ _ (sym c.is_whole.ensures ∙ c.if-not-is_whole.false) _ broken unbroken _ c.in-Err.ensures (number_not_0 _)

pub is_counted_after-kept-requires : goal.is_counted_after-kept-requires
is_counted_after-kept-requires c =
    let a = c.args in
    let r = recording_of a.b a.code.now a.labels.now a.events.now a.uses.now a.refs.now a.constants.now a.asked.now a.relocs.now in
    let fits : Fitting r × (a.b.unresolved ≤ most_open) = standing_fits _ (sym c.in_default.ensures) in
    let f = fits.0 in
    record { namers_fit = f.namers; labels_within = f.labels }

pub run-ran-requires : goal.run-ran-requires
run-ran-requires c =
    let a = c.args in
    let r = recording_of a.b a.code.now a.labels.now a.events.now a.uses.now a.refs.now a.constants.now a.asked.now a.relocs.now in
    let fits : Fitting r × (a.b.unresolved ≤ most_open) = standing_fits _ (sym c.in_default.ensures) in
    record { within = (parts_match _ (sym c.is_whole.ensures ∙ c.if-not-is_whole.false) _ c.word_at-n.ensures, kinds_few c.args.sheet.now c.word_at-n.result (omega arith)); formed = omega (arith, c.if-broken-n.false, c.first_broken-broken.ensures, length-take (4 + c.word_at-n.result - 4) (drop 4 c.args.sheet.now)); going = record { fitting = fits.0; few = λ no. fits.1 } }

pub returns : goal.returns
returns c =
    let broken : c.first_broken-broken.result ≡ first_broken (kinds_of c.args.sheet.now) (arguments_of c.args.sheet.now) = rw (kinds_part c.args.sheet.now _ c.word_at-n.ensures, arguments_part c.args.sheet.now _ c.word_at-n.ensures) at c.first_broken-broken.ensures in
    let unbroken : word_at c.args.sheet.now 0 ≤ c.first_broken-broken.result = omega (arith, c.if-broken-n.false, c.word_at-n.ensures) in
    rw c.counted.ensures
    (ap (λ (s : Recording). ((answer_of c.run-ran.result.answer, c.run-ran.result.index), s)) (counted_meant _ _)
    ∙ c.run-ran.ensures.relocs_after
    ∙ ap (run_calls _ 0) (meant_first _ _ c.is_counted_after-kept.ensures)
    ∙ parts_run c.args.sheet.now _ _ c.word_at-n.ensures
    ∙ sheet_run _ _ (sym c.is_whole.ensures ∙ c.if-not-is_whole.false) _ broken unbroken _ c.in_default.ensures refl)
