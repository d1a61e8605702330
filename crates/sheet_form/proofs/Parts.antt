-- The parts of a whole sheet, as the program takes them.
use mathlib.Core.Path.{◌≡◌, ◌∙◌}
use mathlib.Core.Bool.{true}
use mathlib.Core.List.{List}
use borrow.Author.Tests.{leb-true, eqb-true}
use Prim.Native.Nat.{ℕ, ◌+◌, ◌*◌, ◌-◌, ◌≤◌, ◌<◌}
use native.Mathlib.Omega.{arith}
use lib.ListN.{length, take, drop, length-take, length-drop}
use lib.Seq.{take_all}
use Rattle.seqs.proofs.Booleans.{both_true}
use Rattle.words.specs.Words.{word_at}
use Rattle.sheet_form.specs.Form.{is_whole, kinds_of, arguments_of, argument_size}

pub whole_length : (sheet : List ℕ) → is_whole sheet ≡ true → (4 ≤ length sheet) × (length sheet ≡ 4 + 17 * word_at sheet 0)
unfolding is_whole
whole_length sheet h = let b = both_true _ _ h in (leb-true 4 _ b.0, eqb-true _ _ b.1)

module _ (sheet : List ℕ) (n : ℕ) where
  pub kinds_part : n ≡ word_at sheet 0 → take (4 + n - 4) (drop 4 sheet) ≡ kinds_of sheet
  kinds_part e = let m : 4 + n - 4 ≡ n = omega arith in rw (m, e)

  pub arguments_part : n ≡ word_at sheet 0 → take (length sheet - (4 + n)) (drop (4 + n) sheet) ≡ arguments_of sheet
  arguments_part e = take_all (length sheet - (4 + n)) (drop (4 + n) sheet) (omega (arith, length-drop (4 + n) sheet)) ∙ rw e

  pub kinds_few : n < 4294967296 → length (take (4 + n - 4) (drop 4 sheet)) < 4294967296
  kinds_few h = omega (arith, length-take (4 + n - 4) (drop 4 sheet))

-- sixteen bytes of arguments for each kind
pub parts_match : (sheet : List ℕ) → is_whole sheet ≡ true → (n : ℕ) → n ≡ word_at sheet 0
    → length (take (length sheet - (4 + n)) (drop (4 + n) sheet)) ≡ length (take (4 + n - 4) (drop 4 sheet)) * argument_size
parts_match sheet whole n e =
    omega (
      arith,
      e,
      (whole_length sheet whole).1,
      length-take (length sheet - (4 + n)) (drop (4 + n) sheet),
      length-take (4 + n - 4) (drop 4 sheet),
      length-drop 4 sheet,
      length-drop (4 + n) sheet,
    )
