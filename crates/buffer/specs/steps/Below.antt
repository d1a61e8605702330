-- What the call for a jump may be told of the labels, so that it need not look at each: the greatest offset below the current one.
use Rattle.std.specs.Prelude.{◌≡◌, List, ℕ, zero, suc, max, ltb, Option, Some}
use Rattle.seqs.specs.Pick.{pick}
use Rattle.words.specs.Words.{word_at}

-- an offset below the limit; 0 for any other
abbrev pub under : ℕ → ℕ → ℕ
under at limit = pick (ltb at limit) at 0

-- the greatest offset below the limit among the first n labels; 0 where there is none
unfoldable pub greatest_below : List ℕ → ℕ → ℕ → ℕ
greatest_below labels zero limit = 0
greatest_below labels (suc n) limit = max (under (word_at labels n) limit) (greatest_below labels n limit)

-- what is told is nothing, or the greatest offset of a label below the current one
pub record Told (labels : List ℕ) (n code : ℕ) (nearest : Option ℕ) : Type 0 where
  pub right : (at : ℕ) → nearest ≡ Some at → at ≡ greatest_below labels n code
