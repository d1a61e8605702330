-- What a sheet's run keeps of the labels from call to call: the two greatest offsets at which one is bound.
use Rattle.std.specs.Prelude.{◌≡◌, ◌≢◌, List, ℕ, max, ◌≤◌, Option, Some, None}
use Rattle.buffer.specs.State.{none}
use Rattle.buffer.specs.steps.Below.{under, greatest_below}
use Rattle.sheet_form.specs.declared.bound.Bound.{Bound}
use Rattle.sheet_form.specs.Form.{bind_call}

-- the greatest offset, where it is known; else what no offset reaches
abbrev pub limit_of : Option ℕ → ℕ
limit_of None = none
limit_of (Some m) = m

-- each that is known is a word, and right if it is an offset that a label may have: the greatest offset of the first n labels, and the greatest below that
pub record Known (labels : List ℕ) (n : ℕ) (s : Bound) : Type 0 where
  pub word : (m : ℕ) → s.greatest ≡ Some m → m ≤ none
  pub first : (m : ℕ) → s.greatest ≡ Some m → m ≢ none → m ≡ greatest_below labels n none
  pub next : (k : ℕ) → s.second ≡ Some k → k ≢ none → k ≡ greatest_below labels n (limit_of s.greatest)

-- what a call of a kind makes of the labels, at a current offset: a bind adds that offset, no other call adds any
pub record Follows (kind code : ℕ) (labels : List ℕ) (n : ℕ) (labels' : List ℕ) (n' : ℕ) : Type 0 where
  pub bound : kind ≡ bind_call → code ≤ none → (limit : ℕ) → limit ≤ none → greatest_below labels' n' limit ≡ max (under code limit) (greatest_below labels n limit)
  pub kept : kind ≢ bind_call → (limit : ℕ) → limit ≤ none → greatest_below labels' n' limit ≡ greatest_below labels n limit
