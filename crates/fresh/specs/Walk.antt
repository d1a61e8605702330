-- Where the walk stands: document 01, "takes the new offset at which the walk stands on its recorded one with all events of length 0 there passed".
-- `walk_stands` says that `moved` is so.
use Rattle.std.specs.Prelude.{◌≡◌, List, [], ◌∷◌, ℕ, suc, ◌+◌, ◌<◌, length, take, drop}
use Rattle.relax.specs.Events.{extent_of}
use Rattle.fresh.specs.Fresh.{Choice, Item, plain, event, writes, stands}

-- how much of the recording the items stand for
unfoldable pub spanned : List Item → ℕ
spanned [] = 0
spanned (plain b ∷ is) = suc (spanned is)
spanned (event e bytes ∷ is) = extent_of e + spanned is

-- the items left do not begin with an event of length 0
unfoldable pub Onward : List Item → Type 0
Onward [] = Unit {0}
Onward (plain b ∷ is) = Unit {0}
Onward (event e bytes ∷ is) = 0 < extent_of e

-- the walk from o and n stands on t, with the first `passed` items behind it
pub record Stand (arch t o n : ℕ) (is : List Item) (c : Choice) : Type 0 where
  pub passed : ℕ
  pub here : o + spanned (take passed is) ≡ t
  pub wrote : stands t o n is c ≡ n + length (writes arch n (take passed is) c)
  pub onward : Onward (drop passed is)
