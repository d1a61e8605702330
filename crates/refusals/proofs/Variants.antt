-- Every refusal has a number of its own kind: none is 0, and the compiler's number of a variant is the refusal's.
use mathlib.Core.Path.{◌≡◌}
use mathlib.Core.Logic.{◌≢◌}
use Rattle.std.proofs.Common.{rules}
use Prim.Native.Nat.{◌+◌}
use denote.Enum.Declared.{tag_of}
use Rattle.refusals.specs.contracts.Refusal.{the_type}
use Rattle.refusals.specs.declared.Refusal.{Refusal}
use Rattle.refusals.specs.Answers.{number_of}

pub number_tag : (r : Refusal) → tag_of the_type r + 1 ≡ number_of r
number_tag r = search rules

pub number_not_0 : (r : Refusal) → number_of r ≢ 0
number_not_0 r = search rules
