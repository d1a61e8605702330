-- No more entries are counted than there are.
use mathlib.Core.List.{List}
use Prim.Native.Nat.{ℕ, ◌≤◌}
use Rattle.seqs.proofs.Counting.{how_many_le}
use Rattle.naming.specs.Naming.{naming, jumps_naming}
use Rattle.naming.specs.steps.Open.{open_entries, open_jumps}

pub naming_le : (table : List ℕ) (n stride at value : ℕ) → naming table n stride at value ≤ n
unfolding naming
naming_le table n stride at value = how_many_le _ n

pub jumps_naming_le : (events : List ℕ) (n label : ℕ) → jumps_naming events n label ≤ n
unfolding jumps_naming
jumps_naming_le events n label = how_many_le _ n

pub open_entries_le : (table : List ℕ) (n stride at base : ℕ) (labels : List ℕ) (known : ℕ) → open_entries table n stride at base labels known ≤ n
unfolding open_entries
open_entries_le table n stride at base labels known = how_many_le _ n

pub open_jumps_le : (events : List ℕ) (n : ℕ) (labels : List ℕ) (known : ℕ) → open_jumps events n labels known ≤ n
unfolding open_jumps
open_jumps_le events n labels known = how_many_le _ n
