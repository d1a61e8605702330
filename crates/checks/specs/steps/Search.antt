-- What the searches are handed, and what they find.
use Rattle.std.specs.Prelude.{ℕ, ◌+◌, ◌*◌, ◌≤◌, ◌<◌, ◌≡◌, List, length}
use Rattle.words.specs.Words.{word_at}
use Rattle.buffer.specs.Tables.{label_size, constant_size, asked_size}
use Rattle.pool.specs.steps.Pool.{label_at, pool_offset}

-- n pieces of code in order, each of which ends before the next starts
pub record Ordered (start end : ℕ → ℕ) (n : ℕ) : Type 0 where
  pub forward : (j : ℕ) → j < n → start j ≤ end j
  pub order : (i j : ℕ) → i < j → j < n → end i ≤ start j

-- of n pieces the first k start before an offset, and no other does
pub record Before (start : ℕ → ℕ) (n to k : ℕ) : Type 0 where
  pub few : k ≤ n
  pub below : (j : ℕ) → j < k → start j < to
  pub above : (j : ℕ) → k ≤ j → j < n → to ≤ start j

-- a search among n pieces: those before `low` start before an offset, those from `high` on do not
pub record Halved (start : ℕ → ℕ) (n to low high : ℕ) : Type 0 where
  pub most : high ≤ n
  pub rise : low ≤ high
  pub below : (j : ℕ) → j < low → start j < to
  pub above : (j : ℕ) → high ≤ j → j < n → to ≤ start j

-- the first n constants of the pool lie in the tables, and their labels are bound where they stand
pub record Placed (labels constants asked : List ℕ) (code n : ℕ) : Type 0 where
  pub room : n * asked_size ≤ length asked
  pub listed : (j : ℕ) → j < n → word_at asked j * constant_size + constant_size ≤ length constants
  pub known : (j : ℕ) → j < n → label_at constants asked j * label_size + label_size ≤ length labels
  pub stands : (j : ℕ) → j < n → word_at labels (label_at constants asked j) ≡ pool_offset code constants asked j
