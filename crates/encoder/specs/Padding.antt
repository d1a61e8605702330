-- How many bytes an alignment takes: document 01, the paragraph on relax.rs, "the least that reaches its multiple"; document 02, Request Seven.
use Rattle.std.specs.Prelude.{◌≡◌, ℕ, zero, suc, ◌+◌, ◌-◌, ◌%◌, ◌<◌, ◌≤◌, ◌⊎◌, nat_le}
use Rattle.seqs.specs.Pick.{pick}

-- The least number of bytes that takes an offset to a multiple of the second number, which need be no power of two; 0 where that is 0.
unfoldable pub padding_length : ℕ → ℕ → ℕ
padding_length offset zero = 0
padding_length offset (suc m) = (suc m - offset % suc m) % suc m

-- What an alignment spends there that "carries the most bytes it may spend": "Where more are needed it spends none".
unfoldable pub padding_within : ℕ → ℕ → ℕ → ℕ
padding_within offset multiple most = pick (nat_le (padding_length offset multiple) most) (padding_length offset multiple) 0

-- What that claims of an alignment from one offset to another, said without the definitions above (`padding_spends`): it ends on a multiple, or is empty
-- and any number of bytes that reaches a multiple is more than it may spend; and it spends no more than that.
pub record Spends (multiple most start end : ℕ) : Type 0 where
  pub ends : (end % multiple ≡ 0) ⊎ ((end ≡ start) × ((k : ℕ) → (start + k) % multiple ≡ 0 → most < k))
  pub few : end ≤ start + most
