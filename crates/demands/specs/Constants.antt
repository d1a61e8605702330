-- The pooled constants, as one claim about what a finish hands out: document 02, Request One.
use Rattle.std.specs.Prelude.{◌≡◌, ◌⊎◌, List, ℕ, ◌+◌, ◌%◌, ◌≤◌, ◌<◌, length, get_or}
use Rattle.buffer.specs.State.{none}
use Rattle.recording.specs.View.{View}
use Rattle.fresh.specs.Pooled.{constant_alignment, asked_constant}
use Rattle.fresh.specs.Fill.{part}

-- what the constant that was asked for as number j is aligned on, and its finished offset: its label's
abbrev pub alignment_of : View → ℕ → ℕ
alignment_of v j = constant_alignment (length (asked_constant v j).bytes)

abbrev pub offset_of : View → List ℕ → ℕ → ℕ
offset_of v labels j = get_or labels (asked_constant v j).label none

-- A finish of v hands out `code` and the labels' offsets, and its record gives `alignment`.
pub record Constants (v : View) (code labels : List ℕ) (alignment : ℕ) : Type 0 where
  -- a constant's bytes stand at its offset, and "A constant of more than 32 bytes stands on a multiple of 64, the others as before"
  pub stands : (j : ℕ) → j < length v.asked → part code (offset_of v labels j) (length (asked_constant v j).bytes) ≡ (asked_constant v j).bytes
  pub aligned : (j : ℕ) → j < length v.asked → offset_of v labels j % alignment_of v j ≡ 0
  -- "The finished record gives the greater of 32 and the largest alignment among pooled constants": a multiple of each, and no more than 32 and these ask
  pub known : (alignment ≡ 32) ⊎ (alignment ≡ 64)
  pub multiple : (j : ℕ) → j < length v.asked → alignment % alignment_of v j ≡ 0
  pub least : (m : ℕ) → 32 ≤ m → ((j : ℕ) → j < length v.asked → alignment_of v j ≤ m) → alignment ≤ m
  -- "The host and every reader of the pool rely on that figure": code that is loaded on a multiple of it has each constant on a multiple of its own
  pub loaded : (base j : ℕ) → base % alignment ≡ 0 → j < length v.asked → (base + offset_of v labels j) % alignment_of v j ≡ 0
