-- The table of symbols: entry s is what is known of symbol s.
use Rattle.std.specs.Prelude.{◌≡◌, ℕ, ◌<◌, List, length, slice_index_or}
use Rattle.join.specs.declared.Piece.{Piece}
use Rattle.join.specs.declared.Cursor.{Cursor}
use Rattle.join.specs.Symbols.{undefined, find, find_before}
use Rattle.join.specs.steps.Within.{Symbols}

-- how many symbols a table has entries for: in general, and where few relocations and definitions are lent
abbrev pub many_symbols : ℕ
many_symbols = 65536

abbrev pub few_symbols : ℕ
few_symbols = 256

-- by the first k pieces
pub record Settled (table pieces labels definitions : List ℕ) (k : ℕ) : Type 0 where
  pub entry : (s : ℕ) → s < length table → slice_index_or table s undefined ≡ find pieces labels definitions k s

-- and by the first j definitions of the next
pub record Begun (table pieces labels definitions : List ℕ) (k : ℕ) (p : Piece) (c : Cursor) (j : ℕ) : Type 0 where
  pub entry : (s : ℕ) → s < length table → slice_index_or table s undefined ≡ find_before pieces labels definitions k p c j s

-- by all n pieces, which lie within what is lent
pub record Resolves (table pieces labels definitions : List ℕ) (n : ℕ) : Type 0 where
  pub symbols : Symbols pieces labels definitions n
  pub settled : Settled table pieces labels definitions n
