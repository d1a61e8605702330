-- Symbols and the labels that define them: document 02, Request Six, "Each piece brings a list of symbol numbers, shared by all pieces, with the label that
-- defines each."
use Rattle.std.specs.Prelude.{ℕ, ◌+◌, ◌*◌, Bool, not, ◌&&◌, List, ◌==◌, nat_eq, nat_lt}
use Rattle.seqs.specs.Every.{all}
use Rattle.seqs.specs.Pick.{pick, or_else, first_of}
use Rattle.words.specs.Words.{word_at}
use Rattle.buffer.specs.State.{none}
use Rattle.join.specs.declared.Piece.{Piece}
use Rattle.join.specs.declared.Cursor.{Cursor}
use Rattle.join.specs.Pieces.{definition_words, piece_at, base_of, cursor_at}

-- the symbol and the label of definition j of the piece at a cursor
abbrev pub symbol_at : List ℕ → Cursor → ℕ → ℕ
symbol_at definitions c j = word_at definitions ((c.definitions + j) * definition_words)

abbrev pub defining_label : List ℕ → Cursor → ℕ → ℕ
defining_label definitions c j = word_at definitions ((c.definitions + j) * definition_words + 1)

-- What is known of a symbol, as a number: 0 where nothing defines it, 1 where its label is unknown or not bound, else 2 more than its place in the whole.
abbrev pub undefined : ℕ
undefined = 0

abbrev pub unbound : ℕ
unbound = 1

abbrev pub first_place : ℕ
first_place = 2

-- what a label of a piece says of the symbol that it defines
abbrev pub place : List ℕ → Piece → Cursor → ℕ → ℕ
place labels p c label =
    pick (nat_lt label p.labels && not (word_at labels (c.labels + label) == none)) (base_of p c + word_at labels (c.labels + label) + first_place) unbound

-- what definition j says of its symbol
abbrev pub defined : List ℕ → List ℕ → Piece → Cursor → ℕ → ℕ
defined labels definitions p c j = place labels p c (defining_label definitions c j)

-- what it says of symbol s
abbrev pub defined_as : List ℕ → List ℕ → Piece → Cursor → ℕ → ℕ → ℕ
defined_as labels definitions p c s j = pick (symbol_at definitions c j == s) (defined labels definitions p c j) undefined

-- what the first m definitions of a piece say of it, and those of the first k pieces: the first that defines it
unfoldable pub find_in : List ℕ → List ℕ → Piece → Cursor → ℕ → ℕ → ℕ
find_in labels definitions p c m s = first_of (defined_as labels definitions p c s) m

unfoldable pub find : List ℕ → List ℕ → List ℕ → ℕ → ℕ → ℕ
find pieces labels definitions k s =
    first_of (λ (i : ℕ). find_in labels definitions (piece_at pieces i) (cursor_at pieces i) (piece_at pieces i).definitions s) k

-- what the first k pieces and the first j definitions of the next, p at c, say of it
unfoldable pub find_before : List ℕ → List ℕ → List ℕ → ℕ → Piece → Cursor → ℕ → ℕ → ℕ
find_before pieces labels definitions k p c j s = or_else (find pieces labels definitions k s) (find_in labels definitions p c j s)

-- 28, turned round: none of the first m definitions of a piece has the symbol of one before it
unfoldable pub new_in : List ℕ → List ℕ → List ℕ → ℕ → Piece → Cursor → ℕ → Bool
new_in pieces labels definitions k p c m =
    all (λ (j : ℕ). nat_eq (find_before pieces labels definitions k p c j (symbol_at definitions c j)) undefined) m

unfoldable pub defined_once : List ℕ → List ℕ → List ℕ → ℕ → Bool
defined_once pieces labels definitions n =
    all (λ (k : ℕ). new_in pieces labels definitions k (piece_at pieces k) (cursor_at pieces k) (piece_at pieces k).definitions) n
