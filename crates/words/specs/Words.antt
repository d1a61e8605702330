-- Little-endian 32-bit words in a list of bytes (document 01: "Offsets and words are 32-bit, little-endian").
use Rattle.std.specs.Prelude.{List, [], ◌∷◌, ◌++◌, ℕ, ◌+◌, ◌*◌, ◌/◌, ◌%◌, get_or}
use Rattle.seqs.specs.Over.{over}

-- the four bytes of v, lowest first
abbrev pub bytes_of : ℕ → List ℕ
bytes_of v = v % 256 ∷ v / 256 % 256 ∷ v / 65536 % 256 ∷ v / 16777216 % 256 ∷ []

-- word k: the four bytes from index 4 k on, as a number
unfoldable pub word_at : List ℕ → ℕ → ℕ
word_at bytes k =
    get_or bytes (k * 4) 0
    + get_or bytes (k * 4 + 1) 0 * 256
    + get_or bytes (k * 4 + 2) 0 * 65536
    + get_or bytes (k * 4 + 3) 0 * 16777216

-- the bytes with v as word k
unfoldable pub set_word : List ℕ → ℕ → ℕ → List ℕ
set_word bytes k v = over bytes (k * 4) (bytes_of v)

-- words as bytes, one after the other
abbrev pub bytes_of_all : List ℕ → List ℕ
bytes_of_all [] = []
bytes_of_all (w ∷ ws) = bytes_of w ++ bytes_of_all ws

-- a table with its first words anew
abbrev pub over_words : List ℕ → List ℕ → List ℕ
over_words table ws = over table 0 (bytes_of_all ws)
