-- The pool as the tables have it: the constants that `asked` lists, in that order, laid out from an offset on. `pooled` (fresh/specs/Pooled) says the
-- same of lists.
use Rattle.std.specs.Prelude.{Bool, false, not, ◌||◌, List, [], ◌++◌, ℕ, zero, suc, ◌+◌, ◌*◌, ◌≤◌, ◌<◌, max, eqb, length, take, drop, replicate}
use Rattle.seqs.specs.Over.{over}
use Rattle.words.specs.Words.{word_at, set_word}
use Rattle.encoder.specs.Padding.{padding_length}
use Rattle.relax.specs.declared.LayoutEvent.{LayoutEvent}
use Rattle.relax.specs.declared.LayoutEvent.TheVariants.{Align}
use Rattle.buffer.specs.State.{none}
use Rattle.buffer.specs.Calls.{padding}
use Rattle.buffer.specs.Tables.{most_entries, most_constant, default_most, label_size, constant_words, constant_size, constant_head, asked_size}
use Rattle.fresh.specs.Pooled.{constant_alignment}

-- the most bytes that a pooled constant takes: 63 of padding and 64 of its own
abbrev pub most_pooled : ℕ
most_pooled = 127

-- No offset in a recording, in its pool or in their layout is greater: code has at most 16,777,216 bytes, at most 65,536 constants are pooled, and of
-- at most 65,536 events each takes at most 4,096.
abbrev pub offset_bound : ℕ
offset_bound = 300000000

-- nor in the recording and its pool, before any layout: the code and the constants alone
abbrev pub pooled_bound : ℕ
pooled_bound = 26000000

-- the size, the label and the bytes of the constant that was asked for as number j
abbrev pub size_at : List ℕ → List ℕ → ℕ → ℕ
size_at constants asked j = word_at constants (word_at asked j * constant_words)

abbrev pub label_at : List ℕ → List ℕ → ℕ → ℕ
label_at constants asked j = word_at constants (word_at asked j * constant_words + 1)

abbrev pub bytes_at : List ℕ → List ℕ → ℕ → List ℕ
bytes_at constants asked j = take (size_at constants asked j) (drop (word_at asked j * constant_size + constant_head) constants)

-- where the alignment of constant j starts, if the pool starts at `from`; of the constant after the last, where the pool ends
unfoldable pub pool_start : ℕ → List ℕ → List ℕ → ℕ → ℕ
pool_start from constants asked zero = from
pool_start from constants asked (suc j) =
    let start = pool_start from constants asked j in
    start + padding_length start (constant_alignment (size_at constants asked j)) + size_at constants asked j

-- the padding before constant j, and where the constant stands
abbrev pub pool_padding : ℕ → List ℕ → List ℕ → ℕ → ℕ
pool_padding from constants asked j = padding_length (pool_start from constants asked j) (constant_alignment (size_at constants asked j))

abbrev pub pool_offset : ℕ → List ℕ → List ℕ → ℕ → ℕ
pool_offset from constants asked j = pool_start from constants asked j + pool_padding from constants asked j

-- the greater of 32 and the largest alignment among the first n constants
unfoldable pub pool_alignment : List ℕ → List ℕ → ℕ → ℕ
pool_alignment constants asked zero = 32
pool_alignment constants asked (suc j) = max (pool_alignment constants asked j) (constant_alignment (size_at constants asked j))

-- the alignment of constant j as an event
abbrev pub pool_event : ℕ → List ℕ → List ℕ → ℕ → LayoutEvent
pool_event from constants asked j =
    Align (record {
      start = pool_start from constants asked j;
      len = pool_padding from constants asked j;
      align = constant_alignment (size_at constants asked j);
      most = default_most;
    })

-- what the first n constants take: padding, and zeros where their bytes will stand
unfoldable pub pool_bytes : ℕ → ℕ → List ℕ → List ℕ → ℕ → List ℕ
pool_bytes arch from constants asked zero = []
pool_bytes arch from constants asked (suc j) =
    pool_bytes arch from constants asked j ++ (padding arch (pool_padding from constants asked j) ++ replicate (size_at constants asked j) 0)

-- the table of labels with those of the first n constants bound, and with them unbound
unfoldable pub pool_bound : ℕ → List ℕ → List ℕ → List ℕ → ℕ → List ℕ
pool_bound from labels constants asked zero = labels
pool_bound from labels constants asked (suc j) =
    set_word (pool_bound from labels constants asked j) (label_at constants asked j) (pool_offset from constants asked j)

unfoldable pub pool_unbound : List ℕ → List ℕ → List ℕ → ℕ → List ℕ
pool_unbound labels constants asked zero = labels
pool_unbound labels constants asked (suc j) = set_word (pool_unbound labels constants asked j) (label_at constants asked j) none

-- the output with the bytes of the first n constants where their labels say
unfoldable pub pool_written : List ℕ → List ℕ → List ℕ → List ℕ → ℕ → List ℕ
pool_written output labels constants asked zero = output
pool_written output labels constants asked (suc j) =
    over (pool_written output labels constants asked j) (word_at labels (label_at constants asked j)) (bytes_at constants asked j)

-- the label of one of the first n constants is bound
unfoldable pub is_any_bound : List ℕ → List ℕ → List ℕ → ℕ → Bool
is_any_bound labels constants asked zero = false
is_any_bound labels constants asked (suc j) =
    is_any_bound labels constants asked j || not (eqb (word_at labels (label_at constants asked j)) none)

-- what the functions of the pool are handed: entries that lie in their tables
pub record PoolFits (constants asked : List ℕ) (n : ℕ) : Type 0 where
  pub few : n ≤ most_entries
  pub room : n * asked_size ≤ length asked
  pub listed : (j : ℕ) → j < n → word_at asked j * constant_size + constant_size ≤ length constants
  pub sized : (j : ℕ) → j < n → size_at constants asked j ≤ most_constant

pub record PoolLabels (labels constants asked : List ℕ) (n : ℕ) : Type 0 where
  pub known : (j : ℕ) → j < n → label_at constants asked j * label_size + label_size ≤ length labels

pub record PoolRoom (output labels constants asked : List ℕ) (n : ℕ) : Type 0 where
  pub within : (j : ℕ) → j < n → word_at labels (label_at constants asked j) + size_at constants asked j ≤ length output
