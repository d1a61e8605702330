-- What finish checks of fields before it lays out: document 01's list of refusals, 17 and 19 to 22. `labels` is the table with the pool's labels bound, `len`
-- the length of the pooled code.
use Rattle.std.specs.Prelude.{Bool, ◌&&◌, ◌||◌, List, ℕ, ◌+◌, ◌*◌, leb, ltb}
use Rattle.refusals.specs.Numbers as refusals
use Rattle.seqs.specs.Pick.{pick, first_of}
use Rattle.words.specs.Words.{word_at}
use Rattle.fields.specs.Kinds.{decoded, size_of}
use Rattle.fields.specs.Reach.{reach_of}
use Rattle.buffer.specs.Tables.{use_words, ref_words}
use Rattle.recording.specs.Sound.{start_at, end_at}
use Rattle.pool.specs.steps.Pool.{pool_start, pool_offset}
use Rattle.seqs.specs.Every.{all}

-- what lies from one offset to another "starts before an event's end and ends after that event's start" for none of the recorded events, nor of the
-- alignments of the pool
unfoldable pub clear_of_events : List ℕ → ℕ → ℕ → ℕ → Bool
clear_of_events events n from to = all (λ (j : ℕ). leb (end_at events j) from || leb to (start_at events j)) n

unfoldable pub clear_of_pool : ℕ → List ℕ → List ℕ → ℕ → ℕ → ℕ → Bool
clear_of_pool code constants asked m from to =
    all (λ (j : ℕ). leb (pool_offset code constants asked j) from || leb to (pool_start code constants asked j)) m

-- 17, turned round: the field lies within the pooled code, and clear of every event
unfoldable pub ref_clear : List ℕ → List ℕ → ℕ → ℕ → List ℕ → List ℕ → ℕ → ℕ → Bool
ref_clear refs events n code constants asked m i =
    let from = word_at refs (i * ref_words) in
    let to = from + size_of (decoded (word_at refs (i * ref_words + 2))) in
    leb to (pool_start code constants asked m) && (clear_of_events events n from to && clear_of_pool code constants asked m from to)

unfoldable pub refs_clear : List ℕ → ℕ → List ℕ → ℕ → ℕ → List ℕ → List ℕ → ℕ → Bool
refs_clear refs count events n code constants asked m = all (ref_clear refs events n code constants asked m) count

-- 19 to 22 for one use: "a use's field passes the pooled code's end", or it can't reach
unfoldable pub why_unreached : List ℕ → List ℕ → ℕ → ℕ → ℕ
why_unreached uses labels len i =
    let offset = word_at uses (i * use_words) in
    let kind = decoded (word_at uses (i * use_words + 2)) in
    pick (ltb len (offset + size_of kind)) refusals.use_past_end (reach_of kind offset (word_at labels (word_at uses (i * use_words + 1))))

-- "tried together for each use in order": the first refusal of the first n uses
unfoldable pub why_uses : List ℕ → List ℕ → ℕ → ℕ → ℕ
why_uses uses labels len n = first_of (why_unreached uses labels len) n
