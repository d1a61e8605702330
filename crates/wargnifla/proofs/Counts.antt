-- Counts as lent bytes: what is written is read, and counts that a call hands back unchanged leave the bytes unchanged.
use mathlib.Core.Path.{◌≡◌, sym, ap, ◌∙◌}
use mathlib.Core.List.{List}
use Prim.Native.Nat.{ℕ, ◌≤◌, ◌<◌}
use native.Mathlib.Omega.{arith}
use lib.ListN.{length, get_or}
use Rattle.words.specs.Words.{word_at, over_words}
use Rattle.words.proofs.Entries.{words_over, word_read}
use Rattle.buffer.specs.declared.CodeBuffer.{CodeBuffer}
use Rattle.recording.specs.Calls.{Recording, with_buffer}
use Rattle.recording.proofs.Words.{Words}
use Rattle.pool.proofs.Turns.{set_word_same}
use Rattle.wargnifla.specs.Boundary.{counts_size, counts_at, counts_of, recording_in, lent_with}

-- Counts that are words are read as they were written.
pub counts_read : (t : List ℕ) (b : CodeBuffer) → counts_size ≤ length t → Words b → counts_at (over_words t (counts_of b)) ≡ b
counts_read t b room w =
    let read : (i : ℕ) → i < 13 → get_or (counts_of b) i 0 < 4294967296 → word_at (over_words t (counts_of b)) i ≡ get_or (counts_of b) i 0 =
    λ i h small. word_read t (counts_of b) i h room small in
    rw (
      read 0 (omega arith) w.arch,
      read 1 (omega arith) w.symbols,
      read 2 (omega arith) w.finished,
      read 3 (omega arith) w.refusal,
      read 4 (omega arith) w.code,
      read 5 (omega arith) w.labels,
      read 6 (omega arith) w.events,
      read 7 (omega arith) w.uses,
      read 8 (omega arith) w.refs,
      read 9 (omega arith) w.constants,
      read 10 (omega arith) w.asked,
      read 11 (omega arith) w.relocs,
      read 12 (omega arith) w.unresolved,
    )

-- Bytes with a recording in them hold that recording.
pub recording_read : (counts : List ℕ) (r : Recording) → counts_size ≤ length counts → Words r.buffer → recording_in (lent_with counts r) ≡ r
recording_read counts r room w = ap (λ (b : CodeBuffer). with_buffer r b) (counts_read counts r.buffer room w)

pub counts_stay : (counts : List ℕ) → ((n : ℕ) → get_or counts n 0 < 256) → over_words counts (counts_of (counts_at counts)) ≡ counts
counts_stay counts small =
    sym (words_over counts 0 (counts_of (counts_at counts)))
    ∙ rw (
      set_word_same counts 0 small,
      set_word_same counts 1 small,
      set_word_same counts 2 small,
      set_word_same counts 3 small,
      set_word_same counts 4 small,
      set_word_same counts 5 small,
      set_word_same counts 6 small,
      set_word_same counts 7 small,
      set_word_same counts 8 small,
      set_word_same counts 9 small,
      set_word_same counts 10 small,
      set_word_same counts 11 small,
      set_word_same counts 12 small,
    )
