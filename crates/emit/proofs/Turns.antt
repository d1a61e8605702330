-- One turn of each loop over entries.
use Rattle.std.proofs.Common.{◌≡◌, ℕ, zero, suc, ◌+◌, ◌*◌, ◌<◌, Bool, false, ◌≢◌, List, get_or, refl, ◌∙◌, mul-lt-mul_of_pos_right, add-one, arith}
use Rattle.words.specs.Words.{word_at, set_word}
use Rattle.words.proofs.Laws.{word_at_other}
use Rattle.relax.specs.declared.Segment.{Segment}
use Rattle.relax.specs.Events.{event_at}
use Rattle.fresh.specs.Fill.{fill_jump}
use Rattle.emit.specs.steps.Emit.{use_filled, uses_filled, ref_at, ref_filled, refs_filled, jumps_filled, start_at, mapped_words}

pub uses_turn : (output uses labels : List ℕ) (i : ℕ) (now next : List ℕ) → now ≡ uses_filled output uses labels i → next ≡ use_filled uses labels i now
    → next ≡ uses_filled output uses labels (i + 1)
unfolding uses_filled
uses_turn output uses labels i now next e f = f ∙ rw (e, add-one i)

pub refs_turn : (output refs labels : List ℕ) (ss : List Segment) (n i : ℕ) (now next : List ℕ) → now ≡ refs_filled output refs labels ss n i
    → next ≡ ref_filled refs labels (ref_at refs ss n i) i now → next ≡ refs_filled output refs labels ss n (i + 1)
unfolding refs_filled
refs_turn output refs labels ss n i now next e f = f ∙ rw (e, add-one i)

pub jumps_turn : (output events labels : List ℕ) (long : List Bool) (ss : List Segment) (i : ℕ) (now next : List ℕ)
    → now ≡ jumps_filled output events labels long ss i → next ≡ fill_jump (word_at labels) (event_at events i) (get_or long i false) (start_at ss i) now
    → next ≡ jumps_filled output events labels long ss (i + 1)
unfolding jumps_filled
jumps_turn output events labels long ss i now next e f = f ∙ rw (e, add-one i)

-- a word that is none of those mapped
mapped_other : (f : ℕ → ℕ) (t : List ℕ) (stride i k : ℕ) → ((j : ℕ) → j < i → k ≢ j * stride) → word_at (mapped_words f t stride i) k ≡ word_at t k
unfolding mapped_words
mapped_other f t stride zero k h = refl
mapped_other f t stride (suc i) k h =
    word_at_other (mapped_words f t stride i) (i * stride) (f (word_at t (i * stride))) k (h i (omega arith))
    ∙ mapped_other f t stride i k (λ j l. h j (omega arith))

-- the table after i turns of the loop that maps words
pub record Mapping (f : ℕ → ℕ) (t : List ℕ) (stride i : ℕ) (now : List ℕ) : Type 0 where
  pub some : 0 < stride
  pub mapped : now ≡ mapped_words f t stride i

module _ {f : ℕ → ℕ} {t : List ℕ} {stride i : ℕ} {now : List ℕ} (m : Mapping f t stride i now) where
  -- the next one is not mapped yet
  pub mapped_next : word_at now (i * stride) ≡ word_at t (i * stride)
  mapped_next =
      rw m.mapped
      (mapped_other f t stride i (i * stride) (λ j l q. omega (arith, mul-lt-mul_of_pos_right {m = j} {n = i} {k = stride} l m.some)))

  pub mapped_turn : {next : List ℕ} {offset to : ℕ} → offset ≡ word_at now (i * stride) → to ≡ f offset → next ≡ set_word now (i * stride) to
      → next ≡ mapped_words f t stride (i + 1)
  unfolding mapped_words
  mapped_turn {offset = offset} o e n = let k : offset ≡ word_at t (i * stride) = o ∙ mapped_next in n ∙ rw (e, k, m.mapped, add-one i)
