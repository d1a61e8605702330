-- Entries of six words, one after the other: written in turn, and read.
use Rattle.std.proofs.Common.{◌≡◌, ℕ, zero, suc, ◌+◌, ◌*◌, ◌<◌, List, [], ◌∷◌, length, get_or, refl, ap, ◌∙◌, ⊎_elim, not-suc-le-zero, add-one, arith, length-append, get_or-append-add}
use lib.ListN.{get_or-append}
use Rattle.seqs.specs.Over.{over}
use Rattle.seqs.proofs.Numbers.{lt_or_ge}
use Rattle.words.specs.Words.{set_word, bytes_of_all, over_words}
use Rattle.words.proofs.Entries.{six_words, words_over, over_words_append}
use Rattle.elf.specs.Elf.{rela_words, rela_size, joined}

-- six words, set one after the other, are an entry's bytes over what was there
pub six_over : (t : List ℕ) (i a b c d e f : ℕ)
    → set_word
    (set_word (set_word (set_word (set_word (set_word t (i * rela_words) a) (i * rela_words + 1) b) (i * rela_words + 2) c) (i * rela_words + 3) d) (i * rela_words + 4) e)
    (i * rela_words + 5)
    f
    ≡ over t (i * rela_size) (bytes_of_all (a ∷ b ∷ c ∷ d ∷ e ∷ f ∷ []))
six_over t i a b c d e f =
    let at : i * rela_words * 4 ≡ i * rela_size = omega arith in
    six_words t (i * rela_words) a b c d e f
    ∙ words_over t (i * rela_words) (a ∷ b ∷ c ∷ d ∷ e ∷ f ∷ [])
    ∙ ap (λ (k : ℕ). over t k (bytes_of_all (a ∷ b ∷ c ∷ d ∷ e ∷ f ∷ []))) at

-- entries that have six words each
module _ (f : ℕ → List ℕ) (six : (i : ℕ) → length (f i) ≡ rela_words) where
  pub length_joined : (n : ℕ) → length (joined f n) ≡ n * rela_words
  length_joined zero = refl
  length_joined (suc n) = length-append (joined f n) (f n) ∙ omega (arith, length_joined n, six n)

  -- a turn of a loop that writes them over a table
  pub put_one : (t : List ℕ) (i : ℕ) → over (over_words t (joined f i)) (i * rela_size) (bytes_of_all (f i)) ≡ over_words t (joined f (i + 1))
  put_one t i =
      let e : i * rela_size ≡ length (joined f i) * 4 = omega (arith, length_joined i) in
      rw (add-one i)
      (ap (λ (at : ℕ). over (over_words t (joined f i)) at (bytes_of_all (f i))) e ∙ over_words_append t (joined f i) (f i))

  -- a word of one of them
  pub joined_at : (n i j : ℕ) → i < n → j < rela_words → get_or (joined f n) (i * rela_words + j) 0 ≡ get_or (f i) j 0
  joined_at zero i j h k = absurd (not-suc-le-zero h)
  joined_at (suc n) i j h k =
      ⊎_elim
      (λ (lt : i < n). get_or-append (joined f n) (f n) 0 (i * rela_words + j) (omega (arith, length_joined n)) ∙ joined_at n i j lt k)
      (λ ge.
      let same : i ≡ n = omega arith in
      let e : n * rela_words + j ≡ length (joined f n) + j = omega (arith, length_joined n) in
      rw same (ap (λ (at : ℕ). get_or (joined f (suc n)) at 0) e ∙ get_or-append-add (joined f n) (f n) j 0))
      (lt_or_ge i n)

pub joined_same : (f g : ℕ → List ℕ) (n : ℕ) → ((i : ℕ) → i < n → f i ≡ g i) → joined f n ≡ joined g n
joined_same f g zero h = refl
joined_same f g (suc n) h = rw (joined_same f g n (λ i l. h i (omega arith)), h n (omega arith))
