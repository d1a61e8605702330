-- The tables of labels and relocations once their offsets are mapped.
use mathlib.Core.Path.{◌≡◌, refl, sym, ap, ◌∙◌}
use mathlib.Core.Logic.{⊎_elim}
use mathlib.Core.List.{List, [], ◌∷◌, ◌++◌, map, map-append}
use Prim.Native.Nat.{ℕ, zero, suc, ◌*◌, ◌≤◌, ◌<◌}
use native.Mathlib.Omega.{arith}
use lib.ListN.{length, set}
use Rattle.seqs.specs.Over.{over}
use Rattle.seqs.proofs.Numbers.{lt_or_ge}
use Rattle.seqs.proofs.Overwrites.{length_over, over_nil}
use Rattle.words.specs.Words.{bytes_of, word_at, set_word, bytes_of_all, over_words}
use Rattle.words.proofs.Laws.{word_at_same, word_at_other}
use Rattle.words.proofs.Entries.{length_bytes_of_all, over_words_append}
use Rattle.recording.specs.View.{entries}
use Rattle.recording.proofs.Views.{length_entries}
use Rattle.fresh.proofs.Past.{over_front}
use Rattle.emit.specs.steps.Emit.{mapped_words}
use Rattle.finish.specs.Finish.{relocated}

-- words set one after another are words written over the first
pub set_over_words : (f : ℕ → ℕ) (t : List ℕ) (n : ℕ) → set_word (over_words t (entries f n)) n (f n) ≡ over_words t (entries f (suc n))
unfolding set_word
set_over_words f t n =
    let e : n * 4 ≡ length (entries f n) * 4 = omega (arith, length_entries f n) in
    ap (λ (k : ℕ). over (over_words t (entries f n)) k (bytes_of (f n))) e ∙ over_words_append t (entries f n) (f n ∷ [])

-- a word written so is read
pub word_over : (f : ℕ → ℕ) (t : List ℕ) (n i : ℕ) → i < n → n * 4 ≤ length t → f i < 4294967296 → word_at (over_words t (entries f n)) i ≡ f i
word_over f t zero i h room small = absurd (omega arith)
word_over f t (suc n) i h room small =
    ap (λ (l : List ℕ). word_at l i) (sym (set_over_words f t n))
    ∙ ⊎_elim
    (λ (lt : i < n). word_at_other (over_words t (entries f n)) n (f n) i (λ e. omega arith) ∙ word_over f t n i lt (omega arith) small)
    (λ (ge : n ≤ i).
    let e : i ≡ n = omega arith in
    rw e (word_at_same (over_words t (entries f n)) n (f n) (omega (arith, length_over t 0 (bytes_of_all (entries f n)))) (rw (← e) small)))
    (lt_or_ge i n)

-- the labels
pub labels_mapped : (f : ℕ → ℕ) (t : List ℕ) (n : ℕ) → mapped_words f t 1 n ≡ over_words t (entries (λ (i : ℕ). f (word_at t i)) n)
unfolding mapped_words
labels_mapped f t zero = sym (over_nil t 0)
labels_mapped f t (suc n) =
    let e : n * 1 ≡ n = omega arith in
    rw (e, labels_mapped f t n) (set_over_words (λ (i : ℕ). f (word_at t i)) t n)

-- the relocations
pub relocs_mapped : (f : ℕ → ℕ) (t : List ℕ) (n : ℕ) → mapped_words f t 6 n ≡ relocated f t n
unfolding mapped_words relocated
relocs_mapped f t zero = refl
relocs_mapped f t (suc n) = rw (relocs_mapped f t n)

pub map_entries : {A B : Type 0} (g : A → B) (f : ℕ → A) (n : ℕ) → map g (entries f n) ≡ entries (λ (i : ℕ). g (f i)) n
map_entries g f zero = refl
map_entries g f (suc n) = map-append g (entries f n) (f n ∷ []) ∙ rw (map_entries g f n)

bytes_of_all_set : (ws : List ℕ) (k v : ℕ) → k < length ws → bytes_of_all (set ws k v) ≡ over (bytes_of_all ws) (k * 4) (bytes_of v)
unfolding over
bytes_of_all_set [] k v h = absurd (omega arith)
bytes_of_all_set (w ∷ ws) zero v h = ap (λ l. bytes_of v ++ l) (sym (over_nil (bytes_of_all ws) 0))
bytes_of_all_set (w ∷ ws) (suc k) v h =
    let e : suc k * 4 ≡ suc (suc (suc (suc (k * 4)))) = omega arith in
    rw e (ap (λ l. bytes_of w ++ l) (bytes_of_all_set ws k v (omega arith)))

-- one of the words written anew
pub over_words_set : (t : List ℕ) (f : ℕ → ℕ) (n k v : ℕ) → k < n → over_words t (set (entries f n) k v) ≡ set_word (over_words t (entries f n)) k v
unfolding set_word
over_words_set t f n k v h =
    ap (over t 0) (bytes_of_all_set (entries f n) k v (omega (arith, length_entries f n)))
    ∙ sym (over_front t (bytes_of_all (entries f n)) (k * 4) (bytes_of v) (omega (arith, length_bytes_of_all (entries f n), length_entries f n)))
