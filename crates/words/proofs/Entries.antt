-- Entries of several words: those before a written one stay, and it holds what was written.
use mathlib.Core.Path.{◌≡◌, refl, sym, ap, ◌∙◌}
use mathlib.Core.List.{List, [], ◌∷◌, ◌++◌, append_assoc}
use Prim.Native.Nat.{ℕ, zero, suc, ◌+◌, ◌*◌, ◌≤◌, ◌<◌}
use native.Mathlib.Nat.{not-suc-le-zero}
use native.Mathlib.Omega.{arith}
use lib.ListN.{length, get_or, length-append}
use Rattle.seqs.specs.Over.{over}
use Rattle.seqs.proofs.Overwrites.{over_nil, over_append, over_all}
use Rattle.words.specs.Words.{bytes_of, word_at, set_word, bytes_of_all, over_words}
use Rattle.words.proofs.Laws.{length_set_word, word_at_same, word_at_other}

-- words vs from word k on
abbrev pub set_words : List ℕ → ℕ → List ℕ → List ℕ
set_words t k [] = t
set_words t k (v ∷ vs) = set_words (set_word t k v) (k + 1) vs

-- each is a 32-bit word
abbrev pub Small : List ℕ → Type 0
Small [] = Unit {0}
Small (v ∷ vs) = (v < 4294967296) × Small vs

pub length_set_words : (t : List ℕ) (k : ℕ) (vs : List ℕ) → length (set_words t k vs) ≡ length t
length_set_words t k [] = refl
length_set_words t k (v ∷ vs) = length_set_words (set_word t k v) (k + 1) vs ∙ length_set_word t k v

pub set_words_below : (t : List ℕ) (k : ℕ) (vs : List ℕ) (j : ℕ) → j < k → word_at (set_words t k vs) j ≡ word_at t j
set_words_below t k [] j h = refl
set_words_below t k (v ∷ vs) j h = set_words_below (set_word t k v) (k + 1) vs j (omega arith) ∙ word_at_other t k v j (λ e. omega arith)

pub small_at : (vs : List ℕ) (i : ℕ) → Small vs → get_or vs i 0 < 4294967296
small_at [] i small = omega arith
small_at (v ∷ vs) zero small = small.0
small_at (v ∷ vs) (suc i) small = small_at vs i small.1

pub set_words_in : (t : List ℕ) (k : ℕ) (vs : List ℕ) → (k + length vs) * 4 ≤ length t → (i : ℕ) → i < length vs → get_or vs i 0 < 4294967296
    → word_at (set_words t k vs) (k + i) ≡ get_or vs i 0
set_words_in t k [] room i h small = absurd (not-suc-le-zero h)
set_words_in t k (v ∷ vs) room zero h small =
    let e : k + 0 ≡ k = omega arith in
    rw e (set_words_below (set_word t k v) (k + 1) vs k (omega arith) ∙ word_at_same t k v (omega arith) small)
set_words_in t k (v ∷ vs) room (suc i) h small =
    let e : k + suc i ≡ k + 1 + i = omega arith in
    ap (λ (n : ℕ). word_at (set_words (set_word t k v) (k + 1) vs) n) e
    ∙ set_words_in (set_word t k v) (k + 1) vs (omega (arith, length_set_word t k v)) i (omega arith) small

-- words written one after the other are their bytes over what was there
pub words_over : (t : List ℕ) (k : ℕ) (vs : List ℕ) → set_words t k vs ≡ over t (k * 4) (bytes_of_all vs)
unfolding set_word
words_over t k [] = sym (over_nil t (k * 4))
words_over t k (v ∷ vs) =
    let e : (k + 1) * 4 ≡ k * 4 + 4 = omega arith in
    words_over (set_word t k v) (k + 1) vs
    ∙ (ap (λ (at : ℕ). over (over t (k * 4) (bytes_of v)) at (bytes_of_all vs)) e ∙ over_append t (k * 4) (bytes_of v) (bytes_of_all vs))

-- A word written over a table is read from it.
pub word_read : (t vs : List ℕ) (i : ℕ) → i < length vs → length vs * 4 ≤ length t → get_or vs i 0 < 4294967296 → word_at (over_words t vs) i ≡ get_or vs i 0
word_read t vs i h room small =
    let e : 0 + i ≡ i = omega arith in
    ap (λ (l : List ℕ). word_at l i) (sym (words_over t 0 vs)) ∙ rw e at (set_words_in t 0 vs (omega arith) i h small)

pub bytes_of_all_append : (vs ws : List ℕ) → bytes_of_all (vs ++ ws) ≡ bytes_of_all vs ++ bytes_of_all ws
bytes_of_all_append [] ws = refl
bytes_of_all_append (v ∷ vs) ws =
    ap (λ (l : List ℕ). bytes_of v ++ l) (bytes_of_all_append vs ws) ∙ sym (append_assoc (bytes_of v) (bytes_of_all vs) (bytes_of_all ws))

pub length_bytes_of_all : (ws : List ℕ) → length (bytes_of_all ws) ≡ length ws * 4
length_bytes_of_all [] = refl
length_bytes_of_all (w ∷ ws) = length-append (bytes_of w) (bytes_of_all ws) ∙ omega (arith, length_bytes_of_all ws)

-- words are read from their bytes
pub word_at_bytes_of_all : (ws : List ℕ) (k : ℕ) → k < length ws → get_or ws k 0 < 4294967296 → word_at (bytes_of_all ws) k ≡ get_or ws k 0
word_at_bytes_of_all ws k h small =
    ap (λ (l : List ℕ). word_at l k) (sym (over_all (bytes_of_all ws) (bytes_of_all ws) refl)) ∙ word_read (bytes_of_all ws) ws k h (omega (arith, length_bytes_of_all ws)) small

-- words written over a table, and then those that follow
pub over_words_append : (t vs ws : List ℕ) → over (over_words t vs) (length vs * 4) (bytes_of_all ws) ≡ over_words t (vs ++ ws)
over_words_append t vs ws =
    let e : length vs * 4 ≡ 0 + length (bytes_of_all vs) = omega (arith, length_bytes_of_all vs) in
    ap (λ (at : ℕ). over (over_words t vs) at (bytes_of_all ws)) e
    ∙ over_append t 0 (bytes_of_all vs) (bytes_of_all ws)
    ∙ ap (over t 0) (sym (bytes_of_all_append vs ws))

pub three_words : (t : List ℕ) (k a b c : ℕ) → set_word (set_word (set_word t k a) (k + 1) b) (k + 2) c ≡ set_words t k (a ∷ b ∷ c ∷ [])
three_words t k a b c = let e : k + 1 + 1 ≡ k + 2 = omega arith in rw e

pub four_words : (t : List ℕ) (k a b c d : ℕ)
    → set_word (set_word (set_word (set_word t k a) (k + 1) b) (k + 2) c) (k + 3) d ≡ set_words t k (a ∷ b ∷ c ∷ d ∷ [])
four_words t k a b c d = let e : k + 1 + 1 ≡ k + 2 = omega arith in let f : k + 2 + 1 ≡ k + 3 = omega arith in rw (e, f)

pub five_words : (t : List ℕ) (k a b c d e : ℕ)
    → set_word (set_word (set_word (set_word (set_word t k a) (k + 1) b) (k + 2) c) (k + 3) d) (k + 4) e ≡ set_words t k (a ∷ b ∷ c ∷ d ∷ e ∷ [])
five_words t k a b c d e =
    let p : k + 1 + 1 ≡ k + 2 = omega arith in let q : k + 2 + 1 ≡ k + 3 = omega arith in let r : k + 3 + 1 ≡ k + 4 = omega arith in rw (p, q, r)

pub six_words : (t : List ℕ) (k a b c d e f : ℕ)
    → set_word (set_word (set_word (set_word (set_word (set_word t k a) (k + 1) b) (k + 2) c) (k + 3) d) (k + 4) e) (k + 5) f ≡ set_words t k (a ∷ b ∷ c ∷ d ∷ e ∷ f ∷ [])
six_words t k a b c d e f =
    let p : k + 1 + 1 ≡ k + 2 = omega arith in
    let q : k + 2 + 1 ≡ k + 3 = omega arith in
    let r : k + 3 + 1 ≡ k + 4 = omega arith in
    let s : k + 4 + 1 ≡ k + 5 = omega arith in
    rw (p, q, r, s)
