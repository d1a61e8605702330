-- What each call that is not turned down does to the view of a sound recording.
use mathlib.Core.Path.{◌≡◌, refl, sym, ap, ◌∙◌}
use mathlib.Core.Logic.{◌≢◌, ⊎_elim}
use mathlib.Core.Bool.{Bool, and-true}
use mathlib.Core.List.{List, [], ◌∷◌, ◌++◌}
use Prim.Native.Nat.{ℕ, zero, suc, ◌+◌, ◌*◌, ◌/◌, ◌%◌, ◌≤◌, ◌<◌}
use native.Mathlib.Numerals.{add-one}
use native.Mathlib.Omega.{arith}
use native.Mathlib.Nat.{not-suc-le-zero}
use lib.ListN.{length, take, drop, set, get_or, length-append, length-set, get_or-append}
use lib.Seq.{ext_get_or, get_or_at, get_or-set_same, get_or-set_other}
use Rattle.seqs.specs.Counting.{count, how_many}
use Rattle.seqs.specs.Every.{every, all}
use Rattle.seqs.specs.Over.{over}
use Rattle.seqs.proofs.Counting.{count_more}
use Rattle.seqs.proofs.Every.{every_append}
use Rattle.seqs.proofs.Overwrites.{part_before, part_over, drop_over}
use Rattle.seqs.proofs.Numbers.{lt_or_ge, eq_or_ne}
use Rattle.words.specs.Words.{word_at, set_word}
use Rattle.words.proofs.Laws.{length_set_word, word_at_same, word_at_other}
use Rattle.relax.specs.Events.{event_of, event_at, event_words}
use Rattle.recording.specs.View.{entries, use_at, ref_at, Constant, constant_at, reloc_at}
use Rattle.buffer.specs.State.{none}
use Rattle.buffer.specs.Tables.{most_entries, label_size, use_words, ref_words, constant_words, constant_size, constant_head, reloc_words}
use Rattle.recording.specs.Sound.{ConstantsSound}
use Rattle.recording.proofs.Tables.{Appended}

-- entries that read the same
pub entries_same : {A : Type 0} (f g : ℕ → A) (n : ℕ) → ((i : ℕ) → i < n → f i ≡ g i) → entries f n ≡ entries g n
entries_same f g zero h = refl
entries_same f g (suc n) h = rw (entries_same f g n (λ i l. h i (omega arith)), h n (omega arith))

-- one entry more
pub entries_more : {A : Type 0} (f g : ℕ → A) (n : ℕ) (x : A) → ((i : ℕ) → i < n → f i ≡ g i) → f n ≡ x → entries f (n + 1) ≡ entries g n ++ (x ∷ [])
entries_more f g n x h e = rw (add-one n, entries_same f g n h, e)

pub length_entries : {A : Type 0} (f : ℕ → A) (n : ℕ) → length (entries f n) ≡ n
length_entries f zero = refl
length_entries f (suc n) = length-append (entries f n) (f n ∷ []) ∙ rw (length_entries f n) (add-one n)

pub get_d_entries : {A : Type 0} (f : ℕ → A) (n i : ℕ) (d : A) → i < n → get_or (entries f n) i d ≡ f i
get_d_entries f zero i d h = absurd (not-suc-le-zero h)
get_d_entries f (suc n) i d h =
    ⊎_elim
    (λ lt. get_or-append (entries f n) (f n ∷ []) d i (omega (arith, length_entries f n)) ∙ get_d_entries f n i d lt)
    (λ ge.
    let e : i ≡ n = omega arith in
    rw e (get_or_at (entries f n) (f n) [] d n (length_entries f n)))
    (lt_or_ge i n)

-- a test of every entry of a table is a test of every number below their count
pub every_entries : {A : Type 0} (f : A → Bool) (g : ℕ → A) (h : ℕ → Bool) (n : ℕ) → ((i : ℕ) → i < n → f (g i) ≡ h i)
    → every f (entries g n) ≡ all h n
unfolding every all
every_entries f g h zero e = refl
every_entries f g h (suc n) e =
    every_append f (entries g n) (g n ∷ []) ∙ rw (every_entries f g h n (λ i l. e i (omega arith)), and-true (f (g n)), e n (omega arith))

-- and so is a count
pub count_entries : {A : Type 0} (f : A → Bool) (g : ℕ → A) (h : ℕ → Bool) (n : ℕ) → ((i : ℕ) → i < n → f (g i) ≡ h i)
    → count f (entries g n) ≡ how_many h n
unfolding count how_many
count_entries f g h zero e = refl
count_entries f g h (suc n) e = count_more f (entries g n) (g n) ∙ rw (count_entries f g h n (λ i l. e i (omega arith)), e n (omega arith))

module _ (t u : List ℕ) (n : ℕ) where
  pub one_use_more : (offset label code : ℕ) → Appended t u (n * use_words) (offset ∷ label ∷ code ∷ [])
      → entries (use_at u) (n + 1) ≡ entries (use_at t) n ++ (record { offset = offset; label = label; code = code } ∷ [])
  one_use_more offset label code a =
      let at : n * use_words + 0 ≡ n * use_words = omega arith in
      let w0 : word_at u (n * use_words) ≡ offset = ap (λ (x : ℕ). word_at u x) (sym at) ∙ a.written 0 (omega arith) in
      entries_more (use_at u) (use_at t) n (record { offset = offset; label = label; code = code })
      (λ i l. rw (a.below (i * use_words) (omega arith), a.below (i * use_words + 1) (omega arith), a.below (i * use_words + 2) (omega arith)))
      (rw (w0, a.written 1 (omega arith), a.written 2 (omega arith)))

  pub one_ref_more : (offset label code addend : ℕ) → Appended t u (n * ref_words) (offset ∷ label ∷ code ∷ addend ∷ [])
      → entries (ref_at u) (n + 1) ≡ entries (ref_at t) n ++ (record { offset = offset; label = label; code = code; addend = addend } ∷ [])
  one_ref_more offset label code addend a =
      let at : n * ref_words + 0 ≡ n * ref_words = omega arith in
      let w0 : word_at u (n * ref_words) ≡ offset = ap (λ (x : ℕ). word_at u x) (sym at) ∙ a.written 0 (omega arith) in
      entries_more (ref_at u) (ref_at t) n (record { offset = offset; label = label; code = code; addend = addend })
      (λ i l. rw (a.below (i * ref_words) (omega arith), a.below (i * ref_words + 1) (omega arith), a.below (i * ref_words + 2) (omega arith), a.below (i * ref_words + 3) (omega arith)))
      (rw (w0, a.written 1 (omega arith), a.written 2 (omega arith), a.written 3 (omega arith)))

  pub one_reloc_more : (offset kind target addend : ℕ)
      → Appended t u (n * reloc_words) (offset ∷ kind ∷ target ∷ 0 ∷ addend % 4294967296 ∷ addend / 4294967296 ∷ [])
      → entries (reloc_at u) (n + 1) ≡ entries (reloc_at t) n ++ (record { offset = offset; kind = kind; target = target; addend = addend } ∷ [])
  one_reloc_more offset kind target addend a =
      let at : n * reloc_words + 0 ≡ n * reloc_words = omega arith in
      let w0 : word_at u (n * reloc_words) ≡ offset = ap (λ (x : ℕ). word_at u x) (sym at) ∙ a.written 0 (omega arith) in
      let whole : addend % 4294967296 + addend / 4294967296 * 4294967296 ≡ addend = omega arith in
      entries_more (reloc_at u) (reloc_at t) n (record { offset = offset; kind = kind; target = target; addend = addend })
      (λ i l.
      rw (
        a.below (i * reloc_words) (omega arith),
        a.below (i * reloc_words + 1) (omega arith),
        a.below (i * reloc_words + 2) (omega arith),
        a.below (i * reloc_words + 4) (omega arith),
        a.below (i * reloc_words + 5) (omega arith),
      ))
      (rw (w0, a.written 1 (omega arith), a.written 2 (omega arith), a.written 4 (omega arith), a.written 5 (omega arith), whole))

  pub one_event_more : (kind start len what cc : ℕ) → Appended t u (n * event_words) (kind ∷ start ∷ len ∷ what ∷ cc ∷ [])
      → entries (event_at u) (n + 1) ≡ entries (event_at t) n ++ (event_of kind start len what cc ∷ [])
  unfolding event_at
  one_event_more kind start len what cc a =
      let at : n * event_words + 0 ≡ n * event_words = omega arith in
      let w0 : word_at u (n * event_words) ≡ kind = ap (λ (x : ℕ). word_at u x) (sym at) ∙ a.written 0 (omega arith) in
      entries_more (event_at u) (event_at t) n (event_of kind start len what cc)
      (λ i l.
      rw (
        a.below (i * event_words) (omega arith),
        a.below (i * event_words + 1) (omega arith),
        a.below (i * event_words + 2) (omega arith),
        a.below (i * event_words + 3) (omega arith),
        a.below (i * event_words + 4) (omega arith),
      ))
      (rw (w0, a.written 1 (omega arith), a.written 2 (omega arith), a.written 3 (omega arith), a.written 4 (omega arith)))

  pub one_word_more : (v : ℕ) → Appended t u n (v ∷ []) → entries (word_at u) (n + 1) ≡ entries (word_at t) n ++ (v ∷ [])
  one_word_more v a =
      let at : n + 0 ≡ n = omega arith in
      entries_more (word_at u) (word_at t) n v (λ i l. a.below i l) (ap (λ (x : ℕ). word_at u x) (sym at) ∙ a.written 0 (omega arith))

-- a word written over another
pub word_set : (t : List ℕ) (i v n : ℕ) → i < n → n * label_size ≤ length t → v < 4294967296 → entries (word_at (set_word t i v)) n ≡ set (entries (word_at t) n) i v
word_set t i v n h room small =
    ext_get_or 0 _ _ (length_entries (word_at (set_word t i v)) n ∙ sym (length-set (entries (word_at t) n) i v ∙ length_entries (word_at t) n))
    (λ j l.
    let lj : j < n = omega (arith, length_entries (word_at (set_word t i v)) n) in
    get_d_entries (word_at (set_word t i v)) n j 0 lj
    ∙ ⊎_elim
    (λ same. rw same (word_at_same t i v (omega arith) small ∙ sym (get_or-set_same (entries (word_at t) n) i v 0 (omega (arith, length_entries (word_at t) n)))))
    (λ other. word_at_other t i v j other ∙ sym (get_or-set_other (entries (word_at t) n) i j v 0 other ∙ get_d_entries (word_at t) n j 0 lj))
    (eq_or_ne j i))

part_before_word : (t : List ℕ) (k v a m : ℕ) → a + m ≤ k * 4 → take m (drop a (set_word t k v)) ≡ take m (drop a t)
unfolding set_word
part_before_word t k v a m h = part_before t (k * 4) _ a m h

part_after_word : (t : List ℕ) (k v a : ℕ) → k * 4 + 4 ≤ a → drop a (set_word t k v) ≡ drop a t
unfolding set_word
part_after_word t k v a h = drop_over t (k * 4) _ a h

-- an entry of a constant is written: its size, no label, its bytes
abbrev pub with_constant : List ℕ → ℕ → List ℕ → List ℕ
with_constant t n bytes = over (set_word (set_word t (n * constant_words) (length bytes)) (n * constant_words + 1) none) (n * constant_size + constant_head) bytes

pub one_constant_more : (t : List ℕ) (n labels : ℕ) (bytes : List ℕ) → n * constant_size + constant_head + length bytes ≤ length t → ConstantsSound t n labels
    → Appended t (with_constant t n bytes) (n * constant_words) (length bytes ∷ none ∷ [])
    → entries (constant_at (with_constant t n bytes)) (n + 1) ≡ entries (constant_at t) n ++ (record { bytes = bytes; label = none } ∷ [])
one_constant_more t n labels bytes room s a =
    let u = with_constant t n bytes in
    let before = set_word (set_word t (n * constant_words) (length bytes)) (n * constant_words + 1) none in
    let size : length before ≡ length t = length_set_word (set_word t (n * constant_words) (length bytes)) (n * constant_words + 1) none ∙ length_set_word t (n * constant_words) (length bytes) in
    let at : n * constant_words + 0 ≡ n * constant_words = omega arith in
    let w0 : word_at u (n * constant_words) ≡ length bytes = ap (λ (x : ℕ). word_at u x) (sym at) ∙ a.written 0 (omega arith) in
    entries_more (constant_at u) (constant_at t) n (record { bytes = bytes; label = none })
    (λ i l.
    let small = (s.entry i l).size in
    let m = word_at t (i * constant_words) in
    rw (
      a.below (i * constant_words) (omega arith),
      a.below (i * constant_words + 1) (omega arith),
      part_before before (n * constant_size + constant_head) bytes (i * constant_size + constant_head) m (omega arith),
      part_before_word (set_word t (n * constant_words) (length bytes)) (n * constant_words + 1) none (i * constant_size + constant_head) m (omega arith),
      part_before_word t (n * constant_words) (length bytes) (i * constant_size + constant_head) m (omega arith),
    ))
    (rw (w0, a.written 1 (omega arith), part_over before (n * constant_size + constant_head) bytes (omega arith)))

-- a constant gets its label
pub constant_labelled : (t : List ℕ) (n labels c : ℕ) → c < n → n ≤ length t / constant_size → labels ≤ most_entries → ConstantsSound t n labels
    → entries (constant_at (set_word t (c * constant_words + 1) labels)) n ≡ set (entries (constant_at t) n) c (record { bytes = (constant_at t c).bytes; label = labels })
constant_labelled t n labels c h room limit s =
    let u = set_word t (c * constant_words + 1) labels in
    let new : Constant = record { bytes = (constant_at t c).bytes; label = labels } in
    let bytes : (i : ℕ) → i < n → take (word_at u (i * constant_words)) (drop (i * constant_size + constant_head) u) ≡ take (word_at t (i * constant_words)) (drop (i * constant_size + constant_head) t) =
    λ i l.
    let small = (s.entry i l).size in
    rw (word_at_other t (c * constant_words + 1) labels (i * constant_words) (λ e. omega arith))
    (⊎_elim
    (λ lt. part_before_word t (c * constant_words + 1) labels (i * constant_size + constant_head) (word_at t (i * constant_words)) (omega arith))
    (λ ge. rw (part_after_word t (c * constant_words + 1) labels (i * constant_size + constant_head) (omega arith)))
    (lt_or_ge i c)) in
    ext_get_or new _ _ (length_entries (constant_at u) n ∙ sym (length-set (entries (constant_at t) n) c new ∙ length_entries (constant_at t) n))
    (λ j l.
    let lj : j < n = omega (arith, length_entries (constant_at u) n) in
    get_d_entries (constant_at u) n j new lj
    ∙ ⊎_elim
    (λ same.
    rw (same, bytes c h, word_at_same t (c * constant_words + 1) labels (omega arith) (omega arith))
    (sym (get_or-set_same (entries (constant_at t) n) c new new (omega (arith, length_entries (constant_at t) n)))))
    (λ other.
    let e : j * constant_words + 1 ≢ c * constant_words + 1 = λ z. let f : j ≡ c = omega arith in other f in
    rw (bytes j lj, word_at_other t (c * constant_words + 1) labels (j * constant_words + 1) e)
    (sym (get_or-set_other (entries (constant_at t) n) c j new new other ∙ get_d_entries (constant_at t) n j new lj)))
    (eq_or_ne j c))
