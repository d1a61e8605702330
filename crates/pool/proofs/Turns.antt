-- Laws of the pool: one turn of each of its loops, where it ends, and what binding its labels and taking that back leave.
use mathlib.Core.Path.{◌≡◌, refl, sym, ap, ◌∙◌}
use mathlib.Core.Logic.{◌≢◌, ⊎_elim}
use mathlib.Core.Bool.{Bool, true, false, not, ◌&&◌, ◌||◌}
use mathlib.Core.List.{List, [], ◌∷◌, ◌++◌}
use Prim.Native.Nat.{ℕ, zero, suc, ◌+◌, ◌*◌, ◌-◌, ◌≤◌, ◌<◌}
use native.Mathlib.Nat.{not-suc-le-zero}
use native.Mathlib.Numerals.{add-one}
use native.Mathlib.Omega.{arith}
use lib.Dec.{eqb}
use lib.ListN.{length, get_or, take, drop, replicate, length-append, length-take, length-drop, length-replicate}
use Rattle.seqs.specs.Every.{all}
use Rattle.seqs.specs.Over.{over}
use Rattle.seqs.proofs.Numbers.{eq_or_ne, lt_or_ge}
use Rattle.seqs.proofs.Overwrites.{length_over, over_append, over_mid, over_all}
use Rattle.words.specs.Words.{word_at, set_word, bytes_of}
use Rattle.words.proofs.Laws.{length_set_word, word_at_same, word_at_other}
use Rattle.encoder.specs.Padding.{padding_length}
use Rattle.buffer.specs.State.{none}
use Rattle.buffer.specs.Calls.{padding}
use Rattle.buffer.proofs.Appends.{padding_length_lem, over_padded}
use Rattle.buffer.specs.Tables.{label_size, constant_size, constant_head}
use Rattle.fresh.specs.Pooled.{constant_alignment}
use Rattle.fresh.proofs.Constants.{constant_padding}
use Rattle.pool.specs.steps.Pool.{size_at, label_at, bytes_at, pool_start, pool_padding, pool_offset, pool_bytes, pool_bound, pool_unbound, pool_written, is_any_bound, PoolFits, PoolRoom, most_pooled}

-- A turn of a loop that lays constants out: what the program has of constant j, whose alignment starts at `at`.
pub record Turn (from : ℕ) (constants asked : List ℕ) (j at size multiple pad : ℕ) : Type 0 where
  pub starts : at ≡ pool_start from constants asked j
  pub sized : size ≡ size_at constants asked j
  pub aligned : multiple ≡ constant_alignment size
  pub padded : pad ≡ padding_length at multiple

module _ {from : ℕ} {constants asked : List ℕ} {j at size multiple pad : ℕ} (t : Turn from constants asked j at size multiple pad) where
  pub pad_small : pad ≤ 63
  pad_small = rw (t.padded, t.aligned) (constant_padding at size)

  -- one constant more
  pub start_turn : at + pad + size ≡ pool_start from constants asked (j + 1)
  unfolding pool_start
  start_turn = rw (add-one j, t.padded, t.aligned, t.sized, t.starts)

  pub offset_turn : at + pad ≡ pool_offset from constants asked j
  offset_turn = rw (t.padded, t.aligned, t.sized, t.starts)

  pad_turn : pad ≡ pool_padding from constants asked j
  pad_turn = rw (t.padded, t.aligned, t.sized, t.starts)

  pub bound_turn : (labels : List ℕ) {now : List ℕ} {label : ℕ} → now ≡ pool_bound from labels constants asked j → label ≡ label_at constants asked j
      → set_word now label (at + pad) ≡ pool_bound from labels constants asked (j + 1)
  unfolding pool_bound
  bound_turn labels e f = rw (add-one j, e, f, offset_turn)

-- A turn of the loop that unbinds: the table as the turns before left it, and the label of constant j.
pub record Unbinding (labels constants asked : List ℕ) (j label : ℕ) (now : List ℕ) : Type 0 where
  pub unbound : now ≡ pool_unbound labels constants asked j
  pub labelled : label ≡ label_at constants asked j

pub unbound_turn : {labels constants asked : List ℕ} {j label : ℕ} {now : List ℕ} → Unbinding labels constants asked j label now
    → set_word now label none ≡ pool_unbound labels constants asked (j + 1)
unfolding pool_unbound
unbound_turn {j = j} t = rw (add-one j, t.unbound, t.labelled)

-- the labels are tested by their numbers
pub any_bound : (labels constants asked : List ℕ) (n : ℕ)
    → not (all (λ (j : ℕ). not (not (eqb (word_at labels (label_at constants asked j)) none))) n) ≡ is_any_bound labels constants asked n
unfolding is_any_bound all
any_bound labels constants asked zero = refl
any_bound labels constants asked (suc n) =
    let test = λ (j : ℕ). not (eqb (word_at labels (label_at constants asked j)) none) in
    rw (← any_bound labels constants asked n) (either (all (λ (j : ℕ). not (test j)) n) (test n))
  where
    either : (t u : Bool) → not (t && not u) ≡ (not t || u)
    either true true = refl
    either true false = refl
    either false u = refl

-- where the pool ends: its length, and bounds
pub length_pool_bytes : (arch from : ℕ) (constants asked : List ℕ) (n : ℕ)
    → from + length (pool_bytes arch from constants asked n) ≡ pool_start from constants asked n
unfolding pool_bytes pool_start
length_pool_bytes arch from constants asked zero = omega arith
length_pool_bytes arch from constants asked (suc n) =
    let pad = padding arch (pool_padding from constants asked n) in
    let zeros : List ℕ = replicate (size_at constants asked n) 0 in
    omega (
      arith,
      length-append (pool_bytes arch from constants asked n) (pad ++ zeros),
      length-append pad zeros,
      padding_length_lem arch (pool_padding from constants asked n),
      length-replicate {A = ℕ} (size_at constants asked n) 0,
      length_pool_bytes arch from constants asked n,
    )

pub pool_start_suc : (from : ℕ) (constants asked : List ℕ) (j : ℕ)
    → pool_start from constants asked (suc j) ≡ pool_offset from constants asked j + size_at constants asked j
unfolding pool_start
pool_start_suc from constants asked j = refl

pub pool_start_grows : (from : ℕ) (constants asked : List ℕ) (i j : ℕ) → i ≤ j → pool_start from constants asked i ≤ pool_start from constants asked j
pool_start_grows from constants asked i zero h = let e : i ≡ 0 = omega arith in rw e (omega arith)
pool_start_grows from constants asked i (suc j) h =
    ⊎_elim
    (λ (same : i ≡ suc j). rw same (omega arith))
    (λ other. omega (arith, pool_start_suc from constants asked j, pool_start_grows from constants asked i j (omega arith)))
    (eq_or_ne i (suc j))

pub from_pool_start : (from : ℕ) (constants asked : List ℕ) (j : ℕ) → from ≤ pool_start from constants asked j
unfolding pool_start
from_pool_start from constants asked j = pool_start_grows from constants asked 0 j (omega arith)

pub pool_start_bound : (from : ℕ) (constants asked : List ℕ) (n : ℕ) → PoolFits constants asked n → (j : ℕ) → j ≤ n
    → pool_start from constants asked j ≤ from + j * most_pooled
unfolding pool_start
pool_start_bound from constants asked n fits zero h = omega arith
pool_start_bound from constants asked n fits (suc j) h =
    omega (
      arith,
      pool_start_bound from constants asked n fits j (omega arith),
      constant_padding (pool_start from constants asked j) (size_at constants asked j),
      fits.sized j h,
    )

-- each constant stands within the pool
pub pool_offset_bound : (from : ℕ) (constants asked : List ℕ) (n : ℕ) → PoolFits constants asked n → (j : ℕ) → j < n
    → pool_offset from constants asked j + size_at constants asked j ≤ from + n * most_pooled
pool_offset_bound from constants asked n fits j h =
    omega (
      arith,
      pool_start_suc from constants asked j,
      pool_start_bound from constants asked n fits (suc j) h,
    )

-- a turn of the loop that lays the pool out: a part is padded, and the next is cleared
part_length : (xs : List ℕ) (at k : ℕ) → at + k ≤ length xs → length (take k (drop at xs)) ≡ k
part_length xs at k h = simp (length-take, length-drop) (omega arith)

pub over_cleared : (xs part : List ℕ) (at k n : ℕ) → k ≡ n → at + k ≤ length xs → part ≡ replicate (length (take k (drop at xs))) 0
    → take at xs ++ (part ++ drop k (drop at xs)) ≡ over xs at (replicate n 0)
over_cleared xs part at k n e h f =
    rw (f, part_length xs at k h, ← e) (over_mid xs at k (replicate k 0) (length-replicate k 0) h)

pub over_pad : (xs part : List ℕ) (at k n arch : ℕ) → k ≡ n → at + k ≤ length xs → part ≡ padding arch (length (take k (drop at xs)))
    → take at xs ++ (part ++ drop k (drop at xs)) ≡ over xs at (padding arch n)
over_pad xs part at k n arch e h f = rw f (over_padded xs at k n arch e h)

-- the constant lies before the pool's end
pub within_turn : {from : ℕ} {constants asked : List ℕ} {j at size multiple pad n : ℕ} → Turn from constants asked j at size multiple pad → j < n
    → at + pad + size ≤ pool_start from constants asked n
within_turn {from} {constants} {asked} {j} {n = n} t l = rw (start_turn t) (pool_start_grows from constants asked (j + 1) n (omega arith))

pub bytes_turn : (output : List ℕ) (arch from : ℕ) (constants asked : List ℕ) (j at : ℕ) (now : List ℕ)
    → now ≡ over output from (pool_bytes arch from constants asked j) → at ≡ pool_start from constants asked j
    → (pad offset size : ℕ) → pad ≡ pool_padding from constants asked j → offset ≡ at + pad → size ≡ size_at constants asked j
    → over (over now at (padding arch pad)) offset (replicate size 0) ≡ over output from (pool_bytes arch from constants asked (j + 1))
unfolding pool_bytes
bytes_turn output arch from constants asked j at now e f pad offset size g h i =
    let bytes = pool_bytes arch from constants asked j in
    let zeros : List ℕ = replicate size 0 in
    let o : offset ≡ at + length (padding arch pad) = omega (arith, padding_length_lem arch pad) in
    let a : at ≡ from + length bytes = f ∙ sym (length_pool_bytes arch from constants asked j) in
    rw (o, over_append now at (padding arch pad) zeros, e, a, over_append output from bytes (padding arch pad ++ zeros), add-one j, g, i)

-- the same of the parts that were lent
pub emit_turn : (output : List ℕ) (arch : ℕ) {from : ℕ} {constants asked : List ℕ} {j at size multiple pad : ℕ} {now first second : List ℕ}
    → Turn from constants asked j at size multiple pad → now ≡ over output from (pool_bytes arch from constants asked j) → at + pad + size ≤ length now
    → let a = at + pad in let k = a - at in let m = a + size - a in first ≡ padding arch (length (take k (drop at now)))
    → let padded = take at now ++ (first ++ drop k (drop at now)) in second ≡ replicate (length (take m (drop a padded))) 0
    → take a padded ++ (second ++ drop m (drop a padded)) ≡ over output from (pool_bytes arch from constants asked (j + 1))
emit_turn output arch {from} {constants} {asked} {j} {at} {size} {pad = pad} {now} {first} {second} t e h fe se =
    let a = at + pad in
    let k = a - at in
    let m = a + size - a in
    let padded = take at now ++ (first ++ drop k (drop at now)) in
    let one : padded ≡ over now at (padding arch pad) = over_pad now first at k pad arch (omega arith) (omega arith) fe in
    let room : a + m ≤ length padded = rw (one, length_over now at (padding arch pad)) (omega arith) in
    over_cleared padded second a m size (omega arith) room se
    ∙ rw one (bytes_turn output arch from constants asked j at now e t.starts pad a size (pad_turn t) refl t.sized)

-- A turn of the loop that writes the constants' bytes: what the program has of constant j, which is `number` in the table of constants.
pub record Writing (labels constants asked : List ℕ) (j size label offset number : ℕ) : Type 0 where
  pub sized : size ≡ size_at constants asked j
  pub labelled : label ≡ label_at constants asked j
  pub placed : offset ≡ word_at labels label
  pub numbered : number ≡ word_at asked j

module _ {labels constants asked : List ℕ} {j size label offset number : ℕ} (t : Writing labels constants asked j size label offset number) where
  -- the constant's bytes lie in the output
  pub room_turn : {output : List ℕ} {n : ℕ} → PoolRoom output labels constants asked n → j < n → offset + size ≤ length output
  room_turn room h = rw (t.placed, t.labelled, t.sized) (room.within j h)

  pub from_turn : {n : ℕ} → PoolFits constants asked n → j < n → number * constant_size + constant_head + size ≤ length constants
  from_turn fits h = omega (arith, t.numbered, t.sized, fits.listed j h, fits.sized j h)

  pub written_turn : (output : List ℕ) {now part : List ℕ} → now ≡ pool_written output labels constants asked j
      → number * constant_size + constant_head + size ≤ length constants → offset + size ≤ length now
      → let a = number * constant_size + constant_head in let k = a + size - a in let m = offset + size - offset in part ≡ over (take m (drop offset now)) 0 (take k (drop a constants))
      → take offset now ++ (part ++ drop m (drop offset now)) ≡ pool_written output labels constants asked (j + 1)
  unfolding pool_written
  written_turn output {now} {part} e ha hb f =
      let a = number * constant_size + constant_head in
      let k : a + size - a ≡ size = omega arith in
      let m : offset + size - offset ≡ size = omega arith in
      let bytes = take size (drop a constants) in
      let whole : part ≡ bytes =
      (rw (k, m) at f) ∙ over_all (take size (drop offset now)) bytes (part_length constants a size ha ∙ sym (part_length now offset size hb)) in
      rw (m, whole) (over_mid now offset size bytes (part_length constants a size ha) hb ∙ rw (t.placed, t.numbered, t.sized, t.labelled, e, add-one j))

-- the length stays
pub length_pool_written : (output labels constants asked : List ℕ) (n : ℕ) → length (pool_written output labels constants asked n) ≡ length output
unfolding pool_written
length_pool_written output labels constants asked zero = refl
length_pool_written output labels constants asked (suc n) =
    length_over (pool_written output labels constants asked n) (word_at labels (label_at constants asked n)) (bytes_at constants asked n)
    ∙ length_pool_written output labels constants asked n

-- words: two writes of one word, of two words, and of the word that is there
over_again : (xs : List ℕ) (at : ℕ) (ys zs : List ℕ) → length ys ≡ length zs → over (over xs at ys) at zs ≡ over xs at zs
unfolding over
over_again [] at ys zs h = refl
over_again (x ∷ xs) zero [] zs h = refl
over_again (x ∷ xs) zero (y ∷ ys) [] h = let z : ⊥ = omega arith in absurd z
over_again (x ∷ xs) zero (y ∷ ys) (z ∷ zs) h = ap (λ (l : List ℕ). z ∷ l) (over_again xs zero ys zs (omega arith))
over_again (x ∷ xs) (suc at) ys zs h = ap (λ (l : List ℕ). x ∷ l) (over_again xs at ys zs h)

over_commute : (xs : List ℕ) (a : ℕ) (ys : List ℕ) (b : ℕ) (zs : List ℕ) → a + length ys ≤ b → over (over xs a ys) b zs ≡ over (over xs b zs) a ys
unfolding over
over_commute [] a ys b zs h = refl
over_commute (x ∷ xs) zero [] zero [] h = refl
over_commute (x ∷ xs) zero [] zero (z ∷ zs) h = refl
over_commute (x ∷ xs) zero [] (suc b) zs h = refl
over_commute (x ∷ xs) zero (y ∷ ys) zero zs h = let z : ⊥ = omega arith in absurd z
over_commute (x ∷ xs) zero (y ∷ ys) (suc b) zs h = ap (λ (l : List ℕ). y ∷ l) (over_commute xs zero ys b zs (omega arith))
over_commute (x ∷ xs) (suc a) ys zero zs h = let z : ⊥ = omega arith in absurd z
over_commute (x ∷ xs) (suc a) ys (suc b) zs h = ap (λ (l : List ℕ). x ∷ l) (over_commute xs a ys b zs (omega arith))

over_held : (xs : List ℕ) (at : ℕ) (ys : List ℕ) → ((i : ℕ) → i < length ys → get_or ys i 0 ≡ get_or xs (at + i) 0) → over xs at ys ≡ xs
unfolding over
over_held [] at ys h = refl
over_held (x ∷ xs) zero [] h = refl
over_held (x ∷ xs) zero (y ∷ ys) h =
    let first : y ≡ x = h 0 (omega arith) in
    rw first (ap (λ (l : List ℕ). x ∷ l) (over_held xs zero ys (λ i l. let e : 0 + suc i ≡ suc (0 + i) = omega arith in (rw e at (h (suc i) (omega arith))))))
over_held (x ∷ xs) (suc at) ys h = ap (λ (l : List ℕ). x ∷ l) (over_held xs at ys (λ i l. let e : suc at + i ≡ suc (at + i) = omega arith in (rw e at (h i l))))

pub set_word_again : (bytes : List ℕ) (k v w : ℕ) → set_word (set_word bytes k v) k w ≡ set_word bytes k w
unfolding set_word
set_word_again bytes k v w = over_again bytes (k * 4) (bytes_of v) (bytes_of w) refl

pub set_word_commute : (bytes : List ℕ) (k v j w : ℕ) → k ≢ j → set_word (set_word bytes k v) j w ≡ set_word (set_word bytes j w) k v
unfolding set_word
set_word_commute bytes k v j w h =
    ⊎_elim
    (λ lt. over_commute bytes (k * 4) (bytes_of v) (j * 4) (bytes_of w) (omega arith))
    (λ ge. sym (over_commute bytes (j * 4) (bytes_of w) (k * 4) (bytes_of v) (omega arith)))
    (lt_or_ge k j)

-- the four bytes of a word
four : (bytes : List ℕ) (k i : ℕ) → i < 4 → ((n : ℕ) → get_or bytes n 0 < 256) → get_or (bytes_of (word_at bytes k)) i 0 ≡ get_or bytes (k * 4 + i) 0
unfolding word_at
four bytes k zero h small =
    let z : k * 4 + 0 ≡ k * 4 = omega arith in
    rw z (omega (arith, small (k * 4), small (k * 4 + 1), small (k * 4 + 2), small (k * 4 + 3)))
four bytes k (suc zero) h small = omega (arith, small (k * 4), small (k * 4 + 1), small (k * 4 + 2), small (k * 4 + 3))
four bytes k (suc (suc zero)) h small = omega (arith, small (k * 4), small (k * 4 + 1), small (k * 4 + 2), small (k * 4 + 3))
four bytes k (suc (suc (suc zero))) h small = omega (arith, small (k * 4), small (k * 4 + 1), small (k * 4 + 2), small (k * 4 + 3))
four bytes k (suc (suc (suc (suc i)))) h small = let z : ⊥ = omega arith in absurd z

-- a word written over itself
pub set_word_same : (bytes : List ℕ) (k : ℕ) → ((n : ℕ) → get_or bytes n 0 < 256) → set_word bytes k (word_at bytes k) ≡ bytes
unfolding set_word
set_word_same bytes k small = over_held bytes (k * 4) (bytes_of (word_at bytes k)) (λ i l. four bytes k i l small)

-- binding
pub length_pool_bound : (from : ℕ) (labels constants asked : List ℕ) (n : ℕ) → length (pool_bound from labels constants asked n) ≡ length labels
unfolding pool_bound
length_pool_bound from labels constants asked zero = refl
length_pool_bound from labels constants asked (suc n) =
    length_set_word (pool_bound from labels constants asked n) (label_at constants asked n) (pool_offset from constants asked n)
    ∙ length_pool_bound from labels constants asked n

-- a label that is none of the constants' stays
pub pool_bound_other : (from : ℕ) (labels constants asked : List ℕ) (n label : ℕ) → ((j : ℕ) → j < n → label ≢ label_at constants asked j)
    → word_at (pool_bound from labels constants asked n) label ≡ word_at labels label
unfolding pool_bound
pool_bound_other from labels constants asked zero label h = refl
pool_bound_other from labels constants asked (suc n) label h =
    word_at_other (pool_bound from labels constants asked n) (label_at constants asked n) (pool_offset from constants asked n) label (h n (omega arith))
    ∙ pool_bound_other from labels constants asked n label (λ j l. h j (omega arith))

-- no label is that of two constants
pub record Distinct (constants asked : List ℕ) (n : ℕ) : Type 0 where
  pub apart : (i j : ℕ) → i < j → j < n → label_at constants asked i ≢ label_at constants asked j

fewer : (constants asked : List ℕ) (n : ℕ) → Distinct constants asked (suc n) → Distinct constants asked n
fewer constants asked n d = record { apart = λ i j h k. d.apart i j h (omega arith) }

-- a constant's label is where the constant stands
pub pool_bound_at : (from : ℕ) (labels constants asked : List ℕ) (n : ℕ) → Distinct constants asked n
    → ((j : ℕ) → j < n → label_at constants asked j * label_size + label_size ≤ length labels) → ((j : ℕ) → j < n → pool_offset from constants asked j < 4294967296)
    → (j : ℕ) → j < n → word_at (pool_bound from labels constants asked n) (label_at constants asked j) ≡ pool_offset from constants asked j
unfolding pool_bound
pool_bound_at from labels constants asked zero d known small j h = absurd (not-suc-le-zero h)
pool_bound_at from labels constants asked (suc n) d known small j h =
    let bound = pool_bound from labels constants asked n in
    ⊎_elim
    (λ (same : j ≡ n).
    rw same
    (word_at_same bound (label_at constants asked n) (pool_offset from constants asked n)
    (omega (arith, known n (omega arith), length_pool_bound from labels constants asked n))
    (small n (omega arith))))
    (λ other.
    word_at_other bound (label_at constants asked n) (pool_offset from constants asked n) (label_at constants asked j) (d.apart j n (omega arith) (omega arith))
    ∙ pool_bound_at from labels constants asked n (fewer constants asked n d) (λ i l. known i (omega arith)) (λ i l. small i (omega arith)) j (omega arith))
    (eq_or_ne j n)

-- unbinding leaves any other word that was written
unbound_past : (labels constants asked : List ℕ) (n label v : ℕ) → ((j : ℕ) → j < n → label ≢ label_at constants asked j)
    → pool_unbound (set_word labels label v) constants asked n ≡ set_word (pool_unbound labels constants asked n) label v
unfolding pool_unbound
unbound_past labels constants asked zero label v h = refl
unbound_past labels constants asked (suc n) label v h =
    rw (unbound_past labels constants asked n label v (λ j l. h j (omega arith)))
    (set_word_commute (pool_unbound labels constants asked n) label v (label_at constants asked n) none (h n (omega arith)))

-- what binds the labels of constants, all of them unbound, is taken back by unbinding them
pub pool_unbound_pool_bound : (from : ℕ) (labels constants asked : List ℕ) (n : ℕ) → Distinct constants asked n → ((i : ℕ) → get_or labels i 0 < 256)
    → ((j : ℕ) → j < n → word_at labels (label_at constants asked j) ≡ none)
    → pool_unbound (pool_bound from labels constants asked n) constants asked n ≡ labels
unfolding pool_unbound pool_bound
pool_unbound_pool_bound from labels constants asked zero d small unbound = refl
pool_unbound_pool_bound from labels constants asked (suc n) d small unbound =
    let label = label_at constants asked n in
    let offset = pool_offset from constants asked n in
    ap
    (λ (l : List ℕ). set_word l label none)
    (unbound_past (pool_bound from labels constants asked n) constants asked n label offset (λ j l e. d.apart j n l (omega arith) (sym e))
    ∙ ap (λ (l : List ℕ). set_word l label offset) (pool_unbound_pool_bound from labels constants asked n (fewer constants asked n d) small (λ j l. unbound j (omega arith))))
    ∙ set_word_again labels label offset none
    ∙ ap (λ (v : ℕ). set_word labels label v) (sym (unbound n (omega arith)))
    ∙ set_word_same labels label small
