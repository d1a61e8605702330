-- The whole as it is written: words that follow words, and what stands after each piece.
use Rattle.std.proofs.Common.{◌≡◌, ℕ, zero, suc, ◌+◌, ◌-◌, ◌*◌, ◌/◌, ◌%◌, ◌<◌, ◌≤◌, Bool, true, false, not, List, [], ◌∷◌, ◌++◌, length, take, drop, replicate, sym, refl, ap, ◌∙◌, add-one, arith, length-append, length-drop, length-take-le}
use lib.ListN.{length-replicate}
use Rattle.seqs.specs.Counting.{one}
use Rattle.seqs.specs.Over.{over}
use Rattle.seqs.specs.Pick.{pick}
use Rattle.seqs.proofs.Counting.{none_counted, one_counted, how_many_le}
use Rattle.seqs.proofs.Picking.{pick_either, pick_yes, pick_no}
use Rattle.seqs.proofs.Overwrites.{length_over, over_nil, over_append, over_mid, over_all, part_over}
use Rattle.words.specs.Words.{word_at, set_word, bytes_of, bytes_of_all, over_words}
use Rattle.words.proofs.Entries.{words_over, six_words}
use Rattle.buffer.specs.Tables.{label_size, reloc_size, reloc_words}
use Rattle.recording.specs.View.{entries}
use Rattle.recording.proofs.Views.{length_entries}
use Rattle.join.specs.declared.Piece.{Piece}
use Rattle.join.specs.declared.Cursor.{Cursor}
use Rattle.join.specs.declared.AsmReloc.{AsmReloc}
use Rattle.join.specs.Pieces.{piece_at, gap, base_of, cursor_at}
use Rattle.join.specs.Join.{
  is_filled,
  piece_reloc,
  moved_target,
  moved_reloc,
  moved_label,
  moved_labels,
  labels_joined,
  remaining_words,
  remaining_in,
  remaining,
  count_remaining_in,
  count_remaining,
  field_filled,
  filled_with,
  piece_code,
  filled_code,
  image,
}
use Rattle.join.specs.steps.Within.{CodeIn}
use Rattle.join.proofs.Lists.{words_follow, over_again, how_many_grows}

-- Labels of a piece: one word more.
pub one_label_more : (t : List ℕ) (a : ℕ) (f : ℕ → ℕ) (j : ℕ)
    → set_word (over t (a * label_size) (bytes_of_all (entries f j))) (a + j) (f j) ≡ over t (a * label_size) (bytes_of_all (entries f (j + 1)))
one_label_more t a f j =
    let at : a + j ≡ a + length (entries f j) = omega (arith, length_entries f j) in
    rw (add-one j)
    (words_over (over t (a * 4) (bytes_of_all (entries f j))) (a + j) (f j ∷ [])
    ∙ ap (λ (n : ℕ). over (over t (a * 4) (bytes_of_all (entries f j))) (n * 4) (bytes_of_all (f j ∷ []))) at
    ∙ words_follow t a (entries f j) (f j ∷ []))

-- the labels of one piece more
pub length_labels : (pieces labels : List ℕ) (k : ℕ) → length (labels_joined pieces labels k) ≡ (cursor_at pieces k).labels
unfolding labels_joined cursor_at
length_labels pieces labels zero = refl
length_labels pieces labels (suc k) =
    let p = piece_at pieces k in
    let c = cursor_at pieces k in
    let f : ℕ → ℕ = λ j. moved_label (base_of p c) (word_at labels (c.labels + j)) in
    length-append (labels_joined pieces labels k) (entries f p.labels) ∙ omega (arith, length_labels pieces labels k, length_entries f p.labels)

pub labels_more : (t pieces labels : List ℕ) (k : ℕ)
    → over (over_words t (labels_joined pieces labels k)) ((cursor_at pieces k).labels * label_size)
    (bytes_of_all (moved_labels labels (piece_at pieces k) (cursor_at pieces k) (piece_at pieces k).labels))
    ≡ over_words t (labels_joined pieces labels (k + 1))
unfolding labels_joined
labels_more t pieces labels k =
    let ws = moved_labels labels (piece_at pieces k) (cursor_at pieces k) (piece_at pieces k).labels in
    let to : (cursor_at pieces k).labels * label_size ≡ (0 + length (labels_joined pieces labels k)) * 4 = omega (arith, length_labels pieces labels k) in
    rw (add-one k, to) (words_follow t 0 (labels_joined pieces labels k) ws)

-- Relocations: six words each, none of one that is filled.
length_either : (filled : Bool) (ws : List ℕ) → length ws ≡ reloc_words → length (pick filled [] ws) ≡ one (not filled) * reloc_words
unfolding pick
length_either true ws six = refl
length_either false ws six = omega (arith, six)

length_words : (p : Piece) (c : Cursor) (r : AsmReloc) → length (remaining_words p c r) ≡ one (not (is_filled p.arch r)) * reloc_words
length_words p c r = length_either (is_filled p.arch r) (moved_reloc p c r) refl

pub length_remaining_in : (relocs : List ℕ) (p : Piece) (c : Cursor) (m : ℕ)
    → length (remaining_in relocs p c m) ≡ count_remaining_in relocs p c m * reloc_words
unfolding remaining_in count_remaining_in
length_remaining_in relocs p c zero = rw (none_counted (λ (j : ℕ). not (is_filled p.arch (piece_reloc relocs c j))))
length_remaining_in relocs p c (suc m) =
    let counted = one_counted (λ (j : ℕ). not (is_filled p.arch (piece_reloc relocs c j))) m in
    length-append (remaining_in relocs p c m) _
    ∙ omega (arith, length_remaining_in relocs p c m, length_words p c (piece_reloc relocs c m), rw (add-one m) at counted)

pub count_grows : (relocs : List ℕ) (p : Piece) (c : Cursor) (j m : ℕ) → j ≤ m → count_remaining_in relocs p c j ≤ count_remaining_in relocs p c m
unfolding count_remaining_in
count_grows relocs p c j m within = how_many_grows (λ (i : ℕ). not (is_filled p.arch (piece_reloc relocs c i))) j m within

pub count_le : (relocs : List ℕ) (p : Piece) (c : Cursor) (m : ℕ) → count_remaining_in relocs p c m ≤ m
unfolding count_remaining_in
count_le relocs p c m = how_many_le (λ (i : ℕ). not (is_filled p.arch (piece_reloc relocs c i))) m

pub length_remaining : (pieces relocs : List ℕ) (k : ℕ) → length (remaining pieces relocs k) ≡ count_remaining pieces relocs k * reloc_words
unfolding remaining count_remaining
length_remaining pieces relocs zero = refl
length_remaining pieces relocs (suc k) =
    length-append (remaining pieces relocs k) _
    ∙ omega (arith, length_remaining pieces relocs k, length_remaining_in relocs (piece_at pieces k) (cursor_at pieces k) (piece_at pieces k).relocs)

-- one relocation more of a piece, and those of one piece more
pub one_reloc_more : (t relocs : List ℕ) (p : Piece) (c : Cursor) (at j : ℕ)
    → over (over t (at * reloc_size) (bytes_of_all (remaining_in relocs p c j))) ((at + count_remaining_in relocs p c j) * reloc_size)
    (bytes_of_all (remaining_words p c (piece_reloc relocs c j)))
    ≡ over t (at * reloc_size) (bytes_of_all (remaining_in relocs p c (j + 1)))
unfolding remaining_in
one_reloc_more t relocs p c at j =
    let ws = remaining_words p c (piece_reloc relocs c j) in
    let from : at * reloc_size ≡ at * reloc_words * 4 = omega arith in
    let to : (at + count_remaining_in relocs p c j) * reloc_size ≡ (at * reloc_words + length (remaining_in relocs p c j)) * 4 =
    omega (arith, length_remaining_in relocs p c j) in
    rw (add-one j, from, to) (words_follow t (at * reloc_words) (remaining_in relocs p c j) ws)

pub relocs_more : (t pieces relocs : List ℕ) (k : ℕ)
    → over (over_words t (remaining pieces relocs k)) (count_remaining pieces relocs k * reloc_size)
    (bytes_of_all (remaining_in relocs (piece_at pieces k) (cursor_at pieces k) (piece_at pieces k).relocs))
    ≡ over_words t (remaining pieces relocs (k + 1))
unfolding remaining
relocs_more t pieces relocs k =
    let ws = remaining_in relocs (piece_at pieces k) (cursor_at pieces k) (piece_at pieces k).relocs in
    let to : count_remaining pieces relocs k * reloc_size ≡ (0 + length (remaining pieces relocs k)) * 4 = omega (arith, length_remaining pieces relocs k) in
    rw (add-one k, to) (words_follow t 0 (remaining pieces relocs k) ws)

-- nothing is written of a relocation that is filled, and six words of one that remains
pub filled_left : (t : List ℕ) (i : ℕ) (p : Piece) (c : Cursor) (r : AsmReloc) → is_filled p.arch r ≡ true
    → t ≡ over t (i * reloc_size) (bytes_of_all (remaining_words p c r))
filled_left t i p c r filled =
    sym (ap (λ (ws : List ℕ). over t (i * reloc_size) (bytes_of_all ws)) (pick_yes (is_filled p.arch r) [] (moved_reloc p c r) filled) ∙ over_nil t (i * reloc_size))

pub remaining_put : (t : List ℕ) (i : ℕ) (p : Piece) (c : Cursor) (r : AsmReloc) → is_filled p.arch r ≡ false → (base target : ℕ) → base ≡ base_of p c
    → target ≡ moved_target c r.target
    → set_word
    (set_word
    (set_word (set_word (set_word (set_word t (i * reloc_words) (base + r.offset)) (i * reloc_words + 1) r.kind) (i * reloc_words + 2) target) (i * reloc_words + 3) 0)
    (i * reloc_words + 4)
    (r.addend % 4294967296))
    (i * reloc_words + 5)
    (r.addend / 4294967296)
    ≡ over t (i * reloc_size) (bytes_of_all (remaining_words p c r))
remaining_put t i p c r remains base target placed moved =
    let at : i * reloc_words * 4 ≡ i * reloc_size = omega arith in
    let words = (base + r.offset) ∷ r.kind ∷ target ∷ 0 ∷ r.addend % 4294967296 ∷ r.addend / 4294967296 ∷ [] in
    let same : words ≡ moved_reloc p c r = rw (placed, moved) in
    six_words t (i * reloc_words) _ _ _ _ _ _
    ∙ words_over t (i * reloc_words) words
    ∙ ap (λ (k : ℕ). over t k (bytes_of_all words)) at
    ∙ ap (λ (ws : List ℕ). over t (i * reloc_size) (bytes_of_all ws)) (same ∙ sym (pick_no (is_filled p.arch r) [] (moved_reloc p c r) remains))

-- Code: a field that is filled leaves the length.
length_field : (known : ℕ → ℕ) (p : Piece) (c : Cursor) (r : AsmReloc) (code : List ℕ) → length (field_filled known p c r code) ≡ length code
length_field known p c r code =
    pick_either (λ (l : List ℕ). length l ≡ length code) (is_filled p.arch r) _ code (length_over code r.offset _) refl

pub length_filled : (known : ℕ → ℕ) (relocs : List ℕ) (p : Piece) (c : Cursor) (code : List ℕ) (m : ℕ)
    → length (filled_with known relocs p c code m) ≡ length code
unfolding filled_with
length_filled known relocs p c code zero = refl
length_filled known relocs p c code (suc m) =
    length_field known p c (piece_reloc relocs c m) (filled_with known relocs p c code m) ∙ length_filled known relocs p c code m

pub length_code : (code : List ℕ) (p : Piece) (c : Cursor) → CodeIn code p c → length (piece_code code p c) ≡ p.len
length_code code p c within = length-take-le p.len (drop c.code code) (omega (arith, length-drop c.code code))

-- a field's word, written in the part of the code that it has
pub field_put : (xs part : List ℕ) (offset v : ℕ) → offset + 4 ≤ length xs → part ≡ set_word (take (offset + 4 - offset) (drop offset xs)) 0 v
    → take offset xs ++ (part ++ drop (offset + 4 - offset) (drop offset xs)) ≡ over xs offset (bytes_of v)
unfolding set_word
field_put xs part offset v room e =
    let size : length (take (offset + 4 - offset) (drop offset xs)) ≡ 4 =
    length-take-le (offset + 4 - offset) (drop offset xs) (rw (length-drop offset xs) (omega arith)) ∙ omega arith in
    let whole : part ≡ bytes_of v = e ∙ over_all (take (offset + 4 - offset) (drop offset xs)) (bytes_of v) (sym size) in
    rw whole (over_mid xs offset (offset + 4 - offset) (bytes_of v) (omega arith) (omega arith))

module _ (xs code : List ℕ) (p : Piece) (c : Cursor) (base : ℕ) (placed : base ≡ base_of p c) (within : CodeIn code p c) (room : base + p.len ≤ length xs) where
  -- a piece's code behind its zeros
  pub code_put : (zeros : List ℕ) → zeros ≡ replicate (length (take (base - c.end) (drop c.end xs))) 0
      → over (take c.end xs ++ (zeros ++ drop (base - c.end) (drop c.end xs))) base (take (c.code + p.len - c.code) (drop c.code code))
      ≡ over xs c.end (replicate (gap p c) 0 ++ piece_code code p c)
  code_put zeros e =
      let size : length (take (base - c.end) (drop c.end xs)) ≡ gap p c =
      length-take-le (base - c.end) (drop c.end xs) (rw (length-drop c.end xs) (omega (arith, placed))) ∙ omega (arith, placed) in
      let gaps : zeros ≡ replicate (gap p c) 0 = e ∙ ap (λ (n : ℕ). replicate n 0) size in
      let wide = length-replicate {A = ℕ} (gap p c) 0 in
      let cleared = over_mid xs c.end (base - c.end) (replicate (gap p c) 0) (wide ∙ omega (arith, placed)) (omega (arith, placed)) in
      let long : c.code + p.len - c.code ≡ p.len = omega arith in
      let at : base ≡ c.end + length {A = ℕ} (replicate (gap p c) 0) = omega (arith, placed, wide) in
      rw (gaps, cleared, long)
      (ap (λ (n : ℕ). over (over xs c.end (replicate (gap p c) 0)) n (piece_code code p c)) at ∙ over_append xs c.end (replicate (gap p c) 0) (piece_code code p c))

  -- and with its fields filled
  module _ (out : List ℕ) (written : out ≡ over xs c.end (replicate (gap p c) 0 ++ piece_code code p c)) where
    behind : out ≡ over (over xs c.end (replicate (gap p c) 0)) base (piece_code code p c)
    behind =
        let at : base ≡ c.end + length {A = ℕ} (replicate (gap p c) 0) = omega (arith, placed, length-replicate {A = ℕ} (gap p c) 0) in
        written
        ∙ sym (over_append xs c.end (replicate (gap p c) 0) (piece_code code p c))
        ∙ ap (λ (n : ℕ). over (over xs c.end (replicate (gap p c) 0)) n (piece_code code p c)) (sym at)

    length_out : length out ≡ length xs
    length_out = ap length written ∙ length_over xs c.end (replicate (gap p c) 0 ++ piece_code code p c)

    pub filled_put : (known : ℕ → ℕ) (relocs part : List ℕ) → part ≡ filled_with known relocs p c (take (base + p.len - base) (drop base out)) p.relocs
        → take base out ++ (part ++ drop (base + p.len - base) (drop base out)) ≡ over xs c.end (replicate (gap p c) 0 ++ filled_code known relocs code p c)
    filled_put known relocs part e =
        let zeros = replicate {A = ℕ} (gap p c) 0 in
        let cleared = over xs c.end zeros in
        let long : base + p.len - base ≡ length (piece_code code p c) = omega (arith, length_code code p c within) in
        let fits : base + length (piece_code code p c) ≤ length cleared = omega (arith, length_code code p c within, length_over xs c.end zeros) in
        let held : take (base + p.len - base) (drop base out) ≡ piece_code code p c = rw (long, behind) (part_over cleared base (piece_code code p c) fits) in
        let filled : part ≡ filled_code known relocs code p c = e ∙ ap (λ (l : List ℕ). filled_with known relocs p c l p.relocs) held in
        let same : length (piece_code code p c) ≡ length (filled_code known relocs code p c) = sym (length_filled known relocs p c (piece_code code p c) p.relocs) in
        let at : base ≡ c.end + length zeros = omega (arith, placed, length-replicate {A = ℕ} (gap p c) 0) in
        ap (λ (l : List ℕ). take base out ++ (l ++ drop (base + p.len - base) (drop base out))) filled
        ∙ over_mid out base (base + p.len - base) (filled_code known relocs code p c) (sym same ∙ sym long) (omega (arith, length_out))
        ∙ ap (λ (l : List ℕ). over l base (filled_code known relocs code p c)) behind
        ∙ over_again cleared base (piece_code code p c) (filled_code known relocs code p c) same
        ∙ ap (λ (n : ℕ). over cleared n (filled_code known relocs code p c)) at
        ∙ over_append xs c.end zeros (filled_code known relocs code p c)

    pub length_part : length (take (base + p.len - base) (drop base out)) ≡ p.len
    length_part = length-take-le (base + p.len - base) (drop base out) (rw (length-drop base out) (omega (arith, length_out))) ∙ omega arith

-- the code of one piece more
module _ (known : ℕ → ℕ) (pieces relocs code : List ℕ) where
  pub length_image : (n : ℕ) → ((k : ℕ) → k < n → CodeIn code (piece_at pieces k) (cursor_at pieces k))
      → length (image known pieces relocs code n) ≡ (cursor_at pieces n).end
  unfolding image cursor_at
  length_image zero within = refl
  length_image (suc k) within =
      let p = piece_at pieces k in
      let c = cursor_at pieces k in
      let filled = length_filled known relocs p c (piece_code code p c) p.relocs ∙ length_code code p c (within k (omega arith)) in
      length-append (image known pieces relocs code k) _
      ∙ omega (
        arith,
        length_image k (λ i h. within i (omega arith)),
        length-append (replicate (gap p c) 0) (filled_code known relocs code p c),
        length-replicate {A = ℕ} (gap p c) 0,
        filled,
      )

  pub image_more : (t : List ℕ) (k : ℕ) → ((i : ℕ) → i < k → CodeIn code (piece_at pieces i) (cursor_at pieces i))
      → over (over t 0 (image known pieces relocs code k)) (cursor_at pieces k).end
      (replicate (gap (piece_at pieces k) (cursor_at pieces k)) 0 ++ filled_code known relocs code (piece_at pieces k) (cursor_at pieces k))
      ≡ over t 0 (image known pieces relocs code (k + 1))
  unfolding image
  image_more t k within =
      let piece = replicate (gap (piece_at pieces k) (cursor_at pieces k)) 0 ++ filled_code known relocs code (piece_at pieces k) (cursor_at pieces k) in
      let to : (cursor_at pieces k).end ≡ 0 + length (image known pieces relocs code k) = omega (arith, length_image k within) in
      rw (add-one k)
      (ap (λ (n : ℕ). over (over t 0 (image known pieces relocs code k)) n piece) to ∙ over_append t 0 (image known pieces relocs code k) piece)
