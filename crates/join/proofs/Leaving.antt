-- What an accepted join leaves is the whole that document 02, Request Six asks for.
use Rattle.std.proofs.Common.{◌≡◌, ℕ, zero, suc, ◌+◌, ◌-◌, ◌*◌, ◌/◌, ◌%◌, ◌<◌, ◌≤◌, Bool, true, false, not, ◌&&◌, eqb, ltb, leb, ◌≢◌, List, [], ◌∷◌, ◌++◌, length, get_or, sym, refl, ap, ◌∙◌, ⊎_elim, not-suc-le-zero, add-one, arith, get_or-append-add, ltb-true, le-ltb, ne_eqb, eqb-true, leb-true}
use lib.ListN.{get_or-append}
use borrow.Author.Tests.{eqb-false, not-true}
use Rattle.seqs.specs.Pick.{pick, first_of}
use Rattle.seqs.proofs.Booleans.{both_true}
use Rattle.seqs.proofs.Counting.{one_counted}
use Rattle.seqs.proofs.Numbers.{lt_or_ge, eq_or_ne}
use Rattle.seqs.proofs.Picking.{pick_yes, pick_no, yes_lt, no_lt, yes_eq, no_eq}
use Rattle.words.specs.Words.{word_at, over_words}
use Rattle.words.proofs.Entries.{word_read}
use Rattle.words.proofs.Laws.{word_at_small}
use Rattle.seqs.proofs.Every.{all_at}
use Rattle.seqs.proofs.Overwrites.{length_over}
use Rattle.join.proofs.Cursors.{piece_within}
use Rattle.buffer.specs.State.{none, label_target}
use Rattle.buffer.specs.Tables.{most_entries, most_code, reloc_words}
use Rattle.fields.specs.Words64.{plus}
use Rattle.join.specs.declared.Piece.{Piece}
use Rattle.join.specs.declared.Cursor.{Cursor}
use Rattle.join.specs.Pieces.{Lent, piece_count, piece_at, base_of, cursor_at, piece_within_limits, within_limits}
use Rattle.join.specs.Symbols.{undefined, unbound, first_place, symbol_at, defining_label, place, defined, defined_as, find_in, find}
use Rattle.join.specs.Join.{Test, Known, Moves, Joined, last_place, is_filled, label_moves, moved_target, reloc_of, piece_reloc, remaining_holds, holds, all_hold, value, moved_reloc, remaining_words, remaining_in, remaining, count_remaining_in, count_remaining, image, known_in, why_not_joined, Left, joined, join}
use Rattle.join.specs.Whole.{piece, before, base, reloc, SymbolPlace, place_of, number_of, Whole}
use Rattle.join.proofs.Writing.{length_remaining_in, count_grows, length_remaining}
use Rattle.join.proofs.Fits.{each_holds, reloc_holds}
use Rattle.join.proofs.Accepted.{nothing_refuses, passed, code_left, label_moves_lem, byte_kept, gap_zero, field_means, label_left}

-- The first that is not 0 is one of them.
pub record First (f : ℕ → ℕ) (n : ℕ) : Type 0 where
  pub at : ℕ
  pub below : at < n
  pub is : first_of f n ≡ f at

first_is : (f : ℕ → ℕ) (n : ℕ) → first_of f n ≢ 0 → First f n
unfolding first_of
first_is f zero some = absurd (some refl)
first_is f (suc n) some =
    ⊎_elim
    (λ (none : first_of f n ≡ 0). record { at = n; below = omega arith; is = yes_eq (first_of f n) 0 (f n) (first_of f n) none })
    (λ (more : first_of f n ≢ 0).
    let s = first_is f n more in record { at = s.at; below = omega (arith, s.below); is = no_eq (first_of f n) 0 (f n) (first_of f n) more ∙ s.is })
    (eq_or_ne (first_of f n) 0)

-- a choice that is at least 2 where the other side is below 2
chosen_first : (t : Bool) (x y : ℕ) → y < 2 → 2 ≤ pick t x y → t ≡ true
unfolding pick
chosen_first true x y h e = refl
chosen_first false x y h e = absurd (omega arith)

module _ (l : Lent) (output labels relocs : List ℕ) (accepted : (join l output labels relocs).0.refusal ≡ 0) where
  abbrev n : ℕ
  n = piece_count l.pieces

  abbrev table : List ℕ
  table = (join l output labels relocs).1.1.0

  -- a label that moves is bound in the whole
  moved_bound : (from offset : ℕ) → offset ≢ none → label_moves from offset ≡ true → from + offset ≢ none
  moved_bound from offset bound moves e = omega (arith, leb-true (from + offset) last_place (rw (ne_eqb offset none bound) at moves))

  -- A symbol whose label is known and bound: its place is the offset of that label in the label table of the whole.
  pub record Placed (s : ℕ) : Type 0 where
    pub at : SymbolPlace l table s
    pub is : known_in l s - first_place ≡ place_of at

  pub symbol_place : (s : ℕ) → first_place ≤ known_in l s → Placed s
  unfolding find find_in
  symbol_place s known =
      let in_piece : ℕ → ℕ = λ (i : ℕ). find_in l.labels l.definitions (piece l i) (before l i) (piece l i).definitions s in
      let a = first_is in_piece n (λ z. omega (arith, known, z)) in
      let k = a.at in
      let p = piece l k in
      let c = before l k in
      let says : ℕ → ℕ = defined_as l.labels l.definitions p c s in
      let b = first_is says p.definitions (λ z. omega (arith, known, a.is, z)) in
      let j = b.at in
      let all : known_in l s ≡ says j = a.is ∙ b.is in
      let great : 2 ≤ says j = omega (arith, known, all) in
      let label = defining_label l.definitions c j in
      let offset = word_at l.labels (c.labels + label) in
      let own : eqb (symbol_at l.definitions c j) s ≡ true = chosen_first (eqb (symbol_at l.definitions c j) s) (defined l.labels l.definitions p c j) undefined (omega arith) great in
      let one·says : says j ≡ place l.labels p c label = pick_yes (eqb (symbol_at l.definitions c j) s) (defined l.labels l.definitions p c j) undefined own in
      let test : Bool = ltb label p.labels && not (eqb offset none) in
      let holds : test ≡ true = chosen_first test (base_of p c + offset + first_place) unbound (omega arith) (omega (arith, great, one·says)) in
      let both = both_true (ltb label p.labels) (not (eqb offset none)) holds in
      let within : label < p.labels = ltb-true label p.labels both.0 in
      let bound : offset ≢ none = eqb-false offset none (not-true (eqb offset none) both.1) in
      let value·is : place l.labels p c label ≡ base_of p c + offset + first_place = pick_yes test (base_of p c + offset + first_place) unbound holds in
      let moved : word_at table (c.labels + label) ≡ base_of p c + offset
      = label_left l output labels relocs accepted k a.below label within ∙ no_eq offset none none (base_of p c + offset) bound in
      record {
        at =
            record {
              number = k;
              entry = j;
              known = a.below;
              listed = b.below;
              names = eqb-true (symbol_at l.definitions c j) s own;
              label = within;
              bound = λ z. moved_bound (base_of p c) offset bound (label_moves_lem l output labels relocs accepted k a.below label within) (sym moved ∙ z);
            };
        is = omega (arith, all, one·says, value·is, moved);
      }

  relocs_left : (join l output labels relocs).1.1.1 ≡ over_words relocs (remaining l.pieces l.relocs n)
  unfolding join joined
  relocs_left = ap (λ (a : Joined × Left). a.1.1.1) (yes_eq (why_not_joined l (length output) (length labels) (length relocs)) 0 _ _ (nothing_refuses l output labels relocs accepted))

-- The words of those that remain, in order.
module _ (relocs : List ℕ) (p : Piece) (c : Cursor) where
  one_more : (m : ℕ) → is_filled p.arch (piece_reloc relocs c m) ≡ false → count_remaining_in relocs p c (suc m) ≡ count_remaining_in relocs p c m + 1
  unfolding count_remaining_in pick
  one_more m left = rw (add-one m, left) at (one_counted (λ (j : ℕ). not (is_filled p.arch (piece_reloc relocs c j))) m)

  remains_in : (m j : ℕ) → j < m → is_filled p.arch (piece_reloc relocs c j) ≡ false → (w : ℕ) → w < reloc_words
      → get_or (remaining_in relocs p c m) (count_remaining_in relocs p c j * reloc_words + w) 0 ≡ get_or (moved_reloc p c (piece_reloc relocs c j)) w 0
  unfolding remaining_in
  remains_in zero j within left w six = absurd (not-suc-le-zero within)
  remains_in (suc m) j within left w six =
      let more = remaining_words p c (piece_reloc relocs c m) in
      ⊎_elim
      (λ (earlier : j < m).
      get_or-append (remaining_in relocs p c m) more 0 (count_remaining_in relocs p c j * reloc_words + w)
      (omega (arith, six, length_remaining_in relocs p c m, one_more j left, count_grows relocs p c (suc j) m (omega arith)))
      ∙ remains_in m j earlier left w six)
      (λ (ge : m ≤ j).
      let last : m ≡ j = omega arith in
      let more·j = remaining_words p c (piece_reloc relocs c j) in
      let at : count_remaining_in relocs p c j * reloc_words + w ≡ length (remaining_in relocs p c j) + w = omega (arith, length_remaining_in relocs p c j) in
      rw last
      (ap (λ (x : ℕ). get_or (remaining_in relocs p c j ++ more·j) x 0) at
      ∙ get_or-append-add (remaining_in relocs p c j) more·j w 0
      ∙ ap (λ (ws : List ℕ). get_or ws w 0) (pick_no (is_filled p.arch (piece_reloc relocs c j)) [] (moved_reloc p c (piece_reloc relocs c j)) left)))
      (lt_or_ge j m)

module _ (pieces relocs : List ℕ) where
  abbrev in_piece : ℕ → ℕ → ℕ
  in_piece k j = count_remaining_in relocs (piece_at pieces k) (cursor_at pieces k) j

  piece_counted : (k n : ℕ) → k < n → count_remaining pieces relocs k + in_piece k (piece_at pieces k).relocs ≤ count_remaining pieces relocs n
  unfolding count_remaining
  piece_counted k zero within = absurd (not-suc-le-zero within)
  piece_counted k (suc n) within =
      ⊎_elim
      (λ (earlier : k < n). omega (arith, piece_counted k n earlier))
      (λ (ge : n ≤ k). let last : k ≡ n = omega arith in rw last (omega arith))
      (lt_or_ge k n)

  below : (k n j : ℕ) → k < n → j < (piece_at pieces k).relocs → is_filled (piece_at pieces k).arch (piece_reloc relocs (cursor_at pieces k) j) ≡ false
      → count_remaining pieces relocs k + in_piece k j < count_remaining pieces relocs n
  below k n j within listed left =
      omega (
        arith,
        piece_counted k n within,
        one_more relocs (piece_at pieces k) (cursor_at pieces k) j left,
        count_grows relocs (piece_at pieces k) (cursor_at pieces k) (suc j) (piece_at pieces k).relocs (omega arith),
      )

  remains_at : (n k : ℕ) → k < n → (j : ℕ) → j < (piece_at pieces k).relocs
      → is_filled (piece_at pieces k).arch (piece_reloc relocs (cursor_at pieces k) j) ≡ false → (w : ℕ) → w < reloc_words
      → get_or (remaining pieces relocs n) ((count_remaining pieces relocs k + in_piece k j) * reloc_words + w) 0
      ≡ get_or (moved_reloc (piece_at pieces k) (cursor_at pieces k) (piece_reloc relocs (cursor_at pieces k) j)) w 0
  unfolding remaining
  remains_at zero k within j listed left w six = absurd (not-suc-le-zero within)
  remains_at (suc n) k within j listed left w six =
      let more = remaining_in relocs (piece_at pieces n) (cursor_at pieces n) (piece_at pieces n).relocs in
      ⊎_elim
      (λ (earlier : k < n).
      get_or-append (remaining pieces relocs n) more 0 ((count_remaining pieces relocs k + in_piece k j) * reloc_words + w)
      (omega (arith, six, length_remaining pieces relocs n, below k n j earlier listed left))
      ∙ remains_at n k earlier j listed left w six)
      (λ (ge : n ≤ k).
      let last : n ≡ k = omega arith in
      let more·k = remaining_in relocs (piece_at pieces k) (cursor_at pieces k) (piece_at pieces k).relocs in
      let at : (count_remaining pieces relocs k + in_piece k j) * reloc_words + w ≡ length (remaining pieces relocs k) + (in_piece k j * reloc_words + w)
      = omega (arith, length_remaining pieces relocs k) in
      rw last
      (ap (λ (x : ℕ). get_or (remaining pieces relocs k ++ more·k) x 0) at
      ∙ get_or-append-add (remaining pieces relocs k) more·k (in_piece k j * reloc_words + w) 0
      ∙ remains_in relocs (piece_at pieces k) (cursor_at pieces k) (piece_at pieces k).relocs j listed left w six))
      (lt_or_ge k n)

-- six numbers of 32 bits, and 0 past them
six·words : (a b c d e f : ℕ) → a < 4294967296 → b < 4294967296 → c < 4294967296 → d < 4294967296 → e < 4294967296 → f < 4294967296
    → (w : ℕ) → get_or (a ∷ b ∷ c ∷ d ∷ e ∷ f ∷ []) w 0 < 4294967296
six·words a b c d e f ha hb hc hd he hf zero = ha
six·words a b c d e f ha hb hc hd he hf (suc zero) = hb
six·words a b c d e f ha hb hc hd he hf (suc (suc zero)) = hc
six·words a b c d e f ha hb hc hd he hf (suc (suc (suc zero))) = hd
six·words a b c d e f ha hb hc hd he hf (suc (suc (suc (suc zero)))) = he
six·words a b c d e f ha hb hc hd he hf (suc (suc (suc (suc (suc zero))))) = hf
six·words a b c d e f ha hb hc hd he hf (suc (suc (suc (suc (suc (suc w)))))) = omega arith

module _ (l : Lent) (output labels relocs : List ℕ) (accepted : (join l output labels relocs).0.refusal ≡ 0) where
  remains_holds : (test : Test) → all_hold test (known_in l) l.pieces l.relocs (piece_count l.pieces) ≡ true → (k : ℕ) → k < piece_count l.pieces → (j : ℕ)
      → j < (piece l k).relocs → is_filled (piece l k).arch (reloc l k j) ≡ false → remaining_holds test (piece l k) (before l k) (reloc l k j) ≡ true
  unfolding holds
  remains_holds test hold k within j listed left =
      sym (pick_no (is_filled (piece l k).arch (reloc l k j)) _ _ left)
      ∙ reloc_holds test (known_in l) l.relocs (piece l k) (before l k) (each_holds test (known_in l) l.pieces l.relocs (piece_count l.pieces) hold k within) j listed

  few_labels : (k : ℕ) → k < piece_count l.pieces → (piece l k).labels ≤ 65536
  unfolding within_limits
  few_labels k within =
      let q = all_at (λ (i : ℕ). piece_within_limits (piece_at l.pieces i)) (piece_count l.pieces) k (passed l output labels relocs accepted).0.limits within in
      let p = piece l k in
      let rest : Bool = leb p.relocs most_entries && leb p.definitions most_entries in
      leb-true p.labels most_entries (both_true (leb p.labels most_entries) rest (both_true (leb p.len most_code) (leb p.labels most_entries && rest) q).1).0

  all_labels_few : (k : ℕ) → k ≤ piece_count l.pieces → (before l k).labels ≤ k * 65536
  unfolding cursor_at
  all_labels_few zero within = omega arith
  all_labels_few (suc k) within = omega (arith, all_labels_few k (omega arith), few_labels k within)

  -- its words have 32 bits
  words_small : ((i : ℕ) → get_or l.relocs i 0 < 256) → (k : ℕ) → k < piece_count l.pieces → (j : ℕ) → j < (piece l k).relocs
      → is_filled (piece l k).arch (reloc l k j) ≡ false → (w : ℕ) → w < reloc_words → get_or (moved_reloc (piece l k) (before l k) (reloc l k j)) w 0 < 4294967296
  unfolding reloc_of
  words_small bytes k within j listed left w six =
      let r = reloc l k j in
      let c = before l k in
      let i = (c.relocs + j) * reloc_words in
      let word : (x : ℕ) → word_at l.relocs x < 4294967296 = λ x. word_at_small l.relocs x bytes in
      let place : base l k + r.offset ≤ last_place = leb-true _ _ (remains_holds Moves (passed l output labels relocs accepted).1.relocs_move k within j listed left) in
      let target : moved_target c r.target < 4294967296 =
      ⊎_elim
      (λ (symbol : r.target < label_target). rw (yes_lt r.target label_target r.target (r.target + c.labels) symbol) (omega arith))
      (λ (names : label_target ≤ r.target).
      let known = remains_holds Known (passed l output labels relocs accepted).0.known k within j listed left in
      let own : r.target - label_target < (piece l k).labels = ltb-true _ _ (rw (le-ltb r.target label_target names) at known) in
      rw (no_lt r.target label_target r.target (r.target + c.labels) names)
      (omega (arith, own, names, few_labels k within, all_labels_few k (omega arith), (passed l output labels relocs accepted).0.most)))
      (lt_or_ge r.target label_target) in
      let low : r.addend % 4294967296 < 4294967296 = omega arith in
      let high : r.addend / 4294967296 < 4294967296 = omega (arith, word (i + 4), word (i + 5)) in
      six·words (base l k + r.offset) r.kind (moved_target c r.target) 0 (r.addend % 4294967296) (r.addend / 4294967296) (omega arith) (word (i + 1)) target (omega arith) low high w

  -- Each relocation that remains is its piece's, moved; the one after it is the next that remains.
  pub reloc_left : ((i : ℕ) → get_or l.relocs i 0 < 256) → (k : ℕ) → k < piece_count l.pieces → (j : ℕ) → j < (piece l k).relocs → is_filled (piece l k).arch (reloc l k j) ≡ false → (w : ℕ) → w < reloc_words
      → word_at (join l output labels relocs).1.1.1 (number_of l k j * reloc_words + w) ≡ get_or (moved_reloc (piece l k) (before l k) (reloc l k j)) w 0
  reloc_left bytes k within j listed left w six =
      let all = remaining l.pieces l.relocs (piece_count l.pieces) in
      let at = number_of l k j * reloc_words + w in
      let is = remains_at l.pieces l.relocs (piece_count l.pieces) k within j listed left w six in
      let long = length_remaining l.pieces l.relocs (piece_count l.pieces) in
      ap (λ (t : List ℕ). word_at t at) (relocs_left l output labels relocs accepted)
      ∙ word_read relocs all at (omega (arith, six, long, below l.pieces l.relocs k (piece_count l.pieces) j within listed left))
      (omega (arith, long, (passed l output labels relocs accepted).1.reloc_room)) (rw is (words_small bytes k within j listed left w six))
      ∙ is

  -- Everything that is claimed of an accepted join.
  pub whole_holds : Whole l (join l output labels relocs).1.0 (join l output labels relocs).1.1.0 (join l output labels relocs).1.1.1
  whole_holds =
      record {
        bytes = byte_kept l output labels relocs accepted;
        within = λ k known.
            omega (
              arith,
              (piece_within l.pieces k (piece_count l.pieces) known).end,
              (passed l output labels relocs accepted).1.output_room,
              ap length (code_left l output labels relocs accepted) ∙ length_over output 0 (image (known_in l) l.pieces l.relocs l.code (piece_count l.pieces)),
            );
        gaps = gap_zero l output labels relocs accepted;
        fields = λ k within j listed filled.
            let f = field_means l output labels relocs accepted k within j listed filled in
            let s = symbol_place l output labels relocs accepted (reloc l k j).target f.defined in
            record {
              symbol = s.at;
              number = value (known_in l (reloc l k j).target) (piece l k) (before l k) (reloc l k j) % 4294967296;
              means = f.means ∙ ap (λ (x : ℕ). plus x (reloc l k j).addend) s.is;
              stands = f.stands;
            };
        moved = label_left l output labels relocs accepted;
        remain = reloc_left;
      }
