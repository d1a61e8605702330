-- What an accepted join leaves, of everything that a caller may lend: the claims of document 02, Request Six, about one call.
use Rattle.std.proofs.Common.{◌≡◌, ℕ, ◌+◌, ◌-◌, ◌%◌, ◌<◌, ◌≤◌, true, ◌≢◌, List, length, get_or, drop, sym, ap, ◌∙◌, ⊎_elim, arith, get_or-drop, get_or-take, ne_eqb, leb-true}
use Rattle.seqs.specs.Over.{over}
use Rattle.seqs.proofs.Every.{all_at}
use Rattle.seqs.proofs.Numbers.{eq_or_ne}
use Rattle.seqs.proofs.Overwrites.{get_d_over_in}
use Rattle.seqs.proofs.Picking.{yes_eq, no_eq, pick_yes}
use Rattle.words.specs.Words.{word_at, bytes_of, over_words}
use Rattle.words.proofs.Entries.{word_read}
use Rattle.buffer.specs.State.{none}
use Rattle.fields.specs.Words64.{plus, sign_extend}
use Rattle.join.specs.declared.Piece.{Piece}
use Rattle.join.specs.declared.Cursor.{Cursor}
use Rattle.join.specs.declared.AsmReloc.{AsmReloc}
use Rattle.join.specs.Pieces.{Lent, piece_count, piece_at, gap, base_of, cursor_at}
use Rattle.join.specs.Symbols.{first_place}
use Rattle.join.specs.Join.{
  Test,
  Defined,
  Inside,
  Reaches,
  Joined,
  last_place,
  is_filled,
  filled_holds,
  all_hold,
  moved_label,
  label_moves,
  labels_move,
  all_labels_move,
  field_size,
  piece_reloc,
  value,
  holds,
  labels_joined,
  piece_code,
  image,
  known_in,
  why_not_joined,
  Left,
  joined,
  join,
}
use Rattle.join.specs.steps.Within.{CodeIn}
use Rattle.join.proofs.Cursors.{piece_within}
use Rattle.join.proofs.Writing.{length_labels, length_code, length_image}
use Rattle.join.proofs.Fits.{Fit, Room, joined_passed, joined_defined, fit_joins, each_holds, reloc_holds}
use Rattle.join.proofs.Meaning.{Outside, piece_stands, gap_clear, outside_kept, field_stands, field_means_symbol, label_moved}

-- what a label moves to has 32 bits
moved_small : (base offset : ℕ) → label_moves base offset ≡ true → moved_label base offset < 4294967296
moved_small base offset moves =
    ⊎_elim
    (λ (free : offset ≡ none). rw (yes_eq offset none none (base + offset) free) (omega arith))
    (λ (bound : offset ≢ none).
    rw (no_eq offset none none (base + offset) bound) (omega (arith, leb-true (base + offset) last_place (rw (ne_eqb offset none bound) at moves))))
    (eq_or_ne offset none)

module _ (l : Lent) (output labels relocs : List ℕ) (accepted : (join l output labels relocs).0.refusal ≡ 0) where
  abbrev n : ℕ
  n = piece_count l.pieces

  abbrev piece : ℕ → Piece
  piece k = piece_at l.pieces k

  abbrev before : ℕ → Cursor
  before k = cursor_at l.pieces k

  -- relocation j of piece k, and that it is filled
  abbrev reloc : ℕ → ℕ → AsmReloc
  reloc k j = piece_reloc l.relocs (before k) j

  abbrev Filled : ℕ → ℕ → Type 0
  Filled k j = is_filled (piece k).arch (reloc k j) ≡ true

  -- the code that is left
  abbrev code : List ℕ
  code = (join l output labels relocs).1.0

  pub nothing_refuses : why_not_joined l (length output) (length labels) (length relocs) ≡ 0
  unfolding join
  nothing_refuses =
      let why = why_not_joined l (length output) (length labels) (length relocs) in
      ⊎_elim
      (λ (none : why ≡ 0). none)
      (λ some. sym (ap (λ (a : Joined × Left). a.0.refusal) (no_eq why 0 _ _ some)) ∙ accepted)
      (eq_or_ne why 0)

  pub passed : Fit l × Room l (length output) (length labels) (length relocs)
  passed = joined_passed l (length output) (length labels) (length relocs) nothing_refuses

  lies : (k : ℕ) → k < n → CodeIn l.code (piece k) (before k)
  lies = (fit_joins l (length output) (length labels) (length relocs) passed.0 passed.1).code

  pub code_left : code ≡ over output 0 (image (known_in l) l.pieces l.relocs l.code n)
  unfolding join joined
  code_left = ap (λ (a : Joined × Left). a.1.0) (yes_eq (why_not_joined l (length output) (length labels) (length relocs)) 0 _ _ nothing_refuses)

  labels_left : (join l output labels relocs).1.1.0 ≡ over_words labels (labels_joined l.pieces l.labels n)
  unfolding join joined
  labels_left = ap (λ (a : Joined × Left). a.1.1.0) (yes_eq (why_not_joined l (length output) (length labels) (length relocs)) 0 _ _ nothing_refuses)

  pub label_moves_lem : (k : ℕ) → k < n → (j : ℕ) → j < (piece k).labels → label_moves (base_of (piece k) (before k)) (word_at l.labels ((before k).labels + j)) ≡ true
  unfolding all_labels_move labels_move
  label_moves_lem k within j known =
      all_at (λ (i : ℕ). label_moves (base_of (piece k) (before k)) (word_at l.labels ((before k).labels + i))) (piece k).labels j
      (all_at (λ (i : ℕ). labels_move l.labels (piece i) (before i) (piece i).labels) n k passed.1.labels_moved within)
      known

  -- a byte of the whole
  byte_left : (i : ℕ) → i < (before n).end → get_or code i 0 ≡ get_or (image (known_in l) l.pieces l.relocs l.code n) i 0
  byte_left i within =
      let whole = image (known_in l) l.pieces l.relocs l.code n in
      let size = length_image (known_in l) l.pieces l.relocs l.code n lies in
      let at : i ≡ 0 + i = omega arith in
      ap (λ (bytes : List ℕ). get_or bytes i 0) code_left
      ∙ ap (λ (x : ℕ). get_or (over output 0 whole) x 0) at
      ∙ get_d_over_in output 0 whole i 0 (omega (arith, size)) (omega (arith, passed.1.output_room))

  -- A byte of a piece that no field covers is the piece's own, moved by the base.
  pub byte_kept : (k : ℕ) → k < n → (i : ℕ) → i < (piece k).len → ((j : ℕ) → j < (piece k).relocs → Filled k j → Outside i (reloc k j))
      → get_or code (base_of (piece k) (before k) + i) 0 ≡ get_or l.code ((before k).code + i) 0
  byte_kept k within i inside outside =
      byte_left (base_of (piece k) (before k) + i) (omega (arith, (piece_within l.pieces k n within).end))
      ∙ piece_stands (known_in l) l.pieces l.relocs l.code n k lies within i inside
      ∙ outside_kept (known_in l) (piece k) (before k) l.relocs (piece_code l.code (piece k) (before k)) (piece k).relocs i outside
      ∙ get_or-take (piece k).len (drop (before k).code l.code) i 0 inside
      ∙ get_or-drop (before k).code l.code i 0

  -- The zeros in front of a piece are zeros.
  pub gap_zero : (k : ℕ) → k < n → (i : ℕ) → i < gap (piece k) (before k) → get_or code ((before k).end + i) 0 ≡ 0
  gap_zero k within i inside =
      byte_left ((before k).end + i) (omega (arith, (piece_within l.pieces k n within).end))
      ∙ gap_clear (known_in l) l.pieces l.relocs l.code n k lies within i inside

  -- A field that is filled, of relocation j of piece k: its symbol is defined by a bound label, and the field means the symbol's place plus the addend, by
  -- Intel's manual; each of its bytes that no later field covers stands in the code.
  pub record FieldMeans (k j : ℕ) : Type 0 where
    pub defined : first_place ≤ known_in l (reloc k j).target
    pub means : plus (base_of (piece k) (before k) + (reloc k j).offset) (sign_extend 32 (value (known_in l (reloc k j).target) (piece k) (before k) (reloc k j) % 4294967296))
        ≡ plus (known_in l (reloc k j).target - first_place) (reloc k j).addend
    pub stands : (i : ℕ) → i < field_size
        → ((later : ℕ) → j < later → later < (piece k).relocs → Filled k later → Outside ((reloc k j).offset + i) (reloc k later))
        → get_or code (base_of (piece k) (before k) + ((reloc k j).offset + i)) 0
        ≡ get_or (bytes_of (value (known_in l (reloc k j).target) (piece k) (before k) (reloc k j) % 4294967296)) i 0

  filled_holds_lem : (test : Test) → all_hold test (known_in l) l.pieces l.relocs n ≡ true → (k : ℕ) → k < n → (j : ℕ) → j < (piece k).relocs → Filled k j
      → filled_holds test (known_in l) (piece k) (before k) (reloc k j) ≡ true
  unfolding holds
  filled_holds_lem test hold k within j listed filled =
      sym (pick_yes (is_filled (piece k).arch (reloc k j)) _ _ filled)
      ∙ reloc_holds test (known_in l) l.relocs (piece k) (before k) (each_holds test (known_in l) l.pieces l.relocs n hold k within) j listed

  pub field_means : (k : ℕ) → k < n → (j : ℕ) → j < (piece k).relocs → Filled k j → FieldMeans k j
  field_means k within j listed filled =
      let p = piece k in
      let c = before k in
      let r = reloc k j in
      let inside : r.offset + field_size ≤ p.len = leb-true _ _ (filled_holds_lem Inside passed.1.inside k within j listed filled) in
      let ends = (piece_within l.pieces k n within).end in
      record {
        defined = leb-true _ _ (filled_holds_lem Defined (joined_defined l (length output) (length labels) (length relocs) nothing_refuses) k within j listed filled);
        means = field_means_symbol (known_in l r.target) p c r (omega (arith, inside, ends, passed.1.end))
            (filled_holds_lem Reaches passed.1.reaches k within j listed filled);
        stands = λ i four covered.
            byte_left (base_of p c + (r.offset + i)) (omega (arith, inside, ends, four))
            ∙ piece_stands (known_in l) l.pieces l.relocs l.code n k lies within (r.offset + i) (omega (arith, inside, four))
            ∙ field_stands (known_in l) p c l.relocs (piece_code l.code p c) p.relocs j listed filled
            (omega (arith, inside, length_code l.code p c (lies k within)))
            i
            four
            covered;
      }

  -- Label j of piece k is bound to its offset plus the base, or not at all; its number runs on.
  pub label_left : (k : ℕ) → k < n → (j : ℕ) → j < (piece k).labels
      → word_at (join l output labels relocs).1.1.0 ((before k).labels + j) ≡ moved_label (base_of (piece k) (before k)) (word_at l.labels ((before k).labels + j))
  label_left k within j known =
      let all-labels = labels_joined l.pieces l.labels n in
      let i = (before k).labels + j in
      let moved = label_moved l.pieces l.labels n k within j known in
      let size = length_labels l.pieces l.labels n in
      let among : i < length all-labels = omega (arith, size, (piece_within l.pieces k n within).labels) in
      let fits = moved_small (base_of (piece k) (before k)) (word_at l.labels i) (label_moves_lem k within j known) in
      ap (λ (t : List ℕ). word_at t i) labels_left
      ∙ word_read labels all-labels i among (omega (arith, size, passed.1.label_room)) (rw moved fits)
      ∙ moved
