-- Cursors: how far a piece leads, that later cursors are further, and that all pieces lie within what the last one spans.
use Rattle.std.proofs.Common.{◌≡◌, ℕ, zero, suc, ◌+◌, ◌*◌, ◌/◌, ◌<◌, ◌≤◌, true, eqb, leb, List, length, refl, ⊎_elim, add-one, arith, ne_eqb, eqb-true, leb-true}
use Rattle.seqs.proofs.Booleans.{both_true}
use Rattle.seqs.proofs.Every.{all_at}
use Rattle.seqs.proofs.Numbers.{lt_or_ge, eq_or_ne}
use Rattle.seqs.proofs.Picking.{pick_either}
use Rattle.encoder.proofs.Padding.{padding_below}
use Rattle.fields.specs.Kinds.{arch_a64}
use Rattle.buffer.specs.Refusals.{arch_occurs}
use Rattle.buffer.specs.Tables.{label_size, reloc_size}
use Rattle.join.specs.declared.Piece.{Piece}
use Rattle.join.specs.declared.Cursor.{Cursor}
use Rattle.join.specs.Pieces.{
  Lent,
  most_pieces,
  piece_size,
  definition_size,
  code_alignment,
  wide_alignment,
  page_size,
  piece_at,
  boundary,
  gap,
  base_of,
  after,
  cursor_at,
  piece_fits,
  sums_fit,
  pieces_fit,
}
use Rattle.join.specs.steps.Within.{NearBy, Near, Pieces, Labels, Symbols, Relocations, CodeIn}

-- a piece that fits starts at a multiple of something, of 4,096 at most
pub boundary_range : (p : Piece) → piece_fits p ≡ true → (0 < boundary p) × (boundary p ≤ page_size)
boundary_range p fits =
    let alignment = (both_true (arch_occurs p.arch) _ fits).1 in
    let given : (0 < p.alignment) × (p.alignment ≤ page_size) =
    ⊎_elim
    (λ (narrow : p.alignment ≡ code_alignment). (omega arith, omega arith))
    (λ other.
    let wide : p.alignment ≡ wide_alignment = eqb-true _ _ (rw (ne_eqb p.alignment code_alignment other) at alignment) in
    (omega arith, omega arith))
    (eq_or_ne p.alignment code_alignment) in
    pick_either (λ (m : ℕ). (0 < m) × (m ≤ page_size)) (eqb p.arch arch_a64) page_size p.alignment (omega arith, omega arith) given

-- so the zeros in front of it are fewer
pub gap_below : (p : Piece) (c : Cursor) → piece_fits p ≡ true → gap p c < page_size
gap_below p c fits =
    let range = boundary_range p fits in
    omega (arith, padding_below c.end (boundary p) range.0, range.1)

-- a count of 32 bits
pub record Counts (p : Piece) : Type 0 where
  pub len : p.len < 4294967296
  pub labels : p.labels < 4294967296
  pub relocs : p.relocs < 4294967296
  pub definitions : p.definitions < 4294967296

pub near_after : (k : ℕ) (p : Piece) (c : Cursor) → piece_fits p ≡ true → Counts p → NearBy k c → NearBy (k + 1) (after p c)
near_after k p c fits few near =
    record {
      code = omega (arith, near.code, few.len);
      labels = omega (arith, near.labels, few.labels);
      relocs = omega (arith, near.relocs, few.relocs);
      definitions = omega (arith, near.definitions, few.definitions);
      end = omega (arith, near.end, few.len, gap_below p c fits);
    }

pub near_most : (k : ℕ) (c : Cursor) → k ≤ most_pieces → NearBy k c → Near c
near_most k c few near =
    record {
      code = omega (arith, near.code);
      labels = omega (arith, near.labels);
      relocs = omega (arith, near.relocs);
      definitions = omega (arith, near.definitions);
      end = omega (arith, near.end);
    }

-- a cursor that is made of a base
pub after_base : (p : Piece) (c : Cursor) (base : ℕ) → base ≡ base_of p c
    → record {
      code = c.code + p.len;
      labels = c.labels + p.labels;
      relocs = c.relocs + p.relocs;
      definitions = c.definitions + p.definitions;
      end = base + p.len;
    }
    ≡ after p c
after_base p c base e = rw e

-- before the first piece, and behind one more
pub cursor_none : (pieces : List ℕ) → cursor_at pieces 0 ≡ record { code = 0; labels = 0; relocs = 0; definitions = 0; end = 0 }
unfolding cursor_at
cursor_none pieces = refl

pub cursor_next : (pieces : List ℕ) (k : ℕ) → after (piece_at pieces k) (cursor_at pieces k) ≡ cursor_at pieces (k + 1)
unfolding cursor_at
cursor_next pieces k = rw (add-one k) refl

-- one cursor is not past another
pub record UpTo (c d : Cursor) : Type 0 where
  pub code : c.code ≤ d.code
  pub labels : c.labels ≤ d.labels
  pub relocs : c.relocs ≤ d.relocs
  pub definitions : c.definitions ≤ d.definitions
  pub end : c.end ≤ d.end

up_to_after : (p : Piece) (c d : Cursor) → UpTo c d → UpTo c (after p d)
up_to_after p c d u =
    record {
      code = omega (arith, u.code);
      labels = omega (arith, u.labels);
      relocs = omega (arith, u.relocs);
      definitions = omega (arith, u.definitions);
      end = omega (arith, u.end);
    }

up_to_same : (c : Cursor) → UpTo c c
up_to_same c =
    record { code = omega arith; labels = omega arith; relocs = omega arith; definitions = omega arith; end = omega arith }

pub cursor_grows : (pieces : List ℕ) (k n : ℕ) → k ≤ n → UpTo (cursor_at pieces k) (cursor_at pieces n)
unfolding cursor_at
cursor_grows pieces k zero within =
    let same : k ≡ zero = omega arith in rw same (up_to_same (cursor_at pieces 0))
cursor_grows pieces k (suc n) within =
    ⊎_elim
    (λ (before : k < suc n). up_to_after (piece_at pieces n) (cursor_at pieces k) (cursor_at pieces n) (cursor_grows pieces k n (omega arith)))
    (λ ge.
    let same : k ≡ suc n = omega arith in rw same (up_to_same (cursor_at pieces (suc n))))
    (lt_or_ge k (suc n))

-- a piece ends before the last one does
pub piece_within : (pieces : List ℕ) (k n : ℕ) → k < n → UpTo (after (piece_at pieces k) (cursor_at pieces k)) (cursor_at pieces n)
piece_within pieces k n within = rw (cursor_next pieces k) (cursor_grows pieces (k + 1) n (omega arith))

-- What is known of lent pieces that fit, and whose sums do.
pub record Summed (l : Lent) (n : ℕ) : Type 0 where
  pub code : (cursor_at l.pieces n).code ≤ length l.code
  pub labels : (cursor_at l.pieces n).labels ≤ length l.labels / label_size
  pub relocs : (cursor_at l.pieces n).relocs ≤ length l.relocs / reloc_size
  pub definitions : (cursor_at l.pieces n).definitions ≤ length l.definitions / definition_size

pub sums_summed : (l : Lent) (n : ℕ) → sums_fit l (cursor_at l.pieces n) ≡ true → Summed l n
sums_summed l n fit =
    let whole = cursor_at l.pieces n in
    let coded = both_true (leb whole.code (length l.code)) _ fit in
    let labelled = both_true (leb whole.labels (length l.labels / label_size)) _ coded.1 in
    let listed = both_true (leb whole.relocs (length l.relocs / reloc_size)) _ labelled.1 in
    record {
      code = leb-true _ _ coded.0;
      labels = leb-true _ _ labelled.0;
      relocs = leb-true _ _ listed.0;
      definitions = leb-true _ _ listed.1;
    }

module _ (l : Lent) (n : ℕ) (room : n * piece_size ≤ length l.pieces) (fit : pieces_fit l.pieces n ≡ true) (near : Near (cursor_at l.pieces n)) where
  pub standing : Pieces l.pieces n
  unfolding pieces_fit
  standing =
      record {
        room = room;
        placed = λ k within.
            let u = cursor_grows l.pieces k n (omega arith) in
            record {
              fits = all_at (λ (i : ℕ). piece_fits (piece_at l.pieces i)) n k fit within;
              near = record {
                code = omega (arith, u.code, near.code);
                labels = omega (arith, u.labels, near.labels);
                relocs = omega (arith, u.relocs, near.relocs);
                definitions = omega (arith, u.definitions, near.definitions);
                end = omega (arith, u.end, near.end);
              };
            };
      }

  module _ (summed : Summed l n) where
    pub labels_within : Labels l.pieces l.labels n
    labels_within = record { standing = standing; each = λ k within. omega (arith, (piece_within l.pieces k n within).labels, summed.labels) }

    pub symbols_within : Symbols l.pieces l.labels l.definitions n
    symbols_within =
        record { labelled = labels_within; each = λ k within. omega (arith, (piece_within l.pieces k n within).definitions, summed.definitions) }

    pub relocs_within : Relocations l.pieces l.relocs n
    relocs_within = record { standing = standing; each = λ k within. omega (arith, (piece_within l.pieces k n within).relocs, summed.relocs) }

    pub code_within : (k : ℕ) → k < n → CodeIn l.code (piece_at l.pieces k) (cursor_at l.pieces k)
    code_within k within = omega (arith, (piece_within l.pieces k n within).code, summed.code)
