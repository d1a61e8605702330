-- What the writing of a piece is handed, and what stands after each.
use Rattle.std.proofs.Common.{◌≡◌, ℕ, zero, suc, ◌+◌, ◌*◌, ◌<◌, ◌≤◌, List, ◌++◌, length, replicate, refl, ap, ◌∙◌, ⊎_elim, add-one, arith}
use Rattle.seqs.specs.Over.{over}
use Rattle.seqs.proofs.Every.{all_at}
use Rattle.seqs.proofs.Numbers.{lt_or_ge}
use Rattle.seqs.proofs.Overwrites.{length_over}
use Rattle.words.specs.Words.{bytes_of_all, over_words}
use Rattle.buffer.specs.Tables.{label_size, reloc_size}
use Rattle.join.specs.declared.Piece.{Piece}
use Rattle.join.specs.declared.Cursor.{Cursor}
use Rattle.join.specs.Pieces.{Lent, piece_at, gap, cursor_at}
use Rattle.join.specs.Symbols.{find}
use Rattle.join.specs.Join.{Inside, labels_move, all_labels_move, moved_labels, labels_joined, remaining_in, remaining, count_remaining_in, count_remaining, filled_code, image}
use Rattle.join.specs.steps.Within.{Placed}
use Rattle.join.specs.steps.Writes.{Puts, Joins}
use Rattle.join.proofs.Cursors.{piece_within}
use Rattle.join.proofs.Turns.{Turn, turn_placed}
use Rattle.join.proofs.Writing.{image_more, labels_more, relocs_more}
use Rattle.join.proofs.Fits.{each_holds}

-- one piece more, no fewer that remain
count_remaining_grows : (pieces relocs : List ℕ) (k n : ℕ) → k ≤ n → count_remaining pieces relocs k ≤ count_remaining pieces relocs n
unfolding count_remaining
count_remaining_grows pieces relocs k zero within = let none : k ≡ zero = omega arith in rw none (omega arith)
count_remaining_grows pieces relocs k (suc n) within =
    ⊎_elim
    (λ (before : k < suc n). omega (arith, count_remaining_grows pieces relocs k n (omega arith)))
    (λ (ge : suc n ≤ k).
    let same : k ≡ suc n = omega arith in rw same (omega arith))
    (lt_or_ge k (suc n))

count_remaining_more : (pieces relocs : List ℕ) (k : ℕ)
    → count_remaining pieces relocs k + count_remaining_in relocs (piece_at pieces k) (cursor_at pieces k) (piece_at pieces k).relocs ≡ count_remaining pieces relocs (k + 1)
unfolding count_remaining
count_remaining_more pieces relocs k = rw (add-one k) refl

-- the next piece is one that is written
module _ {l : Lent} {n output label-bytes reloc-bytes : ℕ} (joins : Joins l n output label-bytes reloc-bytes) {k : ℕ} {p : Piece} {c : Cursor}
    (turn : Turn l.pieces k p c) (within : k < n) where
  pub next_placed : Placed p c
  next_placed = turn_placed turn within joins.labels.standing

  pub next_puts : {at : ℕ} → at ≡ count_remaining l.pieces l.relocs k
      → Puts (find l.pieces l.labels l.definitions n) l p c at output label-bytes reloc-bytes
  unfolding all_labels_move
  next_puts count =
      let ends = piece_within l.pieces k n within in
      let remain = count_remaining_more l.pieces l.relocs k in
      rw (turn.piece, turn.cursor, count)
      (record {
        placed = joins.labels.standing.placed k within;
        code = joins.code k within;
        labels = joins.labels.each k within;
        relocs = joins.relocations.each k within;
        inside = each_holds Inside _ l.pieces l.relocs n joins.inside k within;
        labels_moved = all_at (λ (i : ℕ). labels_move l.labels (piece_at l.pieces i) (cursor_at l.pieces i) (piece_at l.pieces i).labels) n k joins.labels_moved within;
        relocs_move = joins.relocs_move k within;
        output_room = omega (arith, ends.end, joins.output_room);
        labels_room = omega (arith, ends.labels, joins.labels_room);
        relocs_room = omega (arith, remain, count_remaining_grows l.pieces l.relocs (k + 1) n (omega arith), joins.relocs_room);
      })

  pub next_count : {at at' : ℕ} → at ≡ count_remaining l.pieces l.relocs k → at' ≡ at + count_remaining_in l.relocs p c p.relocs
      → at' ≡ count_remaining l.pieces l.relocs (k + 1)
  next_count count e = e ∙ rw (turn.piece, turn.cursor, count) (count_remaining_more l.pieces l.relocs k)

-- what stands in the three outputs once k pieces are written
pub record Stands (known : ℕ → ℕ) (l : Lent) (output₀ labels₀ relocs₀ : List ℕ) (k : ℕ) (output labels relocs : List ℕ) : Type 0 where
  pub coded : output ≡ over output₀ 0 (image known l.pieces l.relocs l.code k)
  pub labelled : labels ≡ over_words labels₀ (labels_joined l.pieces l.labels k)
  pub listed : relocs ≡ over_words relocs₀ (remaining l.pieces l.relocs k)

-- their lengths are as they were
module _ {known : ℕ → ℕ} {l : Lent} {output₀ labels₀ relocs₀ : List ℕ} {k : ℕ} {output labels relocs : List ℕ}
    (stands : Stands known l output₀ labels₀ relocs₀ k output labels relocs) where
  pub output_length : length output ≡ length output₀
  output_length = ap length stands.coded ∙ length_over output₀ 0 (image known l.pieces l.relocs l.code k)

  pub labels_length : length labels ≡ length labels₀
  labels_length = ap length stands.labelled ∙ length_over labels₀ 0 (bytes_of_all (labels_joined l.pieces l.labels k))

  pub relocs_length : length relocs ≡ length relocs₀
  relocs_length = ap length stands.listed ∙ length_over relocs₀ 0 (bytes_of_all (remaining l.pieces l.relocs k))

-- one piece more
module _ {known : ℕ → ℕ} {l : Lent} {n output-bytes label-bytes reloc-bytes : ℕ} (joins : Joins l n output-bytes label-bytes reloc-bytes) {k : ℕ} {p : Piece} {c : Cursor}
    (turn : Turn l.pieces k p c) (within : k < n) where
  pub next_stands : {output₀ labels₀ relocs₀ output labels relocs output' labels' relocs' : List ℕ} {at : ℕ}
      → Stands known l output₀ labels₀ relocs₀ k output labels relocs → at ≡ count_remaining l.pieces l.relocs k
      → output' ≡ over output c.end (replicate (gap p c) 0 ++ filled_code known l.relocs l.code p c)
      → labels' ≡ over labels (c.labels * label_size) (bytes_of_all (moved_labels l.labels p c p.labels))
      → relocs' ≡ over relocs (at * reloc_size) (bytes_of_all (remaining_in l.relocs p c p.relocs))
      → Stands known l output₀ labels₀ relocs₀ (k + 1) output' labels' relocs'
  next_stands {output₀} {labels₀} {relocs₀} stands count coded labelled listed =
      record {
        coded = coded
            ∙ rw (turn.piece, turn.cursor, stands.coded)
            (image_more known l.pieces l.relocs l.code output₀ k (λ i h. joins.code i (omega (arith, h, within))));
        labelled = labelled ∙ rw (turn.piece, turn.cursor, stands.labelled) (labels_more labels₀ l.pieces l.labels k);
        listed = listed ∙ rw (turn.piece, turn.cursor, count, stands.listed) (relocs_more relocs₀ l.pieces l.relocs k);
      }
