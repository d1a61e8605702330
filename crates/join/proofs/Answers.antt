-- What join answers, from the numbers that its tests come to.
use Rattle.std.proofs.Common.{◌≡◌, ℕ, ◌≢◌, List, length, sym, refl, ap, ◌∙◌}
use Rattle.seqs.specs.Over.{over}
use Rattle.seqs.proofs.Picking.{yes_eq, no_eq}
use Rattle.words.specs.Words.{over_words}
use Rattle.finish.specs.declared.CodeBufferFinalized.{CodeBufferFinalized}
use Rattle.join.specs.Pieces.{Lent, piece_count}
use Rattle.join.specs.Join.{
  Joined,
  labels_joined,
  remaining,
  image,
  known_in,
  why_not_joined,
  no_record,
  whole_record,
  Left,
  joined,
  join,
}

-- a refusal leaves the outputs, without one the whole is there
module _ (l : Lent) (output labels relocs : List ℕ) where
  pub join_refused : (why : ℕ) (answer : Joined) → why ≡ why_not_joined l (length output) (length labels) (length relocs) → why ≢ 0
      → answer ≡ record { refusal = why; code = no_record } → (answer, (output, (labels, relocs))) ≡ join l output labels relocs
  unfolding join
  join_refused why answer e some given =
      ap (λ (a : Joined). (a, (output, (labels, relocs)))) (given ∙ ap (λ (w : ℕ). record { refusal = w; code = no_record }) e)
      ∙ sym (no_eq (why_not_joined l (length output) (length labels) (length relocs)) 0 _ _ (λ z. some (e ∙ z)))

  pub join_done : (why : ℕ) (code : CodeBufferFinalized) (left : Left) → why ≡ why_not_joined l (length output) (length labels) (length relocs) → why ≡ 0
      → (code, left) ≡ joined l output labels relocs → (record { refusal = 0; code = code }, left) ≡ join l output labels relocs
  unfolding join
  join_done why code left e none whole =
      ap (λ (w : CodeBufferFinalized × Left). (record { refusal = 0; code = w.0 }, w.1)) whole
      ∙ sym (yes_eq (why_not_joined l (length output) (length labels) (length relocs)) 0 _ _ (sym e ∙ none))

  -- the whole, from its parts
  pub whole_put : (code : CodeBufferFinalized) (output' labels' relocs' : List ℕ) → code ≡ whole_record l.pieces l.relocs (piece_count l.pieces)
      → output' ≡ over output 0 (image (known_in l) l.pieces l.relocs l.code (piece_count l.pieces))
      → labels' ≡ over_words labels (labels_joined l.pieces l.labels (piece_count l.pieces))
      → relocs' ≡ over_words relocs (remaining l.pieces l.relocs (piece_count l.pieces))
      → (code, (output', (labels', relocs'))) ≡ joined l output labels relocs
  unfolding joined
  whole_put code output' labels' relocs' recorded coded labelled listed = rw (recorded, coded, labelled, listed) refl
