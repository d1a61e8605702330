-- `put_relocs` meets its contract: those passed that remain stand there, moved.
use Rattle.std.proofs.Common.{ℕ, ◌+◌, ◌*◌, not, length, sym, ap, ◌∙◌, arith}
use Rattle.seqs.proofs.Counting.{none_counted, one_counted}
use Rattle.seqs.proofs.Overwrites.{length_over, over_nil}
use Rattle.words.specs.Words.{bytes_of_all}
use Rattle.buffer.specs.Tables.{reloc_size}
use Rattle.join.specs.Join.{is_filled, piece_reloc, remaining_in, count_remaining_in}
use Rattle.join.proofs.Writing.{one_reloc_more, count_grows}
use Rattle.join.proofs.write.put_relocs.Goals as goal

pub loop-j-init : goal.loop-j-init
unfolding count_remaining_in remaining_in
loop-j-init c =
    let a = c.args in
    (omega arith, omega (arith, none_counted (λ (i : ℕ). not (is_filled a.placed.piece.arch (piece_reloc a.relocs.now a.placed.cursor i)))), sym (over_nil _ _))

pub put_remaining-i-requires : goal.put_remaining-i-requires
unfolding count_remaining_in
put_remaining-i-requires c =
    let a = c.args in
    let l = c.loop-j in
    let more = one_counted (λ (i : ℕ). not (is_filled a.placed.piece.arch (piece_reloc a.relocs.now a.placed.cursor i))) l.j in
    let grows = count_grows a.relocs.now a.placed.piece a.placed.cursor (l.j + 1) a.placed.piece.relocs (omega arith) in
    let size = ap length l.invariant.2 ∙ length_over a.joined.now (a.at * reloc_size) (bytes_of_all (remaining_in a.relocs.now a.placed.piece a.placed.cursor l.j)) in record { joined_within = rw c.reloc_at-reloc.ensures (omega (arith, size, more, grows, l.invariant.1, c.requires.joined_within)); reloc_moves = rw c.reloc_at-reloc.ensures (c.requires.relocs_move l.j c.loop-j-test.true) }

pub loop-j-preserved : goal.loop-j-preserved
unfolding count_remaining_in
loop-j-preserved c =
    let a = c.args in
    let l = c.loop-j in
    let more = one_counted (λ (i : ℕ). not (is_filled a.placed.piece.arch (piece_reloc a.relocs.now a.placed.cursor i))) l.j in
    let counted = rw c.reloc_at-reloc.ensures at c.put_remaining-i.ensures.0 in (
      omega arith,
      omega (arith, counted, more, l.invariant.1),
      rw (c.put_remaining-i.ensures.1, c.reloc_at-reloc.ensures, l.invariant.2, l.invariant.1)
          (one_reloc_more a.joined.now a.relocs.now a.placed.piece a.placed.cursor a.at l.j),
    )
