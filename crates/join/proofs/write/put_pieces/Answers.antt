-- `put_pieces` meets its contract: the pieces passed stand in the outputs.
use Rattle.std.proofs.Common.{sym, refl, arith}
use Rattle.seqs.proofs.Overwrites.{over_nil}
use Rattle.join.specs.Join.{labels_joined, remaining, count_remaining, image}
use Rattle.join.proofs.Cursors.{cursor_none}
use Rattle.join.proofs.Turns.{next_cursor}
use Rattle.join.proofs.Putting.{output_length, labels_length, relocs_length, next_puts, next_count, next_stands}
use Rattle.join.proofs.write.put_pieces.Goals as goal

pub loop-k-init : goal.loop-k-init
unfolding image labels_joined remaining count_remaining
loop-k-init c = (
  omega arith,
  sym (cursor_none _),
  refl,
  record { coded = sym (over_nil _ 0); labelled = sym (over_nil _ 0); listed = sym (over_nil _ 0) },
  c.requires.joins,
)

pub put_filled-requires : goal.put_filled-requires
put_filled-requires c =
    let v = c.loop-k in
    let p = next_puts v.invariant.4 (record { piece = c.piece_at-piece.ensures; cursor = v.invariant.1 }) c.loop-k-test.true v.invariant.2 in
    record {
      code_in = (p.code, p.relocs);
      output_within = omega (arith, p.output_room, output_length v.invariant.3);
      relocs_hold = p.inside;
    }

pub put_labels-requires : goal.put_labels-requires
put_labels-requires c =
    let v = c.loop-k in
    let p = next_puts v.invariant.4 (record { piece = c.piece_at-piece.ensures; cursor = v.invariant.1 }) c.loop-k-test.true v.invariant.2 in
    record {
      labelled = p.labels;
      labelled_2 = omega (arith, p.labels_room, labels_length v.invariant.3);
      labels_move = p.labels_moved;
    }

pub put_relocs-at-requires : goal.put_relocs-at-requires
put_relocs-at-requires c =
    let v = c.loop-k in
    let p = next_puts v.invariant.4 (record { piece = c.piece_at-piece.ensures; cursor = v.invariant.1 }) c.loop-k-test.true v.invariant.2 in
    record {
      relocs_in = p.relocs;
      joined_within = omega (arith, p.relocs_room, relocs_length v.invariant.3);
      relocs_move = p.relocs_move;
    }

pub loop-k-preserved : goal.loop-k-preserved
loop-k-preserved c =
    let v = c.loop-k in
    let piece = c.piece_at-piece.ensures in
    let joins = v.invariant.4 in
    let within = c.loop-k-test.true in
    let put = c.put_relocs-at.ensures in (
      omega (arith, within),
      next_cursor _ v.k piece v.invariant.1 c.after-cursor.ensures.0,
      next_count joins (record { piece = piece; cursor = v.invariant.1 }) within v.invariant.2 put.0,
      next_stands joins (record { piece = piece; cursor = v.invariant.1 }) within v.invariant.3 v.invariant.2 c.put_filled.ensures c.put_labels.ensures put.1,
      joins,
    )
