-- `fill_fields` meets its contract: the fields passed are filled.
use Rattle.std.proofs.Common.{ℕ, ◌+◌, ◌≤◌, length, sym, refl, ap, ◌∙◌, add-one, arith, leb-true}
use Rattle.seqs.proofs.Every.{all_at}
use Rattle.seqs.proofs.Picking.{pick_yes}
use Rattle.join.specs.Symbols.{find}
use Rattle.join.specs.Join.{Inside, piece_reloc, field_size, holds, relocs_hold, filled_with}
use Rattle.join.proofs.Writing.{length_filled}
use Rattle.join.proofs.write.fill_fields.Goals as goal

pub loop-j-init : goal.loop-j-init
unfolding filled_with
loop-j-init c = (omega arith, refl)

pub fill_field-requires : goal.fill_field-requires
unfolding relocs_hold holds
fill_field-requires c =
    let a = c.args in
    let known = find a.resolver.now.pieces.now a.resolver.now.labels.now a.resolver.now.definitions.now a.resolver.now.count in
    let inside = all_at (λ (i : ℕ). holds Inside known a.placed.piece a.placed.cursor (piece_reloc a.relocs.now a.placed.cursor i)) _ c.loop-j.j c.requires.relocs_hold c.loop-j-test.true in
    let size = ap length c.loop-j.invariant.1 ∙ length_filled known a.relocs.now a.placed.piece a.placed.cursor a.part.now c.loop-j.j ∙ c.requires.part_length in record {
      part_within = λ filled.
          let room : (piece_reloc a.relocs.now a.placed.cursor c.loop-j.j).offset + field_size ≤ a.placed.piece.len =
          leb-true _ _ (sym (pick_yes _ _ _ (rw c.reloc_at-reloc.ensures at filled)) ∙ inside) in
          rw c.reloc_at-reloc.ensures (omega (arith, size, room));
    }

pub loop-j-preserved : goal.loop-j-preserved
unfolding filled_with
loop-j-preserved c =
    let l = c.loop-j in
    (omega arith, rw (add-one l.j, c.fill_field.ensures, c.reloc_at-reloc.ensures, l.invariant.1) refl)
