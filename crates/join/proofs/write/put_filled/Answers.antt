-- `put_filled` meets its contract: the piece is written, then its fields are filled where it stands.
use Rattle.join.proofs.Writing.{filled_put}
use Rattle.join.proofs.write.put_filled.Goals as goal

pub returns : goal.returns
returns c =
    let a = c.args in
    let pre = c.requires in
    let room = rw (← c.base-base.ensures.0) at pre.output_within in
    filled_put a.output.now a.code.now a.placed.piece a.placed.cursor c.base-base.result c.base-base.ensures.0 pre.code_in.0 room
    _ c.put_code.ensures _ a.relocs.now _ c.fill_fields.ensures
