-- `patch_field` meets its contract: the field's own bytes are lent.
use Rattle.emit.proofs.Fields.{field_back}
use Rattle.emit.proofs.patch_field.Goals as goal

pub returns : goal.returns
returns c =
    field_back _ _ c.args.kind _ _ _ c.patch_size.ensures c.requires (rw c.sign_extend_32-addend.ensures at c.patch_with_addend.ensures)
