-- `patch_held` meets its contract: the field's own bytes are lent.
use Rattle.emit.proofs.Fields.{use_back}
use Rattle.emit.proofs.patch_held.Goals as goal

pub returns : goal.returns
returns c =
    use_back _ _ c.args.kind _ _ _ c.patch_size.ensures c.requires c.patch.ensures
