-- `put_field` meets its contract.
use Rattle.join.proofs.Writing.{field_put}
use Rattle.join.proofs.write.put_field.Goals as goal

pub returns : goal.returns
returns c =
    field_put _ _ _ _ c.requires c.put_word.ensures
