-- `put_event` meets its contract: a jump's form, or an alignment's padding.
use Rattle.std.proofs.Common.{◌∙◌}
use Rattle.emit.proofs.Jumps.{jump_writes, jump_width, jump_form_lem, align_form, branch_width, branch_form_lem}
use Rattle.emit.proofs.put_event.Goals as goal

pub put_jump-requires : goal.put_jump-requires
put_jump-requires c =
    record { encodes = jump_writes _ _ c.in-Jump.is c.requires.writes; part_length = jump_width _ _ _ _ _ c.in-Jump.is c.requires.part_length }

pub returns-in-Jump : goal.returns-in-Jump
returns-in-Jump c bytes keeps =
    c.put_jump.ensures ∙ jump_form_lem _ _ _ _ c.args.arch bytes c.in-Jump.is

pub returns-in-Align : goal.returns-in-Align
returns-in-Align c bytes keeps =
    c.pad.ensures ∙ align_form _ c.in-Align.field-0 _ _ c.args.arch bytes c.args.part.now c.in-Align.is c.requires.part_length

pub put_branch-requires : goal.put_branch-requires
put_branch-requires c =
    branch_width _ _ _ _ _ c.args.word c.in-Far.is c.requires.part_length

pub returns-in-Far : goal.returns-in-Far
returns-in-Far c bytes keeps =
    c.put_branch.ensures ∙ branch_form_lem _ _ _ _ c.args.arch _ bytes c.in-Far.is keeps
