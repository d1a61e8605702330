-- `patch_jump` meets its contract: a jump's field is written, an alignment is passed over.
use Rattle.std.proofs.Common.{sym, ap, ◌∙◌}
use Rattle.fresh.specs.Forms.{branch_of, far_branch_of, role_of}
use Rattle.fresh.proofs.Fill.{fill_jump_pads, fill_jump_branch}
use Rattle.emit.proofs.patch_jump.Goals as goal

pub word_at-label-requires : goal.word_at-label-requires
unfolding role_of
word_at-label-requires c =
    c.requires.known (branch_of c.in-Jump.jump) (ap role_of (sym c.event_at.ensures ∙ c.in-Jump.is))

pub patch_displacement-requires : goal.patch_displacement-requires
unfolding role_of
patch_displacement-requires c =
    record { output_within = c.requires.within (branch_of c.in-Jump.jump) (ap role_of (sym c.event_at.ensures ∙ c.in-Jump.is)); in_bound = c.requires.small }

pub returns-in-Jump : goal.returns-in-Jump
unfolding role_of
returns-in-Jump c =
    c.patch_displacement.ensures
    ∙ rw c.word_at-label.ensures
    (sym (fill_jump_branch _ _ (branch_of c.in-Jump.jump) _ _ _ (ap role_of (sym c.event_at.ensures ∙ c.in-Jump.is))))

pub returns-in-Align : goal.returns-in-Align
unfolding role_of
returns-in-Align c =
    sym (fill_jump_pads _ _ _ _ _ (ap role_of (sym c.event_at.ensures ∙ c.in-Align.is)))

pub word_at-label-requires-in-Far : goal.word_at-label-requires-in-Far
unfolding role_of
word_at-label-requires-in-Far c =
    c.requires.known (far_branch_of c.in-Far.branch) (ap role_of (sym c.event_at.ensures ∙ c.in-Far.is))

pub patch_branch-requires : goal.patch_branch-requires
unfolding role_of
patch_branch-requires c =
    record { output_within = c.requires.within (far_branch_of c.in-Far.branch) (ap role_of (sym c.event_at.ensures ∙ c.in-Far.is)); in_bound = c.requires.small }

pub returns-in-Far : goal.returns-in-Far
unfolding role_of
returns-in-Far c =
    c.patch_branch.ensures
    ∙ rw c.word_at-label-in-Far.ensures
    (sym (fill_jump_branch _ _ (far_branch_of c.in-Far.branch) _ _ _ (ap role_of (sym c.event_at.ensures ∙ c.in-Far.is))))
