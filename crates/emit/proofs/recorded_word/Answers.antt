-- `recorded_word` meets its contract, by cases of the event.
use Rattle.std.proofs.Common.{◌≡◌, ℕ, ◌+◌, ◌-◌, ◌≤◌, length, drop, ⊎_elim, arith, length-drop, length-take}
use Rattle.emit.proofs.Jumps.{keeps_jump, keeps_align, keeps_far, far_end}
use Rattle.emit.proofs.recorded_word.Goals as goal

four : (n : ℕ) → n + 4 - n ≡ 4
four n = omega arith

pub slice_bounds-word_at-end : goal.slice_bounds-word_at-end
slice_bounds-word_at-end c =
    let room : c.in-Far.branch.start + 4 ≤ length c.args.code.now = far_end _ c.in-Far.branch _ c.in-Far.is c.requires.0 c.requires.1 in
    omega (arith, room)

pub word_at-requires : goal.word_at-requires
word_at-requires c =
    let room : c.in-Far.branch.start + 4 ≤ length c.args.code.now = far_end _ c.in-Far.branch _ c.in-Far.is c.requires.0 c.requires.1 in
    let n = c.in-Far.branch.start in
    rw (four n) (omega (arith, room, length-take 4 (drop n c.args.code.now), length-drop n c.args.code.now))

pub returns-in-Jump : goal.returns-in-Jump
returns-in-Jump c =
    ⊎_elim (λ j. keeps_jump _ _ _ _ j.1) (λ a. keeps_align _ _ _ _ a.1) c.in-Jump.is

pub returns-in-Far : goal.returns-in-Far
returns-in-Far c =
    let n = c.in-Far.branch.start in
    keeps_far _ c.in-Far.branch _ c.args.code.now c.in-Far.is c.requires.0 (rw (four n) at c.word_at.ensures)
