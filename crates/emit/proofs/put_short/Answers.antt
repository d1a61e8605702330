-- `put_short` meets its contract: a cleared part, and the opcode.
use Rattle.std.proofs.Common.{arith, rules, ◌≡◌, length, replicate}
use Rattle.emit.proofs.Jumps.{short_size, cleared_length, put_opcode}
use Rattle.emit.proofs.put_short.Goals as goal

pub bounds-part-0 : goal.bounds-part-0
bounds-part-0 c =
    let cleared : c.fill.new.self ≡ replicate (length c.args.part.now) 0 = search rules in
    omega (arith, short_size c.args.cc, cleared_length c.args.part.now _ cleared, c.requires.part_length)

pub returns : goal.returns
returns c =
    let cleared : c.fill.new.self ≡ replicate (length c.args.part.now) 0 = search rules in
    put_opcode c.args.cc _ c.args.part.now _ c.short_opcode.ensures cleared c.requires.part_length
