-- `put_long` meets its contract: a cleared part, and the opcode, of one byte or two.
use Rattle.std.proofs.Common.{arith, length-set, rules, ◌≡◌, length, replicate}
use Rattle.emit.proofs.Jumps.{long_room, put_always, on_encodes, put_on}
use Rattle.emit.proofs.put_long.Goals as goal

pub bounds-part-0 : goal.bounds-part-0
bounds-part-0 c =
    let cleared : c.fill.new.self ≡ replicate (length c.args.part.now) 0 = search rules in
    omega (arith, long_room c.args.cc c.args.part.now _ cleared c.requires.part_length)

pub bounds-part-0-in-On : goal.bounds-part-0-in-On
bounds-part-0-in-On c =
    let cleared : c.fill.new.self ≡ replicate (length c.args.part.now) 0 = search rules in
    omega (arith, long_room c.args.cc c.args.part.now _ cleared c.requires.part_length)

pub overflow_add-part : goal.overflow_add-part
overflow_add-part c =
    omega (arith, on_encodes _ _ c.in-On.is c.requires.encodes)

pub overflow_cast-part : goal.overflow_cast-part
overflow_cast-part c =
    omega (arith, on_encodes _ _ c.in-On.is c.requires.encodes)

pub bounds-part-1 : goal.bounds-part-1
bounds-part-1 c =
    let cleared : c.fill.new.self ≡ replicate (length c.args.part.now) 0 = search rules in
    simp length-set (omega (arith, long_room c.args.cc c.args.part.now _ cleared c.requires.part_length))

pub returns-in-Always : goal.returns-in-Always
returns-in-Always c =
    let cleared : c.fill.new.self ≡ replicate (length c.args.part.now) 0 = search rules in
    put_always c.args.cc c.args.part.now _ c.in-Always.is cleared c.requires.part_length

pub returns-in-On : goal.returns-in-On
returns-in-On c =
    let cleared : c.fill.new.self ≡ replicate (length c.args.part.now) 0 = search rules in
    put_on c.args.cc _ c.args.part.now _ c.in-On.is cleared c.requires.part_length
