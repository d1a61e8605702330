-- `write_in_place` meets its contract: the calls in their order.
use mathlib.Core.Path.{◌≡◌}
use Prim.Native.Nat.{◌-◌}
use native.Mathlib.Omega.{arith}
use Rattle.finish.proofs.pooled.write_in_place.Goals as goal

pub patch_uses-requires : goal.patch_uses-requires
patch_uses-requires c =
    rw (c.emit.auto.output, c.copy_run.auto.output) c.requires.used

pub write-requires : goal.write-requires
write-requires c =
    let w = c.requires in record {
      pool_labels = w.named;
      pool_room = record {
        within = λ j h. omega (arith, w.written.within j h, c.patch_uses.auto.output, c.emit.auto.output, c.copy_run.auto.output);
      };
    }

pub returns : goal.returns
returns c =
    let len = c.args.b.code in
    let whole : len - 0 ≡ len = omega arith in
    rw (c.write.ensures, c.patch_uses.ensures, c.emit.ensures, c.copy_run.ensures, whole)
