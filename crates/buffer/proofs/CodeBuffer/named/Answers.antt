-- `named` meets its contract: each table has at most 65,536 entries, so the sums do not wrap.
use Prim.Native.Nat.{◌+◌, ◌≤◌}
use native.Mathlib.Omega.{arith}
use Rattle.naming.proofs.AtMost.{naming_le, jumps_naming_le}
use Rattle.buffer.specs.State.{label_target}
use Rattle.buffer.specs.Tables.{most_entries, use_words, ref_words, reloc_words}
use Rattle.buffer.specs.Open.{named}
use Rattle.buffer.proofs.CodeBuffer.named.Goals as goal

-- what each scan found
few : (c : goal.After-jumps_naming-jumped)
    → (c.naming-used.result ≤ most_entries) × (c.naming-referred.result ≤ most_entries) × (c.naming-targeted.result ≤ most_entries) × (c.jumps_naming-jumped.result ≤ most_entries)
few c =
    let a = c.args in
    let fit = c.requires.namers_fit in (
      omega (arith, c.naming-used.ensures, naming_le a.uses.now a.self.uses use_words 1 a.label, fit.uses_few),
      omega (arith, c.naming-referred.ensures, naming_le a.refs.now a.self.refs ref_words 1 a.label, fit.refs_few),
      omega (arith, c.naming-targeted.ensures, naming_le a.relocs.now a.self.relocs reloc_words 2 (label_target + a.label), fit.relocs_few),
      omega (arith, c.jumps_naming-jumped.ensures, jumps_naming_le a.events.now a.self.events a.label, fit.events_few),
    )

pub jumps_naming-jumped-requires : goal.jumps_naming-jumped-requires
jumps_naming-jumped-requires c =
    (c.requires.namers_fit.events_room, omega (arith, c.requires.namers_fit.events_few))

pub overflow_add-result : goal.overflow_add-result
overflow_add-result c =
    omega (arith, few c)

pub overflow_add-result-2 : goal.overflow_add-result-2
overflow_add-result-2 c =
    omega (arith, few c)

pub overflow_add-result-3 : goal.overflow_add-result-3
overflow_add-result-3 c =
    omega (arith, few c)

pub returns : goal.returns
unfolding named
returns c =
    omega (arith, c.naming-used.ensures, c.naming-referred.ensures, c.naming-targeted.ensures, c.jumps_naming-jumped.ensures)
