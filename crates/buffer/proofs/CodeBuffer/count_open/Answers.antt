-- `count_open` meets its contract: each table has at most 65,536 entries, so the sums do not wrap.
use Prim.Native.Nat.{◌≤◌}
use native.Mathlib.Omega.{arith}
use Rattle.naming.proofs.AtMost.{open_entries_le, open_jumps_le}
use Rattle.buffer.specs.State.{label_target}
use Rattle.buffer.specs.Tables.{most_entries, use_words, ref_words, reloc_words}
use Rattle.buffer.specs.steps.Count.{open_count}
use Rattle.buffer.proofs.CodeBuffer.count_open.Goals as goal

-- what each scan found
few : (c : goal.After-open_jumps-jumped)
    → (c.open_entries-used.result ≤ most_entries) × (c.open_entries-referred.result ≤ most_entries) × (c.open_entries-targeted.result ≤ most_entries) × (c.open_jumps-jumped.result ≤ most_entries)
few c =
    let a = c.args in
    let fit = c.requires.namers_fit in (
      omega (arith, c.open_entries-used.ensures, open_entries_le a.uses.now a.self.uses use_words 1 0 a.labels.now a.self.labels, fit.uses_few),
      omega (arith, c.open_entries-referred.ensures, open_entries_le a.refs.now a.self.refs ref_words 1 0 a.labels.now a.self.labels, fit.refs_few),
      omega (arith, c.open_entries-targeted.ensures, open_entries_le a.relocs.now a.self.relocs reloc_words 2 label_target a.labels.now a.self.labels, fit.relocs_few),
      omega (arith, c.open_jumps-jumped.ensures, open_jumps_le a.events.now a.self.events a.labels.now a.self.labels, fit.events_few),
    )

pub overflow_cast-self-3 : goal.overflow_cast-self-3
overflow_cast-self-3 c =
    omega (arith, c.requires.namers_fit.relocs_few)

pub open_entries-targeted-requires : goal.open_entries-targeted-requires
open_entries-targeted-requires c =
    omega (arith, c.requires.namers_fit.relocs_room, c.requires.namers_fit.relocs_few, c.requires.labels_within)

pub open_jumps-jumped-requires : goal.open_jumps-jumped-requires
open_jumps-jumped-requires c =
    omega (arith, c.requires.namers_fit.events_room, c.requires.namers_fit.events_few, c.requires.labels_within)

pub overflow_add-result : goal.overflow_add-result
overflow_add-result c =
    omega (arith, few c)

pub overflow_add-result-2 : goal.overflow_add-result-2
overflow_add-result-2 c =
    omega (arith, few c)

pub overflow_add-result-3 : goal.overflow_add-result-3
overflow_add-result-3 c =
    omega (arith, few c)

pub returns : goal.returns
unfolding open_count
returns c =
    omega (arith, c.open_entries-used.ensures, c.open_entries-referred.ensures, c.open_entries-targeted.ensures, c.open_jumps-jumped.ensures)
