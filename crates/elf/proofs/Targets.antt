-- What relocations name, where every target is bound.
use Rattle.std.proofs.Common.{◌≡◌, ℕ, ◌-◌, ◌*◌, ◌<◌, ◌≤◌, true, List, length, arith, ltb-true, le-ltb}
use Rattle.seqs.proofs.Booleans.{both_true}
use Rattle.seqs.proofs.Every.{all_at}
use Rattle.buffer.specs.State.{label_target}
use Rattle.buffer.specs.Tables.{label_size}
use Rattle.recording.specs.View.{reloc_at}
use Rattle.checks.specs.steps.Handed.{TargetsNamed}
use Rattle.elf.specs.Elf.{target_bound, all_targets_bound}

-- a label that is named is known
label_known : (labels : List ℕ) (count target : ℕ) → label_target ≤ target → target_bound labels count target ≡ true → target - label_target < count
label_known labels count target label bound = ltb-true _ _ (both_true _ _ (rw (le-ltb target label_target label) at bound)).0

-- and lies in the table
pub targets_named : (labels : List ℕ) (count : ℕ) (relocs : List ℕ) (n : ℕ) → count * label_size ≤ length labels
    → all_targets_bound labels count relocs n ≡ true → TargetsNamed relocs n labels
unfolding all_targets_bound
targets_named labels count relocs n room bound =
    record {
      known = λ i h label.
          omega (
            arith,
            label_known labels count (reloc_at relocs i).target label
                (all_at (λ (j : ℕ). target_bound labels count (reloc_at relocs j).target) n i bound h),
          );
    }
