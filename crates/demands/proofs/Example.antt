-- A recording with a jump that finish takes: what the theorems ask can be met; and wrong programs that the definitions refuse.
use mathlib.Core.Path.{◌≡◌, refl}
use mathlib.Core.List.{List, [], ◌∷◌}
use Prim.Native.Nat.{ℕ}
use lib.ListN.{length}
use Rattle.fields.specs.Words64.{sign_extend}
use Rattle.recording.specs.Calls.{Recording}
use Rattle.fields.specs.declared.LabelUse.TheVariants.{X86JmpRel32}
use Rattle.fields.specs.Patch.{patched}
use Rattle.seqs.specs.Over.{over}
use Rattle.seqs.specs.Pick.{pick}
use Rattle.words.specs.Words.{word_at}
use Rattle.fields.specs.Kinds.{arch_x64}
use Rattle.relax.specs.declared.Segment.{Segment}
use Rattle.relax.specs.Events.{condition_of, event_of, event_at}
use Rattle.buffer.specs.Refusals.{standing, last_end}
use Rattle.seqs.specs.Every.{all}
use Rattle.buffer.specs.State.{keeps_events}
use Rattle.checks.specs.Entries.{form_fits, event_fits, kept_only, events_fit, outside, label_fits, labels_fit, uses_fit, refs_fit, relocs_fit, constants_fit, order_fits, entries_fit}
use Rattle.fresh.specs.Forms.{form, width, role_of, moves}
use Rattle.fresh.specs.Fresh.{items, writes, starts, stands, moved}
use Rattle.fresh.specs.Rounds.{jumps, reaches, is_far, far_of, any, settle}
use Rattle.fresh.specs.Fill.{fill_field, fill_refs, fill_jump, fill_jumps, fill_pool, fill, assembled}
use Rattle.fresh.specs.Segments.{segments}
use Rattle.checks.specs.Lent.{counts_fit, within_limits}
use Rattle.seqs.specs.Counting.{count}
use Rattle.seqs.specs.Every.{every}
use Rattle.recording.specs.Open.{naming}
use Rattle.finish.specs.Refusals.{pool_bound_before, all_bound, why_not_laid, why_not_written, why_unfit}
use Rattle.finish.specs.Finish.{relocated, relaxed, placed_by, finish}
use Rattle.demands.specs.Demand2.{finished_code}

-- a jump of two bytes to its own start, and a table of one segment
abbrev pub jumping : Recording
jumping =
    record {
      buffer = record { arch = arch_x64; symbols = 0; finished = 0; refusal = 0; code = 2; labels = 1; events = 1; uses = 0; refs = 0; constants = 0; asked = 0; relocs = 0; unresolved = 0 };
      code = 0 ∷ 0 ∷ [];
      labels = 0 ∷ 0 ∷ 0 ∷ 0 ∷ [];
      events = 1 ∷ 0 ∷ 0 ∷ 0 ∷ 0 ∷ 0 ∷ 0 ∷ 0 ∷ 2 ∷ 0 ∷ 0 ∷ 0 ∷ 0 ∷ 0 ∷ 0 ∷ 0 ∷ 16 ∷ 0 ∷ 0 ∷ 0 ∷ [];
      uses = [];
      refs = [];
      constants = [];
      asked = [];
      relocs = [];
    }

abbrev pub table : List Segment
table = record { old_start = 0; old_end = 0; new_start = 0; new_end = 0 } ∷ []

-- the same with the settled segment
abbrev pub settled_table : List Segment
settled_table = record { old_start = 0; old_end = 2; new_start = 0; new_end = 2 } ∷ []

-- Finish takes it, and its code is JMP -2.
pub met : ((finish jumping table (0 ∷ 0 ∷ 0 ∷ [])).0.refusal ≡ 0) × (finished_code jumping table (0 ∷ 0 ∷ 0 ∷ []) ≡ 0xEB ∷ 0xFE ∷ [])
unfolding count naming over pick word_at condition_of event_of event_at standing last_end all form_fits event_fits keeps_events kept_only events_fit outside label_fits labels_fit uses_fit refs_fit relocs_fit constants_fit order_fits entries_fit form width role_of moves items writes starts stands moved jumps reaches is_far far_of any settle sign_extend fill_field patched fill_refs fill_jump fill_jumps fill_pool fill assembled segments every counts_fit within_limits pool_bound_before all_bound why_not_laid why_not_written why_unfit relocated relaxed placed_by finish
met = (refl, refl)

-- Into an output of one byte it is refused with 23, after the layout: the settled segment stands in the table, and the output is as it was.
pub refused_after_the_layout : ((finish jumping table (7 ∷ [])).0.refusal ≡ 23) × ((finish jumping table (7 ∷ [])).1.1.1 ≡ (settled_table, (7 ∷ [])))
unfolding count naming over pick word_at condition_of event_of event_at standing last_end all form_fits event_fits keeps_events kept_only events_fit outside label_fits labels_fit uses_fit refs_fit relocs_fit constants_fit order_fits entries_fit form width role_of moves items writes starts stands moved jumps reaches is_far far_of any settle sign_extend fill_field patched fill_refs fill_jump fill_jumps fill_pool fill assembled segments every counts_fit within_limits pool_bound_before all_bound why_not_laid why_not_written why_unfit relocated relaxed placed_by finish
refused_after_the_layout = (refl, refl)

-- A ref "ignores the field": what its four bytes held before makes no difference, so a program that adds it is refused.
pub stale_field_ignored : (offset target : ℕ) (xs ys : List ℕ) → length xs ≡ 4 → length ys ≡ 4
    → patched X86JmpRel32 offset target xs ≡ patched X86JmpRel32 offset target ys
unfolding patched
stale_field_ignored offset target xs ys hx hy = rw (hx, hy)
