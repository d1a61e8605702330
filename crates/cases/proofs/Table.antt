-- The cases of document 01, and those with ADDs, with a pool and with ceilings, hold of the definitions.
use mathlib.Core.Path.{◌≡◌, refl}
use mathlib.Core.List.{map}
use Rattle.seqs.specs.Every.{every}
use Rattle.seqs.specs.Over.{over}
use Rattle.seqs.specs.Pick.{pick}
use Rattle.words.specs.Words.{word_at}
use Rattle.encoder.specs.Nops as nop
use Rattle.encoder.specs.Padding.{padding_length, padding_within}
use Rattle.fields.specs.Words64.{sign_extend, range}
use Rattle.fields.specs.Bits.{insert_bits}
use Rattle.fields.specs.Kinds.{decoded}
use Rattle.fields.specs.Reach.{reach_refusal, can_reach, can_reach_delta, pages_reach}
use Rattle.fields.specs.Patch.{patched, held_addend}
use Rattle.buffer.specs.State.{keeps_events}
use Rattle.fresh.specs.Pooled.{pooled_one, code_alignment}
use Rattle.fresh.specs.Forms.{form, width, role_of, moves}
use Rattle.fresh.specs.Fresh.{items, writes, starts, stands, moved}
use Rattle.fresh.specs.Rounds.{jumps, reaches, is_far, far_of, any, join, settle}
use Rattle.fresh.specs.Fill.{fill_use, fill_uses, fill_field, fill_refs, fill_jump, fill_jumps, fill_pool, fill, assembled, in_place}
use Rattle.finish.specs.Refusals.{ref_clear, ref_reaches, why_not_laid, why_not_written, use_refusal, uses_refusal, why_not_in_place}
use Rattle.cases.specs.Cases.{Row, answer, table}

-- Every case of the table is answered as its row says.
pub cases_hold : map answer table ≡ map (λ (r : Row). r.expected) table
unfolding table every pick decoded reach_refusal can_reach can_reach_delta pages_reach sign_extend range insert_bits patched held_addend word_at over nop.form nop.nops_by
    nop.nops padding_length padding_within keeps_events pooled_one code_alignment form width role_of moves items writes starts stands moved jumps reaches is_far far_of any join settle fill_use fill_uses fill_field fill_refs
    fill_jump fill_jumps fill_pool fill assembled in_place ref_clear ref_reaches why_not_laid why_not_written use_refusal uses_refusal why_not_in_place
cases_hold = refl
