-- Finish, then join, with the numbers written out: the recording of `a64_meets` as the second of two pieces.
use mathlib.Core.Path.{◌≡◌, refl}
use mathlib.Core.List.{List, [], ◌∷◌, ◌++◌}
use Prim.Native.Nat.{ℕ, zero, suc, ◌+◌, ◌*◌, ◌/◌, ◌%◌, ◌<◌}
use native.Mathlib.Omega.{arith}
use lib.ListN.{replicate}
use lib.Seq.{get_or-append-add}
use Rattle.seqs.specs.Counting.{count, how_many}
use Rattle.seqs.specs.Every.{every, all}
use Rattle.seqs.specs.Over.{over}
use Rattle.seqs.specs.Pick.{pick, first_of}
use Rattle.words.specs.Words.{word_at, bytes_of_all}
use Rattle.recording.specs.Open.{naming}
use Rattle.encoder.specs.Padding.{padding_length, padding_within}
use Rattle.fields.specs.Words64.{plus, sign_extend, range}
use Rattle.fields.specs.Bits.{insert_bits}
use Rattle.fields.specs.Kinds.{arch_a64, decoded}
use Rattle.fields.specs.Arm.{adrp}
use Rattle.fields.specs.Reach.{reach_refusal, can_reach, can_reach_delta, pages_reach}
use Rattle.fields.specs.Patch.{patched, held_addend}
use Rattle.fields.specs.declared.LabelUse.TheVariants.{A64Adrp21}
use Rattle.relax.specs.Events.{condition_of, event_of, event_at}
use Rattle.buffer.specs.State.{keeps_events}
use Rattle.buffer.specs.Refusals.{standing, last_end}
use Rattle.checks.specs.Entries.{kept_only, events_fit, outside, label_fits, labels_fit, use_fits, uses_fit, refs_fit, relocs_fit, constant_fits, constants_fit, asked_fits, asked_once, is_asked, order_fits, entries_fit}
use Rattle.checks.specs.Lent.{counts_fit, within_limits}
use Rattle.fresh.specs.Pooled.{pooled_one}
use Rattle.fresh.specs.Forms.{role_of, moves}
use Rattle.fresh.specs.Fill.{fill_use, fill_uses, fill_pool, in_place}
use Rattle.finish.specs.Refusals.{pool_bound_before, reloc_bound, all_bound, use_refusal, uses_refusal, why_not_in_place, why_unfit}
use Rattle.finish.specs.Finish.{unrelaxed, placed_by}
use Rattle.finish.specs.Finish as finishing
use Rattle.join.specs.Pieces as joining
use Rattle.join.specs.Symbols as symbols
use Rattle.join.specs.Join as joins
use Rattle.wargnifla.specs.Boundary.{finish, join}
use Rattle.demands.specs.Joining.{Handed}
use Rattle.demands.proofs.Joining.{c_finish_then_join}
use Rattle.demands.proofs.Worked.{a64, a64_answer, bytes_of_lem, after_second, behind_all}

abbrev first_code : List ℕ
first_code = 0 ∷ 0 ∷ 0 ∷ 0 ∷ []

abbrev second_code : List ℕ
second_code = bytes_of_all (0x14000003 ∷ 0x90000000 ∷ 0x91004000 ∷ 0 ∷ []) ++ (1 ∷ 2 ∷ 3 ∷ 4 ∷ 5 ∷ 6 ∷ 7 ∷ 8 ∷ [])

-- four zeros, and the finished code of `a64`, with its labels at 12 and 16
abbrev both : joining.Lent
both =
    record {
      pieces = bytes_of_all (arch_a64 ∷ 4 ∷ 32 ∷ 0 ∷ 0 ∷ 0 ∷ 0 ∷ arch_a64 ∷ 24 ∷ 32 ∷ 0 ∷ 2 ∷ 0 ∷ 0 ∷ []);
      code = first_code ++ second_code;
      labels = bytes_of_all (12 ∷ 16 ∷ []);
      relocs = [];
      definitions = [];
    }

same_labels : (j : ℕ) → j < 2 → word_at both.labels ((joining.cursor_at both.pieces 1).labels + j) ≡ word_at a64_answer.1.1.0.0 j
unfolding every all count naming over pick word_at padding_length padding_within decoded sign_extend range insert_bits can_reach can_reach_delta pages_reach reach_refusal patched held_addend condition_of event_of event_at standing last_end keeps_events kept_only events_fit outside label_fits labels_fit use_fits uses_fit refs_fit relocs_fit constant_fits constants_fit asked_fits asked_once is_asked order_fits entries_fit counts_fit within_limits pooled_one role_of moves fill_use fill_uses fill_pool in_place pool_bound_before reloc_bound all_bound use_refusal uses_refusal why_not_in_place why_unfit unrelaxed placed_by finishing.finish finish join joins.join joins.joined joins.why_not_joined joins.why_unfit joins.why_undefined joins.why_no_room joins.why_no_table joins.why_no_field joins.why_no_output joining.piece_at joining.cursor_at joining.pieces_fit joining.within_limits joining.same_arch joining.greatest_alignment symbols.find_in symbols.find symbols.find_before symbols.new_in symbols.defined_once joins.reloc_of joins.holds joins.relocs_hold joins.all_hold joins.labels_move joins.all_labels_move joins.remaining_in joins.remaining joins.count_remaining_in joins.count_remaining joins.labels_joined joins.filled_with joins.image first_of how_many
same_labels zero h = refl
same_labels (suc zero) h = refl
same_labels (suc (suc j)) h = absurd (omega arith)

handed : Handed both 1 a64 a64_answer
unfolding every all count naming over pick word_at padding_length padding_within decoded sign_extend range insert_bits can_reach can_reach_delta pages_reach reach_refusal patched held_addend condition_of event_of event_at standing last_end keeps_events kept_only events_fit outside label_fits labels_fit use_fits uses_fit refs_fit relocs_fit constant_fits constants_fit asked_fits asked_once is_asked order_fits entries_fit counts_fit within_limits pooled_one role_of moves fill_use fill_uses fill_pool in_place pool_bound_before reloc_bound all_bound use_refusal uses_refusal why_not_in_place why_unfit unrelaxed placed_by finishing.finish finish join joins.join joins.joined joins.why_not_joined joins.why_unfit joins.why_undefined joins.why_no_room joins.why_no_table joins.why_no_field joins.why_no_output joining.piece_at joining.cursor_at joining.pieces_fit joining.within_limits joining.same_arch joining.greatest_alignment symbols.find_in symbols.find symbols.find_before symbols.new_in symbols.defined_once joins.reloc_of joins.holds joins.relocs_hold joins.all_hold joins.labels_move joins.all_labels_move joins.remaining_in joins.remaining joins.count_remaining_in joins.count_remaining joins.labels_joined joins.filled_with joins.image first_of how_many
handed =
    record {
      known = omega arith;
      taken = refl;
      len = refl;
      labels = refl;
      code = λ i h. get_or-append-add first_code second_code i 0;
      offsets = same_labels;
    }

-- ADRP, at 4100 in the whole, means the page of the constant, at 4112 there, wherever the whole is loaded on a page.
page_in_the_whole : (load : ℕ) → load % 4096 ≡ 0 → adrp (plus load 4100) 0x90000000 ≡ plus load 4112 / 4096 * 4096
unfolding every all count naming over pick word_at padding_length padding_within decoded sign_extend range insert_bits can_reach can_reach_delta pages_reach reach_refusal patched held_addend condition_of event_of event_at standing last_end keeps_events kept_only events_fit outside label_fits labels_fit use_fits uses_fit refs_fit relocs_fit constant_fits constants_fit asked_fits asked_once is_asked order_fits entries_fit counts_fit within_limits pooled_one role_of moves fill_use fill_uses fill_pool in_place pool_bound_before reloc_bound all_bound use_refusal uses_refusal why_not_in_place why_unfit unrelaxed placed_by finishing.finish finish join joins.join joins.joined joins.why_not_joined joins.why_unfit joins.why_undefined joins.why_no_room joins.why_no_table joins.why_no_field joins.why_no_output joining.piece_at joining.cursor_at joining.pieces_fit joining.within_limits joining.same_arch joining.greatest_alignment symbols.find_in symbols.find symbols.find_before symbols.new_in symbols.defined_once joins.reloc_of joins.holds joins.relocs_hold joins.all_hold joins.labels_move joins.all_labels_move joins.remaining_in joins.remaining joins.count_remaining_in joins.count_remaining joins.labels_joined joins.filled_with joins.image first_of how_many
page_in_the_whole load page =
    (c_finish_then_join a64 [] (replicate 24 0) (replicate 24 0) (bytes_of_lem a64.counts refl) (bytes_of_lem a64.code refl)
    both (replicate 4120 0) (replicate 8 0) [] (replicate 24 0) refl 1 handed
    ).uses refl 1 A64Adrp21 (omega arith) refl after_second (behind_all 4 4 (omega arith)) tt (λ e. absurd (omega arith)) (λ y from to j listed. absurd (omega arith)) load (omega arith)
