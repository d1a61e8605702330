-- The demands, and what is claimed of pooled constants, applied to recordings as a C program lends them, with the numbers written out: a claim that says
-- less than it should is refused here.
use mathlib.Core.Path.{◌≡◌, refl, sym, ap, ◌∙◌}
use mathlib.Core.Logic.{⊎_elim}
use mathlib.Core.Bool.{true, false, cond}
use mathlib.Core.List.{List, [], ◌∷◌, ◌++◌, map}
use Prim.Native.Nat.{ℕ, zero, suc, ◌+◌, ◌*◌, ◌/◌, ◌%◌, ◌≤◌, ◌<◌}
use native.Mathlib.Omega.{arith}
use lib.Dec.{ltb}
use lib.ListN.{length, get_or, replicate}
use borrow.Author.Tests.{ltb-true}
use Rattle.seqs.specs.Counting.{count}
use Rattle.recording.specs.Open.{naming}
use Rattle.seqs.specs.Every.{every, all}
use Rattle.seqs.specs.Over.{over}
use Rattle.seqs.specs.Pick.{pick}
use Rattle.seqs.proofs.Booleans.{both_true, true_is_not_false}
use Rattle.words.specs.Words.{word_at, bytes_of_all}
use Rattle.encoder.specs.Intel.{AreNops}
use Rattle.encoder.specs.Nops as nop
use Rattle.encoder.proofs.Reading.{int3_pads_not}
use Rattle.encoder.specs.Padding.{padding_length, padding_within, Spends}
use Rattle.fields.specs.Words64.{plus, sign_extend, range}
use Rattle.fields.specs.Bits.{bits, insert_bits}
use Rattle.fields.specs.Meaning.{covers}
use Rattle.fields.specs.Kinds.{arch_x86, arch_x64, arch_a64, decoded}
use Rattle.fields.specs.Intel.{rel32}
use Rattle.fields.specs.Arm.{b, adrp, add_immediate}
use Rattle.fields.specs.Reach.{reach_refusal, can_reach, can_reach_delta, pages_reach}
use Rattle.fields.specs.Patch.{patched, held_addend}
use Rattle.fields.specs.declared.LabelUse.TheVariants.{X86JmpRel32, A64Branch26, A64Adrp21, A64AddAbsLo12}
use Rattle.relax.specs.declared.Condition.TheVariants.{On}
use Rattle.relax.specs.declared.Segment.{Segment}
use Rattle.relax.specs.Events.{condition_of, event_of, event_at}
use Rattle.buffer.specs.State.{none, keeps_events}
use Rattle.buffer.specs.Refusals.{standing, is_alignment, last_end, foreign_reloc}
use Rattle.buffer.specs.Tables.{default_most}
use Rattle.checks.specs.Entries.{form_fits, event_fits, kept_only, events_fit, outside, label_fits, labels_fit, use_fits, uses_fit, ref_fits, refs_fit, relocs_fit, constant_fits, constants_fit, asked_fits, asked_once, is_asked, order_fits, entries_fit}
use Rattle.checks.specs.Lent.{counts_fit, within_limits}
use Rattle.fresh.specs.Pooled.{pooled_one, code_alignment}
use Rattle.fresh.specs.Forms.{form, width, role_of, moves}
use Rattle.fresh.specs.Fresh.{Choice, items, writes, starts, stands, moved}
use Rattle.fresh.specs.Rounds.{all_short, jumps, Rounds, last, again, reaches, is_far, far_of, any, join, settle}
use Rattle.fresh.specs.Demand.{Fits, Includes, NoAlign}
use Rattle.fresh.proofs.Rounds.{rounds_unique}
use Rattle.fresh.specs.Fill.{part, fill_use, fill_uses, in_place, fill_field, fill_refs, fill_jump, fill_jumps, fill_pool, fill, assembled}
use Rattle.fresh.specs.Segments.{segments}
use Rattle.finish.specs.Refusals.{pool_bound_before, reloc_bound, all_bound, ref_clear, ref_reaches, why_not_laid, why_not_written, use_refusal, uses_refusal, why_not_in_place, why_unfit}
use Rattle.finish.specs.Finish.{relocated, relaxed, unrelaxed, placed_by}
use Rattle.finish.specs.Finish as finishing
use Rattle.wargnifla.specs.Boundary.{Lent, finish}
use Rattle.demands.specs.Reading.{Reads}
use Rattle.demands.specs.Demand2.{Bytes, UseMisses, ConstantMisses, IsPadding}
use Rattle.demands.specs.Boundary.{Answer, finished_code, word_of, offsets_of, pooled_in}
use Rattle.demands.proofs.Boundary.{c_finish_meets_the_demands}

-- numbers below 256 are bytes
pub bytes_of_lem : (l : List ℕ) → every (λ (b : ℕ). ltb b 256) l ≡ true → Bytes l
unfolding every
bytes_of_lem [] e i = omega arith
bytes_of_lem (b ∷ l) e zero = ltb-true b 256 (both_true (ltb b 256) (every (λ (x : ℕ). ltb x 256) l) e).0
bytes_of_lem (b ∷ l) e (suc i) = bytes_of_lem l (both_true (ltb b 256) (every (λ (x : ℕ). ltb x 256) l) e).1 i

-- On X64: a ref, a conditional jump, an alignment to 16 that may spend 10 bytes and one to 32 that may spend 5, and constants of 8 and 9 bytes that are
-- asked for in reverse order. Label 0 is bound at 16.
abbrev x64 : Lent
x64 =
    record {
      counts = bytes_of_all (arch_x64 ∷ 0 ∷ 0 ∷ 0 ∷ 16 ∷ 3 ∷ 3 ∷ 0 ∷ 1 ∷ 2 ∷ 2 ∷ 0 ∷ 0 ∷ []);
      code = replicate 16 0;
      labels = bytes_of_all (16 ∷ none ∷ none ∷ []);
      events = bytes_of_all (1 ∷ 4 ∷ 6 ∷ 0 ∷ 4 ∷ 2 ∷ 10 ∷ 6 ∷ 16 ∷ 10 ∷ 2 ∷ 16 ∷ 0 ∷ 32 ∷ 5 ∷ []);
      uses = [];
      refs = bytes_of_all (0 ∷ 0 ∷ 0 ∷ 4 ∷ []);
      constants =
          bytes_of_all (8 ∷ 2 ∷ []) ++ ((1 ∷ 2 ∷ 3 ∷ 4 ∷ 5 ∷ 6 ∷ 7 ∷ 8 ∷ []) ++ (replicate 56 0
          ++ (bytes_of_all (9 ∷ 1 ∷ []) ++ ((11 ∷ 12 ∷ 13 ∷ 14 ∷ 15 ∷ 16 ∷ 17 ∷ 18 ∷ 19 ∷ []) ++ replicate 55 0))));
      asked = bytes_of_all (1 ∷ 0 ∷ []);
      relocs = [];
    }

abbrev table : List Segment
table = replicate 5 (record { old_start = 0; old_end = 0; new_start = 0; new_end = 0 })

abbrev x64_answer : Answer
x64_answer = finish x64 table (replicate 40 0) (replicate 24 0)

abbrev x64_code : List ℕ
x64_code =
    0x10 ∷ 0 ∷ 0 ∷ 0 ∷ 0x74 ∷ 0x0A ∷ 0x66 ∷ 0x0F ∷ 0x1F ∷ 0x84 ∷ 0 ∷ 0 ∷ 0 ∷ 0 ∷ 0 ∷ 0x90 ∷ 11 ∷ 12 ∷ 13 ∷ 14 ∷ 15 ∷ 16 ∷ 17 ∷ 18 ∷ 19 ∷ 0x0F ∷ 0x1F ∷ 0x80 ∷ 0
    ∷ 0 ∷ 0 ∷ 0 ∷ 1 ∷ 2 ∷ 3 ∷ 4 ∷ 5 ∷ 6 ∷ 7 ∷ 8 ∷ []

-- what the demands say of it
record X64Meets : Type 0 where
  taken : x64_answer.0 ≡ 0
  -- the ref, of which 16 stands in the field, means label 0, at 16, plus 4
  ref : (base : ℕ) → rel32 (plus base 0) 16 ≡ plus base 20
  -- the jump at 4 is JE to label 0
  jump : (base : ℕ) → Reads (plus base 4) (0x74 ∷ 0x0A ∷ []) (On 4) (plus base 16)
  -- the alignment from 6 to 16, where 6 bytes were recorded, and the padding of the second constant of the pool, from 25 to 32
  align : AreNops (0x66 ∷ 0x0F ∷ 0x1F ∷ 0x84 ∷ 0 ∷ 0 ∷ 0 ∷ 0 ∷ 0 ∷ 0x90 ∷ [])
  pool : AreNops (0x0F ∷ 0x1F ∷ 0x80 ∷ 0 ∷ 0 ∷ 0 ∷ 0 ∷ [])
  -- the alignment to 16 spends just what it may; the one to 32, at 16, would need 16 and is skipped
  spent : Spends 16 10 6 16
  skipped : Spends 32 5 16 16
  -- and that claims it: any other end is refused, and so is padding with INT3
  spent·there : (end : ℕ) → 6 ≤ end → Spends 16 10 6 end → end ≡ 16
  skipped·there : (end : ℕ) → 16 ≤ end → Spends 32 5 16 end → end ≡ 16
  spent·not : Spends 16 10 6 6 → ⊥
  breaks : (l : List ℕ) → AreNops (0xCC ∷ l) → ⊥
  -- a fresh assembly that is told the long jumps has these 40 bytes and labels; one round was made
  long : Choice
  rounds : Rounds (pooled_in x64) (all_short (pooled_in x64).events) long 1
  size : 40 ≡ length (assembled (pooled_in x64) long)
  fresh : x64_code ≡ assembled (pooled_in x64) long
  offsets : (16 ∷ 16 ∷ 32 ∷ []) ≡ map (moved (pooled_in x64) long) (pooled_in x64).labels
  few : 1 ≤ 2

-- no second ref, and no constant before 16
abbrev x64_choice : Choice
x64_choice = false ∷ false ∷ false ∷ false ∷ false ∷ []

x64_clear : (j : ℕ) → ConstantMisses (moved (pooled_in x64) x64_choice) (pooled_in x64) 0 4 j
unfolding every all count naming over pick word_at nop.form nop.nops_by nop.nops padding_length padding_within decoded sign_extend range can_reach_delta patched condition_of event_of event_at standing is_alignment
    last_end form_fits event_fits keeps_events kept_only events_fit outside label_fits labels_fit uses_fit ref_fits refs_fit relocs_fit constant_fits constants_fit asked_fits asked_once
    is_asked order_fits entries_fit counts_fit within_limits pooled_one form width role_of moves items writes starts stands moved jumps reaches is_far far_of any join settle fill_field
    fill_refs fill_jump fill_jumps fill_pool fill assembled segments pool_bound_before reloc_bound all_bound ref_clear ref_reaches why_not_laid why_not_written why_unfit relocated relaxed
    placed_by finishing.finish finish
x64_clear zero known x from to low high = omega arith
x64_clear (suc zero) known x from to low high = omega arith
x64_clear (suc (suc j)) known x from to low high = let few : suc (suc j) < 2 = known in omega arith

x64_meets : X64Meets
unfolding every all count naming over pick word_at nop.form nop.nops_by nop.nops padding_length padding_within decoded sign_extend range can_reach_delta patched condition_of event_of event_at standing is_alignment
    last_end form_fits event_fits keeps_events kept_only events_fit outside label_fits labels_fit uses_fit ref_fits refs_fit relocs_fit constant_fits constants_fit asked_fits asked_once
    is_asked order_fits entries_fit counts_fit within_limits pooled_one form width role_of moves items writes starts stands moved jumps reaches is_far far_of any join settle fill_field
    fill_refs fill_jump fill_jumps fill_pool fill assembled segments pool_bound_before reloc_bound all_bound ref_clear ref_reaches why_not_laid why_not_written why_unfit relocated relaxed
    placed_by finishing.finish finish
x64_meets =
    let demands = c_finish_meets_the_demands x64 table (replicate 40 0) (replicate 24 0) (bytes_of_lem x64.counts refl) (bytes_of_lem x64.code refl) in
    let two = (demands.two refl).jumped refl in
    let three = demands.three refl refl in
    record {
      taken = refl;
      ref = λ base. two.refs 0 X86JmpRel32 (omega arith) refl (λ j later known. absurd (omega arith)) x64_clear base (omega arith);
      jump = λ base. two.jumps 0 (record { start = 4; len = 6; label = 0; cc = On 4 }) (omega arith) refl base;
      align = two.padding 1 (record { start = 10; len = 6; align = 16; most = 10 }) (omega arith) refl;
      pool = two.padding 4 (record { start = 25; len = 7; align = 8; most = default_most }) (omega arith) refl;
      spent = two.spends 1 (record { start = 10; len = 6; align = 16; most = 10 }) (omega arith) refl;
      skipped = two.spends 2 (record { start = 16; len = 0; align = 32; most = 5 }) (omega arith) refl;
      spent·there = λ end h s. ⊎_elim (λ (e : end % 16 ≡ 0). omega (arith, s.few)) (λ q. absurd (omega (arith, q.1 10 refl))) s.ends;
      skipped·there = λ end h s. ⊎_elim (λ (e : end % 32 ≡ 0). absurd (omega (arith, s.few))) (λ q. q.0) s.ends;
      spent·not = λ s. ⊎_elim (λ (e : 6 % 16 ≡ 0). omega (arith, e)) (λ q. omega (arith, q.1 10 refl)) s.ends;
      breaks = λ l. int3_pads_not (0xCC ∷ l) refl;
      long = three.choice;
      rounds = three.rounds;
      size = three.finished;
      fresh = three.bytes;
      offsets = three.offsets;
      few = three.few;
    }

-- Cases B and C of document 01: a jump over 128 zeros; and two jumps that cross each other, of which the first becomes long in the first round and, through
-- it, the second in the second.
abbrev case_b : Lent
case_b =
    record {
      counts = bytes_of_all (arch_x64 ∷ 0 ∷ 0 ∷ 0 ∷ 133 ∷ 1 ∷ 1 ∷ 0 ∷ 0 ∷ 0 ∷ 0 ∷ 0 ∷ 0 ∷ []);
      code = replicate 133 0;
      labels = bytes_of_all (133 ∷ []);
      events = bytes_of_all (1 ∷ 0 ∷ 5 ∷ 0 ∷ 16 ∷ []);
      uses = [];
      refs = [];
      constants = [];
      asked = [];
      relocs = [];
    }

abbrev case_c : Lent
case_c =
    record {
      counts = bytes_of_all (arch_x64 ∷ 0 ∷ 0 ∷ 0 ∷ 138 ∷ 2 ∷ 2 ∷ 0 ∷ 0 ∷ 0 ∷ 0 ∷ 0 ∷ 0 ∷ []);
      code = replicate 138 0;
      labels = bytes_of_all (135 ∷ 138 ∷ []);
      events = bytes_of_all (1 ∷ 0 ∷ 5 ∷ 0 ∷ 16 ∷ 1 ∷ 5 ∷ 5 ∷ 1 ∷ 16 ∷ []);
      uses = [];
      refs = [];
      constants = [];
      asked = [];
      relocs = [];
    }

abbrev b_answer : Answer
b_answer = finish case_b table (replicate 133 0) (replicate 24 0)

abbrev c_answer : Answer
c_answer = finish case_c table (replicate 138 0) (replicate 24 0)

-- what demand 3 says of them: a choice that omits one of the jumps does not fit
record LeastMeets : Type 0 where
  b_taken : b_answer.0 ≡ 0
  b_jump : (d : Choice) → get_or d 0 false ≡ false → Fits (pooled_in case_b) d → ⊥
  c_taken : c_answer.0 ≡ 0
  c_first : (d : Choice) → get_or d 0 false ≡ false → Fits (pooled_in case_c) d → ⊥
  c_second : (d : Choice) → get_or d 1 false ≡ false → Fits (pooled_in case_c) d → ⊥

least_meets : LeastMeets
unfolding every all count naming over pick word_at decoded sign_extend range can_reach_delta patched condition_of event_of event_at standing is_alignment
    last_end form_fits event_fits keeps_events kept_only events_fit outside label_fits labels_fit uses_fit refs_fit relocs_fit constants_fit asked_once
    order_fits entries_fit counts_fit within_limits form width role_of moves items writes starts stands moved jumps reaches is_far far_of any join settle fill_field
    fill_refs fill_jump fill_jumps fill_pool fill assembled segments pool_bound_before reloc_bound all_bound why_not_laid why_not_written why_unfit relocated relaxed
    placed_by finishing.finish finish NoAlign Includes
least_meets =
    let of·b = (c_finish_meets_the_demands case_b table (replicate 133 0) (replicate 24 0) (bytes_of_lem case_b.counts refl) (bytes_of_lem case_b.code refl)).three refl refl in
    let of·c = (c_finish_meets_the_demands case_c table (replicate 138 0) (replicate 24 0) (bytes_of_lem case_c.counts refl) (bytes_of_lem case_c.code refl)).three refl refl in
    let long·b : of·b.choice ≡ true ∷ [] = (rounds_unique of·b.rounds (again refl (last refl))).0 in
    let long·c : of·c.choice ≡ true ∷ true ∷ [] = (rounds_unique of·c.rounds (again refl (again refl (last refl)))).0 in
    record {
      b_taken = refl;
      b_jump = λ d short fits. true_is_not_false (sym (of·b.least (tt, tt) d fits 0 (ap (λ (c : Choice). get_or c 0 false) long·b)) ∙ short);
      c_taken = refl;
      c_first = λ d short fits. true_is_not_false (sym (of·c.least (tt, (tt, tt)) d fits 0 (ap (λ (c : Choice). get_or c 0 false) long·c)) ∙ short);
      c_second = λ d short fits. true_is_not_false (sym (of·c.least (tt, (tt, tt)) d fits 1 (ap (λ (c : Choice). get_or c 1 false) long·c)) ∙ short);
    }

-- On AArch64: B to label 0, at 12, and ADRP and ADD of a constant's label; 4 bytes of padding stand before the constant, at 16. ADD's field holds 4,095
-- beforehand. Two uses are open until the constant is pooled.
abbrev pub a64 : Lent
a64 =
    record {
      counts = bytes_of_all (arch_a64 ∷ 0 ∷ 0 ∷ 0 ∷ 12 ∷ 2 ∷ 0 ∷ 3 ∷ 0 ∷ 1 ∷ 1 ∷ 0 ∷ 2 ∷ []);
      code = bytes_of_all (0x14000000 ∷ 0x90000000 ∷ 0x913FFC00 ∷ []);
      labels = bytes_of_all (12 ∷ none ∷ []);
      events = [];
      uses = bytes_of_all (0 ∷ 0 ∷ 11 ∷ 4 ∷ 1 ∷ 14 ∷ 8 ∷ 1 ∷ 16 ∷ []);
      refs = [];
      constants = bytes_of_all (8 ∷ 1 ∷ []) ++ ((1 ∷ 2 ∷ 3 ∷ 4 ∷ 5 ∷ 6 ∷ 7 ∷ 8 ∷ []) ++ replicate 56 0);
      asked = bytes_of_all (0 ∷ []);
      relocs = [];
    }

abbrev pub a64_answer : Answer
a64_answer = finish a64 [] (replicate 24 0) (replicate 24 0)

-- what the demands say of it
record A64Meets : Type 0 where
  taken : a64_answer.0 ≡ 0
  code : finished_code a64_answer ≡ bytes_of_all (0x14000003 ∷ 0x90000000 ∷ 0x91004000 ∷ 0 ∷ []) ++ (1 ∷ 2 ∷ 3 ∷ 4 ∷ 5 ∷ 6 ∷ 7 ∷ 8 ∷ [])
  branch : (base : ℕ) → b (plus base 0) 0x14000003 ≡ plus base 12
  page : (base : ℕ) → base % 4096 ≡ 0 → adrp (plus base 4) 0x90000000 ≡ plus base 16 / 4096 * 4096
  place : (base : ℕ) → base % 4096 ≡ 0 → add_immediate 0x91004000 ≡ plus base 16 % 4096
  -- the padding from 12 to 16, and its third byte
  pads : IsPadding arch_a64 4 (0 ∷ 0 ∷ 0 ∷ 0 ∷ [])
  -- bits 31 to 26 of the branch, its opcode, are those that were recorded
  opcode : (i : ℕ) → i < 32 → covers 0 26 i ≡ false → bits i i 0x14000003 ≡ bits i i 0x14000000
  -- the labels' offsets
  offsets : offsets_of a64 a64_answer ≡ 12 ∷ 16 ∷ []
  third : get_or (finished_code a64_answer) 14 0 ≡ 0

-- no later use covers a use, none covers the padding, and the constant stands behind both
abbrev pub here : ℕ → ℕ
here offset = offset

after_first : (j : ℕ) → 0 < j → UseMisses (pooled_in a64) 0 4 j
unfolding keeps_events word_at decoded pooled_one nop.form nop.nops_by nop.nops padding_length
after_first zero later known x from to low high = omega arith
after_first (suc zero) later known x from to low high = omega arith
after_first (suc (suc zero)) later known x from to low high = omega arith
after_first (suc (suc (suc j))) later known x from to low high = let few : suc (suc (suc j)) < 3 = known in omega arith

pub after_second : (j : ℕ) → 1 < j → UseMisses (pooled_in a64) 4 4 j
unfolding keeps_events word_at decoded pooled_one nop.form nop.nops_by nop.nops padding_length
after_second zero later known x from to low high = omega arith
after_second (suc zero) later known x from to low high = omega arith
after_second (suc (suc zero)) later known x from to low high = omega arith
after_second (suc (suc (suc j))) later known x from to low high = let few : suc (suc (suc j)) < 3 = known in omega arith

after_third : (j : ℕ) → 2 < j → UseMisses (pooled_in a64) 8 4 j
unfolding keeps_events word_at decoded pooled_one nop.form nop.nops_by nop.nops padding_length
after_third j later known x from to low high = let few : j < 3 = known in omega arith

before_padding : (a n : ℕ) → 12 ≤ a → (i : ℕ) → UseMisses (pooled_in a64) a n i
unfolding keeps_events word_at decoded pooled_one nop.form nop.nops_by nop.nops padding_length
before_padding a n behind zero known x from to low high = omega arith
before_padding a n behind (suc zero) known x from to low high = omega arith
before_padding a n behind (suc (suc zero)) known x from to low high = omega arith
before_padding a n behind (suc (suc (suc j))) known x from to low high = let few : suc (suc (suc j)) < 3 = known in omega arith

pub behind_all : (a n : ℕ) → a + n ≤ 16 → (j : ℕ) → ConstantMisses here (pooled_in a64) a n j
unfolding keeps_events word_at decoded pooled_one nop.form nop.nops_by nop.nops padding_length
behind_all a n before zero known x from to low high = omega arith
behind_all a n before (suc j) known x from to low high = let few : suc j < 1 = known in omega arith

a64_meets : A64Meets
unfolding every all count naming over pick word_at padding_length padding_within decoded sign_extend range insert_bits can_reach can_reach_delta pages_reach reach_refusal patched held_addend condition_of event_of
    event_at standing last_end keeps_events kept_only events_fit outside label_fits labels_fit use_fits uses_fit refs_fit relocs_fit constant_fits constants_fit asked_fits asked_once is_asked order_fits
    entries_fit counts_fit within_limits pooled_one role_of moves fill_use fill_uses fill_pool in_place pool_bound_before reloc_bound all_bound use_refusal uses_refusal why_not_in_place why_unfit
    unrelaxed placed_by finishing.finish finish
a64_meets =
    let demands = c_finish_meets_the_demands a64 [] (replicate 24 0) (replicate 24 0) (bytes_of_lem a64.counts refl) (bytes_of_lem a64.code refl) in
    let two = (demands.two refl).straight refl in
    let uses = two.0.uses in
    let padded = two.1 0 (omega arith) in
    record {
      taken = refl;
      code = refl;
      branch = λ base. uses 0 A64Branch26 (omega arith) refl after_first (behind_all 0 4 (omega arith)) tt (λ e. absurd (omega arith)) base (omega arith);
      page = λ base loaded. uses 1 A64Adrp21 (omega arith) refl after_second (behind_all 4 4 (omega arith)) tt (λ e. absurd (omega arith)) base loaded;
      place = λ base loaded. uses 2 A64AddAbsLo12 (omega arith) refl after_third (behind_all 8 4 (omega arith)) refl (λ e. absurd (omega arith)) base loaded;
      opcode = two.0.keeps 0 A64Branch26 (omega arith) refl after_first (behind_all 0 4 (omega arith));
      offsets = demands.unmoved refl refl;
      pads = padded.whole (before_padding 12 4 (omega arith)) (behind_all 12 4 (omega arith));
      third = padded.each 14 (omega arith) (omega arith) (before_padding 14 1 (omega arith)) (behind_all 14 1 (omega arith));
    }

-- On X64: a use of code 0 whose field holds -4, of a label at 8.
abbrev minus_four : Lent
minus_four =
    record {
      counts = bytes_of_all (arch_x64 ∷ 0 ∷ 0 ∷ 0 ∷ 8 ∷ 1 ∷ 0 ∷ 1 ∷ 0 ∷ 0 ∷ 0 ∷ 0 ∷ 0 ∷ []);
      code = bytes_of_all (4294967292 ∷ 0 ∷ []);
      labels = bytes_of_all (8 ∷ []);
      events = [];
      uses = bytes_of_all (0 ∷ 0 ∷ 0 ∷ []);
      refs = [];
      constants = [];
      asked = [];
      relocs = [];
    }

record HeldMeets : Type 0 where
  taken : (finish minus_four [] (replicate 8 0) (replicate 24 0)).0 ≡ 0
  -- it means 4, in all 64 bits
  exact : (base : ℕ) → rel32 (plus base 0) 0 ≡ plus base 4

no_use_after : (j : ℕ) → 0 < j → UseMisses (pooled_in minus_four) 0 4 j
unfolding keeps_events word_at decoded pooled_one
no_use_after j later known x from to low high = let few : j < 1 = known in omega arith

no_constant : (j : ℕ) → ConstantMisses here (pooled_in minus_four) 0 4 j
unfolding keeps_events word_at decoded pooled_one
no_constant j known x from to low high = let few : j < 0 = known in omega arith

held_meets : HeldMeets
unfolding every all count naming over pick word_at padding_length padding_within decoded sign_extend range insert_bits can_reach can_reach_delta pages_reach reach_refusal patched held_addend condition_of event_of
    event_at standing last_end keeps_events kept_only events_fit outside label_fits labels_fit use_fits uses_fit refs_fit relocs_fit constant_fits constants_fit asked_fits asked_once is_asked order_fits
    entries_fit counts_fit within_limits pooled_one role_of moves fill_use fill_uses fill_pool in_place pool_bound_before reloc_bound all_bound use_refusal uses_refusal why_not_in_place why_unfit
    unrelaxed placed_by finishing.finish finish
held_meets =
    let demands = c_finish_meets_the_demands minus_four [] (replicate 8 0) (replicate 24 0) (bytes_of_lem minus_four.counts refl) (bytes_of_lem minus_four.code refl) in
    let two = (demands.two refl).straight refl in
    record {
      taken = refl;
      exact = λ base. two.0.exact 0 X86JmpRel32 (omega arith) refl refl no_use_after no_constant (omega arith) base (omega arith);
    }

-- On X86: a byte of code and a constant of 33 bytes, which is asked for; and the same where it is not.
abbrev wide : Lent
wide =
    record {
      counts = bytes_of_all (arch_x86 ∷ 0 ∷ 0 ∷ 0 ∷ 1 ∷ 1 ∷ 0 ∷ 0 ∷ 0 ∷ 1 ∷ 1 ∷ 0 ∷ 0 ∷ []);
      code = 0x90 ∷ [];
      labels = bytes_of_all (none ∷ []);
      events = [];
      uses = [];
      refs = [];
      constants = bytes_of_all (33 ∷ 0 ∷ []) ++ (replicate 33 1 ++ replicate 31 0);
      asked = bytes_of_all (0 ∷ []);
      relocs = [];
    }

abbrev unasked : Lent
unasked =
    record {
      counts = bytes_of_all (arch_x86 ∷ 0 ∷ 0 ∷ 0 ∷ 1 ∷ 0 ∷ 0 ∷ 0 ∷ 0 ∷ 1 ∷ 0 ∷ 0 ∷ 0 ∷ []);
      code = 0x90 ∷ [];
      labels = [];
      events = [];
      uses = [];
      refs = [];
      constants = bytes_of_all (33 ∷ none ∷ []) ++ (replicate 33 1 ++ replicate 31 0);
      asked = [];
      relocs = [];
    }

-- what is claimed of the constant, at 64, and of the alignment
record WideMeets : Type 0 where
  taken : (finish wide [] (replicate 97 0) (replicate 24 0)).0 ≡ 0
  stands : part (finished_code (finish wide [] (replicate 97 0) (replicate 24 0))) 64 33 ≡ replicate 33 1
  loaded : (base : ℕ) → base % 64 ≡ 0 → (base + 64) % 64 ≡ 0
  given : word_of (finish wide [] (replicate 97 0) (replicate 24 0)) 2 ≡ 64
  -- without it the least that may be given
  less : (m : ℕ) → 32 ≤ m → word_of (finish unasked [] (replicate 1 0) (replicate 24 0)) 2 ≤ m

wide_meets : WideMeets
unfolding every all count naming over pick word_at nop.form nop.nops_by nop.nops padding_length padding_within standing last_end keeps_events kept_only events_fit outside label_fits labels_fit uses_fit refs_fit relocs_fit
    constant_fits constants_fit asked_fits asked_once is_asked order_fits entries_fit counts_fit within_limits pooled_one code_alignment moves fill_uses fill_pool in_place pool_bound_before
    reloc_bound all_bound uses_refusal why_not_in_place why_unfit unrelaxed placed_by finishing.finish finish
wide_meets =
    let asks = (c_finish_meets_the_demands wide [] (replicate 97 0) (replicate 24 0) (bytes_of_lem wide.counts refl) (bytes_of_lem wide.code refl)).constants refl in
    let asks·not = (c_finish_meets_the_demands unasked [] (replicate 1 0) (replicate 24 0) (bytes_of_lem unasked.counts refl) (bytes_of_lem unasked.code refl)).constants refl in
    record {
      taken = refl;
      stands = asks.stands 0 (omega arith);
      loaded = λ base on. asks.loaded base 0 on (omega arith);
      given = refl;
      less = λ m h. asks·not.least m h (λ j known. absurd (omega arith));
    }

-- The kinds of relocation that an architecture takes, as include/wargnifla.h has them.
kinds_from : ℕ → ℕ → ℕ → List ℕ
kinds_from arch zero kind = []
kinds_from arch (suc n) kind = cond (foreign_reloc kind arch) (kinds_from arch n (suc kind)) (kind ∷ kinds_from arch n (suc kind))

relocation_kinds : (kinds_from arch_x86 28 0 ≡ 0 ∷ 1 ∷ 2 ∷ 3 ∷ 4 ∷ 5 ∷ 6 ∷ 9 ∷ 10 ∷ []) × (kinds_from arch_x64 28 0 ≡ 0 ∷ 1 ∷ 2 ∷ 3 ∷ 4 ∷ 5 ∷ 6 ∷ 9 ∷ 10 ∷ [])
    × (kinds_from arch_a64 28 0 ≡ 0 ∷ 1 ∷ 8 ∷ 11 ∷ 12 ∷ 13 ∷ 14 ∷ 15 ∷ 16 ∷ 17 ∷ 18 ∷ 19 ∷ 20 ∷ 21 ∷ [])
unfolding kinds_from foreign_reloc pick
relocation_kinds = (refl, refl, refl)
