-- What recording calls have written stays: later calls, pooling and, without a jump, finish leave the padding of an alignment.
use mathlib.Core.Path.{◌≡◌, refl, sym, ap, ◌∙◌, subst}
use mathlib.Core.Logic.{⊎_elim}
use mathlib.Core.Bool.{true, false}
use mathlib.Core.List.{List, [], ◌∷◌, ◌++◌, append_assoc, append-nil}
use Prim.Native.Nat.{ℕ, zero, suc, ◌+◌, ◌/◌}
use native.Mathlib.Omega.{arith}
use lib.Dec.{eqb, ltb}
use lib.ListN.{length, take, drop, take-append-drop}
use lib.Seq.{length-take-le}
use borrow.Author.Tests.{eqb-true, eqb-false}
use Rattle.seqs.specs.Over.{over}
use Rattle.seqs.proofs.Picking.{yes_eq}
use Rattle.seqs.proofs.Overwrites.{part_before}
use Rattle.encoder.specs.Padding.{padding_within, Spends}
use Rattle.encoder.proofs.Padding.{padding_spends}
use Rattle.relax.specs.declared.Segment.{Segment}
use Rattle.relax.specs.Events.{event_size}
use Rattle.buffer.specs.declared.CodeBuffer.{CodeBuffer}
use Rattle.buffer.specs.State.{Recorded, Made, keeps_events, with_refusal, refusing}
use Rattle.buffer.specs.Refusals.{why_align}
use Rattle.buffer.specs.Calls.{put_bytes, get_label, bind_label, padding, aligned_events, align_to, use_label, record_ref, record_jump, add_constant, asked_first, constant_label, add_reloc}
use Rattle.buffer.proofs.Appends.{padding_length_lem}
use Rattle.buffer.proofs.Keeping.{keeps_or_not}
use Rattle.buffer.proofs.Accepted.{align_accepted}
use Rattle.recording.specs.Calls.{
  Recording,
  Word,
  Call,
  bytes,
  new_label,
  bind,
  align,
  use_of_label,
  ref,
  jump,
  constant,
  label_of_constant,
  relocation,
  with_buffer,
  with_code_table,
  with_label_table,
  with_event_table,
  with_use_table,
  with_ref_table,
  with_constant_table,
  with_asked_table,
  with_reloc_table,
  after,
  answered,
}
use Rattle.recording.specs.Sequences.{Leads, here, calls, grows}
use Rattle.recording.specs.Sound.{Sound}
use Rattle.recording.specs.View.{View, view}
use Rattle.recording.proofs.Steps.{either}
use Rattle.recording.proofs.Laws.{see_align, see_align_elsewhere}
use Rattle.fresh.specs.Pooled.{pooled_one, pooled_to, pooled}
use Rattle.fresh.specs.Forms.{moves}
use Rattle.finish.specs.Finish.{finish}
use Rattle.finish.proofs.PooledInOrder.{alignment_range}
use Rattle.demands.specs.Demand2.{Padded, AlignPadded, finished_code}
use Rattle.demands.proofs.Placing.{part_between}
use Rattle.demands.proofs.Staying.{stays_padded}
use Rattle.demands.proofs.Answers.{chosen_zero, finish_answered}

-- the second list begins with the first
pub record Begins (l m : List ℕ) : Type 0 where
  pub more : List ℕ
  pub is : m ≡ l ++ more

begins_same : (l : List ℕ) → Begins l l
begins_same l = record { more = []; is = sym (append-nil l) }

begins_on : (k l m : List ℕ) → Begins k l → Begins l m → Begins k m
begins_on k l m a b =
    record { more = a.more ++ b.more; is = b.is ∙ ap (λ (x : List ℕ). x ++ b.more) a.is ∙ append_assoc k a.more b.more }

take_less : (l : List ℕ) (a n : ℕ) → take a (take (a + n) l) ≡ take a l
take_less l zero n = refl
take_less [] (suc a) n = let e : suc a + n ≡ suc (a + n) = omega arith in rw e refl
take_less (x ∷ l) (suc a) n = let e : suc a + n ≡ suc (a + n) = omega arith in rw e (ap (λ (t : List ℕ). x ∷ t) (take_less l a n))

-- what is written at the end of the code leaves what stands before it
begins_over : (l ys : List ℕ) (a n : ℕ) → Begins (take a l) (take (a + n) (over l a ys))
begins_over l ys a n =
    let all = take (a + n) (over l a ys) in
    record {
      more = drop a all;
      is =
          sym (take-append-drop a all)
          ∙ ap (λ (x : List ℕ). x ++ drop a all) (take_less (over l a ys) a n ∙ part_before l a ys 0 a (omega arith));
    }

refusing_begins : (r : Recording) (why : ℕ) → Begins (view r).code (view (with_buffer r (refusing r.buffer why))).code
unfolding refusing
refusing_begins r why =
    either (ltb why 6) (λ (b : CodeBuffer). Begins (view r).code (view (with_buffer r b)).code) r.buffer (with_refusal r.buffer why)
    (begins_same (view r).code) (begins_same (view r).code)

-- No call changes code that has been recorded.
call_begins : (c : Call) (r : Recording) → Begins (view r).code (view (after c r)).code
unfolding put_bytes get_label bind_label align_to use_label record_ref record_jump add_constant asked_first constant_label add_reloc
call_begins (bytes l) r =
    either _ (λ (a : Recorded × List ℕ). Begins (view r).code (view (with_code_table r a.0.buffer a.1)).code) _ _
    (begins_over r.code l r.buffer.code (length l)) (refusing_begins r _)
call_begins new_label r =
    either _ (λ (a : Made × List ℕ). Begins (view r).code (view (with_label_table r a.0.buffer a.1)).code) _ _
    (begins_same (view r).code) (refusing_begins r _)
call_begins (bind l) r =
    either _ (λ (a : Recorded × List ℕ). Begins (view r).code (view (with_label_table r a.0.buffer a.1)).code) _ _
    (begins_same (view r).code) (begins_same (view r).code)
call_begins (align m most) r =
    either _
    (λ (a : Recorded × (List ℕ × List ℕ)).
    Begins (view r).code (view (with_event_table (with_code_table r a.0.buffer a.1.0) a.0.buffer a.1.1)).code)
    _ _
    (begins_over r.code (padding r.buffer.arch (padding_within r.buffer.code m.value most.value)) r.buffer.code (padding_within r.buffer.code m.value most.value))
    (refusing_begins r _)
call_begins (use_of_label o l c) r =
    either _ (λ (a : Recorded × List ℕ). Begins (view r).code (view (with_use_table r a.0.buffer a.1)).code) _ _
    (begins_same (view r).code) (refusing_begins r _)
call_begins (ref o l c d) r =
    let P : Recorded × List ℕ → Type 0 = λ a. Begins (view r).code (view (with_ref_table r a.0.buffer a.1)).code in
    either _ P _ _ (either _ P _ _ (begins_same (view r).code) (begins_same (view r).code)) (refusing_begins r _)
call_begins (jump p n l c) r =
    let P : Recorded × List ℕ → Type 0 = λ a. Begins (view r).code (view (with_event_table r a.0.buffer a.1)).code in
    either _ P _ _ (either _ P _ _ (begins_same (view r).code) (begins_same (view r).code)) (refusing_begins r _)
call_begins (constant l) r =
    either _ (λ (a : Made × List ℕ). Begins (view r).code (view (with_constant_table r a.0.buffer a.1)).code) _ _
    (begins_same (view r).code) (refusing_begins r _)
call_begins (label_of_constant n) r =
    let P : Made × (List ℕ × (List ℕ × List ℕ)) → Type 0 =
    λ a. Begins (view r).code (view (with_label_table (with_asked_table (with_constant_table r a.0.buffer a.1.0) a.1.1.0) a.0.buffer a.1.1.1)).code in
    either _ P _ _
    (either _ P _ _ (either _ P _ _ (refusing_begins r 11) (begins_same (view r).code)) (begins_same (view r).code))
    (refusing_begins r _)
call_begins (relocation o k t d) r =
    either _ (λ (a : Recorded × List ℕ). Begins (view r).code (view (with_reloc_table r a.0.buffer a.1)).code) _ _
    (begins_same (view r).code) (refusing_begins r _)

-- Nor does growth: what a recording leads to begins with its code.
pub leads_begin : (r s : Recording) → Leads r s → Begins (view r).code (view s).code
leads_begin r s here = begins_same (view r).code
leads_begin r s (calls c t before) = begins_on (view r).code (view t).code (view (after c t)).code (leads_begin r t before) (call_begins c t)
leads_begin r s (grows t u before growth) =
    begins_on (view r).code (view t).code (view u).code (leads_begin r t before) (record { more = []; is = rw growth.counts growth.code.same ∙ sym (append-nil (view t).code) })

-- Nor does pooling.
pub pooled_begins : (arch : ℕ) (v : View) (n : ℕ) → Begins v.code (pooled_to arch v n).code
unfolding pooled_one
pooled_begins arch v zero = begins_same v.code
pooled_begins arch v (suc n) =
    begins_on v.code (pooled_to arch v n).code (pooled_to arch v (suc n)).code (pooled_begins arch v n) (record { more = _; is = refl })

-- an alignment that answers 0 was not turned down
taken : (r : Recording) (m most : Word) → answered (align m most) r ≡ 0 → why_align r.buffer (length r.code) (length r.events / event_size) m.value most.value ≡ 0
unfolding align_to
taken r m most e =
    let why = why_align r.buffer (length r.code) (length r.events / event_size) m.value most.value in
    eqb-true why 0 (chosen_zero (λ (x : Recorded × (List ℕ × List ℕ)). x.0.refusal) (eqb why 0) _ _ (λ q. eqb-false why 0 q) e)

-- On every architecture: from the offset before it to the offset after it an alignment ends on its multiple, or is empty where that would have taken more
-- than it may spend; it never spends more.
pub recorded_spends : (r : Recording) (m most : Word) → answered (align m most) r ≡ 0
    → Spends m.value most.value r.buffer.code (after (align m most) r).buffer.code
unfolding align_to aligned_events
recorded_spends r m most e =
    let b = r.buffer in
    let why = taken r m most e in
    rw (yes_eq _ 0 _ _ why) (padding_spends b.code m.value most.value (alignment_range m.value (align_accepted why).aligned).0)

-- an alignment that is not turned down pads
aligned : (r : Recording) (m most : Word) → answered (align m most) r ≡ 0
    → (view (after (align m most) r)).code ≡ (view r).code ++ padding r.buffer.arch (padding_within r.buffer.code m.value most.value)
aligned r m most e =
    let zero = taken r m most e in
    ⊎_elim
    (λ (kept : keeps_events r.buffer.arch ≡ true). ap (λ (v : View). v.code) (see_align r m most zero kept))
    (λ (other : keeps_events r.buffer.arch ≡ false). ap (λ (v : View). v.code) (see_align_elsewhere r m most zero other))
    (keeps_or_not r.buffer.arch)

-- Without a jump: the padding of an alignment recorded by a call, whatever calls and growth follow, byte by byte where no use and no constant covers it.
pub recorded_padding : (r : Recording) → Sound r → (m most : Word) → answered (align m most) r ≡ 0 → (f : Recording) → Leads (after (align m most) r) f
    → (ss : List Segment) (output : List ℕ) → (finish f ss output).0.refusal ≡ 0 → moves (pooled f.buffer.arch (view f)).events ≡ false
    → AlignPadded r m.value most.value (pooled f.buffer.arch (view f)) (finished_code f ss output)
recorded_padding r s m most e f later ss output done none =
    let arch = f.buffer.arch in
    let v = view f in
    let p = pooled arch v in
    let start = r.buffer.code in
    let n = padding_within start m.value most.value in
    let pad = padding r.buffer.arch n in
    let on =
    begins_on (view (after (align m most) r)).code v.code p.code (leads_begin (after (align m most) r) f later) (pooled_begins arch v (length v.asked)) in
    let is : p.code ≡ (view r).code ++ (pad ++ on.more) =
    on.is ∙ ap (λ (l : List ℕ). l ++ on.more) (aligned r m most e) ∙ append_assoc (view r).code pad on.more in
    subst (Padded p r.buffer.arch start n) (sym ((finish_answered f ss output done).straight none).is)
    (stays_padded p r.buffer.arch start n
    (part_between p.code (view r).code pad on.more start n is (sym (length-take-le start r.code s.code.room)) (sym (padding_length_lem r.buffer.arch n))))
