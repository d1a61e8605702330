-- The code of a recording without a jump meets demand 2.
use mathlib.Core.Path.{◌≡◌, refl, sym, ap, ◌∙◌}
use mathlib.Core.Logic.{◌≢◌, ⊎_elim}
use mathlib.Core.Bool.{true}
use mathlib.Core.List.{List, ◌++◌, append_assoc}
use Prim.Native.Nat.{ℕ, zero, suc, ◌+◌, ◌-◌, ◌%◌, ◌≤◌, ◌<◌}
use native.Mathlib.Nat.{mod-lt}
use native.Mathlib.Omega.{arith}
use lib.ListN.{length, get_or, take, drop, replicate, length-take}
use lib.Seq.{get_or-take, get_or-drop}
use borrow.Author.Tests.{eq-eqb, ne_eqb}
use Rattle.seqs.proofs.Numbers.{eq_or_ne}
use Rattle.words.specs.Words.{word_at}
use Rattle.encoder.proofs.Reading.{nops_read}
use Rattle.fields.specs.declared.LabelUse.{LabelUse}
use Rattle.fields.specs.declared.LabelUse.TheVariants.{
  X86JmpRel32,
  X86BranchRel8,
  A64Branch14,
  A64Branch19,
  A64Branch26,
  A64Ldr19,
  A64Adr21,
  A64Adrp21,
  A64AddAbsLo12,
}
use Rattle.fields.specs.Words64.{modulus, plus, minus, sign_extend}
use Rattle.fields.specs.Bits.{bits}
use Rattle.fields.specs.Kinds.{Use, code_of, patch_size, decoded}
use Rattle.fields.specs.Reach.{can_reach, can_reach_delta}
use Rattle.fields.specs.Patch.{held_addend, patched_use}
use Rattle.fields.specs.Meaning.{meaning, demanded, Clear}
use Rattle.fields.proofs.Signed.{true_range, minus_minus}
use Rattle.fields.proofs.Fields.{Field, field_means, field_outside_stays, use_adds_held}
use Rattle.relax.specs.declared.Alignment.{Alignment}
use Rattle.relax.specs.declared.LayoutEvent.TheVariants.{Align}
use Rattle.buffer.specs.State.{none}
use Rattle.buffer.specs.Calls.{padding}
use Rattle.buffer.proofs.Appends.{padding_length_lem}
use Rattle.recording.specs.View as tables
use Rattle.fresh.specs.Pooled.{Pooled, pooled_one, asked_constant, pooled_to, pooled}
use Rattle.fresh.specs.Fill.{part, fill_uses, in_place}
use Rattle.fresh.proofs.Fill.{length_fill_uses, length_in_place}
use Rattle.demands.specs.Demand2.{Bytes, use_of, event_of, SpendsAsRecorded, UseMisses, ConstantMisses, Means, Keeps, Signed32, held_by, InPlace, IsPadding, pad_start, pad_length, Padded, PoolPadded}
use Rattle.demands.proofs.Kept.{length_part, uses_kept, pool_kept, use_filled_lem}
use Rattle.demands.proofs.Placing.{part_between}
use Rattle.demands.proofs.Bytes.{bytes_part, bytes_filled, pooled_arch}

abbrev here : ℕ → ℕ
here offset = offset

-- what holds of a pooled recording without a jump that finish does not refuse
pub record Reaching (p : Pooled) : Type 0 where
  pub bytes : Bytes p.code
  pub recorded : length p.code < 4294967296
  pub labels : (l : ℕ) → get_or p.labels l none < modulus
  pub within : (i : ℕ) (k : LabelUse) → i < length p.uses → decoded (use_of p i).code ≡ Use k → (use_of p i).offset + patch_size k ≤ length p.code
  pub reach : (i : ℕ) (k : LabelUse) → i < length p.uses → decoded (use_of p i).code ≡ Use k
      → can_reach k (use_of p i).offset (get_or p.labels (use_of p i).label none) ≡ true
  pub spends : (i : ℕ) (a : Alignment) → i < length p.events → event_of p i ≡ Align a → SpendsAsRecorded a

-- a field of code 0 that held 0 adds nothing, nor does one of another code
nothing_held : (k : LabelUse) (held : List ℕ) → (code_of k ≡ 0 → word_at held 0 ≡ 0) → held_addend k held ≡ 0
unfolding held_addend sign_extend
nothing_held k held h =
    ⊎_elim
    (λ (e : code_of k ≡ 0). rw (e, h e) refl)
    (λ (ne : code_of k ≢ 0). rw (ne_eqb (code_of k) 0 ne) refl)
    (eq_or_ne (code_of k) 0)

adds_held : (k : LabelUse) (base offset label : ℕ) (held : List ℕ) → code_of k ≡ 0 → Field k held → offset < 4294967296
    → meaning k (plus base offset) (word_at (patched_use k offset label held) 0) % 4294967296
    ≡ demanded k (plus base (plus label (sign_extend 32 (word_at held 0)))) % 4294967296
adds_held X86JmpRel32 base offset label held e f h = use_adds_held base offset label held f h
adds_held X86BranchRel8 base offset label held e f h = absurd (omega arith)
adds_held A64Branch14 base offset label held e f h = absurd (omega arith)
adds_held A64Branch19 base offset label held e f h = absurd (omega arith)
adds_held A64Branch26 base offset label held e f h = absurd (omega arith)
adds_held A64Ldr19 base offset label held e f h = absurd (omega arith)
adds_held A64Adr21 base offset label held e f h = absurd (omega arith)
adds_held A64Adrp21 base offset label held e f h = absurd (omega arith)
adds_held A64AddAbsLo12 base offset label held e f h = absurd (omega arith)

adds_exactly : (k : LabelUse) (base offset label : ℕ) (held : List ℕ) → code_of k ≡ 0 → Field k held → offset < 4294967296
    → Signed32 (minus (plus label (sign_extend 32 (word_at held 0))) (offset + 4))
    → meaning k (plus base offset) (word_at (patched_use k offset label held) 0) ≡ demanded k (plus base (plus label (sign_extend 32 (word_at held 0))))
unfolding held_addend can_reach can_reach_delta
adds_exactly X86JmpRel32 base offset label held e f h small =
    let goal = plus label (sign_extend 32 (word_at held 0)) in
    let ends : plus offset 4 ≡ offset + 4 = omega arith in
    let end : minus (minus goal offset) 4 ≡ minus goal (offset + 4) = minus_minus goal offset 4 (omega arith) (omega arith) ∙ ap (minus goal) ends in
    field_means X86JmpRel32 base offset goal held f (omega arith) (mod-lt (label + sign_extend 32 (word_at held 0)) (omega arith)) (omega arith) tt
    (rw end (true_range 2147483648 2147483647 (minus goal (offset + 4)) (omega arith)))
adds_exactly X86BranchRel8 base offset label held e f h small = absurd (omega arith)
adds_exactly A64Branch14 base offset label held e f h small = absurd (omega arith)
adds_exactly A64Branch19 base offset label held e f h small = absurd (omega arith)
adds_exactly A64Branch26 base offset label held e f h small = absurd (omega arith)
adds_exactly A64Ldr19 base offset label held e f h small = absurd (omega arith)
adds_exactly A64Adr21 base offset label held e f h small = absurd (omega arith)
adds_exactly A64Adrp21 base offset label held e f h small = absurd (omega arith)
adds_exactly A64AddAbsLo12 base offset label held e f h small = absurd (omega arith)

abbrev no_use : tables.Use
no_use = record { offset = 0; label = 0; code = 0 }

module _ (p : Pooled) where
  -- a part that no constant covers
  constants_stay : (a n : ℕ) → ((j : ℕ) → ConstantMisses here p a n j) → part (in_place p) a n ≡ part (fill_uses p.labels p.uses p.code) a n
  unfolding in_place
  constants_stay a n miss = pool_kept here p.pool _ a n _ miss

  -- a part that no use and no constant covers
  pub all_stay : (a n : ℕ) → ((j : ℕ) → UseMisses p a n j) → ((j : ℕ) → ConstantMisses here p a n j) → part (in_place p) a n ≡ part p.code a n
  all_stay a n uses constants = constants_stay a n constants ∙ uses_kept p.labels p.uses p.code a n _ uses

module _ (p : Pooled) (reaching : Reaching p) where
  held_field : (i : ℕ) (k : LabelUse) → i < length p.uses → decoded (use_of p i).code ≡ Use k → Field k (held_by p i k)
  held_field i k h is =
      record {
        size = length_part _ (use_of p i).offset (patch_size k) (rw (length_fill_uses p.labels (take i p.uses) p.code) (reaching.within i k h is));
        small = bytes_part _ (use_of p i).offset (patch_size k) (bytes_filled p.labels (take i p.uses) p.code reaching.bytes);
      }

  -- the finished field of a use
  field_is : (i : ℕ) (k : LabelUse) → i < length p.uses → decoded (use_of p i).code ≡ Use k
      → ((j : ℕ) → i < j → UseMisses p (use_of p i).offset (patch_size k) j)
      → ((j : ℕ) → ConstantMisses here p (use_of p i).offset (patch_size k) j)
      → part (in_place p) (use_of p i).offset (patch_size k)
      ≡ patched_use k (use_of p i).offset (get_or p.labels (use_of p i).label none) (held_by p i k)
  field_is i k h is uses constants =
      constants_stay p (use_of p i).offset (patch_size k) constants
      ∙ use_filled_lem p.labels p.uses p.code _ i k h is (reaching.within i k h is) uses

  use_means : (i : ℕ) (k : LabelUse) → i < length p.uses → decoded (use_of p i).code ≡ Use k
      → ((j : ℕ) → i < j → UseMisses p (use_of p i).offset (patch_size k) j)
      → ((j : ℕ) → ConstantMisses here p (use_of p i).offset (patch_size k) j)
      → Clear k (word_at (held_by p i k) 0) → (code_of k ≡ 0 → word_at (held_by p i k) 0 ≡ 0)
      → Means k (use_of p i).offset (get_or p.labels (use_of p i).label none) (part (in_place p) (use_of p i).offset (patch_size k))
  use_means i k h is uses constants clear held base loaded =
      let offset = (use_of p i).offset in
      let label = get_or p.labels (use_of p i).label none in
      let bytes = held_by p i k in
      let alone : plus label (held_addend k bytes) ≡ label =
      ap (plus label) (nothing_held k bytes held) ∙ omega (arith, reaching.labels (use_of p i).label) in
      rw (field_is i k h is uses constants, alone)
      (field_means k base offset label bytes (held_field i k h is)
      (omega (arith, reaching.within i k h is, reaching.recorded)) (reaching.labels (use_of p i).label) loaded clear (reaching.reach i k h is))

  use_adds : (i : ℕ) (k : LabelUse) → i < length p.uses → decoded (use_of p i).code ≡ Use k → code_of k ≡ 0
      → ((j : ℕ) → i < j → UseMisses p (use_of p i).offset (patch_size k) j)
      → ((j : ℕ) → ConstantMisses here p (use_of p i).offset (patch_size k) j)
      → (base : ℕ) → meaning k (plus base (use_of p i).offset) (word_at (part (in_place p) (use_of p i).offset (patch_size k)) 0) % 4294967296
      ≡ demanded k (plus base (plus (get_or p.labels (use_of p i).label none) (sign_extend 32 (word_at (held_by p i k) 0)))) % 4294967296
  use_adds i k h is none-code uses constants base =
      let offset = (use_of p i).offset in
      let label = get_or p.labels (use_of p i).label none in
      ap (λ (l : List ℕ). meaning k (plus base offset) (word_at l 0) % 4294967296) (field_is i k h is uses constants)
      ∙ adds_held k base offset label (held_by p i k) none-code (held_field i k h is) (omega (arith, reaching.within i k h is, reaching.recorded))

  use_exact : (i : ℕ) (k : LabelUse) → i < length p.uses → decoded (use_of p i).code ≡ Use k → code_of k ≡ 0
      → ((j : ℕ) → i < j → UseMisses p (use_of p i).offset (patch_size k) j)
      → ((j : ℕ) → ConstantMisses here p (use_of p i).offset (patch_size k) j)
      → Signed32 (minus (plus (get_or p.labels (use_of p i).label none) (sign_extend 32 (word_at (held_by p i k) 0))) ((use_of p i).offset + 4))
      → Means k (use_of p i).offset (plus (get_or p.labels (use_of p i).label none) (sign_extend 32 (word_at (held_by p i k) 0)))
      (part (in_place p) (use_of p i).offset (patch_size k))
  use_exact i k h is none-code uses constants small base loaded =
      let offset = (use_of p i).offset in
      let label = get_or p.labels (use_of p i).label none in
      ap (λ (l : List ℕ). meaning k (plus base offset) (word_at l 0)) (field_is i k h is uses constants)
      ∙ adds_exactly k base offset label (held_by p i k) none-code (held_field i k h is) (omega (arith, reaching.within i k h is, reaching.recorded)) small

  use_keeps : (i : ℕ) (k : LabelUse) → i < length p.uses → decoded (use_of p i).code ≡ Use k
      → ((j : ℕ) → i < j → UseMisses p (use_of p i).offset (patch_size k) j)
      → ((j : ℕ) → ConstantMisses here p (use_of p i).offset (patch_size k) j)
      → Keeps k (held_by p i k) (part (in_place p) (use_of p i).offset (patch_size k))
  use_keeps i k h is uses constants b within outside =
      let offset = (use_of p i).offset in
      let label = get_or p.labels (use_of p i).label none in
      ap (λ (l : List ℕ). bits b b (word_at l 0)) (field_is i k h is uses constants)
      ∙ field_outside_stays k offset (plus label (held_addend k (held_by p i k))) b (held_by p i k) (held_field i k h is) within outside

  use_held : (i : ℕ) (k : LabelUse) → ((j : ℕ) → j < i → UseMisses p (use_of p i).offset (patch_size k) j)
      → held_by p i k ≡ part p.code (use_of p i).offset (patch_size k)
  use_held i k misses =
      uses_kept p.labels (take i p.uses) p.code (use_of p i).offset (patch_size k) no_use
      (λ j h.
      let few : j < i = omega (arith, simp length-take at h) in
      let known : j < length p.uses = omega (arith, simp length-take at h) in
      rw (get_or-take i p.uses j no_use few) (misses j few known))

  -- Every field of the code of a recording without a jump.
  pub in_place_means : InPlace p (in_place p)
  in_place_means = record { uses = use_means; adds = use_adds; exact = use_exact; keeps = use_keeps; held = use_held; inside = λ i k h is. rw (length_in_place p) (reaching.within i k h is); spends = reaching.spends; copied = all_stay p }

-- the padding before constant j stands in the pooled code
record PadStands (arch : ℕ) (v : tables.View) (j n : ℕ) : Type 0 where
  after : List ℕ
  is : (pooled_to arch v n).code ≡ (pooled_to arch v j).code ++ (padding arch (pad_length arch v j) ++ after)

padded : (arch : ℕ) (v : tables.View) (j n : ℕ) → j < n → PadStands arch v j n
unfolding pooled_one
padded arch v j zero h = absurd (omega arith)
padded arch v j (suc n) h =
    ⊎_elim
    (λ (e : j ≡ n).
    rw e (record { after = replicate (length (asked_constant v n).bytes) 0; is = rw (pooled_arch arch v n) refl }))
    (λ (ne : j ≢ n).
    let q = padded arch v j n (omega arith) in
    let more : List ℕ = padding arch (pad_length arch v n) ++ replicate (length (asked_constant v n).bytes) 0 in
    record {
      after = q.after ++ more;
      is =
          rw (pooled_arch arch v n)
          (ap (λ (l : List ℕ). l ++ more) q.is
          ∙ append_assoc (pooled_to arch v j).code (padding arch (pad_length arch v j) ++ q.after) more
          ∙ ap (λ (l : List ℕ). (pooled_to arch v j).code ++ l) (append_assoc (padding arch (pad_length arch v j)) q.after more));
    })
    (eq_or_ne j n)

-- what pads is padding
is_padding : (arch n : ℕ) (bytes : List ℕ) → bytes ≡ padding arch n → IsPadding arch n bytes
is_padding arch n bytes e =
    record {
      nops = λ x86. rw (e, ne_eqb arch 6 x86) (nops_read n);
      zeros = λ a64. e ∙ rw (eq-eqb arch 6 a64) refl;
    }

-- byte x of the n bytes from a on
part_byte : (l : List ℕ) (a n x : ℕ) → a ≤ x → x < a + n → get_or (part l a n) (x - a) 0 ≡ get_or l x 0
part_byte l a n x from to =
    let at : a + (x - a) ≡ x = omega arith in
    get_or-take n (drop a l) (x - a) 0 (omega arith) ∙ get_or-drop a l (x - a) 0 ∙ ap (λ (i : ℕ). get_or l i 0) at

-- What is padding in the pooled code is padding in the finished one, byte by byte, where nothing covers it.
pub stays_padded : (p : Pooled) (arch a n : ℕ) → part p.code a n ≡ padding arch n → Padded p arch a n (in_place p)
stays_padded p arch a n is =
    record {
      each = λ x from to uses constants.
          sym (part_byte (in_place p) x 1 x (omega arith) (omega arith))
          ∙ ap (λ (l : List ℕ). get_or l (x - x) 0) (all_stay p x 1 uses constants)
          ∙ part_byte p.code x 1 x (omega arith) (omega arith)
          ∙ sym (part_byte p.code a n x from to)
          ∙ ap (λ (l : List ℕ). get_or l (x - a) 0) is;
      whole = λ uses constants. is_padding arch n (part (in_place p) a n) (all_stay p a n uses constants ∙ is);
    }

-- The padding of every pooled constant.
pub pool_padded : (arch : ℕ) (v : tables.View) → PoolPadded arch v (in_place (pooled arch v))
pool_padded arch v j h =
    let q = padded arch v j (length v.asked) h in
    stays_padded (pooled arch v) arch (pad_start arch v j) (pad_length arch v j)
    (part_between (pooled arch v).code (pooled_to arch v j).code (padding arch (pad_length arch v j)) q.after (pad_start arch v j) (pad_length arch v j) q.is refl
    (sym (padding_length_lem arch (pad_length arch v j))))
