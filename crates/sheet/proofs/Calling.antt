-- Each kind of call, made by the program, is the call of the definition: whatever the tables hold that it is not lent.
use mathlib.Core.Path.{◌≡◌, refl, sym, ap, ◌∙◌}
use mathlib.Core.Logic.{◌≢◌, ⊎_elim}
use mathlib.Core.List.{List}
use Prim.Native.Nat.{ℕ, ◌+◌, ◌-◌, ◌≤◌, ◌<◌, min}
use native.Mathlib.Nat.{mod-eq_of_lt}
use native.Mathlib.Omega.{arith}
use lib.ListN.{length, take, drop, length-drop}
use lib.Seq.{take_all}
use Rattle.seqs.specs.Pick.{pick}
use Rattle.seqs.proofs.Numbers.{lt_or_ge}
use Rattle.seqs.proofs.Picking.{yes_eq, no_eq}
use Rattle.words.specs.Words.{word_at}
use Rattle.fields.specs.Words64.{sign_extend}
use Rattle.buffer.specs.declared.CodeBuffer.{CodeBuffer}
use Rattle.buffer.specs.State.{Recorded, Made}
use Rattle.buffer.specs.Calls.{put_bytes, get_label, bind_label, align_to, use_label, record_ref, record_jump, add_constant, constant_label, add_reloc}
use Rattle.recording.specs.Calls.{Recording}
use Rattle.checks.specs.Lent.{recording_of}
use Rattle.sheet.specs.Run.{word, most_in, signed_word, bytes_in, call_of, called}
use Rattle.sheet_form.specs.Form.{argument_size, most_bytes}

-- a word of an argument, as the program reads it
pub as_word : (w : ℕ) (arguments : List ℕ) (k : ℕ) → w ≡ word_at arguments k → w < 4294967296 → w ≡ (word arguments k).value
as_word w arguments k e small = rw (← e) (sym (mod-eq_of_lt small))

-- the most that an alignment may spend, as the program reads it
pub as_default : (arguments : List ℕ) → word_at arguments 1 ≡ 0 → 4095 ≡ (most_in arguments).value
as_default arguments e = rw (yes_eq (word_at arguments 1) 0 4095 (word_at arguments 1) e) refl

pub as_most : (w : ℕ) (arguments : List ℕ) → w ≡ word_at arguments 1 → w ≢ 0 → w < 4294967296 → w ≡ (most_in arguments).value
as_most w arguments e some small = rw (← e, no_eq w 0 4095 w some) (sym (mod-eq_of_lt small))

pub as_signed : (d w : ℕ) (arguments : List ℕ) (k : ℕ) → d ≡ sign_extend 32 w → w ≡ word_at arguments k → d < 18446744073709551616
    → d ≡ (signed_word arguments k).value
as_signed d w arguments k e f small = rw (← f, ← e) (sym (mod-eq_of_lt small))

-- the bytes behind a count, of which there is room for 12
pub counted_bytes : (arguments : List ℕ) (n : ℕ) → length arguments ≡ argument_size → n ≡ min (word_at arguments 0) most_bytes
    → take (4 + n - 4) (drop 4 arguments) ≡ bytes_in arguments
counted_bytes arguments n h e =
    let w = word_at arguments 0 in
    let m : 4 + n - 4 ≡ min w 12 = omega (arith, e) in
    let rest : length (drop 4 arguments) ≡ 12 = length-drop 4 arguments ∙ omega (arith, h) in
    rw m (
    ⊎_elim
    (λ (few : w < 12). let p : min w 12 ≡ w = omega arith in rw p refl)
    (λ (many : 12 ≤ w).
    let p : min w 12 ≡ 12 = omega arith in
    rw p (take_all 12 (drop 4 arguments) (omega (arith, rest)) ∙ sym (take_all w (drop 4 arguments) (omega (arith, rest)))))
    (lt_or_ge w 12)
    )

module _ (b : CodeBuffer) (kind : ℕ) (arguments code labels events uses refs constants asked relocs : List ℕ) where
  -- the recording that is lent
  abbrev lent : Recording
  lent = recording_of b code labels events uses refs constants asked relocs

  -- an answer and a recording are those of the call
  abbrev pub Calls : ℕ → Recording → Type 0
  Calls refusal r = (refusal, r) ≡ called (call_of kind arguments) lent

  pub bytes_called : {r : Recorded} {code' : List ℕ} {given : List ℕ} → kind ≡ 1 → given ≡ bytes_in arguments → (r, code') ≡ put_bytes b code given
      → Calls r.refusal (recording_of r.buffer code' labels events uses refs constants asked relocs)
  unfolding pick call_of
  bytes_called k g0 e =
      let p = rw g0 at e in
      rw k (ap (λ (a : Recorded × List ℕ). (a.0.refusal, recording_of a.0.buffer a.1 labels events uses refs constants asked relocs)) p)

  pub align_called : {r : Recorded} {code' events' : List ℕ} {m most : ℕ} → kind ≡ 4 → m ≡ (word arguments 0).value → most ≡ (most_in arguments).value → (r, (code', events')) ≡ align_to b code events m most
      → Calls r.refusal (recording_of r.buffer code' labels events' uses refs constants asked relocs)
  unfolding pick call_of
  align_called k g0 g1 e =
      let p = rw (g0, g1) at e in
      rw k (ap (λ (a : Recorded × (List ℕ × List ℕ)). (a.0.refusal, recording_of a.0.buffer a.1.0 labels a.1.1 uses refs constants asked relocs)) p)

  pub label_called : {m : Made} {labels' : List ℕ} → kind ≡ 2 → (m, labels') ≡ get_label b labels
      → Calls m.refusal (recording_of m.buffer code labels' events uses refs constants asked relocs)
  unfolding pick call_of
  label_called k e =
      rw k (ap (λ (a : Made × List ℕ). (a.0.refusal, recording_of a.0.buffer code a.1 events uses refs constants asked relocs)) e)

  pub bind_called : {r : Recorded} {labels' : List ℕ} {l : ℕ} → kind ≡ 3 → l ≡ (word arguments 0).value → (r, labels') ≡ bind_label b labels events uses refs relocs l
      → Calls r.refusal (recording_of r.buffer code labels' events uses refs constants asked relocs)
  unfolding pick call_of
  bind_called k g0 e =
      let p = rw g0 at e in
      rw k (ap (λ (a : Recorded × List ℕ). (a.0.refusal, recording_of a.0.buffer code a.1 events uses refs constants asked relocs)) p)

  pub jump_called : {r : Recorded} {events' : List ℕ} {s n l c : ℕ} → kind ≡ 7 → s ≡ (word arguments 0).value → n ≡ (word arguments 1).value → l ≡ (word arguments 2).value → c ≡ (word arguments 3).value → (r, events') ≡ record_jump b labels events s n l c
      → Calls r.refusal (recording_of r.buffer code labels events' uses refs constants asked relocs)
  unfolding pick call_of
  jump_called k g0 g1 g2 g3 e =
      let p = rw (g0, g1, g2, g3) at e in
      rw k (ap (λ (a : Recorded × List ℕ). (a.0.refusal, recording_of a.0.buffer code labels a.1 uses refs constants asked relocs)) p)

  pub constant_called : {m : Made} {constants' : List ℕ} {given : List ℕ} → kind ≡ 8 → given ≡ bytes_in arguments → (m, constants') ≡ add_constant b constants given
      → Calls m.refusal (recording_of m.buffer code labels events uses refs constants' asked relocs)
  unfolding pick call_of
  constant_called k g0 e =
      let p = rw g0 at e in
      rw k (ap (λ (a : Made × List ℕ). (a.0.refusal, recording_of a.0.buffer code labels events uses refs a.1 asked relocs)) p)

  pub constant_label_called : {m : Made} {constants' asked' labels' : List ℕ} {n : ℕ} → kind ≡ 9 → n ≡ (word arguments 0).value → (m, (constants', (asked', labels'))) ≡ constant_label b constants asked labels n
      → Calls m.refusal (recording_of m.buffer code labels' events uses refs constants' asked' relocs)
  unfolding pick call_of
  constant_label_called k g0 e =
      let p = rw g0 at e in
      rw k (ap (λ (a : Made × (List ℕ × (List ℕ × List ℕ))). (a.0.refusal, recording_of a.0.buffer code a.1.1.1 events uses refs a.1.0 a.1.1.0 relocs)) p)

  pub use_called : {r : Recorded} {uses' : List ℕ} {o l c : ℕ} → kind ≡ 5 → o ≡ (word arguments 0).value → l ≡ (word arguments 1).value → c ≡ (word arguments 2).value → (r, uses') ≡ use_label b labels uses o l c
      → Calls r.refusal (recording_of r.buffer code labels events uses' refs constants asked relocs)
  unfolding pick call_of
  use_called k g0 g1 g2 e =
      let p = rw (g0, g1, g2) at e in
      rw k (ap (λ (a : Recorded × List ℕ). (a.0.refusal, recording_of a.0.buffer code labels events a.1 refs constants asked relocs)) p)

  pub ref_called : {r : Recorded} {refs' : List ℕ} {o l c d : ℕ} → kind ≡ 6 → o ≡ (word arguments 0).value → l ≡ (word arguments 1).value → c ≡ (word arguments 2).value → d ≡ (word arguments 3).value → (r, refs') ≡ record_ref b labels refs o l c d
      → Calls r.refusal (recording_of r.buffer code labels events uses refs' constants asked relocs)
  unfolding pick call_of
  ref_called k g0 g1 g2 g3 e =
      let p = rw (g0, g1, g2, g3) at e in
      rw k (ap (λ (a : Recorded × List ℕ). (a.0.refusal, recording_of a.0.buffer code labels events uses a.1 constants asked relocs)) p)

  pub relocation_called : {r : Recorded} {relocs' : List ℕ} {o q t d : ℕ} → kind ≡ 10 → o ≡ (word arguments 0).value → q ≡ (word arguments 1).value → t ≡ (word arguments 2).value → d ≡ (signed_word arguments 3).value → (r, relocs') ≡ add_reloc b labels relocs o q t d
      → Calls r.refusal (recording_of r.buffer code labels events uses refs constants asked relocs')
  unfolding pick call_of
  relocation_called k g0 g1 g2 g3 e =
      let p = rw (g0, g1, g2, g3) at e in
      rw k (ap (λ (a : Recorded × List ℕ). (a.0.refusal, recording_of a.0.buffer code labels events uses refs constants asked a.1)) p)
