-- Recordings made by calls and growth are sound.
use mathlib.Core.Path.{refl}
use mathlib.Core.Logic.{inr}
use mathlib.Core.List.{List, [], ◌∷◌}
use Prim.Native.Nat.{ℕ}
use native.Mathlib.Nat.{not-suc-le-zero}
use native.Mathlib.Omega.{arith}
use Rattle.buffer.specs.State.{Recorded}
use Rattle.buffer.specs.declared.CodeBuffer.{CodeBuffer}
use Rattle.buffer.specs.Calls.{started}
use Rattle.recording.specs.Calls.{
  Recording,
  Call,
  bytes,
  new_label,
  bind,
  align,
  use_of_label,
  ref,
  jump,
  constant,
  label_of_constant,
  relocation,
  after,
  after_all,
  begun,
}
use Rattle.recording.specs.Sequences.{Leads, here, calls, grows}
use Rattle.recording.specs.Sound.{Sound}
use Rattle.recording.proofs.LongerTables.{keeps_growth}
use Rattle.recording.proofs.Steps.{
  either,
  keeps_bytes,
  keeps_new_label,
  keeps_bind,
  keeps_align,
  keeps_use,
  keeps_ref,
  keeps_jump,
  keeps_constant,
  keeps_constant_label,
  keeps_reloc,
}

pub keeps_sound : (c : Call) (r : Recording) → Sound r → Sound (after c r)
keeps_sound (bytes l) r s = keeps_bytes r l s
keeps_sound new_label r s = keeps_new_label r s
keeps_sound (bind l) r s = keeps_bind r l s
keeps_sound (align m most) r s = keeps_align r m most s
keeps_sound (use_of_label o l c) r s = keeps_use r o l c s
keeps_sound (ref o l c d) r s = keeps_ref r o l c d s
keeps_sound (jump p n l c) r s = keeps_jump r p n l c s
keeps_sound (constant l) r s = keeps_constant r l s
keeps_sound (label_of_constant n) r s = keeps_constant_label r n s
keeps_sound (relocation o k t d) r s = keeps_reloc r o k t d s

pub calls_sound : (cs : List Call) (r : Recording) → Sound r → Sound (after_all cs r)
calls_sound [] r s = s
calls_sound (c ∷ cs) r s = calls_sound cs (after c r) (keeps_sound c r s)

-- What calls and growth make of a sound recording is sound.
pub leads_sound : (r s : Recording) → Leads r s → Sound r → Sound s
leads_sound r s here sound = sound
leads_sound r s (calls c t before) sound = keeps_sound c t (leads_sound r t before sound)
leads_sound r s (grows t u before growth) sound = keeps_growth t u growth (leads_sound r t before sound)

module _ (code labels events uses refs constants asked relocs : List ℕ) where
  abbrev with_tables : CodeBuffer → Recording
  with_tables b =
      record {
        buffer = b;
        code = code;
        labels = labels;
        events = events;
        uses = uses;
        refs = refs;
        constants = constants;
        asked = asked;
        relocs = relocs;
      }

  -- where nothing is counted, nothing is unsound
  empty_sound : (arch symbols : ℕ) → Sound (with_tables (record {
    arch = arch;
    symbols = symbols;
    finished = 0;
    refusal = 0;
    code = 0;
    labels = 0;
    events = 0;
    uses = 0;
    refs = 0;
    constants = 0;
    asked = 0;
    relocs = 0;
    unresolved = 0;
  }))
  empty_sound arch symbols =
      record {
        code = record { room = omega arith; limit = omega arith };
        labels = record { room = omega arith; limit = omega arith; entry = λ i l. absurd (not-suc-le-zero l) };
        events = record { room = omega arith; tracked = inr refl; entry = λ i l. absurd (not-suc-le-zero l) };
        uses = record { room = omega arith; entry = λ i l. absurd (not-suc-le-zero l) };
        refs = record { room = omega arith; tracked = inr refl; entry = λ i l. absurd (not-suc-le-zero l) };
        constants = record { room = omega arith; limit = omega arith; entry = λ i l. absurd (not-suc-le-zero l) };
        asked =
            record {
              room = omega arith;
              listed = λ i l. absurd (not-suc-le-zero l);
              once = λ i j h l. absurd (not-suc-le-zero l);
              all = λ n l. absurd (not-suc-le-zero l);
            };
        relocs = record { room = omega arith; entry = λ i l. absurd (not-suc-le-zero l) };
      }

  pub begun_sound : (arch symbols : ℕ) → Sound (begun arch symbols code labels events uses refs constants asked relocs)
  unfolding started
  begun_sound arch symbols = either _ (λ (a : Recorded). Sound (with_tables a.buffer)) _ _ (empty_sound arch symbols) (empty_sound 0 0)

-- From start on, every sequence of calls and growth leaves a recording whose entries are all such as finish accepts: number 1 is never answered for an
-- entry.
pub recordings_are_sound : (arch symbols : ℕ) (code labels events uses refs constants asked relocs : List ℕ) (r : Recording)
    → Leads (begun arch symbols code labels events uses refs constants asked relocs) r → Sound r
recordings_are_sound arch symbols code labels events uses refs constants asked relocs r made =
    leads_sound _ r made (begun_sound code labels events uses refs constants asked relocs arch symbols)
