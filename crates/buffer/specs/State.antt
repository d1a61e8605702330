-- A recording's counts: document 01, "Recording counts and first refusal form a struct"; document 02, Request Five, "Keep that number in the recording".
use Rattle.std.specs.Prelude.{Bool, ℕ, eqb, ltb, Result, Ok, Err}
use Rattle.refusals.specs.Numbers as refusals
use Rattle.refusals.specs.declared.Refusal.{Refusal}
use Rattle.refusals.specs.Answers.{answer_of}
use Rattle.seqs.specs.Pick.{pick}
use Rattle.fields.specs.Kinds.{arch_x64, arch_a64}
use Rattle.naming.specs.Naming.{unbound}
use Rattle.buffer.specs.declared.CodeBuffer.{CodeBuffer}
use Rattle.buffer.specs.declared.Recorded as of_call
use Rattle.buffer.specs.declared.Made as of_making

-- the offset of a label that is not bound, the label of a constant that has none, and what a refused call for either gives
abbrev pub none : ℕ
none = unbound

-- a relocation's target from here on is a label's: its number, and this
abbrev pub label_target : ℕ
label_target = 2147483648

-- the architectures that keep events and refs: "On X64 each alignment records an event, length 0 too, and jumps and refs are kept"
unfoldable pub keeps_events : ℕ → Bool
keeps_events arch = eqb arch arch_x64

-- "x86 pads with NOPs, AArch64 with zeros."
abbrev pub zero_padded : ℕ → Bool
zero_padded arch = eqb arch arch_a64

-- the recording with one count, or the first refusal, anew
abbrev pub with_refusal : CodeBuffer → ℕ → CodeBuffer
with_refusal b n = record { arch = b.arch; symbols = b.symbols; finished = b.finished; refusal = n; code = b.code; labels = b.labels; events = b.events; uses = b.uses; refs = b.refs; constants = b.constants; asked = b.asked; relocs = b.relocs; unresolved = b.unresolved }

abbrev pub with_code : CodeBuffer → ℕ → CodeBuffer
with_code b n = record { arch = b.arch; symbols = b.symbols; finished = b.finished; refusal = b.refusal; code = n; labels = b.labels; events = b.events; uses = b.uses; refs = b.refs; constants = b.constants; asked = b.asked; relocs = b.relocs; unresolved = b.unresolved }

abbrev pub with_labels : CodeBuffer → ℕ → CodeBuffer
with_labels b n = record { arch = b.arch; symbols = b.symbols; finished = b.finished; refusal = b.refusal; code = b.code; labels = n; events = b.events; uses = b.uses; refs = b.refs; constants = b.constants; asked = b.asked; relocs = b.relocs; unresolved = b.unresolved }

abbrev pub with_events : CodeBuffer → ℕ → CodeBuffer
with_events b n = record { arch = b.arch; symbols = b.symbols; finished = b.finished; refusal = b.refusal; code = b.code; labels = b.labels; events = n; uses = b.uses; refs = b.refs; constants = b.constants; asked = b.asked; relocs = b.relocs; unresolved = b.unresolved }

abbrev pub with_uses : CodeBuffer → ℕ → CodeBuffer
with_uses b n = record { arch = b.arch; symbols = b.symbols; finished = b.finished; refusal = b.refusal; code = b.code; labels = b.labels; events = b.events; uses = n; refs = b.refs; constants = b.constants; asked = b.asked; relocs = b.relocs; unresolved = b.unresolved }

abbrev pub with_refs : CodeBuffer → ℕ → CodeBuffer
with_refs b n = record { arch = b.arch; symbols = b.symbols; finished = b.finished; refusal = b.refusal; code = b.code; labels = b.labels; events = b.events; uses = b.uses; refs = n; constants = b.constants; asked = b.asked; relocs = b.relocs; unresolved = b.unresolved }

abbrev pub with_constants : CodeBuffer → ℕ → CodeBuffer
with_constants b n = record { arch = b.arch; symbols = b.symbols; finished = b.finished; refusal = b.refusal; code = b.code; labels = b.labels; events = b.events; uses = b.uses; refs = b.refs; constants = n; asked = b.asked; relocs = b.relocs; unresolved = b.unresolved }

abbrev pub with_asked : CodeBuffer → ℕ → CodeBuffer
with_asked b n = record { arch = b.arch; symbols = b.symbols; finished = b.finished; refusal = b.refusal; code = b.code; labels = b.labels; events = b.events; uses = b.uses; refs = b.refs; constants = b.constants; asked = n; relocs = b.relocs; unresolved = b.unresolved }

abbrev pub with_relocs : CodeBuffer → ℕ → CodeBuffer
with_relocs b n = record { arch = b.arch; symbols = b.symbols; finished = b.finished; refusal = b.refusal; code = b.code; labels = b.labels; events = b.events; uses = b.uses; refs = b.refs; constants = b.constants; asked = b.asked; relocs = n; unresolved = b.unresolved }

abbrev pub with_open : CodeBuffer → ℕ → CodeBuffer
with_open b n = record { arch = b.arch; symbols = b.symbols; finished = b.finished; refusal = b.refusal; code = b.code; labels = b.labels; events = b.events; uses = b.uses; refs = b.refs; constants = b.constants; asked = b.asked; relocs = b.relocs; unresolved = n }

-- Numbers 1 to 5 are not recorded; 6 to 12 are, but for those of a bind, which leaves the recording as it is. Once number 1 is past the recording then
-- answers every call with the first one.
unfoldable pub refusing : CodeBuffer → ℕ → CodeBuffer
refusing b why = pick (ltb why refusals.first_recorded) b (with_refusal b why)

-- a call's answer: the recording after it, and 0 or the refusal's number; of a call for a label or a constant also its number, or `none`
pub record Recorded : Type 0 where
  pub buffer : CodeBuffer
  pub refusal : ℕ

pub record Made : Type 0 where
  pub buffer : CodeBuffer
  pub refusal : ℕ
  pub number : ℕ

-- the program's answers as these
abbrev pub recorded : of_call.Recorded → Recorded
recorded r = record { buffer = r.buffer; refusal = answer_of r.answer }

abbrev pub number_made : Result ℕ Refusal → ℕ
number_made (Ok n) = n
number_made (Err _) = none

abbrev pub made_of : of_making.Made → Made
made_of m = record { buffer = m.buffer; refusal = answer_of m.answer; number = number_made m.answer }

-- a call that is turned down, and one that is not
abbrev pub turned_down : CodeBuffer → ℕ → Recorded
turned_down b why = record { buffer = refusing b why; refusal = why }

abbrev pub accepted : CodeBuffer → Recorded
accepted b = record { buffer = b; refusal = 0 }

-- the same of a call for a label or a constant
abbrev pub none_made : CodeBuffer → ℕ → Made
none_made b why = record { buffer = refusing b why; refusal = why; number = none }

abbrev pub made : CodeBuffer → ℕ → Made
made b number = record { buffer = b; refusal = 0; number = number }
