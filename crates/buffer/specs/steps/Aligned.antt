-- An alignment in two steps: what it does to the tables, and what it does to the counts. `align_to` (Calls) is the two together (`align_answered`).
use Rattle.std.specs.Prelude.{List, ℕ, ◌+◌, ◌/◌, eqb, length, Result, Ok, Err}
use Rattle.seqs.specs.Over.{over}
use Rattle.seqs.specs.Pick.{pick}
use Rattle.encoder.specs.Padding.{padding_within}
use Rattle.relax.specs.Events.{event_size}
use Rattle.buffer.specs.declared.CodeBuffer.{CodeBuffer}
use Rattle.refusals.specs.declared.Refusal.{Refusal}
use Rattle.refusals.specs.Answers.{number_of}
use Rattle.buffer.specs.State.{Recorded, keeps_events, with_code, with_events, turned_down, accepted}
use Rattle.buffer.specs.Refusals.{why_align}
use Rattle.buffer.specs.Calls.{padding, aligned_events}

-- what an alignment spends, and 0 or the refusal's number
pub record Spent : Type 0 where
  pub refusal : ℕ
  pub len : ℕ

-- the program's answer as this
abbrev pub spent_of : Result ℕ Refusal → Spent
spent_of (Ok n) = record { refusal = 0; len = n }
spent_of (Err r) = record { refusal = number_of r; len = 0 }

unfoldable pub aligned_tables : CodeBuffer → List ℕ → List ℕ → ℕ → ℕ → Spent × (List ℕ × List ℕ)
aligned_tables b code events multiple most =
    let why = why_align b (length code) (length events / event_size) multiple most in
    let n = padding_within b.code multiple most in
    pick (eqb why 0)
    (record { refusal = 0; len = n }, (over code b.code (padding b.arch n), (aligned_events b events multiple most).1))
    (record { refusal = why; len = 0 }, (code, events))

unfoldable pub aligned_counts : CodeBuffer → Spent → Recorded
aligned_counts b spent =
    pick (eqb spent.refusal 0)
    (accepted (with_code (pick (keeps_events b.arch) (with_events b (b.events + 1)) b) (b.code + spent.len)))
    (turned_down b spent.refusal)
