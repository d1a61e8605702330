-- The architectures that keep events: X64, and so far no other.
use mathlib.Core.Path.{◌≡◌, refl}
use mathlib.Core.Logic.{◌⊎◌, inl, inr}
use mathlib.Core.Bool.{Bool, true, false}
use Prim.Native.Nat.{ℕ}
use borrow.Author.Tests.{eq-eqb, eqb-true}
use Rattle.fields.specs.Kinds.{arch_x64}
use Rattle.buffer.specs.State.{keeps_events}

pub x64_keeps : (arch : ℕ) → arch ≡ arch_x64 → keeps_events arch ≡ true
unfolding keeps_events
x64_keeps arch h = eq-eqb arch arch_x64 h

pub kept_x64 : (arch : ℕ) → keeps_events arch ≡ true → arch ≡ arch_x64
unfolding keeps_events
kept_x64 arch h = eqb-true arch arch_x64 h

-- an architecture keeps events or does not
pub keeps_or_not : (arch : ℕ) → (keeps_events arch ≡ true) ⊎ (keeps_events arch ≡ false)
keeps_or_not arch = by (keeps_events arch) refl
  where
    by : (t : Bool) → keeps_events arch ≡ t → (keeps_events arch ≡ true) ⊎ (keeps_events arch ≡ false)
    by true e = inl e
    by false e = inr e
