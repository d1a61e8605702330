-- Small recordings, for cases that are worked out: events over zeros on X64, and the jump that stands among them.
use Rattle.std.specs.Prelude.{List, [], ℕ, replicate}
use Rattle.fields.specs.Kinds.{arch_x64}
use Rattle.relax.specs.declared.Condition.TheVariants.{Always}
use Rattle.relax.specs.declared.LayoutEvent.{LayoutEvent}
use Rattle.relax.specs.declared.LayoutEvent.TheVariants.{Jump}
use Rattle.fresh.specs.Pooled.{Pooled}

-- a `jmp` of 5 recorded bytes
abbrev pub jmp : ℕ → ℕ → LayoutEvent
jmp start label = Jump (record { start = start; len = 5; label = label; cc = Always })

-- events over n zeros, on X64
abbrev pub zeros : ℕ → List LayoutEvent → List ℕ → Pooled
zeros n es labels = record { arch = arch_x64; code = replicate n 0; events = es; labels = labels; uses = []; refs = []; pool = [] }
