-- A filled field of x86 code means what its target demands, whatever it held.
use mathlib.Core.Path.{◌≡◌, refl, sym, ◌∙◌, subst}
use mathlib.Core.Bool.{true}
use mathlib.Core.List.{List}
use Prim.Native.Nat.{ℕ, zero, suc, ◌<◌}
use native.Mathlib.Omega.{arith}
use lib.ListN.{length, get_or, replicate, length-replicate}
use Rattle.fields.specs.declared.LabelUse.{LabelUse}
use Rattle.fields.specs.declared.LabelUse.TheVariants.{
  X86JmpRel32,
  X86BranchRel8,
  A64Branch14,
  A64Branch19,
  A64Branch26,
  A64Ldr19,
  A64Adr21,
  A64Adrp21,
  A64AddAbsLo12,
}
use Rattle.fields.specs.Words64.{modulus, minus}
use Rattle.fields.specs.Kinds.{info, patch_size}
use Rattle.fields.specs.Reach.{can_reach, can_reach_delta}
use Rattle.fields.specs.Patch.{patched}
use Rattle.fields.proofs.Patching.{patched_field}
use Rattle.fields.proofs.Fields.{Field, field_means}
use Rattle.fresh.proofs.Tests.{no_confusion}
use Rattle.demands.specs.Demand2.{Means}

pub zeros_small : (n i : ℕ) → get_or (replicate n 0) i 0 < 256
zeros_small zero i = omega arith
zeros_small (suc n) zero = omega arith
zeros_small (suc n) (suc i) = zeros_small n i

zero_field : (k : LabelUse) → Field k (replicate (patch_size k) 0)
zero_field k = record { size = length-replicate (patch_size k) 0; small = zeros_small (patch_size k) }

-- what an x86 field held does not matter
over_any : (k : LabelUse) (offset target : ℕ) (held : List ℕ) → (info k).x86 ≡ true → length held ≡ patch_size k
    → patched k offset target held ≡ patched k offset target (replicate (patch_size k) 0)
over_any X86JmpRel32 offset target held native size =
    patched_field X86JmpRel32 offset target held size ∙ sym (patched_field X86JmpRel32 offset target (replicate 4 0) refl)
over_any X86BranchRel8 offset target held native size =
    patched_field X86BranchRel8 offset target held size ∙ sym (patched_field X86BranchRel8 offset target (replicate 1 0) refl)
over_any A64Branch14 offset target held native size = no_confusion native
over_any A64Branch19 offset target held native size = no_confusion native
over_any A64Branch26 offset target held native size = no_confusion native
over_any A64Ldr19 offset target held native size = no_confusion native
over_any A64Adr21 offset target held native size = no_confusion native
over_any A64Adrp21 offset target held native size = no_confusion native
over_any A64AddAbsLo12 offset target held native size = no_confusion native

zero_means : (k : LabelUse) (offset target : ℕ) → (info k).x86 ≡ true → offset < modulus → target < modulus
    → can_reach_delta k (minus target offset) ≡ true → Means k offset target (patched k offset target (replicate (patch_size k) 0))
unfolding can_reach
zero_means X86JmpRel32 offset target native o t r = λ base h. field_means X86JmpRel32 base offset target (replicate 4 0) (zero_field X86JmpRel32) o t h tt r
zero_means X86BranchRel8 offset target native o t r = λ base h. field_means X86BranchRel8 base offset target (replicate 1 0) (zero_field X86BranchRel8) o t h tt r
zero_means A64Branch14 offset target native o t r = no_confusion native
zero_means A64Branch19 offset target native o t r = no_confusion native
zero_means A64Branch26 offset target native o t r = no_confusion native
zero_means A64Ldr19 offset target native o t r = no_confusion native
zero_means A64Adr21 offset target native o t r = no_confusion native
zero_means A64Adrp21 offset target native o t r = no_confusion native
zero_means A64AddAbsLo12 offset target native o t r = no_confusion native

pub x86_means : (k : LabelUse) (offset target : ℕ) (held : List ℕ) → (info k).x86 ≡ true → length held ≡ patch_size k → offset < modulus → target < modulus
    → can_reach_delta k (minus target offset) ≡ true → Means k offset target (patched k offset target held)
x86_means k offset target held native size o t r =
    subst (λ (bytes : List ℕ). Means k offset target bytes) (sym (over_any k offset target held native size)) (zero_means k offset target native o t r)
