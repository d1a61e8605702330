-- How a processor reads a jump in 32- and 64-bit code: Intel SDM volume 2, "JMP" (EB cb: JMP rel8; E9 cd: JMP rel32) and "Jcc" (70+cc cb: rel8; 0F 80+cc cd:
-- rel32). cb is a displacement of one byte, cd one of four, lowest first.
use Rattle.std.specs.Prelude.{List, [], ◌∷◌, ℕ, ◌+◌, ◌<◌}
use Rattle.words.specs.Words.{word_at}
use Rattle.fields.specs.Words64.{plus}
use Rattle.fields.specs.Intel.{rel8, rel32}
use Rattle.relax.specs.declared.Condition.{Condition}
use Rattle.relax.specs.declared.Condition.TheVariants.{Always, On}

-- the bytes of one instruction at an address, the condition on which it jumps, and the address to which it does
pub data Reads (address : ℕ) : List ℕ → Condition → ℕ → Type 0 where
  jmp_rel8 : (d : ℕ) → Reads address (0xEB ∷ d ∷ []) Always (rel8 (plus address 1) d)
  jmp_rel32 : (d0 d1 d2 d3 : ℕ)
      → Reads address (0xE9 ∷ d0 ∷ d1 ∷ d2 ∷ d3 ∷ []) Always (rel32 (plus address 1) (word_at (d0 ∷ d1 ∷ d2 ∷ d3 ∷ []) 0))
  jcc_rel8 : (cc d : ℕ) → cc < 16 → Reads address ((0x70 + cc) ∷ d ∷ []) (On cc) (rel8 (plus address 1) d)
  jcc_rel32 : (cc d0 d1 d2 d3 : ℕ) → cc < 16
      → Reads address (0x0F ∷ (0x80 + cc) ∷ d0 ∷ d1 ∷ d2 ∷ d3 ∷ []) (On cc) (rel32 (plus address 2) (word_at (d0 ∷ d1 ∷ d2 ∷ d3 ∷ []) 0))
