-- How a processor reads NOP instructions: Intel's Software Developer's Manual, volume 2, chapter 2 (the instruction format: prefix,
-- opcode, ModR/M, SIB, displacement; tables 2-2 and 2-3, the addresses of 32- and 64-bit code) and the instruction NOP (90, and
-- 0F 1F /0). Of the prefixes only 66 (operand size) is read, and one at most: padding has no other.
use Rattle.std.specs.Prelude.{ℕ, ◌+◌, ◌/◌, ◌%◌, ◌<◌, Bool, cond, not, ◌&&◌, ◌||◌, List, [], length, drop, ◌==◌, nat_le, slice_index}

-- ModR/M is mod (2 bits), reg (3) and r/m (3), from the high bits down. The base is the low 3 bits of SIB.
abbrev pub mod_of : ℕ → ℕ
mod_of modrm = modrm / 64

abbrev pub reg_of : ℕ → ℕ
reg_of modrm = modrm / 8 % 8

abbrev pub rm_of : ℕ → ℕ
rm_of modrm = modrm % 8

abbrev pub base_of : ℕ → ℕ
base_of sib = sib % 8

-- SIB follows ModR/M where mod is not 3 and r/m is 4.
abbrev pub has_sib : ℕ → Bool
has_sib modrm = not (mod_of modrm == 3) && rm_of modrm == 4

-- The bytes of the displacement, by mod: with 0 none, but 4 where the register, which is r/m or, after SIB, its base, is 5; with 1
-- one; with 2 four; with 3 none.
abbrev pub displacement_length : ℕ → ℕ → ℕ
displacement_length modrm register =
    cond (mod_of modrm == 0) (cond (register == 5) 4 0)
    (cond (mod_of modrm == 1) 1
    (cond (mod_of modrm == 2) 4 0))

-- ModR/M, SIB and displacement.
abbrev pub operand_length : ℕ → ℕ → ℕ
operand_length modrm sib =
    cond (has_sib modrm) (1 + 1 + displacement_length modrm (base_of sib)) (1 + displacement_length modrm (rm_of modrm))

-- Byte i, 0 past the end.
abbrev pub byte : List ℕ → ℕ → ℕ
byte l i = slice_index l i

-- The prefix.
abbrev pub prefix_length : List ℕ → ℕ
prefix_length l = cond (byte l 0 == 0x66) 1 0

-- What follows the prefix is a NOP: 90, or 0F 1F /0, where /0 is a ModR/M with 0 in reg.
abbrev pub is_nop : List ℕ → Bool
is_nop l = byte l 0 == 0x90 || byte l 0 == 0x0F && byte l 1 == 0x1F && reg_of (byte l 2) == 0

-- Its length: the opcode and, of 0F 1F, its operand.
abbrev pub bare_length : List ℕ → ℕ
bare_length l = cond (byte l 0 == 0x90) 1 (2 + operand_length (byte l 2) (byte l 3))

-- The length of the NOP that l starts with; 0 where l starts with none, or ends before it does.
unfoldable pub nop_length : List ℕ → ℕ
nop_length l =
    let rest = drop (prefix_length l) l in
    let n = prefix_length l + bare_length rest in
    cond (is_nop rest && nat_le n (length l)) n 0

-- The bytes are NOPs, one after another, that end exactly where the bytes end.
pub data AreNops : List ℕ → Type 0 where
  done : AreNops []
  next : (l : List ℕ) → 0 < nop_length l → AreNops (drop (nop_length l) l) → AreNops l
