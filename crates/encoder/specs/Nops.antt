-- The NOPs that x86 code is padded with: document 01, the paragraph on encoder_tables.rs and encoder.rs.
use Rattle.std.specs.Prelude.{ℕ, zero, suc, ◌/◌, ◌%◌, List, [], ◌∷◌, ◌++◌, slice_index_or}

-- The nine NOP forms, of 1 to 9 bytes.
abbrev pub forms : List (List ℕ)
forms =
    (0x90 ∷ [])
    ∷ (0x66 ∷ 0x90 ∷ [])
    ∷ (0x0F ∷ 0x1F ∷ 0x00 ∷ [])
    ∷ (0x0F ∷ 0x1F ∷ 0x40 ∷ 0x00 ∷ [])
    ∷ (0x0F ∷ 0x1F ∷ 0x44 ∷ 0x00 ∷ 0x00 ∷ [])
    ∷ (0x66 ∷ 0x0F ∷ 0x1F ∷ 0x44 ∷ 0x00 ∷ 0x00 ∷ [])
    ∷ (0x0F ∷ 0x1F ∷ 0x80 ∷ 0x00 ∷ 0x00 ∷ 0x00 ∷ 0x00 ∷ [])
    ∷ (0x0F ∷ 0x1F ∷ 0x84 ∷ 0x00 ∷ 0x00 ∷ 0x00 ∷ 0x00 ∷ 0x00 ∷ [])
    ∷ (0x66 ∷ 0x0F ∷ 0x1F ∷ 0x84 ∷ 0x00 ∷ 0x00 ∷ 0x00 ∷ 0x00 ∷ 0x00 ∷ [])
    ∷ []

-- The form of n bytes; of 0 bytes, nothing.
unfoldable pub form : ℕ → List ℕ
form n = slice_index_or ([] ∷ forms) n []

-- `nines` forms of 9 bytes, then the form of the remainder.
unfoldable pub nops_by : ℕ → ℕ → List ℕ
nops_by zero remainder = form remainder
nops_by (suc nines) remainder = form 9 ++ nops_by nines remainder

-- len bytes: 9-byte forms while 9 or more remain, then the remainder; 10 is 9 then 1.
unfoldable pub nops : ℕ → List ℕ
nops len = nops_by (len / 9) (len % 9)
