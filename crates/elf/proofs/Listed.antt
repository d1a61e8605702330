-- Types: which numbers are one, and that every kind's is.
use Rattle.std.proofs.Common.{◌≡◌, ℕ, ◌<◌, ◌≤◌, Bool, true, false, ◌&&◌, ◌||◌, eqb, ltb, ◌≢◌, ap, List, length, get_or, sym, refl, ◌∙◌, subst, ⊎_elim, arith, ltb-true, ne_eqb}
use lib.ListN.{get_or-eq_default}
use Rattle.seqs.specs.Every.{every}
use Rattle.seqs.proofs.Booleans.{both_true, true_is_not_false}
use Rattle.seqs.proofs.Every.{every_at}
use Rattle.seqs.proofs.Numbers.{eq_or_ne, lt_or_ge}
use Rattle.seqs.proofs.Picking.{yes_eq, no_eq}
use Rattle.fields.specs.Kinds.{arch_x64, arch_a64}
use Rattle.elf.specs.Elf.{no_type, x64_types, a64_types, elf_type_of, type_listed}

-- A number that differs from all eleven is no type.
pub unlisted : {t : ℕ} → t ≢ 1 → t ≢ 2 → t ≢ 4 → t ≢ 9 → t ≢ 10 → t ≢ 19 → t ≢ 257 → t ≢ 258 → t ≢ 275 → t ≢ 277 → t ≢ 283 → false ≡ type_listed t
unfolding type_listed every
unlisted {t} r_64 r_pc32 r_plt32 r_gotpcrel r_32 r_tlsgd r_abs64 r_abs32 r_page r_low12 r_call26 =
    ⊎_elim
    (λ (z : t ≡ 0). rw z)
    (λ (n : t ≢ 0).
    rw (
      ne_eqb t 0 n,
      ne_eqb t 1 r_64,
      ne_eqb t 2 r_pc32,
      ne_eqb t 4 r_plt32,
      ne_eqb t 9 r_gotpcrel,
      ne_eqb t 10 r_32,
      ne_eqb t 19 r_tlsgd,
      ne_eqb t 257 r_abs64,
      ne_eqb t 258 r_abs32,
      ne_eqb t 275 r_page,
      ne_eqb t 277 r_low12,
      ne_eqb t 283 r_call26,
    ))
    (eq_or_ne t 0)

-- and one that does not is one
pub listed : {t : ℕ} → (t ≢ 1 → t ≢ 2 → t ≢ 4 → t ≢ 9 → t ≢ 10 → t ≢ 19 → t ≢ 257 → t ≢ 258 → t ≢ 275 → t ≢ 277 → t ≢ 283 → ⊥) → true ≡ type_listed t
unfolding type_listed every
listed {t} h = by (type_listed t) refl
  where
    apart : (k : ℕ) → type_listed t ≡ false → type_listed k ≡ true → t ≢ k
    apart k none type e = true_is_not_false (sym type ∙ ap type_listed (sym e) ∙ none)

    by : (b : Bool) → type_listed t ≡ b → true ≡ b
    by true e = refl
    by false e =
        absurd (h (apart 1 e refl) (apart 2 e refl) (apart 4 e refl) (apart 9 e refl) (apart 10 e refl) (apart 19 e refl) (apart 257 e refl) (apart 258 e refl) (apart 275 e refl) (apart 277 e refl) (apart 283 e refl))

-- A row of a table is no type, or a listed one; either way a word.
abbrev row : ℕ → Bool
row t = (eqb t no_type || type_listed t) && ltb t 4294967296

second : (a b : Bool) → a ≡ false → (a || b) ≡ true → b ≡ true
second false b e h = h
second true b e h = absurd (true_is_not_false e)

-- what is so of every row is so of the type of every kind, past the table's end too
row_listed : (types : List ℕ) (kind : ℕ) → every row types ≡ true → get_or types kind no_type ≢ no_type → type_listed (get_or types kind no_type) ≡ true
row_listed types kind rows typed =
    ⊎_elim
    (λ (h : kind < length types).
    second _ _ (ne_eqb _ no_type typed) (both_true (eqb (get_or types kind no_type) no_type || type_listed (get_or types kind no_type)) _ (every_at row types no_type rows kind h)).0)
    (λ past. absurd (typed (get_or-eq_default types no_type past)))
    (lt_or_ge kind (length types))

row_small : (types : List ℕ) (kind : ℕ) → every row types ≡ true → get_or types kind no_type < 4294967296
row_small types kind rows =
    ⊎_elim
    (λ (h : kind < length types).
    ltb-true _ _ (both_true (eqb (get_or types kind no_type) no_type || type_listed (get_or types kind no_type)) _ (every_at row types no_type rows kind h)).1)
    (λ (past : length types ≤ kind). rw (get_or-eq_default types no_type {n = kind} past) (omega arith))
    (lt_or_ge kind (length types))

-- The type of a kind is a type of the one table, of the other, or none.
by_table : (P : ℕ → Type 0) (arch kind : ℕ) → P (get_or x64_types kind no_type) → P (get_or a64_types kind no_type) → P no_type → P (elf_type_of arch kind)
unfolding elf_type_of
by_table P arch kind x64 a64 neither =
    ⊎_elim
    (λ (e : arch ≡ arch_x64). subst P (sym (yes_eq arch arch_x64 _ _ e)) x64)
    (λ (n : arch ≢ arch_x64).
    ⊎_elim
    (λ (e : arch ≡ arch_a64). subst P (sym (no_eq arch arch_x64 _ _ n ∙ yes_eq arch arch_a64 _ _ e)) a64)
    (λ (m : arch ≢ arch_a64). subst P (sym (no_eq arch arch_x64 _ _ n ∙ no_eq arch arch_a64 _ _ m)) neither)
    (eq_or_ne arch arch_a64))
    (eq_or_ne arch arch_x64)

-- Every kind that has a type has a listed one.
pub type_listed_lem : (arch kind : ℕ) → elf_type_of arch kind ≢ no_type → type_listed (elf_type_of arch kind) ≡ true
unfolding every type_listed
type_listed_lem arch kind =
    by_table (λ (t : ℕ). t ≢ no_type → type_listed t ≡ true) arch kind (row_listed x64_types kind refl) (row_listed a64_types kind refl) (λ typed. absurd (typed refl))

pub type_small : (arch kind : ℕ) → elf_type_of arch kind < 4294967296
unfolding every type_listed
type_small arch kind = by_table (λ (t : ℕ). t < 4294967296) arch kind (row_small x64_types kind refl) (row_small a64_types kind refl) (omega arith)
