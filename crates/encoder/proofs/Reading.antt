-- Padding reads as NOP instructions.
use Rattle.std.proofs.Common.{◌≡◌, ℕ, zero, suc, ◌+◌, ◌/◌, ◌%◌, ◌<◌, ◌≤◌, Bool, true, false, cond, ◌&&◌, ◌||◌, eqb, leb, ◌≢◌, ◌⊎◌, List, [], ◌∷◌, ◌++◌, length, get_or, drop, sym, refl, subst, inl, inr, ⊎_elim, append-nil, arith, length-append, drop_at, eq-eqb, ne_eqb, eqb-true, le-leb}
use Rattle.encoder.specs.Nops.{form, nops_by, nops}
use Rattle.seqs.proofs.Booleans.{both_true, true_is_not_false}
use Rattle.seqs.proofs.Numbers.{eq_or_ne}
use Rattle.encoder.specs.Intel.{prefix_length, reg_of, is_nop, bare_length, nop_length, AreNops, done, next}
use Rattle.encoder.proofs.Forms.{up_to_9}

-- A form is one NOP, whatever follows, where `nop_length` leaves only to see that it is not cut short.
nop_then : (f l : List ℕ) → 0 < length f → nop_length (f ++ l) ≡ cond (leb (length f) (length (f ++ l))) (length f) 0 → AreNops l → AreNops (f ++ l)
nop_then f l h e r =
    let fits : length f ≤ length (f ++ l) = simp length-append (omega arith) in
    let n : nop_length (f ++ l) ≡ length f = rw (le-leb (length f) (length (f ++ l)) fits) at e in
    next (f ++ l) (rw n h) (rw (n, drop_at f l (length f) refl) r)

-- Each form is one NOP.
form_reads : (n : ℕ) → n ≤ 9 → (l : List ℕ) → AreNops l → AreNops (form n ++ l)
unfolding form nop_length
form_reads =
    up_to_9 (λ n. (l : List ℕ) → AreNops l → AreNops (form n ++ l))
    (λ l r. r)
    (λ l. nop_then (form 1) l (omega arith) refl)
    (λ l. nop_then (form 2) l (omega arith) refl)
    (λ l. nop_then (form 3) l (omega arith) refl)
    (λ l. nop_then (form 4) l (omega arith) refl)
    (λ l. nop_then (form 5) l (omega arith) refl)
    (λ l. nop_then (form 6) l (omega arith) refl)
    (λ l. nop_then (form 7) l (omega arith) refl)
    (λ l. nop_then (form 8) l (omega arith) refl)
    (λ l. nop_then (form 9) l (omega arith) refl)

nops_by_reads : (nines remainder : ℕ) → remainder ≤ 9 → AreNops (nops_by nines remainder)
unfolding nops_by
nops_by_reads zero r h = rw append-nil at (form_reads r h [] done)
nops_by_reads (suc q) r h = form_reads 9 (omega arith) _ (nops_by_reads q r h)

-- Padding of any length reads as NOP instructions that end exactly at its end.
pub nops_read : (n : ℕ) → AreNops (nops n)
unfolding nops
nops_read n = nops_by_reads (n / 9) (n % 9) (omega arith)

-- No NOP: one cut short, a reg other than 0, another opcode, a prefix alone.
no_nop :
    (nop_length (0x0F ∷ 0x1F ∷ 0x44 ∷ 0x00 ∷ []) ≡ 0)
    × (nop_length (0x0F ∷ 0x1F ∷ 0x48 ∷ 0x00 ∷ []) ≡ 0)
    × (nop_length (0x0F ∷ 0x0B ∷ 0x00 ∷ []) ≡ 0)
    × (nop_length (0x66 ∷ []) ≡ 0)
unfolding nop_length
no_nop = (refl, refl, refl, refl)

-- NOPs that padding has not: a register (mod 3), a displacement and no register (r/m 5), and the same by SIB (base 5).
other-nops :
    (nop_length (0x0F ∷ 0x1F ∷ 0xC0 ∷ []) ≡ 3)
    × (nop_length (0x0F ∷ 0x1F ∷ 0x05 ∷ 0x00 ∷ 0x00 ∷ 0x00 ∷ 0x00 ∷ []) ≡ 7)
    × (nop_length (0x0F ∷ 0x1F ∷ 0x04 ∷ 0x25 ∷ 0x00 ∷ 0x00 ∷ 0x00 ∷ 0x00 ∷ []) ≡ 8)
unfolding nop_length
other-nops = (refl, refl, refl)

-- The opcodes of NOP, in numbers: 90, or 0F 1F.
abbrev pub Opcode : List ℕ → Type 0
Opcode l = (get_or l 0 0 ≡ 0x90) ⊎ ((get_or l 0 0 ≡ 0x0F) × (get_or l 1 0 ≡ 0x1F))

one_of_two : (a b c d : Bool) → (a || b && c && d) ≡ true → (a ≡ true) ⊎ ((b ≡ true) × (c ≡ true))
one_of_two true b c d h = inl refl
one_of_two false true true d h = inr (refl, refl)
one_of_two false true false d h = absurd (true_is_not_false (sym h))
one_of_two false false c d h = absurd (true_is_not_false (sym h))

opcode : (l : List ℕ) → is_nop l ≡ true → Opcode l
opcode l h =
    ⊎_elim
    (λ (e : eqb (get_or l 0 0) 0x90 ≡ true). inl (eqb-true (get_or l 0 0) 0x90 e))
    (λ (e : (eqb (get_or l 0 0) 0x0F ≡ true) × (eqb (get_or l 1 0) 0x1F ≡ true)). inr (eqb-true (get_or l 0 0) 0x0F e.0, eqb-true (get_or l 1 0) 0x1F e.1))
    (one_of_two (eqb (get_or l 0 0) 0x90) (eqb (get_or l 0 0) 0x0F) (eqb (get_or l 1 0) 0x1F) (eqb (reg_of (get_or l 2 0)) 0) h)

positive : (t : Bool) (n : ℕ) → 0 < cond t n 0 → t ≡ true
positive true n h = refl
positive false n h = absurd (omega arith)

-- What starts with a NOP starts with such an opcode, or with 66 and one: no other byte begins padding.
pub nop_opens : (l : List ℕ) → 0 < nop_length l → Opcode l ⊎ ((get_or l 0 0 ≡ 0x66) × Opcode (drop 1 l))
unfolding nop_length
nop_opens l h =
    let rest = drop (prefix_length l) l in
    let n = prefix_length l + bare_length rest in
    let bare : Opcode rest = opcode rest (both_true (is_nop rest) (leb n (length l)) (positive (is_nop rest && leb n (length l)) n h)).0 in
    ⊎_elim
    (λ (e : get_or l 0 0 ≡ 0x66). inr (e, subst (λ (t : Bool). Opcode (drop (cond t 1 0) l)) (eq-eqb (get_or l 0 0) 0x66 e) bare))
    (λ (ne : get_or l 0 0 ≢ 0x66). inl (subst (λ (t : Bool). Opcode (drop (cond t 1 0) l)) (ne_eqb (get_or l 0 0) 0x66 ne) bare))
    (eq_or_ne (get_or l 0 0) 0x66)

-- INT3, which other assemblers pad with, is none.
pub int3_pads_not : (l : List ℕ) → get_or l 0 0 ≡ 0xCC → AreNops l → ⊥
int3_pads_not l e done = omega arith
int3_pads_not l e (next _ h rest) =
    ⊎_elim
    (⊎_elim (λ (p : get_or l 0 0 ≡ 0x90). omega arith) (λ (p : (get_or l 0 0 ≡ 0x0F) × (get_or l 1 0 ≡ 0x1F)). omega (arith, p.0)))
    (λ (p : (get_or l 0 0 ≡ 0x66) × Opcode (drop 1 l)). omega (arith, p.0))
    (nop_opens l h)
