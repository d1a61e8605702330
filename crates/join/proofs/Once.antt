-- When a symbol is defined twice: 28 is refused exactly where two definitions have one symbol.
use Rattle.std.proofs.Common.{◌≡◌, ℕ, zero, suc, ◌<◌, true, false, eqb, ◌≢◌, ◌⊎◌, List, sym, refl, ap, ◌∙◌, inl, inr, ⊎_elim, arith, eqb-true}
use borrow.Author.Tests.{eqb-false}
use Rattle.seqs.specs.Pick.{first_of}
use Rattle.seqs.proofs.Every.{all_at, all_not}
use Rattle.seqs.proofs.Numbers.{eq_or_ne}
use Rattle.seqs.proofs.Picking.{pick_either, yes_eq, no_eq, neither}
use Rattle.seqs.proofs.Scans.{each_none}
use Rattle.join.specs.declared.Piece.{Piece}
use Rattle.join.specs.declared.Cursor.{Cursor}
use Rattle.join.specs.Pieces.{piece_at, cursor_at}
use Rattle.join.specs.Symbols.{undefined, symbol_at, defined, defined_as, find_in, find, find_before, new_in, defined_once}

-- a definition comes before another, in one piece or in an earlier one
pub record Definition (pieces definitions : List ℕ) (n : ℕ) : Type 0 where
  pub piece : ℕ
  pub entry : ℕ
  pub known : piece < n
  pub listed : entry < (piece_at pieces piece).definitions

abbrev pub symbol_of : {pieces definitions : List ℕ} {n : ℕ} → Definition pieces definitions n → ℕ
symbol_of {pieces} {definitions} d = symbol_at definitions (cursor_at pieces d.piece) d.entry

abbrev pub Before : {pieces definitions : List ℕ} {n : ℕ} → Definition pieces definitions n → Definition pieces definitions n → Type 0
Before d e = (d.piece < e.piece) ⊎ ((d.piece ≡ e.piece) × (d.entry < e.entry))

-- the first that is not 0 is one of them
pub record Some (f : ℕ → ℕ) (n : ℕ) : Type 0 where
  pub at : ℕ
  pub below : at < n
  pub some : f at ≢ 0

first_some : (f : ℕ → ℕ) (n : ℕ) → first_of f n ≢ 0 → Some f n
unfolding first_of
first_some f zero some = absurd (some refl)
first_some f (suc n) some =
    ⊎_elim
    (λ (none : first_of f n ≡ 0). record { at = n; below = omega arith; some = λ z. some (yes_eq (first_of f n) 0 (f n) (first_of f n) none ∙ z) })
    (λ (more : first_of f n ≢ 0).
    let s = first_some f n more in record { at = s.at; below = omega (arith, s.below); some = s.some })
    (eq_or_ne (first_of f n) 0)

module _ (pieces labels definitions : List ℕ) where
  -- a definition says something of its own symbol, and nothing of another
  says_something : (p : Piece) (c : Cursor) (j s : ℕ) → symbol_at definitions c j ≡ s → defined_as labels definitions p c s j ≢ 0
  says_something p c j s e none =
      pick_either (λ (n : ℕ). n ≢ 0) _ _ 1 (λ z. omega arith) (λ z. omega arith) (sym (yes_eq (symbol_at definitions c j) s _ undefined e) ∙ none)

  says_of_its_own : (p : Piece) (c : Cursor) (j s : ℕ) → defined_as labels definitions p c s j ≢ 0 → symbol_at definitions c j ≡ s
  says_of_its_own p c j s some =
      ⊎_elim
      (λ (same : symbol_at definitions c j ≡ s). same)
      (λ other. absurd (some (no_eq (symbol_at definitions c j) s (defined labels definitions p c j) undefined other)))
      (eq_or_ne (symbol_at definitions c j) s)

  found_in : (p : Piece) (c : Cursor) (m j s : ℕ) → j < m → symbol_at definitions c j ≡ s → find_in labels definitions p c m s ≢ 0
  unfolding find_in
  found_in p c m j s within e none = says_something p c j s e (each_none (defined_as labels definitions p c s) m none j within)

  found : (n k j s : ℕ) → k < n → j < (piece_at pieces k).definitions → symbol_at definitions (cursor_at pieces k) j ≡ s → find pieces labels definitions n s ≢ 0
  unfolding find
  found n k j s within listed e none =
      found_in (piece_at pieces k) (cursor_at pieces k) (piece_at pieces k).definitions j s listed e
      (each_none (λ (i : ℕ). find_in labels definitions (piece_at pieces i) (cursor_at pieces i) (piece_at pieces i).definitions s) n none k within)

  -- Where no symbol is defined twice, two definitions have two symbols.
  pub once_distinct : (n : ℕ) → defined_once pieces labels definitions n ≡ true → (d e : Definition pieces definitions n) → Before d e → symbol_of d ≢ symbol_of e
  unfolding defined_once new_in find_before
  once_distinct n once d e before same =
      let p = piece_at pieces e.piece in
      let c = cursor_at pieces e.piece in
      let new = all_at (λ (k : ℕ). new_in pieces labels definitions k (piece_at pieces k) (cursor_at pieces k) (piece_at pieces k).definitions) n e.piece once e.known in
      let none = eqb-true _ _ (all_at (λ (j : ℕ). eqb (find_before pieces labels definitions e.piece p c j (symbol_at definitions c j)) undefined) p.definitions e.entry new e.listed) in
      let silent = neither (find pieces labels definitions e.piece (symbol_of e)) (find_in labels definitions p c e.entry (symbol_of e)) none in
      ⊎_elim
      (λ (earlier : d.piece < e.piece). found e.piece d.piece d.entry (symbol_of e) earlier d.listed same silent.0)
      (λ (within : (d.piece ≡ e.piece) × (d.entry < e.entry)).
      found_in p c e.entry d.entry (symbol_of e) within.1 (ap (λ (k : ℕ). symbol_at definitions (cursor_at pieces k) d.entry) (sym within.0) ∙ same) silent.1)
      before

  -- Where one is, there are two that have it.
  pub record Twice (n : ℕ) : Type 0 where
    pub first : Definition pieces definitions n
    pub second : Definition pieces definitions n
    pub order : Before first second
    pub same : symbol_of first ≡ symbol_of second

  pub not_once_twice : (n : ℕ) → defined_once pieces labels definitions n ≡ false → Twice n
  unfolding defined_once new_in find_before find find_in
  not_once_twice n refused =
      let piece = all_not (λ (k : ℕ). new_in pieces labels definitions k (piece_at pieces k) (cursor_at pieces k) (piece_at pieces k).definitions) n refused in
      let k = piece.0 in
      let p = piece_at pieces k in
      let c = cursor_at pieces k in
      let entry = all_not (λ (j : ℕ). eqb (find_before pieces labels definitions k p c j (symbol_at definitions c j)) undefined) p.definitions piece.2 in
      let j = entry.0 in
      let s = symbol_at definitions c j in
      let some = eqb-false (find_before pieces labels definitions k p c j s) undefined entry.2 in
      let second : Definition pieces definitions n = record { piece = k; entry = j; known = piece.1; listed = entry.1 } in
      ⊎_elim
      (λ (none : find pieces labels definitions k s ≡ 0).
      let met = first_some (defined_as labels definitions p c s) j (λ z. some (yes_eq (find pieces labels definitions k s) 0 _ _ none ∙ z)) in
      record {
        first = record { piece = k; entry = met.at; known = piece.1; listed = omega (arith, met.below, entry.1) };
        second = second;
        order = inr (refl, met.below);
        same = says_of_its_own p c met.at s met.some;
      })
      (λ (more : find pieces labels definitions k s ≢ 0).
      let where-met = first_some (λ (i : ℕ). find_in labels definitions (piece_at pieces i) (cursor_at pieces i) (piece_at pieces i).definitions s) k more in
      let i = where-met.at in
      let met = first_some (defined_as labels definitions (piece_at pieces i) (cursor_at pieces i) s) (piece_at pieces i).definitions where-met.some in
      record {
        first = record { piece = i; entry = met.at; known = omega (arith, where-met.below, piece.1); listed = met.below };
        second = second;
        order = inl where-met.below;
        same = says_of_its_own (piece_at pieces i) (cursor_at pieces i) met.at s met.some;
      })
      (eq_or_ne (find pieces labels definitions k s) 0)
