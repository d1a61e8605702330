-- The table of symbols: what an entry says as definitions are noted, one after the other.
use Rattle.std.proofs.Common.{◌≡◌, ℕ, ◌+◌, ◌<◌, ◌≢◌, List, length, set, replicate, sym, ap, ◌∙◌, ⊎_elim, add-one, arith, length-set, get_or-set_other, get_or-set_same}
use Rattle.seqs.specs.Pick.{or_else, first_of}
use Rattle.seqs.proofs.Numbers.{eq_or_ne}
use Rattle.seqs.proofs.Picking.{yes_eq, no_eq, neither}
use Rattle.join.specs.declared.Piece.{Piece}
use Rattle.join.specs.declared.Cursor.{Cursor}
use Rattle.join.specs.Symbols.{undefined, symbol_at, defined, defined_as, find_in, find, find_before}
use Rattle.join.specs.steps.Tables.{Settled, Begun}
use Rattle.join.proofs.Lists.{or_none, none_or, zero_at}
use Rattle.join.proofs.Turns.{Turn}

-- what a definition adds
module _ (pieces labels definitions : List ℕ) (k : ℕ) (p : Piece) (c : Cursor) where
  said_more : (j s : ℕ) → symbol_at definitions c j ≡ s → find_before pieces labels definitions k p c j s ≡ 0
      → defined labels definitions p c j ≡ find_before pieces labels definitions k p c (j + 1) s
  unfolding find_before find_in first_of
  said_more j s e none =
      let silent = neither (find pieces labels definitions k s) (find_in labels definitions p c j s) none in
      sym (rw (add-one j)
      (none_or (find pieces labels definitions k s) _ silent.0
      ∙ none_or (first_of (defined_as labels definitions p c s) j) _ silent.1
      ∙ yes_eq (symbol_at definitions c j) s _ undefined e))

  said_no_more : (j s : ℕ) → symbol_at definitions c j ≢ s
      → find_before pieces labels definitions k p c j s ≡ find_before pieces labels definitions k p c (j + 1) s
  unfolding find_before find_in first_of
  said_no_more j s ne =
      let silent = no_eq (symbol_at definitions c j) s (defined labels definitions p c j) undefined ne in
      sym (rw (add-one j, silent) (ap (or_else (find pieces labels definitions k s)) (or_none (first_of (defined_as labels definitions p c s) j))))

module _ {pieces labels definitions : List ℕ} {k : ℕ} where
  -- before the first definition of a piece, after one of a symbol that nothing defined before, and after the last
  pub begun_none : {table : List ℕ} (p : Piece) (c : Cursor) → Settled table pieces labels definitions k → Begun table pieces labels definitions k p c 0
  unfolding find_before find_in first_of
  begun_none p c settled = record { entry = λ s within. settled.entry s within ∙ sym (or_none (find pieces labels definitions k s)) }

  pub begun_next : {table : List ℕ} {p : Piece} {c : Cursor} {j s known : ℕ} → Begun table pieces labels definitions k p c j → s ≡ symbol_at definitions c j
      → find_before pieces labels definitions k p c j s ≡ 0 → known ≡ defined labels definitions p c j
      → Begun (set table s known) pieces labels definitions k p c (j + 1)
  begun_next {table} {p} {c} {j} {s} {known} begun symbol none says =
      record {
        entry = λ t within.
            let inside : t < length table = omega (arith, length-set table s known) in
            ⊎_elim
            (λ (same : t ≡ s).
            rw same
            (get_or-set_same table s known undefined (rw same at inside)
            ∙ says
            ∙ said_more pieces labels definitions k p c j s (sym symbol) none))
            (λ (other : t ≢ s).
            get_or-set_other table s t known undefined other
            ∙ begun.entry t inside
            ∙ said_no_more pieces labels definitions k p c j t (λ e. other (sym e ∙ sym symbol)))
            (eq_or_ne t s);
      }

  pub begun_all : {table : List ℕ} {p : Piece} {c : Cursor} → Turn pieces k p c → Begun table pieces labels definitions k p c p.definitions
      → Settled table pieces labels definitions (k + 1)
  unfolding find_before find first_of
  begun_all turn begun = record { entry = λ s within. rw (add-one k) (rw (turn.piece, turn.cursor) at (begun.entry s within)) }

-- A clear table knows what no piece says.
pub settled_clear : (m : ℕ) (pieces labels definitions : List ℕ) → Settled (replicate m 0) pieces labels definitions 0
unfolding find first_of
settled_clear m pieces labels definitions = record { entry = λ s within. zero_at m s }
