-- What is known of pieces that are fit to be joined, and of a whole that has room.
use Rattle.std.proofs.Common.{◌≡◌, ℕ, zero, suc, ◌+◌, ◌-◌, ◌*◌, ◌/◌, ◌<◌, ◌≤◌, true, false, not, eqb, leb, ◌≢◌, List, length, sym, ◌∙◌, add-one, arith, ltb-false, ltb-true, le-ltb, leb-true}
use borrow.Author.Tests.{eqb-false, not-true, not-false}
use Rattle.refusals.specs.Numbers as refusals
use Rattle.seqs.specs.Every.{all}
use Rattle.seqs.proofs.Booleans.{both_true}
use Rattle.seqs.proofs.Every.{all_at}
use Rattle.seqs.proofs.Picking.{passed, neither, pick_no}
use Rattle.buffer.specs.State.{label_target}
use Rattle.buffer.specs.Tables.{most_entries, most_code, label_size, reloc_size}
use Rattle.join.specs.declared.Piece.{Piece}
use Rattle.join.specs.declared.Cursor.{Cursor}
use Rattle.join.specs.Pieces.{
  Lent,
  lent_of,
  most_pieces,
  piece_size,
  piece_count,
  piece_at,
  base_of,
  cursor_at,
  piece_fits,
  sums_fit,
  piece_within_limits,
  pieces_fit,
  within_limits,
}
use Rattle.join.specs.Join.{
  Test,
  Known,
  Defined,
  Inside,
  Reaches,
  Moves,
  last_place,
  is_filled,
  piece_reloc,
  remaining_holds,
  holds,
  relocs_hold,
  all_hold,
  all_labels_move,
  count_remaining,
  known_in,
  lent_fits,
  remaining_count,
  why_unfit,
  why_undefined,
  why_no_table,
  why_no_field,
  why_no_output,
  why_no_room,
  why_not_joined,
}
use Rattle.join.specs.steps.Within.{NearBy, Near, Symbols, Relocations, Labels}
use Rattle.join.specs.steps.Tables.{Settled, Resolves}
use Rattle.join.specs.steps.Writes.{RelocMoves, Joins, Whole}
use Rattle.join.proofs.Cursors.{
  Counts,
  near_after,
  near_most,
  cursor_next,
  cursor_none,
  piece_within,
  Summed,
  sums_summed,
  labels_within,
  symbols_within,
  relocs_within,
  code_within,
}
use Rattle.join.proofs.Writing.{count_le}

-- pieces within their limits lead to a near cursor, with few labels and relocations
pub record Few (k : ℕ) (c : Cursor) : Type 0 where
  pub near : NearBy k c
  pub labels : c.labels ≤ k * most_entries
  pub relocs : c.relocs ≤ k * most_entries

pub few_pieces : (pieces : List ℕ) (n : ℕ) → pieces_fit pieces n ≡ true → within_limits pieces n ≡ true → Few n (cursor_at pieces n)
unfolding pieces_fit within_limits all
few_pieces pieces zero fit within =
    rw (cursor_none pieces)
    (record {
      near = record { code = omega arith; labels = omega arith; relocs = omega arith; definitions = omega arith; end = omega arith };
      labels = omega arith;
      relocs = omega arith;
    })
few_pieces pieces (suc k) fit within =
    let p = piece_at pieces k in
    let c = cursor_at pieces k in
    let fits = both_true (all (λ (i : ℕ). piece_fits (piece_at pieces i)) k) (piece_fits p) fit in
    let limits = both_true (all (λ (i : ℕ). piece_within_limits (piece_at pieces i)) k) (piece_within_limits p) within in
    let before = few_pieces pieces k fits.0 limits.0 in
    let coded = both_true (leb p.len most_code) _ limits.1 in
    let labelled = both_true (leb p.labels most_entries) _ coded.1 in
    let listed = both_true (leb p.relocs most_entries) _ labelled.1 in
    let len = leb-true p.len most_code coded.0 in
    let labels = leb-true p.labels most_entries labelled.0 in
    let relocs = leb-true p.relocs most_entries listed.0 in
    let definitions = leb-true p.definitions most_entries listed.1 in
    let counts : Counts p = record { len = omega (arith, len); labels = omega (arith, labels); relocs = omega (arith, relocs); definitions = omega (arith, definitions) } in
    rw (← add-one k, ← cursor_next pieces k)
    (record {
      near = near_after k p c fits.1 counts before.near;
      labels = omega (arith, before.labels, labels);
      relocs = omega (arith, before.relocs, relocs);
    })

-- Pieces that are fit.
pub record Fit (l : Lent) : Type 0 where
  pub some : 0 < piece_count l.pieces
  pub most : piece_count l.pieces ≤ most_pieces
  pub pieces : pieces_fit l.pieces (piece_count l.pieces) ≡ true
  pub summed : Summed l (piece_count l.pieces)
  pub known : all_hold Known (known_in l) l.pieces l.relocs (piece_count l.pieces) ≡ true
  pub limits : within_limits l.pieces (piece_count l.pieces) ≡ true

-- there is a piece
pub fits_some : (l : Lent) → lent_fits l ≡ true → 0 < piece_count l.pieces
fits_some l fits =
    let n = piece_count l.pieces in
    let some = both_true (not (eqb n 0)) _ fits in
    let other = eqb-false n 0 (not-true (eqb n 0) some.0) in
    omega (arith, other)

pub unfit_passed : (l : Lent) → why_unfit l ≡ 0 → Fit l
unfolding why_unfit
unfit_passed l h =
    let n = piece_count l.pieces in
    let lent = passed (not (lent_fits l)) refusals.malformed _ (λ e. omega arith) h in
    let limited = passed (not (within_limits l.pieces n)) refusals.past_limit _ (λ e. omega arith) lent.1 in
    let some = both_true (not (eqb n 0)) _ (not-false (lent_fits l) lent.0) in
    let most = both_true (leb n most_pieces) _ some.1 in
    let fits = both_true (pieces_fit l.pieces n) _ most.1 in
    let sums = both_true (sums_fit l (cursor_at l.pieces n)) _ fits.1 in
    record {
      some = fits_some l (not-false (lent_fits l) lent.0);
      most = leb-true n most_pieces most.0;
      pieces = fits.0;
      summed = sums_summed l n sums.0;
      known = sums.1;
      limits = not-false _ limited.0;
    }

module _ (l : Lent) (fit : Fit l) where
  whole_few : Few (piece_count l.pieces) (cursor_at l.pieces (piece_count l.pieces))
  whole_few = few_pieces l.pieces (piece_count l.pieces) fit.pieces fit.limits

  whole_near : Near (cursor_at l.pieces (piece_count l.pieces))
  whole_near = near_most (piece_count l.pieces) (cursor_at l.pieces (piece_count l.pieces)) fit.most whole_few.near

  pub room : piece_count l.pieces * piece_size ≤ length l.pieces
  room = omega arith

  pub fit_symbols : Symbols l.pieces l.labels l.definitions (piece_count l.pieces)
  fit_symbols = symbols_within l (piece_count l.pieces) room fit.pieces whole_near fit.summed

  pub fit_labels : Labels l.pieces l.labels (piece_count l.pieces)
  fit_labels = labels_within l (piece_count l.pieces) room fit.pieces whole_near fit.summed

  pub fit_relocs : Relocations l.pieces l.relocs (piece_count l.pieces)
  fit_relocs = relocs_within l (piece_count l.pieces) room fit.pieces whole_near fit.summed

-- the same from the answer 0 of what is asked first
module _ (pieces code labels relocs definitions : List ℕ) (fit : why_unfit (lent_of pieces code labels relocs definitions) ≡ 0) where
  pub unfit_most : piece_count pieces ≤ most_pieces
  unfit_most = (unfit_passed _ fit).most

  pub unfit_pieces : pieces_fit pieces (piece_count pieces) ≡ true
  unfit_pieces = (unfit_passed _ fit).pieces

  pub unfit_labels : Labels pieces labels (piece_count pieces)
  unfit_labels = fit_labels _ (unfit_passed _ fit)

  pub unfit_symbols : Symbols pieces labels definitions (piece_count pieces)
  unfit_symbols = fit_symbols _ (unfit_passed _ fit)

  pub unfit_relocs : Relocations pieces relocs (piece_count pieces)
  unfit_relocs = fit_relocs _ (unfit_passed _ fit)

  pub unfit_resolves : {table : List ℕ} → Settled table pieces labels definitions (piece_count pieces) → Resolves table pieces labels definitions (piece_count pieces)
  unfit_resolves settled = record { symbols = unfit_symbols; settled = settled }

pub ruleset unfits = (unfit_most, unfit_pieces, unfit_labels, unfit_symbols, unfit_relocs, unfit_resolves)

-- A test that holds of all relocations holds of each.
pub each_holds : (test : Test) (known : ℕ → ℕ) (pieces relocs : List ℕ) (n : ℕ) → all_hold test known pieces relocs n ≡ true → (k : ℕ) → k < n
    → relocs_hold test known relocs (piece_at pieces k) (cursor_at pieces k) (piece_at pieces k).relocs ≡ true
unfolding all_hold
each_holds test known pieces relocs n each_one_holds k within =
    all_at (λ (i : ℕ). relocs_hold test known relocs (piece_at pieces i) (cursor_at pieces i) (piece_at pieces i).relocs) n k each_one_holds within

pub reloc_holds : (test : Test) (known : ℕ → ℕ) (relocs : List ℕ) (p : Piece) (c : Cursor) → relocs_hold test known relocs p c p.relocs ≡ true → (j : ℕ)
    → j < p.relocs → holds test known p c (piece_reloc relocs c j) ≡ true
unfolding relocs_hold
reloc_holds test known relocs p c held j within = all_at (λ (i : ℕ). holds test known p c (piece_reloc relocs c i)) p.relocs j held within

remaining_holds_lem : (test : Test) (known : ℕ → ℕ) (relocs : List ℕ) (p : Piece) (c : Cursor) → relocs_hold test known relocs p c p.relocs ≡ true → (j : ℕ)
    → j < p.relocs → is_filled p.arch (piece_reloc relocs c j) ≡ false → remaining_holds test p c (piece_reloc relocs c j) ≡ true
unfolding holds
remaining_holds_lem test known relocs p c held j within remains =
    sym (pick_no (is_filled p.arch (piece_reloc relocs c j)) _ _ remains) ∙ reloc_holds test known relocs p c held j within

-- A whole that has room.
pub record Room (l : Lent) (output labels relocs : ℕ) : Type 0 where
  pub label_room : (cursor_at l.pieces (piece_count l.pieces)).labels ≤ labels / label_size
  pub reloc_room : remaining_count l ≤ relocs / reloc_size
  pub inside : all_hold Inside (known_in l) l.pieces l.relocs (piece_count l.pieces) ≡ true
  pub reaches : all_hold Reaches (known_in l) l.pieces l.relocs (piece_count l.pieces) ≡ true
  pub end : (cursor_at l.pieces (piece_count l.pieces)).end ≤ last_place
  pub output_room : (cursor_at l.pieces (piece_count l.pieces)).end ≤ output
  pub labels_moved : all_labels_move l.pieces l.labels (piece_count l.pieces) ≡ true
  pub relocs_move : all_hold Moves (known_in l) l.pieces l.relocs (piece_count l.pieces) ≡ true

pub room_passed : (l : Lent) (output labels relocs : ℕ) → why_no_room l output labels relocs ≡ 0 → Room l output labels relocs
unfolding why_no_room why_no_table why_no_field why_no_output
room_passed l output labels relocs h =
    let some : refusals.table_full ≢ 0 = λ e. omega arith in
    let short : refusals.output_too_small ≢ 0 = λ e. omega arith in
    let tables = neither (why_no_table l labels relocs) _ h in
    let fields = neither (why_no_field l) _ tables.1 in
    let labelled = passed _ refusals.table_full _ some tables.0 in
    let listed = passed _ refusals.table_full 0 some labelled.1 in
    let inside = passed _ refusals.ref_overlaps _ (λ e. omega arith) fields.0 in
    let reaches = passed _ refusals.ref_out_of_reach 0 (λ e. omega arith) inside.1 in
    let end = passed _ refusals.output_too_small _ short fields.1 in
    let output_room = passed _ refusals.output_too_small _ short end.1 in
    let moves = passed _ refusals.output_too_small _ short output_room.1 in
    let relocs_move = passed _ refusals.output_too_small 0 short moves.1 in
    record {
      label_room = ltb-false _ _ labelled.0;
      reloc_room = ltb-false _ _ listed.0;
      inside = not-false _ inside.0;
      reaches = not-false _ reaches.0;
      end = ltb-false _ _ end.0;
      output_room = ltb-false _ _ output_room.0;
      labels_moved = not-false _ moves.0;
      relocs_move = not-false _ relocs_move.0;
    }

-- the relocations that remain are some of all
count_remaining_le : (pieces relocs : List ℕ) (n : ℕ) → count_remaining pieces relocs n ≤ (cursor_at pieces n).relocs
unfolding count_remaining cursor_at
count_remaining_le pieces relocs zero = omega arith
count_remaining_le pieces relocs (suc k) =
    omega (arith, count_remaining_le pieces relocs k, count_le relocs (piece_at pieces k) (cursor_at pieces k) (piece_at pieces k).relocs)

module _ (l : Lent) (output labels relocs : ℕ) (fit : Fit l) (enough : Room l output labels relocs) where
  reloc_moves : (k : ℕ) → k < piece_count l.pieces → (j : ℕ) → j < (piece_at l.pieces k).relocs
      → RelocMoves (piece_at l.pieces k) (cursor_at l.pieces k) (piece_reloc l.relocs (cursor_at l.pieces k) j)
  reloc_moves k within j inside =
      let n = piece_count l.pieces in
      let p = piece_at l.pieces k in
      let c = cursor_at l.pieces k in
      let r = piece_reloc l.relocs c j in
      record {
        offset = λ remains.
            leb-true (base_of p c + r.offset) last_place
            (remaining_holds_lem Moves (known_in l) l.relocs p c (each_holds Moves (known_in l) l.pieces l.relocs n enough.relocs_move k within) j inside remains);
        target = λ remains label.
            let known = remaining_holds_lem Known (known_in l) l.relocs p c (each_holds Known (known_in l) l.pieces l.relocs n fit.known k within) j inside remains in
            let below = ltb-true (r.target - label_target) p.labels (rw (le-ltb r.target label_target label) at known) in
            omega (arith, below, (piece_within l.pieces k n within).labels, (whole_few l fit).labels, fit.most);
      }

  pub fit_joins : Joins l (piece_count l.pieces) output labels relocs
  fit_joins =
      record {
        few = fit.most;
        labels = fit_labels l fit;
        relocations = fit_relocs l fit;
        code = code_within l (piece_count l.pieces) (room l fit) fit.pieces (whole_near l fit) fit.summed;
        inside = enough.inside;
        labels_moved = enough.labels_moved;
        relocs_move = reloc_moves;
        output_room = enough.output_room;
        labels_room = omega (arith, enough.label_room);
        relocs_room = omega (arith, enough.reloc_room);
      }

  pub fit_whole : Whole l.pieces l.relocs (piece_count l.pieces)
  fit_whole =
      record {
        relocations = fit_relocs l fit;
        some = fit.some;
        few = fit.most;
        fits = fit.pieces;
        end = enough.end;
        label_count = omega (arith, (whole_few l fit).labels, fit.most);
        reloc_count = omega (arith, count_remaining_le l.pieces l.relocs (piece_count l.pieces), (whole_few l fit).relocs, fit.most);
      }

-- Where nothing refuses the joining, the pieces are fit and the whole has room.
pub joined_passed : (l : Lent) (output labels relocs : ℕ) → why_not_joined l output labels relocs ≡ 0 → Fit l × Room l output labels relocs
unfolding why_not_joined
joined_passed l output labels relocs h =
    let first = neither (why_unfit l) _ h in
    let second = neither (why_undefined l) _ first.1 in
    (unfit_passed l first.0, room_passed l output labels relocs second.1)

-- and every symbol that a field is filled with is defined by a bound label
pub joined_defined : (l : Lent) (output labels relocs : ℕ) → why_not_joined l output labels relocs ≡ 0
    → all_hold Defined (known_in l) l.pieces l.relocs (piece_count l.pieces) ≡ true
unfolding why_not_joined why_undefined
joined_defined l output labels relocs h =
    let first = neither (why_unfit l) _ h in
    let second = neither (why_undefined l) _ first.1 in
    let once = passed _ refusals.symbol_defined_twice _ (λ e. omega arith) second.0 in
    not-false _ (passed _ refusals.symbol_undefined 0 (λ e. omega arith) once.1).0
