-- What the two calls answer, from the number that their tests come to; and what is known where it is 0.
use Rattle.std.proofs.Common.{◌≡◌, ℕ, ◌*◌, ◌/◌, ◌≤◌, true, not, ◌&&◌, ltb, leb, ◌≢◌, List, length, sym, ap, ◌∙◌, subst, arith, ltb-false, leb-true}
use borrow.Author.Tests.{not-false}
use Rattle.refusals.specs.Numbers as refusals
use Rattle.seqs.proofs.Booleans.{both_true}
use Rattle.seqs.proofs.Picking.{pick_either, yes_eq, no_eq, no_not, passed, neither}
use Rattle.seqs.proofs.Scans.{first_either}
use Rattle.words.specs.Words.{over_words}
use Rattle.buffer.specs.Tables.{most_entries, label_size, reloc_size}
use Rattle.recording.specs.View.{reloc_at}
use Rattle.checks.specs.steps.Handed.{TargetsNamed}
use Rattle.finish.specs.declared.CodeBufferFinalized.{CodeBufferFinalized}
use Rattle.elf.specs.Elf.{
  rela_size,
  all_targets_bound,
  why_no_rela,
  why_no_relas,
  relocs_fit,
  within_limits,
  why_unfit,
  why_not_written,
  words_of_relas,
  write_relas,
  relas_fit,
  why_not_read,
  words_of_entries,
  read_relas,
}
use Rattle.elf.proofs.Targets.{targets_named}

-- a refusal leaves the output, without one the entries are there
module _ (code : CodeBufferFinalized) (labels relocs : List ℕ) (section : ℕ) (output : List ℕ) where
  pub write_refused : (why : ℕ) → why ≡ why_not_written code labels relocs (length output) → why ≢ 0 → (why, output) ≡ write_relas code labels relocs section output
  unfolding write_relas
  write_refused why e h = ap (λ (w : ℕ). (w, output)) e ∙ sym (no_eq _ 0 _ _ (λ z. h (e ∙ z)))

  pub write_done : (why : ℕ) (left : List ℕ) → why ≡ why_not_written code labels relocs (length output) → why ≡ 0
      → left ≡ over_words output (words_of_relas code.arch labels section relocs code.relocs)
      → (0, left) ≡ write_relas code labels relocs section output
  unfolding write_relas
  write_done why left e z w = ap (λ (l : List ℕ). (0, l)) w ∙ sym (yes_eq _ 0 _ _ (sym e ∙ z))

-- the same of the table that is read into
module _ (relas table : List ℕ) where
  pub read_refused : (why : ℕ) → why ≡ why_not_read relas (length table / reloc_size) → why ≢ 0 → (why, table) ≡ read_relas relas table
  unfolding read_relas
  read_refused why e h = ap (λ (w : ℕ). (w, table)) e ∙ sym (no_eq _ 0 _ _ (λ z. h (e ∙ z)))

  pub read_done : (why : ℕ) (left : List ℕ) → why ≡ why_not_read relas (length table / reloc_size) → why ≡ 0
      → left ≡ over_words table (words_of_entries relas (length relas / rela_size)) → (0, left) ≡ read_relas relas table
  unfolding read_relas
  read_done why left e z w = ap (λ (l : List ℕ). (0, l)) w ∙ sym (yes_eq _ 0 _ _ (sym e ∙ z))

-- relocations that are fit lie in their table, with the labels that they name
pub record Fit (code : CodeBufferFinalized) (labels relocs : List ℕ) : Type 0 where
  pub room : code.relocs * reloc_size ≤ length relocs
  pub named : TargetsNamed relocs code.relocs labels

pub unfit_passed : (code : CodeBufferFinalized) (labels relocs : List ℕ) → why_unfit code labels relocs ≡ 0 → Fit code labels relocs
unfolding why_unfit relocs_fit
unfit_passed code labels relocs h =
    let fit = not-false _ (passed _ refusals.malformed _ (λ e. omega arith) h).0 in
    let bound = all_targets_bound labels code.labels relocs code.relocs in
    let labelled = both_true (leb code.labels (length labels / label_size)) (leb code.relocs (length relocs / reloc_size) && bound) fit in
    let listed = both_true (leb code.relocs (length relocs / reloc_size)) bound labelled.1 in
    record {
      room = omega (arith, leb-true code.relocs (length relocs / reloc_size) listed.0);
      named = targets_named labels code.labels relocs code.relocs (omega (arith, leb-true code.labels (length labels / label_size) labelled.0)) listed.1;
    }

-- what is known where nothing refuses the writing
pub record Written (code : CodeBufferFinalized) (labels relocs : List ℕ) (room : ℕ) : Type 0 where
  pub fit : Fit code labels relocs
  pub none : why_no_relas code.arch labels relocs code.relocs ≡ 0
  pub output : code.relocs * rela_size ≤ room

pub write_passed : (code : CodeBufferFinalized) (labels relocs : List ℕ) (room : ℕ) → why_not_written code labels relocs room ≡ 0 → Written code labels relocs room
unfolding why_not_written
write_passed code labels relocs room h =
    let first = neither (why_unfit code labels relocs) _ h in
    let then = neither (why_no_relas code.arch labels relocs code.relocs) _ first.1 in
    record {
      fit = unfit_passed code labels relocs first.0;
      none = then.0;
      output = ltb-false room _ (passed _ refusals.elf_output_too_small 0 (λ e. omega arith) then.1).0;
    }

-- and the reading
pub record Read (relas : List ℕ) (room : ℕ) : Type 0 where
  pub fit : relas_fit relas ≡ true
  pub table : length relas / rela_size ≤ room

pub read_passed : (relas : List ℕ) (room : ℕ) → why_not_read relas room ≡ 0 → Read relas room
unfolding why_not_read
read_passed relas room h =
    let first = passed (not (relas_fit relas)) refusals.malformed _ (λ e. omega arith) h in
    let then = passed (ltb most_entries room) refusals.past_limit _ (λ e. omega arith) first.1 in
    record {
      fit = not-false _ first.0;
      table = ltb-false room _ (passed _ refusals.table_full 0 (λ e. omega arith) then.1).0;
    }

-- a number that says nothing of what is lent: neither 1 nor 3
abbrev pub OfEntries : ℕ → Type 0
OfEntries n = (n ≢ refusals.malformed) × (n ≢ refusals.past_limit)

-- Relocations that are fit, in tables within their limits, meet no number but 24, 25 and 26.
pub fit_of_entries : (code : CodeBufferFinalized) (labels relocs : List ℕ) (section : ℕ) (output : List ℕ) → relocs_fit code labels relocs ≡ true
    → within_limits labels relocs ≡ true → OfEntries (write_relas code labels relocs section output).0
unfolding write_relas why_not_written why_unfit why_no_relas why_no_rela
fit_of_entries code labels relocs section output fit within =
    let none : OfEntries 0 = (λ e. omega arith, λ e. omega arith) in
    let untyped : OfEntries refusals.no_elf_type = (λ e. omega arith, λ e. omega arith) in
    let unfit : OfEntries (why_unfit code labels relocs) =
    subst OfEntries (sym (no_not _ refusals.malformed _ fit ∙ no_not _ refusals.past_limit _ within)) (pick_either OfEntries _ refusals.no_elf_type 0 untyped none) in
    let entry : (i : ℕ) → OfEntries (why_no_rela code.arch labels (reloc_at relocs i)) =
    λ i. pick_either OfEntries _ refusals.no_elf_type _ untyped (pick_either OfEntries _ refusals.addend_overflow 0 (λ e. omega arith, λ e. omega arith) none) in
    let short = pick_either OfEntries (ltb (length output) (code.relocs * rela_size)) refusals.elf_output_too_small 0 (λ e. omega arith, λ e. omega arith) none in
    let entries = first_either OfEntries (λ (i : ℕ). why_no_rela code.arch labels (reloc_at relocs i)) code.relocs none entry in
    let why = pick_either OfEntries _ _ (why_unfit code labels relocs) (pick_either OfEntries _ _ (why_no_relas code.arch labels relocs code.relocs) short entries) unfit in
    pick_either (λ (a : ℕ × List ℕ). OfEntries a.0) _ (0, _) (why_not_written code labels relocs (length output), output) none why
