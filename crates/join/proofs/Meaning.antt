-- What a whole is, in terms of its pieces: where their bytes stand, what its gaps hold, and what a field that is filled means.
use Rattle.std.proofs.Common.{◌≡◌, ℕ, zero, suc, ◌+◌, ◌-◌, ◌%◌, ◌<◌, ◌≤◌, Bool, true, false, ◌⊎◌, List, ◌++◌, length, get_or, take, replicate, sym, refl, ap, ◌∙◌, subst, inl, inr, ⊎_elim, not-suc-le-zero, mod-eq_of_lt, arith, get_or-append-add}
use lib.ListN.{length-replicate, get_or-append}
use Rattle.seqs.specs.Over.{over}
use Rattle.seqs.proofs.Numbers.{lt_or_ge, eq_or_ne}
use Rattle.seqs.proofs.Overwrites.{get_d_over_in, get_d_over_before, get_d_over_after}
use Rattle.seqs.proofs.Picking.{pick_yes, pick_no, yes_eq, no_eq}
use Rattle.words.specs.Words.{word_at, bytes_of}
use Rattle.encoder.proofs.Padding.{padding_none, padding_aligns}
use Rattle.fields.specs.declared.LabelUse.{LabelUse}
use Rattle.fields.specs.declared.LabelUse.TheVariants.{
  X86JmpRel32,
  X86BranchRel8,
  A64Branch14,
  A64Branch19,
  A64Branch26,
  A64Ldr19,
  A64Adr21,
  A64Adrp21,
  A64AddAbsLo12,
}
use Rattle.fields.specs.Kinds.{arch_a64}
use Rattle.fields.specs.Meaning.{load_multiple, Clear, meaning, demanded}
use Rattle.fields.specs.Patch.{patched}
use Rattle.fields.specs.Reach.{can_reach}
use Rattle.fields.specs.Words64.{modulus, plus, sign_extend}
use Rattle.fields.proofs.Fields.{Field, field_means}
use Rattle.fields.proofs.Signed.{extend_low, extend_exact}
use Rattle.buffer.specs.State.{none}
use Rattle.recording.specs.View.{entries}
use Rattle.recording.proofs.Views.{get_d_entries, entries_same}
use Rattle.join.specs.declared.Piece.{Piece}
use Rattle.join.specs.declared.Cursor.{Cursor}
use Rattle.join.specs.declared.AsmReloc.{AsmReloc}
use Rattle.join.specs.Pieces.{page_size, piece_at, boundary, gap, base_of, cursor_at, piece_fits}
use Rattle.join.specs.Symbols.{first_place}
use Rattle.join.specs.Join.{
  is_filled,
  field_size,
  piece_reloc,
  value,
  fits32,
  moved_label,
  labels_joined,
  field_filled,
  filled_with,
  piece_code,
  filled_code,
  image,
}
use Rattle.join.specs.steps.Within.{CodeIn}
use Rattle.join.proofs.Lists.{zero_at}
use Rattle.join.proofs.Cursors.{boundary_range, piece_within}
use Rattle.join.proofs.Writing.{length_filled, length_image, length_labels}

either : (t : Bool) → (t ≡ true) ⊎ (t ≡ false)
either true = inl refl
either false = inr refl

-- Where the pieces stand. Each starts at its base with its own code, its fields filled, and the zeros in front of it are zeros.
module _ (known : ℕ → ℕ) (pieces relocs code : List ℕ) where
  abbrev whole : ℕ → List ℕ
  whole n = image known pieces relocs code n

  abbrev Lies : ℕ → Type 0
  Lies n = (k : ℕ) → k < n → CodeIn code (piece_at pieces k) (cursor_at pieces k)

  image_before : (n i : ℕ) → Lies n → i < (cursor_at pieces n).end → get_or (whole (suc n)) i 0 ≡ get_or (whole n) i 0
  unfolding image
  image_before n i lies within = get_or-append (whole n) _ 0 i (omega (arith, length_image known pieces relocs code n lies))

  image_at : (n i : ℕ) → Lies n
      → get_or (whole (suc n)) ((cursor_at pieces n).end + i) 0
      ≡ get_or (replicate (gap (piece_at pieces n) (cursor_at pieces n)) 0 ++ filled_code known relocs code (piece_at pieces n) (cursor_at pieces n)) i 0
  unfolding image
  image_at n i lies =
      let at : (cursor_at pieces n).end + i ≡ length (whole n) + i = omega (arith, length_image known pieces relocs code n lies) in
      ap (λ (x : ℕ). get_or (whole (suc n)) x 0) at ∙ get_or-append-add (whole n) _ i 0

  pub piece_stands : (n k : ℕ) → Lies n → k < n → (i : ℕ) → i < (piece_at pieces k).len
      → get_or (whole n) (base_of (piece_at pieces k) (cursor_at pieces k) + i) 0
      ≡ get_or (filled_code known relocs code (piece_at pieces k) (cursor_at pieces k)) i 0
  piece_stands zero k lies within i inside = absurd (not-suc-le-zero within)
  piece_stands (suc n) k lies within i inside =
      let p = piece_at pieces k in
      let c = cursor_at pieces k in
      let before : Lies n = λ j h. lies j (omega arith) in
      ⊎_elim
      (λ (earlier : k < n).
      image_before n (base_of p c + i) before (omega (arith, (piece_within pieces k n earlier).end)) ∙ piece_stands n k before earlier i inside)
      (λ ge.
      let last : k ≡ n = omega arith in
      let m = gap (piece_at pieces n) (cursor_at pieces n) in
      let zeros = replicate {A = ℕ} m 0 in
      let at : (cursor_at pieces n).end + m + i ≡ (cursor_at pieces n).end + (length zeros + i) = omega (arith, length-replicate {A = ℕ} m 0) in
      rw last
      (ap (λ (x : ℕ). get_or (whole (suc n)) x 0) at
      ∙ image_at n (length zeros + i) before
      ∙ get_or-append-add zeros (filled_code known relocs code (piece_at pieces n) (cursor_at pieces n)) i 0))
      (lt_or_ge k n)

  pub gap_clear : (n k : ℕ) → Lies n → k < n → (i : ℕ) → i < gap (piece_at pieces k) (cursor_at pieces k)
      → get_or (whole n) ((cursor_at pieces k).end + i) 0 ≡ 0
  gap_clear zero k lies within i inside = absurd (not-suc-le-zero within)
  gap_clear (suc n) k lies within i inside =
      let before : Lies n = λ j h. lies j (omega arith) in
      ⊎_elim
      (λ (earlier : k < n).
      image_before n ((cursor_at pieces k).end + i) before (omega (arith, (piece_within pieces k n earlier).end)) ∙ gap_clear n k before earlier i inside)
      (λ ge.
      let last : k ≡ n = omega arith in
      let m = gap (piece_at pieces n) (cursor_at pieces n) in
      let fewer : i < m = rw last at inside in
      let zeros = replicate {A = ℕ} m 0 in
      let among : i < length zeros = omega (arith, length-replicate {A = ℕ} m 0, fewer) in
      rw last
      (image_at n i before
      ∙ get_or-append zeros (filled_code known relocs code (piece_at pieces n) (cursor_at pieces n)) 0 i among
      ∙ zero_at m i))
      (lt_or_ge k n)

-- A byte lies outside the field of a relocation.
abbrev pub Outside : ℕ → AsmReloc → Type 0
Outside i r = (i < r.offset) ⊎ (r.offset + field_size ≤ i)

module _ (known : ℕ → ℕ) (p : Piece) (c : Cursor) where
  field_leaves : (r : AsmReloc) (code : List ℕ) (i : ℕ) → (is_filled p.arch r ≡ true → Outside i r)
      → get_or (field_filled known p c r code) i 0 ≡ get_or code i 0
  field_leaves r code i outside =
      let bytes = bytes_of (value (known r.target) p c r % 4294967296) in
      ⊎_elim
      (λ filled.
      ap (λ (l : List ℕ). get_or l i 0) (pick_yes (is_filled p.arch r) (over code r.offset bytes) code filled)
      ∙ ⊎_elim
      (λ (before : i < r.offset). get_d_over_before code r.offset bytes i 0 before)
      (λ (after : r.offset + field_size ≤ i). get_d_over_after code r.offset bytes i 0 after)
      (outside filled))
      (λ remains. ap (λ (l : List ℕ). get_or l i 0) (pick_no (is_filled p.arch r) (over code r.offset bytes) code remains))
      (either (is_filled p.arch r))

  field_next : (relocs code : List ℕ) (m i : ℕ) → (is_filled p.arch (piece_reloc relocs c m) ≡ true → Outside i (piece_reloc relocs c m))
      → get_or (filled_with known relocs p c code (suc m)) i 0 ≡ get_or (filled_with known relocs p c code m) i 0
  unfolding filled_with
  field_next relocs code m i outside = field_leaves (piece_reloc relocs c m) (filled_with known relocs p c code m) i outside

  -- Bytes outside the fields that are filled are the piece's own.
  pub outside_kept : (relocs code : List ℕ) (m i : ℕ) → ((j : ℕ) → j < m → is_filled p.arch (piece_reloc relocs c j) ≡ true → Outside i (piece_reloc relocs c j))
      → get_or (filled_with known relocs p c code m) i 0 ≡ get_or code i 0
  unfolding filled_with
  outside_kept relocs code zero i outside = refl
  outside_kept relocs code (suc m) i outside =
      field_next relocs code m i (outside m (omega arith))
      ∙ outside_kept relocs code m i (λ j h. outside j (omega arith))

  -- byte i of the value that relocation j is filled with
  abbrev value_byte : List ℕ → ℕ → ℕ → ℕ
  value_byte relocs j i = get_or (bytes_of (value (known (piece_reloc relocs c j).target) p c (piece_reloc relocs c j) % 4294967296)) i 0

  abbrev Filled : List ℕ → ℕ → Type 0
  Filled relocs j = is_filled p.arch (piece_reloc relocs c j) ≡ true

  field_last : (relocs code : List ℕ) (m i : ℕ) → Filled relocs m → (piece_reloc relocs c m).offset + field_size ≤ length code → i < field_size
      → get_or (filled_with known relocs p c code (suc m)) ((piece_reloc relocs c m).offset + i) 0 ≡ value_byte relocs m i
  unfolding filled_with
  field_last relocs code m i filled room four =
      let r = piece_reloc relocs c m in
      let before = filled_with known relocs p c code m in
      let bytes = bytes_of (value (known r.target) p c r % 4294967296) in
      ap (λ (l : List ℕ). get_or l (r.offset + i) 0) (pick_yes (is_filled p.arch r) (over before r.offset bytes) before filled)
      ∙ get_d_over_in before r.offset bytes i 0 four (omega (arith, room, length_filled known relocs p c code m))

  -- A byte of a field that is filled is its value's, if no later field covers it.
  pub field_stands : (relocs code : List ℕ) (m j : ℕ) → j < m → Filled relocs j → (piece_reloc relocs c j).offset + field_size ≤ length code → (i : ℕ)
      → i < field_size
      → ((later : ℕ) → j < later → later < m → Filled relocs later → Outside ((piece_reloc relocs c j).offset + i) (piece_reloc relocs c later))
      → get_or (filled_with known relocs p c code m) ((piece_reloc relocs c j).offset + i) 0 ≡ value_byte relocs j i
  field_stands relocs code zero j within filled inside i four covered = absurd (not-suc-le-zero within)
  field_stands relocs code (suc m) j within filled inside i four covered =
      ⊎_elim
      (λ (earlier : j < m).
      field_next relocs code m ((piece_reloc relocs c j).offset + i) (covered m earlier (omega arith))
      ∙ field_stands relocs code m j earlier filled inside i four (λ later h w. covered later h (omega arith)))
      (λ (ge : m ≤ j).
      let last : m ≡ j = omega arith in
      subst (λ (x : ℕ). get_or (filled_with known relocs p c code (suc x)) ((piece_reloc relocs c j).offset + i) 0 ≡ value_byte relocs j i) (sym last)
      (field_last relocs code j i filled inside four))
      (lt_or_ge j m)

-- What such a field means, by Intel's manual: its 32 bits, sign-extended, added to its own place give the symbol's place plus the addend.
pub field_means_symbol : (found : ℕ) (p : Piece) (c : Cursor) (r : AsmReloc) → base_of p c + r.offset < modulus → fits32 (value found p c r) ≡ true
    → plus (base_of p c + r.offset) (sign_extend 32 (value found p c r % 4294967296)) ≡ plus (found - first_place) r.addend
field_means_symbol found p c r near fits =
    let v = value found p c r in
    let small : v < modulus = omega arith in
    let whole : sign_extend 32 (v % 4294967296) ≡ v = extend_low 32 v ∙ extend_exact 32 (omega arith) (omega arith) v small fits in
    rw whole (omega arith)

-- Labels are the pieces', moved.
pub label_moved : (pieces labels : List ℕ) (n k : ℕ) → k < n → (j : ℕ) → j < (piece_at pieces k).labels
    → get_or (labels_joined pieces labels n) ((cursor_at pieces k).labels + j) 0
    ≡ moved_label (base_of (piece_at pieces k) (cursor_at pieces k)) (word_at labels ((cursor_at pieces k).labels + j))
unfolding labels_joined
label_moved pieces labels zero k within j known = absurd (not-suc-le-zero within)
label_moved pieces labels (suc n) k within j known =
    let f : ℕ → ℕ → ℕ = λ i x. moved_label (base_of (piece_at pieces i) (cursor_at pieces i)) (word_at labels ((cursor_at pieces i).labels + x)) in
    ⊎_elim
    (λ (earlier : k < n).
    get_or-append (labels_joined pieces labels n) _ 0 ((cursor_at pieces k).labels + j)
    (omega (arith, length_labels pieces labels n, (piece_within pieces k n earlier).labels))
    ∙ label_moved pieces labels n k earlier j known)
    (λ ge.
    let last : k ≡ n = omega arith in
    let at : (cursor_at pieces n).labels + j ≡ length (labels_joined pieces labels n) + j = omega (arith, length_labels pieces labels n) in
    rw last
    (ap (λ (x : ℕ). get_or (labels_joined pieces labels (suc n)) x 0) at
    ∙ get_or-append-add (labels_joined pieces labels n) (entries (f n) (piece_at pieces n).labels) j 0
    ∙ get_d_entries (f n) (piece_at pieces n).labels j 0 (rw last at known)))
    (lt_or_ge k n)

-- On AArch64 a base is a multiple of 4,096. So wherever the whole is loaded on a page, the code of a piece is, as ADRP and ADD ask (`field_means`).
pub base_on_page : (p : Piece) (c : Cursor) → piece_fits p ≡ true → p.arch ≡ arch_a64 → base_of p c % page_size ≡ 0
base_on_page p c fits arch =
    let page : boundary p ≡ page_size = yes_eq p.arch arch_a64 page_size p.alignment arch in
    let multiple = padding_aligns c.end (boundary p) (boundary_range p fits).0 in
    ap (λ (m : ℕ). base_of p c % m) (sym page) ∙ multiple

pub loads_on_multiple : (p : Piece) (c : Cursor) → piece_fits p ≡ true → p.arch ≡ arch_a64 → (load : ℕ) → load % page_size ≡ 0 → (k : LabelUse)
    → (load + base_of p c) % load_multiple k ≡ 0
loads_on_multiple p c fits arch load page X86JmpRel32 = omega arith
loads_on_multiple p c fits arch load page X86BranchRel8 = omega arith
loads_on_multiple p c fits arch load page A64Branch14 = omega arith
loads_on_multiple p c fits arch load page A64Branch19 = omega arith
loads_on_multiple p c fits arch load page A64Branch26 = omega arith
loads_on_multiple p c fits arch load page A64Ldr19 = omega arith
loads_on_multiple p c fits arch load page A64Adr21 = omega arith
loads_on_multiple p c fits arch load page A64Adrp21 = omega (arith, base_on_page p c fits arch, page)
loads_on_multiple p c fits arch load page A64AddAbsLo12 = omega (arith, base_on_page p c fits arch, page)

-- A field that reaches its label in the piece means it in the whole, by Arm's manual, wherever the whole is loaded on a page: its bytes are the piece's own
-- (on AArch64 nothing is filled), and offset and label both move by the base.
pub field_moves : (p : Piece) (c : Cursor) → piece_fits p ≡ true → p.arch ≡ arch_a64 → (load : ℕ) → load % page_size ≡ 0 → (k : LabelUse) (offset target : ℕ)
    (bytes : List ℕ) → Field k bytes → offset < modulus → target < modulus → Clear k (word_at bytes 0) → can_reach k offset target ≡ true
    → meaning k (plus (load + base_of p c) offset) (word_at (patched k offset target bytes) 0) ≡ demanded k (plus (load + base_of p c) target)
field_moves p c fits arch load page k offset target bytes field near aim clear reaches =
    field_means k (load + base_of p c) offset target bytes field near aim (loads_on_multiple p c fits arch load page k) clear reaches

-- One piece of which nothing is to be filled is its own whole: the code as lent, the labels as they are.
nothing_filled : (known : ℕ → ℕ) (relocs : List ℕ) (p : Piece) (c : Cursor) (code : List ℕ) (m : ℕ)
    → ((j : ℕ) → j < m → is_filled p.arch (piece_reloc relocs c j) ≡ false) → filled_with known relocs p c code m ≡ code
unfolding filled_with
nothing_filled known relocs p c code zero remain = refl
nothing_filled known relocs p c code (suc m) remain =
    pick_no (is_filled p.arch (piece_reloc relocs c m)) _ _ (remain m (omega arith)) ∙ nothing_filled known relocs p c code m (λ j h. remain j (omega arith))

unmoved : (offset : ℕ) → moved_label 0 offset ≡ offset
unmoved offset =
    ⊎_elim
    (λ (free : offset ≡ none). yes_eq offset none none (0 + offset) free ∙ sym free)
    (λ bound. no_eq offset none none (0 + offset) bound ∙ omega arith)
    (eq_or_ne offset none)

pub one_piece : (known : ℕ → ℕ) (pieces labels relocs code : List ℕ) → piece_fits (piece_at pieces 0) ≡ true
    → ((j : ℕ) → j < (piece_at pieces 0).relocs → is_filled (piece_at pieces 0).arch (piece_reloc relocs (cursor_at pieces 0) j) ≡ false)
    → (image known pieces relocs code 1 ≡ take (piece_at pieces 0).len code)
    × (labels_joined pieces labels 1 ≡ entries (word_at labels) (piece_at pieces 0).labels)
unfolding image labels_joined cursor_at
one_piece known pieces labels relocs code fits remain =
    let p = piece_at pieces 0 in
    let c = cursor_at pieces 0 in
    let none_before : gap p c ≡ 0 = padding_none 0 (boundary p) (boundary_range p fits).0 (mod-eq_of_lt (boundary_range p fits).0) in
    let first : base_of p c ≡ 0 = omega (arith, none_before) in
    let same : (j : ℕ) → moved_label (base_of p c) (word_at labels (0 + j)) ≡ word_at labels j =
    λ j.
    let at : 0 + j ≡ j = omega arith in rw (first, at) (unmoved (word_at labels j)) in (
      rw none_before (nothing_filled known relocs p c (piece_code code p c) p.relocs remain),
      entries_same _ (word_at labels) p.labels (λ j h. same j),
    )
