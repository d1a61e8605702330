-- A branch's form, its field filled as `fill_jump` fills it, is read as the recorded condition to the label: what `form_reads` (Relaxing) is for jumps.
use mathlib.Core.Path.{◌≡◌, refl, sym, ap, ◌∙◌}
use mathlib.Core.Bool.{Bool, true, false}
use mathlib.Core.List.{List, ◌++◌}
use Prim.Native.Nat.{ℕ, ◌+◌, ◌<◌}
use native.Mathlib.Nat.{mod-eq_of_lt}
use native.Mathlib.Omega.{arith}
use lib.ListN.{length}
use Rattle.seqs.specs.Over.{over}
use Rattle.seqs.proofs.Overwrites.{over_all}
use Rattle.words.specs.Words.{word_at, bytes_of}
use Rattle.fields.specs.declared.LabelUse.{LabelUse}
use Rattle.fields.specs.declared.LabelUse.TheVariants.{A64Branch26}
use Rattle.fields.specs.Words64.{modulus, plus, minus}
use Rattle.fields.specs.Kinds.{patch_size}
use Rattle.fields.specs.Reach.{can_reach, can_reach_delta}
use Rattle.fields.specs.Patch.{patched}
use Rattle.fields.specs.Branches.{is_branch, field_kind, skipping, open_b, short_branch}
use Rattle.fields.specs.Branching.{ShortReads, LongReads, BranchReads}
use Rattle.fields.proofs.Patching.{patched_field}
use Rattle.fields.proofs.Branching.{short_reads, long_reads}
use Rattle.relax.specs.declared.FarBranch.{FarBranch}
use Rattle.relax.specs.declared.LayoutEvent.TheVariants.{Far}
use Rattle.fresh.specs.Forms.{form, field_of, far_branch_of}
use Rattle.fresh.specs.Fill.{part}
use Rattle.fresh.proofs.Forms.{field_either}

reach_either : (code start label : ℕ) → can_reach_delta (field_kind code) (minus label start) ≡ true → can_reach (field_kind code) start label ≡ true
unfolding can_reach
reach_either code start label = field_either (λ (k : LabelUse). can_reach_delta k (minus label start) ≡ true → can_reach k start label ≡ true) (λ h. h) (λ h. h) code

size_either : (code : ℕ) → patch_size (field_kind code) ≡ 4
size_either = field_either (λ (k : LabelUse). patch_size k ≡ 4) refl refl

four_bytes : (k : LabelUse) (offset target w : ℕ) → patch_size k ≡ 4 → length (patched k offset target (bytes_of w)) ≡ 4
four_bytes k offset target w four = ap length (patched_field k offset target (bytes_of w) (sym four)) ∙ rw four refl

module _ (arch : ℕ) (f : FarBranch) (recorded : List ℕ) (base start label : ℕ) (is : is_branch f.code (word_at recorded 0) ≡ true)
    (small : word_at recorded 0 < 4294967296) (start_fits : start + 4 < modulus) (label_fits_lem : label < modulus) where
  no_addend : plus label 0 ≡ label
  no_addend = mod-eq_of_lt {n = label + 0} {m = modulus} (omega arith) ∙ omega arith

  short : can_reach_delta (field_kind f.code) (minus label start) ≡ true
      → ShortReads (plus base start) (word_at recorded 0) (plus base label)
      (over (short_branch (word_at recorded 0)) 0 (patched (field_kind f.code) (start + 0) (plus label 0) (short_branch (word_at recorded 0))))
  short r =
      let w = word_at recorded 0 in
      let at : start + 0 ≡ start = omega arith in
      rw (at, no_addend, over_all (short_branch w) (patched (field_kind f.code) start label (short_branch w)) (four_bytes (field_kind f.code) start label w (size_either f.code)))
      (short_reads base start label f.code w is small start_fits label_fits_lem (reach_either f.code start label r))

  long : can_reach_delta A64Branch26 (minus label (start + 4)) ≡ true
      → LongReads (plus base start) (word_at recorded 0) (plus base label)
      (bytes_of (skipping f.code (word_at recorded 0)) ++ over (bytes_of open_b) 0 (patched A64Branch26 (start + 4) (plus label 0) (bytes_of open_b)))
  unfolding can_reach
  long r =
      rw (no_addend, over_all (bytes_of open_b) (patched A64Branch26 (start + 4) label (bytes_of open_b)) (four_bytes A64Branch26 (start + 4) label open_b refl))
      (long_reads base start label f.code (word_at recorded 0) is small start_fits label_fits_lem r)

  -- The form with its field filled, where 20 does not refuse.
  pub far_form_reads : (long? : Bool) → let field = field_of (far_branch_of f) long? in let placed = form arch (Far f) recorded long? start in
      can_reach_delta field.kind (minus label (start + field.place)) ≡ true
      → BranchReads long? (plus base start) (word_at recorded 0) (plus base label)
      (over placed field.place (patched field.kind (start + field.place) (plus label 0) (part placed field.place 4)))
  unfolding form over
  far_form_reads false r = let at : start + 0 ≡ start = omega arith in short (rw at at r)
  far_form_reads true r = long r
