-- A jump whose displacement is written is read as a jump to its label.
use mathlib.Core.Path.{◌≡◌, refl, ap, ◌∙◌, subst}
use mathlib.Core.List.{[], ◌∷◌, List}
use Prim.Native.Nat.{ℕ, ◌+◌, ◌-◌, ◌/◌, ◌%◌, ◌≤◌, ◌<◌}
use native.Mathlib.Nat.{mod-lt, mod-eq_of_lt, mod-add-mod, add-mod_right}
use native.Mathlib.Omega.{arith}
use lib.ListN.{length}
use Rattle.seqs.specs.Over.{over}
use Rattle.words.specs.Words.{word_at, bytes_of}
use Rattle.words.proofs.Laws.{word_at_bytes_of}
use Rattle.fields.specs.Words64.{modulus, plus, minus, sign_extend}
use Rattle.fields.specs.Intel.{rel8, rel32}
use Rattle.fields.proofs.Signed.{true_range, extend_exact, extend_low, plus_minus}
use Rattle.fields.specs.declared.LabelUse.TheVariants.{X86JmpRel32, X86BranchRel8}
use Rattle.fields.specs.Patch.{patched}
use Rattle.relax.specs.declared.Condition.{Condition}
use Rattle.relax.specs.declared.Condition.TheVariants.{Always, On}
use Rattle.relax.specs.Events.{long_len}
use Rattle.fresh.specs.Forms.{short_form, long_form}
use Rattle.emit.specs.steps.Emit.{Encodes}
use Rattle.demands.specs.Reading.{Reads, jmp_rel8, jmp_rel32, jcc_rel8, jcc_rel32}

-- the label's offset minus the jump's end lies in -128..127
abbrev pub Near : ℕ → ℕ → Type 0
Near end label = (end ≤ label + 128) × (label ≤ end + 127)

shift : (base start a b : ℕ) → plus (plus (plus base start) a) b ≡ plus base (start + (a + b))
shift base start a b = omega arith

-- the low n bits of a distance in range, sign-extended and added to where it is counted from, give the label
lands : (base end label d : ℕ) → end < modulus → d ≡ minus label end → plus (plus base end) d ≡ plus base label
lands base end label d h e = rw e (plus_minus base end label h)

byte_is : (base end label : ℕ) → end < 2147483648 → label < 2147483648 → Near end label
    → plus (plus base end) (sign_extend 8 (minus label end % 4294967296 % 256)) ≡ plus base label
byte_is base end label h l r =
    let d = minus label end in
    let low : d % 4294967296 % 256 ≡ d % 256 = omega arith in
    lands base end label _ (omega arith)
    (ap (sign_extend 8) low
    ∙ extend_low 8 d
    ∙ extend_exact 8 (omega arith) (omega arith) d (mod-lt (label + (modulus - end)) (omega arith))
    (true_range 128 127 d (omega (arith, r))))

word_is : (base end label : ℕ) → end < 2147483648 → label < 2147483648
    → plus (plus base end) (sign_extend 32 (minus label end % 4294967296)) ≡ plus base label
word_is base end label h l =
    let d = minus label end in
    lands base end label _ (omega arith)
    (extend_low 32 d
    ∙ extend_exact 32 (omega arith) (omega arith) d (mod-lt (label + (modulus - end)) (omega arith))
    (true_range 2147483648 2147483647 d (omega arith)))

-- a displacement counts from the end of its field
two_steps : (label end k : ℕ) → k ≤ 4 → k ≤ end → end < 4294967296 → label < 4294967296 → minus (minus (plus label 0) (end - k)) k ≡ minus label end
two_steps label end k a b h g =
    let t : plus label 0 ≡ label = mod-eq_of_lt {n = label + 0} {m = modulus} (omega arith) ∙ omega arith in
    let s : label + (modulus - (end - k)) + (modulus - k) ≡ label + (modulus - end) + modulus = omega arith in
    rw t (mod-add-mod (label + (modulus - (end - k))) modulus (modulus - k) ∙ ap (λ (n : ℕ). n % modulus) s ∙ add-mod_right (label + (modulus - end)) modulus)

long_displacement : (at end label : ℕ) (held : List ℕ) → length held ≡ 4 → at + 4 ≡ end → end < 4294967296 → label < 4294967296
    → patched X86JmpRel32 at (plus label 0) held ≡ bytes_of (minus label end % 4294967296)
unfolding patched
long_displacement at end label held l e h g =
    let place : at ≡ end - 4 = omega arith in
    rw (l, place, two_steps label end 4 (omega arith) (omega arith) h g) refl

short_displacement : (at end label : ℕ) (held : List ℕ) → length held ≡ 1 → at + 1 ≡ end → end < 4294967296 → label < 4294967296
    → patched X86BranchRel8 at (plus label 0) held ≡ (minus label end % 4294967296 % 256) ∷ []
unfolding patched
short_displacement at end label held l e h g =
    let place : at ≡ end - 1 = omega arith in
    let m : minus label end % 256 % 256 ≡ minus label end % 4294967296 % 256 = omega arith in
    rw (l, place, two_steps label end 1 (omega arith) (omega arith) h g) (ap (λ (n : ℕ). n ∷ []) m)

module _ (base start label : ℕ) (Label-small : label < 2147483648) where
  -- short, in reach
  pub short_reads : (cc : Condition) → Encodes cc → start + 2 < 2147483648 → Near (start + 2) label → (held : List ℕ) → length held ≡ 1
      → Reads (plus base start) (over (short_form cc) 1 (patched X86BranchRel8 (start + 1) (plus label 0) held)) cc (plus base label)
  unfolding over
  short_reads Always known h r held l =
      rw (short_displacement (start + 1) (start + 2) label held l (omega arith) (omega arith) (omega arith))
      (let d = minus label (start + 2) % 4294967296 % 256 in
      let e : rel8 (plus (plus base start) 1) d ≡ plus base label =
      ap (λ (x : ℕ). plus x (sign_extend 8 d)) (shift base start 1 1) ∙ byte_is base (start + 2) label h Label-small r in
      subst (λ (x : ℕ). Reads (plus base start) (0xEB ∷ d ∷ []) Always x) e (jmp_rel8 d))
  short_reads (On cc) known h r held l =
      rw (short_displacement (start + 1) (start + 2) label held l (omega arith) (omega arith) (omega arith))
      (let d = minus label (start + 2) % 4294967296 % 256 in
      let e : rel8 (plus (plus base start) 1) d ≡ plus base label =
      ap (λ (x : ℕ). plus x (sign_extend 8 d)) (shift base start 1 1) ∙ byte_is base (start + 2) label h Label-small r in
      subst (λ (x : ℕ). Reads (plus base start) ((0x70 + cc) ∷ d ∷ []) (On cc) x) e (jcc_rel8 cc d known))

  -- long
  pub long_reads : (cc : Condition) → Encodes cc → start + long_len cc < 2147483648 → (held : List ℕ) → length held ≡ 4
      → Reads (plus base start) (over (long_form cc) (long_len cc - 4) (patched X86JmpRel32 (start + (long_len cc - 4)) (plus label 0) held)) cc (plus base label)
  unfolding over
  long_reads Always known h held l =
      rw (long_displacement (start + 1) (start + 5) label held l (omega arith) (omega arith) (omega arith))
      (let d = minus label (start + 5) % 4294967296 in
      let e : rel32 (plus (plus base start) 1) (word_at (bytes_of d) 0) ≡ plus base label =
      ap (rel32 (plus (plus base start) 1)) (word_at_bytes_of d (mod-lt (minus label (start + 5)) (omega arith)))
      ∙ ap (λ (x : ℕ). plus x (sign_extend 32 d)) (shift base start 1 4)
      ∙ word_is base (start + 5) label h Label-small in
      subst (λ (x : ℕ). Reads (plus base start) (0xE9 ∷ bytes_of d) Always x) e (jmp_rel32 (d % 256) (d / 256 % 256) (d / 65536 % 256) (d / 16777216 % 256)))
  long_reads (On cc) known h held l =
      rw (long_displacement (start + 2) (start + 6) label held l (omega arith) (omega arith) (omega arith))
      (let d = minus label (start + 6) % 4294967296 in
      let e : rel32 (plus (plus base start) 2) (word_at (bytes_of d) 0) ≡ plus base label =
      ap (rel32 (plus (plus base start) 2)) (word_at_bytes_of d (mod-lt (minus label (start + 6)) (omega arith)))
      ∙ ap (λ (x : ℕ). plus x (sign_extend 32 d)) (shift base start 2 4)
      ∙ word_is base (start + 6) label h Label-small in
      subst (λ (x : ℕ). Reads (plus base start) (0x0F ∷ (0x80 + cc) ∷ bytes_of d) (On cc) x) e
      (jcc_rel32 cc (d % 256) (d / 256 % 256) (d / 65536 % 256) (d / 16777216 % 256) known))
