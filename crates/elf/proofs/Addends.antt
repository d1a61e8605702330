-- Addends: when a sum leaves signed 64 bits, and what an entry for a label means.
use Rattle.std.proofs.Common.{◌≡◌, ℕ, ◌+◌, ◌-◌, ◌%◌, ◌<◌, ◌≤◌, leb, List, sym, ◌∙◌, ⊎_elim, arith, le-ltb, lt-ltb, le-leb}
use borrow.Author.Tests.{lt-leb}
use Rattle.seqs.proofs.Numbers.{lt_or_ge}
use Rattle.seqs.proofs.Picking.{no_lt}
use Rattle.words.specs.Words.{word_at}
use Rattle.fields.specs.Words64.{modulus, plus}
use Rattle.buffer.specs.State.{label_target}
use Rattle.recording.specs.View.{Relocation}
use Rattle.elf.specs.Elf.{rela_of, first_negative, leaves_signed}

-- A word's signed value, raised by 2^63, lies in 0..2^64 - 1; a sum leaves signed 64 bits where it passes that.
pub leaves_exactly : (addend offset : ℕ) → addend < modulus → offset < 4294967296
    → leaves_signed addend offset ≡ leb modulus ((addend + first_negative) % modulus + offset)
leaves_exactly addend offset small near =
    ⊎_elim
    (λ (positive : addend < first_negative).
    let raised : (addend + first_negative) % modulus ≡ addend + first_negative = omega arith in
    rw (lt-ltb addend first_negative positive, raised)
    (⊎_elim
    (λ (within : addend + offset < first_negative).
    lt-leb first_negative (addend + offset) within ∙ sym (lt-leb modulus (addend + first_negative + offset) (omega arith)))
    (λ (past : first_negative ≤ addend + offset).
    le-leb first_negative (addend + offset) past ∙ sym (le-leb modulus (addend + first_negative + offset) (omega arith)))
    (lt_or_ge (addend + offset) first_negative)))
    (λ (negative : first_negative ≤ addend).
    let raised : (addend + first_negative) % modulus ≡ addend - first_negative = omega arith in
    rw (le-ltb addend first_negative negative, raised) (sym (lt-leb modulus (addend - first_negative + offset) (omega arith))))
    (lt_or_ge addend first_negative)

-- An entry for a label names the section symbol, and wherever the section is loaded, that symbol's address plus the entry's addend is the label's address
-- plus the relocation's.
pub label_address : (arch : ℕ) (labels : List ℕ) (section : ℕ) (r : Relocation) (base : ℕ) → label_target ≤ r.target
    → ((rela_of arch labels section r).symbol ≡ section)
    × (plus base (rela_of arch labels section r).addend ≡ plus (plus base (word_at labels (r.target - label_target))) r.addend)
unfolding rela_of
label_address arch labels section r base label =
    let offset = word_at labels (r.target - label_target) in
    let sum : plus base (plus r.addend offset) ≡ plus (plus base offset) r.addend = omega arith in
    (no_lt r.target label_target r.target section label, rw (no_lt {A = ℕ} r.target label_target 0 offset label) sum)
