-- What `patch_with_addend` does, branch by branch.
use Rattle.std.proofs.Common.{rules, ◌≡◌, ℕ, ◌%◌, ◌≢◌, List, length, take, set, ◌∙◌, arith, eq-eqb, ne_eqb}
use Rattle.seqs.proofs.Overwrites.{set_over, over_all}
use Rattle.words.specs.Words.{word_at, set_word, bytes_of}
use Rattle.fields.specs.declared.LabelUse.{LabelUse}
use Rattle.fields.specs.Kinds.{patch_size}
use Rattle.fields.specs.Patch.{patched_word, patched}

-- a field has one byte or four
pub four_unless_one : (k : LabelUse) → patch_size k ≢ 1 → patch_size k ≡ 4
four_unless_one k h = search rules

-- what a one-byte field holds does not matter
one_ignores_held : (k : LabelUse) (word offset target : ℕ) → patch_size k ≡ 1 → patched_word k 0 offset target ≡ patched_word k word offset target
one_ignores_held k word offset target h = search rules

module _ (k : LabelUse) (offset target : ℕ) (bytes : List ℕ) where
  pub patched_other : length bytes ≢ patch_size k → patched k offset target bytes ≡ bytes
  unfolding patched
  patched_other h = rw (ne_eqb (length bytes) (patch_size k) h)

  pub patched_field : length bytes ≡ patch_size k
      → patched k offset target bytes ≡ take (patch_size k) (bytes_of (patched_word k (word_at bytes 0) offset target))
  unfolding patched
  patched_field h = rw (eq-eqb (length bytes) (patch_size k) h)

  pub patched_byte : length bytes ≡ patch_size k → patch_size k ≡ 1
      → set bytes 0 (patched_word k 0 offset target % 256) ≡ patched k offset target bytes
  patched_byte h one =
      let l : 1 ≡ length bytes = omega arith in
      rw (patched_field h, one, one_ignores_held k (word_at bytes 0) offset target one)
      (set_over bytes 0 _ ∙ over_all bytes _ l)

  pub patched_four : length bytes ≡ patch_size k → patch_size k ≢ 1
      → set_word bytes 0 (patched_word k (word_at bytes 0) offset target) ≡ patched k offset target bytes
  unfolding set_word
  patched_four h other =
      let four = four_unless_one k other in
      let l : 4 ≡ length bytes = omega arith in
      rw (patched_field h, four) (over_all bytes (bytes_of (patched_word k (word_at bytes 0) offset target)) l)

pub ruleset patches = (four_unless_one, patched_byte, patched_four)
