-- How an A64 processor goes on from a branch: the manual's BranchTo(PC + offset), or the next instruction.
use Rattle.std.specs.Prelude.{◌≡◌, ℕ, Bool, true, false, List, length}
use Rattle.seqs.specs.Pick.{pick}
use Rattle.words.specs.Words.{word_at}
use Rattle.fields.specs.Words64.{plus}
use Rattle.fields.specs.Bits.{bits}
use Rattle.fields.specs.Arm.{b, cbz, tbz}
use Rattle.fields.specs.Branches.{State, is_test, is_compare, is_on_flags, test_holds, compare_holds, condition_holds, taken}

-- one instruction, its word at an address: where control goes in a state
pub data Goes (s : State) (pc : ℕ) : ℕ → ℕ → Type 0 where
  test_bit : (w : ℕ) → is_test w ≡ true → Goes s pc w (pick (test_holds s w) (tbz pc w) (plus pc 4))
  compare : (w : ℕ) → is_compare w ≡ true → Goes s pc w (pick (compare_holds s w) (cbz pc w) (plus pc 4))
  on_flags : (w : ℕ) → is_on_flags w ≡ true → Goes s pc w (pick (condition_holds s (bits 3 0 w)) (cbz pc w) (plus pc 4))
  always : (w : ℕ) → bits 31 26 w ≡ 5 → Goes s pc w (b pc w)

-- four bytes that are one branch to the target, on the condition of the word that was recorded
pub record ShortReads (address word target : ℕ) (bytes : List ℕ) : Type 0 where
  pub size : length bytes ≡ 4
  pub goes : (s : State) → Goes s address (word_at bytes 0) (pick (taken s word) target (plus address 4))

-- eight bytes: where the condition holds control goes to the second instruction, which branches to the target; else over it
pub record LongReads (address word target : ℕ) (bytes : List ℕ) : Type 0 where
  pub size : length bytes ≡ 8
  pub skips : (s : State) → Goes s address (word_at bytes 0) (pick (taken s word) (plus address 4) (plus address 8))
  pub lands : (s : State) → Goes s (plus address 4) (word_at bytes 1) target

-- a recorded branch in finished code, short or long
abbrev pub BranchReads : Bool → ℕ → ℕ → ℕ → List ℕ → Type 0
BranchReads false address word target bytes = ShortReads address word target bytes
BranchReads true address word target bytes = LongReads address word target bytes
