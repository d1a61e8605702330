-- The reasons as values, and the number that a call answers.
use Rattle.std.specs.Prelude.{◌≡◌, ◌<◌, ℕ, Result, Ok, Err, ◌⊎◌, MatchResult}
use Rattle.refusals.specs.declared.Refusal.{Refusal}
use Rattle.refusals.specs.declared.NoRefusal.{NoRefusal}
use Rattle.refusals.specs.declared.Refusal.TheVariants.{
  Malformed,
  UnknownArch,
  PastLimit,
  AlreadyFinished,
  BadAlignment,
  UnsupportedUse,
  ForeignKind,
  UnknownNumber,
  AlreadyBound,
  BadEntry,
  TableFull,
  CodeFull,
  PoolLabelBound,
  PoolTooLarge,
  UnboundLabel,
  TooFewSegments,
  RefOverlaps,
  RefOutOfReach,
  UsePastEnd,
  BranchOutOfReach,
  LabelTooFarAhead,
  LabelTooFarBack,
  OutputTooSmall,
  NoElfType,
  AddendOverflow,
  ElfOutputTooSmall,
  ArchitecturesDiffer,
  SymbolDefinedTwice,
  SymbolUndefined,
}
use Rattle.refusals.specs.Numbers.{
  malformed,
  unknown_arch,
  past_limit,
  already_finished,
  bad_alignment,
  unsupported_use,
  foreign_kind,
  unknown_number,
  already_bound,
  bad_entry,
  table_full,
  code_full,
  pool_label_bound,
  pool_too_large,
  unbound_label,
  too_few_segments,
  ref_overlaps,
  ref_out_of_reach,
  use_past_end,
  branch_out_of_reach,
  label_too_far_ahead,
  label_too_far_back,
  output_too_small,
  no_elf_type,
  addend_overflow,
  elf_output_too_small,
  architectures_differ,
  symbol_defined_twice,
  symbol_undefined,
}

abbrev pub number_of : Refusal → ℕ
number_of Malformed = malformed
number_of UnknownArch = unknown_arch
number_of PastLimit = past_limit
number_of AlreadyFinished = already_finished
number_of BadAlignment = bad_alignment
number_of UnsupportedUse = unsupported_use
number_of ForeignKind = foreign_kind
number_of UnknownNumber = unknown_number
number_of AlreadyBound = already_bound
number_of BadEntry = bad_entry
number_of TableFull = table_full
number_of CodeFull = code_full
number_of PoolLabelBound = pool_label_bound
number_of PoolTooLarge = pool_too_large
number_of UnboundLabel = unbound_label
number_of TooFewSegments = too_few_segments
number_of RefOverlaps = ref_overlaps
number_of RefOutOfReach = ref_out_of_reach
number_of UsePastEnd = use_past_end
number_of BranchOutOfReach = branch_out_of_reach
number_of LabelTooFarAhead = label_too_far_ahead
number_of LabelTooFarBack = label_too_far_back
number_of OutputTooSmall = output_too_small
number_of NoElfType = no_elf_type
number_of AddendOverflow = addend_overflow
number_of ElfOutputTooSmall = elf_output_too_small
number_of ArchitecturesDiffer = architectures_differ
number_of SymbolDefinedTwice = symbol_defined_twice
number_of SymbolUndefined = symbol_undefined

-- 0, or the refusal's number
abbrev pub answer_of : {A : Type 0} → Result A Refusal → ℕ
answer_of (Ok _) = 0
answer_of (Err r) = number_of r

-- the result is the refusal with this number, or an error where none has it
abbrev pub Numbered : ℕ → Result Refusal NoRefusal → Type 0
Numbered n outcome = MatchResult outcome (λ r. number_of r ≡ n) (λ _. (n ≡ 0) ⊎ (symbol_undefined < n))
