-- What a call does to the number of open entries, those that name a label that is not bound: document 02, Request Five. Each call says it in its own terms;
-- that it is the count over the tables after the call, less that before it, is a theorem (`open_kept`, recording/proofs/Open).
use Rattle.std.specs.Prelude.{List, ℕ, ◌+◌, ◌-◌, eqb, ltb}
use Rattle.seqs.specs.Pick.{pick}
use Rattle.seqs.specs.Counting.{one}
use Rattle.words.specs.Words.{word_at}
use Rattle.naming.specs.Naming.{naming, jumps_naming}
use Rattle.buffer.specs.declared.CodeBuffer.{CodeBuffer}
use Rattle.buffer.specs.State.{none, label_target}
use Rattle.buffer.specs.Tables.{use_words, ref_words, reloc_words}

-- 1 for a new entry that names a label which is not bound
abbrev pub opened : List ℕ → ℕ → ℕ
opened labels label = one (eqb (word_at labels label) none)

-- the same of a relocation: its target is a symbol, or a label + 2^31
abbrev pub target_opened : List ℕ → ℕ → ℕ
target_opened labels target = pick (ltb target label_target) 0 (opened labels (target - label_target))

-- how many uses, refs, label relocations and jumps name a label
unfoldable pub named : CodeBuffer → List ℕ → List ℕ → List ℕ → List ℕ → ℕ → ℕ
named b events uses refs relocs label =
    naming uses b.uses use_words 1 label
    + naming refs b.refs ref_words 1 label
    + naming relocs b.relocs reloc_words 2 (label_target + label)
    + jumps_naming events b.events label

-- those are settled once the label is bound; where the current offset is that of a label which is not bound, none is
unfoldable pub settled : CodeBuffer → List ℕ → List ℕ → List ℕ → List ℕ → ℕ → ℕ
settled b events uses refs relocs label = pick (eqb b.code none) 0 (named b events uses refs relocs label)
