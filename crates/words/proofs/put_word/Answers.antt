-- `put_word` meets its contract: four stores in a row are one overwrite.
use Rattle.seqs.proofs.Overwrites.{set4_over}
use Rattle.words.specs.Words.{set_word}
use Rattle.words.proofs.put_word.Goals as goal

pub returns : goal.returns
unfolding set_word
returns c = rw c.to_le_bytes.ensures (search set4_over)
