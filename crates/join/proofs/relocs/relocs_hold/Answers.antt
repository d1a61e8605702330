-- `relocs_hold` meets its contract: `all` asks it of each relocation of the piece.
use Rattle.std.proofs.Common.{rules, ℕ}
use borrow.Author.Tests.{tests}
use Rattle.seqs.proofs.Ranges.{all_of_range}
use Rattle.join.specs.Join.{relocs_hold, piece_reloc, holds}
use Rattle.join.proofs.relocs.relocs_hold.Goals as goal

pub returns : goal.returns
unfolding relocs_hold
returns g c = λ asked known asks. let p = c.args.placed in
    all_of_range (λ (i : ℕ). holds asked known p.piece p.cursor (piece_reloc c.args.relocs.now p.cursor i)) p.piece.relocs c.all.ensures.ran (λ x b q k. search (rules, tests, asks))
