-- `why_not_bind` meets its contract: its tests are those of `why_bind`, in order.
use Rattle.std.proofs.Common.{rules, ◌≡◌}
use Prim.Native.Nat.{◌/◌}
use mathlib.Core.Bool.{◌&&◌}
use borrow.Author.Tests.{leb-true}
use lib.Dec.{leb}
use lib.ListN.{length}
use Rattle.std.proofs.Common.{sym, arith}
use Rattle.seqs.proofs.Booleans.{both_true}
use Rattle.buffer.specs.Refusals.{standing, namers_fit, namers_within}
use Rattle.buffer.specs.Tables.{most_entries, label_size}
use Rattle.buffer.proofs.Standing.{stands}
use Rattle.buffer.proofs.CodeBuffer.why_not_bind.Goals as goal

pub word_at-requires : goal.word_at-requires
word_at-requires c =
    let a = c.args in
    let stood : 0 ≡ standing a.self (leb a.self.labels (length a.labels.now / label_size) && namers_fit a.self a.events a.uses a.refs a.relocs) (leb (length a.labels.now / label_size) most_entries && namers_within a.events a.uses a.refs a.relocs) = search rules in
    let s = stands a.self _ _ (sym stood) in
    omega (arith, leb-true a.self.labels (length a.labels.now / label_size) (both_true (leb a.self.labels (length a.labels.now / label_size)) _ s.fits).0)
