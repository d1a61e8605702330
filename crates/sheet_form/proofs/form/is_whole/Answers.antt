-- `is_whole` meets its contract.
use borrow.Author.Tests.{le-leb, lt-leb}
use Rattle.sheet_form.specs.Form.{is_whole}
use Rattle.sheet_form.proofs.form.is_whole.Goals as goal

pub returns-else-sheet-ge4 : goal.returns-else-sheet-ge4
unfolding is_whole
returns-else-sheet-ge4 c = rw (lt-leb 4 _ c.if-sheet-ge4.false)

pub returns-then-sheet-ge4 : goal.returns-then-sheet-ge4
unfolding is_whole
returns-then-sheet-ge4 c = rw (c.word_at.ensures, le-leb 4 _ c.if-sheet-ge4.true)
