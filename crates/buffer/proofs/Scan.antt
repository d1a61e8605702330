-- The search for a label between two offsets.
use mathlib.Core.Path.{◌≡◌}
use mathlib.Core.Bool.{false, ◌&&◌, ◌||◌}
use mathlib.Core.List.{List}
use borrow.Author.Tests.{eqb-true, not-false, le-ltb}
use Prim.Native.Nat.{ℕ, ◌+◌, ◌≤◌}
use native.Mathlib.Numerals.{add-one}
use lib.Dec.{eqb, ltb}
use Rattle.seqs.proofs.Booleans.{both_false}
use Rattle.words.specs.Words.{word_at}
use Rattle.buffer.specs.declared.CodeBuffer.{CodeBuffer}
use Rattle.buffer.specs.Refusals.{last_end, label_inside, jump_malformed, jump_unfit}

-- one more label is looked at
pub scan_step : (labels : List ℕ) (i start end : ℕ)
    → (ltb start (word_at labels i) && ltb (word_at labels i) end || label_inside labels i start end) ≡ label_inside labels (i + 1) start end
unfolding label_inside
scan_step labels i start end = rw (add-one i)

-- a jump that is not malformed ends at the current offset
pub ends_here : (code start len cc : ℕ) → jump_malformed code start len cc ≡ false → start + len ≡ code
unfolding jump_malformed
ends_here code start len cc h =
    let a = both_false _ _ h in
    let b = both_false _ _ a.0 in
    let c = both_false _ _ b.0 in
    eqb-true (start + len) code (not-false (eqb (start + len) code) c.0)

-- where it also starts no earlier than the last event ends, a label inside alone makes it unfit
pub unfit_by_label : (b : CodeBuffer) (labels events : List ℕ) (start len cc : ℕ) → jump_malformed b.code start len cc ≡ false
    → last_end events b.events ≤ start → jump_unfit b labels events start len cc ≡ label_inside labels b.labels start b.code
unfolding jump_unfit
unfit_by_label b labels events start len cc formed late =
    rw (formed, ends_here b.code start len cc formed, le-ltb start (last_end events b.events) late)
