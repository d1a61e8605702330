-- `put_labels` meets its contract: the labels passed stand there, moved.
use Rattle.std.proofs.Common.{◌≡◌, ℕ, ◌+◌, ◌*◌, ◌≤◌}
use Rattle.seqs.specs.Over.{over}
use Rattle.words.specs.Words.{word_at, bytes_of_all}
use Rattle.buffer.specs.Tables.{label_size}
use Rattle.recording.specs.View.{entries}
use Rattle.join.specs.Join.{moved_label}
use Rattle.join.proofs.labels.put_labels.Given as goal

abbrev pub invariant-loop-j : goal.invariant-loop-j
invariant-loop-j l = (l.j ≤ l.j-end) × (l.joined ≡ over l.initial.joined (l.placed.cursor.labels * label_size) (bytes_of_all (entries (λ (i : ℕ). moved_label l.base (word_at l.labels (l.placed.cursor.labels + i))) l.j)))
