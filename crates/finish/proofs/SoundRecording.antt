-- What a sound recording gives the stages of finish: its pool lies in its tables, and the pooled recording is that of the tables.
use mathlib.Core.Path.{◌≡◌, refl, ap, ◌∙◌}
use mathlib.Core.Logic.{◌⊎◌, ◌≢◌, ⊎_elim, inl, inr}
use mathlib.Core.List.{List}
use Prim.Native.Nat.{ℕ, zero, suc, ◌+◌, ◌*◌, ◌≤◌, ◌<◌}
use native.Mathlib.Omega.{arith}
use lib.ListN.{length, drop, length-append, length-drop}
use lib.Seq.{length-take-le}
use Rattle.seqs.proofs.Numbers.{lt_or_ge, eq_or_ne}
use Rattle.words.specs.Words.{word_at}
use Rattle.buffer.specs.State.{none}
use Rattle.buffer.specs.Tables.{most_entries, constant_size, constant_head}
use Rattle.recording.specs.Calls.{Recording}
use Rattle.recording.specs.Sound.{Sound}
use Rattle.recording.specs.View.{entries, constant_at, view}
use Rattle.recording.proofs.Views.{length_entries, get_d_entries}
use Rattle.fresh.specs.Pooled.{Pooled, pooled_to, pooled, code_alignment}
use Rattle.pool.specs.steps.Pool.{size_at, label_at, pool_start, pool_offset, pool_bytes, pool_bound, pool_alignment, PoolFits, PoolLabels}
use Rattle.pool.proofs.Turns.{Distinct, length_pool_bytes, pool_offset_bound, length_pool_bound, pool_bound_at, pool_bound_other}
use Rattle.finish.specs.steps.Tables.{tables_pooled}
use Rattle.finish.specs.steps.Ready.{Ready, pooled_of}
use Rattle.finish.proofs.PooledTables.{Tied, pooled_to_tables, alignment_tables}

-- a label is that of a constant, or of none
pub owner : (constants asked : List ℕ) (l n : ℕ) → ((j : ℕ) × (j < n) × (l ≡ label_at constants asked j)) ⊎ ((j : ℕ) → j < n → l ≢ label_at constants asked j)
owner constants asked l zero = inr (λ j h e. omega arith)
owner constants asked l (suc n) =
    ⊎_elim
    (λ (same : l ≡ label_at constants asked n). inl (n, omega arith, same))
    (λ (other : l ≢ label_at constants asked n).
    ⊎_elim
    (λ (f : (j : ℕ) × (j < n) × (l ≡ label_at constants asked j)). inl (f.0, omega (arith, f.1), f.2))
    (λ (g : (j : ℕ) → j < n → l ≢ label_at constants asked j).
    inr (λ j h e. ⊎_elim (λ (lt : j < n). g j lt e) (λ (ge : n ≤ j). let z : j ≡ n = omega arith in other (e ∙ ap (label_at constants asked) z)) (lt_or_ge j n)))
    (owner constants asked l n))
    (eq_or_ne l (label_at constants asked n))

module _ (r : Recording) (s : Sound r) (few : r.buffer.asked ≤ most_entries) where
  -- a constant that was asked for lies in its table and has a label
  known_constant : (j : ℕ) → j < r.buffer.asked → word_at r.asked j < r.buffer.constants
  known_constant j h = (s.asked.listed j h).0

  known_label : (j : ℕ) → j < r.buffer.asked → label_at r.constants r.asked j < r.buffer.labels
  known_label j h =
      ⊎_elim
      (λ (e : label_at r.constants r.asked j ≡ none). absurd ((s.asked.listed j h).1 e))
      (λ (l : label_at r.constants r.asked j < r.buffer.labels). l)
      (s.constants.entry (word_at r.asked j) (known_constant j h)).label

  pub pool_fits : PoolFits r.constants r.asked r.buffer.asked
  pool_fits =
      record {
        few = few;
        room = omega (arith, s.asked.room);
        listed = λ j h. omega (arith, known_constant j h, s.constants.room);
        sized = λ j h. (s.constants.entry (word_at r.asked j) (known_constant j h)).size;
      }

  pub pool_labels : PoolLabels r.labels r.constants r.asked r.buffer.asked
  pool_labels = record { known = λ j h. omega (arith, known_label j h, s.labels.room) }

  pub pool_distinct : Distinct r.constants r.asked r.buffer.asked
  pool_distinct = record { apart = λ i j h l. (s.asked.once i j h l).1 }

  pub code_length : length (view r).code ≡ r.buffer.code
  code_length = length-take-le r.buffer.code r.code s.code.room

  pub tied : Tied (view r) r.labels r.constants r.asked r.buffer.labels r.buffer.asked
  tied =
      record {
        labelled = refl;
        room = omega (arith, s.labels.room);
        constant = λ j h. rw (get_d_entries (word_at r.asked) r.buffer.asked j 0 h) (get_d_entries (constant_at r.constants) r.buffer.constants (word_at r.asked j) _ (known_constant j h));
        sized = λ j h.
            length-take-le (size_at r.constants r.asked j) (drop (word_at r.asked j * constant_size + constant_head) r.constants)
            (omega (arith, length-drop (word_at r.asked j * constant_size + constant_head) r.constants, pool_fits.listed j h, pool_fits.sized j h));
        known = known_label;
        small = λ j h. rw code_length (omega (arith, s.code.limit, pool_offset_bound r.buffer.code r.constants r.asked r.buffer.asked pool_fits j h, few));
      }

  pub offsets_small : (j : ℕ) → j < r.buffer.asked → pool_offset r.buffer.code r.constants r.asked j < 4294967296
  offsets_small j h = omega (arith, s.code.limit, few, pool_offset_bound r.buffer.code r.constants r.asked r.buffer.asked pool_fits j h)

  -- the pooled recording, once the pool's labels are bound in the table
  pub pooled_is : pooled r.buffer.arch (view r)
      ≡ pooled_of r.buffer r.code (pool_bound r.buffer.code r.labels r.constants r.asked r.buffer.asked) r.events r.uses r.refs
      r.constants r.asked
  pooled_is =
      ap (pooled_to r.buffer.arch (view r)) (length_entries (word_at r.asked) r.buffer.asked)
      ∙ pooled_to_tables r.buffer.arch (view r) r.labels r.constants r.asked r.buffer.labels r.buffer.asked tied
      ∙ ap
      (λ (from : ℕ).
      tables_pooled r.buffer.arch from (view r).code (entries (word_at (pool_bound from r.labels r.constants r.asked r.buffer.asked)) r.buffer.labels)
      (view r).events (view r).uses (view r).refs r.constants r.asked r.buffer.asked)
      code_length

  -- where its code ends, and what that is aligned on
  pub pooled_ends : length (pooled r.buffer.arch (view r)).code ≡ pool_start r.buffer.code r.constants r.asked r.buffer.asked
  pooled_ends =
      ap (λ (p : Pooled). length p.code) pooled_is
      ∙ length-append (view r).code (pool_bytes r.buffer.arch r.buffer.code r.constants r.asked r.buffer.asked)
      ∙ ap (λ (k : ℕ). k + length (pool_bytes r.buffer.arch r.buffer.code r.constants r.asked r.buffer.asked)) code_length
      ∙ length_pool_bytes r.buffer.arch r.buffer.code r.constants r.asked r.buffer.asked

  pub alignment_is : code_alignment (pooled r.buffer.arch (view r)).pool ≡ pool_alignment r.constants r.asked r.buffer.asked
  alignment_is =
      ap (λ (p : Pooled). code_alignment p.pool) pooled_is
      ∙ alignment_tables r.buffer.code r.constants r.asked r.buffer.asked tied.sized

  -- what the stages are handed once those labels are bound
  pub ready : Ready r.code (pool_bound r.buffer.code r.labels r.constants r.asked r.buffer.asked) r.events r.constants r.asked
      r.buffer.arch r.buffer.code r.buffer.labels r.buffer.events r.buffer.asked
  ready =
      let bound = pool_bound r.buffer.code r.labels r.constants r.asked r.buffer.asked in
      let long = length_pool_bound r.buffer.code r.labels r.constants r.asked r.buffer.asked in
      let at = pool_bound_at r.buffer.code r.labels r.constants r.asked r.buffer.asked pool_distinct pool_labels.known offsets_small in
      record {
        bytes = s.code;
        recorded = s.events;
        pool = pool_fits;
        named = record { known = λ j h. omega (arith, long, pool_labels.known j h) };
        owned = known_label;
        stands = at;
        room = omega (arith, long, s.labels.room);
        limit = s.labels.limit;
        landed = λ l h.
            ⊎_elim
            (λ (f : (j : ℕ) × (j < r.buffer.asked) × (l ≡ label_at r.constants r.asked j)). inr (f.0, f.1, ap (word_at bound) f.2 ∙ at f.0 f.1))
            (λ (g : (j : ℕ) → j < r.buffer.asked → l ≢ label_at r.constants r.asked j).
            inl (rw (pool_bound_other r.buffer.code r.labels r.constants r.asked r.buffer.asked l g) (s.labels.entry l h)))
            (owner r.constants r.asked l r.buffer.asked);
      }
