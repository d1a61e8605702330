-- The pooled recording of the definitions is what the stages of finish are handed.
use mathlib.Core.Path.{◌≡◌, refl, ◌∙◌}
use mathlib.Core.Bool.{Bool, true, false, cond}
use mathlib.Core.List.{List, [], ◌∷◌, ◌++◌, append_assoc, append-nil}
use Prim.Native.Nat.{ℕ, zero, suc, ◌*◌, ◌≤◌, ◌<◌}
use native.Mathlib.Omega.{arith}
use lib.ListN.{length, replicate, length-append}
use Rattle.words.specs.Words.{word_at}
use Rattle.relax.specs.declared.LayoutEvent.{LayoutEvent}
use Rattle.buffer.specs.State.{keeps_events}
use Rattle.buffer.specs.Calls.{padding}
use Rattle.buffer.specs.Tables.{label_size}
use Rattle.recording.specs.View.{entries, View}
use Rattle.recording.proofs.Views.{word_set}
use Rattle.fresh.specs.Pooled.{Pooled, pooled_one, asked_constant, pooled_to, code_alignment}
use Rattle.fresh.proofs.Constants.{code_alignment_snoc}
use Rattle.pool.specs.steps.Pool.{size_at, label_at, bytes_at, pool_start, pool_padding, pool_offset, pool_event, pool_bytes, pool_bound, pool_alignment}
use Rattle.pool.proofs.Turns.{length_pool_bytes, length_pool_bound}
use Rattle.finish.specs.steps.Tables.{pool_placed, tables_pooled}

-- what ties the tables to the view: of each of the first n constants asked for, its entry, its size, its label's place, and an offset of 32 bits
pub record Tied (v : View) (labels constants asked : List ℕ) (count n : ℕ) : Type 0 where
  pub labelled : v.labels ≡ entries (word_at labels) count
  pub room : count * label_size ≤ length labels
  pub constant : (j : ℕ) → j < n → asked_constant v j ≡ record { bytes = bytes_at constants asked j; label = label_at constants asked j }
  pub sized : (j : ℕ) → j < n → length (bytes_at constants asked j) ≡ size_at constants asked j
  pub known : (j : ℕ) → j < n → label_at constants asked j < count
  pub small : (j : ℕ) → j < n → pool_offset (length v.code) constants asked j < 4294967296

fewer : (v : View) (labels constants asked : List ℕ) (count n : ℕ) → Tied v labels constants asked count (suc n) → Tied v labels constants asked count n
fewer v labels constants asked count n t =
    record {
      labelled = t.labelled;
      room = t.room;
      constant = λ j h. t.constant j (omega arith);
      sized = λ j h. t.sized j (omega arith);
      known = λ j h. t.known j (omega arith);
      small = λ j h. t.small j (omega arith);
    }

-- an event more at the end of the pool's
events_more : (t : Bool) (events before : List LayoutEvent) (e : LayoutEvent)
    → (events ++ cond t before []) ++ cond t (e ∷ []) [] ≡ events ++ cond t (before ++ (e ∷ [])) []
events_more true events before e = append_assoc events before (e ∷ [])
events_more false events before e = append-nil (events ++ [])

no_events : (t : Bool) (events : List LayoutEvent) → events ++ cond t [] [] ≡ events
no_events true events = append-nil events
no_events false events = append-nil events

-- one constant more, of a pooled recording whose fields are given
one_more : (arch : ℕ) (code : List ℕ) (events : List LayoutEvent) (labels constants asked : List ℕ) (count n from : ℕ) (p : Pooled)
    → p.arch ≡ arch → p.code ≡ code ++ pool_bytes arch from constants asked n
    → p.events ≡ events ++ cond (keeps_events arch) (entries (pool_event from constants asked) n) []
    → p.labels ≡ entries (word_at (pool_bound from labels constants asked n)) count
    → p.pool ≡ entries (pool_placed from constants asked) n
    → length p.code ≡ pool_start from constants asked n
    → length (bytes_at constants asked n) ≡ size_at constants asked n
    → count * label_size ≤ length labels → label_at constants asked n < count → pool_offset from constants asked n < 4294967296
    → pooled_one p (record { bytes = bytes_at constants asked n; label = label_at constants asked n })
    ≡ record {
      arch = arch;
      code = code ++ pool_bytes arch from constants asked (suc n);
      events = events ++ cond (keeps_events arch) (entries (pool_event from constants asked) (suc n)) [];
      labels = entries (word_at (pool_bound from labels constants asked (suc n))) count;
      uses = p.uses;
      refs = p.refs;
      pool = entries (pool_placed from constants asked) (suc n);
    }
unfolding pooled_one pool_bytes pool_bound
one_more arch code events labels constants asked count n from p a c e l k len size room known small =
    rw (
      a,
      len,
      size,
      c,
      e,
      l,
      k,
      append_assoc code (pool_bytes arch from constants asked n) (padding arch (pool_padding from constants asked n) ++ replicate (size_at constants asked n) 0),
      events_more (keeps_events arch) events (entries (pool_event from constants asked) n) (pool_event from constants asked n),
      ← word_set (pool_bound from labels constants asked n) (label_at constants asked n) (pool_offset from constants asked n) count known
          (omega (arith, length_pool_bound from labels constants asked n)) small,
    )

-- The pooled recording of the view is that of the tables, once the pool's labels are bound in the table of labels.
pub pooled_to_tables : (arch : ℕ) (v : View) (labels constants asked : List ℕ) (count n : ℕ) → Tied v labels constants asked count n
    → pooled_to arch v n
    ≡ tables_pooled arch (length v.code) v.code (entries (word_at (pool_bound (length v.code) labels constants asked n)) count) v.events v.uses v.refs constants asked n
unfolding pool_bytes pool_bound
pooled_to_tables arch v labels constants asked count zero t = rw (t.labelled, no_events (keeps_events arch) v.events, append-nil v.code)
pooled_to_tables arch v labels constants asked count (suc n) t =
    let from = length v.code in
    rw (pooled_to_tables arch v labels constants asked count n (fewer v labels constants asked count n t), t.constant n (omega arith))
    (one_more arch v.code v.events labels constants asked count n from
    (tables_pooled arch from v.code (entries (word_at (pool_bound from labels constants asked n)) count) v.events v.uses v.refs constants asked n)
    refl refl refl refl refl
    (length-append v.code (pool_bytes arch from constants asked n) ∙ length_pool_bytes arch from constants asked n)
    (t.sized n (omega arith))
    t.room
    (t.known n (omega arith))
    (t.small n (omega arith)))

-- The alignment of code with the pool is that of the tables.
pub alignment_tables : (from : ℕ) (constants asked : List ℕ) (n : ℕ) → ((j : ℕ) → j < n → length (bytes_at constants asked j) ≡ size_at constants asked j)
    → code_alignment (entries (pool_placed from constants asked) n) ≡ pool_alignment constants asked n
unfolding code_alignment pool_alignment
alignment_tables from constants asked zero sized = refl
alignment_tables from constants asked (suc n) sized =
    code_alignment_snoc (entries (pool_placed from constants asked) n) (pool_placed from constants asked n)
    ∙ rw (alignment_tables from constants asked n (λ j h. sized j (omega arith)), sized n (omega arith))
