-- The runs of a pooled recording: those of the recorded code, and after them the pool laid out anew.
use mathlib.Core.Path.{◌≡◌, refl, sym, ap, ◌∙◌, subst}
use mathlib.Core.Bool.{false}
use mathlib.Core.List.{List, [], ◌∷◌, ◌++◌, append_assoc, append-nil}
use Prim.Native.Nat.{ℕ, zero, suc, ◌+◌, ◌-◌, ◌≤◌}
use native.Mathlib.Omega.{arith}
use lib.ListN.{length, get_or, take, drop, replicate, length-append, length-drop}
use lib.Seq.{take-append_seam, drop-append_seam}
use Rattle.relax.specs.declared.LayoutEvent.{LayoutEvent}
use Rattle.relax.specs.Events.{end_of, start_of, extent_of}
use Rattle.buffer.specs.Calls.{padding}
use Rattle.buffer.proofs.Appends.{padding_length_lem}
use Rattle.recording.specs.View.{entries}
use Rattle.fresh.specs.Forms.{form, width}
use Rattle.fresh.specs.Fresh.{Choice, is_long, others}
use Rattle.fresh.specs.Segments.{segment}
use Rattle.fresh.specs.Order.{Ordered}
use Rattle.fresh.specs.steps.Runs.{form_at, runs, after}
use Rattle.fresh.proofs.Constants.{constant_spends}
use Rattle.fresh.proofs.Choices.{is_long_get_d, others_get_d}
use Rattle.fresh.proofs.Events.{ordered_le}
use Rattle.fresh.proofs.Loops.{length_runs}
use Rattle.pool.specs.steps.Pool.{size_at, pool_start, pool_padding, pool_event, pool_bytes}
use Rattle.pool.proofs.Turns.{length_pool_bytes, pool_start_suc}
use Rattle.layout.proofs.Pooling.{ordered_snoc}
use Rattle.layout.proofs.Turns.{after_snoc}

-- a part of the code is that whatever follows the code
part_append : (xs ys : List ℕ) (o k : ℕ) → o + k ≤ length xs → take k (drop o (xs ++ ys)) ≡ take k (drop o xs)
part_append [] ys zero zero h = refl
part_append [] ys zero (suc k) h = absurd (omega arith)
part_append [] ys (suc o) k h = absurd (omega arith)
part_append (x ∷ xs) ys zero zero h = refl
part_append (x ∷ xs) ys zero (suc k) h = ap (λ (l : List ℕ). x ∷ l) (part_append xs ys zero k (omega arith))
part_append (x ∷ xs) ys (suc o) k h = part_append xs ys o k (omega arith)

drop_append : (xs ys : List ℕ) (o : ℕ) → o ≤ length xs → drop o (xs ++ ys) ≡ drop o xs ++ ys
drop_append xs ys zero h = refl
drop_append [] ys (suc o) h = absurd (omega arith)
drop_append (x ∷ xs) ys (suc o) h = drop_append xs ys o (omega arith)

-- the last run, which ends with the code
last_run : (code more : List ℕ) (o : ℕ) → o ≤ length code → take (length code - o) (drop o (code ++ more)) ≡ drop o code
last_run code more o h =
    let e : length code - o ≡ length (drop o code) = sym (length-drop o code) in
    rw (e, drop_append code more o h) (take-append_seam (drop o code) more)

-- one event more, past all code that stands there; `more` is what follows the code
runs_snoc : (arch : ℕ) (es : List LayoutEvent) (o n : ℕ) (code more : List ℕ) (c : Choice) (e : LayoutEvent) → Ordered o (length code) es
    → start_of e ≡ length code
    → runs arch o n (code ++ more) (es ++ (e ∷ [])) c
    ≡ runs arch o n code es c ++ (form_at arch (code ++ more) e (get_or c (length es) false) ((after (length es) o n es c).new + (start_of e - (after (length es) o n es c).old)) ++ drop (end_of e) (code ++ more))
unfolding runs after Ordered
runs_snoc arch [] o n code more c e h s = rw (is_long_get_d c, s, last_run code more o h) refl
runs_snoc arch (x ∷ es) o n code more c e h s =
    let next = (segment o n x (is_long c)).new_end in
    let inside : end_of x ≤ length code = ordered_le (end_of x) (length code) es h.1 in
    let within : o + (start_of x - o) ≤ length code = omega (arith, h.0, ordered_le (end_of x) (length code) es h.1) in
    rw (part_append code more o (start_of x - o) within, part_append code more (start_of x) (extent_of x) inside, runs_snoc arch es (end_of x) next code more (others c) e h.1 s, others_get_d c (length es))
    (simp append_assoc)

-- What holds once n constants are pooled after the recorded code, whose runs end at `to`: the runs end with the pool laid out from there, and so does
-- the layout.
pub record PoolRuns (arch : ℕ) (code : List ℕ) (es : List LayoutEvent) (constants asked : List ℕ) (c : Choice) (n len to : ℕ) : Type 0 where
  pub whole : runs arch 0 0 (code ++ pool_bytes arch len constants asked n) (es ++ entries (pool_event len constants asked) n) c
      ≡ runs arch 0 0 code es c ++ pool_bytes arch to constants asked n
  pub here : (after (length (es ++ entries (pool_event len constants asked) n)) 0 0 (es ++ entries (pool_event len constants asked) n) c).new
      + (pool_start len constants asked n
      - (after (length (es ++ entries (pool_event len constants asked) n)) 0 0 (es ++ entries (pool_event len constants asked) n) c).old)
      ≡ pool_start to constants asked n
  pub ordered : Ordered 0 (pool_start len constants asked n) (es ++ entries (pool_event len constants asked) n)

module _ (arch : ℕ) (code : List ℕ) (es : List LayoutEvent) (constants asked : List ℕ) (c : Choice) (len to : ℕ) (long : len ≡ length code)
    (order : Ordered 0 (length code) es) (new : to ≡ length (runs arch 0 0 code es c)) where
  pool_runs_none : PoolRuns arch code es constants asked c 0 len to
  unfolding pool_bytes pool_start
  pool_runs_none =
      record {
        whole = rw (append-nil code, append-nil es, append-nil (runs arch 0 0 code es c));
        here = rw (append-nil es, new, long) (omega (arith, length_runs arch es 0 0 code c order));
        ordered = rw (append-nil es, long) order;
      }

  pool_runs_more : (n : ℕ) → PoolRuns arch code es constants asked c n len to → PoolRuns arch code es constants asked c (suc n) len to
  unfolding form width pool_bytes
  pool_runs_more n r =
      let pool = pool_bytes arch len constants asked n in
      let before = es ++ entries (pool_event len constants asked) n in
      let e = pool_event len constants asked n in
      let pad = padding arch (pool_padding len constants asked n) in
      let zeros : List ℕ = replicate (size_at constants asked n) 0 in
      let there = after (length before) 0 0 before c in
      let ends : length (code ++ pool) ≡ pool_start len constants asked n
      = length-append code pool ∙ rw (← long) (length_pool_bytes arch len constants asked n) in
      let at : there.new + (start_of e - there.old) ≡ pool_start to constants asked n = r.here in
      let spent = constant_spends (pool_start to constants asked n) (size_at constants asked n) in
      let all_events_lem = sym (append_assoc es (entries (pool_event len constants asked) n) (e ∷ [])) in
      let padded : end_of e ≡ length ((code ++ pool) ++ pad)
      = omega (arith, ends, length-append (code ++ pool) pad, padding_length_lem arch (pool_padding len constants asked n)) in
      let rest : drop (end_of e) ((code ++ pool) ++ (pad ++ zeros)) ≡ zeros
      = ap (λ (l : List ℕ). drop (end_of e) l) (sym (append_assoc (code ++ pool) pad zeros))
      ∙ ap (λ (k : ℕ). drop k (((code ++ pool) ++ pad) ++ zeros)) padded
      ∙ drop-append_seam ((code ++ pool) ++ pad) zeros in
      record {
        whole =
            ap (λ (l : List ℕ). runs arch 0 0 l (es ++ (entries (pool_event len constants asked) n ++ (e ∷ []))) c) (sym (append_assoc code pool (pad ++ zeros)))
            ∙ ap (λ (l : List LayoutEvent). runs arch 0 0 ((code ++ pool) ++ (pad ++ zeros)) l c) all_events_lem
            ∙ runs_snoc arch before 0 0 (code ++ pool) (pad ++ zeros) c e (rw ends r.ordered) (sym ends)
            ∙ rw (r.whole, at, rest, spent)
            (append_assoc (runs arch 0 0 code es c) (pool_bytes arch to constants asked n) (padding arch (pool_padding to constants asked n) ++ zeros));
        here =
            ap (λ (l : List LayoutEvent). (after (length l) 0 0 l c).new + (pool_start len constants asked (suc n) - (after (length l) 0 0 l c).old)) all_events_lem
            ∙ rw (after_snoc before 0 0 c e, at, spent)
            (omega (
              arith,
              pool_start_suc len constants asked n,
              pool_start_suc to constants asked n,
            ));
        ordered =
            subst (λ (l : List LayoutEvent). Ordered 0 (pool_start len constants asked (suc n)) l) (sym all_events_lem)
            (ordered_snoc before 0 (pool_start len constants asked n) (pool_start len constants asked (suc n)) e r.ordered (omega arith)
            (omega (arith, pool_start_suc len constants asked n)));
      }

  -- The runs of a pooled recording are those of its recorded code, and then the pool laid out where they end.
  pub pool_runs : (n : ℕ) → PoolRuns arch code es constants asked c n len to
  pool_runs zero = pool_runs_none
  pool_runs (suc n) = pool_runs_more n (pool_runs n)
