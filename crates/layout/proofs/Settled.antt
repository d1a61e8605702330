-- The rounds by segments: they end, and settle where the rounds of a fresh assembly do.
use mathlib.Core.Path.{◌≡◌, refl, sym, ◌∙◌, ap}
use mathlib.Core.Logic.{⊎_elim}
use mathlib.Core.Bool.{Bool, true, false}
use mathlib.Core.List.{List, [], ◌∷◌, ◌++◌}
use Prim.Native.Nat.{ℕ, zero, suc, ◌+◌, ◌-◌, ◌≤◌, ◌<◌}
use native.Mathlib.Omega.{arith}
use lib.ListN.{length, get_or, drop, replicate, length-append, length-drop}
use lib.Seq.{get_or-append-add}
use Rattle.seqs.proofs.Numbers.{lt_or_ge}
use Rattle.words.specs.Words.{word_at}
use Rattle.relax.specs.declared.LayoutEvent.{LayoutEvent}
use Rattle.relax.specs.Events.{event_at, no_event}
use Rattle.buffer.specs.State.{none}
use Rattle.recording.specs.View.{entries}
use Rattle.fresh.specs.Pooled.{Pooled}
use Rattle.fresh.specs.Forms.{Branch, Role, pads, branches, role_of}
use Rattle.fresh.specs.Fresh.{Choice, is_long, others, placed}
use Rattle.fresh.specs.Rounds.{all_short, counted, jumps, is_far, first_start, other_starts, far_of, far, any, join, longer, Settled, settle, settled}
use Rattle.fresh.specs.Segments.{segments, map_offset}
use Rattle.fresh.specs.Order.{WellFormed}
use Rattle.fresh.specs.steps.Runs.{new_starts, after, runs_to}
use Rattle.fresh.proofs.Tests.{split, by_role}
use Rattle.fresh.proofs.Choices.{pads_near, branch_far}
use Rattle.fresh.proofs.Segments.{far_segments, placed_runs}
use Rattle.fresh.proofs.Loops.{runs_all, length_runs_to}
use Rattle.pool.specs.steps.Pool.{pool_event}
use Rattle.layout.specs.steps.Layout.{all_events, far_by, relaxing, relaxed_by, relaxed, finished_length}
use Rattle.recording.proofs.Views.{length_entries, get_d_entries}
use Rattle.layout.proofs.Pooling.{all_first}

pub jumps_le : (es : List LayoutEvent) → jumps es ≤ length es
unfolding jumps
jumps_le [] = omega arith
jumps_le (e ∷ es) = omega (arith, jumps_le es, counted_le (role_of e))
  where
    counted_le : (r : Role) → counted r ≤ 1
    counted_le pads = omega arith
    counted_le (branches b) = omega arith

pub all_short_lem : (es : List LayoutEvent) → replicate (length es) false ≡ all_short es
all_short_lem [] = refl
all_short_lem (e ∷ es) = ap (λ (l : Choice). false ∷ l) (all_short_lem es)

-- One round.
pub relaxing_last : (k : ℕ) (es : List LayoutEvent) (at : ℕ → ℕ) (c : Choice) → any (far_by es at c) ≡ false → relaxing k es at c ≡ record { choice = c; rounds = 1 }
unfolding relaxing
relaxing_last zero es at c h = refl
relaxing_last (suc k) es at c h = rw (h, relaxing) refl

pub relaxing_again : (k : ℕ) (es : List LayoutEvent) (at : ℕ → ℕ) (c : Choice) → any (far_by es at c) ≡ true
    → relaxing (suc k) es at c
    ≡ record { choice = (relaxing k es at (join c (far_by es at c))).choice; rounds = suc (relaxing k es at (join c (far_by es at c))).rounds }
unfolding relaxing
relaxing_again k es at c h = rw (h, relaxing) refl

-- a round more
abbrev more : Settled → Settled
more s = record { choice = s.choice; rounds = suc s.rounds }

-- The rounds by segments are those of a fresh assembly.
relaxing_settle : (p : Pooled) → WellFormed p → (k : ℕ) (c : Choice) → relaxing k p.events (λ (l : ℕ). get_or p.labels l none) c ≡ settle k p c
unfolding relaxing settle
relaxing_settle p wf zero c = refl
relaxing_settle p wf (suc k) c =
    let at : ℕ → ℕ = λ l. get_or p.labels l none in
    let f : far p c ≡ far_by p.events at c = far_segments p c wf in
    split (any (far p c))
    (λ e.
    let rest = relaxing_settle p wf k (join c (far_by p.events at c)) ∙ ap (λ (x : Choice). settle k p (join c x)) (sym f) in
    let step : settle (suc k) p c ≡ more (settle k p (longer p c)) = rw (e, settle) refl in
    relaxing_again k p.events at c (ap any (sym f) ∙ e) ∙ (ap more rest ∙ sym step))
    (λ e.
    let step : settle (suc k) p c ≡ record { choice = c; rounds = 1 } = rw (e, settle) refl in
    relaxing_last (suc k) p.events at c (ap any (sym f) ∙ e) ∙ sym step)

pub relaxed_settled : (p : Pooled) → WellFormed p → relaxed p.events p.labels ≡ settled p
relaxed_settled p wf = relaxing_settle p wf (jumps p.events) (all_short p.events)

-- The finished length is that of a fresh assembly.
pub finished_placed : (p : Pooled) (c : Choice) → WellFormed p → finished_length p.events c (length p.code) ≡ length (placed p c)
finished_placed p c wf =
    let old = (after (length p.events) 0 0 p.events c).old in
    let first = runs_to (length p.events) p.arch 0 0 p.code p.events c in
    omega (
      arith,
      length_runs_to p.arch p.events 0 0 p.code c (length p.events) wf.ordered (omega arith),
      ap length (placed_runs p c wf ∙ runs_all p.arch p.events 0 0 p.code c),
      length-append first (drop old p.code),
      length-drop old p.code,
    )

-- Labels that jumps name are read alike from a table and from the list of its entries.
far_same : (g h : ℕ → ℕ) (es : List LayoutEvent) (c : Choice) (starts : List ℕ)
    → ((i : ℕ) (b : Branch) → i < length es → role_of (get_or es i no_event) ≡ branches b → g b.label ≡ h b.label)
    → far_of g es c starts ≡ far_of h es c starts
unfolding far_of
far_same g h [] c starts k = refl
far_same g h (e ∷ es) c starts k =
    rw (far_same g h es (others c) (other_starts starts) (λ i w l r. k (suc i) w (omega arith) r)) (ap (λ (t : Bool). t ∷ far_of h es (others c) (other_starts starts)) first)
  where
    first : is_far g e (is_long c) (first_start starts) ≡ is_far h e (is_long c) (first_start starts)
    first = by_role e
        (λ r. pads_near g e (is_long c) (first_start starts) r ∙ sym (pads_near h e (is_long c) (first_start starts) r))
        (λ b r. branch_far g e b (is_long c) (first_start starts) r
        ∙ (rw (k 0 b (omega arith) r) refl ∙ sym (branch_far h e b (is_long c) (first_start starts) r)))

relaxing_same : (k : ℕ) (es : List LayoutEvent) (at at' : ℕ → ℕ) (c : Choice)
    → ((i : ℕ) (b : Branch) → i < length es → role_of (get_or es i no_event) ≡ branches b → at b.label ≡ at' b.label) → relaxing k es at c ≡ relaxing k es at' c
unfolding relaxing
relaxing_same zero es at at' c h = refl
relaxing_same (suc k) es at at' c h =
    let f : far_by es at c ≡ far_by es at' c
    = far_same (λ (l : ℕ). map_offset (segments 0 0 es c) (at l)) (λ (l : ℕ). map_offset (segments 0 0 es c) (at' l)) es c (new_starts (segments 0 0 es c))
    (λ i j l e. ap (map_offset (segments 0 0 es c)) (h i j l e)) in
    split (any (far_by es at c))
    (λ e.
    let rest = relaxing_same k es at at' (join c (far_by es at c)) h ∙ ap (λ (x : Choice). relaxing k es at' (join c x)) f in
    relaxing_again k es at c e ∙ (ap more rest ∙ sym (relaxing_again k es at' c (ap any (sym f) ∙ e))))
    (λ e. relaxing_last (suc k) es at c e ∙ sym (relaxing_last (suc k) es at' c (ap any (sym f) ∙ e)))

-- The label that an event of the whole names is named by one of the recorded events.
all_below : (events : List ℕ) (n code : ℕ) (constants asked : List ℕ) (m count : ℕ)
    → ((i : ℕ) (b : Branch) → i < n → role_of (event_at events i) ≡ branches b → b.label < count)
    → (i : ℕ) (b : Branch) → i < length (all_events events n code constants asked m)
    → role_of (get_or (all_events events n code constants asked m) i no_event) ≡ branches b → b.label < count
unfolding role_of
all_below events n code constants asked m count h i b k e =
    let first = entries (event_at events) n in
    let rest = entries (pool_event code constants asked) m in
    let lf = length_entries (event_at events) n in
    ⊎_elim
    (λ lt. h i b lt (ap role_of (sym (all_first events n code constants asked m i lt)) ∙ e))
    (λ ge.
    let lr = length_entries (pool_event code constants asked) m in
    let k' : i - n < m = omega (arith, length-append first rest, lf, lr) in
    let at : i ≡ length first + (i - n) = omega (arith, lf) in
    let p : branches b ≡ pads
    = sym e ∙ (ap (λ (x : ℕ). role_of (get_or (first ++ rest) x no_event)) at ∙ ap role_of (get_or-append-add first rest (i - n) no_event ∙ get_d_entries (pool_event code constants asked) m (i - n) no_event k')) in
    let z : ◌≡◌ {A = ℕ} 0 1 = cc in
    omega arith)
    (lt_or_ge i n)

pub relaxed_entries : (events : List ℕ) (n code : ℕ) (constants asked : List ℕ) (m : ℕ) (labels : List ℕ) (count : ℕ)
    → ((i : ℕ) (b : Branch) → i < n → role_of (event_at events i) ≡ branches b → b.label < count)
    → relaxed_by (all_events events n code constants asked m) (word_at labels) (all_short (all_events events n code constants asked m))
    ≡ relaxed (all_events events n code constants asked m) (entries (word_at labels) count)
relaxed_entries events n code constants asked m labels count h =
    let es = all_events events n code constants asked m in
    relaxing_same (jumps es) es (word_at labels) (λ (l : ℕ). get_or (entries (word_at labels) count) l none) (all_short es)
    (λ i b k r. sym (get_d_entries (word_at labels) count b.label none (all_below events n code constants asked m count h i b k r)))
