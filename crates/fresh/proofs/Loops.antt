-- One turn of each loop that lays out, looks up, scans, copies and fills.
use mathlib.Core.Path.{◌≡◌, refl, ◌∙◌, ap}
use mathlib.Core.Bool.{false}
use mathlib.Core.List.{List, [], ◌∷◌, ◌++◌, append_assoc, append-nil}
use Prim.Native.Nat.{ℕ, zero, suc, ◌+◌, ◌-◌, ◌*◌, ◌≤◌, ◌<◌}
use native.Mathlib.Omega.{arith}
use lib.ListN.{length, get_or, take, drop, set, length-append, length-drop}
use borrow.Author.Tests.{le-leb, lt-leb}
use Rattle.relax.specs.declared.LayoutEvent.{LayoutEvent}
use Rattle.relax.specs.declared.Segment.{Segment}
use Rattle.relax.specs.Events.{start_of, extent_of, end_of, no_event}
use Rattle.fresh.specs.Fresh.{Choice, is_long, others}
use Rattle.fresh.specs.Segments.{segment, segments, image, chosen, decided}
use Rattle.fresh.specs.Fill.{part}
use Rattle.fresh.specs.Order.{Ordered}
use Rattle.fresh.specs.steps.Runs.{Small, Modest, form_at, runs, after, segment_at, runs_to}
use Rattle.fresh.proofs.Events.{ordered_le, run_length}
use Rattle.fresh.proofs.Choices.{is_long_get_d, others_get_d}
use Rattle.fresh.proofs.Forms.{length_form, width_small}

-- The layout: segment i, and where it stands after event i.
pub length_segments : (es : List LayoutEvent) (o n : ℕ) (c : Choice) → length (segments o n es c) ≡ length es
unfolding segments
length_segments [] o n c = refl
length_segments (e ∷ es) o n c = ap suc (length_segments es _ _ _)

pub segments_get_d : (es : List LayoutEvent) (o n : ℕ) (c : Choice) (i : ℕ) (z : Segment) → i < length es
    → get_or (segments o n es c) i z ≡ segment_at i o n es c
unfolding segments segment_at after
segments_get_d [] o n c i z h = absurd (omega arith)
segments_get_d (e ∷ es) o n c zero z h = ap (segment o n e) (is_long_get_d c)
segments_get_d (e ∷ es) o n c (suc i) z h = segments_get_d es _ _ (others c) i z (omega arith) ∙ rw (others_get_d c i) refl

pub after_suc : (es : List LayoutEvent) (o n : ℕ) (c : Choice) (i : ℕ) → i < length es
    → after (suc i) o n es c ≡ record { old = end_of (get_or es i no_event); new = (segment_at i o n es c).new_end }
unfolding segment_at after
after_suc [] o n c i h = absurd (omega arith)
after_suc (e ∷ es) o n c zero h = rw (is_long_get_d c) refl
after_suc (e ∷ es) o n c (suc i) h = after_suc es _ _ (others c) i (omega arith) ∙ rw (others_get_d c i) refl

-- One event more is one segment more.
pub segments_snoc : (es : List LayoutEvent) (o n : ℕ) (c : Choice) (e : LayoutEvent)
    → segments o n (es ++ (e ∷ [])) c
    ≡ segments o n es c ++ (segment (after (length es) o n es c).old (after (length es) o n es c).new e (get_or c (length es) false) ∷ [])
unfolding segments after
segments_snoc [] o n c e = rw (is_long_get_d c) refl
segments_snoc (x ∷ es) o n c e = ap (λ l. segment o n x (is_long c) ∷ l) (segments_snoc es _ _ (others c) e ∙ rw (others_get_d c (length es)) refl)

-- The lookup: the last of the segments that start at or before t decides, and one that starts past t does not.
pub decided_skip : (ss : List Segment) (t d : ℕ) (z : Segment) → ((j : ℕ) → j < length ss → t < (get_or ss j z).old_start) → decided ss t d ≡ d
unfolding decided chosen
decided_skip [] t d z h = refl
decided_skip (s ∷ ss) t d z h =
    ap (decided ss t) (rw (lt-leb s.old_start t (h 0 (omega arith)), chosen)) ∙ decided_skip ss t d z (λ j k. h (suc j) (omega arith))

pub decided_last : (ss : List Segment) (t d i : ℕ) (z : Segment) → i < length ss → (get_or ss i z).old_start ≤ t
    → ((j : ℕ) → i < j → j < length ss → t < (get_or ss j z).old_start) → decided ss t d ≡ image (get_or ss i z) t
unfolding decided chosen
decided_last [] t d i z hi h k = absurd (omega arith)
decided_last (s ∷ ss) t d zero z hi h k =
    ap (decided ss t) (rw (le-leb s.old_start t h, chosen)) ∙ decided_skip ss t _ z (λ j w. k (suc j) (omega arith) (omega arith))
decided_last (s ∷ ss) t d (suc i) z hi h k = decided_last ss t _ i z (omega arith) h (λ j w v. k (suc j) (omega arith) (omega arith))

-- The scan of a round: what stands in the choice's table when i events are passed.
pub mixed_suc : (f g : Choice) (i : ℕ) → i < length f → length f ≡ length g
    → set (take i f ++ drop i g) i (get_or f i false) ≡ take (suc i) f ++ drop (suc i) g
mixed_suc [] g i h k = absurd (omega arith)
mixed_suc (x ∷ f) [] i h k = absurd (omega arith)
mixed_suc (x ∷ f) (y ∷ g) zero h k = refl
mixed_suc (x ∷ f) (y ∷ g) (suc i) h k = ap (λ l. x ∷ l) (mixed_suc f g i (omega arith) (omega arith))

-- The runs: event i adds the run before it and its form; what follows the last event is copied.
pub runs_to_suc : (arch : ℕ) (es : List LayoutEvent) (o n : ℕ) (code : List ℕ) (c : Choice) (i : ℕ) → i < length es
    → runs_to (suc i) arch o n code es c ≡ runs_to i arch o n code es c
    ++ (take (start_of (get_or es i no_event) - (after i o n es c).old) (drop (after i o n es c).old code)
    ++ form_at arch code (get_or es i no_event) (get_or c i false) (segment_at i o n es c).new_start)
unfolding runs_to segment_at after
runs_to_suc arch [] o n code c i h = absurd (omega arith)
runs_to_suc arch (e ∷ es) o n code c zero h = rw (is_long_get_d c, append-nil) refl
runs_to_suc arch (e ∷ es) o n code c (suc i) h =
    ap (λ l. take (start_of e - o) (drop o code) ++ (form_at arch code e (is_long c) (segment o n e (is_long c)).new_start ++ l))
    (runs_to_suc arch es _ _ code (others c) i (omega arith))
    ∙ rw (others_get_d c i) (simp append_assoc)

pub runs_all : (arch : ℕ) (es : List LayoutEvent) (o n : ℕ) (code : List ℕ) (c : Choice)
    → runs arch o n code es c ≡ runs_to (length es) arch o n code es c ++ drop (after (length es) o n es c).old code
unfolding runs runs_to after
runs_all arch [] o n code c = refl
runs_all arch (e ∷ es) o n code c =
    ap (λ l. take (start_of e - o) (drop o code) ++ (form_at arch code e (is_long c) (segment o n e (is_long c)).new_start ++ l)) (runs_all arch es _ _ code (others c))
    ∙ simp append_assoc

-- What is written so far ends where the layout stands.
pub length_runs_to : (arch : ℕ) (es : List LayoutEvent) (o n : ℕ) (code : List ℕ) (c : Choice) (i : ℕ) → Ordered o (length code) es → i ≤ length es
    → n + length (runs_to i arch o n code es c) ≡ (after i o n es c).new
unfolding runs_to after Ordered
length_runs_to arch es o n code c zero h k = omega arith
length_runs_to arch [] o n code c (suc i) h k = absurd (omega arith)
length_runs_to arch (e ∷ es) o n code c (suc i) h k =
    omega (
      arith,
      length-append (take (start_of e - o) (drop o code))
          (form_at arch code e (is_long c) (n + (start_of e - o)) ++ runs_to i arch (end_of e) (segment o n e (is_long c)).new_end code es (others c)),
      length-append (form_at arch code e (is_long c) (n + (start_of e - o))) (runs_to i arch (end_of e) (segment o n e (is_long c)).new_end code es (others c)),
      length_form arch e (part code (start_of e) (extent_of e)) (is_long c) (n + (start_of e - o)),
      run_length o (start_of e) code h.0 (omega (arith, ordered_le (end_of e) (length code) es h.1)),
      length_runs_to arch es (end_of e) (segment o n e (is_long c)).new_end code (others c) i h.1 (omega arith),
    )

-- The code's length: what the layout has come to, and what follows the last event.
pub length_runs : (arch : ℕ) (es : List LayoutEvent) (o n : ℕ) (code : List ℕ) (c : Choice) → Ordered o (length code) es
    → n + length (runs arch o n code es c) ≡ (after (length es) o n es c).new + (length code - (after (length es) o n es c).old)
length_runs arch es o n code c h =
    omega (
      arith,
      ap length (runs_all arch es o n code c),
      length-append (runs_to (length es) arch o n code es c) (drop (after (length es) o n es c).old code),
      length_runs_to arch es o n code c (length es) h (omega arith),
      length-drop (after (length es) o n es c).old code,
    )

-- The sums: an event takes at most 4,096 bytes.
pub modest_at : (es : List LayoutEvent) (i : ℕ) → Modest es → i < length es → Small (get_or es i no_event)
unfolding Modest
modest_at [] i h k = absurd (omega arith)
modest_at (e ∷ es) zero h k = h.0
modest_at (e ∷ es) (suc i) h k = modest_at es i h.1 (omega arith)

pub after_le : (es : List LayoutEvent) (o n len : ℕ) (c : Choice) (i : ℕ) → Modest es → Ordered o len es → i ≤ length es
    → ((after i o n es c).new ≤ n + ((after i o n es c).old - o) + 4096 * i) × (o ≤ (after i o n es c).old) × ((after i o n es c).old ≤ len)
unfolding after Ordered Modest
after_le [] o n len c zero m h hi = omega arith
after_le [] o n len c (suc i) m h hi = absurd (omega arith)
after_le (e ∷ es) o n len c zero m h hi = omega (arith, ordered_le o len (e ∷ es) h)
after_le (e ∷ es) o n len c (suc i) m h hi =
    omega (
      arith,
      h.0,
      width_small e (is_long c) (n + (start_of e - o)) m.0,
      after_le es (end_of e) (segment o n e (is_long c)).new_end len (others c) i m.1 h.1 (omega arith),
    )

-- Where the layout stands before an event is at most the event's start.
pub after_start_lem : (es : List LayoutEvent) (o n len : ℕ) (c : Choice) (i : ℕ) → Ordered o len es → i < length es
    → ((after i o n es c).old ≤ start_of (get_or es i no_event)) × (end_of (get_or es i no_event) ≤ len)
unfolding Ordered after
after_start_lem [] o n len c i h k = absurd (omega arith)
after_start_lem (e ∷ es) o n len c zero h k = (h.0, ordered_le (end_of e) len es h.1)
after_start_lem (e ∷ es) o n len c (suc i) h k = after_start_lem es (end_of e) _ len (others c) i h.1 (omega arith)

-- Where the layout stands rises.
after_rises : (es : List LayoutEvent) (o n : ℕ) (c : Choice) (i : ℕ) → n ≤ (after i o n es c).new
unfolding after
after_rises es o n c zero = omega arith
after_rises [] o n c (suc i) = omega arith
after_rises (e ∷ es) o n c (suc i) = omega (arith, after_rises es (end_of e) (segment o n e (is_long c)).new_end (others c) i)

pub after_mono : (es : List LayoutEvent) (o n : ℕ) (c : Choice) (i j : ℕ) → i ≤ j → (after i o n es c).new ≤ (after j o n es c).new
unfolding after
after_mono es o n c zero j h = after_rises es o n c j
after_mono es o n c (suc i) zero h = absurd (omega arith)
after_mono [] o n c (suc i) (suc j) h = omega arith
after_mono (e ∷ es) o n c (suc i) (suc j) h = after_mono es _ _ (others c) i j (omega arith)
