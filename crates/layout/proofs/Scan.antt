-- A round's scan, event by event.
use mathlib.Core.Path.{◌≡◌, refl, sym, ◌∙◌, ap}
use mathlib.Core.Bool.{Bool, true, false, ◌||◌, or-true, or-false, and-false}
use mathlib.Core.List.{List}
use Prim.Native.Nat.{ℕ, ◌+◌, ◌<◌}
use native.Mathlib.Omega.{arith}
use native.Mathlib.Numerals.{add-one}
use lib.ListN.{length, get_or, take, set}
use lib.Seq.{take_all, set-get_or, length-take-le}
use Rattle.seqs.specs.Over.{over}
use Rattle.seqs.proofs.Overwrites.{over_nil, over_copy, get_d_over_after}
use Rattle.relax.specs.declared.Segment.{Segment}
use Rattle.relax.specs.Events.{event_at}
use Rattle.fresh.specs.Fresh.{Choice}
use Rattle.fresh.specs.Rounds.{any, join}
use Rattle.fresh.proofs.Choices.{length_join, join_get_d, any_suc}
use Rattle.recording.proofs.Views.{length_entries, get_d_entries}
use Rattle.layout.specs.steps.Layout.{zero_segment}
use Rattle.layout.specs.steps.Targets.{is_missed, is_missed_at, missed}

-- the scan has passed i events, f being those that it lengthens
pub record Scanned (f c : Choice) (i : ℕ) (long : Choice) (grew : Bool) : Type 0 where
  pub mixed : long ≡ over c 0 (take i (join c f))
  pub seen : grew ≡ any (take i f)

pub scanned_none : (f c : Choice) → Scanned f c 0 c false
unfolding any
scanned_none f c = record { mixed = sym (over_nil c 0); seen = refl }

module _ (f c : Choice) (i : ℕ) (long : Choice) (grew : Bool) (q : Scanned f c i long grew) (h : i < length f) where
  scanned_at : get_or long i false ≡ get_or c i false
  scanned_at =
      rw q.mixed (get_d_over_after c 0 (take i (join c f)) i false (omega (arith, length-take-le i (join c f) (omega (arith, length_join c f)))))

  one_more : set (over c 0 (take i (join c f))) i (get_or c i false || get_or f i false) ≡ over c 0 (take (i + 1) (join c f))
  one_more =
      rw (← join_get_d c f i h) (over_copy c 0 (join c f) i i false (omega (arith, length_join c f)) (omega arith))

  scanned_keep : get_or f i false ≡ false → Scanned f c (i + 1) long grew
  scanned_keep e = record {
    mixed =
        let stays : set long i (get_or c i false || get_or f i false) ≡ long = rw (e, or-false (get_or c i false), ← scanned_at) (set-get_or long i false) in
        sym stays ∙ rw q.mixed one_more;
    seen = q.seen ∙ sym (rw (add-one i) (any_suc f i h ∙ rw e (or-false (any (take i f)))));
  }

  scanned_mark : get_or f i false ≡ true → Scanned f c (i + 1) (set long i true) true
  scanned_mark e = record {
    mixed = rw (q.mixed, ← or-true (get_or c i false), ← e) one_more;
    seen = sym (rw (add-one i) (any_suc f i h ∙ rw e (or-true (any (take i f)))));
  }

-- By the rows of the table.
module _ (ss : List Segment) (events : List ℕ) (n : ℕ) (c : Choice) where
  count : length (missed ss events c n) ≡ n
  count = length_entries (λ (i : ℕ). is_missed_at ss events (get_or c i false) i) n

  module _ {i : ℕ} {long : Choice} {grew : Bool} (q : Scanned (missed ss events c n) c i long grew) (h : i < n) where
    said : get_or (missed ss events c n) i false ≡ is_missed_at ss events (get_or long i false) i
    said =
        get_d_entries (λ (j : ℕ). is_missed_at ss events (get_or c j false) j) n i false h
        ∙ rw (← scanned_at _ c i long grew q (omega (arith, count))) refl

    -- A short one that does not reach,
    pub scan_mark : {r : Bool} {long' : Choice} {grew' : Bool} → get_or long i false ≡ false → r ≡ is_missed ss (event_at events i) (get_or ss i zero_segment) → r ≡ true
        → long' ≡ set long i true → grew' ≡ true → Scanned (missed ss events c n) c (i + 1) long' grew'
    scan_mark s e t a b = rw (a, b) (scanned_mark _ c i long grew q (omega (arith, count)) (said ∙ rw (s, ← e) t))

    -- an event that does,
    pub scan_near : {r : Bool} {long' : Choice} {grew' : Bool} → r ≡ is_missed ss (event_at events i) (get_or ss i zero_segment) → r ≡ false → long' ≡ long → grew' ≡ grew
        → Scanned (missed ss events c n) c (i + 1) long' grew'
    scan_near e t a b = rw (a, b) (scanned_keep _ c i long grew q (omega (arith, count)) (said ∙ rw (← e, t) (and-false _)))

    -- and a long one.
    pub scan_long : {long' : Choice} {grew' : Bool} → get_or long i false ≡ true → long' ≡ long → grew' ≡ grew → Scanned (missed ss events c n) c (i + 1) long' grew'
    scan_long s a b = rw (a, b) (scanned_keep _ c i long grew q (omega (arith, count)) (said ∙ rw s refl))

  pub scan_all : {long : Choice} {grew : Bool} → Scanned (missed ss events c n) c n long grew
      → (long ≡ over c 0 (join c (missed ss events c n))) × (grew ≡ any (missed ss events c n))
  scan_all q =
      let f = missed ss events c n in
      (q.mixed ∙ ap (λ (l : Choice). over c 0 l) (take_all n (join c f) (omega (arith, length_join c f, count))), q.seen ∙ ap any (take_all n f (omega (arith, count))))
