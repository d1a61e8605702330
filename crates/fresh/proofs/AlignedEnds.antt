-- What stands where an alignment ends stays on its multiple, however the code is laid out.
use mathlib.Core.Path.{◌≡◌, sym, ap, ◌∙◌}
use mathlib.Core.Logic.{◌≢◌, ⊎_elim}
use mathlib.Core.Bool.{Bool}
use mathlib.Core.List.{List, [], ◌∷◌}
use Prim.Native.Nat.{ℕ, zero, suc, ◌+◌, ◌-◌, ◌%◌, ◌≤◌, ◌<◌}
use native.Mathlib.Nat.{mod-mod_of_dvd, dvd_of_mod-eq-zero, zero-mod}
use native.Mathlib.Omega.{arith}
use lib.ListN.{length, get_or}
use borrow.Author.Tests.{ne_eqb}
use Rattle.seqs.proofs.Numbers.{lt_or_ge}
use Rattle.relax.specs.declared.Alignment.{Alignment}
use Rattle.relax.specs.declared.LayoutEvent.{LayoutEvent}
use Rattle.relax.specs.declared.LayoutEvent.TheVariants.{Align}
use Rattle.relax.specs.Events.{start_of, end_of, no_event}
use Rattle.buffer.specs.State.{none}
use Rattle.fresh.specs.Pooled.{Pooled}
use Rattle.fresh.specs.Forms.{width}
use Rattle.fresh.specs.Fresh.{Choice, is_long, others, moved}
use Rattle.fresh.specs.Segments.{segment, segments, chosen, decided, map_offset}
use Rattle.fresh.specs.Order.{Ordered, Lies, WellFormed}
use Rattle.fresh.proofs.Forms.{padding_ends}
use Rattle.fresh.proofs.Segments.{chosen_no, chosen_in, chosen_past, decided_none, moved_map}

-- an event that is an alignment on a multiple of m, and may spend whatever an offset needs
pub record AlignsOn (m : ℕ) (e : LayoutEvent) : Type 0 where
  pub alignment : Alignment
  pub is : e ≡ Align alignment
  pub some : 0 < alignment.align
  pub enough : alignment.align ≤ suc alignment.most
  pub multiple : alignment.align % m ≡ 0

-- a multiple of a multiple of m is one of m
pub multiple_of : (x k m : ℕ) → x % k ≡ 0 → k % m ≡ 0 → x % m ≡ 0
multiple_of x k m e h = sym (mod-mod_of_dvd m x (dvd_of_mod-eq-zero m h)) ∙ ap (λ (y : ℕ). y % m) e ∙ zero-mod m

aligns_on : {m : ℕ} {e : LayoutEvent} → AlignsOn m e → (long : Bool) (n : ℕ) → (n + width e long n) % m ≡ 0
aligns_on {m} {e} on long n =
    rw on.is (multiple_of (n + width (Align on.alignment) long n) on.alignment.align m (padding_ends on.alignment long n on.some on.enough) on.multiple)

-- every event that starts at t or before it
abbrev AllOn : ℕ → ℕ → List LayoutEvent → Type 0
AllOn m t es = (k : ℕ) → k < length es → start_of (get_or es k no_event) ≤ t → AlignsOn m (get_or es k no_event)

-- the rest of the events decides on what the first has chosen
decided_next : (e : LayoutEvent) (es : List LayoutEvent) (o n t d x : ℕ) (c : Choice) → chosen (segment o n e (is_long c)) t d ≡ x
    → decided (segments o n (e ∷ es) c) t d ≡ decided (segments (end_of e) (segment o n e (is_long c)).new_end es (others c)) t x
unfolding segments decided
decided_next e es o n t d x c h = ap (λ (y : ℕ). decided (segments (end_of e) (segment o n e (is_long c)).new_end es (others c)) t y) h

-- Past an event that ended at t: where the events that start there take it, it is a multiple as before.
stays_on : (m : ℕ) (es : List LayoutEvent) (o n len t d : ℕ) (c : Choice) → Ordered o len es → t ≤ o → n % m ≡ 0 → d % m ≡ 0 → AllOn m t es
    → decided (segments o n es c) t d % m ≡ 0
unfolding Ordered segments decided
stays_on m [] o n len t d c h le hn hd on = hd
stays_on m (e ∷ es) o n len t d c h le hn hd on =
    ⊎_elim
    (λ (past : t < start_of e).
    rw (
      decided_next e es o n t d d c (chosen_no (segment o n e (is_long c)) t d past),
      decided_none es (end_of e) (segment o n e (is_long c)).new_end len t d (others c) h.1 (omega arith),
    ) hd)
    (λ (at : start_of e ≤ t).
    let end : (segment o n e (is_long c)).new_end % m ≡ 0 = aligns_on (on 0 (omega arith) at) (is_long c) (n + (start_of e - o)) in
    ⊎_elim
    (λ (inside : t < end_of e).
    let here : t - start_of e + (n + (start_of e - o)) ≡ n = omega (arith, h.0) in
    rw (
      decided_next e es o n t d n c (chosen_in (segment o n e (is_long c)) t d at inside ∙ here),
      decided_none es (end_of e) (segment o n e (is_long c)).new_end len t n (others c) h.1 inside,
    ) hn)
    (λ (over : end_of e ≤ t).
    let there : t - end_of e + (segment o n e (is_long c)).new_end ≡ (segment o n e (is_long c)).new_end = omega (arith, h.0) in
    rw (decided_next e es o n t d _ c (chosen_past (segment o n e (is_long c)) t d at over ∙ there))
    (stays_on m es (end_of e) (segment o n e (is_long c)).new_end len t _ (others c) h.1 (omega (arith, h.0)) end end (λ k l s. on (suc k) (omega arith) s)))
    (lt_or_ge t (end_of e)))
    (lt_or_ge t (start_of e))

-- The end of event i, where event i and those after it that start there are alignments on multiples of m.
ends_on : (m : ℕ) (es : List LayoutEvent) (o n len d : ℕ) (c : Choice) (i : ℕ) → Ordered o len es → i < length es
    → let t = end_of (get_or es i no_event) in ((k : ℕ) → i ≤ k → k < length es → start_of (get_or es k no_event) ≤ t → AlignsOn m (get_or es k no_event))
    → decided (segments o n es c) t d % m ≡ 0
unfolding Ordered segments decided
ends_on m [] o n len d c i h l on = absurd (omega arith)
ends_on m (e ∷ es) o n len d c zero h l on =
    let s = segment o n e (is_long c) in
    let end : s.new_end % m ≡ 0 = aligns_on (on 0 (omega arith) (omega arith) (omega arith)) (is_long c) (n + (start_of e - o)) in
    let there : end_of e - end_of e + s.new_end ≡ s.new_end = omega arith in
    rw (decided_next e es o n (end_of e) d _ c (chosen_past s (end_of e) d (omega arith) (omega arith) ∙ there))
    (stays_on m es (end_of e) s.new_end len (end_of e) s.new_end (others c) h.1 (omega arith) end end
    (λ k k·l at. on (suc k) (omega arith) (omega arith) at))
ends_on m (e ∷ es) o n len d c (suc i) h l on =
    ends_on m es (end_of e) (segment o n e (is_long c)).new_end len _ (others c) i h.1 (omega arith) (λ k le k·l at. on (suc k) (omega arith) (omega arith) at)

-- An event ends at t, and it and those after it that start at t are alignments on multiples of m.
pub record EndsOn (p : Pooled) (m t : ℕ) : Type 0 where
  pub number : ℕ
  pub known : number < length p.events
  pub ends : t ≡ end_of (get_or p.events number no_event)
  pub on : (k : ℕ) → number ≤ k → k < length p.events → start_of (get_or p.events k no_event) ≤ t → AlignsOn m (get_or p.events k no_event)

-- What is recorded there goes to a multiple of m.
pub end_on_multiple : (p : Pooled) (c : Choice) → WellFormed p → (m t : ℕ) → EndsOn p m t → t ≢ none → Lies p t → moved p c t % m ≡ 0
unfolding map_offset
end_on_multiple p c wf m t e bound lies =
    rw (moved_map p c wf t lies, ne_eqb t none bound, map_offset)
    (rw e.ends
    (ends_on m p.events 0 0 (length p.code) _ c e.number wf.ordered e.known (λ k le l at. e.on k le l (omega (arith, e.ends)))))
