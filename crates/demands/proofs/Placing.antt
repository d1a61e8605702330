-- The form of each event stands in the placed code, from its new start to its new end.
use mathlib.Core.Path.{◌≡◌, refl, sym, ap, ◌∙◌}
use mathlib.Core.Bool.{Bool, false}
use mathlib.Core.List.{List, [], ◌∷◌, ◌++◌, map, append_assoc}
use Prim.Native.Nat.{ℕ, zero, suc, ◌+◌, ◌-◌, ◌<◌}
use native.Mathlib.Omega.{arith}
use lib.ListN.{length, get_or, take, drop, length-append}
use Rattle.relax.specs.declared.LayoutEvent.{LayoutEvent}
use Rattle.relax.specs.Events.{end_of, no_event, start_of, extent_of}
use Rattle.fresh.specs.Pooled.{Pooled}
use Rattle.fresh.specs.Forms.{form, width}
use Rattle.fresh.specs.Fresh.{Choice, is_long, others, Item, plain, event, items, writes, starts, walk, placed}
use Rattle.fresh.specs.Fill.{part}
use Rattle.fresh.proofs.Choices.{is_long_get_d, others_get_d}
use Rattle.fresh.proofs.Segments.{writes_run, starts_run}
use Rattle.fresh.proofs.Forms.{length_form}
use Rattle.demands.specs.Demand2.{new_start, event_of}

-- the new offset at which each event ends, in order
unfoldable pub ends : ℕ → List Item → Choice → List ℕ
ends n [] c = []
ends n (plain b ∷ is) c = ends (suc n) is c
ends n (event e bytes ∷ is) c = (n + width e (is_long c) n) ∷ ends (n + width e (is_long c) n) is (others c)

ends_run : (bs : List ℕ) (is : List Item) (n : ℕ) (c : Choice) → ends n (map plain bs ++ is) c ≡ ends (n + length bs) is c
unfolding ends
ends_run [] is n c = ap (λ x. ends x is c) (omega arith)
ends_run (b ∷ bs) is n c = ends_run bs is (suc n) c ∙ ap (λ x. ends x is c) (omega arith)

-- an event, long or not, that starts at `start` and ends at `end` stands in what is written from n on
pub record Standing (arch : ℕ) (e : LayoutEvent) (long : Bool) (n start end : ℕ) (l : List ℕ) : Type 0 where
  pub recorded : List ℕ
  pub before : List ℕ
  pub after : List ℕ
  pub is : l ≡ before ++ (form arch e recorded long start ++ after)
  pub starts_at : start ≡ n + length before
  pub ends_at : end ≡ start + width e long start

-- what is written before it
later : (arch : ℕ) (e : LayoutEvent) (long : Bool) (n m start end : ℕ) (first l : List ℕ) → m ≡ n + length first → Standing arch e long m start end l
    → Standing arch e long n start end (first ++ l)
later arch e long n m start end first l here s =
    record {
      recorded = s.recorded;
      before = first ++ s.before;
      after = s.after;
      is = ap (λ (x : List ℕ). first ++ x) s.is ∙ sym (append_assoc first s.before (form arch e s.recorded long start ++ s.after));
      starts_at = omega (arith, s.starts_at, length-append first s.before);
      ends_at = s.ends_at;
    }

-- an event after a run of plain bytes, and an event after that one
standing_first : (arch : ℕ) (e : LayoutEvent) (run kept : List ℕ) (rest : List Item) (n : ℕ) (c : Choice)
    → Standing arch e (get_or c 0 false) n (get_or (starts n (map plain run ++ event e kept ∷ rest) c) 0 0)
    (get_or (ends n (map plain run ++ event e kept ∷ rest) c) 0 0) (writes arch n (map plain run ++ event e kept ∷ rest) c)
unfolding writes ends starts
standing_first arch e run kept rest n c =
    rw (writes_run arch run (event e kept ∷ rest) n c, ends_run run (event e kept ∷ rest) n c, starts_run run (event e kept ∷ rest) n c, ← is_long_get_d c)
    (record {
      recorded = kept;
      before = run;
      after = writes arch (n + length run + width e (is_long c) (n + length run)) rest (others c);
      is = refl;
      starts_at = refl;
      ends_at = refl;
    })

standing_later : (arch : ℕ) (e f : LayoutEvent) (run kept : List ℕ) (rest : List Item) (n : ℕ) (c : Choice) (i : ℕ)
    → (let m = n + length run + width e (is_long c) (n + length run) in
    Standing arch f (get_or (others c) i false) m (get_or (starts m rest (others c)) i 0) (get_or (ends m rest (others c)) i 0) (writes arch m rest (others c)))
    → Standing arch f (get_or c (suc i) false) n (get_or (starts n (map plain run ++ event e kept ∷ rest) c) (suc i) 0)
    (get_or (ends n (map plain run ++ event e kept ∷ rest) c) (suc i) 0) (writes arch n (map plain run ++ event e kept ∷ rest) c)
unfolding writes ends starts
standing_later arch e f run kept rest n c i s =
    let m = n + length run in
    let wide : m + width e (is_long c) m ≡ m + length (form arch e kept (is_long c) m) = omega (arith, length_form arch e kept (is_long c) m) in
    rw (writes_run arch run (event e kept ∷ rest) n c, ends_run run (event e kept ∷ rest) n c, starts_run run (event e kept ∷ rest) n c, ← others_get_d c i)
    (later arch f (get_or (others c) i false) n m _ _ run _ refl
    (later arch f (get_or (others c) i false) m (m + width e (is_long c) m) _ _ (form arch e kept (is_long c) m) _ wide s))

event_standing : (arch : ℕ) (es : List LayoutEvent) (o n : ℕ) (bytes : List ℕ) (c : Choice) (i : ℕ) → i < length es
    → Standing arch (get_or es i no_event) (get_or c i false) n (get_or (starts n (items o bytes es) c) i 0) (get_or (ends n (items o bytes es) c) i 0)
    (writes arch n (items o bytes es) c)
unfolding items
event_standing arch [] o n bytes c i h = absurd (omega arith)
event_standing arch (e ∷ es) o n bytes c zero h =
    standing_first arch e (take (start_of e - o) bytes) (take (extent_of e) (drop (start_of e - o) bytes)) (items (end_of e) (drop (end_of e - o) bytes) es) n c
event_standing arch (e ∷ es) o n bytes c (suc i) h =
    standing_later arch e (get_or es i no_event) (take (start_of e - o) bytes) (take (extent_of e) (drop (start_of e - o) bytes))
    (items (end_of e) (drop (end_of e - o) bytes) es) n c i
    (event_standing arch es (end_of e) _ (drop (end_of e - o) bytes) (others c) i (omega arith))

-- Each event of a recording stands in its placed code.
pub stands_placed : (p : Pooled) (c : Choice) (i : ℕ) → i < length p.events
    → Standing p.arch (event_of p i) (get_or c i false) 0 (new_start p c i) (get_or (ends 0 (walk p) c) i 0) (placed p c)
stands_placed p c i h = event_standing p.arch p.events 0 0 p.code c i h

drop_front : (xs ys : List ℕ) (n : ℕ) → n ≡ length xs → drop n (xs ++ ys) ≡ ys
drop_front [] ys n e = rw e refl
drop_front (x ∷ xs) ys n e = rw e (drop_front xs ys (length xs) refl)

take_front : (xs ys : List ℕ) (n : ℕ) → n ≡ length xs → take n (xs ++ ys) ≡ xs
take_front [] ys n e = rw e refl
take_front (x ∷ xs) ys n e = rw e (ap (λ (l : List ℕ). x ∷ l) (take_front xs ys (length xs) refl))

-- a part between a beginning and an end
pub part_between : (l before mid after : List ℕ) (a n : ℕ) → l ≡ before ++ (mid ++ after) → a ≡ length before → n ≡ length mid → part l a n ≡ mid
part_between l before mid after a n e f g =
    ap (λ (x : List ℕ). part x a n) e ∙ ap (take n) (drop_front before (mid ++ after) a f) ∙ take_front mid after n g

module _ (arch : ℕ) (e : LayoutEvent) (long : Bool) (start end : ℕ) (l : List ℕ) (s : Standing arch e long 0 start end l) where
  -- its bytes are its form
  pub form_stands : part l start (end - start) ≡ form arch e s.recorded long start
  form_stands =
      part_between l s.before (form arch e s.recorded long start) s.after start (end - start) s.is (omega (arith, s.starts_at))
      (omega (arith, s.ends_at, length_form arch e s.recorded long start))
