-- A choice, and what a round lengthens, entry by entry.
use mathlib.Core.Path.{◌≡◌, refl, sym, ◌∙◌, ap}
use mathlib.Core.Logic.{⊎_elim}
use mathlib.Core.Bool.{Bool, true, false, not, ◌&&◌, ◌||◌}
use mathlib.Core.List.{List, [], ◌∷◌}
use Prim.Native.Nat.{ℕ, zero, suc, ◌+◌, ◌-◌, ◌≤◌, ◌<◌}
use native.Mathlib.Omega.{arith}
use lib.ListN.{length, get_or, take}
use lib.Dec.{leb}
use borrow.Author.Tests.{leb-true, le-leb, lt-leb}
use Rattle.seqs.proofs.Booleans.{both_true}
use Rattle.seqs.proofs.Numbers.{lt_or_ge}
use Rattle.fields.specs.declared.LabelUse.{LabelUse}
use Rattle.fields.specs.Kinds.{info}
use Rattle.relax.specs.declared.FarBranch.{FarBranch}
use Rattle.relax.specs.declared.LayoutEvent.{LayoutEvent}
use Rattle.relax.specs.declared.LayoutEvent.TheVariants.{Jump, Align, Far}
use Rattle.relax.specs.declared.RelaxableJump.{RelaxableJump}
use Rattle.relax.specs.Events.{short_len, branch_len}
use Rattle.fresh.specs.Forms.{width, Branch, pads, branches, role_of, branch_of, far_branch_of}
use Rattle.fresh.specs.Fresh.{Choice, is_long, others}
use Rattle.fresh.specs.Rounds.{reaches, is_far, first_start, other_starts, far_of, any, join}
use Rattle.fresh.specs.Demand.{Reach, Includes}
use Rattle.fresh.specs.steps.Runs.{behind_of, ahead_of}
use Rattle.fresh.proofs.Tests.{no_confusion, by_role}
use Rattle.fresh.proofs.Forms.{field_either}

-- the first entry of a list, and those after it
pub is_long_get_d : (c : Choice) → is_long c ≡ get_or c 0 false
is_long_get_d [] = refl
is_long_get_d (b ∷ c) = refl

pub others_get_d : (c : Choice) (i : ℕ) → get_or (others c) i false ≡ get_or c (suc i) false
others_get_d [] i = refl
others_get_d (b ∷ c) i = refl

-- a choice that includes another does so event by event
pub is_long_in : (c d : Choice) → Includes c d → is_long c ≡ true → is_long d ≡ true
unfolding Includes
is_long_in c d h e = is_long_get_d d ∙ h 0 (sym (is_long_get_d c) ∙ e)

pub others_in : (c d : Choice) → Includes c d → Includes (others c) (others d)
unfolding Includes
others_in c d h i e = others_get_d d i ∙ h (suc i) (sym (others_get_d c i) ∙ e)

pub first_start_get_d : (starts : List ℕ) → first_start starts ≡ get_or starts 0 0
first_start_get_d [] = refl
first_start_get_d (x ∷ xs) = refl

pub other_starts_get_d : (starts : List ℕ) (i : ℕ) → get_or (other_starts starts) i 0 ≡ get_or starts (suc i) 0
other_starts_get_d [] i = refl
other_starts_get_d (x ∷ xs) i = refl

-- what a round lengthens
pub length_far_of : (at : ℕ → ℕ) (es : List LayoutEvent) (c : Choice) (starts : List ℕ) → length (far_of at es c starts) ≡ length es
unfolding far_of
length_far_of at [] c starts = refl
length_far_of at (e ∷ es) c starts = ap suc (length_far_of at es _ _)

pub far_of_get_d : (at : ℕ → ℕ) (es : List LayoutEvent) (c : Choice) (starts : List ℕ) (i : ℕ) (d : LayoutEvent) → i < length es
    → get_or (far_of at es c starts) i false ≡ is_far at (get_or es i d) (get_or c i false) (get_or starts i 0)
unfolding far_of
far_of_get_d at [] c starts i d h = absurd (omega arith)
far_of_get_d at (e ∷ es) c starts zero d h = cc (is_long_get_d c, first_start_get_d starts)
far_of_get_d at (e ∷ es) c starts (suc i) d h =
    cc (far_of_get_d at es (others c) (other_starts starts) i d (omega arith), others_get_d c i, other_starts_get_d starts i)

pub far_of_out : (at : ℕ → ℕ) (es : List LayoutEvent) (c : Choice) (starts : List ℕ) (i : ℕ) → length es ≤ i → get_or (far_of at es c starts) i false ≡ false
unfolding far_of
far_of_out at [] c starts i h = refl
far_of_out at (e ∷ es) c starts zero h = absurd (omega arith)
far_of_out at (e ∷ es) c starts (suc i) h = far_of_out at es _ _ i (omega arith)

-- nothing is lengthened just where no entry is
pub any_get_d : (f : Choice) (i : ℕ) → any f ≡ false → get_or f i false ≡ false
unfolding any
any_get_d [] i h = refl
any_get_d (true ∷ f) i h = no_confusion (sym h)
any_get_d (false ∷ f) zero h = refl
any_get_d (false ∷ f) (suc i) h = any_get_d f i h

pub any_none : (f : Choice) → ((i : ℕ) → get_or f i false ≡ false) → any f ≡ false
unfolding any
any_none [] h = refl
any_none (true ∷ f) h = h 0
any_none (false ∷ f) h = any_none f (λ i. h (suc i))

or_assoc : (a b c : Bool) → (a || (b || c)) ≡ ((a || b) || c)
or_assoc true b c = refl
or_assoc false b c = refl

or-false : (a : Bool) → (a || false) ≡ a
or-false true = refl
or-false false = refl

pub any_suc : (f : Choice) (i : ℕ) → i < length f → any (take (suc i) f) ≡ (any (take i f) || get_or f i false)
unfolding any
any_suc [] i h = absurd (omega arith)
any_suc (x ∷ f) zero h = or-false x
any_suc (x ∷ f) (suc i) h = ap (λ b. x || b) (any_suc f i (omega arith)) ∙ or_assoc x _ _

-- the choice that a round makes
pub length_join : (c f : Choice) → length (join c f) ≡ length f
unfolding join
length_join c [] = refl
length_join c (x ∷ f) = ap suc (length_join (others c) f)

pub join_get_d : (c f : Choice) (i : ℕ) → i < length f → get_or (join c f) i false ≡ (get_or c i false || get_or f i false)
unfolding join
join_get_d c [] i h = absurd (omega arith)
join_get_d c (x ∷ f) zero h = ap (λ b. b || x) (is_long_get_d c)
join_get_d c (x ∷ f) (suc i) h = join_get_d (others c) f i (omega arith) ∙ ap (λ b. b || get_or f i false) (others_get_d c i)

-- the test of reach says what it tests
pub reach : (b : Branch) (start label : ℕ) → reaches b start label ≡ true → Reach b start label
unfolding reaches
reach b start label h = let p = both_true _ _ h in record { back = leb-true _ _ p.0; ahead = leb-true _ _ p.1 }

pub reaches_of : (b : Branch) (start label : ℕ) → Reach b start label → reaches b start label ≡ true
unfolding reaches
reaches_of b start label q = rw (le-leb _ _ q.back, le-leb _ _ q.ahead)

-- of a jump
pub jump_reaches : (j : RelaxableJump) (start label : ℕ)
    → reaches (branch_of j) start label ≡ (leb (start + short_len) (label + 128) && leb label (start + short_len + 127))
unfolding reaches
jump_reaches j start label = let end : start + 1 + 1 ≡ start + 2 = omega arith in rw end refl

-- of a far branch: both tests move by the length of its word
moved_leb : (a b a' b' : ℕ) → (a ≤ b → a' ≤ b') → (a' ≤ b' → a ≤ b) → leb a b ≡ leb a' b'
moved_leb a b a' b' to from =
    ⊎_elim
    (λ lt. lt-leb a b lt ∙ sym (⊎_elim (λ lt'. lt-leb a' b' lt') (λ ge'. absurd (omega (arith, from ge'))) (lt_or_ge b' a')))
    (λ ge. le-leb a b ge ∙ sym (le-leb a' b' (to ge)))
    (lt_or_ge b a)

window_moves : (start label low high : ℕ) → branch_len ≤ high
    → (leb (start + 0 + 0) (label + low) && leb label (start + 0 + 0 + high)) ≡ (leb (start + 4) (label + (low + 4)) && leb label (start + 4 + (high - 4)))
window_moves start label low high h =
    rw (
      moved_leb (start + 0 + 0) (label + low) (start + 4) (label + (low + 4)) (λ le. omega arith) (λ le. omega arith),
      moved_leb label (start + 0 + 0 + high) label (start + 4 + (high - 4)) (λ le. omega arith) (λ le. omega arith),
    )

far_reaches : (f : FarBranch) (start label : ℕ)
    → reaches (far_branch_of f) start label ≡ (leb (start + branch_len) (label + behind_of (Far f)) && leb label (start + branch_len + ahead_of (Far f)))
unfolding reaches
far_reaches f start label =
    field_either
    (λ (k : LabelUse).
    (leb (start + 0 + (info k).from) (label + (info k).low) && leb label (start + 0 + (info k).from + (info k).high))
    ≡ (leb (start + branch_len) (label + ((info k).low + branch_len)) && leb label (start + branch_len + ((info k).high - branch_len))))
    (window_moves start label 32768 32764 (omega arith))
    (window_moves start label 1048576 1048572 (omega arith))
    f.code

-- of a branch, from the end of its short form
pub short_reaches : (e : LayoutEvent) (b : Branch) → role_of e ≡ branches b → (start label : ℕ)
    → reaches b start label ≡ (leb (start + width e false start) (label + behind_of e) && leb label (start + width e false start + ahead_of e))
unfolding role_of width
short_reaches (Jump j) b r start label = let is : branch_of j ≡ b = cc in rw (← is) (jump_reaches j start label)
short_reaches (Align a) b r start label = let z : ◌≡◌ {A = ℕ} 0 1 = cc in absurd (omega arith)
short_reaches (Far f) b r start label = let is : far_branch_of f ≡ b = cc in rw (← is) (far_reaches f start label)

-- what pads is never far, and a branch is not where it reaches, or is long
pub pads_near : (at : ℕ → ℕ) (e : LayoutEvent) (long : Bool) (start : ℕ) → role_of e ≡ pads → is_far at e long start ≡ false
unfolding is_far
pads_near at e long start r = rw (r, is_far)

pub branch_far : (at : ℕ → ℕ) (e : LayoutEvent) (b : Branch) (long : Bool) (start : ℕ) → role_of e ≡ branches b
    → is_far at e long start ≡ (not long && not (reaches b start (at b.label)))
unfolding is_far
branch_far at e b long start r = rw (r, is_far)

pub reach_near : (at : ℕ → ℕ) (e : LayoutEvent) (b : Branch) (long : Bool) (start : ℕ) → role_of e ≡ branches b → Reach b start (at b.label)
    → is_far at e long start ≡ false
reach_near at e b long start r q = branch_far at e b long start r ∙ rw (reaches_of b start (at b.label) q) (and_false (not long))
  where
    and_false : (t : Bool) → (t && false) ≡ false
    and_false true = refl
    and_false false = refl

pub long_near : (at : ℕ → ℕ) (e : LayoutEvent) (start : ℕ) → is_far at e true start ≡ false
long_near at e start = by_role e (λ r. pads_near at e true start r) (λ b r. branch_far at e b true start r)
