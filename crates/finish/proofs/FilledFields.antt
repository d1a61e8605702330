-- What the program fills entry by entry is what the definitions fill list by list.
use mathlib.Core.Path.{◌≡◌, refl, sym, ap, ◌∙◌}
use mathlib.Core.Bool.{Bool, false}
use mathlib.Core.List.{List, [], ◌∷◌, ◌++◌, append_assoc, append-nil}
use Prim.Native.Nat.{ℕ, zero, suc, ◌+◌, ◌*◌, ◌<◌}
use native.Mathlib.Omega.{arith}
use lib.ListN.{length, get_or, take}
use Rattle.seqs.specs.Over.{over}
use Rattle.words.specs.Words.{word_at}
use Rattle.fields.specs.Kinds.{decoded}
use Rattle.relax.specs.declared.LayoutEvent.{LayoutEvent}
use Rattle.relax.specs.Events.{event_at}
use Rattle.relax.specs.declared.Segment.{Segment}
use Rattle.buffer.specs.State.{none}
use Rattle.buffer.specs.Tables.{use_words, ref_words}
use Rattle.recording.specs.View as tables
use Rattle.recording.proofs.Views.{length_entries}
use Rattle.fresh.specs.Pooled.{Placed}
use Rattle.fresh.specs.Fresh.{Choice, others}
use Rattle.fresh.specs.Rounds.{other_starts}
use Rattle.fresh.specs.Segments.{map_offset}
use Rattle.fresh.specs.Fill.{fill_field, fill_refs, fill_jump, fill_jumps, fill_pool, fill_use, fill_uses}
use Rattle.fresh.proofs.Choices.{is_long_get_d, others_get_d, first_start_get_d, other_starts_get_d}
use Rattle.fresh.specs.Forms.{Branch, branches, role_of}
use Rattle.fresh.proofs.Fill.{fill_jump_pads, fill_jump_branch}
use Rattle.fresh.proofs.Tests.{by_role}
use Rattle.pool.specs.steps.Pool.{label_at, pool_offset, pool_event, pool_written}
use Rattle.emit.specs.steps.Emit.{uses_filled, refs_filled, jumps_filled, start_at}
use Rattle.finish.specs.steps.Tables.{pool_placed}

fill_refs_more : (at : ℕ → ℕ) (labels : List ℕ) (rs : List tables.Ref) (f : tables.Ref) (l : List ℕ)
    → fill_refs at labels (rs ++ (f ∷ [])) l
    ≡ fill_field (decoded f.code) (at f.offset) (at (get_or labels f.label none)) f.addend (fill_refs at labels rs l)
unfolding fill_refs
fill_refs_more at labels [] f l = refl
fill_refs_more at labels (r ∷ rs) f l = fill_refs_more at labels rs f _

-- the refs, where the table of labels holds new offsets
pub refs_filled_lem : (output refs labels recorded : List ℕ) (ss : List Segment) (made : List Segment) (n count : ℕ) → take n ss ≡ made
    → ((i : ℕ) → i < count → word_at labels (word_at refs (i * ref_words + 1)) ≡ map_offset made (get_or recorded (word_at refs (i * ref_words + 1)) none))
    → refs_filled output refs labels ss n count ≡ fill_refs (map_offset made) recorded (tables.entries (tables.ref_at refs) count) output
unfolding refs_filled fill_refs
refs_filled_lem output refs labels recorded ss made n zero t known = refl
refs_filled_lem output refs labels recorded ss made n (suc i) t known =
    rw (refs_filled_lem output refs labels recorded ss made n i t (λ j h. known j (omega arith)), known i (omega arith), t)
    (sym (fill_refs_more (map_offset made) recorded (tables.entries (tables.ref_at refs) i) (tables.ref_at refs i) output))

fill_uses_more : (labels : List ℕ) (us : List tables.Use) (u : tables.Use) (l : List ℕ)
    → fill_uses labels (us ++ (u ∷ [])) l ≡ fill_use (decoded u.code) u.offset (get_or labels u.label none) (fill_uses labels us l)
unfolding fill_uses
fill_uses_more labels [] u l = refl
fill_uses_more labels (x ∷ us) u l = fill_uses_more labels us u _

-- the uses
pub uses_filled_lem : (output uses labels recorded : List ℕ) (count : ℕ)
    → ((i : ℕ) → i < count → word_at labels (word_at uses (i * use_words + 1)) ≡ get_or recorded (word_at uses (i * use_words + 1)) none)
    → uses_filled output uses labels count ≡ fill_uses recorded (tables.entries (tables.use_at uses) count) output
unfolding uses_filled fill_uses
uses_filled_lem output uses labels recorded zero known = refl
uses_filled_lem output uses labels recorded (suc i) known =
    rw (uses_filled_lem output uses labels recorded i (λ j h. known j (omega arith)), known i (omega arith))
    (sym (fill_uses_more recorded (tables.entries (tables.use_at uses) i) (tables.use_at uses i) output))

fill_pool_more : (at : ℕ → ℕ) (ks : List Placed) (k : Placed) (l : List ℕ)
    → fill_pool at (ks ++ (k ∷ [])) l ≡ over (fill_pool at ks l) (at k.offset) k.bytes
unfolding fill_pool
fill_pool_more at [] k l = refl
fill_pool_more at (x ∷ ks) k l = fill_pool_more at ks k _

-- the constants, where the table of labels holds new offsets
pub pool_filled : (output labels constants asked : List ℕ) (at : ℕ → ℕ) (from n : ℕ)
    → ((j : ℕ) → j < n → word_at labels (label_at constants asked j) ≡ at (pool_offset from constants asked j))
    → pool_written output labels constants asked n ≡ fill_pool at (tables.entries (pool_placed from constants asked) n) output
unfolding pool_written fill_pool
pool_filled output labels constants asked at from zero known = refl
pool_filled output labels constants asked at from (suc n) known =
    rw (pool_filled output labels constants asked at from n (λ j h. known j (omega arith)), known n (omega arith))
    (sym (fill_pool_more at (tables.entries (pool_placed from constants asked) n) (pool_placed from constants asked n) output))

fill_jumps_append : (at : ℕ → ℕ) (es : List LayoutEvent) (e : LayoutEvent) (c : Choice) (starts l : List ℕ)
    → fill_jumps at (es ++ (e ∷ [])) c starts l ≡ fill_jump at e (get_or c (length es) false) (get_or starts (length es) 0) (fill_jumps at es c starts l)
unfolding fill_jumps
fill_jumps_append at [] e c starts l = rw (is_long_get_d c, first_start_get_d starts)
fill_jumps_append at (x ∷ es) e c starts l =
    fill_jumps_append at es e (others c) (other_starts starts) _ ∙ rw (others_get_d c (length es), other_starts_get_d starts (length es))

-- the alignments after them fill nothing
pool_fills_nothing : (at : ℕ → ℕ) (es : List LayoutEvent) (c : Choice) (starts l : List ℕ) (from : ℕ) (constants asked : List ℕ) (m : ℕ)
    → fill_jumps at (es ++ tables.entries (pool_event from constants asked) m) c starts l ≡ fill_jumps at es c starts l
unfolding role_of
pool_fills_nothing at es c starts l from constants asked zero = rw (append-nil es)
pool_fills_nothing at es c starts l from constants asked (suc m) =
    let pool = tables.entries (pool_event from constants asked) m in
    ap (λ (xs : List LayoutEvent). fill_jumps at xs c starts l) (sym (append_assoc es pool (pool_event from constants asked m ∷ [])))
    ∙ fill_jumps_append at (es ++ pool) (pool_event from constants asked m) c starts l
    ∙ fill_jump_pads at (pool_event from constants asked m) _ _ _ refl
    ∙ pool_fills_nothing at es c starts l from constants asked m

-- one event, by labels that are known alike
jump_filled : (at named : ℕ → ℕ) (e : LayoutEvent) (long : Bool) (start : ℕ) (l : List ℕ)
    → ((b : Branch) → role_of e ≡ branches b → at b.label ≡ named b.label) → fill_jump at e long start l ≡ fill_jump named e long start l
jump_filled at named e long start l known = by_role e
    (λ r. fill_jump_pads at e long start l r ∙ sym (fill_jump_pads named e long start l r))
    (λ b r. fill_jump_branch at e b long start l r ∙ (rw (known b r) refl ∙ sym (fill_jump_branch named e b long start l r)))

-- the jumps of the table, where the table of labels holds new offsets
table_filled : (output events labels : List ℕ) (c : Choice) (ss : List Segment) (named : ℕ → ℕ) (starts : List ℕ) (n : ℕ)
    → ((i : ℕ) → i < n → start_at ss i ≡ get_or starts i 0)
    → ((i : ℕ) (b : Branch) → i < n → role_of (event_at events i) ≡ branches b → word_at labels b.label ≡ named b.label)
    → jumps_filled output events labels c ss n ≡ fill_jumps named (tables.entries (event_at events) n) c starts output
unfolding jumps_filled fill_jumps
table_filled output events labels c ss named starts zero same known = refl
table_filled output events labels c ss named starts (suc n) same known =
    rw (table_filled output events labels c ss named starts n (λ i h. same i (omega arith)) (λ i b h. known i b (omega arith)), same n (omega arith))
    (jump_filled (word_at labels) named (event_at events n) (get_or c n false) (get_or starts n 0) _ (λ b r. known n b (omega arith) r)
    ∙ sym (fill_jumps_append named (tables.entries (event_at events) n) (event_at events n) c starts output ∙ rw (length_entries (event_at events) n)))

pub jumps_filled_lem : (output events labels constants asked : List ℕ) (c : Choice) (ss : List Segment) (named : ℕ → ℕ) (starts : List ℕ) (n from m : ℕ)
    → ((i : ℕ) → i < n → start_at ss i ≡ get_or starts i 0)
    → ((i : ℕ) (b : Branch) → i < n → role_of (event_at events i) ≡ branches b → word_at labels b.label ≡ named b.label)
    → jumps_filled output events labels c ss n
    ≡ fill_jumps named (tables.entries (event_at events) n ++ tables.entries (pool_event from constants asked) m) c starts output
jumps_filled_lem output events labels constants asked c ss named starts n from m same known =
    table_filled output events labels c ss named starts n same known
    ∙ sym (pool_fills_nothing named (tables.entries (event_at events) n) c starts output from constants asked m)
