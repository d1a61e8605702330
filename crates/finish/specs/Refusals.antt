-- Why a finish is turned down: document 01's list, in the order in which finish asks. 1 (counts), the recorded refusal, 3, 4; 1 (entries; document 02,
-- Request Five: a wrong number of open ones), 13, 14, 15; with a jump 16, 17, the rounds, 18, 23; without one 19 to 22, 23.
use Rattle.std.specs.Prelude.{Bool, true, not, ◌&&◌, ◌||◌, List, [], ◌∷◌, ℕ, ◌+◌, ◌-◌, eqb, leb, ltb, length, get_or}
use Rattle.refusals.specs.Numbers as refusals
use Rattle.seqs.specs.Every.{every}
use Rattle.seqs.specs.Pick.{pick, first, or_else}
use Rattle.fields.specs.Words64.{plus, minus, sign_extend}
use Rattle.fields.specs.Kinds.{Decoded, Use, Unsupported, Unknown, decoded}
use Rattle.fields.specs.Reach.{can_reach_delta}
use Rattle.relax.specs.declared.LayoutEvent.{LayoutEvent}
use Rattle.relax.specs.Events.{end_of, start_of}
use Rattle.buffer.specs.State.{none, label_target}
use Rattle.buffer.specs.Refusals.{standing}
use Rattle.buffer.specs.Tables.{most_code}
use Rattle.recording.specs.Calls.{Recording}
use Rattle.recording.specs.View as tables
use Rattle.recording.specs.Open.{open_of}
use Rattle.fresh.specs.Pooled.{Pooled, pooled}
use Rattle.fresh.specs.Fresh.{Choice, moved, target}
use Rattle.fresh.specs.Rounds.{settled}
use Rattle.fresh.specs.Fill.{assembled}
use Rattle.fresh.specs.Forms.{Role, pads, branches, role_of}
use Rattle.checks.specs.Lent.{counts_fit, within_limits}
use Rattle.checks.specs.Entries.{entries_fit}
use Rattle.fields.specs.Kinds.{size_of}
use Rattle.fields.specs.Reach.{reach_of}

abbrev pub is_bound : List ℕ → ℕ → Bool
is_bound labels label = not (eqb (get_or labels label none) none)

-- 13: "a pooled constant's label bound by the caller"
unfoldable pub pool_bound_before : tables.View → Bool
pool_bound_before v =
    not (every (λ (n : ℕ). not (is_bound v.labels (get_or v.constants n (record { bytes = []; label = none })).label)) v.asked)

-- 15: "a use, label relocation, ref or jump names an unbound label": none does
abbrev pub bound_by : List ℕ → Role → Bool
bound_by labels pads = true
bound_by labels (branches b) = is_bound labels b.label

abbrev pub jump_bound : List ℕ → LayoutEvent → Bool
jump_bound labels e = bound_by labels (role_of e)

unfoldable pub reloc_bound : List ℕ → tables.Relocation → Bool
reloc_bound labels l = ltb l.target label_target || is_bound labels (l.target - label_target)

unfoldable pub all_bound : Pooled → List tables.Relocation → Bool
all_bound p relocs =
    every (λ (u : tables.Use). is_bound p.labels u.label) p.uses
    && (every (reloc_bound p.labels) relocs
    && (every (λ (f : tables.Ref). is_bound p.labels f.label) p.refs && every (jump_bound p.labels) p.events))

-- 17: "a ref's field passes the pooled code's end, or it starts before an event's end and ends after that event's start": it does not
unfoldable pub ref_clear : Pooled → tables.Ref → Bool
ref_clear p f =
    let end = f.offset + size_of (decoded f.code) in
    leb end (length p.code) && every (λ (e : LayoutEvent). leb (end_of e) f.offset || leb end (start_of e)) p.events

-- 18: "a ref can't reach its label plus addend": it can, where the choice places it
abbrev pub reaches_by : Decoded → ℕ → Bool
reaches_by (Use k) distance = can_reach_delta k distance
reaches_by Unsupported distance = true
reaches_by Unknown distance = true

unfoldable pub ref_reaches : Pooled → Choice → tables.Ref → Bool
ref_reaches p c f = reaches_by (decoded f.code) (minus (plus (target p c f.label) (sign_extend 32 f.addend)) (moved p c f.offset))

-- with a jump, on a table of `segments` entries and an output of `output` bytes; 23: "the finished code exceeds the lent output"
unfoldable pub why_not_laid : Pooled → ℕ → ℕ
why_not_laid p segments = first ((ltb segments (length p.events), refusals.too_few_segments) ∷ (not (every (ref_clear p) p.refs), refusals.ref_overlaps) ∷ [])

unfoldable pub why_not_written : Pooled → ℕ → ℕ
why_not_written p output =
    let c = (settled p).choice in
    first ((not (every (ref_reaches p c) p.refs), refusals.ref_out_of_reach) ∷ (ltb output (length (assembled p c)), refusals.output_too_small) ∷ [])

-- 19 to 22, "tried together for each use in order"
unfoldable pub use_refusal : Pooled → tables.Use → ℕ
use_refusal p u =
    let kind = decoded u.code in
    pick (ltb (length p.code) (u.offset + size_of kind)) refusals.use_past_end (reach_of kind u.offset (get_or p.labels u.label none))

unfoldable pub uses_refusal : Pooled → List tables.Use → ℕ
uses_refusal p [] = 0
uses_refusal p (u ∷ us) = or_else (use_refusal p u) (uses_refusal p us)

-- without a jump
unfoldable pub why_not_in_place : Pooled → ℕ → ℕ
why_not_in_place p output = or_else (uses_refusal p p.uses) (first ((ltb output (length p.code), refusals.output_too_small) ∷ []))

-- what finish asks before it looks whether a jump stands. 1, too: "any other wrong number handed in, after a recorded refusal, 3 and 4".
unfoldable pub why_unfit : Recording → ℕ → ℕ → ℕ
why_unfit r segments output =
    let v = tables.view r in
    let p = pooled r.buffer.arch v in
    or_else (standing r.buffer (counts_fit r) (within_limits r segments output))
    (first (
    (not (entries_fit r), refusals.malformed)
    ∷ (not (eqb r.buffer.unresolved (open_of v)), refusals.malformed)
    ∷ (pool_bound_before v, refusals.pool_label_bound)
    ∷ (ltb most_code (length p.code), refusals.pool_too_large)
    ∷ []
    ))
