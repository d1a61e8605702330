-- What a finish knows of a recording once 1 to 4 are past, and once its entries are checked.
use mathlib.Core.Path.{◌≡◌, refl, sym, ◌∙◌}
use mathlib.Core.Logic.{◌≢◌}
use mathlib.Core.Bool.{Bool, true, false, not}
use Prim.Native.Nat.{ℕ, ◌≤◌, ◌<◌}
use native.Mathlib.Omega.{arith}
use borrow.Author.Tests.{not-false, eqb-true, ltb-false}
use lib.Dec.{eqb, ltb}
use lib.ListN.{length}
use Rattle.refusals.specs.Numbers as refusals
use Rattle.refusals.proofs.Chains.{past_first}
use Rattle.seqs.specs.Pick.{pick}
use Rattle.seqs.proofs.Picking.{pick_yes, pick_no, yes_ne, no_ne, yes_not, no_not, yes_lt, no_lt, passed, neither}
use Rattle.buffer.specs.Refusals.{standing}
use Rattle.buffer.proofs.Standing.{stands}
use Rattle.buffer.specs.Tables.{most_entries, most_code}
use Rattle.buffer.specs.steps.Count.{NamersFit, open_count}
use Rattle.recording.specs.Calls.{Recording}
use Rattle.recording.specs.Sound.{CodeSound, Sound}
use Rattle.recording.specs.View.{view}
use Rattle.recording.specs.Open.{open_of}
use Rattle.recording.proofs.Naming.{open_count_lem}
use Rattle.fresh.specs.Pooled.{pooled}
use Rattle.pool.specs.steps.Pool.{pool_start, is_any_bound, PoolFits, PoolLabels}
use Rattle.checks.specs.Entries.{entries_fit}
use Rattle.checks.specs.steps.Handed.{CountsFit, tables}
use Rattle.checks.proofs.Sound.{fits_sound, code_unread}
use Rattle.checks.specs.Lent.{counts_fit, within_limits}
use Rattle.finish.specs.Refusals.{pool_bound_before, why_unfit}
use Rattle.checks.proofs.CountsWithinLimits.{Counted, counted, counted_namers}
use Rattle.finish.proofs.PooledTables.{Tied}
use Rattle.finish.proofs.SoundRecording.{tied, pool_fits, pool_labels, pooled_ends}
use Rattle.finish.proofs.ScansAgree.{pool_bound_lem}

module _ (r : Recording) (segments output : ℕ) (stood : standing r.buffer (counts_fit r) (within_limits r segments output) ≡ 0) where
  pub limits : Counted r segments output
  limits =
      let s = stands r.buffer (counts_fit r) (within_limits r segments output) stood in
      counted r segments output s.fits s.limited

  pub counts : CountsFit r.buffer r.labels r.events r.uses r.refs r.constants r.asked r.relocs
  counts = record {
    labels_room = omega (arith, limits.labels);
    labels_limit = omega (arith, limits.labels, limits.labels_limit);
    events_room = omega (arith, limits.events);
    uses_room = omega (arith, limits.uses);
    refs_room = omega (arith, limits.refs);
    constants_room = omega (arith, limits.constants);
    constants_limit = omega (arith, limits.constants, limits.constants_limit);
    asked_room = omega (arith, limits.asked);
    relocs_room = omega (arith, limits.relocs);
  }

  pub namers : NamersFit r.buffer r.events r.uses r.refs r.relocs
  namers = counted_namers limits

  pub code_fits : CodeSound r.code r.buffer.code
  code_fits = record { room = limits.code; limit = omega (arith, limits.code, limits.code_limit) }

  pub asked_few : r.buffer.asked ≤ most_entries
  asked_few = omega (arith, limits.asked, limits.asked_limit)

  module _ (fit : entries_fit r ≡ true) where
    pub sound : Sound r
    sound = fits_sound r code_fits counts fit

    pub ties : Tied (view r) r.labels r.constants r.asked r.buffer.labels r.buffer.asked
    ties = tied r sound asked_few

    -- 13, as the table says it
    pub bound_before : pool_bound_before (view r) ≡ is_any_bound r.labels r.constants r.asked r.buffer.asked
    bound_before =
        pool_bound_lem (view r) r.labels r.constants r.asked r.buffer.labels r.buffer.constants r.buffer.asked refl refl refl
        (λ j h. (sound.asked.listed j h).0) ties.known

-- the entries are judged by their tables alone
pub entries_read : (r : Recording) (x t : Bool) → x ≡ entries_fit (tables r.buffer r.labels r.events r.uses r.refs r.constants r.asked r.relocs) → x ≡ t
    → entries_fit r ≡ t
entries_read r x t e f = sym (code_unread r) ∙ sym e ∙ f

-- The answers of what finish asks first, question by question; `stood`: 1 to 4 are past.
module _ (r : Recording) (segments output : ℕ) (stood : 0 ≡ standing r.buffer (counts_fit r) (within_limits r segments output)) where
  pub stood_counts : CountsFit r.buffer r.labels r.events r.uses r.refs r.constants r.asked r.relocs
  stood_counts = counts r segments output (sym stood)

  pub stood_namers : NamersFit r.buffer r.events r.uses r.refs r.relocs
  stood_namers = namers r segments output (sym stood)

  module _ {fits : Bool} (fits·answer : fits ≡ entries_fit (tables r.buffer r.labels r.events r.uses r.refs r.constants r.asked r.relocs)) where
    pub unfit_entries : fits ≡ false → refusals.malformed ≡ why_unfit r segments output
    unfolding why_unfit
    unfit_entries e = past_first stood (sym (yes_not (entries_fit r) 1 _ (entries_read r fits false fits·answer e)))

    module _ (holds : fits ≡ true) where
      fit : entries_fit r ≡ true
      fit = entries_read r fits true fits·answer holds

      pub stood_pool : PoolFits r.constants r.asked r.buffer.asked
      stood_pool = pool_fits r (sound r segments output (sym stood) fit) (asked_few r segments output (sym stood))

      pub stood_labels : PoolLabels r.labels r.constants r.asked r.buffer.asked
      stood_labels = pool_labels r (sound r segments output (sym stood) fit) (asked_few r segments output (sym stood))

      pub stood_code : r.buffer.code ≤ most_code
      stood_code = (code_fits r segments output (sym stood)).limit

      module _ {number : ℕ} (open·answer : number ≡ open_count r.buffer r.labels r.events r.uses r.refs r.relocs) where
        -- a number of open entries that is not the count over the tables
        pub unfit_open : number ≢ r.buffer.unresolved → refusals.malformed ≡ why_unfit r segments output
        unfolding why_unfit
        unfit_open ne =
            past_first stood
            (sym (no_not (entries_fit r) 1 _ fit
            ∙ yes_ne r.buffer.unresolved (open_of (view r)) 1 _ (λ e. ne (open·answer ∙ sym (open_count_lem r) ∙ sym e))))

        module _ (right : number ≡ r.buffer.unresolved) {bound : Bool} (bound·answer : bound ≡ is_any_bound r.labels r.constants r.asked r.buffer.asked) where
          opened : r.buffer.unresolved ≡ open_of (view r)
          opened = sym right ∙ open·answer ∙ sym (open_count_lem r)

          before : pool_bound_before (view r) ≡ bound
          before = bound_before r segments output (sym stood) fit ∙ sym bound·answer

          pub unfit_bound : bound ≡ true → refusals.pool_label_bound ≡ why_unfit r segments output
          unfolding why_unfit
          unfit_bound e =
              past_first stood
              (sym (no_not (entries_fit r) 1 _ fit
              ∙ no_ne r.buffer.unresolved (open_of (view r)) 1 _ opened
              ∙ pick_yes (pool_bound_before (view r)) 13 _ (before ∙ e)))

          module _ (free : bound ≡ false) {end : ℕ} (end·answer : end ≡ pool_start r.buffer.code r.constants r.asked r.buffer.asked) where
            ends : end ≡ length (pooled r.buffer.arch (view r)).code
            ends = end·answer ∙ sym (pooled_ends r (sound r segments output (sym stood) fit) (asked_few r segments output (sym stood)))

            past : {k : ℕ} → k ≡ pick (ltb most_code (length (pooled r.buffer.arch (view r)).code)) refusals.pool_too_large 0 → k ≡ why_unfit r segments output
            unfolding why_unfit
            past e =
                past_first stood
                (e ∙ sym (no_not (entries_fit r) 1 _ fit
                ∙ no_ne r.buffer.unresolved (open_of (view r)) 1 _ opened
                ∙ pick_no (pool_bound_before (view r)) 13 _ (before ∙ free)))

            pub unfit_long : most_code < end → refusals.pool_too_large ≡ why_unfit r segments output
            unfit_long h = past (sym (yes_lt most_code _ refusals.pool_too_large 0 (omega (arith, h, ends))))

            pub unfit_none : end ≤ most_code → 0 ≡ why_unfit r segments output
            unfit_none h = past (sym (no_lt most_code _ refusals.pool_too_large 0 (omega (arith, h, ends))))

-- What a recording that passes knows.
pub record Passed (r : Recording) (segments output : ℕ) : Type 0 where
  pub stood : standing r.buffer (counts_fit r) (within_limits r segments output) ≡ 0
  pub fit : entries_fit r ≡ true
  pub right : r.buffer.unresolved ≡ open_of (view r)
  pub free : is_any_bound r.labels r.constants r.asked r.buffer.asked ≡ false
  pub short : pool_start r.buffer.code r.constants r.asked r.buffer.asked ≤ most_code

pub passed_unfit : (r : Recording) (segments output : ℕ) → why_unfit r segments output ≡ 0 → Passed r segments output
unfolding why_unfit
passed_unfit r segments output h =
    let a = neither (standing r.buffer (counts_fit r) (within_limits r segments output)) _ h in
    let b = passed (not (entries_fit r)) refusals.malformed _ (λ e. omega arith) a.1 in
    let fit = not-false (entries_fit r) b.0 in
    let k = passed (not (eqb r.buffer.unresolved (open_of (view r)))) refusals.malformed _ (λ e. omega arith) b.1 in
    let d = passed (pool_bound_before (view r)) refusals.pool_label_bound _ (λ e. omega arith) k.1 in
    let e = passed (ltb most_code (length (pooled r.buffer.arch (view r)).code)) refusals.pool_too_large 0 (λ e. omega arith) d.1 in
    record {
      stood = a.0;
      fit = fit;
      right = eqb-true r.buffer.unresolved (open_of (view r)) (not-false _ k.0);
      free = sym (bound_before r segments output a.0 fit) ∙ d.0;
      short = omega (arith, ltb-false most_code (length (pooled r.buffer.arch (view r)).code) e.0, pooled_ends r (sound r segments output a.0 fit) (asked_few r segments output a.0));
    }

module _ (r : Recording) (segments output : ℕ) (pass : Passed r segments output) where
  pub passed_pool : PoolFits r.constants r.asked r.buffer.asked
  passed_pool = pool_fits r (sound r segments output pass.stood pass.fit) (asked_few r segments output pass.stood)

  pub passed_labels : PoolLabels r.labels r.constants r.asked r.buffer.asked
  passed_labels = pool_labels r (sound r segments output pass.stood pass.fit) (asked_few r segments output pass.stood)

  pub passed_code : r.buffer.code ≤ most_code
  passed_code = (code_fits r segments output pass.stood).limit
