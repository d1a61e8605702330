-- The recordings whose entries fit are the sound ones, of those whose counts fit.
use mathlib.Core.Path.{◌≡◌, refl}
use mathlib.Core.Bool.{true}
use Rattle.seqs.proofs.Booleans.{both_true}
use Rattle.recording.specs.Calls.{Recording}
use Rattle.recording.specs.Sound.{CodeSound, Sound}
use Rattle.checks.specs.Entries.{events_fit, labels_fit, uses_fit, refs_fit, relocs_fit, constants_fit, order_fits, entries_fit}
use Rattle.checks.specs.steps.Handed.{CountsFit, tables}
use Rattle.checks.proofs.SoundEvents.{events_sound, events_fit_lem}
use Rattle.checks.proofs.SoundTables.{
  labels_sound,
  labels_fit_lem,
  uses_sound,
  uses_fit_lem,
  refs_sound,
  refs_fit_lem,
  relocs_sound,
  relocs_fit_lem,
  constants_sound,
  constants_fit_lem,
  asked_sound,
  order_fits_lem,
}

module _ (r : Recording) where
  -- no entry is judged by the code's bytes
  pub code_unread : entries_fit (tables r.buffer r.labels r.events r.uses r.refs r.constants r.asked r.relocs) ≡ entries_fit r
  unfolding entries_fit
  code_unread = refl

  pub fits_sound : CodeSound r.code r.buffer.code
      → CountsFit r.buffer r.labels r.events r.uses r.refs r.constants r.asked r.relocs
      → entries_fit r ≡ true → Sound r
  unfolding entries_fit
  fits_sound code counts h =
      let b = r.buffer in
      let events = both_true (events_fit b.arch r.events b.events b.labels b.code) _ h in
      let labels = both_true (labels_fit r.labels b.labels r.events b.events b.code) _ events.1 in
      let uses = both_true (uses_fit r.uses b.uses b.arch b.labels) _ labels.1 in
      let refs = both_true (refs_fit r.refs b.refs b.arch b.labels) _ uses.1 in
      let constants = both_true (constants_fit r.constants b.constants b.labels) _ refs.1 in
      let asked = both_true (order_fits r.asked b.asked r.constants b.constants) (relocs_fit b r.relocs) constants.1 in
      record {
        code = code;
        labels = labels_sound r.labels b.labels r.events b.events b.code counts.labels_room counts.labels_limit labels.0;
        events = events_sound b.arch r.events b.events b.labels b.code counts.events_room events.0;
        uses = uses_sound r.uses b.uses b.arch b.labels counts.uses_room uses.0;
        refs = refs_sound r.refs b.refs b.arch b.labels counts.refs_room refs.0;
        constants = constants_sound r.constants b.constants b.labels counts.constants_room counts.constants_limit constants.0;
        asked = asked_sound r.asked b.asked r.constants b.constants counts.asked_room asked.0;
        relocs = relocs_sound b r.relocs counts.relocs_room asked.1;
      }

  pub sound_fits : Sound r → entries_fit r ≡ true
  unfolding entries_fit
  sound_fits s =
      let b = r.buffer in
      rw (
        events_fit_lem b.arch r.events b.events b.labels b.code s.events,
        labels_fit_lem r.labels b.labels r.events b.events b.code s.labels,
        uses_fit_lem r.uses b.uses b.arch b.labels s.uses,
        refs_fit_lem r.refs b.refs b.arch b.labels s.refs,
        constants_fit_lem r.constants b.constants b.labels s.constants,
        order_fits_lem r.asked b.asked r.constants b.constants s.asked,
        relocs_fit_lem b r.relocs s.relocs,
      )
