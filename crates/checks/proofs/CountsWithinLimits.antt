-- What a call that is lent a whole recording, a finish or a sheet, knows of its counts where it is not turned down for them.
use mathlib.Core.Path.{◌≡◌}
use mathlib.Core.Bool.{true, ◌&&◌}
use Prim.Native.Nat.{ℕ, ◌/◌, ◌≤◌}
use native.Mathlib.Omega.{arith}
use borrow.Author.Tests.{leb-true}
use lib.Dec.{leb}
use lib.ListN.{length}
use Rattle.seqs.proofs.Booleans.{both_true}
use Rattle.relax.specs.Events.{event_size}
use Rattle.buffer.specs.Tables.{most_entries, most_code, label_size, use_size, ref_size, constant_size, asked_size, reloc_size}
use Rattle.recording.specs.Calls.{Recording}
use Rattle.buffer.specs.steps.Count.{NamersFit}
use Rattle.checks.specs.Lent.{counts_fit, within_limits}

pub record Counted (r : Recording) (segments output : ℕ) : Type 0 where
  pub code : r.buffer.code ≤ length r.code
  pub labels : r.buffer.labels ≤ length r.labels / label_size
  pub events : r.buffer.events ≤ length r.events / event_size
  pub uses : r.buffer.uses ≤ length r.uses / use_size
  pub refs : r.buffer.refs ≤ length r.refs / ref_size
  pub constants : r.buffer.constants ≤ length r.constants / constant_size
  pub asked : r.buffer.asked ≤ length r.asked / asked_size
  pub relocs : r.buffer.relocs ≤ length r.relocs / reloc_size
  pub code_limit : length r.code ≤ most_code
  pub labels_limit : length r.labels / label_size ≤ most_entries
  pub events_limit : length r.events / event_size ≤ most_entries
  pub uses_limit : length r.uses / use_size ≤ most_entries
  pub refs_limit : length r.refs / ref_size ≤ most_entries
  pub constants_limit : length r.constants / constant_size ≤ most_entries
  pub asked_limit : length r.asked / asked_size ≤ most_entries
  pub relocs_limit : length r.relocs / reloc_size ≤ most_entries
  pub segments_limit : segments ≤ most_entries
  pub output_limit : output ≤ most_code

pub counted : (r : Recording) (segments output : ℕ) → counts_fit r ≡ true → within_limits r segments output ≡ true → Counted r segments output
unfolding counts_fit within_limits
counted r segments output h w =
    let h0 = both_true (leb r.buffer.code (length r.code)) (leb r.buffer.labels (length r.labels / label_size) && (leb r.buffer.events (length r.events / event_size) && (leb r.buffer.uses (length r.uses / use_size) && (leb r.buffer.refs (length r.refs / ref_size) && (leb r.buffer.constants (length r.constants / constant_size) && (leb r.buffer.asked (length r.asked / asked_size) && (leb r.buffer.relocs (length r.relocs / reloc_size)))))))) h in
    let h1 = both_true (leb r.buffer.labels (length r.labels / label_size)) (leb r.buffer.events (length r.events / event_size) && (leb r.buffer.uses (length r.uses / use_size) && (leb r.buffer.refs (length r.refs / ref_size) && (leb r.buffer.constants (length r.constants / constant_size) && (leb r.buffer.asked (length r.asked / asked_size) && (leb r.buffer.relocs (length r.relocs / reloc_size))))))) h0.1 in
    let h2 = both_true (leb r.buffer.events (length r.events / event_size)) (leb r.buffer.uses (length r.uses / use_size) && (leb r.buffer.refs (length r.refs / ref_size) && (leb r.buffer.constants (length r.constants / constant_size) && (leb r.buffer.asked (length r.asked / asked_size) && (leb r.buffer.relocs (length r.relocs / reloc_size)))))) h1.1 in
    let h3 = both_true (leb r.buffer.uses (length r.uses / use_size)) (leb r.buffer.refs (length r.refs / ref_size) && (leb r.buffer.constants (length r.constants / constant_size) && (leb r.buffer.asked (length r.asked / asked_size) && (leb r.buffer.relocs (length r.relocs / reloc_size))))) h2.1 in
    let h4 = both_true (leb r.buffer.refs (length r.refs / ref_size)) (leb r.buffer.constants (length r.constants / constant_size) && (leb r.buffer.asked (length r.asked / asked_size) && (leb r.buffer.relocs (length r.relocs / reloc_size)))) h3.1 in
    let h5 = both_true (leb r.buffer.constants (length r.constants / constant_size)) (leb r.buffer.asked (length r.asked / asked_size) && (leb r.buffer.relocs (length r.relocs / reloc_size))) h4.1 in
    let h6 = both_true (leb r.buffer.asked (length r.asked / asked_size)) (leb r.buffer.relocs (length r.relocs / reloc_size)) h5.1 in
    let w0 = both_true (leb (length r.code) most_code) (leb (length r.labels / label_size) most_entries && (leb (length r.events / event_size) most_entries && (leb (length r.uses / use_size) most_entries && (leb (length r.refs / ref_size) most_entries && (leb (length r.constants / constant_size) most_entries && (leb (length r.asked / asked_size) most_entries && (leb (length r.relocs / reloc_size) most_entries && (leb (segments) most_entries && (leb (output) most_code))))))))) w in
    let w1 = both_true (leb (length r.labels / label_size) most_entries) (leb (length r.events / event_size) most_entries && (leb (length r.uses / use_size) most_entries && (leb (length r.refs / ref_size) most_entries && (leb (length r.constants / constant_size) most_entries && (leb (length r.asked / asked_size) most_entries && (leb (length r.relocs / reloc_size) most_entries && (leb (segments) most_entries && (leb (output) most_code)))))))) w0.1 in
    let w2 = both_true (leb (length r.events / event_size) most_entries) (leb (length r.uses / use_size) most_entries && (leb (length r.refs / ref_size) most_entries && (leb (length r.constants / constant_size) most_entries && (leb (length r.asked / asked_size) most_entries && (leb (length r.relocs / reloc_size) most_entries && (leb (segments) most_entries && (leb (output) most_code))))))) w1.1 in
    let w3 = both_true (leb (length r.uses / use_size) most_entries) (leb (length r.refs / ref_size) most_entries && (leb (length r.constants / constant_size) most_entries && (leb (length r.asked / asked_size) most_entries && (leb (length r.relocs / reloc_size) most_entries && (leb (segments) most_entries && (leb (output) most_code)))))) w2.1 in
    let w4 = both_true (leb (length r.refs / ref_size) most_entries) (leb (length r.constants / constant_size) most_entries && (leb (length r.asked / asked_size) most_entries && (leb (length r.relocs / reloc_size) most_entries && (leb (segments) most_entries && (leb (output) most_code))))) w3.1 in
    let w5 = both_true (leb (length r.constants / constant_size) most_entries) (leb (length r.asked / asked_size) most_entries && (leb (length r.relocs / reloc_size) most_entries && (leb (segments) most_entries && (leb (output) most_code)))) w4.1 in
    let w6 = both_true (leb (length r.asked / asked_size) most_entries) (leb (length r.relocs / reloc_size) most_entries && (leb (segments) most_entries && (leb (output) most_code))) w5.1 in
    let w7 = both_true (leb (length r.relocs / reloc_size) most_entries) (leb (segments) most_entries && (leb (output) most_code)) w6.1 in
    let w8 = both_true (leb (segments) most_entries) (leb (output) most_code) w7.1 in
    record {
      code = leb-true r.buffer.code (length r.code) h0.0;
      labels = leb-true r.buffer.labels (length r.labels / label_size) h1.0;
      events = leb-true r.buffer.events (length r.events / event_size) h2.0;
      uses = leb-true r.buffer.uses (length r.uses / use_size) h3.0;
      refs = leb-true r.buffer.refs (length r.refs / ref_size) h4.0;
      constants = leb-true r.buffer.constants (length r.constants / constant_size) h5.0;
      asked = leb-true r.buffer.asked (length r.asked / asked_size) h6.0;
      relocs = leb-true r.buffer.relocs (length r.relocs / reloc_size) h6.1;
      code_limit = leb-true (length r.code) most_code w0.0;
      labels_limit = leb-true (length r.labels / label_size) most_entries w1.0;
      events_limit = leb-true (length r.events / event_size) most_entries w2.0;
      uses_limit = leb-true (length r.uses / use_size) most_entries w3.0;
      refs_limit = leb-true (length r.refs / ref_size) most_entries w4.0;
      constants_limit = leb-true (length r.constants / constant_size) most_entries w5.0;
      asked_limit = leb-true (length r.asked / asked_size) most_entries w6.0;
      relocs_limit = leb-true (length r.relocs / reloc_size) most_entries w7.0;
      segments_limit = leb-true (segments) most_entries w8.0;
      output_limit = leb-true (output) most_code w8.1;
    }

-- of the tables whose entries name labels
pub counted_namers : {r : Recording} {segments output : ℕ} → Counted r segments output → NamersFit r.buffer r.events r.uses r.refs r.relocs
counted_namers c =
    record {
      events_room = omega (arith, c.events);
      uses_room = omega (arith, c.uses);
      refs_room = omega (arith, c.refs);
      relocs_room = omega (arith, c.relocs);
      events_few = omega (arith, c.events, c.events_limit);
      uses_few = omega (arith, c.uses, c.uses_limit);
      refs_few = omega (arith, c.refs, c.refs_limit);
      relocs_few = omega (arith, c.relocs, c.relocs_limit);
    }
