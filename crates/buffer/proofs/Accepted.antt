-- What a call that is not turned down was given: every test of its refusals, turned round.
use mathlib.Core.Path.{◌≡◌, sym, ◌∙◌}
use mathlib.Core.Logic.{◌⊎◌, ◌≢◌, inl, inr, ⊎_elim}
use mathlib.Core.Bool.{Bool, true, false, not, ◌&&◌, ◌||◌}
use mathlib.Core.List.{List}
use Prim.Native.Nat.{ℕ, zero, suc, ◌+◌, ◌-◌, ◌/◌, ◌≤◌, ◌<◌}
use native.Mathlib.Nat.{not-suc-le-zero}
use native.Mathlib.Omega.{arith}
use borrow.Author.Tests.{not-false, leb-true, leb-false, ltb-true, ltb-false, lt-ltb, eqb-true, eqb-false}
use lib.Dec.{eqb, leb, ltb}
use lib.ListN.{length}
use Rattle.refusals.specs.Numbers as refusals
use Rattle.seqs.proofs.Booleans.{true_is_not_false, both_true, both_false}
use Rattle.seqs.proofs.Numbers.{lt_or_ge}
use Rattle.seqs.proofs.Picking.{pick_yes, passed, neither, yes_eq, no_lt}
use Rattle.words.specs.Words.{word_at}
use Rattle.encoder.specs.Padding.{padding_within}
use Rattle.fields.specs.Kinds.{decoded, unsupported_code, last_code, arch_x64}
use Rattle.relax.specs.Events.{event_size, no_condition, most_jump, short_len}
use Rattle.buffer.specs.declared.CodeBuffer.{CodeBuffer}
use Rattle.buffer.specs.Refusals.{
  standing,
  namers_fit,
  namers_within,
  is_alignment,
  why_bytes,
  why_label,
  why_bind,
  why_align,
  why_use,
  why_ref,
  why_jump,
  why_constant,
  why_constant_label,
  why_reloc,
  foreign,
  foreign_reloc,
  target_known,
  last_end,
  label_inside,
  jump_malformed,
  jump_unfit,
}
use Rattle.buffer.proofs.Standing.{stands}
use Rattle.buffer.specs.Tables.{most_entries, most_code, last_offset, most_constant, last_reloc, most_open, label_size, use_size, ref_size, reloc_size}
use Rattle.buffer.specs.steps.Count.{NamersFit}
use Rattle.buffer.specs.State.{none, label_target, keeps_events}

pub record BytesAccepted (b : CodeBuffer) (lent n : ℕ) : Type 0 where
  pub room : b.code + n ≤ lent
  pub few : lent ≤ most_code

pub bytes_accepted : {b : CodeBuffer} {lent n : ℕ} → why_bytes b lent n ≡ 0 → BytesAccepted b lent n
unfolding why_bytes
bytes_accepted {b} {lent} {n} h =
    let w = neither (standing b (leb b.code lent) (leb lent most_code)) _ h in
    let s = stands b (leb b.code lent) (leb lent most_code) w.0 in
    let fits = leb-true b.code lent s.fits in
    let rest = ltb-false (lent - b.code) n (passed (ltb (lent - b.code) n) refusals.code_full 0 (λ e. omega arith) w.1).0 in
    record { room = omega arith; few = leb-true lent most_code s.limited }

pub record LabelAccepted (b : CodeBuffer) (room : ℕ) : Type 0 where
  pub fits : b.labels < room
  pub few : room ≤ most_entries

pub label_accepted : {b : CodeBuffer} {room : ℕ} → why_label b room ≡ 0 → LabelAccepted b room
unfolding why_label
label_accepted {b} {room} h =
    let w = neither (standing b (leb b.labels room) (leb room most_entries)) _ h in
    let s = stands b (leb b.labels room) (leb room most_entries) w.0 in
    record { fits = leb-false room b.labels (passed (leb room b.labels) refusals.table_full 0 (λ e. omega arith) w.1).0; few = leb-true room most_entries s.limited }

-- what is lent of the tables whose entries name labels, by their entries
pub record NamersAccepted (b : CodeBuffer) (events uses refs relocs : ℕ) : Type 0 where
  pub events_fit_lem : b.events ≤ events
  pub uses_fit_lem : b.uses ≤ uses
  pub refs_fit_lem : b.refs ≤ refs
  pub relocs_fit_lem : b.relocs ≤ relocs
  pub events_few : events ≤ most_entries
  pub uses_few : uses ≤ most_entries
  pub refs_few : refs ≤ most_entries
  pub relocs_few : relocs ≤ most_entries

namers_accepted : (b : CodeBuffer) (events uses refs relocs : ℕ) → namers_fit b events uses refs relocs ≡ true → namers_within events uses refs relocs ≡ true
    → NamersAccepted b events uses refs relocs
namers_accepted b events uses refs relocs fit within =
    let fits = both_true (leb b.events events) _ fit in
    let used = both_true (leb b.uses uses) _ fits.1 in
    let last = both_true (leb b.refs refs) (leb b.relocs relocs) used.1 in
    let limits = both_true (leb events most_entries) _ within in
    let uses_limit = both_true (leb uses most_entries) _ limits.1 in
    let last-limits = both_true (leb refs most_entries) (leb relocs most_entries) uses_limit.1 in
    record {
      events_fit_lem = leb-true b.events events fits.0;
      uses_fit_lem = leb-true b.uses uses used.0;
      refs_fit_lem = leb-true b.refs refs last.0;
      relocs_fit_lem = leb-true b.relocs relocs last.1;
      events_few = leb-true events most_entries limits.0;
      uses_few = leb-true uses most_entries uses_limit.0;
      refs_few = leb-true refs most_entries last-limits.0;
      relocs_few = leb-true relocs most_entries last-limits.1;
    }

-- the same of the tables
pub namers_fit_lem : {b : CodeBuffer} (events uses refs relocs : List ℕ)
    → NamersAccepted b (length events / event_size) (length uses / use_size) (length refs / ref_size) (length relocs / reloc_size)
    → NamersFit b events uses refs relocs
namers_fit_lem events uses refs relocs n =
    record {
      events_room = omega (arith, n.events_fit_lem);
      uses_room = omega (arith, n.uses_fit_lem);
      refs_room = omega (arith, n.refs_fit_lem);
      relocs_room = omega (arith, n.relocs_fit_lem);
      events_few = omega (arith, n.events_fit_lem, n.events_few);
      uses_few = omega (arith, n.uses_fit_lem, n.uses_few);
      refs_few = omega (arith, n.refs_fit_lem, n.refs_few);
      relocs_few = omega (arith, n.relocs_fit_lem, n.relocs_few);
    }

pub record BindAccepted (b : CodeBuffer) (labels : List ℕ) (events uses refs relocs label : ℕ) : Type 0 where
  pub known : label < b.labels
  pub room : b.labels ≤ length labels / label_size
  pub few : length labels / label_size ≤ most_entries
  pub unbound : word_at labels label ≡ none
  pub namers : NamersAccepted b events uses refs relocs

pub bind_accepted : {b : CodeBuffer} {labels : List ℕ} {events uses refs relocs label : ℕ} → why_bind b labels events uses refs relocs label ≡ 0
    → BindAccepted b labels events uses refs relocs label
unfolding why_bind
bind_accepted {b} {labels} {events} {uses} {refs} {relocs} {label} h =
    let room = length labels / label_size in
    let fit = leb b.labels room && namers_fit b events uses refs relocs in
    let within = leb room most_entries && namers_within events uses refs relocs in
    let w = neither (standing b fit within) _ h in
    let s = stands b fit within w.0 in
    let fits = both_true (leb b.labels room) (namers_fit b events uses refs relocs) s.fits in
    let limits = both_true (leb room most_entries) (namers_within events uses refs relocs) s.limited in
    let one = passed (leb b.labels label) refusals.unknown_number _ (λ e. omega arith) w.1 in
    let two = passed (not (eqb (word_at labels label) none)) refusals.already_bound 0 (λ e. omega arith) one.1 in
    record {
      known = leb-false b.labels label one.0;
      room = leb-true b.labels room fits.0;
      few = leb-true room most_entries limits.0;
      unbound = eqb-true (word_at labels label) none (not-false _ two.0);
      namers = namers_accepted b events uses refs relocs fits.1 limits.1;
    }

-- what is lent of the labels beside a table of entries that name them, and of that table
pub record BesideLabels (b : CodeBuffer) (known room : ℕ) (form : Bool) : Type 0 where
  pub labels : b.labels ≤ known
  pub few : room ≤ most_entries
  pub formed : form ≡ true
  pub few_open : b.unresolved ≤ most_open

beside_labels : (b : CodeBuffer) (known room count : ℕ) (form : Bool)
    → standing b (leb b.labels known && (leb count room && form)) (leb known most_entries && leb room most_entries) ≡ 0 → BesideLabels b known room form
beside_labels b known room count form h =
    let s = stands b (leb b.labels known && (leb count room && form)) (leb known most_entries && leb room most_entries) h in
    let fits = both_true (leb b.labels known) (leb count room && form) s.fits in
    let limits = both_true (leb known most_entries) (leb room most_entries) s.limited in
    record {
      labels = leb-true b.labels known fits.0;
      few = leb-true room most_entries limits.1;
      formed = (both_true (leb count room) form fits.1).1;
      few_open = s.few_open;
    }

pub record UseAccepted (b : CodeBuffer) (lent room label code : ℕ) : Type 0 where
  pub labels : b.labels ≤ lent
  pub few_open : b.unresolved ≤ most_open
  pub fits : b.uses < room
  pub few : room ≤ most_entries
  pub form : code ≤ last_code
  pub patched : code ≢ unsupported_code
  pub native : foreign (decoded code) b.arch ≡ false
  pub known : label < b.labels

pub use_accepted : {b : CodeBuffer} {known room label code : ℕ} → why_use b known room label code ≡ 0 → UseAccepted b known room label code
unfolding why_use
use_accepted {b} {known} {room} {label} {code} h =
    let w = neither (standing b (leb b.labels known && (leb b.uses room && leb code last_code)) (leb known most_entries && leb room most_entries)) _ h in
    let s = beside_labels b known room b.uses (leb code last_code) w.0 in
    let one = passed (eqb code unsupported_code) refusals.unsupported_use _ (λ e. omega arith) w.1 in
    let two = passed (foreign (decoded code) b.arch) refusals.foreign_kind _ (λ e. omega arith) one.1 in
    let three = passed (leb b.labels label) refusals.unknown_number _ (λ e. omega arith) two.1 in
    let four = passed (leb room b.uses) refusals.table_full 0 (λ e. omega arith) three.1 in
    record {
      labels = s.labels;
      few_open = s.few_open;
      fits = leb-false room b.uses four.0;
      few = s.few;
      form = leb-true code last_code s.formed;
      patched = eqb-false code unsupported_code one.0;
      native = two.0;
      known = leb-false b.labels label three.0;
    }

pub record RefAccepted (b : CodeBuffer) (lent room label code : ℕ) : Type 0 where
  pub labels : b.labels ≤ lent
  pub few_open : b.unresolved ≤ most_open
  pub fits : b.refs < room
  pub few : room ≤ most_entries
  pub native : foreign (decoded code) b.arch ≡ false
  pub known : label < b.labels

pub ref_accepted : {b : CodeBuffer} {known room label code : ℕ} → why_ref b known room label code ≡ 0 → keeps_events b.arch ≡ true → RefAccepted b known room label code
unfolding why_ref
ref_accepted {b} {known} {room} {label} {code} h x64 =
    let w = neither (standing b (leb b.labels known && (leb b.refs room && leb code last_code)) (leb known most_entries && leb room most_entries)) _ h in
    let s = beside_labels b known room b.refs (leb code last_code) w.0 in
    let one = passed (foreign (decoded code) b.arch) refusals.foreign_kind _ (λ e. omega arith) (sym (pick_yes (keeps_events b.arch) _ 0 x64) ∙ w.1) in
    let two = passed (leb b.labels label) refusals.unknown_number _ (λ e. omega arith) one.1 in
    let three = passed (leb room b.refs) refusals.table_full 0 (λ e. omega arith) two.1 in
    record {
      labels = s.labels;
      few_open = s.few_open;
      fits = leb-false room b.refs three.0;
      few = s.few;
      native = one.0;
      known = leb-false b.labels label two.0;
    }

pub record RelocAccepted (b : CodeBuffer) (lent room offset kind target : ℕ) : Type 0 where
  pub labels : b.labels ≤ lent
  pub few_open : b.unresolved ≤ most_open
  pub fits : b.relocs < room
  pub few : room ≤ most_entries
  pub near : offset ≤ last_offset
  pub form : kind ≤ last_reloc
  pub native : foreign_reloc kind b.arch ≡ false
  pub known : target_known b target ≡ true

pub reloc_accepted : {b : CodeBuffer} {known room offset kind target : ℕ} → why_reloc b known room offset kind target ≡ 0
    → RelocAccepted b known room offset kind target
unfolding why_reloc
reloc_accepted {b} {known} {room} {offset} {kind} {target} h =
    let w = neither (standing b (leb b.labels known && (leb b.relocs room && leb kind last_reloc)) (leb known most_entries && leb room most_entries)) _ h in
    let s = beside_labels b known room b.relocs (leb kind last_reloc) w.0 in
    let one = passed (foreign_reloc kind b.arch) refusals.foreign_kind _ (λ e. omega arith) w.1 in
    let two = passed (not (target_known b target)) refusals.unknown_number _ (λ e. omega arith) one.1 in
    let three = passed (ltb last_offset offset) refusals.bad_entry _ (λ e. omega arith) two.1 in
    let four = passed (leb room b.relocs) refusals.table_full 0 (λ e. omega arith) three.1 in
    record {
      labels = s.labels;
      few_open = s.few_open;
      fits = leb-false room b.relocs four.0;
      few = s.few;
      near = ltb-false last_offset offset three.0;
      form = leb-true kind last_reloc s.formed;
      native = one.0;
      known = not-false (target_known b target) two.0;
    }

-- a known target that is a label's
pub target_label : (b : CodeBuffer) (target : ℕ) → target_known b target ≡ true → label_target ≤ target → target - label_target < b.labels
unfolding target_known
target_label b target h le = ltb-true (target - label_target) b.labels (sym (no_lt target label_target _ _ le) ∙ h)

pub record ConstantAccepted (b : CodeBuffer) (room n : ℕ) : Type 0 where
  pub fits : b.constants < room
  pub few : room ≤ most_entries
  pub small : n ≤ most_constant

pub constant_accepted : {b : CodeBuffer} {room n : ℕ} → why_constant b room n ≡ 0 → ConstantAccepted b room n
unfolding why_constant
constant_accepted {b} {room} {n} h =
    let w = neither (standing b (leb b.constants room) (leb room most_entries)) _ h in
    let s = stands b (leb b.constants room) (leb room most_entries) w.0 in
    let one = passed (ltb most_constant n) refusals.bad_entry _ (λ e. omega arith) w.1 in
    let two = passed (leb room b.constants) refusals.table_full 0 (λ e. omega arith) one.1 in
    record { fits = leb-false room b.constants two.0; few = leb-true room most_entries s.limited; small = ltb-false most_constant n one.0 }

pub record ConstantLabelAccepted (b : CodeBuffer) (constants asked labels constant : ℕ) : Type 0 where
  pub known : constant < b.constants
  pub room : b.constants ≤ constants
  pub few_asked : asked ≤ most_entries
  pub few : labels ≤ most_entries

pub constant_label_accepted : {b : CodeBuffer} {constants asked labels constant : ℕ} → why_constant_label b constants asked labels constant ≡ 0
    → ConstantLabelAccepted b constants asked labels constant
unfolding why_constant_label
constant_label_accepted {b} {constants} {asked} {labels} {constant} h =
    let fit = leb b.constants constants && (leb b.asked asked && leb b.labels labels) in
    let within = leb constants most_entries && (leb asked most_entries && leb labels most_entries) in
    let w = neither (standing b fit within) _ h in
    let s = stands b fit within w.0 in
    record {
      known = leb-false b.constants constant (passed (leb b.constants constant) refusals.unknown_number 0 (λ e. omega arith) w.1).0;
      room = leb-true b.constants constants (both_true (leb b.constants constants) _ s.fits).0;
      few_asked = leb-true asked most_entries (both_true (leb asked most_entries) (leb labels most_entries) (both_true (leb constants most_entries) _ s.limited).1).0;
      few = leb-true labels most_entries (both_true (leb asked most_entries) (leb labels most_entries) (both_true (leb constants most_entries) _ s.limited).1).1;
    }

pub record AlignAccepted (b : CodeBuffer) (lent room multiple most : ℕ) : Type 0 where
  pub fits : b.code + padding_within b.code multiple most ≤ lent
  pub few : lent ≤ most_code
  pub aligned : is_alignment multiple ≡ true
  pub event : keeps_events b.arch ≡ true → b.events < room
  pub few_events : room ≤ most_entries

pub align_accepted : {b : CodeBuffer} {lent room multiple most : ℕ} → why_align b lent room multiple most ≡ 0 → AlignAccepted b lent room multiple most
unfolding why_align
align_accepted {b} {lent} {room} {multiple} {most} h =
    let fit = leb b.code lent && leb b.events room in
    let within = leb lent most_code && leb room most_entries in
    let pad = padding_within b.code multiple most in
    let w = neither (standing b fit within) _ h in
    let s = stands b fit within w.0 in
    let code = leb-true b.code lent (both_true (leb b.code lent) (leb b.events room) s.fits).0 in
    let one = passed (not (is_alignment multiple)) refusals.bad_alignment _ (λ e. omega arith) w.1 in
    let two = passed (keeps_events b.arch && leb room b.events) refusals.table_full _ (λ e. omega arith) one.1 in
    let three = ltb-false (lent - b.code) pad (passed (ltb (lent - b.code) pad) refusals.code_full 0 (λ e. omega arith) two.1).0 in
    record {
      fits = omega arith;
      few = leb-true lent most_code (both_true (leb lent most_code) (leb room most_entries) s.limited).0;
      aligned = not-false (is_alignment multiple) one.0;
      few_events = leb-true room most_entries (both_true (leb lent most_code) (leb room most_entries) s.limited).1;
      event = λ kept. leb-false room b.events (rw kept at two.0);
    }

-- none of the labels lies strictly inside
beside : (labels : List ℕ) (n start end : ℕ) → label_inside labels n start end ≡ false → (i : ℕ) → i < n → (word_at labels i ≤ start) ⊎ (end ≤ word_at labels i)
unfolding label_inside
beside labels zero start end h i l = absurd (not-suc-le-zero l)
beside labels (suc n) start end h i l =
    let f = both_false (ltb start (word_at labels n) && ltb (word_at labels n) end) (label_inside labels n start end) h in
    ⊎_elim
    (λ lt. beside labels n start end f.1 i lt)
    (λ ge.
    let e : i ≡ n = omega arith in
    let w = word_at labels n in
    ⊎_elim
    (λ above.
    ⊎_elim
    (λ under.
    let yes_inside : (ltb start w && ltb w end) ≡ true = rw (lt-ltb start w above, lt-ltb w end under) in
    absurd (true_is_not_false (sym yes_inside ∙ f.0)))
    (λ past. inr (rw e past))
    (lt_or_ge w end))
    (λ before. inl (rw e before))
    (lt_or_ge start w))
    (lt_or_ge i n)

pub record JumpAccepted (b : CodeBuffer) (labels events : List ℕ) (start len label cc : ℕ) : Type 0 where
  pub labels_fit_lem : b.labels ≤ length labels / label_size
  pub few_open : b.unresolved ≤ most_open
  pub fits : b.events < length events / event_size
  pub few : length events / event_size ≤ most_entries
  pub known : label < b.labels
  pub ends : start + len ≡ b.code
  pub long : short_len ≤ len
  pub short : len ≤ most_jump
  pub form : cc ≤ last_code
  pub follows : last_end events b.events ≤ start
  pub outside : (i : ℕ) → i < b.labels → (word_at labels i ≤ start) ⊎ (start + len ≤ word_at labels i)

pub jump_accepted : {b : CodeBuffer} {labels events : List ℕ} {start len label cc : ℕ} → why_jump b labels events start len label cc ≡ 0 → b.arch ≡ arch_x64
    → JumpAccepted b labels events start len label cc
unfolding why_jump jump_unfit jump_malformed
jump_accepted {b} {labels} {events} {start} {len} {label} {cc} h x64 =
    let room = length events / event_size in
    let fit = leb b.labels (length labels / label_size) && leb b.events room in
    let within = leb (length labels / label_size) most_entries && leb room most_entries in
    let w = neither (standing b fit within) _ h in
    let s = stands b fit within w.0 in
    let one = passed (leb b.labels label) refusals.unknown_number _ (λ e. omega arith) (sym (yes_eq b.arch arch_x64 _ 0 x64) ∙ w.1) in
    let two = passed (jump_unfit b labels events start len cc) refusals.bad_entry _ (λ e. omega arith) one.1 in
    let three = passed (leb room b.events) refusals.table_full 0 (λ e. omega arith) two.1 in
    let unfit = both_false (jump_malformed b.code start len cc || ltb start (last_end events b.events)) _ two.0 in
    let form = both_false (jump_malformed b.code start len cc) _ unfit.0 in
    let c = both_false (not (eqb (start + len) b.code) || ltb len short_len || ltb most_jump len) (ltb no_condition cc) form.0 in
    let m = both_false (not (eqb (start + len) b.code) || ltb len short_len) (ltb most_jump len) c.0 in
    let l = both_false (not (eqb (start + len) b.code)) (ltb len short_len) m.0 in
    record {
      labels_fit_lem = leb-true b.labels (length labels / label_size) (both_true (leb b.labels (length labels / label_size)) (leb b.events room) s.fits).0;
      few_open = s.few_open;
      fits = leb-false room b.events three.0;
      few = leb-true room most_entries (both_true (leb (length labels / label_size) most_entries) (leb room most_entries) s.limited).1;
      known = leb-false b.labels label one.0;
      ends = eqb-true (start + len) b.code (not-false _ l.0);
      long = ltb-false len short_len l.1;
      short = ltb-false most_jump len m.1;
      form = ltb-false no_condition cc c.1;
      follows = ltb-false start (last_end events b.events) form.1;
      outside = beside labels b.labels start (start + len) unfit.1;
    }
