-- Counts are words: every call leaves them below 2^32.
use mathlib.Core.Bool.{Bool}
use mathlib.Core.List.{List, [], ◌∷◌}
use Prim.Native.Nat.{ℕ, ◌-◌, ◌/◌, ◌≤◌, ◌<◌}
use native.Mathlib.Omega.{arith}
use lib.Dec.{eqb, leb}
use lib.ListN.{length}
use borrow.Author.Tests.{leb-false}
use Rattle.seqs.specs.Pick.{pick}
use Rattle.seqs.proofs.Booleans.{both_false}
use Rattle.seqs.proofs.Counting.{one_le}
use Rattle.words.specs.Words.{word_at}
use Rattle.fields.specs.Kinds.{arch_x64}
use Rattle.relax.specs.Events.{event_size}
use Rattle.buffer.specs.declared.CodeBuffer.{CodeBuffer}
use Rattle.buffer.specs.Tables.{label_size, use_size, ref_size, constant_size, asked_size, reloc_size}
use Rattle.buffer.specs.Open.{target_opened}
use Rattle.buffer.specs.State.{Recorded, Made, none, label_target, keeps_events, with_open, with_refusal, with_code, with_labels, with_events, with_uses, with_refs, with_constants, with_asked, with_relocs, refusing}
use Rattle.buffer.specs.Refusals.{standing, why_bytes, why_label, why_align, why_use, why_ref, why_jump, why_constant, why_constant_label, no_room_to_ask, why_reloc}
use Rattle.buffer.specs.Calls.{started, put_bytes, get_label, bind_label, aligned_events, align_to, use_label, record_ref, record_jump, add_constant, asked_first, constant_label, add_reloc}
use Rattle.buffer.proofs.Accepted.{label_accepted, bytes_accepted, align_accepted, use_accepted, ref_accepted, jump_accepted, constant_accepted, constant_label_accepted, reloc_accepted}
use Rattle.recording.specs.Calls.{
  Recording,
  Call,
  bytes,
  new_label,
  bind,
  align,
  use_of_label,
  ref,
  jump,
  constant,
  label_of_constant,
  relocation,
  after,
  after_all,
}
use Rattle.recording.proofs.Steps.{either, tested, whether, unless}

pub record Words (b : CodeBuffer) : Type 0 where
  pub arch : b.arch < 4294967296
  pub symbols : b.symbols < 4294967296
  pub finished : b.finished < 4294967296
  pub refusal : b.refusal < 4294967296
  pub code : b.code < 4294967296
  pub labels : b.labels < 4294967296
  pub events : b.events < 4294967296
  pub uses : b.uses < 4294967296
  pub refs : b.refs < 4294967296
  pub constants : b.constants < 4294967296
  pub asked : b.asked < 4294967296
  pub relocs : b.relocs < 4294967296
  pub unresolved : b.unresolved < 4294967296

-- with one count anew
word_refusal : {b : CodeBuffer} {n : ℕ} → Words b → n < 4294967296 → Words (with_refusal b n)
word_refusal w h = record { arch = w.arch; symbols = w.symbols; finished = w.finished; refusal = h; code = w.code; labels = w.labels; events = w.events; uses = w.uses; refs = w.refs; constants = w.constants; asked = w.asked; relocs = w.relocs; unresolved = w.unresolved }

word_code : {b : CodeBuffer} {n : ℕ} → Words b → n < 4294967296 → Words (with_code b n)
word_code w h = record { arch = w.arch; symbols = w.symbols; finished = w.finished; refusal = w.refusal; code = h; labels = w.labels; events = w.events; uses = w.uses; refs = w.refs; constants = w.constants; asked = w.asked; relocs = w.relocs; unresolved = w.unresolved }

word_labels : {b : CodeBuffer} {n : ℕ} → Words b → n < 4294967296 → Words (with_labels b n)
word_labels w h = record { arch = w.arch; symbols = w.symbols; finished = w.finished; refusal = w.refusal; code = w.code; labels = h; events = w.events; uses = w.uses; refs = w.refs; constants = w.constants; asked = w.asked; relocs = w.relocs; unresolved = w.unresolved }

word_events : {b : CodeBuffer} {n : ℕ} → Words b → n < 4294967296 → Words (with_events b n)
word_events w h = record { arch = w.arch; symbols = w.symbols; finished = w.finished; refusal = w.refusal; code = w.code; labels = w.labels; events = h; uses = w.uses; refs = w.refs; constants = w.constants; asked = w.asked; relocs = w.relocs; unresolved = w.unresolved }

word_uses : {b : CodeBuffer} {n : ℕ} → Words b → n < 4294967296 → Words (with_uses b n)
word_uses w h = record { arch = w.arch; symbols = w.symbols; finished = w.finished; refusal = w.refusal; code = w.code; labels = w.labels; events = w.events; uses = h; refs = w.refs; constants = w.constants; asked = w.asked; relocs = w.relocs; unresolved = w.unresolved }

word_refs : {b : CodeBuffer} {n : ℕ} → Words b → n < 4294967296 → Words (with_refs b n)
word_refs w h = record { arch = w.arch; symbols = w.symbols; finished = w.finished; refusal = w.refusal; code = w.code; labels = w.labels; events = w.events; uses = w.uses; refs = h; constants = w.constants; asked = w.asked; relocs = w.relocs; unresolved = w.unresolved }

word_constants : {b : CodeBuffer} {n : ℕ} → Words b → n < 4294967296 → Words (with_constants b n)
word_constants w h = record { arch = w.arch; symbols = w.symbols; finished = w.finished; refusal = w.refusal; code = w.code; labels = w.labels; events = w.events; uses = w.uses; refs = w.refs; constants = h; asked = w.asked; relocs = w.relocs; unresolved = w.unresolved }

word_asked : {b : CodeBuffer} {n : ℕ} → Words b → n < 4294967296 → Words (with_asked b n)
word_asked w h = record { arch = w.arch; symbols = w.symbols; finished = w.finished; refusal = w.refusal; code = w.code; labels = w.labels; events = w.events; uses = w.uses; refs = w.refs; constants = w.constants; asked = h; relocs = w.relocs; unresolved = w.unresolved }

word_relocs : {b : CodeBuffer} {n : ℕ} → Words b → n < 4294967296 → Words (with_relocs b n)
word_relocs w h = record { arch = w.arch; symbols = w.symbols; finished = w.finished; refusal = w.refusal; code = w.code; labels = w.labels; events = w.events; uses = w.uses; refs = w.refs; constants = w.constants; asked = w.asked; relocs = h; unresolved = w.unresolved }

word_open : {b : CodeBuffer} {n : ℕ} → Words b → n < 4294967296 → Words (with_open b n)
word_open w h = record { arch = w.arch; symbols = w.symbols; finished = w.finished; refusal = w.refusal; code = w.code; labels = w.labels; events = w.events; uses = w.uses; refs = w.refs; constants = w.constants; asked = w.asked; relocs = w.relocs; unresolved = h }

-- whichever number a test chooses
chosen : (t : Bool) (x y : ℕ) → x < 4294967296 → y < 4294967296 → pick t x y < 4294967296
chosen t x y p q = either t (λ (n : ℕ). n < 4294967296) x y p q

stood : (b : CodeBuffer) (fit within : Bool) → Words b → standing b fit within < 4294967296
unfolding standing
stood b fit within w = chosen _ _ _ (omega arith) (chosen _ _ _ w.refusal (chosen _ _ _ (omega arith) (chosen _ _ _ (omega arith) (omega arith))))

-- a refusal is recorded
turned_down : {b : CodeBuffer} {why : ℕ} → Words b → why < 4294967296 → Words (refusing b why)
unfolding refusing
turned_down {b} {why} w small = either _ Words b (with_refusal b why) w (word_refusal w small)

-- an entry opens at most one
target_opened_le : (labels : List ℕ) (target : ℕ) → target_opened labels target ≤ 1
target_opened_le labels target = either _ (λ (n : ℕ). n ≤ 1) 0 _ (omega arith) (one_le (eqb (word_at labels (target - label_target)) none))

-- every refusal of a call is a word
bytes_word : {b : CodeBuffer} (lent n : ℕ) → Words b → why_bytes b lent n < 4294967296
unfolding why_bytes
bytes_word lent n w = chosen _ _ _ (chosen _ _ _ (omega arith) (omega arith)) (stood _ _ _ w)

label_word : {b : CodeBuffer} (room : ℕ) → Words b → why_label b room < 4294967296
unfolding why_label
label_word room w = chosen _ _ _ (chosen _ _ _ (omega arith) (omega arith)) (stood _ _ _ w)

align_word : {b : CodeBuffer} (lent room multiple most : ℕ) → Words b → why_align b lent room multiple most < 4294967296
unfolding why_align
align_word lent room multiple most w = chosen _ _ _ (chosen _ _ _ (omega arith) (chosen _ _ _ (omega arith) (chosen _ _ _ (omega arith) (omega arith)))) (stood _ _ _ w)

use_word : {b : CodeBuffer} (known room label code : ℕ) → Words b → why_use b known room label code < 4294967296
unfolding why_use
use_word known room label code w = chosen _ _ _ (chosen _ _ _ (omega arith) (chosen _ _ _ (omega arith) (chosen _ _ _ (omega arith) (chosen _ _ _ (omega arith) (omega arith))))) (stood _ _ _ w)

ref_word : {b : CodeBuffer} (known room label code : ℕ) → Words b → why_ref b known room label code < 4294967296
unfolding why_ref
ref_word known room label code w = chosen _ _ _ (chosen _ _ _ (chosen _ _ _ (omega arith) (chosen _ _ _ (omega arith) (chosen _ _ _ (omega arith) (omega arith)))) (omega arith)) (stood _ _ _ w)

jump_word : {b : CodeBuffer} (labels events : List ℕ) (start len label cc : ℕ) → Words b → why_jump b labels events start len label cc < 4294967296
unfolding why_jump
jump_word labels events start len label cc w = chosen _ _ _ (chosen _ _ _ (chosen _ _ _ (omega arith) (chosen _ _ _ (omega arith) (chosen _ _ _ (omega arith) (omega arith)))) (omega arith)) (stood _ _ _ w)

constant_word : {b : CodeBuffer} (room n : ℕ) → Words b → why_constant b room n < 4294967296
unfolding why_constant
constant_word room n w = chosen _ _ _ (chosen _ _ _ (omega arith) (chosen _ _ _ (omega arith) (omega arith))) (stood _ _ _ w)

asking_word : {b : CodeBuffer} (constants asked labels number : ℕ) → Words b → why_constant_label b constants asked labels number < 4294967296
unfolding why_constant_label
asking_word constants asked labels number w = chosen _ _ _ (chosen _ _ _ (omega arith) (omega arith)) (stood _ _ _ w)

reloc_word : {b : CodeBuffer} (known room offset kind target : ℕ) → Words b → why_reloc b known room offset kind target < 4294967296
unfolding why_reloc
reloc_word known room offset kind target w = chosen _ _ _ (chosen _ _ _ (omega arith) (chosen _ _ _ (omega arith) (chosen _ _ _ (omega arith) (chosen _ _ _ (omega arith) (omega arith))))) (stood _ _ _ w)

-- the answers of calls that make no number, and of those that do
abbrev Recorded·words : Recorded × List ℕ → Type 0
Recorded·words a = Words a.0.buffer

abbrev Made·words : Made × List ℕ → Type 0
Made·words a = Words a.0.buffer

-- Every call leaves words.
pub call_words : (c : Call) (r : Recording) → Words r.buffer → Words (after c r).buffer
unfolding put_bytes get_label bind_label aligned_events align_to use_label record_ref record_jump add_constant asked_first constant_label add_reloc
call_words (bytes l) r w =
    tested (why_bytes r.buffer (length r.code) (length l)) 0 Recorded·words _ _
    (λ h. let f = bytes_accepted h in word_code w (omega (arith, f.room, f.few)))
    (turned_down w (bytes_word (length r.code) (length l) w))
call_words new_label r w =
    tested (why_label r.buffer (length r.labels / label_size)) 0 Made·words _ _
    (λ h. let f = label_accepted h in word_labels w (omega (arith, f.fits, f.few)))
    (turned_down w (label_word (length r.labels / label_size) w))
call_words (bind l) r w = either _ Recorded·words _ _ (word_open w (omega (arith, w.unresolved))) w
call_words (align m most) r w =
    tested (why_align r.buffer (length r.code) (length r.events / event_size) m.value most.value) 0 (λ (a : Recorded × (List ℕ × List ℕ)). Words a.0.buffer) _ _
    (λ h.
    let f = align_accepted h in
    word_code
    (whether (keeps_events r.buffer.arch) (λ (a : CodeBuffer × List ℕ). Words a.0) _ _
    (λ kept. word_events w (omega (arith, f.event kept, f.few_events)))
    w)
    (omega (arith, f.fits, f.few)))
    (turned_down w (align_word (length r.code) (length r.events / event_size) m.value most.value w))
call_words (use_of_label o l c) r w =
    tested (why_use r.buffer (length r.labels / label_size) (length r.uses / use_size) l.value c.value) 0 Recorded·words _ _
    (λ h. let f = use_accepted h in word_open (word_uses w (omega (arith, f.fits, f.few))) (omega (arith, f.few_open, one_le (eqb (word_at r.labels l.value) none))))
    (turned_down w (use_word (length r.labels / label_size) (length r.uses / use_size) l.value c.value w))
call_words (ref o l c d) r w =
    tested (why_ref r.buffer (length r.labels / label_size) (length r.refs / ref_size) l.value c.value) 0 Recorded·words _ _
    (λ h.
    whether (keeps_events r.buffer.arch) Recorded·words _ _
    (λ kept. let f = ref_accepted h kept in word_open (word_refs w (omega (arith, f.fits, f.few))) (omega (arith, f.few_open, one_le (eqb (word_at r.labels l.value) none))))
    w)
    (turned_down w (ref_word (length r.labels / label_size) (length r.refs / ref_size) l.value c.value w))
call_words (jump p n l c) r w =
    tested (why_jump r.buffer r.labels r.events p.value n.value l.value c.value) 0 Recorded·words _ _
    (λ h.
    tested r.buffer.arch arch_x64 Recorded·words _ _
    (λ x64. let f = jump_accepted h x64 in word_open (word_events w (omega (arith, f.fits, f.few))) (omega (arith, f.few_open, one_le (eqb (word_at r.labels l.value) none))))
    w)
    (turned_down w (jump_word r.labels r.events p.value n.value l.value c.value w))
call_words (constant l) r w =
    tested (why_constant r.buffer (length r.constants / constant_size) (length l)) 0 Made·words _ _
    (λ h. let f = constant_accepted h in word_constants w (omega (arith, f.fits, f.few)))
    (turned_down w (constant_word (length r.constants / constant_size) (length l) w))
call_words (label_of_constant n) r w =
    let asked = length r.asked / asked_size in
    let labels = length r.labels / label_size in
    let P : Made × (List ℕ × (List ℕ × List ℕ)) → Type 0 = λ a. Words a.0.buffer in
    tested (why_constant_label r.buffer (length r.constants / constant_size) asked labels n.value) 0 P _ _
    (λ h.
    let f = constant_label_accepted h in
    either _ P _ _
    (unless (no_room_to_ask r.buffer asked labels) P _ _
    (turned_down w (omega arith))
    (λ room.
    let both = both_false (leb labels r.buffer.labels) (leb asked r.buffer.asked) room in
    word_labels
    (word_asked w (omega (arith, leb-false asked r.buffer.asked both.1, f.few_asked)))
    (omega (arith, leb-false labels r.buffer.labels both.0, f.few))))
    w)
    (turned_down w (asking_word (length r.constants / constant_size) asked labels n.value w))
call_words (relocation o k t d) r w =
    tested (why_reloc r.buffer (length r.labels / label_size) (length r.relocs / reloc_size) o.value k.value t.value) 0 Recorded·words _ _
    (λ h. let f = reloc_accepted h in word_open (word_relocs w (omega (arith, f.fits, f.few))) (omega (arith, f.few_open, target_opened_le r.labels t.value)))
    (turned_down w (reloc_word (length r.labels / label_size) (length r.relocs / reloc_size) o.value k.value t.value w))

pub calls_words : (cs : List Call) (r : Recording) → Words r.buffer → Words (after_all cs r).buffer
calls_words [] r w = w
calls_words (c ∷ cs) r w = calls_words cs (after c r) (call_words c r w)

-- A start leaves words.
pub start_words : {arch symbols : ℕ} → arch < 4294967296 → symbols < 4294967296 → Words (started arch symbols).buffer
unfolding started
start_words a s =
    either _ (λ (b : Recorded). Words b.buffer) _ _
    (record {
      arch = a;
      symbols = s;
      finished = omega arith;
      refusal = omega arith;
      code = omega arith;
      labels = omega arith;
      events = omega arith;
      uses = omega arith;
      refs = omega arith;
      constants = omega arith;
      asked = omega arith;
      relocs = omega arith;
      unresolved = omega arith;
    })
    (record {
      arch = omega arith;
      symbols = omega arith;
      finished = omega arith;
      refusal = omega arith;
      code = omega arith;
      labels = omega arith;
      events = omega arith;
      uses = omega arith;
      refs = omega arith;
      constants = omega arith;
      asked = omega arith;
      relocs = omega arith;
      unresolved = omega arith;
    })
