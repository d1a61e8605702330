-- What each recording call answers and leaves in what it was lent: document 01, "recording"; document 02, Requests Five and Seven. A call that is turned
-- down changes nothing lent.
use Rattle.std.specs.Prelude.{cond, List, ℕ, ◌+◌, ◌-◌, ◌*◌, ◌/◌, ◌%◌, eqb, length, replicate}
use Rattle.refusals.specs.Numbers as refusals
use Rattle.seqs.specs.Over.{over}
use Rattle.seqs.specs.Pick.{pick}
use Rattle.words.specs.Words.{word_at, set_word}
use Rattle.encoder.specs.Nops.{nops}
use Rattle.encoder.specs.Padding.{padding_within}
use Rattle.fields.specs.Kinds.{arch_x64}
use Rattle.relax.specs.Events.{set_event, event_size, jump_kind, alignment_kind}
use Rattle.buffer.specs.declared.CodeBuffer.{CodeBuffer}
use Rattle.buffer.specs.State.{
  Recorded,
  Made,
  none,
  keeps_events,
  zero_padded,
  with_code,
  with_labels,
  with_events,
  with_uses,
  with_refs,
  with_constants,
  with_asked,
  with_relocs,
  with_open,
  turned_down,
  accepted,
  none_made,
  made,
}
use Rattle.buffer.specs.Refusals.{
  why_start,
  why_bytes,
  why_label,
  why_bind,
  why_align,
  why_use,
  why_ref,
  why_jump,
  why_constant,
  why_constant_label,
  no_room_to_ask,
  why_reloc,
}
use Rattle.buffer.specs.Open.{opened, target_opened, settled}
use Rattle.buffer.specs.Tables.{label_size, use_words, use_size, ref_words, ref_size, constant_words, constant_size, constant_head, asked_size, reloc_words, reloc_size}

-- a new recording; a refused start gives a record of zeros
unfoldable pub started : ℕ → ℕ → Recorded
started arch symbols =
    pick (eqb (why_start arch) 0)
    (accepted record {
      arch = arch;
      symbols = symbols;
      finished = 0;
      refusal = 0;
      code = 0;
      labels = 0;
      events = 0;
      uses = 0;
      refs = 0;
      constants = 0;
      asked = 0;
      relocs = 0;
      unresolved = 0;
    })
    (record {
      buffer = record {
        arch = 0;
        symbols = 0;
        finished = 0;
        refusal = 0;
        code = 0;
        labels = 0;
        events = 0;
        uses = 0;
        refs = 0;
        constants = 0;
        asked = 0;
        relocs = 0;
        unresolved = 0;
      };
      refusal = why_start arch;
    })

-- "Bytes append."
unfoldable pub put_bytes : CodeBuffer → List ℕ → List ℕ → Recorded × List ℕ
put_bytes b code bytes =
    let why = why_bytes b (length code) (length bytes) in
    pick (eqb why 0) (accepted (with_code b (b.code + length bytes)), over code b.code bytes) (turned_down b why, code)

-- a label that is not bound yet
unfoldable pub get_label : CodeBuffer → List ℕ → Made × List ℕ
get_label b labels =
    let why = why_label b (length labels / label_size) in
    pick (eqb why 0) (made (with_labels b (b.labels + 1)) b.labels, set_word labels b.labels none) (none_made b why, labels)

-- the label stands at the current offset, and the entries that name it are open no more; a refusal is not recorded
unfoldable pub bind_label : CodeBuffer → List ℕ → List ℕ → List ℕ → List ℕ → List ℕ → ℕ → Recorded × List ℕ
bind_label b labels events uses refs relocs label =
    let why = why_bind b labels (length events / event_size) (length uses / use_size) (length refs / ref_size) (length relocs / reloc_size) label in
    pick (eqb why 0)
    (accepted (with_open b (b.unresolved - settled b events uses refs relocs label)), set_word labels label b.code)
    (record { buffer = b; refusal = why }, labels)

-- "x86 pads with NOPs, AArch64 with zeros."
abbrev pub padding : ℕ → ℕ → List ℕ
padding arch n = cond (zero_padded arch) (replicate n 0) (nops n)

-- "On X64 each alignment records an event, length 0 too." The event carries the most bytes that the alignment may spend.
unfoldable pub aligned_events : CodeBuffer → List ℕ → ℕ → ℕ → CodeBuffer × List ℕ
aligned_events b events multiple most =
    pick (keeps_events b.arch)
    (with_events b (b.events + 1), set_event events b.events alignment_kind b.code (padding_within b.code multiple most) multiple most)
    (b, events)

unfoldable pub align_to : CodeBuffer → List ℕ → List ℕ → ℕ → ℕ → Recorded × (List ℕ × List ℕ)
align_to b code events multiple most =
    let why = why_align b (length code) (length events / event_size) multiple most in
    let n = padding_within b.code multiple most in
    let recorded = aligned_events b events multiple most in
    pick (eqb why 0)
    (accepted (with_code recorded.0 (b.code + n)), (over code b.code (padding b.arch n), recorded.1))
    (turned_down b why, (code, events))

-- it is open where its label is not bound
unfoldable pub use_label : CodeBuffer → List ℕ → List ℕ → ℕ → ℕ → ℕ → Recorded × List ℕ
use_label b labels uses offset label code =
    let why = why_use b (length labels / label_size) (length uses / use_size) label code in
    let k = b.uses * use_words in
    pick (eqb why 0)
    (accepted (with_open (with_uses b (b.uses + 1)) (b.unresolved + opened labels label)), set_word (set_word (set_word uses k offset) (k + 1) label) (k + 2) code)
    (turned_down b why, uses)

-- kept on X64; the addend is a 32-bit two's complement word
unfoldable pub record_ref : CodeBuffer → List ℕ → List ℕ → ℕ → ℕ → ℕ → ℕ → Recorded × List ℕ
record_ref b labels refs offset label code addend =
    let why = why_ref b (length labels / label_size) (length refs / ref_size) label code in
    let k = b.refs * ref_words in
    pick (eqb why 0)
    (pick (keeps_events b.arch)
    (accepted (with_open (with_refs b (b.refs + 1)) (b.unresolved + opened labels label)), set_word (set_word (set_word (set_word refs k offset) (k + 1) label) (k + 2) code) (k + 3) addend)
    (accepted b, refs))
    (turned_down b why, refs)

-- kept on X64
unfoldable pub record_jump : CodeBuffer → List ℕ → List ℕ → ℕ → ℕ → ℕ → ℕ → Recorded × List ℕ
record_jump b labels events start len label cc =
    let why = why_jump b labels events start len label cc in
    pick (eqb why 0)
    (pick (eqb b.arch arch_x64)
    (accepted (with_open (with_events b (b.events + 1)) (b.unresolved + opened labels label)), set_event events b.events jump_kind start len label cc)
    (accepted b, events))
    (turned_down b why, events)

-- an entry is its size, its label, and 64 bytes, of which those past its size are not touched
unfoldable pub add_constant : CodeBuffer → List ℕ → List ℕ → Made × List ℕ
add_constant b constants bytes =
    let why = why_constant b (length constants / constant_size) (length bytes) in
    let n = b.constants in
    pick (eqb why 0)
    (made (with_constants b (n + 1)) n, over (set_word (set_word constants (n * constant_words) (length bytes)) (n * constant_words + 1) none) (n * constant_size + constant_head) bytes)
    (none_made b why, constants)

-- a first asking makes a label and lists the constant; "asking again for a constant's label gives the same one"
unfoldable pub asked_first : CodeBuffer → List ℕ → List ℕ → List ℕ → ℕ → Made × (List ℕ × (List ℕ × List ℕ))
asked_first b constants asked labels constant =
    pick (no_room_to_ask b (length asked / asked_size) (length labels / label_size))
    (none_made b refusals.table_full, (constants, (asked, labels))) (
      made (with_labels (with_asked b (b.asked + 1)) (b.labels + 1)) b.labels,
      (set_word constants (constant * constant_words + 1) b.labels, (set_word asked b.asked constant, set_word labels b.labels none)),
    )

unfoldable pub constant_label : CodeBuffer → List ℕ → List ℕ → List ℕ → ℕ → Made × (List ℕ × (List ℕ × List ℕ))
constant_label b constants asked labels constant =
    let held = word_at constants (constant * constant_words + 1) in
    let why = why_constant_label b (length constants / constant_size) (length asked / asked_size) (length labels / label_size) constant in
    pick (eqb why 0)
    (pick (eqb held none) (asked_first b constants asked labels constant) (made b held, (constants, (asked, labels))))
    (none_made b why, (constants, (asked, labels)))

-- an entry is offset, kind, target, 0 and the addend, a 64-bit two's complement word, low half first
unfoldable pub add_reloc : CodeBuffer → List ℕ → List ℕ → ℕ → ℕ → ℕ → ℕ → Recorded × List ℕ
add_reloc b labels relocs offset kind target addend =
    let why = why_reloc b (length labels / label_size) (length relocs / reloc_size) offset kind target in
    let k = b.relocs * reloc_words in
    pick (eqb why 0) (
      accepted (with_open (with_relocs b (b.relocs + 1)) (b.unresolved + target_opened labels target)),
      set_word
          (set_word (set_word (set_word (set_word (set_word relocs k offset) (k + 1) kind) (k + 2) target) (k + 3) 0) (k + 4) (addend % 4294967296))
          (k + 5)
          (addend / 4294967296),
    )
    (turned_down b why, relocs)
