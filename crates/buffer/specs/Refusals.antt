-- Why a recording call is turned down: document 01's list, numbers 1 to 12. Each call's tests stand in order, lowest number first;
-- "after number 1 a recorded refusal comes first".
use Rattle.std.specs.Prelude.{Bool, true, false, not, ◌&&◌, ◌||◌, List, [], ◌∷◌, ℕ, zero, suc, ◌+◌, ◌-◌, ◌/◌, ◌%◌, eqb, leb, ltb, length, get_or}
use Rattle.refusals.specs.Numbers as refusals
use Rattle.seqs.specs.Pick.{pick, first, or_else}
use Rattle.words.specs.Words.{word_at}
use Rattle.encoder.specs.Padding.{padding_within}
use Rattle.fields.specs.Kinds.{Decoded, Use, Unsupported, Unknown, arch_x86, arch_x64, arch_a64, is_arch, decoded, supports_arch, unsupported_code, last_code}
use Rattle.relax.specs.Events.{event_at, end_of, event_size, no_condition, most_jump, short_len}
use Rattle.buffer.specs.declared.CodeBuffer.{CodeBuffer}
use Rattle.buffer.specs.State.{none, label_target, keeps_events}
use Rattle.buffer.specs.Tables.{most_entries, most_code, last_offset, most_constant, most_alignment, last_reloc, most_open, label_size}

-- the architectures that a recording may be of
abbrev pub arch_occurs : ℕ → Bool
arch_occurs arch = eqb arch arch_x86 || eqb arch arch_x64 || eqb arch arch_a64

-- the refusals that a recording records: 6, 7, 8, 10, 11, 12; 0 is none
abbrev pub refusal_occurs : ℕ → Bool
refusal_occurs n = eqb n 0 || leb refusals.first_recorded n && leb n refusals.code_full && not (eqb n refusals.already_bound)

-- What every call looks at first. 1: a count handed in passes what is lent, an argument breaks its form (either makes `fit` false), its
-- architecture or refusal can't occur, or more than 262,144 entries are said to be open (document 02, Request Five: "any call answers 1 to one above
-- 262,144"); the recorded refusal; 3: the call is lent more than a limit (`within` is false); 4: it has finished.
unfoldable pub standing : CodeBuffer → Bool → Bool → ℕ
standing b fit within =
    first (
    (not (arch_occurs b.arch && refusal_occurs b.refusal && leb b.unresolved most_open && fit), refusals.malformed)
    ∷ (not (eqb b.refusal 0), b.refusal)
    ∷ (not within, refusals.past_limit)
    ∷ (not (eqb b.finished 0), refusals.already_finished)
    ∷ []
    )

-- 2: start names an architecture other than 1, 2, 6
unfoldable pub why_start : ℕ → ℕ
why_start arch = first ((not (arch_occurs arch), refusals.unknown_arch) ∷ [])

-- bytes, of which there are n, into code of which `lent` bytes are lent. 12: they pass the lent code's end.
unfoldable pub why_bytes : CodeBuffer → ℕ → ℕ → ℕ
why_bytes b lent n =
    or_else (standing b (leb b.code lent) (leb lent most_code))
    (first ((ltb (lent - b.code) n, refusals.code_full) ∷ []))

-- a new label, into a table of `room` entries. 11: the table is full.
unfoldable pub why_label : CodeBuffer → ℕ → ℕ
why_label b room =
    or_else (standing b (leb b.labels room) (leb room most_entries))
    (first ((leb room b.labels, refusals.table_full) ∷ []))

-- the tables that name labels, of events, uses, refs and relocations: no count passes what is lent, none exceeds the limit; the numbers are entries lent
abbrev pub namers_fit : CodeBuffer → ℕ → ℕ → ℕ → ℕ → Bool
namers_fit b events uses refs relocs = leb b.events events && (leb b.uses uses && (leb b.refs refs && leb b.relocs relocs))

abbrev pub namers_within : ℕ → ℕ → ℕ → ℕ → Bool
namers_within events uses refs relocs = leb events most_entries && (leb uses most_entries && (leb refs most_entries && leb relocs most_entries))

-- a bind. 8: the label is unknown; 9: it is bound already. Neither is recorded.
unfoldable pub why_bind : CodeBuffer → List ℕ → ℕ → ℕ → ℕ → ℕ → ℕ → ℕ
why_bind b labels events uses refs relocs label =
    or_else
    (standing b
    (leb b.labels (length labels / label_size) && namers_fit b events uses refs relocs)
    (leb (length labels / label_size) most_entries && namers_within events uses refs relocs))
    (first ((leb b.labels label, refusals.unknown_number) ∷ (not (eqb (word_at labels label) none), refusals.already_bound) ∷ []))

-- a power of two, at most 4,096: what divides 4,096
unfoldable pub is_alignment : ℕ → Bool
is_alignment n = not (eqb n 0) && eqb (most_alignment % n) 0

-- an alignment. 5: it is no power of two, or exceeds 4,096; 11: the table of events is full (X64 alone has one); 12: what it spends passes
-- the lent code's end.
unfoldable pub why_align : CodeBuffer → ℕ → ℕ → ℕ → ℕ → ℕ
why_align b lent room multiple most =
    or_else (standing b (leb b.code lent && leb b.events room) (leb lent most_code && leb room most_entries))
    (first (
    (not (is_alignment multiple), refusals.bad_alignment)
    ∷ (keeps_events b.arch && leb room b.events, refusals.table_full)
    ∷ (ltb (lent - b.code) (padding_within b.code multiple most), refusals.code_full)
    ∷ []
    ))

-- the kind of a use or ref is foreign to the architecture
abbrev pub foreign : Decoded → ℕ → Bool
foreign (Use k) arch = not (supports_arch k arch)
foreign Unsupported arch = true
foreign Unknown arch = true

-- a use, beside `known` labels that are lent. 1: code above 16; 6: code 15; 7: a kind foreign to the architecture; 8: the label is unknown; 11: the table
-- is full.
unfoldable pub why_use : CodeBuffer → ℕ → ℕ → ℕ → ℕ → ℕ
why_use b known room label code =
    or_else (standing b (leb b.labels known && (leb b.uses room && leb code last_code)) (leb known most_entries && leb room most_entries))
    (first (
    (eqb code unsupported_code, refusals.unsupported_use)
    ∷ (foreign (decoded code) b.arch, refusals.foreign_kind)
    ∷ (leb b.labels label, refusals.unknown_number)
    ∷ (leb room b.uses, refusals.table_full)
    ∷ []
    ))

-- a ref. Off X64 it is accepted unread once 1 to 4 are past.
unfoldable pub why_ref : CodeBuffer → ℕ → ℕ → ℕ → ℕ → ℕ
why_ref b known room label code =
    or_else (standing b (leb b.labels known && (leb b.refs room && leb code last_code)) (leb known most_entries && leb room most_entries))
    (pick (keeps_events b.arch)
    (first (
    (foreign (decoded code) b.arch, refusals.foreign_kind)
    ∷ (leb b.labels label, refusals.unknown_number)
    ∷ (leb room b.refs, refusals.table_full)
    ∷ []
    ))
    0)

-- the end of the last event; 0 before the first
unfoldable pub last_end : List ℕ → ℕ → ℕ
last_end events n = pick (eqb n 0) 0 (end_of (event_at events (n - 1)))

-- one of the first n labels is bound strictly between two offsets
unfoldable pub label_inside : List ℕ → ℕ → ℕ → ℕ → Bool
label_inside labels zero start end = false
label_inside labels (suc n) start end = ltb start (word_at labels n) && ltb (word_at labels n) end || label_inside labels n start end

-- the jump doesn't end at the current offset, or has length outside 2..15 or condition above 16
unfoldable pub jump_malformed : ℕ → ℕ → ℕ → ℕ → Bool
jump_malformed code start len cc = not (eqb (start + len) code) || ltb len short_len || ltb most_jump len || ltb no_condition cc

-- it is so, starts before the last event's end, or holds a label strictly inside
unfoldable pub jump_unfit : CodeBuffer → List ℕ → List ℕ → ℕ → ℕ → ℕ → Bool
jump_unfit b labels events start len cc =
    jump_malformed b.code start len cc || ltb start (last_end events b.events) || label_inside labels b.labels start (start + len)

-- a jump. Off X64 it is accepted unread once 1 to 4 are past. 8: the label is unknown; 10: the jump is unfit; 11: the table is full.
unfoldable pub why_jump : CodeBuffer → List ℕ → List ℕ → ℕ → ℕ → ℕ → ℕ → ℕ
why_jump b labels events start len label cc =
    or_else
    (standing b
    (leb b.labels (length labels / label_size) && leb b.events (length events / event_size))
    (leb (length labels / label_size) most_entries && leb (length events / event_size) most_entries))
    (pick (eqb b.arch arch_x64)
    (first (
    (leb b.labels label, refusals.unknown_number)
    ∷ (jump_unfit b labels events start len cc, refusals.bad_entry)
    ∷ (leb (length events / event_size) b.events, refusals.table_full)
    ∷ []
    ))
    0)

-- a constant of n bytes. 10: it exceeds 64 bytes; 11: the table is full.
unfoldable pub why_constant : CodeBuffer → ℕ → ℕ → ℕ
why_constant b room n =
    or_else (standing b (leb b.constants room) (leb room most_entries))
    (first ((ltb most_constant n, refusals.bad_entry) ∷ (leb room b.constants, refusals.table_full) ∷ []))

-- a constant's label. 8: the constant is unknown.
unfoldable pub why_constant_label : CodeBuffer → ℕ → ℕ → ℕ → ℕ → ℕ
why_constant_label b constants asked labels constant =
    or_else
    (standing b
    (leb b.constants constants && (leb b.asked asked && leb b.labels labels))
    (leb constants most_entries && (leb asked most_entries && leb labels most_entries)))
    (first ((leb b.constants constant, refusals.unknown_number) ∷ []))

-- 11, where the constant has no label yet: the table of labels or that of the order of asking is full
abbrev pub no_room_to_ask : CodeBuffer → ℕ → ℕ → Bool
no_room_to_ask b asked labels = leb labels b.labels || leb asked b.asked

-- the architecture of each kind of relocation, in the order of asmkit's `Reloc`: 0 any, 1 X86 and X64, 2 AArch64, 3 none here
abbrev pub reloc_archs : List ℕ
reloc_archs =
    0 ∷ 0 ∷ 1 ∷ 1 ∷ 1 ∷ 1 ∷ 1 ∷ 3 ∷ 2 ∷ 1 ∷ 1 ∷ 2 ∷ 2 ∷ 2 ∷ 2 ∷ 2 ∷ 2 ∷ 2 ∷ 2 ∷ 2 ∷ 2 ∷ 2 ∷ 3 ∷ 3 ∷ 3 ∷ 3 ∷ 3 ∷ 3 ∷ []

-- a relocation's kind is foreign to the architecture
unfoldable pub foreign_reloc : ℕ → ℕ → Bool
foreign_reloc kind arch =
    pick (eqb (get_or reloc_archs kind 3) 0) false
    (pick (eqb (get_or reloc_archs kind 3) 1) (not (is_arch true arch))
    (pick (eqb (get_or reloc_archs kind 3) 2) (not (is_arch false arch)) true))

-- a relocation's target is a symbol below the count given at start, or a known label + 2^31
unfoldable pub target_known : CodeBuffer → ℕ → Bool
target_known b target = pick (ltb target label_target) (ltb target b.symbols) (ltb (target - label_target) b.labels)

-- a relocation. 1: kind above 27; 7: a kind foreign to the architecture; 8: the target is unknown; 10: the offset exceeds 16,777,215; 11: the table is
-- full.
unfoldable pub why_reloc : CodeBuffer → ℕ → ℕ → ℕ → ℕ → ℕ → ℕ
why_reloc b known room offset kind target =
    or_else (standing b (leb b.labels known && (leb b.relocs room && leb kind last_reloc)) (leb known most_entries && leb room most_entries))
    (first (
    (foreign_reloc kind b.arch, refusals.foreign_kind)
    ∷ (not (target_known b target), refusals.unknown_number)
    ∷ (ltb last_offset offset, refusals.bad_entry)
    ∷ (leb room b.relocs, refusals.table_full)
    ∷ []
    ))
