-- A recording as a whole, its counts and its tables, and a sequence of calls on it.
use Rattle.std.specs.Prelude.{List, [], ◌∷◌, ℕ, ◌<◌}
use Rattle.buffer.specs.declared.CodeBuffer.{CodeBuffer}
use Rattle.buffer.specs.Calls.{started, put_bytes, get_label, bind_label, align_to, use_label, record_ref, record_jump, add_constant, constant_label, add_reloc}

pub record Recording : Type 0 where
  pub buffer : CodeBuffer
  pub code : List ℕ
  pub labels : List ℕ
  pub events : List ℕ
  pub uses : List ℕ
  pub refs : List ℕ
  pub constants : List ℕ
  pub asked : List ℕ
  pub relocs : List ℕ

-- numbers are 32-bit words, a relocation's addend one of 64 bits
pub record Word : Type 0 where
  pub value : ℕ
  pub small : value < 4294967296

pub record Word64 : Type 0 where
  pub value : ℕ
  pub small : value < 18446744073709551616

pub data Call : Type 0 where
  bytes : List ℕ → Call
  new_label : Call
  bind : Word → Call
  -- multiple, most
  align : Word → Word → Call
  -- offset, label, code
  use_of_label : Word → Word → Word → Call
  -- offset, label, code, addend
  ref : Word → Word → Word → Word → Call
  -- start, length, label, condition
  jump : Word → Word → Word → Word → Call
  constant : List ℕ → Call
  label_of_constant : Word → Call
  -- offset, kind, target, addend
  relocation : Word → Word → Word → Word64 → Call

abbrev pub with_buffer : Recording → CodeBuffer → Recording
with_buffer r b = record { buffer = b; code = r.code; labels = r.labels; events = r.events; uses = r.uses; refs = r.refs; constants = r.constants; asked = r.asked; relocs = r.relocs }

abbrev pub with_code_table : Recording → CodeBuffer → List ℕ → Recording
with_code_table r b t = record { buffer = b; code = t; labels = r.labels; events = r.events; uses = r.uses; refs = r.refs; constants = r.constants; asked = r.asked; relocs = r.relocs }

abbrev pub with_label_table : Recording → CodeBuffer → List ℕ → Recording
with_label_table r b t = record { buffer = b; code = r.code; labels = t; events = r.events; uses = r.uses; refs = r.refs; constants = r.constants; asked = r.asked; relocs = r.relocs }

abbrev pub with_event_table : Recording → CodeBuffer → List ℕ → Recording
with_event_table r b t = record { buffer = b; code = r.code; labels = r.labels; events = t; uses = r.uses; refs = r.refs; constants = r.constants; asked = r.asked; relocs = r.relocs }

abbrev pub with_use_table : Recording → CodeBuffer → List ℕ → Recording
with_use_table r b t = record { buffer = b; code = r.code; labels = r.labels; events = r.events; uses = t; refs = r.refs; constants = r.constants; asked = r.asked; relocs = r.relocs }

abbrev pub with_ref_table : Recording → CodeBuffer → List ℕ → Recording
with_ref_table r b t = record { buffer = b; code = r.code; labels = r.labels; events = r.events; uses = r.uses; refs = t; constants = r.constants; asked = r.asked; relocs = r.relocs }

abbrev pub with_constant_table : Recording → CodeBuffer → List ℕ → Recording
with_constant_table r b t = record { buffer = b; code = r.code; labels = r.labels; events = r.events; uses = r.uses; refs = r.refs; constants = t; asked = r.asked; relocs = r.relocs }

abbrev pub with_asked_table : Recording → List ℕ → Recording
with_asked_table r t = record { buffer = r.buffer; code = r.code; labels = r.labels; events = r.events; uses = r.uses; refs = r.refs; constants = r.constants; asked = t; relocs = r.relocs }

abbrev pub with_reloc_table : Recording → CodeBuffer → List ℕ → Recording
with_reloc_table r b t = record { buffer = b; code = r.code; labels = r.labels; events = r.events; uses = r.uses; refs = r.refs; constants = r.constants; asked = r.asked; relocs = t }

-- the recording after one call, as the call's contract has it
abbrev pub after : Call → Recording → Recording
after (bytes l) r = let a = put_bytes r.buffer r.code l in with_code_table r a.0.buffer a.1
after new_label r = let a = get_label r.buffer r.labels in with_label_table r a.0.buffer a.1
after (bind l) r =
    let a = bind_label r.buffer r.labels r.events r.uses r.refs r.relocs l.value in with_label_table r a.0.buffer a.1
after (align m k) r =
    let a = align_to r.buffer r.code r.events m.value k.value in
    with_event_table (with_code_table r a.0.buffer a.1.0) a.0.buffer a.1.1
after (use_of_label o l c) r = let a = use_label r.buffer r.labels r.uses o.value l.value c.value in with_use_table r a.0.buffer a.1
after (ref o l c d) r = let a = record_ref r.buffer r.labels r.refs o.value l.value c.value d.value in with_ref_table r a.0.buffer a.1
after (jump s n l c) r =
    let a = record_jump r.buffer r.labels r.events s.value n.value l.value c.value in with_event_table r a.0.buffer a.1
after (constant l) r = let a = add_constant r.buffer r.constants l in with_constant_table r a.0.buffer a.1
after (label_of_constant n) r =
    let a = constant_label r.buffer r.constants r.asked r.labels n.value in
    with_label_table (with_asked_table (with_constant_table r a.0.buffer a.1.0) a.1.1.0) a.0.buffer a.1.1.1
after (relocation o k t d) r = let a = add_reloc r.buffer r.labels r.relocs o.value k.value t.value d.value in with_reloc_table r a.0.buffer a.1

-- the number that the call answers, 0 where it is not turned down
abbrev pub answered : Call → Recording → ℕ
answered (bytes l) r = (put_bytes r.buffer r.code l).0.refusal
answered new_label r = (get_label r.buffer r.labels).0.refusal
answered (bind l) r = (bind_label r.buffer r.labels r.events r.uses r.refs r.relocs l.value).0.refusal
answered (align m k) r = (align_to r.buffer r.code r.events m.value k.value).0.refusal
answered (use_of_label o l c) r = (use_label r.buffer r.labels r.uses o.value l.value c.value).0.refusal
answered (ref o l c d) r = (record_ref r.buffer r.labels r.refs o.value l.value c.value d.value).0.refusal
answered (jump s n l c) r = (record_jump r.buffer r.labels r.events s.value n.value l.value c.value).0.refusal
answered (constant l) r = (add_constant r.buffer r.constants l).0.refusal
answered (label_of_constant n) r = (constant_label r.buffer r.constants r.asked r.labels n.value).0.refusal
answered (relocation o k t d) r = (add_reloc r.buffer r.labels r.relocs o.value k.value t.value d.value).0.refusal

-- and after a sequence of them
abbrev pub after_all : List Call → Recording → Recording
after_all [] r = r
after_all (c ∷ cs) r = after_all cs (after c r)

-- a new recording, with tables of any contents
abbrev pub begun : ℕ → ℕ → List ℕ → List ℕ → List ℕ → List ℕ → List ℕ → List ℕ → List ℕ → List ℕ → Recording
begun arch symbols code labels events uses refs constants asked relocs =
    record {
      buffer = (started arch symbols).buffer;
      code = code;
      labels = labels;
      events = events;
      uses = uses;
      refs = refs;
      constants = constants;
      asked = asked;
      relocs = relocs;
    }
