-- A recording seen as lists: what finish and its theorems speak of, so that none of them looks at bytes again.
use Rattle.std.specs.Prelude.{List, [], ◌∷◌, ◌++◌, ℕ, zero, suc, ◌+◌, ◌*◌, take, drop}
use Rattle.words.specs.Words.{word_at}
use Rattle.relax.specs.declared.LayoutEvent.{LayoutEvent}
use Rattle.relax.specs.Events.{event_at}
use Rattle.buffer.specs.Tables.{use_words, ref_words, constant_words, constant_size, constant_head, reloc_words}
use Rattle.recording.specs.Calls.{Recording}

-- f 0, f 1, .. f (n - 1)
abbrev pub entries : {A : Type 0} → (ℕ → A) → ℕ → List A
entries f zero = []
entries f (suc n) = entries f n ++ (f n ∷ [])

pub record Use : Type 0 where
  pub offset : ℕ
  pub label : ℕ
  pub code : ℕ

abbrev pub use_at : List ℕ → ℕ → Use
use_at uses i = record { offset = word_at uses (i * use_words); label = word_at uses (i * use_words + 1); code = word_at uses (i * use_words + 2) }

-- the addend is a 32-bit two's complement word
pub record Ref : Type 0 where
  pub offset : ℕ
  pub label : ℕ
  pub code : ℕ
  pub addend : ℕ

abbrev pub ref_at : List ℕ → ℕ → Ref
ref_at refs i =
    record { offset = word_at refs (i * ref_words); label = word_at refs (i * ref_words + 1); code = word_at refs (i * ref_words + 2); addend = word_at refs (i * ref_words + 3) }

pub record Constant : Type 0 where
  pub bytes : List ℕ
  pub label : ℕ

abbrev pub constant_at : List ℕ → ℕ → Constant
constant_at constants i =
    record { bytes = take (word_at constants (i * constant_words)) (drop (i * constant_size + constant_head) constants); label = word_at constants (i * constant_words + 1) }

-- the target is a symbol, or a label + 2^31; the addend is a 64-bit two's complement word
pub record Relocation : Type 0 where
  pub offset : ℕ
  pub kind : ℕ
  pub target : ℕ
  pub addend : ℕ

abbrev pub reloc_at : List ℕ → ℕ → Relocation
reloc_at relocs i =
    record {
      offset = word_at relocs (i * reloc_words);
      kind = word_at relocs (i * reloc_words + 1);
      target = word_at relocs (i * reloc_words + 2);
      addend = word_at relocs (i * reloc_words + 4) + word_at relocs (i * reloc_words + 5) * 4294967296;
    }

pub record View : Type 0 where
  pub code : List ℕ
  pub labels : List ℕ
  pub events : List LayoutEvent
  pub uses : List Use
  pub refs : List Ref
  pub constants : List Constant
  pub asked : List ℕ
  pub relocs : List Relocation

abbrev pub view : Recording → View
view r =
    record {
      code = take r.buffer.code r.code;
      labels = entries (word_at r.labels) r.buffer.labels;
      events = entries (event_at r.events) r.buffer.events;
      uses = entries (use_at r.uses) r.buffer.uses;
      refs = entries (ref_at r.refs) r.buffer.refs;
      constants = entries (constant_at r.constants) r.buffer.constants;
      asked = entries (word_at r.asked) r.buffer.asked;
      relocs = entries (reloc_at r.relocs) r.buffer.relocs;
    }

-- the view with one list anew
abbrev pub see_code : View → List ℕ → View
see_code v l = record { code = l; labels = v.labels; events = v.events; uses = v.uses; refs = v.refs; constants = v.constants; asked = v.asked; relocs = v.relocs }

abbrev pub see_labels : View → List ℕ → View
see_labels v l = record { code = v.code; labels = l; events = v.events; uses = v.uses; refs = v.refs; constants = v.constants; asked = v.asked; relocs = v.relocs }

abbrev pub see_events : View → List LayoutEvent → View
see_events v l = record { code = v.code; labels = v.labels; events = l; uses = v.uses; refs = v.refs; constants = v.constants; asked = v.asked; relocs = v.relocs }

abbrev pub see_uses : View → List Use → View
see_uses v l = record { code = v.code; labels = v.labels; events = v.events; uses = l; refs = v.refs; constants = v.constants; asked = v.asked; relocs = v.relocs }

abbrev pub see_refs : View → List Ref → View
see_refs v l = record { code = v.code; labels = v.labels; events = v.events; uses = v.uses; refs = l; constants = v.constants; asked = v.asked; relocs = v.relocs }

abbrev pub see_constants : View → List Constant → View
see_constants v l = record { code = v.code; labels = v.labels; events = v.events; uses = v.uses; refs = v.refs; constants = l; asked = v.asked; relocs = v.relocs }

abbrev pub see_asked : View → List ℕ → View
see_asked v l = record { code = v.code; labels = v.labels; events = v.events; uses = v.uses; refs = v.refs; constants = v.constants; asked = l; relocs = v.relocs }

abbrev pub see_relocs : View → List Relocation → View
see_relocs v l = record { code = v.code; labels = v.labels; events = v.events; uses = v.uses; refs = v.refs; constants = v.constants; asked = v.asked; relocs = l }
