-- A recording as it is lent to a call, finish or a sheet, and what such a call looks at first: document 01's numbers 1 (counts) and 3.
use Rattle.std.specs.Prelude.{Bool, ◌&&◌, List, ℕ, ◌/◌, leb, length}
use Rattle.buffer.specs.declared.CodeBuffer.{CodeBuffer}
use Rattle.buffer.specs.Tables.{most_entries, most_code, label_size, use_size, ref_size, constant_size, asked_size, reloc_size}
use Rattle.recording.specs.Calls.{Recording}
use Rattle.checks.specs.declared.lent.Lent.{Lent}
use Rattle.relax.specs.Events.{event_size}

-- the recording that is lent: its counts and its tables
abbrev pub recording_of : CodeBuffer → List ℕ → List ℕ → List ℕ → List ℕ → List ℕ → List ℕ → List ℕ → List ℕ → Recording
recording_of b code labels events uses refs constants asked relocs =
    record {
      buffer = b;
      code = code;
      labels = labels;
      events = events;
      uses = uses;
      refs = refs;
      constants = constants;
      asked = asked;
      relocs = relocs;
    }

-- the recording whose tables are lent as one
abbrev pub recorded_in : CodeBuffer → Lent → Recording
recorded_in b l = recording_of b l.code.now l.labels.now l.events.now l.uses.now l.refs.now l.constants.now l.asked.now l.relocs.now

-- "a count handed in passes what is lent": none does
unfoldable pub counts_fit : Recording → Bool
counts_fit r =
    let b = r.buffer in
    leb b.code (length r.code)
    && (leb b.labels (length r.labels / label_size)
    && (leb b.events (length r.events / event_size)
    && (leb b.uses (length r.uses / use_size)
    && (leb b.refs (length r.refs / ref_size)
    && (leb b.constants (length r.constants / constant_size)
    && (leb b.asked (length r.asked / asked_size) && leb b.relocs (length r.relocs / reloc_size)))))))

-- "a call is lent more than a limit": it is not; segments and output count too
unfoldable pub within_limits : Recording → ℕ → ℕ → Bool
within_limits r segments output =
    leb (length r.code) most_code
    && (leb (length r.labels / label_size) most_entries
    && (leb (length r.events / event_size) most_entries
    && (leb (length r.uses / use_size) most_entries
    && (leb (length r.refs / ref_size) most_entries
    && (leb (length r.constants / constant_size) most_entries
    && (leb (length r.asked / asked_size) most_entries
    && (leb (length r.relocs / reloc_size) most_entries && (leb segments most_entries && leb output most_code))))))))
