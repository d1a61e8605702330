-- The worked cases of document 01, "Reaches and landings", as rows of one table, and rows with a pool and for document 02, Requests One, Four and
-- Seven: small recordings, and what finish makes of them by the definitions that its contract names.
use Rattle.std.specs.Prelude.{true, false, List, [], ◌∷◌, ◌++◌, ℕ, ◌+◌, ◌-◌, eqb, length, replicate}
use Rattle.refusals.specs.Numbers as refusals
use Rattle.seqs.specs.Pick.{pick, or_else}
use Rattle.words.specs.Words.{bytes_of}
use Rattle.fields.specs.Kinds.{arch_x64, arch_a64}
use Rattle.relax.specs.declared.LayoutEvent.{LayoutEvent}
use Rattle.relax.specs.declared.LayoutEvent.TheVariants.{Align}
use Rattle.buffer.specs.State.{none}
use Rattle.buffer.specs.Tables.{most_entries, most_code, default_most}
use Rattle.recording.specs.View.{View}
use Rattle.fresh.specs.Pooled.{Pooled, pooled, code_alignment}
use Rattle.fresh.specs.Forms.{moves}
use Rattle.fresh.specs.Fresh.{Choice}
use Rattle.fresh.specs.Rounds.{Settled, settled}
use Rattle.fresh.specs.Fill.{part, assembled, in_place}
use Rattle.fresh.specs.Samples.{jmp, zeros}
use Rattle.finish.specs.Refusals.{why_not_laid, why_not_written, why_not_in_place}

pub data Answer : Type 0 where
  -- finished length, alignment, layouts, long jumps, and the bytes that are looked at
  finished : ℕ → ℕ → ℕ → ℕ → List ℕ → Answer
  -- the refusal's number
  refused : ℕ → Answer

-- a recording, from which offset on its code is looked at and how many bytes of it, and what is expected
pub record Row : Type 0 where
  pub recording : Pooled
  pub from : ℕ
  pub count : ℕ
  pub expected : Answer

abbrev pub long_jumps : Choice → ℕ
long_jumps [] = 0
long_jumps (true ∷ c) = 1 + long_jumps c
long_jumps (false ∷ c) = long_jumps c

-- finish with a jump, and without one, into an output and a table of segments as large as may be lent
abbrev pub with_jump : Pooled → Settled → ℕ → ℕ → Answer
with_jump p s from count =
    let why = or_else (why_not_laid p most_entries) (why_not_written p most_code) in
    let code = assembled p s.choice in
    pick (eqb why 0) (finished (length code) (code_alignment p.pool) s.rounds (long_jumps s.choice) (part code from count)) (refused why)

abbrev pub without_jump : Pooled → ℕ → ℕ → Answer
without_jump p from count =
    let why = why_not_in_place p most_code in
    pick (eqb why 0) (finished (length (in_place p)) (code_alignment p.pool) 0 0 (part (in_place p) from count)) (refused why)

abbrev pub answer : Row → Answer
answer r =
    let p = r.recording in
    pick (moves p.events) (with_jump p (settled p) r.from r.count) (without_jump p r.from r.count)

-- on AArch64, a word at an offset with a use of it, and a label; zeros else
abbrev pub usage : ℕ → ℕ → ℕ → ℕ → Pooled
usage word offset code label =
    record {
      arch = arch_a64;
      code = replicate offset 0 ++ (bytes_of word ++ replicate (label - (offset + 4)) 0);
      events = [];
      labels = label ∷ [];
      uses = record { offset = offset; label = 0; code = code } ∷ [];
      refs = [];
      pool = [];
    }

-- on AArch64, four zeros, then a word with two uses of it, of a label at 1 and of one at 2
abbrev pub used_twice : ℕ → ℕ → Pooled
used_twice word code =
    record {
      arch = arch_a64;
      code = replicate 4 0 ++ bytes_of word;
      events = [];
      labels = 1 ∷ 2 ∷ [];
      uses = record { offset = 4; label = 0; code = code } ∷ record { offset = 4; label = 1; code = code } ∷ [];
      refs = [];
      pool = [];
    }

-- an alignment: where it starts and its recorded length, its multiple, and the most bytes that it may spend
abbrev pub aligned : ℕ → ℕ → ℕ → ℕ → LayoutEvent
aligned start len multiple most = Align (record { start = start; len = len; align = multiple; most = most })

-- code with a constant, which has label 0 and is asked for
abbrev pub constant : List ℕ → List LayoutEvent → List ℕ → View
constant code events bytes =
    record {
      code = code;
      labels = none ∷ [];
      events = events;
      uses = [];
      refs = [];
      constants = record { bytes = bytes; label = 0 } ∷ [];
      asked = 0 ∷ [];
      relocs = [];
    }

-- A to L; then ADDs whose field holds something, whose sh is set, and that have two uses; then a constant of 8 bytes on X64 and on AArch64, and a jump to
-- one of 9 bytes; then constants of 32 and of 33 bytes, and a jump of 5 bytes and 59 zeros before one of 64 bytes, whose alignment gains 3 bytes of padding
-- when the jump becomes short; then alignments to 8 behind a jump: one that gains 3 bytes when the jump becomes short, one that may not spend these, one
-- that loses its byte; one that spends nothing in the first round and 3 bytes in the second, where the jump is long; and one that spends 2 bytes in the first
-- and nothing in the second, so that the jump, which stays long, would reach
unfoldable pub table : List Row
table =
    record { recording = zeros 132 (jmp 0 0 ∷ []) (132 ∷ []); from = 0; count = 0; expected = finished 129 32 1 0 [] }
    ∷ record { recording = zeros 133 (jmp 0 0 ∷ []) (133 ∷ []); from = 0; count = 0; expected = finished 133 32 2 1 [] }
    ∷ record { recording = zeros 138 (jmp 0 0 ∷ jmp 5 1 ∷ []) (135 ∷ 138 ∷ []); from = 0; count = 0; expected = finished 138 32 3 2 [] }
    ∷ record {
      recording = zeros 16 (jmp 0 0 ∷ aligned 5 11 16 default_most ∷ []) (16 ∷ []);
      from = 0;
      count = 16;
      expected = finished 16 32 1 0 (0xEB ∷ 0x0E ∷ 0x66 ∷ 0x0F ∷ 0x1F ∷ 0x84 ∷ 0 ∷ 0 ∷ 0 ∷ 0 ∷ 0 ∷ 0x0F ∷ 0x1F ∷ 0x44 ∷ 0 ∷ 0 ∷ []);
    }
    ∷ record { recording = zeros 131 (jmp 126 0 ∷ []) (0 ∷ []); from = 126; count = 2; expected = finished 128 32 1 0 (0xEB ∷ 0x80 ∷ []) }
    ∷ record {
      recording = zeros 132 (jmp 127 0 ∷ []) (0 ∷ []);
      from = 127;
      count = 5;
      expected = finished 132 32 2 1 (0xE9 ∷ 0x7C ∷ 0xFF ∷ 0xFF ∷ 0xFF ∷ []);
    }
    ∷ record { recording = usage 0x14000000 0 11 8; from = 0; count = 4; expected = finished 8 32 0 0 (bytes_of 0x14000002) }
    ∷ record { recording = usage 0x10000000 4 13 0; from = 4; count = 4; expected = finished 8 32 0 0 (bytes_of 0x10FFFFE0) }
    ∷ record { recording = usage 0x90000000 0x0FFC 14 0x1000; from = 0x0FFC; count = 4; expected = finished 0x1000 32 0 0 (bytes_of 0xB0000000) }
    ∷ record { recording = usage 0x91000000 0 16 0x0123; from = 0; count = 4; expected = finished 0x0123 32 0 0 (bytes_of 0x91048C00) }
    ∷ record { recording = usage 0x54000000 0 10 6; from = 0; count = 4; expected = refused refusals.branch_out_of_reach }
    ∷ record { recording = usage 0x58000000 0 12 6; from = 0; count = 4; expected = refused refusals.label_too_far_ahead }
    ∷ record { recording = usage 0x91000400 4 16 2; from = 4; count = 4; expected = finished 8 32 0 0 (bytes_of 0x91000800) }
    ∷ record { recording = usage 0x91400000 0 16 0x0123; from = 0; count = 4; expected = finished 0x0123 32 0 0 (bytes_of 0x91448C00) }
    ∷ record { recording = used_twice 0x91000000 16; from = 4; count = 4; expected = finished 8 32 0 0 (bytes_of 0x91000800) }
    ∷ record {
      recording = pooled arch_x64 (constant (0xC3 ∷ []) [] (1 ∷ 2 ∷ 3 ∷ 4 ∷ 5 ∷ 6 ∷ 7 ∷ 8 ∷ []));
      from = 0;
      count = 16;
      expected = finished 16 32 0 0 (0xC3 ∷ 0x0F ∷ 0x1F ∷ 0x80 ∷ 0 ∷ 0 ∷ 0 ∷ 0 ∷ 1 ∷ 2 ∷ 3 ∷ 4 ∷ 5 ∷ 6 ∷ 7 ∷ 8 ∷ []);
    }
    ∷ record {
      recording = pooled arch_a64 (constant (bytes_of 0xD65F03C0) [] (1 ∷ 2 ∷ 3 ∷ 4 ∷ 5 ∷ 6 ∷ 7 ∷ 8 ∷ []));
      from = 4;
      count = 12;
      expected = finished 16 32 0 0 (0 ∷ 0 ∷ 0 ∷ 0 ∷ 1 ∷ 2 ∷ 3 ∷ 4 ∷ 5 ∷ 6 ∷ 7 ∷ 8 ∷ []);
    }
    ∷ record {
      recording = pooled arch_x64 (constant (replicate 5 0) (jmp 0 0 ∷ []) (1 ∷ 2 ∷ 3 ∷ 4 ∷ 5 ∷ 6 ∷ 7 ∷ 8 ∷ 9 ∷ []));
      from = 0;
      count = 25;
      expected =
          finished 25 32 1 0
          (0xEB ∷ 0x0E ∷ 0x66 ∷ 0x0F ∷ 0x1F ∷ 0x84 ∷ 0 ∷ 0 ∷ 0 ∷ 0 ∷ 0 ∷ 0x0F ∷ 0x1F ∷ 0x44 ∷ 0 ∷ 0 ∷ 1 ∷ 2 ∷ 3 ∷ 4 ∷ 5 ∷ 6 ∷ 7 ∷ 8 ∷ 9 ∷ []);
    }
    ∷ record {
      recording = pooled arch_x64 (constant (0x90 ∷ []) [] (replicate 32 1));
      from = 15;
      count = 2;
      expected = finished 48 32 0 0 (0 ∷ 1 ∷ []);
    }
    ∷ record {
      recording = pooled arch_x64 (constant (0x90 ∷ []) [] (replicate 33 1));
      from = 63;
      count = 2;
      expected = finished 97 64 0 0 (0 ∷ 1 ∷ []);
    }
    ∷ record {
      recording = pooled arch_x64 (constant (replicate 64 0) (jmp 0 0 ∷ []) (replicate 64 1));
      from = 0;
      count = 2;
      expected = finished 128 64 1 0 (0xEB ∷ 0x3E ∷ []);
    }
    ∷ record {
      recording = zeros 8 (jmp 0 0 ∷ aligned 8 0 8 5 ∷ []) (8 ∷ []);
      from = 0;
      count = 8;
      expected = finished 8 32 1 0 (0xEB ∷ 0x06 ∷ 0 ∷ 0 ∷ 0 ∷ 0x0F ∷ 0x1F ∷ 0 ∷ []);
    }
    ∷ record {
      recording = zeros 8 (jmp 0 0 ∷ aligned 8 0 8 2 ∷ []) (8 ∷ []);
      from = 0;
      count = 5;
      expected = finished 5 32 1 0 (0xEB ∷ 0x03 ∷ 0 ∷ 0 ∷ 0 ∷ []);
    }
    ∷ record {
      recording = zeros 8 (jmp 0 0 ∷ aligned 7 1 8 1 ∷ []) (8 ∷ []);
      from = 0;
      count = 4;
      expected = finished 4 32 1 0 (0xEB ∷ 0x02 ∷ 0 ∷ 0 ∷ []);
    }
    ∷ record {
      recording = zeros 136 (jmp 0 0 ∷ aligned 5 3 8 3 ∷ []) (136 ∷ []);
      from = 0;
      count = 8;
      expected = finished 136 32 2 1 (0xE9 ∷ 0x83 ∷ 0 ∷ 0 ∷ 0 ∷ 0x0F ∷ 0x1F ∷ 0 ∷ []);
    }
    ∷ record {
      recording = zeros 131 (jmp 0 0 ∷ aligned 9 0 8 2 ∷ []) (131 ∷ []);
      from = 0;
      count = 5;
      expected = finished 131 32 2 1 (0xE9 ∷ 0x7E ∷ 0 ∷ 0 ∷ 0 ∷ []);
    }
    ∷ []
