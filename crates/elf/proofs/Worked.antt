-- Worked entries with the numbers written out: two tables, and a theorem for each.
use Rattle.std.proofs.Common.{◌≡◌, ℕ, List, [], ◌∷◌, ◌++◌, map, replicate, refl}
use Rattle.refusals.specs.Numbers as refusals
use Rattle.seqs.specs.Every.{every, all}
use Rattle.seqs.specs.Over.{over}
use Rattle.seqs.specs.Pick.{pick, first_of}
use Rattle.words.specs.Words.{word_at, bytes_of_all}
use Rattle.fields.specs.Kinds.{arch_x86, arch_x64, arch_a64}
use Rattle.buffer.specs.State.{none, label_target}
use Rattle.finish.specs.declared.CodeBufferFinalized.{CodeBufferFinalized}
use Rattle.elf.specs.Elf.{
  elf_type_of,
  type_listed,
  all_targets_bound,
  rela_of,
  why_no_rela,
  why_no_relas,
  relocs_fit,
  why_unfit,
  why_not_written,
  write_relas,
  readable,
  relas_fit,
  why_not_read,
  read_relas,
}

-- a record of an architecture, with one label
abbrev record_of : ℕ → ℕ → CodeBufferFinalized
record_of arch relocs = record { arch = arch; len = 64; alignment = 32; layouts = 0; labels = 1; relocs = relocs }

-- an addend of -4, and of 2^63 - 1
abbrev less_four : List ℕ
less_four = 4294967292 ∷ 4294967295 ∷ []

abbrev greatest : List ℕ
greatest = 4294967295 ∷ 2147483647 ∷ []

-- a label at 16, or unbound
abbrev bound : List ℕ
bound = bytes_of_all (16 ∷ [])

abbrev unbound : List ℕ
unbound = bytes_of_all (none ∷ [])

-- What is written where the section is symbol 5, over bytes of 170.
record Writing : Type 0 where
  code : CodeBufferFinalized
  labels : List ℕ
  relocs : List ℕ
  output : ℕ
  answer : ℕ
  written : List ℕ

abbrev writings : List Writing
writings =
    -- X64: at 1 Abs8 of symbol 3, less 4; at 9 X86PCRel4 of the label, less 4. Two bytes more are lent.
    record {
      code = record_of arch_x64 2;
      labels = bound;
      relocs = bytes_of_all ((1 ∷ 1 ∷ 3 ∷ 0 ∷ less_four) ++ (9 ∷ 2 ∷ label_target ∷ 0 ∷ less_four));
      output = 50;
      answer = 0;
      written = bytes_of_all (1 ∷ 0 ∷ 1 ∷ 3 ∷ 4294967292 ∷ 4294967295 ∷ 9 ∷ 0 ∷ 2 ∷ 5 ∷ 12 ∷ 0 ∷ []) ++ replicate 2 170;
    }
    -- AArch64: at 4 Arm64Call of symbol 0
    ∷ record {
      code = record_of arch_a64 1;
      labels = bound;
      relocs = bytes_of_all (4 ∷ 8 ∷ 0 ∷ 0 ∷ 0 ∷ 0 ∷ []);
      output = 24;
      answer = 0;
      written = bytes_of_all (4 ∷ 0 ∷ 283 ∷ 0 ∷ 0 ∷ 0 ∷ []);
    }
    -- no entry, and no output
    ∷ record { code = record_of arch_x64 0; labels = bound; relocs = []; output = 0; answer = 0; written = [] }
    -- no entry, and X86
    ∷ record { code = record_of arch_x86 0; labels = bound; relocs = []; output = 0; answer = refusals.no_elf_type; written = [] }
    -- X86, and Abs8 of an unbound label
    ∷ record {
      code = record_of arch_x86 1;
      labels = unbound;
      relocs = bytes_of_all (0 ∷ 1 ∷ label_target ∷ 0 ∷ 0 ∷ 0 ∷ []);
      output = 0;
      answer = refusals.malformed;
      written = [];
    }
    -- X86SecRel, then Abs8 of an unbound label
    ∷ record {
      code = record_of arch_x64 2;
      labels = unbound;
      relocs = bytes_of_all (0 ∷ 6 ∷ 0 ∷ 0 ∷ 0 ∷ 0 ∷ 0 ∷ 1 ∷ label_target ∷ 0 ∷ 0 ∷ 0 ∷ []);
      output = 0;
      answer = refusals.malformed;
      written = [];
    }
    -- Abs8 of the label and 2^63 - 1, then X86SecRel, and no output
    ∷ record {
      code = record_of arch_x64 2;
      labels = bound;
      relocs = bytes_of_all ((0 ∷ 1 ∷ label_target ∷ 0 ∷ greatest) ++ (0 ∷ 6 ∷ 0 ∷ 0 ∷ 0 ∷ 0 ∷ []));
      output = 0;
      answer = refusals.addend_overflow;
      written = [];
    }
    -- the same the other way round
    ∷ record {
      code = record_of arch_x64 2;
      labels = bound;
      relocs = bytes_of_all ((0 ∷ 6 ∷ 0 ∷ 0 ∷ 0 ∷ 0 ∷ []) ++ (0 ∷ 1 ∷ label_target ∷ 0 ∷ greatest));
      output = 0;
      answer = refusals.no_elf_type;
      written = [];
    }
    -- Abs8 of symbol 0 and 2^63 - 1, and an output that is a byte short
    ∷ record {
      code = record_of arch_x64 1;
      labels = bound;
      relocs = bytes_of_all (0 ∷ 1 ∷ 0 ∷ 0 ∷ greatest);
      output = 23;
      answer = refusals.elf_output_too_small;
      written = replicate 23 170;
    }
    ∷ []

writings_hold : map (λ (w : Writing). write_relas w.code w.labels w.relocs 5 (replicate w.output 170)) writings
    ≡ map (λ (w : Writing). (w.answer, w.written)) writings
unfolding write_relas why_not_written why_unfit relocs_fit all_targets_bound why_no_relas why_no_rela elf_type_of rela_of word_at over pick all first_of
writings_hold = refl

-- What is read, into a table of 170s.
record Reading : Type 0 where
  relas : List ℕ
  table : ℕ
  answer : ℕ
  read : List ℕ

abbrev readings : List Reading
readings =
    -- R_X86_64_64 of symbol 3, less 4, and R_AARCH64_ABS64, in one input
    record {
      relas = bytes_of_all ((1 ∷ 0 ∷ 1 ∷ 3 ∷ less_four) ++ (8 ∷ 0 ∷ 257 ∷ 4294967295 ∷ 0 ∷ 0 ∷ []));
      table = 49;
      answer = 0;
      read = bytes_of_all (1 ∷ 1 ∷ 3 ∷ 0 ∷ 4294967292 ∷ 4294967295 ∷ 8 ∷ 257 ∷ 4294967295 ∷ 0 ∷ 0 ∷ 0 ∷ []) ++ (170 ∷ []);
    }
    ∷ record { relas = []; table = 0; answer = 0; read = [] }
    ∷ record { relas = replicate 23 0; table = 0; answer = refusals.malformed; read = [] }
    -- the second of type 3, and room for one
    ∷ record {
      relas = bytes_of_all (0 ∷ 0 ∷ 1 ∷ 0 ∷ 0 ∷ 0 ∷ 0 ∷ 0 ∷ 3 ∷ 0 ∷ 0 ∷ 0 ∷ []);
      table = 24;
      answer = refusals.malformed;
      read = replicate 24 170;
    }
    -- no type, and an offset of 2^32
    ∷ record { relas = bytes_of_all (0 ∷ 0 ∷ 0 ∷ 0 ∷ 0 ∷ 0 ∷ []); table = 24; answer = refusals.malformed; read = replicate 24 170 }
    ∷ record { relas = bytes_of_all (0 ∷ 1 ∷ 1 ∷ 0 ∷ 0 ∷ 0 ∷ []); table = 24; answer = refusals.malformed; read = replicate 24 170 }
    -- a table that is a byte short
    ∷ record { relas = bytes_of_all (0 ∷ 0 ∷ 1 ∷ 0 ∷ 0 ∷ 0 ∷ []); table = 23; answer = refusals.table_full; read = replicate 23 170 }
    ∷ []

readings_hold : map (λ (r : Reading). read_relas r.relas (replicate r.table 170)) readings ≡ map (λ (r : Reading). (r.answer, r.read)) readings
unfolding read_relas why_not_read relas_fit readable type_listed word_at over pick all every
readings_hold = refl
