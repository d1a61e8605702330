-- What crosses the boundary: counts and the record as words in lent bytes, and each call between reading and writing them.
use mathlib.Core.Path.{◌≡◌, sym, ap, ◌∙◌}
use mathlib.Core.List.{List, [], ◌∷◌}
use Prim.Native.Nat.{ℕ, ◌+◌, ◌*◌, ◌≤◌, ◌<◌}
use lib.ListN.{length}
use Rattle.std.specs.Prelude.{Result, Ok, Err}
use Rattle.refusals.specs.declared.Refusal.{Refusal}
use Rattle.seqs.specs.Over.{over}
use Rattle.seqs.proofs.Overwrites.{over_append}
use Rattle.seqs.proofs.Picking.{yes_lt, no_lt}
use Rattle.words.specs.Words.{bytes_of, set_word, bytes_of_all, over_words}
use Rattle.words.proofs.Entries.{four_words, words_over}
use Rattle.relax.specs.declared.Segment.{Segment}
use Rattle.buffer.specs.declared.CodeBuffer.{CodeBuffer}
use Rattle.buffer.specs.State.{Recorded, Made}
use Rattle.buffer.specs.Calls as calls
use Rattle.recording.specs.Calls.{Recording}
use Rattle.checks.specs.Lent.{recording_of}
use Rattle.finish.specs.declared.CodeBufferFinalized.{CodeBufferFinalized}
use Rattle.finish.specs.Finish as finishing
use Rattle.finish.specs.Finish.{Finished, finished_by}
use Rattle.join.specs.Join.{Joined, joined_as}
use Rattle.join.specs.Pieces as joining
use Rattle.join.specs.Join as joins
use Rattle.elf.specs.Elf as elf
use Rattle.sheet.specs.Run as sheets
use Rattle.wargnifla.specs.Boundary.{counts_size, Lent, counts_at, counts_of, record_of, record_at, start, put_bytes, align, add_constant, add_reloc, lent_of, lent_with, run_sheet, finish, write_relas, join}

-- bytes with four words written, and as they were after each of the first three
pub record FourWritten (t : List ℕ) (k a b c d : ℕ) (one two three four : List ℕ) : Type 0 where
  pub first : one ≡ set_word t k a
  pub second : two ≡ set_word one (k + 1) b
  pub third : three ≡ set_word two (k + 2) c
  pub fourth : four ≡ set_word three (k + 3) d

pub four_over : {t : List ℕ} {k a b c d : ℕ} {one two three four : List ℕ} → FourWritten t k a b c d one two three four
    → four ≡ over t (k * 4) (bytes_of_all (a ∷ b ∷ c ∷ d ∷ []))
four_over {t} {k} {a} {b} {c} {d} w =
    rw (w.fourth, w.third, w.second, w.first) (four_words t k a b c d ∙ words_over t k (a ∷ b ∷ c ∷ d ∷ []))

pub counts_over : (t : List ℕ) (b : CodeBuffer)
    → set_word (over
    (over (over t 0 (bytes_of_all (b.arch ∷ b.symbols ∷ b.finished ∷ b.refusal ∷ []))) 16 (bytes_of_all (b.code ∷ b.labels ∷ b.events ∷ b.uses ∷ [])))
    32
    (bytes_of_all (b.refs ∷ b.constants ∷ b.asked ∷ b.relocs ∷ []))) 12 b.unresolved
    ≡ over_words t (counts_of b)
unfolding set_word
counts_over t b =
    let first = bytes_of_all (b.arch ∷ b.symbols ∷ b.finished ∷ b.refusal ∷ []) in
    let second = bytes_of_all (b.code ∷ b.labels ∷ b.events ∷ b.uses ∷ []) in
    let third = bytes_of_all (b.refs ∷ b.constants ∷ b.asked ∷ b.relocs ∷ []) in
    let two = bytes_of_all (b.arch ∷ b.symbols ∷ b.finished ∷ b.refusal ∷ b.code ∷ b.labels ∷ b.events ∷ b.uses ∷ []) in
    let three = bytes_of_all (b.arch ∷ b.symbols ∷ b.finished ∷ b.refusal ∷ b.code ∷ b.labels ∷ b.events ∷ b.uses ∷ b.refs ∷ b.constants ∷ b.asked ∷ b.relocs ∷ []) in
    ap (λ l. over (over l 32 third) 48 (bytes_of b.unresolved)) (over_append t 0 first second)
    ∙ ap (λ l. over l 48 (bytes_of b.unresolved)) (over_append t 0 two third)
    ∙ over_append t 0 three (bytes_of b.unresolved)

pub record_over : (t : List ℕ) (f : CodeBufferFinalized)
    → set_word (set_word (over t 0 (bytes_of_all (f.arch ∷ f.len ∷ f.alignment ∷ f.layouts ∷ []))) 4 f.labels) 5 f.relocs ≡ over_words t (record_of f)
unfolding set_word
record_over t f =
    let first = bytes_of_all (f.arch ∷ f.len ∷ f.alignment ∷ f.layouts ∷ []) in
    ap (λ l. over l 20 (bytes_of f.relocs)) (over_append t 0 first (bytes_of f.labels))
    ∙ over_append t 0 (bytes_of_all (f.arch ∷ f.len ∷ f.alignment ∷ f.layouts ∷ f.labels ∷ [])) (bytes_of f.relocs)

pub reloc_short : {counts relocs : List ℕ} (labels : List ℕ) (offset kind target addend : ℕ) → length counts < counts_size
    → (1, (counts, relocs)) ≡ add_reloc counts labels relocs offset kind target addend
unfolding add_reloc
reloc_short labels offset kind target addend h = sym (yes_lt _ counts_size _ _ h)

-- A relocation is added across the boundary: the counts are read as b, the call answers a, and its counts are written.
pub record RelocCrosses (counts counts' labels relocs relocs' : List ℕ) (offset kind target addend : ℕ) (b : CodeBuffer) (a : Recorded) : Type 0 where
  pub long : counts_size ≤ length counts
  pub read : b ≡ counts_at counts
  pub added : (a, relocs') ≡ calls.add_reloc b labels relocs offset kind target addend
  pub written : counts' ≡ over_words counts (counts_of a.buffer)

module _ {counts counts' labels relocs relocs' : List ℕ} {offset kind target addend : ℕ} where
  pub reloc_crosses : {b : CodeBuffer} {a : Recorded} → RelocCrosses counts counts' labels relocs relocs' offset kind target addend b a
      → (a.refusal, (counts', relocs')) ≡ add_reloc counts labels relocs offset kind target addend
  unfolding add_reloc
  reloc_crosses c =
      rw c.written
      (ap
      (λ (x : Recorded × List ℕ). (x.0.refusal, (over_words counts (counts_of x.0.buffer), x.1)))
      (c.added ∙ ap (λ (x : CodeBuffer). calls.add_reloc x labels relocs offset kind target addend) c.read)
      ∙ sym (no_lt _ counts_size _ _ c.long))

-- a recording that is lent with these counts
abbrev lending : List ℕ → Recording → Lent
lending counts r = lent_of counts r.code r.labels r.events r.uses r.refs r.constants r.asked r.relocs

pub sheet_short : (sheet : List ℕ) {l : Lent} → length l.counts < counts_size → ((1, 0), l) ≡ run_sheet sheet l
unfolding run_sheet
sheet_short sheet h = sym (yes_lt _ counts_size _ _ h)

-- A sheet is run across the boundary: the counts are read as those of r, the run leaves r', and its counts are written.
pub record SheetCrosses (sheet counts counts' : List ℕ) (r r' : Recording) (refusal index : ℕ) : Type 0 where
  pub long : counts_size ≤ length counts
  pub read : r.buffer ≡ counts_at counts
  pub ran : ((refusal, index), r') ≡ sheets.run_sheet sheet r
  pub written : counts' ≡ over_words counts (counts_of r'.buffer)

pub sheet_crosses : {sheet counts counts' : List ℕ} {r r' : Recording} {refusal index : ℕ} → SheetCrosses sheet counts counts' r r' refusal index
    → ((refusal, index), lending counts' r') ≡ run_sheet sheet (lending counts r)
unfolding run_sheet
sheet_crosses {sheet} {counts} {r = r} c =
    rw c.written
    (ap
    (λ (x : (ℕ × ℕ) × Recording). (x.0, lent_with counts x.1))
    (c.ran
    ∙ ap
    (λ (x : CodeBuffer). sheets.run_sheet sheet (recording_of x r.code r.labels r.events r.uses r.refs r.constants r.asked r.relocs))
    c.read)
    ∙ sym (no_lt _ counts_size _ _ c.long))

module _ (counts counts' : List ℕ) where
  pub start_short : (arch symbols : ℕ) → length counts < counts_size → (1, counts) ≡ start arch symbols counts
  unfolding start
  start_short arch symbols h = sym (yes_lt _ counts_size _ _ h)

  pub start_crosses : (arch symbols : ℕ) (a : Recorded) → counts_size ≤ length counts → a ≡ calls.started arch symbols → counts' ≡ over_words counts (counts_of a.buffer)
      → (a.refusal, counts') ≡ start arch symbols counts
  unfolding start
  start_crosses arch symbols a h e w = rw w (ap (λ (x : Recorded). (x.refusal, over_words counts (counts_of x.buffer))) e ∙ sym (no_lt _ counts_size _ _ h))

  module _ (code code' bytes : List ℕ) where
    pub bytes_short : length counts < counts_size → (1, (counts, code)) ≡ put_bytes counts code bytes
    unfolding put_bytes
    bytes_short h = sym (yes_lt _ counts_size _ _ h)

    pub bytes_cross : (b : CodeBuffer) (a : Recorded) → counts_size ≤ length counts → b ≡ counts_at counts → (a, code') ≡ calls.put_bytes b code bytes
        → counts' ≡ over_words counts (counts_of a.buffer) → (a.refusal, (counts', code')) ≡ put_bytes counts code bytes
    unfolding put_bytes
    bytes_cross b a h r e w =
        rw w
        (ap (λ (x : Recorded × List ℕ). (x.0.refusal, (over_words counts (counts_of x.0.buffer), x.1))) (e ∙ ap (λ (x : CodeBuffer). calls.put_bytes x code bytes) r)
        ∙ sym (no_lt _ counts_size _ _ h))

  module _ (code code' events events' : List ℕ) (multiple most : ℕ) where
    pub align_short : length counts < counts_size → (1, (counts, (code, events))) ≡ align counts code events multiple most
    unfolding align
    align_short h = sym (yes_lt _ counts_size _ _ h)

    pub align_crosses : (b : CodeBuffer) (a : Recorded) → counts_size ≤ length counts → b ≡ counts_at counts
        → (a, (code', events')) ≡ calls.align_to b code events multiple most → counts' ≡ over_words counts (counts_of a.buffer)
        → (a.refusal, (counts', (code', events'))) ≡ align counts code events multiple most
    unfolding align
    align_crosses b a h r e w =
        rw w
        (ap
        (λ (x : Recorded × (List ℕ × List ℕ)). (x.0.refusal, (over_words counts (counts_of x.0.buffer), x.1)))
        (e ∙ ap (λ (x : CodeBuffer). calls.align_to x code events multiple most) r)
        ∙ sym (no_lt _ counts_size _ _ h))

  module _ (constants constants' bytes : List ℕ) where
    pub constant_short : length counts < counts_size → (1, (counts, (constants, 4294967295))) ≡ add_constant counts constants bytes
    unfolding add_constant
    constant_short h = sym (yes_lt _ counts_size _ _ h)

    pub constant_crosses : (b : CodeBuffer) (a : Made) → counts_size ≤ length counts → b ≡ counts_at counts → (a, constants') ≡ calls.add_constant b constants bytes
        → counts' ≡ over_words counts (counts_of a.buffer) → (a.refusal, (counts', (constants', a.number))) ≡ add_constant counts constants bytes
    unfolding add_constant
    constant_crosses b a h r e w =
        rw w
        (ap
        (λ (x : Made × List ℕ). (x.0.refusal, (over_words counts (counts_of x.0.buffer), (x.1, x.0.number))))
        (e ∙ ap (λ (x : CodeBuffer). calls.add_constant x constants bytes) r)
        ∙ sym (no_lt _ counts_size _ _ h))

  module _ (code labels events uses refs constants asked relocs : List ℕ) where
    module _ (segments segments' : List Segment) (labels' relocs' output output' finalized finalized' : List ℕ) where
      pub record_short : length finalized < 24
          → (1, (counts, ((labels, (relocs, (segments, output))), finalized)))
          ≡ finish (lent_of counts code labels events uses refs constants asked relocs) segments output finalized
      unfolding finish
      record_short h = sym (yes_lt _ 24 _ _ h)

      pub finish_short : 24 ≤ length finalized → length counts < counts_size → finalized' ≡ over_words finalized (0 ∷ 0 ∷ 0 ∷ 0 ∷ 0 ∷ 0 ∷ [])
          → (1, (counts, ((labels, (relocs, (segments, output))), finalized')))
          ≡ finish (lent_of counts code labels events uses refs constants asked relocs) segments output finalized
      unfolding finish
      finish_short s h w = rw w (sym (no_lt _ 24 _ _ s ∙ yes_lt _ counts_size _ _ h))

      pub finish_crosses : (b : CodeBuffer) (a : Finished) → counts_size ≤ length counts → 24 ≤ length finalized → b ≡ counts_at counts
          → (a, (labels', (relocs', (segments', output')))) ≡ finishing.finish (recording_of b code labels events uses refs constants asked relocs) segments output
          → counts' ≡ over_words counts (counts_of a.buffer) → finalized' ≡ over_words finalized (record_of a.code)
          → (a.refusal, (counts', ((labels', (relocs', (segments', output'))), finalized')))
          ≡ finish (lent_of counts code labels events uses refs constants asked relocs) segments output finalized
      unfolding finish
      finish_crosses b a h s r e w v =
          rw (w, v)
          (ap
          (λ (x : Finished × finishing.Left). (x.0.refusal, (over_words counts (counts_of x.0.buffer), (x.1, over_words finalized (record_of x.0.code)))))
          (e ∙ ap (λ (x : CodeBuffer). finishing.finish (recording_of x code labels events uses refs constants asked relocs) segments output) r)
          ∙ sym (no_lt _ 24 _ _ s ∙ no_lt _ counts_size _ _ h))

      pub finish_answered : (b buffer : CodeBuffer) (answer : Result CodeBufferFinalized Refusal) → counts_size ≤ length counts → 24 ≤ length finalized → b ≡ counts_at counts
          → (finished_by buffer answer, (labels', (relocs', (segments', output')))) ≡ finishing.finish (recording_of b code labels events uses refs constants asked relocs) segments output
          → counts' ≡ over_words counts (counts_of buffer) → finalized' ≡ over_words finalized (record_of (joined_as answer).code)
          → ((joined_as answer).refusal, (counts', ((labels', (relocs', (segments', output'))), finalized')))
          ≡ finish (lent_of counts code labels events uses refs constants asked relocs) segments output finalized
      finish_answered b buffer (Ok whole) h s r e w v = finish_crosses b (finished_by buffer (Ok whole)) h s r e w v
      finish_answered b buffer (Err why) h s r e w v = finish_crosses b (finished_by buffer (Err why)) h s r e w v

-- relocations are written across the boundary: the record is read as `code`, and the call answers `a`
module _ (finalized labels relocs : List ℕ) (section : ℕ) (output : List ℕ) where
  pub relas_short : length finalized < 24 → (1, output) ≡ write_relas finalized labels relocs section output
  unfolding write_relas
  relas_short h = sym (yes_lt _ 24 _ _ h)

  pub relas_cross : (code : CodeBufferFinalized) (a : ℕ × List ℕ) → 24 ≤ length finalized → code ≡ record_at finalized
      → a ≡ elf.write_relas code labels relocs section output → a ≡ write_relas finalized labels relocs section output
  unfolding write_relas
  relas_cross code a h r e = e ∙ ap (λ (x : CodeBufferFinalized). elf.write_relas x labels relocs section output) r ∙ sym (no_lt _ 24 _ _ h)

-- pieces are joined across the boundary: the call answers `a` and leaves `left`
module _ (l : joining.Lent) (output labels relocs finalized : List ℕ) where
  pub join_short : length finalized < 24 → (1, ((output, (labels, relocs)), finalized)) ≡ join l output labels relocs finalized
  unfolding join
  join_short h = sym (yes_lt _ 24 _ _ h)

  pub join_crosses : (a : Joined) (left : joins.Left) (finalized' : List ℕ) → 24 ≤ length finalized → (a, left) ≡ joins.join l output labels relocs
      → finalized' ≡ over_words finalized (record_of a.code) → (a.refusal, (left, finalized')) ≡ join l output labels relocs finalized
  unfolding join
  join_crosses a left finalized' h e w =
      rw w (ap (λ (x : Joined × joins.Left). (x.0.refusal, (x.1, over_words finalized (record_of x.0.code)))) e ∙ sym (no_lt _ 24 _ _ h))
