-- The round trip. What the writer accepts is read back as offset, type, symbol and addend, entry by entry (`written_reads_back`); what the reader accepts,
-- written again, gives the same bytes (`read_again`, and through the writer `read_writes_again`).
use Rattle.std.proofs.Common.{◌≡◌, ℕ, zero, suc, ◌+◌, ◌-◌, ◌*◌, ◌/◌, ◌%◌, ◌<◌, ◌≤◌, Bool, true, false, eqb, ltb, List, [], ◌∷◌, length, get_or, take, sym, refl, ap, ◌∙◌, add-one, arith, eq-eqb, eqb-true}
use borrow.Author.Tests.{eqb-false}
use Rattle.refusals.specs.Numbers as refusals
use Rattle.seqs.specs.Over.{over}
use Rattle.seqs.specs.Pick.{pick}
use Rattle.seqs.proofs.Booleans.{both_true}
use Rattle.seqs.proofs.Every.{all_of, all_at}
use Rattle.seqs.proofs.Overwrites.{over_all, over_nil, take_over_front}
use Rattle.seqs.proofs.Picking.{passed, no_not, yes_lt, no_lt, yes_eq}
use Rattle.seqs.proofs.Scans.{each_none}
use Rattle.words.specs.Words.{word_at, bytes_of_all, over_words}
use Rattle.words.proofs.Laws.{word_at_small}
use Rattle.words.proofs.Entries.{set_words, six_words, length_bytes_of_all, word_at_bytes_of_all, words_over}
use Rattle.fields.specs.Words64.{modulus, plus}
use Rattle.buffer.specs.State.{label_target}
use Rattle.buffer.specs.Tables.{most_entries, reloc_size}
use Rattle.recording.specs.View.{Relocation, reloc_at}
use Rattle.pool.proofs.Turns.{set_word_same}
use Rattle.finish.specs.declared.CodeBufferFinalized.{CodeBufferFinalized}
use Rattle.elf.specs.declared.Rela.{Rela}
use Rattle.elf.specs.Elf.{
  rela_words,
  rela_size,
  no_type,
  elf_type_of,
  type_listed,
  words_of_rela,
  rela_at,
  joined,
  rela_of,
  why_no_rela,
  why_no_relas,
  why_not_written,
  words_of_relas,
  write_relas,
  words_of_entry,
  readable,
  relas_fit,
  why_not_read,
  read_relas,
}
use Rattle.elf.proofs.Entries.{length_joined, put_one, joined_at, joined_same}
use Rattle.elf.proofs.Listed.{type_listed_lem, type_small}
use Rattle.elf.proofs.Answers.{write_passed, read_passed}

-- a table of bytes
abbrev pub Bytes : List ℕ → Type 0
Bytes table = (i : ℕ) → get_or table i 0 < 256

-- an entry of three words and an addend of two, whose type is listed
pub record Sound (e : Rela) : Type 0 where
  pub offset : e.offset < 4294967296
  pub symbol : e.symbol < 4294967296
  pub addend : e.addend < modulus
  pub elf_type : e.elf_type < 4294967296
  pub listed : type_listed e.elf_type ≡ true

halves : (a : ℕ) → a % 4294967296 + a / 4294967296 * 4294967296 ≡ a
halves a = omega arith

-- Entries as bytes, and what is read of them.
module _ (f : ℕ → Rela) (n : ℕ) (sound : (i : ℕ) → i < n → Sound (f i)) where
  abbrev words : List ℕ
  words = joined (λ (i : ℕ). words_of_rela (f i)) n

  abbrev relas : List ℕ
  relas = bytes_of_all words

  length_relas : length relas ≡ n * rela_size
  length_relas = length_bytes_of_all words ∙ omega (arith, length_joined (λ (i : ℕ). words_of_rela (f i)) (λ i. refl) n)

  word_of : (i j : ℕ) → i < n → j < rela_words → get_or (words_of_rela (f i)) j 0 < 4294967296 → word_at relas (i * rela_words + j) ≡ get_or (words_of_rela (f i)) j 0
  word_of i j h k small =
      let at = joined_at (λ (m : ℕ). words_of_rela (f m)) (λ m. refl) n i j h k in
      word_at_bytes_of_all words (i * rela_words + j) (omega (arith, length_joined (λ (m : ℕ). words_of_rela (f m)) (λ m. refl) n)) (rw at small) ∙ at

  high_of : (i : ℕ) → i < n → word_at relas (i * rela_words + 1) ≡ 0
  high_of i h = word_of i 1 h (omega arith) (omega arith)

  type_of : (i : ℕ) → i < n → word_at relas (i * rela_words + 2) ≡ (f i).elf_type
  type_of i h = word_of i 2 h (omega arith) (sound i h).elf_type

  -- each entry is read as it was
  rela_at_of : (i : ℕ) → i < n → rela_at relas i ≡ f i
  rela_at_of i h =
      let e = f i in
      let s = sound i h in
      let first : i * rela_words + 0 ≡ i * rela_words = omega arith in
      let offset : word_at relas (i * rela_words) ≡ e.offset = rw first at (word_of i 0 h (omega arith) s.offset) in
      let symbol = word_of i 3 h (omega arith) s.symbol in
      let low = word_of i 4 h (omega arith) (omega arith) in
      let high = word_of i 5 h (omega arith) (omega (arith, s.addend)) in
      rw (offset, type_of i h, symbol, low, high, halves e.addend)

  relas_fit_lem : relas_fit relas ≡ true
  unfolding relas_fit readable
  relas_fit_lem =
      let count : length relas / rela_size ≡ n = omega (arith, length_relas) in
      let whole : length relas % rela_size ≡ 0 = omega (arith, length_relas) in
      rw (eq-eqb (length relas % rela_size) 0 whole, count)
      (all_of (readable relas) n (λ i h. rw (high_of i h, type_of i h) (sound i h).listed))

  -- Entries written as bytes are read back into a table that has room.
  entries_read_back : (table : List ℕ) → n ≤ length table / reloc_size → length table / reloc_size ≤ most_entries
      → read_relas relas table ≡ (0, over_words table (joined (λ (i : ℕ). words_of_entry (f i)) n))
  unfolding read_relas why_not_read
  entries_read_back table room within =
      let count : length relas / rela_size ≡ n = omega (arith, length_relas) in
      let accepted : why_not_read relas (length table / reloc_size) ≡ 0 =
      no_not _ refusals.malformed _ relas_fit_lem
      ∙ no_lt most_entries (length table / reloc_size) refusals.past_limit _ within
      ∙ no_lt (length table / reloc_size) (length relas / rela_size) refusals.table_full 0 (omega (arith, count, room)) in
      yes_eq _ 0 _ _ accepted
      ∙ rw count
      (ap (λ (ws : List ℕ). (0, over_words table ws))
      (joined_same (λ (i : ℕ). words_of_entry (rela_at relas i)) (λ (i : ℕ). words_of_entry (f i)) n (λ i h. ap words_of_entry (rela_at_of i h))))

-- what a call that answers 0 has come to
answered : (why : ℕ) (x y : ℕ × List ℕ) → y.0 ≡ why → (pick (eqb why 0) x y).0 ≡ 0 → why ≡ 0
unfolding pick
answered why x y refused h = by (eqb why 0) refl h
  where
    by : (t : Bool) → eqb why 0 ≡ t → (pick t x y).0 ≡ 0 → why ≡ 0
    by true e p = eqb-true why 0 e
    by false e p = sym refused ∙ p

module _ (code : CodeBufferFinalized) (labels relocs : List ℕ) (section : ℕ) (output : List ℕ) where
  -- the entry that the writer makes of relocation i
  abbrev entry : ℕ → Rela
  entry i = rela_of code.arch labels section (reloc_at relocs i)

  write_answered : (write_relas code labels relocs section output).0 ≡ 0 → why_not_written code labels relocs (length output) ≡ 0
  unfolding write_relas
  write_answered h = answered (why_not_written code labels relocs (length output)) _ _ refl h

  write_leaves : why_not_written code labels relocs (length output) ≡ 0
      → write_relas code labels relocs section output ≡ (0, over_words output (words_of_relas code.arch labels section relocs code.relocs))
  unfolding write_relas
  write_leaves h = yes_eq _ 0 _ _ h

  -- each entry that is written is sound, where what is lent is bytes
  entry_sound : Bytes relocs → section < 4294967296 → why_no_relas code.arch labels relocs code.relocs ≡ 0 → (i : ℕ) → i < code.relocs → Sound (entry i)
  unfolding why_no_relas why_no_rela rela_of pick
  entry_sound small named none i h =
      let r = reloc_at relocs i in
      let typed = (passed _ refusals.no_elf_type _ (λ e. omega arith) (each_none (λ (j : ℕ). why_no_rela code.arch labels (reloc_at relocs j)) code.relocs none i h)).0 in
      record {
        offset = word_at_small relocs (i * rela_words) small;
        symbol = symbol_small (ltb r.target label_target);
        addend = omega arith;
        elf_type = type_small code.arch r.kind;
        listed = type_listed_lem code.arch r.kind (eqb-false _ no_type typed);
      }
    where
      symbol_small : (t : Bool) → pick t (reloc_at relocs i).target section < 4294967296
      symbol_small true = word_at_small relocs (i * rela_words + 2) small
      symbol_small false = named

  -- What the writer accepts is read back, entry by entry: its offset, its type, the symbol or the section's, the addend or the sum.
  pub written_reads_back : Bytes relocs → section < 4294967296 → (write_relas code labels relocs section output).0 ≡ 0 → (table : List ℕ)
      → code.relocs ≤ length table / reloc_size → length table / reloc_size ≤ most_entries
      → read_relas (take (code.relocs * rela_size) (write_relas code labels relocs section output).1) table
      ≡ (0, over_words table (joined (λ (i : ℕ). words_of_entry (entry i)) code.relocs))
  written_reads_back small named h table room within =
      let why = write_answered h in
      let w = write_passed code labels relocs (length output) why in
      let ws = words_of_relas code.arch labels section relocs code.relocs in
      let sound = entry_sound small named w.none in
      let size : length (bytes_of_all ws) ≡ code.relocs * rela_size = length_relas entry code.relocs sound in
      let front : take (code.relocs * rela_size) (over_words output ws) ≡ bytes_of_all ws =
      rw (← size) (take_over_front output (bytes_of_all ws) (omega (arith, size, w.output))) in
      rw (write_leaves why, front) (entries_read_back entry code.relocs sound table room within)

-- six words written over themselves
words_again : (t : List ℕ) (k : ℕ) → Bytes t
    → set_words t k (word_at t k ∷ word_at t (k + 1) ∷ word_at t (k + 2) ∷ word_at t (k + 3) ∷ word_at t (k + 4) ∷ word_at t (k + 5) ∷ []) ≡ t
words_again t k small =
    sym (six_words t k _ _ _ _ _ _)
    ∙ rw (set_word_same t k small, set_word_same t (k + 1) small, set_word_same t (k + 2) small, set_word_same t (k + 3) small, set_word_same t (k + 4) small, set_word_same t (k + 5) small)

-- The other way. An entry that is read and written again is the bytes that it was.
entry_again : (relas : List ℕ) (i : ℕ) → Bytes relas → readable relas i ≡ true → over relas (i * rela_size) (bytes_of_all (words_of_rela (rela_at relas i))) ≡ relas
unfolding readable
entry_again relas i small fit =
    let k = i * rela_words in
    let at : k * 4 ≡ i * rela_size = omega arith in
    let low = word_at_small relas (k + 4) small in
    let high = word_at_small relas (k + 5) small in
    let zero_word = eqb-true (word_at relas (k + 1)) 0 (both_true (eqb (word_at relas (k + 1)) 0) _ fit).0 in
    let addend_low : (word_at relas (k + 4) + word_at relas (k + 5) * 4294967296) % 4294967296 ≡ word_at relas (k + 4) = omega arith in
    let addend_high : (word_at relas (k + 4) + word_at relas (k + 5) * 4294967296) / 4294967296 ≡ word_at relas (k + 5) = omega arith in
    let held = word_at relas k ∷ word_at relas (k + 1) ∷ word_at relas (k + 2) ∷ word_at relas (k + 3) ∷ word_at relas (k + 4) ∷ word_at relas (k + 5) ∷ [] in
    let same : words_of_rela (rela_at relas i) ≡ held = rw (addend_low, addend_high, zero_word) in
    ap (λ (ws : List ℕ). over relas (i * rela_size) (bytes_of_all ws)) same
    ∙ ap (λ (n : ℕ). over relas n (bytes_of_all held)) (sym at)
    ∙ sym (words_over relas k held)
    ∙ words_again relas k small

entries_again : (relas : List ℕ) (n : ℕ) → Bytes relas → ((i : ℕ) → i < n → readable relas i ≡ true)
    → over_words relas (joined (λ (i : ℕ). words_of_rela (rela_at relas i)) n) ≡ relas
entries_again relas zero small fit = over_nil relas 0
entries_again relas (suc n) small fit =
    let f : ℕ → List ℕ = λ i. words_of_rela (rela_at relas i) in
    let before = entries_again relas n small (λ i h. fit i (omega arith)) in
    ap (λ (m : ℕ). over_words relas (joined f m)) (sym (add-one n))
    ∙ sym (put_one f (λ i. refl) relas n)
    ∙ ap (λ (l : List ℕ). over l (n * rela_size) (bytes_of_all (f n))) before
    ∙ entry_again relas n small (fit n (omega arith))

-- What the reader accepts, written again entry by entry, gives the same bytes.
pub read_again : (relas table : List ℕ) → Bytes relas → (read_relas relas table).0 ≡ 0
    → bytes_of_all (joined (λ (i : ℕ). words_of_rela (rela_at relas i)) (length relas / rela_size)) ≡ relas
unfolding read_relas relas_fit
read_again relas table small h =
    let n = length relas / rela_size in
    let f : ℕ → List ℕ = λ i. words_of_rela (rela_at relas i) in
    let why = answered (why_not_read relas (length table / reloc_size)) _ _ refl h in
    let fit = both_true (eqb (length relas % rela_size) 0) _ (read_passed relas (length table / reloc_size) why).fit in
    let whole = eqb-true (length relas % rela_size) 0 fit.0 in
    let size : length (bytes_of_all (joined f n)) ≡ length relas = length_bytes_of_all (joined f n) ∙ omega (arith, length_joined f (λ i. refl) n, whole) in
    sym (over_all relas (bytes_of_all (joined f n)) size) ∙ entries_again relas n small (λ i l. all_at (readable relas) n i fit.1 l)

-- Relocation r says what entry e does, on an architecture that has its type.
pub record Says (arch : ℕ) (r : Relocation) (e : Rela) : Type 0 where
  pub offset : r.offset ≡ e.offset
  pub elf_type : elf_type_of arch r.kind ≡ e.elf_type
  pub symbol : r.target ≡ e.symbol
  pub a_symbol : r.target < label_target
  pub addend : r.addend ≡ e.addend
  pub small : e.addend < modulus

says_entry : (arch : ℕ) (labels : List ℕ) (section : ℕ) (r : Relocation) (e : Rela) → Says arch r e → rela_of arch labels section r ≡ e
unfolding rela_of
says_entry arch labels section r e s =
    let none = yes_lt {A = ℕ} r.target label_target 0 (word_at labels (r.target - label_target)) s.a_symbol in
    let same : plus r.addend 0 ≡ e.addend = omega (arith, s.addend, s.small) in
    rw (yes_lt r.target label_target r.target section s.a_symbol, none, same, s.offset, s.elf_type, s.symbol)

-- The same through the writer: relocations that say what the entries do are written as the bytes that were read.
pub read_writes_again : (relas table : List ℕ) → Bytes relas → (read_relas relas table).0 ≡ 0
    → (code : CodeBufferFinalized) (labels relocs : List ℕ) (section : ℕ) (output : List ℕ) → code.relocs ≡ length relas / rela_size
    → ((i : ℕ) → i < code.relocs → Says code.arch (reloc_at relocs i) (rela_at relas i))
    → (write_relas code labels relocs section output).0 ≡ 0 → write_relas code labels relocs section output ≡ (0, over output 0 relas)
read_writes_again relas table small h code labels relocs section output count says accepted =
    let n = length relas / rela_size in
    let written = joined_same (λ (i : ℕ). words_of_rela (entry code labels relocs section output i)) (λ (i : ℕ). words_of_rela (rela_at relas i)) code.relocs
    (λ i l. ap words_of_rela (says_entry code.arch labels section (reloc_at relocs i) (rela_at relas i) (says i l))) in
    write_leaves code labels relocs section output (write_answered code labels relocs section output accepted)
    ∙ ap (λ (l : List ℕ). (0, over output 0 l))
    (ap bytes_of_all written ∙ ap (λ (m : ℕ). bytes_of_all (joined (λ (i : ℕ). words_of_rela (rela_at relas i)) m)) count ∙ read_again relas table small h)
