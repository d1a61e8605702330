-- What is claimed of recorded padding and of joins, restated in full: a claim that is dropped, or put under a premise, is refused here.
use mathlib.Core.Path.{◌≡◌}
use mathlib.Core.Logic.{◌≢◌, ◌⊎◌}
use mathlib.Core.Bool.{true, false}
use mathlib.Core.List.{List, [], ◌∷◌, ◌++◌}
use Prim.Native.Nat.{ℕ, ◌+◌, ◌-◌, ◌*◌, ◌/◌, ◌%◌, ◌≤◌, ◌<◌}
use lib.ListN.{length, get_or}
use Rattle.seqs.specs.Pick.{pick}
use lib.Dec.{eqb, ltb}
use Rattle.words.specs.Words.{word_at, bytes_of}
use Rattle.encoder.specs.Intel.{AreNops}
use Rattle.encoder.specs.Padding.{padding_within}
use Rattle.fields.specs.declared.LabelUse.{LabelUse}
use Rattle.fields.specs.Words64.{plus, sign_extend}
use Rattle.fields.specs.Kinds.{Use, arch_a64, code_of, patch_size, decoded}
use Rattle.fields.specs.Meaning.{meaning, demanded, load_multiple, Clear}
use Rattle.relax.specs.declared.LayoutEvent.TheVariants.{Jump, Align}
use Rattle.relax.specs.declared.RelaxableJump.{RelaxableJump}
use Rattle.relax.specs.declared.Alignment.{Alignment}
use Rattle.relax.specs.declared.Segment.{Segment}
use Rattle.buffer.specs.State.{none, label_target}
use Rattle.buffer.specs.Calls.{padding}
use Rattle.recording.specs.Calls.{Word, Call, align, after_all}
use Rattle.fresh.specs.Forms.{moves}
use Rattle.fresh.specs.Pooled.{Pooled}
use Rattle.fresh.specs.Fresh.{Choice, moved}
use Rattle.fresh.specs.Rounds.{settled}
use Rattle.fresh.specs.Fill.{part}
use Rattle.join.specs.Pieces.{Lent, piece_count, piece_at, gap, base_of, cursor_at}
use Rattle.join.specs.Symbols.{symbol_at, defining_label}
use Rattle.join.specs.Join.{is_filled, piece_reloc, count_remaining_in, count_remaining}
use Rattle.join.specs.Whole.{FieldFilled, Whole}
use Rattle.wargnifla.specs.Boundary as c
use Rattle.wargnifla.specs.Sequences.{after_align, Recorded}
use Rattle.demands.specs.Reading.{Reads}
use Rattle.demands.specs.Demand2.{Bytes, use_of, ref_of, event_of, new_start, new_end, RefMisses, UseMisses, ConstantMisses, held_by, IsPadding}
use Rattle.demands.specs.Boundary.{Answer, finished_code, pooled_in}
use Rattle.demands.specs.Later.{Later}
use Rattle.demands.specs.Joining.{Handed, JoinedMeans}
use Rattle.demands.proofs.Padded.{calls_in, c_recorded_padding, c_recorded_padding_of_a_sheet}
use Rattle.demands.proofs.Joining as joining

abbrev here : ℕ → ℕ
here offset = offset

-- `wargnifla_align` answers 0 at offset `start`, then anything follows, then `wargnifla_finish` answers 0 and there is no jump.
module _ (l : c.Lent) (made : Recorded l) (m most : Word) (recorded : (c.align l.counts l.code l.events m.value most.value).0 ≡ 0)
    (f : c.Lent) (later : Later (after_align m most l) f) (ss : List Segment) (output finalized : List ℕ)
    (zero : (c.finish f ss output finalized).0 ≡ 0) (straight : moves (pooled_in f).events ≡ false) where
  abbrev start : ℕ
  start = word_at l.counts 4

  abbrev spent : ℕ
  spent = padding_within start m.value most.value

  recorded_padding_stands : ((i : ℕ) → UseMisses (pooled_in f) start spent i) → ((i : ℕ) → ConstantMisses here (pooled_in f) start spent i)
      → IsPadding (word_at l.counts 0) spent (part (finished_code (c.finish f ss output finalized)) start spent)
  recorded_padding_stands = (c_recorded_padding l made m most recorded f later ss output finalized zero straight).whole

  each_byte_of_it : (x : ℕ) → start ≤ x → x < start + spent → ((i : ℕ) → UseMisses (pooled_in f) x 1 i) → ((i : ℕ) → ConstantMisses here (pooled_in f) x 1 i)
      → get_or (finished_code (c.finish f ss output finalized)) x 0 ≡ get_or (padding (word_at l.counts 0) spent) (x - start) 0
  each_byte_of_it = (c_recorded_padding l made m most recorded f later ss output finalized zero straight).each

-- The same of an alignment among the calls of a sheet that answers 0.
module _ (l : c.Lent) (made : Recorded l) (s : List ℕ) (taken : (c.run_sheet s l).0.0 ≡ 0) (before rest : List Call) (m most : Word)
    (calls : calls_in s ≡ before ++ (align m most ∷ rest)) (f : c.Lent) (later : Later (c.run_sheet s l).1 f) (ss : List Segment) (output finalized : List ℕ)
    (zero : (c.finish f ss output finalized).0 ≡ 0) (straight : moves (pooled_in f).events ≡ false) where
  abbrev start·then : ℕ
  start·then = (after_all before (c.recording_in l)).buffer.code

  abbrev spent·then : ℕ
  spent·then = padding_within start·then m.value most.value

  recorded_padding_of_a_sheet_stands : ((i : ℕ) → UseMisses (pooled_in f) start·then spent·then i)
      → ((i : ℕ) → ConstantMisses here (pooled_in f) start·then spent·then i)
      → IsPadding (after_all before (c.recording_in l)).buffer.arch spent·then (part (finished_code (c.finish f ss output finalized)) start·then spent·then)
  recorded_padding_of_a_sheet_stands =
      (c_recorded_padding_of_a_sheet l made s taken before rest m most calls f later ss output finalized zero straight).whole

module _ {l : Lent} {code labels relocs : List ℕ} (d : Whole l code labels relocs) (k : ℕ) (known : k < piece_count l.pieces) where
  abbrev at : ℕ
  at = base_of (piece_at l.pieces k) (cursor_at l.pieces k)

  joined_bytes_stay : (i : ℕ) → i < (piece_at l.pieces k).len
      → ((j : ℕ) → j < (piece_at l.pieces k).relocs → is_filled (piece_at l.pieces k).arch (piece_reloc l.relocs (cursor_at l.pieces k) j) ≡ true
      → (i < (piece_reloc l.relocs (cursor_at l.pieces k) j).offset) ⊎ ((piece_reloc l.relocs (cursor_at l.pieces k) j).offset + 4 ≤ i))
      → get_or code (at + i) 0 ≡ get_or l.code ((cursor_at l.pieces k).code + i) 0
  joined_bytes_stay = d.bytes k known

  joined_pieces_lie_within : at + (piece_at l.pieces k).len ≤ length code
  joined_pieces_lie_within = d.within k known

  joined_gaps_are_zeros : (i : ℕ) → i < gap (piece_at l.pieces k) (cursor_at l.pieces k) → get_or code ((cursor_at l.pieces k).end + i) 0 ≡ 0
  joined_gaps_are_zeros = d.gaps k known

  joined_labels_move : (j : ℕ) → j < (piece_at l.pieces k).labels
      → word_at labels ((cursor_at l.pieces k).labels + j)
      ≡ pick (eqb (word_at l.labels ((cursor_at l.pieces k).labels + j)) none) none (at + word_at l.labels ((cursor_at l.pieces k).labels + j))
  joined_labels_move = d.moved k known

  filled_fields : (j : ℕ) → j < (piece_at l.pieces k).relocs → is_filled (piece_at l.pieces k).arch (piece_reloc l.relocs (cursor_at l.pieces k) j) ≡ true
      → FieldFilled l code labels k j
  filled_fields = d.fields k known

  relocations_remain : ((i : ℕ) → get_or l.relocs i 0 < 256) → (j : ℕ) → j < (piece_at l.pieces k).relocs
      → is_filled (piece_at l.pieces k).arch (piece_reloc l.relocs (cursor_at l.pieces k) j) ≡ false → (w : ℕ) → w < 6
      → (let r = piece_reloc l.relocs (cursor_at l.pieces k) j in
      word_at relocs ((count_remaining l.pieces l.relocs k + count_remaining_in l.relocs (piece_at l.pieces k) (cursor_at l.pieces k) j) * 6 + w)
      ≡ get_or ((at + r.offset) ∷ r.kind ∷ pick (ltb r.target label_target) r.target (r.target + (cursor_at l.pieces k).labels) ∷ 0
      ∷ r.addend % 4294967296 ∷ r.addend / 4294967296 ∷ []) w 0)
  relocations_remain bytes = d.remain bytes k known

module _ {l : Lent} {code labels : List ℕ} {k j : ℕ} (d : FieldFilled l code labels k j) where
  abbrev r·offset : ℕ
  r·offset = (piece_reloc l.relocs (cursor_at l.pieces k) j).offset

  field_names_a_label : (n : ℕ) × (i : ℕ) × (n < piece_count l.pieces) × (i < (piece_at l.pieces n).definitions)
      × (symbol_at l.definitions (cursor_at l.pieces n) i ≡ (piece_reloc l.relocs (cursor_at l.pieces k) j).target)
      × (defining_label l.definitions (cursor_at l.pieces n) i < (piece_at l.pieces n).labels)
      × (word_at labels ((cursor_at l.pieces n).labels + defining_label l.definitions (cursor_at l.pieces n) i) ≢ none)
      × (plus (base_of (piece_at l.pieces k) (cursor_at l.pieces k) + r·offset) (sign_extend 32 d.number)
      ≡ plus (word_at labels ((cursor_at l.pieces n).labels + defining_label l.definitions (cursor_at l.pieces n) i))
      (piece_reloc l.relocs (cursor_at l.pieces k) j).addend)
  field_names_a_label =
      let s = d.symbol in
      (s.number, s.entry, s.known, s.listed, s.names, s.label, s.bound, d.means)

  field_bytes_stand : (i : ℕ) → i < 4
      → ((later : ℕ) → j < later → later < (piece_at l.pieces k).relocs
      → is_filled (piece_at l.pieces k).arch (piece_reloc l.relocs (cursor_at l.pieces k) later) ≡ true
      → (r·offset + i < (piece_reloc l.relocs (cursor_at l.pieces k) later).offset) ⊎ ((piece_reloc l.relocs (cursor_at l.pieces k) later).offset + 4 ≤ r·offset + i))
      → get_or code (base_of (piece_at l.pieces k) (cursor_at l.pieces k) + (r·offset + i)) 0 ≡ get_or (bytes_of d.number) i 0
  field_bytes_stand = d.stands

-- Finish, then join: piece k of what is joined is what finish answered of f.
module _ {l : Lent} {code labels : List ℕ} {k : ℕ} {f : c.Lent} {a : Answer} (d : JoinedMeans l code labels k f a) where
  abbrev p : Pooled
  p = pooled_in f

  abbrev long : Choice
  long = (settled (pooled_in f)).choice

  abbrev from : ℕ
  from = base_of (piece_at l.pieces k) (cursor_at l.pieces k)

  abbrev label : ℕ → ℕ
  label i = word_at labels ((cursor_at l.pieces k).labels + i)

  -- no field that join fills covers one of the n bytes from x on
  abbrev Unfilled : ℕ → ℕ → Type 0
  Unfilled x n = (y : ℕ) → x ≤ y → y < x + n → (j : ℕ) → j < (piece_at l.pieces k).relocs
      → is_filled (piece_at l.pieces k).arch (piece_reloc l.relocs (cursor_at l.pieces k) j) ≡ true
      → (y < (piece_reloc l.relocs (cursor_at l.pieces k) j).offset) ⊎ ((piece_reloc l.relocs (cursor_at l.pieces k) j).offset + 4 ≤ y)

  joined_uses_mean : moves p.events ≡ false → (i : ℕ) (kind : LabelUse) → i < length p.uses → decoded (use_of p i).code ≡ Use kind
      → ((j : ℕ) → i < j → UseMisses p (use_of p i).offset (patch_size kind) j) → ((j : ℕ) → ConstantMisses here p (use_of p i).offset (patch_size kind) j)
      → Clear kind (word_at (held_by p i kind) 0) → (code_of kind ≡ 0 → word_at (held_by p i kind) 0 ≡ 0) → Unfilled (use_of p i).offset (patch_size kind)
      → (load : ℕ) → (load + from) % load_multiple kind ≡ 0
      → meaning kind (plus load (from + (use_of p i).offset)) (word_at (part code (from + (use_of p i).offset) (patch_size kind)) 0)
      ≡ demanded kind (plus load (label (use_of p i).label))
  joined_uses_mean = d.uses

  joined_refs_mean : moves p.events ≡ true → (i : ℕ) (kind : LabelUse) → i < length p.refs → decoded (ref_of p i).code ≡ Use kind
      → ((j : ℕ) → i < j → RefMisses p long (moved p long (ref_of p i).offset) (patch_size kind) j)
      → ((j : ℕ) → ConstantMisses (moved p long) p (moved p long (ref_of p i).offset) (patch_size kind) j)
      → Unfilled (moved p long (ref_of p i).offset) (patch_size kind) → (load : ℕ) → (load + from) % load_multiple kind ≡ 0
      → meaning kind (plus load (from + moved p long (ref_of p i).offset)) (word_at (part code (from + moved p long (ref_of p i).offset) (patch_size kind)) 0)
      ≡ demanded kind (plus load (plus (label (ref_of p i).label) (sign_extend 32 (ref_of p i).addend)))
  joined_refs_mean = d.refs

  joined_jumps_read : moves p.events ≡ true → (i : ℕ) (v : RelaxableJump) → i < length p.events → event_of p i ≡ Jump v
      → Unfilled (new_start p long i) (new_end p long i - new_start p long i) → (load : ℕ)
      → Reads (plus load (from + new_start p long i)) (part code (from + new_start p long i) (new_end p long i - new_start p long i)) v.cc
      (plus load (label v.label))
  joined_jumps_read = d.jumps

  joined_padding_reads : moves p.events ≡ true → (i : ℕ) (v : Alignment) → i < length p.events → event_of p i ≡ Align v
      → Unfilled (new_start p long i) (new_end p long i - new_start p long i)
      → AreNops (part code (from + new_start p long i) (new_end p long i - new_start p long i))
  joined_padding_reads = d.padding

  joined_rest_stays : moves p.events ≡ false → (x n : ℕ) → x + n ≤ (piece_at l.pieces k).len → Unfilled x n → ((j : ℕ) → UseMisses p x n j)
      → ((j : ℕ) → ConstantMisses here p x n j) → part code (from + x) n ≡ part p.code x n
  joined_rest_stays = d.copied

-- At the C function.
module _ (l : Lent) (output labels relocs finalized : List ℕ) (zero : (c.join l output labels relocs finalized).0 ≡ 0) where
  abbrev left : List ℕ × (List ℕ × List ℕ)
  left = (c.join l output labels relocs finalized).1.0

  c_join_holds : Whole l left.0 left.1.0 left.1.1
  c_join_holds = joining.c_join_holds l output labels relocs finalized zero

  c_join_pages : (k : ℕ) → k < piece_count l.pieces → (piece_at l.pieces k).arch ≡ arch_a64 → (load : ℕ) → load % 4096 ≡ 0 → (kind : LabelUse)
      → (load + base_of (piece_at l.pieces k) (cursor_at l.pieces k)) % load_multiple kind ≡ 0
  c_join_pages = joining.c_join_pages l output labels relocs finalized zero

  c_finish_then_join : (f : c.Lent) (ss : List Segment) (finished written : List ℕ) → Bytes f.counts → Bytes f.code
      → (k : ℕ) → Handed l k f (c.finish f ss finished written) → JoinedMeans l left.0 left.1.0 k f (c.finish f ss finished written)
  c_finish_then_join f ss finished written counts code k handed =
      joining.c_finish_then_join f ss finished written counts code l output labels relocs finalized zero k handed
