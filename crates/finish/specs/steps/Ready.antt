-- What the stages of finish are handed once the entries are checked and the pool's labels are bound in the table of labels.
use Rattle.std.specs.Prelude.{◌≡◌, ◌⊎◌, Bool, not, List, [], ◌∷◌, ℕ, ◌+◌, ◌*◌, ◌≤◌, ◌<◌, eqb, ltb, length, take}
use Rattle.refusals.specs.Numbers as refusals
use Rattle.seqs.specs.Pick.{pick, first}
use Rattle.seqs.specs.Over.{over}
use Rattle.words.specs.Words.{word_at}
use Rattle.recording.specs.Sound.{start_at, end_at, CodeSound, LabelSound, EventsSound, UsesSound, RefsSound, RelocsSound}
use Rattle.relax.specs.declared.Segment.{Segment}
use Rattle.relax.specs.Events.{event_at, event_size}
use Rattle.buffer.specs.declared.CodeBuffer.{CodeBuffer}
use Rattle.buffer.specs.Tables.{most_entries, most_code, label_size, use_words, use_size, ref_size}
use Rattle.buffer.specs.steps.Count.{NamersFit, open_count}
use Rattle.recording.specs.Calls.{Recording}
use Rattle.recording.specs.View.{Use, entries, use_at, ref_at, reloc_at}
use Rattle.fresh.specs.Pooled.{Pooled}
use Rattle.fresh.specs.Fill.{in_place}
use Rattle.fresh.specs.Segments.{map_offset}
use Rattle.fresh.specs.steps.Runs.{runs}
use Rattle.fresh.specs.Forms.{moves}
use Rattle.pool.specs.steps.Pool.{label_at, pool_start, pool_offset, pool_bytes, pool_written, pool_unbound, pool_alignment, PoolFits, PoolLabels, PoolRoom}
use Rattle.layout.specs.steps.Layout.{Rising}
use Rattle.emit.specs.steps.Emit.{uses_filled, refs_filled, jumps_filled, Emits, UsesFit, RefsFit, JumpsFit, WordsFit}
use Rattle.checks.specs.steps.Fields.{refs_clear}
use Rattle.checks.specs.steps.Search as search
use Rattle.finish.specs.Refusals.{all_bound, why_not_in_place}
use Rattle.finish.specs.Finish.{Finished, Outcome, Left, refused_with, relaxed, unrelaxed, finished_with, unfinished, finish}
use Rattle.finish.specs.steps.Tables.{tables_pooled, laid_pooled}

-- a label as recordings leave it, or one of the pool
abbrev pub Landed : List ℕ → ℕ → ℕ → List ℕ → List ℕ → ℕ → ℕ → Type 0
Landed events n len constants asked m offset = LabelSound events n len offset ⊎ ((j : ℕ) × (j < m) × (offset ≡ pool_offset len constants asked j))

pub record Ready (code labels events constants asked : List ℕ) (arch len count n m : ℕ) : Type 0 where
  pub bytes : CodeSound code len
  pub recorded : EventsSound events n count len arch
  pub pool : PoolFits constants asked m
  pub named : PoolLabels labels constants asked m
  pub owned : (j : ℕ) → j < m → label_at constants asked j < count
  pub stands : (j : ℕ) → j < m → word_at labels (label_at constants asked j) ≡ pool_offset len constants asked j
  pub room : count * label_size ≤ length labels
  pub limit : count ≤ most_entries
  pub landed : (l : ℕ) → l < count → Landed events n len constants asked m (word_at labels l)

-- the tables that name labels, with their entries checked
pub record Entered (labels events uses refs relocs : List ℕ) (arch symbols len count n u f l : ℕ) : Type 0 where
  pub room : count * label_size ≤ length labels
  pub recorded : EventsSound events n count len arch
  pub used : UsesSound uses u arch count
  pub referred : RefsSound refs f arch count
  pub relocated : RelocsSound relocs l arch symbols count

-- refs, events in order, and the pool's labels bound: what 17 is judged by
pub record Clearing (refs events labels constants asked : List ℕ) (f n m code end : ℕ) : Type 0 where
  pub refs_room : f * ref_size ≤ length refs
  pub events_room : n * event_size ≤ length events
  pub few : n ≤ most_entries
  pub pool_few : m ≤ most_entries
  pub ends : end ≡ pool_start code constants asked m
  pub ordered : search.Ordered (start_at events) (end_at events) n
  pub placed : search.Placed labels constants asked code m

-- where the recorded code ends in the output
abbrev pub end_of_runs : ℕ → List ℕ → List ℕ → List Bool → ℕ → ℕ → ℕ
end_of_runs arch code events long len n = length (runs arch 0 0 (take len code) (entries (event_at events) n) long)

-- the output once all is written, in the order of the calls
abbrev pub code_written : ℕ → List ℕ → List ℕ → List ℕ → List ℕ → List ℕ → List ℕ → List ℕ → List Bool → List Segment → ℕ → ℕ → ℕ → ℕ → List ℕ
code_written arch output code labels events refs constants asked long ss len n m f =
    let to = end_of_runs arch code events long len n in
    let placed = over output 0 (runs arch 0 0 (take len code) (entries (event_at events) n) long) in
    let laid = over placed to (pool_bytes arch to constants asked m) in
    pool_written (jumps_filled (refs_filled laid refs labels ss (n + m) f) events labels long ss n) labels constants asked m

-- what the code is written from: a layout of a choice of long jumps in the table, labels at their new offsets, and an output that has room. `to` is where
-- the recorded code ends in the output.
pub record Writing (output code labels events refs constants asked : List ℕ) (long : List Bool) (ss : List Segment) (arch len n m f to : ℕ) : Type 0 where
  pub small : len ≤ most_code
  pub rising : Rising ss n
  pub rising_all : Rising ss (n + m)
  pub emits : Emits output code events long ss n len arch
  pub ends : map_offset (take n ss) len ≡ to
  pub near : to ≤ most_code
  pub pool : PoolFits constants asked m
  pub pooled : pool_start to constants asked m ≤ length output
  pub filled : RefsFit (length output) refs labels ss (n + m) f
  pub jumped : JumpsFit (length output) events labels long ss n
  pub named : PoolLabels labels constants asked m
  pub written : PoolRoom output labels constants asked m

-- the output once the code is copied, in the order of the calls
abbrev pub code_copied : List ℕ → List ℕ → List ℕ → List ℕ → List ℕ → List ℕ → ℕ → ℕ → ℕ → ℕ → List ℕ
code_copied output code labels uses constants asked arch len u m =
    let laid = over (over output 0 (take len code)) len (pool_bytes arch len constants asked m) in
    pool_written (uses_filled laid uses labels u) labels constants asked m

-- what it is copied from, into an output that has room
pub record Copying (output code labels uses constants asked : List ℕ) (len u m : ℕ) : Type 0 where
  pub coded : len ≤ length code
  pub small : len ≤ most_code
  pub pool : PoolFits constants asked m
  pub pooled : pool_start len constants asked m ≤ length output
  pub room : len ≤ length output
  pub used : UsesFit (length output) uses labels u
  pub named : PoolLabels labels constants asked m
  pub written : PoolRoom output labels constants asked m

-- what a finish with a jump is handed
pub record Relaxable (code labels events refs constants asked relocs output : List ℕ) (segments arch len count n m f l : ℕ) : Type 0 where
  pub ready : Ready code labels events constants asked arch len count n m
  pub referred : RefsSound refs f arch count
  pub moved : WordsFit relocs 6 l
  pub few : n ≤ most_entries
  pub segments_limit : segments ≤ most_entries
  pub output_limit : length output ≤ most_code

-- what a layout is handed: nothing refused it
pub record Layable (code labels events refs constants asked relocs output : List ℕ) (segments arch len count n m f l : ℕ) : Type 0 where
  pub relaxable : Relaxable code labels events refs constants asked relocs output segments arch len count n m f l
  pub unrefused : 0 ≡ first ((ltb segments (n + m), refusals.too_few_segments) ∷ (not (refs_clear refs f events n len constants asked m), refusals.ref_overlaps) ∷ [])

-- what one without a jump is handed
pub record Keepable (code labels uses constants asked : List ℕ) (len count u m : ℕ) : Type 0 where
  pub bytes : CodeSound code len
  pub pool : PoolFits constants asked m
  pub named : PoolLabels labels constants asked m
  pub stands : (j : ℕ) → j < m → word_at labels (label_at constants asked j) ≡ pool_offset len constants asked j
  pub room : count * label_size ≤ length labels
  pub used_room : u * use_size ≤ length uses
  pub known : (i : ℕ) → i < u → word_at uses (i * use_words + 1) < count

-- what it answers, and leaves of the output
unfoldable pub kept : Pooled → List ℕ → Outcome × List ℕ
kept p output =
    let why = why_not_in_place p (length output) in
    pick (eqb why 0) (record { refusal = 0; len = length p.code; layouts = 0 }, over output 0 (in_place p)) (refused_with why, output)

-- what both are handed; where nothing was open before the pool's labels were bound, nothing is
pub record Placeable (b : CodeBuffer) (code labels events uses refs constants asked relocs output : List ℕ) (segments : ℕ) : Type 0 where
  pub ready : Ready code labels events constants asked b.arch b.code b.labels b.events b.asked
  pub entered : Entered labels events uses refs relocs b.arch b.symbols b.code b.labels b.events b.uses b.refs b.relocs
  pub namers : NamersFit b events uses refs relocs
  pub settled : b.unresolved ≡ 0 → open_count b labels events uses refs relocs ≡ 0
  pub segments_limit : segments ≤ most_entries
  pub output_limit : length output ≤ most_code

-- the pooled recording of what is lent
abbrev pub pooled_of : CodeBuffer → List ℕ → List ℕ → List ℕ → List ℕ → List ℕ → List ℕ → List ℕ → Pooled
pooled_of b code labels events uses refs constants asked =
    tables_pooled b.arch b.code (take b.code code) (entries (word_at labels) b.labels) (entries (event_at events) b.events) (entries (use_at uses) b.uses)
    (entries (ref_at refs) b.refs) constants asked b.asked

-- what is answered and left, where the table of labels has the pool's labels bound
unfoldable pub placed_as : Pooled → CodeBuffer → List ℕ → List ℕ → List Segment → List ℕ → Outcome × Left
placed_as p b labels relocs ss output =
    pick (all_bound p (entries (reloc_at relocs) b.relocs))
    (pick (moves p.events) (relaxed p b.relocs labels relocs ss output) (unrelaxed p labels relocs ss output))
    (refused_with refusals.unbound_label, (labels, (relocs, (ss, output))))

-- what is left before a layout that is to be made: the output is as it was, and what is then relaxed is what is placed
pub record Starts (b : CodeBuffer) (code labels events uses refs constants asked relocs output left : List ℕ) (segments : ℕ) : Type 0 where
  pub kept : left ≡ output
  pub relaxable : Relaxable code labels events refs constants asked relocs output segments b.arch b.code b.labels b.events b.asked b.refs b.relocs
  pub laid : 0 ≡ first ((ltb segments (b.events + b.asked), refusals.too_few_segments) ∷ (not (refs_clear refs b.refs events b.events b.code constants asked b.asked), refusals.ref_overlaps) ∷ [])
  pub placed : (ss : List Segment) (x : Outcome × Left)
      → ((us : List Use) → x ≡ relaxed (laid_pooled b.arch b.code (take b.code code) (entries (word_at labels) b.labels) (entries (event_at events) b.events) us (entries (ref_at refs) b.refs) constants asked b.asked) b.relocs labels relocs ss output)
      → x ≡ placed_as (pooled_of b code labels events uses refs constants asked) b labels relocs ss output

-- the answer and the labels once a recording is placed: one that is refused gets the pool's labels back
unfoldable pub concluded : CodeBuffer → List ℕ → List ℕ → Outcome → List ℕ → Finished × List ℕ
concluded b constants asked placed labels =
    pick (eqb placed.refusal 0) (finished_with b (pool_alignment constants asked b.asked) placed, labels) (unfinished b placed.refusal, pool_unbound labels constants asked b.asked)

-- what finish leaves before a layout that is to be made: what is then relaxed and concluded is what finish answers and leaves
pub record Begins (r : Recording) (labels output left : List ℕ) (segments : ℕ) : Type 0 where
  pub kept : left ≡ output
  pub relaxable : Relaxable r.code labels r.events r.refs r.constants r.asked r.relocs output segments r.buffer.arch r.buffer.code r.buffer.labels r.buffer.events r.buffer.asked r.buffer.refs r.buffer.relocs
  pub laid : 0 ≡ first ((ltb segments (r.buffer.events + r.buffer.asked), refusals.too_few_segments) ∷ (not (refs_clear r.refs r.buffer.refs r.events r.buffer.events r.buffer.code r.constants r.asked r.buffer.asked), refusals.ref_overlaps) ∷ [])
  pub concludes : (ss : List Segment) → length ss ≡ segments → (placed : Outcome) (x : Left)
      → ((us : List Use) → (placed, x) ≡ relaxed (laid_pooled r.buffer.arch r.buffer.code (take r.buffer.code r.code) (entries (word_at labels) r.buffer.labels) (entries (event_at r.events) r.buffer.events) us (entries (ref_at r.refs) r.buffer.refs) r.constants r.asked r.buffer.asked) r.buffer.relocs labels r.relocs ss output)
      → (f : Finished) (back : List ℕ) → (f, back) ≡ concluded r.buffer r.constants r.asked placed x.0 → (f, (back, x.1)) ≡ finish r ss output
