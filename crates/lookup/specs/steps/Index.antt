-- A coarse index into n rising offsets `key`: for each part how many of them lie before it.
use Rattle.std.specs.Prelude.{◌≡◌, Bool, true, false, List, ℕ, ◌+◌, ◌-◌, ◌/◌, ◌^◌, ◌≤◌, ◌<◌, min, max, length, get_or}

-- the entries of an index, at least, and of a large one; what an entry can count
abbrev pub index_size : ℕ
index_size = 1026

abbrev pub large_size : ℕ
large_size = 16386

abbrev pub most_keys : ℕ
most_keys = 4294967295

-- the parts that an index of a length tells apart
abbrev pub parts : ℕ → ℕ
parts size = size - 2

-- the part that an offset lies in; all that lies past the parts is one more
unfoldable pub part : ℕ → ℕ → ℕ → ℕ
part size shift x = min (x / 2 ^ shift) (parts size)

-- the offsets rise
pub record Rises (key : ℕ → ℕ) (n : ℕ) : Type 0 where
  pub rises : (i j : ℕ) → i ≤ j → j < n → key i ≤ key j

-- of n offsets the first v lie in parts before part p, and no other does
pub record Before (key : ℕ → ℕ) (n size shift p v : ℕ) : Type 0 where
  pub few : v ≤ n
  pub below : (j : ℕ) → j < v → part size shift (key j) < p
  pub above : (j : ℕ) → v ≤ j → j < n → p ≤ part size shift (key j)

-- every entry counts the offsets before its part; a slice that is too short says nothing
pub record Indexed (index : List ℕ) (key : ℕ → ℕ) (n shift : ℕ) : Type 0 where
  pub few_bits : shift < 32
  pub counts : index_size ≤ length index → (p : ℕ) → p < length index → Before key n (length index) shift p (get_or index p 0)

-- the first i of n offsets are marked: they lie in parts before part `next`, and the entries before `next` are right
pub record Filled (index : List ℕ) (key : ℕ → ℕ) (n shift i next : ℕ) : Type 0 where
  pub few_bits : shift < 32
  pub size : index_size ≤ length index
  pub most : next ≤ length index
  pub counts : (p : ℕ) → p < next → Before key n (length index) shift p (get_or index p 0)
  pub passed : (j : ℕ) → j < i → part (length index) shift (key j) < next

-- the entries from `next` up to `to` are v, the others stay, and `r` is the first that is not written yet
pub record Marked (before index : List ℕ) (next to v r : ℕ) : Type 0 where
  pub size : length index ≡ length before
  pub reached : r ≡ max next to
  pub kept : (p : ℕ) → p < next → get_or index p 0 ≡ get_or before p 0
  pub marks : (p : ℕ) → next ≤ p → p < r → get_or index p 0 ≡ v

-- what the index says of a part, or all of n offsets where there is none
pub record Narrowed (index : List ℕ) (n p low high : ℕ) : Type 0 where
  pub first : index_size ≤ length index → low ≡ get_or index p 0
  pub last : index_size ≤ length index → high ≡ get_or index (p + 1) 0
  pub all : length index < index_size → (low ≡ 0) × (high ≡ n)

-- of n offsets those before low lie below an offset, those from high on above it
pub record Around (key : ℕ → ℕ) (n offset low high : ℕ) : Type 0 where
  pub order : low ≤ high
  pub within : high ≤ n
  pub under : (j : ℕ) → j < low → key j < offset
  pub above : (j : ℕ) → high ≤ j → j < n → offset < key j

-- where the answers to a test turn from true to false, from `low` to `high`: the last number before it was answered true, the first from it on false
pub record Parted (answered : ℕ → Bool → Type 0) (low high r : ℕ) : Type 0 where
  pub first : low ≤ r
  pub last : r ≤ high
  pub before : low < r → answered (r - 1) true
  pub after : r < high → answered r false
