-- The recording as finish gets it, its constants pooled: document 01, "Pool constants in order of asking", and its paragraph on a fresh assembly;
-- document 02, Request One.
use Rattle.std.specs.Prelude.{cond, List, [], ◌∷◌, ◌++◌, ℕ, zero, suc, ◌+◌, max, leb, length, get_or, set, replicate}
use Rattle.encoder.specs.Padding.{padding_length}
use Rattle.relax.specs.declared.LayoutEvent.{LayoutEvent}
use Rattle.relax.specs.declared.LayoutEvent.TheVariants.{Align}
use Rattle.buffer.specs.State.{none, keeps_events}
use Rattle.buffer.specs.Tables.{default_most}
use Rattle.buffer.specs.Calls.{padding}
use Rattle.recording.specs.View.{Use, Ref, Constant, View}

-- "A constant of more than 32 bytes stands on a multiple of 64, the others as before": one of n bytes is "aligned on 8 up to 8 bytes, else 16"
abbrev pub constant_alignment : ℕ → ℕ
constant_alignment n = cond (leb n 8) 8 (cond (leb n 32) 16 64)

-- a constant in the pool: where it stands, and its bytes
pub record Placed : Type 0 where
  pub offset : ℕ
  pub bytes : List ℕ

pub record Pooled : Type 0 where
  pub arch : ℕ
  pub code : List ℕ
  pub events : List LayoutEvent
  pub labels : List ℕ
  pub uses : List Use
  pub refs : List Ref
  pub pool : List Placed

-- One constant more: the end of the code is aligned for it (an event, on X64), its label is bound there, and room is left for its bytes, which are
-- written last. The alignment is an event like any other, "so what a relaxed rule looks like afresh includes the new padding".
unfoldable pub pooled_one : Pooled → Constant → Pooled
pooled_one p k =
    let start = length p.code in
    let multiple = constant_alignment (length k.bytes) in
    let len = padding_length start multiple in
    record {
      arch = p.arch;
      code = p.code ++ (padding p.arch len ++ replicate (length k.bytes) 0);
      events = p.events ++ cond (keeps_events p.arch) (Align (record { start = start; len = len; align = multiple; most = default_most }) ∷ []) [];
      labels = set p.labels k.label (start + len);
      uses = p.uses;
      refs = p.refs;
      pool = p.pool ++ (record { offset = start + len; bytes = k.bytes } ∷ []);
    }

-- the constant that was asked for as number j, from 0
abbrev pub asked_constant : View → ℕ → Constant
asked_constant v j = get_or v.constants (get_or v.asked j 0) (record { bytes = []; label = none })

-- the first n of the constants asked for are pooled
abbrev pub pooled_to : ℕ → View → ℕ → Pooled
pooled_to arch v zero = record { arch = arch; code = v.code; events = v.events; labels = v.labels; uses = v.uses; refs = v.refs; pool = [] }
pooled_to arch v (suc n) = pooled_one (pooled_to arch v n) (asked_constant v n)

-- all of them; "a constant never asked for is not pooled"
abbrev pub pooled : ℕ → View → Pooled
pooled arch v = pooled_to arch v (length v.asked)

-- what code with this pool is to be loaded on a multiple of: "the greater of 32 and the largest alignment among pooled constants"
unfoldable pub code_alignment : List Placed → ℕ
code_alignment [] = 32
code_alignment (k ∷ ks) = max (constant_alignment (length k.bytes)) (code_alignment ks)
