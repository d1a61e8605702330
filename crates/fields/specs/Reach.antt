-- How far each kind of field reaches: document 01, "`can_reach` is the rule", and numbers 20 to 22 of its list of refusals.
use Rattle.std.specs.Prelude.{ℕ, ◌*◌, ◌/◌, ◌%◌, Bool, true, false, cond, ◌&&◌, ◌==◌, nat_lt}
use Rattle.refusals.specs.Numbers as refusals
use Rattle.fields.specs.Words64.{minus, range}
use Rattle.fields.specs.Kinds.{info, Decoded, Use, Unsupported, Unknown}
use Rattle.fields.specs.declared.LabelUse.{LabelUse}

-- d is a multiple of 4, where that is asked
abbrev pub multiple : Bool → ℕ → Bool
multiple true d = d % 4 == 0
multiple false d = true

-- a target d bytes after the field's first byte, d a 64-bit two's complement word, can be encoded
unfoldable pub can_reach_delta : LabelUse → ℕ → Bool
can_reach_delta k d = multiple (info k).words d && range (info k).low (info k).high (minus d (info k).from)

-- the 4,096-byte page of an offset
abbrev pub page : ℕ → ℕ
page offset = offset / 4096 * 4096

-- the label's page lies from -2^32 to one page below 2^32 of the field's
unfoldable pub pages_reach : ℕ → ℕ → Bool
pages_reach offset label = range 4294967296 4294963200 (minus (page label) (page offset))

-- the field at offset can name the label
unfoldable pub can_reach : LabelUse → ℕ → ℕ → Bool
can_reach k offset label = cond (info k).paged (pages_reach offset label) (can_reach_delta k (minus label offset))

-- 0 where a use reaches its label. Else 20: "code 9, 10 or 11 can't reach"; 21: "another use can't reach a label at or after it";
-- 22: "another use can't reach a label before it".
unfoldable pub reach_refusal : LabelUse → ℕ → ℕ → ℕ
reach_refusal k offset label =
    cond (can_reach k offset label) 0
    (cond (info k).branch refusals.branch_out_of_reach
    (cond (nat_lt label offset) refusals.label_too_far_back refusals.label_too_far_ahead))

-- the same of what a code stands for
abbrev pub reach_of : Decoded → ℕ → ℕ → ℕ
reach_of (Use k) offset label = reach_refusal k offset label
reach_of Unsupported offset label = 0
reach_of Unknown offset label = 0
