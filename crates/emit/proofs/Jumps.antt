-- The forms of jumps: what is left in a part that was cleared and given an opcode.
use Rattle.std.proofs.Common.{◌≡◌, ℕ, ◌+◌, ◌<◌, ◌≤◌, Bool, true, false, List, [], ◌∷◌, ◌++◌, length, set, replicate, sym, refl, ap, ◌∙◌, arith, lit≤}
use lib.ListN.{length-replicate}
use Rattle.relax.specs.declared.Alignment.{Alignment}
use Rattle.relax.specs.declared.Condition.{Condition}
use Rattle.relax.specs.declared.Condition.TheVariants.{Always, On}
use Rattle.relax.specs.declared.RelaxableJump.{RelaxableJump}
use Rattle.relax.specs.declared.LayoutEvent.{LayoutEvent}
use Rattle.relax.specs.declared.LayoutEvent.TheVariants.{Jump, Align, Far}
use Rattle.fresh.specs.Forms.{short_form, long_form, form, width}
use Rattle.encoder.specs.Padding.{padding_within}
use Rattle.buffer.specs.Calls.{padding}
use Rattle.fresh.proofs.Forms.{length_form}
use Rattle.words.specs.Words.{word_at, set_word, bytes_of}
use Rattle.words.proofs.Entries.{words_over}
use Rattle.seqs.proofs.Overwrites.{over_all}
use Rattle.relax.specs.declared.FarBranch.{FarBranch}
use Rattle.relax.specs.Events.{branch_len, start_of, extent_of, end_of}
use Rattle.fresh.specs.Fill.{part}
use Rattle.emit.specs.steps.Emit.{jump_form, branch_form, Encodes, Writes, Keeps}

pub short_size : (cc : Condition) → length (short_form cc) ≡ 2
short_size Always = refl
short_size (On c) = refl

long_size : (cc : Condition) → 5 ≤ length (long_form cc)
long_size Always = lit≤ tt
long_size (On c) = lit≤ tt

pub cleared_length : (part zeros : List ℕ) → zeros ≡ replicate (length part) 0 → length zeros ≡ length part
cleared_length part zeros e = ap length e ∙ length-replicate (length part) 0

-- A cleared part has room for a long jump's opcode.
pub long_room : (cc : Condition) (part zeros : List ℕ) → zeros ≡ replicate (length part) 0 → length part ≡ length (long_form cc) → 5 ≤ length zeros
long_room cc part zeros e h = omega (arith, long_size cc, cleared_length part zeros e, h)

pub put_opcode : (cc : Condition) (op : ℕ) (part zeros : List ℕ) → short_form cc ≡ op ∷ 0 ∷ [] → zeros ≡ replicate (length part) 0
    → length part ≡ length (short_form cc) → set zeros 0 op ≡ short_form cc
put_opcode cc op part zeros e f h = let l : length part ≡ 2 = h ∙ short_size cc in rw (f, l, e)

pub put_always : (cc : Condition) (part zeros : List ℕ) → cc ≡ Always → zeros ≡ replicate (length part) 0
    → length part ≡ length (long_form cc) → set zeros 0 0xE9 ≡ long_form cc
put_always cc part zeros e f h = let l : length part ≡ 5 = h ∙ ap (λ (x : Condition). length (long_form x)) e in rw (f, l, e)

pub on_encodes : (cc : Condition) (c : ℕ) → cc ≡ On c → Encodes cc → c < 16
on_encodes cc c e h = rw e at h

pub put_on : (cc : Condition) (c : ℕ) (part zeros : List ℕ) → cc ≡ On c → zeros ≡ replicate (length part) 0
    → length part ≡ length (long_form cc) → set (set zeros 0 0x0F) 1 (0x80 + c) ≡ long_form cc
put_on cc c part zeros e f h = let l : length part ≡ 6 = h ∙ ap (λ (x : Condition). length (long_form x)) e in rw (f, l, e)

-- an event's form
pub jump_writes : (event : LayoutEvent) (j : RelaxableJump) → event ≡ Jump j → Writes event → Encodes j.cc
jump_writes event j e h = rw e at h

pub jump_form_lem : (event : LayoutEvent) (j : RelaxableJump) (long : Bool) (at arch : ℕ) (bytes : List ℕ) → event ≡ Jump j
    → jump_form j.cc long ≡ form arch event bytes long at
unfolding form
jump_form_lem event j true at arch bytes e = rw e
jump_form_lem event j false at arch bytes e = rw e

pub jump_width : (event : LayoutEvent) (j : RelaxableJump) (long : Bool) (at n : ℕ) → event ≡ Jump j → n ≡ width event long at → n ≡ length (jump_form j.cc long)
jump_width event j long at n e h = h ∙ (sym (length_form 0 event [] long at) ∙ ap length (sym (jump_form_lem event j long at 0 [] e)))

pub align_form : (event : LayoutEvent) (a : Alignment) (long : Bool) (at arch : ℕ) (bytes part : List ℕ) → event ≡ Align a
    → length part ≡ width event long at → padding arch (length part) ≡ form arch event bytes long at
unfolding form width
align_form event a long at arch bytes part e h = let l : length part ≡ padding_within at a.align a.most = rw e at h in rw (l, e)

-- The forms of branches: one word, or two.
pub one_word : (l : List ℕ) (a : ℕ) → length l ≡ 4 → set_word l 0 a ≡ bytes_of a
unfolding set_word
one_word l a h = over_all l (bytes_of a) (sym h)

pub two_words : (l : List ℕ) (a b : ℕ) → length l ≡ 8 → set_word (set_word l 0 a) 1 b ≡ bytes_of a ++ bytes_of b
two_words l a b h = words_over l 0 (a ∷ b ∷ []) ∙ over_all l (bytes_of a ++ (bytes_of b ++ [])) (sym h)

pub branch_width : (event : LayoutEvent) (f : FarBranch) (long : Bool) (at n word : ℕ) → event ≡ Far f → n ≡ width event long at
    → n ≡ length (branch_form f.code word long)
unfolding width
branch_width event f true at n word e h = h ∙ rw e
branch_width event f false at n word e h = h ∙ rw e

pub branch_form_lem : (event : LayoutEvent) (f : FarBranch) (long : Bool) (at arch word : ℕ) (bytes : List ℕ) → event ≡ Far f → Keeps event word bytes
    → branch_form f.code word long ≡ form arch event bytes long at
unfolding form
branch_form_lem event f true at arch word bytes e k = let told : word ≡ word_at bytes 0 = rw e at k in rw (e, told)
branch_form_lem event f false at arch word bytes e k = let told : word ≡ word_at bytes 0 = rw e at k in rw (e, told)

pub far_writes : (event : LayoutEvent) (f : FarBranch) → event ≡ Far f → Writes event → f.len ≡ branch_len
far_writes event f e h = rw e at h

-- what keeps no word
pub keeps_jump : (event : LayoutEvent) (j : RelaxableJump) (word : ℕ) (bytes : List ℕ) → event ≡ Jump j → Keeps event word bytes
keeps_jump event j word bytes e = rw e tt

pub keeps_align : (event : LayoutEvent) (a : Alignment) (word : ℕ) (bytes : List ℕ) → event ≡ Align a → Keeps event word bytes
keeps_align event a word bytes e = rw e tt

pub keeps_far : (event : LayoutEvent) (f : FarBranch) (word : ℕ) (code : List ℕ) → event ≡ Far f → Writes event
    → word ≡ word_at (part code f.start 4) 0 → Keeps event word (part code (start_of event) (extent_of event))
keeps_far event f word code e h told =
    let four = far_writes event f e h in
    rw (e, four) told

pub far_end : (event : LayoutEvent) (f : FarBranch) (room : ℕ) → event ≡ Far f → Writes event → end_of event ≤ room → f.start + 4 ≤ room
far_end event f room e h l =
    let four = far_writes event f e h in
    let ends : f.start + f.len ≤ room = rw e at l in
    omega arith
