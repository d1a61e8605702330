-- A call that asks one question after another, or one of entry after entry: what it answers where one is refused, and where all are past.
use mathlib.Core.Path.{◌≡◌, refl, sym, ◌∙◌}
use Prim.Native.Nat.{ℕ, ◌+◌, ◌<◌}
use Rattle.std.specs.Prelude.{Result, Err, ⊤}
use Rattle.seqs.specs.Pick.{or_else, first_of}
use Rattle.seqs.proofs.Picking.{yes_eq, no_eq}
use Rattle.seqs.proofs.Scans.{NoneRefused, refuse_next, refuse_first, refuse_none, refuse_end}
use Rattle.refusals.specs.declared.Refusal.{Refusal}
use Rattle.refusals.specs.Answers.{number_of, answer_of}
use Rattle.refusals.proofs.Variants.{number_not_0}

-- the first question refuses, and its refusal is handed on
pub refused_first : {o : Result ⊤ Refusal} (r : Refusal) {n : ℕ} (m : ℕ) → o ≡ Err r → number_of r ≡ n → answer_of o ≡ or_else n m
refused_first {o} r {n} m h e = rw h (e ∙ sym (no_eq n 0 m n (λ z. number_not_0 r (e ∙ z))))

-- the first question is past, and the rest answers k
pub past_first : {n k m : ℕ} → 0 ≡ n → k ≡ m → k ≡ or_else n m
past_first {n} {k} {m} e h = h ∙ sym (yes_eq n 0 m n (sym e))

pub ruleset chains = (refused_first, past_first)

-- a scan meets an entry that is refused, and one that is not
pub refused_entry : {f : ℕ → ℕ} {n i : ℕ} {o : Result ⊤ Refusal} (r : Refusal) → NoneRefused f n i → i < n → o ≡ Err r → number_of r ≡ f i → answer_of o ≡ first_of f n
refused_entry {o = o} r s l h e = rw h (refuse_first s l e (number_not_0 r))

pub past_entry : {f : ℕ → ℕ} {n i : ℕ} → NoneRefused f n i → i < n → 0 ≡ f i → NoneRefused f n (i + 1)
past_entry s l e = refuse_next s l e refl

pub ruleset entries_refused = (refuse_none, past_entry, refused_entry, refuse_end)
