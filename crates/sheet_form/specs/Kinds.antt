-- The program's kinds of call, and the number of each in document 01's list.
use Rattle.std.specs.Prelude.{◌≡◌, false, ◌&&◌, ℕ, leb, Result, MatchResult}
use Rattle.sheet_form.specs.declared.kinds.Kind.{Kind}
use Rattle.sheet_form.specs.declared.kinds.Kind.TheVariants.{Bytes, NewLabel, Bind, Align, Use, Ref, Jump, Constant, ConstantLabel, Relocation}
use Rattle.sheet_form.specs.declared.kinds.NoKind.{NoKind}
use Rattle.sheet_form.specs.Form.{bytes_call, new_label_call, bind_call, align_call, use_call, ref_call, jump_call, constant_call, constant_label_call, relocation_call}

abbrev pub code_of : Kind → ℕ
code_of Bytes = bytes_call
code_of NewLabel = new_label_call
code_of Bind = bind_call
code_of Align = align_call
code_of Use = use_call
code_of Ref = ref_call
code_of Jump = jump_call
code_of Constant = constant_call
code_of ConstantLabel = constant_label_call
code_of Relocation = relocation_call

-- the kind with that number, or none where no kind has it
abbrev pub Decodes : ℕ → Result Kind NoKind → Type 0
Decodes byte r = MatchResult r (λ kind. code_of kind ≡ byte) (λ _. (leb bytes_call byte && leb byte relocation_call) ≡ false)
