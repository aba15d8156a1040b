-- Where the text of a `U` line begins.
use Rattle.std.proofs.Common.{◌≡◌, ◌==◌, ◌≤◌, ℕ, List, [], ◌∷◌, ◌++◌, Result, Ok, Err, IfOk, length, drop, sym, ap, ◌∙◌, subst, arith, inl, inr}
use Rattle.std.specs.Prelude.{codes}
use Rattle.std.specs.List.{onto_first, slice_split}
use Rattle.std.proofs.lemmas.Bool.{cases_Bool, eqb-true}
use Rattle.std.proofs.lemmas.List.Splits.{slice_split-cons_no, slice_split-cons_yes}
use Rattle.net_script.specs.Fields.{comma, field_at, fields_of}
use Rattle.net_script.specs.Lines.{IsScriptLine, TextBegins}
use Rattle.net_script.specs.declared.line.ScriptLine.{ScriptLine}
use Rattle.net_script.specs.declared.line.ScriptLine.TheVariants as line

-- The line begins with this field and a comma.
abbrev BeginsWith : List ℕ → List ℕ → Type 0
BeginsWith text field = (rest : List ℕ) × (text ≡ field ++ comma ∷ rest)

begins_more : (byte : ℕ) (text : List ℕ) (fields : List (List ℕ)) → 2 ≤ length (onto_first byte fields)
    → (2 ≤ length fields → BeginsWith text (field_at fields 0)) → BeginsWith (byte ∷ text) (field_at (onto_first byte fields) 0)
begins_more byte text [] more begins = absurd (omega arith)
begins_more byte text (part ∷ parts) more begins = let behind = begins more in (behind.0, ap (λ bytes. byte ∷ bytes) behind.1)

begins_split : (text : List ℕ) → 2 ≤ length (slice_split (λ b. b == comma) text) → BeginsWith text (field_at (slice_split (λ b. b == comma) text) 0)
begins_split [] more = absurd (omega arith)
begins_split (byte ∷ text) more = elim (cases_Bool (byte == comma)) [
  | inl at ↦
      let split = slice_split-cons_yes (λ b. b == comma) byte text at in
      subst (λ fields. BeginsWith (byte ∷ text) (field_at fields 0)) (sym split) (text, ap (λ b. b ∷ text) (eqb-true byte comma at))
  | inr other ↦
      let split = slice_split-cons_no (λ b. b == comma) byte text other in
      subst (λ fields. BeginsWith (byte ∷ text) (field_at fields 0)) (sym split)
      (begins_more byte text (slice_split (λ b. b == comma) text) (subst (λ fields. 2 ≤ length fields) split more) (begins_split text))
]

-- A line of two fields or more begins with its first field and a comma.
begins : (text : List ℕ) → 2 ≤ length (fields_of text) → BeginsWith text (field_at (fields_of text) 0)
unfolding fields_of
begins text more = begins_split text more

-- A line of the letter `U` is that letter, a comma, and the text from place 2 on.
text_from_2 : (bytes : List ℕ) → 2 ≤ length (fields_of bytes) → field_at (fields_of bytes) 0 ≡ codes "U" → bytes ≡ codes "U," ++ drop 2 bytes
text_from_2 bytes more letter =
    let behind = begins bytes more in
    let spelled : bytes ≡ 85 ∷ comma ∷ behind.0 = behind.1 ∙ ap (λ field. field ++ comma ∷ behind.0) letter in
    spelled ∙ ap (λ rest. 85 ∷ comma ∷ rest) (sym (ap (drop 2) spelled))

pub text_begins : (value : ScriptLine) (bytes : List ℕ) → IsScriptLine value bytes → TextBegins value bytes
text_begins (line.U from) bytes is =
    subst (λ place. bytes ≡ codes "U," ++ drop place bytes) (sym is.says) (text_from_2 bytes is.count is.letter)
text_begins other bytes is = tt

-- The same of a reading.
pub text_begins_if : {E : Type 0} (r : Result ScriptLine E) (bytes : List ℕ) → IfOk r (λ value. IsScriptLine value bytes) → IfOk r (λ value. TextBegins value bytes)
text_begins_if (Ok value) bytes is = text_begins value bytes is
text_begins_if (Err e) bytes is = tt
