-- Lemmas on rows: how the crate `csv` splits a text without quotes and line ends.
use Rattle.std.proofs.Common.{◌≡◌, ◌==◌, ◌<◌, ℕ, zero, suc, Bool, true, false, List, [], ◌∷◌, ◌++◌, Option, Some, None, MatchOption, option_map, unwrap_or, get_or, refl, ap, ◌∙◌, arith, append_assoc, length, Bor, eqb, inl, inr}
use Rattle.std.specs.List.{All, onto_first}
use Rattle.std.proofs.lemmas.List.Elements.{All-head, All-tail}
use Rattle.std.proofs.lemmas.List.{append-nil}
use Rattle.std.proofs.lemmas.List.Splits.{length-slice_split}
use Rattle.std.proofs.lemmas.Bool.{false≢true, cases_Bool, ne_eqb}
use Rattle.csv.specs.Machine.{Read, next_record, step, in_field, ends_at_end}
use Rattle.csv.specs.Reading.{default_config, strip_bom}
use Rattle.csv.specs.Records.{Row, fields_of, field_at}
use Rattle.csv.specs.declared.parser.State.{State}
use Rattle.csv.specs.declared.parser.State.TheVariants as st
use Rattle.csv.specs.declared.parser.Action.TheVariants as act
use Rattle.flight_samples.specs.SampleText.{IsPlain, columns_of}

-- What a row's call `get` gives, by place.
pub field_is : (fields : List (List ℕ)) (place : ℕ) → unwrap_or (field_at fields place) [] ≡ get_or fields place []
unfolding field_at
field_is [] place = refl
field_is (f ∷ fs) zero = refl
field_is (f ∷ fs) (suc place) = field_is fs place

-- The parts, with a beginning of the first one.
abbrev with_front : List ℕ → List (List ℕ) → List (List ℕ)
with_front front [] = front ∷ []
with_front front (part ∷ parts) = (front ++ part) ∷ parts

front_nil : (parts : List (List ℕ)) → 0 < length parts → with_front [] parts ≡ parts
front_nil [] some = absurd (omega arith)
front_nil (part ∷ parts) some = refl

front_more : (front : List ℕ) (byte : ℕ) (parts : List (List ℕ)) → with_front (front ++ byte ∷ []) parts ≡ with_front front (onto_first byte parts)
front_more front byte [] = refl
front_more front byte (part ∷ parts) = ap (λ x. x ∷ parts) (append_assoc front (byte ∷ []) part)

-- The states in which a text without quotes is read.
abbrev is_plain_state : State → Bool
is_plain_state st.StartRecord = true
is_plain_state st.StartField = true
is_plain_state st.InField = true
is_plain_state st.InQuoted = false
is_plain_state st.AfterQuote = false
is_plain_state st.InEscape = false
is_plain_state st.InComment = false
is_plain_state st.AfterCr = false

-- There a plain byte is read as inside a field.
step_plain : (s : State) (byte : ℕ) → is_plain_state s ≡ true → IsPlain byte → step default_config s byte ≡ in_field default_config byte
step_plain st.StartRecord byte at plain = rw (ne_eqb _ _ plain.2, ne_eqb _ _ plain.3, ne_eqb _ _ plain.1) refl
step_plain st.StartField byte at plain = rw (ne_eqb _ _ plain.1) refl
step_plain st.InField byte at plain = refl
step_plain st.InQuoted byte at plain = absurd (false≢true at)
step_plain st.AfterQuote byte at plain = absurd (false≢true at)
step_plain st.InEscape byte at plain = absurd (false≢true at)
step_plain st.InComment byte at plain = absurd (false≢true at)
step_plain st.AfterCr byte at plain = absurd (false≢true at)

step_other : (s : State) (byte : ℕ) → is_plain_state s ≡ true → IsPlain byte → eqb byte 44 ≡ false → step default_config s byte ≡ (st.InField, act.Copy)
step_other s byte at plain other =
    step_plain s byte at plain ∙ rw (other, ne_eqb _ _ plain.2, ne_eqb _ _ plain.3) refl

step_comma : (s : State) (byte : ℕ) → is_plain_state s ≡ true → IsPlain byte → eqb byte 44 ≡ true → step default_config s byte ≡ (st.StartField, act.EndField)
step_comma s byte at plain comma = step_plain s byte at plain ∙ rw comma refl

next_other : (s : State) (fields : List (List ℕ)) (field : List ℕ) (byte : ℕ) (text : List ℕ)
    → is_plain_state s ≡ true → IsPlain byte → eqb byte 44 ≡ false
    → next_record default_config s fields field (byte ∷ text) ≡ next_record default_config st.InField fields (field ++ byte ∷ []) text
unfolding next_record
next_other s fields field byte text at plain other = rw (step_other s byte at plain other) refl

next_comma : (s : State) (fields : List (List ℕ)) (field : List ℕ) (byte : ℕ) (text : List ℕ)
    → is_plain_state s ≡ true → IsPlain byte → eqb byte 44 ≡ true
    → next_record default_config s fields field (byte ∷ text) ≡ next_record default_config st.StartField (fields ++ field ∷ []) [] text
unfolding next_record
next_comma s fields field byte text at plain comma = rw (step_comma s byte at plain comma) refl

comma_parts : (fields : List (List ℕ)) (field : List ℕ) (byte : ℕ) (text : List ℕ) → eqb byte 44 ≡ true
    → (fields ++ field ∷ []) ++ with_front [] (columns_of text) ≡ fields ++ with_front field (columns_of (byte ∷ text))
comma_parts fields field byte text comma =
    rw (comma, append-nil field, front_nil (columns_of text) (omega (arith, length-slice_split (λ b. b == 44) text)))
    (append_assoc fields (field ∷ []) (columns_of text))

other_parts : (fields : List (List ℕ)) (field : List ℕ) (byte : ℕ) (text : List ℕ) → eqb byte 44 ≡ false
    → fields ++ with_front (field ++ byte ∷ []) (columns_of text) ≡ fields ++ with_front field (columns_of (byte ∷ text))
other_parts fields field byte text other = rw other (ap (λ parts. fields ++ parts) (front_more field byte (columns_of text)))

-- The record that a text without quotes and line ends is read as.
abbrev read_as : List (List ℕ) → List ℕ → List ℕ → Option Read
read_as fields field text = Some (fields ++ with_front field (columns_of text), st.StartRecord, [])

-- From a state on in which the text may end, if it is read so.
abbrev ReadsAs : List ℕ → Type 0
ReadsAs text = (s : State) (fields : List (List ℕ)) (field : List ℕ) → is_plain_state s ≡ true → ends_at_end s ≡ true
    → next_record default_config s fields field text ≡ read_as fields field text

next_cons : (s : State) (fields : List (List ℕ)) (field : List ℕ) (byte : ℕ) (text : List ℕ) → is_plain_state s ≡ true → IsPlain byte
    → ReadsAs text → next_record default_config s fields field (byte ∷ text) ≡ read_as fields field (byte ∷ text)
next_cons s fields field byte text at plain rest = elim (cases_Bool (eqb byte 44)) [
  | inl comma ↦
      next_comma s fields field byte text at plain comma ∙ rest st.StartField (fields ++ field ∷ []) [] refl refl
      ∙ ap (λ parts. Some (parts, st.StartRecord, [])) (comma_parts fields field byte text comma)
  | inr other ↦
      next_other s fields field byte text at plain other ∙ rest st.InField fields (field ++ byte ∷ []) refl refl
      ∙ ap (λ parts. Some (parts, st.StartRecord, [])) (other_parts fields field byte text other)
]

next_nil : ReadsAs []
unfolding next_record
next_nil s fields field at ends = rw (ends, append-nil field) refl

next_plain : (text : List ℕ) → All IsPlain text → ReadsAs text
next_plain [] plain = next_nil
next_plain (byte ∷ text) plain = λ s fields field at ends.
    next_cons s fields field byte text at (All-head IsPlain byte text plain) (next_plain text (All-tail IsPlain byte text plain))

no_bom : (text : List ℕ) → All IsPlain text → strip_bom text ≡ text
unfolding strip_bom
no_bom [] plain = refl
no_bom (a ∷ []) plain = refl
no_bom (a ∷ b ∷ []) plain = refl
no_bom (a ∷ b ∷ c ∷ rest) plain =
    let first : IsPlain a = All-head IsPlain a (b ∷ c ∷ rest) plain in
    rw (ne_eqb a 0xEF (λ e. absurd (omega (arith, first.0)))) refl

-- The fields of a text's record, which an empty text has none of.
abbrev first_fields : List ℕ → Option (List (List ℕ))
first_fields [] = None
first_fields (byte ∷ text) = Some (columns_of (byte ∷ text))

first_nil : next_record default_config st.StartRecord [] [] [] ≡ None
unfolding next_record
first_nil = refl

first_fields_are : (text : List ℕ) → All IsPlain text
    → option_map (λ p. p.0) (next_record default_config st.StartRecord [] [] text) ≡ first_fields text
first_fields_are [] plain = ap (option_map (λ p. p.0)) first_nil
first_fields_are (byte ∷ text) plain =
    ap (option_map (λ p. p.0)) (next_cons st.StartRecord [] [] byte text refl (All-head IsPlain byte text plain) (next_plain text (All-tail IsPlain byte text plain)))
    ∙ ap Some (front_nil (columns_of (byte ∷ text)) (omega (arith, length-slice_split (λ b. b == 44) (byte ∷ text))))

-- The first record of a plain text has its columns.
pub record_has_columns : (text : List ℕ) (o : Option Row) → All IsPlain text
    → option_map fields_of o ≡ option_map (λ p. p.0) (next_record default_config st.StartRecord [] [] (strip_bom text))
    → MatchOption o (text ≡ []) (λ row. fields_of row ≡ columns_of text)
record_has_columns text o plain read = has_columns text o (read
    ∙ ap (λ t. option_map (λ p. p.0) (next_record default_config st.StartRecord [] [] t)) (no_bom text plain)
    ∙ first_fields_are text plain)
  where
    has_columns : (text : List ℕ) (o : Option Row) → option_map fields_of o ≡ first_fields text → MatchOption o (text ≡ []) (λ row. fields_of row ≡ columns_of text)
    has_columns [] None e = refl
    has_columns (byte ∷ text) None e = absurd cc
    has_columns [] (Some row) e = absurd cc
    has_columns (byte ∷ text) (Some row) e = cc

-- The bytes behind the reference that `get` and then `unwrap_or` give.
pub field_read : (o : Option (Bor (List ℕ))) (empty r : Bor (List ℕ)) (fields : List (List ℕ)) (place : ℕ)
    → option_map (λ s. s.now) o ≡ field_at fields place → r ≡ unwrap_or o empty → empty.now ≡ [] → r.now ≡ get_or fields place []
field_read o empty r fields place read is none =
    ap (λ b. b.now) is ∙ mapped o ∙ ap (λ p. unwrap_or p []) read ∙ field_is fields place
  where
    mapped : (o : Option (Bor (List ℕ))) → (unwrap_or o empty).now ≡ unwrap_or (option_map (λ s. s.now) o) []
    mapped None = none
    mapped (Some b) = refl
