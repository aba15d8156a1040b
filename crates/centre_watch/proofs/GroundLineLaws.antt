-- The lines of a ground log: those of a script, and `H` lines.
use Rattle.std.proofs.Common.{◌≡◌, ◌+◌, ◌≤◌, ℕ, suc, List, [], ◌∷◌, ◌++◌, codes, drop, length, inl, refl, sym, ap, ◌∙◌, subst, append_assoc, arith, add-one}
use Rattle.acars_envelope.specs.Names.{IsAddress}
use Rattle.ground_rules.specs.GroundLines.{HasHearing, HasShared, IsGroundRefusal, IsHearingLine, IsShared}
use Rattle.net_script.specs.Faults.{IsLineRefusal}
use Rattle.net_script.specs.Fields.{comma, field_at, fields_of}
use Rattle.net_script.specs.Letters.{HasLetter}
use Rattle.net_script.specs.declared.letter.Letter.{Letter}
use Rattle.net_script.specs.declared.letter.Letter.TheVariants.{Aircraft, Ground, Time, Request, Cancel}
use Rattle.net_script.specs.declared.refusal.Code.TheVariants as code
use Rattle.net_script.specs.declared.refusal.LineRefusal.{LineRefusal}
use Rattle.net_script.specs.declared.refusal.LineRefusal.TheVariants.{Bad, NoMemory}
use Rattle.net_script.proofs.FieldsLaws.{length-fields}

-- A line that has none of the five letters is none that a script has too.
pub none_shared : (line : List ℕ) → ¬ HasLetter line Time → ¬ HasLetter line Request → ¬ HasLetter line Cancel → ¬ HasLetter line Aircraft
    → ¬ HasLetter line Ground → ¬ HasShared line
none_shared line time request cancel aircraft ground shared = at shared.letter shared.has shared.shared
  where
    at : (letter : Letter) → HasLetter line letter → IsShared letter → ⊥
    at Time has is = time has
    at Request has is = request has
    at Cancel has is = cancel has
    at Aircraft has is = aircraft has
    at Ground has is = ground has
    at letter has is = is

-- The first fault of such a line in a script is its first fault in a ground log.
pub shared_refused : (line : List ℕ) (refusal : LineRefusal) → HasShared line → IsLineRefusal line refusal → IsGroundRefusal line refusal
shared_refused line NoMemory shared refused = tt
shared_refused line (Bad code.Kind value) shared refused = absurd (refused.0 shared.letter shared.has)
shared_refused line (Bad found value) shared refused = inl (shared, refused)

-- ---- `H` lines

-- A line has a field.
pub some_field : (line : List ℕ) → 1 ≤ length (fields_of line)
some_field line = let counted = length-fields line in omega (arith, counted)

-- What stands behind a front and one byte.
drop_next : (front : List ℕ) (byte : ℕ) (back : List ℕ) → drop (suc (length front)) (front ++ byte ∷ back) ≡ back
drop_next [] byte back = refl
drop_next (first ∷ front) byte back = drop_next front byte back

drop_front : (front : List ℕ) (byte : ℕ) (back : List ℕ) → drop (length front + 1) (front ++ byte ∷ back) ≡ back
drop_front front byte back = ap (λ n. drop n (front ++ byte ∷ back)) (add-one (length front)) ∙ drop_next front byte back

-- The letter, an address and a text behind two commas.
pub hearing_read : (line rest text address : List ℕ) → HasHearing line
    → line ≡ field_at (fields_of line) 0 ++ comma ∷ rest → fields_of line ≡ field_at (fields_of line) 0 ∷ fields_of rest
    → rest ≡ field_at (fields_of rest) 0 ++ comma ∷ text → fields_of rest ≡ field_at (fields_of rest) 0 ∷ fields_of text
    → IsAddress address → address ≡ field_at (fields_of rest) 0 → IsHearingLine address 10 line
hearing_read line rest text address letter joined fields joined_rest fields_rest is same = record {
  letter = letter;
  count = counted;
  addressed = record { is_address = is; written = ap (λ all. field_at all 1) fields ∙ sym same };
  text = spelled ∙ ap (λ behind. codes "H," ++ address ++ codes "," ++ behind) (sym dropped);
  place = refl;
}
  where
    counted : 3 ≤ length (fields_of line)
    counted =
        let one : length (fields_of line) ≡ suc (length (fields_of rest)) = ap length fields in
        let two : length (fields_of rest) ≡ suc (length (fields_of text)) = ap length fields_rest in
        let some = some_field text in
        omega (arith, one, two, some)

    whole : line ≡ codes "H," ++ (address ++ comma ∷ text)
    whole = joined ∙ ap (λ front. front ++ comma ∷ rest) letter ∙ ap (λ behind. codes "H," ++ behind) (joined_rest ∙ ap (λ front. front ++ comma ∷ text) (sym same))

    dropped : drop 10 line ≡ text
    dropped = ap (drop 10) whole ∙ ap (λ n. drop (n + 1) (address ++ comma ∷ text)) (sym is.size) ∙ drop_front address comma text

    spelled : line ≡ codes "H," ++ address ++ codes "," ++ text
    spelled = whole ∙ ap (λ behind. codes "H," ++ behind) (sym (append_assoc address (codes ",") text))

-- An `H` line whose second field is no address is bad there.
pub hearing_wrong : (line rest text : List ℕ) → fields_of line ≡ field_at (fields_of line) 0 ∷ fields_of rest
    → fields_of rest ≡ field_at (fields_of rest) 0 ∷ fields_of text → ¬ IsAddress (field_at (fields_of rest) 0)
    → (3 ≤ length (fields_of line)) × ¬ IsAddress (field_at (fields_of line) 1)
hearing_wrong line rest text fields fields_rest wrong = (
  (let one : length (fields_of line) ≡ suc (length (fields_of rest)) = ap length fields in
      let two : length (fields_of rest) ≡ suc (length (fields_of text)) = ap length fields_rest in
      let some = some_field text in
      omega (arith, one, two, some)),
  λ is. wrong (subst IsAddress (ap (λ all. field_at all 1) fields) is),
)
