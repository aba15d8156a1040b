-- The laws of what a text from the ground means: it is read as one thing, and is shown as that.
use Rattle.std.proofs.Common.{◌≡◌, ℕ, ◌≤◌, true, List, length, Result, Ok, Err, ap, ◌∙◌, sym, subst, arith}
use Rattle.std.specs.Prelude.{nat_le, IfErr}
use Rattle.std.specs.List.{list_all}
use Rattle.std.proofs.lemmas.Bool.{and_parts}
use Rattle.std.proofs.lemmas.Bool.Decides.{nat_tests}
use Rattle.acars_envelope.specs.Bodies.{is_body_size, is_text_character, is_well_formed}
use Rattle.acars_envelope.specs.declared.texts.Body.{Body}
use Rattle.acars_envelope.specs.declared.texts.Body.TheVariants as body
use Rattle.afn_logon.specs.declared.answer.Answer.{Answer}
use Rattle.afn_logon.specs.declared.refusal.AfnRefusal.{AfnRefusal}
use Rattle.ground_texts.specs.Readings.{ReadsAnswer, ReadsBody, ReadsText}
use Rattle.ground_texts.specs.declared.ground_text.AfnUplink.{AfnUplink}
use Rattle.ground_texts.specs.declared.ground_text.GroundText.{GroundText}
use Rattle.ground_texts.specs.declared.ground_text.GroundText.TheVariants as ground
use Rattle.ground_texts.proofs.TextLaws.{one_text}
use Rattle.shown_lines.specs.Meanings.{Meaning, GroundTextMeans, reading_meaning}
use Rattle.shown_lines.specs.Shown.{IsShownAs, way_shown}
use Rattle.shown_lines.specs.Texts.{line_text}
use Rattle.shown_lines.specs.declared.show.LineShown.{LineShown}

-- a text from the ground is shown as what it is read as
pub reading_is_shown : (number : ℕ) (characters text : List ℕ) (answer reading : GroundText) (way : LineShown) → ReadsText characters answer → answer ≡ reading
    → text ≡ line_text number (reading_meaning reading) → way ≡ way_shown (reading_meaning reading) → IsShownAs number (GroundTextMeans characters) text way
reading_is_shown number characters text answer reading way reads is spelled shown = record {
  meaning = reading_meaning reading;
  means = (answer, reads, ap reading_meaning (sym is));
  only = λ other found. found.2 ∙ ap reading_meaning (one_text characters found.0 answer found.1 reads ∙ is);
  shown = shown;
  spelled = spelled;
}

-- a mismatch of characters is placed within them, or at their end
mismatch_within : (characters : List ℕ) (answer : Result Answer AfnRefusal) → length characters ≤ 255 → ReadsAnswer characters answer
    → IfErr answer (λ mismatch. mismatch.place ≤ 255)
mismatch_within characters (Ok answer) few reads = tt
mismatch_within characters (Err mismatch) few reads = omega (arith, few, reads.within)

-- that of a body is placed within the 255 characters that it may have
body_within : (address : List ℕ) (found : Body) (notice : AfnUplink) → is_well_formed found ≡ true → ReadsBody address found (ground.Afn notice)
    → IfErr notice.answer (λ mismatch. mismatch.place ≤ 255)
body_within address (body.Afn characters) notice formed reads =
    let sized = (and_parts (is_body_size (length characters.items)) (list_all is_text_character characters.items) formed).0 in
    let few = (and_parts (nat_le 1 (length characters.items)) (nat_le (length characters.items) 255) sized).1 in
    mismatch_within characters.items notice.answer (grind (arith, nat_tests, few)) reads.1
body_within address (body.Ads registration payload) notice formed reads = absurd reads

-- and so is that of a text
pub text_within : (characters : List ℕ) (answer : GroundText) (notice : AfnUplink) → ReadsText characters answer → answer ≡ ground.Afn notice
    → IfErr notice.answer (λ mismatch. mismatch.place ≤ 255)
text_within characters answer notice reads is =
    let found = subst (λ (t : GroundText). ReadsText characters t) is reads in
    body_within found.0.address found.0.body notice found.0.well_formed found.2
