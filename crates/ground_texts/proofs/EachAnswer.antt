-- Characters are an answer or have a first mismatch.
use Rattle.std.proofs.Common.{◌≡◌, ℕ, List, [], ◌∷◌, length, map, Result, Ok, Err, IsTrue, inl, inr, refl, sym, ap, subst, arith}
use Rattle.std.specs.Prelude.{All, nat_le}
use Rattle.std.proofs.lemmas.Bool.{and_from, le-leb}
use Rattle.std.proofs.lemmas.List.{length-map}
use Rattle.std.proofs.lemmas.List.Elements.{All-head, All-tail}
use Rattle.std.proofs.lemmas.List.Sums.{list_all-from_AllPass}
use Rattle.acars_envelope.specs.Names.{is_letter}
use Rattle.afn_logon.specs.Applications.{are_up_to}
use Rattle.afn_logon.specs.Contents.{AnswerData, ApplicationData, IsAnswer, IsApplication, answer_data, application_data}
use Rattle.afn_logon.specs.Forms.{IsAnswerText}
use Rattle.afn_logon.specs.declared.answer.Answer.{Answer}
use Rattle.afn_logon.specs.declared.application.Application.{Application}
use Rattle.afn_logon.specs.declared.refusal.AfnRefusal.{AfnRefusal}
use Rattle.afn_logon.proofs.FormLaws.{answer_or_mismatch}
use Rattle.ground_texts.specs.Readings.{ReadsAnswer}

-- Applications that say this.
record Applications (list : List ApplicationData) : Type 0 where
  applications : List Application
  said : map application_data applications ≡ list
  numbers : IsTrue (are_up_to 9 applications)

abbrev application_of : (a : ApplicationData) → IsApplication 9 a → Application
application_of a is = record { name = a.name; number = a.number; three = is.three; letters = list_all-from_AllPass is_letter a.name is.letters }

applications_of : (list : List ApplicationData) → All (IsApplication 9) list → Applications list
applications_of [] each = record { applications = []; said = refl; numbers = refl }
applications_of (a ∷ list) each =
    let is = All-head (IsApplication 9) a list each in
    let others = applications_of list (All-tail (IsApplication 9) a list each) in
    record {
      applications = application_of a is ∷ others.applications;
      said = ap (λ (xs : List ApplicationData). a ∷ xs) others.said;
      numbers = and_from (nat_le a.number 9) (are_up_to 9 others.applications) (le-leb a.number 9 is.number) others.numbers;
    }

-- Some answer says what is in the ranges.
answer_of : (a : AnswerData) → IsAnswer a → (answer : Answer) × (answer_data answer ≡ a)
answer_of a is =
    let list = applications_of a.applications is.applications.each in (
      record {
        flight = a.flight;
        registration = a.registration;
        code = a.code;
        applications = record { items = list.applications };
        one_digit = is.code;
        some = omega (arith, is.applications.some, ap length list.said, length-map list.applications application_data);
        few = omega (arith, is.applications.few, ap length list.said, length-map list.applications application_data);
        numbers = list.numbers;
      },
      λ i. record { flight = a.flight; registration = a.registration; code = a.code; applications = list.said i },
    )

-- Characters are read as the answer that they are, or as their first mismatch.
pub each_answer : (characters : List ℕ) → (answer : Result Answer AfnRefusal) × ReadsAnswer characters answer
each_answer characters =
    elim (answer_or_mismatch characters) [
      | inl found ↦
          let answer = answer_of found.0 found.1.ranges in
          (Ok answer.0, subst (λ (a : AnswerData). IsAnswerText a characters) (sym answer.1) found.1)
      | inr bad ↦ (Err (record { place = bad.0 }), bad.1)
    ]
