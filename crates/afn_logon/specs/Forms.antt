-- Which texts are contacts and answers, and of which values (this project's profile).
use Rattle.std.specs.Prelude.{◌≡◌, ℕ, List}
use Rattle.afn_logon.specs.Contents.{ContactData, AnswerData, IsContact, IsAnswer}
use Rattle.afn_logon.specs.Texts.{contact_text, answer_text}

-- The text says what this contact says, which is in the ranges.
pub record IsContactText (c : ContactData) (text : List ℕ) : Type 0 where
  pub ranges : IsContact c
  pub spelled : text ≡ contact_text c

-- The text says what this answer says, which is in the ranges.
pub record IsAnswerText (a : AnswerData) (text : List ℕ) : Type 0 where
  pub ranges : IsAnswer a
  pub spelled : text ≡ answer_text a

-- The text is a contact text.
abbrev pub IsSomeContact : List ℕ → Type 0
IsSomeContact text = (c : ContactData) × IsContactText c text

-- The text is an answer text.
abbrev pub IsSomeAnswer : List ℕ → Type 0
IsSomeAnswer text = (a : AnswerData) × IsAnswerText a text
