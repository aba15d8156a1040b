-- The two kinds of application, for the readers' and writers' private functions that serve both texts.
use Rattle.std.specs.Prelude.{ℕ, List}
use Rattle.afn_logon.specs.Contents.{ApplicationData}
use Rattle.afn_logon.specs.Texts.{answered_text, offered_text}
use Rattle.afn_logon.specs.declared.kind.Kind.{Kind}
use Rattle.afn_logon.specs.declared.kind.Kind.TheVariants.{Answered, Offered}

-- The greatest number of an application.
abbrev pub greatest_number : Kind → ℕ
greatest_number Offered = 99
greatest_number Answered = 9

-- An application as it is written.
abbrev pub application_text : Kind → ApplicationData → List ℕ
application_text Offered a = offered_text a
application_text Answered a = answered_text a
