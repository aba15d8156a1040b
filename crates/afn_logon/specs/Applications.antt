-- Which numbers the applications of a text have.
use Rattle.std.specs.Prelude.{ℕ, nat_le, Bool, List}
use Rattle.std.specs.List.{list_all}
use Rattle.afn_logon.specs.declared.application.Application.{Application}

-- Each application has a number up to the greatest of its text.
abbrev pub are_up_to : ℕ → List Application → Bool
are_up_to greatest applications = list_all (λ a. nat_le a.number greatest) applications
