-- The state of a logon (this project's profile).
use Rattle.std.specs.Prelude.{ℕ, zero, suc}
use Rattle.afn_logon.specs.declared.logon.Logon.{Logon}
use Rattle.afn_logon.specs.declared.logon.Logon.TheVariants.{Nothing, Sent, Accepted, Rejected}

-- What the code of an answer makes of a contact that was sent: 0 accepts it, and another code rejects it.
abbrev pub answered : ℕ → Logon
answered zero = Accepted
answered (suc code) = Rejected (suc code)

-- The state after an answer: it decides where a contact was sent before, and else changes nothing.
abbrev pub after_answer : Logon → ℕ → Logon
after_answer Nothing code = Nothing
after_answer Sent code = answered code
after_answer Accepted code = answered code
after_answer (Rejected old) code = answered code
