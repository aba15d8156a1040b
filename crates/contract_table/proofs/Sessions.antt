-- One more act on a link: its session.
use Rattle.std.proofs.Common.{◌≡◌, ℕ, Bool, true, false, ◌&&◌, ◌==◌, List, [], ◌∷◌, Some, option_map, refl, ap, ◌∙◌, eq-eqb}
use Rattle.std.proofs.Math.Bool.{and-true}
use Rattle.contract_rules.specs.Messages.{Message}
use Rattle.contract_rules.specs.Acts.{Said, is_cancel_all}
use Rattle.contract_rules.specs.LiveLinks.{Verdict, Noted, admits_link, session_of, session_at}
use Rattle.contract_rules.specs.Retellings.{ends_session}
use Rattle.contract_rules.proofs.Steps.{session_step, session_next}

-- A message of a link, noted.
abbrev pub said : ℕ → Message → Bool → Verdict → ℕ → Noted
said link message admits verdict time = record { act = Said link message; admits = admits; verdict = verdict; time = time }

pub admits_said : (link : ℕ) (message : Message) (admits : Bool) (verdict : Verdict) (time : ℕ) → admits_link link (said link message admits verdict time) ≡ admits
admits_said link message admits verdict time = ap (λ b. admits && b) (eq-eqb link link refl) ∙ and-true admits

-- The session of a link after a message of its own that is no cancel-all: the session that it finds, with it.
pub session_said : (link : ℕ) (message : Message) (admits : Bool) (verdict : Verdict) (time : ℕ) (heard session : List Noted)
    → is_cancel_all (Said link message) ≡ false
    → session_at admits link heard ≡ Some session
    → session_of link (said link message admits verdict time ∷ heard) ≡ Some (said link message admits verdict time ∷ session)
session_said link message admits verdict time heard session goes found =
    session_step link (said link message admits verdict time) heard
    ∙ (λ i. session_next (admits_said link message admits verdict time i) (goes i && (link == link)) (said link message admits verdict time) (session_of link heard))
    ∙ at admits found
  where
    at : (a : Bool) → session_at a link heard ≡ Some session
        → session_next a false (said link message admits verdict time) (session_of link heard) ≡ Some (said link message admits verdict time ∷ session)
    at true found = ap (λ acts. Some (said link message admits verdict time ∷ acts)) (let same : [] ≡ session = cc in same)
    at false found = ap (option_map (λ acts. said link message admits verdict time ∷ acts)) found

-- The session of a live link after an act that neither admits it nor ends its session: the session before, with it.
pub session_going : (link : ℕ) (noted : Noted) (heard session : List Noted)
    → admits_link link noted ≡ false → ends_session link noted.act ≡ false
    → session_of link heard ≡ Some session → session_of link (noted ∷ heard) ≡ Some (noted ∷ session)
session_going link noted heard session no_admission goes found =
    session_step link noted heard ∙ (λ i. session_next (no_admission i) (goes i) noted (found i))
