-- One act more, for code that keeps a link's state: contracts in force, emergency mode and anchor after an act are functions
-- of the act and of what they were.
use Rattle.std.proofs.Common.{◌≡◌, ℕ, Bool, true, false, cond, not, ◌&&◌, List, [], ◌∷◌, Option, Some, None, is_some, option_map, refl, ap, sym, ◌∙◌}
use Rattle.std.specs.Prelude.{unwrap_or}
use Rattle.std.specs.Option.{option_or}
use Rattle.std.proofs.Math.Bool.{and-false, and-true}
use Rattle.contract_rules.specs.Messages.{Kind}
use Rattle.contract_rules.specs.Acts.{is_crew_act, is_crew_on}
use Rattle.contract_rules.specs.LookingBack.{last_such, from_last, after_last, none_such, unless}
use Rattle.contract_rules.specs.LiveLinks.{Noted, is_live, admits_link, session_of}
use Rattle.contract_rules.specs.InForce.{Contract, contract_made, cancels, in_force}
use Rattle.contract_rules.specs.Emergency.{is_crew_emergency, is_in_emergency_mode, accepted_mode_cancel, turned_on, is_anchor, emergency_anchor, anchor_time}
use Rattle.contract_rules.specs.Retellings.{ends_session}
use Rattle.contract_rules.proofs.Steps.{session_step, session_next, session_is_live}

pub or_none : {B : Type 0} (o : Option B) → option_or o None ≡ o
or_none None = refl
or_none (Some b) = refl

-- ---- contracts in force

-- The contract in force after an act: what the act makes, where it admits the link; none, where it ends the session; else,
-- in a session, what the act makes, or else what was in force and is not cancelled.
abbrev pub in_force_after : Kind → ℕ → Noted → Bool → Option Contract → Option Contract
in_force_after kind link noted live held =
    cond (admits_link link noted) (contract_made kind noted)
    (cond (not (ends_session link noted.act) && live)
    (option_or (contract_made kind noted) (unless (λ c. cancels (Some c) noted) held))
    None)

pub in_force_step : (kind : Kind) (link : ℕ) (noted : Noted) (heard : List Noted)
    → in_force kind (session_of link (noted ∷ heard)) ≡ in_force_after kind link noted (is_live link heard) (in_force kind (session_of link heard))
in_force_step kind link noted heard =
    ap (in_force kind) (session_step link noted heard)
    ∙ at (admits_link link noted) (ends_session link noted.act) (session_of link heard) (is_live link heard) (session_is_live link heard)
  where
    at : (a ends : Bool) (session : Option (List Noted)) (live : Bool) → is_some session ≡ live
        → in_force kind (session_next a ends noted session)
        ≡ cond a (contract_made kind noted) (cond (not ends && live) (option_or (contract_made kind noted) (unless (λ c. cancels (Some c) noted) (in_force kind session))) None)
    at true ends session live is = or_none (contract_made kind noted)
    at false true session live is = refl
    at false false None live is =
        ap (λ l. cond l (option_or (contract_made kind noted) None) None) is
    at false false (Some acts) live is =
        ap (λ l. cond l (option_or (contract_made kind noted) (unless (λ c. cancels (Some c) noted) (in_force kind (Some acts)))) None) is

-- ---- emergency mode

-- After a crew act a link is in emergency mode where it has a session and the act is on.
pub mode_after_crew : (link : ℕ) (noted : Noted) (heard : List Noted) → is_crew_act noted.act ≡ true
    → is_in_emergency_mode (session_of link (noted ∷ heard)) (noted ∷ heard) ≡ (is_live link (noted ∷ heard) && is_crew_on noted.act)
mode_after_crew link noted heard crew =
    elim (is_live link (noted ∷ heard)) as (λ l. is_in_emergency_mode (cond l (Some (noted ∷ cond (admits_link link noted) [] (from_last (λ n _. admits_link link n) heard))) None) (noted ∷ heard) ≡ (l && is_crew_on noted.act)) [
      | true ↦ ap (λ c. turned_on (cond c (Some noted) (last_such (λ n _. is_crew_act n.act) heard)) && none_such (λ n _. accepted_mode_cancel n.act n.verdict) (cond c [] (noted ∷ after_last (λ n _. is_crew_act n.act) (cond (admits_link link noted) [] (from_last (λ n _. admits_link link n) heard))))) crew
          ∙ and-true (is_crew_on noted.act)
      | false ↦ refl
    ]

pub and_moved : (a b c : Bool) → (a && (b && c)) ≡ (b && (a && c))
and_moved true b c = refl
and_moved false b c = sym (and-false b)

-- After any other act: where it admits the link, the last crew act is on; none, where it ends the session; else the link was in
-- the mode; and the act is no accepted cancel of the mode.
abbrev pub mode_after_act : ℕ → Noted → Bool → Bool → Bool
mode_after_act link noted crew mode =
    cond (admits_link link noted) (crew && not (accepted_mode_cancel noted.act noted.verdict))
    (not (ends_session link noted.act) && (not (accepted_mode_cancel noted.act noted.verdict) && mode))

pub mode_after_other : (link : ℕ) (noted : Noted) (heard : List Noted) → is_crew_act noted.act ≡ false
    → is_in_emergency_mode (session_of link (noted ∷ heard)) (noted ∷ heard)
    ≡ mode_after_act link noted (is_crew_emergency heard) (is_in_emergency_mode (session_of link heard) heard)
mode_after_other link noted heard other =
    ap (λ session. is_in_emergency_mode session (noted ∷ heard)) (session_step link noted heard)
    ∙ at (admits_link link noted) (ends_session link noted.act) (session_of link heard)
  where
    grown : (acts : List Noted)
        → is_in_emergency_mode (Some (noted ∷ acts)) (noted ∷ heard)
        ≡ (is_crew_emergency heard && (not (accepted_mode_cancel noted.act noted.verdict) && none_such (λ n _. accepted_mode_cancel n.act n.verdict) (after_last (λ n _. is_crew_act n.act) acts)))
    grown acts =
        ap (λ c. turned_on (cond c (Some noted) (last_such (λ n _. is_crew_act n.act) heard)) && none_such (λ n _. accepted_mode_cancel n.act n.verdict) (cond c [] (noted ∷ after_last (λ n _. is_crew_act n.act) acts))) other

    at : (a e : Bool) (session : Option (List Noted)) → is_in_emergency_mode (session_next a e noted session) (noted ∷ heard)
        ≡ cond a (is_crew_emergency heard && not (accepted_mode_cancel noted.act noted.verdict))
        (not e && (not (accepted_mode_cancel noted.act noted.verdict) && is_in_emergency_mode session heard))
    at true e session = grown [] ∙ ap (λ b. is_crew_emergency heard && b) (and-true (not (accepted_mode_cancel noted.act noted.verdict)))
    at false true session = refl
    at false false None = sym (and-false (not (accepted_mode_cancel noted.act noted.verdict)))
    at false false (Some acts) =
        grown acts
        ∙ and_moved (is_crew_emergency heard) (not (accepted_mode_cancel noted.act noted.verdict)) (none_such (λ n _. accepted_mode_cancel n.act n.verdict) (after_last (λ n _. is_crew_act n.act) acts))

-- ---- the anchor

-- The anchor's time after an act: the time of the act where it is an anchor; else as it was.
pub anchor_time_step : (link : ℕ) (noted : Noted) (heard : List Noted) → anchor_time link (noted ∷ heard) ≡ cond (is_anchor link noted heard) noted.time (anchor_time link heard)
anchor_time_step link noted heard =
    elim (is_anchor link noted heard) as (λ b. unwrap_or (option_map (λ n. n.time) (cond b (Some noted) (emergency_anchor link heard))) 0 ≡ cond b noted.time (anchor_time link heard)) [
      | true ↦ refl
      | false ↦ refl
    ]
