-- What a malformed payload and an unheard act leave as it was.
use Rattle.std.proofs.Common.{◌≡◌, ℕ, ◌+◌, Bool, true, false, cond, not, ◌&&◌, ◌||◌, ◌==◌, List, [], ◌∷◌, Option, Some, None, is_some, option_map, refl, ap, sym, ◌∙◌, add-zero, subst}
use Rattle.std.specs.Prelude.{nat_eq, filter_map}
use Rattle.std.specs.List.{cons_option, list_any}
use Rattle.std.specs.Option.{option_or}
use Rattle.std.proofs.lemmas.Bool.{eqb-true}
use Rattle.std.proofs.Math.Bool.{and-false}
use Rattle.contract_rules.specs.Configuration.{Configuration}
use Rattle.contract_rules.specs.Messages.{Message, Kind, Demand, Periodic, Event, Emergency, Cancel, CancelEmergency}
use Rattle.contract_rules.specs.Acts.{Act, Said, Malformed, Moved, Ticked, Crew, Fault, concerns, is_crew_act, is_cancel_all, later_of, sample_of}
use Rattle.contract_rules.specs.LookingBack.{last_such, from_last, after_last, none_such, unless}
use Rattle.contract_rules.specs.LiveLinks.{Unheard, Unreadable, Noted, live_links, is_live, without, admits, admits_link, heard_on, session_of, session_at, time_after}
use Rattle.contract_rules.specs.InForce.{Contract, contract_made, accepts, cancels, in_force}
use Rattle.contract_rules.specs.Periodic.{is_periodic_due, periodic_report_number}
use Rattle.contract_rules.specs.Events.{samples_since_acceptance}
use Rattle.contract_rules.specs.Emergency.{emergency_anchor, is_in_emergency_mode, is_crew_emergency, turned_on, accepted_mode_cancel, is_anchor, is_emergency_due, emergency_report_number}
use Rattle.contract_rules.specs.Verdicts.{noted_over, verdict_in, verdict_of}
use Rattle.contract_rules.specs.Due.{due_items, due_at, due_of_fault}
use Rattle.contract_rules.specs.Laws.{SameStanding, is_of}
use Rattle.contract_rules.specs.Retellings.{ends_session}
use Rattle.contract_rules.proofs.Steps.{or_parts, live_on_heard, live_step, session_step, session_is_live}

pub same_standing : (link : ℕ) (heard : List Noted) → SameStanding link heard heard
same_standing link heard =
    record {
      live = refl;
      contracts = λ kind. refl;
      crew = refl;
      mode = refl;
      anchor = refl;
      emergency_number = refl;
      periodic_number = refl;
      samples = refl;
      time = refl;
    }

-- ---- quiet acts

-- An act that a link hears and that does nothing to it.
pub record IsQuiet (link : ℕ) (noted : Noted) (heard : List Noted) : Type 0 where
  pub admits_none : admits_link link noted ≡ false
  pub ends_none : (ends_session link noted.act && is_live link heard) ≡ false
  pub makes_none : (kind : Kind) → contract_made kind noted ≡ None
  pub cancels_none : (contract : Option Contract) → cancels contract noted ≡ false
  pub cancels_no_mode : accepted_mode_cancel noted.act noted.verdict ≡ false
  pub no_crew : is_crew_act noted.act ≡ false
  pub no_periodic : is_periodic_due link noted heard ≡ false
  pub no_emergency : is_emergency_due link noted heard ≡ false
  pub no_sample : sample_of noted.act ≡ None
  pub no_time : (time : ℕ) → later_of time noted.act ≡ time

pub still : (ends live : Bool) → (ends && live) ≡ false → (not ends && live) ≡ live
still true live e = sym e
still false live e = refl

pub none_ended : {B : Type 0} (ended : B → Bool) (kept : (b : B) → ended b ≡ false) (o : Option B) → unless ended o ≡ o
none_ended ended kept None = refl
none_ended ended kept (Some b) = ap (λ x. cond x None (Some b)) (kept b)

module _ (link : ℕ) (noted : Noted) (heard : List Noted) (quiet : IsQuiet link noted heard) where
  pub live_still : is_live link (noted ∷ heard) ≡ is_live link heard
  live_still =
      live_step link noted heard
      ∙ ap (λ b. b || (not (ends_session link noted.act) && is_live link heard)) quiet.admits_none
      ∙ still (ends_session link noted.act) (is_live link heard) quiet.ends_none

  -- The session goes on, where there is one.
  pub session_still : session_of link (noted ∷ heard) ≡ option_map (λ acts. noted ∷ acts) (session_of link heard)
  session_still =
      session_step link noted heard
      ∙ ap (λ b. cond b (Some (noted ∷ [])) (cond (ends_session link noted.act) None (option_map (λ acts. noted ∷ acts) (session_of link heard)))) quiet.admits_none
      ∙ at (ends_session link noted.act) refl (session_of link heard) refl
    where
      at : (e : Bool) → ends_session link noted.act ≡ e → (session : Option (List Noted)) → session_of link heard ≡ session
          → cond e None (option_map (λ acts. noted ∷ acts) session) ≡ option_map (λ acts. noted ∷ acts) session
      at false ends session is = refl
      at true ends None is = refl
      at true ends (Some acts) is =
          absurd (let live : is_live link heard ≡ true = sym (session_is_live link heard) ∙ ap is_some is in
          let h : true ≡ false = sym (λ i. ends i && live i) ∙ quiet.ends_none in cc)

  pub contracts_still : (kind : Kind) → in_force kind (session_of link (noted ∷ heard)) ≡ in_force kind (session_of link heard)
  contracts_still kind = ap (in_force kind) session_still ∙ at (session_of link heard)
    where
      at : (session : Option (List Noted)) → in_force kind (option_map (λ acts. noted ∷ acts) session) ≡ in_force kind session
      at None = refl
      at (Some acts) =
          ap (λ o. option_or o (unless (λ c. cancels (Some c) noted) (in_force kind (Some acts)))) (quiet.makes_none kind)
          ∙ none_ended (λ c. cancels (Some c) noted) (λ c. quiet.cancels_none (Some c)) (in_force kind (Some acts))

  pub crew_still : is_crew_emergency (noted ∷ heard) ≡ is_crew_emergency heard
  crew_still = ap (λ c. turned_on (cond c (Some noted) (last_such (λ n _. is_crew_act n.act) heard))) quiet.no_crew

  pub mode_still : is_in_emergency_mode (session_of link (noted ∷ heard)) (noted ∷ heard) ≡ is_in_emergency_mode (session_of link heard) heard
  mode_still = ap (λ session. is_in_emergency_mode session (noted ∷ heard)) session_still ∙ at (session_of link heard)
    where
      at : (session : Option (List Noted)) → is_in_emergency_mode (option_map (λ acts. noted ∷ acts) session) (noted ∷ heard) ≡ is_in_emergency_mode session heard
      at None = refl
      at (Some acts) =
          ap (λ c. turned_on (cond c (Some noted) (last_such (λ n _. is_crew_act n.act) heard)) && none_such (λ n _. accepted_mode_cancel n.act n.verdict) (cond c [] (noted ∷ after_last (λ n _. is_crew_act n.act) acts))) quiet.no_crew
          ∙ ap (λ b. is_crew_emergency heard && (not b && none_such (λ n _. accepted_mode_cancel n.act n.verdict) (after_last (λ n _. is_crew_act n.act) acts))) quiet.cancels_no_mode

  pub no_anchor : is_anchor link noted heard ≡ false
  no_anchor =
      λ i. quiet.no_crew i || quiet.admits_none i || is_some (quiet.makes_none Emergency i) || quiet.cancels_none (in_force Emergency (session_of link heard)) i

  pub standing_still : SameStanding link (noted ∷ heard) heard
  standing_still =
      record {
        live = live_still;
        contracts = contracts_still;
        crew = crew_still;
        mode = mode_still;
        anchor = ap (λ b. cond b (Some noted) (emergency_anchor link heard)) no_anchor;
        emergency_number =
            (λ i. cond (no_anchor i) 0 (emergency_report_number link heard) + cond (quiet.no_emergency i) 1 0)
            ∙ add-zero (emergency_report_number link heard);
        periodic_number =
            (λ i. cond (is_some (quiet.makes_none Periodic i)) 0 (periodic_report_number link heard) + cond (not (is_some (quiet.makes_none Demand i)) && quiet.no_periodic i) 1 0)
            ∙ add-zero (periodic_report_number link heard);
        samples =
            ap (λ o. filter_map (λ (n : Noted). sample_of n.act) (cond (is_some o) [] (noted ∷ after_last (λ n _. accepts Event n) heard))) (quiet.makes_none Event)
            ∙ ap (λ o. cons_option o (samples_since_acceptance heard)) quiet.no_sample;
        time = quiet.no_time (time_after heard);
      }

-- A quiet act leaves each link as it was: those that don't hear it too.
pub standing_on_heard : (link : ℕ) (noted : Noted) (past : List Noted)
    → (concerns link noted.act ≡ true → IsQuiet link noted (heard_on link past))
    → SameStanding link (heard_on link (noted ∷ past)) (heard_on link past)
standing_on_heard link noted past quiet = at (concerns link noted.act) refl
  where
    at : (b : Bool) → concerns link noted.act ≡ b → SameStanding link (cond b (noted ∷ heard_on link past) (heard_on link past)) (heard_on link past)
    at true own = standing_still link noted (heard_on link past) (quiet own)
    at false other = same_standing link (heard_on link past)

-- ---- malformed payloads

pub malformed_is_quiet : (configuration : Configuration) (past heard : List Noted) (source link : ℕ) (fault : Fault)
    → IsQuiet link (noted_over configuration past (Malformed source fault)) heard
malformed_is_quiet configuration past heard source link fault =
    record {
      admits_none = refl;
      ends_none = refl;
      makes_none = λ kind. refl;
      cancels_none = λ contract. refl;
      cancels_no_mode = refl;
      no_crew = refl;
      no_periodic = refl;
      no_emergency = refl;
      no_sample = refl;
      no_time = λ time. refl;
    }

pub malformed_changes_nothing : (configuration : Configuration) (past : List Noted) (source link : ℕ) (fault : Fault)
    → SameStanding link (heard_on link (noted_over configuration past (Malformed source fault) ∷ past)) (heard_on link past)
malformed_changes_nothing configuration past source link fault =
    standing_on_heard link (noted_over configuration past (Malformed source fault)) past
    (λ own. malformed_is_quiet configuration past (heard_on link past) source link fault)

pub malformed_changes_no_contract : (configuration : Configuration) (past : List Noted) (source link : ℕ) (fault : Fault) (kind : Kind)
    → (live_links (noted_over configuration past (Malformed source fault) ∷ past) ≡ live_links past)
    × (in_force kind (session_of link (heard_on link (noted_over configuration past (Malformed source fault) ∷ past)))
    ≡ in_force kind (session_of link (heard_on link past)))
malformed_changes_no_contract configuration past source link fault kind =
    (refl, (malformed_changes_nothing configuration past source link fault).contracts kind)

-- ---- acts that are not heard

-- A link that isn't among some links leaves them whole where it is taken out.
pub without_absent : (link : ℕ) (links : List ℕ) → list_any (nat_eq link) links ≡ false → without link links ≡ links
without_absent link [] absent = refl
without_absent link (next ∷ links) absent =
    let parts = or_parts (link == next) (list_any (nat_eq link) links) absent in
    ap (λ b. cond (not b) (next ∷ without link links) (without link links)) parts.0
    ∙ ap (λ rest. next ∷ rest) (without_absent link links parts.1)

-- A message that isn't heard.
abbrev pub unheard : ℕ → Message → ℕ → Noted
unheard source message time = record { act = Said source message; admits = false; verdict = Unheard; time = time }

pub noted_unheard : (configuration : Configuration) (past : List Noted) (source : ℕ) (message : Message)
    → is_live source past ≡ false → admits configuration past (Said source message) ≡ false
    → noted_over configuration past (Said source message) ≡ unheard source message (time_after past)
noted_unheard configuration past source message dead barred =
    λ i. record { act = Said source message; admits = barred i; verdict = verdict i; time = time_after past }
  where
    verdict : verdict_of configuration past (Said source message) ≡ Unheard
    verdict =
        ap (λ a. verdict_in (session_at a source (heard_on source past)) (heard_on source past) message) barred
        ∙ ap (λ l. verdict_in (cond l (Some (from_last (λ n _. admits_link source n) (heard_on source past))) None) (heard_on source past) message)
        (live_on_heard source past ∙ dead)

pub unheard_is_quiet : (link source : ℕ) (message : Message) (time : ℕ) (heard : List Noted) → is_live link heard ≡ false
    → IsQuiet link (unheard source message time) heard
unheard_is_quiet link source message time heard dead =
    record {
      admits_none = refl;
      ends_none = ap (λ l. ends_session link (Said source message) && l) dead ∙ and-false (ends_session link (Said source message));
      makes_none = λ kind. refl;
      cancels_none = λ contract. cancels_nothing contract message;
      cancels_no_mode = cancels_no_mode_of message;
      no_crew = refl;
      no_periodic = refl;
      no_emergency = refl;
      no_sample = refl;
      no_time = λ t. refl;
    }
  where
    cancels_nothing : (contract : Option Contract) (m : Message) → cancels contract (unheard source m time) ≡ false
    cancels_nothing contract (Cancel number) = refl
    cancels_nothing contract _ = refl

    cancels_no_mode_of : (m : Message) → accepted_mode_cancel (Said source m) Unheard ≡ false
    cancels_no_mode_of (CancelEmergency number) = refl
    cancels_no_mode_of _ = refl

-- What an act leaves as it was, on any link.
abbrev pub ChangesNothing : Configuration → List Noted → Act → ℕ → Type 0
ChangesNothing configuration past act link =
    (due_items configuration link past act ≡ [])
    × (live_links (noted_over configuration past act ∷ past) ≡ live_links past)
    × SameStanding link (heard_on link (noted_over configuration past act ∷ past)) (heard_on link past)

pub unheard_message : (configuration : Configuration) (past : List Noted) (source link : ℕ) (message : Message)
    → is_live source past ≡ false → admits configuration past (Said source message) ≡ false
    → ChangesNothing configuration past (Said source message) link
unheard_message configuration past source link message dead barred = (
  at (concerns link (Said source message)),
  ap (λ noted. live_links (noted ∷ past)) same ∙ ends (is_cancel_all (Said source message)),
  subst (λ noted. SameStanding link (heard_on link (noted ∷ past)) (heard_on link past)) (sym same)
      (standing_on_heard link (unheard source message (time_after past)) past
      (λ own. unheard_is_quiet link source message (time_after past) (heard_on link past)
      (live_on_heard link past ∙ ap (λ l. is_live l past) (eqb-true link source own) ∙ dead))),
)
  where
    same : noted_over configuration past (Said source message) ≡ unheard source message (time_after past)
    same = noted_unheard configuration past source message dead barred

    ends : (e : Bool) → cond e (without source (live_links past)) (live_links past) ≡ live_links past
    ends true = without_absent source (live_links past) dead
    ends false = refl

    at : (b : Bool) → cond b (due_at configuration.profile link (noted_over configuration past (Said source message)) (heard_on link past)) [] ≡ []
    at true = ap (λ noted. due_at configuration.profile link noted (heard_on link past)) same
    at false = refl

pub unheard_changes_nothing : (configuration : Configuration) (past : List Noted) (act : Act) (source link : ℕ)
    → is_of source act ≡ true → is_live source past ≡ false → admits configuration past act ≡ false
    → ChangesNothing configuration past act link
unheard_changes_nothing configuration past (Said other message) source link own dead barred =
    unheard_message configuration past other link message (ap (λ l. is_live l past) (sym (eqb-true source other own)) ∙ dead) barred
unheard_changes_nothing configuration past (Malformed other fault) source link own dead barred =
    (at (concerns link (Malformed other fault)), refl, malformed_changes_nothing configuration past other link fault)
  where
    at : (b : Bool) → cond b (due_of_fault (cond (is_live other past) Unreadable Unheard) fault) [] ≡ []
    at true = ap (λ l. due_of_fault (cond l Unreadable Unheard) fault) (ap (λ l. is_live l past) (sym (eqb-true source other own)) ∙ dead)
    at false = refl
unheard_changes_nothing configuration past (Moved before now) source link own dead barred = absurd (let h : false ≡ true = own in cc)
unheard_changes_nothing configuration past (Ticked tick) source link own dead barred = absurd (let h : false ≡ true = own in cc)
unheard_changes_nothing configuration past (Crew on) source link own dead barred = absurd (let h : false ≡ true = own in cc)
