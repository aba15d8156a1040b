-- What is due on a link is a function of what the link hears.
use Rattle.std.proofs.Common.{◌≡◌, ℕ, Bool, true, false, cond, List, [], ◌∷◌, map, refl, ap, sym, ◌∙◌}
use Rattle.std.proofs.lemmas.Bool.{eqb-true}
use Rattle.contract_rules.specs.Configuration.{Configuration, Profile}
use Rattle.contract_rules.specs.Acts.{Act, Said, Malformed, Ticked, concerns, later_of}
use Rattle.contract_rules.specs.LiveLinks.{Verdict, OfFlight, Unheard, Unreadable, Noted, is_live, heard_on, session_at, admits, time_after}
use Rattle.contract_rules.specs.Verdicts.{noted_over, past_of, verdict_in, verdict_of}
use Rattle.contract_rules.specs.Due.{Item, due_items, due_at}
use Rattle.contract_rules.specs.Laws.{heard_by, dues_of}
use Rattle.contract_rules.proofs.Steps.{live_on_heard}

-- An act of another link moves no time.
pub unheard_time : (link time : ℕ) (act : Act) → concerns link act ≡ false → later_of time act ≡ time
unheard_time link time (Ticked tick) e = cc
unheard_time link time _ e = refl

-- Time is that of what the link heard.
pub time_on_heard : (link : ℕ) (past : List Noted) → time_after (heard_on link past) ≡ time_after past
time_on_heard link [] = refl
time_on_heard link (noted ∷ past) = at (time_on_heard link past) (concerns link noted.act) refl
  where
    at : time_after (heard_on link past) ≡ time_after past → (b : Bool) → concerns link noted.act ≡ b
        → time_after (cond b (noted ∷ heard_on link past) (heard_on link past)) ≡ later_of (time_after past) noted.act
    at same true e = ap (λ time. later_of time noted.act) same
    at same false e = same ∙ sym (unheard_time link (time_after past) noted.act e)

-- The verdict on an act that a link hears, by what it heard before and by whether the act admits it.
abbrev pub verdict_on_heard : ℕ → List Noted → Bool → Act → Verdict
verdict_on_heard link heard admitted (Said other message) = verdict_in (session_at admitted link heard) heard message
verdict_on_heard link heard admitted (Malformed other fault) = cond (is_live link heard) Unreadable Unheard
verdict_on_heard link heard admitted _ = OfFlight

pub verdict_is_on_heard : (configuration : Configuration) (link : ℕ) (past : List Noted) (act : Act) → concerns link act ≡ true
    → verdict_of configuration past act ≡ verdict_on_heard link (heard_on link past) (admits configuration past act) act
verdict_is_on_heard configuration link past (Said other message) e =
    ap (λ l. verdict_in (session_at (admits configuration past (Said other message)) l (heard_on l past)) (heard_on l past) message) (sym (eqb-true link other e))
verdict_is_on_heard configuration link past (Malformed other fault) e =
    ap (λ l. cond l Unreadable Unheard) (ap (λ l. is_live l past) (sym (eqb-true link other e)) ∙ sym (live_on_heard link past))
verdict_is_on_heard configuration link past _ e = refl

-- An act, noted over what a link heard, where it is given whether it admits the link.
abbrev pub noted_on : ℕ → List Noted → Bool → Act → Noted
noted_on link heard admitted act =
    record { act = act; admits = admitted; verdict = verdict_on_heard link heard admitted act; time = time_after heard }

pub noted_is_on_heard : (configuration : Configuration) (link : ℕ) (past : List Noted) (act : Act) → concerns link act ≡ true
    → noted_over configuration past act ≡ noted_on link (heard_on link past) (admits configuration past act) act
noted_is_on_heard configuration link past act e =
    λ i. record {
      act = act;
      admits = admits configuration past act;
      verdict = verdict_is_on_heard configuration link past act e i;
      time = sym (time_on_heard link past) i;
    }

-- What a link heard, found from the acts that it hears and from which of them admit it.
abbrev pub heard_again : ℕ → List (Act × Bool) → List Noted
heard_again link [] = []
heard_again link (one ∷ earlier) = noted_on link (heard_again link earlier) one.1 one.0 ∷ heard_again link earlier

pub heard_is_again : (configuration : Configuration) (link : ℕ) (acts : List Act)
    → heard_on link (past_of configuration acts) ≡ heard_again link (heard_by configuration link acts)
heard_is_again configuration link [] = refl
heard_is_again configuration link (act ∷ acts) = at (heard_is_again configuration link acts) (concerns link act) refl
  where
    at : heard_on link (past_of configuration acts) ≡ heard_again link (heard_by configuration link acts) → (b : Bool) → concerns link act ≡ b
        → cond b (noted_over configuration (past_of configuration acts) act ∷ heard_on link (past_of configuration acts)) (heard_on link (past_of configuration acts))
        ≡ heard_again link (map (λ noted. (noted.act, noted.admits)) (cond b (noted_over configuration (past_of configuration acts) act ∷ heard_on link (past_of configuration acts)) (heard_on link (past_of configuration acts))))
    at same true e =
        ap (λ noted. noted ∷ heard_on link (past_of configuration acts)) (noted_is_on_heard configuration link (past_of configuration acts) act e)
        ∙ ap (λ heard. noted_on link heard (admits configuration (past_of configuration acts) act) act ∷ heard) same
    at same false e = same

-- What is due on a link at an act, and what it heard after it, are functions of what it heard before and of whether the act
-- admits it.
pub due_on_heard : (configuration : Configuration) (link : ℕ) (past : List Noted) (act : Act)
    → due_items configuration link past act
    ≡ cond (concerns link act) (due_at configuration.profile link (noted_on link (heard_on link past) (admits configuration past act) act) (heard_on link past)) []
due_on_heard configuration link past act = at (concerns link act) refl
  where
    at : (b : Bool) → concerns link act ≡ b
        → cond b (due_at configuration.profile link (noted_over configuration past act) (heard_on link past)) []
        ≡ cond b (due_at configuration.profile link (noted_on link (heard_on link past) (admits configuration past act) act) (heard_on link past)) []
    at true own = ap (λ noted. due_at configuration.profile link noted (heard_on link past)) (noted_is_on_heard configuration link past act own)
    at false other = refl

pub heard_after : (configuration : Configuration) (link : ℕ) (past : List Noted) (act : Act)
    → heard_on link (noted_over configuration past act ∷ past)
    ≡ cond (concerns link act) (noted_on link (heard_on link past) (admits configuration past act) act ∷ heard_on link past) (heard_on link past)
heard_after configuration link past act = at (concerns link act) refl
  where
    at : (b : Bool) → concerns link act ≡ b
        → cond b (noted_over configuration past act ∷ heard_on link past) (heard_on link past)
        ≡ cond b (noted_on link (heard_on link past) (admits configuration past act) act ∷ heard_on link past) (heard_on link past)
    at true own = ap (λ noted. noted ∷ heard_on link past) (noted_is_on_heard configuration link past act own)
    at false other = refl

-- What is due on a link at each act that it heard.
abbrev pub heard_dues : Profile → ℕ → List Noted → List (List Item)
heard_dues profile link [] = []
heard_dues profile link (noted ∷ heard) = due_at profile link noted heard ∷ heard_dues profile link heard

pub dues_on_heard : (configuration : Configuration) (link : ℕ) (acts : List Act)
    → dues_of configuration link acts ≡ heard_dues configuration.profile link (heard_on link (past_of configuration acts))
dues_on_heard configuration link [] = refl
dues_on_heard configuration link (act ∷ acts) = at (concerns link act) (dues_on_heard configuration link acts)
  where
    at : (b : Bool) → dues_of configuration link acts ≡ heard_dues configuration.profile link (heard_on link (past_of configuration acts))
        → cond b (cond b (due_at configuration.profile link (noted_over configuration (past_of configuration acts) act) (heard_on link (past_of configuration acts))) [] ∷ dues_of configuration link acts) (dues_of configuration link acts)
        ≡ heard_dues configuration.profile link (cond b (noted_over configuration (past_of configuration acts) act ∷ heard_on link (past_of configuration acts)) (heard_on link (past_of configuration acts)))
    at true same = ap (λ dues. due_at configuration.profile link (noted_over configuration (past_of configuration acts) act) (heard_on link (past_of configuration acts)) ∷ dues) same
    at false same = same

pub same_dues : (link : ℕ) (one other : Configuration) (acts others : List Act) → one.profile ≡ other.profile
    → heard_on link (past_of one acts) ≡ heard_on link (past_of other others) → dues_of one link acts ≡ dues_of other link others
same_dues link one other acts others profile heard =
    dues_on_heard one link acts ∙ (λ i. heard_dues (profile i) link (heard i)) ∙ sym (dues_on_heard other link others)

pub links_are_independent : (link : ℕ) (one other : Configuration) (acts others : List Act)
    → one.profile ≡ other.profile
    → heard_by one link acts ≡ heard_by other link others
    → (heard_on link (past_of one acts) ≡ heard_on link (past_of other others)) × (dues_of one link acts ≡ dues_of other link others)
links_are_independent link one other acts others profile e =
    let same : heard_on link (past_of one acts) ≡ heard_on link (past_of other others)
    = heard_is_again one link acts ∙ ap (heard_again link) e ∙ sym (heard_is_again other link others)
    in (same, same_dues link one other acts others profile same)
