-- One act more: how the live links and the session follow from those before it.
use Rattle.std.proofs.Common.{◌≡◌, ℕ, Bool, true, false, cond, not, ◌&&◌, ◌||◌, ◌==◌, List, [], ◌∷◌, Option, Some, None, is_some, refl, ap, sym, ◌∙◌, option_map}
use Rattle.std.specs.Prelude.{nat_eq}
use Rattle.std.specs.List.{list_any}
use Rattle.std.proofs.lemmas.Bool.{eqb-true, eqb-false, eq-eqb, ne_eqb}
use Rattle.std.proofs.Math.Bool.{and-false}
use Rattle.contract_rules.specs.Acts.{Act, Said, Malformed, Moved, Ticked, Crew, concerns, is_said_on, is_cancel_all}
use Rattle.contract_rules.specs.LookingBack.{unless, from_last}
use Rattle.contract_rules.specs.LiveLinks.{Verdict, Accepted, Noted, without, links_after, live_links, is_live, heard_on, admits_link, session_of}
use Rattle.contract_rules.specs.Messages.{Cancel}
use Rattle.contract_rules.specs.InForce.{accepted_cancel}
use Rattle.contract_rules.specs.Retellings.{ends_session}

pub unless_none : {B : Type 0} (s : Option B) → unless (λ b. false) s ≡ s
unless_none None = refl
unless_none (Some b) = refl

pub or_parts : (a b : Bool) → (a || b) ≡ false → (a ≡ false) × (b ≡ false)
or_parts true b e = absurd (let h : true ≡ false = e in cc)
or_parts false b e = (refl, e)

-- No cancel ends a contract that isn't there.
pub accepted_cancel_of_none : (act : Act) (verdict : Verdict) → accepted_cancel None act verdict ≡ false
accepted_cancel_of_none (Said link (Cancel number)) Accepted = refl
accepted_cancel_of_none (Said link message) Accepted = refl
accepted_cancel_of_none act verdict = refl

-- The order of the two numbers in a test of equality is free.
pub eqb_turned : (m n : ℕ) → (m == n) ≡ (n == m)
eqb_turned m n = at (m == n) refl
  where
    at : (b : Bool) → (m == n) ≡ b → b ≡ (n == m)
    at true e = sym (eq-eqb n m (sym (eqb-true m n e)))
    at false e = sym (ne_eqb n m (λ same. eqb-false m n e (sym same)))

-- A link is among some links without another where it is among them, and isn't that other.
pub among_without : (link other : ℕ) (links : List ℕ)
    → list_any (nat_eq link) (without other links) ≡ (not (link == other) && list_any (nat_eq link) links)
among_without link other [] = sym (and-false (not (link == other)))
among_without link other (next ∷ links) = at (other == next) refl (link == other) refl (among_without link other links)
  where
    at : (b : Bool) → (other == next) ≡ b → (c : Bool) → (link == other) ≡ c
        → list_any (nat_eq link) (without other links) ≡ (not (link == other) && list_any (nat_eq link) links)
        → list_any (nat_eq link) (cond (not b) (next ∷ without other links) (without other links)) ≡ (not c && ((link == next) || list_any (nat_eq link) links))
    at true e true f rest = rest ∙ ap (λ x. not x && list_any (nat_eq link) links) f
    at true e false f rest =
        rest ∙ ap (λ x. not x && list_any (nat_eq link) links) f
        ∙ ap (λ x. x || list_any (nat_eq link) links) (sym (ap (λ n. link == n) (sym (eqb-true other next e)) ∙ f))
    at false e true f rest =
        ap (λ x. x || list_any (nat_eq link) (without other links)) (ap (λ n. n == next) (eqb-true link other f) ∙ e)
        ∙ rest ∙ ap (λ x. not x && list_any (nat_eq link) links) f
    at false e false f rest = ap (λ x. (link == next) || x) (rest ∙ ap (λ x. not x && list_any (nat_eq link) links) f)

-- A link is among the live links after an act where the act admits it, or it was among them and the act does not end its session.
pub among_after : (link : ℕ) (act : Act) (admits : Bool) (live : List ℕ)
    → list_any (nat_eq link) (links_after act admits live)
    ≡ ((admits && is_said_on link act) || (not (ends_session link act) && list_any (nat_eq link) live))
among_after link (Said other message) admits live = at admits (is_cancel_all (Said other message)) (link == other) refl
  where
    at : (a c b : Bool) → (link == other) ≡ b
        → list_any (nat_eq link) (cond a (other ∷ live) (cond c (without other live) live)) ≡ ((a && b) || (not (c && b) && list_any (nat_eq link) live))
    at true c true e = ap (λ x. x || list_any (nat_eq link) live) e
    at true c false e = ap (λ x. x || list_any (nat_eq link) live) e ∙ ap (λ x. not x && list_any (nat_eq link) live) (sym (and-false c))
    at false true b e = among_without link other live ∙ ap (λ x. not x && list_any (nat_eq link) live) e
    at false false b e = refl
among_after link (Malformed other fault) admits live = ap (λ x. x || list_any (nat_eq link) live) (sym (and-false admits))
among_after link (Moved before now) admits live = ap (λ x. x || list_any (nat_eq link) live) (sym (and-false admits))
among_after link (Ticked tick) admits live = ap (λ x. x || list_any (nat_eq link) live) (sym (and-false admits))
among_after link (Crew on) admits live = ap (λ x. x || list_any (nat_eq link) live) (sym (and-false admits))

-- A link is live after an act where the act admits it, or it was live and the act does not end its session.
pub live_step : (link : ℕ) (noted : Noted) (past : List Noted)
    → is_live link (noted ∷ past) ≡ (admits_link link noted || (not (ends_session link noted.act) && is_live link past))
live_step link noted past = among_after link noted.act noted.admits (live_links past)

-- An act that a link does not hear of neither admits it nor ends its session.
pub other_act : (link : ℕ) (act : Act) → concerns link act ≡ false → is_said_on link act ≡ false
other_act link (Said other message) e = e
other_act link (Malformed other fault) e = refl
other_act link _ e = refl

pub live_besides : (link : ℕ) (noted : Noted) (past : List Noted) → concerns link noted.act ≡ false
    → is_live link (noted ∷ past) ≡ is_live link past
live_besides link noted past e =
    live_step link noted past
    ∙ ap (λ b. (noted.admits && b) || (not (is_cancel_all noted.act && b) && is_live link past)) (other_act link noted.act e)
    ∙ ap (λ b. b || (not (is_cancel_all noted.act && false) && is_live link past)) (and-false noted.admits)
    ∙ ap (λ b. not b && is_live link past) (and-false (is_cancel_all noted.act))

-- A link is live after what it heard of a past where it is live after the past.
pub live_on_heard : (link : ℕ) (past : List Noted) → is_live link (heard_on link past) ≡ is_live link past
live_on_heard link [] = refl
live_on_heard link (noted ∷ past) = at (concerns link noted.act) refl (live_on_heard link past)
  where
    at : (b : Bool) → concerns link noted.act ≡ b → is_live link (heard_on link past) ≡ is_live link past
        → is_live link (cond b (noted ∷ heard_on link past) (heard_on link past)) ≡ is_live link (noted ∷ past)
    at true own same =
        live_step link noted (heard_on link past)
        ∙ ap (λ l. admits_link link noted || (not (ends_session link noted.act) && l)) same
        ∙ sym (live_step link noted past)
    at false other same = same ∙ sym (live_besides link noted past other)

-- A link has a session where it is live.
pub session_is_live : (link : ℕ) (heard : List Noted) → is_some (session_of link heard) ≡ is_live link heard
session_is_live link heard =
    elim (is_live link heard) as (λ b. is_some (cond b (Some (from_last (λ noted _. admits_link link noted) heard)) None) ≡ b) [
      | true ↦ refl
      | false ↦ refl
    ]

-- The session after an act: the act alone where it admits the link; none where the act ends it; else the one before it, with
-- the act.
abbrev pub session_next : Bool → Bool → Noted → Option (List Noted) → Option (List Noted)
session_next admits ends noted session = cond admits (Some (noted ∷ [])) (cond ends None (option_map (λ acts. noted ∷ acts) session))

pub session_step : (link : ℕ) (noted : Noted) (heard : List Noted)
    → session_of link (noted ∷ heard) ≡ session_next (admits_link link noted) (ends_session link noted.act) noted (session_of link heard)
session_step link noted heard =
    ap (λ l. cond l (Some (noted ∷ cond (admits_link link noted) [] (from_last (λ n _. admits_link link n) heard))) None) (live_step link noted heard)
    ∙ at (admits_link link noted) (ends_session link noted.act) (is_live link heard)
  where
    at : (a e l : Bool)
        → cond (a || (not e && l)) (Some (noted ∷ cond a [] (from_last (λ n _. admits_link link n) heard))) None
        ≡ session_next a e noted (cond l (Some (from_last (λ n _. admits_link link n) heard)) None)
    at true e l = refl
    at false true l = refl
    at false false true = refl
    at false false false = refl
