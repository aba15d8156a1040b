-- Live links and contracts in force, as the rules say them.
use Rattle.std.proofs.Common.{◌≡◌, ◌↔◌, ℕ, Bool, true, false, not, ◌&&◌, ◌||◌, List, [], ◌∷◌, ◌++◌, Option, Some, None, refl, ap, sym, ◌∙◌}
use Rattle.std.specs.List.{list_all}
use Rattle.std.specs.Option.{option_or}
use Rattle.std.proofs.lemmas.Bool.{and_parts}
use Rattle.std.proofs.Math.Bool.{or-true}
use Rattle.contract_rules.specs.Messages.{Kind}
use Rattle.contract_rules.specs.LookingBack.{unless}
use Rattle.contract_rules.specs.LiveLinks.{Noted, admits_link, is_live, session_of}
use Rattle.contract_rules.specs.InForce.{Contract, contract_made, cancels, in_force}
use Rattle.contract_rules.specs.Retellings.{ends_session, AdmittedSince, MadeAndNotEnded}
use Rattle.contract_rules.proofs.Steps.{live_step, session_step, session_next}
use Rattle.contract_rules.proofs.Standing.{Stood, stood_if, stood_only_if, unless_open}

pub admitted_before : (link : ℕ) (noted : Noted) (past : List Noted) → not (ends_session link noted.act) ≡ true
    → AdmittedSince link past → AdmittedSince link (noted ∷ past)
admitted_before link noted past kept since =
    record {
      newer = noted ∷ since.newer;
      act = since.act;
      older = since.older;
      split = ap (λ acts. noted ∷ acts) since.split;
      admitted = since.admitted;
      not_ended = ap (λ b. b && list_all (λ n. not (ends_session link n.act)) since.newer) kept ∙ since.not_ended;
    }

pub live_then_admitted : (link : ℕ) (past : List Noted) → is_live link past ≡ true → AdmittedSince link past
live_then_admitted link [] live = absurd (let h : false ≡ true = live in cc)
live_then_admitted link (noted ∷ past) live =
    at (admits_link link noted) refl (live_then_admitted link past) (sym (live_step link noted past) ∙ live)
  where
    at : (b : Bool) → admits_link link noted ≡ b → (is_live link past ≡ true → AdmittedSince link past)
        → (b || (not (ends_session link noted.act) && is_live link past)) ≡ true → AdmittedSince link (noted ∷ past)
    at true admitted before is =
        record { newer = []; act = noted; older = past; split = refl; admitted = admitted; not_ended = refl }
    at false other before is =
        let parts = and_parts (not (ends_session link noted.act)) (is_live link past) is in
        admitted_before link noted past parts.0 (before parts.1)

pub live_from : (link : ℕ) (newer : List Noted) (act : Noted) (older : List Noted) → admits_link link act ≡ true
    → list_all (λ noted. not (ends_session link noted.act)) newer ≡ true → is_live link (newer ++ act ∷ older) ≡ true
live_from link [] act older admitted kept =
    live_step link act older ∙ ap (λ b. b || (not (ends_session link act.act) && is_live link older)) admitted
live_from link (next ∷ newer) act older admitted kept =
    let parts = and_parts (not (ends_session link next.act)) (list_all (λ noted. not (ends_session link noted.act)) newer) kept in
    live_step link next (newer ++ act ∷ older)
    ∙ ap (λ b. admits_link link next || (b && is_live link (newer ++ act ∷ older))) parts.0
    ∙ ap (λ b. admits_link link next || b) (live_from link newer act older admitted parts.1)
    ∙ or-true (admits_link link next)

pub live_since_admission : (link : ℕ) (past : List Noted) → (is_live link past ≡ true) ↔ AdmittedSince link past
live_since_admission link past = (
  live_then_admitted link past,
  λ since. ap (is_live link) since.split ∙ live_from link since.newer since.act since.older since.admitted since.not_ended,
)

pub in_force_since_acceptance : (kind : Kind) (session : List Noted) (contract : Contract)
    → (in_force kind (Some session) ≡ Some contract) ↔ MadeAndNotEnded kind session contract
in_force_since_acceptance kind session contract = (
  λ e. let stood : Stood (contract_made kind) (λ c noted. cancels (Some c) noted) session contract
      = stood_if (contract_made kind) (λ c noted. cancels (Some c) noted) session contract e in
      record {
        newer = stood.newer;
        act = stood.act;
        older = stood.older;
        split = stood.split;
        made = stood.begun;
        no_other = stood.no_other;
        not_cancelled = stood.not_ended;
      },
  λ made. stood_only_if (contract_made kind) (λ c noted. cancels (Some c) noted) session contract
      (record {
        newer = made.newer;
        act = made.act;
        older = made.older;
        split = made.split;
        begun = made.made;
        no_other = made.no_other;
        not_ended = made.not_cancelled;
      }),
)

-- What is in force after an act is what the act makes; or else what was in force before, in the same session.
pub data WasInForce (kind : Kind) (link : ℕ) (noted : Noted) (heard : List Noted) (contract : Contract) : Type 0 where
  made_now : contract_made kind noted ≡ Some contract → WasInForce kind link noted heard contract
  was_before : contract_made kind noted ≡ None → in_force kind (session_of link heard) ≡ Some contract
      → WasInForce kind link noted heard contract

pub was_in_force : (kind : Kind) (link : ℕ) (noted : Noted) (heard : List Noted) (contract : Contract)
    → in_force kind (session_of link (noted ∷ heard)) ≡ Some contract → WasInForce kind link noted heard contract
was_in_force kind link noted heard contract e =
    at (admits_link link noted) (ends_session link noted.act) (session_of link heard) refl (ap (in_force kind) (sym (session_step link noted heard)) ∙ e)
  where
    from : (o : Option Contract) → contract_made kind noted ≡ o → (held : Option Contract) → in_force kind (session_of link heard) ≡ held
        → option_or o (unless (λ c. cancels (Some c) noted) held) ≡ Some contract
        → WasInForce kind link noted heard contract
    from (Some c) is held was e = made_now (is ∙ e)
    from None is held was e =
        was_before is (was ∙ (unless_open (λ (c : Contract). cancels (Some c) noted) held contract e).0)

    alone : (o : Option Contract) → contract_made kind noted ≡ o → option_or o None ≡ Some contract → WasInForce kind link noted heard contract
    alone (Some c) is e = made_now (is ∙ e)
    alone None is e = absurd (let h : None ≡ Some contract = e in cc)

    at : (a ends : Bool) (session : Option (List Noted)) → session_of link heard ≡ session
        → in_force kind (session_next a ends noted session) ≡ Some contract → WasInForce kind link noted heard contract
    at true ends session is e = alone (contract_made kind noted) refl e
    at false true session is e = absurd (let h : None ≡ Some contract = e in cc)
    at false false None is e = absurd (let h : None ≡ Some contract = e in cc)
    at false false (Some acts) is e = from (contract_made kind noted) refl (in_force kind (Some acts)) (ap (in_force kind) is) e
