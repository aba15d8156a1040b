-- The anchor of emergency reports is the latest of the acts that the rule names.
use Rattle.std.proofs.Common.{◌≡◌, ℕ, ◌+◌, Bool, true, false, cond, not, ◌&&◌, ◌||◌, List, [], ◌∷◌, ◌++◌, Option, Some, None, is_some, option_map, refl, ap, sym, ◌∙◌, arith}
use Rattle.std.specs.List.{list_all}
use Rattle.std.specs.Option.{option_or}
use Rattle.std.proofs.lemmas.Bool.{and_parts, not-true}
use Rattle.std.proofs.Math.Bool.{or-true}
use Rattle.contract_rules.specs.Messages.{Emergency}
use Rattle.contract_rules.specs.Acts.{is_crew_act}
use Rattle.contract_rules.specs.LookingBack.{Test, last_such, unless, count_from}
use Rattle.contract_rules.specs.LiveLinks.{Noted, admits_link, is_live, session_of}
use Rattle.contract_rules.specs.InForce.{Contract, contract_made, accepts, cancels, in_force}
use Rattle.contract_rules.specs.Emergency.{is_anchor, is_emergency_due, emergency_report_number}
use Rattle.contract_rules.specs.Retellings.{count_since, ends_session, IsNamedByRule, last_crew_act, admission, acceptance, cancel, LatestAnchor}
use Rattle.contract_rules.proofs.Steps.{live_step, session_step, session_next, or_parts, accepted_cancel_of_none}

-- Whether none of the newer acts passes the test, where the older acts came before them.
abbrev pub none_since : {A : Type 0} → Test A → List A → List A → Bool
none_since test [] older = true
none_since test (act ∷ newer) older = not (test act (newer ++ older)) && none_since test newer older

-- The last act that passes a test, and the split of the past at it.
pub record LastAct {A : Type 0} (test : Test A) (past : List A) : Type 0 where
  pub newer : List A
  pub act : A
  pub older : List A
  pub split : past ≡ newer ++ act ∷ older
  pub is_last : last_such test past ≡ Some act
  pub passes : test act older ≡ true
  pub none_newer : none_since test newer (act ∷ older) ≡ true

pub last_here : {A : Type 0} (test : Test A) (act : A) (past : List A) → test act past ≡ true → LastAct test (act ∷ past)
last_here test act past e =
    record {
      newer = [];
      act = act;
      older = past;
      split = refl;
      is_last = ap (λ b. cond b (Some act) (last_such test past)) e;
      passes = e;
      none_newer = refl;
    }

pub last_before : {A : Type 0} (test : Test A) (act : A) (past : List A) → test act past ≡ false → LastAct test past → LastAct test (act ∷ past)
last_before test act past e last =
    record {
      newer = act ∷ last.newer;
      act = last.act;
      older = last.older;
      split = ap (λ acts. act ∷ acts) last.split;
      is_last = ap (λ b. cond b (Some act) (last_such test past)) e ∙ last.is_last;
      passes = last.passes;
      none_newer =
          ap (λ acts. not (test act acts) && none_since test last.newer (last.act ∷ last.older)) (sym last.split)
          ∙ ap (λ b. not b && none_since test last.newer (last.act ∷ last.older)) e
          ∙ last.none_newer;
    }

-- Of the newer acts none passes, so each fails the test, over the acts between it and the older ones.
pub fails_since : {A : Type 0} (test : Test A) (later : List A) (other : A) (earlier older : List A)
    → none_since test (later ++ other ∷ earlier) older ≡ true → test other (earlier ++ older) ≡ false
fails_since test [] other earlier older none =
    not-true (test other (earlier ++ older)) (and_parts (not (test other (earlier ++ older))) (none_since test earlier older) none).0
fails_since test (next ∷ later) other earlier older none =
    fails_since test later other earlier older
    (and_parts (not (test next ((later ++ other ∷ earlier) ++ older))) (none_since test (later ++ other ∷ earlier) older) none).1

-- A weaker test, of the act alone, that implies the test: no newer act passes it either.
pub none_passes : {A : Type 0} (test : Test A) (own : A → Bool) (implies : (act : A) (before : List A) → own act ≡ true → test act before ≡ true)
    (newer older : List A) → none_since test newer older ≡ true → list_all (λ act. not (own act)) newer ≡ true
none_passes test own implies [] older none = refl
none_passes test own implies (act ∷ newer) older none =
    let parts = and_parts (not (test act (newer ++ older))) (none_since test newer older) none in
    at (own act) refl (implies act (newer ++ older)) (not-true (test act (newer ++ older)) parts.0) (none_passes test own implies newer older parts.1)
  where
    at : (b : Bool) → own act ≡ b → (own act ≡ true → test act (newer ++ older) ≡ true) → test act (newer ++ older) ≡ false
        → list_all (λ a. not (own a)) newer ≡ true → list_all (λ a. not (own a)) (act ∷ newer) ≡ true
    at true e passes fails rest = absurd (let h : true ≡ false = sym (passes e) ∙ fails in cc)
    at false e passes fails rest = ap (λ b. not b && list_all (λ a. not (own a)) newer) e ∙ rest

-- What is counted from the last act that starts the count.
pub count_split : {A : Type 0} (starts counts : Test A) (newer : List A) (act : A) (older : List A)
    → starts act older ≡ true → none_since starts newer (act ∷ older) ≡ true
    → count_from starts counts (newer ++ act ∷ older) ≡ count_since counts newer (act ∷ older) + cond (counts act older) 1 0
count_split starts counts [] act older e none =
    ap (λ b. cond b 0 (count_from starts counts older) + cond (counts act older) 1 0) e
count_split starts counts (next ∷ newer) act older e none =
    let parts = and_parts (not (starts next (newer ++ act ∷ older))) (none_since starts newer (act ∷ older)) none in
    let now : ℕ = cond (counts next (newer ++ act ∷ older)) 1 0 in
    ap (λ b. cond b 0 (count_from starts counts (newer ++ act ∷ older)) + now) (not-true (starts next (newer ++ act ∷ older)) parts.0)
    ∙ ap (λ n. n + now) (count_split starts counts newer act older e parts.1)
    ∙ moved (count_since counts newer (act ∷ older)) (cond (counts act older) 1 0) now
  where
    moved : (a b c : ℕ) → (a + b) + c ≡ (a + c) + b
    moved a b c = omega arith

-- ---- which acts are anchors

pub crew_acts_anchor : (link : ℕ) (noted : Noted) (heard : List Noted) → is_crew_act noted.act ≡ true → is_anchor link noted heard ≡ true
crew_acts_anchor link noted heard e =
    ap (λ b. b || admits_link link noted || accepts Emergency noted || cancels (in_force Emergency (session_of link heard)) noted) e

pub admissions_anchor : (link : ℕ) (noted : Noted) (heard : List Noted) → admits_link link noted ≡ true → is_anchor link noted heard ≡ true
admissions_anchor link noted heard e =
    ap (λ b. is_crew_act noted.act || b || accepts Emergency noted || cancels (in_force Emergency (session_of link heard)) noted) e
    ∙ ap (λ b. b || accepts Emergency noted || cancels (in_force Emergency (session_of link heard)) noted) (or-true (is_crew_act noted.act))

pub acceptances_anchor : (link : ℕ) (noted : Noted) (heard : List Noted) → accepts Emergency noted ≡ true → is_anchor link noted heard ≡ true
acceptances_anchor link noted heard e =
    ap (λ b. is_crew_act noted.act || admits_link link noted || b || cancels (in_force Emergency (session_of link heard)) noted) e
    ∙ ap (λ b. b || cancels (in_force Emergency (session_of link heard)) noted) (or-true (is_crew_act noted.act || admits_link link noted))

pub cancels_anchor : (link : ℕ) (noted : Noted) (heard : List Noted) → cancels (in_force Emergency (session_of link heard)) noted ≡ true → is_anchor link noted heard ≡ true
cancels_anchor link noted heard e =
    ap (λ b. is_crew_act noted.act || admits_link link noted || accepts Emergency noted || b) e
    ∙ or-true (is_crew_act noted.act || admits_link link noted || accepts Emergency noted)

pub named_anchors : (link : ℕ) (newer : List Noted) (act : Noted) (older : List Noted) → IsNamedByRule link newer act older → is_anchor link act older ≡ true
named_anchors link newer act older (last_crew_act crew none) = crew_acts_anchor link act older crew
named_anchors link newer act older (admission admitted none) = admissions_anchor link act older admitted
named_anchors link newer act older (acceptance contract made none held) = acceptances_anchor link act older (ap is_some made)
named_anchors link newer act older (cancel contract held cancelled earlier session) =
    cancels_anchor link act older (ap (λ c. cancels c act) held ∙ cancelled)

-- ---- the latest anchor stands in the session of a live link

pub record SessionAnchor (link : ℕ) (heard : List Noted) : Type 0 where
  pub last : LastAct (is_anchor link) heard
  pub earlier : List Noted
  pub of_session : session_of link heard ≡ Some (last.newer ++ last.act ∷ earlier)
  pub of_contract : (contract : Contract) → contract_made Emergency last.act ≡ Some contract
      → in_force Emergency (session_of link heard) ≡ Some contract

pub no_contract : (o : Option Contract) → is_some o ≡ false → o ≡ None
no_contract None e = refl
no_contract (Some c) e = absurd (let h : true ≡ false = e in cc)

-- Over an act that is no anchor the emergency contract in force stays in force.
pub stays_in_force : (link : ℕ) (noted : Noted) (heard session : List Noted) (contract : Contract) → session_of link heard ≡ Some session
    → is_anchor link noted heard ≡ false
    → in_force Emergency (Some session) ≡ Some contract → in_force Emergency (Some (noted ∷ session)) ≡ Some contract
stays_in_force link noted heard session contract is e held =
    let outer = or_parts (is_crew_act noted.act || admits_link link noted || accepts Emergency noted) (cancels (in_force Emergency (session_of link heard)) noted) e in
    let inner = or_parts (is_crew_act noted.act || admits_link link noted) (accepts Emergency noted) outer.0 in
    let kept : cancels (Some contract) noted ≡ false = ap (λ c. cancels c noted) (sym held ∙ ap (in_force Emergency) (sym is)) ∙ outer.1 in
    ap (λ o. option_or o (unless (λ c. cancels (Some c) noted) (in_force Emergency (Some session)))) (no_contract (contract_made Emergency noted) inner.1)
    ∙ ap (unless (λ c. cancels (Some c) noted)) held
    ∙ ap (λ b. cond b None (Some contract)) kept

pub anchor_here : (link : ℕ) (noted : Noted) (heard earlier : List Noted) → session_of link (noted ∷ heard) ≡ Some (noted ∷ earlier)
    → is_anchor link noted heard ≡ true → SessionAnchor link (noted ∷ heard)
unfolding last_here
anchor_here link noted heard earlier session e =
    record {
      last = last_here (is_anchor link) noted heard e;
      earlier = earlier;
      of_session = session;
      of_contract = λ contract made.
          ap (in_force Emergency) session
          ∙ ap (λ o. option_or o (unless (λ c. cancels (Some c) noted) (in_force Emergency (Some earlier)))) made;
    }

pub anchor_before : (link : ℕ) (noted : Noted) (heard : List Noted) (anchor : SessionAnchor link heard)
    → session_of link (noted ∷ heard) ≡ option_map (λ acts. noted ∷ acts) (session_of link heard)
    → is_anchor link noted heard ≡ false → SessionAnchor link (noted ∷ heard)
unfolding last_before
anchor_before link noted heard anchor session e =
    let now : session_of link (noted ∷ heard) ≡ Some (noted ∷ anchor.last.newer ++ anchor.last.act ∷ anchor.earlier)
    = session ∙ ap (option_map (λ acts. noted ∷ acts)) anchor.of_session in
    record {
      last = last_before (is_anchor link) noted heard e anchor.last;
      earlier = anchor.earlier;
      of_session = now;
      of_contract = λ contract made.
          ap (in_force Emergency) now
          ∙ stays_in_force link noted heard (anchor.last.newer ++ anchor.last.act ∷ anchor.earlier) contract anchor.of_session e
          (ap (in_force Emergency) (sym anchor.of_session) ∙ anchor.of_contract contract made);
    }

pub session_anchor : (link : ℕ) (heard : List Noted) → is_live link heard ≡ true → SessionAnchor link heard
session_anchor link [] live = absurd (let h : false ≡ true = live in cc)
session_anchor link (noted ∷ heard) live =
    at (admits_link link noted) refl (ends_session link noted.act) (is_live link heard) refl (session_anchor link heard)
    (sym (live_step link noted heard) ∙ live) (session_step link noted heard)
  where
    next : SessionAnchor link heard → session_of link (noted ∷ heard) ≡ option_map (λ acts. noted ∷ acts) (session_of link heard)
        → (b : Bool) → is_anchor link noted heard ≡ b → SessionAnchor link (noted ∷ heard)
    next anchor session true e =
        anchor_here link noted heard (anchor.last.newer ++ anchor.last.act ∷ anchor.earlier)
        (session ∙ ap (option_map (λ acts. noted ∷ acts)) anchor.of_session) e
    next anchor session false e = anchor_before link noted heard anchor session e

    at : (a : Bool) → admits_link link noted ≡ a → (ends l : Bool) → is_live link heard ≡ l → (is_live link heard ≡ true → SessionAnchor link heard)
        → (a || (not ends && l)) ≡ true → session_of link (noted ∷ heard) ≡ session_next a ends noted (session_of link heard)
        → SessionAnchor link (noted ∷ heard)
    at true admits ends l was anchor is session = anchor_here link noted heard [] session (admissions_anchor link noted heard admits)
    at false admits true l was anchor is session = absurd (let h : false ≡ true = is in cc)
    at false admits false false was anchor is session = absurd (let h : false ≡ true = is in cc)
    at false admits false true was anchor is session = next (anchor was) session (is_anchor link noted heard) refl

-- ---- the latest anchor is one of the four acts

-- An anchor that no newer one follows, in a session, is a crew act, an admission, an acceptance or a cancel.
pub which_anchor : (link : ℕ) (newer : List Noted) (act : Noted) (older earlier : List Noted)
    → none_since (is_anchor link) newer (act ∷ older) ≡ true
    → session_of link (newer ++ act ∷ older) ≡ Some (newer ++ act ∷ earlier)
    → ((contract : Contract) → contract_made Emergency act ≡ Some contract → in_force Emergency (session_of link (newer ++ act ∷ older)) ≡ Some contract)
    → is_anchor link act older ≡ true → IsNamedByRule link newer act older
which_anchor link newer act older earlier none session of_contract anchor =
    at (is_crew_act act.act) refl (admits_link link act) refl (accepts Emergency act) refl (in_force Emergency (session_of link older)) refl anchor
  where
    made : (o : Option Contract) → contract_made Emergency act ≡ o → is_some o ≡ true → IsNamedByRule link newer act older
    made None is e = absurd (let h : false ≡ true = e in cc)
    made (Some contract) is e =
        acceptance contract is
        (none_passes (is_anchor link) (accepts Emergency) (acceptances_anchor link) newer (act ∷ older) none)
        (of_contract contract is)

    cancelled : (o : Option Contract) → in_force Emergency (session_of link older) ≡ o → cancels o act ≡ true → IsNamedByRule link newer act older
    cancelled None held e = absurd (let h : false ≡ true = sym (accepted_cancel_of_none act.act act.verdict) ∙ e in cc)
    cancelled (Some contract) held e = cancel contract held e earlier session

    at : (crew : Bool) → is_crew_act act.act ≡ crew → (admitted : Bool) → admits_link link act ≡ admitted → (accepted : Bool) → accepts Emergency act ≡ accepted
        → (o : Option Contract) → in_force Emergency (session_of link older) ≡ o
        → (crew || admitted || accepted || cancels o act) ≡ true → IsNamedByRule link newer act older
    at true crew admitted a accepted m o held e =
        last_crew_act crew (none_passes (is_anchor link) (λ noted. is_crew_act noted.act) (crew_acts_anchor link) newer (act ∷ older) none)
    at false crew true a accepted m o held e =
        admission a (none_passes (is_anchor link) (admits_link link) (admissions_anchor link) newer (act ∷ older) none)
    at false crew false a true m o held e = made (contract_made Emergency act) refl m
    at false crew false a false m o held e = cancelled o held e

pub anchor_is_latest : (link : ℕ) (heard : List Noted) → is_live link heard ≡ true → LatestAnchor link heard
anchor_is_latest link heard live =
    let found = session_anchor link heard live in
    record {
      newer = found.last.newer;
      act = found.last.act;
      older = found.last.older;
      split = found.last.split;
      is_latest = found.last.is_last;
      named =
          which_anchor link found.last.newer found.last.act found.last.older found.earlier found.last.none_newer
          (ap (session_of link) (sym found.last.split) ∙ found.of_session)
          (λ contract made. ap (λ acts. in_force Emergency (session_of link acts)) (sym found.last.split) ∙ found.of_contract contract made)
          found.last.passes;
      none_later = λ later other earlier s named.
          absurd (let h : true ≡ false = sym (named_anchors link later other (earlier ++ found.last.act ∷ found.last.older) named)
          ∙ fails_since (is_anchor link) later other earlier (found.last.act ∷ found.last.older)
          (ap (λ acts. none_since (is_anchor link) acts (found.last.act ∷ found.last.older)) (sym s) ∙ found.last.none_newer) in cc);
      number =
          ap (emergency_report_number link) found.last.split
          ∙ count_split (is_anchor link) (is_emergency_due link) found.last.newer found.last.act found.last.older found.last.passes found.last.none_newer;
    }
