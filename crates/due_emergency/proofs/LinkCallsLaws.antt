-- The mode of a live link after the calls that the acts of a history make on it is the one of the contract rules.
use Rattle.std.proofs.Common.{◌≡◌, ℕ, ◌+◌, max, Bool, true, false, cond, not, ◌&&◌, ◌||◌, List, [], ◌∷◌, Option, Some, None, refl, ap, sym, ◌∙◌}
use Rattle.std.specs.Option.{option_or}
use Rattle.std.proofs.lemmas.Bool.{and_parts, not-true}
use Rattle.std.proofs.Math.Bool.{and-true, and_comm}
use Rattle.contract_rules.specs.Messages.{Message, Emergency}
use Rattle.contract_rules.specs.Acts.{is_crew_act, is_crew_on, concerns, later_of}
use Rattle.contract_rules.specs.LookingBack.{unless}
use Rattle.contract_rules.specs.LiveLinks.{Noted, is_live, admits_link, heard_on, session_of, time_after}
use Rattle.contract_rules.specs.InForce.{Contract, in_force, accepts, cancels, request_of, contract_made}
use Rattle.contract_rules.specs.Reports.{crosses}
use Rattle.contract_rules.specs.Emergency.{is_crew_emergency, is_in_emergency_mode, accepted_mode_cancel, is_anchor, anchor_time, emergency_interval, is_emergency_due, emergency_report_number}
use Rattle.contract_rules.specs.Verdicts.{past_of, noted_over}
use Rattle.contract_rules.specs.Retellings.{ends_session}
use Rattle.contract_rules.proofs.Steps.{live_step}
use Rattle.contract_rules.proofs.LinkSteps.{in_force_step, mode_after_crew, mode_after_other, anchor_time_step}
use Rattle.contract_rules.proofs.Independence.{time_on_heard}
use Rattle.due_emergency.specs.Calls.{Call, Admitted}
use Rattle.due_emergency.specs.Modes.{mode_after, is_in_mode, interval_of, anchor_moment, last_moment, report_count}
use Rattle.due_emergency.specs.LinkCalls.{call_made, with_call, with_count, calls_of, rules_mode, ModeIsOfRules, TickIsOfRules}
use Rattle.due_emergency.proofs.CallSteps.{begins_anew, is_in_mode-crew, is_in_mode-other, anchor_moment-with_call, interval_of-admitted, interval_of-with_call, report_count-with_call, last_moment-with_call, is_in_mode-with_count, anchor_moment-with_count, interval_of-with_count, last_moment-with_count, report_count-with_count}

-- What the calls before an act's own have to meet, so that the mode after the act is the one of the rules: those before the
-- act on a link that stays live, and the admission alone where the act admits the link.
pub record AreBefore (link : ℕ) (noted : Noted) (heard : List Noted) (calls : List Call) : Type 0 where
  pub on : is_crew_act noted.act ≡ false
      → (not (accepted_mode_cancel noted.act noted.verdict) && is_in_mode calls)
      ≡ is_in_emergency_mode (session_of link (noted ∷ heard)) (noted ∷ heard)
  pub anchor : cond (begins_anew (request_of (in_force Emergency (session_of link heard))) noted.act noted.verdict noted.time) noted.time (anchor_moment calls)
      ≡ anchor_time link (noted ∷ heard)
  pub interval : interval_of (with_call (call_made (request_of (in_force Emergency (session_of link heard))) noted.act noted.verdict noted.time) calls)
      ≡ emergency_interval (request_of (in_force Emergency (session_of link (noted ∷ heard))))
  pub reports : cond (begins_anew (request_of (in_force Emergency (session_of link heard))) noted.act noted.verdict noted.time) 0 (report_count calls)
      + cond (is_emergency_due link noted heard) 1 0
      ≡ emergency_report_number link (noted ∷ heard)
  pub last : last_moment calls ≡ noted.time

-- An act that admits a link is an anchor.
anchored : (crew accepted cancelled : Bool) → (((crew || true) || accepted) || cancelled) ≡ true
anchored true accepted cancelled = refl
anchored false accepted cancelled = refl

-- Any other act is an anchor where it begins the count anew.
anchored_else : (crew accepted cancelled : Bool) → (((crew || false) || accepted) || cancelled) ≡ (crew || (accepted || cancelled))
anchored_else true accepted cancelled = refl
anchored_else false accepted cancelled = refl

either : {A : Type 0} (b : Bool) (x : A) → cond b x x ≡ x
either true x = refl
either false x = refl

-- The emergency contract in force after an act that does not admit the link.
abbrev in_force_kept : ℕ → Noted → Bool → Bool → Option Contract → Option Contract
in_force_kept link noted ends live held =
    cond (not ends && live) (option_or (contract_made Emergency noted) (unless (λ c. cancels (Some c) noted) held)) None

before_admission : (link : ℕ) (noted : Noted) (heard : List Noted) → admits_link link noted ≡ true
    → AreBefore link noted heard (Admitted (is_crew_emergency heard) noted.time ∷ [])
before_admission link noted heard admitted =
    let crew : Bool = is_crew_emergency heard in
    let kept : Bool = not (accepted_mode_cancel noted.act noted.verdict) in
    let anew : Bool = begins_anew (request_of (in_force Emergency (session_of link heard))) noted.act noted.verdict noted.time in
    let is_one : is_anchor link noted heard ≡ true =
    ap (λ a. ((is_crew_act noted.act || a) || accepts Emergency noted) || cancels (in_force Emergency (session_of link heard)) noted) admitted
    ∙ anchored (is_crew_act noted.act) (accepts Emergency noted) (cancels (in_force Emergency (session_of link heard)) noted) in
    record {
      on = λ other.
          ap (λ b. kept && b) (and-true crew) ∙ and_comm kept crew
          ∙ sym (mode_after_other link noted heard other
          ∙ ap (λ a. cond a (crew && kept) (not (ends_session link noted.act) && (kept && is_in_emergency_mode (session_of link heard) heard))) admitted);
      anchor = either anew noted.time ∙ sym (anchor_time_step link noted heard ∙ ap (λ a. cond a noted.time (anchor_time link heard)) is_one);
      interval =
          interval_of-admitted (request_of (in_force Emergency (session_of link heard))) noted.act noted.verdict crew noted.time
          ∙ sym (ap (λ c. emergency_interval (request_of c)) (in_force_step Emergency link noted heard)
          ∙ ap (λ a. emergency_interval (request_of (cond a (contract_made Emergency noted) (in_force_kept link noted (ends_session link noted.act) (is_live link heard) (in_force Emergency (session_of link heard)))))) admitted);
      reports =
          ap (λ n. n + cond (is_emergency_due link noted heard) 1 0)
          (either anew 0 ∙ ap (λ a. cond a 0 (emergency_report_number link heard)) (sym is_one));
      last = refl;
    }

before_act : (link : ℕ) (noted : Noted) (heard : List Noted)
    → admits_link link noted ≡ false → ends_session link noted.act ≡ false → is_live link heard ≡ true
    → noted.time ≡ time_after heard → mode_after (calls_of link heard) ≡ rules_mode link heard
    → AreBefore link noted heard (calls_of link heard)
before_act link noted heard other stays live timed same =
    let crew : Bool = is_crew_emergency heard in
    let kept : Bool = not (accepted_mode_cancel noted.act noted.verdict) in
    let anew : Bool = begins_anew (request_of (in_force Emergency (session_of link heard))) noted.act noted.verdict noted.time in
    let is_anew : is_anchor link noted heard ≡ anew =
    ap (λ a. ((is_crew_act noted.act || a) || accepts Emergency noted) || cancels (in_force Emergency (session_of link heard)) noted) other
    ∙ anchored_else (is_crew_act noted.act) (accepts Emergency noted) (cancels (in_force Emergency (session_of link heard)) noted) in
    record {
      on = λ no_crew.
          ap (λ m. kept && m.is_on) same
          ∙ sym (mode_after_other link noted heard no_crew
          ∙ (λ i. cond (other i) (crew && kept) (not (stays i) && (kept && is_in_emergency_mode (session_of link heard) heard))));
      anchor =
          ap (λ m. cond anew noted.time m.grid.anchor) same
          ∙ sym (anchor_time_step link noted heard ∙ ap (λ a. cond a noted.time (anchor_time link heard)) is_anew);
      interval =
          interval_of-with_call (in_force Emergency (session_of link heard)) noted.act noted.verdict noted.time (calls_of link heard)
          (ap (λ m. m.grid.interval) same)
          ∙ sym (ap (λ c. emergency_interval (request_of c)) (in_force_step Emergency link noted heard)
          ∙ (λ i. emergency_interval (request_of (cond (other i) (contract_made Emergency noted)
          (in_force_kept link noted (stays i) (live i) (in_force Emergency (session_of link heard)))))));
      reports =
          (λ i. cond (sym is_anew i) 0 (same i).reports + cond (is_emergency_due link noted heard) 1 0);
      last = ap (λ m. m.grid.last) same ∙ sym timed;
    }

-- After the calls of the act the mode is the one of the rules.
mode_from : (link : ℕ) (noted : Noted) (heard : List Noted) (calls : List Call)
    → AreBefore link noted heard calls → noted.time ≡ time_after heard → is_live link (noted ∷ heard) ≡ true
    → mode_after (with_count (is_emergency_due link noted heard)
    (with_call (call_made (request_of (in_force Emergency (session_of link heard))) noted.act noted.verdict noted.time) calls))
    ≡ rules_mode link (noted ∷ heard)
mode_from link noted heard calls before timed live =
    let request : Option Message = request_of (in_force Emergency (session_of link heard)) in
    let due : Bool = is_emergency_due link noted heard in
    let own : List Call = with_call (call_made request noted.act noted.verdict noted.time) calls in
    let on : is_in_mode (with_count due own) ≡ is_in_emergency_mode (session_of link (noted ∷ heard)) (noted ∷ heard) =
    is_in_mode-with_count due own ∙ at (is_crew_act noted.act) refl in
    let anchor : anchor_moment (with_count due own) ≡ anchor_time link (noted ∷ heard) =
    anchor_moment-with_count due own ∙ anchor_moment-with_call request noted.act noted.verdict noted.time calls ∙ before.anchor in
    let interval : interval_of (with_count due own) ≡ emergency_interval (request_of (in_force Emergency (session_of link (noted ∷ heard)))) =
    interval_of-with_count due own ∙ before.interval in
    let last : last_moment (with_count due own) ≡ later_of (time_after heard) noted.act =
    last_moment-with_count due own
    ∙ last_moment-with_call request noted.act noted.verdict noted.time calls before.last
    ∙ ap (λ t. later_of t noted.act) timed in
    let reports : report_count (with_count due own) ≡ emergency_report_number link (noted ∷ heard) =
    report_count-with_count due own
    ∙ ap (λ n. n + cond due 1 0) (report_count-with_call request noted.act noted.verdict noted.time calls)
    ∙ before.reports in
    λ i. record { is_on = on i; grid = record { anchor = anchor i; interval = interval i; last = last i }; reports = reports i }
  where
    at : (crew : Bool) → is_crew_act noted.act ≡ crew
        → is_in_mode (with_call (call_made (request_of (in_force Emergency (session_of link heard))) noted.act noted.verdict noted.time) calls)
        ≡ is_in_emergency_mode (session_of link (noted ∷ heard)) (noted ∷ heard)
    at true crew =
        is_in_mode-crew (request_of (in_force Emergency (session_of link heard))) noted.act noted.verdict noted.time calls crew
        ∙ sym (mode_after_crew link noted heard crew ∙ ap (λ l. l && is_crew_on noted.act) live)
    at false other =
        is_in_mode-other (request_of (in_force Emergency (session_of link heard))) noted.act noted.verdict noted.time calls other
        ∙ before.on other

mode_step : (link : ℕ) (noted : Noted) (heard : List Noted) → noted.time ≡ time_after heard
    → (is_live link heard ≡ true → mode_after (calls_of link heard) ≡ rules_mode link heard)
    → is_live link (noted ∷ heard) ≡ true → mode_after (calls_of link (noted ∷ heard)) ≡ rules_mode link (noted ∷ heard)
mode_step link noted heard timed before live = at (admits_link link noted) refl (sym (live_step link noted heard) ∙ live)
  where
    at : (a : Bool) → admits_link link noted ≡ a → (admits_link link noted || (not (ends_session link noted.act) && is_live link heard)) ≡ true
        → mode_after (calls_of link (noted ∷ heard)) ≡ rules_mode link (noted ∷ heard)
    at true admitted lives =
        ap (λ a. mode_after (with_count (is_emergency_due link noted heard)
        (with_call (call_made (request_of (in_force Emergency (session_of link heard))) noted.act noted.verdict noted.time)
        (cond a (Admitted (is_crew_emergency heard) noted.time ∷ []) (calls_of link heard))))) admitted
        ∙ mode_from link noted heard (Admitted (is_crew_emergency heard) noted.time ∷ []) (before_admission link noted heard admitted) timed live
    at false other lives =
        let parts = and_parts (not (ends_session link noted.act)) (is_live link heard)
        (sym (ap (λ a. a || (not (ends_session link noted.act) && is_live link heard)) other) ∙ lives) in
        ap (λ a. mode_after (with_count (is_emergency_due link noted heard)
        (with_call (call_made (request_of (in_force Emergency (session_of link heard))) noted.act noted.verdict noted.time)
        (cond a (Admitted (is_crew_emergency heard) noted.time ∷ []) (calls_of link heard))))) other
        ∙ mode_from link noted heard (calls_of link heard)
        (before_act link noted heard other (not-true (ends_session link noted.act) parts.0) parts.1 timed (before parts.1)) timed live

pub mode_is_of_rules : ModeIsOfRules
mode_is_of_rules configuration link [] live = absurd (let h : false ≡ true = live in cc)
mode_is_of_rules configuration link (act ∷ acts) live = at (concerns link act) (mode_is_of_rules configuration link acts) live
  where
    at : (b : Bool)
        → (is_live link (heard_on link (past_of configuration acts)) ≡ true
        → mode_after (calls_of link (heard_on link (past_of configuration acts))) ≡ rules_mode link (heard_on link (past_of configuration acts)))
        → is_live link (cond b (noted_over configuration (past_of configuration acts) act ∷ heard_on link (past_of configuration acts)) (heard_on link (past_of configuration acts))) ≡ true
        → mode_after (calls_of link (cond b (noted_over configuration (past_of configuration acts) act ∷ heard_on link (past_of configuration acts)) (heard_on link (past_of configuration acts))))
        ≡ rules_mode link (cond b (noted_over configuration (past_of configuration acts) act ∷ heard_on link (past_of configuration acts)) (heard_on link (past_of configuration acts)))
    at true before live =
        mode_step link (noted_over configuration (past_of configuration acts) act) (heard_on link (past_of configuration acts))
        (sym (time_on_heard link (past_of configuration acts))) before live
    at false before live = before live

pub tick_is_of_rules : TickIsOfRules
tick_is_of_rules configuration link acts tick live =
    ap (λ m. m.is_on && crosses m.grid.anchor m.grid.interval m.grid.last (max (time_after (heard_on link (past_of configuration acts))) tick))
    (mode_is_of_rules configuration link acts live)
