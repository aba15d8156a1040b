-- One more act: what its call makes of the mode that stands for the calls before it.
use Rattle.std.proofs.Common.{◌≡◌, ℕ, ◌+◌, Bool, true, false, cond, not, ◌&&◌, ◌||◌, List, [], ◌∷◌, Option, Some, None, is_some, refl, ap, sym, ◌∙◌, add-zero}
use Rattle.std.specs.Option.{option_or}
use Rattle.std.proofs.Math.Bool.{and-false, and-true}
use Rattle.contract_rules.specs.Messages.{Message, Cancel, CancelEmergency, EmergencyRequest, Emergency}
use Rattle.contract_rules.specs.Acts.{Act, Said, Malformed, Moved, Ticked, Crew as CrewAct, is_crew_act, is_crew_on, later_of}
use Rattle.contract_rules.specs.LookingBack.{unless}
use Rattle.contract_rules.specs.LiveLinks.{Verdict, Accepted}
use Rattle.contract_rules.specs.InForce.{Contract, accepted_request, accepted_cancel, bears, request_of}
use Rattle.contract_rules.specs.Emergency.{accepted_mode_cancel, emergency_interval}
use Rattle.contract_rules.proofs.Steps.{unless_none}
use Rattle.due_emergency.specs.Calls.{Call, Admitted, Contract as ContractCall}
use Rattle.due_emergency.specs.Modes.{is_in_mode, interval_of, anchor_moment, last_moment, report_count}
use Rattle.due_emergency.specs.LinkCalls.{call_made, with_call, with_count}

-- Whether an act begins the count anew besides by an admission: a crew act, an accepted emergency request, and an accepted
-- cancel of the emergency contract in force do.
abbrev pub begins_anew : Option Message → Act → Verdict → ℕ → Bool
begins_anew request act verdict time =
    is_crew_act act || (is_some (accepted_request Emergency act verdict time) || accepted_cancel request act verdict)

-- ---- emergency mode

pub is_in_mode-crew : (request : Option Message) (act : Act) (verdict : Verdict) (time : ℕ) (calls : List Call) → is_crew_act act ≡ true
    → is_in_mode (with_call (call_made request act verdict time) calls) ≡ is_crew_on act
is_in_mode-crew request (CrewAct on) verdict time calls crew = and-true on
is_in_mode-crew request (Said link message) verdict time calls crew = absurd (let h : false ≡ true = crew in cc)
is_in_mode-crew request (Malformed link fault) verdict time calls crew = absurd (let h : false ≡ true = crew in cc)
is_in_mode-crew request (Moved before now) verdict time calls crew = absurd (let h : false ≡ true = crew in cc)
is_in_mode-crew request (Ticked tick) verdict time calls crew = absurd (let h : false ≡ true = crew in cc)

pub is_in_mode-other : (request : Option Message) (act : Act) (verdict : Verdict) (time : ℕ) (calls : List Call) → is_crew_act act ≡ false
    → is_in_mode (with_call (call_made request act verdict time) calls) ≡ (not (accepted_mode_cancel act verdict) && is_in_mode calls)
is_in_mode-other request (CrewAct on) verdict time calls other = absurd (let h : true ≡ false = other in cc)
is_in_mode-other request (Said link (CancelEmergency number)) Accepted time calls other = and-false _
is_in_mode-other request (Said link (Cancel number)) Accepted time calls other =
    elim (bears number request) as (λ b. is_in_mode (with_call (cond b (Some (ContractCall None time)) None) calls) ≡ is_in_mode calls) [
      | true ↦ refl
      | false ↦ refl
    ]
is_in_mode-other request (Said link message) Accepted time calls other = refl
is_in_mode-other request act verdict time calls other = refl

-- ---- the anchor, the interval, the count and the last moment

pub anchor_moment-with_call : (request : Option Message) (act : Act) (verdict : Verdict) (time : ℕ) (calls : List Call)
    → anchor_moment (with_call (call_made request act verdict time) calls) ≡ cond (begins_anew request act verdict time) time (anchor_moment calls)
anchor_moment-with_call request (Said link (Cancel number)) Accepted time calls =
    elim (bears number request) as (λ b. anchor_moment (with_call (cond b (Some (ContractCall None time)) None) calls) ≡ cond b time (anchor_moment calls)) [
      | true ↦ refl
      | false ↦ refl
    ]
anchor_moment-with_call request (Said link message) Accepted time calls = refl
anchor_moment-with_call request act verdict time calls = refl

-- After an admission nothing was in force.
pub interval_of-admitted : (request : Option Message) (act : Act) (verdict : Verdict) (on : Bool) (time : ℕ)
    → interval_of (with_call (call_made request act verdict time) (Admitted on time ∷ [])) ≡ emergency_interval (request_of (accepted_request Emergency act verdict time))
interval_of-admitted request (Said link (Cancel number)) Accepted on time =
    elim (bears number request) as (λ b. interval_of (with_call (cond b (Some (ContractCall None time)) None) (Admitted on time ∷ [])) ≡ emergency_interval None) [
      | true ↦ refl
      | false ↦ refl
    ]
interval_of-admitted request (Said link message) Accepted on time = refl
interval_of-admitted request act verdict on time = refl

pub interval_of-with_call : (held : Option Contract) (act : Act) (verdict : Verdict) (time : ℕ) (calls : List Call)
    → interval_of calls ≡ emergency_interval (request_of held)
    → interval_of (with_call (call_made (request_of held) act verdict time) calls)
    ≡ emergency_interval (request_of (option_or (accepted_request Emergency act verdict time) (unless (λ c. accepted_cancel (Some c.request) act verdict) held)))
interval_of-with_call held (Said link (EmergencyRequest asked)) Accepted time calls same = refl
interval_of-with_call None (Said link (Cancel number)) Accepted time calls same = same
interval_of-with_call (Some contract) (Said link (Cancel number)) Accepted time calls same =
    elim (bears number (Some contract.request)) as (λ b. interval_of (with_call (cond b (Some (ContractCall None time)) None) calls) ≡ emergency_interval (request_of (cond b None (Some contract)))) [
      | true ↦ refl
      | false ↦ same
    ]
interval_of-with_call held (Said link message) Accepted time calls same = same ∙ ap (λ c. emergency_interval (request_of c)) (sym (unless_none held))
interval_of-with_call held act verdict time calls same = same ∙ ap (λ c. emergency_interval (request_of c)) (sym (unless_none held))

pub report_count-with_call : (request : Option Message) (act : Act) (verdict : Verdict) (time : ℕ) (calls : List Call)
    → report_count (with_call (call_made request act verdict time) calls) ≡ cond (begins_anew request act verdict time) 0 (report_count calls)
report_count-with_call request (Ticked tick) verdict time calls = add-zero (report_count calls)
report_count-with_call request (Said link (CancelEmergency number)) Accepted time calls = add-zero (report_count calls)
report_count-with_call request (Said link (Cancel number)) Accepted time calls =
    elim (bears number request) as (λ b. report_count (with_call (cond b (Some (ContractCall None time)) None) calls) ≡ cond b 0 (report_count calls)) [
      | true ↦ refl
      | false ↦ refl
    ]
report_count-with_call request (Said link message) Accepted time calls = refl
report_count-with_call request act verdict time calls = refl

pub last_moment-with_call : (request : Option Message) (act : Act) (verdict : Verdict) (time : ℕ) (calls : List Call) → last_moment calls ≡ time
    → last_moment (with_call (call_made request act verdict time) calls) ≡ later_of time act
last_moment-with_call request (CrewAct on) verdict time calls same = refl
last_moment-with_call request (Ticked tick) verdict time calls same = refl
last_moment-with_call request (Said link (EmergencyRequest asked)) Accepted time calls same = refl
last_moment-with_call request (Said link (Cancel number)) Accepted time calls same =
    elim (bears number request) as (λ b. last_moment (with_call (cond b (Some (ContractCall None time)) None) calls) ≡ time) [
      | true ↦ refl
      | false ↦ same
    ]
last_moment-with_call request (Said link message) Accepted time calls same = same
last_moment-with_call request act verdict time calls same = same

-- ---- the count of a report

pub is_in_mode-with_count : (due : Bool) (calls : List Call) → is_in_mode (with_count due calls) ≡ is_in_mode calls
is_in_mode-with_count true calls = refl
is_in_mode-with_count false calls = refl

pub anchor_moment-with_count : (due : Bool) (calls : List Call) → anchor_moment (with_count due calls) ≡ anchor_moment calls
anchor_moment-with_count true calls = refl
anchor_moment-with_count false calls = refl

pub interval_of-with_count : (due : Bool) (calls : List Call) → interval_of (with_count due calls) ≡ interval_of calls
interval_of-with_count true calls = refl
interval_of-with_count false calls = refl

pub last_moment-with_count : (due : Bool) (calls : List Call) → last_moment (with_count due calls) ≡ last_moment calls
last_moment-with_count true calls = refl
last_moment-with_count false calls = refl

pub report_count-with_count : (due : Bool) (calls : List Call) → report_count (with_count due calls) ≡ report_count calls + cond due 1 0
report_count-with_count true calls = refl
report_count-with_count false calls = sym (add-zero (report_count calls))
