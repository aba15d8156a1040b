-- The act that made the contract in force, the number of a report in its series, and the samples since acceptance.
use Rattle.std.proofs.Common.{◌≡◌, ℕ, ◌+◌, Bool, true, false, cond, not, ◌&&◌, List, [], ◌∷◌, ◌++◌, Some, None, is_some, refl, ap, sym, ◌∙◌, append_assoc, arith}
use Rattle.std.specs.Prelude.{filter_map}
use Rattle.std.specs.List.{list_all}
use Rattle.std.proofs.lemmas.Bool.{and_parts, not-true}
use Rattle.contract_rules.specs.Messages.{Message, Kind, Demand, Periodic, Event, CancelAll, Cancel, CancelEmergency, PeriodicRequest, EventRequest, EmergencyRequest, is_demand}
use Rattle.contract_rules.specs.Acts.{Act, Said, Malformed, Moved, Ticked, Crew, sample_of}
use Rattle.contract_rules.specs.LookingBack.{after_last}
use Rattle.contract_rules.specs.LiveLinks.{Verdict, Accepted, Noted, session_of}
use Rattle.contract_rules.specs.InForce.{Contract, accepted_request, contract_made, accepts, in_force}
use Rattle.contract_rules.specs.Periodic.{gives_basic_report, is_periodic_due, periodic_report_number}
use Rattle.contract_rules.specs.Events.{samples_since_acceptance}
use Rattle.contract_rules.specs.Retellings.{InForceSince, count_since, is_tick}
use Rattle.contract_rules.proofs.LiveAndInForce.{WasInForce, made_now, was_before, was_in_force}

-- A contract that is in force was in force before each act that makes no other of its kind.
pub in_force_meanwhile : (kind : Kind) (link : ℕ) (contract : Contract) (later heard : List Noted)
    → list_all (λ noted. not (accepts kind noted)) later ≡ true
    → in_force kind (session_of link (later ++ heard)) ≡ Some contract → in_force kind (session_of link heard) ≡ Some contract
in_force_meanwhile kind link contract [] heard none e = e
in_force_meanwhile kind link contract (noted ∷ later) heard none e =
    let parts = and_parts (not (accepts kind noted)) (list_all (λ n. not (accepts kind n)) later) none in
    at parts.0 (in_force_meanwhile kind link contract later heard parts.1) (was_in_force kind link noted (later ++ heard) contract e)
  where
    at : not (accepts kind noted) ≡ true
        → (in_force kind (session_of link (later ++ heard)) ≡ Some contract → in_force kind (session_of link heard) ≡ Some contract)
        → WasInForce kind link noted (later ++ heard) contract → in_force kind (session_of link heard) ≡ Some contract
    at none before (made_now made) = absurd (let h : not (accepts kind noted) ≡ false = ap (λ o. not (is_some o)) made in cc)
    at none before (was_before none_made held) = before held

pub all_front : {A : Type 0} (test : A → Bool) (xs ys : List A) → list_all test (xs ++ ys) ≡ true → list_all test xs ≡ true
all_front test [] ys e = refl
all_front test (x ∷ xs) ys e =
    let parts = and_parts (test x) (list_all test (xs ++ ys)) e in
    ap (λ b. b && list_all test xs) parts.0 ∙ all_front test xs ys parts.1

-- The split, without what held meanwhile.
pub record SplitAt (kind : Kind) (heard : List Noted) (contract : Contract) : Type 0 where
  pub newer : List Noted
  pub act : Noted
  pub older : List Noted
  pub split : heard ≡ newer ++ act ∷ older
  pub made : contract_made kind act ≡ Some contract
  pub no_other : list_all (λ noted. not (accepts kind noted)) newer ≡ true

pub split_at : (kind : Kind) (link : ℕ) (heard : List Noted) (contract : Contract)
    → in_force kind (session_of link heard) ≡ Some contract → SplitAt kind heard contract
split_at kind link [] contract e = absurd (let h : None ≡ Some contract = e in cc)
split_at kind link (noted ∷ heard) contract e = at (split_at kind link heard contract) (was_in_force kind link noted heard contract e)
  where
    at : (in_force kind (session_of link heard) ≡ Some contract → SplitAt kind heard contract) → WasInForce kind link noted heard contract
        → SplitAt kind (noted ∷ heard) contract
    at before (made_now made) =
        record { newer = []; act = noted; older = heard; split = refl; made = made; no_other = refl }
    at before (was_before none_made held) =
        let rest = before held in
        record {
          newer = noted ∷ rest.newer;
          act = rest.act;
          older = rest.older;
          split = ap (λ acts. noted ∷ acts) rest.split;
          made = rest.made;
          no_other = ap (λ o. not (is_some o) && list_all (λ n. not (accepts kind n)) rest.newer) none_made ∙ rest.no_other;
        }

pub in_force_splits : (kind : Kind) (link : ℕ) (heard : List Noted) (contract : Contract)
    → in_force kind (session_of link heard) ≡ Some contract → InForceSince kind link heard contract
in_force_splits kind link heard contract e =
    let at = split_at kind link heard contract e in
    record {
      newer = at.newer;
      act = at.act;
      older = at.older;
      split = at.split;
      made = at.made;
      no_other = at.no_other;
      meanwhile = λ later earlier s.
          in_force_meanwhile kind link contract later (earlier ++ at.act ∷ at.older)
          (all_front (λ noted. not (accepts kind noted)) later earlier
          (ap (list_all (λ noted. not (accepts kind noted))) (sym s) ∙ at.no_other))
          (ap (λ acts. in_force kind (session_of link acts))
          (sym (append_assoc later earlier (at.act ∷ at.older)) ∙ ap (λ acts. acts ++ at.act ∷ at.older) (sym s) ∙ sym at.split)
          ∙ e);
    }

-- An act that makes no periodic contract gives a report of one where it is a tick at which a report falls due: a basic report
-- at a message is then that of a demand.
pub message_counts : (link : ℕ) (message : Message) (verdict : Verdict) (time : ℕ)
    → is_some (accepted_request Periodic (Said link message) verdict time) ≡ false
    → (not (is_some (accepted_request Demand (Said link message) verdict time)) && gives_basic_report verdict message) ≡ false
message_counts link (PeriodicRequest asked) Accepted time none =
    at (record { request = PeriodicRequest asked; since = time }) (is_demand asked.interval) none
  where
    at : (contract : Contract) (b : Bool) → is_some (cond (not b) (Some contract) None) ≡ false
        → (not (is_some (cond b (Some contract) None)) && true) ≡ false
    at contract true none = refl
    at contract false none = none
message_counts link CancelAll Accepted time none = refl
message_counts link (Cancel number) Accepted time none = refl
message_counts link (CancelEmergency number) Accepted time none = refl
message_counts link (EventRequest number limits) Accepted time none = refl
message_counts link (EmergencyRequest asked) Accepted time none = refl
message_counts link message _ time none = refl

pub counts_at_ticks : (link : ℕ) (noted : Noted) (heard : List Noted) → accepts Periodic noted ≡ false
    → (not (accepts Demand noted) && is_periodic_due link noted heard) ≡ (is_tick noted.act && is_periodic_due link noted heard)
counts_at_ticks link noted heard none = at noted.act noted.admits noted.verdict noted.time none
  where
    at : (act : Act) (admits : Bool) (verdict : Verdict) (time : ℕ)
        → accepts Periodic (record { act = act; admits = admits; verdict = verdict; time = time }) ≡ false
        → (not (accepts Demand (record { act = act; admits = admits; verdict = verdict; time = time })) && is_periodic_due link (record { act = act; admits = admits; verdict = verdict; time = time }) heard)
        ≡ (is_tick act && is_periodic_due link (record { act = act; admits = admits; verdict = verdict; time = time }) heard)
    at (Said other message) admits verdict time none = message_counts other message verdict time none
    at (Malformed other fault) admits verdict time none = refl
    at (Moved before now) admits verdict time none = refl
    at (Ticked tick) admits verdict time none = refl
    at (Crew on) admits verdict time none = refl

-- The act that makes a periodic contract gives the first report of it.
pub first_counts : (link : ℕ) (noted : Noted) (heard : List Noted) → accepts Periodic noted ≡ true
    → (not (accepts Demand noted) && is_periodic_due link noted heard) ≡ true
first_counts link noted heard made = at noted.act noted.admits noted.verdict noted.time made
  where
    request : (asked : Bool) (contract : Contract) → is_some (cond (not asked) (Some contract) None) ≡ true
        → (not (is_some (cond asked (Some contract) None)) && true) ≡ true
    request true contract made = made
    request false contract made = refl

    message_at : (link : ℕ) (message : Message) (verdict : Verdict) (time : ℕ)
        → is_some (accepted_request Periodic (Said link message) verdict time) ≡ true
        → (not (is_some (accepted_request Demand (Said link message) verdict time)) && gives_basic_report verdict message) ≡ true
    message_at link (PeriodicRequest asked) Accepted time made =
        request (is_demand asked.interval) (record { request = PeriodicRequest asked; since = time }) made
    message_at link CancelAll Accepted time made = made
    message_at link (Cancel number) Accepted time made = made
    message_at link (CancelEmergency number) Accepted time made = made
    message_at link (EventRequest number limits) Accepted time made = made
    message_at link (EmergencyRequest asked) Accepted time made = made
    message_at link message _ time made = made

    at : (act : Act) (admits : Bool) (verdict : Verdict) (time : ℕ)
        → accepts Periodic (record { act = act; admits = admits; verdict = verdict; time = time }) ≡ true
        → (not (accepts Demand (record { act = act; admits = admits; verdict = verdict; time = time })) && is_periodic_due link (record { act = act; admits = admits; verdict = verdict; time = time }) heard) ≡ true
    at (Said other message) admits verdict time made = message_at other message verdict time made
    at (Malformed other fault) admits verdict time made = made
    at (Moved before now) admits verdict time made = made
    at (Ticked tick) admits verdict time made = absurd (let h : false ≡ true = made in cc)
    at (Crew on) admits verdict time made = made

-- The reports counted from an act that made a contract on: one, and those at the ticks since.
pub reports_split : (link : ℕ) (contract : Contract) (newer : List Noted) (act : Noted) (older : List Noted)
    → contract_made Periodic act ≡ Some contract
    → list_all (λ noted. not (accepts Periodic noted)) newer ≡ true
    → periodic_report_number link (newer ++ act ∷ older)
    ≡ count_since (λ noted before. is_tick noted.act && is_periodic_due link noted before) newer (act ∷ older) + 1
reports_split link contract [] act older made none =
    ap (λ b. cond b 0 (periodic_report_number link older) + cond (not (accepts Demand act) && is_periodic_due link act older) 1 0) (ap is_some made)
    ∙ ap (λ b. 0 + cond b 1 0) (first_counts link act older (ap is_some made))
reports_split link contract (noted ∷ newer) act older made none =
    let parts = and_parts (not (accepts Periodic noted)) (list_all (λ n. not (accepts Periodic n)) newer) none in
    let other : accepts Periodic noted ≡ false = not-true (accepts Periodic noted) parts.0 in
    let tick : ℕ = cond (is_tick noted.act && is_periodic_due link noted (newer ++ act ∷ older)) 1 0 in
    let since : ℕ = count_since (λ n before. is_tick n.act && is_periodic_due link n before) newer (act ∷ older) in
    ap (λ b. cond b 0 (periodic_report_number link (newer ++ act ∷ older)) + cond (not (accepts Demand noted) && is_periodic_due link noted (newer ++ act ∷ older)) 1 0) other
    ∙ ap (λ b. periodic_report_number link (newer ++ act ∷ older) + cond b 1 0) (counts_at_ticks link noted (newer ++ act ∷ older) other)
    ∙ ap (λ n. n + tick) (reports_split link contract newer act older made parts.1)
    ∙ moved since tick
  where
    moved : (a b : ℕ) → (a + 1) + b ≡ (a + b) + 1
    moved a b = omega arith

pub reports_since_acceptance : (link : ℕ) (heard : List Noted) (contract : Contract) (since : InForceSince Periodic link heard contract)
    → periodic_report_number link heard
    ≡ count_since (λ noted before. is_tick noted.act && is_periodic_due link noted before) since.newer (since.act ∷ since.older) + 1
reports_since_acceptance link heard contract since =
    ap (periodic_report_number link) since.split ∙ reports_split link contract since.newer since.act since.older since.made since.no_other

pub after_split : (kind : Kind) (contract : Contract) (newer : List Noted) (act : Noted) (older : List Noted)
    → contract_made kind act ≡ Some contract
    → list_all (λ noted. not (accepts kind noted)) newer ≡ true
    → after_last (λ noted _. accepts kind noted) (newer ++ act ∷ older) ≡ newer
after_split kind contract [] act older made none =
    ap (λ o. cond (is_some o) [] (act ∷ after_last (λ noted _. accepts kind noted) older)) made
after_split kind contract (noted ∷ newer) act older made none =
    let parts = and_parts (not (accepts kind noted)) (list_all (λ n. not (accepts kind n)) newer) none in
    ap (λ b. cond b [] (noted ∷ after_last (λ n _. accepts kind n) (newer ++ act ∷ older)))
    (not-true (accepts kind noted) parts.0)
    ∙ ap (λ acts. noted ∷ acts) (after_split kind contract newer act older made parts.1)

pub samples_since : (link : ℕ) (heard : List Noted) (contract : Contract) (since : InForceSince Event link heard contract)
    → samples_since_acceptance heard ≡ filter_map (λ noted. sample_of noted.act) since.newer
samples_since link heard contract since =
    ap samples_since_acceptance since.split
    ∙ ap (filter_map (λ noted. sample_of noted.act)) (after_split Event contract since.newer since.act since.older since.made since.no_other)
