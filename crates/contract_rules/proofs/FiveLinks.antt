-- With at most five links there is always room for one that is not live.
use Rattle.std.proofs.Common.{◌≡◌, ◌⊎◌, inl, inr, ℕ, ◌+◌, ◌<◌, ◌≤◌, Bool, true, false, cond, not, ◌&&◌, ◌||◌, ◌==◌, List, [], ◌∷◌, length, Option, Some, None, refl, ap, sym, ◌∙◌, arith, eqb}
use Rattle.std.specs.Prelude.{nat_eq, nat_lt, ◌-◌, filter}
use Rattle.std.specs.List.{list_all, list_any, IsDistinct}
use Rattle.std.proofs.lemmas.Bool.{eqb-true, eq-eqb, ltb-true, lt-ltb, and_parts, or_cases}
use Rattle.std.proofs.Math.Bool.{and-false}
use Rattle.std.proofs.lemmas.Map.Steps.{length-le_from_distinct_below}
use Rattle.contract_rules.specs.Configuration.{Configuration, max_live_links}
use Rattle.contract_rules.specs.Messages.{is_request}
use Rattle.contract_rules.specs.Acts.{Act, Said, concerns}
use Rattle.contract_rules.specs.LiveLinks.{Noted, without, live_links, is_live, has_room, admits, heard_on}
use Rattle.contract_rules.specs.Verdicts.{noted_over, past_of}
use Rattle.contract_rules.specs.Laws.{dues_of, is_of_first_links, is_kept_for_first_links}
use Rattle.contract_rules.proofs.Steps.{live_on_heard, among_without}
use Rattle.contract_rules.proofs.AtMostFive.{apart_from, distinct_without, keeps_places}
use Rattle.contract_rules.proofs.LiveCounts.{live_below}
use Rattle.contract_rules.proofs.Independence.{noted_on, noted_is_on_heard, same_dues}

-- ---- room among five links

-- Distinct links below five, beside another one below five, are fewer than five.
pub room_beside : (link : ℕ) (live : List ℕ) → IsDistinct eqb live → ((q : ℕ) → list_any (nat_eq q) live ≡ true → q < max_live_links)
    → link < max_live_links → list_any (nat_eq link) live ≡ false → length live + 1 ≤ max_live_links
unfolding IsDistinct
room_beside link live distinct below first absent =
    let most = length-le_from_distinct_below (link ∷ live) max_live_links (apart_from link live absent, distinct) each in omega (arith, most)
  where
    each : (q : ℕ) → list_any (nat_eq q) (link ∷ live) ≡ true → q < max_live_links
    each q among = at (or_cases (q == link) (list_any (nat_eq q) live) among)
      where
        at : ((q == link) ≡ true) ⊎ (list_any (nat_eq q) live ≡ true) → q < max_live_links
        at (inl same) = omega (arith, eqb-true q link same, first)
        at (inr other) = below q other

pub not_itself : (kept : ℕ) (live : List ℕ) → list_any (nat_eq kept) (without kept live) ≡ false
not_itself kept live =
    among_without kept kept live ∙ ap (λ b. not b && list_any (nat_eq kept) live) (eq-eqb kept kept refl)

pub room_for_first : (kept : Option ℕ) (link : ℕ) (live : List ℕ) → is_kept_for_first_links kept ≡ true → IsDistinct eqb live
    → ((q : ℕ) → list_any (nat_eq q) live ≡ true → q < max_live_links)
    → link < max_live_links → list_any (nat_eq link) live ≡ false → has_room kept link live ≡ true
unfolding IsDistinct
room_for_first None link live kept_first distinct below first absent =
    lt-ltb (length live) max_live_links (omega (arith, room_beside link live distinct below first absent))
room_for_first (Some kept) link live kept_first distinct below first absent = at (link == kept) refl
  where
    among : (q : ℕ) → list_any (nat_eq q) (without kept live) ≡ true → list_any (nat_eq q) live ≡ true
    among q e = (and_parts (not (q == kept)) (list_any (nat_eq q) live) (sym (among_without q kept live) ∙ e)).1

    beside : (q : ℕ) → list_any (nat_eq q) (kept ∷ without kept live) ≡ true → q < max_live_links
    beside q e = by (or_cases (q == kept) (list_any (nat_eq q) (without kept live)) e)
      where
        by : ((q == kept) ≡ true) ⊎ (list_any (nat_eq q) (without kept live) ≡ true) → q < max_live_links
        by (inl same) = omega (arith, eqb-true q kept same, ltb-true kept max_live_links kept_first)
        by (inr other) = below q (among q other)

    apart : (link == kept) ≡ false → list_any (nat_eq link) (kept ∷ without kept live) ≡ false
    apart e =
        ap (λ b. b || list_any (nat_eq link) (without kept live)) e
        ∙ among_without link kept live
        ∙ ap (λ b. not (link == kept) && b) absent
        ∙ and-false (not (link == kept))

    at : (b : Bool) → (link == kept) ≡ b → (b || nat_lt (length (without kept live)) (max_live_links - 1)) ≡ true
    at true e = refl
    at false e =
        let most = room_beside link (kept ∷ without kept live) (apart_from kept (without kept live) (not_itself kept live), distinct_without kept live distinct) beside first (apart e) in
        lt-ltb (length (without kept live)) (max_live_links - 1) (omega (arith, most))

-- ---- what a link hears of its own and the flight's acts alone

-- Whether an act admits its link, where there is room.
abbrev pub admits_alone : ℕ → List Noted → Act → Bool
admits_alone link heard (Said other message) = is_request message && not (is_live link heard)
admits_alone link heard _ = false

pub admits_with_room : (request live room : Bool) → (live ≡ false → room ≡ true)
    → (request && not live && room) ≡ (request && not live)
admits_with_room false live room e = refl
admits_with_room true true room e = refl
admits_with_room true false room e = e refl

pub admits_own : (configuration : Configuration) (acts : List Act) → is_kept_for_first_links configuration.kept ≡ true
    → list_all is_of_first_links acts ≡ true → (link : ℕ) (act : Act)
    → is_of_first_links act ≡ true → concerns link act ≡ true
    → admits configuration (past_of configuration acts) act ≡ admits_alone link (heard_on link (past_of configuration acts)) act
admits_own configuration acts kept first link (Said other message) own e =
    let same : link ≡ other = eqb-true link other e in
    admits_with_room (is_request message) (is_live other (past_of configuration acts)) (has_room configuration.kept other (live_links (past_of configuration acts)))
    (room_for_first configuration.kept other (live_links (past_of configuration acts)) kept (keeps_places configuration acts).distinct
    (live_below max_live_links configuration acts first) (ltb-true other max_live_links own))
    ∙ ap (λ l. is_request message && not l) (ap (λ l. is_live l (past_of configuration acts)) (sym same) ∙ sym (live_on_heard link (past_of configuration acts)))
admits_own configuration acts kept first link _ own e = refl

-- What a link heard, found from its own and the flight's acts alone.
abbrev pub heard_alone : ℕ → List Act → List Noted
heard_alone link [] = []
heard_alone link (act ∷ acts) =
    noted_on link (heard_alone link acts) (admits_alone link (heard_alone link acts) act) act ∷ heard_alone link acts

pub heard_is_alone : (configuration : Configuration) (link : ℕ) (acts : List Act) → is_kept_for_first_links configuration.kept ≡ true
    → list_all is_of_first_links acts ≡ true
    → heard_on link (past_of configuration acts) ≡ heard_alone link (filter (concerns link) acts)
heard_is_alone configuration link [] kept first = refl
heard_is_alone configuration link (act ∷ acts) kept first =
    at (and_parts (is_of_first_links act) (list_all is_of_first_links acts) first)
    (heard_is_alone configuration link acts kept (and_parts (is_of_first_links act) (list_all is_of_first_links acts) first).1) (concerns link act) refl
  where
    at : (is_of_first_links act ≡ true) × (list_all is_of_first_links acts ≡ true)
        → heard_on link (past_of configuration acts) ≡ heard_alone link (filter (concerns link) acts) → (b : Bool) → concerns link act ≡ b
        → cond b (noted_over configuration (past_of configuration acts) act ∷ heard_on link (past_of configuration acts)) (heard_on link (past_of configuration acts))
        ≡ heard_alone link (cond b (act ∷ filter (concerns link) acts) (filter (concerns link) acts))
    at both same false e = same
    at both same true e =
        ap (λ noted. noted ∷ heard_on link (past_of configuration acts)) (noted_is_on_heard configuration link (past_of configuration acts) act e)
        ∙ ap (λ admitted. noted_on link (heard_on link (past_of configuration acts)) admitted act ∷ heard_on link (past_of configuration acts))
        (admits_own configuration acts kept both.1 link act both.0 e)
        ∙ ap (λ heard. noted_on link heard (admits_alone link heard act) act ∷ heard) same

pub five_links_are_independent : (link : ℕ) (one other : Configuration) (acts others : List Act)
    → one.profile ≡ other.profile
    → is_kept_for_first_links one.kept ≡ true → is_kept_for_first_links other.kept ≡ true
    → list_all is_of_first_links acts ≡ true → list_all is_of_first_links others ≡ true
    → filter (concerns link) acts ≡ filter (concerns link) others
    → (heard_on link (past_of one acts) ≡ heard_on link (past_of other others)) × (dues_of one link acts ≡ dues_of other link others)
five_links_are_independent link one other acts others profile one_kept other_kept first_acts first_others e =
    let same : heard_on link (past_of one acts) ≡ heard_on link (past_of other others)
    = heard_is_alone one link acts one_kept first_acts ∙ ap (heard_alone link) e ∙ sym (heard_is_alone other link others other_kept first_others)
    in (same, same_dues link one other acts others profile same)
