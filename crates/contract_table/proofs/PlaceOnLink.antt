-- What is found at the place of a link.
use Rattle.std.proofs.Common.{◌≡◌, ℕ, ◌<◌, Bool, true, false, cond, ◌&&◌, List, [], ◌∷◌, All, map, length, insert, get_or, take, drop, Option, Some, None, option_map, is_some, refl, ap, sym, ◌∙◌, subst, arith}
use Rattle.std.specs.Option.{option_or}
use Rattle.std.proofs.lemmas.List.{length-map}
use Rattle.std.proofs.lemmas.List.Elements.{All-append, All-take, All-drop, All-cons}
use Rattle.contract_rules.specs.Configuration.{Profile, max_live_links}
use Rattle.contract_rules.specs.Messages.{Message, is_request}
use Rattle.contract_rules.specs.LiveLinks.{Accepted, has_room}
use Rattle.contract_table.specs.Connections.{Connection as Seen}
use Rattle.contract_table.specs.Messages.{admitted_where, found_by, heard_by, links_after, verdict_by}
use Rattle.contract_table.specs.NextConnection.{admitted, accepted}
use Rattle.contract_table.specs.Places.{HasPlace, IsRising, StandsAt, WouldStandAt, connection_on, link_of, put}
use Rattle.contract_table.specs.Seen.{connection_seen}
use Rattle.contract_table.specs.declared.connection.Connection.{Connection}
use Rattle.contract_table.proofs.FoundLinks.{request_accepted}
use Rattle.contract_table.proofs.HearingLemmas.{kept_link, find_seen, links_seen, put_seen}
use Rattle.contract_table.proofs.PlaceLemmas.{found_at, not_found, insert_put}

-- A link that stands at a place is the one found.
pub stands_found : (link place : ℕ) (kept : List Connection) (none : Connection) → StandsAt link kept place
    → connection_on link (map connection_seen kept) ≡ Some (connection_seen (get_or kept place none))
stands_found link place kept none stands =
    find_seen link kept ∙ ap (option_map connection_seen) (found_at kept_link kept place link none stands.at.before stands.inside (stands.here none))

pub stands_live : (link place : ℕ) (kept : List Connection) → StandsAt link kept place → is_some (connection_on link (map connection_seen kept)) ≡ true
stands_live link place [] stands = absurd (omega (arith, stands.inside))
stands_live link place (first ∷ others) stands = ap is_some (stands_found link place (first ∷ others) first stands)

-- What is true of the connection at the place of a link is true of the one found.
pub at_place : (P : Option Seen → Type 0) (link place : ℕ) (kept : List Connection) → StandsAt link kept place
    → ((none : Connection) → P (Some (connection_seen (get_or kept place none)))) → P (connection_on link (map connection_seen kept))
at_place P link place [] stands here = absurd (omega (arith, stands.inside))
at_place P link place (first ∷ others) stands here =
    subst P (sym (stands_found link place (first ∷ others) first stands)) (here first)

-- Where another would stand, none is found.
pub would_stand_none : (link place : ℕ) (kept : List Connection) → IsRising (map link_of (map connection_seen kept)) → WouldStandAt link kept place
    → connection_on link (map connection_seen kept) ≡ None
would_stand_none link place [] rising would = refl
would_stand_none link place (first ∷ others) rising would =
    find_seen link (first ∷ others)
    ∙ ap (option_map connection_seen) (not_found kept_link (first ∷ others) place link first (subst IsRising (links_seen (first ∷ others)) rising) would.at.before would.at.within (would.above first))

-- ---- what a message finds

module _ (P : Option Seen → Type 0) (kept : Option ℕ) (crew : Bool) (time link place : ℕ) (message : Message) (slice connections : List Connection)
    (same : slice ≡ connections) where
  -- A live link is found where it stands.
  pub heard_live : StandsAt link slice place → ((none : Connection) → P (Some (connection_seen (get_or connections place none))))
      → P (found_by kept crew time link message (map connection_seen connections))
  heard_live stands here =
      let there : StandsAt link connections place = subst (λ (cs : List Connection). StandsAt link cs place) same stands in
      subst P (by (connection_on link (map connection_seen connections)) (stands_live link place connections there)) (at_place P link place connections there here)
    where
      by : (found : Option Seen) → is_some found ≡ true
          → found ≡ option_or found (cond (is_request message && has_room kept link (map link_of (map connection_seen connections))) (Some (admitted link crew time)) None)
      by None live = absurd (let both : false ≡ true = live in cc)
      by (Some connection) live = refl

  -- Of a link that isn't live, the one is found that the message admits.
  heard_where : (admits : Bool) → admits ≡ (is_request message && has_room kept link (map link_of (map connection_seen connections)))
      → IsRising (map link_of (map connection_seen connections)) → WouldStandAt link slice place
      → P (cond admits (Some (admitted link crew time)) None) → P (found_by kept crew time link message (map connection_seen connections))
  heard_where admits is rising would there =
      subst P (λ i. option_or
      (sym (would_stand_none link place connections rising (subst (λ (cs : List Connection). WouldStandAt link cs place) same would)) i)
      (cond (is i) (Some (admitted link crew time)) None)) there

  pub heard_asked : is_request message ≡ true → IsRising (map link_of (map connection_seen connections)) → WouldStandAt link slice place
      → P (admitted_where kept crew time link (map connection_seen connections)) → P (found_by kept crew time link message (map connection_seen connections))
  heard_asked asked = heard_where (has_room kept link (map link_of (map connection_seen connections))) (ap (λ b. b && has_room kept link (map link_of (map connection_seen connections))) (sym asked))

  pub heard_not_asked : is_request message ≡ false → IsRising (map link_of (map connection_seen connections)) → WouldStandAt link slice place
      → P None → P (found_by kept crew time link message (map connection_seen connections))
  heard_not_asked asked = heard_where false (ap (λ b. b && has_room kept link (map link_of (map connection_seen connections))) (sym asked))

-- ---- a link that is admitted

-- A request that admits its link is accepted.
pub admitted_verdict : (link time : ℕ) (crew : Bool) (message : Message) → is_request message ≡ true → Accepted ≡ verdict_by (admitted link crew time) message
admitted_verdict link time crew message asked = sym (request_accepted message (is_some (admitted link crew time).anchor) asked)

pub heard_admitted : (profile : Profile) (link place time : ℕ) (crew : Bool) (message : Message) (before : List Connection) (new : Connection) (after : List Connection)
    → IsRising (map link_of (map connection_seen before)) → WouldStandAt link before place → is_request message ≡ true
    → connection_seen new ≡ accepted profile time message (admitted link crew time) → new.link ≡ link → after ≡ insert before place new
    → map connection_seen after ≡ heard_by profile time message (map connection_seen before) (Some (admitted link crew time))
heard_admitted profile link place time crew message before new after rising would asked next name inserted =
    ap (map connection_seen) (inserted ∙ insert_put kept_link before place new new
    (λ k none below. subst (λ l. (get_or before k none).link < l) (sym name) (would.at.before k none below))
    would.at.within
    (λ inside. subst (λ l. l < (get_or before place new).link) (sym name) (would.above new inside)))
    ∙ put_seen new before
    ∙ ap (λ c. put link_of c (map connection_seen before)) next
    ∙ ap (links_after profile time message (admitted link crew time) (map connection_seen before)) (admitted_verdict link time crew message asked)

pub all_inserted : {X : Type 0} (P : X → Type 0) (xs : List X) (place : ℕ) (new : X) → P new → All P xs → All P (insert xs place new)
all_inserted P xs place new here all = All-append P (take place xs) (new ∷ drop place xs) (All-take P place xs all) (All-cons P new (drop place xs) here (All-drop P place xs all))

-- There is a place for a link that is admitted.
pub place_left : (kept : Option ℕ) (link place : ℕ) (slice before : List Connection) → slice ≡ before
    → IsRising (map link_of (map connection_seen before)) → WouldStandAt link before place → HasPlace kept link (map connection_seen before)
    → true ≡ has_room kept link (map link_of (map connection_seen slice)) → length before < max_live_links
place_left kept link place slice before same rising would places room =
    let left = places (would_stand_none link place before rising would) (sym (room ∙ ap (λ cs. has_room kept link (map link_of (map connection_seen cs))) same)) in
    omega (arith, left, length-map before connection_seen)

-- Where there is room, the link is the one that is admitted.
pub admitted_by_room : (kept : Option ℕ) (crew : Bool) (time link : ℕ) (slice before : List Connection) → slice ≡ before
    → true ≡ has_room kept link (map link_of (map connection_seen slice))
    → Some (admitted link crew time) ≡ admitted_where kept crew time link (map connection_seen before)
admitted_by_room kept crew time link slice before same room =
    ap (λ b. cond b (Some (admitted link crew time)) None) (room ∙ ap (λ cs. has_room kept link (map link_of (map connection_seen cs))) same)
