-- Which links are live, who is admitted, what a link heard, and its session.
-- Admission of at most five links, the kept connection, and which links are answered are this project's profile.
use Rattle.std.specs.Prelude.{ℕ, ◌-◌, Bool, false, cond, not, ◌&&◌, ◌||◌, ◌==◌, nat_eq, nat_lt, List, [], ◌∷◌, length, filter, Option, Some, None, unwrap_or}
use Rattle.std.specs.List.{list_any}
use Rattle.contract_rules.specs.Configuration.{Configuration, max_live_links}
use Rattle.contract_rules.specs.Messages.{is_request}
use Rattle.contract_rules.specs.Acts.{Sample, Act, Said, concerns, is_said_on, is_cancel_all, later_of, sample_of}
use Rattle.contract_rules.specs.LookingBack.{from_last}

-- The verdict on an act: of the flight, and not answered; unheard, since its link is not live; unreadable; the end of the
-- session, which is not answered; accepted; refused for a reason; or accepted again, as a repeat.
pub data Verdict : Type 0 where
  OfFlight : Verdict
  Unheard : Verdict
  Unreadable : Verdict
  Ended : Verdict
  Accepted : Verdict
  Refused : ℕ → Verdict
  Repeated : Verdict

-- A noted act: the act, whether it admits its link, its verdict, and the time before it.
pub record Noted : Type 0 where
  pub act : Act
  pub admits : Bool
  pub verdict : Verdict
  pub time : ℕ

-- ---- live links

-- These links without this one.
abbrev pub without : ℕ → List ℕ → List ℕ
without link links = filter (λ other. not (link == other)) links

-- The live links after an act, the last admitted first: an act that admits its link puts it in front, and a cancel-all
-- takes its link out.
abbrev pub links_after : Act → Bool → List ℕ → List ℕ
links_after (Said link message) admits live =
    cond admits (link ∷ live) (cond (is_cancel_all (Said link message)) (without link live) live)
links_after _ admits live = live

-- The links that are live after a past.
abbrev pub live_links : List Noted → List ℕ
live_links [] = []
live_links (noted ∷ past) = links_after noted.act noted.admits (live_links past)

-- Whether a link is live after a past.
abbrev pub is_live : ℕ → List Noted → Bool
is_live link past = list_any (nat_eq link) (live_links past)

-- Whether one more link may join the live ones: where no connection is kept, fewer than five are live; where one is kept
-- for this link, always; where it is kept for another, fewer than four others are live.
abbrev pub has_room : Option ℕ → ℕ → List ℕ → Bool
has_room None link live = nat_lt (length live) max_live_links
has_room (Some kept) link live = link == kept || nat_lt (length (without kept live)) (max_live_links - 1)

-- An act admits its link where it is a request, the link is not live, and there is room for it.
abbrev pub admits : Configuration → List Noted → Act → Bool
admits configuration past (Said link message) =
    is_request message && not (is_live link past) && has_room configuration.kept link (live_links past)
admits configuration past _ = false

-- ---- time and samples

-- Time: the greatest tick so far, and 0 at first.
abbrev pub time_after : List Noted → ℕ
time_after [] = 0
time_after (noted ∷ past) = later_of (time_after past) noted.act

-- The latest sample: the last that was taken, or the one that the flight began with.
abbrev pub latest_sample : Sample → List Noted → Sample
latest_sample first [] = first
latest_sample first (noted ∷ past) = unwrap_or (sample_of noted.act) (latest_sample first past)

-- ---- the session of a link

-- What a link heard of a past: its own acts and the flight's. The definitions on one link look back over this list.
abbrev pub heard_on : ℕ → List Noted → List Noted
heard_on link past = filter (λ noted. concerns link noted.act) past

-- Whether a noted act admits this link.
abbrev pub admits_link : ℕ → Noted → Bool
admits_link link noted = noted.admits && is_said_on link noted.act

-- The session of a link: what it heard from its last admission on. A link that is not live has none.
abbrev pub session_of : ℕ → List Noted → Option (List Noted)
session_of link heard = cond (is_live link heard) (Some (from_last (λ noted _. admits_link link noted) heard)) None

-- The session of a link at an act: where the act admits the link, one in which nothing was heard yet; else that before it.
abbrev pub session_at : Bool → ℕ → List Noted → Option (List Noted)
session_at admitted link heard = cond admitted (Some []) (session_of link heard)
