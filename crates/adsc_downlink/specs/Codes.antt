-- The numbers that stand in downlink items: tags, reasons and fixed octets (RTCA DO-258A / EUROCAE ED-100A; the tables are this project's profile).
use Rattle.std.specs.Prelude.{ℕ, Bool, true, List, [], ◌∷◌, ◌||◌, ◌&&◌, ◌==◌, nat_le, if◌then◌else◌}
use Rattle.contract_rules.specs.Reasons.{names_octet}

-- The tags of reports: basic 7, emergency 9, lateral event 10, vertical rate event 18, altitude event 19, waypoint event 20.
abbrev pub is_report_tag : ℕ → Bool
is_report_tag tag = tag == 7 || tag == 9 || tag == 10 || tag == 18 || tag == 19 || tag == 20

-- The tags of items that are no reports, and consist of octets: acknowledgement 3, negative acknowledgement 4, noncompliance 5, emergency off 6.
abbrev pub is_octet_tag : ℕ → Bool
is_octet_tag tag = tag == 3 || tag == 4 || tag == 5 || tag == 6

-- The tags of items.
abbrev pub is_item_tag : ℕ → Bool
is_item_tag tag = is_octet_tag tag || is_report_tag tag

-- The reasons of a negative acknowledgement are 1 to 13.
abbrev pub is_reason : ℕ → Bool
is_reason reason = nat_le 1 reason && nat_le reason 13

-- A place is given only where the reason has one.
abbrev pub is_place_of : ℕ → ℕ → Bool
is_place_of reason place = names_octet reason || place == 0

-- The octets that stand behind the number of a noncompliance.
abbrev pub noncompliance_octets : List ℕ
noncompliance_octets = 1 ∷ 21 ∷ 64 ∷ []

-- An octet may have any value, or only one.
abbrev pub any : ℕ → Bool
any octet = true

abbrev pub only : ℕ → ℕ → Bool
only due octet = octet == due

-- What the octets behind the tag of an item that is no report must pass: the number, a reason, the fixed octets of a noncompliance.
-- The place of a faulty octet, which stands behind some reasons, is left out.
abbrev pub item_tests : ℕ → List (ℕ → Bool)
item_tests tag = if tag == 4 then any ∷ is_reason ∷ [] else if tag == 5 then any ∷ only 1 ∷ only 21 ∷ only 64 ∷ [] else any ∷ []
