-- The logon state of a link (RTCA DO-258A / EUROCAE ED-100A; the states are this project's profile).
use Rattle.std.specs.Prelude.{ℕ, ◌==◌, Bool, false, cond, List, [], ◌∷◌, fold, reverse}
use Rattle.std.specs.List.{list_any}
use Rattle.afn_logon.specs.declared.logon.Logon.{Logon}
use Rattle.afn_logon.specs.declared.logon.Logon.TheVariants.{Nothing, Sent}
use Rattle.afn_logon.specs.Logons.{after_answer, answered}
use Rattle.aircraft_core.specs.declared.entry.Entry.{Entry}
use Rattle.aircraft_core.specs.declared.entry.Entry.TheVariants as entries

-- What an entry makes of a link's logon: a contact is sent at a logon of the link, an answer on the link decides, and any other entry
-- changes nothing.
abbrev pub logon_after : ℕ → Logon → Entry → Logon
logon_after link logon (entries.Logon line other) = cond (link == other) Sent logon
logon_after link logon (entries.Answer line other code) = cond (link == other) (after_answer logon code) logon
logon_after link logon entry = logon

-- The logon state of a link after a journal.
abbrev pub logon_state : ℕ → List Entry → Logon
logon_state link journal = fold (logon_after link) Nothing journal

-- ---- the same by looking back

-- Whether the entry is a logon of the link.
abbrev pub is_logon_of : ℕ → Entry → Bool
is_logon_of link (entries.Logon line other) = link == other
is_logon_of link entry = false

-- What these entries, the newest first, said last of the link's logon: a logon of the link, or an answer on it.
abbrev pub last_said : ℕ → List Entry → Logon
last_said link [] = Nothing
last_said link (entries.Logon line other ∷ earlier) = cond (link == other) Sent (last_said link earlier)
last_said link (entries.Answer line other code ∷ earlier) = cond (link == other) (answered code) (last_said link earlier)
last_said link (entry ∷ earlier) = last_said link earlier

-- The logon state of a link by looking back over a journal: nothing where no logon of the link came, and else what was said last.
abbrev pub state_looking_back : ℕ → List Entry → Logon
state_looking_back link journal = cond (list_any (is_logon_of link) (reverse journal)) (last_said link (reverse journal)) Nothing
