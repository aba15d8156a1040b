-- When what was recorded of an aircraft is what the rules make due (this project's profile).
use Rattle.std.specs.Prelude.{◌≡◌, ◌⊎◌, ℕ, ◌+◌, ◌<◌, ◌==◌, cond, List, [], ◌∷◌, length}
use Rattle.aircraft_core.specs.AddedTexts.{AreAdded}
use Rattle.aircraft_core.specs.Downlinks.{AreDownlinks}
use Rattle.aircraft_core.specs.Entries.{line_of}
use Rattle.aircraft_core.specs.Setting.{Setting, address_of}
use Rattle.aircraft_core.specs.declared.entry.Entry.{Entry}
use Rattle.audit_rules.specs.Logs.{LoggedEntry, RecordedText, journal_of}
use Rattle.audit_rules.specs.SameTexts.{AreSameTexts}

-- The texts among these that were recorded on a link.
abbrev pub recorded_on : ℕ → List RecordedText → List (List ℕ)
recorded_on link [] = []
recorded_on link (one ∷ others) = cond (link == one.link) (one.text ∷ recorded_on link others) (recorded_on link others)

-- ---- conforming

-- An entry behind this journal conforms on a link: the texts that it adds to the link's downlinks were recorded behind it, but for
-- padding, in their order, and no others on this link.
pub record ConformsOn (setting : Setting) (journal : List Entry) (logged : LoggedEntry) (link : ℕ) : Type 0 where
  pub due : List (List ℕ)
  pub are_due : AreAdded setting journal logged.entry link due
  pub same : AreSameTexts due (recorded_on link logged.records)

-- It conforms on each link below this number.
abbrev pub ConformsBelow : Setting → List Entry → LoggedEntry → ℕ → Type 0
ConformsBelow setting journal logged links = (link : ℕ) → link < links → ConformsOn setting journal logged link

-- Each of these entries, the newest first, conforms on each link.
abbrev pub AllConform : Setting → List LoggedEntry → Type 0
AllConform setting [] = Unit {0}
AllConform setting (newest ∷ earlier) =
    AllConform setting earlier × ConformsBelow setting (journal_of earlier) newest (length setting.addresses)

-- ---- differing

-- A difference: the line of the entry, the address of the link, the texts that are due of it there and those that were recorded.
pub record DifferenceData : Type 0 where
  pub line : ℕ
  pub address : List ℕ
  pub due : List (List ℕ)
  pub found : List (List ℕ)

-- An entry behind this journal differs so: on this link it doesn't conform, and it does on those before it.
pub record DiffersOn (setting : Setting) (journal : List Entry) (logged : LoggedEntry) (link : ℕ) (difference : DifferenceData) : Type 0 where
  pub inside : link < length setting.addresses
  pub before : ConformsBelow setting journal logged link
  pub apart : ConformsOn setting journal logged link → ⊥
  pub line : difference.line ≡ line_of logged.entry
  pub address : difference.address ≡ address_of setting link
  pub due : AreAdded setting journal logged.entry link difference.due
  pub found : difference.found ≡ recorded_on link logged.records

-- An entry differs so, on the first link that it doesn't conform on.
abbrev pub IsDifference : Setting → List Entry → LoggedEntry → DifferenceData → Type 0
IsDifference setting journal logged difference = (link : ℕ) × DiffersOn setting journal logged link difference

-- Of these entries, the newest first, the oldest that doesn't conform differs so.
abbrev pub IsFirstDifference : Setting → List LoggedEntry → DifferenceData → Type 0
IsFirstDifference setting [] difference = ⊥
IsFirstDifference setting (newest ∷ earlier) difference =
    IsFirstDifference setting earlier difference ⊎ (AllConform setting earlier × IsDifference setting (journal_of earlier) newest difference)

-- ---- counting

-- So many downlinks has the journal on the links to these addresses, of which the first has this number.
abbrev pub HasDownlinks : Setting → List Entry → ℕ → List (List ℕ) → ℕ → Type 0
HasDownlinks setting journal link [] count = count ≡ 0
HasDownlinks setting journal link (address ∷ addresses) count =
    (texts : List (List ℕ)) × (others : ℕ) × AreDownlinks setting journal link texts
    × HasDownlinks setting journal (link + 1) addresses others × (count ≡ length texts + others)
