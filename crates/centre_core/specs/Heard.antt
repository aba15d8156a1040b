-- What a centre answers to a text, and what it stands for afterwards (this project's profile).
use Rattle.std.specs.Prelude.{◌≡◌, ℕ, ◌+◌, List, [], ◌∷◌, if◌then◌else◌}
use Rattle.adsc_downlink.specs.Items.{ItemData}
use Rattle.adsc_downlink.specs.ItemView.{items_data}
use Rattle.afn_logon.specs.Contents.{contact_data}
use Rattle.centre_core.specs.Events.{CentreEvent, HearsContact, HearsItem}
use Rattle.centre_core.specs.Hearing.{Hearing, Ignores, Greets, Tells}
use Rattle.centre_core.specs.Histories.{table_at}
use Rattle.centre_core.specs.Sending.{greeting_text}
use Rattle.centre_core.specs.Tables.{is_taken}
use Rattle.centre_core.specs.View.{CentreView}
use Rattle.centre_core.specs.declared.heard.Heard.{Heard}
use Rattle.centre_core.specs.declared.heard.Heard.TheVariants as heard
use Rattle.centre_core.specs.declared.reading.Reading.{Reading}
use Rattle.centre_core.specs.declared.reading.Reading.TheVariants as reading

-- ---- events

-- The history after these items, which are heard one by one.
abbrev pub with_items : List ItemData → List CentreEvent → List CentreEvent
with_items [] w = w
with_items (item ∷ items) w = with_items items (HearsItem item ∷ w)

-- The history after a text that says this.
abbrev pub with_heard : Hearing → List CentreEvent → List CentreEvent
with_heard (Ignores why) w = w
with_heard (Greets contact) w = HearsContact ∷ w
with_heard (Tells items) w = with_items items w

-- How many of these items are taken by a row, as they are heard one by one at the end of a history.
abbrev pub matched_count : List ItemData → List CentreEvent → ℕ
matched_count [] w = 0
matched_count (item ∷ items) w = (if is_taken item (table_at w) then 1 else 0) + matched_count items (HearsItem item ∷ w)

-- ---- answers

-- What was read, as what the text says.
abbrev pub hearing_of : Reading → Hearing
hearing_of (reading.Ignored why) = Ignores why
hearing_of (reading.Contact contact) = Greets (contact_data contact)
hearing_of (reading.Downlink items) = Tells (items_data items)

-- The centre's answer to a text that says this: a text that is ignored is told with its reason; a contact is answered by a text
-- without a number; a downlink is told with its items.
abbrev pub IsAnswerTo : CentreView → Hearing → Heard → Type 0
IsAnswerTo centre (Ignores why) answer = answer ≡ heard.Ignored why
IsAnswerTo centre (Greets contact) (heard.Contact sent) = (sent.n ≡ 0) × (sent.text.items ≡ greeting_text centre contact)
IsAnswerTo centre (Tells items) (heard.Downlink found matched) = items_data found ≡ items
IsAnswerTo centre hearing answer = ⊥

-- The answer counts the items that were taken by a row, at the end of this history.
abbrev pub IsMatched : List CentreEvent → Heard → Type 0
IsMatched w (heard.Downlink found matched) = matched ≡ matched_count (items_data found) w
IsMatched w answer = Unit {0}

-- A fact that holds where the text was ignored.
abbrev pub OnIgnored : Heard → Type 0 → Type 0
OnIgnored (heard.Ignored why) fact = fact
OnIgnored answer fact = Unit {0}
