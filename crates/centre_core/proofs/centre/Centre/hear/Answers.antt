use Rattle.std.proofs.Common.{◌≡◌, List, map, refl, ap, ◌∙◌, subst}
use Rattle.adsc_downlink.specs.ItemView.{item_data, items_data}
use Rattle.adsc_downlink.specs.declared.item.Item.{Item}
use Rattle.afn_logon.specs.Contents.{contact_data}
use Rattle.centre_core.specs.Events.{HearsContact}
use Rattle.centre_core.specs.Hearing.{Greets, Ignores, SaysTo, Tells}
use Rattle.centre_core.specs.Sending.{greeting_text}
use Rattle.centre_core.specs.Steps.{table_after_items, taken_count}
use Rattle.centre_core.specs.View.{CentreView}
use Rattle.centre_core.specs.declared.heard.Heard.TheVariants as heard
use Rattle.centre_core.proofs.AnswerLaws.{one_answer, one_history}
use Rattle.centre_core.proofs.ItemsLaws.{matched_in_history, stands_after_items}
use Rattle.centre_core.proofs.TableLaws.{stands_after}
use Rattle.centre_core.proofs.centre.Centre.hear.Goals as goal

-- what is said is said to the centre as contracts see it
ignored_said : (c : goal.In-Ignored) → SaysTo c.args.self.now c.args.text.now (Ignores c.in-Ignored.why)
ignored_said c = subst (λ (v : CentreView). SaysTo v c.args.text.now (Ignores c.in-Ignored.why)) c.self.view_is c.in-Ignored.ensures

told_said : (c : goal.After-hear_all-matched) → SaysTo c.args.self.now c.args.text.now (Tells (items_data c.in-Downlink.items))
told_said c = subst (λ (v : CentreView). SaysTo v c.args.text.now (Tells (items_data c.in-Downlink.items))) c.self.view_is c.in-Downlink.ensures

pub returns-in-Ignored-clause-said : goal.returns-in-Ignored-clause-said
returns-in-Ignored-clause-said c = (Ignores c.in-Ignored.why, ignored_said c, refl)

pub returns-in-Ignored-clause-answer : goal.returns-in-Ignored-clause-answer
returns-in-Ignored-clause-answer c = one_answer c.args.self.now c.args.text.now (Ignores c.in-Ignored.why) (heard.Ignored c.in-Ignored.why) (ignored_said c) refl

pub returns-in-Ignored-clause-stands : goal.returns-in-Ignored-clause-stands
returns-in-Ignored-clause-stands c w stands hearing =
    one_history c.args.self.now c.args.text.now (Ignores c.in-Ignored.why) w c.args.self.now.table (ignored_said c) stands hearing

pub returns-in-Downlink-clause-said : goal.returns-in-Downlink-clause-said
returns-in-Downlink-clause-said c = (Tells (items_data c.in-Downlink.items), told_said c, refl)

pub returns-in-Downlink-clause-answer : goal.returns-in-Downlink-clause-answer
returns-in-Downlink-clause-answer c =
    one_answer c.args.self.now c.args.text.now (Tells (items_data c.in-Downlink.items)) (heard.Downlink c.in-Downlink.items c.hear_all-matched.result) (told_said c) refl

pub returns-in-Downlink-clause-matched : goal.returns-in-Downlink-clause-matched
returns-in-Downlink-clause-matched c w stands =
    c.hear_all-matched.ensures.matched
    ∙ ap (λ (items : List Item). taken_count (map item_data items) c.self.inside.table) c.as_slice.ensures.value
    ∙ matched_in_history (items_data c.in-Downlink.items) w c.self.inside.table (ap (λ (v : CentreView). v.table) c.self.view_is ∙ stands)

pub returns-in-Downlink-clause-stands : goal.returns-in-Downlink-clause-stands
returns-in-Downlink-clause-stands c w stands hearing =
    one_history c.args.self.now c.args.text.now (Tells (items_data c.in-Downlink.items)) w c.hear_all-matched.new.self (told_said c)
    (c.hear_all-matched.ensures.table
    ∙ ap (λ (items : List Item). table_after_items (map item_data items) c.self.inside.table) c.as_slice.ensures.value
    ∙ stands_after_items (items_data c.in-Downlink.items) w c.self.inside.table (ap (λ (v : CentreView). v.table) c.self.view_is ∙ stands))
    hearing

greeted_said : (c : goal.After-greeting_of) → SaysTo c.args.self.now c.args.text.now (Greets (contact_data c.in-Contact.contact))
greeted_said c = subst (λ (v : CentreView). SaysTo v c.args.text.now (Greets (contact_data c.in-Contact.contact))) c.self.view_is c.in-Contact.ensures

-- the text that is sent answers the contact from the centre's address
greeted : (c : goal.After-greeting_of) → c.greeting_of.result.items ≡ greeting_text c.args.self.now (contact_data c.in-Contact.contact)
greeted c = c.greeting_of.ensures ∙ ap (λ (v : CentreView). greeting_text v (contact_data c.in-Contact.contact)) c.self.view_is

pub returns-in-Contact-clause-said : goal.returns-in-Contact-clause-said
returns-in-Contact-clause-said c = (Greets (contact_data c.in-Contact.contact), greeted_said c, (refl, greeted c))

pub returns-in-Contact-clause-answer : goal.returns-in-Contact-clause-answer
returns-in-Contact-clause-answer c =
    one_answer c.args.self.now c.args.text.now (Greets (contact_data c.in-Contact.contact)) (heard.Contact (record { n = 0; text = c.greeting_of.result }))
    (greeted_said c) (refl, greeted c)

pub returns-in-Contact-clause-stands : goal.returns-in-Contact-clause-stands
returns-in-Contact-clause-stands c w stands hearing =
    one_history c.args.self.now c.args.text.now (Greets (contact_data c.in-Contact.contact)) w c.log_on.new.self (greeted_said c)
    (c.log_on.ensures ∙ stands_after HearsContact w c.self.inside.table (ap (λ (v : CentreView). v.table) c.self.view_is ∙ stands))
    hearing
