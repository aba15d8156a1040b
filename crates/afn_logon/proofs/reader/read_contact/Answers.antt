-- The reading answers the value of the text, or stops at its first mismatch.
use Rattle.std.proofs.Common.{◌≡◌, ◌∙◌, Ok, Err, ap, sym, arith}
use Rattle.bit_terms.proofs.ReadingLaws.{ok_is_no_err, ok_same}
use Rattle.afn_logon.specs.Contents.{contact_data}
use Rattle.afn_logon.specs.Reading.{contact_reading}
use Rattle.afn_logon.specs.declared.contact.Contact.{Contact}
use Rattle.afn_logon.proofs.FormLaws.{contact_answers, one_mismatch}
use Rattle.afn_logon.proofs.PlaceLaws.{contact_stops}
use Rattle.afn_logon.proofs.ValueLaws.{same_contact}
use Rattle.afn_logon.proofs.reader.read_contact.Goals as goal

pub refusal-requires-clause-within : goal.refusal-requires-clause-within
refusal-requires-clause-within c =
    let stops = contact_stops c.args.text.now c.in-Err.mismatch.left (sym (ap contact_reading c.new.ensures) ∙ c.in-Err.ensures) in
    stops.within

pub refusal-requires-clause-near : goal.refusal-requires-clause-near
refusal-requires-clause-near c =
    let stops = contact_stops c.args.text.now c.in-Err.mismatch.left (sym (ap contact_reading c.new.ensures) ∙ c.in-Err.ensures) in
    omega (arith, stops.near)

pub returns-in-Ok-clause-found : goal.returns-in-Ok-clause-found
returns-in-Ok-clause-found c =
    (contact_answers c.args.text.now).spelled (contact_data c.in-Ok.contact) (sym (ap contact_reading c.new.ensures) ∙ c.in-Ok.ensures)

pub returns-in-Ok-clause-right : goal.returns-in-Ok-clause-right
returns-in-Ok-clause-right c other is =
    let read : contact_reading c.args.text.now ≡ Ok (contact_data c.in-Ok.contact) = sym (ap contact_reading c.new.ensures) ∙ c.in-Ok.ensures in
    let same = ok_same (contact_data c.in-Ok.contact) (contact_data other) (sym read ∙ (contact_answers c.args.text.now).read (contact_data other) is) in
    ap (λ (value : Contact). Ok value) (same_contact c.in-Ok.contact other same)

pub returns-in-Ok-clause-first : goal.returns-in-Ok-clause-first
returns-in-Ok-clause-first c r mismatch =
    let read : contact_reading c.args.text.now ≡ Ok (contact_data c.in-Ok.contact) = sym (ap contact_reading c.new.ensures) ∙ c.in-Ok.ensures in
    absurd (mismatch.none (contact_data c.in-Ok.contact, (contact_answers c.args.text.now).spelled (contact_data c.in-Ok.contact) read))

pub returns-in-Err-clause-right : goal.returns-in-Err-clause-right
returns-in-Err-clause-right c other is =
    let err : contact_reading c.args.text.now ≡ Err c.in-Err.mismatch.left = sym (ap contact_reading c.new.ensures) ∙ c.in-Err.ensures in
    absurd (ok_is_no_err (contact_data other) c.in-Err.mismatch.left (sym ((contact_answers c.args.text.now).read (contact_data other) is) ∙ err))

pub returns-in-Err-clause-fault : goal.returns-in-Err-clause-fault
returns-in-Err-clause-fault c =
    rw c.refusal.ensures ((contact_answers c.args.text.now).mismatch c.in-Err.mismatch.left (sym (ap contact_reading c.new.ensures) ∙ c.in-Err.ensures))

pub returns-in-Err-clause-first : goal.returns-in-Err-clause-first
returns-in-Err-clause-first c r mismatch =
    let found = (contact_answers c.args.text.now).mismatch c.in-Err.mismatch.left (sym (ap contact_reading c.new.ensures) ∙ c.in-Err.ensures) in
    let place : c.refusal.result.place ≡ r.place = c.refusal.ensures ∙ one_mismatch found mismatch in
    ap (λ place. Err (record { place = place })) place
