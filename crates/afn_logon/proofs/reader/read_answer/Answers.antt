-- The reading answers the value of the text, or stops at its first mismatch.
use Rattle.std.proofs.Common.{◌≡◌, ◌∙◌, Ok, Err, ap, sym, arith}
use Rattle.bit_terms.proofs.ReadingLaws.{ok_is_no_err, ok_same}
use Rattle.afn_logon.specs.Contents.{answer_data}
use Rattle.afn_logon.specs.Reading.{answer_reading}
use Rattle.afn_logon.specs.declared.answer.Answer.{Answer}
use Rattle.afn_logon.proofs.FormLaws.{answer_answers, one_mismatch}
use Rattle.afn_logon.proofs.PlaceLaws.{answer_stops}
use Rattle.afn_logon.proofs.ValueLaws.{same_answer}
use Rattle.afn_logon.proofs.reader.read_answer.Goals as goal

pub refusal-requires-clause-within : goal.refusal-requires-clause-within
refusal-requires-clause-within c =
    let stops = answer_stops c.args.text.now c.in-Err.mismatch.left (sym (ap answer_reading c.new.ensures) ∙ c.in-Err.ensures) in
    stops.within

pub refusal-requires-clause-near : goal.refusal-requires-clause-near
refusal-requires-clause-near c =
    let stops = answer_stops c.args.text.now c.in-Err.mismatch.left (sym (ap answer_reading c.new.ensures) ∙ c.in-Err.ensures) in
    omega (arith, stops.near)

pub returns-in-Ok-clause-found : goal.returns-in-Ok-clause-found
returns-in-Ok-clause-found c =
    (answer_answers c.args.text.now).spelled (answer_data c.in-Ok.answer) (sym (ap answer_reading c.new.ensures) ∙ c.in-Ok.ensures)

pub returns-in-Ok-clause-right : goal.returns-in-Ok-clause-right
returns-in-Ok-clause-right c other is =
    let read : answer_reading c.args.text.now ≡ Ok (answer_data c.in-Ok.answer) = sym (ap answer_reading c.new.ensures) ∙ c.in-Ok.ensures in
    let same = ok_same (answer_data c.in-Ok.answer) (answer_data other) (sym read ∙ (answer_answers c.args.text.now).read (answer_data other) is) in
    ap (λ (value : Answer). Ok value) (same_answer c.in-Ok.answer other same)

pub returns-in-Ok-clause-first : goal.returns-in-Ok-clause-first
returns-in-Ok-clause-first c r mismatch =
    let read : answer_reading c.args.text.now ≡ Ok (answer_data c.in-Ok.answer) = sym (ap answer_reading c.new.ensures) ∙ c.in-Ok.ensures in
    absurd (mismatch.none (answer_data c.in-Ok.answer, (answer_answers c.args.text.now).spelled (answer_data c.in-Ok.answer) read))

pub returns-in-Err-clause-right : goal.returns-in-Err-clause-right
returns-in-Err-clause-right c other is =
    let err : answer_reading c.args.text.now ≡ Err c.in-Err.mismatch.left = sym (ap answer_reading c.new.ensures) ∙ c.in-Err.ensures in
    absurd (ok_is_no_err (answer_data other) c.in-Err.mismatch.left (sym ((answer_answers c.args.text.now).read (answer_data other) is) ∙ err))

pub returns-in-Err-clause-fault : goal.returns-in-Err-clause-fault
returns-in-Err-clause-fault c =
    rw c.refusal.ensures ((answer_answers c.args.text.now).mismatch c.in-Err.mismatch.left (sym (ap answer_reading c.new.ensures) ∙ c.in-Err.ensures))

pub returns-in-Err-clause-first : goal.returns-in-Err-clause-first
returns-in-Err-clause-first c r mismatch =
    let found = (answer_answers c.args.text.now).mismatch c.in-Err.mismatch.left (sym (ap answer_reading c.new.ensures) ∙ c.in-Err.ensures) in
    let place : c.refusal.result.place ≡ r.place = c.refusal.ensures ∙ one_mismatch found mismatch in
    ap (λ place. Err (record { place = place })) place
