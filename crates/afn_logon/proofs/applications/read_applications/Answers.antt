-- Each application that is read, each way out, and what the list holds by then.
use Rattle.std.proofs.Common.{◌≡◌, ◌≤◌, ◌-◌, ◌<◌, ◌++◌, [], ◌∷◌, Err, length, map, ap, ap₂, sym, refl, ◌∙◌, arith}
use Rattle.std.proofs.lemmas.Bool.{eqb-true}
use Rattle.std.proofs.lemmas.List.{map-append}
use Rattle.std.proofs.lemmas.Result.{err_from_is_err_and}
use Rattle.afn_logon.specs.Contents.{application_data}
use Rattle.afn_logon.specs.Kinds.{greatest_number}
use Rattle.afn_logon.specs.Reading.{applications_reading, others_reading}
use Rattle.afn_logon.proofs.LoopLaws.{applications_end, applications_full, applications_refused, applications_step, first_application, first_application_refused, goes_on, not_full, with_front}
use Rattle.afn_logon.proofs.ValueLaws.{one_more}
use Rattle.afn_logon.proofs.applications.read_applications.Goals as goal

pub returns-in_err-read_application-clause-gives : goal.returns-in_err-read_application-clause-gives
returns-in_err-read_application-clause-gives c =
    let p = err_from_is_err_and c.from_residual.result c.from_residual.ensures.1 in
    rw (p.1, p.2)
    (first_application_refused c.args.kind c.args.unread.now c.in_err-read_application.field-0.0.left c.in_err-read_application.ensures.gives)

pub loop-kind-init : goal.loop-kind-init
loop-kind-init c =
    let a = c.in_ok-read_application.field-0 in
    let none : c.new-applications.result.items ≡ [] = c.new-applications.ensures in
    let alone : c.push.new.self.items ≡ a ∷ [] = c.push.ensures.items ∙ ap (λ list. list ++ a ∷ []) none in
    let count : length c.push.new.self.items ≡ 1 = ap length alone in
    record {
      some = omega arith;
      few = omega arith;
      numbers = one_more (greatest_number c.args.kind) [] c.push.new.self.items a alone refl c.in_ok-read_application.ensures.number;
      whole = first_application c.args.kind c.args.unread.now c.read_application.new.unread (application_data a) c.in_ok-read_application.ensures.gives
          ∙ ap₂ (λ front n. with_front front (others_reading c.args.kind (4 - n) c.read_application.new.unread)) (sym (ap (map application_data) alone)) (sym count);
    }

pub returns-then-is_full-clause-gives : goal.returns-then-is_full-clause-gives
returns-then-is_full-clause-gives c =
    let list = c.loop-kind.applications.items in
    let full : length list ≡ 4 = eqb-true _ _ (sym c.is_full.ensures.value ∙ c.if-is_full.true) in
    let some : 1 ≤ length c.loop-kind.unread = goes_on c.loop-kind.unread c.is_empty.result c.is_empty.ensures c.loop-kind-test.true in
    applications_full c.args.kind (map application_data list) (length list) (applications_reading c.args.kind c.args.unread.now) c.loop-kind.unread
    c.loop-kind.invariant.whole full some
    ∙ ap (λ left. Err left) (sym c.mismatch.ensures)

pub returns-in_err-read_application-2-clause-gives : goal.returns-in_err-read_application-2-clause-gives
returns-in_err-read_application-2-clause-gives c =
    let list = c.loop-kind.applications.items in
    let few : length list < 4 = not_full (length list) c.is_full.result c.is_full.ensures.value c.if-is_full.false c.loop-kind.invariant.few in
    let some : 1 ≤ length c.loop-kind.unread = goes_on c.loop-kind.unread c.is_empty.result c.is_empty.ensures c.loop-kind-test.true in
    let p = err_from_is_err_and c.from_residual-in_err-read_application-2.result c.from_residual-in_err-read_application-2.ensures.1 in
    rw (p.1, p.2)
    (applications_refused c.args.kind (map application_data list) (length list) (applications_reading c.args.kind c.args.unread.now) c.loop-kind.unread
    c.loop-kind.invariant.whole c.in_err-read_application-2.field-0.0.left few some c.in_err-read_application-2.ensures.gives)

pub loop-kind-preserved : goal.loop-kind-preserved
loop-kind-preserved c =
    let list = c.loop-kind.applications.items in
    let a = c.in_ok-read_application-2.field-0 in
    let few : length list < 4 = not_full (length list) c.is_full.result c.is_full.ensures.value c.if-is_full.false c.loop-kind.invariant.few in
    let some : 1 ≤ length c.loop-kind.unread = goes_on c.loop-kind.unread c.is_empty.result c.is_empty.ensures c.loop-kind-test.true in
    let listed : map application_data list ++ application_data a ∷ [] ≡ map application_data c.push-in-loop-kind.new.self.items =
    sym (ap (map application_data) c.push-in-loop-kind.ensures.items ∙ map-append application_data list (a ∷ [])) in
    record {
      some = omega (arith, c.push-in-loop-kind.ensures.len);
      few = omega (arith, c.push-in-loop-kind.ensures.len);
      numbers = one_more (greatest_number c.args.kind) list c.push-in-loop-kind.new.self.items a c.push-in-loop-kind.ensures.items
          c.loop-kind.invariant.numbers c.in_ok-read_application-2.ensures.number;
      whole = applications_step c.args.kind (map application_data list) (length list) (applications_reading c.args.kind c.args.unread.now) c.loop-kind.unread
          c.loop-kind.invariant.whole (application_data a) c.read_application-in-loop-kind.new.unread few some c.in_ok-read_application-2.ensures.gives
          ∙ ap₂ (λ front n. with_front front (others_reading c.args.kind (4 - n) c.read_application-in-loop-kind.new.unread)) listed
          (sym c.push-in-loop-kind.ensures.len);
    }

pub returns-clause-gives : goal.returns-clause-gives
returns-clause-gives c =
    let list = c.loop-kind.applications.items in
    applications_end c.args.kind (map application_data list) (length list) (applications_reading c.args.kind c.args.unread.now) c.loop-kind.unread
    c.loop-kind.invariant.whole (eqb-true _ _ (sym c.is_empty.ensures ∙ c.loop-kind-test.false))
