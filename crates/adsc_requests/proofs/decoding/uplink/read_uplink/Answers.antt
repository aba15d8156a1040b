use Rattle.std.proofs.Common.{◌≡◌, ◌≤◌, ◌+◌, ◌-◌, ◌∙◌, length, map, sym, ap, refl, rules, arith, Err}
use Rattle.std.proofs.lemmas.Bool.Decides.{nat_tests}
use Rattle.std.proofs.lemmas.List.{nil_from_length}
use Rattle.adsc_requests.specs.Contents.{content_of}
use Rattle.adsc_requests.specs.Reading.{messages_at, uplink_at}
use Rattle.adsc_requests.specs.declared.decoding.stop.Stop.{Stop}
use Rattle.adsc_requests.proofs.MessageLoop.{no_payload, some_payload, front-none, front-step, front-stops, front-end, front-fifth, map-last}
use Rattle.adsc_requests.proofs.decoding.uplink.read_uplink.Goals as goal
use Rattle.adsc_requests.proofs.decoding.uplink.read_uplink.Goals.{else-loop-test, then-loop-test+then-is_empty-2}

pub returns-then-is_empty : goal.returns-then-is_empty
returns-then-is_empty c =
    let none : length c.args.payload.now ≡ 0 = grind (arith, nat_tests) in
    no_payload c.args.payload.now (nil_from_length _ none)

pub loop-init : goal.loop-init
loop-init c =
    let some : 1 ≤ length c.args.payload.now = grind (arith, nat_tests) in
    record {
      reads = rw c.new-messages.ensures (front-none (messages_at 4 0 c.args.payload.now) ∙ sym (some_payload c.args.payload.now some));
      counted = rw c.new-messages.ensures refl;
      begun = omega arith;
    }

pub returns-in_err-message : goal.returns-in_err-message
returns-in_err-message c =
    let some : 1 ≤ length c.loop.rest.now = grind (arith, nat_tests) in
    let whole : uplink_at c.args.payload.now ≡ Err c.in_err-message.field-0.0
    = front-stops (map content_of c.loop.messages.items) c.loop.counter c.loop.number c.loop.rest.now _ _ c.loop-test.true some c.in_err-message.ensures c.loop.invariant.reads in
    rw whole (search rules)

pub push-requires : goal.push-requires
push-requires c = let n = c.loop.invariant.counted in let t = c.loop-test.true in search rules

pub loop-preserved : goal.loop-preserved
loop-preserved c =
    let some : 1 ≤ length c.loop.rest.now = grind (arith, nat_tests) in
    record {
      reads = rw (c.push.ensures.items, c.number_in-number.ensures, map-last content_of c.loop.messages.items c.in_ok-message.message)
          (front-step (map content_of c.loop.messages.items) c.loop.counter c.loop.number c.loop.rest.now _ _ c.loop-test.true some c.in_ok-message.ensures c.loop.invariant.reads);
      counted = c.push.ensures.len ∙ ap (λ n. n + 1) c.loop.invariant.counted;
      begun = omega (arith, c.push.ensures.len);
    }

pub invariant_of-result : goal.invariant_of-result
invariant_of-result c = record { some = omega arith; few = omega arith }

pub returns-in-empty : goal.returns-in-empty
returns-in-empty c = front-end (map content_of c.loop.messages.items) (4 - c.loop.counter) c.loop.number c.loop.rest.now _ c.in-empty.len_below c.loop.invariant.reads

pub returns-in-len1-up : goal.returns-in-len1-up
returns-in-len1-up c =
    let four : 4 ≤ c.loop.counter = elim c.loop-test.branch [
      | else-loop-test w ↦ omega arith
      | then-loop-test+then-is_empty-2 w ↦ grind (arith, nat_tests)
    ] in
    front-fifth (map content_of c.loop.messages.items) c.loop.counter c.loop.number c.loop.rest.now _ four c.in-len1-up.len_at_least c.loop.invariant.reads
    ∙ ap (λ (s : Stop). Err s) (sym c.behind_four.ensures)
