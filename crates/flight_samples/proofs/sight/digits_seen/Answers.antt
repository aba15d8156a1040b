use Rattle.std.proofs.Common.{rules, ◌≡◌, ◌<◌, ◌^◌, ◌∙◌, ap, sym, subst, take, arith}
use Rattle.std.specs.Str.Parse.{AllDigits, digits_value}
use Rattle.std.proofs.lemmas.Int.Digits.{digits_more}
use Rattle.std.proofs.lemmas.List.{take_all}
use Rattle.flight_samples.proofs.SightLemmas.{room_for_digit, small_value, value_more}
use Rattle.flight_samples.proofs.sight.digits_seen.Goals as goal

pub overflow_mul-value : goal.overflow_mul-value
overflow_mul-value c =
    let so_far = c.loop-place.invariant in
    let room = room_for_digit c.args.digits.now c.loop-place.place c.loop-place.value c.loop-place-test.true c.requires so_far.digits so_far.value in
    search rules

pub overflow_add-value : goal.overflow_add-value
overflow_add-value c =
    let so_far = c.loop-place.invariant in
    let room = room_for_digit c.args.digits.now c.loop-place.place c.loop-place.value c.loop-place-test.true c.requires so_far.digits so_far.value in
    search rules

pub loop-place-preserved : goal.loop-place-preserved
loop-place-preserved c =
    let so_far = c.loop-place.invariant in
    let inside = c.loop-place-test.true in
    let digit = c.if-not-is_ascii_digit.ensures in
    let next = value_more c.args.digits.now c.loop-place.place c.loop-place.value digit.cases inside so_far.value in
    record {
      digits = digits_more 10 c.args.digits.now c.loop-place.place inside so_far.digits digit.bound;
      value = omega (arith, next, c.from.ensures);
    }

pub returns-clause-small : goal.returns-clause-small
returns-clause-small c =
    let so_far = c.loop-place.invariant in
    let whole : take c.loop-place.place c.args.digits.now ≡ c.args.digits.now = take_all c.loop-place.place c.args.digits.now (omega (arith, c.loop-place-test.false)) in
    subst (λ n. n < 10 ^ 8) (sym (so_far.value ∙ ap (digits_value 10) whole)) (small_value c.args.digits.now (subst (AllDigits 10) whole so_far.digits) c.requires)
