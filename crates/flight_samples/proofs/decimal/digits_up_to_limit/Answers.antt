use Rattle.std.proofs.Common.{◌^◌, arith}
use Rattle.std.proofs.lemmas.Int.Digits.{digits_more}
use Rattle.flight_samples.proofs.DecimalLemmas.{not_digits, value_step}
use Rattle.flight_samples.proofs.decimal.digits_up_to_limit.Goals as goal

pub returns-then-not-is_ascii_digit-clause-none : goal.returns-then-not-is_ascii_digit-clause-none
returns-then-not-is_ascii_digit-clause-none c =
    not_digits c.args.text.now c.loop-byte.byte-index c.loop-byte-test.true c.if-not-is_ascii_digit.ensures.cases

pub loop-byte-preserved : goal.loop-byte-preserved
loop-byte-preserved c =
    let digit = c.if-not-is_ascii_digit.ensures in
    let inside = c.loop-byte-test.true in
    let next = value_step c.args.text.now c.loop-byte.byte-index c.loop-byte.value (2 ^ 32) digit.cases inside (omega arith) c.loop-byte.invariant.value in
    record {
      digits = digits_more 10 c.args.text.now c.loop-byte.byte-index inside c.loop-byte.invariant.digits digit.bound;
      value = omega (arith, next, c.min-value.ensures, c.from.ensures);
    }
