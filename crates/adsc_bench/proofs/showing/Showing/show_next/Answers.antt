use Rattle.std.proofs.lemmas.Option.{IfSome_then}
use Rattle.adsc_bench.proofs.OptionLemmas.{if_none_then}
use Rattle.adsc_bench.proofs.ShowingLaws.{all_read, limit_met, long_read, read_failed, text_read}
use Rattle.adsc_bench.proofs.showing.Showing.show_next.Goals as goal

pub returns-in-Ok-Text-clause-none : goal.returns-in-Ok-Text-clause-none
returns-in-Ok-Text-clause-none g c =
    let call = rw c.in-Ok-Text.field-0-is at c.in-Ok-Text.ensures.next in
    if_none_then c.write_line.result _ _
    (λ follows before has. follows before _ _ (text_read before _ _ _ _ _ _ _ _ _ _ _ _ _ has call c.in-Ok-Text.ensures.cause.kept c.number.ensures.number c.text.ensures.text c.show_line-way.ensures))
    c.write_line.ensures.none

pub returns-in-Ok-Text-clause-some : goal.returns-in-Ok-Text-clause-some
returns-in-Ok-Text-clause-some g c =
    let call = rw c.in-Ok-Text.field-0-is at c.in-Ok-Text.ensures.next in
    IfSome_then c.write_line.result c.write_line.ensures.some
    (λ status follows before has. follows before _ _ (text_read before _ _ _ _ _ _ _ _ _ _ _ _ _ has call c.in-Ok-Text.ensures.cause.kept c.number.ensures.number c.text.ensures.text c.show_line-way.ensures))

pub returns-in-Ok-TooLong-clause-none : goal.returns-in-Ok-TooLong-clause-none
returns-in-Ok-TooLong-clause-none g c =
    let call = rw c.in-Ok-TooLong.field-0-is at c.in-Ok-TooLong.ensures.next in
    if_none_then c.write_line-in-Ok-TooLong.result _ _
    (λ follows before has. follows before _ _ (long_read before _ _ _ _ _ _ _ _ _ _ _ _ has call c.in-Ok-TooLong.ensures.cause.kept c.number-in-Ok-TooLong.ensures.number c.show_long-way.ensures))
    c.write_line-in-Ok-TooLong.ensures.none

pub returns-in-Ok-TooLong-clause-some : goal.returns-in-Ok-TooLong-clause-some
returns-in-Ok-TooLong-clause-some g c =
    let call = rw c.in-Ok-TooLong.field-0-is at c.in-Ok-TooLong.ensures.next in
    IfSome_then c.write_line-in-Ok-TooLong.result c.write_line-in-Ok-TooLong.ensures.some
    (λ status follows before has. follows before _ _ (long_read before _ _ _ _ _ _ _ _ _ _ _ _ has call c.in-Ok-TooLong.ensures.cause.kept c.number-in-Ok-TooLong.ensures.number c.show_long-way.ensures))

pub returns-in-Ok-End-clause-some : goal.returns-in-Ok-End-clause-some
returns-in-Ok-End-clause-some g c before has =
    let call = rw c.in-Ok-End.field-0-is at c.in-Ok-End.ensures.next in
    c.write_end.ensures before _ _ (all_read before _ _ _ _ _ _ _ _ _ has call c.in-Ok-End.ensures.cause.kept)

pub returns-in-Ok-Limit-clause-some : goal.returns-in-Ok-Limit-clause-some
returns-in-Ok-Limit-clause-some g c before has =
    let call = rw c.in-Ok-Limit.field-0-is at c.in-Ok-Limit.ensures.next in
    limit_met before _ _ _ _ _ _ _ _ _ _ has call c.in-Ok-Limit.ensures.cause.kept

pub returns-in-Err-clause-some : goal.returns-in-Err-clause-some
returns-in-Err-clause-some g c before has = read_failed before _ _ _ _ _ _ _ _ _ _ has c.in-Err.ensures.next c.in-Err.ensures.cause.failed
