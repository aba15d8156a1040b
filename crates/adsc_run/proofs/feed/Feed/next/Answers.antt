use Rattle.std.proofs.Common.{[], ◌∷◌, ◌++◌, subst, sym, refl}
use Rattle.adsc_run.specs.Feeds.{HasRead}
use Rattle.adsc_run.proofs.FeedLaws.{end_was_read, limit_was_read, long_was_read, text_unbroken, text_was_read}
use Rattle.adsc_run.proofs.feed.Feed.next.Goals as goal

pub read_text-requires : goal.read_text-requires
read_text-requires g c =
    let call = rw c.in-Ok-Text.field-0-is at c.in-Ok-Text.ensures.next in
    text_unbroken c.requires.0 _ _ _ _ c.requires.1 c.requires.2 call

pub returns-in-Ok-clause-next : goal.returns-in-Ok-clause-next
returns-in-Ok-clause-next g c before readings has =
    let call = rw c.in-Ok-Text.field-0-is at c.in-Ok-Text.ensures.next in
    subst (λ lines. HasRead before (g.S.Source.left c.next.new.source) lines (readings ++ c.read_text.new.self.reading ∷ [])) (sym c.read_text.ensures.lines)
    (text_was_read before _ (g.S.Source.left c.next.new.source) _ c.next.new.self readings _ _ c.read_text.new.self.reading has call refl refl c.in-Ok.ensures.reads)

pub returns-in-Ok-TooLong-clause-next : goal.returns-in-Ok-TooLong-clause-next
returns-in-Ok-TooLong-clause-next g c before readings has =
    let call = rw c.in-Ok-TooLong.field-0-is at c.in-Ok-TooLong.ensures.next in
    subst (λ reading. HasRead before (g.S.Source.left c.next.new.source) c.next.new.self (readings ++ reading ∷ [])) (sym c.say_bad.ensures)
    (long_was_read before _ _ _ _ readings has call)

pub returns-in-Ok-End-clause-next : goal.returns-in-Ok-End-clause-next
returns-in-Ok-End-clause-next g c before readings has =
    let call = rw c.in-Ok-End.field-0-is at c.in-Ok-End.ensures.next in
    end_was_read before _ _ _ _ readings has call

pub returns-in-Ok-Limit-clause-next : goal.returns-in-Ok-Limit-clause-next
returns-in-Ok-Limit-clause-next g c before readings has =
    let call = rw c.in-Ok-Limit.field-0-is at c.in-Ok-Limit.ensures.next in
    limit_was_read before _ _ _ _ readings _ has call
