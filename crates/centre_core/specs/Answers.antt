-- The answers among the items of a downlink, after RTCA DO-258A / EUROCAE ED-100A.
use Rattle.std.specs.Prelude.{Option, Some, None}
use Rattle.adsc_downlink.specs.Items.{ItemData}
use Rattle.adsc_downlink.specs.Items.ItemData.{ack, nack, noncompliance, emergency_off, report}
use Rattle.centre_core.specs.declared.answer.ItemAnswer.{ItemAnswer}
use Rattle.centre_core.specs.declared.answer.AnswerKind.TheVariants.{Acknowledgement, Noncompliance, NegativeAcknowledgement}

-- The answer that an item is, if it is one. The end of emergency mode and reports answer no message.
abbrev pub answer_in : ItemData → Option ItemAnswer
answer_in (ack n) = Some (record { number = n; kind = Acknowledgement })
answer_in (noncompliance n) = Some (record { number = n; kind = Noncompliance })
answer_in (nack n reason place) = Some (record { number = n; kind = NegativeAcknowledgement reason })
answer_in (emergency_off n) = None
answer_in (report one) = None
