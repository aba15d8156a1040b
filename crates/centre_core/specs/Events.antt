-- What happens at a centre. Messages and items are those of RTCA DO-258A / EUROCAE ED-100A, contacts those of the facilities
-- notification (AFN); what a centre makes of them is this project's profile.
use Rattle.adsc_requests.specs.declared.kind.Kind.{Kind}
use Rattle.adsc_requests.specs.declared.message.Message.{Message}
use Rattle.adsc_downlink.specs.Items.{ItemData}

-- An event at a centre. A history is a list of events, the newest first. Asks and cancels that the centre refuses are events too.
pub data CentreEvent : Type 0 where
  -- it asks for a contract by this request, in which no number counts
  Asks : Message → CentreEvent
  -- it cancels its contract of this kind
  Cancels : Kind → CentreEvent
  -- it cancels all contracts
  CancelsAll : CentreEvent
  -- it hears a contact of its aircraft
  HearsContact : CentreEvent
  -- it hears an item of a downlink of its aircraft; the items of a downlink are heard one by one
  HearsItem : ItemData → CentreEvent
