-- What an event makes of a centre's table. That the table stays the one that looking back gives is the law `RowsGoOn`.
use Rattle.std.specs.Prelude.{ℕ, ◌+◌, ◌%◌, true, List, [], ◌∷◌, Option, Some, None, if◌then◌else◌}
use Rattle.adsc_downlink.specs.Items.{ItemData}
use Rattle.adsc_requests.specs.Contents.{number_of}
use Rattle.adsc_requests.specs.Kind.{kind_in}
use Rattle.adsc_requests.specs.declared.kind.Kind.{Kind}
use Rattle.adsc_requests.specs.declared.kind.Kind.TheVariants.{Demand, Periodic, Event, Emergency}
use Rattle.adsc_requests.specs.declared.message.Message.{Message}
use Rattle.centre_core.specs.Events.{CentreEvent, HearsItem}
use Rattle.centre_core.specs.Rows.{Effect, RequestSent, CancelSent, CancelAllSent, LoggedOn, AnswerTaken, NothingDone, answered_row}
use Rattle.centre_core.specs.Tables.{effect_of, is_taken, row_in}
use Rattle.centre_core.specs.declared.answer.AnswerKind.{AnswerKind}
use Rattle.centre_core.specs.declared.shown.Shown.{Shown}
use Rattle.centre_core.specs.declared.shown.Shown.TheVariants as shown
use Rattle.centre_core.specs.declared.table.CentreTable.{CentreTable}

-- The table with this row of the kind.
abbrev pub with_row : Kind → Shown → CentreTable → CentreTable
with_row Demand row table = record table { demand = row }
with_row Periodic row table = record table { periodic = row }
with_row Event row table = record table { event = row }
with_row Emergency row table = record table { emergency = row }

-- The table with this request pending in the row of its kind.
abbrev pub with_pending : Option Kind → Message → CentreTable → CentreTable
with_pending None request table = table
with_pending (Some kind) request table = with_row kind (shown.Pending request) table

-- The row when its cancel is sent.
abbrev pub row_cancelled : Shown → Shown
row_cancelled (shown.Pending request) = shown.Cancelling request
row_cancelled (shown.Confirmed request) = shown.Cancelling request
row_cancelled (shown.Partial request) = shown.Cancelling request
row_cancelled row = row

-- The row when it takes an answer: the first answer decides a pending request, and any answer ends a cancelling one.
abbrev pub row_answered : AnswerKind → Shown → Shown
row_answered answer (shown.Pending request) = answered_row request (Some answer)
row_answered answer (shown.Cancelling request) = shown.Nothing
row_answered answer row = row

-- The table with rows that show nothing.
abbrev pub with_nothing : CentreTable → CentreTable
with_nothing table = record {
  logged_on = table.logged_on;
  last = table.last;
  demand = shown.Nothing;
  periodic = shown.Nothing;
  event = shown.Nothing;
  emergency = shown.Nothing;
}

-- The table after an effect.
abbrev pub with_effect : Effect → CentreTable → CentreTable
with_effect (RequestSent request) table = record (with_pending (kind_in request) request table) { last = number_of request }
with_effect (CancelSent kind) table = with_row kind (row_cancelled (row_in kind table)) table
with_effect CancelAllSent table = with_nothing table
with_effect LoggedOn table = record table { logged_on = true }
with_effect (AnswerTaken kind answer) table = with_row kind (row_answered answer (row_in kind table)) table
with_effect NothingDone table = table

-- The number of the request after the one with this number: 1 to 255, and then 1 again; 1 is the first.
abbrev pub number_after : ℕ → ℕ
number_after n = n % 255 + 1

-- The table after an event.
abbrev pub table_after : CentreEvent → CentreTable → CentreTable
table_after event table = with_effect (effect_of event (number_after table.last) table) table

-- The table after these items, which are heard one by one.
abbrev pub table_after_items : List ItemData → CentreTable → CentreTable
table_after_items [] table = table
table_after_items (item ∷ items) table = table_after_items items (table_after (HearsItem item) table)

-- How many of these items are taken by a row of the table, as they are heard one by one.
abbrev pub taken_count : List ItemData → CentreTable → ℕ
taken_count [] table = 0
taken_count (item ∷ items) table = (if is_taken item table then 1 else 0) + taken_count items (table_after (HearsItem item) table)
