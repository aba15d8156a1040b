-- A text has one answer, and the centre stands for one history after it.
use Rattle.std.proofs.Common.{◌≡◌, ℕ, List, subst}
use Rattle.centre_core.specs.Events.{CentreEvent}
use Rattle.centre_core.specs.Heard.{IsAnswerTo, with_heard}
use Rattle.centre_core.specs.Hearing.{Hearing, SaysTo}
use Rattle.centre_core.specs.Histories.{table_at}
use Rattle.centre_core.specs.View.{CentreView}
use Rattle.centre_core.specs.declared.heard.Heard.{Heard}
use Rattle.centre_core.specs.declared.table.CentreTable.{CentreTable}
use Rattle.centre_core.proofs.HearingLaws.{one_hearing}

-- the answer to what a text says is the answer to whatever it says
pub one_answer : (centre : CentreView) (text : List ℕ) (one : Hearing) (answer : Heard) → SaysTo centre text one → IsAnswerTo centre one answer
    → (other : Hearing) → SaysTo centre text other → IsAnswerTo centre other answer
one_answer centre text one answer says is other also =
    subst (λ (h : Hearing). IsAnswerTo centre h answer) (one_hearing centre.address centre.registration text one other says also) is

-- and so is the history behind it
pub one_history : (centre : CentreView) (text : List ℕ) (one : Hearing) (w : List CentreEvent) (table : CentreTable) → SaysTo centre text one
    → table ≡ table_at (with_heard one w) → (other : Hearing) → SaysTo centre text other → table ≡ table_at (with_heard other w)
one_history centre text one w table says stands other also =
    subst (λ (h : Hearing). table ≡ table_at (with_heard h w)) (one_hearing centre.address centre.registration text one other says also) stands
