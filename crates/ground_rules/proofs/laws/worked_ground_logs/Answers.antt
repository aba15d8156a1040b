use Rattle.std.proofs.Common.{ℕ, List, [], ◌∷◌, ap, refl, append-nil}
use Rattle.centre_core.specs.Sending.{greeting_text, message_text}
use Rattle.ground_rules.specs.WatchedText.{late_line, sent_line}
use Rattle.ground_rules.specs.Worked.{centre_there, ground_address, periodic}
use Rattle.ground_rules.proofs.laws.worked_ground_logs.Goals as goal

pub returns-clause-late_once : goal.returns-clause-late_once
returns-clause-late_once c who contact basic = (
  refl,
  ap (λ (line : List ℕ). sent_line 3 (greeting_text (centre_there who) contact) ∷ [] ∷ sent_line 5 (message_text (centre_there who) (periodic 1)) ∷ [] ∷ [] ∷ [] ∷ line ∷ [] ∷ [])
      (append-nil (late_line 9 ground_address 1)),
  refl,
)

pub returns-clause-late_again : goal.returns-clause-late_again
returns-clause-late_again c who contact basic = (
  refl,
  λ i. sent_line 3 (greeting_text (centre_there who) contact) ∷ [] ∷ sent_line 5 (message_text (centre_there who) (periodic 1)) ∷ []
      ∷ append-nil (late_line 7 ground_address 1) i ∷ [] ∷ [] ∷ append-nil (late_line 10 ground_address 71) i ∷ [],
  refl,
)

pub returns-clause-too_early : goal.returns-clause-too_early
returns-clause-too_early c who = (refl, refl, refl)

pub returns-clause-ignored : goal.returns-clause-ignored
returns-clause-ignored c who why = (refl, refl, refl)

pub returns-clause-bad : goal.returns-clause-bad
returns-clause-bad c who why = ((refl, refl, refl), (refl, refl, refl))
