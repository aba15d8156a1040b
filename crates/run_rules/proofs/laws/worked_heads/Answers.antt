use Rattle.run_rules.proofs.WorkedHeads.{head_alone, head_cut_off, limit_behind_head, other_letter}
use Rattle.run_rules.proofs.laws.worked_heads.Goals as goal

pub returns-clause-head_cut_off : goal.returns-clause-head_cut_off
returns-clause-head_cut_off c = head_cut_off

pub returns-clause-other_letter : goal.returns-clause-other_letter
returns-clause-other_letter c = other_letter

pub returns-clause-head_alone : goal.returns-clause-head_alone
returns-clause-head_alone c = head_alone

pub returns-clause-limit_behind_head : goal.returns-clause-limit_behind_head
returns-clause-limit_behind_head c = limit_behind_head
