use Rattle.net_script.proofs.EachLine.{each_line}
use Rattle.net_script.proofs.FaultLaws.{fault_same}
use Rattle.net_script.proofs.LineLaws.{no_fault}
use Rattle.net_script.proofs.ValueLaws.{one_value}
use Rattle.net_script.proofs.laws.each_line_says_something_or_has_a_fault.Goals as goal

pub returns : goal.returns
returns c = record {
  one = each_line;
  never_both = λ line said fault value. no_fault said line fault value;
  one_value = one_value;
  one_fault = fault_same;
}
