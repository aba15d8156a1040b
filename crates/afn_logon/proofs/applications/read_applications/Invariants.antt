-- What was read, and what is still to be read, is what reading gives from the beginning.
use Rattle.std.proofs.Common.{◌≡◌, ◌-◌, ◌≤◌, IsTrue, map}
use Rattle.arrayvec.specs.ArrayVec.{array_vec_len}
use Rattle.afn_logon.specs.Applications.{are_up_to}
use Rattle.afn_logon.specs.Contents.{application_data}
use Rattle.afn_logon.specs.Kinds.{greatest_number}
use Rattle.afn_logon.specs.Reading.{applications_reading, others_reading}
use Rattle.afn_logon.proofs.LoopLaws.{with_front}
use Rattle.afn_logon.proofs.applications.read_applications.Given as goal

abbrev pub invariant-loop-kind : goal.invariant-loop-kind
invariant-loop-kind l = record {
  some : 1 ≤ array_vec_len l.applications;
  few : array_vec_len l.applications ≤ 4;
  numbers : IsTrue (are_up_to (greatest_number l.kind) l.applications.items);
  whole : applications_reading l.kind l.fn.unread
      ≡ with_front (map application_data l.applications.items) (others_reading l.kind (4 - array_vec_len l.applications) l.unread);
}

abbrev pub decreases-loop-kind : goal.decreases-loop-kind
decreases-loop-kind l = 4 - array_vec_len l.applications
