-- The applications that were walked stand with number 0.
use Rattle.std.proofs.Common.{◌≡◌, IsTrue, map, take}
use Rattle.arrayvec.specs.ArrayVec.{array_vec_len}
use Rattle.afn_logon.specs.Applications.{are_up_to}
use Rattle.afn_logon.specs.Contents.{application_data}
use Rattle.afn_logon.specs.Makings.{accepted_application}
use Rattle.afn_logon.proofs.making.accepted.Given as goal

abbrev pub invariant-loop-application : goal.invariant-loop-application
invariant-loop-application l = record {
  walked : map application_data l.applications.items ≡ map accepted_application (map application_data (take l.application-index l.offered));
  count : array_vec_len l.applications ≡ l.application-index;
  zero : IsTrue (are_up_to 9 l.applications.items);
}
