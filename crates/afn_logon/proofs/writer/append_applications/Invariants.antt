-- The applications that were walked stand in the text, with at most ten characters each.
use Rattle.std.proofs.Common.{◌≡◌, ◌+◌, ◌*◌, ◌≤◌, ◌++◌, flat_map, map, take}
use Rattle.arrayvec.specs.ArrayVec.{array_vec_len}
use Rattle.afn_logon.specs.Contents.{application_data}
use Rattle.afn_logon.specs.Kinds.{application_text}
use Rattle.afn_logon.proofs.writer.append_applications.Given as goal

abbrev pub invariant-loop-application : goal.invariant-loop-application
invariant-loop-application l = record {
  walked : l.text.items ≡ l.fn.text.items ++ flat_map (application_text l.kind) (map application_data (take l.application-index l.applications));
  few : array_vec_len l.text ≤ array_vec_len l.fn.text + 10 * l.application-index;
}
