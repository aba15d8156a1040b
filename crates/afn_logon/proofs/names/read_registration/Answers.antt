-- What stands behind the dots is a mark.
use Rattle.std.proofs.Common.{arith}
use Rattle.afn_logon.proofs.NameLaws.{read_mark}
use Rattle.afn_logon.proofs.names.read_registration.Goals as goal

pub unwrap-requires : goal.unwrap-requires
unwrap-requires c =
    c.new.ensures.found.1 (read_mark c.leading-dots.result c.taken.new.self c.several.new.self c.in_ok-mark.mark.now (omega arith) c.in_ok-mark.ensures)
