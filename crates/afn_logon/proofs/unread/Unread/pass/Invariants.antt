-- The characters that are due are passed one by one.
use Rattle.std.proofs.Common.{◌≡◌, drop}
use Rattle.afn_logon.specs.Reading.{passing}
use Rattle.afn_logon.proofs.unread.Unread.pass.Given as goal

abbrev pub invariant-loop-character : goal.invariant-loop-character
invariant-loop-character l = passing l.due l.fn.self ≡ passing (drop l.character-index l.due) l.self
