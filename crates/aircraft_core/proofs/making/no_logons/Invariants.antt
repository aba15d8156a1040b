-- So many logons so far, of none of which a contact was sent.
use Rattle.std.proofs.Common.{◌≡◌, All, length}
use Rattle.afn_logon.specs.declared.logon.Logon.TheVariants.{Nothing}
use Rattle.aircraft_core.proofs.making.no_logons.Given as goal

abbrev pub invariant-loop : goal.invariant-loop
invariant-loop l = record {
  count : length l.logons.items ≡ l.counter;
  nothing : All (λ logon. logon ≡ Nothing) l.logons.items;
}
