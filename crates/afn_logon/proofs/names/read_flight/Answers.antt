-- The characters before the comma are a flight identifier.
use Rattle.std.proofs.Common.{◌≡◌, ◌≤◌, ◌∙◌, ap, arith, subst, sym, take}
use Rattle.acars_envelope.specs.Names.{IsFlight}
use Rattle.afn_logon.specs.Reading.{leading}
use Rattle.afn_logon.specs.declared.characters.Class.TheVariants.{Name}
use Rattle.afn_logon.proofs.NameLaws.{flight_before}
use Rattle.afn_logon.proofs.names.read_flight.Goals as goal

pub unwrap-requires : goal.unwrap-requires
unwrap-requires c =
    let text = c.args.unread.now in
    let counted : c.leading-count.result ≡ leading 8 Name text = c.leading-count.ensures.value in
    let name : c.taken-name.result.now ≡ take (leading 8 Name text) text = c.taken-name.ensures.value ∙ ap (λ n. take n text) counted in
    let some : 1 ≤ leading 8 Name text = omega (arith, counted, c.if-count-eq0.false) in
    c.new.ensures.found.1 (subst IsFlight (sym name) (flight_before text some))
