use Rattle.std.proofs.Common.{length, ap, arith}
use Rattle.aircraft_core.proofs.JournalLaws.{kept_new}
use Rattle.aircraft_core.proofs.LogonLaws.{logons_new}
use Rattle.aircraft_core.proofs.craft.Craft.new.Goals as goal

pub invariant_of-result : goal.invariant_of-result
invariant_of-result c =
    let size = ap length c.in_ok-copied.ensures in
    record {
      outboxes = rw c.new.ensures.items
          (kept_new _ c.new-table.result c.in_ok-empty_outboxes.field-0.items (omega (arith, size, c.requires.links.0)) (omega (arith, size, c.requires.links.1))
          c.new-table.ensures.configuration (omega (arith, size, c.new-table.ensures.links)) c.new-table.ensures.stands
          (omega (arith, size, c.in_ok-empty_outboxes.ensures.count)) c.in_ok-empty_outboxes.ensures.empty);
      logons = rw c.new.ensures.items
          (logons_new _ c.in_ok-no_logons.field-0.items (omega (arith, size, c.in_ok-no_logons.ensures.count)) c.in_ok-no_logons.ensures.nothing);
    }
