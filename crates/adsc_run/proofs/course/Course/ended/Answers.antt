use Rattle.std.proofs.Common.{sym, subst, ◌+◌, ◌≡◌, arith}
use Rattle.adsc_run.specs.Outcomes.{AreRowsOf, centre_links}
use Rattle.adsc_run.specs.Stations.{StationStands}
use Rattle.adsc_run.proofs.RowsLaws.{rows_are}
use Rattle.adsc_run.proofs.course.Course.ended.Goals as goal

pub returns-clause-centres : goal.returns-clause-centres
returns-clause-centres c log stood =
    subst (λ rows. AreRowsOf c.args.self.craft.setting log (centre_links log 0 c.args.self.craft.setting.addresses) rows) (sym c.in_ok-centres.ensures)
    (rows_are c.args.self.craft.setting log 0 c.args.self.craft.setting.addresses c.args.self.stations.items stood.count
    (λ place station there. let same : place ≡ 0 + place = omega arith in
    subst (λ n. StationStands c.args.self.craft.setting n log station) same (stood.each place station there)))
