use Rattle.std.proofs.Common.{◌≡◌, ◌∙◌, [], ap, append-nil, eqb-true, length, refl, rules, sym}
use Rattle.std.proofs.lemmas.List.{nil_from_length}
use Rattle.run_rules.specs.EarlierLines.{taken_by}
use Rattle.adsc_run.proofs.course.Course.enter_burst.Goals as goal

-- nothing waits
pub returns-then-is_empty : goal.returns-then-is_empty
returns-then-is_empty g c =
    let count : length c.args.self.burst.items ≡ c.args.self.burst.len = search rules in
    let none : c.args.self.burst.items ≡ [] =
    nil_from_length c.args.self.burst.items (count ∙ eqb-true c.args.self.burst.len 0 (sym c.is_empty.ensures ∙ c.if-is_empty.true)) in
    record {
      woven = [];
      taken = λ worker. ap (taken_by c.args.workers worker) (sym none);
      journal = sym (append-nil c.args.self.craft.journal);
      setting = refl;
      stations = refl;
      refused = refl;
      ends = refl;
      none = none;
    }
