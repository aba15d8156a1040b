use Rattle.std.proofs.Common.{◌∙◌, subst, sym}
use Rattle.net_script.specs.Addresses.{AreDifferent}
use Rattle.net_script.proofs.ground.read_ground.Goals as goal

pub returns-clause-ok : goal.returns-clause-ok
returns-clause-ok c =
    record {
      right = c.in_ok-addresses.ensures.right;
      listed = sym (c.new.ensures ∙ c.in_ok-addresses.ensures.listed);
      star = c.first_starred-reserved.ensures;
      different = subst AreDifferent (c.as_slice.ensures.value ∙ sym c.new.ensures) c.in_default.ensures.none;
    }
