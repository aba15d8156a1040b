use Rattle.std.proofs.Common.{arith, ◌∙◌}
use Rattle.net_script.specs.Fields.{fields_of}
use Rattle.net_script.specs.Forms.{IsRight}
use Rattle.net_script.specs.declared.letter.Letter.TheVariants.{Ground}
use Rattle.net_script.proofs.GroundLaws.{one_more_listed, up_to_more}
use Rattle.net_script.proofs.ground.addresses_of.Goals as goal

pub loop-place-preserved : goal.loop-place-preserved
loop-place-preserved c =
    let fields = fields_of c.args.line.now in
    record {
      items = c.in-Ok.ensures.items ∙ one_more_listed fields _ c.loop-place.place c.in-Some.address c.loop-place.invariant.items
          (omega (arith, c.requires.count, c.loop-place-test.true)) c.in-Some.ensures.some;
      right = up_to_more (IsRight Ground fields) c.loop-place.place c.loop-place.invariant.right c.in-Some.ensures.listed;
    }
