use Rattle.std.proofs.Common.{◌≡◌, ◌∙◌, sym, arith, false, true}
use Rattle.std.proofs.lemmas.Bool.Decides.{nat_tests}
use Rattle.adsc_requests.specs.Tables.{is_modulus_tag}
use Rattle.adsc_requests.specs.Contents.{group_tags}
use Rattle.adsc_requests.proofs.Collecting.{is_among}
use Rattle.adsc_requests.proofs.GatheredLemmas.{has_lateral, has_interval, has_vrate, has_range, has_intent, has_waypoint, has_modulus, has_other}
use Rattle.adsc_requests.proofs.decoding.gathered.Gathered.has.Goals as goal

pub returns-in-10 : goal.returns-in-10
returns-in-10 c = let s = c.args.self.now in rw c.in-10.is (c.is_some.ensures ∙ sym (has_lateral s.lateral s.interval s.moduli.m s.vrate s.range s.waypoint s.intent))

pub returns-in-11 : goal.returns-in-11
returns-in-11 c = let s = c.args.self.now in rw c.in-11.is (c.is_some-in-11.ensures ∙ sym (has_interval s.lateral s.interval s.moduli.m s.vrate s.range s.waypoint s.intent))

pub returns-in-18 : goal.returns-in-18
returns-in-18 c = let s = c.args.self.now in rw c.in-18.is (c.is_some-in-18.ensures ∙ sym (has_vrate s.lateral s.interval s.moduli.m s.vrate s.range s.waypoint s.intent))

pub returns-in-19 : goal.returns-in-19
returns-in-19 c = let s = c.args.self.now in rw c.in-19.is (c.is_some-in-19.ensures ∙ sym (has_range s.lateral s.interval s.moduli.m s.vrate s.range s.waypoint s.intent))

pub returns-in-21 : goal.returns-in-21
returns-in-21 c = let s = c.args.self.now in rw c.in-21.is (c.is_some-in-21.ensures ∙ sym (has_intent s.lateral s.interval s.moduli.m s.vrate s.range s.waypoint s.intent))

pub returns-in-20 : goal.returns-in-20
returns-in-20 c = let s = c.args.self.now in rw c.in-20.is (sym (has_waypoint s.lateral s.interval s.moduli.m s.vrate s.range s.waypoint s.intent))

pub returns-in-12-to-17 : goal.returns-in-12-to-17
unfolding is_modulus_tag
returns-in-12-to-17 c =
    let s = c.args.self.now in
    let modulus : is_modulus_tag c.args.tag ≡ true = grind (arith, nat_tests) in
    c.is_some-in-12-to-17.ensures ∙ sym (has_modulus s.lateral s.interval s.moduli.m s.vrate s.range s.waypoint s.intent c.args.tag modulus)

pub returns-in_default : goal.returns-in_default
returns-in_default c =
    let s = c.args.self.now in
    let other : is_among c.args.tag group_tags ≡ false = grind (arith, nat_tests) in
    sym (has_other s.lateral s.interval s.moduli.m s.vrate s.range s.waypoint s.intent c.args.tag other)

pub returns-in_default-2 : goal.returns-in_default-2
returns-in_default-2 c =
    let s = c.args.self.now in
    let other : is_among c.args.tag group_tags ≡ false = grind (arith, nat_tests) in
    sym (has_other s.lateral s.interval s.moduli.m s.vrate s.range s.waypoint s.intent c.args.tag other)
