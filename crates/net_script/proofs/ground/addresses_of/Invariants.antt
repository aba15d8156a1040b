use Rattle.std.proofs.Common.{◌≡◌, ◌+◌, take}
use Rattle.net_script.specs.Addresses.{listed_addresses}
use Rattle.net_script.specs.Fields.{fields_of}
use Rattle.net_script.specs.Forms.{AreRightBefore}
use Rattle.net_script.specs.declared.letter.Letter.TheVariants.{Ground}
use Rattle.net_script.proofs.ground.addresses_of.Given as goal

-- The addresses so far are those of the fields so far, which are right.
abbrev pub invariant-loop-place : goal.invariant-loop-place
invariant-loop-place l = record {
  items : l.addresses.items ≡ take l.place (listed_addresses (fields_of l.line));
  right : AreRightBefore Ground (fields_of l.line) (l.place + 1);
}
