-- The name has three characters, all of them letters.
use Rattle.std.proofs.lemmas.List.Sums.{list_all-from_AllPass}
use Rattle.acars_envelope.specs.Names.{is_letter}
use Rattle.afn_logon.specs.declared.characters.Class.TheVariants.{Letter}
use Rattle.afn_logon.proofs.RunLaws.{takes_several}
use Rattle.afn_logon.proofs.applications.read_name.Goals as goal

pub unwrap-requires : goal.unwrap-requires
unwrap-requires c =
    c.as_array.ensures.variant.1 (((takes_several 3 Letter).sound _ _ _ c.in_ok-letters.ensures).0).size

pub returns-clause-letters : goal.returns-clause-letters
returns-clause-letters c =
    let are = ((takes_several 3 Letter).sound _ _ _ c.in_ok-letters.ensures).0 in
    let whole = rw c.unwrap.ensures at c.as_array.ensures.cases in
    rw whole.same (list_all-from_AllPass is_letter c.in_ok-letters.letters.now are.each)
