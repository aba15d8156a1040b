-- A journal has one number of downlinks.
use Rattle.std.proofs.Common.{◌≡◌, ℕ, ◌+◌, List, [], ◌∷◌, ◌++◌, length, refl, sym, ap, ◌∙◌, subst, arith}
use Rattle.aircraft_core.specs.Downlinks.{AreDownlinks}
use Rattle.aircraft_core.specs.Setting.{Setting}
use Rattle.aircraft_core.specs.declared.entry.Entry.{Entry}
use Rattle.aircraft_core.proofs.OneList.{same_downlinks}
use Rattle.audit_rules.specs.Conforming.{HasDownlinks}

pub one_count : (setting : Setting) (journal : List Entry) (link : ℕ) (addresses : List (List ℕ)) (one other : ℕ) → HasDownlinks setting journal link addresses one
    → HasDownlinks setting journal link addresses other → one ≡ other
one_count setting journal link [] one other first second = first ∙ sym second
one_count setting journal link (address ∷ addresses) one other first second =
    let texts : first.0 ≡ second.0 = same_downlinks setting journal link first.0 second.0 first.2 second.2 in
    let sizes : length first.0 ≡ length second.0 = ap length texts in
    let others : first.1 ≡ second.1 = one_count setting journal (link + 1) addresses first.1 second.1 first.3 second.3 in
    omega (arith, first.4, second.4, sizes, others)
