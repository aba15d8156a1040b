use Rattle.std.proofs.Common.{slice_index}
use Rattle.acars_envelope.specs.Bodies.{is_text_character}
use Rattle.acars_envelope.specs.Faults.{AreRight}
use Rattle.acars_envelope.proofs.afn.check_text_characters.Given as goal

abbrev pub invariant-loop-place : goal.invariant-loop-place
invariant-loop-place l = AreRight (λ place. is_text_character (slice_index l.text place)) 12 l.place
