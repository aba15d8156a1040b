-- The worked scripts that are no longer than their head.
use Rattle.std.proofs.Common.{[], refl}
use Rattle.net_script.specs.declared.refusal.Code.TheVariants as code
use Rattle.run_rules.specs.Histories.Heads.{HeadAlone, HeadCutOff, LimitBehindHead, OtherLetter}
use Rattle.run_rules.specs.Histories.Words.{aircraft_of}
use Rattle.run_rules.specs.Runs.{ended_run, stopped_run}
use Rattle.run_rules.specs.Stages.{begun, flying}
use Rattle.run_rules.specs.declared.end.End.TheVariants.{Done, Limit}

pub head_cut_off : HeadCutOff
head_cut_off who = (
  (stopped_run begun [] 1 code.Head 0, refl, (refl, refl, refl)),
  (stopped_run begun [] 2 code.Head 0, refl, (refl, refl, refl)),
  (stopped_run begun [] 3 code.Head 0, refl, (refl, refl, refl)),
)

pub other_letter : OtherLetter
other_letter who = (
  (stopped_run begun [] 1 code.Head 0, refl, (refl, refl, refl)),
  (stopped_run begun [] 2 code.Head 0, refl, (refl, refl, refl)),
)

pub head_alone : HeadAlone
head_alone who sample = (ended_run (flying (aircraft_of who sample)) [] Done, refl, (refl, refl, refl))

pub limit_behind_head : LimitBehindHead
limit_behind_head who sample = (ended_run (flying (aircraft_of who sample)) [] (Limit 4), refl, refl)
