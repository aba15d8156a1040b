use Rattle.run_rules.proofs.WorkedLines.{answers_are_refused, bad_lines_are_written, happenings_tell, head_letters_are_due, head_lines_stop, journals_are_written, limit_is_written, logons_are_written, places_are_counted, refused_texts_are_written, rows_are_written}
use Rattle.run_rules.proofs.laws.worked_lines.Goals as goal

pub returns-clause-logons : goal.returns-clause-logons
returns-clause-logons c = logons_are_written

pub returns-clause-refused : goal.returns-clause-refused
returns-clause-refused c = refused_texts_are_written

pub returns-clause-rows : goal.returns-clause-rows
returns-clause-rows c = rows_are_written

pub returns-clause-bad : goal.returns-clause-bad
returns-clause-bad c = bad_lines_are_written

pub returns-clause-places : goal.returns-clause-places
returns-clause-places c = places_are_counted

pub returns-clause-tell : goal.returns-clause-tell
returns-clause-tell c = happenings_tell

pub returns-clause-letters : goal.returns-clause-letters
returns-clause-letters c = head_letters_are_due

pub returns-clause-head : goal.returns-clause-head
returns-clause-head c = head_lines_stop

pub returns-clause-answers : goal.returns-clause-answers
returns-clause-answers c = answers_are_refused

pub returns-clause-journals : goal.returns-clause-journals
returns-clause-journals c = journals_are_written

pub returns-clause-limit : goal.returns-clause-limit
returns-clause-limit c = limit_is_written
