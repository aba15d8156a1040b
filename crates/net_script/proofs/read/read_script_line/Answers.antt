use Rattle.net_script.proofs.FaultLaws.{reads, tells}
use Rattle.net_script.proofs.TextLaws.{text_begins_if}
use Rattle.net_script.proofs.read.read_script_line.Goals as goal

pub returns-clause-read : goal.returns-clause-read
returns-clause-read c = reads _ _ c.read_line.ensures.ok c.read_line.ensures.refused

pub returns-clause-told : goal.returns-clause-told
returns-clause-told c = tells _ _ c.read_line.ensures.ok c.read_line.ensures.refused

pub returns-clause-text : goal.returns-clause-text
returns-clause-text c = text_begins_if _ _ c.read_line.ensures.ok
