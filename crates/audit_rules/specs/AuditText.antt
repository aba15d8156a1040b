-- The output of an audit, as bytes (this project's profile).
use Rattle.std.specs.Prelude.{ℕ, List, [], ◌∷◌, ◌++◌, codes, flat_map}
use Rattle.adsc_io.specs.Lines.{ended}
use Rattle.output_fields.specs.Fields.{number_field}
use Rattle.run_rules.specs.Output.{bad_line}
use Rattle.audit_rules.specs.AuditEnds.{AuditedEnd, conforms, differs, bad, limited}
use Rattle.audit_rules.specs.Conforming.{DifferenceData}

-- the line of a text that is due or was found, by its word
abbrev pub text_line : List ℕ → List ℕ → List ℕ
text_line word text = ended (word ++ codes "," ++ text)

-- a line for each of these texts, or one that says that there is none
abbrev pub text_lines : List ℕ → List (List ℕ) → List ℕ
text_lines word [] = text_line word (codes "none")
text_lines word (text ∷ texts) = flat_map (text_line word) (text ∷ texts)

-- the lines of a difference: the entry's line and the link's address, what is due, what was recorded
abbrev pub difference_lines : DifferenceData → List ℕ
difference_lines difference =
    ended (codes "DIFFERS" ++ number_field difference.line ++ codes "," ++ difference.address)
    ++ (text_lines (codes "DUE") difference.due ++ text_lines (codes "FOUND") difference.found)

-- The output of an audit that ended so.
abbrev pub audit_text : AuditedEnd → List ℕ
audit_text (conforms count downlinks) = ended (codes "CONFORMS" ++ number_field count ++ number_field downlinks) ++ ended (codes "OK")
audit_text (differs difference) = difference_lines difference ++ ended (codes "OK")
audit_text (bad line) = bad_line line
audit_text (limited line) = ended (codes "LIMIT" ++ number_field line)
