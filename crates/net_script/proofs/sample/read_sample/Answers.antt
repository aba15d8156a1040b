use Rattle.std.proofs.Common.{rules, ◌≡◌, drop, sym, ◌∙◌, subst}
use Rattle.flight_samples.specs.SampleText.{AreSampleValues, columns_of}
use Rattle.flight_samples.specs.Samples.{values_of}
use Rattle.net_script.specs.Fields.{fields_of}
use Rattle.net_script.proofs.SampleLaws.{columns-are-fields, no_count, wrong_column}
use Rattle.net_script.proofs.sample.read_sample.Goals as goal

pub unreachable-requires : goal.unreachable-requires
unreachable-requires c =
    let are : drop 1 (fields_of c.args.line.now) ≡ columns_of c.behind_letter.result.now = c.behind_letter.ensures.fields ∙ sym (columns-are-fields c.behind_letter.result.now) in
    no_count (fields_of c.args.line.now) (columns_of c.behind_letter.result.now) c.in-Err-Count.field-0-0 c.requires.count are
    ((rw c.in-Err-Count.field-0-is at c.in-Err-Count.ensures).refused (search rules))

pub returns-in-Ok-clause-ok : goal.returns-in-Ok-clause-ok
returns-in-Ok-clause-ok c =
    let are : drop 1 (fields_of c.args.line.now) ≡ columns_of c.behind_letter.result.now = c.behind_letter.ensures.fields ∙ sym (columns-are-fields c.behind_letter.result.now) in
    subst (λ columns. AreSampleValues columns (values_of c.in-Ok.sample)) (sym are) c.in-Ok.ensures.ok

pub returns-in-Err-Column-clause-refused : goal.returns-in-Err-Column-clause-refused
returns-in-Err-Column-clause-refused c =
    let are : drop 1 (fields_of c.args.line.now) ≡ columns_of c.behind_letter.result.now = c.behind_letter.ensures.fields ∙ sym (columns-are-fields c.behind_letter.result.now) in
    rw c.wrong_field.ensures (wrong_column (fields_of c.args.line.now) (columns_of c.behind_letter.result.now) c.in-Err-Column.index c.in-Err-Column.field-0-1 c.requires.count are
    ((rw c.in-Err-Column.field-0-is at c.in-Err-Column.ensures).refused (search rules)))
