use Rattle.std.proofs.Common.{drop}
use Rattle.generated_scripts.specs.Summaries.{AreLinkLines}
use Rattle.generated_scripts.proofs.SummaryLaws.{Continues}
use Rattle.generated_scripts.proofs.summary.append_links.Given as goal

-- what was appended so far, and lines of the other links, make up lines of all links
abbrev pub invariant-loop-link : goal.invariant-loop-link
invariant-loop-link l =
    Continues (AreLinkLines l.craft.setting l.craft.journal l.link (drop l.link l.craft.setting.addresses))
    (AreLinkLines l.craft.setting l.craft.journal 0 l.craft.setting.addresses) l.fn.out.items l.out.items
