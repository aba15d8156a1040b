-- A generated script has one summary, in whichever order its entries are taken.
use Rattle.std.proofs.Common.{◌≡◌, ℕ, ◌+◌, ◌≤◌, List, [], ◌∷◌, ◌++◌, codes, length, Some, Option, sym, ◌∙◌, ap, subst, arith}
use Rattle.adsc_io.specs.Lines.{ended}
use Rattle.aircraft_core.specs.Downlinks.{AreDownlinks}
use Rattle.aircraft_core.specs.Setting.{Setting}
use Rattle.aircraft_core.specs.declared.entry.Entry.{Entry}
use Rattle.aircraft_core.proofs.OneList.{same_downlinks}
use Rattle.run_rules.specs.Happenings.{refused_lines}
use Rattle.run_rules.specs.Laws.{RunsAgree}
use Rattle.run_rules.specs.Runs.{IsAllowedOrder, IsScript, Run, Script, ScriptRun, addresses_in, journal_at}
use Rattle.run_rules.proofs.JournalCounts.{as_many}
use Rattle.run_rules.proofs.OrdersAgree.{orders_agree}
use Rattle.generated_scripts.specs.Generator.{made_script}
use Rattle.generated_scripts.specs.Laws.{OneSummary}
use Rattle.generated_scripts.specs.Summaries.{AreLinkLines, IsSummaryOf, IsSummaryText, count_line, link_line}
use Rattle.generated_scripts.proofs.MadeRuns.{script_taken}

-- ---- one text

-- Links of which each has the same downlinks have the same lines.
same_lines : (setting : Setting) (journal other : List Entry) (link : ℕ) (addresses : List (List ℕ)) (text : List ℕ)
    → ((k : ℕ) (texts : List (List ℕ)) → AreDownlinks setting journal k texts → AreDownlinks setting other k texts)
    → AreLinkLines setting journal link addresses text → AreLinkLines setting other link addresses text
same_lines setting journal other link [] text agree are = are
same_lines setting journal other link (address ∷ addresses) text agree (texts, behind, downlinks, others, is) =
    (texts, behind, agree link texts downlinks, same_lines setting journal other (link + 1) addresses behind agree others, is)

one_lines : (setting : Setting) (journal : List Entry) (link : ℕ) (addresses : List (List ℕ)) (text other : List ℕ) → AreLinkLines setting journal link addresses text
    → AreLinkLines setting journal link addresses other → text ≡ other
one_lines setting journal link [] text other one two = one ∙ sym two
one_lines setting journal link (address ∷ addresses) text other (texts, behind, downlinks, others, is) (texts', behind', downlinks', others', is') =
    is ∙ ap (λ ts. link_line address ts ++ behind) (same_downlinks setting journal link texts texts' downlinks downlinks')
    ∙ ap (λ rest. link_line address texts' ++ rest) (one_lines setting journal (link + 1) addresses behind behind' others others') ∙ sym is'

-- Where each link has the same downlinks, and there are as many entries, the summary is the same.
one_text : (number lines : ℕ) (setting : Setting) (journal other : List Entry) (refused : ℕ) (text other_text : List ℕ)
    → ((k : ℕ) (texts : List (List ℕ)) → AreDownlinks setting journal k texts → AreDownlinks setting other k texts) → length journal ≡ length other
    → IsSummaryText number lines setting journal refused text → IsSummaryText number lines setting other refused other_text → text ≡ other_text
one_text number lines setting journal other refused text other_text agree counted one two =
    one.joined
    ∙ ap (λ n. count_line number lines n refused ++ one.links ++ ended (codes "OK")) counted
    ∙ ap (λ links. count_line number lines (length other) refused ++ links ++ ended (codes "OK"))
    (one_lines setting other 0 setting.addresses one.links two.links (same_lines setting journal other 0 setting.addresses one.links agree one.of_links) two.of_links)
    ∙ sym two.joined

-- ---- the law

-- A generated script has few addresses.
few_addresses : (number lines : ℕ) (script : Script) (order : List ℕ) (run : Run) → 3 ≤ lines → lines ≤ 200000 → IsScript (made_script number lines) script
    → ScriptRun script order run → length (addresses_in run.setting) ≤ 5
few_addresses number lines script order run some few is runs =
    let taken = script_taken number lines script order run some few is runs in
    let five : length (addresses_in run.setting) ≡ 5
    = ap (λ s. length (addresses_in s)) taken.flies ∙ ap (λ (addresses : List (List ℕ)). length addresses) taken.addresses in
    omega arith

same_setting : (one other : Setting) (found : Option Setting) → found ≡ Some one → found ≡ Some other → one ≡ other
same_setting one other found is too = let both : Some one ≡ Some other = sym is ∙ too in cc

summary_of_one : (number lines : ℕ) (script : Script) (workers others : ℕ) (order other_order : List ℕ) (run : Run) (text other_text : List ℕ)
    → RunsAgree order other_order run run → IsAllowedOrder script run workers order → IsSummaryOf number lines order run text
    → IsAllowedOrder script run others other_order → IsSummaryOf number lines other_order run other_text → text ≡ other_text
summary_of_one number lines script workers others order other_order run text other_text agree allowed (setting, flies, sums) allowed' (setting', flies', sums') =
    one_text number lines setting (journal_at order run.log) (journal_at other_order run.log) (length (refused_lines run.log)) text other_text
    (λ k texts are. (agree.downlinks setting flies k texts).0 are)
    (as_many script run workers order allowed ∙ sym (as_many script run others other_order allowed'))
    sums
    (subst (λ s. IsSummaryText number lines s (journal_at other_order run.log) (length (refused_lines run.log)) other_text)
    (same_setting setting' setting run.setting flies' flies) sums')

-- A generated script has one summary.
pub one_summary : OneSummary
one_summary number lines script workers others order other_order run other text other_text some few is runs allowed sums too allowed' sums' =
    let agree = orders_agree (made_script number lines) script workers others order other_order run other is
    (few_addresses number lines script order run some few is runs) runs allowed too allowed' in
    let same : other ≡ run = sym agree.same in
    summary_of_one number lines script workers others order other_order run text other_text
    (subst (RunsAgree order other_order run) same agree) allowed sums
    (subst (λ r. IsAllowedOrder script r others other_order) same allowed')
    (subst (λ r. IsSummaryOf number lines other_order r other_text) same sums')
