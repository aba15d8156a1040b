-- Texts that are put piece by piece.
use Rattle.std.proofs.Common.{◌≡◌, ℕ, ◌+◌, ◌<◌, List, [], ◌∷◌, ◌++◌, length, drop, sym, ap, ◌∙◌, refl, append_assoc, append-nil, add-one, subst}
use Rattle.std.specs.List.{flat_map}
use Rattle.std.proofs.Math.Seq.{drop-cons, drop-length}
use Rattle.std.specs.Prelude.{codes}
use Rattle.adsc_requests.specs.declared.kind.Kind.TheVariants.{Demand, Periodic, Event, Emergency}
use Rattle.aircraft_core.specs.Downlinks.{AreDownlinks}
use Rattle.aircraft_core.specs.LogonStates.{logon_state}
use Rattle.aircraft_core.specs.Setting.{Setting, address_of}
use Rattle.aircraft_core.specs.declared.entry.Entry.{Entry}
use Rattle.aircraft_core.specs.Entries.{line_of}
use Rattle.output_fields.specs.Fields.{number_field}
use Rattle.run_rules.specs.Orders.{line_order}
use Rattle.run_rules.specs.Output.{AreLinesOfLinks, AreLinkLines, downlink_lines, logon_line, refused_line}
use Rattle.run_rules.specs.declared.end.End.{End}
use Rattle.run_rules.specs.declared.end.End.TheVariants.{Done}
use Rattle.run_rules.specs.declared.refused.RefusedLine.{RefusedLine}
use Rattle.adsc_io.specs.Lines.{ended}
use Rattle.adsc_run.specs.OutcomeTexts.{IsOutcomeEnd, line_of_row, lines_of_row}
use Rattle.adsc_run.specs.Outcomes.{journal_in, setting_in}
use Rattle.adsc_run.specs.declared.outcome.Outcome.{Outcome}
use Rattle.adsc_run.specs.Outgoing.{OnWay, Puts, PutsSuch}
use Rattle.adsc_run.specs.declared.outcome.CentreRow.{CentreRow}
use Rattle.adsc_run.proofs.OutgoingLaws.{puts_none, puts_same, puts_then}

-- ---- a text of which a rest is still to be put

-- So much was put that with this rest the whole text would be.
pub record PutsSo (before now : OnWay) (rest whole : List ℕ) : Type 0 where
  pub text : List ℕ
  pub puts : Puts before now text
  pub joined : text ++ rest ≡ whole

pub so_none : (before : OnWay) (whole : List ℕ) → PutsSo before before whole whole
so_none before whole = record { text = []; puts = puts_none before; joined = refl }

pub so_more : (before middle now : OnWay) (text rest whole : List ℕ)
    → PutsSo before middle (text ++ rest) whole → Puts middle now text → PutsSo before now rest whole
so_more before middle now text rest whole so_far next = record {
  text = so_far.text ++ text;
  puts = puts_then before middle now so_far.text text so_far.puts next;
  joined = append_assoc so_far.text text rest ∙ so_far.joined;
}

pub so_all : (before now : OnWay) (rest whole : List ℕ) → rest ≡ [] → PutsSo before now rest whole → Puts before now whole
so_all before now rest whole none so_far =
    subst (Puts before now) (sym (append-nil so_far.text) ∙ ap (λ t. so_far.text ++ t) (sym none) ∙ so_far.joined) so_far.puts

-- ---- the lines of the links

-- So much was put that with the lines of the links from this one on the lines of all links would be.
pub record PutsLinks (setting : Setting) (journal : List Entry) (link : ℕ) (before now : OnWay) : Type 0 where
  pub text : List ℕ
  pub puts : Puts before now text
  pub such : (behind : List ℕ) → AreLinkLines setting journal link (drop link setting.addresses) behind
      → AreLinkLines setting journal 0 setting.addresses (text ++ behind)

pub links_none : (setting : Setting) (journal : List Entry) (before : OnWay) → PutsLinks setting journal 0 before before
links_none setting journal before = record { text = []; puts = puts_none before; such = λ behind others. others }

-- one link more
pub links_more : (setting : Setting) (journal : List Entry) (link : ℕ) (texts : List (List ℕ)) (before middle later now : OnWay) → link < length setting.addresses
    → PutsLinks setting journal link before middle → AreDownlinks setting journal link texts
    → Puts middle later (logon_line (address_of setting link) (logon_state link journal)) → Puts later now (downlink_lines texts)
    → PutsLinks setting journal (link + 1) before now
links_more setting journal link texts before middle later now below so_far downlinks logon down =
    let own : List ℕ = logon_line (address_of setting link) (logon_state link journal) in
    record {
      text = so_far.text ++ (own ++ downlink_lines texts);
      puts = puts_then before middle now so_far.text (own ++ downlink_lines texts) so_far.puts (puts_then middle later now own (downlink_lines texts) logon down);
      such = λ behind others.
          let more = subst (λ k. AreLinkLines setting journal (link + 1) (drop k setting.addresses) behind) (add-one link) others in
          let whole = so_far.such (own ++ (downlink_lines texts ++ behind))
          (subst (λ addresses. AreLinkLines setting journal link addresses (own ++ (downlink_lines texts ++ behind)))
          (sym (drop-cons setting.addresses link [] below)) (texts, behind, downlinks, more, refl)) in
          subst (AreLinkLines setting journal 0 setting.addresses)
          (ap (λ t. so_far.text ++ t) (sym (append_assoc own (downlink_lines texts) behind)) ∙ sym (append_assoc so_far.text (own ++ downlink_lines texts) behind)) whole;
    }

-- no link more
pub links_all : (setting : Setting) (journal : List Entry) (link : ℕ) (before now : OnWay) → link ≡ length setting.addresses
    → PutsLinks setting journal link before now → PutsSuch (AreLinkLines setting journal 0 setting.addresses) before now
links_all setting journal link before now end so_far = record {
  text = so_far.text;
  such = subst (AreLinkLines setting journal 0 setting.addresses) (append-nil so_far.text)
      (so_far.such [] (subst (λ addresses. AreLinkLines setting journal link addresses []) (sym (ap (λ k. drop k setting.addresses) end ∙ drop-length setting.addresses)) refl));
  puts = so_far.puts;
}

-- ---- the lines of the centres

-- the four lines of a centre
pub four_rows : (row : CentreRow) (a b c d e : OnWay) → Puts a b (line_of_row row Demand) → Puts b c (line_of_row row Periodic) → Puts c d (line_of_row row Event)
    → Puts d e (line_of_row row Emergency) → Puts a e (lines_of_row row)
four_rows row a b c d e one two three four =
    puts_same a e _ (lines_of_row row)
    (puts_then a b e (line_of_row row Demand) _ one
    (puts_then b c e (line_of_row row Periodic) _ two
    (puts_then c d e (line_of_row row Event) (line_of_row row Emergency) three four)))
    (ap (λ t. line_of_row row Demand ++ (line_of_row row Periodic ++ (line_of_row row Event ++ t))) (sym (append-nil (line_of_row row Emergency))))

-- ---- the journal line

-- the numbers of the entries' lines, as fields
pub numbers_of : (entries : List Entry) → flat_map (λ entry. number_field (line_of entry)) entries ≡ flat_map number_field (line_order entries)
numbers_of [] = refl
numbers_of (entry ∷ entries) = ap (λ t. number_field (line_of entry) ++ t) (numbers_of entries)

-- ---- what stands behind the journal line

-- the lines of a run that was done
pub done_put : (outcome : Outcome) (refused : List RefusedLine) (rows : List CentreRow) (a b c d e : OnWay) → refused ≡ outcome.refused.items → rows ≡ outcome.centres.items
    → PutsSuch (AreLinesOfLinks (setting_in outcome.craft) (journal_in outcome.craft)) a b → Puts b c (flat_map refused_line refused)
    → Puts c d (flat_map lines_of_row rows) → Puts d e (ended (codes "OK")) → PutsSuch (IsOutcomeEnd outcome Done) a e
done_put outcome refused rows a b c d e refused_same rows_same links are_refused centres ok =
    let others : List ℕ = flat_map refused_line outcome.refused.items in
    let own : List ℕ = flat_map lines_of_row outcome.centres.items in
    record {
      text = links.text ++ (others ++ (own ++ ended (codes "OK")));
      such = (links.text, links.such, refl);
      puts = puts_then a b e links.text (others ++ (own ++ ended (codes "OK"))) links.puts
          (puts_then b c e others (own ++ ended (codes "OK")) (puts_same b c (flat_map refused_line refused) others are_refused (ap (flat_map refused_line) refused_same))
          (puts_then c d e own (ended (codes "OK")) (puts_same c d (flat_map lines_of_row rows) own centres (ap (flat_map lines_of_row) rows_same)) ok));
    }

-- a run that ended so
pub end_put : (outcome : Outcome) (end : End) (a b : OnWay) → outcome.end ≡ end → PutsSuch (IsOutcomeEnd outcome end) a b → PutsSuch (IsOutcomeEnd outcome outcome.end) a b
end_put outcome end a b same puts = subst (λ end. PutsSuch (IsOutcomeEnd outcome end) a b) (sym same) puts
