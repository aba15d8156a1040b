-- What a centre shows confirmed was accepted, where no number is reused too early.
use Rattle.std.proofs.Common.{◌≡◌, ◌⊎◌, ℕ, ◌-◌, ◌<◌, ◌≤◌, inl, inr, false, List, [], ◌∷◌, ◌++◌, append_assoc, refl, sym, ap, ◌∙◌, subst, arith}
use Rattle.adsc_downlink.specs.Items.{ItemData}
use Rattle.adsc_downlink.specs.Items.ItemData.{ack, nack, noncompliance, emergency_off, report}
use Rattle.adsc_requests.specs.Contents.{number_of}
use Rattle.adsc_requests.specs.declared.kind.Kind.{Kind}
use Rattle.adsc_requests.specs.declared.message.Message.{Message}
use Rattle.aircraft_core.specs.declared.entry.Entry.{Entry}
use Rattle.aircraft_core.specs.Entries.{latest_of, line_of}
use Rattle.aircraft_core.specs.JournalActs.{EntryActs, JournalActs}
use Rattle.aircraft_core.specs.Setting.{Setting, configuration_of}
use Rattle.centre_core.specs.Hearing.{Hearing, Ignores, Greets, Tells}
use Rattle.centre_core.specs.Histories.{effects, row_at}
use Rattle.centre_core.specs.declared.shown.Shown.TheVariants as shown
use Rattle.centre_core.proofs.TableLaws.{row_in-table_behind}
use Rattle.contract_rules.specs.Acts.{Act, Said}
use Rattle.contract_rules.specs.Messages.{number_of as rules_number_of}
use Rattle.contract_rules.specs.Verdicts.{past_of}
use Rattle.contract_table.specs.Acts.{rules_message}
use Rattle.run_rules.specs.Among.{IsAmong}
use Rattle.run_rules.specs.Claims.{CarriedBears, HasAccepted, IsShownConfirmed, ItemBears, NoEarlyReuse, WasAccepted}
use Rattle.run_rules.proofs.Deeds.{AreDeeds, IsDeed, IsSettled, MadeHearing, bound_before}
use Rattle.run_rules.specs.Happenings.{Happening, Entered, Refused, Asked, Cancelled, Brought, Heard, Carries, SentMessage, entries, history, is_raw, sent_in, sent_messages}
use Rattle.run_rules.specs.Runs.{journal_at}
use Rattle.run_rules.proofs.Acknowledged.{IsAnswered}
use Rattle.run_rules.proofs.Beginnings.{journal_among}
use Rattle.run_rules.proofs.CentreSteps.{ConfirmsGood, IsToCentre, to_centre}
use Rattle.run_rules.proofs.CentreSteps.IsToCentre.{asks, goes}
use Rattle.run_rules.proofs.HeardItems.{accepted_on, said_by_own, told_confirms}
use Rattle.run_rules.proofs.HeldRows.{HeldAsk, RowsHold, hold_asked, hold_gone, nothing_held}
use Rattle.run_rules.proofs.Journals.{gathered-append}
use Rattle.run_rules.proofs.KnownActs.{number_seen}
use Rattle.run_rules.proofs.MadeDownlinks.{TellsOf, tells_of, told_with}
use Rattle.run_rules.proofs.Members.{among_back, among_front, among_parts}
use Rattle.run_rules.proofs.Origins.{got_among, sent_before}
use Rattle.run_rules.proofs.OwnEntries.{BroughtOwn, brought_own, entry_of, own_or_zero}
use Rattle.run_rules.proofs.RowsGo.{Confirms}

-- ---- parts of a log

-- What holds of a log holds of an earlier one.
pub reuse_before : (setting : Setting) (order : List ℕ) (link : ℕ) (happening : Happening) (log : List Happening)
    → NoEarlyReuse setting order link (happening ∷ log) → NoEarlyReuse setting order link log
reuse_before setting order link happening log none = record {
  rows = λ later line request earlier split. none.rows (happening ∷ later) line request earlier (ap (λ l. happening ∷ l) split);
  messages = λ later other earlier line request split asked.
      none.messages (happening ∷ later) other earlier line request (ap (λ l. happening ∷ l) split) asked;
}

-- At each delivery the journal so far is a beginning of this one.
pub record Begins (order : List ℕ) (final : List Entry) (log : List Happening) : Type 0 where
  pub begins : (later : List Happening) (line link place : ℕ) (hearing : Hearing) (earlier : List Happening) → log ≡ later ++ Heard line link place hearing ∷ earlier
      → (rest : List Entry) × (final ≡ journal_at order earlier ++ rest)

begins_before : (order : List ℕ) (final : List Entry) (happening : Happening) (log : List Happening) → Begins order final (happening ∷ log) → Begins order final log
begins_before order final happening log begun =
    record { begins = λ later line link place hearing earlier split. begun.begins (happening ∷ later) line link place hearing earlier (ap (λ l. happening ∷ l) split) }

-- What was sent before something in a log was sent in the log.
pub sent_among : (link : ℕ) (later : List Happening) (happening : Happening) (earlier : List Happening) (sent : SentMessage)
    → IsAmong sent (sent_messages link earlier) → IsAmong sent (sent_messages link (later ++ happening ∷ earlier))
sent_among link later happening earlier sent among =
    subst (IsAmong sent) (sym (gathered-append (sent_in link) later (happening ∷ earlier)))
    (among_front sent (sent_messages link (happening ∷ earlier)) (_) (among_front sent (sent_messages link earlier) (sent_in link happening) among))

confirms_bears : (n : ℕ) (item : ItemData) → Confirms n item → ItemBears n item
confirms_bears n (ack m) confirms = confirms
confirms_bears n (noncompliance m) confirms = confirms
confirms_bears n (nack m reason place) confirms = absurd confirms
confirms_bears n (emergency_off m) confirms = absurd confirms
confirms_bears n (report one) confirms = absurd confirms

-- ---- what a delivery confirms

module _ (order : List ℕ) (setting : Setting) (settled : IsSettled setting) (final : List Entry) (acts : List (List Act)) (are : JournalActs setting.first final acts) (link : ℕ) where
  abbrev Good : Message → Type 0
  Good request = WasAccepted setting final link request

  module _ (number : ℕ) (log : List Happening) (deeds : AreDeeds order setting number log) (line place : ℕ) (items : List ItemData)
      (made : MadeHearing order setting log link place (Tells items)) (none : NoEarlyReuse setting order link (Heard line link place (Tells items) ∷ log))
      (begun : Begins order final (Heard line link place (Tells items) ∷ log)) where
    raw : is_raw link log ≡ false
    raw = made.centre.role

    tells : TellsOf setting link (journal_at order log) place items
    tells =
        tells_of setting link settled made.centre.inside (journal_at order log)
        (λ entry among. (entry_of order setting number link log entry deeds raw (journal_among order (entries log) entry among)).known)
        made.texts place made.text items made.some made.are_downlinks made.there made.says

    entry_among : IsAmong tells.entry (entries log)
    entry_among =
        journal_among order (entries log) tells.entry
        (subst (IsAmong tells.entry) (sym tells.joined) (among_back tells.entry tells.before (tells.entry ∷ tells.behind) (inl refl)))

    -- An ask that holds its number is older than the entry that answers the number.
    asked_first : (request : Message) (at : ℕ) (item : ItemData) → IsAmong (Asked at link request) log → IsAmong item items → Confirms (number_of request) item
        → at ≤ line_of tells.entry
    asked_first request at item asked among confirms =
        none.messages [] (Heard line link place (Tells items)) log at request refl asked refl (item, among, confirms_bears (number_of request) item confirms)
        tells.entry tells.made

    -- The message that the entry brought was sent since the ask, so it is the ask's own.
    brought_is_asked : (request : Message) → HeldAsk link log request → (brought : BroughtOwn order setting log (line_of tells.entry) link tells.entry)
        → (item : ItemData) → IsAmong item items → Confirms (number_of request) item → number_of brought.asked ≡ number_of request → brought.asked ≡ request
    brought_is_asked request held brought item among confirms number =
        let same : Carries brought.asked ≡ Carries request =
        sym brought.carries ∙ held.sole brought.sent sent_here since bears in
        cc
      where
        bears : CarriedBears (number_of request) brought.sent.carried
        bears = subst (CarriedBears (number_of request)) (sym brought.carries) (at (own_or_zero brought.asked))
          where
            at : (number_of brought.asked ≡ 0) ⊎ CarriedBears (number_of brought.asked) (Carries brought.asked) → CarriedBears (number_of request) (Carries brought.asked)
            at (inl zero_is) = absurd (let some = held.some in omega (arith, zero_is, number, some))
            at (inr own) = subst (λ n. CarriedBears n (Carries brought.asked)) number own

        sent_here : IsAmong brought.sent (sent_messages link log)
        sent_here =
            subst (λ l. IsAmong brought.sent (sent_messages link l)) (sym brought.split)
            (sent_among link brought.later (Brought link brought.place tells.entry) brought.earlier brought.sent
            (got_among (sent_messages link brought.earlier) (brought.place - 1) brought.sent brought.there))

        where_asked : IsAmong (Asked held.line link request) brought.later ⊎ IsAmong (Asked held.line link request) (Brought link brought.place tells.entry ∷ brought.earlier)
            → held.line ≤ brought.sent.line
        where_asked (inl later) =
            absurd (let less = brought.asks_after held.line link request later in
            let most = asked_first request held.line item held.asked among confirms in
            omega (arith, less, most))
        where_asked (inr (inl is)) = absurd (cc)
        where_asked (inr (inr before)) =
            none.messages (Heard line link place (Tells items) ∷ brought.later) (Brought link brought.place tells.entry) brought.earlier held.line request
            (ap (λ l. Heard line link place (Tells items) ∷ l) brought.split) before refl brought.sent brought.there bears

        since : held.line ≤ brought.sent.line
        since =
            where_asked
            (among_parts (Asked held.line link request) brought.later (Brought link brought.place tells.entry ∷ brought.earlier)
            (subst (IsAmong (Asked held.line link request)) brought.split held.asked))

    confirmed_good : (item : ItemData) → IsAmong item items → (request : Message) → HeldAsk link log request → Confirms (number_of request) item → Good request
    confirmed_good item among request held confirms =
        accepted_on setting link final tells.before (tells.behind ++ begin.0) tells.entry acts tells.earlier tells.act request joined are tells.are_earlier alone
        (subst (λ m. HasAccepted link m (past_of (configuration_of setting) (tells.act ∷ told_with [] tells.earlier))) message answered.accepted)
      where
        answered : IsAnswered (configuration_of setting) link (past_of (configuration_of setting) (told_with [] tells.earlier)) tells.act (number_of request)
        answered =
            told_confirms (configuration_of setting) link (past_of (configuration_of setting) (told_with [] tells.earlier)) tells.act setting tells.sample item (number_of request)
            (subst (IsAmong item) tells.told among) confirms

        brought : BroughtOwn order setting log (line_of tells.entry) link tells.entry
        brought =
            brought_own order setting number link log (line_of tells.entry) tells.entry deeds raw refl
            (said_by_own link (latest_of setting.first tells.before) tells.entry tells.act answered.message tells.is_act answered.said) entry_among

        said : tells.act ∷ [] ≡ Said link (rules_message brought.asked) ∷ []
        said = brought.acts (latest_of setting.first tells.before) (tells.act ∷ []) tells.is_act

        seen : answered.message ≡ rules_message brought.asked
        seen = let one : Said link answered.message ≡ Said link (rules_message brought.asked) = sym answered.said ∙ head said in cc
          where
            head : tells.act ∷ [] ≡ Said link (rules_message brought.asked) ∷ [] → tells.act ≡ Said link (rules_message brought.asked)
            head is = cc

        number_is : number_of brought.asked ≡ number_of request
        number_is = sym (number_seen brought.asked) ∙ ap rules_number_of (sym seen) ∙ answered.number

        message : answered.message ≡ rules_message request
        message = seen ∙ ap rules_message (brought_is_asked request held brought item among confirms number_is)

        begin : (rest : List Entry) × (final ≡ journal_at order log ++ rest)
        begin = begun.begins [] line link place (Tells items) log refl

        joined : final ≡ tells.before ++ tells.entry ∷ (tells.behind ++ begin.0)
        joined = begin.1 ∙ ap (λ j. j ++ begin.0) tells.joined ∙ append_assoc tells.before (tells.entry ∷ tells.behind) begin.0

        alone : (here : List Act) → EntryActs (latest_of setting.first tells.before) tells.entry here → here ≡ tells.act ∷ []
        alone here is_here = brought.acts (latest_of setting.first tells.before) here is_here ∙ sym said

  -- ---- along the log

  confirms : (number : ℕ) (log : List Happening) (happening : Happening) (line : ℕ) → AreDeeds order setting number log → IsDeed order setting line log happening
      → NoEarlyReuse setting order link (happening ∷ log) → Begins order final (happening ∷ log) → RowsHold Good link log → ConfirmsGood Good link log happening
  confirms number log (Heard at other place (Tells items)) line deeds deed none begun holds =
      λ same item among kind request is is_confirmed.
      confirmed_good number log deeds at place items
      (subst (λ l. MadeHearing order setting log l place (Tells items)) (sym same) deed.1)
      (subst (λ l. NoEarlyReuse setting order link (Heard at l place (Tells items) ∷ log)) (sym same) none)
      (subst (λ l. Begins order final (Heard at l place (Tells items) ∷ log)) (sym same) begun)
      item among request (holds.pending kind request is) is_confirmed
  confirms number log (Heard at other place (Ignores why)) line deeds deed none begun holds = tt
  confirms number log (Heard at other place (Greets contact)) line deeds deed none begun holds = tt
  confirms number log (Entered made) line deeds deed none begun holds = tt
  confirms number log (Refused refused) line deeds deed none begun holds = tt
  confirms number log (Asked at other request) line deeds deed none begun holds = tt
  confirms number log (Cancelled at other cancel sent) line deeds deed none begun holds = tt
  confirms number log (Brought other place made) line deeds deed none begun holds = tt

  asked_at : (line number : ℕ) (log : List Happening) (happening : Happening) (request : Message) → IsDeed order setting number log happening
      → happening ≡ Asked line link request → bound_before number happening ≡ line
  asked_at line number log (Asked at other asked) request deed same = let lines : at ≡ line = cc in sym deed.0 ∙ lines
  asked_at line number log (Entered made) request deed same = absurd (cc)
  asked_at line number log (Refused refused) request deed same = absurd (cc)
  asked_at line number log (Cancelled at other cancel sent) request deed same = absurd (cc)
  asked_at line number log (Brought other place made) request deed same = absurd (cc)
  asked_at line number log (Heard at other place hearing) request deed same = absurd (cc)

  -- What the rows hold after one happening more.
  rows_next : (number : ℕ) (happening : Happening) (log : List Happening) → AreDeeds order setting number (happening ∷ log)
      → NoEarlyReuse setting order link (happening ∷ log) → Begins order final (happening ∷ log) → RowsHold Good link log → RowsHold Good link (happening ∷ log)
  rows_next number happening log deeds none begun before =
      at
      (to_centre Good link log order setting deeds.0 happening deeds.3 (confirms (bound_before deeds.0 happening) log happening deeds.0 deeds.4 deeds.3 none begun before))
    where
      at : IsToCentre Good link log happening → RowsHold Good link (happening ∷ log)
      at (goes gone) = hold_gone Good link log before happening gone
      at (asks line request is ask) =
          subst (λ h. RowsHold Good link (h ∷ log)) (sym is)
          (hold_asked Good link log before line request ask
          (none.rows [] line request log (ap (λ h. h ∷ log) is))
          (sent_earlier (asked_at line deeds.0 log happening request deeds.3 is)))
        where
          sent_earlier : bound_before deeds.0 happening ≡ line → (sent : SentMessage) → IsAmong sent (sent_messages link log) → sent.line < line
          sent_earlier same sent among =
              let less = sent_before order setting (bound_before deeds.0 happening) link log sent deeds.4 among in
              omega (arith, less, same)

  -- What the rows hold at the end of a log.
  pub rows_hold : (number : ℕ) (log : List Happening) → AreDeeds order setting number log → NoEarlyReuse setting order link log → Begins order final log
      → RowsHold Good link log
  rows_hold number [] deeds none begun = nothing_held Good link
  rows_hold number (happening ∷ log) deeds none begun =
      rows_next number happening log deeds none begun
      (rows_hold (bound_before deeds.0 happening) log deeds.4 (reuse_before setting order link happening log none) (begins_before order final happening log begun))

  -- What is shown confirmed was accepted.
  pub shown_good : (number : ℕ) (log : List Happening) (request : Message) → AreDeeds order setting number log → NoEarlyReuse setting order link log → Begins order final log
      → IsShownConfirmed link log request → WasAccepted setting final link request
  shown_good number log request deeds none begun is_shown = at is_shown.0 is_shown.1
    where
      holds : RowsHold Good link log
      holds = rows_hold number log deeds none begun

      at : (kind : Kind) → (row_at kind (history link log) ≡ shown.Confirmed request) ⊎ (row_at kind (history link log) ≡ shown.Partial request) → Good request
      at kind (inl is) = holds.confirmed kind request (row_in-table_behind kind (effects (history link log)) ∙ is)
      at kind (inr is) = holds.partial kind request (row_in-table_behind kind (effects (history link log)) ∙ is)
