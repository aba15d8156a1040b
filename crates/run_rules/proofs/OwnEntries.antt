-- What the entries of a log are: each has acts, and on a centre's link each uplink is one message that the centre sent before.
use Rattle.std.proofs.Common.{◌≡◌, ◌≢◌, ◌⊎◌, ℕ, ◌-◌, ◌<◌, ◌≤◌, inl, inr, false, List, [], ◌∷◌, ◌++◌, map, Some, Result, Ok, Err, refl, sym, ap, ◌∙◌, subst, arith, IsTrue}
use Rattle.std.specs.Prelude.{slice_get}
use Rattle.std.proofs.lemmas.Bool.{eqb-false}
use Rattle.std.proofs.lemmas.Bool.Decides.{nat_tests}
use Rattle.hex.specs.Hex.{IsBytes}
use Rattle.adsc_requests.specs.Contents.{contents_of, number_of}
use Rattle.adsc_requests.specs.declared.message.Message.{Message}
use Rattle.adsc_requests.specs.declared.message.Message.TheVariants as message
use Rattle.adsc_requests.specs.declared.message.Uplink.{Uplink as UplinkMessages}
use Rattle.adsc_requests.specs.declared.refusal.Refusal.{Refusal as RequestRefusal}
use Rattle.adsc_requests.proofs.Injective.{same_contents}
use Rattle.adsc_requests.proofs.ReadingLaws.{contents_never_fault, one_reading, refusal_reason}
use Rattle.adsc_requests.proofs.Whole.{written_encodes}
use Rattle.aircraft_core.specs.declared.entry.Entry.{Entry}
use Rattle.aircraft_core.specs.declared.entry.Entry.TheVariants.{Uplink, Answer, Sample, Tick, Crew, Logon}
use Rattle.aircraft_core.specs.Entries.{latest_after, line_of}
use Rattle.aircraft_core.specs.JournalActs.{EntryActs, JournalActs, UplinkActs}
use Rattle.aircraft_core.specs.Setting.{Setting}
use Rattle.centre_core.specs.Sending.{message_payload}
use Rattle.contract_rules.specs.Acts.{Act, Said, Malformed}
use Rattle.contract_table.specs.Acts.{rules_fault, rules_message}
use Rattle.contract_table.specs.Sending.{is_reason}
use Rattle.contract_table.specs.declared.act.Act.TheVariants as told
use Rattle.flight_samples.specs.declared.sample.Sample.{Sample as FlightSample}
use Rattle.ground_texts.proofs.EachUplink.{each_payload}
use Rattle.ground_texts.specs.Readings.{ReadsPayload}
use Rattle.run_rules.specs.Among.{IsAmong}
use Rattle.run_rules.specs.Claims.{CarriedBears}
use Rattle.run_rules.proofs.Deeds.{AreDeeds, IsDeed, IsTakenText}
use Rattle.run_rules.specs.Happenings.{Happening, Entered, Refused, Asked, Cancelled, Brought, Heard, Carried, Carries, Answers, SentMessage, entries, entry_in, is_raw, makes_raw, sent_messages}
use Rattle.run_rules.specs.Lines.{entry_with}
use Rattle.run_rules.proofs.KnownActs.{AreKnown, IsKnown}
use Rattle.run_rules.proofs.MadeDownlinks.{IsKnownEntry, IsOwnUplink}
use Rattle.run_rules.proofs.Numbers.{below_255}
use Rattle.run_rules.proofs.Origins.{DoneAt, MadeIn, done_at, got_among, made_in, not_raw}

-- ---- the payload of one message

uplink_of : Message → UplinkMessages
uplink_of asked = record { messages = record { items = asked ∷ [] }; some = omega arith; few = omega arith }

-- A payload of one message is that message, said on the link.
pub sole_acts : (link : ℕ) (asked : Message) (acts : List Act) → UplinkActs link (message_payload asked) acts → acts ≡ Said link (rules_message asked) ∷ []
unfolding uplink_of
sole_acts link asked acts (inl read) =
    read.2
    ∙ ap (λ (uplink : UplinkMessages). map (λ message. Said link (rules_message message)) uplink.messages.items)
    (same_contents read.0 (uplink_of asked)
    (one_reading (message_payload asked) (contents_of read.0) (contents_of (uplink_of asked)) read.1 (written_encodes (uplink_of asked))))
sole_acts link asked acts (inr unread) =
    absurd (contents_never_fault (message_payload asked) (contents_of (uplink_of asked), written_encodes (uplink_of asked)) (unread.0, unread.1))

message_acts : (link : ℕ) (asked : Message) → UplinkActs link (message_payload asked) (Said link (rules_message asked) ∷ [])
unfolding uplink_of
message_acts link asked = inl (uplink_of asked, written_encodes (uplink_of asked), refl)

payload_acts : (link : ℕ) (payload : List ℕ) (asked : Result UplinkMessages RequestRefusal) → ReadsPayload payload asked → (acts : List Act) × UplinkActs link payload acts
payload_acts link payload (Ok uplink) reads = (map (λ message. Said link (rules_message message)) uplink.messages.items, inl (uplink, reads, refl))
payload_acts link payload (Err refusal) reads = (Malformed link (rules_fault refusal) ∷ [], inr (refusal, reads, refl))

-- ---- what is known of acts

-- A message bears its number, or has none, which counts as 0.
pub own_or_zero : (asked : Message) → (number_of asked ≡ 0) ⊎ CarriedBears (number_of asked) (Carries asked)
own_or_zero message.CancelAll = inl refl
own_or_zero (message.Cancel n) = inr refl
own_or_zero (message.CancelEmergency n) = inr refl
own_or_zero (message.Periodic n interval groups intent) = inr refl
own_or_zero (message.Event n limits) = inr refl
own_or_zero (message.Emergency n interval groups intent) = inr refl

other_known : (link other : ℕ) (messages : List Message) → (link ≢ other) → AreKnown link (map (λ message. Said other (rules_message message)) messages)
other_known link other [] differs = tt
other_known link other (asked ∷ messages) differs =
    (record { told = told.Said other asked; is_told = refl; reason = tt; own = λ same. absurd (differs same) }, other_known link other messages differs)

has_reason : (n : ℕ) → 1 ≤ n → n ≤ 13 → IsTrue (is_reason n)
has_reason n low high = grind (arith, nat_tests)

uplink_known : (link other : ℕ) (payload : List ℕ) (acts : List Act) → (link ≢ other) → UplinkActs other payload acts → AreKnown link acts
uplink_known link other payload acts differs (inl read) = subst (AreKnown link) (sym read.2) (other_known link other read.0.messages.items differs)
uplink_known link other payload acts differs (inr unread) =
    let reason = refusal_reason payload unread.0 unread.1 in
    subst (AreKnown link) (sym unread.2)
    (record { told = told.Malformed other unread.0; is_told = refl; reason = has_reason unread.0.reason reason.0 reason.1; own = λ same. differs same }, tt)

-- ---- entries

-- What an entry is to a link: all is known of its acts, and it has some.
pub record EntryOf (link : ℕ) (made : Entry) : Type 0 where
  pub known : IsKnownEntry link made
  pub acts : (latest : FlightSample) → (acts : List Act) × EntryActs latest made acts

of_flight : (link : ℕ) (act : FlightSample → Act) (made : Entry) → ((latest : FlightSample) (acts : List Act) → EntryActs latest made acts → acts ≡ act latest ∷ [])
    → ((latest : FlightSample) → IsKnown link (act latest)) → ((latest : FlightSample) → EntryActs latest made (act latest ∷ [])) → EntryOf link made
of_flight link act made alone known has = record {
  known = record {
    known = λ latest acts are. subst (AreKnown link) (sym (alone latest acts are)) (known latest, tt);
    sole = λ latest acts are own. (act latest, alone latest acts are);
  };
  acts = λ latest. (act latest ∷ [], has latest);
}

of_none : (link : ℕ) (made : Entry) → ((latest : FlightSample) (acts : List Act) → EntryActs latest made acts → acts ≡ [])
    → ((latest : FlightSample) → EntryActs latest made []) → (IsOwnUplink link made → ⊥) → EntryOf link made
of_none link made none has other = record {
  known = record {
    known = λ latest acts are. subst (AreKnown link) (sym (none latest acts are)) tt;
    sole = λ latest acts are own. absurd (other own);
  };
  acts = λ latest. ([], has latest);
}

of_raw : (link line other : ℕ) (made : Entry) (payload : List ℕ) → (link ≢ other) → IsBytes payload
    → ((latest : FlightSample) (acts : List Act) → EntryActs latest made acts → UplinkActs other payload acts)
    → ((latest : FlightSample) (acts : List Act) → UplinkActs other payload acts → EntryActs latest made acts)
    → (IsOwnUplink link made → link ≡ other) → EntryOf link made
of_raw link line other made payload differs bytes to from own_is =
    let read = each_payload payload bytes in
    let some = payload_acts other payload read.0 read.1 in
    record {
      known = record {
        known = λ latest acts are. uplink_known link other payload acts differs (to latest acts are);
        sole = λ latest acts are own. absurd (differs (own_is own));
      };
      acts = λ latest. (some.0, from latest some.0 some.1);
    }

entered : (link : ℕ) (log : List Happening) (made : Entry) → makes_raw link (Entered made) ≡ false → IsTakenText log made → EntryOf link made
entered link log (Uplink line other octets) raw text =
    of_raw link line other (Uplink line other octets) octets.items (λ same. eqb-false link other raw same) text.0 (λ latest acts are. are) (λ latest acts are. are) (λ own. own)
entered link log (Answer line other code) raw text = of_none link (Answer line other code) (λ latest acts are. are) (λ latest. refl) (λ own. own)
entered link log (Sample line sample) raw text =
    of_flight link _ (Sample line sample) (λ latest acts are. are)
    (λ latest. record { told = told.Moved latest sample; is_told = refl; reason = tt; own = tt }) (λ latest. refl)
entered link log (Tick line t) raw text =
    of_flight link _ (Tick line t) (λ latest acts are. are) (λ latest. record { told = told.Ticked t; is_told = refl; reason = tt; own = tt }) (λ latest. refl)
entered link log (Crew line on) raw text =
    of_flight link _ (Crew line on) (λ latest acts are. are) (λ latest. record { told = told.Crew on; is_told = refl; reason = tt; own = tt }) (λ latest. refl)
entered link log (Logon line other) raw text = of_none link (Logon line other) (λ latest acts are. are) (λ latest. refl) (λ own. own)

brought : (link line other : ℕ) (carried : Carried) → ((n : ℕ) → CarriedBears n carried → n ≤ 255) → EntryOf link (entry_with line other carried)
brought link line other (Carries asked) few =
    of_flight link (λ latest. Said other (rules_message asked)) (entry_with line other (Carries asked)) (λ latest acts are. sole_acts other asked acts are)
    (λ latest. record { told = told.Said other asked; is_told = refl; reason = tt; own = λ same. small (own_or_zero asked) })
    (λ latest. message_acts other asked)
  where
    small : (number_of asked ≡ 0) ⊎ CarriedBears (number_of asked) (Carries asked) → number_of asked < 256
    small (inl none) = omega (arith, none)
    small (inr bears) = let less = few (number_of asked) bears in omega (arith, less)
brought link line other (Answers contact) few =
    of_none link (entry_with line other (Answers contact)) (λ latest acts are. are) (λ latest. refl) (λ own. own)

happened : (order : List ℕ) (setting : Setting) (link line number : ℕ) (earlier : List Happening) (happening : Happening) (made : Entry)
    → IsDeed order setting line earlier happening → AreDeeds order setting number earlier → makes_raw link happening ≡ false → IsAmong made (entry_in happening)
    → EntryOf link made
happened order setting link line number earlier (Entered other) made deed deeds raw (inl same) =
    subst (EntryOf link) same (entered link earlier other raw deed.text)
happened order setting link line number earlier (Entered other) made deed deeds raw (inr among) = absurd among
happened order setting link line number earlier (Brought other place was) made deed deeds raw (inl same) =
    let sent = deed.1.sent in
    let below = below_255 order setting number other earlier deeds in
    subst (EntryOf link) (sym deed.1.entry ∙ same)
    (brought link line other sent.carried (λ n bears. below.sent sent n (got_among (sent_messages other earlier) (place - 1) sent deed.1.there) bears))
happened order setting link line number earlier (Brought other place was) made deed deeds raw (inr among) = absurd among
happened order setting link line number earlier (Refused refused) made deed deeds raw among = absurd among
happened order setting link line number earlier (Asked l other request) made deed deeds raw among = absurd among
happened order setting link line number earlier (Cancelled l other cancel sent) made deed deeds raw among = absurd among
happened order setting link line number earlier (Heard l other place hearing) made deed deeds raw among = absurd among

-- What each entry of a log is to a link that isn't raw.
pub entry_of : (order : List ℕ) (setting : Setting) (number link : ℕ) (log : List Happening) (made : Entry) → AreDeeds order setting number log
    → is_raw link log ≡ false → IsAmong made (entries log) → EntryOf link made
entry_of order setting number link log made deeds raw among = at (made_in log made among)
  where
    at : MadeIn log made → EntryOf link made
    at found =
        let done = done_at order setting number found.later found.happening found.earlier (subst (AreDeeds order setting number) found.split deeds) in
        let not = not_raw link found.later found.happening found.earlier (sym (ap (is_raw link) found.split) ∙ raw) in
        happened order setting link done.line _ found.earlier found.happening made done.deed done.before not.0 found.makes

-- ---- acts

entered_acts : (log : List Happening) (made : Entry) → IsTakenText log made → (latest : FlightSample) → (acts : List Act) × EntryActs latest made acts
entered_acts log (Uplink line link octets) text latest =
    let read = each_payload octets.items text.0 in payload_acts link octets.items read.0 read.1
entered_acts log (Answer line link code) text latest = ([], refl)
entered_acts log (Sample line sample) text latest = (_, refl)
entered_acts log (Tick line t) text latest = (_, refl)
entered_acts log (Crew line on) text latest = (_, refl)
entered_acts log (Logon line link) text latest = ([], refl)

brought_acts : (line link : ℕ) (carried : Carried) (latest : FlightSample) → (acts : List Act) × EntryActs latest (entry_with line link carried) acts
brought_acts line link (Carries asked) latest = (Said link (rules_message asked) ∷ [], message_acts link asked)
brought_acts line link (Answers contact) latest = ([], refl)

done_acts : (order : List ℕ) (setting : Setting) (line : ℕ) (log : List Happening) (happening : Happening) (made : Entry) → IsDeed order setting line log happening
    → IsAmong made (entry_in happening) → (latest : FlightSample) → (acts : List Act) × EntryActs latest made acts
done_acts order setting line log (Entered other) made deed (inl same) latest =
    subst (λ e. (acts : List Act) × EntryActs latest e acts) same (entered_acts log other deed.text latest)
done_acts order setting line log (Entered other) made deed (inr among) latest = absurd among
done_acts order setting line log (Brought link place other) made deed (inl same) latest =
    subst (λ e. (acts : List Act) × EntryActs latest e acts) (sym deed.1.entry ∙ same) (brought_acts line link deed.1.sent.carried latest)
done_acts order setting line log (Brought link place other) made deed (inr among) latest = absurd among
done_acts order setting line log (Refused refused) made deed among latest = absurd among
done_acts order setting line log (Asked at link request) made deed among latest = absurd among
done_acts order setting line log (Cancelled at link cancel sent) made deed among latest = absurd among
done_acts order setting line log (Heard at link place hearing) made deed among latest = absurd among

-- Each entry of a log has acts.
pub made_acts : (order : List ℕ) (setting : Setting) (number : ℕ) (log : List Happening) (made : Entry) → AreDeeds order setting number log
    → IsAmong made (entries log) → (latest : FlightSample) → (acts : List Act) × EntryActs latest made acts
made_acts order setting number log made deeds among latest =
    let found = made_in log made among in
    let done = done_at order setting number found.later found.happening found.earlier (subst (AreDeeds order setting number) found.split deeds) in
    done_acts order setting done.line found.earlier found.happening made done.deed found.makes latest

-- So has a journal of them.
pub journal_acts : (latest : FlightSample) (journal : List Entry) → ((made : Entry) → IsAmong made journal → (before : FlightSample) → (acts : List Act) × EntryActs before made acts)
    → (acts : List (List Act)) × JournalActs latest journal acts
journal_acts latest [] each = ([], refl)
journal_acts latest (made ∷ journal) each =
    let here = each made (inl refl) latest in
    let rest = journal_acts (latest_after latest made) journal (λ other among. each other (inr among)) in
    (here.0 ∷ rest.0, (here.1, rest.1))

-- ---- an uplink of the link

-- An uplink was brought: the centre sent its one message before, and asks that came later came at later lines.
pub record BroughtOwn (order : List ℕ) (setting : Setting) (log : List Happening) (line link : ℕ) (made : Entry) : Type 0 where
  pub later : List Happening
  pub earlier : List Happening
  pub place : ℕ
  pub split : log ≡ later ++ Brought link place made ∷ earlier
  pub sent : SentMessage
  pub there : slice_get (sent_messages link earlier) (place - 1) ≡ Some sent
  pub asked : Message
  pub carries : sent.carried ≡ Carries asked
  pub before : AreDeeds order setting line earlier
  pub asks_after : (at other : ℕ) (request : Message) → IsAmong (Asked at other request) later → line < at
  pub acts : (latest : FlightSample) (acts : List Act) → EntryActs latest made acts → acts ≡ Said link (rules_message asked) ∷ []

module _ (order : List ℕ) (setting : Setting) (number link : ℕ) (log : List Happening) (line : ℕ) (made : Entry) (deeds : AreDeeds order setting number log)
    (raw : is_raw link log ≡ false) (of_line : line_of made ≡ line) (own : IsOwnUplink link made) where
  -- Which line and link an entry with a message has.
  carried_by : (sent_at other : ℕ) (carried : Carried) → made ≡ entry_with sent_at other carried
      → (asked : Message) × (carried ≡ Carries asked) × (sent_at ≡ line) × (other ≡ link)
      × ((latest : FlightSample) (acts : List Act) → EntryActs latest made acts → acts ≡ Said other (rules_message asked) ∷ [])
  carried_by sent_at other (Carries asked) is = (
    asked,
    refl,
    sym (ap line_of is) ∙ of_line,
    sym (subst (IsOwnUplink link) is own),
    λ latest acts are. sole_acts other asked acts (subst (λ e. EntryActs latest e acts) is are),
  )
  carried_by sent_at other (Answers contact) is = absurd (subst (IsOwnUplink link) is own)

  own_raw : (other : Entry) → other ≡ made → makes_raw link (Entered other) ≡ false → ⊥
  own_raw (Uplink l other octets) same is = eqb-false link other is (subst (IsOwnUplink link) (sym same) own)
  own_raw (Answer l other code) same is = subst (IsOwnUplink link) (sym same) own
  own_raw (Sample l sample) same is = subst (IsOwnUplink link) (sym same) own
  own_raw (Tick l t) same is = subst (IsOwnUplink link) (sym same) own
  own_raw (Crew l on) same is = subst (IsOwnUplink link) (sym same) own
  own_raw (Logon l other) same is = subst (IsOwnUplink link) (sym same) own

  by : (later : List Happening) (happening : Happening) (earlier : List Happening) → log ≡ later ++ happening ∷ earlier → IsAmong made (entry_in happening)
      → makes_raw link happening ≡ false → DoneAt order setting number later happening earlier → BroughtOwn order setting log line link made
  by later (Entered other) earlier split (inl same) not done = absurd (own_raw other same not)
  by later (Entered other) earlier split (inr among) not done = absurd among
  by later (Refused refused) earlier split among not done = absurd among
  by later (Asked l other request) earlier split among not done = absurd among
  by later (Cancelled l other cancel sent) earlier split among not done = absurd among
  by later (Heard l other place hearing) earlier split among not done = absurd among
  by later (Brought other place was) earlier split (inr among) not done = absurd among
  by later (Brought other place was) earlier split (inl same) not done =
      let bringing = done.deed.1 in
      let found = carried_by done.line other bringing.sent.carried (sym same ∙ bringing.entry) in
      let line_is : done.line ≡ line = found.2 in
      let link_is : other ≡ link = found.3 in
      record {
        later = later;
        earlier = earlier;
        place = place;
        split = split ∙ ap (λ e. later ++ Brought other place e ∷ earlier) same ∙ ap (λ l. later ++ Brought l place made ∷ earlier) link_is;
        sent = bringing.sent;
        there = subst (λ l. slice_get (sent_messages l earlier) (place - 1) ≡ Some bringing.sent) link_is bringing.there;
        asked = found.0;
        carries = found.1;
        before = subst (λ n. AreDeeds order setting n earlier) line_is done.before;
        asks_after = λ at l request among. subst (λ n. n < at) line_is (done.asks_after at l request among);
        acts = λ latest acts are. subst (λ l. acts ≡ Said l (rules_message found.0) ∷ []) link_is (found.4 latest acts are);
      }

  -- Each uplink of the link among the entries was brought so.
  pub brought_own : IsAmong made (entries log) → BroughtOwn order setting log line link made
  brought_own among = at (made_in log made among)
    where
      at : MadeIn log made → BroughtOwn order setting log line link made
      at found =
          by found.later found.happening found.earlier found.split found.makes
          (not_raw link found.later found.happening found.earlier (sym (ap (is_raw link) found.split) ∙ raw)).0
          (done_at order setting number found.later found.happening found.earlier (subst (AreDeeds order setting number) found.split deeds))
