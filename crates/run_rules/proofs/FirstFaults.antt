-- A line behind the head ends a run exactly where a row of the table of faults applies to it, and by the first one.
use Rattle.std.proofs.Common.{◌≡◌, ◌↔◌, ◌⊎◌, ◌<◌, ◌≤◌, ◌-◌, ◌+◌, ◌==◌, ℕ, inl, inr, Bool, true, false, if◌then◌else◌, List, [], ◌∷◌, ◌++◌, length, Option, Some, None, Result, Ok, Err, slice_get, refl, sym, ap, ◌∙◌, subst, arith, true≢false}
use Rattle.std.specs.Prelude.{nat_eq}
use Rattle.std.proofs.lemmas.Bool.{ne_eqb}
use Rattle.std.proofs.lemmas.Bool.Decides.{Decides-eqb}
use Rattle.std.proofs.lemmas.Option.{slice_get_cases, slice_get_within}
use Rattle.adsc_requests.specs.Contents.{number_of}
use Rattle.adsc_requests.specs.Kind.{kind_in}
use Rattle.adsc_requests.specs.declared.kind.Kind.{Kind}
use Rattle.adsc_requests.specs.declared.kind.Kind.TheVariants as kinds
use Rattle.adsc_requests.specs.declared.message.Message.{Message}
use Rattle.afn_logon.specs.declared.answer.Answer.{Answer as LogonAnswer}
use Rattle.afn_logon.specs.declared.refusal.AfnRefusal.{AfnRefusal}
use Rattle.aircraft_core.specs.Downlinks.{AreDownlinks}
use Rattle.aircraft_core.specs.Setting.{Setting}
use Rattle.aircraft_core.specs.declared.entry.Entry.TheVariants.{Answer, Crew, Logon, Sample, Tick, Uplink}
use Rattle.aircraft_core.proofs.OneList.{same_downlinks}
use Rattle.centre_core.specs.Events.{CentreEvent}
use Rattle.centre_core.specs.Histories.{next_number_at, row_at, table_at, was_contacted}
use Rattle.centre_core.specs.Tables.{number_pending, number_to_cancel, row_if, row_in, unless_waiting, with_number}
use Rattle.centre_core.specs.declared.refusal.AskRefused.{AskRefused}
use Rattle.centre_core.specs.declared.refusal.AskRefused.TheVariants.{NotLoggedOn}
use Rattle.centre_core.specs.declared.shown.Shown.{Shown}
use Rattle.centre_core.specs.declared.shown.Shown.TheVariants as shown
use Rattle.centre_core.proofs.NumberLaws.{logged_on_by_contact}
use Rattle.contract_rules.proofs.Equality.{equality_of_lists}
use Rattle.ground_texts.specs.declared.ground_text.AdsUplink.{AdsUplink}
use Rattle.ground_texts.specs.declared.ground_text.AfnUplink.{AfnUplink}
use Rattle.ground_texts.specs.declared.ground_text.GroundText.{GroundText}
use Rattle.ground_texts.specs.declared.ground_text.GroundText.TheVariants as text
use Rattle.net_script.specs.Letters.{HasLetter}
use Rattle.net_script.specs.declared.letter.Letter.TheVariants.{Aircraft, Ground, Sample as FlightLetter}
use Rattle.net_script.specs.declared.line.Cancel.{Cancel}
use Rattle.net_script.specs.declared.line.Cancel.TheVariants.{Of, EmergencyMode, All}
use Rattle.net_script.specs.declared.line.ScriptLine.{ScriptLine}
use Rattle.net_script.specs.declared.line.ScriptLine.TheVariants as line
use Rattle.net_script.specs.declared.refusal.BadLine.{BadLine}
use Rattle.net_script.specs.declared.refusal.Code.{Code}
use Rattle.net_script.specs.declared.refusal.Code.TheVariants as code
use Rattle.run_rules.specs.Among.{IsAmong}
use Rattle.run_rules.specs.FaultTable.{Applies, AsksBy, BringsOneOf, CanBeCancelled, FirstFaultStops, HasAddress, IsFirstFault, IsFirstOf, IsOfCentre, IsTakenText, rows}
use Rattle.run_rules.specs.Happenings.{Happening, Entered, SentMessage, Heard, history, is_centre, is_raw, sent_messages}
use Rattle.run_rules.specs.Lines.{as_centre, ask_step, asking_step, bring_step, bringing_step, cancel_step, cancelling_step, flight_step, on_link, step_of}
use Rattle.run_rules.specs.Places.{IsInPlace, IsMisplacedBy, head_letter}
use Rattle.run_rules.specs.Readings.{ReadsLine}
use Rattle.run_rules.specs.Runs.{DeliveryRuns, LinesRun, Run, StepRuns, end_behind, journal_at}
use Rattle.run_rules.specs.Stages.{Stage, Step, begun, does, enters, flying, linked, named, receives, stage_after, stops}
use Rattle.run_rules.specs.Texts.{characters_place, characters_step, flight_place, link_from, link_to, notice_step, payload_happenings, refusal_of, refuses, registration_place, same_text, takes, text_step, uplink_step}
use Rattle.run_rules.specs.declared.end.End.TheVariants.{Bad as EndsBad}
use Rattle.run_rules.specs.declared.reading.Reading.{Reading}
use Rattle.run_rules.specs.declared.reading.Reading.TheVariants.{Bad, Brings, Says}
use Rattle.run_rules.specs.declared.refused.RefusedWhy.TheVariants as why
use Rattle.run_rules.proofs.SentTexts.{same_is}

-- ---- the link of an address

some_same : {A : Type 0} (one other : A) (found : Option A) → found ≡ Some one → found ≡ Some other → one ≡ other
some_same one other found is too = let both : Some one ≡ Some other = sym is ∙ too in cc

none_some : {A : Type 0} (one : A) (found : Option A) → found ≡ None → found ≡ Some one → ⊥
none_some one found is too = let both : None ≡ Some one = sym is ∙ too in cc

-- An address without a link isn't listed, and one with a link is.
unlisted : (from : ℕ) (addresses : List (List ℕ)) (address : List ℕ) → link_from from addresses address ≡ None → IsAmong address addresses → ⊥
unlisted from [] address none among = among
unlisted from (other ∷ others) address none among = at (same_text other address) refl none among (unlisted (from + 1) others address)
  where
    at : (same : Bool) → same_text other address ≡ same → (if same then Some from else link_from (from + 1) others address) ≡ None
        → (other ≡ address) ⊎ IsAmong address others → (link_from (from + 1) others address ≡ None → IsAmong address others → ⊥) → ⊥
    at true same none among rest = none_some from None refl (sym none)
    at false same none (inl is) rest = true≢false (sym (same_is other address is) ∙ same)
    at false same none (inr later) rest = rest none later

listed : (from : ℕ) (addresses : List (List ℕ)) (address : List ℕ) (link : ℕ) → link_from from addresses address ≡ Some link → IsAmong address addresses
listed from [] address link is = absurd (none_some link None refl is)
listed from (other ∷ others) address link is = at (same_text other address) refl is (listed (from + 1) others address link)
  where
    at : (same : Bool) → same_text other address ≡ same → (if same then Some from else link_from (from + 1) others address) ≡ Some link
        → (link_from (from + 1) others address ≡ Some link → IsAmong address others) → (other ≡ address) ⊎ IsAmong address others
    at true same is rest = inl ((equality_of_lists nat_eq (λ m n. Decides-eqb m n) other address).0 same)
    at false same is rest = inr (rest is)

-- Where nothing stands at a place, there are fewer.
few_below : {A : Type 0} (items : List A) (place : ℕ) → 1 ≤ place → slice_get items (place - 1) ≡ None → length items < place
few_below items place some past = elim (slice_get_cases items (place - 1)).1 [
  | inl there ↦ absurd (none_some there.0 (slice_get items (place - 1)) past there.2)
  | inr beyond ↦ omega (arith, some, beyond.0)
]

text_same : (one two : List ℕ) → same_text one two ≡ true → one ≡ two
text_same one two same = (equality_of_lists nat_eq (λ m n. Decides-eqb m n) one two).0 same

-- The row of a kind in the table is the row of the kind.
row_in_table : (kind : Kind) (w : List CentreEvent) → row_in kind (table_at w) ≡ row_at kind w
row_in_table kinds.Demand w = refl
row_in_table kinds.Periodic w = refl
row_in_table kinds.Event w = refl
row_in_table kinds.Emergency w = refl

-- ---- the place of a line

-- Behind the head no line of its first two letters is in its place.
in_place_behind : (number : ℕ) (bytes : List ℕ) → 4 ≤ number → IsInPlace number bytes → HasLetter bytes Aircraft ⊎ HasLetter bytes Ground → ⊥
in_place_behind number bytes behind placed letter = placed code.Kind (subst (λ due. IsMisplacedBy due bytes code.Kind) (sym none_due) letter)
  where
    none_due : head_letter number ≡ None
    none_due =
        ap (λ test. if test then Some Aircraft else if number == 2 then Some Ground else if number == 3 then Some FlightLetter else None)
        (ne_eqb number 1 (λ is. omega (arith, is, behind)))
        ∙ ap (λ test. if test then Some Ground else if number == 3 then Some FlightLetter else None) (ne_eqb number 2 (λ is. omega (arith, is, behind)))
        ∙ ap (λ test. if test then Some FlightLetter else None) (ne_eqb number 3 (λ is. omega (arith, is, behind)))

-- ---- the first row

module _ (Row : Code → ℕ → Type 0) where
  abbrev NoRow : Code → Type 0
  NoRow code = (value : ℕ) → Row code value → ⊥

  abbrev NoRows : List Code → Type 0
  NoRows [] = Unit {0}
  NoRows (code ∷ codes) = NoRow code × NoRows codes

  none_first : (codes : List Code) → NoRows codes → (found : Code) (value : ℕ) → IsFirstOf Row codes found value → ⊥
  none_first [] none found value first = first
  none_first (code ∷ codes) none found value (inl (is, row)) = none.0 value row
  none_first (code ∷ codes) none found value (inr (before, rest)) = none_first codes none.1 found value rest

  first_same : ((code : Code) (value other : ℕ) → Row code value → Row code other → value ≡ other) → (codes : List Code) (found one : Code) (value other : ℕ)
      → IsFirstOf Row codes found value → IsFirstOf Row codes one other → (found ≡ one) × (value ≡ other)
  first_same single [] found one value other first second = absurd first
  first_same single (code ∷ codes) found one value other (inl (is, row)) (inl (too, its)) = (is ∙ sym too, single code value other row its)
  first_same single (code ∷ codes) found one value other (inl (is, row)) (inr (before, rest)) = absurd (before value row)
  first_same single (code ∷ codes) found one value other (inr (before, rest)) (inl (too, its)) = absurd (before other its)
  first_same single (code ∷ codes) found one value other (inr (before, rest)) (inr (before', rest')) = first_same single codes found one value other rest rest'

module _ (setting : Setting) (order : List ℕ) (log : List Happening) where
  -- ---- each row has one value

  one_link : (reading : Reading) (link other : ℕ) → IsOfCentre setting reading link → IsOfCentre setting reading other → link ≡ other
  one_link (Says (line.C address request)) link other is too = some_same link other (link_to setting address) is too
  one_link (Says (line.K address cancel)) link other is too = some_same link other (link_to setting address) is too
  one_link (Says (line.B address place)) link other is too = some_same link other (link_to setting address) is too
  one_link (Says (line.R address place)) link other is too = some_same link other (link_to setting address) is too
  one_link reading link other is too = absurd is

  one_request : (reading : Reading) (request other : Message) → AsksBy reading request → AsksBy reading other → request ≡ other
  one_request (Says (line.C address asked)) request other is too = sym is ∙ too
  one_request reading request other is too = absurd is

  one_count : (reading : Reading) (link other count amount place its : ℕ) → link ≡ other → BringsOneOf setting order log reading link count place
      → BringsOneOf setting order log reading other amount its → count ≡ amount
  one_count (Says (line.B address at)) link other count amount place its same is too =
      sym is.0 ∙ ap (λ (l : ℕ). length (sent_messages l log)) same ∙ too.0
  one_count (Says (line.R address at)) link other count amount place its same (texts, are, is, at_place) (others, are', too, at_its) =
      sym is
      ∙ ap (λ (ts : List (List ℕ)). length ts)
      (same_downlinks setting (journal_at order log) other texts others (subst (λ l. AreDownlinks setting (journal_at order log) l texts) same are) are')
      ∙ too
  one_count reading link other count amount place its same is too = absurd is

  one_pending : (link other : ℕ) (kind its : Kind) (pending request : Message) → link ≡ other → kind ≡ its
      → row_at kind (history link log) ≡ shown.Pending pending → row_at its (history other log) ≡ shown.Pending request → number_of pending ≡ number_of request
  one_pending link other kind its pending request same_link same_kind is too =
      let there : row_at its (history other log) ≡ shown.Pending pending
      = subst (λ k. row_at k (history other log) ≡ shown.Pending pending) same_kind (subst (λ l. row_at kind (history l log) ≡ shown.Pending pending) same_link is) in
      let both : shown.Pending pending ≡ shown.Pending request = sym there ∙ too in
      let one : pending ≡ request = cc in
      ap number_of one

  one_value : (reading : Reading) (found : Code) (value other : ℕ) → Applies setting order log reading found value → Applies setting order log reading found other
      → value ≡ other
  one_value reading code.Address value other row too = row.0 ∙ sym too.0
  one_value reading code.Role value other row too = row.0 ∙ sym too.0
  one_value reading code.Number value other (link, place, is, brings, less) (link', place', is', brings', less') =
      one_count reading link link' value other place place' (one_link reading link link' is is') brings brings'
  one_value reading code.Logon value other row too = row.0 ∙ sym too.0
  one_value reading code.Waiting value other (link, request, kind, pending, is, asks, of, row, number)
      (link', request', kind', pending', is', asks', of', row', number') =
      sym number
      ∙ one_pending link link' kind kind' pending pending' (one_link reading link link' is is')
      (some_same kind kind' (kind_in request) of (ap kind_in (one_request reading request request' asks asks') ∙ of')) row row'
      ∙ number'
  one_value reading code.Nothing value other row too = row.0 ∙ sym too.0
  one_value reading found value other row row' = absurd row

  one_fault : (reading : Reading) (found one : Code) (value other : ℕ) → IsFirstFault setting order log reading found value
      → IsFirstFault setting order log reading one other → (found ≡ one) × (value ≡ other)
  one_fault (Bad at amount) found one value other first second = (first.0 ∙ sym second.0, first.1 ∙ sym second.1)
  one_fault (Says said) found one value other first second =
      first_same (Applies setting order log (Says said)) (one_value (Says said)) rows found one value other first second
  one_fault (Brings read) found one value other first second =
      first_same (Applies setting order log (Brings read)) (one_value (Brings read)) rows found one value other first second

  -- ---- a step and its fault

  -- The step of a line is judged: it stops by the first fault, or there is none.
  abbrev JudgedAs : (Code → ℕ → Type 0) → Step → Type 0
  JudgedAs First (stops found value) = First found value
  JudgedAs First (does happenings) = (found : Code) (value : ℕ) → First found value → ⊥
  JudgedAs First (receives its link place) =
      (texts : List (List ℕ)) → AreDownlinks its (journal_at order log) link texts
      → (slice_get texts (place - 1) ≡ None → First code.Number (length texts))
      × ((one : List ℕ) → slice_get texts (place - 1) ≡ Some one → (found : Code) (value : ℕ) → First found value → ⊥)

  module _ (reading : Reading) where
    abbrev Row : Code → ℕ → Type 0
    Row = Applies setting order log reading

    -- Behind a row that doesn't apply the others decide.
    behind_row : (first : Code) (others : List Code) → NoRow Row first → (step : Step) → JudgedAs (IsFirstOf Row others) step
        → JudgedAs (IsFirstOf Row (first ∷ others)) step
    behind_row first others none (stops found value) judged = inr (none, judged)
    behind_row first others none (does happenings) judged = λ found value is. elim is [
      | inl row ↦ none value row.1
      | inr rest ↦ judged found value rest.1
    ]
    behind_row first others none (receives its link place) judged = λ texts are. (
      λ past. inr (none, (judged texts are).0 past),
      λ one there found value is. elim is [
        | inl row ↦ none value row.1
        | inr rest ↦ (judged texts are).1 one there found value rest.1
      ],
    )

  -- ---- a line with an address

  -- The rows behind that of the address, and those behind the role.
  abbrev late_rows : List Code
  late_rows = code.Number ∷ code.Logon ∷ code.Waiting ∷ code.Nothing ∷ []

  abbrev rows_behind_address : List Code
  rows_behind_address = code.Role ∷ late_rows

  no_address : (reading : Reading) (address : List ℕ) (link : ℕ) → ((named_so : List ℕ) → HasAddress reading named_so → address ≡ named_so)
      → link_to setting address ≡ Some link → NoRow (Applies setting order log reading) code.Address
  no_address reading address link only is value (one, found, has, none) =
      none (subst (λ a. IsAmong a setting.addresses) (only found has) (listed 0 setting.addresses address link is))

  on_link_judged : (reading : Reading) (address : List ℕ) (step : ℕ → Step) → HasAddress reading address
      → ((other : List ℕ) → HasAddress reading other → address ≡ other)
      → ((link : ℕ) → link_to setting address ≡ Some link → JudgedAs (IsFirstOf (Applies setting order log reading) rows_behind_address) (step link))
      → JudgedAs (IsFirstOf (Applies setting order log reading) rows) (on_link setting address step)
  on_link_judged reading address step has only behind = at (link_to setting address) refl
    where
      at : (found : Option ℕ) → link_to setting address ≡ found
          → JudgedAs (IsFirstOf (Applies setting order log reading) rows) (elim found [ None ↦ stops code.Address 1 | Some link ↦ step link ])
      at None none = inl (refl, (refl, address, has, unlisted 0 setting.addresses address none))
      at (Some link) is = behind_row reading code.Address rows_behind_address (no_address reading address link only is) (step link) (behind link is)

  as_centre_judged : (reading : Reading) (address : List ℕ) (step : ℕ → Step) → HasAddress reading address
      → ((other : List ℕ) → HasAddress reading other → address ≡ other)
      → ((link : ℕ) → link_to setting address ≡ Some link → IsOfCentre setting reading link)
      → ((link : ℕ) → IsTakenText setting reading link → ⊥)
      → ((link : ℕ) → link_to setting address ≡ Some link → JudgedAs (IsFirstOf (Applies setting order log reading) late_rows) (step link))
      → JudgedAs (IsFirstOf (Applies setting order log reading) rows) (as_centre setting log address step)
  as_centre_judged reading address step has only centre no_text behind =
      on_link_judged reading address (λ link. if is_raw link log then stops code.Role 0 else step link) has only
      (λ link is. at link is (is_raw link log) refl)
    where
      at : (link : ℕ) → link_to setting address ≡ Some link → (raw : Bool) → is_raw link log ≡ raw
          → JudgedAs (IsFirstOf (Applies setting order log reading) rows_behind_address) (if raw then stops code.Role 0 else step link)
      at link is true raw = inl (refl, (refl, link, inl (centre link is, raw)))
      at link is false raw = behind_row reading code.Role late_rows none (step link) (behind link is)
        where
          none : NoRow (Applies setting order log reading) code.Role
          none value (zero_value, other, inl (its, other_raw)) =
              true≢false (sym other_raw ∙ ap (λ l. is_raw l log) (one_link reading other link its (centre link is)) ∙ raw)
          none value (zero_value, other, inr (taken, other_centre)) = no_text other taken

  -- ---- the letters

  -- To a line that isn't a centre's none of the late rows applies.
  no_late : (reading : Reading) → ((link : ℕ) → IsOfCentre setting reading link → ⊥) → NoRows (Applies setting order log reading) late_rows
  no_late reading none =
      ((λ value row. none row.0 row.2), ((λ value row. none row.1 row.3), ((λ value row. none row.0 row.4), ((λ value row. none row.1 row.3), tt))))

  -- To a line that has no address and is no text none of the rows applies.
  no_rows : (reading : Reading) → ((address : List ℕ) → HasAddress reading address → ⊥) → ((link : ℕ) → IsOfCentre setting reading link → ⊥)
      → ((link : ℕ) → IsTakenText setting reading link → is_centre link log ≡ true → ⊥) → NoRows (Applies setting order log reading) rows
  no_rows reading no_address no_centre no_text = (
    λ value row. no_address row.1 row.2,
    (
      λ value row. elim row.2 [
        | inl its ↦ no_centre row.1 its.0
        | inr taken ↦ no_text row.1 taken.0 taken.1
      ],
      no_late reading no_centre,
    ),
  )

  -- A text does something, unless a taken one has an address that is a centre's.
  text_does : (reading : Reading) (happenings : List Happening) → ((address : List ℕ) → HasAddress reading address → ⊥)
      → ((link : ℕ) → IsOfCentre setting reading link → ⊥) → ((link : ℕ) → IsTakenText setting reading link → is_centre link log ≡ true → ⊥)
      → JudgedAs (IsFirstOf (Applies setting order log reading) rows) (does happenings)
  text_does reading happenings no_address no_centre no_text found value first =
      none_first (Applies setting order log reading) rows (no_rows reading no_address no_centre no_text) found value first

  module _ (number : ℕ) where
    logon_judged : (address : List ℕ) → JudgedAs (IsFirstFault setting order log (Says (line.L address))) (flight_step setting log number (line.L address))
    logon_judged address =
        on_link_judged (Says (line.L address)) address (λ link. enters (Logon number link)) refl (λ other has. has)
        (λ link is found value first.
        none_first (Applies setting order log (Says (line.L address))) rows_behind_address (no_role, no_late (Says (line.L address)) (λ other its. its)) found value first)
      where
        no_role : NoRow (Applies setting order log (Says (line.L address))) code.Role
        no_role value (zero_value, link, inl (its, raw)) = its
        no_role value (zero_value, link, inr (taken, centre)) = taken

    -- ---- a centre's lines

    brought_judged : (address : List ℕ) (place : ℕ) → 1 ≤ place
        → JudgedAs (IsFirstFault setting order log (Says (line.B address place))) (flight_step setting log number (line.B address place))
    brought_judged address place some =
        as_centre_judged (Says (line.B address place)) address (λ link. bring_step (sent_messages link log) number link place) refl (λ other has. has)
        (λ link is. is) (λ link taken. taken) (λ link is. at link is (slice_get (sent_messages link log) (place - 1)) refl)
      where
        at : (link : ℕ) → link_to setting address ≡ Some link → (found : Option SentMessage) → slice_get (sent_messages link log) (place - 1) ≡ found
            → JudgedAs (IsFirstOf (Applies setting order log (Says (line.B address place))) late_rows) (bringing_step number link place (sent_messages link log) found)
        at link is None past =
            inl (refl, (link, place, is, (refl, refl), few_below (sent_messages link log) place some past))
        at link is (Some one) there =
            none_first (Applies setting order log (Says (line.B address place))) late_rows
            (no_number, ((λ other row. row.4), ((λ other row. row.5), ((λ other row. row.4), tt))))
          where
            no_number : NoRow (Applies setting order log (Says (line.B address place))) code.Number
            no_number count (other, at_place, its, (counted, same), less) =
                let same_link : other ≡ link = some_same other link (link_to setting address) its is in
                let inside : place - 1 < length (sent_messages link log) = slice_get_within (sent_messages link log) (place - 1) one there in
                let as_many : length (sent_messages link log) ≡ count = ap (λ l. length (sent_messages l log)) (sym same_link) ∙ counted in
                omega (arith, some, inside, as_many, same, less)

    received_judged : (address : List ℕ) (place : ℕ) → 1 ≤ place
        → JudgedAs (IsFirstFault setting order log (Says (line.R address place))) (flight_step setting log number (line.R address place))
    received_judged address place some =
        as_centre_judged (Says (line.R address place)) address (λ link. receives setting link place) refl (λ other has. has)
        (λ link is. is) (λ link taken. taken) (λ link is texts are. (
          λ past. inl (refl, (link, place, is, (texts, are, refl, refl), few_below texts place some past)),
          λ one there found value first.
              none_first (Applies setting order log (Says (line.R address place))) late_rows
              (no_number link is texts are one there, ((λ other row. row.4), ((λ other row. row.5), ((λ other row. row.4), tt)))) found value first,
        ))
      where
        no_number : (link : ℕ) → link_to setting address ≡ Some link → (texts : List (List ℕ)) → AreDownlinks setting (journal_at order log) link texts
            → (one : List ℕ) → slice_get texts (place - 1) ≡ Some one → NoRow (Applies setting order log (Says (line.R address place))) code.Number
        no_number link is texts are one there count (other, at_place, its, (others, are', counted, same), less) =
            let same_link : other ≡ link = some_same other link (link_to setting address) its is in
            let inside : place - 1 < length texts = slice_get_within texts (place - 1) one there in
            let same_texts : texts ≡ others = same_downlinks setting (journal_at order log) link texts others are
            (subst (λ l. AreDownlinks setting (journal_at order log) l others) same_link are') in
            let as_many : length texts ≡ count = ap (λ (ts : List (List ℕ)). length ts) same_texts ∙ counted in
            omega (arith, some, inside, as_many, same, less)

    -- ---- a cancel

    cancelled_judged : (address : List ℕ) (cancel : Cancel)
        → JudgedAs (IsFirstFault setting order log (Says (line.K address cancel))) (flight_step setting log number (line.K address cancel))
    cancelled_judged address cancel =
        as_centre_judged (Says (line.K address cancel)) address (λ link. cancel_step (history link log) number link cancel) refl (λ other has. has)
        (λ link is. is) (λ link taken. taken) (λ link is. at link is cancel)
      where
        at : (link : ℕ) → link_to setting address ≡ Some link → (cancel : Cancel)
            → JudgedAs (IsFirstOf (Applies setting order log (Says (line.K address cancel))) late_rows) (cancel_step (history link log) number link cancel)
        at link is EmergencyMode =
            none_first (Applies setting order log (Says (line.K address EmergencyMode))) late_rows
            ((λ other row. row.3), ((λ other row. row.4), ((λ other row. row.5), ((λ other row. row.4), tt))))
        at link is All =
            none_first (Applies setting order log (Says (line.K address All))) late_rows
            ((λ other row. row.3), ((λ other row. row.4), ((λ other row. row.5), ((λ other row. row.4), tt))))
        at link is (Of kind) = by (row_at kind (history link log)) refl
          where
            stops_so : (row : Shown) → row_at kind (history link log) ≡ row → (CanBeCancelled row → ⊥)
                → IsFirstOf (Applies setting order log (Says (line.K address (Of kind)))) late_rows code.Nothing 0
            stops_so row its none =
                inr (
                  (λ other row. row.3),
                  inr (
                    (λ other row. row.4),
                    inr (
                      (λ other row. row.5),
                      inl (refl, (refl, link, kind, is, refl, subst (λ r. CanBeCancelled r → ⊥) (sym its) none)),
                    ),
                  ),
                )

            goes_so : (row : Shown) → row_at kind (history link log) ≡ row → CanBeCancelled row → (found : Code) (value : ℕ)
                → IsFirstOf (Applies setting order log (Says (line.K address (Of kind)))) late_rows found value → ⊥
            goes_so row its can found value first =
                none_first (Applies setting order log (Says (line.K address (Of kind)))) late_rows
                ((λ other row. row.3), ((λ other row. row.4), ((λ other row. row.5), (no_nothing, tt)))) found value first
              where
                no_nothing : NoRow (Applies setting order log (Says (line.K address (Of kind)))) code.Nothing
                no_nothing other (zero_value, its_link, its_kind, of_link, same, cannot) =
                    let same_link : its_link ≡ link = some_same its_link link (link_to setting address) of_link is in
                    cannot (subst CanBeCancelled
                    (sym (ap (λ l. row_at its_kind (history l log)) same_link ∙ ap (λ k. row_at k (history link log)) (sym same) ∙ its)) can)

            by : (row : Shown) → row_at kind (history link log) ≡ row
                → JudgedAs (IsFirstOf (Applies setting order log (Says (line.K address (Of kind)))) late_rows) (cancelling_step number link (Of kind) (number_to_cancel row))
            by shown.Nothing its = stops_so shown.Nothing its (λ can. can)
            by (shown.Pending request) its = goes_so (shown.Pending request) its tt
            by (shown.Confirmed request) its = goes_so (shown.Confirmed request) its tt
            by (shown.Partial request) its = goes_so (shown.Partial request) its tt
            by (shown.Refused request reason) its = stops_so (shown.Refused request reason) its (λ can. can)
            by (shown.Cancelling request) its = stops_so (shown.Cancelling request) its (λ can. can)

    -- ---- an ask

    asked_judged : (address : List ℕ) (request : Message)
        → JudgedAs (IsFirstFault setting order log (Says (line.C address request))) (flight_step setting log number (line.C address request))
    asked_judged address request =
        as_centre_judged (Says (line.C address request)) address (λ link. ask_step (history link log) number link request) refl (λ other has. has)
        (λ link is. is) (λ link taken. taken)
        (λ link is.
        subst (λ on. JudgedAs First (asking_step number link (answered link on (number_pending (row_if (kind_in request) (table_at (history link log)))))))
        (sym (logged_on_by_contact (history link log)))
        (heard link is (was_contacted (history link log)) refl))
      where
        First : Code → ℕ → Type 0
        First = IsFirstOf (Applies setting order log (Says (line.C address request))) late_rows

        answered : ℕ → Bool → Option ℕ → Result Message AskRefused
        answered link on pending =
            if on then unless_waiting pending (with_number (next_number_at (history link log)) request) else Err NotLoggedOn

        no_number : NoRow (Applies setting order log (Says (line.C address request))) code.Number
        no_number other row = row.3

        -- A row that is pending under this number.
        pending_row : (link : ℕ) → link_to setting address ≡ Some link → (kind : Kind) → kind_in request ≡ Some kind → (row : Shown)
            → row_in kind (table_at (history link log)) ≡ row → (n : ℕ) → number_pending row ≡ Some n
            → Applies setting order log (Says (line.C address request)) code.Waiting n
        pending_row link is kind of (shown.Pending pending) its n number =
            let same : number_of pending ≡ n = cc in
            (link, request, kind, pending, is, refl, of, sym (row_in_table kind (history link log)) ∙ its, same)
        pending_row link is kind of shown.Nothing its n number = absurd (none_some n None refl number)
        pending_row link is kind of (shown.Confirmed pending) its n number = absurd (none_some n None refl number)
        pending_row link is kind of (shown.Partial pending) its n number = absurd (none_some n None refl number)
        pending_row link is kind of (shown.Refused pending reason) its n number = absurd (none_some n None refl number)
        pending_row link is kind of (shown.Cancelling pending) its n number = absurd (none_some n None refl number)

        waiting_row : (link : ℕ) → link_to setting address ≡ Some link → (kind : Option Kind) → kind_in request ≡ kind → (n : ℕ)
            → number_pending (row_if kind (table_at (history link log))) ≡ Some n → Applies setting order log (Says (line.C address request)) code.Waiting n
        waiting_row link is None of n number = absurd (none_some n None refl number)
        waiting_row link is (Some kind) of n number = pending_row link is kind of (row_in kind (table_at (history link log))) refl n number

        no_waiting : (link : ℕ) → link_to setting address ≡ Some link → number_pending (row_if (kind_in request) (table_at (history link log))) ≡ None
            → NoRow (Applies setting order log (Says (line.C address request))) code.Waiting
        no_waiting link is none n (other, asked, kind, pending, of_link, same, of, row, number) =
            let same_link : other ≡ link = some_same other link (link_to setting address) of_link is in
            let here : row_at kind (history link log) ≡ shown.Pending pending = ap (λ l. row_at kind (history l log)) (sym same_link) ∙ row in
            let found : number_pending (row_if (kind_in request) (table_at (history link log))) ≡ Some (number_of pending)
            = ap (λ k. number_pending (row_if k (table_at (history link log)))) (ap kind_in same ∙ of)
            ∙ ap number_pending (row_in_table kind (history link log) ∙ here) in
            none_some (number_of pending) (number_pending (row_if (kind_in request) (table_at (history link log)))) none found

        waits : (link : ℕ) → link_to setting address ≡ Some link → was_contacted (history link log) ≡ true → (pending : Option ℕ)
            → number_pending (row_if (kind_in request) (table_at (history link log))) ≡ pending
            → JudgedAs First (asking_step number link (unless_waiting pending (with_number (next_number_at (history link log)) request)))
        waits link is on pending its = by pending its
          where
            no_logon : NoRow (Applies setting order log (Says (line.C address request))) code.Logon
            no_logon other (zero_value, its_link, asked, of_link, same, unheard) =
                let same_link : its_link ≡ link = some_same its_link link (link_to setting address) of_link is in
                true≢false (sym on ∙ ap (λ l. was_contacted (history l log)) (sym same_link) ∙ unheard)

            by : (pending : Option ℕ) → number_pending (row_if (kind_in request) (table_at (history link log))) ≡ pending
                → JudgedAs First (asking_step number link (unless_waiting pending (with_number (next_number_at (history link log)) request)))
            by (Some n) its = inr (no_number, inr (no_logon, inl (refl, waiting_row link is (kind_in request) refl n its)))
            by None its =
                none_first (Applies setting order log (Says (line.C address request))) late_rows
                (no_number, (no_logon, (no_waiting link is its, ((λ other row. row.4), tt))))

        heard : (link : ℕ) → link_to setting address ≡ Some link → (on : Bool) → was_contacted (history link log) ≡ on
            → JudgedAs First (asking_step number link (answered link on (number_pending (row_if (kind_in request) (table_at (history link log))))))
        heard link is false unheard = inr (no_number, inl (refl, (refl, link, request, is, refl, unheard)))
        heard link is true on = waits link is on (number_pending (row_if (kind_in request) (table_at (history link log)))) refl

    -- ---- texts

    -- What is taken on a link, where the line is a text that is taken on this link alone.
    takes_judged : (reading : Reading) (link : ℕ) (happenings : List Happening) → ((address : List ℕ) → HasAddress reading address → ⊥)
        → ((other : ℕ) → IsOfCentre setting reading other → ⊥) → IsTakenText setting reading link
        → ((other : ℕ) → IsTakenText setting reading other → other ≡ link)
        → JudgedAs (IsFirstOf (Applies setting order log reading) rows) (takes log link happenings)
    takes_judged reading link happenings no_address no_centre taken only = at (is_centre link log) refl
      where
        at : (centre : Bool) → is_centre link log ≡ centre
            → JudgedAs (IsFirstOf (Applies setting order log reading) rows) (if centre then stops code.Role 0 else does happenings)
        at true centre = inr ((λ value row. no_address row.1 row.2), inl (refl, (refl, link, inr (taken, centre))))
        at false centre =
            text_does reading happenings no_address no_centre
            (λ other its its_centre. true≢false (sym its_centre ∙ ap (λ l. is_centre l log) (only other its) ∙ centre))

    uplink_judged : (uplink : AdsUplink)
        → JudgedAs (IsFirstFault setting order log (Brings (text.Ads uplink))) (uplink_step setting log number uplink (link_to setting uplink.address))
    uplink_judged uplink = at (link_to setting uplink.address) refl
      where
        refused : (happenings : List Happening) → ((link : ℕ) → IsTakenText setting (Brings (text.Ads uplink)) link → ⊥)
            → JudgedAs (IsFirstFault setting order log (Brings (text.Ads uplink))) (does happenings)
        refused happenings none =
            text_does (Brings (text.Ads uplink)) happenings (λ address has. has) (λ link is. is) (λ link taken centre. none link taken)

        at : (found : Option ℕ) → link_to setting uplink.address ≡ found
            → JudgedAs (IsFirstFault setting order log (Brings (text.Ads uplink))) (uplink_step setting log number uplink found)
        at None none = refused (refusal_of number why.UnknownAddress ∷ []) (λ link taken. none_some link (link_to setting uplink.address) none taken.0)
        at (Some link) is = by (same_text uplink.registration setting.registration) refl
          where
            by : (same : Bool) → same_text uplink.registration setting.registration ≡ same
                → JudgedAs (IsFirstFault setting order log (Brings (text.Ads uplink)))
                (if same then takes log link (payload_happenings number (Uplink number link uplink.octets) uplink.asked)
                else refuses number (why.OtherRegistration registration_place))
            by true same =
                takes_judged (Brings (text.Ads uplink)) link (payload_happenings number (Uplink number link uplink.octets) uplink.asked)
                (λ address has. has) (λ other its. its) (is, text_same uplink.registration setting.registration same)
                (λ other taken. some_same other link (link_to setting uplink.address) taken.0 is)
            by false other = refused (refusal_of number (why.OtherRegistration registration_place) ∷ []) (λ found taken. true≢false (sym (same_is uplink.registration setting.registration taken.1) ∙ other))

    notice_judged : (notice : AfnUplink)
        → JudgedAs (IsFirstFault setting order log (Brings (text.Afn notice))) (notice_step setting log number notice (link_to setting notice.address))
    notice_judged notice = at (link_to setting notice.address) refl
      where
        refused : (happenings : List Happening) → ((link : ℕ) → IsTakenText setting (Brings (text.Afn notice)) link → ⊥)
            → JudgedAs (IsFirstFault setting order log (Brings (text.Afn notice))) (does happenings)
        refused happenings none =
            text_does (Brings (text.Afn notice)) happenings (λ address has. has) (λ link is. is) (λ link taken centre. none link taken)

        answer_same : (one other : LogonAnswer) → notice.answer ≡ Ok one → notice.answer ≡ Ok other → other ≡ one
        answer_same one other is too = let both : Ok one ≡ Ok other = sym is ∙ too in cc

        at : (found : Option ℕ) → link_to setting notice.address ≡ found
            → JudgedAs (IsFirstFault setting order log (Brings (text.Afn notice))) (notice_step setting log number notice found)
        at None none = refused (refusal_of number why.UnknownAddress ∷ []) (λ link taken. none_some link (link_to setting notice.address) none taken.1)
        at (Some link) is = by notice.answer refl
          where
            answered : (answer : LogonAnswer) → notice.answer ≡ Ok answer → (same : Bool) → same_text answer.registration setting.registration ≡ same
                → JudgedAs (IsFirstFault setting order log (Brings (text.Afn notice)))
                (if same then takes log link (Entered (Answer number link answer.code) ∷ [])
                else refuses number (why.OtherRegistration (flight_place + length answer.flight + 1)))
            answered answer ok true same =
                takes_judged (Brings (text.Afn notice)) link (Entered (Answer number link answer.code) ∷ [])
                (λ address has. has) (λ other its. its) (answer, is, ok, text_same answer.registration setting.registration same)
                (λ other taken. some_same other link (link_to setting notice.address) taken.1 is)
            answered answer ok false other =
                refused (refusal_of number (why.OtherRegistration (flight_place + length answer.flight + 1)) ∷ []) (λ found taken.
                true≢false (sym (same_is answer.registration setting.registration
                (ap (λ (a : LogonAnswer). a.registration) (sym (answer_same answer taken.0 ok taken.2)) ∙ taken.3)) ∙ other))

            by : (answer : Result LogonAnswer AfnRefusal) → notice.answer ≡ answer
                → JudgedAs (IsFirstFault setting order log (Brings (text.Afn notice))) (characters_step setting log number link answer)
            by (Ok answer) ok = answered answer ok (same_text answer.registration setting.registration) refl
            by (Err refusal) failed = refused (refusal_of number (why.Afn (characters_place + refusal.place)) ∷ []) (λ found taken. let both : Err refusal ≡ Ok taken.0 = sym failed ∙ taken.2 in absurd (cc))

    text_judged : (read : GroundText) → JudgedAs (IsFirstFault setting order log (Brings read)) (text_step setting log number read)
    text_judged (text.Refused fault) =
        text_does (Brings (text.Refused fault)) (refusal_of number (why.Envelope fault) ∷ []) (λ address has. has) (λ link is. is) (λ link taken centre. taken)
    text_judged (text.Ads uplink) = uplink_judged uplink
    text_judged (text.Afn notice) = notice_judged notice

    -- ---- lines

    -- A line of the flight to which none of the rows applies.
    flight_judged : (value : ScriptLine) (happenings : List Happening) → ((address : List ℕ) → HasAddress (Says value) address → ⊥)
        → ((link : ℕ) → IsOfCentre setting (Says value) link → ⊥) → ((link : ℕ) → IsTakenText setting (Says value) link → ⊥)
        → JudgedAs (IsFirstFault setting order log (Says value)) (does happenings)
    flight_judged value happenings no_address no_centre no_text =
        text_does (Says value) happenings no_address no_centre (λ link taken centre. no_text link taken)

    says_judged : (bytes : List ℕ) (value : ScriptLine) → 4 ≤ number → ReadsLine number bytes (Says value)
        → JudgedAs (IsFirstFault setting order log (Says value)) (flight_step setting log number value)
    says_judged bytes (line.S sample) behind reads =
        flight_judged (line.S sample) (Entered (Sample number sample) ∷ []) (λ address has. has) (λ link is. is) (λ link taken. taken)
    says_judged bytes (line.T moment) behind reads =
        flight_judged (line.T moment) (Entered (Tick number moment) ∷ []) (λ address has. has) (λ link is. is) (λ link taken. taken)
    says_judged bytes (line.E on) behind reads =
        flight_judged (line.E on) (Entered (Crew number on) ∷ []) (λ address has. has) (λ link is. is) (λ link taken. taken)
    says_judged bytes (line.L address) behind reads = logon_judged address
    says_judged bytes (line.C address request) behind reads = asked_judged address request
    says_judged bytes (line.K address cancel) behind reads = cancelled_judged address cancel
    says_judged bytes (line.B address place) behind reads = brought_judged address place reads.0.says.says.1.least
    says_judged bytes (line.R address place) behind reads = received_judged address place reads.0.says.says.1.least
    says_judged bytes (line.A who) behind reads = absurd (in_place_behind number bytes behind reads.0.placed (inl reads.0.says.letter))
    says_judged bytes (line.G addresses kept) behind reads = absurd (in_place_behind number bytes behind reads.0.placed (inr reads.0.says.letter))
    says_judged bytes (line.U from) behind reads = absurd reads.1

    line_judged : (bytes : List ℕ) (reading : Reading) → 4 ≤ number → ReadsLine number bytes reading
        → JudgedAs (IsFirstFault setting order log reading) (step_of (flying setting) log number reading)
    line_judged bytes (Bad found value) behind reads = (refl, refl)
    line_judged bytes (Says value) behind reads = says_judged bytes value behind reads
    line_judged bytes (Brings read) behind reads = text_judged read

-- ---- runs

-- A run that ends with a bad line from this line on ends with this one or a later one.
ends_later : (over : Bool) (order : List ℕ) (stage : Stage) (log : List Happening) (number : ℕ) (readings : List Reading) (run : Run) (bad : BadLine)
    → LinesRun over order stage log number readings run → run.end ≡ EndsBad bad → number ≤ bad.line
ends_later over order stage log number [] run bad runs ends = at over stage (sym (ap (λ (r : Run). r.end) runs) ∙ ends)
  where
    in_head : (one : BadLine) → EndsBad one ≡ EndsBad bad → one.line ≡ number → number ≤ bad.line
    in_head one same here = let is : one ≡ bad = cc in let line : one.line ≡ bad.line = ap (λ (b : BadLine). b.line) is in omega (arith, line, here)

    at : (over : Bool) (stage : Stage) → end_behind over stage number ≡ EndsBad bad → number ≤ bad.line
    at true stage same = absurd (cc)
    at false (flying setting) same = absurd (cc)
    at false begun same = in_head (record { line = number; code = code.Head; value = 0 }) same refl
    at false (named who) same = in_head (record { line = number; code = code.Head; value = 0 }) same refl
    at false (linked who addresses kept) same = in_head (record { line = number; code = code.Head; value = 0 }) same refl
ends_later over order stage log number (reading ∷ rest) run bad runs ends =
    at (step_of stage log number reading) runs
    (λ now behind. ends_later over order (stage_after stage reading) now (number + 1) rest run bad behind ends)
  where
    Behind : List Happening → Run → Type 0
    Behind now behind = LinesRun over order (stage_after stage reading) now (number + 1) rest behind

    here : (found : Code) (value : ℕ) → run.end ≡ EndsBad (record { line = number; code = found; value = value }) → number ≤ bad.line
    here found value is =
        let both : EndsBad (record { line = number; code = found; value = value }) ≡ EndsBad bad = sym is ∙ ends in
        let same : record { line = number; code = found; value = value } ≡ bad = cc in
        let line : number ≡ bad.line = ap (λ (b : BadLine). b.line) same in omega (arith, line)

    at : (step : Step) → StepRuns Behind order stage log number step run → ((now : List Happening) → Behind now run → number + 1 ≤ bad.line)
        → number ≤ bad.line
    at (does happenings) runs recur = let later = recur (happenings ++ log) runs in omega (arith, later)
    at (stops found value) runs recur = here found value (ap (λ (r : Run). r.end) runs)
    at (receives setting link place) runs recur = delivered (slice_get runs.0 (place - 1)) runs.2
      where
        delivered : (text : Option (List ℕ)) → DeliveryRuns Behind stage log number setting link place (length runs.0) text run → number ≤ bad.line
        delivered None stopped = here code.Number (length runs.0) (ap (λ (r : Run). r.end) stopped)
        delivered (Some text) heard = let later = recur (Heard number link place heard.0 ∷ log) heard.2 in omega (arith, later)

same_bad : (number : ℕ) (found one : Code) (value other : ℕ)
    → EndsBad (record { line = number; code = found; value = value }) ≡ EndsBad (record { line = number; code = one; value = other })
    → (found ≡ one) × (value ≡ other)
same_bad number found one value other both =
    let same : record { line = number; code = found; value = value } ≡ record { line = number; code = one; value = other } = cc in
    (ap (λ (b : BadLine). b.code) same, ap (λ (b : BadLine). b.value) same)

module _ (over : Bool) (setting : Setting) (order : List ℕ) (log : List Happening) (number : ℕ) (reading : Reading) (readings : List Reading)
    (run : Run) (found : Code) (value : ℕ) where
  abbrev Ends : Type 0
  Ends = run.end ≡ EndsBad (record { line = number; code = found; value = value })

  abbrev First : Code → ℕ → Type 0
  First = IsFirstFault setting order log reading

  Behind : List Happening → Run → Type 0
  Behind now behind = LinesRun over order (stage_after (flying setting) reading) now (number + 1) readings behind

  -- The run ends here, by this fault.
  ends_here : (one : Code) (other : ℕ) → run.end ≡ EndsBad (record { line = number; code = one; value = other }) → First one other → Ends ↔ First found value
  ends_here one other ends first = (
    λ is.
        let same = same_bad number one found other value (sym ends ∙ is) in
        subst (λ c. First c value) same.0 (subst (First one) same.1 first),
    λ its.
        let same = one_fault setting order log reading one found other value first its in
        ends ∙ ap (λ c. EndsBad (record { line = number; code = c; value = other })) same.0
        ∙ ap (λ v. EndsBad (record { line = number; code = found; value = v })) same.1,
  )

  -- The run goes on.
  goes_on : (now : List Happening) → Behind now run → (First found value → ⊥) → Ends ↔ First found value
  unfolding Behind
  goes_on now behind none = (
    λ is.
        let later = ends_later over order (stage_after (flying setting) reading) now (number + 1) readings run
        (record { line = number; code = found; value = value }) behind is in
        absurd (omega (arith, later)),
    λ its. absurd (none its),
  )

  judged_run : (step : Step) → JudgedAs setting order log First step → StepRuns Behind order (flying setting) log number step run → Ends ↔ First found value
  judged_run (stops one other) judged runs = ends_here one other (ap (λ (r : Run). r.end) runs) judged
  judged_run (does happenings) judged runs = goes_on (happenings ++ log) runs (judged found value)
  judged_run (receives its link place) judged runs = at (slice_get runs.0 (place - 1)) refl runs.2
    where
      at : (text : Option (List ℕ)) → slice_get runs.0 (place - 1) ≡ text
          → DeliveryRuns Behind (flying setting) log number its link place (length runs.0) text run → Ends ↔ First found value
      at None past stopped = ends_here code.Number (length runs.0) (ap (λ (r : Run). r.end) stopped) ((judged runs.0 runs.1).0 past)
      at (Some one) there heard =
          goes_on (Heard number link place heard.0 ∷ log) heard.2 ((judged runs.0 runs.1).1 one there found value)

pub first_fault_stops : FirstFaultStops
unfolding Behind
first_fault_stops over setting order log number bytes reading readings run found value behind reads runs =
    judged_run over setting order log number reading readings run found value (step_of (flying setting) log number reading)
    (line_judged setting order log number bytes reading behind reads) runs
