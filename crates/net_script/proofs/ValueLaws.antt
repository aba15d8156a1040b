-- A line says one thing.
use Rattle.std.proofs.Common.{◌≡◌, ◌^◌, ◌<◌, ◌==◌, ℕ, ℤ, pos, Bool, true, false, Option, Some, None, List, [], ◌∷◌, length, drop, get_or, refl, sym, ap, ap₂, ◌∙◌, subst, arith, inl, inr}
use Rattle.std.specs.Prelude.{codes, if◌then◌else◌}
use Rattle.std.specs.Int.{to_be_bytes, w32}
use Rattle.std.proofs.Props.{props}
use Rattle.std.proofs.lemmas.List.{same_lists, get_or_default, get_or_past}
use Rattle.acars_envelope.specs.Texts.{six_digits}
use Rattle.acars_envelope.proofs.CapitalDigits.{same_octets}
use Rattle.adsc_requests.specs.Contents.{contents_of}
use Rattle.adsc_requests.specs.Grammar.{EncodesUplink}
use Rattle.adsc_requests.specs.declared.kind.Kind.TheVariants.{Demand, Periodic, Event, Emergency}
use Rattle.adsc_requests.specs.declared.message.Message.{Message}
use Rattle.adsc_requests.specs.declared.message.Uplink.{Uplink}
use Rattle.adsc_requests.proofs.Injective.{same_contents}
use Rattle.adsc_requests.proofs.ReadingLaws.{one_reading}
use Rattle.due_event.specs.declared.profile.Profile.{Profile}
use Rattle.due_event.specs.declared.profile.Profile.TheVariants.{One, Two}
use Rattle.flight_samples.specs.SampleText.{AreSampleValues, column_count}
use Rattle.flight_samples.specs.Samples.{values_of}
use Rattle.flight_samples.specs.declared.sample.Sample.{Sample}
use Rattle.flight_samples.proofs.DecimalLemmas.{integer_text_same}
use Rattle.flight_samples.proofs.SameSamples.{same_sample}
use Rattle.net_script.specs.Fields.{field_at, fields_of}
use Rattle.net_script.specs.Addresses.{AddressList}
use Rattle.net_script.specs.Forms.{IsCancelText, IsNumberOf, IsProfileText, IsRequestText}
use Rattle.net_script.specs.Lines.{IsAddressed, IsScriptLine, Says, SaysProfile, letter_of}
use Rattle.net_script.specs.declared.limits.TheConstants.{MAX_TIME, MAX_PLACE}
use Rattle.net_script.specs.declared.line.Cancel.{Cancel}
use Rattle.net_script.specs.declared.line.Cancel.TheVariants.{Of, EmergencyMode, All}
use Rattle.net_script.specs.declared.line.ScriptLine.{ScriptLine}
use Rattle.net_script.specs.declared.line.ScriptLine.TheVariants as line
use Rattle.aircraft_core.specs.declared.who.Who.{Who}
use Rattle.net_script.proofs.CleanLaws.{three_octets}
use Rattle.net_script.proofs.GroundLaws.{reserved_same}
use Rattle.net_script.proofs.LineLaws.{letter_same, some_same}

-- ---- values by their texts

-- An address of 24 bits is told by its digits.
airframe_same : (a b : ℕ) → a < 2 ^ 24 → b < 2 ^ 24 → six_digits a ≡ six_digits b → a ≡ b
airframe_same a b small_a small_b same =
    let octets = same_octets (drop 1 (to_be_bytes w32 a)) (drop 1 (to_be_bytes w32 b)) (three_octets a) (three_octets b) same in
    omega (arith, ap (λ xs. get_or xs 0 0) octets, ap (λ xs. get_or xs 1 0) octets, ap (λ xs. get_or xs 2 0) octets)

-- A number is told by its text.
number_same : (low high m n : ℕ) (text : List ℕ) → IsNumberOf low high m text → IsNumberOf low high n text → m ≡ n
number_same low high m n text one other = sym one.written.value ∙ other.written.value

-- The values of a sample are told by their columns.
values_same : (columns : List (List ℕ)) (ys zs : List ℤ) → AreSampleValues columns ys → AreSampleValues columns zs → ys ≡ zs
values_same columns ys zs one other =
    same_lists ys zs (one.value_count ∙ sym other.value_count) (λ k d within.
    let place : k < column_count = omega (arith, one.value_count) in
    let inside : k < length zs = omega (arith, other.value_count) in
    get_or_default ys k d (pos 0) within
    ∙ integer_text_same _ _ (get_or columns k []) (one.each k place).written.written (other.each k place).written.written
    ∙ get_or_default zs k (pos 0) d inside)

-- A switch is told by its text.
switch_same : (a b : Bool) (text : List ℕ) → text ≡ (if a then codes "1" else codes "0") → text ≡ (if b then codes "1" else codes "0") → a ≡ b
switch_same true true text one other = refl
switch_same false false text one other = refl
switch_same true false text one other = absurd (omega (arith, ap (λ xs. get_or xs 0 0) (sym one ∙ other)))
switch_same false true text one other = absurd (omega (arith, ap (λ xs. get_or xs 0 0) (sym one ∙ other)))

-- A profile is told by its text.
profile_named : (a b : Profile) (text : List ℕ) → IsProfileText a text → IsProfileText b text → a ≡ b
profile_named One One text one other = refl
profile_named Two Two text one other = refl
profile_named One Two text one other = absurd (omega (arith, ap (λ xs. get_or xs 0 0) (sym one ∙ other)))
profile_named Two One text one other = absurd (omega (arith, ap (λ xs. get_or xs 0 0) (sym one ∙ other)))

-- No text of a profile is empty.
some_profile : (profile : Profile) (text : List ℕ) → IsProfileText profile text → length text ≡ 1
some_profile One text is = ap length is
some_profile Two text is = ap length is

-- A line of four fields has no text of a profile.
no_profile : (fields : List (List ℕ)) (profile : Profile) → length fields ≡ 4 → IsProfileText profile (field_at fields 4) → ⊥
no_profile fields profile four is =
    let none : field_at fields 4 ≡ [] = get_or_past fields 4 [] (omega arith) in
    absurd (omega (arith, some_profile profile (field_at fields 4) is, ap length none))

profile_same : (fields : List (List ℕ)) (a b : Profile) → SaysProfile fields a → SaysProfile fields b → a ≡ b
profile_same fields a b (inl one) (inl other) = one.1 ∙ sym other.1
profile_same fields a b (inl one) (inr is) = absurd (no_profile fields b one.0 is)
profile_same fields a b (inr is) (inl other) = absurd (no_profile fields a other.0 is)
profile_same fields a b (inr is) (inr was) = profile_named a b (field_at fields 4) is was

-- The cancel that a letter names.
cancel_named : ℕ → Option Cancel
cancel_named c =
    if c == 80 then Some (Of Periodic) else if c == 86 then Some (Of Event) else if c == 77 then Some (Of Emergency)
    else if c == 88 then Some EmergencyMode else if c == 65 then Some All else None

named : (cancel : Cancel) (text : List ℕ) → IsCancelText cancel text → cancel_named (get_or text 0 0) ≡ Some cancel
unfolding cancel_named
named (Of Demand) text is = absurd is
named (Of Periodic) text is = rw is refl
named (Of Event) text is = rw is refl
named (Of Emergency) text is = rw is refl
named EmergencyMode text is = rw is refl
named All text is = rw is refl

-- A cancel is told by its text.
cancel_same : (a b : Cancel) (text : List ℕ) → IsCancelText a text → IsCancelText b text → a ≡ b
cancel_same a b text one other = some_same a b (sym (named a text one) ∙ named b text other)

-- The one message of an uplink.
sole_same : (a b : Message) (xs : List Message) → xs ≡ a ∷ [] → xs ≡ b ∷ [] → a ≡ b
sole_same a b xs one other = cc

-- A request is told by its text.
request_same : (a b : Message) (text : List ℕ) → IsRequestText a text → IsRequestText b text → a ≡ b
request_same a b text one other =
    let octets = same_octets one.octets other.octets one.bytes other.bytes (sym one.digits ∙ other.digits) in
    let contents = one_reading other.octets (contents_of one.uplink) (contents_of other.uplink) (subst (EncodesUplink one.uplink) octets one.encoding) other.encoding in
    let uplink = same_contents one.uplink other.uplink contents in
    sole_same a b one.uplink.messages.items one.sole (ap (λ (u : Uplink). u.messages.items) uplink ∙ other.sole)

-- Lists with the same addresses are equal.
same_list : (a b : AddressList) → a.items ≡ b.items → a ≡ b
same_list a b same = ap (λ (items : List (List ℕ)). let made : AddressList = record { items = items } in made) same

-- ---- lines by their fields

address_same : (fields : List (List ℕ)) (a b : List ℕ) → IsAddressed fields a → IsAddressed fields b → a ≡ b
address_same fields a b one other = sym one.written ∙ other.written

-- The fields of a line of one letter say one thing.
abbrev SaysOne : ScriptLine → Type 0
SaysOne value = (other : ScriptLine) (fields : List (List ℕ)) → letter_of other ≡ letter_of value → Says value fields → Says other fields → value ≡ other

make_who : (registration flight : List ℕ) (airframe : ℕ) (profile : Profile) → airframe < 2 ^ 24 → Who
make_who registration flight airframe profile size =
    record { registration = registration; flight = flight; airframe = airframe; profile = profile; address_size = size }

-- Who an aircraft is, by its names and its profile.
same_who : (a b : Who) → a.registration ≡ b.registration → a.flight ≡ b.flight → a.airframe ≡ b.airframe → a.profile ≡ b.profile → a ≡ b
unfolding make_who
same_who a b registration flight airframe profile =
    subst (λ (x : List ℕ × List ℕ × ℕ × Profile). (size : x.2 < 2 ^ 24) → a ≡ make_who x.0 x.1 x.2 x.3 size)
    (λ i. (registration i, flight i, airframe i, profile i))
    (λ size. ap (make_who a.registration a.flight a.airframe a.profile) (one a.address_size size)) b.address_size
  where
    one : IsProp (a.airframe < 2 ^ 24)
    one = hlevel props

one_aircraft : (who : Who) → SaysOne (line.A who)
one_aircraft who (line.A other) fields same one two =
    ap (λ (w : Who). line.A w) (same_who who other (one.registration ∙ sym two.registration) (one.flight ∙ sym two.flight)
    (airframe_same who.airframe other.airframe who.address_size other.address_size (sym one.airframe ∙ two.airframe))
    (profile_same fields who.profile other.profile one.profile two.profile))
one_aircraft who other fields same one two = absurd (cc)

one_ground : (addresses : AddressList) (reserved : Option ℕ) → SaysOne (line.G addresses reserved)
one_ground addresses reserved (line.G others star) fields same one two =
    ap₂ (λ (l : AddressList) (r : Option ℕ). line.G l r) (same_list addresses others (sym one.listed ∙ two.listed)) (reserved_same fields reserved star one.star two.star)
one_ground addresses reserved other fields same one two = absurd (cc)

one_sample : (sample : Sample) → SaysOne (line.S sample)
one_sample sample (line.S other) fields same one two =
    ap (λ (s : Sample). line.S s) (same_sample sample other (values_same (drop 1 fields) (values_of sample) (values_of other) one two))
one_sample sample other fields same one two = absurd (cc)

one_time : (time : ℕ) → SaysOne (line.T time)
one_time time (line.T other) fields same one two = ap (λ (n : ℕ). line.T n) (number_same 0 MAX_TIME time other (field_at fields 1) one two)
one_time time other fields same one two = absurd (cc)

one_emergency : (on : Bool) → SaysOne (line.E on)
one_emergency on (line.E other) fields same one two = ap (λ (b : Bool). line.E b) (switch_same on other (field_at fields 1) one two)
one_emergency on other fields same one two = absurd (cc)

one_logon : (address : List ℕ) → SaysOne (line.L address)
one_logon address (line.L other) fields same one two = ap (λ (a : List ℕ). line.L a) (address_same fields address other one two)
one_logon address other fields same one two = absurd (cc)

one_uplink : (from : ℕ) → SaysOne (line.U from)
one_uplink from (line.U other) fields same one two = ap (λ (n : ℕ). line.U n) (one ∙ sym two)
one_uplink from other fields same one two = absurd (cc)

one_request : (address : List ℕ) (asked : Message) → SaysOne (line.C address asked)
one_request address asked (line.C other next) fields same one two =
    ap₂ (λ (a : List ℕ) (m : Message). line.C a m) (address_same fields address other one.0 two.0) (request_same asked next (field_at fields 2) one.1 two.1)
one_request address asked other fields same one two = absurd (cc)

one_cancel : (address : List ℕ) (cancel : Cancel) → SaysOne (line.K address cancel)
one_cancel address cancel (line.K other next) fields same one two =
    ap₂ (λ (a : List ℕ) (c : Cancel). line.K a c) (address_same fields address other one.0 two.0) (cancel_same cancel next (field_at fields 2) one.1 two.1)
one_cancel address cancel other fields same one two = absurd (cc)

one_bring : (address : List ℕ) (place : ℕ) → SaysOne (line.B address place)
one_bring address place (line.B other next) fields same one two =
    ap₂ (λ (a : List ℕ) (n : ℕ). line.B a n) (address_same fields address other one.0 two.0) (number_same 1 MAX_PLACE place next (field_at fields 2) one.1 two.1)
one_bring address place other fields same one two = absurd (cc)

one_receive : (address : List ℕ) (place : ℕ) → SaysOne (line.R address place)
one_receive address place (line.R other next) fields same one two =
    ap₂ (λ (a : List ℕ) (n : ℕ). line.R a n) (address_same fields address other one.0 two.0) (number_same 1 MAX_PLACE place next (field_at fields 2) one.1 two.1)
one_receive address place other fields same one two = absurd (cc)

says_one : (value : ScriptLine) → SaysOne value
says_one (line.A who) other fields same one two = one_aircraft who other fields same one two
says_one (line.G addresses reserved) other fields same one two = one_ground addresses reserved other fields same one two
says_one (line.S sample) other fields same one two = one_sample sample other fields same one two
says_one (line.T time) other fields same one two = one_time time other fields same one two
says_one (line.E on) other fields same one two = one_emergency on other fields same one two
says_one (line.L address) other fields same one two = one_logon address other fields same one two
says_one (line.U from) other fields same one two = one_uplink from other fields same one two
says_one (line.C address asked) other fields same one two = one_request address asked other fields same one two
says_one (line.K address cancel) other fields same one two = one_cancel address cancel other fields same one two
says_one (line.B address place) other fields same one two = one_bring address place other fields same one two
says_one (line.R address place) other fields same one two = one_receive address place other fields same one two

-- A line says one thing.
pub one_value : (bytes : List ℕ) (a b : ScriptLine) → IsScriptLine a bytes → IsScriptLine b bytes → a ≡ b
one_value bytes a b one other =
    says_one a b (fields_of bytes) (letter_same bytes (letter_of b) (letter_of a) other.letter one.letter) one.says other.says
