-- What an aircraft's texts say to their centre: a text of items says these items, and a contact's text is no downlink.
use Rattle.std.proofs.Common.{◌≡◌, ℕ, zero, suc, ◌^◌, ◌<◌, ◌≤◌, ℤ, pos, negsuc, List, [], ◌∷◌, length, map, codes, refl, subst, arith}
use Rattle.std.specs.Prelude.{◌≤ℤ◌, unsigned_abs, slice_index_or}
use Rattle.std.specs.List.{AllByRecursion}
use Rattle.std.proofs.lemmas.Int.{ints}
use Rattle.std.proofs.lemmas.List.Elements.{All-nil, All-cons}
use Rattle.std.proofs.lemmas.List.Sums.{AllPass-from_list_all}
use Rattle.acars_envelope.specs.Names.{IsAddress, is_letter}
use Rattle.adsc_downlink.specs.Items.{ItemData}
use Rattle.afn_logon.specs.Contents.{IsApplication, IsContact}
use Rattle.aircraft_core.specs.Downlinks.{contact_on, contact_text_on, text_of_items}
use Rattle.aircraft_core.specs.Reports.{item_on}
use Rattle.aircraft_core.specs.Setting.{Setting, address_of, configuration_of}
use Rattle.centre_core.specs.Hearing.{Greets, Says, Tells}
use Rattle.centre_core.proofs.HearingLaws.{one_hearing, own_contact_heard, own_is_heard}
use Rattle.contract_rules.specs.Acts.{Act}
use Rattle.contract_rules.specs.Due.{due_items}
use Rattle.contract_rules.specs.LiveLinks.{Noted}
use Rattle.contract_rules.specs.Verdicts.{past_of}
use Rattle.flight_samples.specs.Columns.{IsIn, latitudes, longitudes}
use Rattle.flight_samples.specs.declared.sample.Sample.{Sample}
use Rattle.run_rules.proofs.Deeds.{IsSettled}
use Rattle.run_rules.proofs.KnownActs.{AreKnown, IsKnown, due_few, due_numbered, due_sendable, items_short}
use Rattle.run_rules.proofs.OwnItems.{items_encode}

-- ---- the address of a link

all_at : (P : List ℕ → Type 0) (xs : List (List ℕ)) (i : ℕ) → i < length xs → AllByRecursion P xs → P (slice_index_or xs i [])
all_at P [] i inside all = absurd (omega (arith, inside))
all_at P (x ∷ xs) zero inside all = all.0
all_at P (x ∷ xs) (suc i) inside all = all_at P xs i (omega (arith, inside)) all.1

-- Each link of a settled aircraft has an address.
pub has_address : (setting : Setting) (link : ℕ) → IsSettled setting → link < length setting.addresses → IsAddress (address_of setting link)
has_address setting link settled inside = all_at IsAddress setting.addresses link inside settled.addresses

-- ---- a contact

size_of_latitude : (z : ℤ) → IsIn latitudes z → unsigned_abs z ≤ 524288
size_of_latitude (pos n) is = let high : pos n ≤ℤ pos 524288 = is.1 in omega (arith, ints)
size_of_latitude (negsuc n) is = let low : negsuc 524287 ≤ℤ negsuc n = is.0 in omega (arith, ints)

size_of_longitude : (z : ℤ) → IsIn longitudes z → unsigned_abs z ≤ 1048576
size_of_longitude (pos n) is = let high : pos n ≤ℤ pos 1048575 = is.1 in omega (arith, ints)
size_of_longitude (negsuc n) is = let low : negsuc 1048575 ≤ℤ negsuc n = is.0 in omega (arith, ints)

contact_is : (setting : Setting) (link : ℕ) (past : List Noted) (latest : Sample) → IsSettled setting → IsContact (contact_on setting link past latest)
contact_is setting link past latest settled = record {
  flight = settled.flight;
  registration = settled.registration;
  airframe = λ address is. let same : setting.airframe ≡ address = cc in subst (λ a. a < 2 ^ 24) same settled.airframe;
  clock = omega arith;
  position = record {
    lat = omega (arith, size_of_latitude latest.lat latest.lat_range);
    lon = omega (arith, size_of_longitude latest.lon latest.lon_range);
  };
  applications = record {
    some = omega arith;
    few = omega arith;
    each = All-cons (IsApplication 99) _ [] (record { three = refl; letters = AllPass-from_list_all is_letter (codes "ADS") refl; number = omega arith }) (All-nil (IsApplication 99));
  };
}

contact_says : (setting : Setting) (link : ℕ) (past : List Noted) (latest : Sample) → IsSettled setting → link < length setting.addresses
    → Says (address_of setting link) setting.registration (contact_text_on setting link past latest) (Greets (contact_on setting link past latest))
unfolding contact_text_on
contact_says setting link past latest settled inside =
    own_contact_heard (address_of setting link) (contact_on setting link past latest) (has_address setting link settled inside) (contact_is setting link past latest settled)

-- A contact's text tells no items.
pub contact_tells_nothing : (setting : Setting) (link : ℕ) (past : List Noted) (latest : Sample) (items : List ItemData) → IsSettled setting
    → link < length setting.addresses → Says (address_of setting link) setting.registration (contact_text_on setting link past latest) (Tells items) → ⊥
contact_tells_nothing setting link past latest items settled inside says =
    let same = one_hearing (address_of setting link) setting.registration (contact_text_on setting link past latest)
    (Greets (contact_on setting link past latest)) (Tells items) (contact_says setting link past latest settled inside) says in
    cc

-- ---- items

-- The text of what is due at an act tells this, and nothing else.
module _ (setting : Setting) (link : ℕ) (settled : IsSettled setting) (inside : link < length setting.addresses) (acts : List Act) (act : Act)
    (known : AreKnown link acts) (own : IsKnown link act) (sample : Sample) where
  due_says : 1 ≤ length (due_items (configuration_of setting) link (past_of (configuration_of setting) acts) act)
      → Says (address_of setting link) setting.registration
      (text_of_items setting link sample (due_items (configuration_of setting) link (past_of (configuration_of setting) acts) act))
      (Tells (map (item_on setting sample) (due_items (configuration_of setting) link (past_of (configuration_of setting) acts) act)))
  unfolding text_of_items
  due_says some =
      let items = due_items (configuration_of setting) link (past_of (configuration_of setting) acts) act in
      let few = due_few (configuration_of setting) link (past_of (configuration_of setting) acts) act in
      let can = due_sendable (configuration_of setting) link acts act known own in
      own_is_heard (address_of setting link) setting.registration (map (item_on setting sample) items) (has_address setting link settled inside) settled.registration
      (items_encode setting sample items (record { flight = settled.flight; airframe = settled.airframe }) some (omega (arith, few)) can
      (due_numbered (configuration_of setting) link acts act known own))
      (omega (arith, few, items_short setting sample items can))

  -- Whoever is told items by the text of what is due is told those.
  pub due_tells : (items : List ItemData) → 1 ≤ length (due_items (configuration_of setting) link (past_of (configuration_of setting) acts) act)
      → Says (address_of setting link) setting.registration
      (text_of_items setting link sample (due_items (configuration_of setting) link (past_of (configuration_of setting) acts) act)) (Tells items)
      → items ≡ map (item_on setting sample) (due_items (configuration_of setting) link (past_of (configuration_of setting) acts) act)
  due_tells items some says =
      let due = due_items (configuration_of setting) link (past_of (configuration_of setting) acts) act in
      let same = one_hearing (address_of setting link) setting.registration (text_of_items setting link sample due) (Tells items)
      (Tells (map (item_on setting sample) due)) says (due_says some) in
      cc
