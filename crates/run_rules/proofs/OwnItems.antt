-- What an aircraft makes due has an encoding, which its writer writes: each value of a sample fits its field.
use Rattle.std.proofs.Common.{◌≡◌, ℕ, zero, suc, ◌+◌, ◌-◌, ◌^◌, ◌<◌, ◌≤◌, ℤ, pos, negsuc, Bool, true, false, List, [], ◌∷◌, ◌++◌, length, map, flat_map, replicate, refl, subst, arith}
use Rattle.std.specs.Prelude.{◌≤ℤ◌, nat_abs, nat_le, if◌then◌else◌}
use Rattle.std.specs.List.{AllByRecursion, list_all}
use Rattle.std.proofs.lemmas.Bool.{and_parts}
use Rattle.std.proofs.lemmas.Bool.Decides.{nat_tests}
use Rattle.std.proofs.lemmas.Int.{ints}
use Rattle.std.proofs.lemmas.List.{length-map}
use Rattle.std.proofs.lemmas.List.Sums.{list_all-from_AllPass}
use Rattle.bit_terms.specs.Signed.{FitsSigned}
use Rattle.acars_envelope.specs.Names.{IsFlight, is_name_character}
use Rattle.adsc_groups.specs.Basic.{basic_bits, basic_fields, basic_values}
use Rattle.adsc_groups.specs.Fields.{Field, FitFields}
use Rattle.adsc_groups.specs.Fields.Field.{number, padding, signed}
use Rattle.adsc_groups.specs.Groups.{FitsGroup, GroupData, group_bits, group_fields}
use Rattle.adsc_groups.specs.Tables.{airframe_fields, motion_fields, route_fields, weather_fields}
use Rattle.adsc_groups.proofs.FieldsLaws.{canonical_encodes}
use Rattle.adsc_downlink.specs.Encodings.{EncodesDownlink, EncodesEach, EncodesItem, EncodesTaggedGroup}
use Rattle.adsc_downlink.specs.Items.{downlink_bits, item_bits, report_bits, tagged_group_bits}
use Rattle.contract_rules.specs.Due.{Item, Acknowledgement, NegativeAcknowledgement, Noncompliance, EmergencyOff, Report}
use Rattle.contract_table.specs.Sending.{IsSendable}
use Rattle.flight_samples.specs.Columns.{IsIn, altitudes, angles, flags as flag_values, latitudes, longitudes, range, speeds, vertical_rates}
use Rattle.flight_samples.specs.declared.sample.Sample.{Sample}
use Rattle.aircraft_core.specs.Reports.{basic_data_of, flight_code, flight_codes, group_on, groups_from, item_on}
use Rattle.aircraft_core.specs.Setting.{Setting}

-- ---- values

latitude_fits : (z : ℤ) → IsIn latitudes z → FitsSigned 21 z
latitude_fits z is = let low : negsuc 524287 ≤ℤ z = is.0 in let high : z ≤ℤ pos 524288 = is.1 in (omega (arith, ints), omega (arith, ints))

longitude_fits : (z : ℤ) → IsIn longitudes z → FitsSigned 21 z
longitude_fits z is = let low : negsuc 1048575 ≤ℤ z = is.0 in let high : z ≤ℤ pos 1048575 = is.1 in (omega (arith, ints), omega (arith, ints))

altitude_fits : (z : ℤ) → IsIn altitudes z → FitsSigned 16 z
altitude_fits z is = let low : negsuc 32767 ≤ℤ z = is.0 in let high : z ≤ℤ pos 32767 = is.1 in (omega (arith, ints), omega (arith, ints))

rate_fits : (z : ℤ) → IsIn vertical_rates z → FitsSigned 12 z
rate_fits z is = let low : negsuc 2047 ≤ℤ z = is.0 in let high : z ≤ℤ pos 2047 = is.1 in (omega (arith, ints), omega (arith, ints))

size_below : (z : ℤ) (high : ℕ) → IsIn (range (pos 0) (pos high)) z → nat_abs z ≤ high
size_below (pos n) high is = let above : pos n ≤ℤ pos high = is.1 in omega (arith, ints)
size_below (negsuc n) high is = let below : pos 0 ≤ℤ negsuc n = is.0 in absurd (omega (arith, ints))

-- The values fit the fields.
record Fit (fields : List Field) (values : List ℤ) : Type 0 where
  fit : FitFields fields values

-- One field more.
number_next : (width n : ℕ) (fields : List Field) (others : List ℤ) → n < 2 ^ width → Fit fields others → Fit (number width ∷ fields) (pos n ∷ others)
number_next width n fields others fits rest = record { fit = (n, others, fits, refl, rest.fit) }

ranged_next : (width high : ℕ) (z : ℤ) (fields : List Field) (others : List ℤ) → high < 2 ^ width → IsIn (range (pos 0) (pos high)) z → Fit fields others
    → Fit (number width ∷ fields) (z ∷ others)
ranged_next width high (pos n) fields others fits is rest =
    let above : pos n ≤ℤ pos high = is.1 in record { fit = (n, others, omega (arith, ints), refl, rest.fit) }
ranged_next width high (negsuc n) fields others fits is rest = let below : pos 0 ≤ℤ negsuc n = is.0 in absurd (omega (arith, ints))

signed_next : (width : ℕ) (z : ℤ) (fields : List Field) (others : List ℤ) → FitsSigned width z → Fit fields others → Fit (signed width ∷ fields) (z ∷ others)
signed_next width z fields others fits rest = record { fit = (z, others, fits, refl, rest.fit) }

no_more : Fit [] []
no_more = record { fit = refl }

padding_next : (width : ℕ) (fields : List Field) (values : List ℤ) → Fit fields values → Fit (padding width ∷ fields) values
padding_next width fields values rest = record { fit = rest.fit }

basic_fit : (sample : Sample) → Fit basic_fields (basic_values (basic_data_of sample))
basic_fit s =
    signed_next 21 s.lat _ _ (latitude_fits s.lat s.lat_range)
    (signed_next 21 s.lon _ _ (longitude_fits s.lon s.lon_range)
    (signed_next 16 s.alt _ _ (altitude_fits s.alt s.alt_range)
    (number_next 15 (nat_abs s.sec) _ _ (omega (arith, size_below s.sec 28799 s.sec_range))
    (padding_next 2 _ _
    (number_next 1 (nat_abs s.tcas) _ _ (omega (arith, size_below s.tcas 1 s.tcas_range))
    (number_next 3 (nat_abs s.acc) _ _ (omega (arith, size_below s.acc 7 s.acc_range))
    (number_next 1 (nat_abs s.red) _ _ (omega (arith, size_below s.red 1 s.red_range)) no_more)))))))

-- ---- the flight's characters

sixes : ℕ → List Field
sixes zero = []
sixes (suc n) = number 6 ∷ sixes n

fit_sixes : (codes : List ℕ) → AllByRecursion (λ c. c < 2 ^ 6) codes → Fit (sixes (length codes)) (map pos codes)
unfolding sixes
fit_sixes [] all = no_more
fit_sixes (c ∷ codes) all = number_next 6 c (sixes (length codes)) (map pos codes) all.0 (fit_sixes codes all.1)

code_small : (c : ℕ) → is_name_character c ≡ true → flight_code c < 2 ^ 6
code_small c is = at (nat_le 65 c) refl
  where
    at : (b : Bool) → nat_le 65 c ≡ b → (if b then c - 64 else c) < 2 ^ 6
    at true letter = grind (arith, nat_tests, is, letter)
    at false digit = grind (arith, nat_tests, is, digit)

codes_small : (flight : List ℕ) → list_all is_name_character flight ≡ true → AllByRecursion (λ c. c < 2 ^ 6) (map flight_code flight)
codes_small [] all = tt
codes_small (c ∷ flight) all =
    let parts = and_parts (is_name_character c) (list_all is_name_character flight) all in (code_small c parts.0, codes_small flight parts.1)

spaces_small : (codes : List ℕ) (n : ℕ) → AllByRecursion (λ c. c < 2 ^ 6) codes → AllByRecursion (λ c. c < 2 ^ 6) (codes ++ replicate n 32)
spaces_small [] zero all = tt
spaces_small [] (suc n) all = (omega arith, spaces_small [] n tt)
spaces_small (c ∷ codes) n all = (all.0, spaces_small codes n all.1)

length-spaces : (codes : List ℕ) (n : ℕ) → length (codes ++ replicate n 32) ≡ length codes + n
length-spaces [] zero = refl
length-spaces [] (suc n) = omega (arith, length-spaces [] n)
length-spaces (c ∷ codes) n = omega (arith, length-spaces codes n)

flight_fits : (flight : List ℕ) → IsFlight flight → Fit (sixes 8) (map pos (flight_codes flight))
flight_fits flight is =
    let front = map flight_code flight in
    let few = is.few in
    let size : length (front ++ replicate (8 - length flight) 32) ≡ 8 =
    omega (arith, length-spaces front (8 - length flight), length-map flight flight_code, few) in
    subst (λ n. Fit (sixes n) (map pos (flight_codes flight))) size
    (fit_sixes (flight_codes flight) (spaces_small front (8 - length flight) (codes_small flight (list_all-from_AllPass is_name_character flight is.characters))))

-- ---- the groups

-- What an aircraft's setting fits.
pub record IsFit (setting : Setting) : Type 0 where
  pub flight : IsFlight setting.flight
  pub airframe : setting.airframe < 2 ^ 24

module _ (setting : Setting) (s : Sample) (fit : IsFit setting) where
  group_12 : FitsGroup (group_on setting s 12)
  unfolding sixes
  group_12 = (refl, (flight_fits setting.flight fit.flight).fit)

  route_fit : Fit route_fields (s.wlat ∷ s.wlon ∷ s.walt ∷ s.eta ∷ s.nlat ∷ s.nlon ∷ s.nalt ∷ [])
  route_fit =
      signed_next 21 s.wlat _ _ (latitude_fits s.wlat s.wlat_range)
      (signed_next 21 s.wlon _ _ (longitude_fits s.wlon s.wlon_range)
      (signed_next 16 s.walt _ _ (altitude_fits s.walt s.walt_range)
      (ranged_next 14 16383 s.eta _ _ (omega arith) s.eta_range
      (signed_next 21 s.nlat _ _ (latitude_fits s.nlat s.nlat_range)
      (signed_next 21 s.nlon _ _ (longitude_fits s.nlon s.nlon_range)
      (signed_next 16 s.nalt _ _ (altitude_fits s.nalt s.nalt_range) (padding_next 6 _ _ no_more)))))))

  motion_fit : (invalid angle speed : ℤ) → IsIn flag_values invalid → IsIn angles angle → IsIn speeds speed → Fit motion_fields (invalid ∷ angle ∷ speed ∷ s.vr ∷ [])
  motion_fit invalid angle speed one two three =
      ranged_next 1 1 invalid _ _ (omega arith) one
      (ranged_next 12 4095 angle _ _ (omega arith) two
      (ranged_next 13 8191 speed _ _ (omega arith) three
      (signed_next 12 s.vr _ _ (rate_fits s.vr s.vr_range) (padding_next 2 _ _ no_more))))

  weather_fit : Fit weather_fields (s.wind ∷ s.winv ∷ s.wdir ∷ s.temp ∷ [])
  weather_fit =
      ranged_next 9 511 s.wind _ _ (omega arith) s.wind_range
      (ranged_next 1 1 s.winv _ _ (omega arith) s.winv_range
      (ranged_next 9 511 s.wdir _ _ (omega arith) s.wdir_range
      (signed_next 12 s.temp _ _ (rate_fits s.temp s.temp_range) (padding_next 1 _ _ no_more))))

  airframe_fit : Fit airframe_fields (pos setting.airframe ∷ [])
  airframe_fit = number_next 24 setting.airframe _ _ fit.airframe no_more

  group_13 : FitsGroup (group_on setting s 13)
  group_13 = (refl, route_fit.fit)

  group_14 : FitsGroup (group_on setting s 14)
  group_14 = (refl, (motion_fit s.tinv s.track s.gs s.tinv_range s.track_range s.gs_range).fit)

  group_15 : FitsGroup (group_on setting s 15)
  group_15 = (refl, (motion_fit s.hinv s.heading s.mach s.hinv_range s.heading_range s.mach_range).fit)

  group_16 : FitsGroup (group_on setting s 16)
  group_16 = (refl, weather_fit.fit)

  group_17 : FitsGroup (group_on setting s 17)
  group_17 = (refl, airframe_fit.fit)

  next_fits : (flag : Bool) (tag : ℕ) (flags : List Bool) → FitsGroup (group_on setting s tag) → AllByRecursion FitsGroup (groups_from setting s (tag + 1) flags)
      → AllByRecursion FitsGroup (groups_from setting s tag (flag ∷ flags))
  next_fits true tag flags here rest = (here, rest)
  next_fits false tag flags here rest = rest

  groups_fit : (flags : List Bool) → length flags ≡ 6 → AllByRecursion FitsGroup (groups_from setting s 12 flags)
  groups_fit (a ∷ b ∷ c ∷ d ∷ e ∷ f ∷ []) six =
      next_fits a 12 (b ∷ c ∷ d ∷ e ∷ f ∷ []) group_12
      (next_fits b 13 (c ∷ d ∷ e ∷ f ∷ []) group_13
      (next_fits c 14 (d ∷ e ∷ f ∷ []) group_14
      (next_fits d 15 (e ∷ f ∷ []) group_15
      (next_fits e 16 (f ∷ []) group_16 (next_fits f 17 [] group_17 tt)))))
  groups_fit flags six = absurd (omega arith)

-- At most as many groups as flags.
few_groups : (setting : Setting) (sample : Sample) (tag : ℕ) (flags : List Bool) → length (groups_from setting sample tag flags) ≤ length flags
few_groups setting sample tag [] = omega arith
few_groups setting sample tag (true ∷ flags) = omega (arith, few_groups setting sample (tag + 1) flags)
few_groups setting sample tag (false ∷ flags) = omega (arith, few_groups setting sample (tag + 1) flags)

groups_encode : (groups : List GroupData) → AllByRecursion FitsGroup groups → EncodesEach EncodesTaggedGroup groups (flat_map tagged_group_bits groups)
unfolding tagged_group_bits group_bits
groups_encode [] fit = refl
groups_encode (group ∷ groups) fit = (
  tagged_group_bits group,
  flat_map tagged_group_bits groups,
  refl,
  record { body = group_bits group; stands = refl; encoded = (fit.0.0, canonical_encodes (group_fields group.tag) group.values fit.0.1) },
  groups_encode groups fit.1,
)

-- ---- items

-- The numbers and the place of an item are octets.
abbrev pub IsNumbered : Item → Type 0
IsNumbered (Acknowledgement n) = n < 256
IsNumbered (Noncompliance n) = n < 256
IsNumbered (EmergencyOff n) = n < 256
IsNumbered (NegativeAcknowledgement n reason octet) = (n < 256) × (octet < 256)
IsNumbered (Report tag flags) = Unit {0}

item_encodes : (setting : Setting) (sample : Sample) (item : Item) → IsFit setting → IsSendable item → IsNumbered item
    → EncodesItem (item_on setting sample item) (item_bits (item_on setting sample item))
unfolding item_bits report_bits basic_bits
item_encodes setting sample (Acknowledgement n) fit can numbered = (numbered, refl)
item_encodes setting sample (Noncompliance n) fit can numbered = (numbered, refl)
item_encodes setting sample (EmergencyOff n) fit can numbered = (numbered, refl)
item_encodes setting sample (NegativeAcknowledgement n reason octet) fit can numbered = (numbered.0, can.0, numbered.1, can.1, refl)
item_encodes setting sample (Report tag flags) fit can numbered =
    let groups = groups_from setting sample 12 flags in
    let six = can.1 in
    record {
      known = can.0;
      few = omega (arith, few_groups setting sample 12 flags, six);
      basic = basic_bits (basic_data_of sample);
      behind = flat_map tagged_group_bits groups;
      stands = refl;
      encodes_basic = canonical_encodes basic_fields (basic_values (basic_data_of sample)) (basic_fit sample).fit;
      encodes_groups = groups_encode groups (groups_fit setting sample fit flags six);
    }

each_encodes : (setting : Setting) (sample : Sample) (items : List Item) → IsFit setting → AllByRecursion IsSendable items → AllByRecursion IsNumbered items
    → EncodesEach EncodesItem (map (item_on setting sample) items) (downlink_bits (map (item_on setting sample) items))
unfolding downlink_bits
each_encodes setting sample [] fit can numbered = refl
each_encodes setting sample (item ∷ items) fit can numbered = (
  item_bits (item_on setting sample item),
  downlink_bits (map (item_on setting sample) items),
  refl,
  item_encodes setting sample item fit can.0 numbered.0,
  each_encodes setting sample items fit can.1 numbered.1,
)

-- One to eight items that can be sent are encoded by what is written of them.
pub items_encode : (setting : Setting) (sample : Sample) (items : List Item) → IsFit setting → 1 ≤ length items → length items ≤ 8
    → AllByRecursion IsSendable items → AllByRecursion IsNumbered items
    → EncodesDownlink (map (item_on setting sample) items) (downlink_bits (map (item_on setting sample) items))
items_encode setting sample items fit some few can numbered = record {
  some = omega (arith, length-map items (item_on setting sample), some);
  few = omega (arith, length-map items (item_on setting sample), few);
  encoded = each_encodes setting sample items fit can numbered;
}
