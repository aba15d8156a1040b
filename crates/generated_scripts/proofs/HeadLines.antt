-- The head of a generated script is read as what it says.
use Rattle.std.proofs.Common.{◌≡◌, ℕ, zero, suc, ◌+◌, ◌<◌, pos, List, [], ◌∷◌, ◌++◌, None, Some, codes, length, drop, get_or, flat_map, replicate, inl, refl, sym, ◌∙◌, ap, subst, arith, length-append}
use Rattle.std.specs.Int.{to_be_bytes, w32}
use Rattle.std.proofs.lemmas.Fmt.{decimal_digit}
use Rattle.std.proofs.lemmas.Int.{ints}
use Rattle.std.proofs.lemmas.List.Sums.{AllPass-from_list_all}
use Rattle.hex.specs.Hex.{encode_upper, encode_with}
use Rattle.acars_envelope.specs.Names.{is_mark_character, is_name_character, with_dots}
use Rattle.aircraft_core.specs.declared.who.Who.{Who}
use Rattle.adsc_io.specs.Lines.{IsUnbroken}
use Rattle.due_event.specs.declared.profile.Profile.TheVariants.{One}
use Rattle.net_script.specs.Addresses.{AreDifferent, NoStarBefore}
use Rattle.net_script.specs.Fields.{field_at, fields_of}
use Rattle.net_script.specs.Forms.{AreRightBefore}
use Rattle.net_script.specs.Letters.{HasLetter}
use Rattle.net_script.specs.Lines.{IsScriptLine, SaysAddresses, SaysWho}
use Rattle.net_script.specs.declared.letter.Letter.{Letter}
use Rattle.net_script.specs.declared.letter.Letter.TheVariants as letter
use Rattle.net_script.specs.declared.line.ScriptLine.TheVariants as line
use Rattle.net_script.specs.declared.refusal.Code.{Code}
use Rattle.net_script.specs.declared.refusal.Code.TheVariants as code
use Rattle.run_rules.specs.Places.{IsMisplacedBy}
use Rattle.run_rules.specs.Readings.{ReadsLine}
use Rattle.run_rules.specs.declared.reading.Reading.TheVariants.{Says}
use Rattle.generated_scripts.specs.Heads.{zero_sample}
use Rattle.generated_scripts.specs.Limits.{IsSampleWithin}
use Rattle.generated_scripts.specs.Texts.{column_field, line_text, made_address, made_addresses, made_mark}
use Rattle.generated_scripts.specs.declared.line.MadeLine.TheVariants.{Sample}
use Rattle.generated_scripts.proofs.ReadLines.{sample_of, sample_says}
use Rattle.generated_scripts.proofs.ReadUplinks.{address_is}
use Rattle.generated_scripts.proofs.TextBytes.{unbroken_by}

-- ---- places

placed_by : (bytes : List ℕ) (letter : Letter) → HasLetter bytes letter → (found : Code) → IsMisplacedBy (Some letter) bytes found → ⊥
placed_by bytes letter has code.Head misplaced = misplaced has
placed_by bytes letter has found misplaced = misplaced

-- ---- the aircraft

abbrev pub made_who : Who
made_who = record { registration = with_dots made_mark; flight = codes "ANZ1"; airframe = 0xC81234; profile = One; address_size = omega arith }

abbrev who_fields : List (List ℕ)
who_fields = codes "A" ∷ codes "N12345" ∷ codes "ANZ1" ∷ codes "C81234" ∷ []

four_octets : to_be_bytes w32 0xC81234 ≡ 0 ∷ 0xC8 ∷ 0x12 ∷ 0x34 ∷ []
four_octets = refl

digits_are : encode_upper (0xC8 ∷ 0x12 ∷ 0x34 ∷ []) ≡ codes "C81234"
unfolding encode_with
digits_are = refl

who_says : SaysWho who_fields made_who
who_says = record {
  is_mark = record { some = omega arith; few = omega arith; characters = AllPass-from_list_all is_mark_character made_mark refl };
  registration = refl;
  is_flight = record { some = omega arith; few = omega arith; characters = AllPass-from_list_all is_name_character (codes "ANZ1") refl };
  flight = refl;
  airframe = sym (ap (λ octets. encode_upper (drop 1 octets)) four_octets ∙ digits_are);
  profile = inl (refl, refl);
}

abbrev pub who_line : List ℕ
who_line = codes "A,N12345,ANZ1,C81234"

who_cut : fields_of who_line ≡ who_fields
unfolding fields_of
who_cut = refl

pub who_read : ReadsLine 1 who_line (Says (line.A made_who))
who_read = (record { fits = omega arith; placed = placed_by who_line letter.Aircraft is.letter; says = is }, tt)
  where
    is : IsScriptLine (line.A made_who) who_line
    is = record {
      letter = ap (λ fs. field_at fs 0) who_cut;
      count = (omega (arith, ap length who_cut), omega (arith, ap length who_cut));
      says = subst (λ fs. SaysWho fs made_who) (sym who_cut) who_says;
    }

-- ---- the ground addresses

abbrev ground_fields : List (List ℕ)
ground_fields = codes "G" ∷ made_addresses

abbrev pub ground_line : List ℕ
ground_line = codes "G,GRND001,GRND002,GRND003,GRND004,GRND005"

ground_cut : fields_of ground_line ≡ ground_fields
unfolding fields_of
ground_cut = refl

right_before : AreRightBefore letter.Ground ground_fields 6
right_before zero some below = absurd (omega (arith, some))
right_before (suc k) some below = inl (address_is k (omega (arith, below)))

no_star : NoStarBefore ground_fields 6
no_star zero some below starred = omega (arith, some)
no_star (suc k) some below starred =
    let seven = (address_is k (omega (arith, below))).size in
    omega (arith, seven, ap length starred.spelled, length-append starred.address (codes "*"), starred.is_address.size)

last_digit : (place : ℕ) → place < 5 → get_or (made_address place) 6 0 ≡ 49 + place
last_digit zero inside = refl
last_digit (suc zero) inside = refl
last_digit (suc (suc zero)) inside = refl
last_digit (suc (suc (suc zero))) inside = refl
last_digit (suc (suc (suc (suc zero)))) inside = refl
last_digit (suc (suc (suc (suc (suc place))))) inside = absurd (omega (arith, inside))

are_different : AreDifferent made_addresses
are_different place inside (earlier, before, same) =
    omega (arith, before, ap (λ address. get_or address 6 0) same, last_digit place inside, last_digit earlier (omega (arith, before, inside)))

ground_says : SaysAddresses ground_fields made_addresses None
ground_says = record { right = right_before; listed = refl; star = no_star; different = are_different }

pub ground_read : ReadsLine 2 ground_line (Says (line.G (record { items = made_addresses }) None))
ground_read = (record { fits = omega arith; placed = placed_by ground_line letter.Ground is.letter; says = is }, tt)
  where
    is : IsScriptLine (line.G (record { items = made_addresses }) None) ground_line
    is = record {
      letter = ap (λ fs. field_at fs 0) ground_cut;
      count = (omega (arith, ap length ground_cut), omega (arith, ap length ground_cut));
      says = subst (λ fs. SaysAddresses fs made_addresses None) (sym ground_cut) ground_says;
    }

-- ---- the first sample

pub zeros_within : IsSampleWithin zero_sample
zeros_within = record {
  lat = (omega (arith, ints), omega (arith, ints));
  lon = (omega (arith, ints), omega (arith, ints));
  alt = (omega (arith, ints), omega (arith, ints));
  xtk = (omega (arith, ints), omega (arith, ints));
  wlat = (omega (arith, ints), omega (arith, ints));
  vr = (omega (arith, ints), omega (arith, ints));
}

zero_fields : (count : ℕ) → flat_map column_field (replicate count (pos 0)) ≡ flat_map (λ z. codes ",0") (replicate count (pos 0))
zero_fields zero = refl
zero_fields (suc count) =
    ap (λ digits. 44 ∷ digits ++ flat_map column_field (replicate count (pos 0))) (decimal_digit 0 (omega arith))
    ∙ ap (λ rest. codes ",0" ++ rest) (zero_fields count)

abbrev pub sample_line : List ℕ
sample_line = codes "S,0,0,0,0,0,0,0,0,0,0,0,0,0,0,0,0,0,0,0,0,0,0,0,0,0,0"

pub sample_spelled : line_text (Sample zero_sample) ≡ sample_line
sample_spelled = ap (λ rest. codes "S" ++ rest) (zero_fields 26)

pub sample_read : ReadsLine 3 sample_line (Says (line.S (sample_of zero_sample zeros_within)))
sample_read = (record { fits = omega arith; placed = placed_by sample_line letter.Sample is.letter; says = is }, tt)
  where
    is : IsScriptLine (line.S (sample_of zero_sample zeros_within)) sample_line
    is = subst (IsScriptLine (line.S (sample_of zero_sample zeros_within))) sample_spelled (sample_says zero_sample zeros_within)

-- ---- bytes

pub head_unbroken : IsUnbroken who_line × IsUnbroken ground_line × IsUnbroken sample_line
head_unbroken = (unbroken_by who_line refl, unbroken_by ground_line refl, unbroken_by sample_line refl)
