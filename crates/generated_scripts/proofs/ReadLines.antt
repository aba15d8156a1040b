-- Each line that is made is read as what was drawn.
use Rattle.std.proofs.Common.{◌≡◌, ◌≢◌, ℕ, suc, ◌<◌, ◌≤◌, ◌^◌, pos, Bool, true, false, List, [], ◌∷◌, ◌++◌, All, codes, length, drop, flat_map, if◌then◌else◌, refl, sym, ◌∙◌, ap, subst, arith, length-append}
use Rattle.std.specs.Prelude.{decimal}
use Rattle.std.proofs.lemmas.Bool.{ne_eqb}
use Rattle.std.proofs.lemmas.Int.{ints}
use Rattle.std.proofs.lemmas.List.Elements.{All-append, All-cons, All-nil}
use Rattle.flight_samples.specs.Decimals.{IsNaturalText}
use Rattle.flight_samples.specs.SampleText.{AreSampleValues, IsSampleText, sample_text}
use Rattle.flight_samples.specs.Samples.{values_of}
use Rattle.flight_samples.specs.declared.sample.Sample.{Sample as FlightSample}
use Rattle.flight_samples.proofs.DecimalTexts.{one_natural_text}
use Rattle.flight_samples.proofs.SampleTexts.{one_text}
use Rattle.adsc_io.specs.Lines.{IsUnbroken}
use Rattle.net_script.specs.Fields.{comma, field_at, fields_of}
use Rattle.net_script.specs.Lines.{IsScriptLine}
use Rattle.net_script.specs.declared.letter.Letter.TheVariants as letter
use Rattle.net_script.specs.declared.line.ScriptLine.TheVariants as line
use Rattle.net_script.proofs.SampleLaws.{columns-are-fields}
use Rattle.run_rules.specs.Readings.{IsGoodLine, ReadsLine}
use Rattle.run_rules.specs.declared.reading.Reading.{Reading}
use Rattle.run_rules.specs.declared.reading.Reading.TheVariants.{Says}
use Rattle.generated_scripts.specs.Laws.{IsReadAs}
use Rattle.generated_scripts.specs.Limits.{IsSampleWithin}
use Rattle.generated_scripts.specs.Texts.{column_field, line_text, sample_columns}
use Rattle.generated_scripts.specs.declared.line.MadeLine.{MadeLine}
use Rattle.generated_scripts.specs.declared.line.MadeLine.TheVariants.{Sample, Time, Crew}
use Rattle.generated_scripts.specs.declared.line.MadeSample.{MadeSample}
use Rattle.generated_scripts.proofs.LineFields.{NoComma, columns_joined, cut, in_place, whole}
use Rattle.generated_scripts.proofs.TextBytes.{columns_small, decimal_all, fields_short, fields_unbroken, moment_short, unbroken_by}

-- What is known of a line that is made: it is short and unbroken, and is read as what was drawn.
pub record IsReadLine (number : ℕ) (made : MadeLine) : Type 0 where
  pub short : length (line_text made) ≤ 320
  pub unbroken : IsUnbroken (line_text made)
  pub reading : Reading
  pub reads : ReadsLine number (line_text made) reading
  pub says : IsReadAs made reading

-- A letter has no comma.
pub letter_alone : (letter : ℕ) → letter ≢ comma → All NoComma (letter ∷ [])
letter_alone letter other = All-cons NoComma letter [] (ne_eqb letter comma other) (All-nil NoComma)

digit_no_comma : (c : ℕ) → 48 ≤ c → c ≤ 57 → NoComma c
digit_no_comma c low high = ne_eqb c comma (λ e. omega (arith, low, e))

-- ---- times

pub time_read : (number moment : ℕ) → 4 ≤ number → moment ≤ 999999999 → IsReadLine number (Time moment)
time_read number moment behind few =
    record { short = omega (arith, short); unbroken = unbroken; reading = Says (line.T moment); reads = (good, tt); says = refl }
  where
    text : List ℕ
    text = line_text (Time moment)

    small : moment < 2 ^ 64
    small = omega (arith, few)

    short : length text ≤ 11
    short = omega (arith, moment_short moment few, length-append (codes "T,") (decimal moment))

    unbroken : IsUnbroken text
    unbroken =
        All-append (λ byte. byte ≢ 10) (codes "T,") (decimal moment) (unbroken_by (codes "T,") refl)
        (decimal_all (λ byte. byte ≢ 10) (λ c low high e. omega (arith, low, e)) moment small)

    fields : fields_of text ≡ codes "T" ∷ decimal moment ∷ []
    fields =
        cut (codes "T") (decimal moment) (letter_alone 84 (λ e. omega (arith, e)))
        ∙ ap (λ fs. codes "T" ∷ fs) (whole (decimal moment) (decimal_all NoComma digit_no_comma moment small))

    is : IsScriptLine (line.T moment) text
    is = record {
      letter = ap (λ fs. field_at fs 0) fields;
      count = ap length fields;
      says = record {
        written = subst (λ field. IsNaturalText moment field) (sym (ap (λ fs. field_at fs 1) fields)) ((one_natural_text moment (decimal moment) small).1 refl);
        least = omega arith;
        most = few;
      };
    }

    good : IsGoodLine number text (line.T moment)
    good = record { fits = omega (arith, short); placed = in_place number text letter.Time behind is.letter (λ e. cc) (λ e. cc); says = is }

-- ---- the crew's acts

crew_fields : (on : Bool) → fields_of (line_text (Crew on)) ≡ codes "E" ∷ (if on then codes "1" else codes "0") ∷ []
unfolding fields_of
crew_fields true = refl
crew_fields false = refl

crew_short : (on : Bool) → length (line_text (Crew on)) ≤ 3
crew_short true = omega arith
crew_short false = omega arith

crew_unbroken : (on : Bool) → IsUnbroken (line_text (Crew on))
crew_unbroken true = unbroken_by (codes "E,1") refl
crew_unbroken false = unbroken_by (codes "E,0") refl

pub crew_read : (number : ℕ) (on : Bool) → 4 ≤ number → IsReadLine number (Crew on)
crew_read number on behind =
    record { short = omega (arith, crew_short on); unbroken = crew_unbroken on; reading = Says (line.E on); reads = (good, tt); says = refl }
  where
    is : IsScriptLine (line.E on) (line_text (Crew on))
    is = record {
      letter = ap (λ fs. field_at fs 0) (crew_fields on);
      count = ap length (crew_fields on);
      says = ap (λ fs. field_at fs 1) (crew_fields on);
    }

    good : IsGoodLine number (line_text (Crew on)) (line.E on)
    good = record {
      fits = omega (arith, crew_short on);
      placed = in_place number (line_text (Crew on)) letter.Emergency behind is.letter (λ e. cc) (λ e. cc);
      says = is;
    }

-- ---- samples

-- The sample of these columns.
abbrev pub sample_of : (s : MadeSample) → IsSampleWithin s → FlightSample
sample_of s is = record {
  lat = s.lat;
  lon = s.lon;
  alt = s.alt;
  sec = pos 0;
  tcas = pos 0;
  acc = pos 0;
  red = pos 0;
  wlat = s.wlat;
  wlon = pos 0;
  walt = pos 0;
  eta = pos 0;
  nlat = pos 0;
  nlon = pos 0;
  nalt = pos 0;
  tinv = pos 0;
  track = pos 0;
  gs = pos 0;
  vr = s.vr;
  hinv = pos 0;
  heading = pos 0;
  mach = pos 0;
  wind = pos 0;
  winv = pos 0;
  wdir = pos 0;
  temp = pos 0;
  xtk = s.xtk;
  lat_range = is.lat;
  lon_range = is.lon;
  alt_range = is.alt;
  sec_range = (omega (arith, ints), omega (arith, ints));
  tcas_range = (omega (arith, ints), omega (arith, ints));
  acc_range = (omega (arith, ints), omega (arith, ints));
  red_range = (omega (arith, ints), omega (arith, ints));
  wlat_range = is.wlat;
  wlon_range = (omega (arith, ints), omega (arith, ints));
  walt_range = (omega (arith, ints), omega (arith, ints));
  eta_range = (omega (arith, ints), omega (arith, ints));
  nlat_range = (omega (arith, ints), omega (arith, ints));
  nlon_range = (omega (arith, ints), omega (arith, ints));
  nalt_range = (omega (arith, ints), omega (arith, ints));
  tinv_range = (omega (arith, ints), omega (arith, ints));
  track_range = (omega (arith, ints), omega (arith, ints));
  gs_range = (omega (arith, ints), omega (arith, ints));
  vr_range = is.vr;
  hinv_range = (omega (arith, ints), omega (arith, ints));
  heading_range = (omega (arith, ints), omega (arith, ints));
  mach_range = (omega (arith, ints), omega (arith, ints));
  wind_range = (omega (arith, ints), omega (arith, ints));
  winv_range = (omega (arith, ints), omega (arith, ints));
  wdir_range = (omega (arith, ints), omega (arith, ints));
  temp_range = (omega (arith, ints), omega (arith, ints));
  xtk_range = is.xtk;
}

-- An `S` line of columns that are a sample's says the sample.
pub sample_says : (s : MadeSample) (within : IsSampleWithin s) → IsScriptLine (line.S (sample_of s within)) (line_text (Sample s))
sample_says s within = record {
  letter = ap (λ fs. field_at fs 0) fields;
  count = ap length fields ∙ ap suc (ap length (sym (columns-are-fields text)) ∙ are.field_count);
  says = subst (λ fs. AreSampleValues fs (values_of sample)) (columns-are-fields text ∙ sym (ap (λ fs. drop 1 fs) fields)) are;
}
  where
    sample : FlightSample
    sample = sample_of s within

    text : List ℕ
    text = sample_text sample

    are : IsSampleText sample text
    are = (one_text sample text).1 refl

    spelled : line_text (Sample s) ≡ codes "S" ++ comma ∷ text
    spelled = ap (λ rest. codes "S" ++ rest) (columns_joined s.lat (drop 1 (sample_columns s)))

    fields : fields_of (line_text (Sample s)) ≡ codes "S" ∷ fields_of text
    fields = ap fields_of spelled ∙ cut (codes "S") text (letter_alone 83 (λ e. omega (arith, e)))

pub sample_short : (s : MadeSample) → IsSampleWithin s → length (line_text (Sample s)) ≤ 313
sample_short s within =
    let columns = fields_short (sample_columns s) (columns_small s within) in
    let count : length (sample_columns s) ≡ 26 = refl in
    omega (arith, columns, count, length-append (codes "S") (flat_map column_field (sample_columns s)))

pub sample_unbroken : (s : MadeSample) → IsSampleWithin s → IsUnbroken (line_text (Sample s))
sample_unbroken s within =
    All-append (λ byte. byte ≢ 10) (codes "S") (flat_map column_field (sample_columns s)) (unbroken_by (codes "S") refl)
    (fields_unbroken (sample_columns s) (columns_small s within))

pub sample_read : (number : ℕ) (s : MadeSample) → 4 ≤ number → IsSampleWithin s → IsReadLine number (Sample s)
sample_read number s behind within =
    record {
      short = omega (arith, sample_short s within);
      unbroken = sample_unbroken s within;
      reading = Says (line.S (sample_of s within));
      reads = (good, tt);
      says = refl;
    }
  where
    is : IsScriptLine (line.S (sample_of s within)) (line_text (Sample s))
    is = sample_says s within

    good : IsGoodLine number (line_text (Sample s)) (line.S (sample_of s within))
    good = record {
      fits = omega (arith, sample_short s within);
      placed = in_place number (line_text (Sample s)) letter.Sample behind is.letter (λ e. cc) (λ e. cc);
      says = is;
    }
