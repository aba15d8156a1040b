-- The texts of generated lines (this project's profile). The texts that `U` lines carry are those of ARINC 622.
use Rattle.std.specs.Prelude.{ℕ, ℤ, pos, List, [], ◌∷◌, ◌++◌, codes, decimal, flat_map, slice_index_or, if◌then◌else◌}
use Rattle.std.specs.Fmt.{signed_decimal}
use Rattle.acars_envelope.specs.Names.{with_dots}
use Rattle.acars_envelope.specs.Texts.{sealed_text}
use Rattle.acars_envelope.specs.declared.texts.Body.TheVariants.{Ads}
use Rattle.generated_scripts.specs.Payloads.{payload_octets}
use Rattle.generated_scripts.specs.declared.line.MadeLine.{MadeLine}
use Rattle.generated_scripts.specs.declared.line.MadeLine.TheVariants.{Sample, Time, Crew, Uplink}
use Rattle.generated_scripts.specs.declared.line.MadeSample.{MadeSample}

-- ---- the aircraft and its links

-- The aircraft's mark.
abbrev pub made_mark : List ℕ
made_mark = codes "N12345"

-- The ground addresses of its links.
abbrev pub made_addresses : List (List ℕ)
made_addresses = codes "GRND001" ∷ codes "GRND002" ∷ codes "GRND003" ∷ codes "GRND004" ∷ codes "GRND005" ∷ []

-- The address at this place of them, counted from 0.
abbrev pub made_address : ℕ → List ℕ
made_address place = slice_index_or made_addresses place []

-- ---- lines

-- The columns of a generated sample: all but six are 0.
abbrev pub sample_columns : MadeSample → List ℤ
sample_columns s =
    s.lat ∷ s.lon ∷ s.alt ∷ pos 0 ∷ pos 0 ∷ pos 0 ∷ pos 0
    ∷ s.wlat ∷ pos 0 ∷ pos 0 ∷ pos 0 ∷ pos 0 ∷ pos 0 ∷ pos 0
    ∷ pos 0 ∷ pos 0 ∷ pos 0 ∷ s.vr ∷ pos 0 ∷ pos 0 ∷ pos 0
    ∷ pos 0 ∷ pos 0 ∷ pos 0 ∷ pos 0 ∷ s.xtk ∷ []

-- A column in its line, a comma before it.
abbrev pub column_field : ℤ → List ℕ
column_field value = 44 ∷ signed_decimal value

-- The text of a generated line.
abbrev pub line_text : MadeLine → List ℕ
line_text (Sample sample) = codes "S" ++ flat_map column_field (sample_columns sample)
line_text (Time moment) = codes "T," ++ decimal moment
line_text (Crew on) = codes "E," ++ (if on then codes "1" else codes "0")
line_text (Uplink place payload) =
    codes "U," ++ sealed_text (made_address place) (Ads (with_dots made_mark) (record { items = payload_octets payload }))

-- The three lines of the head, the same in each generated script.
abbrev pub head_lines : List (List ℕ)
head_lines =
    codes "A,N12345,ANZ1,C81234" ∷ codes "G,GRND001,GRND002,GRND003,GRND004,GRND005"
    ∷ codes "S,0,0,0,0,0,0,0,0,0,0,0,0,0,0,0,0,0,0,0,0,0,0,0,0,0,0" ∷ []
