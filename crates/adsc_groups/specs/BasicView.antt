-- What contracts see of the type of the basic data.
use Rattle.std.specs.Prelude.{ℤ, List}
use Rattle.adsc_groups.specs.Basic.{BasicData, basic_values}
use Rattle.adsc_groups.specs.declared.basic.Basic.{Basic}

-- The plain numbers of the basic data.
abbrev pub basic_data : Basic → BasicData
basic_data basic =
    record { lat = basic.lat; lon = basic.lon; alt = basic.alt; sec = basic.sec; tcas = basic.tcas; accuracy = basic.accuracy; redundancy = basic.redundancy }

-- The values of its fields, in the order of the table.
abbrev pub values_of : Basic → List ℤ
values_of basic = basic_values (basic_data basic)
