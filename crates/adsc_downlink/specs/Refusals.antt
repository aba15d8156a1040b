-- Refusals by their causes and places, and a group's refusal as a downlink's (this project's profile).
use Rattle.std.specs.Prelude.{ℕ}
use Rattle.adsc_groups.specs.declared.refusal.GroupRefusal.{GroupRefusal}
use Rattle.adsc_groups.specs.declared.refusal.GroupWhy.{GroupWhy}
use Rattle.adsc_groups.specs.declared.refusal.GroupWhy.TheVariants as group_why
use Rattle.adsc_downlink.specs.declared.refusal.DownRefusal.{DownRefusal}
use Rattle.adsc_downlink.specs.declared.refusal.DownWhy.{DownWhy}
use Rattle.adsc_downlink.specs.declared.refusal.DownWhy.TheVariants as why

-- A refusal of this cause at this bit.
abbrev pub short_at : ℕ → DownRefusal
short_at bit = record { bit = bit; why = why.Short }

abbrev pub tag_at : ℕ → DownRefusal
tag_at bit = record { bit = bit; why = why.Tag }

abbrev pub value_at : ℕ → DownRefusal
value_at bit = record { bit = bit; why = why.Value }

abbrev pub many_at : ℕ → DownRefusal
many_at bit = record { bit = bit; why = why.Many }

-- A group's refusal is the downlink's, at the same bit.
abbrev pub as_why : GroupWhy → DownWhy
as_why group_why.Short = why.Short
as_why group_why.Tag = why.Tag

abbrev pub as_refusal : GroupRefusal → DownRefusal
as_refusal refusal = record { bit = refusal.bit; why = as_why refusal.why }
