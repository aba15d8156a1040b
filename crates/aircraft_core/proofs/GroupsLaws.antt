-- The groups of a report, written one behind the other.
use Rattle.std.proofs.Common.{◌≡◌, ℕ, ◌+◌, ◌%◌, ◌<◌, ◌≤◌, Bool, true, false, List, [], ◌∷◌, ◌++◌, length, get_or, drop, flat_map, ap, sym, ◌∙◌, append_assoc, append-nil, length-append, refl, arith}
use Rattle.std.proofs.lemmas.Grind.{flat_map-append}
use Rattle.std.proofs.lemmas.List.{drop_all, drop_more}
use Rattle.adsc_downlink.specs.Items.{tagged_group_bits}
use Rattle.adsc_downlink.proofs.Sizes.{length-tagged_group_bits}
use Rattle.adsc_groups.specs.Groups.{GroupData}
use Rattle.adsc_groups.specs.GroupView.{group_data, group_size}
use Rattle.adsc_groups.specs.declared.group.Group.{Group}
use Rattle.adsc_groups.specs.declared.group.Group.TheVariants as groups
use Rattle.flight_samples.specs.declared.sample.Sample.{Sample}
use Rattle.aircraft_core.specs.Reports.{groups_from}
use Rattle.aircraft_core.specs.Setting.{Setting}
use Rattle.aircraft_core.proofs.SizeLaws.{length-groups}

-- A group is whole octets.
pub whole_group : (group : Group) → group_size group % 8 ≡ 0
whole_group (groups.FlightId id) = refl
whole_group (groups.Route route) = refl
whole_group (groups.Earth motion) = refl
whole_group (groups.Air motion) = refl
whole_group (groups.Weather weather) = refl
whole_group (groups.Airframe airframe) = refl
whole_group (groups.Intermediate intermediate) = refl
whole_group (groups.Fixed fixed) = refl

-- Where there is room for a group with its tag, there is room for the group behind the tag.
pub group_fits : (group : Group) (seen : GroupData) (count : ℕ) → group_data group ≡ seen → count + length (tagged_group_bits seen) ≤ 2040
    → (count + 8) + group_size group ≤ 2040
group_fits group seen count same room = omega (arith, room, length-tagged_group_bits group, ap (λ d. length (tagged_group_bits d)) same)

-- The bits of the groups by rising tag, where these flags say for each tag from this one on whether it is due.
abbrev due_bits : Setting → Sample → ℕ → List Bool → List Bool
due_bits setting sample tag flags = flat_map tagged_group_bits (groups_from setting sample tag flags)

groups_from-cons : (setting : Setting) (sample : Sample) (tag : ℕ) (flag : Bool) (flags : List Bool)
    → groups_from setting sample tag (flag ∷ flags) ≡ groups_from setting sample tag (flag ∷ []) ++ groups_from setting sample (tag + 1) flags
groups_from-cons setting sample tag true flags = refl
groups_from-cons setting sample tag false flags = refl

module _ (setting : Setting) (sample : Sample) (flags : List Bool) (place : ℕ) (flag default : Bool)
    (within : place < length flags) (is : flag ≡ get_or flags place default) where
  abbrev behind : List Bool
  behind = due_bits setting sample (12 + (place + 1)) (drop (place + 1) flags)

  -- The bits from a place on are those of the group there, where it is due, and those behind.
  next : due_bits setting sample (12 + place) (drop place flags) ≡ due_bits setting sample (12 + place) (flag ∷ []) ++ behind
  next =
      let left : drop place flags ≡ flag ∷ drop (place + 1) flags = drop_more flags place default within ∙ ap (λ f. f ∷ drop (place + 1) flags) (sym is) in
      let tag : (12 + place) + 1 ≡ 12 + (place + 1) = omega arith in
      ap (due_bits setting sample (12 + place)) left
      ∙ ap (flat_map tagged_group_bits) (groups_from-cons setting sample (12 + place) flag (drop (place + 1) flags))
      ∙ flat_map-append tagged_group_bits (groups_from setting sample (12 + place) (flag ∷ [])) (groups_from setting sample ((12 + place) + 1) (drop (place + 1) flags))
      ∙ ap (λ t. due_bits setting sample (12 + place) (flag ∷ []) ++ due_bits setting sample t (drop (place + 1) flags)) tag

  -- The bits up to here, and those behind.
  pub group_more : (old new all : List Bool) → old ++ due_bits setting sample (12 + place) (drop place flags) ≡ all
      → new ≡ old ++ due_bits setting sample (12 + place) (flag ∷ [])
      → new ++ due_bits setting sample (12 + (place + 1)) (drop (place + 1) flags) ≡ all
  group_more old new all before added =
      ap (λ bits. bits ++ behind) added
      ∙ append_assoc old (due_bits setting sample (12 + place) (flag ∷ [])) behind
      ∙ ap (λ bits. old ++ bits) (sym next)
      ∙ before

  -- There is room for the group there.
  pub group_room : (out old : List Bool) → old ++ due_bits setting sample (12 + place) (drop place flags) ≡ out ++ due_bits setting sample 12 flags
      → length flags ≡ 6 → length out + 368 ≤ 2040 → length old + length (due_bits setting sample (12 + place) (flag ∷ [])) ≤ 2040
  group_room out old before six room =
      omega (
        arith,
        room,
        ap length before,
        ap length next,
        length-append old (due_bits setting sample (12 + place) (drop place flags)),
        length-append out (due_bits setting sample 12 flags),
        length-append (due_bits setting sample (12 + place) (flag ∷ [])) behind,
        length-groups setting sample flags six,
      )

-- At the end all is written.
pub groups_written : (setting : Setting) (sample : Sample) (flags : List Bool) (place : ℕ) (now_out all : List Bool) → length flags ≤ place
    → now_out ++ due_bits setting sample (12 + place) (drop place flags) ≡ all → now_out ≡ all
groups_written setting sample flags place now_out all end written =
    let none : due_bits setting sample (12 + place) (drop place flags) ≡ [] = ap (due_bits setting sample (12 + place)) (drop_all place flags end) in
    sym (append-nil now_out) ∙ ap (λ bits. now_out ++ bits) (sym none) ∙ written

-- And of no more bits than six groups have.
pub groups_small : (setting : Setting) (sample : Sample) (flags : List Bool) (out now_out : List Bool) → length flags ≡ 6
    → now_out ≡ out ++ due_bits setting sample 12 flags → length now_out ≤ length out + 368
groups_small setting sample flags out now_out six written =
    omega (arith, ap length written, length-append out (due_bits setting sample 12 flags), length-groups setting sample flags six)
