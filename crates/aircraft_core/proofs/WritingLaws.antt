-- Items written one behind the other.
use Rattle.std.proofs.Common.{◌≡◌, ℕ, ◌+◌, ◌<◌, ◌≤◌, Bool, List, [], ◌∷◌, ◌++◌, length, get_or, drop, append-nil, append_assoc, refl, ap, sym, ◌∙◌, subst, arith}
use Rattle.std.proofs.lemmas.List.{drop_more, drop_all}
use Rattle.adsc_downlink.specs.Items.{report_bits, item_bits, downlink_bits}
use Rattle.contract_rules.specs.Due.{Item, Report}
use Rattle.contract_table.specs.declared.due.Due.{Due}
use Rattle.contract_table.specs.Dues.{rules_item}
use Rattle.flight_samples.specs.declared.sample.Sample.{Sample}
use Rattle.aircraft_core.specs.Reports.{basic_data_of, groups_from, item_on}
use Rattle.aircraft_core.specs.Sending.{AreSendable, IsSendable, items_in, item_bits_on, most_bits, most_bits_of}
use Rattle.aircraft_core.specs.Setting.{Setting}

-- The bits of items are those of the front and those behind.
pub item_bits_on-append : (setting : Setting) (sample : Sample) (front back : List Item)
    → item_bits_on setting sample (front ++ back) ≡ item_bits_on setting sample front ++ item_bits_on setting sample back
unfolding downlink_bits
item_bits_on-append setting sample [] back = refl
item_bits_on-append setting sample (item ∷ front) back =
    let here = item_bits (item_on setting sample item) in
    ap (λ bits. here ++ bits) (item_bits_on-append setting sample front back)
    ∙ sym (append_assoc here (item_bits_on setting sample front) (item_bits_on setting sample back))

item_bits_on-cons : (setting : Setting) (sample : Sample) (item : Item) (items : List Item)
    → item_bits_on setting sample (item ∷ items) ≡ item_bits (item_on setting sample item) ++ item_bits_on setting sample items
unfolding downlink_bits
item_bits_on-cons setting sample item items = refl

pub no_bits : (setting : Setting) (sample : Sample) → item_bits_on setting sample [] ≡ []
unfolding downlink_bits
no_bits setting sample = refl

-- A report that is due, as an item.
pub report_is_item : (setting : Setting) (sample : Sample) (tag : ℕ) (flags : List Bool)
    → report_bits (record { tag = tag; basic = basic_data_of sample; groups = groups_from setting sample 12 flags }) ≡ item_bits (item_on setting sample (Report tag flags))
unfolding item_bits
report_is_item setting sample tag flags = refl

-- What is written of dues up to a place, with what is left of them: all bits, few enough, in whole octets; and what is left can be sent.
pub record IsWrittenTo (setting : Setting) (sample : Sample) (dues : List Due) (place : ℕ) (out now_out : List Bool) : Type 0 where
  pub whole : now_out ++ item_bits_on setting sample (items_in (drop place dues)) ≡ out ++ item_bits_on setting sample (items_in dues)
  pub few : length now_out + most_bits_of (items_in (drop place dues)) ≤ length out + most_bits_of (items_in dues)
  pub left : AreSendable (items_in (drop place dues))

pub written_none : (setting : Setting) (sample : Sample) (dues : List Due) (out : List Bool) → AreSendable (items_in dues) → IsWrittenTo setting sample dues 0 out out
written_none setting sample dues out sendable = record { whole = refl; few = omega arith; left = sendable }

module _ (setting : Setting) (sample : Sample) (dues : List Due) (place : ℕ) (default : Due) (out now_out : List Bool)
    (within : place < length dues) (before : IsWrittenTo setting sample dues place out now_out) where
  next : items_in (drop place dues) ≡ rules_item (get_or dues place default).item ∷ items_in (drop (place + 1) dues)
  next = ap items_in (drop_more dues place default within)

  -- The next due's item can be sent, and there is room for it.
  pub next_sendable : IsSendable (rules_item (get_or dues place default).item)
  next_sendable = (subst AreSendable next before.left).0

  next_few : length now_out + (most_bits (rules_item (get_or dues place default).item) + most_bits_of (items_in (drop (place + 1) dues))) ≤ length out + most_bits_of (items_in dues)
  next_few = omega (arith, before.few, ap most_bits_of next)

  pub next_fits : length out + most_bits_of (items_in dues) ≤ 2040 → length now_out + most_bits (rules_item (get_or dues place default).item) ≤ 2040
  next_fits room = omega (arith, next_few)

  pub written_more : (later_out : List Bool) → later_out ≡ now_out ++ item_bits (item_on setting sample (rules_item (get_or dues place default).item))
      → length later_out ≤ length now_out + most_bits (rules_item (get_or dues place default).item) → IsWrittenTo setting sample dues (place + 1) out later_out
  written_more later_out written small =
      let here = item_bits (item_on setting sample (rules_item (get_or dues place default).item)) in
      record {
        whole = ap (λ o. o ++ item_bits_on setting sample (items_in (drop (place + 1) dues))) written
            ∙ append_assoc now_out here (item_bits_on setting sample (items_in (drop (place + 1) dues)))
            ∙ ap (λ bits. now_out ++ bits) (sym (item_bits_on-cons setting sample (rules_item (get_or dues place default).item) (items_in (drop (place + 1) dues)))
            ∙ sym (ap (item_bits_on setting sample) next))
            ∙ before.whole;
        few = omega (arith, next_few, small);
        left = (subst AreSendable next before.left).1;
      }

-- At the end all is written.
pub all_written : (setting : Setting) (sample : Sample) (dues : List Due) (place : ℕ) (out now_out : List Bool) → length dues ≤ place
    → IsWrittenTo setting sample dues place out now_out
    → (now_out ≡ out ++ item_bits_on setting sample (items_in dues)) × (length now_out ≤ length out + most_bits_of (items_in dues))
all_written setting sample dues place out now_out end written =
    let none : items_in (drop place dues) ≡ [] = ap items_in (drop_all place dues end) in (
      sym (append-nil now_out) ∙ sym (ap (λ bits. now_out ++ bits) (ap (item_bits_on setting sample) none ∙ no_bits setting sample)) ∙ written.whole,
      omega (arith, written.few),
    )
