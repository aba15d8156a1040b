-- Values that are seen alike are one: a type holds its data and proofs about it, of which there is one each.
use Rattle.std.proofs.Common.{◌≡◌, ℕ, ◌≤◌, List, [], ◌∷◌, length, map, IsTrue, refl, ap, ap₂, subst}
use Rattle.std.proofs.Props.{props}
use Rattle.arrayvec.specs.ArrayVec.{ArrayVec}
use Rattle.adsc_groups.specs.BasicView.{basic_data}
use Rattle.adsc_groups.specs.declared.basic.Basic.{Basic}
use Rattle.adsc_groups.proofs.SameValues.{same_basic, same_group}
use Rattle.adsc_downlink.specs.Codes.{is_report_tag, is_reason, is_place_of}
use Rattle.adsc_downlink.specs.Items.{ReportData, ItemData}
use Rattle.adsc_downlink.specs.ItemView.{report_group_data, report_data, item_data, items_data}
use Rattle.adsc_downlink.specs.declared.report.ReportGroup.{ReportGroup}
use Rattle.adsc_downlink.specs.declared.report.Report.{Report}
use Rattle.adsc_downlink.specs.declared.item.Nack.{Nack}
use Rattle.adsc_downlink.specs.declared.item.Item.{Item}
use Rattle.adsc_downlink.specs.declared.item.Item.TheVariants as item
use Rattle.adsc_downlink.specs.declared.items.Items.{Items}

-- Lists whose elements are seen alike are one, where elements are.
same_list : {A B : Type 0} (view : A → B) → ((x y : A) → view x ≡ view y → x ≡ y) → (xs ys : List A) → map view xs ≡ map view ys → xs ≡ ys
same_list view same [] [] e = refl
same_list view same [] (y ∷ ys) e = cc
same_list view same (x ∷ xs) [] e = cc
same_list {A} {B} view same (x ∷ xs) (y ∷ ys) e =
    ap₂ (λ (z : A) zs. z ∷ zs) (same x y (first (view x) (view y) (map view xs) (map view ys) e)) (same_list view same xs ys (others (view x) (view y) (map view xs) (map view ys) e))
  where
    first : (v w : B) (vs ws : List B) → v ∷ vs ≡ w ∷ ws → v ≡ w
    first v w vs ws e = cc

    others : (v w : B) (vs ws : List B) → v ∷ vs ≡ w ∷ ws → vs ≡ ws
    others v w vs ws e = cc

-- ---- a report

same_report_group : (a b : ReportGroup) → report_group_data a ≡ report_group_data b → a ≡ b
same_report_group a b same = λ i. record { 0 = same_group a.0 b.0 same i }

-- What is known of a report's tag and groups.
abbrev IsReport : ℕ × Basic × List ReportGroup → Type 0
IsReport x = IsTrue (is_report_tag x.0) × (length x.2 ≤ 8)

make_report : (x : ℕ × Basic × List ReportGroup) → IsReport x → Report
make_report x known = record { tag = x.0; basic = x.1; groups = record { items = x.2 }; tag_known = known.0; few = known.1 }

same_report : (a b : Report) → report_data a ≡ report_data b → a ≡ b
unfolding make_report
same_report a b same =
    subst (λ x. (known : IsReport x) → a ≡ make_report x known)
    (λ i. (
      (same i).tag,
      same_basic a.basic b.basic (ap (λ r. r.basic) same) i,
      same_list report_group_data same_report_group a.groups.items b.groups.items (ap (λ r. r.groups) same) i,
    ))
    (λ known. ap (make_report (a.tag, a.basic, a.groups.items)) (one (a.tag_known, a.few) known)) (b.tag_known, b.few)
  where
    one : IsProp (IsReport (a.tag, a.basic, a.groups.items))
    one = hlevel props

-- ---- an item

abbrev IsNack : ℕ × ℕ × ℕ → Type 0
IsNack x = IsTrue (is_reason x.1) × IsTrue (is_place_of x.1 x.2)

make_nack : (x : ℕ × ℕ × ℕ) → IsNack x → Nack
make_nack x known = record { n = x.0; reason = x.1; octet = x.2; reason_known = known.0; octet_due = known.1 }

same_nack : (a b : Nack) → a.n ≡ b.n → a.reason ≡ b.reason → a.octet ≡ b.octet → a ≡ b
unfolding make_nack
same_nack a b n reason octet =
    subst (λ x. (known : IsNack x) → a ≡ make_nack x known) (λ i. (n i, reason i, octet i))
    (λ known. ap (make_nack (a.n, a.reason, a.octet)) (one (a.reason_known, a.octet_due) known)) (b.reason_known, b.octet_due)
  where
    one : IsProp (IsNack (a.n, a.reason, a.octet))
    one = hlevel props

-- What an item's data holds, by its kind, and what stands in its place for another kind.
number_in : ItemData → ℕ
number_in (ItemData.ack n) = n
number_in (ItemData.nack n reason place) = n
number_in (ItemData.noncompliance n) = n
number_in (ItemData.emergency_off n) = n
number_in (ItemData.report one) = 0

reason_in : ItemData → ℕ
reason_in (ItemData.nack n reason place) = reason
reason_in other = 0

place_in : ItemData → ℕ
place_in (ItemData.nack n reason place) = place
place_in other = 0

report_in : ReportData → ItemData → ReportData
report_in none (ItemData.report one) = one
report_in none other = none

pub same_item : (a b : Item) → item_data a ≡ item_data b → a ≡ b
unfolding number_in reason_in place_in report_in
same_item (item.Ack n) (item.Ack m) same = ap (λ x. item.Ack x) (ap number_in same)
same_item (item.Nack k) (item.Nack l) same = ap (λ x. item.Nack x) (same_nack k l (ap number_in same) (ap reason_in same) (ap place_in same))
same_item (item.Noncompliance n) (item.Noncompliance m) same = ap (λ x. item.Noncompliance x) (ap number_in same)
same_item (item.EmergencyOff n) (item.EmergencyOff m) same = ap (λ x. item.EmergencyOff x) (ap number_in same)
same_item (item.Report r) (item.Report q) same = ap (λ x. item.Report x) (same_report r q (ap (report_in (report_data r)) same))
same_item (item.Ack n) (item.Nack l) same = cc
same_item (item.Ack n) (item.Noncompliance m) same = cc
same_item (item.Ack n) (item.EmergencyOff m) same = cc
same_item (item.Ack n) (item.Report q) same = cc
same_item (item.Nack k) (item.Ack m) same = cc
same_item (item.Nack k) (item.Noncompliance m) same = cc
same_item (item.Nack k) (item.EmergencyOff m) same = cc
same_item (item.Nack k) (item.Report q) same = cc
same_item (item.Noncompliance n) (item.Ack m) same = cc
same_item (item.Noncompliance n) (item.Nack l) same = cc
same_item (item.Noncompliance n) (item.EmergencyOff m) same = cc
same_item (item.Noncompliance n) (item.Report q) same = cc
same_item (item.EmergencyOff n) (item.Ack m) same = cc
same_item (item.EmergencyOff n) (item.Nack l) same = cc
same_item (item.EmergencyOff n) (item.Noncompliance m) same = cc
same_item (item.EmergencyOff n) (item.Report q) same = cc
same_item (item.Report r) (item.Ack m) same = cc
same_item (item.Report r) (item.Nack l) same = cc
same_item (item.Report r) (item.Noncompliance m) same = cc
same_item (item.Report r) (item.EmergencyOff m) same = cc

-- ---- the items of a downlink

abbrev AreItems : List Item → Type 0
AreItems xs = (1 ≤ length xs) × (length xs ≤ 8)

make_items : (xs : List Item) → AreItems xs → Items
make_items xs known = record { list = record { items = xs }; some = known.0; few = known.1 }

pub same_items : (a b : Items) → items_data a ≡ items_data b → a ≡ b
unfolding make_items
same_items a b same =
    subst (λ xs. (known : AreItems xs) → a ≡ make_items xs known) (same_list item_data same_item a.list.items b.list.items same)
    (λ known. ap (make_items a.list.items) (one (a.some, a.few) known)) (b.some, b.few)
  where
    one : IsProp (AreItems a.list.items)
    one = hlevel props
