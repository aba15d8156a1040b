-- Reading groups and items one after the other: what each turn of a loop leaves.
use Rattle.std.proofs.Common.{◌≡◌, ℕ, zero, suc, ◌+◌, ◌-◌, ◌<◌, ◌≤◌, true, false, List, [], ◌∷◌, ◌++◌, ◌==◌, length, take, Some, None, Result, Ok, Err, refl, sym, ap, ◌∙◌, arith, append_assoc, append-nil, ⊎_elim, le-ltb, nat_lt, if◌then◌else◌}
use Rattle.std.proofs.lemmas.Bool.{cases_lt}
use Rattle.bit_terms.specs.Octets.{number_spelled}
use Rattle.bit_terms.specs.Reading.{Unread, after, taken, ◌>>=◌}
use Rattle.bit_terms.proofs.ReadingLaws.{ok_same, ok_is_no_err, taken_whole, taken_short}
use Rattle.adsc_groups.specs.Groups.{GroupData, is_group_tag}
use Rattle.adsc_downlink.specs.Items.{ItemData}
use Rattle.adsc_downlink.specs.Reading.{begins, tagged_group_at, groups_at, item_at, ninth_at, items_at, downlink_at}
use Rattle.adsc_downlink.specs.Refusals.{many_at}
use Rattle.adsc_downlink.specs.declared.refusal.DownRefusal.{DownRefusal}

-- What is read behind these values, with them in front.
abbrev pub with_front : {A F : Type 0} → List A → Result (List A × Unread) F → Result (List A × Unread) F
with_front front reading = reading >>= λ others. Ok (front ++ others.0, others.1)

abbrev pub with_items : {A F : Type 0} → List A → Result (List A) F → Result (List A) F
with_items front reading = reading >>= λ others. Ok (front ++ others)

-- The octet that stands next.
pub next_taken : (unread now : Unread) (value : ℕ) → taken 8 unread ≡ Ok (value, now)
    → (if nat_lt (length unread.left) 8 then None else Some (number_spelled (take 8 unread.left))) ≡ Some value
next_taken unread now value given = ⊎_elim short whole (cases_lt (length unread.left) 8)
  where
    short : length unread.left < 8 → (if nat_lt (length unread.left) 8 then None else Some (number_spelled (take 8 unread.left))) ≡ Some value
    short few = absurd (ok_is_no_err (value, now) unread.at (sym given ∙ taken_short 8 unread few))

    whole : 8 ≤ length unread.left → (if nat_lt (length unread.left) 8 then None else Some (number_spelled (take 8 unread.left))) ≡ Some value
    whole enough =
        let same = ok_same {F = ℕ} (number_spelled (take 8 unread.left), after 8 unread) (value, now) (sym (taken_whole 8 unread enough) ∙ given) in
        rw (le-ltb (length unread.left) 8 enough) (ap (λ p. Some p.0) same)

-- ---- groups

pub groups_end : (room : ℕ) (unread : Unread) → begins is_group_tag unread ≡ false → groups_at room unread ≡ Ok ([], unread)
unfolding groups_at
groups_end zero unread none = rw none refl
groups_end (suc room) unread none = rw none refl

pub groups_full : (unread : Unread) → begins is_group_tag unread ≡ true → groups_at 0 unread ≡ Err (many_at unread.at)
unfolding groups_at
groups_full unread more = rw more refl

pub groups_next : (room : ℕ) (unread : Unread) → begins is_group_tag unread ≡ true
    → groups_at (suc room) unread ≡ (tagged_group_at unread >>= λ group. with_front (group.0 ∷ []) (groups_at room group.1))
unfolding groups_at
groups_next room unread more = rw more refl

pub front_of_front : {A F : Type 0} (a b : List A) (reading : Result (List A × Unread) F) → with_front a (with_front b reading) ≡ with_front (a ++ b) reading
front_of_front a b (Ok x) = ap (λ xs. Ok (xs, x.1)) (sym (append_assoc a b x.0))
front_of_front a b (Err refusal) = refl

module _ (done : List GroupData) (count : ℕ) (whole : Result (List GroupData × Unread) DownRefusal) (unread : Unread)
    (left : whole ≡ with_front done (groups_at (8 - count) unread)) where
  pub groups_stop_full : count ≡ 8 → begins is_group_tag unread ≡ true → whole ≡ Err (many_at unread.at)
  groups_stop_full full more =
      let none : 8 - count ≡ 0 = omega arith in
      left ∙ ap (λ room. with_front done (groups_at room unread)) none ∙ ap (with_front done) (groups_full unread more)

  pub groups_stop_end : begins is_group_tag unread ≡ false → whole ≡ Ok (done, unread)
  groups_stop_end none = left ∙ ap (with_front done) (groups_end (8 - count) unread none) ∙ ap (λ xs. Ok (xs, unread)) (append-nil done)

  -- The next group is read, whatever comes of it.
  groups_turn : count < 8 → begins is_group_tag unread ≡ true
      → whole ≡ with_front done (tagged_group_at unread >>= λ group. with_front (group.0 ∷ []) (groups_at (8 - (count + 1)) group.1))
  groups_turn room more =
      let one_less : 8 - count ≡ suc (8 - (count + 1)) = omega arith in
      left ∙ ap (λ n. with_front done (groups_at n unread)) one_less ∙ ap (with_front done) (groups_next (8 - (count + 1)) unread more)

  pub groups_stop_refused : (refusal : DownRefusal) → count < 8 → begins is_group_tag unread ≡ true → tagged_group_at unread ≡ Err refusal → whole ≡ Err refusal
  groups_stop_refused refusal room more refused =
      groups_turn room more ∙ ap (λ reading. with_front done (reading >>= λ group. with_front (group.0 ∷ []) (groups_at (8 - (count + 1)) group.1))) refused

  pub groups_step : (group : GroupData) (now : Unread) → count < 8 → begins is_group_tag unread ≡ true → tagged_group_at unread ≡ Ok (group, now)
      → whole ≡ with_front (done ++ group ∷ []) (groups_at (8 - (count + 1)) now)
  groups_step group now room more read =
      groups_turn room more
      ∙ ap (λ reading. with_front done (reading >>= λ x. with_front (x.0 ∷ []) (groups_at (8 - (count + 1)) x.1))) read
      ∙ front_of_front done (group ∷ []) (groups_at (8 - (count + 1)) now)

-- ---- items

pub items_end : (room : ℕ) (unread : Unread) → (length unread.left == 0) ≡ true → items_at room unread ≡ Ok []
unfolding items_at
items_end zero unread none = rw none refl
items_end (suc room) unread none = rw none refl

pub items_full : (unread : Unread) → (length unread.left == 0) ≡ false → items_at 0 unread ≡ Err (ninth_at unread)
unfolding items_at
items_full unread more = rw more refl

pub items_next : (room : ℕ) (unread : Unread) → (length unread.left == 0) ≡ false
    → items_at (suc room) unread ≡ (item_at unread >>= λ item. with_items (item.0 ∷ []) (items_at room item.1))
unfolding items_at
items_next room unread more = rw more refl

pub items_of_items : {A F : Type 0} (a b : List A) (reading : Result (List A) F) → with_items a (with_items b reading) ≡ with_items (a ++ b) reading
items_of_items a b (Ok x) = ap (λ xs. Ok xs) (sym (append_assoc a b x))
items_of_items a b (Err refusal) = refl

-- The first item.
pub first_item : (unread now : Unread) (item : ItemData) → item_at unread ≡ Ok (item, now) → downlink_at unread ≡ with_items (item ∷ []) (items_at 7 now)
unfolding downlink_at
first_item unread now item read = rw read refl

pub first_refused : (unread : Unread) (refusal : DownRefusal) → item_at unread ≡ Err refusal → downlink_at unread ≡ Err refusal
unfolding downlink_at
first_refused unread refusal refused = rw refused refl

module _ (done : List ItemData) (count : ℕ) (whole : Result (List ItemData) DownRefusal) (unread : Unread)
    (left : whole ≡ with_items done (items_at (8 - count) unread)) where
  pub items_stop_full : count ≡ 8 → (length unread.left == 0) ≡ false → whole ≡ Err (ninth_at unread)
  items_stop_full full more =
      let none : 8 - count ≡ 0 = omega arith in
      left ∙ ap (λ room. with_items done (items_at room unread)) none ∙ ap (with_items done) (items_full unread more)

  pub items_stop_end : (length unread.left == 0) ≡ true → whole ≡ Ok done
  items_stop_end none = left ∙ ap (with_items done) (items_end (8 - count) unread none) ∙ ap (λ xs. Ok xs) (append-nil done)

  items_turn : count < 8 → (length unread.left == 0) ≡ false
      → whole ≡ with_items done (item_at unread >>= λ item. with_items (item.0 ∷ []) (items_at (8 - (count + 1)) item.1))
  items_turn room more =
      let one_less : 8 - count ≡ suc (8 - (count + 1)) = omega arith in
      left ∙ ap (λ n. with_items done (items_at n unread)) one_less ∙ ap (with_items done) (items_next (8 - (count + 1)) unread more)

  pub items_stop_refused : (refusal : DownRefusal) → count < 8 → (length unread.left == 0) ≡ false → item_at unread ≡ Err refusal → whole ≡ Err refusal
  items_stop_refused refusal room more refused =
      items_turn room more ∙ ap (λ reading. with_items done (reading >>= λ item. with_items (item.0 ∷ []) (items_at (8 - (count + 1)) item.1))) refused

  pub items_step : (item : ItemData) (now : Unread) → count < 8 → (length unread.left == 0) ≡ false → item_at unread ≡ Ok (item, now)
      → whole ≡ with_items (done ++ item ∷ []) (items_at (8 - (count + 1)) now)
  items_step item now room more read =
      items_turn room more
      ∙ ap (λ reading. with_items done (reading >>= λ x. with_items (x.0 ∷ []) (items_at (8 - (count + 1)) x.1))) read
      ∙ items_of_items done (item ∷ []) (items_at (8 - (count + 1)) now)
