-- Dues by rising link, sent link by link.
use Rattle.std.proofs.Common.{◌≡◌, ◌≢◌, ℕ, zero, suc, ◌+◌, ◌<◌, ◌≤◌, Bool, true, false, cond, ◌==◌, List, [], ◌∷◌, ◌++◌, All, length, take, drop, get_or, set, ◌⊎◌, inl, inr, Some, append-nil, add-one, eq-eqb, refl, ap, sym, ◌∙◌, subst, arith}
use Rattle.std.specs.List.{AllByRecursion}
use Rattle.std.proofs.lemmas.Bool.{eqb-true, eqb-false, ne_eqb, cases_Bool}
use Rattle.std.proofs.lemmas.List.Elements.{All-nil}
use Rattle.std.specs.List.{slice_get}
use Rattle.std.proofs.lemmas.Option.{get_or_from_slice_get, slice_get_within}
use Rattle.std.proofs.lemmas.List.{get_or_read, get_or-set_same, get_or-set_other, length-set}
use Rattle.adsc_io.specs.Lines.{ended_lines, IsUnbroken}
use Rattle.contract_rules.specs.Due.{Item}
use Rattle.contract_table.specs.Dues.{items_on, rules_due, rules_item}
use Rattle.contract_table.specs.declared.due.Due.{Due}
use Rattle.flight_samples.specs.declared.sample.Sample.{Sample}
use Rattle.aircraft_core.specs.Downlinks.{texts_of_items}
use Rattle.aircraft_core.specs.Outboxes.{OutboxState, HasRoom, outbox_of}
use Rattle.aircraft_core.specs.Sending.{AreSendable, RisesFrom, count_at_front, items_in, items_of_link, most_bits_of, rules_dues}
use Rattle.aircraft_core.specs.Setting.{Setting}

-- ---- the dues of the first link

-- Of a link below all that are there nothing is due.
none_below : (link low : ℕ) (dues : List (ℕ × Item)) → RisesFrom low dues → link < low → items_on link dues ≡ []
none_below link low [] rising below = refl
none_below link low (due ∷ dues) rising below =
    (λ i. cond (ne_eqb link due.0 (λ same. omega (arith, same, rising.0, below)) i) (due.1 ∷ items_on link dues) (none_below link due.0 dues rising.1 (omega (arith, rising.0, below)) i))

-- What stands at the front of dues that rise from a link: all its items are in front, none is behind, and those of another link are behind.
record IsCut (link : ℕ) (dues own others : List Due) : Type 0 where
  here : items_in own ≡ items_of_link link dues
  none : items_of_link link others ≡ []
  elsewhere : (other : ℕ) → other ≢ link → items_of_link other others ≡ items_of_link other dues
  rises : RisesFrom link (rules_dues others)

cut_none : (link : ℕ) (dues : List Due) → items_of_link link dues ≡ [] → RisesFrom link (rules_dues dues) → IsCut link dues [] dues
cut_none link dues none rises = record { here = sym none; none = none; elsewhere = λ other apart. refl; rises = rises }

cut_front : (link : ℕ) (dues : List Due) → RisesFrom link (rules_dues dues)
    → IsCut link dues (take (count_at_front link dues) dues) (drop (count_at_front link dues) dues)
cut_front link [] rises = cut_none link [] refl tt
cut_front link (due ∷ dues) rises = by (link == due.link) refl (λ same. cut_front link dues (subst (λ l. RisesFrom l (rules_dues dues)) (sym same) rises.1))
  where
    by : (b : Bool) → (link == due.link) ≡ b → (link ≡ due.link → IsCut link dues (take (count_at_front link dues) dues) (drop (count_at_front link dues) dues))
        → IsCut link (due ∷ dues) (take (cond b (count_at_front link dues + 1) 0) (due ∷ dues)) (drop (cond b (count_at_front link dues + 1) 0) (due ∷ dues))
    by true e rest =
        let same : link ≡ due.link = eqb-true link due.link e in
        let cut = rest same in
        rw (add-one) (record {
          here = ap (λ items. rules_item due.item ∷ items) cut.here ∙ sym (ap (λ b. cond b (rules_item due.item ∷ items_of_link link dues) (items_of_link link dues)) e);
          none = cut.none;
          elsewhere = λ other apart. cut.elsewhere other apart
              ∙ sym (ap (λ b. cond b (rules_item due.item ∷ items_of_link other dues) (items_of_link other dues)) (ne_eqb other due.link (λ equal. apart (equal ∙ sym same))));
          rises = cut.rises;
        })
    by false e rest =
        let apart : link ≢ due.link = eqb-false link due.link e in
        cut_none link (due ∷ dues)
        (none_below link due.link (rules_due due ∷ rules_dues dues) (omega arith, rises.1) (omega (arith, apart, rises.0)))
        rises

within_drop : (links count : ℕ) (dues : List Due) → AllByRecursion (λ due. due.0 < links) (rules_dues dues) → AllByRecursion (λ due. due.0 < links) (rules_dues (drop count dues))
within_drop links zero dues within = within
within_drop links (suc count) [] within = tt
within_drop links (suc count) (due ∷ dues) within = within_drop links count dues within.1

-- ---- what is left to send

-- These dues are left of those, while these outboxes became those: what was sent and what is left is all that is due, link by link.
pub record IsLeft (setting : Setting) (sample : Sample) (dues rest : List Due) (outboxes now_outboxes : List OutboxState) : Type 0 where
  pub each_link : length now_outboxes ≡ length outboxes
  pub within : AllByRecursion (λ due. due.0 < length setting.addresses) (rules_dues rest)
  pub rising : RisesFrom 0 (rules_dues rest)
  pub sendable : (link : ℕ) → link < length setting.addresses → AreSendable (items_of_link link rest)
  pub fits : (link : ℕ) → link < length setting.addresses → most_bits_of (items_of_link link rest) ≤ 2040
  pub untouched : (link : ℕ) → items_of_link link rest ≢ [] → outbox_of now_outboxes link ≡ outbox_of outboxes link
  pub room : (link : ℕ) → (outbox_of outboxes link).room ≤ (outbox_of now_outboxes link).room + 534
  pub sent : (link : ℕ) → link < length setting.addresses
      → (outbox_of now_outboxes link).sent ++ ended_lines (texts_of_items setting link sample (items_of_link link rest))
      ≡ (outbox_of outboxes link).sent ++ ended_lines (texts_of_items setting link sample (items_of_link link dues))
  pub unbroken : (link : ℕ) → link < length setting.addresses → All IsUnbroken (texts_of_items setting link sample (items_of_link link rest))
      → All IsUnbroken (texts_of_items setting link sample (items_of_link link dues))

pub all_left : (setting : Setting) (sample : Sample) (dues : List Due) (outboxes : List OutboxState)
    → AllByRecursion (λ due. due.0 < length setting.addresses) (rules_dues dues) → RisesFrom 0 (rules_dues dues)
    → ((link : ℕ) → link < length setting.addresses → AreSendable (items_of_link link dues))
    → ((link : ℕ) → link < length setting.addresses → most_bits_of (items_of_link link dues) ≤ 2040)
    → IsLeft setting sample dues dues outboxes outboxes
all_left setting sample dues outboxes within rising sendable fits = record {
  each_link = refl;
  within = within;
  rising = rising;
  sendable = sendable;
  fits = fits;
  untouched = λ link some. refl;
  room = λ link. omega arith;
  sent = λ link inside. refl;
  unbroken = λ link inside all. all;
}

-- At the end nothing is left.
pub none_left : (setting : Setting) (sample : Sample) (dues rest : List Due) (outboxes now_outboxes : List OutboxState) → rest ≡ []
    → IsLeft setting sample dues rest outboxes now_outboxes → (link : ℕ) → link < length setting.addresses
    → ((outbox_of now_outboxes link).sent ≡ (outbox_of outboxes link).sent ++ ended_lines (texts_of_items setting link sample (items_of_link link dues)))
    × All IsUnbroken (texts_of_items setting link sample (items_of_link link dues))
none_left setting sample dues rest outboxes now_outboxes end left link inside =
    let none : items_of_link link rest ≡ [] = ap (items_of_link link) end in (
      sym (append-nil (outbox_of now_outboxes link).sent)
          ∙ sym (ap (λ items. (outbox_of now_outboxes link).sent ++ ended_lines (texts_of_items setting link sample items)) none)
          ∙ left.sent link inside,
      left.unbroken link inside (subst (λ items. All IsUnbroken (texts_of_items setting link sample items)) (sym none) (All-nil IsUnbroken)),
    )

-- ---- one link sent

lower : (low : ℕ) (dues : List (ℕ × Item)) → RisesFrom low dues → RisesFrom 0 dues
lower low [] rises = tt
lower low (due ∷ dues) rises = (omega arith, rises.1)

module _ (setting : Setting) (sample : Sample) (dues rest : List Due) (outboxes now_outboxes : List OutboxState) (first : Due)
    (get : slice_get rest 0 ≡ Some first) (left : IsLeft setting sample dues rest outboxes now_outboxes) where
  some : 0 < length rest
  some = slice_get_within rest 0 first get

  is : first ≡ get_or rest 0 first
  is = sym (get_or_from_slice_get rest 0 first first get)

  first_rises : (rest : List Due) → 0 < length rest → first ≡ get_or rest 0 first → RisesFrom 0 (rules_dues rest) → RisesFrom first.link (rules_dues rest)
  first_rises [] some is rises = tt
  first_rises (due ∷ others) some is rises = (omega (arith, ap (λ (d : Due). d.link) is), rises.1)

  first_within : (rest : List Due) → 0 < length rest → first ≡ get_or rest 0 first → AllByRecursion (λ due. due.0 < length setting.addresses) (rules_dues rest)
      → first.link < length setting.addresses
  first_within [] some is within = absurd (omega (arith, some))
  first_within (due ∷ others) some is within = omega (arith, ap (λ (d : Due). d.link) is, within.0)

  first_counts : (rest : List Due) → 0 < length rest → first ≡ get_or rest 0 first → 0 < count_at_front first.link rest
  first_counts [] some is = absurd (omega (arith, some))
  first_counts (due ∷ others) some is =
      subst (λ b. 0 < cond b (count_at_front first.link others + 1) 0) (sym (eq-eqb first.link due.link (ap (λ (d : Due). d.link) is))) (omega arith)

  first_has : (rest : List Due) → 0 < length rest → first ≡ get_or rest 0 first → items_of_link first.link rest ≢ []
  first_has [] some is none = absurd (omega (arith, some))
  first_has (due ∷ others) some is none =
      absurd (something (rules_item due.item) (items_of_link first.link others)
      (sym (ap (λ b. cond b (rules_item due.item ∷ items_of_link first.link others) (items_of_link first.link others)) (eq-eqb first.link due.link (ap (λ (d : Due). d.link) is))) ∙ none))
    where
      something : (item : Item) (items : List Item) → item ∷ items ≡ [] → ⊥
      something item items e = cc

  -- The first link is one of the aircraft's, and its outbox has the room that it had.
  pub link_inside : first.link < length setting.addresses
  link_inside = first_within rest some is left.within

  pub link_room : length outboxes ≡ length setting.addresses → All HasRoom outboxes → 534 ≤ (outbox_of now_outboxes first.link).room
  link_room each_link room =
      subst (λ (outbox : OutboxState). 534 ≤ outbox.room) (sym (left.untouched first.link (first_has rest some is)))
      (room first.link (record { sent = []; room = 0 }) (omega (arith, link_inside, each_link)))

  cut : IsCut first.link rest (take (count_at_front first.link rest) rest) (drop (count_at_front first.link rest) rest)
  cut = cut_front first.link rest (first_rises rest some is left.rising)

  -- Its dues in front are what is due on it, can be sent, and fit a payload.
  pub own_sendable : AreSendable (items_in (take (count_at_front first.link rest) rest))
  own_sendable = subst AreSendable (sym cut.here) (left.sendable first.link link_inside)

  pub own_fits : most_bits_of (items_in (take (count_at_front first.link rest) rest)) ≤ 2040
  own_fits = subst (λ items. most_bits_of items ≤ 2040) (sym cut.here) (left.fits first.link link_inside)

  -- Fewer dues are left behind them.
  pub fewer_left : 0 < count_at_front first.link rest
  fewer_left = first_counts rest some is

  module _ (later_outboxes : List OutboxState) (outbox : OutboxState) (each_link : length outboxes ≡ length setting.addresses)
      (written : later_outboxes ≡ set now_outboxes first.link outbox)
      (sent : outbox.sent ≡ (outbox_of now_outboxes first.link).sent ++ ended_lines (texts_of_items setting first.link sample (items_in (take (count_at_front first.link rest) rest))))
      (unbroken : All IsUnbroken (texts_of_items setting first.link sample (items_in (take (count_at_front first.link rest) rest))))
      (room : (outbox_of now_outboxes first.link).room ≤ outbox.room + 534) where
    own_outbox : outbox_of later_outboxes first.link ≡ outbox
    own_outbox = ap (λ o. outbox_of o first.link) written ∙ get_or-set_same now_outboxes first.link outbox (record { sent = []; room = 0 }) (omega (arith, link_inside, left.each_link, each_link))

    other_outbox : (other : ℕ) → other ≢ first.link → outbox_of later_outboxes other ≡ outbox_of now_outboxes other
    other_outbox other apart = ap (λ o. outbox_of o other) written ∙ get_or-set_other now_outboxes first.link other outbox (record { sent = []; room = 0 }) apart

    each : (P : ℕ → Type 0) → P first.link → ((other : ℕ) → other ≢ first.link → P other) → (link : ℕ) → P link
    each P own other link = by (cases_Bool (link == first.link))
      where
        by : ((link == first.link) ≡ true) ⊎ ((link == first.link) ≡ false) → P link
        by (inl e) = subst P (sym (eqb-true link first.link e)) own
        by (inr e) = other link (eqb-false link first.link e)

    -- What is left after its text was sent.
    pub one_sent : IsLeft setting sample dues (drop (count_at_front first.link rest) rest) outboxes later_outboxes
    one_sent = record {
      each_link = ap length written ∙ length-set now_outboxes first.link outbox ∙ left.each_link;
      within = within_drop (length setting.addresses) (count_at_front first.link rest) rest left.within;
      rising = lower first.link (rules_dues (drop (count_at_front first.link rest) rest)) cut.rises;
      sendable = each (λ link. link < length setting.addresses → AreSendable (items_of_link link (drop (count_at_front first.link rest) rest)))
          (λ inside. subst AreSendable (sym cut.none) tt)
          (λ other apart inside. subst AreSendable (sym (cut.elsewhere other apart)) (left.sendable other inside));
      fits = each (λ link. link < length setting.addresses → most_bits_of (items_of_link link (drop (count_at_front first.link rest) rest)) ≤ 2040)
          (λ inside. subst (λ items. most_bits_of items ≤ 2040) (sym cut.none) (omega arith))
          (λ other apart inside. subst (λ items. most_bits_of items ≤ 2040) (sym (cut.elsewhere other apart)) (left.fits other inside));
      untouched = each (λ link. items_of_link link (drop (count_at_front first.link rest) rest) ≢ [] → outbox_of later_outboxes link ≡ outbox_of outboxes link)
          (λ some_left. absurd (some_left cut.none))
          (λ other apart some_left. other_outbox other apart ∙ left.untouched other (λ nothing. some_left (cut.elsewhere other apart ∙ nothing)));
      room = each (λ link. (outbox_of outboxes link).room ≤ (outbox_of later_outboxes link).room + 534)
          (omega (arith, room, ap (λ (o : OutboxState). o.room) own_outbox, ap (λ (o : OutboxState). o.room) (left.untouched first.link (first_has rest some is))))
          (λ other apart. omega (arith, left.room other, ap (λ (o : OutboxState). o.room) (other_outbox other apart)));
      sent = each (λ link. link < length setting.addresses
          → (outbox_of later_outboxes link).sent ++ ended_lines (texts_of_items setting link sample (items_of_link link (drop (count_at_front first.link rest) rest)))
          ≡ (outbox_of outboxes link).sent ++ ended_lines (texts_of_items setting link sample (items_of_link link dues)))
          (λ inside. ap (λ items. (outbox_of later_outboxes first.link).sent ++ ended_lines (texts_of_items setting first.link sample items)) cut.none
          ∙ append-nil (outbox_of later_outboxes first.link).sent
          ∙ ap (λ (o : OutboxState). o.sent) own_outbox
          ∙ sent
          ∙ ap (λ items. (outbox_of now_outboxes first.link).sent ++ ended_lines (texts_of_items setting first.link sample items)) cut.here
          ∙ left.sent first.link inside)
          (λ other apart inside.
          ap (λ items. (outbox_of later_outboxes other).sent ++ ended_lines (texts_of_items setting other sample items)) (cut.elsewhere other apart)
          ∙ ap (λ (o : OutboxState). o.sent ++ ended_lines (texts_of_items setting other sample (items_of_link other rest))) (other_outbox other apart)
          ∙ left.sent other inside);
      unbroken = each (λ link. link < length setting.addresses → All IsUnbroken (texts_of_items setting link sample (items_of_link link (drop (count_at_front first.link rest) rest)))
          → All IsUnbroken (texts_of_items setting link sample (items_of_link link dues)))
          (λ inside all. left.unbroken first.link inside (subst (λ items. All IsUnbroken (texts_of_items setting first.link sample items)) cut.here unbroken))
          (λ other apart inside all.
          left.unbroken other inside (subst (λ items. All IsUnbroken (texts_of_items setting other sample items)) (cut.elsewhere other apart) all));
    }

-- The same in the terms of the code.
pub left_more : (setting : Setting) (sample : Sample) (dues rest : List Due) (outboxes now_outboxes : List OutboxState) (first : Due)
    → slice_get rest 0 ≡ Some first → IsLeft setting sample dues rest outboxes now_outboxes → length outboxes ≡ length setting.addresses
    → (count : ℕ) (own others : List Due) (outbox now_outbox : OutboxState) → count ≡ count_at_front first.link rest → own ≡ take count rest → others ≡ drop count rest
    → outbox ≡ get_or now_outboxes first.link outbox
    → now_outbox.sent ≡ outbox.sent ++ ended_lines (texts_of_items setting first.link sample (items_in own))
    → All IsUnbroken (texts_of_items setting first.link sample (items_in own)) → outbox.room ≤ now_outbox.room + 534
    → IsLeft setting sample dues others outboxes (set now_outboxes first.link now_outbox)
left_more setting sample dues rest outboxes now_outboxes first get left each_link count own others outbox now_outbox counted own_is others_is is sent unbroken room =
    let own_same : own ≡ take (count_at_front first.link rest) rest = own_is ∙ ap (λ n. take n rest) counted in
    let old : outbox ≡ outbox_of now_outboxes first.link
    = get_or_read now_outboxes first.link outbox (omega (arith, link_inside setting sample dues rest outboxes now_outboxes first get left, left.each_link, each_link)) is
    (record { sent = []; room = 0 }) in
    subst (λ (behind : List Due). IsLeft setting sample dues behind outboxes (set now_outboxes first.link now_outbox)) (sym (others_is ∙ ap (λ n. drop n rest) counted))
    (one_sent setting sample dues rest outboxes now_outboxes first get left (set now_outboxes first.link now_outbox) now_outbox each_link refl
    (sent ∙ (λ i. (old i).sent ++ ended_lines (texts_of_items setting first.link sample (items_in (own_same i)))))
    (subst (λ (front : List Due). All IsUnbroken (texts_of_items setting first.link sample (items_in front))) own_same unbroken)
    (subst (λ (o : OutboxState). o.room ≤ now_outbox.room + 534) old room))

-- No more are in front than there are.
pub count_within : (link : ℕ) (dues : List Due) → count_at_front link dues ≤ length dues
count_within link [] = omega arith
count_within link (due ∷ dues) = by (link == due.link) (count_within link dues)
  where
    by : (b : Bool) → count_at_front link dues ≤ length dues → cond b (count_at_front link dues + 1) 0 ≤ suc (length dues)
    by true within = omega (arith, within)
    by false within = omega arith
