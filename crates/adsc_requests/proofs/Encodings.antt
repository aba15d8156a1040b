-- What is an encoding is read, and a first fault stops reading there.
use Rattle.std.proofs.Common.{◌≡◌, ℕ, zero, suc, ◌+◌, ◌-◌, ◌%◌, ◌<◌, ◌≤◌, List, [], ◌∷◌, ◌++◌, length, take, Bool, true, false, cond, ◌||◌, nat_lt, ◌==◌, Some, None, Ok, Err, refl, sym, ◌∙◌, ap, subst, arith, length-append, append-nil, append_assoc}
use Rattle.std.proofs.Math.Seq.{take-append-add}
use Rattle.std.proofs.lemmas.Bool.Decides.{nat_tests}
use Rattle.adsc_requests.specs.Tables.{is_message_tag, is_request_tag, allows, data_size, field_size, value_reason, repeat_reason}
use Rattle.adsc_requests.specs.Contents.{Group, Content, has_tag}
use Rattle.adsc_requests.specs.Grammar.{message_octets, joined, IsBegun, AreWhole, asks_nothing, EncodesContents}
use Rattle.adsc_requests.specs.Faults.{Next, FirstMessage, Number, GroupOrMessage, Field, IsOpenPrefix, nothing_read, tag_read, message_begun, group_begun, reason_at, number_read}
use Rattle.adsc_requests.specs.Reading.{put, stop, octet_at, data_at, with_data_at, group_at, groups_at, request_at, cancel_at, message_at, messages_at, uplink_at}
use Rattle.adsc_requests.specs.declared.decoding.stop.Stop.{Stop}
use Rattle.adsc_requests.proofs.Collecting.{on_bool}
use Rattle.adsc_requests.proofs.ReadingLemmas.{has_tag-put}
use Rattle.adsc_requests.proofs.MessageLoop.{some_payload}
use Rattle.adsc_requests.proofs.Rows.{row_repeat, row_group, row_nothing, row_fifth, row_message, row_stranger, row_end_nothing, row_end, row_cut, row_value, row_field}
use Rattle.adsc_requests.proofs.Along.{EndsMessage, allowed_is_no_message, allowed_in_request, message_at-request, message_at-stranger, message_at-cancel, message_at-stops, message_at-nothing, message_at-cancels, message_at-whole, message_starts, message_has_octets, messages_at-some, messages_at-stops, messages_at-whole}
use Rattle.adsc_requests.proofs.ByTag.{put_all, by_tag, ordered, each_asked_is_ordered}

-- ---- encodings

joined_has_octets : (ms : List Content) → 1 ≤ length ms → 1 ≤ length (joined ms)
joined_has_octets [] some = absurd (omega arith)
joined_has_octets (m ∷ ms) some = message_has_octets m (joined ms)

pub encoding_is_read : (contents : List Content) (payload : List ℕ) → EncodesContents contents payload → uplink_at payload ≡ Ok contents
encoding_is_read contents payload e =
    ap uplink_at e.octets
    ∙ some_payload (joined e.standing) (joined_has_octets e.standing e.some)
    ∙ messages_at-whole e.standing 4 0 e.whole e.few
    ∙ ap (λ (ms : List Content). Ok ms) (sym (each_asked_is_ordered e.standing contents e.whole e.asked))

-- ---- faults

same_some : {A : Type 0} (a b : A) → Some a ≡ Some b → a ≡ b
same_some a b e = cc

none_is_not_some : (r : ℕ) → None ≡ Some r → ⊥
none_is_not_some r e = cc

-- A payload that stops in the message behind whole ones.
stops_behind : (before : List Content) (front rest tail payload : List ℕ) (s : Stop) → AreWhole before → length before < 4
    → payload ≡ front ++ rest → front ++ rest ≡ joined before ++ tail → 1 ≤ length tail → EndsMessage tail
    → ((k q : ℕ) → k + length before ≡ 3 → messages_at (suc k) q tail ≡ Err s)
    → uplink_at payload ≡ Err s
stops_behind before front rest tail payload s whole few parts same some ends stops =
    ap uplink_at (parts ∙ same)
    ∙ some_payload (joined before ++ tail) (omega (arith, length-append (joined before) tail))
    ∙ messages_at-stops before 4 (suc (3 - length before)) 0 tail s (omega arith) whole ends (λ q. stops (3 - length before) q (omega arith))

-- Where reading one message stops, reading messages stops.
one_stops : (k q : ℕ) (tail : List ℕ) (s : Stop) → 1 ≤ length tail → message_at q tail ≡ Err s → messages_at (suc k) q tail ≡ Err s
one_stops k q tail s some stops = messages_at-some k q tail some ∙ rw stops refl

-- No number behind a tag.
no_number : (q tag : ℕ) → is_message_tag tag ≡ true → (tag == 1) ≡ false → message_at q (tag ∷ []) ≡ Err (stop 0 9 0)
unfolding cancel_at request_at octet_at
no_number q tag known not_all = on_bool (is_request_tag tag)
    (λ request. message_at-request q tag [] request)
    (λ other. message_at-cancel q tag [] known other not_all)

fault_at_tag : (before : List Content) (tag : ℕ) (front rest payload : List ℕ) (reason : ℕ) → AreWhole before → length before < 4
    → is_message_tag tag ≡ true → (tag == 1) ≡ false → front ≡ joined before ++ tag ∷ [] → payload ≡ front ++ rest
    → reason_at (Number tag) rest ≡ Some reason → uplink_at payload ≡ Err (stop (length rest) reason 0)
unfolding reason_at
fault_at_tag before tag front [] payload reason whole few known not_all octets parts applies =
    rw (← same_some 9 reason applies)
    (stops_behind before front [] (tag ∷ []) payload (stop 0 9 0) whole few parts (append-nil front ∙ octets) (omega arith) known
    (λ k q count. one_stops k q (tag ∷ []) (stop 0 9 0) (omega arith) (no_number q tag known not_all)))
fault_at_tag before tag front (n ∷ rest) payload reason whole few known not_all octets parts applies = cc

fault_at_start : (front rest payload : List ℕ) (reason : ℕ) → front ≡ [] → payload ≡ front ++ rest
    → reason_at FirstMessage rest ≡ Some reason → uplink_at payload ≡ Err (stop (length rest) reason 0)
unfolding reason_at uplink_at
fault_at_start front [] payload reason none parts applies = rw (parts, none, ← same_some 9 reason applies) refl
fault_at_start front (t ∷ rest) payload reason none parts applies =
    let one : length rest + 1 ≡ length (t ∷ rest) = omega arith in
    on_bool (is_message_tag t)
    (λ known. cc)
    (λ other.
    let is : Some 7 ≡ Some reason = subst (λ (b : Bool). cond b None (Some 7) ≡ Some reason) other applies in
    rw (parts, none, ← same_some 7 reason is, ← one)
    (messages_at-some 3 0 (t ∷ rest) (omega arith) ∙ rw (message_at-stranger 0 t rest other) refl))

-- ---- a fault where a group or a message may begin

pub has_tag-put_all : (t : ℕ) (into gs : List Group) → has_tag t (put_all into gs) ≡ has_tag t into || has_tag t gs
has_tag-put_all t into [] = or_false (has_tag t into)
  where
    or_false : (b : Bool) → b ≡ b || false
    or_false true = refl
    or_false false = refl
has_tag-put_all t into (g ∷ gs) =
    has_tag-put_all t (put g into) gs ∙ ap (λ b. b || has_tag t gs) (has_tag-put t g into) ∙ regroup (g.tag == t) (has_tag t into) (has_tag t gs)
  where
    regroup : (a b c : Bool) → (a || b) || c ≡ b || (a || c)
    regroup true true c = refl
    regroup true false c = refl
    regroup false true c = refl
    regroup false false c = refl

pub has_tag-by_tag : (t : ℕ) (gs : List Group) → has_tag t (by_tag gs) ≡ has_tag t gs
has_tag-by_tag t gs = has_tag-put_all t [] gs

groups_stop_at_repeat : (j m number : ℕ) (gs : List Group) (t : ℕ) (octets : List ℕ) → length (t ∷ octets) ≤ j → allows m t ≡ true → has_tag t gs ≡ true
    → groups_at j m number gs (t ∷ octets) ≡ Err (stop (length octets + 1) (repeat_reason t) number)
unfolding groups_at group_at
groups_stop_at_repeat zero m number gs t octets enough allowed has = absurd (omega arith)
groups_stop_at_repeat (suc j) m number gs t octets enough allowed has = rw (allowed_is_no_message m t allowed, allowed, has) refl

groups_stop_at_stranger : (j m number : ℕ) (gs : List Group) (t : ℕ) (octets : List ℕ) → length (t ∷ octets) ≤ j → is_message_tag t ≡ false → allows m t ≡ false
    → groups_at j m number gs (t ∷ octets) ≡ Err (stop (length octets + 1) 7 number)
unfolding groups_at group_at
groups_stop_at_stranger zero m number gs t octets enough other no_group = absurd (omega arith)
groups_stop_at_stranger (suc j) m number gs t octets enough other no_group = rw (other, no_group) refl

groups_stop_in_data : (j m number : ℕ) (gs : List Group) (t : ℕ) (octets : List ℕ) (s : Stop) → length (t ∷ octets) ≤ j → allows m t ≡ true → has_tag t gs ≡ false
    → data_at t number octets ≡ Err s → groups_at j m number gs (t ∷ octets) ≡ Err s
unfolding groups_at group_at with_data_at
groups_stop_in_data zero m number gs t octets s enough allowed new stops = absurd (omega arith)
groups_stop_in_data (suc j) m number gs t octets s enough allowed new stops = rw (allowed_is_no_message m t allowed, allowed, new, stops) refl

messages_stop_at_stranger : (k number t : ℕ) (octets : List ℕ) → is_message_tag t ≡ false → messages_at k number (t ∷ octets) ≡ Err (stop (length octets + 1) 7 number)
unfolding messages_at
messages_stop_at_stranger zero number t octets other = rw other refl
messages_stop_at_stranger (suc k) number t octets other = rw (message_at-stranger number t octets other) refl

messages_stop_at_fifth : (k number t : ℕ) (octets : List ℕ) → k ≡ 0 → is_message_tag t ≡ true → messages_at k number (t ∷ octets) ≡ Err (stop (length octets + 1) 8 number)
unfolding messages_at
messages_stop_at_fifth zero number t octets none known = rw known refl
messages_stop_at_fifth (suc k) number t octets none known = absurd (omega arith)

-- Behind a message that is read, reading messages stops where it does.
next_stops : (k q : ℕ) (m : Content) (rest : List ℕ) (s : Stop) → message_at q (message_octets m ++ rest) ≡ Ok (ordered m, rest)
    → messages_at k m.number rest ≡ Err s → messages_at (suc k) q (message_octets m ++ rest) ≡ Err s
next_stops k q m rest s reads stops = messages_at-some k q (message_octets m ++ rest) (message_has_octets m rest) ∙ rw (reads, stops) refl

-- In the message that is being read.
stops_in : (before : List Content) (m : Content) (front rest payload : List ℕ) (s : Stop) → AreWhole before → length before < 4 → IsBegun m
    → front ≡ joined before ++ message_octets m → payload ≡ front ++ rest
    → ((k q : ℕ) → k + length before ≡ 3 → messages_at (suc k) q (message_octets m ++ rest) ≡ Err s)
    → uplink_at payload ≡ Err s
stops_in before m front rest payload s whole few begun octets parts stops =
    stops_behind before front rest (message_octets m ++ rest) payload s whole few parts
    (ap (λ f. f ++ rest) octets ∙ append_assoc (joined before) (message_octets m) rest)
    (message_has_octets m rest) (message_starts m rest begun.known) stops

-- The message that is being read stops.
stops_in_one : (before : List Content) (m : Content) (front rest payload : List ℕ) (s : Stop) → AreWhole before → length before < 4 → IsBegun m
    → front ≡ joined before ++ message_octets m → payload ≡ front ++ rest
    → ((q : ℕ) → message_at q (message_octets m ++ rest) ≡ Err s)
    → uplink_at payload ≡ Err s
stops_in_one before m front rest payload s whole few begun octets parts stops =
    stops_in before m front rest payload s whole few begun octets parts
    (λ k q count. one_stops k q (message_octets m ++ rest) s (message_has_octets m rest) (stops q))

-- Which row of the table applies behind a message that has begun, and the stop there.
stop_at_tag : (before : List Content) (m : Content) (front : List ℕ) (t : ℕ) (octets payload : List ℕ) (reason : ℕ) → AreWhole before → length before < 4 → IsBegun m
    → front ≡ joined before ++ message_octets m → payload ≡ front ++ t ∷ octets
    → reason_at (GroupOrMessage (length before + 1) m) (t ∷ octets) ≡ Some reason
    → uplink_at payload ≡ Err (stop (length octets + 1) reason m.number)
stop_at_tag before m front t octets payload reason whole few begun front_is parts applies = on_bool (allows m.tag t)
    (λ allowed. on_bool (has_tag t m.groups)
    (λ has.
    let is : Some (repeat_reason t) ≡ Some reason = sym (row_repeat (length before + 1) m t octets allowed has) ∙ applies in
    rw (← same_some _ reason is)
    (stops_in_one before m front (t ∷ octets) payload _ whole few begun front_is parts
    (λ q. message_at-stops q m (t ∷ octets) _ begun (allowed_in_request m.tag t allowed)
    (λ j enough. groups_stop_at_repeat j m.tag m.number (by_tag m.groups) t octets enough allowed (has_tag-by_tag t m.groups ∙ has)))))
    (λ new. absurd (none_is_not_some reason (sym (row_group (length before + 1) m t octets allowed new) ∙ applies))))
    (λ no_group. on_bool (is_message_tag t)
    (λ known. on_bool (asks_nothing m)
    (λ nothing.
    let is : Some 3 ≡ Some reason = sym (row_nothing (length before + 1) m t octets no_group known nothing) ∙ applies in
    let one : length octets + 1 ≡ length (t ∷ octets) = omega arith in
    rw (← same_some _ reason is, one)
    (stops_in_one before m front (t ∷ octets) payload _ whole few begun front_is parts
    (λ q. message_at-nothing q m (t ∷ octets) begun nothing known)))
    (λ asks. on_bool (length before + 1 == 4)
    (λ four.
    let is : Some 8 ≡ Some reason = sym (row_fifth (length before + 1) m t octets no_group known asks four) ∙ applies in
    let three : length before ≡ 3 = grind (arith, nat_tests, four) in
    rw (← same_some _ reason is)
    (stops_in before m front (t ∷ octets) payload _ whole few begun front_is parts
    (λ k q count. next_stops k q m (t ∷ octets) _ (message_at-whole q m (t ∷ octets) (record { begun = begun; asks = asks }) known)
    (messages_stop_at_fifth k m.number t octets (omega arith) known))))
    (λ not_four. absurd (none_is_not_some reason (sym (row_message (length before + 1) m t octets no_group known asks not_four) ∙ applies)))))
    (λ other.
    let is : Some 7 ≡ Some reason = sym (row_stranger (length before + 1) m t octets no_group other) ∙ applies in
    rw (← same_some _ reason is) (on_bool (is_request_tag m.tag)
    (λ request. stops_in_one before m front (t ∷ octets) payload _ whole few begun front_is parts
    (λ q. message_at-stops q m (t ∷ octets) _ begun request
    (λ j enough. groups_stop_at_stranger j m.tag m.number (by_tag m.groups) t octets enough other no_group)))
    (λ cancel. stops_in before m front (t ∷ octets) payload _ whole few begun front_is parts
    (λ k q count. next_stops k q m (t ∷ octets) _ (message_at-cancels q m (t ∷ octets) begun cancel)
    (messages_stop_at_stranger k m.number t octets other))))))

fault_at_more : (before : List Content) (m : Content) (front rest payload : List ℕ) (reason : ℕ) → AreWhole before → length before < 4 → IsBegun m
    → front ≡ joined before ++ message_octets m → payload ≡ front ++ rest
    → reason_at (GroupOrMessage (length before + 1) m) rest ≡ Some reason
    → uplink_at payload ≡ Err (stop (length rest) reason m.number)
fault_at_more before m front [] payload reason whole few begun front_is parts applies = on_bool (asks_nothing m)
    (λ nothing.
    let is : Some 3 ≡ Some reason = sym (row_end_nothing (length before + 1) m nothing) ∙ applies in
    rw (← same_some 3 reason is) (stops_in_one before m front [] payload _ whole few begun front_is parts (λ q. message_at-nothing q m [] begun nothing tt)))
    (λ asks. absurd (none_is_not_some reason (sym (row_end (length before + 1) m asks) ∙ applies)))
fault_at_more before m front (t ∷ octets) payload reason whole few begun front_is parts applies =
    let one : length octets + 1 ≡ length (t ∷ octets) = omega arith in
    subst (λ (n : ℕ). uplink_at payload ≡ Err (stop n reason m.number)) one
    (stop_at_tag before m front t octets payload reason whole few begun front_is parts applies)

-- ---- a fault in the data of a group

-- Whole fields are left out of the count of what is left.
left_of_cut : (t fields rest : ℕ) → fields % field_size t ≡ 0 → rest < field_size t → (fields + rest) % field_size t ≡ rest
unfolding field_size
left_of_cut t fields rest whole cut = on_bool (t == 19)
    (λ is. rw is (two (rw is at whole) (rw is at cut)))
    (λ is. rw is (one (rw is at cut)))
  where
    two : fields % 2 ≡ 0 → rest < 2 → (fields + rest) % 2 ≡ rest
    two w c = omega arith

    one : rest < 1 → (fields + rest) % 1 ≡ rest
    one c = omega arith

data_at-fault : (m : Content) (t number : ℕ) (fields rest : List ℕ) (reason : ℕ) → length fields % field_size t ≡ 0 → length fields + field_size t ≤ data_size t
    → reason_at (Field m t fields) rest ≡ Some reason → data_at t number (fields ++ rest) ≡ Err (stop (length rest) reason number)
unfolding data_at
data_at-fault m t number fields rest reason whole within applies = on_bool (nat_lt (length rest) (field_size t))
    (λ cut.
    let is : Some 9 ≡ Some reason = sym (row_cut m t fields rest cut) ∙ applies in
    let short : length rest < field_size t = grind (arith, nat_tests, cut) in
    let all_short : nat_lt (length (fields ++ rest)) (data_size t) ≡ true = grind (arith, nat_tests, length-append fields rest, short, within) in
    let left : length (fields ++ rest) % field_size t ≡ length rest
    = ap (λ n. n % field_size t) (length-append fields rest) ∙ left_of_cut t (length fields) (length rest) whole short in
    rw (all_short, left, same_some 9 reason is) refl)
    (λ there. on_bool (length fields + field_size t == data_size t)
    (λ last.
    let is : value_reason t (fields ++ take (field_size t) rest) ≡ Some reason = sym (row_value m t fields rest there last) ∙ applies in
    let size : length fields + field_size t ≡ data_size t = grind (arith, nat_tests, last) in
    let enough : nat_lt (length (fields ++ rest)) (data_size t) ≡ false = grind (arith, nat_tests, length-append fields rest, there, size) in
    let front : take (data_size t) (fields ++ rest) ≡ fields ++ take (field_size t) rest
    = ap (λ n. take n (fields ++ rest)) (sym size) ∙ take-append-add fields rest (field_size t) in
    let left : length (fields ++ rest) + field_size t - data_size t ≡ length rest = omega (arith, length-append fields rest) in
    rw (enough, front, is, left) refl)
    (λ more. absurd (none_is_not_some reason (sym (row_field m t fields rest there more) ∙ applies))))

fault_at_field : (before : List Content) (m : Content) (t : ℕ) (fields front rest payload : List ℕ) (reason : ℕ) → AreWhole before → length before < 4 → IsBegun m
    → allows m.tag t ≡ true → has_tag t m.groups ≡ false → length fields % field_size t ≡ 0 → length fields + field_size t ≤ data_size t
    → front ≡ joined before ++ message_octets m ++ t ∷ fields → payload ≡ front ++ rest
    → reason_at (Field m t fields) rest ≡ Some reason
    → uplink_at payload ≡ Err (stop (length rest) reason m.number)
fault_at_field before m t fields front rest payload reason whole few begun allowed new fields_whole within front_is parts applies =
    let tail : List ℕ = t ∷ (fields ++ rest) in
    let same : payload ≡ (joined before ++ message_octets m) ++ (t ∷ (fields ++ rest))
    = parts ∙ ap (λ f. f ++ rest) front_is ∙ append_assoc (joined before ++ message_octets m) (t ∷ fields) rest in
    stops_in_one before m (joined before ++ message_octets m) (t ∷ (fields ++ rest)) payload _ whole few begun refl same
    (λ q. message_at-stops q m (t ∷ (fields ++ rest)) _ begun (allowed_in_request m.tag t allowed)
    (λ j enough. groups_stop_in_data j m.tag m.number (by_tag m.groups) t (fields ++ rest) _ enough allowed (has_tag-by_tag t m.groups ∙ new)
    (data_at-fault m t m.number fields rest reason fields_whole within applies)))

-- A first fault stops reading there, with the octets that are left.
pub fault_stops_reading : (payload front rest : List ℕ) (next : Next) (reason : ℕ) → payload ≡ front ++ rest → IsOpenPrefix front next
    → reason_at next rest ≡ Some reason → uplink_at payload ≡ Err (stop (length rest) reason (number_read next))
fault_stops_reading payload front rest _ reason parts (nothing_read none) applies = fault_at_start front rest payload reason none parts applies
fault_stops_reading payload front rest _ reason parts (tag_read before tag whole few known numbered front_is) applies =
    fault_at_tag before tag front rest payload reason whole few known numbered front_is parts applies
fault_stops_reading payload front rest _ reason parts (message_begun before m whole few begun front_is) applies =
    fault_at_more before m front rest payload reason whole few begun front_is parts applies
fault_stops_reading payload front rest _ reason parts (group_begun before m tag fields whole few begun allowed new fields_whole within front_is) applies =
    fault_at_field before m tag fields front rest payload reason whole few begun allowed new fields_whole within front_is parts applies
