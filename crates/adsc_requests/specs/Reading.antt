-- Reading a payload from left to right, as a function on lists: the value and the rest, or where it stops.
-- The exact clauses of the decoder's private functions cite it. What an uplink is and what its first fault is
-- stand in Grammar and Faults, apart from it.
use Rattle.std.specs.Prelude.{◌≡◌, ℕ, zero, suc, ◌+◌, ◌-◌, ◌%◌, List, [], ◌∷◌, length, take, drop, ◌==◌, ◌||◌, nat_lt, Option, Some, None, Result, Ok, Err, if◌then◌else◌}
use Rattle.adsc_requests.specs.Tables.{is_message_tag, is_request_tag, allows, data_size, field_size, value_reason, repeat_reason}
use Rattle.adsc_requests.specs.Contents.{Group, Content, has_tag}
use Rattle.adsc_requests.specs.declared.decoding.stop.Stop.{Stop}

infixl 10 ◌>>=◌
abbrev pub ◌>>=◌ : {A B : Type 0} → Result A Stop → (A → Result B Stop) → Result B Stop
(Ok x) >>= f = f x
(Err e) >>= f = Err e

-- What a function returned, seen by view, is what reading gives.
abbrev pub Gives : {X Y : Type 0} → (X → Y) → Result X Stop → Result Y Stop → Type 0
Gives view (Ok x) read = read ≡ Ok (view x)
Gives view (Err e) read = read ≡ Err e

-- Reading stops with so many octets left.
abbrev pub stop : ℕ → ℕ → ℕ → Stop
stop left reason number = record { left = left; reason = reason; number = number }

unfoldable pub octet_at : ℕ → List ℕ → Result (ℕ × List ℕ) Stop
octet_at number [] = Err (stop 0 9 number)
octet_at number (n ∷ rest) = Ok (n, rest)

abbrev pub admitted_or : Option ℕ → ℕ → ℕ → List ℕ → List ℕ → Result (List ℕ × List ℕ) Stop
admitted_or None left number octets rest = Ok (octets, rest)
admitted_or (Some reason) left number octets rest = Err (stop left reason number)

-- The data of a group.
unfoldable pub data_at : ℕ → ℕ → List ℕ → Result (List ℕ × List ℕ) Stop
data_at t number octets =
    if nat_lt (length octets) (data_size t) then Err (stop (length octets % field_size t) 9 number)
    else admitted_or (value_reason t (take (data_size t) octets))
    (length octets + field_size t - data_size t) number (take (data_size t) octets) (drop (data_size t) octets)

-- The groups that were read stand by rising tag: a group more is put before the first one of a greater tag.
abbrev pub put : Group → List Group → List Group
put g [] = g ∷ []
put g (h ∷ hs) = if nat_lt g.tag h.tag then g ∷ h ∷ hs else h ∷ put g hs

-- The data of a group behind its tag, put among the groups that were read.
unfoldable pub with_data_at : ℕ → ℕ → List Group → List ℕ → Result (List Group × List ℕ) Stop
with_data_at t number groups octets = data_at t number octets >>= λ d. Ok (put (record { tag = t; octets = d.0 }) groups, d.1)

-- A group of a message behind those that were read, whose tag is read.
unfoldable pub group_at : ℕ → ℕ → List Group → ℕ → List ℕ → Result (List Group × List ℕ) Stop
group_at m number groups t octets =
    if allows m t then
    (if has_tag t groups then Err (stop (length octets + 1) (repeat_reason t) number)
    else with_data_at t number groups octets)
    else Err (stop (length octets + 1) 7 number)

-- The groups of a message, up to a message tag or the end; the first number bounds how many there are.
unfoldable pub groups_at : ℕ → ℕ → ℕ → List Group → List ℕ → Result (List Group × List ℕ) Stop
groups_at zero m number groups octets = Ok (groups, octets)
groups_at (suc k) m number groups [] = Ok (groups, [])
groups_at (suc k) m number groups (t ∷ octets) =
    if is_message_tag t then Ok (groups, t ∷ octets)
    else (group_at m number groups t octets >>= λ g. groups_at k m number g.0 g.1)

-- An event request with its groups, behind which so many octets are left; without a group it is refused.
unfoldable pub event_at : ℕ → List Group → ℕ → Result Content Stop
event_at number groups left =
    if length groups == 0 then Err (stop left 3 number) else Ok (record { tag = 8; number = number; groups = groups })

-- A request behind its tag.
unfoldable pub request_at : ℕ → List ℕ → Result (Content × List ℕ) Stop
request_at m octets = do
  n ← octet_at 0 octets
  gs ← groups_at (length n.1) m n.0 [] n.1
  if m == 8 then (event_at n.0 gs.0 (length gs.1) >>= λ c. Ok (c, gs.1))
      else Ok (record { tag = m; number = n.0; groups = gs.0 }, gs.1)

-- A cancel behind its tag.
unfoldable pub cancel_at : ℕ → List ℕ → Result (Content × List ℕ) Stop
cancel_at m octets = do
  n ← octet_at 0 octets
  Ok (record { tag = m; number = n.0; groups = [] }, n.1)

-- A message; the number is that of the message before it, for a refusal.
unfoldable pub message_at : ℕ → List ℕ → Result (Content × List ℕ) Stop
message_at number [] = Err (stop 0 9 number)
message_at number (t ∷ octets) =
    if t == 1 then Ok (record { tag = 1; number = 0; groups = [] }, octets)
    else if (t == 2) || (t == 6) then cancel_at t octets
    else if is_request_tag t then request_at t octets
    else Err (stop (length octets + 1) 7 number)

-- At most so many more messages, up to the end.
unfoldable pub messages_at : ℕ → ℕ → List ℕ → Result (List Content) Stop
messages_at zero number [] = Ok []
messages_at zero number (t ∷ octets) = Err (stop (length octets + 1) (if is_message_tag t then 8 else 7) number)
messages_at (suc k) number [] = Ok []
messages_at (suc k) number (t ∷ octets) = do
  m ← message_at number (t ∷ octets)
  ms ← messages_at k m.0.number m.1
  Ok (m.0 ∷ ms)

-- The messages of a payload.
unfoldable pub uplink_at : List ℕ → Result (List Content) Stop
uplink_at [] = Err (stop 0 9 0)
uplink_at (t ∷ octets) = messages_at 4 0 (t ∷ octets)
