-- A message of a live link, or of one that it admits: what it makes of the live links.
use Rattle.std.proofs.Common.{◌≡◌, ◌≢◌, ℕ, ◌-◌, ◌<◌, ◌==◌, ◌||◌, Bool, true, false, cond, not, nat_lt, List, [], ◌∷◌, ◌++◌, All, map, length, filter, find, remove, get_or, set, take, drop, suc, Some, option_map, refl, ap, sym, ◌∙◌, subst}
use Rattle.std.specs.List.{refill}
use Rattle.std.proofs.lemmas.Bool.{ne_eqb}
use Rattle.std.proofs.lemmas.List.{get_or_default, length-set}
use Rattle.arrayvec.specs.ArrayVec.{ArrayVec, array_vec_len}
use Rattle.arrayvec.proofs.ArrayVecLemmas.{items-with_items}
use Rattle.std.proofs.lemmas.List.Elements.{All-set, All-append, All-take, All-drop}
use Rattle.contract_rules.specs.Messages.{Message}
use Rattle.contract_rules.specs.LiveLinks.{Accepted, Ended, has_room, without}
use Rattle.contract_rules.specs.Configuration.{Profile, max_live_links}
use Rattle.contract_table.specs.Dues.{dues_in}
use Rattle.contract_table.specs.Messages.{due_by, links_after, verdict_by}
use Rattle.contract_table.specs.NextConnection.{accepted}
use Rattle.contract_table.specs.Places.{IsRising, StandsAt, link_of, put}
use Rattle.contract_table.specs.Seen.{connection_seen}
use Rattle.contract_table.specs.Changes.{IsAcceptedAt, IsHeard}
use Rattle.contract_table.specs.Sound.{IsSound}
use Rattle.contract_table.specs.declared.connection.Connection.{Connection}
use Rattle.contract_table.specs.declared.due.Dues.{Dues}
use Rattle.contract_table.proofs.PlaceLemmas.{set_put, remove_others}

-- The number of a link as the table keeps it.
abbrev pub kept_link : Connection → ℕ
kept_link kept = kept.link

pub put_seen : (new : Connection) (kept : List Connection) → map connection_seen (put kept_link new kept) ≡ put link_of (connection_seen new) (map connection_seen kept)
put_seen new [] = refl
put_seen new (old ∷ others) = by (put_seen new others) (nat_lt old.link new.link) (old.link == new.link)
  where
    by : map connection_seen (put kept_link new others) ≡ put link_of (connection_seen new) (map connection_seen others) → (b s : Bool)
        → map connection_seen (cond b (old ∷ put kept_link new others) (cond s (new ∷ others) (new ∷ old ∷ others)))
        ≡ cond b (connection_seen old ∷ put link_of (connection_seen new) (map connection_seen others))
        (cond s (connection_seen new ∷ map connection_seen others) (connection_seen new ∷ connection_seen old ∷ map connection_seen others))
    by rest true s = ap (λ cs. connection_seen old ∷ cs) rest
    by rest false true = refl
    by rest false false = refl

pub filter_seen : (link : ℕ) (kept : List Connection)
    → map connection_seen (filter (λ other. not (link == other.link)) kept) ≡ filter (λ other. not (link == other.link)) (map connection_seen kept)
filter_seen link [] = refl
filter_seen link (old ∷ others) = by (filter_seen link others) (link == old.link)
  where
    by : map connection_seen (filter (λ other. not (link == other.link)) others) ≡ filter (λ other. not (link == other.link)) (map connection_seen others) → (b : Bool)
        → map connection_seen (cond (not b) (old ∷ filter (λ other. not (link == other.link)) others) (filter (λ other. not (link == other.link)) others))
        ≡ cond (not b) (connection_seen old ∷ filter (λ other. not (link == other.link)) (map connection_seen others)) (filter (λ other. not (link == other.link)) (map connection_seen others))
    by rest true = rest
    by rest false = ap (λ cs. connection_seen old ∷ cs) rest

pub find_seen : (link : ℕ) (kept : List Connection)
    → find (λ other. link == other.link) (map connection_seen kept) ≡ option_map connection_seen (find (λ other. link == other.link) kept)
find_seen link [] = refl
find_seen link (old ∷ others) = by (find_seen link others) (link == old.link)
  where
    by : find (λ other. link == other.link) (map connection_seen others) ≡ option_map connection_seen (find (λ other. link == other.link) others) → (b : Bool)
        → cond b (Some (connection_seen old)) (find (λ other. link == other.link) (map connection_seen others)) ≡ option_map connection_seen (cond b (Some old) (find (λ other. link == other.link) others))
    by rest true = refl
    by rest false = rest

pub links_seen : (kept : List Connection) → map link_of (map connection_seen kept) ≡ map kept_link kept
links_seen [] = refl
links_seen (old ∷ others) = ap (λ links. old.link ∷ links) (links_seen others)

-- How many there are without one.
pub others_seen : (link : ℕ) (kept : List Connection)
    → length (filter (λ connection. not (link == connection.link)) kept) ≡ length (filter (λ other. not (link == other)) (map link_of (map connection_seen kept)))
others_seen link [] = refl
others_seen link (old ∷ others) = by (others_seen link others) (link == old.link)
  where
    by : length (filter (λ connection. not (link == connection.link)) others) ≡ length (filter (λ other. not (link == other)) (map link_of (map connection_seen others))) → (b : Bool)
        → length (cond (not b) (old ∷ filter (λ connection. not (link == connection.link)) others) (filter (λ connection. not (link == connection.link)) others))
        ≡ length (cond (not b) (old.link ∷ filter (λ other. not (link == other)) (map link_of (map connection_seen others))) (filter (λ other. not (link == other)) (map link_of (map connection_seen others))))
    by rest true = rest
    by rest false = ap suc rest

-- ---- what is written at a place

pub same_kept : (connections slice : List Connection) (place : ℕ) (d none : Connection) → slice ≡ connections → place < length connections
    → get_or slice place d ≡ get_or connections place none
same_kept connections slice place d none same inside = ap (λ xs. get_or xs place d) same ∙ get_or_default connections place d none inside

pub is_accepted_at : (place : ℕ) (profile : Profile) (time : ℕ) (message : Message) (connections : ArrayVec Connection) (slice : List Connection) (d now : Connection)
    → slice ≡ connections.items → place < length connections.items
    → connection_seen now ≡ accepted profile time message (connection_seen (get_or slice place d))
    → now.link ≡ (get_or slice place d).link → IsSound time now
    → IsAcceptedAt place profile time message connections.items (refill (array_vec_len connections) connections.items (set slice place now))
is_accepted_at place profile time message connections slice d now same inside next link sound =
    record {
      now = now;
      written = items-with_items connections (set slice place now) (length-set slice place now ∙ ap length same) ∙ ap (λ xs. set xs place now) same;
      next = λ none. next ∙ ap (λ kept. accepted profile time message (connection_seen kept)) (same_kept connections.items slice place d none same inside);
      link = λ none. link ∙ ap (λ (kept : Connection). kept.link) (same_kept connections.items slice place d none same inside);
      sound = sound;
    }

-- ---- an accepted message of a live link

module _ (link place time : ℕ) (profile : Profile) (message : Message) (before after : List Connection) (stands : StandsAt link before place)
    (taken : IsAcceptedAt place profile time message before after) where
  pub accepted_at : (none : Connection) → map connection_seen after
      ≡ put link_of (accepted profile time message (connection_seen (get_or before place none))) (map connection_seen before)
  accepted_at none =
      ap (map connection_seen) (taken.written ∙ set_put kept_link before place taken.now none
      (λ k none below. subst (λ l. (get_or before k none).link < l) (sym (taken.link none ∙ stands.here none)) (stands.at.before k none below))
      stands.inside (sym (taken.link none)))
      ∙ put_seen taken.now before
      ∙ ap (λ new. put link_of new (map connection_seen before)) (taken.next none)

  pub sound_at : All (IsSound time) before → All (IsSound time) after
  sound_at sound = subst (All (IsSound time)) (sym taken.written) (All-set (IsSound time) before place taken.now taken.sound sound)

-- ---- the end of a session

pub ended_at : (link place : ℕ) (before : List Connection) → IsRising (map link_of (map connection_seen before)) → StandsAt link before place
    → (none : Connection) → map connection_seen (remove before place) ≡ filter (λ other. not ((get_or before place none).link == other.link)) (map connection_seen before)
ended_at link place before rising stands none =
    ap (map connection_seen) (remove_others kept_link before place (get_or before place none).link none (subst IsRising (links_seen before) rising)
    (λ k none' below. subst (λ l. (get_or before k none').link < l) (sym (stands.here none)) (stands.at.before k none' below))
    stands.inside refl)
    ∙ filter_seen (get_or before place none).link before

pub all_removed : {X : Type 0} (P : X → Type 0) (xs : List X) (place : ℕ) → All P xs → All P (remove xs place)
all_removed P xs place all = All-append P (take place xs) (drop (suc place) xs) (All-take P place xs all) (All-drop P (suc place) xs all)

-- ---- by the verdict on it

module _ (profile : Profile) (link place time : ℕ) (message : Message) (slice before : List Connection) (kept none : Connection)
    (same : slice ≡ before) (is : kept ≡ get_or slice place kept) (stands : StandsAt link before place) where
  here : kept ≡ get_or before place none
  here = is ∙ same_kept before slice place kept none same stands.inside

  -- What is due at it.
  heard_due : (dues more : Dues) → dues_in more ≡ dues_in dues ++ due_by message (Some (connection_seen kept))
      → dues_in more ≡ dues_in dues ++ due_by message (Some (connection_seen (get_or before place none)))
  heard_due dues more added = added ∙ ap (λ kept. dues_in dues ++ due_by message (Some (connection_seen kept))) here

  pub heard_accepted : (after : List Connection) (dues more : Dues) → Accepted ≡ verdict_by (connection_seen kept) message
      → IsAcceptedAt place profile time message before after → All (IsSound time) before
      → dues_in more ≡ dues_in dues ++ due_by message (Some (connection_seen kept))
      → IsHeard profile time message (Some (connection_seen (get_or before place none))) before after dues more
  heard_accepted after dues more verdict taken sound added =
      record {
        next = accepted_at link place time profile message before after stands taken none
            ∙ ap (links_after profile time message (connection_seen (get_or before place none)) (map connection_seen before))
            (verdict ∙ ap (λ kept. verdict_by (connection_seen kept) message) here);
        sound = sound_at link place time profile message before after stands taken sound;
        due = heard_due dues more added;
      }

  pub heard_ended : (after : List Connection) (dues more : Dues) → Ended ≡ verdict_by (connection_seen kept) message
      → IsRising (map link_of (map connection_seen before)) → after ≡ remove before place → All (IsSound time) before
      → dues_in more ≡ dues_in dues ++ due_by message (Some (connection_seen kept))
      → IsHeard profile time message (Some (connection_seen (get_or before place none))) before after dues more
  heard_ended after dues more verdict rising removed sound added =
      record {
        next = ap (map connection_seen) removed
            ∙ ended_at link place before rising stands none
            ∙ ap (links_after profile time message (connection_seen (get_or before place none)) (map connection_seen before))
            (verdict ∙ ap (λ kept. verdict_by (connection_seen kept) message) here);
        sound = subst (All (IsSound time)) (sym removed) (all_removed (IsSound time) before place sound);
        due = heard_due dues more added;
      }

-- ---- room

-- Whether there is room beside the link for which a connection is kept.
pub room_beside : (kept link others : ℕ) (connections : List Connection) → link ≢ kept
    → others ≡ length (filter (λ connection. not (kept == connection.link)) connections)
    → nat_lt others (max_live_links - 1) ≡ has_room (Some kept) link (map link_of (map connection_seen connections))
room_beside kept link others connections apart counted =
    ap (λ n. nat_lt n 4) (counted ∙ others_seen kept connections)
    ∙ ap (λ b. b || nat_lt (length (without kept (map link_of (map connection_seen connections)))) 4) (sym (ne_eqb link kept apart))
