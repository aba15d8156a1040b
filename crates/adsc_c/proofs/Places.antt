-- What stands at a place of an uplink's flat struct.
use Rattle.std.proofs.Common.{◌≡◌, ℕ, zero, suc, ◌<◌, ◌≤◌, List, [], ◌∷◌, length, Option, Some, None, refl, sym, ◌∙◌, ap, subst, arith}
use Rattle.std.specs.Prelude.{slice_index_or, IfSome, IsSome}
use Rattle.adsc_requests.specs.declared.message.Message.{Message}
use Rattle.adsc_requests.specs.declared.message.Uplink.{Uplink}
use Rattle.adsc_c.specs.declared.structs.FlatUplink.{FlatUplink}
use Rattle.adsc_c.specs.Uplinks.{SpellsMessage, flat_at, flat_message, flat_uplink, no_message}

pub message_is_there : (messages : List Message) (place : ℕ) → place < length messages → SpellsMessage (flat_at messages place)
message_is_there [] place below = absurd (omega arith)
message_is_there (m ∷ ms) zero below = (m, refl)
message_is_there (m ∷ ms) (suc place) below = message_is_there ms place (omega arith)

pub none_is_behind : (messages : List Message) (place : ℕ) → length messages ≤ place → flat_at messages place ≡ no_message
none_is_behind [] place above = refl
none_is_behind (m ∷ ms) zero above = absurd (omega arith)
none_is_behind (m ∷ ms) (suc place) above = none_is_behind ms place (omega arith)

pub stands_at : (u : Uplink) (flat : FlatUplink) (place : ℕ) → place < 4 → flat_uplink u ≡ flat
    → slice_index_or flat.messages place no_message ≡ flat_at u.messages.items place
stands_at u flat zero below same = ap (λ (f : FlatUplink). slice_index_or f.messages 0 no_message) (sym same)
stands_at u flat (suc zero) below same = ap (λ (f : FlatUplink). slice_index_or f.messages 1 no_message) (sym same)
stands_at u flat (suc (suc zero)) below same = ap (λ (f : FlatUplink). slice_index_or f.messages 2 no_message) (sym same)
stands_at u flat (suc (suc (suc zero))) below same = ap (λ (f : FlatUplink). slice_index_or f.messages 3 no_message) (sym same)
stands_at u flat (suc (suc (suc (suc place)))) below same = absurd (omega arith)

-- What was read is spelled.
pub spelled_of : {A F : Type 0} (flat_of : A → F) (read : Option A) (flat : F) (value : A)
    → IfSome read (λ v. flat_of v ≡ flat) → read ≡ Some value → flat_of value ≡ flat
spelled_of {A = A} flat_of read flat value spelled is = subst (λ (x : Option A). IfSome x (λ v. flat_of v ≡ flat)) is spelled

-- Where an uplink has a message, reading gives one.
pub given_is_read : (u : Uplink) (flat : FlatUplink) (place : ℕ) (read : Option Message) → place < 4 → place < flat.count → flat_uplink u ≡ flat
    → ((m : Message) → flat_message m ≡ slice_index_or flat.messages place no_message → IsSome read) → IsSome read
given_is_read u flat place read few inside same each =
    let there : SpellsMessage (flat_at u.messages.items place) =
    message_is_there u.messages.items place (subst (λ (n : ℕ). place < n) (sym (ap (λ (f : FlatUplink). f.count) same)) inside) in
    each there.0 (there.1 ∙ sym (stands_at u flat place few same))

-- Where an uplink has none, none stands.
pub none_stands : (u : Uplink) (flat : FlatUplink) (place : ℕ) → place < 4 → flat.count ≤ place → flat_uplink u ≡ flat
    → slice_index_or flat.messages place no_message ≡ no_message
none_stands u flat place few outside same =
    stands_at u flat place few same
    ∙ none_is_behind u.messages.items place (subst (λ (n : ℕ). n ≤ place) (sym (ap (λ (f : FlatUplink). f.count) same)) outside)

pub none_is_not_some : (read : Option Message) → read ≡ None → IsSome read → ⊥
none_is_not_some read none some = cc
