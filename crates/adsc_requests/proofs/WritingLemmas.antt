-- Groups that are written one behind the other are the groups of a message by rising tag.
use Rattle.std.proofs.Common.{◌≡◌, ℕ, zero, suc, ◌+◌, ◌-◌, ◌<◌, List, [], ◌∷◌, ◌++◌, take, get_or, Bool, if◌then◌else◌, Option, Some, None, option_map, ℤ, refl, sym, ◌∙◌, ap, arith, append-nil, append_assoc}
use Rattle.std.specs.List.{flat_map}
use Rattle.std.proofs.lemmas.List.Concat.{flat_map-append}
use Rattle.adsc_requests.specs.Tables.{is_modulus_tag}
use Rattle.adsc_requests.specs.Contents.{Group, group_if, collected, collected_from, single, octet_8, range_octets, intent_octets, report_octets, event_octets}
use Rattle.adsc_requests.specs.Grammar.{group_octets}
use Rattle.adsc_requests.specs.Writing.{octets_if, collected_octets, modulus_tags, moduli_octets}
use Rattle.adsc_requests.specs.declared.message.Range.{Range}
use Rattle.adsc_requests.specs.declared.message.Intent.{Intent}

collected_from-append : (d : ℕ → Option (List ℕ)) (ts us : List ℕ) → collected_from d (ts ++ us) ≡ collected_from d ts ++ collected_from d us
collected_from-append d [] us = refl
collected_from-append d (t ∷ ts) us =
    ap (λ gs. group_if t (d t) ++ gs) (collected_from-append d ts us) ∙ sym (append_assoc (group_if t (d t)) (collected_from d ts) (collected_from d us))

one_tag_more : (place : ℕ) → place < 6 → take (place + 1) modulus_tags ≡ take place modulus_tags ++ (12 + place) ∷ []
one_tag_more zero below = refl
one_tag_more (suc zero) below = refl
one_tag_more (suc (suc zero)) below = refl
one_tag_more (suc (suc (suc zero))) below = refl
one_tag_more (suc (suc (suc (suc zero)))) below = refl
one_tag_more (suc (suc (suc (suc (suc zero))))) below = refl
one_tag_more (suc (suc (suc (suc (suc (suc n)))))) below = absurd (omega arith)

pub moduli_octets-more : (moduli : List (Option ℕ)) (place : ℕ) → place < 6
    → moduli_octets moduli (take (place + 1) modulus_tags) ≡ moduli_octets moduli (take place modulus_tags) ++ octets_if (12 + place) (option_map single (get_or moduli place None))
moduli_octets-more moduli place below =
    let d : ℕ → Option (List ℕ) = λ t. option_map single (get_or moduli (t - 12) None) in
    let same : 12 + place - 12 ≡ place = omega arith in
    ap (moduli_octets moduli) (one_tag_more place below)
    ∙ ap (flat_map group_octets) (collected_from-append d (take place modulus_tags) ((12 + place) ∷ []))
    ∙ flat_map-append group_octets (collected_from d (take place modulus_tags)) (collected_from d ((12 + place) ∷ []))
    ∙ ap (λ gs. moduli_octets moduli (take place modulus_tags) ++ flat_map group_octets gs) (append-nil (group_if (12 + place) (d (12 + place))))
    ∙ ap (λ k. moduli_octets moduli (take place modulus_tags) ++ octets_if (12 + place) (option_map single (get_or moduli k None))) same

report_parts : (i : Option ℕ) (m : List (Option ℕ)) (n : Option Intent)
    → collected (report_octets i m n) ≡ group_if 11 (option_map single i) ++ (collected_from (λ t. option_map single (get_or m (t - 12) None)) modulus_tags ++ group_if 21 (option_map intent_octets n))
unfolding collected report_octets is_modulus_tag
report_parts i m n = simp (append_assoc, append-nil)

pub report_written : (i : Option ℕ) (m : List (Option ℕ)) (n : Option Intent) (out : List ℕ)
    → ((out ++ octets_if 11 (option_map single i)) ++ moduli_octets m modulus_tags) ++ octets_if 21 (option_map intent_octets n) ≡ out ++ collected_octets (report_octets i m n)
report_written i m n out =
    let a : List Group = group_if 11 (option_map single i) in
    let b : List Group = collected_from (λ t. option_map single (get_or m (t - 12) None)) modulus_tags in
    let c : List Group = group_if 21 (option_map intent_octets n) in
    append_assoc (out ++ flat_map group_octets a) (flat_map group_octets b) (flat_map group_octets c)
    ∙ append_assoc out (flat_map group_octets a) (flat_map group_octets b ++ flat_map group_octets c)
    ∙ ap (λ x. out ++ x) (ap (λ x. flat_map group_octets a ++ x) (sym (flat_map-append group_octets b c))
    ∙ sym (flat_map-append group_octets a (b ++ c)) ∙ ap (flat_map group_octets) (sym (report_parts i m n)))

event_parts : (l : Option ℕ) (v : Option ℤ) (r : Option Range) (w : Bool)
    → collected (event_octets l v r w) ≡ group_if 10 (option_map single l) ++ (group_if 18 (option_map octet_8 v) ++ (group_if 19 (option_map range_octets r) ++ group_if 20 (if w then Some [] else None)))
unfolding collected event_octets
event_parts l v r w = simp append-nil

pub limits_written : (l : Option ℕ) (v : Option ℤ) (r : Option Range) (w : Bool) (out : List ℕ)
    → (((out ++ octets_if 10 (option_map single l)) ++ octets_if 18 (option_map octet_8 v)) ++ octets_if 19 (option_map range_octets r)) ++ octets_if 20 (if w then Some [] else None)
    ≡ out ++ collected_octets (event_octets l v r w)
limits_written l v r w out =
    let a : List Group = group_if 10 (option_map single l) in
    let b : List Group = group_if 18 (option_map octet_8 v) in
    let c : List Group = group_if 19 (option_map range_octets r) in
    let e : List Group = group_if 20 (if w then Some [] else None) in
    append_assoc ((out ++ flat_map group_octets a) ++ flat_map group_octets b) (flat_map group_octets c) (flat_map group_octets e)
    ∙ append_assoc (out ++ flat_map group_octets a) (flat_map group_octets b) (flat_map group_octets c ++ flat_map group_octets e)
    ∙ append_assoc out (flat_map group_octets a) (flat_map group_octets b ++ (flat_map group_octets c ++ flat_map group_octets e))
    ∙ ap (λ x. out ++ x) (ap (λ x. flat_map group_octets a ++ x) (ap (λ x. flat_map group_octets b ++ x) (sym (flat_map-append group_octets c e))
    ∙ sym (flat_map-append group_octets b (c ++ e)))
    ∙ sym (flat_map-append group_octets a (b ++ (c ++ e))) ∙ ap (flat_map group_octets) (sym (event_parts l v r w)))
