-- Members of lists.
use Rattle.std.proofs.Common.{◌≡◌, ◌⊎◌, inl, inr, Bool, true, false, cond, List, [], ◌∷◌, ◌++◌, map, filter, refl, sym, ap, ◌∙◌, subst}
use Rattle.run_rules.specs.Among.{IsAmong}

module _ {A : Type 0} where
  pub among_front : (item : A) (front back : List A) → IsAmong item front → IsAmong item (front ++ back)
  among_front item [] back among = absurd among
  among_front item (other ∷ front) back (inl e) = inl e
  among_front item (other ∷ front) back (inr among) = inr (among_front item front back among)

  pub among_back : (item : A) (front back : List A) → IsAmong item back → IsAmong item (front ++ back)
  among_back item [] back among = among
  among_back item (other ∷ front) back among = inr (among_back item front back among)

  pub among_parts : (item : A) (front back : List A) → IsAmong item (front ++ back) → IsAmong item front ⊎ IsAmong item back
  among_parts item [] back among = inr among
  among_parts item (other ∷ front) back (inl e) = inl (inl e)
  among_parts item (other ∷ front) back (inr among) = at (among_parts item front back among)
    where
      at : IsAmong item front ⊎ IsAmong item back → IsAmong item (other ∷ front) ⊎ IsAmong item back
      at (inl among) = inl (inr among)
      at (inr among) = inr among

  pub among_filter : (test : A → Bool) (item : A) (items : List A) → IsAmong item items → test item ≡ true → IsAmong item (filter test items)
  among_filter test item [] among passes = absurd among
  among_filter test item (other ∷ items) (inl e) passes =
      subst (λ b. IsAmong item (cond b (other ∷ filter test items) (filter test items))) (sym passes ∙ ap test (sym e)) (inl e)
  among_filter test item (other ∷ items) (inr among) passes = at (test other) (among_filter test item items among passes)
    where
      at : (b : Bool) → IsAmong item (filter test items) → IsAmong item (cond b (other ∷ filter test items) (filter test items))
      at true among = inr among
      at false among = among

  pub filter_among : (test : A → Bool) (item : A) (items : List A) → IsAmong item (filter test items) → IsAmong item items × (test item ≡ true)
  filter_among test item [] among = absurd among
  filter_among test item (other ∷ items) among = at (test other) refl (filter_among test item items) among
    where
      at : (b : Bool) → test other ≡ b → (IsAmong item (filter test items) → IsAmong item items × (test item ≡ true))
          → IsAmong item (cond b (other ∷ filter test items) (filter test items)) → IsAmong item (other ∷ items) × (test item ≡ true)
      at true passes later (inl e) = (inl e, ap test (sym e) ∙ passes)
      at true passes later (inr among) = (inr (later among).0, (later among).1)
      at false passes later among = (inr (later among).0, (later among).1)

module _ {A B : Type 0} (f : A → B) where
  pub among_map : (item : A) (items : List A) → IsAmong item items → IsAmong (f item) (map f items)
  among_map item [] among = absurd among
  among_map item (other ∷ items) (inl e) = inl (ap f e)
  among_map item (other ∷ items) (inr among) = inr (among_map item items among)

  pub among_mapped : (image : B) (items : List A) → IsAmong image (map f items) → (item : A) × IsAmong item items × (f item ≡ image)
  among_mapped image [] among = absurd among
  among_mapped image (other ∷ items) (inl e) = (other, inl refl, e)
  among_mapped image (other ∷ items) (inr among) = let found = among_mapped image items among in (found.0, inr found.1, found.2)
