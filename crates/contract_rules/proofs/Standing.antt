-- What stands was begun, and not ended since; and the other way round.
use Rattle.std.proofs.Common.{◌≡◌, Bool, true, false, cond, not, ◌&&◌, List, [], ◌∷◌, ◌++◌, Option, Some, None, is_some, refl, ap, sym, ◌∙◌}
use Rattle.std.specs.List.{list_all}
use Rattle.std.specs.Option.{option_or}
use Rattle.std.proofs.lemmas.Bool.{and_parts}
use Rattle.contract_rules.specs.LookingBack.{standing, unless}

pub unless_open : {B : Type 0} (ended : B → Bool) (s : Option B) (b : B) → unless ended s ≡ Some b → (s ≡ Some b) × (ended b ≡ false)
unless_open ended None b e = absurd (let h : None ≡ Some b = e in cc)
unless_open ended (Some c) b e = at (ended c) refl e
  where
    at : (x : Bool) → ended c ≡ x → cond x None (Some c) ≡ Some b → (Some c ≡ Some b) × (ended b ≡ false)
    at true kept e = absurd (let h : None ≡ Some b = e in cc)
    at false kept e = (e, (let same : c ≡ b = cc in ap ended (sym same) ∙ kept))

module _ {A B : Type 0} (begins : A → Option B) (ends : B → A → Bool) where
  pub record Stood (past : List A) (b : B) : Type 0 where
    pub newer : List A
    pub act : A
    pub older : List A
    pub split : past ≡ newer ++ act ∷ older
    pub begun : begins act ≡ Some b
    pub no_other : list_all (λ a. not (is_some (begins a))) newer ≡ true
    pub not_ended : list_all (λ a. not (ends b a)) newer ≡ true

  pub stood_next : (act : A) (past : List A) (b : B) → begins act ≡ None → ends b act ≡ false → Stood past b → Stood (act ∷ past) b
  stood_next act past b none kept stood =
      record {
        newer = act ∷ stood.newer;
        act = stood.act;
        older = stood.older;
        split = ap (λ acts. act ∷ acts) stood.split;
        begun = stood.begun;
        no_other = ap (λ o. not (is_some o) && list_all (λ a. not (is_some (begins a))) stood.newer) none ∙ stood.no_other;
        not_ended = ap (λ e. not e && list_all (λ a. not (ends b a)) stood.newer) kept ∙ stood.not_ended;
      }

  pub stood_if : (past : List A) (b : B) → standing begins ends past ≡ Some b → Stood past b
  stood_if [] b e = absurd (let h : None ≡ Some b = e in cc)
  stood_if (act ∷ past) b e = at (stood_if past b) (begins act) refl e
    where
      at : (standing begins ends past ≡ Some b → Stood past b) → (o : Option B) → begins act ≡ o
          → option_or o (unless (λ c. ends c act) (standing begins ends past)) ≡ Some b → Stood (act ∷ past) b
      at before (Some c) now e =
          record { newer = []; act = act; older = past; split = refl; begun = now ∙ e; no_other = refl; not_ended = refl }
      at before None now e =
          let parts = unless_open (λ c. ends c act) (standing begins ends past) b e in
          stood_next act past b now parts.1 (before parts.0)

  pub stands_from : (newer : List A) (act : A) (older : List A) (b : B) → begins act ≡ Some b
      → list_all (λ a. not (is_some (begins a))) newer ≡ true → list_all (λ a. not (ends b a)) newer ≡ true
      → standing begins ends (newer ++ act ∷ older) ≡ Some b
  stands_from [] act older b begun none kept =
      ap (λ o. option_or o (unless (λ c. ends c act) (standing begins ends older))) begun
  stands_from (next ∷ newer) act older b begun none kept =
      at (begins next) refl (ends b next) refl
      (and_parts (not (is_some (begins next))) (list_all (λ a. not (is_some (begins a))) newer) none)
      (and_parts (not (ends b next)) (list_all (λ a. not (ends b a)) newer) kept)
      (stands_from newer act older b begun)
    where
      at : (o : Option B) → begins next ≡ o → (x : Bool) → ends b next ≡ x
          → (not (is_some (begins next)) ≡ true) × (list_all (λ a. not (is_some (begins a))) newer ≡ true)
          → (not (ends b next) ≡ true) × (list_all (λ a. not (ends b a)) newer ≡ true)
          → (list_all (λ a. not (is_some (begins a))) newer ≡ true → list_all (λ a. not (ends b a)) newer ≡ true → standing begins ends (newer ++ act ∷ older) ≡ Some b)
          → standing begins ends (next ∷ newer ++ act ∷ older) ≡ Some b
      at (Some c) now x ended none kept before = absurd (let h : not (is_some (begins next)) ≡ false = ap (λ o. not (is_some o)) now in cc)
      at None now true ended none kept before = absurd (let h : not (ends b next) ≡ false = ap not ended in cc)
      at None now false ended none kept before =
          ap (λ o. option_or o (unless (λ c. ends c next) (standing begins ends (newer ++ act ∷ older)))) now
          ∙ ap (unless (λ c. ends c next)) (before none.1 kept.1)
          ∙ ap (λ x. cond x None (Some b)) ended

  pub stood_only_if : (past : List A) (b : B) → Stood past b → standing begins ends past ≡ Some b
  stood_only_if past b stood =
      ap (standing begins ends) stood.split ∙ stands_from stood.newer stood.act stood.older b stood.begun stood.no_other stood.not_ended
