-- What one entry adds to the downlinks of a journal on a link (this project's profile).
use Rattle.std.specs.Prelude.{ℕ, List, [], ◌∷◌, ◌++◌, Option, Some, None}
use Rattle.std.specs.Borrow.{Bor}
use Rattle.aircraft_core.specs.declared.entry.Entry.{Entry}
use Rattle.aircraft_core.specs.Downlinks.{AreDownlinks}
use Rattle.aircraft_core.specs.Setting.{Setting}

-- The entry adds these texts to the downlinks of the journal on the link: with them behind, they are those of the journal with the entry.
pub record AreAdded (setting : Setting) (journal : List Entry) (entry : Entry) (link : ℕ) (texts : List (List ℕ)) : Type 0 where
  pub before : List (List ℕ)
  pub are_before : AreDownlinks setting journal link before
  pub are_after : AreDownlinks setting (journal ++ entry ∷ []) link (before ++ texts)

-- A text that may be there, as a list.
abbrev pub listed : Option (Bor (List ℕ)) → List (List ℕ)
listed None = []
listed (Some text) = text.now ∷ []
