-- The fields of a file, in order. Assumes nothing.
use Rattle.std.specs.Prelude.{ℕ, zero, suc, List, [], ◌∷◌, length}
use Rattle.fields.specs.declared.shapes.Source.{Source}
use Rattle.fields.specs.Parse.{ended, shows, refuses, parse}
use Rattle.fields.specs.Shown.{Shown}

-- a field that is shown, or the number by which the reader refuses it; each with its offset
pub data Item : Type 0 where
  shown : ℕ → Shown → Item
  flawed : ℕ → ℕ → Item

-- at most n fields, from the place p on
abbrev pub items_from : ℕ → Source → List ℕ → ℕ → List Item
items_from zero source bytes p = []
items_from (suc n) source bytes p = elim (parse source bytes p) [ ended ↦ [] | shows f q ↦ shown p f ∷ items_from n source bytes q | refuses c q ↦ flawed p c ∷ items_from n source bytes q ]

-- all of them: a field has a byte at least, but for the begin that a book of no bytes lacks
abbrev pub items_of : Source → List ℕ → List Item
items_of source bytes = items_from (suc (length bytes)) source bytes 0
