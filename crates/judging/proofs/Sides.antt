-- A side as a test of each of its literals. Assumes nothing.
use Rattle.std.proofs.Common.{◌≡◌, ℕ, ◌&&◌, ◌||◌, List, [], ◌∷◌, refl, ap}
use Rattle.std.specs.List.{list_all, list_any}
use Rattle.clauses.specs.declared.literals.Literal.{Literal}
use Rattle.truth.specs.Systems.{System}
use Rattle.truth.specs.Truth.{left_at, literal_at, right_at}

module _ (sys : System) (s : ℕ) where
  pub left_all : (side : List Literal) → list_all (literal_at sys s) side ≡ left_at sys side s
  left_all [] = refl
  left_all (l ∷ ls) = ap (λ b. literal_at sys s l && b) (left_all ls)

  pub right_any : (side : List Literal) → list_any (literal_at sys s) side ≡ right_at sys side s
  right_any [] = refl
  right_any (l ∷ ls) = ap (λ b. literal_at sys s l || b) (right_any ls)
