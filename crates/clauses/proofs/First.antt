-- The first cause of two lists of causes, one after the other. Assumes nothing.
use Rattle.std.proofs.Common.{◌≡◌, ℕ, Bool, true, false, cond, List, [], ◌∷◌, ◌++◌, Some, None, Option, refl, ap, ◌∙◌}
use Rattle.clauses.specs.Refusals.{Cause, first_of}

-- the first of two answers that there is
abbrev pub or_else : Option ℕ → Option ℕ → Option ℕ
or_else None b = b
or_else (Some n) b = Some n

choose : (t : Bool) (n : ℕ) (a b : Option ℕ) → cond t (Some n) (or_else a b) ≡ or_else (cond t (Some n) a) b
choose true n a b = refl
choose false n a b = refl

pub first_of_append : (xs ys : List Cause) → first_of (xs ++ ys) ≡ or_else (first_of xs) (first_of ys)
first_of_append [] ys = refl
first_of_append (x ∷ xs) ys = ap (cond x.1 (Some x.0)) (first_of_append xs ys) ∙ choose x.1 x.0 (first_of xs) (first_of ys)

-- with one cause at the end
pub first_before : (xs : List Cause) (c : Cause) (n : ℕ) → first_of xs ≡ Some n → first_of (xs ++ c ∷ []) ≡ Some n
first_before xs c n e = first_of_append xs (c ∷ []) ∙ ap (λ a. or_else a (first_of (c ∷ []))) e

pub first_last : (xs : List Cause) (c : Cause) → first_of xs ≡ None → first_of (xs ++ c ∷ []) ≡ cond c.1 (Some c.0) None
first_last xs c e = first_of_append xs (c ∷ []) ∙ ap (λ a. or_else a (first_of (c ∷ []))) e
