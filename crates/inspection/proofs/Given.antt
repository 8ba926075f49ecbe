-- The waits given out, as the library's searches see them, and what a new wait leaves. Assumes nothing.
use Rattle.std.proofs.Common.{◌≡◌, ℕ, suc, ◌+◌, Bool, true, false, cond, ◌||◌, List, [], ◌∷◌, is_some, Some, None, Ok, Err, Option, Result, refl, ap, ◌∙◌, arith, MatchResult}
use Rattle.std.specs.List.{position, position_from}
use Rattle.std.specs.Option.{option_map}
use Rattle.std.proofs.lemmas.Iterator.Adapters.{position_from-zero}
use Rattle.clauses.specs.declared.lines.Line.{Line}
use Rattle.clauses.specs.declared.refusals.Refusal.{Refusal}
use Rattle.clauses.specs.declared.refusals.Refusal.TheVariants.{NothingLeft}
use Rattle.calls.specs.declared.waits.Wait.{Wait}
use Rattle.calls.specs.Lawful.{lawful}
use Rattle.calls.specs.Waits.{held, place_of, same_wait, waitless, admitted}
use Rattle.calls.proofs.Keeping.{lawful_more}
use Rattle.inspection.specs.declared.waits.Waits.{Waits}
use Rattle.inspection.specs.Waits.{given_out}

-- a wait that was given out has a place
pub held_place : (ws : List Wait) (w : Wait) → held ws w ≡ is_some (place_of ws w)
held_place [] w = refl
held_place (v ∷ vs) w = by-test (same_wait v w) (held_place vs w)
  where
    still : (o : Option ℕ) → is_some o ≡ is_some (option_map suc o)
    still None = refl
    still (Some n) = refl

    by-test : (b : Bool) → held vs w ≡ is_some (place_of vs w) → (b || held vs w) ≡ is_some (cond b (Some 0) (option_map suc (place_of vs w)))
    by-test true later = refl
    by-test false later = later ∙ still (place_of vs w)

-- a search that counts from i
from : (i : ℕ) (ws : List Wait) (w : Wait) → position_from (λ v. same_wait v w) i ws ≡ option_map (λ n. i + n) (place_of ws w)
from i [] w = refl
from i (v ∷ vs) w = by-test (same_wait v w) (from (i + 1) vs w ∙ shifted (place_of vs w))
  where
    shifted : (o : Option ℕ) → option_map (λ n. i + 1 + n) o ≡ option_map (λ n. i + n) (option_map suc o)
    shifted None = refl
    shifted (Some n) = let e : i + 1 + n ≡ i + suc n = omega arith in ap Some e

    by-test : (b : Bool) → position_from (λ v. same_wait v w) (i + 1) vs ≡ option_map (λ n. i + n) (option_map suc (place_of vs w)) → cond b (Some i) (position_from (λ v. same_wait v w) (i + 1) vs) ≡ option_map (λ n. i + n) (cond b (Some 0) (option_map suc (place_of vs w)))
    by-test true later = let e : i ≡ i + 0 = omega arith in ap Some e
    by-test false later = later

pub position_place : (ws : List Wait) (w : Wait) → position (λ v. same_wait v w) ws ≡ place_of ws w
position_place ws w = position_from-zero (λ v. same_wait v w) ws ∙ from 0 ws w ∙ same (place_of ws w)
  where
    same : (o : Option ℕ) → option_map (λ n. 0 + n) o ≡ o
    same None = refl
    same (Some n) = let e : 0 + n ≡ n = omega arith in ap Some e

-- whatever an admission comes to
pub admit_lawful : (r : Result (Unit {0}) Refusal) (before after : Waits) (o : Option Wait) (xs : List Line) → MatchResult r (λ _. (waitless (given_out before) o ≡ false) × (given_out after ≡ admitted (given_out before) o)) (λ e. (e ≡ NothingLeft) × (waitless (given_out before) o ≡ true) × (after ≡ before)) → lawful (given_out before) xs ≡ true → lawful (given_out after) xs ≡ true
admit_lawful (Ok u) before after o xs h k = ap (λ ws. lawful ws xs) h.1 ∙ lawful_more (given_out before) o xs k
admit_lawful (Err e) before after o xs h k = ap (λ w. lawful (given_out w) xs) h.2 ∙ k
