-- What is found at a line's number. Assumes nothing.
use Rattle.std.proofs.Common.{◌≡◌, ℕ, ◌<◌, true, ltb, List, length, get_or, is_some, IfOk, IfSome, Some, None, Option, sym, refl, subst, MatchResult}
use Rattle.std.specs.Option.{ok_or}
use Rattle.std.proofs.lemmas.Bool.{ltb-true, ltb-false}
use Rattle.std.proofs.lemmas.Option.{get_or_from_slice_get, slice_get_past, slice_get_read, slice_get_within}
use Rattle.clauses.specs.declared.lines.Line.{Line}
use Rattle.clauses.specs.declared.refusals.Refusal.TheVariants.{NotThere}
use Rattle.clauses.specs.Kinds.{kind_under}
use Rattle.clauses.specs.Lines.{blank}
use Rattle.calls.specs.declared.waits.Wait.{Wait}
use Rattle.calls.specs.Calls.{line_at}
use Rattle.calls.specs.Lawful.{indexed, lawful, lawful_line}
use Rattle.calls.specs.Models.{Model}
use Rattle.calls.proofs.Keeping.{indexed_at, lawful_at}
use Rattle.inspection.specs.Held.{MayHave}

-- a line that there is is the one that is read
at_read : (xs : List Line) (n : ℕ) (x : Line) → line_at xs n ≡ Some x → (n < length xs) × (get_or xs n blank ≡ x)
at_read xs n x e = (slice_get_within xs n x e, get_or_from_slice_get xs n x blank e)

-- and it is lawful
pub lawful_there : (ws : List Wait) (xs : List Line) (n : ℕ) (x : Line) → line_at xs n ≡ Some x → lawful ws xs ≡ true → lawful_line ws x ≡ true
lawful_there ws xs n x e h = let at = at_read xs n x e in subst (λ y. lawful_line ws y ≡ true) at.1 (lawful_at ws xs n at.0 h)

module _ (m : Model) (ok : lawful m.waits m.lines ≡ true) (under : indexed m.indices m.lines ≡ true) (n : ℕ) where
  may_have : (x : Line) → line_at m.lines n ≡ Some x → MayHave m x
  may_have x e =
      let at = at_read m.lines n x e in
      record {
        lawful = lawful_there m.waits m.lines n x e ok;
        indexed = subst (λ (y : Line). kind_under m.indices y.kind ≡ true) at.1 (indexed_at m.indices m.lines n at.0 under);
      }

  -- what a look into the table finds, by references to lines
  module _ {B : Type 0} (now : B → Line) where
    pub found : (o : Option B) → is_some o ≡ ltb n (length m.lines) → IfSome o (λ b. now b ≡ get_or m.lines n (now b)) → MatchResult (ok_or o NotThere) (λ b. line_at m.lines n ≡ Some (now b)) (λ e. (e ≡ NotThere) × (line_at m.lines n ≡ None))
    found None some is = (refl, slice_get_past m.lines n (ltb-false n (length m.lines) (sym some)))
    found (Some b) some is = slice_get_read m.lines (length m.lines) n (now b) refl (ltb-true n (length m.lines) (sym some)) is

    pub found_allowed : (r : Option B) → MatchResult (ok_or r NotThere) (λ b. line_at m.lines n ≡ Some (now b)) (λ e. (e ≡ NotThere) × (line_at m.lines n ≡ None)) → IfOk (ok_or r NotThere) (λ b. MayHave m (now b))
    found_allowed None h = tt
    found_allowed (Some b) h = may_have (now b) h
