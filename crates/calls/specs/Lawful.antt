-- What holds of every line made: its sides ascend and fit its kind, what it waits for has been given out, and its index is one of the
-- inspection's. Assumes nothing.
use Rattle.std.specs.Prelude.{ℕ, Bool, true, ◌&&◌, List, [], ◌∷◌, length, Some, None, Option, nat_le}
use Rattle.clauses.specs.declared.lines.Line.{Line}
use Rattle.clauses.specs.Kinds.{kind_under}
use Rattle.clauses.specs.Lines.{literals}
use Rattle.clauses.specs.Rules.{most_left, shaped}
use Rattle.clauses.specs.Steps.{proper}
use Rattle.calls.specs.declared.waits.Wait.{Wait}
use Rattle.calls.specs.Waits.{held, wait_of}

abbrev pub waited : List Wait → Option Wait → Bool
waited ws None = true
waited ws (Some w) = held ws w

-- each side has as many literals as its kind allows
abbrev pub sized : Line → Bool
sized x = nat_le (length (literals x.left)) (most_left x.kind) && shaped x.kind (length (literals x.left)) (length (literals x.right))

abbrev pub lawful_line : List Wait → Line → Bool
lawful_line ws x = proper x && (waited ws (wait_of x) && sized x)

abbrev pub lawful : List Wait → List Line → Bool
lawful ws [] = true
lawful ws (x ∷ xs) = lawful_line ws x && lawful ws xs

-- the index of each line, where it has one, is below k
abbrev pub indexed : ℕ → List Line → Bool
indexed k [] = true
indexed k (x ∷ xs) = kind_under k x.kind && indexed k xs
