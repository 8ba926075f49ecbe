-- Worked examples, computed over the definitions that the contracts cite. Assumes nothing.
use Rattle.std.specs.Prelude.{◌≡◌, ℕ, List, [], ◌∷◌, Some, None, Option}
use Rattle.clauses.specs.declared.kinds.Kind.{Kind}
use Rattle.clauses.specs.declared.kinds.Kind.TheVariants.{Start, Global, Step, Sometime}
use Rattle.clauses.specs.declared.kinds.Scope.TheVariants.{All, Index}
use Rattle.clauses.specs.declared.lines.Line.{Line}
use Rattle.clauses.specs.declared.literals.Literal.{Literal}
use Rattle.clauses.specs.Rules.{marked}
use Rattle.clauses.specs.Steps.{made}
use Rattle.calls.specs.declared.waits.Wait.{Wait}
use Rattle.plans.specs.Rings.{ring_system}
use Rattle.plans.specs.Tables.{pair}
use Rattle.calls.specs.Calls.{Answer, Call, line, refused, kept, broken, resolve, rewrite, enter, stay, judge, answer, after}
use Rattle.calls.specs.Models.{Model}

-- a model, a call on it, what it answers, and the last line afterwards
pub record Example : Type 0 where
  pub before : Model
  pub call : Call
  pub answers : Answer
  pub last : Option Line

abbrev pub last_of : List Line → Option Line
last_of [] = None
last_of (x ∷ []) = Some x
last_of (x ∷ y ∷ xs) = last_of (y ∷ xs)

abbrev pub Holds : Example → Type 0
Holds e = (answer e.before e.call ≡ e.answers) × (last_of (after e.before e.call).lines ≡ e.last)

abbrev pub AllHold : List Example → Type 0
AllHold [] = Unit {0}
AllHold (e ∷ es) = Holds e × AllHold es

abbrev lit : ℕ → Literal
lit n = record { 0 = n }

abbrev rule : Kind → List Literal → List Literal → Line
rule kind left right = marked left right kind

-- four indices, eight places, and these lines and waits
abbrev with : List Line → List Wait → Model
with xs ws = record { indices = 4; room = 8; lines = xs; waits = ws; loops = [] }

-- sometime 0 where 2 holds, with the first wait
abbrev waiting : Model
waiting = with (rule (Sometime All) (lit 2 ∷ []) (lit 0 ∷ []) ∷ []) (record { scope = All; goal = lit 0 } ∷ [])

-- sometime 0
abbrev hope : Line
hope = rule (Sometime All) [] (lit 0 ∷ [])

abbrev hoping : Model
hoping = with (hope ∷ []) (record { scope = All; goal = lit 0 } ∷ [])

abbrev pub examples : List Example
examples =
    -- start {0} and global {1} on literal 0 give start, empty
    record { before = with (rule Start [] (lit 0 ∷ []) ∷ rule Global [] (lit 1 ∷ []) ∷ []) []; call = resolve 0 1 (lit 0); answers = line 2; last = Some (made Start [] [] None) }
    -- steps of the indices 2 and 3 misfit
    ∷ record { before = with (rule (Step (Index 2)) [] (lit 0 ∷ []) ∷ rule (Step (Index 3)) [] (lit 1 ∷ []) ∷ []) []; call = resolve 0 1 (lit 0); answers = refused 13; last = Some (rule (Step (Index 3)) [] (lit 1 ∷ [])) }
    -- rewriting the left {2, 5} gives {3, 4}
    ∷ record { before = with (rule (Step All) (lit 2 ∷ lit 5 ∷ []) [] ∷ []) []; call = rewrite 0; answers = line 1; last = Some (made Global [] (lit 3 ∷ lit 4 ∷ []) None) }
    -- left {2}, goal 0, wait 1,024: enter gives {0, 3, 2048}
    ∷ record { before = waiting; call = enter 0; answers = line 1; last = Some (made Global [] (lit 0 ∷ lit 3 ∷ lit 2048 ∷ []) None) }
    -- and stay gives the left {2048} and the right {0, 2048}
    ∷ record { before = waiting; call = stay 0; answers = line 1; last = Some (made (Step All) (lit 2048 ∷ []) (lit 0 ∷ lit 2048 ∷ []) None) }
    -- a ring of 2 with return 0 and atom 0 at state 1 keeps "sometime 0" with an empty left
    ∷ record { before = hoping; call = judge (ring_system 2 4 0 (pair 1 0 ∷ [])) 256; answers = kept; last = Some hope }
    -- with return 1 and atom 0 at state 0 only, it is broken at state 1
    ∷ record { before = hoping; call = judge (ring_system 2 4 1 (pair 0 0 ∷ [])) 256; answers = broken 0 1; last = Some hope }
    ∷ []
