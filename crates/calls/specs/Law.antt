-- The law over every list of calls on a newly opened inspection. Assumes nothing.
use Rattle.std.specs.Prelude.{◌≡◌, ℕ, List, [], ◌∷◌, None, ◌≢◌, slice_index_or}
use Rattle.clauses.specs.Lines.{blank}
use Rattle.clauses.specs.Refusals.{first_of}
use Rattle.truth.specs.Systems.{System, WellFormed}
use Rattle.truth.specs.Truth.{Keeps}
use Rattle.judging.specs.declared.judgements.Judgement.{Judgement}
use Rattle.judging.specs.Judging.{IsRule, Judged}
use Rattle.calls.specs.Calls.{Call, rule, resolve, rewrite, enter, stay, verdict, judge, loop, row, ready, end, drop, now, later, impossible, kept, judged_as, after, answer, causes}
use Rattle.calls.specs.Models.{Model, fresh}

-- one call after another, refused ones too
abbrev pub after_all : Model → List Call → Model
after_all m [] = m
after_all m (c ∷ cs) = after_all (after m c) cs

-- an inspection of k indices, with place for so many lines, after these calls
abbrev pub reached : ℕ → ℕ → List Call → Model
reached k room cs = after_all (fresh k room) cs

-- the system keeps every rule accepted by then
abbrev pub KeepsAll : System → Model → Type 0
KeepsAll sys m = (n : ℕ) → IsRule m.lines n → Keeps sys (slice_index_or m.lines n blank)

abbrev pub IsRuleCall : Call → Type 0
IsRuleCall (rule n i l r) = Unit {0}
IsRuleCall (resolve a b l) = ⊥
IsRuleCall (rewrite n) = ⊥
IsRuleCall (enter n) = ⊥
IsRuleCall (stay n) = ⊥
IsRuleCall verdict = ⊥
IsRuleCall (judge sys bytes) = ⊥
IsRuleCall (loop n) = ⊥
IsRuleCall (row n p) = ⊥
IsRuleCall (ready n) = ⊥
IsRuleCall (end n) = ⊥
IsRuleCall (drop n) = ⊥
IsRuleCall (now n r i) = ⊥
IsRuleCall (later n r) = ⊥

-- no rule is accepted among these calls
abbrev pub NoRule : Model → List Call → Type 0
NoRule m [] = Unit {0}
NoRule m (c ∷ cs) = (IsRuleCall c → first_of (causes m c) ≢ None) × NoRule (after m c) cs

-- for every inspection and every list of calls
pub record Law : Type 0 where
  -- impossible is said only where no system with those indices, of any number of states, keeps every rule accepted by then
  pub impossible_true : (k room : ℕ) (cs : List Call) (n : ℕ) → answer (reached k room cs) verdict ≡ impossible n → (sys : System) → WellFormed sys → sys.indices ≡ k → KeepsAll sys (reached k room cs) → ⊥
  -- kept and broken are true of the plan's system: the lowest rule, and for it the lowest state
  pub judged_true : (k room : ℕ) (cs : List Call) (sys : System) (bytes : ℕ) (j : Judgement) → WellFormed sys → answer (reached k room cs) (judge sys bytes) ≡ judged_as j → Judged sys (reached k room cs).lines j
  -- after impossible no plan is ever judged kept
  pub never_kept : (k room : ℕ) (cs ds : List Call) (n : ℕ) (sys : System) (bytes : ℕ) → WellFormed sys → answer (reached k room cs) verdict ≡ impossible n → answer (after_all (reached k room cs) ds) (judge sys bytes) ≢ kept
  -- after kept, impossible is not said until another rule has been accepted
  pub never_impossible : (k room : ℕ) (cs ds : List Call) (n : ℕ) (sys : System) (bytes : ℕ) → WellFormed sys → answer (reached k room cs) (judge sys bytes) ≡ kept → NoRule (reached k room cs) ds → answer (after_all (reached k room cs) ds) verdict ≢ impossible n
