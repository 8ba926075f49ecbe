-- What the tests decide: every path meets a goal or some path avoids it, and a rule is broken at a state or true there. Assumes nothing.
use Rattle.std.proofs.Common.{◌≡◌, ℕ, ◌<◌, Bool, true, false, not, ◌&&◌, eqb, List, Decides, refl, inl, inr, ⊎_elim}
use Rattle.std.proofs.lemmas.Bool.{true≢false, false≢true, both_ways, cases_Bool}
use Rattle.std.proofs.lemmas.Bool.Decides.{Decides-eqb}
use Rattle.clauses.specs.declared.kinds.Kind.{Kind}
use Rattle.clauses.specs.declared.kinds.Kind.TheVariants.{Start, Global, Step, Sometime}
use Rattle.clauses.specs.declared.kinds.Scope.{Scope}
use Rattle.clauses.specs.declared.lines.Line.{Line}
use Rattle.clauses.specs.declared.literals.Literal.{Literal}
use Rattle.clauses.specs.Lines.{literals}
use Rattle.truth.specs.Systems.{System, WellFormed, Speaks}
use Rattle.truth.specs.Truth.{left_at, right_at, Next, Eventually, SaysOf, Says}
use Rattle.truth.specs.Deciding.{every_next, sooner, breaks_of, breaks}
use Rattle.truth.specs.Decided.{PathsDecided, Fits, Told, RulesDecided}
use Rattle.truth.proofs.Nexts.{every_next_intro, every_next_elim}
use Rattle.truth.proofs.Walks.{sooner_meets, sooner_avoids}

-- ---- paths

pub paths_decided : PathsDecided
paths_decided sys scope goal s wf speaks lt =
    ⊎_elim
    (λ e. inl (sooner_meets sys scope (right_at sys goal) s e))
    (λ e. inr (sooner_avoids sys scope (right_at sys goal) wf speaks s lt e))
    (cases_Bool (sooner sys scope (right_at sys goal) s))

-- every path meets the goal exactly if one comes to it sooner or later
pub sooner_decides : (sys : System) (scope : Scope) (goal : List Literal) (s : ℕ) → WellFormed sys → Speaks sys scope → s < sys.states → Decides (sooner sys scope (right_at sys goal) s) (Eventually sys scope goal s)
sooner_decides sys scope goal s wf speaks lt = (
  sooner_meets sys scope (right_at sys goal) s,
  λ all. ⊎_elim (λ e. e)
      (λ e.
      let away = sooner_avoids sys scope (right_at sys goal) wf speaks s lt e in
      let met = all away.0 away.1 in
      absurd (both_ways (right_at sys goal (away.0 met.0)) (away.2 met.0) met.1))
      (cases_Bool (sooner sys scope (right_at sys goal) s)),
)

-- every move leads to where a right holds exactly if the test passes
pub next_decides : (sys : System) (scope : Scope) (right : List Literal) (s : ℕ) → Decides (every_next sys scope (right_at sys right) s) (Next sys scope right s)
next_decides sys scope right s =
    (every_next_elim sys scope (right_at sys right) s, every_next_intro sys scope (right_at sys right) s)

-- ---- rules

-- a test that passes exactly if P is false
abbrev Refutes : Bool → Type 0 → Type 0
Refutes b P = (b ≡ true → P → ⊥) × (b ≡ false → P)

-- of its own passing, of one test, and of an implication between two
holds_itself : (b : Bool) → Decides b (b ≡ true)
holds_itself b = (λ e. e, λ e. e)

refutes_one : {P : Type 0} (b : Bool) → Decides b P → Refutes (not b) P
refutes_one true d = (λ e. absurd (false≢true e), λ e. d.0 refl)
refutes_one false d = (λ e h. false≢true (d.1 h), λ e. absurd (true≢false e))

refutes_implied : {P Q : Type 0} (a b : Bool) → Decides a P → Decides b Q → Refutes (a && not b) (P → Q)
refutes_implied true b d f = let one = refutes_one b f in (λ e h. one.0 e (h (d.0 refl)), λ e h. one.1 e)
refutes_implied false b d f = (λ e. absurd (false≢true e), λ e h. absurd (false≢true (d.1 h)))

-- a rule is tested broken exactly where what it says is false
breaks_refutes : (sys : System) (kind : Kind) (left right : List Literal) (s : ℕ) → WellFormed sys → Fits sys kind → s < sys.states → Refutes (breaks_of sys kind left right s) (SaysOf sys kind left right s)
breaks_refutes sys Start left right s wf fits lt =
    refutes_implied (eqb s 0) (right_at sys right s) (Decides-eqb s 0) (holds_itself (right_at sys right s))
breaks_refutes sys Global left right s wf fits lt = refutes_one (right_at sys right s) (holds_itself (right_at sys right s))
breaks_refutes sys (Step scope) left right s wf fits lt =
    refutes_implied (left_at sys left s) (every_next sys scope (right_at sys right) s) (holds_itself (left_at sys left s)) (next_decides sys scope right s)
breaks_refutes sys (Sometime scope) left right s wf fits lt =
    refutes_implied (left_at sys left s) (sooner sys scope (right_at sys right) s) (holds_itself (left_at sys left s)) (sooner_decides sys scope right s wf fits lt)

-- by either answer
told_from : (sys : System) (rule : Line) (s : ℕ) (b : Bool) → s < sys.states → Refutes b (Says sys rule s) → Told sys rule s b
told_from sys rule s true lt h = (lt, h.0 refl)
told_from sys rule s false lt h = h.1 refl

pub rules_decided : RulesDecided
rules_decided sys rule s wf fits lt =
    told_from sys rule s (breaks sys rule s) lt
    (breaks_refutes sys rule.kind (literals rule.left) (literals rule.right) s wf fits lt)
