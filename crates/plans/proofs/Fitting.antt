-- What holds of a plan that nothing stands against. Assumes nothing.
use Rattle.std.proofs.Common.{◌≡◌, ℕ, ◌+◌, ◌*◌, ◌<◌, ◌≤◌, Bool, true, false, cond, ◌&&◌, ltb, leb, ◌⊎◌, List, [], ◌∷◌, length, get_or, take, is_some, Some, Option, sym, refl, ap, ◌∙◌, inl, inr, ⊎_elim, arith}
use Rattle.std.specs.List.{AllByRecursion as All}
use Rattle.std.proofs.lemmas.Nat.{mul-add-lt}
use Rattle.std.proofs.lemmas.List.{get_or-take, length-take-le}
use Rattle.std.proofs.lemmas.List.Elements.{All-get_or}
use Rattle.std.proofs.lemmas.List.Sums.{AllPass-from_list_all}
use Rattle.std.specs.Ordering.{is_eq}
use Rattle.std.proofs.lemmas.Bool.{true≢false, and_parts, cases_Bool, cases_lt, cond-true, leb-true, le-ltb, lt-ltb, ltb-true, ltb-false, not-false, or_from}
use Rattle.ordered.specs.declared.Pair.{Pair}
use Rattle.ordered.specs.Lists.{ascending, count_below, holds}
use Rattle.ordered.specs.Pairs.{pair_rank}
use Rattle.ordered.proofs.Ascending.{equal_from_test}
use Rattle.ordered.proofs.Pairing.{same_pair}
use Rattle.clauses.specs.Refusals.{Cause, first_of}
use Rattle.truth.specs.Systems.{WellFormed}
use Rattle.plans.specs.declared.rings.Ring.{Ring}
use Rattle.plans.specs.declared.tables.TablePlan.{TablePlan}
use Rattle.plans.specs.Held.{table_of}
use Rattle.plans.specs.Questions.{free_target}
use Rattle.plans.specs.Tables.{leading, moves_fit, pair, pairs_below, sized, table_causes, targets_fit, truths_fit}
use Rattle.plans.specs.Rings.{ring_causes}
use Rattle.plans.proofs.Leading.{leading_at, leading_below, pick}

not_first : (n : ℕ) (t : Bool) (o : Option ℕ) → is_some (cond t (Some n) o) ≡ false → (t ≡ false) × (is_some o ≡ false)
not_first n true o h = absurd (true≢false h)
not_first n false o h = (refl, h)

-- where there is no first cause, none holds
none_holds : (cs : List Cause) → is_some (first_of cs) ≡ false → All (λ c. c.1 ≡ false) cs
none_holds [] h = tt
none_holds (c ∷ cs) h =
    let first = not_first c.0 c.1 (first_of cs) h in
    (first.0, none_holds cs first.1)

sized_parts : (n k : ℕ) → sized n k ≡ true → (1 ≤ n) × (1 ≤ k)
sized_parts n k h =
    let both = and_parts (leb 1 n && leb n 256) (leb 1 k && leb k 16) h in
    (leb-true 1 n (and_parts (leb 1 n) (leb n 256) both.0).0, leb-true 1 k (and_parts (leb 1 k) (leb k 16) both.1).0)

-- pairs below their bounds hold no other
pub none_beyond : (one two s a : ℕ) (ps : List Pair) → pairs_below one two ps ≡ true → (one ≤ s) ⊎ (two ≤ a) → holds pair_rank ps (pair s a) ≡ false
none_beyond one two s a [] fits far = refl
none_beyond one two s a (p ∷ ps) fits far =
    let parts = and_parts (ltb p.first one && ltb p.second two) (pairs_below one two ps) fits in
    let low = and_parts (ltb p.first one) (ltb p.second two) parts.0 in
    or_from _ _
    (⊎_elim
    (λ tie.
    let same = same_pair p (pair s a) (equal_from_test _ tie) in
    let first : p.first < one = ltb-true _ _ low.0 in
    let second : p.second < two = ltb-true _ _ low.1 in
    let at_first : p.first ≡ s = ap (λ (q : Pair). q.first) same in
    let at_second : p.second ≡ a = ap (λ (q : Pair). q.second) same in
    absurd (⊎_elim (λ l. omega arith) (λ l. omega arith) far))
    (λ apart. apart) (cases_Bool (is_eq (pair_rank p (pair s a)))))
    (none_beyond one two s a ps parts.1 far)

below_part : (n : ℕ) (truths : List Pair) → truths_fit n truths ≡ true → pairs_below n 1024 truths ≡ true
below_part n truths fits = (and_parts (leb (length truths) 8192) (pairs_below n 1024 truths) fits).1

-- what is told by the truths of a plan of n states, asked at any state and atom
pub truths_answer : (n s a : ℕ) (truths : List Pair) (told : Bool) → truths_fit n truths ≡ true → told ≡ holds pair_rank truths (pair s a) → record { value : told ≡ (ltb s n && holds pair_rank truths (pair s a)); beyond : 1023 < a → told ≡ false }
truths_answer n s a truths told fits is =
    let below = below_part n truths fits in
    let held = holds pair_rank truths (pair s a) in
    record {
      value = is ∙ ⊎_elim (λ l. ap (λ b. b && held) (sym (lt-ltb s n l))) (λ l. none_beyond n 1024 s a truths below (inl l) ∙ ap (λ b. b && held) (sym (le-ltb s n l))) (cases_lt s n);
      beyond = λ far. is ∙ none_beyond n 1024 s a truths below (inr far);
    }

pub record TableFits (plan : TablePlan) : Type 0 where
  pub begins : 1 ≤ plan.states
  pub indexed : 1 ≤ plan.indices
  pub enough : plan.states * plan.indices ≤ length plan.targets.now
  pub truths_up : ascending pair_rank plan.truths.now ≡ true
  pub moves_up : ascending pair_rank plan.moves.now ≡ true
  pub targets_fit : targets_fit plan.states plan.indices plan.targets.now ≡ true
  pub truths_fit : truths_fit plan.states plan.truths.now ≡ true
  pub moves_fit : pairs_below plan.states plan.states plan.moves.now ≡ true

pub table_fits : (plan : TablePlan) → TableFits plan
table_fits plan =
    let n = plan.states in
    let moves = plan.moves.now in
    let clear = none_holds (table_causes n plan.indices plan.targets.now plan.truths.now moves) plan.lawful in
    let up = and_parts (ascending pair_rank plan.truths.now) (ascending pair_rank moves) (not-false _ clear.1.0) in
    let all = and_parts (sized n plan.indices) _ (not-false _ clear.1.1.0) in
    let sizes = sized_parts n plan.indices all.0 in
    let lists = and_parts (targets_fit n plan.indices plan.targets.now) _ all.1 in
    let pairs = and_parts (truths_fit n plan.truths.now) (moves_fit n moves) lists.1 in
    let free = and_parts (leb (length moves) 4096) (pairs_below n n moves) pairs.1 in
    record {
      begins = sizes.0;
      indexed = sizes.1;
      enough = ltb-false _ _ clear.0;
      truths_up = up.0;
      moves_up = up.1;
      targets_fit = lists.0;
      truths_fit = pairs.0;
      moves_fit = free.1;
    }

module _ (plan : TablePlan) where
  -- the place of a state and an index in the table of targets
  pub target_place : (s i : ℕ) → s < plan.states → i < plan.indices → s * plan.indices + i < plan.states * plan.indices
  target_place s i l m = omega (arith, mul-add-lt s plan.indices i plan.states l m)

  target_state : (s i : ℕ) → s < plan.states → i < plan.indices → get_or plan.targets.now (s * plan.indices + i) 0 < plan.states
  target_state s i l m =
      let n = plan.states in
      let targets = plan.targets.now in
      let used = n * plan.indices in
      let at = s * plan.indices + i in
      let fits = table_fits plan in
      let place = target_place s i l m in
      let under = All-get_or (λ t. ltb t n ≡ true) (take used targets) at 0 (rw (length-take-le used targets fits.enough) place) (AllPass-from_list_all (λ t. ltb t n) (take used targets) fits.targets_fit) in
      ltb-true _ _ (ap (λ t. ltb t n) (sym (get_or-take used targets at 0 place)) ∙ under)

  pub table_formed : WellFormed (table_of plan)
  table_formed =
      let fits = table_fits plan in
      record {
        begins = fits.begins;
        indexed = fits.indexed;
        closed = λ s t l. ⊎_elim (λ m. rw m.2 (target_state s m.0 l m.1)) (λ m. rw m.2 (leading_below s plan.states plan.states plan.moves.now m.0 fits.moves_fit m.1));
      }

  -- the free move of a number, by what stands after all pairs that begin below its state
  pub free_answer : (s j here v : ℕ) → s < plan.states → here ≡ count_below pair_rank plan.moves.now (pair s 0) → pick s plan.moves.now (here + j) ≡ v → v ≡ free_target (table_of plan) s j
  free_answer s j here v l e h =
      let moves = plan.moves.now in
      sym (cond-true (ltb s plan.states) (get_or (leading s moves) j 0) 0 (lt-ltb s plan.states l) ∙ leading_at s moves j (table_fits plan).moves_up ∙ ap (λ m. pick s moves (m + j)) (sym e) ∙ h)

pub record RingFits (plan : Ring) : Type 0 where
  pub truths_up : ascending pair_rank plan.truths.now ≡ true
  pub truths_fit : truths_fit plan.states plan.truths.now ≡ true

pub ring_fits : (plan : Ring) → RingFits plan
ring_fits plan =
    let n = plan.states in
    let clear = none_holds (ring_causes n plan.indices plan.back plan.truths.now) plan.lawful in
    let all = and_parts (sized n plan.indices) _ (not-false _ clear.1.0) in
    let rest = and_parts (ltb plan.back n) (truths_fit n plan.truths.now) all.1 in
    record {
      truths_up = not-false _ clear.0;
      truths_fit = rest.1;
    }
