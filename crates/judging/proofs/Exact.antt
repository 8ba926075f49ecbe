-- The judgement is the one that the rules ask for, and no other is. Assumes nothing.
use Rattle.std.proofs.Common.{◌≡◌, ℕ, zero, suc, ◌+◌, ◌<◌, Bool, true, false, List, length, get_or, drop, Some, None, Option, sym, refl, subst, ap₂, ⊎_elim, arith}
use Rattle.std.proofs.lemmas.List.{at_drop_all}
use Rattle.std.proofs.lemmas.Bool.{both_ways, cases_Bool, cases_lt, cases_order}
use Rattle.clauses.specs.declared.lines.Line.{Line}
use Rattle.clauses.specs.Lines.{blank}
use Rattle.truth.specs.Systems.{System, WellFormed}
use Rattle.truth.specs.Truth.{Breaks, Keeps, Says}
use Rattle.truth.specs.Decided.{Told}
use Rattle.truth.specs.Deciding.{breaks, broken_at}
use Rattle.truth.proofs.Rulings.{rules_decided}
use Rattle.judging.specs.declared.judgements.Judgement.{Judgement}
use Rattle.judging.specs.declared.judgements.Judgement.TheVariants.{Kept, Broken}
use Rattle.judging.specs.Judging.{AllFit, Exactly, IsRule, Judged, judgement, judgement_from}
use Rattle.judging.proofs.Lowest.{Tells, lowest_tells}
use Rattle.judging.proofs.Verdicts.{judgement-broken, judgement-kept, judgement_past}

-- ---- there is only one

module _ (sys : System) (lines : List Line) where
  -- a rule that is kept is broken nowhere
  not_both : (n s : ℕ) → Breaks sys (get_or lines n blank) s → Keeps sys (get_or lines n blank) → ⊥
  not_both n s broken keeps = broken.1 (keeps s broken.0)

  -- of two broken rules neither is the lower
  not_lower_rule : (n s m t : ℕ) → Judged sys lines (Broken n s) → Judged sys lines (Broken m t) → n < m → ⊥
  not_lower_rule n s m t a b lt = not_both n s a.1 (b.3 n lt a.0)

  -- nor of two states of one rule
  not_lower_state : (n s m t : ℕ) → Judged sys lines (Broken n s) → Judged sys lines (Broken m t) → m ≡ n → s < t → ⊥
  not_lower_state n s m t a b is lt = a.1.1 (subst (λ k. Says sys (get_or lines k blank) s) is (b.2 s lt))

  judged_once : (a b : Judgement) → Judged sys lines a → Judged sys lines b → a ≡ b
  judged_once Kept Kept h k = refl
  judged_once Kept (Broken n s) h k = absurd (not_both n s k.1 (h n k.0))
  judged_once (Broken n s) Kept h k = absurd (not_both n s h.1 (k n h.0))
  judged_once (Broken n s) (Broken m t) h k =
      ⊎_elim
      (λ rule. ⊎_elim (λ state. ap₂ Broken rule state)
      (⊎_elim (λ lt. absurd (not_lower_state n s m t h k (sym rule) lt)) (λ lt. absurd (not_lower_state m t n s k h rule lt)))
      (cases_order s t))
      (⊎_elim (λ lt. absurd (not_lower_rule n s m t h k lt)) (λ lt. absurd (not_lower_rule m t n s k h lt)))
      (cases_order n m)

-- ---- and the computed one is it

module _ (sys : System) (lines : List Line) (formed : WellFormed sys) (fits : AllFit sys lines) where
  -- by the test of a rule at a state, what is true of it there
  ruled : (n s : ℕ) (b : Bool) → n < length lines → s < sys.states → breaks sys (get_or lines n blank) s ≡ b → Told sys (get_or lines n blank) s b
  ruled n s b there lt told =
      subst (Told sys (get_or lines n blank) s) told (rules_decided sys (get_or lines n blank) s formed (fits n there) lt)

  -- every rule before the line i is kept
  abbrev KeptBefore : ℕ → Type 0
  KeptBefore i = (m : ℕ) → m < i → IsRule lines m → Keeps sys (get_or lines m blank)

  kept_more : (i : ℕ) → KeptBefore i → (IsRule lines i → Keeps sys (get_or lines i blank)) → KeptBefore (i + 1)
  kept_more i before here m lt rule =
      ⊎_elim
      (λ low. before m low rule)
      (λ high.
      let is : m ≡ i = omega arith in
      subst (λ k. Keeps sys (get_or lines k blank)) (sym is) (here (subst (IsRule lines) is rule)))
      (cases_lt m i)

  module _ (i : ℕ) (there : i < length lines) (before : KeptBefore i) (later : KeptBefore (i + 1) → Judged sys lines (judgement_from (i + 1) sys (drop (i + 1) lines))) where
    -- at a line that is no rule
    judged-past : (get_or lines i blank).mark ≡ false → Judged sys lines (judgement_from i sys (drop i lines))
    judged-past none =
        subst (Judged sys lines) (sym (judgement_past sys lines i there none))
        (later (kept_more i before (λ rule. absurd (both_ways _ none rule.1))))

    -- at a rule, by the lowest state at which it is broken
    judged-rule : (low : Option ℕ) → (get_or lines i blank).mark ≡ true → broken_at sys (get_or lines i blank) ≡ low → Tells sys.states (breaks sys (get_or lines i blank)) low → Judged sys lines (judgement_from i sys (drop i lines))
    judged-rule None rule is tells =
        subst (Judged sys lines) (sym (judgement-kept sys lines i there rule is))
        (later (kept_more i before (λ _ s lt. ruled i s false there lt (tells s lt))))
    judged-rule (Some s) rule is tells =
        subst (Judged sys lines) (sym (judgement-broken sys lines i there rule s is))
        ((there, rule), ruled i s true there tells.0 tells.1, (λ t lt. let low = tells.0 in ruled i t false there (omega arith) (tells.2 t lt)), before)

  -- by how many lines are left
  judged_from : (k i : ℕ) → i + k ≡ length lines → KeptBefore i → Judged sys lines (judgement_from i sys (drop i lines))
  judged_from zero i left before =
      subst (Judged sys lines) (sym (at_drop_all (judgement_from i sys) lines i (omega arith)))
      (λ n rule. let there = rule.0 in before n (omega arith) rule)
  judged_from (suc k) i left before =
      let there : i < length lines = omega arith in
      ⊎_elim
      (λ rule. judged-rule i there before (judged_from k (i + 1) (omega arith)) (broken_at sys (get_or lines i blank)) rule refl (lowest_tells sys.states (breaks sys (get_or lines i blank))))
      (judged-past i there before (judged_from k (i + 1) (omega arith)))
      (cases_Bool (get_or lines i blank).mark)

  pub judgement_exact : Exactly sys lines (judgement sys lines)
  judgement_exact =
      let is = judged_from (length lines) 0 (omega arith) (λ m lt. absurd (omega arith)) in
      (is, λ j h. judged_once sys lines j (judgement sys lines) h is)
