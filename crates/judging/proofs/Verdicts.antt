-- The judgement of the lines that are left, line by line. Assumes nothing.
use Rattle.std.proofs.Common.{◌≡◌, ℕ, ◌+◌, ◌<◌, true, false, List, length, get_or, drop, Some, None, ap, ◌∙◌}
use Rattle.std.proofs.lemmas.List.{at_drop_more}
use Rattle.std.proofs.lemmas.Bool.{cond-true, cond-false}
use Rattle.clauses.specs.declared.lines.Line.{Line}
use Rattle.clauses.specs.Lines.{blank}
use Rattle.truth.specs.Systems.{System}
use Rattle.truth.specs.Deciding.{broken_at}
use Rattle.judging.specs.declared.judgements.Judgement.TheVariants.{Broken}
use Rattle.judging.specs.Judging.{judgement_from, or_later}

module _ (sys : System) (lines : List Line) (i : ℕ) (there : i < length lines) where
  -- a line that is no rule does not count
  pub judgement_past : (get_or lines i blank).mark ≡ false → judgement_from i sys (drop i lines) ≡ judgement_from (i + 1) sys (drop (i + 1) lines)
  judgement_past none = at_drop_more (judgement_from i sys) lines i blank there ∙ cond-false _ _ _ none

  module _ (rule : (get_or lines i blank).mark ≡ true) where
    -- nor does a rule that is broken at no state
    pub judgement-kept : broken_at sys (get_or lines i blank) ≡ None → judgement_from i sys (drop i lines) ≡ judgement_from (i + 1) sys (drop (i + 1) lines)
    judgement-kept kept =
        at_drop_more (judgement_from i sys) lines i blank there
        ∙ cond-true _ _ _ rule
        ∙ ap (λ low. or_later i low (judgement_from (i + 1) sys (drop (i + 1) lines))) kept

    -- one that is broken is the judgement
    pub judgement-broken : (s : ℕ) → broken_at sys (get_or lines i blank) ≡ Some s → judgement_from i sys (drop i lines) ≡ Broken i s
    judgement-broken s broken =
        at_drop_more (judgement_from i sys) lines i blank there
        ∙ cond-true _ _ _ rule
        ∙ ap (λ low. or_later i low (judgement_from (i + 1) sys (drop (i + 1) lines))) broken
