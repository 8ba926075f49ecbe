-- A judgement in words. Assumes nothing.
use Rattle.std.specs.Prelude.{ℕ, List, ◌++◌, codes, decimal}
use Rattle.judging.specs.declared.judgements.Judgement.{Judgement}
use Rattle.judging.specs.declared.judgements.Judgement.TheVariants.{Kept, Broken}

-- the rule and the state that are named, in this order
abbrev pub judgement_text : Judgement → List ℕ
judgement_text Kept = codes "kept"
judgement_text (Broken n s) = codes "broken " ++ (decimal n ++ (codes " " ++ decimal s))
