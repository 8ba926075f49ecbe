use Rattle.std.proofs.Common.{◌≡◌, ◌+◌, ◌++◌, [], ◌∷◌, length, set, ap, ◌∙◌, length-append, arith}
use Rattle.clauses.proofs.Joining.{pushed}
use Rattle.clauses.proofs.lines.Side.push.Goals as goal

pub returns : goal.returns
returns c = λ xs is.
    let x = c.args.literal in
    let n : c.from.result ≡ length xs = c.from.ensures ∙ (λ i. (is i).count) in
    let count : c.args.self.now.count + 1 ≡ length (xs ++ x ∷ []) = omega (arith, length-append xs (x ∷ []), ap (λ s. s.count) is) in
    let places = (λ i. set (is i).places (n i) x) ∙ pushed xs x (omega arith) in
    λ i. record { count = count i; places = places i }
