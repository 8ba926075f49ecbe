-- The elements of a part, read chunk by chunk. Assumes nothing.
use Rattle.std.proofs.Common.{◌≡◌, ℕ, zero, suc, ◌+◌, ◌*◌, ◌/◌, ◌<◌, ◌≤◌, List, ◌∷◌, length, map, take, drop, sym, ap, ◌∙◌, arith, length-drop}
use Rattle.std.proofs.Math.Nat.{mod-lt, suc-mul}
use Rattle.std.proofs.lemmas.Nat.{div-add-mod'}
use Rattle.std.specs.Simd.{first_chunks}
use Rattle.run.specs.Elements.{HeldInTurn}

module _ {X : Type 0} (n : ℕ) (of : List ℕ → X) (all_of : List ℕ → List X) (h : HeldInTurn n of all_of) where
  in_chunks : (k : ℕ) (bs : List ℕ) → k * n ≤ length bs → length bs < k * n + n → map of (first_chunks n k bs) ≡ all_of bs
  in_chunks zero bs low high = sym (h.none_left bs (omega (arith, high)))
  in_chunks (suc k) bs low high =
      let more : suc k * n ≡ k * n + n = suc-mul k n in
      let left : length (drop n bs) + n ≡ length bs = simp length-drop (omega (arith, low, more)) in
      ap (λ l. of (take n bs) ∷ l) (in_chunks k (drop n bs) (omega (arith, low, more, left)) (omega (arith, high, more, left)))
      ∙ sym (h.one_first bs (omega (arith, low, more)))

  -- the chunks of a part are read as the part is
  pub chunks_read : (bs : List ℕ) → map of (first_chunks n (length bs / n) bs) ≡ all_of bs
  chunks_read bs =
      let whole = div-add-mod' (length bs) n in
      let over = mod-lt (length bs) h.some in
      in_chunks (length bs / n) bs (omega (arith, whole)) (omega (arith, whole, over))
