-- Tables with lines laid over their front. Assumes nothing.
use Rattle.std.proofs.Common.{◌≡◌, ℕ, suc, ◌<◌, ◌≤◌, List, [], ◌∷◌, ◌++◌, length, take, drop, set, sym, refl, ap, ◌∙◌, ⊎_elim, append_assoc, append-nil, add-one, arith}
use Rattle.std.proofs.lemmas.List.{drop_all, length-take-le, length_push, set_split, take_all, take-append-drop}
use Rattle.std.proofs.lemmas.Slice.{drop-append-drop}
use Rattle.std.proofs.str.Laws.{order}
use Rattle.clauses.specs.declared.lines.Line.{Line}
use Rattle.calls.specs.Models.{overlay}

-- a table's own front
pub overlay_same : (table : List Line) (n : ℕ) → overlay (take n table) table ≡ table
overlay_same table n =
    ⊎_elim
    (λ (h : n < length table). ap (λ k. take n table ++ drop k table) (length-take-le n table (omega arith)) ∙ take-append-drop n table)
    (λ (h : length table ≤ n). ap (λ t. t ++ drop (length t) table) (take_all n table h) ∙ ap (λ t. table ++ t) (drop_all (length table) table (omega arith)) ∙ append-nil table)
    (order n (length table))

-- one line more
pub overlay_set : (table : List Line) (n : ℕ) (x : Line) → n < length table → overlay (take n table ++ x ∷ []) table ≡ set table n x
overlay_set table n x h =
    let long : length (take n table ++ x ∷ []) ≡ suc n = length_push (take n table) x ∙ add-one (length (take n table)) ∙ ap suc (length-take-le n table (omega arith)) in
    ap (λ k. (take n table ++ x ∷ []) ++ drop k table) long ∙ append_assoc (take n table) (x ∷ []) (drop (suc n) table) ∙ sym (set_split table n x h)

-- the later of two, where it has as many lines
pub overlay_twice : (xs ys table : List Line) → length xs ≤ length ys → overlay ys (overlay xs table) ≡ overlay ys table
overlay_twice xs ys table h = ap (λ l. ys ++ l) (drop-append-drop (length xs) table xs (length ys) h refl)
