-- One field of a book, as the walk over it goes on. Assumes nothing.
use Rattle.std.proofs.Common.{◌≡◌, ℕ, suc, ◌+◌, List, [], ◌∷◌, Some, None, Option, sym, refl, ap, ◌∙◌, arith}
use Rattle.clauses.specs.Refusals.{first_of}
use Rattle.fields.specs.Parse.{Parsed, ended, shows, refuses, parse}
use Rattle.fields.specs.Shown.{Shown}
use Rattle.fields.specs.Walk.{parsed}
use Rattle.fields.specs.declared.walk.Reader.{Reader}
use Rattle.fields.specs.Shown as shape
use Rattle.fields.specs.declared.shapes.Source.{Source}
use Rattle.fields.specs.declared.shapes.Source.TheVariants as source
use Rattle.calls.specs.Calls.{Answer, line, refused, answer, after, answer_by, after_by, causes, gives, leaves}
use Rattle.calls.specs.Models.{Model}
use Rattle.run.specs.Files.{Item, shown, flawed, items_from}
use Rattle.run.specs.Runs.{Book, stopped, rules_from, rule_call}

-- the items from p on, where it is known what stands there
abbrev pub items_by : ℕ → Source → List ℕ → ℕ → Parsed → List Item
items_by n s bytes p x = elim x [ ended ↦ [] | shows f q ↦ shown p f ∷ items_from n s bytes q | refuses c q ↦ flawed p c ∷ items_from n s bytes q ]

pub items_at : (n : ℕ) (s : Source) (bytes : List ℕ) (p : ℕ) (x : Parsed) → parse s bytes p ≡ x → items_from (suc n) s bytes p ≡ items_by n s bytes p x
items_at n s bytes p x e = ap (items_by n s bytes p) e

-- an answer tells whether the call was refused
pub not_refused : (o : Option ℕ) (g : Answer) (x : ℕ) → line x ≡ answer_by o g → o ≡ None
not_refused None g x e = refl
not_refused (Some c) g x e = let z : ◌≡◌ {A = ℕ} 0 1 = cc in absurd (omega arith)

pub was_refused : (o : Option ℕ) (y n : ℕ) → refused n ≡ answer_by o (line y) → o ≡ Some n
was_refused None y n e = let z : ◌≡◌ {A = ℕ} 0 1 = cc in absurd (omega arith)
was_refused (Some c) y n e = cc

module _ (m : Model) (kind index : ℕ) (left right : List ℕ) where
  pub refused_leaves : (n : ℕ) → refused n ≡ answer m (rule_call kind index left right) → after m (rule_call kind index left right) ≡ m
  refused_leaves n e = ap (λ o. after_by o m (leaves m (rule_call kind index left right))) (was_refused (first_of (causes m (rule_call kind index left right))) _ n e)

  rules_by : ℕ → ℕ → List Item → Option ℕ → Book
  rules_by p n items o = elim o [ None ↦ rules_from (leaves m (rule_call kind index left right)) (n + 1) items | Some c ↦ stopped m.lines c p ]

  pub rule_taken : (m' : Model) (p n x : ℕ) (items : List Item) → line x ≡ answer m (rule_call kind index left right) → m' ≡ after m (rule_call kind index left right) → rules_from m n (shown p (shape.rule kind index left right) ∷ items) ≡ rules_from m' (n + 1) items
  unfolding rules_by
  rule_taken m' p n x items told left' =
      let none = not_refused (first_of (causes m (rule_call kind index left right))) (gives m (rule_call kind index left right)) x told in
      ap (rules_by p n items) none ∙ ap (λ o. rules_from (after_by o m (leaves m (rule_call kind index left right))) (n + 1) items) (sym none) ∙ ap (λ w. rules_from w (n + 1) items) (sym left')

  pub rule_refused : (p n c : ℕ) (items : List Item) → refused c ≡ answer m (rule_call kind index left right) → rules_from m n (shown p (shape.rule kind index left right) ∷ items) ≡ stopped m.lines c p
  unfolding rules_by
  rule_refused p n c items told = ap (rules_by p n items) (was_refused (first_of (causes m (rule_call kind index left right))) _ c told)

-- what a reader of a book finds
pub found_at : (r : Reader) (x : Parsed) → r.source ≡ source.Book → x ≡ parsed r → parse source.Book r.bytes.now r.place ≡ x
found_at r x book told = sym (ap (λ s. parse s r.bytes.now r.place) book) ∙ sym told
