-- What the loop over the rules of a book keeps. Assumes nothing.
use Rattle.std.proofs.Common.{◌≡◌, ℕ, zero, suc, ◌+◌, ◌<◌, ◌≤◌, length, refl, ap, ◌∙◌, arith}
use Rattle.run.specs.Runs.{Book}
use Rattle.run.specs.Steps.{ahead, Continues, InBook}
use Rattle.run.specs.declared.runs.Run.{Run}
use Rattle.run.proofs.Continuing.{stays, then_on}

-- from s₀ the loop has come to s, with n rules taken in
pub record Sofar (s₀ s : Run) (n : ℕ) : Type 0 where
  pub on : Continues s₀ s
  pub inside : InBook s.reader
  pub few : n < s.reader.place
  pub rules : (k : ℕ) → length s₀.reader.bytes.now < s₀.reader.place + k → (j : ℕ) × (length s.reader.bytes.now < s.reader.place + j) × (ahead k s₀ 0 ≡ ahead j s n)

-- some rules are still to come where the place is within the bytes
pub some_left : (n p j : ℕ) → p ≤ n → n < p + j → (i : ℕ) × (j ≡ suc i)
some_left n p zero h k = absurd (omega arith)
some_left n p (suc i) h k = (i, refl)

pub start : (s : Run) → InBook s.reader → Sofar s s 0
start s inside = record { on = stays s; inside = inside; few = omega (arith, inside.begun); rules = λ k l. (k, l, refl) }

module _ {s₀ s : Run} {n : ℕ} (h : Sofar s₀ s n) where
  -- whatever the next step comes to is what the whole comes to
  pub ends : (x : Book) → ((k : ℕ) → ahead (suc k) s n ≡ x) → (k : ℕ) → length s₀.reader.bytes.now < s₀.reader.place + k → ahead k s₀ 0 ≡ x
  ends x step k l =
      let w = h.rules k l in
      let i = some_left _ _ w.0 h.inside.within w.1 in
      w.2 ∙ ap (λ j. ahead j s n) i.1 ∙ step i.0

  pub one_more : (s' : Run) → Continues s s' → s.reader.place < s'.reader.place → s'.reader.place ≤ length s.reader.bytes.now → ((k m : ℕ) → ahead (suc k) s m ≡ ahead k s' (m + 1)) → Sofar s₀ s' (n + 1)
  one_more s' next on within step =
      let long = ap length next.bytes in
      record {
        on = then_on s₀ s s' h.on next;
        inside = record { book = next.file ∙ h.inside.book; begun = omega arith; within = omega arith };
        few = omega (arith, h.few);
        rules = λ k l.
            let w = h.rules k l in
            let i = some_left _ _ w.0 h.inside.within w.1 in
            let left : length s'.reader.bytes.now < s'.reader.place + i.0 = omega (arith, w.1, i.1) in
            (i.0, left, w.2 ∙ ap (λ j. ahead j s n) i.1 ∙ step i.0 n);
      }
