-- How a call changes the model: nothing, one line more, or a change of one loop. Assumes nothing.
use Rattle.std.proofs.Common.{◌≡◌, ℕ, Bool, true, false, cond, ◌&&◌, ◌||◌, leb, List, [], ◌∷◌, ◌++◌, length, is_some, Some, None, Option, sym, refl, ap, ◌∙◌}
use Rattle.std.specs.Option.{option_map}
use Rattle.std.proofs.lemmas.Bool.{false≢true, true≢false, and_parts, not-false, or_parts}
use Rattle.std.proofs.lemmas.Option.{none-some, same_Some}
use Rattle.clauses.specs.declared.kinds.Kind.{Kind}
use Rattle.clauses.specs.declared.kinds.Kind.TheVariants.{Global, Step}
use Rattle.clauses.specs.declared.lines.Line.{Line}
use Rattle.clauses.specs.declared.literals.Literal.{Literal}
use Rattle.clauses.specs.Kinds.{joint_kind, kind_of, kind_under}
use Rattle.clauses.specs.Refusals.{first_of}
use Rattle.clauses.specs.Rules.{fails, in_range, marked, rule_causes, rule_line, shaped}
use Rattle.clauses.specs.Steps.{entered_line, made, resolved_line, rewritable, rewritten_line, stayed_line, wait_literal}
use Rattle.calls.specs.declared.waits.Wait.{Wait}
use Rattle.calls.specs.Calls.{Call, rule, resolve, rewrite, enter, stay, verdict, judge, loop, row, ready, end, drop, now, later, after, after_by, causes, ended, ended_as, entered_of, fits_row, full, later_of, leaves, line_at, line_waitless, now_causes, now_of, now_right, resolve_causes, resolved_of, rewrite_causes, stayed_of, unmet_row, wait_causes, waits_for, with_line, with_loops, with_made, with_opened, with_row}
use Rattle.calls.specs.Law.{IsRuleCall}
use Rattle.calls.specs.Loops.{Row, at_loop, closed_row, is_closed, loop_at, open_here, row_at, row_of, row_right, some_open, standing_as, waited_by}
use Rattle.calls.specs.Models.{Loop, Model, closed, dropped}
use Rattle.calls.specs.Waits.{and_then, place_of, wait_of}
use Rattle.calls.proofs.Extending.{one_wait}
use Rattle.calls.proofs.Joints.{Joint, kinds_join}
use Rattle.calls.proofs.Keeping.{all_none, rule_indexed}

-- ---- the ways

-- a row of the closed loop of this number
pub record ClosedAt (loops : List Loop) (n : ℕ) (w : Row) : Type 0 where
  pub loop : Loop
  pub there : loop_at loops n ≡ Some loop
  pub over : is_closed loop.standing ≡ true
  pub place : ℕ
  pub among : row_at loop.rows place ≡ Some w.literals
  pub same : w.wait ≡ waited_by loop

-- a line that is made of what is there
pub data Makes (m : Model) : Line → Type 0 where
  resolved : (a b : ℕ) (x y : Line) (l : Literal) (kind : Kind) → line_at m.lines a ≡ Some x → line_at m.lines b ≡ Some y → Joint x.kind y.kind kind → ended m.loops x.belongs ≡ false → ended m.loops y.belongs ≡ false → Makes m (resolved_line kind x y l)
  rewritten : (n : ℕ) (x : Line) → line_at m.lines n ≡ Some x → rewritable x ≡ true → x.belongs ≡ None → Makes m (rewritten_line x)
  entered : (n : ℕ) (x : Line) (w : Wait) (p : ℕ) → line_at m.lines n ≡ Some x → wait_of x ≡ Some w → place_of m.waits w ≡ Some p → Makes m (entered_line x w.goal (wait_literal p))
  stayed : (n : ℕ) (x : Line) (w : Wait) (p : ℕ) → line_at m.lines n ≡ Some x → wait_of x ≡ Some w → place_of m.waits w ≡ Some p → Makes m (stayed_line w.scope w.goal (wait_literal p))
  met_now : (n : ℕ) (w : Row) (i : ℕ) (x : Line) → ClosedAt m.loops n w → line_at m.lines i ≡ Some x → wait_of x ≡ Some w.wait → Makes m (made Global [] (now_right w x) None)
  met_later : (n : ℕ) (w : Row) (p : ℕ) → ClosedAt m.loops n w → place_of m.waits w.wait ≡ Some p → Makes m (made (Step w.wait.scope) (wait_literal p ∷ []) (row_right w.wait.goal w.literals) None)

-- what a model becomes; R is what an accepted rule tells
pub data Steps (m : Model) (R : Type 0) : Model → Type 0 where
  nothing : Steps m R m
  rules : R → (kind : Kind) (l r : List Literal) → kind_under m.indices kind ≡ true → in_range l ≡ true → in_range r ≡ true → shaped kind (length l) (length r) ≡ true → Steps m R (with_line m (Some (marked l r kind)))
  makes : (x : Line) → Makes m x → Steps m R (with_made m (Some x))
  opens : (n : ℕ) (x : Line) (w : Wait) → line_at m.lines n ≡ Some x → wait_of x ≡ Some w → some_open m.loops ≡ false → Steps m R (with_opened m (Some w))
  supposes : (n : ℕ) (p : List Literal) (z : Loop) → loop_at m.loops n ≡ Some z → open_here m.loops n ≡ true → Steps m R (with_row m n p (Some z))
  closes : (n : ℕ) → unmet_row m n ≡ None → Steps m R (with_loops m (at_loop n (standing_as closed) m.loops))
  drops : (n : ℕ) → Steps m R (with_loops m (at_loop n (standing_as dropped) m.loops))

-- ---- every call goes one of the ways

-- the call is a rule, and accepted
abbrev pub Accepted : Model → Call → Type 0
Accepted m c = IsRuleCall c × (first_of (causes m c) ≡ None)

none_there : (o : Option ℕ) → is_some o ≡ false → o ≡ None
none_there None h = refl
none_there (Some n) h = absurd (true≢false h)

row_closed : (loops : List Loop) (n r : ℕ) (w : Row) → closed_row loops n r ≡ Some w → ClosedAt loops n w
row_closed loops n r w e = by_loop (loop_at loops n) refl e
  where
    by_row : (z : Loop) → loop_at loops n ≡ Some z → (b : Bool) → is_closed z.standing ≡ b → (o : Option (List Literal)) → row_at z.rows r ≡ o → cond b (option_map (λ p. record { wait = waited_by z; literals = p }) o) None ≡ Some w → ClosedAt loops n w
    by_row z there true over None among is = absurd (none-some _ is)
    by_row z there true over (Some p) among is =
        let row_is : ◌≡◌ {A = Row} (record { wait = waited_by z; literals = p }) w = same_Some _ _ is in
        record { loop = z; there = there; over = over; place = r; among = among ∙ ap (λ (v : Row). Some v.literals) row_is; same = sym (ap (λ (v : Row). v.wait) row_is) }
    by_row z there false over o among is = absurd (none-some _ is)

    by_loop : (o : Option Loop) → loop_at loops n ≡ o → and_then o (row_of r) ≡ Some w → ClosedAt loops n w
    by_loop None there is = absurd (none-some _ is)
    by_loop (Some z) there is = by_row z there (is_closed z.standing) refl (row_at z.rows r) refl is

module _ (m : Model) (R : Type 0) where
  rule_steps : (n i : ℕ) (l r : List Literal) → R → first_of (rule_causes m.indices n i l r ++ (18, full m || line_waitless m.waits (rule_line m.indices n i l r)) ∷ []) ≡ None → Steps m R (with_line m (rule_line m.indices n i l r))
  rule_steps n i l r accepted h =
      let causeless = all_none (rule_causes m.indices n i l r ++ (18, full m || line_waitless m.waits (rule_line m.indices n i l r)) ∷ []) h in
      by_kind (and_parts (in_range l) (in_range r) (not-false (in_range l && in_range r) causeless.1.0)) (kind_of n i m.indices) refl causeless.1.1.1.0
    where
      by_kind : (in_range l ≡ true) × (in_range r ≡ true) → (o : Option Kind) → kind_of n i m.indices ≡ o → fails (λ kind. shaped kind (length l) (length r)) o ≡ false → Steps m R (with_line m (option_map (marked l r) o))
      by_kind low None is formed = nothing
      by_kind low (Some kind) is formed =
          rules accepted kind l r (rule_indexed m.indices n i l r (marked l r kind) (ap (option_map (marked l r)) (sym is))) low.0 low.1 (not-false (shaped kind (length l) (length r)) formed)

  resolve_steps : (a b : ℕ) (l : Literal) (o p : Option Line) → line_at m.lines a ≡ o → line_at m.lines b ≡ p → first_of (resolve_causes m.loops o p l ++ (18, full m) ∷ []) ≡ None → Steps m R (with_made m (resolved_of o p l))
  resolve_steps a b l None p at_a at_b h = nothing
  resolve_steps a b l (Some x) None at_a at_b h = nothing
  resolve_steps a b l (Some x) (Some y) at_a at_b h =
      let causeless = all_none (resolve_causes m.loops (Some x) (Some y) l ++ (18, full m) ∷ []) h in
      by_kind (or_parts (ended m.loops x.belongs) (ended m.loops y.belongs) causeless.1.1.0) (joint_kind x.kind y.kind) refl
    where
      by_kind : (ended m.loops x.belongs ≡ false) × (ended m.loops y.belongs ≡ false) → (k : Option Kind) → joint_kind x.kind y.kind ≡ k → Steps m R (with_made m (option_map (λ kind. resolved_line kind x y l) k))
      by_kind going None is = nothing
      by_kind going (Some kind) is = makes _ (resolved a b x y l kind at_a at_b (kinds_join x.kind y.kind kind is) going.0 going.1)

  rewrite_steps : (n : ℕ) (o : Option Line) → line_at m.lines n ≡ o → first_of (rewrite_causes o ++ (18, full m) ∷ []) ≡ None → Steps m R (with_made m (option_map rewritten_line o))
  rewrite_steps n None at h = nothing
  rewrite_steps n (Some x) at h =
      let causeless = all_none (rewrite_causes (Some x) ++ (18, full m) ∷ []) h in
      makes _ (rewritten n x at (not-false (rewritable x) causeless.0) (none_there x.belongs causeless.1.0))

  -- the line of a wait, where the wait has been given out
  place_steps : (w : Wait) (f : ℕ → Line) → ((p : ℕ) → place_of m.waits w ≡ Some p → Makes m (f p)) → Steps m R (with_made m (option_map f (place_of m.waits w)))
  place_steps w f make = by_place (place_of m.waits w) refl
    where
      by_place : (o : Option ℕ) → place_of m.waits w ≡ o → Steps m R (with_made m (option_map f o))
      by_place None is = nothing
      by_place (Some p) is = makes (f p) (make p is)

  -- and of what a line waits for
  wait_steps : (x : Line) (f : Wait → ℕ → Line) → ((w : Wait) (p : ℕ) → wait_of x ≡ Some w → place_of m.waits w ≡ Some p → Makes m (f w p)) → Steps m R (with_made m (and_then (wait_of x) (λ w. option_map (f w) (place_of m.waits w))))
  wait_steps x f make = by-wait (wait_of x) refl
    where
      by-wait : (o : Option Wait) → wait_of x ≡ o → Steps m R (with_made m (and_then o (λ w. option_map (f w) (place_of m.waits w))))
      by-wait None is = nothing
      by-wait (Some w) is = place_steps w (f w) (λ p. make w p is)

  enter_steps : (n : ℕ) (o : Option Line) → line_at m.lines n ≡ o → Steps m R (with_made m (entered_of m.waits o))
  enter_steps n None at = nothing
  enter_steps n (Some x) at = wait_steps x (λ w p. entered_line x w.goal (wait_literal p)) (λ w p is place. entered n x w p at is place)

  stay_steps : (n : ℕ) (o : Option Line) → line_at m.lines n ≡ o → Steps m R (with_made m (stayed_of m.waits o))
  stay_steps n None at = nothing
  stay_steps n (Some x) at = wait_steps x (λ w p. stayed_line w.scope w.goal (wait_literal p)) (λ w p is place. stayed n x w p at is place)

  loop_steps : (n : ℕ) (o : Option Line) → line_at m.lines n ≡ o → some_open m.loops ≡ false → Steps m R (with_opened m (waits_for o))
  loop_steps n None at shut = nothing
  loop_steps n (Some x) at shut = by-wait (wait_of x) refl
    where
      by-wait : (o : Option Wait) → wait_of x ≡ o → Steps m R (with_opened m o)
      by-wait None is = nothing
      by-wait (Some w) is = opens n x w at is shut

  row_steps : (n : ℕ) (p : List Literal) (o : Option Loop) → loop_at m.loops n ≡ o → open_here m.loops n ≡ true → Steps m R (with_row m n p o)
  row_steps n p None at going = nothing
  row_steps n p (Some z) at going = supposes n p z at going

  end_steps : (n : ℕ) (o : Option ℕ) → unmet_row m n ≡ o → Steps m R (with_loops m (at_loop n (standing_as (ended_as o)) m.loops))
  end_steps n None is = closes n is
  end_steps n (Some r) is = drops n

  now_steps : (n r i : ℕ) (o : Option Row) (p : Option Line) → closed_row m.loops n r ≡ o → line_at m.lines i ≡ p → first_of (now_causes o p ++ (18, full m) ∷ []) ≡ None → Steps m R (with_made m (now_of o p))
  now_steps n r i None p at_row at h = nothing
  now_steps n r i (Some w) None at_row at h = nothing
  now_steps n r i (Some w) (Some x) at_row at h =
      let causeless = all_none (now_causes (Some w) (Some x) ++ (18, full m) ∷ []) h in
      by-wait (wait_of x) refl (not-false (fits_row w.wait (wait_of x)) causeless.0)
    where
      by-wait : (o : Option Wait) → wait_of x ≡ o → fits_row w.wait o ≡ true → Steps m R (with_made m (Some (made Global [] (now_right w x) None)))
      by-wait None is fits = absurd (false≢true fits)
      by-wait (Some v) is fits = makes _ (met_now n w i x (row_closed m.loops n r w at_row) at (is ∙ ap Some (one_wait v w.wait fits)))

  later_steps : (n r : ℕ) (o : Option Row) → closed_row m.loops n r ≡ o → Steps m R (with_made m (later_of m.waits o))
  later_steps n r None at_row = nothing
  later_steps n r (Some w) at_row =
      place_steps w.wait (λ p. made (Step w.wait.scope) (wait_literal p ∷ []) (row_right w.wait.goal w.literals) None) (λ p is. met_later n w p (row_closed m.loops n r w at_row) is)

  -- a call that is refused changes nothing
  refused_or : (left : Model) (o : Option ℕ) → (o ≡ None → Steps m R left) → Steps m R (after_by o m left)
  refused_or left None h = h refl
  refused_or left (Some n) h = nothing

accepted_steps : (m : Model) (c : Call) → first_of (causes m c) ≡ None → Steps m (Accepted m c) (leaves m c)
accepted_steps m (rule n i l r) h = rule_steps m _ n i l r (tt, h) h
accepted_steps m (resolve a b l) h = resolve_steps m _ a b l (line_at m.lines a) (line_at m.lines b) refl refl h
accepted_steps m (rewrite n) h = rewrite_steps m _ n (line_at m.lines n) refl h
accepted_steps m (enter n) h = enter_steps m _ n (line_at m.lines n) refl
accepted_steps m (stay n) h = stay_steps m _ n (line_at m.lines n) refl
accepted_steps m verdict h = nothing
accepted_steps m (judge sys bytes) h = nothing
accepted_steps m (loop n) h = loop_steps m _ n (line_at m.lines n) refl (shut (line_at m.lines n) h)
  where
    shut : (o : Option Line) → first_of (wait_causes o ++ (16, some_open m.loops) ∷ (18, leb 64 (length m.loops)) ∷ []) ≡ None → some_open m.loops ≡ false
    shut None none = absurd (none-some _ (sym none))
    shut (Some x) none = (all_none (wait_causes (Some x) ++ (16, some_open m.loops) ∷ (18, leb 64 (length m.loops)) ∷ []) none).1.0
accepted_steps m (row n p) h = row_steps m _ n p (loop_at m.loops n) refl (not-false (open_here m.loops n) (all_none (causes m (row n p)) h).1.1.1.0)
accepted_steps m (ready n) h = nothing
accepted_steps m (end n) h = end_steps m _ n (unmet_row m n) refl
accepted_steps m (drop n) h = drops n
accepted_steps m (now n r i) h = now_steps m _ n r i (closed_row m.loops n r) (line_at m.lines i) refl refl h
accepted_steps m (later n r) h = later_steps m _ n r (closed_row m.loops n r) refl

pub call_steps : (m : Model) (c : Call) → Steps m (Accepted m c) (after m c)
call_steps m c = refused_or m _ (leaves m c) (first_of (causes m c)) (accepted_steps m c)
