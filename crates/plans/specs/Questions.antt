-- What a plan answers, read off its system; out of range no and 0. Assumes nothing.
use Rattle.std.specs.Prelude.{ℕ, Bool, cond, ◌&&◌, length, nat_lt, slice_index}
use Rattle.truth.specs.Systems.{System}

-- whether an atom holds at a state
abbrev pub holds_of : System → ℕ → ℕ → Bool
holds_of sys s a = nat_lt s sys.states && sys.holds s a

-- where an index leads from a state
abbrev pub target_of : System → ℕ → ℕ → ℕ
target_of sys s i = cond (nat_lt s sys.states && nat_lt i sys.indices) (sys.target s i) 0

-- how many free moves a state has
abbrev pub free_count : System → ℕ → ℕ
free_count sys s = cond (nat_lt s sys.states) (length (sys.free s)) 0

-- where the free move of a number leads from a state
abbrev pub free_target : System → ℕ → ℕ → ℕ
free_target sys s j = cond (nat_lt s sys.states) (slice_index (sys.free s) j) 0
