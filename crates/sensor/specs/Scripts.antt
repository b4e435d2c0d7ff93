-- How far a script is used up. Assumes nothing.
use Rattle.std.specs.Prelude.{ℕ, ◌+◌, cond, List, length, nat_lt}

-- one item more, up to the end
abbrev pub past : {T : Type 0} → List T → ℕ → ℕ
past script at = cond (nat_lt at (length script)) (at + 1) at
