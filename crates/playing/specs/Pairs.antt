-- The bytes that pairs of digits stand for in the table. Assumes nothing.
use Rattle.std.specs.Prelude.{ℕ, ◌+◌, ◌-◌, ◌*◌, cond, List, [], ◌∷◌, Some, None, Option}
use Rattle.checksum.specs.Ranges.{within}

-- '0' to '9' and 'A' to 'F' are digits
abbrev pub value_of : ℕ → Option ℕ
value_of c = cond (within 48 57 c) (Some (c - 48)) (cond (within 65 70 c) (Some (c - 55)) None)

-- both of them, or nothing
abbrev pub joined : Option ℕ → Option ℕ → Option ℕ
joined (Some high) (Some low) = Some (16 * high + low)
joined (Some high) None = None
joined None low = None

-- the byte of two digits, and of nothing else
abbrev pub byte_of : List ℕ → Option ℕ
byte_of [] = None
byte_of (high ∷ []) = None
byte_of (high ∷ low ∷ []) = joined (value_of high) (value_of low)
byte_of (high ∷ low ∷ more ∷ rest) = None
