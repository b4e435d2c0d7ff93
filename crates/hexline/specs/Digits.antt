-- Digits, and the bytes that pairs of them stand for. Assumes nothing.
use Rattle.std.specs.Prelude.{ℕ, ◌+◌, ◌-◌, ◌*◌, Bool, cond, List, [], ◌∷◌, is_some, Some, None, Option}
use Rattle.std.specs.Option.{unwrap_or}
use Rattle.checksum.specs.Ranges.{within}

-- '0' to '9', 'A' to 'F' and 'a' to 'f' are digits
abbrev pub digit_of : ℕ → Option ℕ
digit_of c = cond (within 48 57 c) (Some (c - 48)) (cond (within 65 70 c) (Some (c - 55)) (cond (within 97 102 c) (Some (c - 87)) None))

abbrev pub is_digit : ℕ → Bool
is_digit c = is_some (digit_of c)

-- what a digit stands for; 0 for any other character
abbrev pub hex_value : ℕ → ℕ
hex_value c = unwrap_or (digit_of c) 0

-- the byte that two digits stand for
unfoldable pub pair_value : ℕ → ℕ → ℕ
pair_value high low = 16 * hex_value high + hex_value low

-- the bytes that digits stand for, two by two
unfoldable pub pairs : List ℕ → List ℕ
pairs [] = []
pairs (a ∷ []) = []
pairs (a ∷ b ∷ rest) = pair_value a b ∷ pairs rest
