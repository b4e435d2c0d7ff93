-- Digits in either case. Assumes nothing.
use Rattle.std.specs.Prelude.{◌≡◌, ℕ, ◌+◌, ◌≤◌, ◌⊎◌, List}
use Rattle.std.specs.List.{AllZip}

-- a letter from 'A' to 'F', and the same letter from 'a' to 'f'
abbrev pub Lowered : ℕ → ℕ → Type 0
Lowered c d = (65 ≤ c) × (c ≤ 70) × (d ≡ c + 32)

-- the same character, or the same digit in the other case
abbrev pub SameDigit : ℕ → ℕ → Type 0
SameDigit c d = (c ≡ d) ⊎ (Lowered c d ⊎ Lowered d c)

-- texts of one length that agree place by place but for the case of digits
abbrev pub SameButCase : List ℕ → List ℕ → Type 0
SameButCase text other = AllZip SameDigit text other
