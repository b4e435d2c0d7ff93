-- Bit patterns, as the maker's sheet writes them. Assumes nothing.
use Rattle.std.specs.Prelude.{◌≡◌, ℕ, ◌+◌, ◌*◌, ◌/◌, ◌%◌, ◌^◌, ◌<◌, Bool, true, ◌&&◌, List, [], ◌∷◌, length, ◌==◌, bit_and, bit_or}
use Rattle.sensor.specs.declared.pattern.Pattern.{Pattern}

-- a bit of a pattern: 0, 1, or either
pub data Bit : Type 0 where
  o : Bit
  l : Bit
  x : Bit

-- whether a bit is as the pattern has it
abbrev pub agrees : Bit → ℕ → Bool
agrees o bit = bit == 0
agrees l bit = bit == 1
agrees x bit = true

-- whether a value has the bits of a pattern, which has its highest bit first
abbrev pub fits : List Bit → ℕ → Bool
fits [] value = true
fits (b ∷ bs) value = agrees b ((value / 2 ^ length bs) % 2) && fits bs value

-- the pattern's bit, or the given one where the pattern has either
abbrev pub chosen : Bit → ℕ → ℕ
chosen o bit = 0
chosen l bit = 1
chosen x bit = bit

-- the value with the bits of a pattern, and with those of another value where the pattern has either
abbrev pub filled_from : List Bit → ℕ → ℕ
filled_from [] value = 0
filled_from (b ∷ bs) value = chosen b ((value / 2 ^ length bs) % 2) * 2 ^ length bs + filled_from bs value

-- the value with the bits of a pattern, and 0 where the pattern has either
abbrev pub least : List Bit → ℕ
least pattern = filled_from pattern 0

-- a pattern of the code says the same of each byte
pub record IsPattern (pattern : List Bit) (p : Pattern) : Type 0 where
  pub tests : (v : ℕ) → v < 256 → fits pattern v ≡ (bit_and v p.fixed == p.bits)
  pub fills : (v : ℕ) → v < 256 → filled_from pattern v ≡ bit_or p.bits (bit_and v p.free)
  pub begins : least pattern ≡ p.bits
