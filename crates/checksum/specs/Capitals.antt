-- Hexadecimal digits as they are written here: capitals. Assumes nothing.
use Rattle.std.specs.Prelude.{ℕ, ◌+◌, cond, nat_lt}

-- the digit of a value below 16: from '0' on, and from 'A' on for ten and more
unfoldable pub capital : ℕ → ℕ
capital v = cond (nat_lt v 10) (48 + v) (55 + v)
