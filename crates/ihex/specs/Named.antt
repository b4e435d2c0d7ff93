-- Which bytes a text names, and at which addresses. Assumes nothing.
use Rattle.std.specs.Prelude.{ℕ, ◌+◌, ◌-◌, Bool, false, cond, ◌&&◌, ◌||◌, List, [], ◌∷◌, length, Some, None, fold, Option, nat_le, nat_lt, slice_index}
use Rattle.std.specs.List.{flat_map}
use Rattle.hexline.specs.Digits.{pairs}
use Rattle.ihex.specs.Texts.{TextLine, lines_of}
use Rattle.hexline.specs.Records.{address_on, data_digits}
use Rattle.ihex.specs.Reads.{is_data}

-- a data line: its address, its data digits, its number and its place
pub record DataIs : Type 0 where
  pub address : ℕ
  pub digits : List ℕ
  pub line : ℕ
  pub place : ℕ

abbrev pub bytes_in : DataIs → List ℕ
bytes_in d = pairs d.digits

-- the data on a line: one data line, or none
abbrev pub data_in : TextLine → List DataIs
data_in l = cond (is_data l) (record { address = address_on l.chars; digits = data_digits l.chars; line = l.number; place = l.place } ∷ []) []

unfoldable pub data_lines : List ℕ → List DataIs
data_lines text = flat_map data_in (lines_of text)

-- what bytes from a start on put at an address
abbrev pub byte_at : ℕ → List ℕ → ℕ → Option ℕ
byte_at start bytes a = cond (nat_le start a && nat_lt a (start + length bytes)) (Some (slice_index bytes (a - start))) None

-- a later byte holds over an earlier one
abbrev pub held : Option ℕ → Option ℕ → Option ℕ
held earlier (Some b) = Some b
held earlier None = earlier

abbrev pub named_next : ℕ → Option ℕ → DataIs → Option ℕ
named_next a earlier d = held earlier (byte_at d.address (bytes_in d) a)

-- the byte that the last of these lines to name the address names there
abbrev pub named_by : List DataIs → ℕ → Option ℕ
named_by ds a = fold (named_next a) None ds

-- the byte that a text names at an address
abbrev pub named : List ℕ → ℕ → Option ℕ
named text a = named_by (data_lines text) a

-- whether a line names a byte at or above the window's end
abbrev pub reaches_next : ℕ → Bool → DataIs → Bool
reaches_next window b d = b || (nat_lt 0 (length (bytes_in d)) && nat_lt window (d.address + length (bytes_in d)))

abbrev pub reaches : ℕ → List ℕ → Bool
reaches window text = fold (reaches_next window) false (data_lines text)
