-- Texts in canonical form, and that they are read back. Assumes nothing.
use Rattle.std.specs.Prelude.{◌≡◌, ℕ, ◌+◌, ◌-◌, ◌/◌, ◌%◌, ◌<◌, ◌≤◌, List, [], ◌∷◌, ◌++◌, map, length, Ok}
use Rattle.std.specs.List.{flat_map, AllByRecursion}
use Rattle.checksum.specs.Capitals.{capital}
use Rattle.checksum.specs.Sums.{sum256}
use Rattle.ihex.specs.Reads.{longest_text, text_of}
use Rattle.ihex.specs.Named.{DataIs, bytes_in, data_lines}

-- a byte as two digits, the high one first
abbrev pub two_digits : ℕ → List ℕ
two_digits b = capital (b / 16) ∷ (capital (b % 16) ∷ [])

-- a line: its type, its address and its data bytes
pub record CanonicalLine : Type 0 where
  pub kind : ℕ
  pub address : ℕ
  pub bytes : List ℕ

-- count, address with the high byte first, type and data
abbrev pub summed_bytes : CanonicalLine → List ℕ
summed_bytes l = length l.bytes ∷ (l.address / 256 ∷ (l.address % 256 ∷ (l.kind ∷ l.bytes)))

-- what makes the sum 0 modulo 256
abbrev pub check_byte : List ℕ → ℕ
check_byte bytes = (256 - sum256 bytes) % 256

abbrev pub record_bytes : CanonicalLine → List ℕ
record_bytes l = summed_bytes l ++ (check_byte (summed_bytes l) ∷ [])

-- a colon (58), and the digits of all bytes
unfoldable pub line_chars : CanonicalLine → List ℕ
line_chars l = 58 ∷ flat_map two_digits (record_bytes l)

-- with the LF (10) that ends the line
abbrev pub line_text : CanonicalLine → List ℕ
line_text l = line_chars l ++ (10 ∷ [])

abbrev pub lines_text : List CanonicalLine → List ℕ
lines_text ls = flat_map line_text ls

-- a data line's address and bytes
pub record DataSpec : Type 0 where
  pub address : ℕ
  pub bytes : List ℕ

abbrev pub data_line : DataSpec → CanonicalLine
data_line d = record { kind = 0; address = d.address; bytes = d.bytes }

-- the upper half 2000
abbrev pub base_line : CanonicalLine
base_line = record { kind = 4; address = 0; bytes = 0x20 ∷ (0x00 ∷ []) }

abbrev pub end_line : CanonicalLine
end_line = record { kind = 1; address = 0; bytes = [] }

-- the base line, the data lines in order, the end line
abbrev pub canonical_lines : List DataSpec → List CanonicalLine
canonical_lines ds = base_line ∷ (map data_line ds ++ (end_line ∷ []))

abbrev pub canonical_text : List DataSpec → List ℕ
canonical_text ds = lines_text (canonical_lines ds)

-- the first address after a line's bytes
abbrev pub end_of : DataSpec → ℕ
end_of d = d.address + length d.bytes

-- what a data line can hold; one without bytes must have an address of 16 bits too
pub record Holds (d : DataSpec) : Type 0 where
  pub each : AllByRecursion (λ b. b < 256) d.bytes
  pub few : length d.bytes ≤ 255
  pub starts : d.address < 65536
  pub ends : end_of d ≤ 65536

-- no line starts before the end of the one before it, be that one of no bytes too
abbrev pub Ascending : ℕ → List DataSpec → Type 0
Ascending top [] = Unit {0}
Ascending top (d ∷ ds) = (top ≤ d.address) × Ascending (end_of d) ds

-- what a patch must keep for its canonical text to be accepted
pub record Canonical (ds : List DataSpec) : Type 0 where
  pub lines : AllByRecursion Holds ds
  pub ascending : Ascending 0 ds
  -- at least one line has a byte
  pub names : 0 < length (flat_map (λ d. d.bytes) ds)
  pub short : length (canonical_text ds) ≤ longest_text

-- what a data line of a text says
abbrev pub data_spec : DataIs → DataSpec
data_spec d = record { address = d.address; bytes = bytes_in d }

-- the canonical text is accepted, and its data lines are the ones given, in order
abbrev pub ReadsBack : List DataSpec → Type 0
ReadsBack ds = Canonical ds → (text_of (canonical_text ds) ≡ Ok tt) × (map data_spec (data_lines (canonical_text ds)) ≡ ds)
