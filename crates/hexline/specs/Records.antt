-- The record on a line's characters: a colon, then digit pairs for count, address, type, data and check byte. Assumes nothing.
use Rattle.std.specs.Prelude.{ℕ, ◌+◌, ◌-◌, ◌*◌, Bool, cond, not, ◌&&◌, ◌||◌, List, length, take, drop, ◌==◌, nat_lt, slice_index}
use Rattle.std.specs.List.{prefix_len}
use Rattle.checksum.specs.Sums.{sum256}
use Rattle.hexline.specs.Digits.{is_digit, pairs}

-- the bytes of the line, from its count to its check byte
abbrev pub bytes_on : List ℕ → List ℕ
bytes_on chars = pairs (drop 1 chars)

abbrev pub count_on : List ℕ → ℕ
count_on chars = slice_index (bytes_on chars) 0

-- the high byte stands first
abbrev pub address_on : List ℕ → ℕ
address_on chars = 256 * slice_index (bytes_on chars) 1 + slice_index (bytes_on chars) 2

abbrev pub type_on : List ℕ → ℕ
type_on chars = slice_index (bytes_on chars) 3

-- the digits of the data bytes
abbrev pub data_digits : List ℕ → List ℕ
data_digits chars = take (2 * count_on chars) (drop 9 chars)

abbrev pub data_on : List ℕ → List ℕ
data_on chars = pairs (data_digits chars)

-- the upper half of addresses that a type 04 line sets, high byte first
abbrev pub upper_on : List ℕ → ℕ
upper_on chars = 256 * slice_index (data_on chars) 0 + slice_index (data_on chars) 1

-- the place within the line of the first character after the colon that is no digit; the line's length if there is none
abbrev pub stray_on : List ℕ → ℕ
stray_on chars = 1 + prefix_len is_digit (drop 1 chars)

-- 11: the first character is no colon (58)
abbrev pub lacks_colon : List ℕ → Bool
lacks_colon chars = not (slice_index chars 0 == 58)

-- 12: a character after the colon is no digit
abbrev pub has_stray : List ℕ → Bool
has_stray chars = nat_lt (stray_on chars) (length chars)

-- 13: fewer than two digits, or not ten and two for each data byte
abbrev pub lacks_digits : List ℕ → Bool
lacks_digits chars = nat_lt (length chars - 1) 2 || not (length chars - 1 == 10 + 2 * count_on chars)

-- 14: all bytes, the check byte with them, do not add up to 0 modulo 256
abbrev pub sums_wrong : List ℕ → Bool
sums_wrong chars = not (sum256 (bytes_on chars) == 0)

-- the types that a line may have: 00 data, 01 end, 04 upper half of addresses, 05 start address
abbrev pub known_type : ℕ → Bool
known_type t = t == 0 || (t == 1 || (t == 4 || t == 5))

-- the count that a line of type 01, 04 or 05 must have
abbrev pub fixed_count : ℕ → ℕ
fixed_count t = cond (t == 1) 0 (cond (t == 4) 2 4)

-- 16: a line of type 01, 04 or 05 must have its own count, and the address 0
abbrev pub misshapen : List ℕ → Bool
misshapen chars = (type_on chars == 1 || (type_on chars == 4 || type_on chars == 5)) && not (count_on chars == fixed_count (type_on chars) && address_on chars == 0)
