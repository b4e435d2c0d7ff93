-- When a line is bad, number by number, in the format's words. Assumes nothing.
use Rattle.std.specs.Prelude.{◌≡◌, ℕ, ◌+◌, ◌*◌, ◌<◌, ◌≤◌, ◌⊎◌, List, ◌∷◌, ◌++◌, length, ◌≢◌, slice_index}
use Rattle.std.specs.List.{AllByRecursion}
use Rattle.checksum.specs.Sums.{sum256}
use Rattle.hexline.specs.declared.fault.TextFault.{TextFault}
use Rattle.hexline.specs.declared.fault.TextFault.TheVariants.{TooLong, NoColon, NoDigit, WrongLength, WrongSum, UnknownType, WrongShape, WrongUpper, Backward, PastTop, NoEnd, AfterEnd, NothingNamed, RowLength}
use Rattle.hexline.specs.declared.spot.Spot.{Spot}
use Rattle.hexline.specs.Digits.{pair_value}
use Rattle.hexline.specs.Records.{bytes_on, count_on, address_on, type_on, upper_on}
use Rattle.ihex.specs.Texts.{TextLine}

-- a digit: '0' to '9', 'A' to 'F' or 'a' to 'f'
abbrev pub Digit : ℕ → Type 0
Digit c = ((48 ≤ c) × (c ≤ 57)) ⊎ (((65 ≤ c) × (c ≤ 70)) ⊎ ((97 ≤ c) × (c ≤ 102)))

-- 11: the characters are not a colon and more
abbrev pub NotColonFirst : List ℕ → Type 0
NotColonFirst chars = (rest : List ℕ) → chars ≢ 58 ∷ rest

-- 12: the first character after the colon that is no digit stands at k
pub record StrayAt (chars : List ℕ) (k : ℕ) : Type 0 where
  pub past_colon : 1 ≤ k
  pub within : k < length chars
  pub stray : Digit (slice_index chars k) → ⊥
  pub first : (j : ℕ) → 1 ≤ j → j < k → Digit (slice_index chars j)

-- 13: fewer than two digits after the colon, or not ten and two for each byte that they count
abbrev pub DigitsMissing : List ℕ → Type 0
DigitsMissing chars = (length chars < 3) ⊎ (length chars ≢ 11 + 2 * pair_value (slice_index chars 1) (slice_index chars 2))

-- 14: the bytes do not add up to 0 modulo 256
abbrev pub SumOff : List ℕ → Type 0
SumOff chars = sum256 (bytes_on chars) ≡ 0 → ⊥

-- 15: the type is none of 00, 01, 04 and 05
abbrev pub TypeUnknown : List ℕ → Type 0
TypeUnknown chars = (type_on chars ≢ 0) × (type_on chars ≢ 1) × (type_on chars ≢ 4) × (type_on chars ≢ 5)

-- a line of this type with another count, or an address other than 0
abbrev pub ShapeOff : ℕ → ℕ → List ℕ → Type 0
ShapeOff t count chars = (type_on chars ≡ t) × ((count_on chars ≡ count → address_on chars ≢ 0))

-- 16: type 01, 04 or 05 without count 0, 2 or 4 and address 0
abbrev pub Misshapen : List ℕ → Type 0
Misshapen chars = ShapeOff 1 0 chars ⊎ (ShapeOff 4 2 chars ⊎ ShapeOff 5 4 chars)

-- no line has this type
abbrev pub NoneOf : ℕ → List TextLine → Type 0
NoneOf t ls = AllByRecursion (λ l. type_on l.chars ≢ t) ls

-- the last line of a type, which says a value
pub record LastOf (t : ℕ) (says : List ℕ → ℕ) (ls : List TextLine) (v : ℕ) : Type 0 where
  pub before : List TextLine
  pub line : TextLine
  pub after : List TextLine
  pub place : ls ≡ before ++ (line ∷ after)
  pub type : type_on line.chars ≡ t
  pub last : NoneOf t after
  pub value : v ≡ says line.chars

-- what the last line of a type says, and 0 where there is none
abbrev pub LastSays : ℕ → (List ℕ → ℕ) → List TextLine → ℕ → Type 0
LastSays t says ls v = (NoneOf t ls × (v ≡ 0)) ⊎ LastOf t says ls v

-- where a data line ends
abbrev pub end_on : List ℕ → ℕ
end_on chars = address_on chars + count_on chars

-- 17: data, and the last upper half set before it is not 0x2000
abbrev pub UpperOff : List TextLine → List ℕ → Type 0
UpperOff earlier chars = (type_on chars ≡ 0) × ((u : ℕ) → LastSays 4 upper_on earlier u → u ≢ 0x2000)

-- 18: data that starts before the end of the last data line before it
abbrev pub StartsBack : List TextLine → List ℕ → Type 0
StartsBack earlier chars = (type_on chars ≡ 0) × ((e : ℕ) → LastSays 0 end_on earlier e → address_on chars < e)

-- 19: data that ends above 65,536
abbrev pub EndsHigh : List ℕ → Type 0
EndsHigh chars = (type_on chars ≡ 0) × (65536 < end_on chars)

-- a fault at a line's first byte
abbrev pub At : Spot → TextLine → Type 0
At at l = (at.line ≡ l.number) × (at.place ≡ l.place)

-- a line that stands after no end line, which is bad in this way
abbrev pub Unended : List TextLine → Type 0 → Type 0
Unended earlier bad = NoneOf 1 earlier × bad

-- the line is bad by this refusal, with this line and place, after these lines
abbrev pub Bad : List TextLine → TextLine → TextFault → Type 0
Bad earlier l (NoColon at) = Unended earlier (At at l × NotColonFirst l.chars)
Bad earlier l (NoDigit at) = Unended earlier ((at.line ≡ l.number) × ((k : ℕ) × (at.place ≡ l.place + k) × StrayAt l.chars k))
Bad earlier l (WrongLength at) = Unended earlier (At at l × DigitsMissing l.chars)
Bad earlier l (WrongSum at) = Unended earlier (At at l × SumOff l.chars)
Bad earlier l (UnknownType at) = Unended earlier (At at l × TypeUnknown l.chars)
Bad earlier l (WrongShape at) = Unended earlier (At at l × Misshapen l.chars)
Bad earlier l (WrongUpper at) = Unended earlier (At at l × UpperOff earlier l.chars)
Bad earlier l (Backward at) = Unended earlier (At at l × StartsBack earlier l.chars)
Bad earlier l (PastTop at) = Unended earlier (At at l × EndsHigh l.chars)
Bad earlier l (AfterEnd at) = At at l × (NoneOf 1 earlier → ⊥)
Bad earlier l TooLong = ⊥
Bad earlier l (NoEnd at) = ⊥
Bad earlier l (NothingNamed at) = ⊥
Bad earlier l RowLength = ⊥
