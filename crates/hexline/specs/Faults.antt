-- Every refusal of a text, with its number, line and place. Assumes nothing.
use Rattle.std.specs.Prelude.{ℕ, Bool, cond, List, [], ◌∷◌, ◌++◌, Some, None, Ok, Err, codes, decimal, Option, Result}
use Rattle.std.specs.Option.{option_map, unwrap_or}
use Rattle.hexline.specs.declared.fault.TextFault.{TextFault}
use Rattle.hexline.specs.declared.spot.Spot.{Spot}
use Rattle.hexline.specs.declared.fault.TextFault.TheVariants.{TooLong, NoColon, NoDigit, WrongLength, WrongSum, UnknownType, WrongShape, WrongUpper, Backward, PastTop, NoEnd, AfterEnd, NothingNamed, RowLength}

-- a line's number and a byte's place
abbrev pub spot : ℕ → ℕ → Spot
spot ln p = record { line = ln; place = p }

abbrev pub number_of : TextFault → ℕ
number_of TooLong = 10
number_of (NoColon at) = 11
number_of (NoDigit at) = 12
number_of (WrongLength at) = 13
number_of (WrongSum at) = 14
number_of (UnknownType at) = 15
number_of (WrongShape at) = 16
number_of (WrongUpper at) = 17
number_of (Backward at) = 18
number_of (PastTop at) = 19
number_of (NoEnd at) = 20
number_of (AfterEnd at) = 21
number_of (NothingNamed at) = 22
number_of RowLength = 31

-- where the fault lies; a text that is too long and a row of another length have no spot
abbrev pub spot_in : TextFault → Option Spot
spot_in TooLong = None
spot_in (NoColon at) = Some at
spot_in (NoDigit at) = Some at
spot_in (WrongLength at) = Some at
spot_in (WrongSum at) = Some at
spot_in (UnknownType at) = Some at
spot_in (WrongShape at) = Some at
spot_in (WrongUpper at) = Some at
spot_in (Backward at) = Some at
spot_in (PastTop at) = Some at
spot_in (NoEnd at) = Some at
spot_in (AfterEnd at) = Some at
spot_in (NothingNamed at) = Some at
spot_in RowLength = None

abbrev pub line_in : TextFault → ℕ
line_in f = unwrap_or (option_map (λ (at : Spot). at.line) (spot_in f)) 0

abbrev pub place_in : TextFault → ℕ
place_in f = unwrap_or (option_map (λ (at : Spot). at.place) (spot_in f)) 0

-- what a person reads, and can act on
abbrev pub words_of : TextFault → List ℕ
words_of TooLong = codes "the text is too long: a patch has at most 131,072 bytes"
words_of (NoColon at) = codes "the line does not begin with a colon"
words_of (NoDigit at) = codes "this character is no digit: after the colon only 0-9, A-F and a-f may stand"
words_of (WrongLength at) = codes "the line is cut short or runs on: it has not the digits that its count asks for"
words_of (WrongSum at) = codes "the line's sum is wrong: a digit of it was changed"
words_of (UnknownType at) = codes "the line's type is unknown: only 00, 01, 04 and 05 are read"
words_of (WrongShape at) = codes "the line's count or address does not fit its type"
words_of (WrongUpper at) = codes "the data stands outside the sensor's RAM: its upper half is not 2000"
words_of (Backward at) = codes "the data starts before the end of the data line before it"
words_of (PastTop at) = codes "the data runs past the end of its 65,536 bytes"
words_of (NoEnd at) = codes "the text has no end line: the end of the patch is missing"
words_of (AfterEnd at) = codes "a line stands after the end line"
words_of (NothingNamed at) = codes "the text names no byte: the patch is empty"
words_of RowLength = codes "the row for a line's bytes must have 255 bytes"

-- the words after the number, the line and the place
abbrev pub shown_of : TextFault → List ℕ
shown_of f = codes "fault " ++ (decimal (number_of f) ++ (codes ", line " ++ (decimal (line_in f) ++ (codes ", place " ++ (decimal (place_in f) ++ (codes ": " ++ words_of f))))))

-- a test, and the refusal that it means
pub record Rule : Type 0 where
  pub broken : Bool
  pub fault : TextFault

abbrev pub rule : Bool → TextFault → Rule
rule b f = record { broken = b; fault = f }

-- the first rule that is broken decides; the rules stand in the order of their numbers
abbrev pub decided : {X : Type 0} → List Rule → X → Result X TextFault
decided [] x = Ok x
decided (r ∷ rs) x = cond r.broken (Err r.fault) (decided rs x)
