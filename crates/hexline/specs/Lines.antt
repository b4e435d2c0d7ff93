-- What a line is read as. Assumes nothing.
use Rattle.std.specs.Prelude.{ℕ, ◌+◌, cond, not, List, [], ◌∷◌, ◌++◌, Ok, Err, Result, ◌==◌}
use Rattle.hexline.specs.declared.fault.TextFault.{TextFault}
use Rattle.hexline.specs.declared.fault.TextFault.TheVariants.{NoColon, NoDigit, WrongLength, WrongSum, UnknownType, WrongShape, RowLength}
use Rattle.hexline.specs.declared.line.Line.{Line}
use Rattle.hexline.specs.declared.line.Line.TheVariants.{Data, End, Base, Start}
use Rattle.hexline.specs.Faults.{Rule, rule, decided, spot}
use Rattle.hexline.specs.Records.{address_on, type_on, data_digits, upper_on, stray_on, lacks_colon, has_stray, lacks_digits, sums_wrong, known_type, misshapen}

-- a line's case, with the data digits themselves in place of where they lie
pub data LineIs : Type 0 where
  data_is : (address : ℕ) (digits : List ℕ) (line place : ℕ) → LineIs
  end_is : (digits : List ℕ) (line place : ℕ) → LineIs
  base_is : (upper : ℕ) (digits : List ℕ) (line place : ℕ) → LineIs
  start_is : (digits : List ℕ) (line place : ℕ) → LineIs

abbrev pub said_line : Line → LineIs
said_line (Data a d at) = data_is a d.now at.line at.place
said_line (End d at) = end_is d.now at.line at.place
said_line (Base u d at) = base_is u d.now at.line at.place
said_line (Start d at) = start_is d.now at.line at.place

abbrev pub digits_in : LineIs → List ℕ
digits_in (data_is a d ln p) = d
digits_in (end_is d ln p) = d
digits_in (base_is u d ln p) = d
digits_in (start_is d ln p) = d

abbrev pub said : Result Line TextFault → Result LineIs TextFault
said (Ok l) = Ok (said_line l)
said (Err e) = Err e

-- 11 to 14: whether the characters are a record at all
abbrev pub form_rules : ℕ → ℕ → List ℕ → List Rule
form_rules ln p chars = rule (lacks_colon chars) (NoColon (spot ln p)) ∷ (rule (has_stray chars) (NoDigit (spot ln (p + stray_on chars))) ∷ (rule (lacks_digits chars) (WrongLength (spot ln p)) ∷ (rule (sums_wrong chars) (WrongSum (spot ln p)) ∷ [])))

-- 15 and 16: whether it is one that we know
abbrev pub type_rules : ℕ → ℕ → List ℕ → List Rule
type_rules ln p chars = rule (not (known_type (type_on chars))) (UnknownType (spot ln p)) ∷ (rule (misshapen chars) (WrongShape (spot ln p)) ∷ [])

abbrev pub line_rules : ℕ → ℕ → List ℕ → List Rule
line_rules ln p chars = form_rules ln p chars ++ type_rules ln p chars

-- the case of a line that breaks no rule
abbrev pub case_of : ℕ → ℕ → List ℕ → LineIs
case_of ln p chars = cond (type_on chars == 0) (data_is (address_on chars) (data_digits chars) ln p) (cond (type_on chars == 1) (end_is (data_digits chars) ln p) (cond (type_on chars == 4) (base_is (upper_on chars) (data_digits chars) ln p) (start_is (data_digits chars) ln p)))

unfoldable pub line_of : ℕ → ℕ → List ℕ → Result LineIs TextFault
line_of ln p chars = decided (line_rules ln p chars) (case_of ln p chars)

-- a single line, given without its end: line 1, with places counted in it; first of all the row must have 255 bytes
abbrev pub single_line : ℕ → List ℕ → Result LineIs TextFault
single_line room chars = cond (not (room == 255)) (Err RowLength) (line_of 1 0 chars)
