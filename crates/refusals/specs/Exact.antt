-- Which answer a text gets: the lowest number of its first bad line, and acceptance where nothing is bad. Assumes nothing.
use Rattle.std.specs.Prelude.{◌≡◌, ℕ, ◌+◌, ◌<◌, ◌≤◌, List, [], ◌∷◌, ◌++◌, length, Some, None, Ok, Err}
use Rattle.hexline.specs.declared.fault.TextFault.{TextFault}
use Rattle.hexline.specs.declared.fault.TextFault.TheVariants.{TooLong, NoEnd, NothingNamed}
use Rattle.hexline.specs.Faults.{spot, number_of}
use Rattle.hexline.specs.Records.{type_on}
use Rattle.ihex.specs.Texts.{TextLine, lines_of}
use Rattle.ihex.specs.Reads.{longest_text, text_of}
use Rattle.ihex.specs.Named.{named}
use Rattle.refusals.specs.Bad.{NoneOf, Bad}

-- none of these lines is bad, after those before them
abbrev pub Clean : List TextLine → List TextLine → Type 0
Clean earlier [] = Unit {0}
Clean earlier (l ∷ ls) = ((f : TextFault) → Bad earlier l f → ⊥) × Clean (earlier ++ (l ∷ [])) ls

-- the first bad line, and the lowest number that it is bad by
pub record FirstBad (ls : List TextLine) (f : TextFault) : Type 0 where
  pub before : List TextLine
  pub line : TextLine
  pub after : List TextLine
  pub place : ls ≡ before ++ (line ∷ after)
  pub clean : Clean [] before
  pub bad : Bad before line f
  pub lowest : (g : TextFault) → Bad before line g → number_of f ≤ number_of g

-- 20: no line is bad and none is an end line; the next line's number, and the text's length
pub record EndMissing (text : List ℕ) (f : TextFault) : Type 0 where
  pub clean : Clean [] (lines_of text)
  pub none : NoneOf 1 (lines_of text)
  pub is : f ≡ NoEnd (spot (length (lines_of text) + 1) (length text))

-- 22: no line is bad, the last one is the end line, and no byte is named; the end line's number and place
pub record NoByte (text : List ℕ) (f : TextFault) : Type 0 where
  pub before : List TextLine
  pub end : TextLine
  pub place : lines_of text ≡ before ++ (end ∷ [])
  pub type : type_on end.chars ≡ 1
  pub clean : Clean [] (lines_of text)
  pub none : (a : ℕ) → named text a ≡ None
  pub is : f ≡ NothingNamed (spot end.number end.place)

-- why a text is refused
pub data Refused (text : List ℕ) (f : TextFault) : Type 0 where
  too_long : longest_text < length text → f ≡ TooLong → Refused text f
  bad_line : length text ≤ longest_text → FirstBad (lines_of text) f → Refused text f
  end_missing : length text ≤ longest_text → EndMissing text f → Refused text f
  no_byte : length text ≤ longest_text → NoByte text f → Refused text f

-- when it is accepted: no line is bad, the last one is the end line, and a byte is named
pub record Accepted (text : List ℕ) : Type 0 where
  pub short : length text ≤ longest_text
  pub clean : Clean [] (lines_of text)
  pub before : List TextLine
  pub end : TextLine
  pub place : lines_of text ≡ before ++ (end ∷ [])
  pub type : type_on end.chars ≡ 1
  pub address : ℕ
  pub byte : ℕ
  pub names : named text address ≡ Some byte

-- the answer is exactly that
pub record Exact (text : List ℕ) : Type 0 where
  pub refused_so : (f : TextFault) → text_of text ≡ Err f → Refused text f
  pub refuses : (f : TextFault) → Refused text f → text_of text ≡ Err f
  pub accepted_so : text_of text ≡ Ok tt → Accepted text
  pub accepts : Accepted text → text_of text ≡ Ok tt
