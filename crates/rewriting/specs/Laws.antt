-- What may change in a text while every byte that it names stays. Assumes nothing.
use Rattle.std.specs.Prelude.{◌≡◌, ℕ, ◌<◌, ◌≤◌, true, List, ◌∷◌, ◌++◌, length, Ok}
use Rattle.std.specs.List.{AllByRecursion}
use Rattle.hexline.specs.Lines.{start_is, line_of}
use Rattle.ihex.specs.Reads.{longest_text, text_of, accepted}
use Rattle.ihex.specs.Named.{named}
use Rattle.rewriting.specs.Ended.{EndedLine, written, chars_of, Unended}
use Rattle.rewriting.specs.Cases.{SameButCase}

-- the same byte, or none, at every address
abbrev pub SameBytes : List ℕ → List ℕ → Type 0
SameBytes text other = (a : ℕ) → named other a ≡ named text a

-- an accepted text's rewriting is accepted, and names the same bytes, as long as it is not too long
abbrev pub Keeps : List ℕ → List ℕ → Type 0
Keeps text other = accepted text ≡ true → length other ≤ longest_text → (accepted other ≡ true) × SameBytes text other

-- a CR before an LF may be added or left out at any line
abbrev pub EndsFree : Type 0
EndsFree = (ls others : List EndedLine) (rest : List ℕ) → AllByRecursion (λ l. Unended l.chars) ls → chars_of others ≡ chars_of ls → Keeps (written ls rest) (written others rest)

-- a digit may be written in either case: the answer is the same, with the same fault, line and place
abbrev pub CaseFree : Type 0
CaseFree = (text other : List ℕ) → SameButCase text other → (text_of other ≡ text_of text) × SameBytes text other

-- the characters are read as a type 05 line
abbrev pub StartLine : List ℕ → Type 0
StartLine chars = (digits : List ℕ) × (line_of 1 0 chars ≡ Ok (start_is digits 1 0))

-- a type 05 line may be put between any two lines, or before the first; the end line is the last, so it stands after
abbrev pub StartFree : Type 0
StartFree = (before after : List EndedLine) (rest : List ℕ) (start : EndedLine) → StartLine start.chars → 0 < length (written after rest) → Keeps (written (before ++ after) rest) (written (before ++ (start ∷ after)) rest)
