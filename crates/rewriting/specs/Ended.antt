-- Lines written with their ends. Assumes nothing.
use Rattle.std.specs.Prelude.{ℕ, ◌-◌, Bool, cond, List, [], ◌∷◌, ◌++◌, map, length, ◌≢◌, slice_index}
use Rattle.std.specs.List.{flat_map, AllByRecursion}

-- a line's characters, and whether a CR stands before its LF
pub record EndedLine : Type 0 where
  pub chars : List ℕ
  pub cr : Bool

-- the line with its end: LF (10), or CR (13) and LF
abbrev pub ended : EndedLine → List ℕ
ended l = l.chars ++ cond l.cr (13 ∷ (10 ∷ [])) (10 ∷ [])

-- the text of lines, and of what stands after them, such as a last line without an end
abbrev pub written : List EndedLine → List ℕ → List ℕ
written ls rest = flat_map ended ls ++ rest

abbrev pub chars_of : List EndedLine → List (List ℕ)
chars_of ls = map (λ l. l.chars) ls

-- characters with no LF, and no CR as the last: a CR before the LF is then the end's own
abbrev pub Unended : List ℕ → Type 0
Unended chars = AllByRecursion (λ c. c ≢ 10) chars × (slice_index chars (length chars - 1) ≢ 13)
