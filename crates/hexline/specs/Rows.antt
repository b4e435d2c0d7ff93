-- What the caller's row of 255 bytes holds. Assumes nothing.
use Rattle.std.specs.Prelude.{ℕ, ◌-◌, cond, not, List, ◌++◌, length, take, replicate, Ok, Err, Result, ◌==◌}
use Rattle.hexline.specs.declared.fault.TextFault.{TextFault}
use Rattle.hexline.specs.Records.{data_on}
use Rattle.hexline.specs.Lines.{LineIs, line_of}

-- the first n bytes as they were, and zero from there on
abbrev pub cleared : ℕ → List ℕ → List ℕ
cleared n row = take n row ++ replicate (length row - n) 0

-- bytes, and zero for the rest of the row
abbrev pub filled : List ℕ → List ℕ
filled bytes = bytes ++ replicate (255 - length bytes) 0

-- a line that is read leaves its data; a refused one has none
abbrev pub row_of : List ℕ → Result LineIs TextFault → List ℕ
row_of chars (Ok l) = filled (data_on chars)
row_of chars (Err e) = replicate 255 0

-- the row after a single line was read; one that has not 255 bytes stays as it was
abbrev pub row_after_line : List ℕ → List ℕ → List ℕ
row_after_line row chars = cond (not (length row == 255)) row (row_of chars (line_of 1 0 chars))

-- the row after a whole text was read, accepted or refused
abbrev pub row_after_text : List ℕ → List ℕ
row_after_text row = cond (not (length row == 255)) row (replicate 255 0)
