-- The data frames of a patch: each data line goes as frames of 128 bytes and a remainder. Assumes nothing.
use Rattle.std.specs.Prelude.{ℕ, zero, suc, ◌+◌, ◌/◌, List, [], ◌∷◌, length, take, drop}
use Rattle.std.specs.List.{flat_map}
use Rattle.ihex.specs.Named.{DataIs, bytes_in, data_lines}

-- bytes that go from a start on, and the line that they come from
pub record Chunk : Type 0 where
  pub start : ℕ
  pub bytes : List ℕ
  pub line : ℕ

-- so many chunks, each of 128 bytes or of what is left
unfoldable pub chunks : ℕ → ℕ → List ℕ → ℕ → List Chunk
chunks zero start bytes ln = []
chunks (suc n) start bytes ln = record { start = start; bytes = take 128 bytes; line = ln } ∷ chunks n (start + 128) (drop 128 bytes) ln

-- as many as the bytes need: none for no byte, one for 128, two for 129
abbrev pub chunks_of : ℕ → List ℕ → ℕ → List Chunk
chunks_of start bytes ln = chunks ((length bytes + 127) / 128) start bytes ln

abbrev pub line_chunks : DataIs → List Chunk
line_chunks d = chunks_of d.address (bytes_in d) d.line

-- a data frame: a chunk with its number in the patch
pub record FrameIs : Type 0 where
  pub start : ℕ
  pub bytes : List ℕ
  pub line : ℕ
  pub number : ℕ

unfoldable pub numbered : ℕ → List Chunk → List FrameIs
numbered n [] = []
numbered n (c ∷ cs) = record { start = c.start; bytes = c.bytes; line = c.line; number = n } ∷ numbered (n + 1) cs

-- all data frames of a text, numbered from 0
abbrev pub frames_of : List ℕ → List FrameIs
frames_of text = numbered 0 (flat_map line_chunks (data_lines text))
