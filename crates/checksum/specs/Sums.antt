-- The sum modulo 256. The check byte of a text's line and the checksum of a frame both rest on it. Assumes nothing.
use Rattle.std.specs.Prelude.{ℕ, ◌%◌, List, sum}

abbrev pub sum256 : List ℕ → ℕ
sum256 bytes = sum bytes % 256
