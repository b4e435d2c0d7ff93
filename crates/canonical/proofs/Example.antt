-- A canonical text, written out. Assumes nothing.
use Rattle.std.proofs.Common.{◌≡◌, List, [], ◌∷◌, codes, refl, arith}
use Rattle.checksum.specs.Capitals.{capital}
use Rattle.canonical.specs.Canonical.{line_chars, DataSpec, canonical_text, Canonical}

-- four bytes at the address 0
abbrev pub one_line : List DataSpec
one_line = record { address = 0; bytes = 1 ∷ 2 ∷ 3 ∷ 4 ∷ [] } ∷ []

pub example_text : canonical_text one_line ≡ codes ":020000042000DA\n:0400000001020304F2\n:00000001FF\n"
unfolding capital line_chars
example_text = refl

pub example_canonical : Canonical one_line
unfolding capital line_chars
example_canonical = record {
  lines = (record { each = (omega arith, (omega arith, (omega arith, (omega arith, tt)))); few = omega arith; starts = omega arith; ends = omega arith }, tt);
  ascending = (omega arith, tt);
  names = omega arith;
  short = omega arith;
}
