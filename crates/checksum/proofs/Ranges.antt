-- Numbers in a range, and above it. Assumes nothing.
use Rattle.std.proofs.Common.{◌≡◌, ℕ, ◌<◌, ◌≤◌, true, false, leb}
use Rattle.std.proofs.lemmas.Bool.{le-leb, leb-true, lt-leb, and_from, and_parts, and_right}
use Rattle.checksum.specs.Ranges.{within}

pub within_from : (a b n : ℕ) → a ≤ n → n ≤ b → within a b n ≡ true
within_from a b n low high = and_from (leb a n) (leb n b) (le-leb a n low) (le-leb n b high)

pub within_parts : (a b n : ℕ) → within a b n ≡ true → (a ≤ n) × (n ≤ b)
within_parts a b n is = let p = and_parts (leb a n) (leb n b) is in (leb-true a n p.0, leb-true n b p.1)

pub above_none : (a b n : ℕ) → b < n → within a b n ≡ false
above_none a b n past = and_right (leb a n) (leb n b) (lt-leb n b past)
