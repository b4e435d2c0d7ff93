-- Bytes as capital digits, and back. Assumes nothing.
use Rattle.std.proofs.Common.{◌≡◌, ℕ, ◌+◌, ◌-◌, ◌*◌, ◌/◌, ◌%◌, ◌<◌, ◌≤◌, true, false, ltb, List, [], ◌∷◌, ◌++◌, length, take, Some, unwrap_or, refl, ap, ◌∙◌, inl, inr, arith}
use Rattle.std.proofs.lemmas.Grind.{flat_map-append}
use Rattle.std.proofs.lemmas.List.{take_at}
use Rattle.std.proofs.lemmas.Bool.{lt-ltb, le-ltb, cond_both, cases_lt}
use Rattle.std.specs.List.{flat_map, prefix_len, AllByRecursion}
use Rattle.checksum.specs.Ranges.{within}
use Rattle.checksum.proofs.Ranges.{within_from, above_none}
use Rattle.hexline.specs.Digits.{digit_of, is_digit, pair_value, pairs}
use Rattle.checksum.specs.Capitals.{capital}
use Rattle.canonical.specs.Canonical.{two_digits}

-- a capital digit stands for its value
digit_of_capital : (v : ℕ) → v < 16 → digit_of (capital v) ≡ Some v
unfolding capital
digit_of_capital v small =
    elim (cases_lt v 10) [
      | inl low ↦
          let decimal : within 48 57 (48 + v) ≡ true = within_from 48 57 (48 + v) (omega arith) (omega arith) in
          let back : 48 + v - 48 ≡ v = omega arith in
          rw (lt-ltb v 10 low, decimal, back)
      | inr high ↦
          let past : within 48 57 (55 + v) ≡ false = above_none 48 57 (55 + v) (omega arith) in
          let letter : within 65 70 (55 + v) ≡ true = within_from 65 70 (55 + v) (omega arith) (omega arith) in
          let back : 55 + v - 55 ≡ v = omega arith in
          rw (le-ltb v 10 high, past, letter, back)
    ]

-- no digit is a control character
capital_high : (v : ℕ) → 48 ≤ capital v
unfolding capital
capital_high v = cond_both (ltb v 10) (48 + v) (55 + v) (λ c. 48 ≤ c) (λ _. omega arith) (λ _. omega arith)

abbrev pub Bytes : List ℕ → Type 0
Bytes bs = AllByRecursion (λ b. b < 256) bs

pub digits_high : (bs : List ℕ) → AllByRecursion (λ c. 48 ≤ c) (flat_map two_digits bs)
digits_high [] = tt
digits_high (b ∷ bs) = (capital_high (b / 16), (capital_high (b % 16), digits_high bs))

pub length_digits : (bs : List ℕ) → length (flat_map two_digits bs) ≡ 2 * length bs
length_digits [] = refl
length_digits (b ∷ bs) = let e = length_digits bs in omega arith

pub take_digits : (xs ys : List ℕ) → take (2 * length xs) (flat_map two_digits (xs ++ ys)) ≡ flat_map two_digits xs
take_digits xs ys = ap (take (2 * length xs)) (flat_map-append two_digits xs ys) ∙ take_at (flat_map two_digits xs) (flat_map two_digits ys) (2 * length xs) (length_digits xs)

pub all_digits : (bs : List ℕ) → Bytes bs → prefix_len is_digit (flat_map two_digits bs) ≡ length (flat_map two_digits bs)
all_digits [] h = refl
all_digits (b ∷ bs) h =
    let high = digit_of_capital (b / 16) (omega arith) in
    let low = digit_of_capital (b % 16) (omega arith) in
    rw (high, low, all_digits bs h.1) (omega arith)

pair_of_digits : (b : ℕ) → b < 256 → pair_value (capital (b / 16)) (capital (b % 16)) ≡ b
unfolding pair_value
pair_of_digits b small =
    let high = ap (λ o. unwrap_or o 0) (digit_of_capital (b / 16) (omega arith)) in
    let low = ap (λ o. unwrap_or o 0) (digit_of_capital (b % 16) (omega arith)) in
    omega arith

pub pairs_of_digits : (bs : List ℕ) → Bytes bs → pairs (flat_map two_digits bs) ≡ bs
unfolding pairs
pairs_of_digits [] h = refl
pairs_of_digits (b ∷ bs) h = rw (pair_of_digits b h.0, pairs_of_digits bs h.1)
