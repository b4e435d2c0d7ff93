-- Bytes added up modulo 256 as they come. Assumes nothing.
use Rattle.std.proofs.Common.{◌≡◌, ℕ, ◌+◌, ◌%◌, List, [], ◌∷◌, sum, fold, ap, ◌∙◌, arith}
use Rattle.std.proofs.lemmas.List.Sums.{sum_by-cons}
use Rattle.checksum.specs.Sums.{sum256}

abbrev pub wrapped : ℕ → ℕ → ℕ
wrapped total byte = (total + byte) % 256

wrapped_from : (a : ℕ) (bytes : List ℕ) → fold wrapped (a % 256) bytes ≡ (a + sum bytes) % 256
wrapped_from a [] = omega arith
wrapped_from a (b ∷ bs) =
    let e : (a % 256 + b) % 256 ≡ (a + b) % 256 = omega arith in
    ap (λ n. fold wrapped n bs) e ∙ wrapped_from (a + b) bs ∙ omega (arith, sum_by-cons (λ x. x) b bs)

pub fold-wrapped : (bytes : List ℕ) → fold wrapped 0 bytes ≡ sum256 bytes
fold-wrapped bytes = wrapped_from 0 bytes ∙ omega arith
