-- Digits taken two by two. Assumes nothing.
use Rattle.std.proofs.Common.{◌≡◌, ℕ, zero, suc, ◌+◌, ◌*◌, ◌/◌, ◌<◌, List, [], ◌∷◌, ◌++◌, length, get_or, take, drop, set, sym, refl, ap, ◌∙◌, arith}
use Rattle.std.proofs.lemmas.List.{append_assoc, drop_more, take_more, set_at, length-take-le}
use Rattle.std.proofs.lemmas.List.FromFn.{length-enumerate_from, get_or-enumerate_from}
use Rattle.std.specs.List.{enumerate_from}
use Rattle.hexline.specs.Digits.{pair_value, pairs}

-- the byte at k is made of the digits at 2k and 2k + 1
pub get_or_pairs : (k : ℕ) (xs : List ℕ) → 2 * k + 1 < length xs → get_or (pairs xs) k 0 ≡ pair_value (get_or xs (2 * k) 0) (get_or xs (2 * k + 1) 0)
unfolding pairs
get_or_pairs k [] h = absurd (omega arith)
get_or_pairs k (a ∷ []) h = absurd (omega arith)
get_or_pairs zero (a ∷ b ∷ xs) h = refl
get_or_pairs (suc k) (a ∷ b ∷ xs) h =
    let e : 2 * suc k ≡ suc (suc (2 * k)) = omega arith in
    let f : suc (suc (2 * k)) + 1 ≡ suc (suc (2 * k + 1)) = omega arith in
    get_or_pairs k xs (omega arith) ∙ rw (e, f)

pub get_or_pairs_past : (k : ℕ) (xs : List ℕ) → length xs < 2 * k + 2 → get_or (pairs xs) k 0 ≡ 0
unfolding pairs
get_or_pairs_past k [] h = refl
get_or_pairs_past k (a ∷ []) h = refl
get_or_pairs_past zero (a ∷ b ∷ xs) h = absurd (omega arith)
get_or_pairs_past (suc k) (a ∷ b ∷ xs) h = get_or_pairs_past k xs (omega arith)

pub length_pairs : (xs : List ℕ) → length (pairs xs) ≡ length xs / 2
unfolding pairs
length_pairs [] = refl
length_pairs (a ∷ []) = refl
length_pairs (a ∷ b ∷ xs) = let e = length_pairs xs in omega arith

pub pairs_first : (xs : List ℕ) → 1 < length xs → pairs xs ≡ pair_value (get_or xs 0 0) (get_or xs 1 0) ∷ pairs (drop 2 xs)
unfolding pairs
pairs_first [] h = absurd (omega arith)
pairs_first (a ∷ []) h = absurd (omega arith)
pairs_first (a ∷ b ∷ xs) h = refl

pub pairs_none : (xs : List ℕ) → length xs < 2 → pairs xs ≡ []
unfolding pairs
pairs_none [] h = refl
pairs_none (a ∷ []) h = refl
pairs_none (a ∷ b ∷ xs) h = absurd (omega arith)

pub pairs_take : (n : ℕ) (xs : List ℕ) → pairs (take (2 * n) xs) ≡ take n (pairs xs)
unfolding pairs
pairs_take zero xs = refl
pairs_take (suc n) [] = let e : 2 * suc n ≡ suc (suc (2 * n)) = omega arith in rw e
pairs_take (suc n) (a ∷ []) = let e : 2 * suc n ≡ suc (suc (2 * n)) = omega arith in rw e
pairs_take (suc n) (a ∷ b ∷ xs) = let e : 2 * suc n ≡ suc (suc (2 * n)) = omega arith in rw e (ap (λ ys. pair_value a b ∷ ys) (pairs_take n xs))

pub pairs_drop : (n : ℕ) (xs : List ℕ) → pairs (drop (2 * n) xs) ≡ drop n (pairs xs)
unfolding pairs
pairs_drop zero xs = refl
pairs_drop (suc n) [] = let e : 2 * suc n ≡ suc (suc (2 * n)) = omega arith in rw e
pairs_drop (suc n) (a ∷ []) = let e : 2 * suc n ≡ suc (suc (2 * n)) = omega arith in rw e
pairs_drop (suc n) (a ∷ b ∷ xs) = let e : 2 * suc n ≡ suc (suc (2 * n)) = omega arith in rw e (pairs_drop n xs)

-- what `enumerate` gives at its turn
pub turn_is : (bs : List ℕ) (k i b : ℕ) → k < length (enumerate_from 0 bs) → ◌≡◌ {A = ℕ × ℕ} (i, b) (get_or (enumerate_from 0 bs) k (i, b)) → (k < length bs) × (i ≡ k) × (b ≡ get_or bs k b)
turn_is bs k i b lt is =
    let short : k < length bs = omega (arith, length-enumerate_from 0 bs) in
    let e : ◌≡◌ {A = ℕ × ℕ} (i, b) (k, get_or bs k b) = is ∙ get_or-enumerate_from 0 bs k (i, b) short ∙ ap (λ (n : ℕ). (n, get_or bs k b)) (omega arith) in
    (short, ap (λ (p : ℕ × ℕ). p.0) e, ap (λ (p : ℕ × ℕ). p.1) e)

-- one byte more at the front of a row
pub filled_more : (bytes row now : List ℕ) (i b : ℕ) → i < length bytes → i < length row → b ≡ get_or bytes i 0 → now ≡ take i bytes ++ drop i row → set now i b ≡ take (i + 1) bytes ++ drop (i + 1) row
filled_more bytes row now i b lt room is inv =
    ap (λ xs. set xs i b) (inv ∙ ap (λ d. take i bytes ++ d) (drop_more row i 0 room))
    ∙ set_at (take i bytes) (get_or row i 0) (drop (i + 1) row) b i (length-take-le i bytes (omega arith))
    ∙ rw is (sym (append_assoc (take i bytes) (get_or bytes i 0 ∷ []) (drop (i + 1) row)) ∙ ap (λ xs. xs ++ drop (i + 1) row) (sym (take_more bytes i 0 lt)))
