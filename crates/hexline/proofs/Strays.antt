-- The first character that is no digit. Assumes nothing.
use Rattle.std.proofs.Common.{◌≡◌, ℕ, ◌+◌, cond, not, ltb, List, [], ◌∷◌, length, drop, is_some, Some, None, Option, refl, ap, ◌∙◌, ⊎_elim, arith}
use Rattle.std.proofs.lemmas.List.{length-drop}
use Rattle.std.proofs.lemmas.Bool.{lt-ltb, le-ltb, cases_lt}
use Rattle.std.specs.List.{prefix_len, position_or_len}
use Rattle.std.specs.Option.{is_none, option_map}
use Rattle.hexline.specs.Digits.{digit_of, is_digit}
use Rattle.hexline.specs.Records.{has_stray, stray_on}

not_none : {X : Type 0} (o : Option X) → not (is_none o) ≡ is_some o
not_none None = refl
not_none (Some x) = refl

-- digits stand as far as nothing else comes
prefix_len-digits : (xs : List ℕ) → position_or_len (λ c. is_none (digit_of c)) xs ≡ prefix_len is_digit xs
prefix_len-digits [] = refl
prefix_len-digits (x ∷ xs) = rw (not_none (digit_of x), prefix_len-digits xs)

-- the place after the colon, where there is one, is the place in the line
pub stray_from : (chars : List ℕ) (after : Option ℕ) → after ≡ cond (ltb (position_or_len (λ c. is_none (digit_of c)) (drop 1 chars)) (length (drop 1 chars))) (Some (position_or_len (λ c. is_none (digit_of c)) (drop 1 chars))) None → option_map (λ k. 1 + k) after ≡ cond (has_stray chars) (Some (stray_on chars)) None
stray_from chars after is =
    let n = prefix_len is_digit (drop 1 chars) in
    let long = length-drop 1 chars in
    ap (option_map (λ k. 1 + k)) (is ∙ ap (λ k. cond (ltb k (length (drop 1 chars))) (Some k) None) (prefix_len-digits (drop 1 chars)))
    ∙ ⊎_elim
    (λ lt. rw (lt-ltb n (length (drop 1 chars)) lt, lt-ltb (1 + n) (length chars) (omega arith)))
    (λ le. rw (le-ltb n (length (drop 1 chars)) le, le-ltb (1 + n) (length chars) (omega arith)))
    (cases_lt n (length (drop 1 chars)))
