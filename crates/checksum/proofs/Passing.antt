-- Whether some element of a list passes a test. Assumes nothing.
use Rattle.std.proofs.Common.{◌≡◌, Bool, true, false, ◌||◌, List, [], ◌∷◌, fold, refl}
use Rattle.std.specs.List.{list_any}

-- once one has passed, it stays so
passed : {X : Type 0} (p : X → Bool) (xs : List X) → fold (λ b x. b || p x) true xs ≡ true
passed p [] = refl
passed p (x ∷ xs) = passed p xs

pub fold-or : {X : Type 0} (p : X → Bool) (b : Bool) (xs : List X) → fold (λ b x. b || p x) b xs ≡ (b || list_any p xs)
fold-or p true xs = passed p xs
fold-or p false [] = refl
fold-or p false (x ∷ xs) = fold-or p (p x) xs
