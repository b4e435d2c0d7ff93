-- Bytes stored one after another. Assumes nothing.
use Rattle.std.proofs.Common.{◌≡◌, ℕ, zero, suc, ◌-◌, ◌≤◌, List, [], ◌∷◌, length, take, set, min, refl, sym, arith}
use lib.Seq.{sets, sets-eq, set_out}
use borrow.Rule.Slice.PartMut.{put_mid}
use Rattle.std.proofs.lemmas.Grind.{common_steps}

-- past the end nothing is stored
pub stored_out : (bytes ram : List ℕ) (from : ℕ) → length ram ≤ from → sets ram from bytes ≡ ram
stored_out [] ram from h = refl
stored_out (b ∷ bs) ram from h = grind (arith, set_out, stored_out bs ram (suc from))

-- as many are stored as there is room for
stored_room : (count : ℕ) (bytes ram : List ℕ) (from : ℕ) → min (length bytes) (length ram - from) ≤ count → sets ram from (take count bytes) ≡ sets ram from bytes
stored_room zero [] ram from h = refl
stored_room zero (b ∷ bs) ram from h = sym (stored_out (b ∷ bs) ram from (omega arith))
stored_room (suc n) [] ram from h = refl
stored_room (suc n) (b ∷ bs) ram from h = grind (arith, common_steps, stored_room n bs (set ram from b) (suc from))

-- those stand in the place of what they replace
pub stored :
    (bytes ram part : List ℕ) (from count size : ℕ)
    → from ≤ length ram
    → count ≡ min (length bytes) (length ram - from)
    → size ≡ count
    → part ≡ take count bytes
    → put_mid from size ram part ≡ sets ram from bytes
stored bytes ram part from count size within is size_is part_is =
    grind (arith, common_steps, stored_room, sets-eq)
