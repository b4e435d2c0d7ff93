-- The choices of a script. Assumes nothing.
use Rattle.std.specs.Prelude.{◌≡◌, ℕ, ◌<◌, true, false, List, [], ◌∷◌, length, slice_index}
pub use Rattle.adversary.specs.declared.choice.Arrival.{Arrival}
pub use Rattle.adversary.specs.declared.choice.Arrival.TheVariants.{Whole as whole, Changed as one_changed, Cut as cut_short, Lost as lost}
pub use Rattle.adversary.specs.declared.choice.Choice.{Choice}

-- nothing goes wrong
abbrev pub clean : Choice
clean = record { starts_before = true; starts_after = false; heard = true; arrival = whole; obeys = true; status = 15; working = false; rests = true; busy = 0; shown = 0 ∷ 0 ∷ 0 ∷ 0 ∷ [] }

-- the first four of some numbers, with 0 for each that is not there
abbrev pub four : List ℕ → List ℕ
four xs = slice_index xs 0 ∷ slice_index xs 1 ∷ slice_index xs 2 ∷ slice_index xs 3 ∷ []

-- each of some numbers is a byte
abbrev pub AllBytes : List ℕ → Type 0
AllBytes xs = (i : ℕ) → slice_index xs i < 256

-- the numbers in an arrival are bytes
abbrev pub ArrivalFits : Arrival → Type 0
ArrivalFits whole = Unit {0}
ArrivalFits (one_changed at to) = (at < 256) × (to < 256)
ArrivalFits (cut_short at) = at < 256
ArrivalFits lost = Unit {0}

-- the numbers in a choice are bytes, so that a program can write it
pub record Fits (c : Choice) : Type 0 where
  pub arrival : ArrivalFits c.arrival
  pub status : c.status < 256
  pub busy : c.busy < 256
  pub four : length c.shown ≡ 4
  pub shown : AllBytes c.shown
