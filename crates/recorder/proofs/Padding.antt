-- Bytes at the front of zeros, and how many a read fills. Assumes nothing.
use Rattle.std.proofs.Common.{◌≡◌, ℕ, ◌++◌, ◌≤◌, Bool, true, false, List, length, take, leb, ◌-◌, replicate, OnOk, Ok, Err, Result, sym, refl, ap, ◌∙◌, subst, arith}
use Rattle.std.proofs.lemmas.Bool.{leb-true, and_parts}
use Rattle.std.proofs.lemmas.List.{take_at}
use Rattle.checksum.specs.Ranges.{within}
use Rattle.sensor.specs.declared.missed.Missed.{Missed}
use Rattle.sensor.specs.Kinds.{KindIs}
use Rattle.sensor.specs.Exchanges.{reads, Answer, filled, heard}
use Rattle.sensor.specs.Sensors.{Sensor}
use Rattle.sensor.specs.Meaning.{Allowed, Means}
use Rattle.sensor.specs.Machines.{Machine}
use Rattle.recorder.specs.Padded.{IsPadded}

pub front_padded : (bytes part rest : List ℕ) → part ≡ bytes → rest ≡ replicate (131 - length bytes) 0 → length bytes ≤ 131 → IsPadded (record { all = part ++ rest; len = length bytes })
front_padded bytes part rest same zero fits =
    let front : take (length bytes) (part ++ rest) ≡ bytes = ap (λ xs. take (length bytes) (xs ++ rest)) same ∙ take_at bytes rest (length bytes) refl in
    record {
      fits = fits;
      front = ap length front;
      zeros = ap (λ xs. xs ++ rest) (same ∙ sym front) ∙ ap (λ xs. take (length bytes) (part ++ rest) ++ xs) zero;
    }

-- only a read of 1 to 4 bytes is filled
few : (b : Bool) (k : KindIs) (s : Sensor) (register count : ℕ) (bytes : List ℕ) (after : Sensor) → Allowed b k s (reads register count) (filled bytes) after → b ≡ true
few true k s register count bytes after h = refl
few false k s register count bytes after h = let e = h.0 in cc

pub filled_fits :
    {S : Type 0} (m : Machine S) (s : S) (register count : ℕ) (bytes : List ℕ) (r : Result (Unit {0}) Missed)
    → (m.step s (reads register count)).answer ≡ heard r (filled bytes)
    → length bytes ≡ count
    → OnOk r (length bytes ≤ 131)
filled_fits m s register count bytes (Ok done) is long =
    let means : Answer → Type 0 = λ a. Means m.kind (m.sensor s) (reads register count) a (m.sensor (m.step s (reads register count)).next) in
    let sized = few (within 1 4 count) m.kind (m.sensor s) register count bytes _ (subst means is (m.lawful s (reads register count))) in
    let small : count ≤ 4 = leb-true count 4 (and_parts (leb 1 count) (leb count 4) sized).1 in
    omega arith
filled_fits m s register count bytes (Err e) is long = tt
