-- How one outcome follows from another. Assumes nothing.
use Rattle.std.specs.Prelude.{Ok, Err, Result}

-- go on with the value, or stay at the fault
abbrev pub and_then : {X Y E : Type 0} → Result X E → (X → Result Y E) → Result Y E
and_then (Ok x) f = f x
and_then (Err e) f = Err e

-- the same value, or the fault turned into an upper layer's
abbrev pub map_err : {X E F : Type 0} → (E → F) → Result X E → Result X F
map_err f (Ok x) = Ok x
map_err f (Err e) = Err (f e)

-- the value turned into another, or the same fault
abbrev pub map_ok : {X Y E : Type 0} → (X → Y) → Result X E → Result Y E
map_ok f (Ok x) = Ok (f x)
map_ok f (Err e) = Err e
