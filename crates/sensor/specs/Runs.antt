-- A list of exchanges asked of a link, one after the other. Assumes nothing.
use Rattle.std.specs.Prelude.{List, [], ◌∷◌}
use Rattle.sensor.specs.Exchanges.{Exchange, Answer}
use Rattle.sensor.specs.Machines.{Machine}

-- the answers
abbrev pub answers : {S : Type 0} → Machine S → S → List Exchange → List Answer
answers m s [] = []
answers m s (e ∷ es) = (m.step s e).answer ∷ answers m (m.step s e).next es

-- how the link stands after them
abbrev pub after : {S : Type 0} → Machine S → S → List Exchange → S
after m s [] = s
after m s (e ∷ es) = after m (m.step s e).next es
