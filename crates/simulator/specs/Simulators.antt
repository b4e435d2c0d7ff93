-- What a simulated sensor stands for. Assumes nothing.
use Rattle.chip.specs.Chips.{sensor_in}
use Rattle.simulator.specs.declared.simulated.Simulated.{Simulated}
use Rattle.simulator.specs.States.{SimIs}

-- its RAM is what the lent memory holds
abbrev pub sim_in : {K : Type 0} → Simulated K → SimIs
sim_in s = record { sensor = sensor_in s.chip; busy = s.busy; left = s.left; script = s.script.now; at = s.at }
