-- The machine of a simulated sensor. Assumes nothing.
use Rattle.sensor.specs.Kinds.{KindIs}
use Rattle.sensor.specs.Machines.{Machine}
use Rattle.simulator.specs.States.{SimIs}
use Rattle.simulator.specs.Steps.{stepped}
use Rattle.simulator.specs.Lawful.{stepped_lawful}

abbrev pub simulated : KindIs → Machine SimIs
simulated k = record { kind = k; step = stepped k; sensor = λ s. s.sensor; lawful = stepped_lawful k }
