-- What an adversary stands for. Assumes nothing.
use Rattle.chip.specs.Chips.{sensor_in}
use Rattle.adversary.specs.declared.adversary.Adversary.{Adversary}
use Rattle.adversary.specs.Scripted.{Scripted}

-- the sensor that its chip stands for, and the lent script
abbrev pub scripted_in : {K : Type 0} → Adversary K → Scripted
scripted_in a = record { sensor = sensor_in a.chip; choices = a.choices.now; at = a.at }
