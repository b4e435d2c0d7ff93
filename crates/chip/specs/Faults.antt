-- The number and the words of the fault of lent RAM. Assumes nothing.
use Rattle.std.specs.Prelude.{ℕ, cond, List, Ok, Err, codes, Result, ◌==◌}
use Rattle.chip.specs.declared.fault.RamFault.{RamFault}
use Rattle.chip.specs.declared.fault.RamFault.TheVariants.{WrongSize}

abbrev pub number_of : RamFault → ℕ
number_of WrongSize = 29

abbrev pub words_of : RamFault → List ℕ
words_of fault = codes "the lent RAM has the wrong size: lend as many bytes as the kind's window"

-- lent RAM has exactly as many bytes as the window
abbrev pub ram_checked : ℕ → ℕ → Result (Unit {0}) RamFault
ram_checked size window = cond (size == window) (Ok tt) (Err WrongSize)
