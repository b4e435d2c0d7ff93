-- What is known where a sensor is made over lent RAM. Assumes nothing.
use Rattle.std.specs.Prelude.{◌≡◌, ℕ, Ok, Err, Result, MatchResult}
use Rattle.chip.specs.declared.fault.Refused.{Refused}
use Rattle.chip.specs.Faults.{ram_checked}

-- it is made exactly where the RAM has as many bytes as the window
abbrev pub SizeChecked : {S : Type 0} → ℕ → ℕ → Result S Refused → Type 0
SizeChecked size window result = MatchResult result (λ _. ram_checked size window ≡ Ok tt) (λ e. ram_checked size window ≡ Err e.fault)
