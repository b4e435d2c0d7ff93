-- The words of a fault. Assumes nothing.
use Rattle.std.specs.Prelude.{ℕ, List, codes}
use Rattle.playing.specs.declared.fault.PlayFault.{PlayFault}
use Rattle.playing.specs.declared.fault.PlayFault.TheVariants.{NoPairs, NoPlay, Memory}

abbrev pub words_of : PlayFault → List ℕ
words_of NoPairs = codes "not digit pairs"
words_of NoPlay = codes "no kind, entry or exchange that can be played"
words_of Memory = codes "no memory was left"
