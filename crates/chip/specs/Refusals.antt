-- The words of a refusal. Assumes nothing.
use Rattle.std.specs.Prelude.{ℕ, List, codes}
use Rattle.bootloader.specs.Faults.{words_of}
use Rattle.chip.specs.declared.refusal.Refusal.{Refusal}
use Rattle.chip.specs.declared.refusal.Refusal.TheVariants.{IllFormed, Unable}

abbrev pub unable_words : List ℕ
unable_words = codes "the sensor cannot carry the command out"

-- those of the frame's fault
abbrev pub refusal_words : Refusal → List ℕ
refusal_words (IllFormed fault) = words_of fault
refusal_words Unable = unable_words
