-- What a checked patch holds. Assumes nothing.
use Rattle.std.specs.Prelude.{ℕ, List}
use Rattle.ihex.specs.declared.held.Patch.{Patch}

abbrev pub text_in : Patch → List ℕ
text_in p = p.text.now
