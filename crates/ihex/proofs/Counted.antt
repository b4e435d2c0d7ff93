-- How many frames come. Assumes nothing.
use Rattle.std.proofs.Common.{◌≡◌, ◌+◌, ◌^◌, ◌<◌, List, [], ◌∷◌, length, ap, arith}
use Rattle.std.specs.Iterator.{Yields}
use Rattle.std.specs.Iterator.Runs.{Trigger, YieldsRun, EachRunFrom}
use Rattle.ihex.specs.declared.frames.DataFrame.{DataFrame}
use Rattle.ihex.specs.declared.frames.DataFrames.{DataFrames}
use Rattle.ihex.specs.Walks.{FrameStep}

counted : (xs : List DataFrame) (s t : DataFrames) → Yields FrameStep s xs t → t.count ≡ s.count + length xs
counted [] s t y = omega (arith, ap (λ w. w.count) y)
counted (x ∷ xs) s t y = omega (arith, y.1.2, counted xs y.0 t y.2)

-- fewer than fit a number
pub count_fits : (s : DataFrames) → EachRunFrom FrameStep s (λ p. Trigger (2 ^ 64) → 0 + p.len < 2 ^ 64)
unfolding YieldsRun
count_fits s p seen from fits =
    let drained = p.gave.0 in
    let last = drained.0 in
    omega (arith, counted p.items p.from last drained.1, p.long, last.few, last.lines.lines.within)
