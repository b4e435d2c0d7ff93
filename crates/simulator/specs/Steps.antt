-- What a simulated sensor does in an exchange. Assumes nothing.
use Rattle.std.specs.Prelude.{ℕ, Bool, true, false, List, ◌==◌}
use Rattle.sensor.specs.Kinds.{KindIs}
use Rattle.sensor.specs.Sensors.{counts}
use Rattle.sensor.specs.Exchanges.{Exchange, writes, reads, Answer, acknowledged, missed, filled, sized, Outcome}
use Rattle.sensor.specs.Meaning.{asked}
use Rattle.simulator.specs.declared.fate.Fate.{Fate}
use Rattle.simulator.specs.declared.fate.Way.{Way}
use Rattle.simulator.specs.declared.fate.Way.TheVariants.{Whole, Lost, Unheard, Flipped}
use Rattle.simulator.specs.States.{SimIs, advanced}
use Rattle.simulator.specs.Scripts.{fate_at, place_of, way_at}
use Rattle.simulator.specs.Frames.{flip_last, arrived}
use Rattle.simulator.specs.Reads.{shown, looked}

abbrev pub outcome : Answer → SimIs → Outcome SimIs
outcome answer next = record { answer = answer; next = next }

-- a write on its way: these bytes, and what bytes do that arrive
abbrev pub written : Way → List ℕ → (List ℕ → SimIs) → SimIs → Outcome SimIs
written Whole bytes arrive s = outcome acknowledged (arrive bytes)
written Lost bytes arrive s = outcome missed s
written Unheard bytes arrive s = outcome missed (arrive bytes)
written Flipped bytes arrive s = outcome acknowledged (arrive (flip_last bytes))

-- a read on its way: what it shows, and how it leaves the sensor
abbrev pub taken : Way → List ℕ → SimIs → SimIs → Outcome SimIs
taken Whole bytes after s = outcome (filled bytes) after
taken Lost bytes after s = outcome missed s
taken Unheard bytes after s = outcome missed after
taken Flipped bytes after s = outcome (filled (flip_last bytes)) after

abbrev pub exchanged : KindIs → Fate → SimIs → Exchange → Outcome SimIs
exchanged k fate s (writes register bytes) =
    written (way_at fate (place_of (register == 0x08) (counts s.sensor))) bytes (λ got. arrived k fate register got s) s
exchanged k fate s (reads register count) =
    taken (way_at fate (place_of (register == 0x08) false)) (shown k (asked register count) count s) (looked (asked register count) s) s

-- an exchange of a size that a link has takes a byte of the script; another is missed and does nothing
abbrev pub tried : Bool → KindIs → SimIs → Exchange → Outcome SimIs
tried true k s e = exchanged k (fate_at s) (advanced s) e
tried false k s e = outcome missed s

abbrev pub stepped : KindIs → SimIs → Exchange → Outcome SimIs
stepped k s e = tried (sized e) k s e
