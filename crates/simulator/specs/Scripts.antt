-- What a script says of an exchange. Assumes nothing.
use Rattle.std.specs.Prelude.{ℕ, Bool, true, false, cond, ◌==◌, nat_le, slice_index}
use Rattle.simulator.specs.declared.fate.Fate.{Fate}
use Rattle.simulator.specs.declared.fate.Fate.TheVariants.{Clean, Lost, Unheard, Flipped, Refused, Slow}
use Rattle.simulator.specs.declared.fate.Place.{Place}
use Rattle.simulator.specs.declared.fate.Place.TheVariants.{CountingFrame, Bootloader, Elsewhere}
use Rattle.simulator.specs.declared.fate.Way.{Way}
use Rattle.simulator.specs.declared.fate.Way.TheVariants.{Whole, Lost as lost, Unheard as unheard, Flipped as flipped}
use Rattle.simulator.specs.States.{SimIs}

-- what a byte of the script means
abbrev pub fate_of : ℕ → Fate
fate_of byte = cond (byte == 1) Lost (cond (byte == 2) Unheard (cond (byte == 3) Flipped (cond (byte == 4) Refused (cond (nat_le 16 byte) (Slow byte) Clean))))

-- what the next byte means; after the script's end it is 0
abbrev pub fate_at : SimIs → Fate
fate_at s = fate_of (slice_index s.script s.at)

-- where an exchange goes: to register 0x08 or not, as a frame that counts or not
abbrev pub place_of : Bool → Bool → Place
place_of true true = CountingFrame
place_of true false = Bootloader
place_of false counting = Elsewhere

-- how an exchange fares: only a frame that counts can be refused by the script, and only at register 0x08 a bit is flipped
abbrev pub way_at : Fate → Place → Way
way_at Clean place = Whole
way_at Lost place = lost
way_at Unheard place = unheard
way_at Flipped CountingFrame = flipped
way_at Flipped Bootloader = flipped
way_at Flipped Elsewhere = lost
way_at Refused CountingFrame = Whole
way_at Refused Bootloader = lost
way_at Refused Elsewhere = lost
way_at (Slow byte) place = Whole
