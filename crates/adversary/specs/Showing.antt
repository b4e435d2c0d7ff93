-- What becomes of a read by a choice. Assumes nothing.
use Rattle.std.specs.Prelude.{ℕ, Bool, true, false, cond, not, ◌&&◌, List, [], ◌∷◌, take, slice_index}
use Rattle.checksum.specs.Ranges.{within}
use Rattle.bootloader.specs.Replies.{status_reply}
use Rattle.sensor.specs.declared.enable.Enable.{Enable}
use Rattle.sensor.specs.declared.enable.Enable.TheVariants.{Asleep, Starting, Ready, Strange}
use Rattle.sensor.specs.Kinds.{KindIs, seen, enable_of}
use Rattle.sensor.specs.Sensors.{Sensor, rested, in_loader}
use Rattle.sensor.specs.declared.registers.Asked.{Asked}
use Rattle.sensor.specs.declared.registers.Asked.TheVariants.{Status as status_asked, Stage as enable_asked, App as app_asked, Other as other_asked}
use Rattle.sensor.specs.Meaning.{enable_at, app_at}
use Rattle.adversary.specs.Choices.{Arrival, whole, one_changed, cut_short, lost, Choice, four}
use Rattle.adversary.specs.Sending.{changed}

-- a working sensor shows a busy number, if the choice has one and does not end the work
abbrev pub shows_busy : Choice → Sensor → Bool
shows_busy c s = s.working && (within 16 255 c.busy && not c.rests)

abbrev pub status_number : Choice → Sensor → ℕ
status_number c s = cond (shows_busy c s) c.busy s.status

-- a reply arrives whole, or with one byte changed
abbrev pub noisy : Arrival → List ℕ → List ℕ
noisy whole reply = reply
noisy (one_changed at to) reply = changed reply at to
noisy (cut_short at) reply = reply
noisy lost reply = reply

-- whether two values of ENABLE say the same
abbrev pub same : Enable → Enable → Bool
same Asleep Asleep = true
same Asleep Starting = false
same Asleep Ready = false
same Asleep Strange = false
same Starting Asleep = false
same Starting Starting = true
same Starting Ready = false
same Starting Strange = false
same Ready Asleep = false
same Ready Starting = false
same Ready Ready = true
same Ready Strange = false
same Strange Asleep = false
same Strange Starting = false
same Strange Ready = false
same Strange Strange = true

-- the value of the choice if it says what ENABLE has to say, else the least that does
abbrev pub enable_shown : KindIs → Enable → ℕ → ℕ
enable_shown k says value = cond (same (seen k value) says) value (enable_of k says)

-- what a filled read of so many bytes shows
abbrev pub shown_bytes : KindIs → Choice → Sensor → Asked → ℕ → List ℕ
shown_bytes k c s status_asked count =
    cond (in_loader s.stage) (noisy c.arrival (status_reply (status_number c s))) (take count (four c.shown))
shown_bytes k c s enable_asked count = enable_shown k (enable_at s.stage) (slice_index c.shown 0) ∷ []
shown_bytes k c s app_asked count = app_at k s.stage (slice_index c.shown 0) ∷ []
shown_bytes k c s other_asked count = take count (four c.shown)

-- a status read ends the work, unless busy is shown
abbrev pub after_shown : Choice → Sensor → Asked → Sensor
after_shown c s status_asked = cond (in_loader s.stage) (cond (shows_busy c s) s (rested s)) s
after_shown c s enable_asked = s
after_shown c s app_asked = s
after_shown c s other_asked = s
