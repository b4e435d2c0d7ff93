-- What becomes of an exchange by a choice, and by a script. Assumes nothing.
use Rattle.std.specs.Prelude.{ℕ, Bool, true, false, cond, ◌&&◌, List, slice_index_or}
use Rattle.sensor.specs.Kinds.{KindIs}
use Rattle.sensor.specs.Exchanges.{Exchange, writes, reads, acknowledged, missed, filled, Outcome}
use Rattle.sensor.specs.Sensors.{Sensor, started_up, rested, switched_on}
use Rattle.sensor.specs.Scripts.{past}
use Rattle.sensor.specs.Meaning.{asked}
use Rattle.adversary.specs.Choices.{Choice, clean}
use Rattle.adversary.specs.Sending.{arrives, written}
use Rattle.adversary.specs.Showing.{shown_bytes, after_shown}

-- a starting sensor starts, if so chosen
abbrev pub started_if : Bool → Sensor → Sensor
started_if starts s = cond starts (started_up s) s

-- an exchange apart from a start
abbrev pub effect : KindIs → Choice → Sensor → Exchange → Outcome Sensor
effect k c s (writes register bytes) =
    record {
      answer = cond (arrives c.arrival && c.heard) acknowledged missed;
      next = written k c s register bytes;
    }
effect k c s (reads register count) =
    record {
      answer = cond c.heard (filled (shown_bytes k c s (asked register count) count)) missed;
      next = cond c.heard (after_shown c s (asked register count)) (cond c.rests (rested s) s);
    }

-- an exchange, with a start before its effect or after it
abbrev pub chosen : KindIs → Choice → Sensor → Exchange → Outcome Sensor
chosen k c s e =
    record {
      answer = (effect k c (started_if c.starts_before s) e).answer;
      next = started_if c.starts_after (effect k c (started_if c.starts_before s) e).next;
    }

-- a sensor, the script of choices, and how many of them are used up
pub record Scripted : Type 0 where
  pub sensor : Sensor
  pub choices : List Choice
  pub at : ℕ

-- a sensor just switched on, with this RAM, and the script still unused
abbrev pub first : List ℕ → List Choice → Scripted
first ram choices = record { sensor = switched_on ram; choices = choices; at = 0 }

-- after the script's end, clean
abbrev pub choice_at : List Choice → ℕ → Choice
choice_at choices at = slice_index_or choices at clean

-- the choice of the next exchange
abbrev pub next_choice : Scripted → Choice
next_choice a = choice_at a.choices a.at

-- it is used up, and the sensor starts before its effect, if so chosen
abbrev pub begun : Scripted → Scripted
begun a =
    record {
      sensor = started_if (next_choice a).starts_before a.sensor;
      choices = a.choices;
      at = past a.choices a.at;
    }

-- an exchange of a size that a link has takes a choice; another is missed and does nothing
abbrev pub stepped : Bool → KindIs → Scripted → Exchange → Outcome Scripted
stepped true k a e =
    record {
      answer = (chosen k (next_choice a) a.sensor e).answer;
      next = record {
        sensor = (chosen k (next_choice a) a.sensor e).next;
        choices = a.choices;
        at = past a.choices a.at;
      };
    }
stepped false k a e = record { answer = missed; next = a }
