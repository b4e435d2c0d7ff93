-- Proof that a cable does what the sensor's meaning allows, where the link below does. Assumes nothing.
use Rattle.std.specs.Prelude.{Bool, true, false}
use Rattle.sensor.specs.Kinds.{KindIs}
use Rattle.sensor.specs.Exchanges.{Exchange, Outcome}
use Rattle.sensor.specs.Sensors.{Sensor}
use Rattle.sensor.specs.Meaning.{Allowed}
use Rattle.sensor.specs.Losing.{unheard, lost}
use Rattle.cable.specs.declared.entry.Entry.{Entry}
use Rattle.cable.specs.declared.entry.Entry.TheVariants.{Clean, Lost, Unheard}
use Rattle.cable.specs.Entries.{Cabled, entry_at, carried, stepped}

-- each entry keeps to the meaning
carried_lawful :
    {S : Type 0} (b : Bool) (k : KindIs) (sensor : S → Sensor) (entry : Entry) (s : S) (e : Exchange) (o : Outcome S)
    → Allowed b k (sensor s) e o.answer (sensor o.next)
    → Allowed b k (sensor s) e (carried entry s o).answer (sensor (carried entry s o).next)
carried_lawful b k sensor Clean s e o h = h
carried_lawful b k sensor Lost s e o h = lost b k (sensor s) e
carried_lawful b k sensor Unheard s e o h = unheard b k (sensor s) e o.answer (sensor o.next) h

pub stepped_lawful :
    {S : Type 0} (b : Bool) (k : KindIs) (sensor : S → Sensor) (c : Cabled S) (e : Exchange) (o : Outcome S)
    → Allowed b k (sensor c.under) e o.answer (sensor o.next)
    → Allowed b k (sensor c.under) e (stepped b c o).answer (sensor (stepped b c o).next.under)
stepped_lawful true k sensor c e o h = carried_lawful true k sensor (entry_at c.entries c.at) c.under e o h
stepped_lawful false k sensor c e o h = lost false k (sensor c.under) e
