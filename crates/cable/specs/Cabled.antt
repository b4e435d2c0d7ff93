-- The machine of a cable over a link. Assumes nothing.
use Rattle.sensor.specs.Exchanges.{sized}
use Rattle.sensor.specs.Machines.{Machine}
use Rattle.cable.specs.Entries.{Cabled, stepped}
use Rattle.cable.specs.Carrying.{stepped_lawful}

abbrev pub cabled : {S : Type 0} → Machine S → Machine (Cabled S)
cabled m =
    record {
      kind = m.kind;
      step = λ c e. stepped (sized e) c (m.step c.under e);
      sensor = λ c. m.sensor c.under;
      lawful = λ c e. stepped_lawful (sized e) m.kind m.sensor c e (m.step c.under e) (m.lawful c.under e);
    }
