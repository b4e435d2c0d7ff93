-- The machine of a recorder over a link. Assumes nothing.
use Rattle.sensor.specs.Exchanges.{Exchange, Outcome}
use Rattle.sensor.specs.Machines.{Machine}
use Rattle.recorder.specs.Kept.{kept}
use Rattle.recorder.specs.Books.{Book, noted}

pub record Recording (S : Type 0) : Type 0 where
  pub under : S
  pub book : Book

-- the link below is asked, and the exchange is noted with its answer
abbrev pub recorded : {S : Type 0} → Recording S → Exchange → Outcome S → Outcome (Recording S)
recorded r e o =
    record { answer = o.answer; next = record { under = o.next; book = noted (kept e o.answer) r.book } }

abbrev pub recording : {S : Type 0} → Machine S → Machine (Recording S)
recording m =
    record {
      kind = m.kind;
      step = λ r e. recorded r e (m.step r.under e);
      sensor = λ r. m.sensor r.under;
      lawful = λ r e. m.lawful r.under e;
    }
