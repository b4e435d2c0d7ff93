-- Proof that an exchange may be lost, and that its answer may be lost. Assumes nothing.
use Rattle.std.specs.Prelude.{◌≡◌, ℕ, Bool, true, false, ◌⊎◌, List, ◌==◌, refl}
use Rattle.std.proofs.Common.{inl, inr}
use Rattle.sensor.specs.declared.stage.Stage.{Stage}
use Rattle.sensor.specs.declared.stage.Stage.TheVariants.{Asleep, Starting, Loader, Application}
use Rattle.sensor.specs.Kinds.{KindIs}
use Rattle.sensor.specs.Exchanges.{Exchange, writes, reads, Answer, acknowledged, missed, filled}
use Rattle.sensor.specs.Sensors.{Sensor, rested}
use Rattle.sensor.specs.declared.registers.Asked.{Asked}
use Rattle.sensor.specs.declared.registers.Asked.TheVariants.{Status as status_asked, Stage as enable_asked, App as app_asked, Other as other_asked}
use Rattle.sensor.specs.Meaning.{Written, asked, StatusShown, Shown, Does, Allowed}

-- what is allowed with an answer is also allowed with the answer missed

-- a write
written_unheard :
    (b : Bool) (k : KindIs) (s : Sensor) (register : ℕ) (bytes : List ℕ) (answer : Answer) (after : Sensor)
    → Written b k s register bytes answer after
    → Written b k s register bytes missed after
written_unheard true k s register bytes acknowledged after h = inr (h.0, (inl h.1.0, h.1.1))
written_unheard true k s register bytes missed after h = h
written_unheard true k s register bytes (filled got) after h = absurd h
written_unheard false k s register bytes acknowledged after h = inr h
written_unheard false k s register bytes missed after h = h
written_unheard false k s register bytes (filled got) after h = absurd h

-- a status read
status_unheard :
    (stage : Stage) (s : Sensor) (got : List ℕ) (after : Sensor)
    → StatusShown stage s got after
    → (after ≡ s) ⊎ (after ≡ rested s)
status_unheard Loader s got after (inl busy) = inl busy.is
status_unheard Loader s got after (inr status) = inr status.is
status_unheard Asleep s got after h = inl h
status_unheard Starting s got after h = inl h
status_unheard Application s got after h = inl h

-- a filled read
shown_unheard :
    (what : Asked) (k : KindIs) (s : Sensor) (got : List ℕ) (after : Sensor)
    → Shown what k s got after
    → (after ≡ s) ⊎ (after ≡ rested s)
shown_unheard status_asked k s got after h = status_unheard s.stage s got after h
shown_unheard enable_asked k s got after h = inl h.0
shown_unheard app_asked k s got after h = inl h.0
shown_unheard other_asked k s got after h = inl h

does_unheard :
    (k : KindIs) (s : Sensor) (e : Exchange) (answer : Answer) (after : Sensor)
    → Does k s e answer after
    → Does k s e missed after
does_unheard k s (writes register bytes) answer after h =
    written_unheard (register == 0x08) k s register bytes answer after h
does_unheard k s (reads register count) acknowledged after h = absurd h
does_unheard k s (reads register count) missed after h = h
does_unheard k s (reads register count) (filled got) after h =
    shown_unheard (asked register count) k s got after h.1

-- an exchange whose answer is dropped
pub unheard :
    (b : Bool) (k : KindIs) (s : Sensor) (e : Exchange) (answer : Answer) (after : Sensor)
    → Allowed b k s e answer after
    → Allowed b k s e missed after
unheard true k s e answer after h =
    record {
      one = h.one;
      two = h.two;
      before = h.before;
      does = does_unheard k h.one e answer h.two h.does;
      later = h.later;
    }
unheard false k s e answer after h = (refl, h.1)

-- nothing done, and missed, is always allowed

writes_nothing :
    (b : Bool) (k : KindIs) (s : Sensor) (register : ℕ) (bytes : List ℕ) → Written b k s register bytes missed s
writes_nothing true k s register bytes = inl refl
writes_nothing false k s register bytes = inl refl

does_nothing : (k : KindIs) (s : Sensor) (e : Exchange) → Does k s e missed s
does_nothing k s (writes register bytes) = writes_nothing (register == 0x08) k s register bytes
does_nothing k s (reads register count) = inl refl

-- an exchange that is lost
pub lost : (b : Bool) (k : KindIs) (s : Sensor) (e : Exchange) → Allowed b k s e missed s
lost true k s e = record { one = s; two = s; before = inl refl; does = does_nothing k s e; later = inl refl }
lost false k s e = (refl, refl)
