-- Proof that a simulated sensor does what the sensor's meaning allows. Assumes nothing.
use Rattle.std.specs.Prelude.{◌≡◌, ℕ, ◌≤◌, Bool, true, false, cond, ◌⊎◌, List, length, Result, ◌==◌, refl}
use Rattle.std.proofs.Common.{inl, arith}
use Rattle.bootloader.specs.declared.fault.FrameFault.{FrameFault}
use Rattle.bootloader.specs.Commands.{CommandIs}
use Rattle.sensor.specs.Kinds.{KindIs}
use Rattle.sensor.specs.Exchanges.{Exchange, writes, reads, Answer, acknowledged, missed, filled, sized}
use Rattle.sensor.specs.Sensors.{Sensor, rested, counts}
use Rattle.sensor.specs.declared.registers.Asked.{Asked}
use Rattle.sensor.specs.declared.registers.Asked.TheVariants.{Status as status_asked, Stage as enable_asked, App as app_asked, Other as other_asked}
use Rattle.sensor.specs.Meaning.{Refused, Obeyed, Judged, Taken, FrameSent, told, Told, Written, asked, Shown, Does, MayStart, Happens, Allowed, Means}
use Rattle.simulator.specs.declared.fate.Fate.{Fate}
use Rattle.simulator.specs.declared.fate.Fate.TheVariants.{Clean, Lost, Unheard, Flipped, Refused as refused, Slow}
use Rattle.simulator.specs.declared.fate.Way.{Way}
use Rattle.simulator.specs.States.{SimIs, advanced, with_sensor}
use Rattle.simulator.specs.Scripts.{fate_at, place_of, way_at}
use Rattle.simulator.specs.Frames.{flip_last, judged, counted}
use Rattle.simulator.specs.Reads.{shown, looked}
use Rattle.simulator.specs.Steps.{written, taken, exchanged, tried, stepped}
use Rattle.simulator.specs.Flipping.{last_changed}
use Rattle.std.proofs.lemmas.Grind.{common_steps}

-- frames

-- a command is carried out if it can be, and else refused
judged_lawful :
    (k : KindIs) (working : Bool) (says : Result CommandIs FrameFault) (s : Sensor)
    → Refused s (judged k working says s) ⊎ Obeyed k s says (judged k working says s)
judged_lawful = grind (arith, common_steps)

-- a frame that counts is refused or carried out
counted_lawful : (k : KindIs) (fate : Fate) (got : List ℕ) (s : SimIs) → Judged true k s.sensor got (counted k fate got s).sensor
counted_lawful = grind (arith, judged_lawful)

arrived_lawful :
    (c : Bool) (k : KindIs) (fate : Fate) (got : List ℕ) (s : SimIs)
    → Judged c k s.sensor got (cond c (counted k fate got s) s).sensor
arrived_lawful = grind (arith, counted_lawful)

-- a frame on its way
sent_lawful :
    (way : Way) (k : KindIs) (bytes : List ℕ) (arrive : List ℕ → SimIs) (s : SimIs)
    → 1 ≤ length bytes
    → ((got : List ℕ) → Taken k s.sensor got (arrive got).sensor)
    → FrameSent k s.sensor bytes (written way bytes arrive s).answer (written way bytes arrive s).next.sensor
sent_lawful = grind (arith, last_changed)

-- another write on its way
told_lawful :
    (fate : Fate) (k : KindIs) (register : ℕ) (bytes : List ℕ) (c : Bool) (s : SimIs)
    → let o = written (way_at fate (place_of false c)) bytes (λ got. with_sensor (told k (register == 0xE0) got s.sensor) s) s in
    Told k s.sensor register bytes o.answer o.next.sensor
told_lawful = grind (arith, common_steps)

written_lawful :
    (b : Bool) (fate : Fate) (k : KindIs) (register : ℕ) (bytes : List ℕ) (s : SimIs)
    → 1 ≤ length bytes
    → let o = written (way_at fate (place_of b (counts s.sensor))) bytes (λ got. cond b (cond (counts s.sensor) (counted k fate got s) s) (with_sensor (told k (register == 0xE0) got s.sensor) s)) s in
    Written b k s.sensor register bytes o.answer o.next.sensor
written_lawful true fate k register bytes s some =
    sent_lawful (way_at fate (place_of true (counts s.sensor))) k bytes (λ got. cond (counts s.sensor) (counted k fate got s) s) s some
    (λ got. arrived_lawful (counts s.sensor) k fate got s)
written_lawful false fate k register bytes s some = told_lawful fate k register bytes (counts s.sensor) s

-- reads

-- what is asked tells the number of bytes, and whether it is at register 0x08
abbrev Places : Asked → Bool → ℕ → Type 0
Places status_asked b count = count ≡ 3
Places enable_asked b count = (b ≡ false) × (count ≡ 1)
Places app_asked b count = (b ≡ false) × (count ≡ 1)
Places other_asked b count = Unit {0}

places : (register count : ℕ) → Places (asked register count) (register == 0x08) count
places = grind (arith, common_steps)

-- the sensor after a read, apart from a start
abbrev mid : Asked → SimIs → Sensor
mid status_asked s = (looked status_asked s).sensor
mid enable_asked s = s.sensor
mid app_asked s = s.sensor
mid other_asked s = s.sensor

mid_starts : (a : Asked) (s : SimIs) → MayStart (mid a s) (looked a s).sensor
mid_starts = grind (arith, common_steps)

-- a read that is missed
mid_missed : (a : Asked) (s : SimIs) → (mid a s ≡ s.sensor) ⊎ (mid a s ≡ rested s.sensor)
mid_missed = grind (arith, common_steps)

-- a filled read
whole_shown :
    (a : Asked) (b : Bool) (k : KindIs) (count : ℕ) (s : SimIs)
    → Places a b count
    → (length (shown k a count s) ≡ count) × Shown a k s.sensor (shown k a count s) (mid a s)
whole_shown = grind (arith, common_steps)

-- the same with a bit flipped, which is only at register 0x08
flipped_shown :
    (a : Asked) (k : KindIs) (count : ℕ) (s : SimIs)
    → Places a true count
    → (length (flip_last (shown k a count s)) ≡ count) × Shown a k s.sensor (flip_last (shown k a count s)) (mid a s)
flipped_shown status_asked k count s p = grind (arith, last_changed)
flipped_shown enable_asked k count s p = grind arith
flipped_shown app_asked k count s p = grind arith
flipped_shown other_asked k count s p = grind (arith, common_steps)

-- a read, told by what is asked
abbrev ReadDoes : Asked → KindIs → Sensor → ℕ → Answer → Sensor → Type 0
ReadDoes a k s count acknowledged after = ⊥
ReadDoes a k s count missed after = (after ≡ s) ⊎ (after ≡ rested s)
ReadDoes a k s count (filled got) after = (length got ≡ count) × Shown a k s got after

read_does : (register count : ℕ) (k : KindIs) (s : Sensor) (answer : Answer) (after : Sensor) → ReadDoes (asked register count) k s count answer after → Does k s (reads register count) answer after
read_does register count k s acknowledged after h = h
read_does register count k s missed after h = h
read_does register count k s (filled got) after h = h

pub record ReadHappens (a : Asked) (k : KindIs) (s : Sensor) (count : ℕ) (answer : Answer) (after : Sensor) : Type 0 where
  pub two : Sensor
  pub does : ReadDoes a k s count answer two
  pub later : MayStart two after

read_happens : (register count : ℕ) (k : KindIs) (s : Sensor) (answer : Answer) (after : Sensor) → ReadHappens (asked register count) k s count answer after → Happens k s (reads register count) answer after
read_happens register count k s answer after h = record { one = s; two = h.two; before = inl refl; does = read_does register count k s answer h.two h.does; later = h.later }

-- a read on its way
taken_lawful :
    (a : Asked) (b : Bool) (fate : Fate) (k : KindIs) (count : ℕ) (s : SimIs)
    → Places a b count
    → let o = taken (way_at fate (place_of b false)) (shown k a count s) (looked a s) s in
    ReadHappens a k s.sensor count o.answer o.next.sensor
taken_lawful a b Clean k count s p = record { two = mid a s; does = whole_shown a b k count s p; later = mid_starts a s }
taken_lawful a b Lost k count s p = record { two = s.sensor; does = inl refl; later = inl refl }
taken_lawful a b Unheard k count s p = record { two = mid a s; does = mid_missed a s; later = mid_starts a s }
taken_lawful a true Flipped k count s p = record { two = mid a s; does = flipped_shown a k count s p; later = mid_starts a s }
taken_lawful a false Flipped k count s p = record { two = s.sensor; does = inl refl; later = inl refl }
taken_lawful a true refused k count s p = record { two = s.sensor; does = inl refl; later = inl refl }
taken_lawful a false refused k count s p = record { two = s.sensor; does = inl refl; later = inl refl }
taken_lawful a b (Slow byte) k count s p = record { two = mid a s; does = whole_shown a b k count s p; later = mid_starts a s }

-- every exchange

some_bytes : (bytes : List ℕ) → sized (writes 0 bytes) ≡ true → 1 ≤ length bytes
some_bytes bytes e = grind (arith, common_steps)

exchanged_lawful :
    (k : KindIs) (fate : Fate) (s : SimIs) (e : Exchange)
    → sized e ≡ true
    → Happens k s.sensor e (exchanged k fate s e).answer (exchanged k fate s e).next.sensor
exchanged_lawful k fate s (writes register bytes) size =
    record {
      one = s.sensor;
      two = (exchanged k fate s (writes register bytes)).next.sensor;
      before = inl refl;
      does = written_lawful (register == 0x08) fate k register bytes s (some_bytes bytes size);
      later = inl refl;
    }
exchanged_lawful k fate s (reads register count) size =
    let o = exchanged k fate s (reads register count) in
    read_happens register count k s.sensor o.answer o.next.sensor (taken_lawful (asked register count) (register == 0x08) fate k count s (places register count))

tried_lawful :
    (t : Bool) (k : KindIs) (s : SimIs) (e : Exchange)
    → sized e ≡ t
    → Allowed t k s.sensor e (tried t k s e).answer (tried t k s e).next.sensor
tried_lawful true k s e size = exchanged_lawful k (fate_at s) (advanced s) e size
tried_lawful false k s e size = (refl, refl)

pub stepped_lawful : (k : KindIs) (s : SimIs) (e : Exchange) → Means k s.sensor e (stepped k s e).answer (stepped k s e).next.sensor
stepped_lawful k s e = tried_lawful (sized e) k s e refl
