-- Proof that a script can bring about whatever the sensor's meaning allows. Assumes nothing.
use Rattle.std.proofs.Common.{◌≡◌, ℕ, ◌<◌, ◌≤◌, Bool, true, false, cond, ◌&&◌, eqb, List, [], ◌∷◌, length, get_or, take, set, Ok, Err, Result, sym, refl, ap, ◌∙◌, inl, inr, arith}
use Rattle.bootloader.specs.declared.fault.FrameFault.{FrameFault}
use Rattle.bootloader.specs.Commands.{CommandIs}
use Rattle.bootloader.specs.Frames.{decode_of}
use Rattle.bootloader.specs.Replies.{status_reply}
use Rattle.sensor.specs.declared.enable.Enable.{Enable}
use Rattle.sensor.specs.declared.stage.Stage.{Stage}
use Rattle.sensor.specs.declared.stage.Stage.TheVariants.{Asleep as asleep, Starting as starting, Loader as loader, Application as application}
use Rattle.sensor.specs.Kinds.{KindIs, seen}
use Rattle.sensor.specs.Exchanges.{Exchange, writes, reads, Answer, acknowledged, missed, filled, sized}
use Rattle.sensor.specs.Sensors.{Sensor, is_starting, started, rested, counts, in_loader}
use Rattle.sensor.specs.declared.registers.Asked.{Asked}
use Rattle.sensor.specs.declared.registers.Asked.TheVariants.{Status as status_asked, Stage as enable_asked, App as app_asked, Other as other_asked}
use Rattle.sensor.specs.Meaning.{Noisy, CutShort, Obeyed, Judged, told, Written, app_at, AppShown, ShowsBusy, ShowsStatus, StatusShown, asked, Shown, Does, MayStart, Happens, Allowed}
use Rattle.adversary.specs.Choices.{Arrival, whole, one_changed, cut_short, lost, Choice, clean, four, AllBytes, ArrivalFits, Fits}
use Rattle.adversary.specs.Sending.{changed, reason_of, refused, obeyed, judged, frame_sent, arrives}
use Rattle.adversary.specs.Showing.{shows_busy, status_number, noisy, enable_shown, shown_bytes, after_shown}
use Rattle.adversary.specs.Scripted.{started_if, effect, chosen}
use Rattle.adversary.specs.Lawful.{Sized, asked_sized}
use Rattle.adversary.specs.Complete.{AnswerBytes, Gives, Complete}
use Rattle.std.proofs.lemmas.Grind.{common_steps}

-- the choices that a write needs, and those that a read needs

abbrev sending : Bool → Bool → Bool → Arrival → Bool → ℕ → Bool → Choice
sending before later heard arrival obeys status working =
    record { starts_before = before; starts_after = later; heard = heard; arrival = arrival; obeys = obeys; status = status; working = working; rests = false; busy = 0; shown = 0 ∷ 0 ∷ 0 ∷ 0 ∷ [] }

abbrev reading : Bool → Bool → Bool → Arrival → Bool → ℕ → List ℕ → Choice
reading before later heard arrival rests busy shown =
    record { starts_before = before; starts_after = later; heard = heard; arrival = arrival; obeys = false; status = 0; working = false; rests = rests; busy = busy; shown = four shown }

no_bytes : AllBytes []
no_bytes = grind (arith, common_steps)

sending_fits :
    (before later heard : Bool) (arrival : Arrival) (obeys : Bool) (status : ℕ) (working : Bool)
    → ArrivalFits arrival
    → status < 256
    → Fits (sending before later heard arrival obeys status working)
sending_fits = grind (arith, common_steps)

reading_fits :
    (before later heard : Bool) (arrival : Arrival) (rests : Bool) (busy : ℕ) (shown : List ℕ)
    → ArrivalFits arrival
    → busy < 256
    → AllBytes shown
    → Fits (reading before later heard arrival rests busy shown)
reading_fits = grind (arith, common_steps)

-- what is found for an exchange apart from a start
record Found (before later : Bool) (k : KindIs) (s : Sensor) (e : Exchange) (answer : Answer) (after : Sensor) : Type 0 where
  choice : Choice
  fits : Fits choice
  starts_before_is : choice.starts_before ≡ before
  starts_after_is : choice.starts_after ≡ later
  answers : (effect k choice s e).answer ≡ answer
  leaves : (effect k choice s e).next ≡ after

-- frames

-- what a sensor does with the bytes that it got
record Verdict (b : Bool) (k : KindIs) (s : Sensor) (got : List ℕ) (after : Sensor) : Type 0 where
  obeys : Bool
  status : ℕ
  byte : status < 256
  working : Bool
  is :
      (before later heard : Bool) (arrival : Arrival)
      → let c : Choice = sending before later heard arrival obeys status working in
      cond b (cond obeys (obeyed k.window c s (decode_of got)) (refused c s)) s ≡ after

reason_is : (status : ℕ) → 1 ≤ status → status < 16 → reason_of status ≡ status
reason_is = grind (arith, common_steps)

record Obeying (k : KindIs) (s : Sensor) (said : Result CommandIs FrameFault) (after : Sensor) : Type 0 where
  working : Bool
  is :
      (before later heard : Bool) (arrival : Arrival)
      → obeyed k.window (sending before later heard arrival true 0 working) s said ≡ after

obeying : (k : KindIs) (s : Sensor) (said : Result CommandIs FrameFault) (after : Sensor) → Obeyed k s said after → Obeying k s said after
obeying k s (Ok command) after h =
    record {
      working = h.working;
      is = λ before later heard arrival. grind (arith, common_steps);
    }
obeying k s (Err fault) after h = absurd h

verdict : (b : Bool) (k : KindIs) (s : Sensor) (got : List ℕ) (after : Sensor) → Judged b k s got after → Verdict b k s got after
verdict true k s got after (inl h) =
    record {
      obeys = false;
      status = h.status;
      byte = omega (arith, h.small);
      working = h.working;
      is = λ before later heard arrival. grind (arith, reason_is);
    }
verdict true k s got after (inr h) =
    let o = obeying k s (decode_of got) after h in
    record { obeys = true; status = 0; byte = omega arith; working = o.working; is = o.is }
verdict false k s got after h =
    record { obeys = true; status = 0; byte = omega arith; working = false; is = λ before later heard arrival. sym h }

-- what becomes of bytes on the way
record Way (sent got : List ℕ) (through : Bool) : Type 0 where
  arrival : Arrival
  fits : ArrivalFits arrival
  arrives_is : arrives arrival ≡ through
  is : (window : ℕ) (c : Choice) (s : Sensor) → frame_sent window c arrival s sent ≡ judged window c s got

changed_is : (sent got : List ℕ) (at to : ℕ) → to < 256 → got ≡ set sent at to → changed sent at to ≡ got
changed_is = grind (arith, common_steps)

noisy_way : (sent got : List ℕ) → length sent ≤ 131 → Noisy sent got → Way sent got true
noisy_way sent got short (inl e) =
    record { arrival = whole; fits = tt; arrives_is = refl; is = λ window c s. cc }
noisy_way sent got short (inr h) =
    let is = changed_is sent got h.at h.to h.byte h.is in
    record { arrival = one_changed h.at h.to; fits = (omega (arith, h.inside), h.byte); arrives_is = refl; is = λ window c s. cc }

cut_way : (sent got : List ℕ) → length sent ≤ 131 → CutShort sent got → Way sent got false
cut_way sent got short h =
    record { arrival = cut_short h.at; fits = omega (arith, h.inside); arrives_is = refl; is = λ window c s. cc }

-- a write to register 0x08, or to another
record WriteFound (before later b : Bool) (k : KindIs) (s : Sensor) (register : ℕ) (bytes : List ℕ) (answer : Answer) (after : Sensor) : Type 0 where
  choice : Choice
  fits : Fits choice
  starts_before_is : choice.starts_before ≡ before
  starts_after_is : choice.starts_after ≡ later
  answers : cond (arrives choice.arrival && choice.heard) acknowledged missed ≡ answer
  leaves :
      cond b (frame_sent k.window choice choice.arrival s bytes)
      (cond (arrives choice.arrival) (told k (eqb register 0xE0) bytes s) s)
      ≡ after

frame_arrives :
    (before later heard through : Bool) (k : KindIs) (s : Sensor) (register : ℕ) (frame got : List ℕ) (after : Sensor)
    → Way frame got through
    → Judged (counts s) k s got after
    → WriteFound before later true k s register frame (cond (through && heard) acknowledged missed) after
frame_arrives before later heard through k s register frame got after way taken =
    let v = verdict (counts s) k s got after taken in
    record {
      choice = sending before later heard way.arrival v.obeys v.status v.working;
      fits = sending_fits before later heard way.arrival v.obeys v.status v.working way.fits v.byte;
      starts_before_is = refl;
      starts_after_is = refl;
      answers = cc;
      leaves = way.is k.window (sending before later heard way.arrival v.obeys v.status v.working) s ∙ v.is before later heard way.arrival;
    }

-- nothing arrives, or the bytes of a write to another register do
other_write :
    (before later b heard : Bool) (k : KindIs) (s : Sensor) (register : ℕ) (bytes : List ℕ) (arrival : Arrival) (after : Sensor)
    → ArrivalFits arrival
    → after
    ≡ cond b (frame_sent k.window (sending before later heard arrival false 0 false) arrival s bytes)
    (cond (arrives arrival) (told k (eqb register 0xE0) bytes s) s)
    → WriteFound before later b k s register bytes (cond (arrives arrival && heard) acknowledged missed) after
other_write before later b heard k s register bytes arrival after fits is =
    record {
      choice = sending before later heard arrival false 0 false;
      fits = sending_fits before later heard arrival false 0 false fits (omega arith);
      starts_before_is = refl;
      starts_after_is = refl;
      answers = refl;
      leaves = sym is;
    }

found_write :
    (before later b : Bool) (k : KindIs) (s : Sensor) (register : ℕ) (bytes : List ℕ) (answer : Answer) (after : Sensor)
    → length bytes ≤ 131
    → Written b k s register bytes answer after
    → WriteFound before later b k s register bytes answer after
found_write before later true k s register bytes acknowledged after short (got, (way, taken)) =
    frame_arrives before later true true k s register bytes got after (noisy_way bytes got short way) taken
found_write before later true k s register bytes missed after short (inl e) =
    other_write before later true false k s register bytes lost after tt e
found_write before later true k s register bytes missed after short (inr (got, (inl way, taken))) =
    frame_arrives before later false true k s register bytes got after (noisy_way bytes got short way) taken
found_write before later true k s register bytes missed after short (inr (got, (inr way, taken))) =
    frame_arrives before later false false k s register bytes got after (cut_way bytes got short way) taken
found_write before later true k s register bytes (filled got) after short h = absurd h
found_write before later false k s register bytes acknowledged after short e =
    other_write before later false true k s register bytes whole after tt e
found_write before later false k s register bytes missed after short (inl e) =
    other_write before later false false k s register bytes lost after tt e
found_write before later false k s register bytes missed after short (inr e) =
    other_write before later false false k s register bytes whole after tt e
found_write before later false k s register bytes (filled got) after short h = absurd h

-- reads

-- the shown bytes come from the choice
take_four : (got : List ℕ) (count : ℕ) → length got ≡ count → count ≤ 4 → take count (four got) ≡ got
take_four = grind (arith, common_steps)

single : (got : List ℕ) → length got ≡ 1 → get_or got 0 0 ∷ [] ≡ got
single = grind (arith, common_steps)

-- how a reply is changed on the way
record ReplyWay (sent got : List ℕ) : Type 0 where
  arrival : Arrival
  fits : ArrivalFits arrival
  is : noisy arrival sent ≡ got

reply_way : (sent got : List ℕ) → length sent ≤ 131 → Noisy sent got → ReplyWay sent got
reply_way sent got short (inl e) = record { arrival = whole; fits = tt; is = sym e }
reply_way sent got short (inr h) =
    record { arrival = one_changed h.at h.to; fits = (omega (arith, h.inside), h.byte); is = changed_is sent got h.at h.to h.byte h.is }

record ReadFound (k : KindIs) (s : Sensor) (what : Asked) (count : ℕ) (got : List ℕ) (after : Sensor) : Type 0 where
  arrival : Arrival
  rests : Bool
  busy : ℕ
  fits : ArrivalFits arrival
  byte : busy < 256
  answers : (before later : Bool) → shown_bytes k (reading before later true arrival rests busy got) s what count ≡ got
  leaves : (before later : Bool) → after_shown (reading before later true arrival rests busy got) s what ≡ after

-- a status read, by the stage
record StatusFound (stage : Stage) (s : Sensor) (count : ℕ) (got : List ℕ) (after : Sensor) : Type 0 where
  arrival : Arrival
  rests : Bool
  busy : ℕ
  fits : ArrivalFits arrival
  byte : busy < 256
  answers :
      (before later : Bool)
      → let c : Choice = reading before later true arrival rests busy got in
      cond (in_loader stage) (noisy arrival (status_reply (status_number c s))) (take count (four got)) ≡ got
  leaves :
      (before later : Bool)
      → let c : Choice = reading before later true arrival rests busy got in
      cond (in_loader stage) (cond (shows_busy c s) s (rested s)) s ≡ after

elsewhere :
    (stage : Stage) (s : Sensor) (count : ℕ) (got : List ℕ) (after : Sensor)
    → in_loader stage ≡ false
    → length got ≡ count
    → count ≤ 4
    → after ≡ s
    → StatusFound stage s count got after
elsewhere stage s count got after off is short e =
    record {
      arrival = whole;
      rests = true;
      busy = 0;
      fits = tt;
      byte = omega arith;
      answers = λ before later. grind (arith, take_four);
      leaves = λ before later. grind arith;
    }

busy_found : (s : Sensor) (count : ℕ) (got : List ℕ) (after : Sensor) → ShowsBusy s got after → StatusFound loader s count got after
busy_found s count got after h =
    let way = reply_way (status_reply h.number) got (omega arith) h.shown in
    record {
      arrival = way.arrival;
      rests = false;
      busy = h.number;
      fits = way.fits;
      byte = h.small;
      answers = λ before later. grind (arith, common_steps);
      leaves = λ before later. grind (arith, common_steps);
    }

rest_found : (s : Sensor) (count : ℕ) (got : List ℕ) (after : Sensor) → ShowsStatus s got after → StatusFound loader s count got after
rest_found s count got after h =
    let way = reply_way (status_reply s.status) got (omega arith) h.shown in
    record {
      arrival = way.arrival;
      rests = true;
      busy = 0;
      fits = way.fits;
      byte = omega arith;
      answers = λ before later. grind (arith, common_steps);
      leaves = λ before later. grind (arith, common_steps);
    }

status_found :
    (stage : Stage) (s : Sensor) (count : ℕ) (got : List ℕ) (after : Sensor)
    → length got ≡ count
    → count ≤ 4
    → StatusShown stage s got after
    → StatusFound stage s count got after
status_found asleep s count got after is short e = elsewhere asleep s count got after refl is short e
status_found starting s count got after is short e = elsewhere starting s count got after refl is short e
status_found loader s count got after is short (inl h) = busy_found s count got after h
status_found loader s count got after is short (inr h) = rest_found s count got after h
status_found application s count got after is short e = elsewhere application s count got after refl is short e

enable_is : (k : KindIs) (says : Enable) (value : ℕ) → seen k value ≡ says → enable_shown k says value ≡ value
enable_is = grind (arith, common_steps)

app_is : (k : KindIs) (stage : Stage) (got : List ℕ) → length got ≡ 1 → AppShown k stage got → app_at k stage (get_or got 0 0) ∷ [] ≡ got
app_is = grind (arith, common_steps)

shown_found :
    (k : KindIs) (s : Sensor) (what : Asked) (count : ℕ) (got : List ℕ) (after : Sensor)
    → length got ≡ count
    → count ≤ 4
    → Sized what count
    → Shown what k s got after
    → ReadFound k s what count got after
shown_found k s status_asked count got after is short size h =
    let found = status_found s.stage s count got after is short h in
    record { arrival = found.arrival; rests = found.rests; busy = found.busy; fits = found.fits; byte = found.byte; answers = found.answers; leaves = found.leaves }
shown_found k s enable_asked count got after is short size h =
    record {
      arrival = whole;
      rests = true;
      busy = 0;
      fits = tt;
      byte = omega arith;
      answers = λ before later. grind (arith, enable_is, single);
      leaves = λ before later. sym h.0;
    }
shown_found k s app_asked count got after is short size h =
    record {
      arrival = whole;
      rests = true;
      busy = 0;
      fits = tt;
      byte = omega arith;
      answers = λ before later. app_is k s.stage got (is ∙ size) h.1;
      leaves = λ before later. sym h.0;
    }
shown_found k s other_asked count got after is short size h =
    record {
      arrival = whole;
      rests = true;
      busy = 0;
      fits = tt;
      byte = omega arith;
      answers = λ before later. take_four got count is short;
      leaves = λ before later. sym h;
    }

-- a read that is missed ends the work or not
missed_read :
    (before later rests : Bool) (k : KindIs) (s : Sensor) (register count : ℕ) (after : Sensor)
    → after ≡ cond rests (rested s) s
    → Found before later k s (reads register count) missed after
missed_read before later rests k s register count after e =
    record {
      choice = reading before later false whole rests 0 [];
      fits = reading_fits before later false whole rests 0 [] tt (omega arith) no_bytes;
      starts_before_is = refl;
      starts_after_is = refl;
      answers = refl;
      leaves = sym e;
    }

found :
    (before later : Bool) (k : KindIs) (s : Sensor) (e : Exchange) (answer : Answer) (after : Sensor)
    → sized e ≡ true
    → AnswerBytes answer
    → Does k s e answer after
    → Found before later k s e answer after
found before later k s (writes register bytes) answer after fits _ h =
    let short : length bytes ≤ 131 = grind (arith, common_steps) in
    let w = found_write before later (eqb register 0x08) k s register bytes answer after short h in
    record { choice = w.choice; fits = w.fits; starts_before_is = w.starts_before_is; starts_after_is = w.starts_after_is; answers = w.answers; leaves = w.leaves }
found before later k s (reads register count) acknowledged after fits _ h = absurd h
found before later k s (reads register count) missed after fits _ (inl e) = missed_read before later false k s register count after e
found before later k s (reads register count) missed after fits _ (inr e) = missed_read before later true k s register count after e
found before later k s (reads register count) (filled got) after fits bytes (is, h) =
    let short : count ≤ 4 = grind (arith, common_steps) in
    let r = shown_found k s (asked register count) count got after is short (asked_sized register count) h in
    record {
      choice = reading before later true r.arrival r.rests r.busy got;
      fits = reading_fits before later true r.arrival r.rests r.busy got r.fits r.byte bytes;
      starts_before_is = refl;
      starts_after_is = refl;
      answers = ap (λ (shown : List ℕ). filled shown) (r.answers before later);
      leaves = r.leaves before later;
    }

-- starts

record Starting-is (s after : Sensor) : Type 0 where
  starts : Bool
  is : started_if starts s ≡ after

starting_is : (s after : Sensor) → MayStart s after → Starting-is s after
starting_is s after (inl e) = record { starts = false; is = sym e }
starting_is s after (inr (stage, e)) =
    record { starts = true; is = ap (λ (t : Stage). cond (is_starting t) (started s) s) stage ∙ sym e }

-- an exchange

chosen_gives :
    (k : KindIs) (c : Choice) (s : Sensor) (e : Exchange) (answer : Answer) (after : Sensor)
    → sized e ≡ true
    → (chosen k c s e).answer ≡ answer
    → (chosen k c s e).next ≡ after
    → Gives k c s e answer after
chosen_gives = grind (arith, common_steps)

happens_gives :
    (k : KindIs) (s : Sensor) (e : Exchange) (answer : Answer) (after : Sensor)
    → sized e ≡ true
    → AnswerBytes answer
    → Happens k s e answer after
    → (c : Choice) × (Fits c × Gives k c s e answer after)
happens_gives k s e answer after fits bytes h =
    let first = starting_is s h.one h.before in
    let last = starting_is h.two after h.later in
    let f = found first.starts last.starts k h.one e answer h.two fits bytes h.does in
    let c = f.choice in
    let one-is : started_if c.starts_before s ≡ h.one = ap (λ (t : Bool). started_if t s) f.starts_before_is ∙ first.is in (
      c,
      (
        f.fits,
        chosen_gives k c s e answer after fits
            (ap (λ (x : Sensor). (effect k c x e).answer) one-is ∙ f.answers)
            (ap (λ (x : Sensor). started_if c.starts_after (effect k c x e).next) one-is
            ∙ ap (λ (x : Sensor). started_if c.starts_after x) f.leaves
            ∙ ap (λ (t : Bool). started_if t h.two) f.starts_after_is
            ∙ last.is),
      ),
    )

clean_fits : Fits clean
clean_fits = grind (arith, common_steps)

-- an exchange of another size has one outcome, whatever is next in the script
other_size_gives :
    (k : KindIs) (s : Sensor) (e : Exchange) (answer : Answer) (after : Sensor)
    → sized e ≡ false
    → answer ≡ missed
    → after ≡ s
    → Gives k clean s e answer after
other_size_gives = grind (arith, common_steps)

allowed_gives :
    (k : KindIs) (s : Sensor) (e : Exchange) (answer : Answer) (after : Sensor) (b : Bool)
    → sized e ≡ b
    → Allowed b k s e answer after
    → AnswerBytes answer
    → (c : Choice) × (Fits c × Gives k c s e answer after)
allowed_gives k s e answer after true fits h bytes = happens_gives k s e answer after fits bytes h
allowed_gives k s e answer after false other h bytes =
    (clean, (clean_fits, other_size_gives k s e answer after other h.0 h.1))

pub complete : (k : KindIs) → Complete k
complete k s e answer after h bytes = allowed_gives k s e answer after (sized e) refl h bytes
