-- Proof that each choice is one that the sensor's meaning allows. Assumes nothing.
use Rattle.std.specs.Prelude.{◌≡◌, ℕ, ◌<◌, Bool, true, false, cond, ◌&&◌, ltb, ◌⊎◌, List, [], ◌∷◌, length, take, set, Result, ◌==◌, nat_eq, nat_lt, slice_index, slice_set, refl}
use Rattle.std.proofs.Common.{◌∙◌, ap, inl, inr, arith, take_all, ltb-true, ltb-false, eqb-true}
use Rattle.std.proofs.Math.Seq.{set_out}
use Rattle.std.proofs.lemmas.List.{set-get_or}
use Rattle.std.proofs.lemmas.Bool.{eqb-false}
use Rattle.checksum.specs.Ranges.{within}
use Rattle.bootloader.specs.declared.fault.FrameFault.{FrameFault}
use Rattle.bootloader.specs.Commands.{CommandIs}
use Rattle.bootloader.specs.Replies.{status_reply}
use Rattle.sensor.specs.declared.enable.Enable.{Enable}
use Rattle.sensor.specs.Kinds.{KindIs, seen}
use Rattle.sensor.specs.Exchanges.{Exchange, reads, acknowledged, missed, filled, sized}
use Rattle.sensor.specs.declared.stage.Stage.{Stage}
use Rattle.sensor.specs.Sensors.{Sensor, rested, in_loader}
use Rattle.sensor.specs.declared.registers.Asked.{Asked}
use Rattle.sensor.specs.declared.registers.Asked.TheVariants.{Status as status_asked, Stage as enable_asked, App as app_asked, Other as other_asked}
use Rattle.sensor.specs.Meaning.{Noisy, CutShort, Refused, Obeyed, Taken, FrameSent, told, Told, Written, enable_at, app_at, AppShown, ShowsBusy, ShowsStatus, StatusShown, asked, Shown, Does, MayStart, Happens, Allowed, Means}
use Rattle.adversary.specs.Choices.{Arrival, whole, one_changed, cut_short, lost, Choice, four}
use Rattle.adversary.specs.Sending.{changed, refused, obeyed, judged, frame_sent, arrives}
use Rattle.adversary.specs.Showing.{shows_busy, status_number, noisy, same, enable_shown, shown_bytes, after_shown}
use Rattle.adversary.specs.Scripted.{started_if, effect, chosen, Scripted, choice_at, stepped}
use Rattle.std.proofs.lemmas.Grind.{common_steps}

-- bytes on the way

-- a byte put in place of one leaves the bytes whole, or changes exactly one
pub set_noisy : (bytes : List ℕ) (at to : ℕ) → to < 256 → Noisy bytes (slice_set bytes at to)
set_noisy bytes at to byte =
    elim (nat_lt at (length bytes)) as (λ b. nat_lt at (length bytes) ≡ b → Noisy bytes (slice_set bytes at to)) [
      | true ↦ (λ (inside : ltb at (length bytes) ≡ true).
          elim (to == slice_index bytes at) as (λ b. (to == slice_index bytes at) ≡ b → Noisy bytes (slice_set bytes at to)) [
            | true ↦ (λ (e : nat_eq to (slice_index bytes at) ≡ true). inl (ap (λ (v : ℕ). set bytes at v) (eqb-true to (slice_index bytes at) e) ∙ set-get_or bytes at 0))
            | false ↦ (λ (e : nat_eq to (slice_index bytes at) ≡ false).
                inr (record { at = at; to = to; inside = ltb-true at (length bytes) inside; byte = byte; other = eqb-false to (slice_index bytes at) e; is = refl }))
          ] refl)
      | false ↦ (λ (e : ltb at (length bytes) ≡ false). inl (set_out bytes at to (ltb-false at (length bytes) e)))
    ] refl

pub changed_noisy : (bytes : List ℕ) (at to : ℕ) → Noisy bytes (changed bytes at to)
changed_noisy = grind (arith, set_noisy)

pub reply_noisy : (arrival : Arrival) (reply : List ℕ) → Noisy reply (noisy arrival reply)
reply_noisy = grind (arith, changed_noisy)

pub take_cut : (bytes : List ℕ) (at : ℕ) → Noisy bytes (take at bytes) ⊎ CutShort bytes (take at bytes)
take_cut bytes at =
    elim (nat_lt at (length bytes)) as (λ b. nat_lt at (length bytes) ≡ b → Noisy bytes (take at bytes) ⊎ CutShort bytes (take at bytes)) [
      | true ↦ (λ (e : ltb at (length bytes) ≡ true). inr (record { at = at; inside = ltb-true at (length bytes) e; is = refl }))
      | false ↦ (λ (e : ltb at (length bytes) ≡ false). inl (inl (take_all at bytes (ltb-false at (length bytes) e))))
    ] refl

-- writes

refused_lawful : (c : Choice) (s : Sensor) → Refused s (refused c s)
refused_lawful = grind (arith, common_steps)

obeyed_lawful :
    (k : KindIs) (c : Choice) (s : Sensor) (said : Result CommandIs FrameFault)
    → Refused s (obeyed k.window c s said) ⊎ Obeyed k s said (obeyed k.window c s said)
obeyed_lawful = grind (arith, refused_lawful)

judged_lawful : (k : KindIs) (c : Choice) (s : Sensor) (got : List ℕ) → Taken k s got (judged k.window c s got)
judged_lawful = grind (arith, obeyed_lawful, refused_lawful)

frame_lawful :
    (k : KindIs) (c : Choice) (arrival : Arrival) (heard : Bool) (s : Sensor) (frame : List ℕ)
    → FrameSent k s frame (cond (arrives arrival && heard) acknowledged missed) (frame_sent k.window c arrival s frame)
frame_lawful k c whole true s frame = (frame, (inl refl, judged_lawful k c s frame))
frame_lawful k c whole false s frame = inr (frame, (inl (inl refl), judged_lawful k c s frame))
frame_lawful k c (one_changed at to) true s frame =
    (changed frame at to, (changed_noisy frame at to, judged_lawful k c s (changed frame at to)))
frame_lawful k c (one_changed at to) false s frame =
    inr (changed frame at to, (inl (changed_noisy frame at to), judged_lawful k c s (changed frame at to)))
frame_lawful k c (cut_short at) heard s frame = inr (take at frame, (take_cut frame at, judged_lawful k c s (take at frame)))
frame_lawful k c lost heard s frame = inl refl

told_lawful :
    (k : KindIs) (b heard : Bool) (s : Sensor) (register : ℕ) (bytes : List ℕ)
    → Told k s register bytes (cond (b && heard) acknowledged missed) (cond b (told k (register == 0xE0) bytes s) s)
told_lawful = grind (arith, common_steps)

written_lawful :
    (k : KindIs) (c : Choice) (s : Sensor) (register : ℕ) (bytes : List ℕ) (b : Bool)
    → Written b k s register bytes (cond (arrives c.arrival && c.heard) acknowledged missed)
    (cond b (frame_sent k.window c c.arrival s bytes) (cond (arrives c.arrival) (told k (register == 0xE0) bytes s) s))
written_lawful k c s register bytes true = frame_lawful k c c.arrival c.heard s bytes
written_lawful k c s register bytes false = told_lawful k (arrives c.arrival) c.heard s register bytes

-- reads

-- how many bytes what is asked for has
abbrev pub Sized : Asked → ℕ → Type 0
Sized status_asked count = count ≡ 3
Sized enable_asked count = count ≡ 1
Sized app_asked count = count ≡ 1
Sized other_asked count = Unit {0}

pub asked_sized : (register count : ℕ) → Sized (asked register count) count
asked_sized = grind (arith, common_steps)

pub noisy_length : (sent got : List ℕ) → Noisy sent got → length got ≡ length sent
noisy_length = grind (arith, common_steps)

shown_length :
    (k : KindIs) (c : Choice) (s : Sensor) (what : Asked) (count : ℕ)
    → within 1 4 count ≡ true
    → Sized what count
    → length (shown_bytes k c s what count) ≡ count
shown_length = grind (arith, common_steps)

busy_lawful :
    (c : Choice) (s : Sensor) (busy : Bool)
    → shows_busy c s ≡ busy
    → let got : List ℕ = noisy c.arrival (status_reply (cond busy c.busy s.status)) in
    let after : Sensor = cond busy s (rested s) in ShowsBusy s got after ⊎ ShowsStatus s got after
busy_lawful = grind (arith, common_steps, reply_noisy)

status_lawful :
    (k : KindIs) (c : Choice) (s : Sensor) (count : ℕ) (stage : Stage)
    → StatusShown stage s
    (cond (in_loader stage) (noisy c.arrival (status_reply (status_number c s))) (take count (four c.shown)))
    (cond (in_loader stage) (cond (shows_busy c s) s (rested s)) s)
status_lawful = grind (arith, busy_lawful)

pub same_true : (a b : Enable) → same a b ≡ true → a ≡ b
same_true = grind (arith, common_steps)

enable_lawful : (k : KindIs) (stage : Stage) (value : ℕ) → seen k (enable_shown k (enable_at stage) value) ≡ enable_at stage
enable_lawful = grind (arith, common_steps)

app_lawful : (k : KindIs) (stage : Stage) (value : ℕ) → AppShown k stage (app_at k stage value ∷ [])
app_lawful = grind (arith, common_steps)

shown_lawful :
    (k : KindIs) (c : Choice) (s : Sensor) (what : Asked) (count : ℕ)
    → Shown what k s (shown_bytes k c s what count) (after_shown c s what)
shown_lawful = grind (arith, status_lawful, enable_lawful, app_lawful)

rests_lawful : (rests : Bool) (s : Sensor) → (cond rests (rested s) s ≡ s) ⊎ (cond rests (rested s) s ≡ rested s)
rests_lawful = grind (arith, common_steps)

read_lawful :
    (k : KindIs) (c : Choice) (s : Sensor) (register count : ℕ) (heard : Bool)
    → within 1 4 count ≡ true
    → Does k s (reads register count)
    (cond heard (filled (shown_bytes k c s (asked register count) count)) missed)
    (cond heard (after_shown c s (asked register count)) (cond c.rests (rested s) s))
read_lawful = grind (arith, shown_length, asked_sized, shown_lawful, rests_lawful)

-- an exchange

effect_lawful :
    (k : KindIs) (c : Choice) (s : Sensor) (e : Exchange)
    → sized e ≡ true
    → Does k s e (effect k c s e).answer (effect k c s e).next
effect_lawful = grind (arith, written_lawful, read_lawful)

start_lawful : (starts : Bool) (s : Sensor) → MayStart s (started_if starts s)
start_lawful = grind (arith, common_steps)

pub chosen_lawful :
    (k : KindIs) (c : Choice) (s : Sensor) (e : Exchange)
    → sized e ≡ true
    → Happens k s e (chosen k c s e).answer (chosen k c s e).next
chosen_lawful k c s e fits =
    let one : Sensor = started_if c.starts_before s in
    record {
      one = one;
      two = (effect k c one e).next;
      before = start_lawful c.starts_before s;
      does = effect_lawful k c one e fits;
      later = start_lawful c.starts_after (effect k c one e).next;
    }

sized_lawful :
    (k : KindIs) (a : Scripted) (e : Exchange) (b : Bool)
    → sized e ≡ b
    → Allowed b k a.sensor e (stepped b k a e).answer (stepped b k a e).next.sensor
sized_lawful k a e true fits = chosen_lawful k (choice_at a.choices a.at) a.sensor e fits
sized_lawful k a e false other = (refl, refl)

pub step_lawful :
    (k : KindIs) (a : Scripted) (e : Exchange)
    → Means k a.sensor e (stepped (sized e) k a e).answer (stepped (sized e) k a e).next.sensor
step_lawful k a e = sized_lawful k a e (sized e) refl
