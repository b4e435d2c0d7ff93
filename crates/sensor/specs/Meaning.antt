-- What an exchange may do to the sensor, and what its answer says of that. Assumes nothing.
use Rattle.std.specs.Prelude.{◌≡◌, ℕ, ◌<◌, ◌≤◌, Bool, true, false, cond, ◌&&◌, ◌≢◌, ◌⊎◌, List, [], ◌∷◌, length, take, Ok, Err, Result, ◌==◌, slice_index, slice_set}
use Rattle.bootloader.specs.declared.fault.FrameFault.{FrameFault}
use Rattle.bootloader.specs.Commands.{CommandIs}
use Rattle.bootloader.specs.Frames.{decode_of}
use Rattle.bootloader.specs.Replies.{status_reply}
use Rattle.sensor.specs.declared.enable.Enable.{Enable}
use Rattle.sensor.specs.declared.enable.Enable.TheVariants.{Asleep, Starting, Ready}
use Rattle.sensor.specs.declared.registers.Asked.{Asked}
use Rattle.sensor.specs.declared.registers.Asked.TheVariants.{Status as status_asked, Stage as enable_asked, App as app_asked, Other as other_asked}
use Rattle.sensor.specs.Kinds.{KindIs, seen, ordered}
use Rattle.sensor.specs.Exchanges.{Exchange, writes, reads, Answer, acknowledged, missed, filled, sized}
use Rattle.sensor.specs.Sensors.{Stage, asleep, starting, loader, application, Sensor, after_order, started, rested, answered, carried_out, able, counts}

-- what becomes of bytes on the way

-- exactly one byte is changed
pub record Changed (sent got : List ℕ) : Type 0 where
  pub at : ℕ
  pub to : ℕ
  pub inside : at < length sent
  pub byte : to < 256
  pub other : to ≢ slice_index sent at
  pub is : got ≡ slice_set sent at to

-- whole, or with exactly one byte changed
abbrev pub Noisy : List ℕ → List ℕ → Type 0
Noisy sent got = (got ≡ sent) ⊎ Changed sent got

-- a proper prefix
pub record CutShort (sent got : List ℕ) : Type 0 where
  pub at : ℕ
  pub inside : at < length sent
  pub is : got ≡ take at sent

-- frames

-- a frame is refused: status 1 to 15, at work perhaps, nothing else changed
pub record Refused (s after : Sensor) : Type 0 where
  pub status : ℕ
  pub working : Bool
  pub some : 1 ≤ status
  pub small : status < 16
  pub is : after ≡ answered status working s

-- a command is carried out, if the sensor can; at work perhaps
pub record CarriedOut (k : KindIs) (s : Sensor) (command : CommandIs) (after : Sensor) : Type 0 where
  pub working : Bool
  pub can : able k.window s command ≡ true
  pub is : after ≡ carried_out command working s

-- what a frame says is carried out; an ill-formed frame never is
abbrev pub Obeyed : KindIs → Sensor → Result CommandIs FrameFault → Sensor → Type 0
Obeyed k s (Ok command) after = CarriedOut k s command after
Obeyed k s (Err fault) after = ⊥

-- where a frame counts it is refused or carried out, elsewhere nothing happens
abbrev pub Judged : Bool → KindIs → Sensor → List ℕ → Sensor → Type 0
Judged true k s got after = Refused s after ⊎ Obeyed k s (decode_of got) after
Judged false k s got after = after ≡ s

-- bytes arrive at register 0x08
abbrev pub Taken : KindIs → Sensor → List ℕ → Sensor → Type 0
Taken k s got after = Judged (counts s) k s got after

-- the frame on its way, by the link's answer
abbrev pub FrameSent : KindIs → Sensor → List ℕ → Answer → Sensor → Type 0
FrameSent k s frame acknowledged after = (got : List ℕ) × (Noisy frame got × Taken k s got after)
FrameSent k s frame missed after = (after ≡ s) ⊎ ((got : List ℕ) × ((Noisy frame got ⊎ CutShort frame got) × Taken k s got after))
FrameSent k s frame (filled bytes) after = ⊥

-- other writes

-- bytes arrive at ENABLE or at another register: only one byte at ENABLE asks for anything
abbrev pub told : KindIs → Bool → List ℕ → Sensor → Sensor
told k true (byte ∷ []) s = after_order (ordered k byte) s
told k true [] s = s
told k true (byte ∷ second ∷ rest) s = s
told k false bytes s = s

-- the bytes on their way there, by the link's answer
abbrev pub Told : KindIs → Sensor → ℕ → List ℕ → Answer → Sensor → Type 0
Told k s register bytes acknowledged after = after ≡ told k (register == 0xE0) bytes s
Told k s register bytes missed after = (after ≡ s) ⊎ (after ≡ told k (register == 0xE0) bytes s)
Told k s register bytes (filled got) after = ⊥

-- a write to register 0x08, or to another
abbrev pub Written : Bool → KindIs → Sensor → ℕ → List ℕ → Answer → Sensor → Type 0
Written true k s register bytes answer after = FrameSent k s bytes answer after
Written false k s register bytes answer after = Told k s register bytes answer after

-- reads

-- what ENABLE shows at a stage
abbrev pub enable_at : Stage → Enable
enable_at asleep = Asleep
enable_at starting = Starting
enable_at loader = Ready
enable_at application = Ready

-- what APPID shows at a stage
abbrev pub AppShown : KindIs → Stage → List ℕ → Type 0
AppShown k asleep got = Unit {0}
AppShown k starting got = Unit {0}
AppShown k loader got = got ≡ 0x80 ∷ []
AppShown k application got = got ≡ k.app ∷ []

-- a byte that APPID may show: this one where it may show anything
abbrev pub app_at : KindIs → Stage → ℕ → ℕ
app_at k asleep anything = anything
app_at k starting anything = anything
app_at k loader anything = 0x80
app_at k application anything = k.app

-- a working sensor may show that it is busy
pub record ShowsBusy (s : Sensor) (got : List ℕ) (after : Sensor) : Type 0 where
  pub number : ℕ
  pub some : 16 ≤ number
  pub small : number < 256
  pub shown : Noisy (status_reply number) got
  pub works : s.working ≡ true
  pub is : after ≡ s

-- the work, if any, has ended, and the status is shown
pub record ShowsStatus (s : Sensor) (got : List ℕ) (after : Sensor) : Type 0 where
  pub shown : Noisy (status_reply s.status) got
  pub is : after ≡ rested s

-- three bytes at register 0x08
abbrev pub StatusShown : Stage → Sensor → List ℕ → Sensor → Type 0
StatusShown loader s got after = ShowsBusy s got after ⊎ ShowsStatus s got after
StatusShown asleep s got after = after ≡ s
StatusShown starting s got after = after ≡ s
StatusShown application s got after = after ≡ s

-- which of its registers a sensor shows something defined at, and with how many bytes
abbrev pub asked : ℕ → ℕ → Asked
asked register count =
    cond (register == 0x08 && count == 3) status_asked
    (cond (register == 0xE0 && count == 1) enable_asked
    (cond (register == 0x00 && count == 1) app_asked other_asked))

-- a filled read
abbrev pub Shown : Asked → KindIs → Sensor → List ℕ → Sensor → Type 0
Shown status_asked k s got after = StatusShown s.stage s got after
Shown enable_asked k s got after = (after ≡ s) × (seen k (slice_index got 0) ≡ enable_at s.stage)
Shown app_asked k s got after = (after ≡ s) × AppShown k s.stage got
Shown other_asked k s got after = after ≡ s

-- one exchange of a size that a link has, apart from a start
abbrev pub Does : KindIs → Sensor → Exchange → Answer → Sensor → Type 0
Does k s (writes register bytes) answer after = Written (register == 0x08) k s register bytes answer after
Does k s (reads register count) acknowledged after = ⊥
Does k s (reads register count) missed after = (after ≡ s) ⊎ (after ≡ rested s)
Does k s (reads register count) (filled got) after = (length got ≡ count) × Shown (asked register count) k s got after

-- a starting sensor may start, at some exchange
abbrev pub MayStart : Sensor → Sensor → Type 0
MayStart s after = (after ≡ s) ⊎ ((s.stage ≡ starting) × (after ≡ started s))

-- with a start before its effect, or after it
pub record Happens (k : KindIs) (s : Sensor) (e : Exchange) (answer : Answer) (after : Sensor) : Type 0 where
  pub one : Sensor
  pub two : Sensor
  pub before : MayStart s one
  pub does : Does k one e answer two
  pub later : MayStart two after

-- an exchange of a size that a link has; another is missed and does nothing
abbrev pub Allowed : Bool → KindIs → Sensor → Exchange → Answer → Sensor → Type 0
Allowed true k s e answer after = Happens k s e answer after
Allowed false k s e answer after = (answer ≡ missed) × (after ≡ s)

-- an exchange with a sensor may be so answered and leave it so
abbrev pub Means : KindIs → Sensor → Exchange → Answer → Sensor → Type 0
Means k s e answer after = Allowed (sized e) k s e answer after
