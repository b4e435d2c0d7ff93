-- The kinds of sensor. Assumes nothing.
use Rattle.std.specs.Prelude.{◌≡◌, ℕ, ◌<◌, false, cond, List, [], ◌∷◌, nat_eq, refl}
use Rattle.sensor.specs.declared.enable.Enable.{Enable}
use Rattle.sensor.specs.declared.enable.Enable.TheVariants.{Asleep, Starting, Ready, Strange}
use Rattle.sensor.specs.declared.enable.Order.{Order}
use Rattle.sensor.specs.declared.enable.Order.TheVariants.{Wake, Sleep, Other}
use Rattle.sensor.specs.declared.enable.Patterns.{Patterns}
use Rattle.sensor.specs.Patterns.{Bit, o, l, x, fits, filled_from, least, IsPattern}

-- what a value says by the patterns of ENABLE
abbrev pub seen_by : List Bit → List Bit → List Bit → ℕ → Enable
seen_by asleep starting ready value = cond (fits asleep value) Asleep (cond (fits starting value) Starting (cond (fits ready value) Ready Strange))

pub record KindIs : Type 0 where
  -- bytes of RAM
  pub window : ℕ
  -- what APPID shows while the patch runs
  pub app : ℕ
  -- what ENABLE shows
  pub asleep : List Bit
  pub starting : List Bit
  pub ready : List Bit
  -- what is written to ENABLE
  pub wake : List Bit
  pub sleep : List Bit
  -- APPID tells the patch from the loader
  pub app_is_not_loader : nat_eq app 0x80 ≡ false
  -- the patterns of ENABLE do not hide one another
  pub shows_asleep : seen_by asleep starting ready (least asleep) ≡ Asleep
  pub shows_starting : seen_by asleep starting ready (least starting) ≡ Starting
  pub shows_ready : seen_by asleep starting ready (least ready) ≡ Ready

abbrev pub tmf8x0x : KindIs
tmf8x0x =
    record {
      window = 16384;
      app = 0xC0;
      asleep = o ∷ o ∷ o ∷ o ∷ o ∷ o ∷ o ∷ o ∷ [];
      starting = o ∷ o ∷ o ∷ o ∷ o ∷ o ∷ o ∷ l ∷ [];
      ready = o ∷ l ∷ o ∷ o ∷ o ∷ o ∷ o ∷ l ∷ [];
      wake = o ∷ o ∷ o ∷ o ∷ o ∷ o ∷ o ∷ l ∷ [];
      sleep = o ∷ o ∷ o ∷ o ∷ o ∷ o ∷ o ∷ o ∷ [];
      app_is_not_loader = refl;
      shows_asleep = refl;
      shows_starting = refl;
      shows_ready = refl;
    }

abbrev pub tmf882x : KindIs
tmf882x =
    record {
      window = 32768;
      app = 0x03;
      asleep = o ∷ o ∷ x ∷ x ∷ o ∷ o ∷ l ∷ o ∷ [];
      starting = o ∷ o ∷ x ∷ x ∷ o ∷ o ∷ o ∷ l ∷ [];
      ready = o ∷ l ∷ x ∷ x ∷ o ∷ o ∷ o ∷ l ∷ [];
      wake = o ∷ o ∷ x ∷ x ∷ o ∷ o ∷ o ∷ l ∷ [];
      sleep = o ∷ o ∷ x ∷ x ∷ o ∷ o ∷ o ∷ o ∷ [];
      app_is_not_loader = refl;
      shows_asleep = refl;
      shows_starting = refl;
      shows_ready = refl;
    }

-- what a value read from ENABLE says
abbrev pub seen : KindIs → ℕ → Enable
seen k value = seen_by k.asleep k.starting k.ready value

-- the least value that ENABLE shows
abbrev pub enable_of : KindIs → Enable → ℕ
enable_of k Asleep = least k.asleep
enable_of k Starting = least k.starting
enable_of k Ready = least k.ready
enable_of k Strange = 0xFF

-- what a byte written to ENABLE asks for
abbrev pub ordered : KindIs → ℕ → Order
ordered k byte = cond (fits k.wake byte) Wake (cond (fits k.sleep byte) Sleep Other)

-- the byte that wakes and the one that puts asleep, with free bits as they were last read
abbrev pub wake_byte : KindIs → ℕ → ℕ
wake_byte k last = filled_from k.wake last

abbrev pub sleep_byte : KindIs → ℕ → ℕ
sleep_byte k last = filled_from k.sleep last

-- the patterns of the code are those of the kind, and what is written to ENABLE is taken for what it is
pub record ArePatternsOf (k : KindIs) (p : Patterns) : Type 0 where
  pub asleep : IsPattern k.asleep p.asleep
  pub starting : IsPattern k.starting p.starting
  pub ready : IsPattern k.ready p.ready
  pub wake : IsPattern k.wake p.wake
  pub sleep : IsPattern k.sleep p.sleep
  pub wakes : (v : ℕ) → v < 256 → ordered k (wake_byte k v) ≡ Wake
  pub sleeps : (v : ℕ) → v < 256 → ordered k (sleep_byte k v) ≡ Sleep
