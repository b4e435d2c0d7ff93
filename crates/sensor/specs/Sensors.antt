-- The sensor's state, and how it changes. Assumes nothing.
use Rattle.std.specs.Prelude.{◌≡◌, ℕ, ◌+◌, Bool, true, false, cond, not, ◌&&◌, List, length, nat_le, nat_lt}
use Rattle.std.proofs.lemmas.List.Edits.{sets}
use Rattle.bootloader.specs.Commands.{CommandIs, ram_remap_reset, rom_remap_reset, download_init, write_ram, addr_ram}
use Rattle.sensor.specs.declared.enable.Order.{Order}
use Rattle.sensor.specs.declared.enable.Order.TheVariants.{Wake, Sleep, Other}
pub use Rattle.sensor.specs.declared.stage.Stage.{Stage}
pub use Rattle.sensor.specs.declared.stage.Stage.TheVariants.{Asleep as asleep, Starting as starting, Loader as loader, Application as application}
use Rattle.sensor.specs.Kinds.{KindIs}

pub record Sensor : Type 0 where
  pub ram : List ℕ
  -- where the next W_RAM writes
  pub pointer : ℕ
  pub stage : Stage
  -- 0, or the reason why the last frame was refused
  pub status : ℕ
  -- it starts from its RAM
  pub remapped : Bool
  -- its RAM may be written
  pub opened : Bool
  -- it is still at work on the last frame
  pub working : Bool

-- one field changed, all else as it was

abbrev pub with_ram : List ℕ → Sensor → Sensor
with_ram ram s = record { ram = ram; pointer = s.pointer; stage = s.stage; status = s.status; remapped = s.remapped; opened = s.opened; working = s.working }

abbrev pub with_pointer : ℕ → Sensor → Sensor
with_pointer pointer s = record { ram = s.ram; pointer = pointer; stage = s.stage; status = s.status; remapped = s.remapped; opened = s.opened; working = s.working }

abbrev pub with_stage : Stage → Sensor → Sensor
with_stage stage s = record { ram = s.ram; pointer = s.pointer; stage = stage; status = s.status; remapped = s.remapped; opened = s.opened; working = s.working }

abbrev pub with_status : ℕ → Sensor → Sensor
with_status status s = record { ram = s.ram; pointer = s.pointer; stage = s.stage; status = status; remapped = s.remapped; opened = s.opened; working = s.working }

abbrev pub with_remapped : Bool → Sensor → Sensor
with_remapped remapped s = record { ram = s.ram; pointer = s.pointer; stage = s.stage; status = s.status; remapped = remapped; opened = s.opened; working = s.working }

abbrev pub with_opened : Bool → Sensor → Sensor
with_opened opened s = record { ram = s.ram; pointer = s.pointer; stage = s.stage; status = s.status; remapped = s.remapped; opened = opened; working = s.working }

abbrev pub with_working : Bool → Sensor → Sensor
with_working working s = record { ram = s.ram; pointer = s.pointer; stage = s.stage; status = s.status; remapped = s.remapped; opened = s.opened; working = working }

-- what happens in a sensor

-- RAM and remapped stay
abbrev pub reset : Sensor → Sensor
reset s = with_stage starting (with_pointer 0 (with_status 0 (with_opened false (with_working false s))))

abbrev pub put_asleep : Sensor → Sensor
put_asleep s = with_stage asleep (reset s)

-- an asleep sensor is woken by a reset; otherwise nothing happens
abbrev pub woken : Stage → Sensor → Sensor
woken asleep s = reset s
woken starting s = s
woken loader s = s
woken application s = s

-- what a byte written to ENABLE asks for is done
abbrev pub after_order : Order → Sensor → Sensor
after_order Wake s = woken s.stage s
after_order Sleep s = put_asleep s
after_order Other s = s

abbrev pub is_starting : Stage → Bool
is_starting asleep = false
is_starting starting = true
is_starting loader = false
is_starting application = false

-- a remapped sensor starts from its RAM
abbrev pub started : Sensor → Sensor
started s = with_stage (cond s.remapped application loader) s

-- a starting sensor starts, any other stays
abbrev pub started_up : Sensor → Sensor
started_up s = cond (is_starting s.stage) (started s) s

-- the work has ended
abbrev pub rested : Sensor → Sensor
rested s = with_working false s

-- the last frame is answered with a status, and perhaps still worked on
abbrev pub answered : ℕ → Bool → Sensor → Sensor
answered status working s = with_status status (with_working working s)

abbrev pub stored : List ℕ → Sensor → Sensor
stored bytes s = with_pointer (s.pointer + length bytes) (with_ram (sets s.ram s.pointer bytes) s)

-- a command carried out; a sensor never works on after a reset
abbrev pub carried_out : CommandIs → Bool → Sensor → Sensor
carried_out ram_remap_reset working s = reset (with_remapped true s)
carried_out rom_remap_reset working s = reset (with_remapped false s)
carried_out download_init working s = answered 0 working (with_opened true s)
carried_out (addr_ram address) working s = answered 0 working (with_pointer address s)
carried_out (write_ram bytes) working s = answered 0 working (stored bytes s)

-- whether the sensor can carry a command out: within the window, and W_RAM only when open
abbrev pub able : ℕ → Sensor → CommandIs → Bool
able window s ram_remap_reset = true
able window s rom_remap_reset = true
able window s download_init = true
able window s (addr_ram address) = nat_lt address window
able window s (write_ram bytes) = s.opened && nat_le (s.pointer + length bytes) window

abbrev pub in_loader : Stage → Bool
in_loader asleep = false
in_loader starting = false
in_loader loader = true
in_loader application = false

-- a frame counts only in the loader, and while nothing is worked on
abbrev pub counts : Sensor → Bool
counts s = in_loader s.stage && not s.working

-- just switched on, with this RAM
abbrev pub switched_on : List ℕ → Sensor
switched_on ram = record { ram = ram; pointer = 0; stage = asleep; status = 0; remapped = false; opened = false; working = false }

-- the RAM has the kind's size and holds anything
pub record SwitchedOn (k : KindIs) (s : Sensor) : Type 0 where
  pub full : length s.ram ≡ k.window
  pub fresh : s ≡ switched_on s.ram
