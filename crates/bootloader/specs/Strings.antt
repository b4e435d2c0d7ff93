-- Frames as I2C strings. Assumes nothing.
use Rattle.std.specs.Prelude.{ℕ, ◌/◌, ◌%◌, List, [], ◌∷◌, ◌++◌, length, Ok, codes, Result, nat_le}
use Rattle.std.specs.List.{flat_map}
use Rattle.checksum.specs.Capitals.{capital}
use Rattle.bootloader.specs.declared.fault.FrameFault.{FrameFault}
use Rattle.bootloader.specs.declared.fault.FrameFault.TheVariants.{DataTooLong, StringBufferTooShort}
use Rattle.bootloader.specs.Commands.{CommandIs, payload_of}
use Rattle.bootloader.specs.Frames.{must, frame_of}

-- a byte as two digits and a space
abbrev pub spelled : ℕ → List ℕ
spelled b = capital (b / 16) ∷ capital (b % 16) ∷ 32 ∷ []

-- a start, the bytes, 'P' and a line feed
unfoldable pub strung : List ℕ → List ℕ → List ℕ
strung start bytes = start ++ flat_map spelled bytes ++ (80 ∷ 10 ∷ [])

-- the string that writes a frame to the bootloader
abbrev pub string_of : List ℕ → List ℕ
string_of frame = strung (codes "S 41 W 08 ") frame

-- the string of a command, or why there is none
abbrev pub command_string : CommandIs → Result (List ℕ) FrameFault
command_string command = must (nat_le (length (payload_of command)) 128) DataTooLong (Ok (string_of (frame_of command)))

-- the same for a buffer of so many bytes, which has to take the longest string
abbrev pub string_within : ℕ → CommandIs → Result (List ℕ) FrameFault
string_within room command = must (nat_le 405 room) StringBufferTooShort (command_string command)
