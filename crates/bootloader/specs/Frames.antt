-- Commands as frames, and frames as commands. Assumes nothing.
use Rattle.std.specs.Prelude.{ℕ, ◌+◌, ◌-◌, ◌*◌, Bool, cond, ◌&&◌, List, [], ◌∷◌, ◌++◌, length, take, drop, is_ok, Ok, Err, Result, ◌==◌, nat_le, slice_index}
use Rattle.std.specs.List.{between}
use Rattle.checksum.specs.Outcomes.{map_ok}
use Rattle.checksum.specs.Sums.{sum256}
use Rattle.bootloader.specs.declared.fault.FrameFault.{FrameFault}
use Rattle.bootloader.specs.declared.fault.FrameFault.TheVariants.{DataTooLong, BufferTooShort, WrongLength, WrongChecksum, UnknownCommand}
use Rattle.bootloader.specs.Commands.{CommandIs, ram_remap_reset, rom_remap_reset, download_init, write_ram, addr_ram, code_of, payload_of}

-- what stands after these bytes in a frame
abbrev pub csum_of : List ℕ → ℕ
csum_of bytes = 255 - sum256 bytes

-- command code, SIZE and data bytes
abbrev pub headed : ℕ → List ℕ → List ℕ
headed code payload = code ∷ length payload ∷ payload

unfoldable pub framed : ℕ → List ℕ → List ℕ
framed code payload = headed code payload ++ (csum_of (headed code payload) ∷ [])

abbrev pub frame_of : CommandIs → List ℕ
frame_of command = framed (code_of command) (payload_of command)

-- go on where the test passes, or refuse
abbrev pub must : {X : Type 0} → Bool → FrameFault → Result X FrameFault → Result X FrameFault
must test fault next = cond test next (Err fault)

-- whether a frame with so many data bytes goes into so many bytes
abbrev pub room_for : ℕ → ℕ → Result (Unit {0}) FrameFault
room_for room size = must (nat_le size 128) DataTooLong (must (nat_le (size + 3) room) BufferTooShort (Ok tt))

-- the frame for a buffer of so many bytes, or why there is none
abbrev pub frame_within : ℕ → ℕ → List ℕ → Result (List ℕ) FrameFault
frame_within room code payload = map_ok (λ _. framed code payload) (room_for room (length payload))

abbrev pub encode_of : ℕ → CommandIs → Result (List ℕ) FrameFault
encode_of room command = frame_within room (code_of command) (payload_of command)

-- a buffer with these bytes at its front, or as it was
abbrev pub laid_over : List ℕ → Result (List ℕ) FrameFault → List ℕ
laid_over buf (Ok bytes) = bytes ++ drop (length bytes) buf
laid_over buf (Err fault) = buf

-- a frame has SIZE + 3 bytes
abbrev pub size_fits : List ℕ → Bool
size_fits frame = nat_le 3 (length frame) && length frame == slice_index frame 1 + 3

-- the last byte is the CSUM of those before it
abbrev pub csum_fits : List ℕ → Bool
csum_fits frame = slice_index frame (length frame - 1) == csum_of (take (length frame - 1) frame)

-- the command that the table has for a code and data bytes
abbrev pub command_of : ℕ → List ℕ → Result CommandIs FrameFault
command_of code payload =
    cond (code == 0x11 && length payload == 0) (Ok ram_remap_reset)
    (cond (code == 0x12 && length payload == 0) (Ok rom_remap_reset)
    (cond (code == 0x14 && length payload == 1 && slice_index payload 0 == 0x29) (Ok download_init)
    (cond (code == 0x41 && nat_le (length payload) 128) (Ok (write_ram payload))
    (cond (code == 0x43 && length payload == 2) (Ok (addr_ram (slice_index payload 0 + 256 * slice_index payload 1)))
    (Err UnknownCommand)))))

-- the length is looked at first, then CSUM, then the table
abbrev pub checked : List ℕ → Result CommandIs FrameFault
checked frame = must (size_fits frame) WrongLength (must (csum_fits frame) WrongChecksum (command_of (slice_index frame 0) (between 2 (length frame - 1) frame)))

-- what a frame says; shut, so that proofs above cite its laws
unfoldable pub decode_of : List ℕ → Result CommandIs FrameFault
decode_of frame = checked frame

-- the length fits SIZE, CSUM fits, and the table has it
abbrev pub well_formed : List ℕ → Bool
well_formed frame = is_ok (decode_of frame)
