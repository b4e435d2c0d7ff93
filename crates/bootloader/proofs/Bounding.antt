-- A frame is made of bytes. Assumes nothing.
use Rattle.std.proofs.Common.{ℕ, zero, suc, ◌<◌, ◌≤◌, List, [], ◌∷◌, ◌++◌, length, get_or, arith}
use Rattle.std.proofs.lemmas.Grind.{elements}
use Rattle.bootloader.specs.Commands.{CommandIs, ram_remap_reset, rom_remap_reset, download_init, write_ram, addr_ram, code_of, payload_of}
use Rattle.bootloader.specs.Frames.{csum_of, headed, framed, frame_of}

push_bytes : (xs : List ℕ) (y : ℕ) → ((k : ℕ) → get_or xs k 0 < 256) → y < 256 → (k : ℕ) → get_or (xs ++ (y ∷ [])) k 0 < 256
push_bytes xs y below last k = grind (arith, elements, below k)

head_bytes : (code : ℕ) (payload : List ℕ) → code < 256 → length payload < 256 → ((k : ℕ) → get_or payload k 0 < 256) → (k : ℕ) → get_or (headed code payload) k 0 < 256
head_bytes code payload first size below zero = first
head_bytes code payload first size below (suc zero) = size
head_bytes code payload first size below (suc (suc k)) = below k

code_byte : (command : CommandIs) → code_of command < 256
code_byte ram_remap_reset = omega arith
code_byte rom_remap_reset = omega arith
code_byte download_init = omega arith
code_byte (write_ram bytes) = omega arith
code_byte (addr_ram address) = omega arith

-- where the data are bytes, the frame is
pub frame_bytes : (command : CommandIs) → length (payload_of command) ≤ 128 → ((k : ℕ) → get_or (payload_of command) k 0 < 256) → (k : ℕ) → get_or (frame_of command) k 0 < 256
unfolding framed
frame_bytes command short below =
    let head = headed (code_of command) (payload_of command) in
    push_bytes head (csum_of head) (head_bytes (code_of command) (payload_of command) (code_byte command) (omega arith) below) (omega arith)
