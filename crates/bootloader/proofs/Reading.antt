-- A frame reads back as its command. Assumes nothing.
use Rattle.std.proofs.Common.{◌≡◌, ℕ, ◌+◌, ◌-◌, ◌*◌, ◌/◌, ◌%◌, ◌≤◌, true, List, [], ◌∷◌, length, get_or, take, drop, is_ok, IfOk, Ok, Err, Result, sym, refl, ap, ◌∙◌, arith}
use Rattle.std.specs.List.{between}
use Rattle.std.proofs.lemmas.List.{get_or_at, take_at}
use Rattle.std.proofs.lemmas.Bool.{le-leb, eq-eqb}
use Rattle.std.proofs.lemmas.Bool.Decides.{nat_tests}
use Rattle.checksum.specs.Outcomes.{map_ok}
use Rattle.bootloader.specs.declared.fault.FrameFault.{FrameFault}
use Rattle.bootloader.specs.Commands.{CommandIs, ram_remap_reset, rom_remap_reset, download_init, write_ram, addr_ram, code_of, payload_of}
use Rattle.bootloader.specs.Frames.{csum_of, headed, framed, frame_of, encode_of, laid_over, command_of, decode_of, well_formed}
use Rattle.bootloader.specs.Laws.{ReadsBack}
use Rattle.bootloader.proofs.Laying.{length_framed}

-- past the tests on length and CSUM, the table decides
pub decode_passes : (frame : List ℕ) → 3 ≤ length frame → length frame ≡ get_or frame 1 0 + 3 → get_or frame (length frame - 1) 0 ≡ csum_of (take (length frame - 1) frame) → decode_of frame ≡ command_of (get_or frame 0 0) (between 2 (length frame - 1) frame)
unfolding decode_of
decode_passes frame long size csum =
    rw (le-leb 3 (length frame) long, eq-eqb (length frame) (get_or frame 1 0 + 3) size, eq-eqb (get_or frame (length frame - 1) 0) (csum_of (take (length frame - 1) frame)) csum)

pub framed_decodes : (code : ℕ) (payload : List ℕ) → decode_of (framed code payload) ≡ command_of code payload
unfolding framed
framed_decodes code payload =
    let frame = framed code payload in
    let v = csum_of (headed code payload) in
    let long : length frame ≡ length payload + 3 = length_framed code payload in
    let last : length (headed code payload) ≡ length frame - 1 = omega arith in
    let size : length payload ≡ length frame - 1 - 2 = omega arith in
    let front : take (length frame - 1) frame ≡ headed code payload = take_at (headed code payload) (v ∷ []) (length frame - 1) last in
    let csum : get_or frame (length frame - 1) 0 ≡ v = get_or_at (headed code payload) v [] 0 (length frame - 1) last in
    decode_passes frame (omega arith) long (csum ∙ ap csum_of (sym front)) ∙ ap (command_of code) (take_at payload (v ∷ []) (length frame - 1 - 2) size)

in_table : (command : CommandIs) → length (payload_of command) ≤ 128 → command_of (code_of command) (payload_of command) ≡ Ok command
in_table ram_remap_reset short = refl
in_table rom_remap_reset short = refl
in_table download_init short = refl
in_table (write_ram bytes) short = rw (le-leb (length bytes) 128 short)
in_table (addr_ram address) short =
    let e : address % 256 + 256 * (address / 256) ≡ address = omega arith in
    ap (λ a. Ok (addr_ram a)) e

-- a frame reads back as its command
pub frame_decodes : (command : CommandIs) → length (payload_of command) ≤ 128 → decode_of (frame_of command) ≡ Ok command
frame_decodes command short = framed_decodes (code_of command) (payload_of command) ∙ in_table command short

pub frame_well_formed : (command : CommandIs) → length (payload_of command) ≤ 128 → well_formed (frame_of command) ≡ true
frame_well_formed command short = ap is_ok (frame_decodes command short)

-- with little enough data and room for it, the frame is what is written
pub encode_fits : (room : ℕ) (command : CommandIs) → length (payload_of command) ≤ 128 → length (payload_of command) + 3 ≤ room → encode_of room command ≡ Ok (frame_of command)
encode_fits room command short fits = rw (le-leb (length (payload_of command)) 128 short, le-leb (length (payload_of command) + 3) room fits)

-- what is written is the command's frame, which fits
abbrev pub Written : CommandIs → ℕ → List ℕ → Type 0
Written command room frame = (frame ≡ frame_of command) × (length (payload_of command) ≤ 128) × (length (payload_of command) + 3 ≤ room)

pub written : (room : ℕ) (command : CommandIs) → IfOk (encode_of room command) (Written command room)
written room command = grind (arith, nat_tests)

read_over : (command : CommandIs) (buf : List ℕ) (x : Result (List ℕ) FrameFault) → IfOk x (Written command (length buf)) → ReadsBack command (map_ok length x) (laid_over buf x)
read_over command buf (Ok frame) h =
    ap decode_of (take_at frame (drop (length frame) buf) (length frame) refl ∙ h.0) ∙ frame_decodes command h.1
read_over command buf (Err fault) h = tt

pub reads_back : (command : CommandIs) (buf after : List ℕ) (r : Result ℕ FrameFault) → r ≡ map_ok length (encode_of (length buf) command) → after ≡ laid_over buf (encode_of (length buf) command) → ReadsBack command r after
reads_back command buf after r result left = rw (result, left) (read_over command buf (encode_of (length buf) command) (written (length buf) command))
