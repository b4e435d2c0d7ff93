-- What a command says. Assumes nothing.
use Rattle.std.specs.Prelude.{ℕ, ◌/◌, ◌%◌, List, [], ◌∷◌}
use Rattle.bootloader.specs.declared.command.Command.{Command}
use Rattle.bootloader.specs.declared.command.Command.TheVariants.{RamRemapReset, RomRemapReset, DownloadInit, WriteRam, AddrRam}

-- a command, with its data bytes themselves in place of where they lie
pub data CommandIs : Type 0 where
  ram_remap_reset : CommandIs
  rom_remap_reset : CommandIs
  download_init : CommandIs
  write_ram : (bytes : List ℕ) → CommandIs
  addr_ram : (address : ℕ) → CommandIs

abbrev pub meaning : Command → CommandIs
meaning RamRemapReset = ram_remap_reset
meaning RomRemapReset = rom_remap_reset
meaning DownloadInit = download_init
meaning (WriteRam bytes) = write_ram bytes.now
meaning (AddrRam address) = addr_ram address

-- the command code
abbrev pub code_of : CommandIs → ℕ
code_of ram_remap_reset = 0x11
code_of rom_remap_reset = 0x12
code_of download_init = 0x14
code_of (write_ram bytes) = 0x41
code_of (addr_ram address) = 0x43

-- the data bytes: a seed, the bytes to write, an address with its low byte first
abbrev pub payload_of : CommandIs → List ℕ
payload_of ram_remap_reset = []
payload_of rom_remap_reset = []
payload_of download_init = 0x29 ∷ []
payload_of (write_ram bytes) = bytes
payload_of (addr_ram address) = address % 256 ∷ address / 256 ∷ []
