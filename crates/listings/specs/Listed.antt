-- Which commands a clean session sends for a patch. Assumes nothing.
use Rattle.std.specs.Prelude.{ℕ, ◌+◌, Bool, false, cond, List, [], ◌∷◌, ◌++◌, length, Some, None, Option, ◌==◌}
use Rattle.ihex.specs.Frames.{FrameIs}
use Rattle.bootloader.specs.Commands.{CommandIs, ram_remap_reset, download_init, write_ram, addr_ram}

-- whether the pointer stands at a start: nothing is known of it before the first frame
abbrev pub stands_at : Option ℕ → ℕ → Bool
stands_at None start = false
stands_at (Some end) start = end == start

-- the address, unless the frame starts where the one before it ended
abbrev pub addressed : Option ℕ → ℕ → List CommandIs
addressed pointer start = cond (stands_at pointer start) [] (addr_ram start ∷ [])

-- the frames in order, each after its address where it needs one
unfoldable pub writes : Option ℕ → List FrameIs → List CommandIs
writes pointer [] = []
writes pointer (f ∷ fs) = addressed pointer f.start ++ (write_ram f.bytes ∷ writes (Some (f.start + length f.bytes)) fs)

-- a download begins, the frames go, and the sensor starts from its RAM
abbrev pub commands_of : List FrameIs → List CommandIs
commands_of fs = download_init ∷ (writes None fs ++ (ram_remap_reset ∷ []))
