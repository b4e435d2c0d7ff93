-- Strings laid one after the other. Assumes nothing.
use Rattle.std.proofs.Common.{◌≡◌, ℕ, ◌+◌, List, [], ◌∷◌, ◌++◌, length, Some, None, Option, sym, ap, ◌∙◌}
use Rattle.std.proofs.lemmas.List.{append-nil, append_assoc}
use Rattle.std.specs.List.{flat_map}
use Rattle.std.proofs.lemmas.Grind.{flat_map-append}
use Rattle.ihex.specs.Frames.{FrameIs}
use Rattle.bootloader.specs.Commands.{write_ram, download_init, ram_remap_reset}
use Rattle.listings.specs.Listed.{addressed, writes, commands_of}
use Rattle.listings.specs.Outputs.{command_string}

-- a frame more of those that are left
pub frame_laid : (out now goal : List ℕ) (pointer : Option ℕ) (f : FrameIs) (fs : List FrameIs) → now ≡ (out ++ flat_map command_string (addressed pointer f.start)) ++ command_string (write_ram f.bytes) → out ++ flat_map command_string (writes pointer (f ∷ fs)) ≡ goal → now ++ flat_map command_string (writes (Some (f.start + length f.bytes)) fs) ≡ goal
unfolding writes
frame_laid out now goal pointer f fs is inv =
    ap (λ l. l ++ flat_map command_string (writes (Some (f.start + length f.bytes)) fs)) is
    ∙ append_assoc (out ++ flat_map command_string (addressed pointer f.start)) (command_string (write_ram f.bytes)) (flat_map command_string (writes (Some (f.start + length f.bytes)) fs))
    ∙ append_assoc out (flat_map command_string (addressed pointer f.start)) (command_string (write_ram f.bytes) ++ flat_map command_string (writes (Some (f.start + length f.bytes)) fs))
    ∙ ap (λ l. out ++ l) (sym (flat_map-append command_string (addressed pointer f.start) (write_ram f.bytes ∷ writes (Some (f.start + length f.bytes)) fs)))
    ∙ inv

pub frames_laid : (out goal : List ℕ) (pointer : Option ℕ) (fs : List FrameIs) → fs ≡ [] → out ++ flat_map command_string (writes pointer fs) ≡ goal → out ≡ goal
unfolding writes
frames_laid out goal pointer fs none inv = sym (append-nil out) ∙ ap (λ l. out ++ flat_map command_string (writes pointer l)) (sym none) ∙ inv

-- the first string, the frames' and the last
pub all_laid : (one two three : List ℕ) (fs : List FrameIs) → one ≡ [] ++ command_string download_init → two ≡ one ++ flat_map command_string (writes None fs) → three ≡ two ++ command_string ram_remap_reset → three ≡ flat_map command_string (commands_of fs)
all_laid one two three fs first middle last =
    last
    ∙ ap (λ l. l ++ command_string ram_remap_reset) (middle ∙ ap (λ l. l ++ flat_map command_string (writes None fs)) first)
    ∙ append_assoc (command_string download_init) (flat_map command_string (writes None fs)) (command_string ram_remap_reset)
    ∙ ap (λ l. command_string download_init ++ (flat_map command_string (writes None fs) ++ l)) (sym (append-nil (command_string ram_remap_reset)))
    ∙ ap (λ l. command_string download_init ++ l) (sym (flat_map-append command_string (writes None fs) (ram_remap_reset ∷ [])))
