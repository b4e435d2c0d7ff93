-- What the listing prints for a text. Assumes nothing.
use Rattle.std.specs.Prelude.{ℕ, cond, List, ◌++◌, length, Ok, Err, codes, decimal, Result, nat_lt}
use Rattle.std.specs.List.{flat_map}
use Rattle.checksum.specs.Outcomes.{and_then, map_err}
use Rattle.hexline.specs.declared.fault.TextFault.TheVariants.{TooLong}
use Rattle.hexline.specs.Faults as text
use Rattle.ihex.specs.Reads.{text_of}
use Rattle.ihex.specs.Named.{reaches}
use Rattle.ihex.specs.Frames.{frames_of}
use Rattle.bootloader.specs.Commands.{CommandIs}
use Rattle.bootloader.specs.Faults as frame
use Rattle.bootloader.specs.Frames.{frame_of}
use Rattle.bootloader.specs.Strings.{string_of}
use Rattle.listings.specs.declared.fault.ProgramFault.{ProgramFault}
use Rattle.listings.specs.declared.fault.ProgramFault.TheVariants.{Text, Frame, PastWindow, Memory}
use Rattle.listings.specs.Listed.{commands_of}

-- the longest text that is listed
abbrev pub longest_input : ℕ
longest_input = 65536

-- the window of a TMF8X0X
abbrev pub listed_window : ℕ
listed_window = 16384

abbrev pub number_of : ProgramFault → ℕ
number_of (Text f) = text.number_of f
number_of (Frame f) = frame.number_of f
number_of PastWindow = 23
number_of Memory = 0

abbrev pub line_in : ProgramFault → ℕ
line_in (Text f) = text.line_in f
line_in (Frame f) = 0
line_in PastWindow = 0
line_in Memory = 0

abbrev pub place_in : ProgramFault → ℕ
place_in (Text f) = text.place_in f
place_in (Frame f) = 0
place_in PastWindow = 0
place_in Memory = 0

abbrev pub command_string : CommandIs → List ℕ
command_string c = string_of (frame_of c)

-- the strings of a patch, one after the other
abbrev pub strings_of : List ℕ → List ℕ
strings_of text = flat_map command_string (commands_of (frames_of text))

-- the strings, or why there are none
unfoldable pub listed : List ℕ → Result (List ℕ) ProgramFault
listed text = cond (nat_lt longest_input (length text)) (Err (Text TooLong)) (and_then (map_err Text (text_of text)) (λ _. cond (reaches listed_window text) (Err PastWindow) (Ok (strings_of text))))

-- what is shown of a fault: number, line and place
abbrev pub shown_of : ProgramFault → List ℕ
shown_of f = codes "fault " ++ (decimal (number_of f) ++ (codes " " ++ (decimal (line_in f) ++ (codes " " ++ decimal (place_in f)))))

-- one line for a fault: number, line and place
abbrev pub fault_line : ProgramFault → List ℕ
fault_line f = codes "fault " ++ (decimal (number_of f) ++ (codes " " ++ (decimal (line_in f) ++ (codes " " ++ (decimal (place_in f) ++ codes "\n")))))

-- all that is printed
abbrev pub printed_of : Result (List ℕ) ProgramFault → List ℕ
printed_of (Ok strings) = strings
printed_of (Err f) = fault_line f
