-- The number and the words of each fault. Assumes nothing.
use Rattle.std.specs.Prelude.{ℕ, List, codes}
use Rattle.bootloader.specs.declared.fault.FrameFault.{FrameFault}
use Rattle.bootloader.specs.declared.fault.FrameFault.TheVariants.{DataTooLong, BufferTooShort, WrongLength, WrongChecksum, UnknownCommand, StringBufferTooShort}

abbrev pub number_of : FrameFault → ℕ
number_of DataTooLong = 24
number_of BufferTooShort = 25
number_of WrongLength = 26
number_of WrongChecksum = 27
number_of UnknownCommand = 28
number_of StringBufferTooShort = 30

abbrev pub words_of : FrameFault → List ℕ
words_of DataTooLong = codes "too much data for one frame: send at most 128 bytes at a time"
words_of BufferTooShort = codes "no room for the frame: give a buffer of at least 3 bytes more than its data"
words_of WrongLength = codes "the frame's length does not fit its SIZE: bytes are missing or too many, read it again"
words_of WrongChecksum = codes "the frame's checksum is wrong: a byte was changed on the way, send it again"
words_of UnknownCommand = codes "no command of the bootloader has this code, SIZE and data: look at what was sent"
words_of StringBufferTooShort = codes "no room for the string: give a buffer of at least 405 bytes"
