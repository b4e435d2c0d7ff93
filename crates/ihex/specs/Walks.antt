-- What is still to come in a walk over a text, and what a step does. Assumes nothing.
use Rattle.std.specs.Prelude.{◌≡◌, ℕ, ◌+◌, ◌<◌, ◌≤◌, List, [], ◌∷◌, ◌++◌, length, take, Option, IfSome, MatchOption}
use Rattle.std.specs.Iterator.{YieldsFirstBy}
use Rattle.std.specs.List.{flat_map}
use Rattle.ihex.specs.declared.lines.TextLine as declared
use Rattle.ihex.specs.declared.lines.Lines.{Lines}
use Rattle.ihex.specs.declared.walk.DataLine.{DataLine}
use Rattle.ihex.specs.declared.walk.DataLines.{DataLines}
use Rattle.ihex.specs.declared.frames.DataFrame.{DataFrame}
use Rattle.ihex.specs.declared.frames.DataFrames.{DataFrames}
use Rattle.hexline.specs.Digits.{pairs}
use Rattle.ihex.specs.Texts.{TextLine, stretches, placed}
use Rattle.ihex.specs.Named.{DataIs, data_in}
use Rattle.ihex.specs.Frames.{FrameIs, chunks_of, line_chunks, numbered}

abbrev pub said_text : declared.TextLine → TextLine
said_text l = record { number = l.at.line; place = l.at.place; chars = l.chars.now }

-- the lines still to come
abbrev pub lines_from : Lines → List TextLine
lines_from w = placed w.at.line w.at.place (stretches w.rest.now)

-- where the text ends
abbrev pub end_of : Lines → ℕ
end_of w = w.at.place + length w.rest.now

-- the first of the lines still to come, and the walk stands past its characters in the same text
abbrev pub TextStep : Lines → Option declared.TextLine → Lines → Type 0
TextStep w r v = YieldsFirstBy said_text lines_from w r v × (end_of v ≡ end_of w) × IfSome r (λ l. (l.at ≡ w.at) × (w.at.place < v.at.place) × (w.at.place + length l.chars.now ≤ v.at.place))

abbrev pub said_data : DataLine → DataIs
said_data d = record { address = d.address; digits = d.digits.now; line = d.at.line; place = d.at.place }

-- the data on a line, if it is a data line: no more digits than the line has characters, and 510 at most
abbrev pub SaysData : declared.TextLine → Option DataLine → Type 0
SaysData l r = MatchOption r (data_in (said_text l) ≡ []) (λ d. (data_in (said_text l) ≡ said_data d ∷ []) × (length d.digits.now ≤ length l.chars.now) × (length d.digits.now ≤ 510))

-- the data lines still to come
abbrev pub lines_left : DataLines → List DataIs
lines_left w = flat_map data_in (lines_from w.lines)

-- the first of the data lines still to come, and the walk stands past its digits; where none is, it stays as it is
abbrev pub DataStep : DataLines → Option DataLine → DataLines → Type 0
DataStep w r v = MatchOption r ((lines_left w ≡ []) × (v ≡ w)) (λ d. (lines_left w ≡ said_data d ∷ lines_left v) × (w.lines.at.place + length d.digits.now ≤ v.lines.at.place) × (length d.digits.now ≤ 510))

abbrev pub said_frame : DataFrame → FrameIs
said_frame f = record { start = f.start; bytes = take f.len f.bytes; line = f.line; number = f.number }

-- the data frames still to come: the rest of the line at hand, and those of the lines after it
abbrev pub frames_left : DataFrames → List FrameIs
frames_left w = numbered w.count (chunks_of w.start (pairs w.digits.now) w.line ++ flat_map line_chunks (lines_left w.lines))

-- the first of the data frames still to come, of 128 bytes at most, and one more came
abbrev pub FrameStep : DataFrames → Option DataFrame → DataFrames → Type 0
FrameStep w r v = MatchOption r ((frames_left w ≡ []) × (frames_left v ≡ []) × (v.count ≡ w.count)) (λ f. (frames_left w ≡ said_frame f ∷ frames_left v) × (f.len ≤ 128) × (v.count ≡ w.count + 1))
