-- Which texts are accepted, and why another is refused. Assumes nothing.
use Rattle.std.specs.Prelude.{ℕ, ◌+◌, Bool, true, false, cond, not, ◌&&◌, ◌||◌, List, [], ◌∷◌, ◌++◌, length, is_ok, Ok, Err, fold, Result, ◌==◌, nat_lt}
use Rattle.checksum.specs.Outcomes.{and_then}
use Rattle.hexline.specs.declared.fault.TextFault.{TextFault}
use Rattle.hexline.specs.declared.fault.TextFault.TheVariants.{TooLong, WrongUpper, Backward, PastTop, NoEnd, AfterEnd, NothingNamed, RowLength}
use Rattle.ihex.specs.declared.reads.Seen.{Seen}
use Rattle.hexline.specs.Faults.{Rule, rule, decided, spot}
use Rattle.ihex.specs.Texts.{TextLine, lines_of}
use Rattle.hexline.specs.Records.{count_on, address_on, type_on, upper_on}
use Rattle.hexline.specs.Lines.{line_rules}

-- the longest text
abbrev pub longest_text : ℕ
longest_text = 131072

-- the upper half that data must stand under
abbrev pub allowed_upper : ℕ → Bool
allowed_upper u = u == 0x2000

abbrev pub is_data : TextLine → Bool
is_data l = type_on l.chars == 0

abbrev pub is_end : TextLine → Bool
is_end l = type_on l.chars == 1

-- a type 04 line sets the upper half
abbrev pub upper_next : ℕ → TextLine → ℕ
upper_next u l = cond (type_on l.chars == 4) (upper_on l.chars) u

-- where the last data line ended, one of count 0 too; 0 before the first
abbrev pub end_next : ℕ → TextLine → ℕ
end_next e l = cond (is_data l) (address_on l.chars + count_on l.chars) e

-- a data line with a count above 0 names a byte
abbrev pub names_next : Bool → TextLine → Bool
names_next b l = b || (is_data l && nat_lt 0 (count_on l.chars))

abbrev pub ends_next : Bool → TextLine → Bool
ends_next b l = b || is_end l

-- what the lines so far have said, and the last one's number and place
abbrev pub seen_next : Seen → TextLine → Seen
seen_next s l = record { upper = upper_next s.upper l; top = end_next s.top l; names = names_next s.names l; ended = ends_next s.ended l; at = spot l.number l.place }

-- before the first line: the upper half 0, no data, no byte, no end
abbrev pub nothing_seen : Seen
nothing_seen = record { upper = 0; top = 0; names = false; ended = false; at = spot 0 0 }

abbrev pub seen_after : List TextLine → Seen
seen_after earlier = fold seen_next nothing_seen earlier

-- 17: data under another upper half
abbrev pub wrong_upper : ℕ → Bool
wrong_upper upper = not (allowed_upper upper)

-- 18: data that starts before the last data line's end
abbrev pub starts_back : ℕ → ℕ → Bool
starts_back top start = nat_lt start top

-- 19: data that ends above 65,536
abbrev pub ends_past_top : ℕ → ℕ → Bool
ends_past_top start count = nat_lt 65536 (start + count)

-- what data must keep beside what was said before it
abbrev pub data_rules : ℕ → ℕ → ℕ → ℕ → ℕ → ℕ → List Rule
data_rules upper top start count ln p = rule (wrong_upper upper) (WrongUpper (spot ln p)) ∷ (rule (starts_back top start) (Backward (spot ln p)) ∷ (rule (ends_past_top start count) (PastTop (spot ln p)) ∷ []))

-- the other types have no such rules
abbrev pub order_rules : ℕ → ℕ → TextLine → List Rule
order_rules upper top l = cond (is_data l) (data_rules upper top (address_on l.chars) (count_on l.chars) l.number l.place) []

-- all rules of a line beside what was said before it; one after the end line is not read
unfoldable pub rules_beside : Seen → TextLine → List Rule
rules_beside s l = cond s.ended (rule true (AfterEnd (spot l.number l.place)) ∷ []) (line_rules l.number l.place l.chars ++ order_rules s.upper s.top l)

-- the first line that breaks a rule decides; where none does, what they all said
unfoldable pub lines_kept : List TextLine → List TextLine → Result Seen TextFault
lines_kept earlier [] = Ok (seen_after earlier)
lines_kept earlier (l ∷ ls) = and_then (decided {X = Unit {0}} (rules_beside (seen_after earlier) l) tt) (λ _. lines_kept (earlier ++ (l ∷ [])) ls)

-- 20 and 22: what the whole text must keep; where there is an end line, it is the last line
abbrev pub whole_rules : ℕ → Seen → List Rule
whole_rules len s = rule (not s.ended) (NoEnd (spot (s.at.line + 1) len)) ∷ (rule (not s.names) (NothingNamed s.at) ∷ [])

unfoldable pub text_of : List ℕ → Result (Unit {0}) TextFault
text_of text = cond (nat_lt longest_text (length text)) (Err TooLong) (and_then (lines_kept [] (lines_of text)) (λ s. decided (whole_rules (length text) s) tt))

-- the text passes every rule
abbrev pub accepted : List ℕ → Bool
accepted text = is_ok (text_of text)

-- what the reader answers; first of all the row must have 255 bytes
abbrev pub read_text : ℕ → List ℕ → Result (Unit {0}) TextFault
read_text room text = cond (not (room == 255)) (Err RowLength) (text_of text)
