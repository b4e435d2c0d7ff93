-- What a cable does with an exchange. Assumes nothing.
use Rattle.std.specs.Prelude.{ℕ, ◌+◌, Bool, true, false, cond, List, nat_lt, slice_index_or}
use Rattle.sensor.specs.Exchanges.{missed, Outcome}
use Rattle.cable.specs.declared.entry.Entry.{Entry}
use Rattle.cable.specs.declared.entry.Entry.TheVariants.{Clean, Lost, Unheard}

-- the link below, the entries, and how many of them are used up
pub record Cabled (S : Type 0) : Type 0 where
  pub under : S
  pub entries : List Entry
  pub at : ℕ

-- 64 entries, then clean
abbrev pub entry_at : List Entry → ℕ → Entry
entry_at entries at = cond (nat_lt at 64) (slice_index_or entries at Clean) Clean

abbrev pub past : ℕ → ℕ
past at = cond (nat_lt at 64) (at + 1) at

-- what becomes of an exchange that the link below would answer so
abbrev pub carried : {S : Type 0} → Entry → S → Outcome S → Outcome S
carried Clean s o = o
carried Lost s o = record { answer = missed; next = s }
carried Unheard s o = record { answer = missed; next = o.next }

-- an exchange of a size that a link has takes an entry; another is missed and does nothing
abbrev pub stepped : {S : Type 0} → Bool → Cabled S → Outcome S → Outcome (Cabled S)
stepped true c o =
    record {
      answer = (carried (entry_at c.entries c.at) c.under o).answer;
      next = record {
        under = (carried (entry_at c.entries c.at) c.under o).next;
        entries = c.entries;
        at = past c.at;
      };
    }
stepped false c o = record { answer = missed; next = c }
