-- What a cable keeps of the link below it. Assumes nothing.
use Rattle.std.specs.Prelude.{◌≡◌, ℕ, Bool, true, false, ◌&&◌, List, [], ◌∷◌, slice_index_or}
use Rattle.sensor.specs.Exchanges.{Exchange, missed, sized}
use Rattle.sensor.specs.Machines.{Machine}
use Rattle.sensor.specs.Runs.{answers, after}
use Rattle.cable.specs.declared.entry.Entry.{Entry}
use Rattle.cable.specs.declared.entry.Entry.TheVariants.{Clean, Lost, Unheard}
use Rattle.cable.specs.Entries.{Cabled, entry_at, past}
use Rattle.cable.specs.Cabled.{cabled}

-- the cable with these entries over a link that stands so, after so many entries
abbrev pub over : {S : Type 0} → List Entry → S → ℕ → Cabled S
over entries under at = record { under = under; entries = entries; at = at }

abbrev pub all_sized : List Exchange → Bool
all_sized [] = true
all_sized (e ∷ es) = sized e && all_sized es

abbrev pub AllClean : List Entry → Type 0
AllClean entries = (i : ℕ) → slice_index_or entries i Clean ≡ Clean

-- all entries are clean: whatever exchanges of a link's sizes are asked, the answers are those of the link below, which stands as if asked itself
abbrev pub CleanAsBelow : {S : Type 0} → Machine S → List Entry → Type 0
CleanAsBelow {S} m entries =
    AllClean entries
    → (under : S) (es : List Exchange)
    → all_sized es ≡ true
    → (answers (cabled m) (over entries under 0) es ≡ answers m under es)
    × ((after (cabled m) (over entries under 0) es).under ≡ after m under es)

-- a lost exchange is missed, and the link below is not asked
abbrev pub LostLeaves : {S : Type 0} → Machine S → List Entry → Type 0
LostLeaves {S} m entries =
    (under : S) (at : ℕ) (e : Exchange)
    → sized e ≡ true
    → entry_at entries at ≡ Lost
    → (cabled m).step (over entries under at) e ≡ record { answer = missed; next = over entries under (past at) }

-- an unheard exchange is missed, and the link below is asked
abbrev pub UnheardArrives : {S : Type 0} → Machine S → List Entry → Type 0
UnheardArrives {S} m entries =
    (under : S) (at : ℕ) (e : Exchange)
    → sized e ≡ true
    → entry_at entries at ≡ Unheard
    → (cabled m).step (over entries under at) e ≡ record { answer = missed; next = over entries (m.step under e).next (past at) }

-- an exchange of another size is missed, and nothing happens: no entry is used up
abbrev pub OffSizeLeaves : {S : Type 0} → Machine S → List Entry → Type 0
OffSizeLeaves {S} m entries =
    (under : S) (at : ℕ) (e : Exchange)
    → sized e ≡ false
    → (cabled m).step (over entries under at) e ≡ record { answer = missed; next = over entries under at }
