-- What a recorder keeps to. Assumes nothing.
use Rattle.std.specs.Prelude.{◌≡◌, ℕ, ◌<◌, ◌≤◌, true, false, List, [], ◌∷◌, length}
use Rattle.sensor.specs.Exchanges.{Exchange}
use Rattle.sensor.specs.Machines.{Machine}
use Rattle.sensor.specs.Runs.{answers, after}
use Rattle.recorder.specs.Kept.{Kept, kept}
use Rattle.recorder.specs.Recording.{Recording, recording}

-- what is to be kept of a list of exchanges
abbrev pub spoken : {S : Type 0} → Machine S → S → List Exchange → List Kept
spoken m s [] = []
spoken m s (e ∷ es) = kept e (m.step s e).answer ∷ spoken m (m.step s e).next es

-- a recorder's answers are those of the link below, which stands as if asked itself
abbrev pub SameAsBelow : {S : Type 0} → Machine S → Type 0
SameAsBelow {S} m =
    (r : Recording S) (es : List Exchange)
    → (answers (recording m) r es ≡ answers m r.under es) × ((after (recording m) r es).under ≡ after m r.under es)

-- nothing kept yet
abbrev pub fresh : {S : Type 0} → S → ℕ → Recording S
fresh under room = record { under = under; book = record { log = []; room = room; short = false } }

-- where there is room, all that was asked is kept with its answers, in order; where there is not, the record is short
abbrev pub RecordsAll : {S : Type 0} → Machine S → Type 0
RecordsAll {S} m =
    (under : S) (room : ℕ) (es : List Exchange)
    → (length es ≤ room → (after (recording m) (fresh under room) es).book ≡ record { log = spoken m under es; room = room; short = false })
    × (room < length es → (after (recording m) (fresh under room) es).book.short ≡ true)
