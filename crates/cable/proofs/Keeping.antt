-- Proofs of a cable's laws. Assumes nothing.
use Rattle.std.proofs.Common.{◌≡◌, ℕ, Bool, true, List, [], ◌∷◌, refl, ap, ◌∙◌, arith}
use Rattle.std.proofs.lemmas.Bool.{and_parts}
use Rattle.std.proofs.lemmas.Bool.Decides.{nat_tests}
use Rattle.sensor.specs.Exchanges.{Exchange, Answer, Outcome, sized}
use Rattle.sensor.specs.Machines.{Machine}
use Rattle.cable.specs.declared.entry.Entry.{Entry}
use Rattle.cable.specs.declared.entry.Entry.TheVariants.{Clean}
use Rattle.cable.specs.Entries.{Cabled, entry_at, past, carried, stepped}
use Rattle.cable.specs.Cabled.{cabled}
use Rattle.sensor.specs.Runs.{answers, after}
use Rattle.cable.specs.Laws.{over, all_sized, AllClean, CleanAsBelow}

-- an exchange that takes this entry
abbrev takes : {S : Type 0} → List Entry → S → ℕ → Outcome S → Entry → Outcome (Cabled S)
takes entries under at o entry =
    record { answer = (carried entry under o).answer; next = over entries (carried entry under o).next (past at) }

-- an exchange of a link's size takes the next entry
taken :
    {S : Type 0} (m : Machine S) (entries : List Entry) (under : S) (at : ℕ) (e : Exchange) (entry : Entry)
    → sized e ≡ true
    → entry_at entries at ≡ entry
    → (cabled m).step (over entries under at) e ≡ takes entries under at (m.step under e) entry
taken {S} m entries under at e entry fits here =
    ap (λ (b : Bool). stepped b (over entries under at) (m.step under e)) fits
    ∙ ap (λ (x : Entry). takes entries under at (m.step under e) x) here

clean_entry : (entries : List Entry) → AllClean entries → (at : ℕ) → entry_at entries at ≡ Clean
clean_entry entries clean at =
    let here = clean at in
    grind (arith, nat_tests)

clean_from :
    {S : Type 0} (m : Machine S) (entries : List Entry)
    → AllClean entries
    → (under : S) (at : ℕ) (es : List Exchange)
    → all_sized es ≡ true
    → (answers (cabled m) (over entries under at) es ≡ answers m under es)
    × ((after (cabled m) (over entries under at) es).under ≡ after m under es)
clean_from {S} m entries clean under at [] fit = (refl, refl)
clean_from {S} m entries clean under at (e ∷ es) fit =
    let fits = and_parts (sized e) (all_sized es) fit in
    let one = taken m entries under at e Clean fits.0 (clean_entry entries clean at) in
    let rest = clean_from m entries clean (m.step under e).next (past at) es fits.1 in (
      ap (λ (o : Outcome (Cabled S)). o.answer ∷ answers (cabled m) o.next es) one
          ∙ ap (λ (more : List Answer). (m.step under e).answer ∷ more) rest.0,
      ap (λ (o : Outcome (Cabled S)). (after (cabled m) o.next es).under) one ∙ rest.1,
    )

pub clean : {S : Type 0} (m : Machine S) (entries : List Entry) → CleanAsBelow m entries
clean m entries h under es fit = clean_from m entries h under 0 es fit
