-- Proofs of a recorder's laws. Assumes nothing.
use Rattle.std.proofs.Common.{◌≡◌, ℕ, ◌+◌, ◌<◌, ◌≤◌, Bool, true, false, List, [], ◌∷◌, ◌++◌, length, sym, refl, ap, ◌∙◌, subst, append_assoc, append-nil, arith, length-append, ⊎_elim}
use Rattle.std.proofs.lemmas.Bool.{cases_lt}
use Rattle.std.proofs.lemmas.Bool.Decides.{nat_tests}
use Rattle.sensor.specs.Exchanges.{Exchange, Answer}
use Rattle.sensor.specs.Machines.{Machine}
use Rattle.recorder.specs.Kept.{Kept, kept}
use Rattle.recorder.specs.Books.{Book, noted}
use Rattle.recorder.specs.Recording.{Recording, recording}
use Rattle.sensor.specs.Runs.{after}
use Rattle.recorder.specs.Laws.{spoken, SameAsBelow, RecordsAll}

pub same : {S : Type 0} (m : Machine S) → SameAsBelow m
same m r [] = (refl, refl)
same m r (e ∷ es) =
    let rest = same m ((recording m).step r e).next es in
    (ap (λ (more : List Answer). (m.step r.under e).answer ∷ more) rest.0, rest.1)

abbrev book : List Kept → ℕ → Bool → Book
book log room short = record { log = log; room = room; short = short }

abbrev stands : {S : Type 0} → S → Book → Recording S
stands under b = record { under = under; book = b }

noted_kept : (log : List Kept) (room : ℕ) (short : Bool) (k : Kept) → length log < room → noted k (book log room short) ≡ book (log ++ k ∷ []) room short
noted_kept log room short k lt = grind (arith, nat_tests)

noted_short : (log : List Kept) (room : ℕ) (short : Bool) (k : Kept) → room ≤ length log → noted k (book log room short) ≡ book log room true
noted_short log room short k le = grind (arith, nat_tests)

-- with room for all
all_kept :
    {S : Type 0} (m : Machine S) (under : S) (log : List Kept) (room : ℕ) (es : List Exchange)
    → length log + length es ≤ room
    → (after (recording m) (stands under (book log room false)) es).book ≡ book (log ++ spoken m under es) room false
all_kept m under log room [] h = ap (λ (l : List Kept). book l room false) (sym (append-nil log))
all_kept m under log room (e ∷ es) h =
    let k = kept e (m.step under e).answer in
    let next = (m.step under e).next in
    let lt : length log < room = omega arith in
    let le : length (log ++ k ∷ []) + length es ≤ room = omega (arith, length-append log (k ∷ [])) in
    ap (λ (b : Book). (after (recording m) (stands next b) es).book) (noted_kept log room false k lt)
    ∙ all_kept m next (log ++ k ∷ []) room es le
    ∙ ap (λ (l : List Kept). book l room false) (append_assoc log (k ∷ []) (spoken m next es))

-- a short record stays short
noted_stays : (b : Book) (k : Kept) → b.short ≡ true → (noted k b).short ≡ true
noted_stays b k h = grind (arith, nat_tests)

stays_short :
    {S : Type 0} (m : Machine S) (under : S) (b : Book) (es : List Exchange)
    → b.short ≡ true
    → (after (recording m) (stands under b) es).book.short ≡ true
stays_short m under b [] h = h
stays_short m under b (e ∷ es) h =
    let k = kept e (m.step under e).answer in
    stays_short m (m.step under e).next (noted k b) es (noted_stays b k h)

-- with too little room
too_much :
    {S : Type 0} (m : Machine S) (under : S) (log : List Kept) (room : ℕ) (es : List Exchange)
    → length log ≤ room
    → room < length log + length es
    → (after (recording m) (stands under (book log room false)) es).book.short ≡ true
too_much m under log room [] le h =
    let never : ⊥ = omega arith in
    absurd never
too_much {S} m under log room (e ∷ es) le h =
    let k = kept e (m.step under e).answer in
    let next = (m.step under e).next in
    let goal : Book → Type 0 = λ b. (after (recording m) (stands next b) es).book.short ≡ true in
    ⊎_elim
    (λ (lt : length log < room).
    let long = length-append log (k ∷ []) in
    subst goal (sym (noted_kept log room false k lt)) (too_much m next (log ++ k ∷ []) room es (omega arith) (omega arith)))
    (λ (full : room ≤ length log). subst goal (sym (noted_short log room false k full)) (stays_short m next (book log room true) es refl))
    (cases_lt (length log) room)

pub all : {S : Type 0} (m : Machine S) → RecordsAll m
all m under room es =
    (λ h. all_kept m under [] room es (omega arith), λ h. too_much m under [] room es (omega arith) (omega arith))
