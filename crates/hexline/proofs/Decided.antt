-- Rules, of which the first that is broken decides. Assumes nothing.
use Rattle.std.proofs.Common.{◌≡◌, true, false, cond, List, [], ◌∷◌, ◌++◌, Ok, Err, refl}
use Rattle.std.specs.List.{AllByRecursion}
use Rattle.checksum.specs.Outcomes.{and_then}
use Rattle.hexline.specs.declared.fault.TextFault.{TextFault}
use Rattle.hexline.specs.Faults.{Rule, decided}

-- some rules, and then the others
pub decided_append : {X : Type 0} (rs qs : List Rule) (x : X) → decided (rs ++ qs) x ≡ and_then (decided {X = Unit {0}} rs tt) (λ _. decided qs x)
decided_append [] qs x = refl
decided_append (r ∷ rs) qs x =
    elim r.broken as (λ b. cond b (Err r.fault) (decided (rs ++ qs) x) ≡ and_then (cond b (Err r.fault) (decided {X = Unit {0}} rs tt)) (λ _. decided qs x)) [ true ↦ refl | false ↦ decided_append rs qs x ]

-- where no rule is broken, the value is the one given
pub decided_ok : {X : Type 0} (rs : List Rule) (x y : X) → decided rs x ≡ Ok y → x ≡ y
decided_ok [] x y h = cc
decided_ok (r ∷ rs) x y h =
    elim r.broken as (λ b. cond b (Err r.fault) (decided rs x) ≡ Ok y → x ≡ y) [ true ↦ (λ k. cc) | false ↦ decided_ok rs x y ] h

-- where a value comes, every rule is kept
pub decided_kept : {X : Type 0} (rs : List Rule) (x y : X) → decided rs x ≡ Ok y → AllByRecursion (λ r. r.broken ≡ false) rs
decided_kept [] x y h = tt
decided_kept (r ∷ rs) x y h =
    elim r.broken as (λ b. cond b (Err r.fault) (decided rs x) ≡ Ok y → (b ≡ false) × AllByRecursion (λ q. q.broken ≡ false) rs) [ true ↦ (λ k. cc) | false ↦ (λ k. (refl, decided_kept rs x y k)) ] h

-- some rules kept, the others decide
pub decided_past : {X Y : Type 0} (rs qs : List Rule) (x : X) (y v : Y) → decided rs y ≡ Ok v → decided (rs ++ qs) x ≡ decided qs x
decided_past [] qs x y v h = refl
decided_past (r ∷ rs) qs x y v h =
    elim r.broken as (λ b. cond b (Err r.fault) (decided rs y) ≡ Ok v → cond b (Err r.fault) (decided (rs ++ qs) x) ≡ decided qs x) [ true ↦ (λ k. cc) | false ↦ decided_past rs qs x y v ] h

-- one of them broken, it decides
pub decided_stop : {X Y : Type 0} (rs qs : List Rule) (x : X) (y : Y) (f : TextFault) → decided rs y ≡ Err f → decided (rs ++ qs) x ≡ Err f
decided_stop [] qs x y f h = cc
decided_stop (r ∷ rs) qs x y f h =
    elim r.broken as (λ b. cond b (Err r.fault) (decided rs y) ≡ Err f → cond b (Err r.fault) (decided (rs ++ qs) x) ≡ Err f) [ true ↦ (λ k. cc) | false ↦ decided_stop rs qs x y f ] h
