-- Which rules of a list are broken, and which one decides. Assumes nothing.
use Rattle.std.proofs.Common.{◌≡◌, ℕ, ◌<◌, ◌≤◌, true, false, cond, ◌⊎◌, List, [], ◌∷◌, ◌++◌, Ok, Err, sym, refl, ap, ◌∙◌, subst, inl, inr, arith}
use Rattle.std.proofs.lemmas.Bool.{true≢false}
use Rattle.std.specs.List.{AllByRecursion}
use Rattle.hexline.specs.declared.fault.TextFault.{TextFault}
use Rattle.hexline.specs.Faults.{Rule, number_of, decided}

-- one of these rules is broken, and means this refusal
abbrev pub Broken : List Rule → TextFault → Type 0
Broken [] g = ⊥
Broken (r ∷ rs) g = ((r.broken ≡ true) × (r.fault ≡ g)) ⊎ Broken rs g

-- the rules stand in the order of their numbers
abbrev pub Ascends : List Rule → Type 0
Ascends [] = Unit {0}
Ascends (r ∷ rs) = AllByRecursion (λ q. number_of r.fault < number_of q.fault) rs × Ascends rs

-- each number above the one before it
abbrev pub Chain : ℕ → List Rule → Type 0
Chain n [] = Unit {0}
Chain n (r ∷ rs) = (n < number_of r.fault) × Chain (number_of r.fault) rs

chain_above : (n m : ℕ) (rs : List Rule) → n ≤ m → Chain m rs → AllByRecursion (λ q. n < number_of q.fault) rs
chain_above n m [] le c = tt
chain_above n m (r ∷ rs) le c = (omega (arith, c.0), chain_above n (number_of r.fault) rs (omega (arith, c.0)) c.1)

pub chain_ascends : (n : ℕ) (rs : List Rule) → Chain n rs → Ascends rs
chain_ascends n [] c = tt
chain_ascends n (r ∷ rs) c = (chain_above (number_of r.fault) (number_of r.fault) rs (omega arith) c.1, chain_ascends (number_of r.fault) rs c.1)

pub broken_left : (rs qs : List Rule) (g : TextFault) → Broken rs g → Broken (rs ++ qs) g
broken_left [] qs g b = absurd b
broken_left (r ∷ rs) qs g (inl b) = inl b
broken_left (r ∷ rs) qs g (inr b) = inr (broken_left rs qs g b)

pub broken_right : (rs qs : List Rule) (g : TextFault) → Broken qs g → Broken (rs ++ qs) g
broken_right [] qs g b = b
broken_right (r ∷ rs) qs g b = inr (broken_right rs qs g b)

pub broken_either : (rs qs : List Rule) (g : TextFault) → Broken (rs ++ qs) g → Broken rs g ⊎ Broken qs g
broken_either [] qs g b = inr b
broken_either (r ∷ rs) qs g (inl b) = inl (inl b)
broken_either (r ∷ rs) qs g (inr b) = elim (broken_either rs qs g b) [ inl x ↦ inl (inr x) | inr x ↦ inr x ]

broken_above : (n : ℕ) (rs : List Rule) (g : TextFault) → AllByRecursion (λ q. n < number_of q.fault) rs → Broken rs g → n < number_of g
broken_above n [] g above b = absurd b
broken_above n (r ∷ rs) g above (inl b) = subst (λ f. n < number_of f) b.1 above.0
broken_above n (r ∷ rs) g above (inr b) = broken_above n rs g above.1 b

abbrev pub Lowest : List Rule → TextFault → Type 0
Lowest rs f = Broken rs f × ((g : TextFault) → Broken rs g → number_of f ≤ number_of g)

-- what decides is the lowest number that is broken
pub decides_lowest : {X : Type 0} (rs : List Rule) (x : X) (f : TextFault) → Ascends rs → decided rs x ≡ Err f → Lowest rs f
decides_lowest [] x f up e = cc
decides_lowest (r ∷ rs) x f up e =
    elim r.broken as (λ b. r.broken ≡ b → cond b (Err r.fault) (decided rs x) ≡ Err f → Lowest (r ∷ rs) f) [
      | true ↦ (λ is k. let same : r.fault ≡ f = cc in (inl (is, same), λ g b. elim b [ inl y ↦ (let eq : f ≡ g = sym same ∙ y.1 in subst (λ h. number_of f ≤ number_of h) eq (omega arith)) | inr y ↦ (let above = broken_above (number_of r.fault) rs g up.0 y in subst (λ h. number_of h ≤ number_of g) same (omega arith)) ]))
      | false ↦ (λ is k. let rest = decides_lowest rs x f up.1 k in (inr rest.0, λ g b. elim b [ inl y ↦ absurd (true≢false (sym y.0 ∙ is)) | inr y ↦ rest.1 g y ]))
    ] refl e

pub lowest_decides : {X : Type 0} (rs : List Rule) (x : X) (f : TextFault) → Ascends rs → Lowest rs f → decided rs x ≡ Err f
lowest_decides [] x f up low = absurd low.0
lowest_decides (r ∷ rs) x f up low =
    elim r.broken as (λ b. r.broken ≡ b → cond b (Err r.fault) (decided rs x) ≡ Err f) [
      | true ↦ (λ is. elim low.0 [ inl y ↦ ap Err y.1 | inr y ↦ (let above = broken_above (number_of r.fault) rs f up.0 y in let below = low.1 r.fault (inl (is, refl)) in absurd (omega arith)) ])
      | false ↦ (λ is. elim low.0 [ inl y ↦ absurd (true≢false (sym y.0 ∙ is)) | inr y ↦ lowest_decides rs x f up.1 (y, λ g b. low.1 g (inr b)) ])
    ] refl

pub ok_none : {X : Type 0} (rs : List Rule) (x y : X) → decided rs x ≡ Ok y → (g : TextFault) → Broken rs g → ⊥
ok_none [] x y e g b = b
ok_none (r ∷ rs) x y e g b =
    elim r.broken as (λ t. r.broken ≡ t → cond t (Err r.fault) (decided rs x) ≡ Ok y → ⊥) [
      | true ↦ (λ is k. let z : ◌≡◌ {A = ℕ} 0 1 = cc in omega arith)
      | false ↦ (λ is k. elim b [ inl z ↦ true≢false (sym z.0 ∙ is) | inr z ↦ ok_none rs x y k g z ])
    ] refl e

pub none_ok : {X : Type 0} (rs : List Rule) (x : X) → ((g : TextFault) → Broken rs g → ⊥) → decided rs x ≡ Ok x
none_ok [] x none = refl
none_ok (r ∷ rs) x none =
    elim r.broken as (λ t. r.broken ≡ t → cond t (Err r.fault) (decided rs x) ≡ Ok x) [
      | true ↦ (λ is. absurd (none r.fault (inl (is, refl))))
      | false ↦ (λ is. none_ok rs x (λ g b. none g (inr b)))
    ] refl
