-- What tests decide.
use Rattle.std.proofs.Common.{◌≡◌, ℕ, zero, suc, ◌<◌, ◌≤◌, Bool, true, false, not as negated, ◌&&◌, ◌||◌, T, ltb, leb, ◌⊎◌, ◌↔◌, sym, refl, subst, inl, inr, le→leb, ltb→lt, lt→ltb, leb→le}
use mathlib.Core.Bool.{beq}
use mathlib.Core.Logic
use Rattle.std.proofs.Math.Dec.{T_not, not_T}
use Rattle.std.proofs.Math.Facts.{and_yes, yes_and}
use Rattle.std.proofs.lemmas.Bool.Decides.{Decides-below_and, Decides-below_or}
use Rattle.knowledge.specs.declared.table.Connective.{Connective}
use Rattle.knowledge.specs.declared.table.Connective.TheVariants.{And, Or, Xor, Implies, Iff}
use Rattle.knowledge.specs.Sets.{between}
use Rattle.knowledge.specs.Truth.Truth.{Joined}
use Rattle.knowledge.proofs.Logic.{⊎-iff, tested}

-- a test of both
pub T-and : (a b : Bool) → T (a && b) ↔ (T a × T b)
T-and a b = (and_yes a b, λ p. yes_and a b p.0 p.1)

-- a test of either
pub T-or : (a b : Bool) → T (a || b) ↔ (T a ⊎ T b)
T-or true b = (λ t. inl tt, λ t. tt)
T-or false b = (λ t. inr t, elim [ inl t ↦ absurd t | inr t ↦ t ])

-- the tests of an order
pub T-leb : (m n : ℕ) → T (leb m n) ↔ (m ≤ n)
T-leb m n = (leb→le m n, le→leb m n)

-- and of a strict one
pub T-ltb : (m n : ℕ) → T (ltb m n) ↔ (m < n)
T-ltb m n = (ltb→lt m n, lt→ltb m n)

-- the test of a range
pub T-between : (first last n : ℕ) → T (between first last n) ↔ ((first ≤ n) × (n ≤ last))
T-between first last n = Logic.Iff.trans (T-and (leb first n) (leb n last)) (Logic.Iff.and (T-leb first n) (T-leb n last))

-- the opposite of a test
pub T-negated : (a : Bool) → T (negated a) ↔ (T a → ⊥)
T-negated a = (T_not a, not_T a)

-- a test that passes if the first fails or the second passes
abbrev pub implied : Bool → Bool → Bool
implied true b = b
implied false b = true

-- and what it decides
pub T-implied : (a b : Bool) → T (implied a b) ↔ (T a → T b)
T-implied true b = (λ t _. t, λ f. f tt)
T-implied false b = (λ t x. absurd x, λ f. tt)

-- a test of two tests for equality
pub T-beq : (a b : Bool) → T (beq a b) ↔ (a ≡ b)
T-beq true true = (λ _. refl, λ _. tt)
T-beq true false = (λ t. absurd t, λ e. subst T e tt)
T-beq false true = (λ t. absurd t, λ e. subst T (sym e) tt)
T-beq false false = (λ _. refl, λ _. tt)

-- two tests joined by a connective
abbrev pub joined_test : Connective → Bool → Bool → Bool
joined_test And a b = a && b
joined_test Or a b = a || b
joined_test Xor a b = (a && negated b) || (negated a && b)
joined_test Implies a b = implied a b
joined_test Iff a b = implied a b && implied b a

-- and what they decide
pub T-joined : (c : Connective) (a b : Bool) → T (joined_test c a b) ↔ Joined c (T a) (T b)
T-joined And a b = T-and a b
T-joined Or a b = T-or a b
T-joined Xor a b = Logic.Iff.trans (T-or (a && negated b) (negated a && b))
    (⊎-iff (Logic.Iff.trans (T-and a (negated b)) (Logic.Iff.and Logic.Iff.rfl (T-negated b))) (Logic.Iff.trans (T-and (negated a) b) (Logic.Iff.and (T-negated a) Logic.Iff.rfl)))
T-joined Implies a b = T-implied a b
T-joined Iff a b = Logic.Iff.trans (T-and (implied a b) (implied b a)) (Logic.Iff.and (T-implied a b) (T-implied b a))

-- a test at every number below n
abbrev pub all_below : ℕ → (ℕ → Bool) → Bool
all_below zero f = true
all_below (suc n) f = let rest = all_below n f in f n && rest

-- a test at some number below n
abbrev pub some_below : ℕ → (ℕ → Bool) → Bool
some_below zero f = false
some_below (suc n) f = let rest = some_below n f in f n || rest

-- what a test at every number below n decides
pub T-all_below : (n : ℕ) (f : ℕ → Bool) → T (all_below n f) ↔ ((i : ℕ) → i < n → T (f i))
T-all_below n f = Logic.Iff.trans (tested (all_below n f))
    (Decides-below_and f (λ i. T (f i)) (λ m. all_below m f) (λ i. Logic.Iff.symm (tested (f i))) refl (λ _. refl) n)

-- what a test at some number below n decides
pub T-some_below : (n : ℕ) (f : ℕ → Bool) → T (some_below n f) ↔ ((i : ℕ) × (i < n) × T (f i))
T-some_below n f = Logic.Iff.trans (tested (some_below n f))
    (Decides-below_or f (λ i. T (f i)) (λ m. some_below m f) (λ i. Logic.Iff.symm (tested (f i))) refl (λ _. refl) n)
