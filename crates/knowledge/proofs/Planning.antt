-- What making a plan refuses, in words.
use Rattle.std.proofs.Common.{◌≡◌, ℕ, ◌^◌, Bool, true, false, cond, ◌&&◌, T, ◌↔◌, List, [], ◌∷◌, length, Some, None, Option, refl, sym, ap}
use mathlib.Core.Logic.Iff
use Rattle.knowledge.specs.declared.fault.Cause.TheVariants.{Fact, Party}
use Rattle.knowledge.specs.declared.fault.Fault.{Fault}
use Rattle.knowledge.specs.Faults.{in_matter}
use Rattle.knowledge.specs.Lists.{Each}
use Rattle.knowledge.specs.Plans.{Fits, SeatsAll, PlanInWords}
use Rattle.knowledge.specs.Seats.{all_within}
use Rattle.knowledge.specs.Sets.{FactSet, between, Within, is_within}
use Rattle.knowledge.proofs.Bits.{within_bits}
use Rattle.knowledge.proofs.Tests.{T-and, T-ltb, T-between}

-- the test of the sights
T-all_within : (n : ℕ) (sights : List FactSet) → T (all_within n sights) ↔ Each (Within n) sights
T-all_within n [] = Iff.rfl
T-all_within n (s ∷ ss) =
    Iff.trans (T-and (is_within n s) (all_within n ss))
    (Iff.and (Iff.trans (T-ltb s.bits (2 ^ n)) (Iff.symm (within_bits n s))) (T-all_within n ss))

-- the test of the facts and the sights
T-fits : (n : ℕ) (sights : List FactSet) → T (between 1 40 n && all_within n sights) ↔ Fits n sights
T-fits n sights = (
  λ t. let b = (T-and (between 1 40 n) (all_within n sights)).0 t in
      let r = (T-between 1 40 n).0 b.0 in
      record { some = r.0; few = r.1; seen = (T-all_within n sights).0 b.1 },
  λ f. (T-and (between 1 40 n) (all_within n sights)).1 ((T-between 1 40 n).1 (f.some, f.few), (T-all_within n sights).1 f.seen),
)

-- the two refusals differ
unlike : {A : Type 0} → Some (in_matter Party) ≡ Some (in_matter Fact) → A
unlike e = let same : in_matter Party ≡ in_matter Fact = cc in let cause = ap (λ (f : Fault). f.cause) same in cc

-- two tests in turn, and what each refuses
in_turn : (a b : Bool) (A B : Type 0) → T a ↔ A → T b ↔ B
    → let o : Option Fault = cond a (cond b None (Some (in_matter Party))) (Some (in_matter Fact)) in
    ((o ≡ Some (in_matter Fact)) ↔ ¬ A) × ((o ≡ Some (in_matter Party)) ↔ (A × ¬ B)) × ((o ≡ None) ↔ (A × B))
in_turn true true A B s t = (
  (λ e. cc, λ h. absurd (h (s.0 tt))),
  (λ e. cc, λ h. absurd (h.1 (t.0 tt))),
  (λ e. (s.0 tt, t.0 tt), λ h. refl),
)
in_turn true false A B s t = (
  (λ e. unlike e, λ h. absurd (h (s.0 tt))),
  (λ e. (s.0 tt, t.1), λ h. refl),
  (λ e. cc, λ h. absurd (t.1 h.1)),
)
in_turn false b A B s t = (
  (λ e. s.1, λ h. refl),
  (λ e. unlike (sym e), λ h. absurd (s.1 h.0)),
  (λ e. cc, λ h. absurd (s.1 h.0)),
)

-- what making a plan refuses
pub plan_in_words : PlanInWords
plan_in_words n sights = in_turn (between 1 40 n && all_within n sights) (between 1 8 (length sights)) (Fits n sights) (SeatsAll sights) (T-fits n sights) (T-between 1 8 (length sights))
