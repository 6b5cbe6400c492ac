-- What a flip, a quantify and a fix write is what a join by a code of its own would write of the two values.
use Rattle.std.specs.Prelude.{◌≡◌, ℕ, Bool, true, false, cond, not, refl}
use Rattle.board.specs.declared.request.Quantifier.{Quantifier}
use Rattle.board.specs.declared.request.Quantifier.TheVariants.{ForAll, Exists}
use Rattle.std.proofs.Common.{ap, ◌∙◌}
use Rattle.board.specs.Requests.{joined, over}

-- the code of a join by which a sheet is turned round
pub turned : (x : Bool) → joined 1 x x ≡ not x
turned true = refl
turned false = refl

-- those by which a place is quantified
abbrev pub quantifier_code : Quantifier → ℕ
quantifier_code ForAll = 8
quantifier_code Exists = 14

-- they say what the quantifier says
pub quantified : (c : ℕ) (k : Quantifier) (x y : Bool) → c ≡ quantifier_code k → joined c x y ≡ over k x y
quantified c k x y is = ap (λ (c : ℕ). joined c x y) is ∙ each k x y
  where
    each : (k : Quantifier) (x y : Bool) → joined (quantifier_code k) x y ≡ over k x y
    each ForAll true true = refl
    each ForAll true false = refl
    each ForAll false true = refl
    each ForAll false false = refl
    each Exists true true = refl
    each Exists true false = refl
    each Exists false true = refl
    each Exists false false = refl

-- those by which a place is set say what is said with it set
pub settled : (c : ℕ) (v : Bool) (f : Bool → Bool) → c ≡ cond v 10 12 → joined c (f false) (f true) ≡ f v
settled c v f is = ap (λ (c : ℕ). joined c (f false) (f true)) is ∙ each v (f false) (f true) ∙ back v
  where
    each : (v x y : Bool) → joined (cond v 10 12) x y ≡ cond v y x
    each true true true = refl
    each true true false = refl
    each true false true = refl
    each true false false = refl
    each false true true = refl
    each false true false = refl
    each false false true = refl
    each false false false = refl

    back : (v : Bool) → cond v (f true) (f false) ≡ f v
    back true = refl
    back false = refl
