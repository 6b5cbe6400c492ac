-- Equivalences, what the answer of a test says, and what an option is not.
use Rattle.std.proofs.Common.{◌≡◌, Bool, true, false, cond, T, ◌⊎◌, ◌↔◌, Some, None, Option, refl, sym, subst, ◌∙◌}
use mathlib.Core.Logic
use mathlib.Core.Logic.{⊎_map}
use mathlib.Mathlib.Logic.Basic.Iff as LogicIff
use Rattle.std.specs.Bool.{one_answer}
use Rattle.std.proofs.lemmas.Bool.{false_from_ne_true}
use Rattle.std.proofs.lemmas.Option.{none-some}
use Rattle.knowledge.specs.declared.table.Connective.{Connective}
use Rattle.knowledge.specs.declared.table.Connective.TheVariants.{And, Or, Xor, Implies, Iff}
use Rattle.knowledge.specs.Truth.Truth.{Joined}

-- equivalent parts make equivalent sums
pub ⊎-iff : {A B C D : Type 0} → A ↔ B → C ↔ D → (A ⊎ C) ↔ (B ⊎ D)
⊎-iff e d = (⊎_map e.0 d.0, ⊎_map e.1 d.1)

-- equivalent parts, joined by a connective, are equivalent
pub joined_iff : {A B C D : Type 0} (c : Connective) → A ↔ B → C ↔ D → Joined c A C ↔ Joined c B D
joined_iff And e d = Logic.Iff.and e d
joined_iff Or e d = ⊎-iff e d
joined_iff Xor e d = ⊎-iff (Logic.Iff.and e (Logic.Iff.not d)) (Logic.Iff.and (Logic.Iff.not e) d)
joined_iff Implies e d = LogicIff.imp e d
joined_iff Iff e d = LogicIff.iff e d

-- a test that passes
pub passes : (b : Bool) → T b → b ≡ true
passes true t = refl
passes false t = absurd t

-- a test passes exactly if it is true
pub tested : (b : Bool) → T b ↔ (b ≡ true)
tested b = (passes b, λ e. subst T (sym e) tt)

-- two tests that pass together are equal
pub same_test : (a b : Bool) → T a ↔ T b → a ≡ b
same_test a b e = one_answer a b (Logic.Iff.symm (tested a)) (Logic.Iff.symm (Logic.Iff.trans e (tested b)))

-- a test that cannot pass
pub fails : (b : Bool) → (T b → ⊥) → b ≡ false
fails b h = false_from_ne_true b (λ e. h ((tested b).1 e))

-- an option is not both something and nothing
pub some_not_none : {A B : Type 0} (o : Option A) (x : A) → o ≡ Some x → o ≡ None → B
some_not_none o x p q = absurd (none-some x (sym q ∙ p))

-- a test that chose nothing failed
pub failed : {A : Type 0} (b : Bool) (x : A) (o : Option A) → cond b (Some x) o ≡ None → (b ≡ false) × (o ≡ None)
failed true x o e = absurd (none-some x (sym e))
failed false x o e = (refl, e)
