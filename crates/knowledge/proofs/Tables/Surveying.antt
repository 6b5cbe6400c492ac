-- What the records of a table measure.
use Rattle.std.proofs.Common.{ℕ, ◌+◌, ◌≤◌, max, Bool, true, false, ◌||◌, T, ◌⊎◌, ◌↔◌, List, get_or, refl, inl, inr, arith}
use mathlib.Core.List.{foldr}
use mathlib.Core.Logic.Iff
use Rattle.knowledge.specs.declared.measure.Measure.{Measure}
use Rattle.knowledge.specs.declared.table.Kind.{Kind}
use Rattle.knowledge.specs.declared.table.Kind.TheVariants.{Top, Bottom, Fact, Not, Binary, Knows, KnowsWhether, Shared, SharedWhether, Post, PostWhether, Tell, TellWhether}
use Rattle.knowledge.specs.declared.table.Record.{Record}
use Rattle.knowledge.specs.Tables.Formulas.{Formula, bottom, MentionsKnowledge}
use Rattle.knowledge.specs.Tables.Measures.{unmeasured, measure_of, Gauges, Small}
use Rattle.knowledge.specs.Tables.Questions.{Gauge}
use Rattle.knowledge.specs.Tables.Tables.{formula_of, depth_of, built, children}
use Rattle.knowledge.proofs.Logic.{⊎-iff}
use Rattle.knowledge.proofs.Tests.{T-or}

-- a test of either, or of nothing more
alone : (a : Bool) → T (a || false) ↔ T a
alone true = Iff.rfl
alone false = Iff.rfl

-- a whether form of a notice mentions what its parts do
abbrev Twice : Type 0 → Type 0 → Type 0
Twice A B = (A ⊎ (A ⊎ B)) ⊎ (A ⊎ (A ⊎ B))

-- and no more
twice : {A B : Type 0} → (A ⊎ B) ↔ Twice A B
twice = (λ x. inl (inr x), elim [ inl (inl a) ↦ inl a | inl (inr x) ↦ x | inr (inl a) ↦ inl a | inr (inr x) ↦ x ])

-- what a record measures tells its depth and its formula's tell count and mention of knowledge
pub gauged : (fs : List Formula) (ds : List ℕ) (ms : List Measure) (r : Record) → Gauges fs ds ms → Gauge (formula_of fs r) (depth_of ds r) (measure_of ms r)
gauged fs ds ms r h = go r.kind
  where
    child : ℕ → Formula
    child a = get_or fs a bottom

    deep : Kind → ℕ
    deep k = 1 + foldr (λ a. max (get_or ds a 0)) 0 (children k)

    knowing : ℕ → Bool
    knowing a = (get_or ms a unmeasured).knowledge

    one : (a : ℕ) → T (knowing a || false) ↔ MentionsKnowledge (child a)
    one a = Iff.trans (alone (knowing a)) (h a).knowledge

    two : (a b : ℕ) → T (knowing a || knowing b) ↔ (MentionsKnowledge (child a) ⊎ MentionsKnowledge (child b))
    two a b = Iff.trans (T-or (knowing a) (knowing b)) (⊎-iff (h a).knowledge (h b).knowledge)

    go : (k : Kind) → Gauge (built child k) (deep k) (measure_of ms (record { kind = k }))
    go Top = record { depth = refl; tells = refl; knowledge = Iff.rfl }
    go Bottom = record { depth = refl; tells = refl; knowledge = Iff.rfl }
    go (Fact p) = record { depth = refl; tells = refl; knowledge = Iff.rfl }
    go (Not a) = record { depth = omega (arith, (h a).depth); tells = omega (arith, (h a).tells); knowledge = one a }
    go (Binary c a b) = record { depth = omega (arith, (h a).depth, (h b).depth); tells = omega (arith, (h a).tells, (h b).tells); knowledge = two a b }
    go (Knows i a) = record { depth = omega (arith, (h a).depth); tells = omega (arith, (h a).tells); knowledge = (λ _. tt, λ _. tt) }
    go (KnowsWhether i a) = record { depth = omega (arith, (h a).depth); tells = omega (arith, (h a).tells); knowledge = (λ _. inl tt, λ _. tt) }
    go (Shared g a) = record { depth = omega (arith, (h a).depth); tells = omega (arith, (h a).tells); knowledge = (λ _. tt, λ _. tt) }
    go (SharedWhether g a) = record { depth = omega (arith, (h a).depth); tells = omega (arith, (h a).tells); knowledge = (λ _. inl tt, λ _. tt) }
    go (Post a b) = record { depth = omega (arith, (h a).depth, (h b).depth); tells = omega (arith, (h a).tells, (h b).tells); knowledge = two a b }
    go (PostWhether a b) = record { depth = omega (arith, (h a).depth, (h b).depth); tells = omega (arith, (h a).tells, (h b).tells); knowledge = Iff.trans (two a b) twice }
    go (Tell g a b) = record { depth = omega (arith, (h a).depth, (h b).depth); tells = omega (arith, (h a).tells, (h b).tells); knowledge = two a b }
    go (TellWhether g a b) = record { depth = omega (arith, (h a).depth, (h b).depth); tells = omega (arith, (h a).tells, (h b).tells); knowledge = Iff.trans (two a b) twice }

-- a record nests no more tells than it is deep
pub nests_few : (ms : List Measure) (r : Record) → Small 12 ms → (measure_of ms r).tells ≤ (measure_of ms r).depth
nests_few ms r h = go r.kind
  where
    go : (k : Kind) → (measure_of ms (record { kind = k })).tells ≤ (measure_of ms (record { kind = k })).depth
    go Top = omega arith
    go Bottom = omega arith
    go (Fact p) = omega arith
    go (Not a) = omega (arith, (h a).0)
    go (Binary c a b) = omega (arith, (h a).0, (h b).0)
    go (Knows i a) = omega (arith, (h a).0)
    go (KnowsWhether i a) = omega (arith, (h a).0)
    go (Shared g a) = omega (arith, (h a).0)
    go (SharedWhether g a) = omega (arith, (h a).0)
    go (Post a b) = omega (arith, (h a).0, (h b).0)
    go (PostWhether a b) = omega (arith, (h a).0, (h b).0)
    go (Tell g a b) = omega (arith, (h a).0, (h b).0)
    go (TellWhether g a b) = omega (arith, (h a).0, (h b).0)
