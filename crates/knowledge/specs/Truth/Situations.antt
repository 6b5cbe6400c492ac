-- The worlds of a matter, at its opening and after notices.
use Rattle.std.specs.Prelude.{◌≡◌, ℕ, T, List, [], ◌∷◌, slice_index_or}
use Rattle.knowledge.specs.Sets.{FactSet, Group, in_facts, no_facts, Within}
use Rattle.knowledge.specs.Tables.Formulas.{Formula, post, tell}
use Rattle.knowledge.specs.Tables.Tables.{Table, formula}
use Rattle.knowledge.specs.Truth.Truth.{World, start, copy, told, facts_of, Model, Classes, kept, copies, True}

-- what the matters of one plan share: how many facts there are, what each party sees of them, and the law
pub record Setting : Type 0 where
  pub facts : ℕ
  pub sights : List FactSet
  pub law : Table

-- what party i sees
abbrev pub sight : Setting → ℕ → FactSet
sight s i = slice_index_or s.sights i no_facts

-- two sets of facts agree on a sight: each fact of it is in both or in neither
abbrev pub Agree : FactSet → FactSet → FactSet → Type 0
Agree sight f r = (p : ℕ) → T (in_facts sight p) → in_facts f p ≡ in_facts r p

-- a model with no worlds: a law asks nothing of the model that it is read in
abbrev pub blank : Model
blank = record { present = λ _. ⊥; alike = λ _ _ _. ⊥ }

-- the facts satisfy the law
abbrev pub KeepsLaw : Setting → FactSet → Type 0
KeepsLaw s f = True (formula s.law) blank (start f)

-- a world of the start: a set of the plan's facts that satisfies the law
abbrev pub Lawful : Setting → World → Type 0
Lawful s (start f) = Within s.facts f × KeepsLaw s f
Lawful s (copy is_told w) = ⊥

-- the model at the start: a party cannot tell two worlds apart when they agree on its sight
abbrev pub starting : Setting → Model
starting s = record { present = Lawful s; alike = λ i w v. Agree (sight s i) (facts_of w) (facts_of v) }

-- a notice that was taken, posted to all or told to a group
pub data Notice : Type 0 where
  posted : Formula → Notice
  told_to : Group → Formula → Notice

-- what a notice says
abbrev pub content : Notice → Formula
content (posted a) = a
content (told_to g a) = a

-- a model with its actual world
pub record Situation : Type 1 where
  pub model : Model
  pub actual : World

-- the model is one of S5, and the actual world is one of its worlds, so that what a party knows is true
abbrev pub Sound : Situation → Type 0
Sound s = Classes s.model × s.model.present s.actual

-- the formula is true at the actual world
abbrev pub Holds : Situation → Formula → Type 0
Holds s a = True a s.model s.actual

-- what a notice that is taken makes of a situation
abbrev pub after : Situation → Notice → Situation
after s (posted a) = record { model = kept s.model (True a s.model); actual = s.actual }
after s (told_to g a) = record { model = copies s.model g (True a s.model); actual = told s.actual }

-- the situation after notices, the first first
abbrev pub after_all : Situation → List Notice → Situation
after_all s [] = s
after_all s (n ∷ ns) = after_all (after s n) ns

-- the situation of a matter that was opened with these facts
abbrev pub opened : Setting → FactSet → Situation
opened s f = record { model = starting s; actual = start f }

-- a notice put before a query
abbrev pub before : Notice → Formula → Formula
before (posted a) b = post a b
before (told_to g a) b = tell g a b

-- notices stacked before a query, the first outermost
abbrev pub stacked : List Notice → Formula → Formula
stacked [] b = b
stacked (n ∷ ns) b = before n (stacked ns b)
