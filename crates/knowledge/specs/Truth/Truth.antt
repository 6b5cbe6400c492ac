-- What it means that a formula is true.
use Rattle.std.specs.Prelude.{◌≡◌, ℕ, Bool, true, T, ◌⊎◌}
use Rattle.knowledge.specs.declared.table.Connective.{Connective}
use Rattle.knowledge.specs.declared.table.Connective.TheVariants.{And, Or, Xor, Implies, Iff}
use Rattle.knowledge.specs.Sets.{FactSet, Group, in_facts, in_group}
use Rattle.knowledge.specs.Tables.Formulas.{Formula, top, bottom, fact, not, binary, knows, shared, post, tell}

-- A world: a set of facts, or a copy of a world that a notice to a group made, told or untold.
pub data World : Type 0 where
  start : FactSet → World
  copy : Bool → World → World

-- the told copy of a world
abbrev pub told : World → World
told w = copy true w

-- the facts of a world, which its copies share
abbrev pub facts_of : World → FactSet
facts_of (start f) = f
facts_of (copy is_told w) = facts_of w

-- An explicit S5 model: which worlds there are, and which two a party cannot tell apart.
pub record Model : Type 1 where
  pub present : World → Type 0
  pub alike : ℕ → World → World → Type 0

-- What a party cannot tell apart makes classes of worlds, which is what S5 asks.
pub record Classes (m : Model) : Type 0 where
  pub same : (i : ℕ) (w : World) → m.present w → m.alike i w w
  pub turn : (i : ℕ) (w v : World) → m.alike i w v → m.alike i v w
  pub join : (i : ℕ) (w v u : World) → m.alike i w v → m.alike i v u → m.alike i w u

-- only the worlds where a is true are kept
abbrev pub kept : Model → (World → Type 0) → Model
kept m a = record { present = λ w. m.present w × a w; alike = m.alike }

-- Each world where a is true gets a told copy, and every world gets an untold copy.
abbrev pub Copied : (World → Type 0) → (World → Type 0) → World → Type 0
Copied present a (start f) = ⊥
Copied present a (copy is_told w) = present w × (T is_told → a w)

-- Only members of the group tell told copies from untold ones; otherwise copies are told apart as their worlds were.
abbrev pub Blurred : (ℕ → World → World → Type 0) → Group → ℕ → World → World → Type 0
Blurred alike group i (start f) v = ⊥
Blurred alike group i (copy is_told w) (start f) = ⊥
Blurred alike group i (copy is_told w) (copy is_told' v) = (T (in_group group i) → is_told ≡ is_told') × alike i w v

-- the model after a notice of a to a group
abbrev pub copies : Model → Group → (World → Type 0) → Model
copies m group a = record { present = Copied m.present a; alike = Blurred m.alike group }

-- v is reached from w by zero or more steps, each to a world that some member of the group cannot tell from the last
pub data Reached (m : Model) (group : Group) (w : World) : World → Type 0 where
  here : Reached m group w w
  step : (i : ℕ) (u v : World) → Reached m group w u → T (in_group group i) → m.alike i u v → m.present v → Reached m group w v

-- a is true in every world that party i cannot tell from w
abbrev pub Known : Model → ℕ → World → (World → Type 0) → Type 0
Known m i w a = (v : World) → m.present v → m.alike i w v → a v

-- a is true in every world that the group's steps reach from w
abbrev pub Shared : Model → Group → World → (World → Type 0) → Type 0
Shared m group w a = (v : World) → Reached m group w v → a v

-- a joined with b
abbrev pub Joined : Connective → Type 0 → Type 0 → Type 0
Joined And a b = a × b
Joined Or a b = a ⊎ b
Joined Xor a b = (a × ¬ b) ⊎ (¬ a × b)
Joined Implies a b = a → b
Joined Iff a b = (a → b) × (b → a)

-- the formula is true at a world of the model
abbrev pub True : Formula → Model → World → Type 0
True top m w = Unit {0}
True bottom m w = ⊥
True (fact p) m w = T (in_facts (facts_of w) p)
True (not a) m w = ¬ True a m w
True (binary c a b) m w = Joined c (True a m w) (True b m w)
True (knows i a) m w = Known m i w (True a m)
True (shared g a) m w = Shared m g w (True a m)
True (post a b) m w = True a m w → True b (kept m (True a m)) w
True (tell g a b) m w = True a m w → True b (copies m g (True a m)) (told w)
