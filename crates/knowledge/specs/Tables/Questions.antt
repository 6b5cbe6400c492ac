-- How the questions end that are asked of a table: by an answer, or by the check's refusal.
use Rattle.std.specs.Prelude.{◌≡◌, ℕ, Bool, not, T, ◌↔◌, Some, None, Ok, Err, Option, Result}
use Rattle.knowledge.specs.declared.fault.Fault.{Fault}
use Rattle.knowledge.specs.declared.measure.Measure.{Measure}
use Rattle.knowledge.specs.Tables.Formulas.{Formula, MentionsKnowledge, tell_count}
use Rattle.knowledge.specs.Tables.Tables.{Table, formula, depth}

-- a measure tells the depth of a record, and of its formula the tell count and whether it mentions knowledge
pub record Gauge (f : Formula) (d : ℕ) (m : Measure) : Type 0 where
  pub depth : m.depth ≡ d
  pub tells : m.tells ≡ tell_count f
  pub knowledge : T m.knowledge ↔ MentionsKnowledge f

-- how the check of a table ends: by its refusal, or with what the table measures
abbrev pub Surveyed : Option Fault → Table → Result Measure Fault → Type 0
Surveyed verdict t (Ok m) = (verdict ≡ None) × Gauge (formula t) (depth t) m
Surveyed verdict t (Err f) = verdict ≡ Some f

-- whether a notice may change places: it may not exactly if it mentions knowledge
abbrev pub Movable : Option Fault → Table → Result Bool Fault → Type 0
Movable verdict t (Ok says) = (verdict ≡ None) × (T (not says) ↔ MentionsKnowledge (formula t))
Movable verdict t (Err f) = verdict ≡ Some f
