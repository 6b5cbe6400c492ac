-- What is kept of the records of a table while it is checked.
use Rattle.std.specs.Prelude.{ℕ, ◌+◌, ◌≤◌, max, Bool, true, false, ◌||◌, List, get_or, Some, None, Option, slice_index, slice_index_or}
use Rattle.knowledge.specs.declared.measure.Measure.{Measure}
use Rattle.knowledge.specs.declared.table.Family.{Family}
use Rattle.knowledge.specs.declared.table.Family.TheVariants.{Boolean, Knowing, Posting, Telling}
use Rattle.knowledge.specs.declared.table.Record.{Record}
use Rattle.knowledge.specs.Tables.Formulas.{Formula, bottom}
use Rattle.knowledge.specs.Tables.Questions.{Gauge}
use Rattle.knowledge.specs.Tables.Tables.{children, pair, family}

-- what is not there measures nothing
abbrev pub unmeasured : Measure
unmeasured = record { depth = 0; tells = 0; knowledge = false }

-- what a child measures, if there is one and it is among these
abbrev pub child_of : List Measure → Option ℕ → Measure
child_of ms None = unmeasured
child_of ms (Some a) = slice_index_or ms a unmeasured

-- the tells that a record nests, by its first and second child's
abbrev pub nested : Family → ℕ → ℕ → ℕ
nested Boolean a b = max a b
nested Knowing a b = max a b
nested Posting a b = max a b
nested Telling a b = max a (b + 1)

-- whether a record mentions knowledge, by whether its children do
abbrev pub mentioned : Family → Bool → Bool
mentioned Boolean below = below
mentioned Knowing below = true
mentioned Posting below = below
mentioned Telling below = below

-- what a record measures, by its children
abbrev pub combined : Family → Measure → Measure → Measure
combined f a b = record {
  depth = 1 + max a.depth b.depth;
  tells = nested f a.tells b.tells;
  knowledge = mentioned f (a.knowledge || b.knowledge);
}

-- what a record measures that follows records with these measures
abbrev pub measure_of : List Measure → Record → Measure
measure_of ms r = combined (family r.kind) (child_of ms (pair (children r.kind)).0) (child_of ms (pair (children r.kind)).1)

-- each measure of a list tells its record's
abbrev pub Gauges : List Formula → List ℕ → List Measure → Type 0
Gauges fs ds ms = (k : ℕ) → Gauge (slice_index_or fs k bottom) (slice_index ds k) (slice_index_or ms k unmeasured)

-- no record is deeper than the limit, nor nests more tells than it is deep
abbrev pub Small : ℕ → List Measure → Type 0
Small limit ms = (k : ℕ) → ((get_or ms k unmeasured).tells ≤ (get_or ms k unmeasured).depth) × ((get_or ms k unmeasured).depth ≤ limit)
