-- The table of parties in a plan.
use Rattle.std.specs.Prelude.{◌≡◌, ℕ, ◌<◌, Bool, T, List, [], length, get_or, slice_index_or}
use Rattle.std.specs.List.{list_all}
use Rattle.knowledge.specs.declared.plan.Party.{Party}
use Rattle.knowledge.specs.Sets.{FactSet, no_facts, is_within}

-- the party at place k: it has the k-th sight, and past the last it sees nothing
abbrev pub seat : List FactSet → ℕ → Party
seat sights k = record { sight = slice_index_or sights k no_facts }

-- the eight parties that sights make
pub record Seated (sights : List FactSet) (parties : List Party) : Type 0 where
  pub eight : length parties ≡ 8
  pub each : (k : ℕ) → k < 8 → slice_index_or parties k (seat [] 0) ≡ seat sights k

-- no party sees a fact past n
abbrev pub Seen : ℕ → List Party → Type 0
Seen n parties = (k : ℕ) → k < 8 → T (is_within n (get_or parties k (seat [] 0)).sight)

-- whether no sight has a fact past n
abbrev pub all_within : ℕ → List FactSet → Bool
all_within n sights = list_all (is_within n) sights
