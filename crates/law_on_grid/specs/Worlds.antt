-- The law of the sample matter, on a sheet of a board.
use Rattle.std.specs.Prelude.{◌≡◌, true, ◌↔◌, List, [], ◌∷◌}
use Rattle.knowledge.specs.Sets.{FactSet}
use Rattle.knowledge.specs.Truth.Situations.{KeepsLaw}
use Rattle.knowledge.specs.Truth.Verdicts.{either_of_two}
use Rattle.board.specs.declared.request.Request.{Request}
use Rattle.board.specs.declared.request.Request.TheVariants.{Atom, Join}
use Rattle.board.specs.Sheets.{state_of}
use Rattle.board.specs.Requests.{Meaning}
use Rattle.board.specs.Turns.{after_all}

-- the calls that write the law (1|2) into sheet 0: fact p is place p − 1, and 14 is the code of or
abbrev pub law_calls : List Request
law_calls = Atom 1 0 ∷ (Atom 2 1 ∷ (Join 0 1 2 14 ∷ []))

-- on every board, sheet 0 then says yes exactly at the sets of facts that keep the law of the sample matter
abbrev pub WritesLaw : List Request → Type 0
WritesLaw calls = (m : Meaning) (s : FactSet) → ((after_all m calls).sheets 0 (state_of s.bits) ≡ true) ↔ KeepsLaw either_of_two s
