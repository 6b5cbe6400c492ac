-- A request that a layer hands down as another, which names the same sheets and places.
use Rattle.std.proofs.Common.{◌≡◌, ℕ, ◌↔◌, arith}
use Rattle.knowledge.specs.declared.fault.Fault.{Fault}
use Rattle.board.specs.declared.request.Request.{Request}
use Rattle.board.specs.Requests.{Meaning, written, SheetsKnown, PlaceKnown}
use Rattle.board.specs.Calls.{Rule, Why}

-- the request below is refused for its sheets and places exactly where the one above is
pub record Alike (w : ℕ) (below above : Request) : Type 0 where
  pub sheet : written below ≡ written above
  pub sheets : SheetsKnown below ↔ SheetsKnown above
  pub place : PlaceKnown w below ↔ PlaceKnown w above

-- a refusal from below is the refusal above
pub why_up : {m n : Meaning} {below above : Rule} {q r : Request} {e : Fault} → m.width ≡ n.width → Alike m.width q r
    → (below q → above r) → Why m below q e → Why n above r e
why_up same a full why = grind (arith, full)
