-- How several calls end that are made in turn.
use Rattle.std.specs.Prelude.{◌≡◌, ◌⊎◌, List, [], ◌∷◌, Ok, Err, Result}
use Rattle.knowledge.specs.declared.fault.Fault.{Fault}
use Rattle.board.specs.declared.request.Request.{Request}
use Rattle.board.specs.Requests.{Meaning, after}
use Rattle.board.specs.Calls.{Rule, Done, Refused}

-- each request is done, up to the first that is refused
abbrev pub Performed : {B : Type 0} → (B → Meaning) → (B → Rule) → B → List Request → B → Result (Unit {0}) Fault → Type 0
Performed meaning fills b [] b' (Ok _) = b' ≡ b
Performed meaning fills b [] b' (Err e) = ⊥
Performed {B} meaning fills b (q ∷ qs) b' r = (c : B) × (
    (Done (meaning b) (fills b) q (meaning c) × Performed meaning fills c qs b' r)
    ⊎ (e : Fault) × Refused (meaning b) (fills b) q (meaning c) (fills c) e × (b' ≡ c) × (r ≡ Err e))

-- the meaning once all requests are done, the first of them first
abbrev pub after_all : Meaning → List Request → Meaning
after_all m [] = m
after_all m (q ∷ qs) = after_all (after m q) qs

-- requests that were all done leave this meaning
abbrev pub AllWritten : Meaning → List Request → Meaning → Result (Unit {0}) Fault → Type 0
AllWritten m qs m' (Ok _) = m' ≡ after_all m qs
AllWritten m qs m' (Err e) = Unit {0}
