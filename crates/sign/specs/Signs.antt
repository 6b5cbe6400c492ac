-- What a sign means, and how its calls that write end.
use Rattle.std.specs.Prelude.{◌≡◌, Ok, Err, Result, MatchOption}
use Rattle.knowledge.specs.declared.fault.Fault.{Fault}
use Rattle.board.specs.declared.request.Request.{Request}
use Rattle.board.specs.Requests.{written, Meaning}
use Rattle.board.specs.Calls.{Rule, Done, Refused}
use Rattle.sign.specs.declared.Sign.{Sign}
use Rattle.sign.specs.Marks.{with_mark, meaning_above, handed, new_mark, fills_above}

-- the meaning of a sign, by the meaning of the board below
abbrev pub meaning_of : {B : Type 0} → (B → Meaning) → Sign B → Meaning
meaning_of meaning b = meaning_above b.marks (meaning b.below)

-- the filling rule of a sign, by the rule of the board below
abbrev pub fills_of : {B : Type 0} → (B → Rule) → Sign B → Rule
fills_of fills b = fills_above b.marks (fills b.below)

-- How a call ends, from the sign b to the sign b': as on every board. Inside, the sheet written gets its new mark and
-- no other mark changes; the request that is handed down ends below as the call does, and where none is, the board below
-- stays as it is.
abbrev pub Layered : {A B : Type 0} → (B → Meaning) → (B → Rule) → Sign B → Request → Sign B → Result A Fault → Type 0
Layered meaning fills b q b' (Ok _) =
    Done (meaning_of meaning b) (fills_of fills b) q (meaning_of meaning b')
    × (b'.marks ≡ with_mark b.marks (written q) (new_mark b.marks q))
    × MatchOption (handed b.marks q) (b'.below ≡ b.below)
    (λ h. Done (meaning b.below) (fills b.below) h (meaning b'.below))
Layered meaning fills b q b' (Err e) =
    Refused (meaning_of meaning b) (fills_of fills b) q (meaning_of meaning b') (fills_of fills b') e
    × (b'.marks ≡ b.marks)
    × MatchOption (handed b.marks q) (b'.below ≡ b.below)
    (λ h. Refused (meaning b.below) (fills b.below) h (meaning b'.below) (fills b'.below) e)
