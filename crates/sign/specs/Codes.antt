-- Codes of joins whose operands are marked.
use Rattle.std.specs.Prelude.{◌≡◌, ℕ, ◌<◌, ◌≤◌, Bool}
use Rattle.std.proofs.Common.{arith}
use Rattle.std.proofs.lemmas.Bool.Decides.{nat_tests}
use Rattle.board.specs.Requests.{joined}
use Rattle.sign.specs.Marks.{signed, code_of, recoded, RecodedJoins}

-- how a code joins two values under their marks
abbrev pub joined_under : Bool → Bool → ℕ → Bool → Bool → Bool
joined_under x y c a b = joined c (signed x a) (signed y b)

-- a code above 15 is left as it is
pub recoded_high : (x y : Bool) (c : ℕ) → 16 ≤ c → recoded x y c ≡ c
unfolding recoded
recoded_high x y c le = grind (arith, nat_tests)

-- a code below 16 becomes the code of what it does under the marks
pub recoded_low : (x y : Bool) (c : ℕ) → c < 16 → recoded x y c ≡ code_of (joined_under x y c)
unfolding recoded
recoded_low x y c lt = grind (arith, nat_tests)

-- only a code below 16 becomes one
pub recoded_up : (x y : Bool) (c : ℕ) → recoded x y c < 16 → c < 16
recoded_up x y c small = grind (arith, nat_tests, recoded_high)

-- the code of an operation is below 16
code_small : (op : Bool → Bool → Bool) → code_of op < 16
code_small op = grind (arith, nat_tests)

-- the code of an operation joins as the operation does
code_joins : (op : Bool → Bool → Bool) (a b : Bool) → joined (code_of op) a b ≡ op a b
code_joins op a b = grind (arith, nat_tests)

-- a code below 16 stays below
pub recoded_small : (x y : Bool) (c : ℕ) → c < 16 → recoded x y c < 16
recoded_small x y c lt = rw (recoded_low x y c lt) (code_small (joined_under x y c))

-- the recoded code joins the values below as the code joins them under the marks
pub joined_recoded : (x y : Bool) (c : ℕ) (a b : Bool) → c < 16
    → joined (recoded x y c) a b ≡ joined c (signed x a) (signed y b)
joined_recoded x y c a b lt = rw (recoded_low x y c lt) (code_joins (joined_under x y c) a b)

-- so recoding is right
pub recoded_right : RecodedJoins
recoded_right x y c lt = (recoded_small x y c lt, λ a b. joined_recoded x y c a b lt)
