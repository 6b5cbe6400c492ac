-- Marks on values, on sheets and on what is handed down.
use Rattle.std.proofs.Common.{◌≡◌, ℕ, ◌<◌, ◌==◌, Bool, cond, not, length, Some, None, Option, IsSomeAnd, refl, arith}
use Rattle.std.proofs.Math.Path.{fun_ext}
use Rattle.std.proofs.lemmas.Grind.{common_steps}
use Rattle.board.specs.declared.request.Quantifier.{Quantifier}
use Rattle.board.specs.declared.request.Request.{Request}
use Rattle.board.specs.Sheets.{Function, Sheets, with_sheet}
use Rattle.board.specs.Requests.{written, over, SheetsKnown}
use Rattle.board.specs.Calls.{Rule}
use Rattle.board.proofs.Layers.{Alike}
use Rattle.sign.specs.declared.marks.Marks.{Marks}
use Rattle.sign.specs.Marks.{mark_at, with_mark, signed, marked, exchanged, handed}
use Rattle.sign.specs.Layer.{alike}

-- a mark given twice is none
pub twice : (m x : Bool) → signed m (signed m x) ≡ x
twice m x = grind arith

-- values that are the same under a mark are the same
pub unsigned : (m x y : Bool) → signed m x ≡ signed m y → x ≡ y
unsigned m x y same = grind arith

-- a value under the opposite mark is the opposite
pub opposite : (m x : Bool) → signed (not m) x ≡ not (signed m x)
opposite m x = grind arith

-- what the exchanged quantifier says of two values, under a mark, is what the quantifier says of them under it
pub over_signed : (m : Bool) (k : Quantifier) (x y : Bool) → signed m (over (exchanged m k) x y) ≡ over k (signed m x) (signed m y)
over_signed m k x y = grind arith

-- a mark that was set stands at its sheet, and the others as before
pub mark_set : (ms : Marks) (d : ℕ) (k : Bool) → d < length ms.by_sheet → (i : ℕ) → mark_at (with_mark ms d k) i ≡ cond (i == d) k (mark_at ms i)
mark_set ms d k lt i = grind (arith, common_steps)

-- a sheet written below and given its mark is written above
pub sheets_above : (ms : Marks) (f : Sheets) (d : ℕ) (k : Bool) (g : Function) → d < length ms.by_sheet
    → marked (with_mark ms d k) (with_sheet f d g) ≡ with_sheet (marked ms f) d (λ s. signed k (g s))
unfolding with_sheet
sheets_above ms f d k g lt = fun_ext (λ i. fun_ext (λ s. grind (arith, common_steps)))

-- sheets with one replaced by itself are as they were
pub unchanged : (f : Sheets) (d : ℕ) → with_sheet f d (f d) ≡ f
unfolding with_sheet
unchanged f d = fun_ext (λ i. fun_ext (λ s. grind (arith, common_steps)))

-- a request names what it names itself
pub itself : (w : ℕ) (q : Request) → Alike w q q
itself w q = record { sheet = refl; sheets = ((λ k. k), (λ k. k)); place = ((λ k. k), (λ k. k)) }

-- the request that is handed down writes the same sheet
pub written_alike : (ms : Marks) (q r : Request) → handed ms q ≡ Some r → written r ≡ written q
written_alike ms q r is = (alike 0 ms q r is).sheet

-- the sheet written is one that is named
pub written_known : (q : Request) → SheetsKnown q → written q < 64
written_known q known = grind arith

-- a rule that finds the request below full finds the one above full
pub fills_up : (F : Rule) (o : Option Request) (r : Request) → o ≡ Some r → F r → IsSomeAnd o F
fills_up F o r is full = rw is full

-- a rule that refuses more refuses more above
pub fills_like : (F G : Rule) → ((q : Request) → F q → G q) → (o : Option Request) → IsSomeAnd o F → IsSomeAnd o G
fills_like F G more (Some r) full = more r full
fills_like F G more None full = full
