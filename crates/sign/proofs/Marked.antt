-- Sheets under marks.
use Rattle.std.proofs.Common.{◌≡◌, ℕ, ◌<◌, Bool, false, not, length, get_or, replicate, ap, arith}
use Rattle.std.proofs.Math.Path.{fun_ext}
use Rattle.std.proofs.lemmas.Grind.{common_steps}
use Rattle.board.specs.declared.request.Request.TheVariants.{Flip}
use Rattle.board.specs.Sheets.{Sheets, with_sheet}
use Rattle.board.specs.Requests.{Meaning, after}
use Rattle.sign.specs.declared.marks.Marks.{Marks}
use Rattle.sign.specs.Marks.{mark_at, with_mark, meaning_above}

-- what a board means with other sheets
abbrev pub with_sheets : Meaning → Sheets → Meaning
with_sheets m f = record { width = m.width; sure = m.sure; sheets = f }

-- a list of marks that are not set has none
pub none_marked : (n i : ℕ) → get_or (replicate n false) i false ≡ false
none_marked n i = grind (arith, common_steps)

-- without a mark all says what it says below
pub unmarked_same : (ms : Marks) → ((i : ℕ) → mark_at ms i ≡ false) → (m : Meaning) → meaning_above ms m ≡ m
unmarked_same ms none m = ap (with_sheets m) (fun_ext (λ i. fun_ext (λ s. grind (arith, none))))

-- a mark that is turned flips the sheet
pub flipped_above : (ms : Marks) (m : Meaning) (d : ℕ) (k : Bool) → d < length ms.by_sheet → k ≡ not (mark_at ms d)
    → meaning_above (with_mark ms d k) m ≡ after (meaning_above ms m) (Flip d)
unfolding with_sheet
flipped_above ms m d k lt turned =
    ap (with_sheets m) (fun_ext (λ i. fun_ext (λ s. grind (arith, common_steps))))
