-- A sign is a board: a request to it, and the one that is handed down for it.
use Rattle.std.specs.Prelude.{◌≡◌, ℕ, Some, Option, IsSomeAnd}
use Rattle.std.proofs.Common.{arith, ap}
use Rattle.board.specs.declared.request.Request.{Request}
use Rattle.board.specs.Sheets.{State, Sheets}
use Rattle.board.specs.Requests.{result, PlaceKnown, Fits, Meaning}
use Rattle.board.specs.Calls.{Rule, Sound}
use Rattle.board.proofs.Layers.{Alike}
use Rattle.sign.specs.declared.marks.Marks.{Marks}
use Rattle.sign.specs.Marks.{mark_at, signed, marked, meaning_above, handed, new_mark, fills_above}
use Rattle.sign.specs.Codes.{recoded_up, recoded_small, joined_recoded}

-- what is handed down names the same sheets and places
pub alike : (w : ℕ) (ms : Marks) (q r : Request) → handed ms q ≡ Some r → Alike w r q
alike w ms q r is = record {
  sheet = grind arith;
  sheets = grind arith;
  place = grind (arith, recoded_up, recoded_small);
}

-- what is written below is, under the new mark, what the request writes above
pub result_above : (ms : Marks) (w : ℕ) (f : Sheets) (q r : Request) → handed ms q ≡ Some r → PlaceKnown w q
    → (s : State) → signed (new_mark ms q) (result f r s) ≡ result (marked ms f) q s
result_above ms w f q r is known s = grind (arith, joined_recoded)

-- what fits the sign fits the board below, as it is handed down
fits_below : (ms : Marks) (m : Meaning) (q r : Request) → handed ms q ≡ Some r → PlaceKnown m.width q
    → Fits m.sure (marked ms m.sheets) q → Fits m.sure m.sheets r
fits_below ms m q r is w fits = record {
  places = fits.places;
  few = fits.few;
  sheets_depend = λ i lt s t same. grind (arith, fits.sheets_depend i lt s t same);
  result_depends = λ s t same. grind (arith, fits.result_depends s t same, result_above ms m.width m.sheets q r is w);
}

-- what fills the sign was handed down, and fills the board below
fills_down : (F : Rule) (o : Option Request) → IsSomeAnd o F → (r : Request) × (o ≡ Some r) × F r
fills_down F o full = grind arith

-- a sign is a board
pub sound_above : (ms : Marks) (m : Meaning) (F : Rule) → Sound m F → Sound (meaning_above ms m) (fills_above ms F)
sound_above ms m F below = record {
  some_place = below.some_place;
  few_places = below.few_places;
  sure_places = below.sure_places;
  local = λ i s t same. ap (signed (mark_at ms i)) (below.local i s t same);
  free = λ q k w free full. grind (arith, below.free);
  roomy = λ q k w fits full.
      let (r, is, filled) = fills_down F (handed ms q) full in
      let a = alike m.width ms q r is in
      below.roomy r (a.sheets.1 k) (a.place.1 w) (fits_below ms m q r is w fits) filled;
}
