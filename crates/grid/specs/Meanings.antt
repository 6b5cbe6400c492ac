-- What a grid means is sound.
use Rattle.std.specs.Prelude.{◌≡◌, ℕ, zero, suc, ◌+◌, ◌*◌, ◌<◌, ◌≤◌, Bool, cond, List, refl}
use Rattle.std.proofs.Common.{ap, ◌∙◌, arith}
use Rattle.board.specs.Sheets.{State}
use Rattle.board.specs.Calls.{Sound}
use Rattle.grid.specs.Layout.{at, index, meaning_of}

-- a state's number reads only the places below the width
pub index_local : (w : ℕ) (s t : State) → ((p : ℕ) → p < w → s p ≡ t p) → index w s ≡ index w t
unfolding index
index_local zero s t same = refl
index_local (suc w) s t same =
    let head : s 0 ≡ t 0 = same 0 (omega arith) in
    let rest = index_local w (λ p. s (suc p)) (λ p. t (suc p)) (λ p lt. same (suc p) (omega arith)) in
    ap (λ (b : Bool). cond b 1 0 + 2 * index w (λ p. s (suc p))) head ∙ ap (λ (n : ℕ). cond (t 0) 1 0 + 2 * n) rest

-- what every board keeps
pub sound : (xs : List ℕ) (w : ℕ) → 1 ≤ w → w ≤ 12 → Sound (meaning_of xs w) (λ q. ⊥)
sound xs w some narrow = record {
  some_place = some;
  few_places = omega arith;
  sure_places = omega arith;
  local = λ i s t same. ap (at xs i) (index_local w s t same);
  free = λ q k w f x. x;
  roomy = λ q k w f x. x;
}
