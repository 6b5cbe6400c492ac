-- A grid whose block was given new live bytes.
use Rattle.std.proofs.Common.{◌∙◌, ◌≡◌, ℕ, ◌+◌, ◌*◌, ◌^◌, ◌<◌, ◌≤◌, Bool, ◌⊎◌, List, length, slice_index, vec_items, sym, subst, inl, inr, ⊎_elim, arith, pow_mono}
use Rattle.std.proofs.Math.Path.{ap, fun_ext}
use Rattle.std.specs.Vec.{with_items}
use Rattle.std.proofs.lemmas.Bool.{cases_lt}
use Rattle.std.proofs.lemmas.List.{places, with_items_is}
use borrow.Rule.Slice.PartMut.{put_mid}
use Rattle.board.specs.Sheets.{State, Function}
use Rattle.grid.specs.declared.Grid.{Grid}
use Rattle.grid.specs.Layout.{index, meaning_of}
use Rattle.grid.specs.Pieces.{live, writing}
use Rattle.grid.specs.Grids.{meaning, Rewrote}
use Rattle.grid.proofs.Fronts.{Held, Front, Bare, Says, block, live_size, held_again, means_then}

-- a grid's bytes are held
pub held : (g : Grid) → Held (vec_items g.bytes) g.width
held g = record { size = g.whole; narrow = g.narrow; clean = g.clean }

-- a slice that a grid's vector lends gives its bytes back
pub given_back : (g : Grid) (ys : List ℕ) → length ys ≡ 32768 → vec_items (with_items g.bytes ys) ≡ ys
given_back g ys size = let whole = g.whole in let len = g.bytes.ok.0 in with_items_is g.bytes ys (omega arith)

module _ (g : Grid) {ys : List ℕ} {d m : ℕ} (h : Front (vec_items g.bytes) ys g.width d m) (all : m ≡ live g.width) where
  -- they are held again
  pub held_after : Held (vec_items (with_items g.bytes ys)) g.width
  held_after = subst (λ (zs : List ℕ). Held zs g.width) (sym (given_back g ys h.size)) (held_again h (held g) all)

  -- and mean what was written
  pub means_after : (f : ℕ → Bool) (k : Function) → Says (block ys d) g.width m f → ((s : State) → f (index g.width s) ≡ k s)
      → meaning_of (vec_items (with_items g.bytes ys)) g.width ≡ writing (meaning g) d k
  means_after f k says is =
      ap (λ (zs : List ℕ). meaning_of zs g.width) (given_back g ys h.size) ∙ means_then h (held g) all f says k is

-- a part of a slice replaced
module _ (xs ys : List ℕ) (d start n : ℕ) (size : length xs ≡ 32768) (whole : length ys ≡ n)
    (here : start ≡ 512 * d) (room : start + n ≤ 32768) where
  -- the new bytes
  inside : (k : ℕ) → k < n → block (put_mid start n xs ys) d k ≡ slice_index ys k
  inside k lt = grind (arith, places)

  -- the bytes before and past them
  outside : (m : ℕ) → (m < 512 * d) ⊎ (512 * d + n ≤ m) → slice_index (put_mid start n xs ys) m ≡ slice_index xs m
  outside m out = grind (arith, places)

  -- no byte more
  same_size : length (put_mid start n xs ys) ≡ 32768
  same_size = grind (arith, places)

  -- so the block is done
  replaced : (w : ℕ) → n ≤ 512 → Bare (slice_index ys) w n → Front xs (put_mid start n xs ys) w d n
  replaced w few bare = record {
    size = same_size;
    others = λ i k ne lt. ⊎_elim
        (λ (before : i < d). outside (512 * i + k) (inl (omega arith)))
        (λ (le : d ≤ i). outside (512 * i + k) (inr (omega (arith, ne))))
        (cases_lt i d);
    rest = λ k le. outside (512 * d + k) (inr (omega arith));
    bare = λ k t lt tl out. rw (inside k lt) (bare k t lt tl out);
  }

  -- and says what its new bytes say
  replaced_says : (w : ℕ) (f : ℕ → Bool) → Says (slice_index ys) w n f → Says (block (put_mid start n xs ys) d) w n f
  replaced_says w f says k t lt tl seen = rw (inside k lt) (says k t lt tl seen)

-- new live bytes of a grid's block
module _ (g : Grid) (ys : List ℕ) (d start n : ℕ) (whole : length ys ≡ n) (here : start ≡ 512 * d)
    (all : n ≡ live g.width) (known : d < 64) (bare : Bare (slice_index ys) g.width n) where
  done : Front (vec_items g.bytes) (put_mid start n (vec_items g.bytes) ys) g.width d n
  done =
      let narrow = g.narrow in
      let most : 2 ^ g.width ≤ 4096 = pow_mono narrow in
      let few : n ≤ 512 = omega (arith, live_size g.width) in
      replaced (vec_items g.bytes) ys d start n g.whole whole here (omega arith) g.width few bare

  -- they are held again
  pub part_held : {xs : List ℕ} → xs ≡ vec_items g.bytes → Held (vec_items (with_items g.bytes (put_mid start n xs ys))) g.width
  part_held {xs} is = rw is (held_after g done all)

  -- and mean what was written
  pub part_means : {xs : List ℕ} → xs ≡ vec_items g.bytes → (f : ℕ → Bool) (k : Function) → Says (slice_index ys) g.width n f
      → ((s : State) → f (index g.width s) ≡ k s)
      → meaning_of (vec_items (with_items g.bytes (put_mid start n xs ys))) g.width ≡ writing (meaning g) d k
  part_means {xs} is f k says same =
      let size = g.whole in let narrow = g.narrow in
      let most : 2 ^ g.width ≤ 4096 = pow_mono narrow in
      let room : start + n ≤ 32768 = omega (arith, live_size g.width) in
      rw is (means_after g done all f k (replaced_says (vec_items g.bytes) ys d start n g.whole whole here room g.width f says) same)

-- the same function in other words, of any bytes
pub stored_in_words : (xs : List ℕ) {ys : List ℕ} {w : ℕ} (d : ℕ) {f : Function} (g : Function)
    → Held ys w × (meaning_of ys w ≡ writing (meaning_of xs w) d f) → ((s : State) → f s ≡ g s)
    → Held ys w × (meaning_of ys w ≡ writing (meaning_of xs w) d g)
stored_in_words xs {ys} {w} d g did same =
    subst (λ (f : Function). Held ys w × (meaning_of ys w ≡ writing (meaning_of xs w) d f)) (fun_ext same) did

-- and of a grid
pub in_words : (g : Grid) (d : ℕ) {f : Function} (k : Function) (h : Grid) → Rewrote g d f h → ((s : State) → f s ≡ k s) → Rewrote g d k h
in_words g d k h did same = subst (λ (f : Function). Rewrote g d f h) (fun_ext same) did
