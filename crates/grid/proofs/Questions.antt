-- What a grid's bytes answer, and what those of a new one say.
use Rattle.std.specs.Prelude.{◌≡◌, ℕ, zero, suc, ◌+◌, ◌*◌, ◌/◌, ◌%◌, ◌^◌, ◌<◌, ◌≤◌, Bool, true, false, ◌&&◌, List, length, replicate, nat_lt, slice_index, slice_index_or, refl, ◌≢◌}
use Rattle.std.proofs.Common.{sym, ap, ◌∙◌, ⊎_elim, mod-eq_of_lt, arith}
use Rattle.std.proofs.Math.Path.{fun_ext}
use Rattle.std.specs.List.{AllWithin, HoldsAt}
use Rattle.std.specs.Bool.{MatchBool}
use Rattle.std.proofs.lemmas.Bool.{cases_lt, false≢true}
use Rattle.knowledge.specs.Sets.{has}
use Rattle.knowledge.proofs.Bits.{has_zero}
use Rattle.board.specs.Sheets.{State, Sheets, state_of}
use Rattle.board.specs.Requests.{Meaning}
use Rattle.board.specs.Calls.{Everywhere}
use Rattle.grid.specs.Layout.{at, index, sheet, meaning_of, unwritten, Clean}
use Rattle.grid.specs.Pieces.{live}
use Rattle.grid.proofs.Octets.{byte_ext}
use Rattle.grid.proofs.Numbers.{index_lt, index_state}
use Rattle.grid.proofs.Fronts.{Held, at_byte, live_size, at_state, past_states}

-- a bit of a byte is what its sheet says at the state of a number
pub read_at : (xs : List ℕ) (w a n j : ℕ) → j ≡ n % 2 ^ w → has (slice_index xs (512 * a + j / 8)) (j % 8) ≡ sheet xs w a (state_of n)
unfolding at
read_at xs w a n j e = ap (λ (i : ℕ). has (slice_index xs (512 * a + i / 8)) (i % 8)) (e ∙ sym (index_state w n))

-- each byte of a list of zeros is 0
pub zeros : (xs : List ℕ) (n : ℕ) → xs ≡ replicate n 0 → (k : ℕ) → slice_index xs k ≡ 0
zeros xs n is k = ap (λ (ys : List ℕ). slice_index ys k) is ∙ each n k
  where
    each : (n k : ℕ) → slice_index_or {A = ℕ} (replicate n 0) k 0 ≡ 0
    each zero k = refl
    each (suc n) zero = refl
    each (suc n) (suc k) = each n k

-- bytes that are all 0 say no everywhere
pub zeros_say : (xs : List ℕ) (w : ℕ) → ((k : ℕ) → slice_index xs k ≡ 0) → meaning_of xs w ≡ unwritten w
unfolding at
zeros_say xs w zero_at =
    ap (λ (f : Sheets). let m : Meaning = record { width = w; sure = 12; sheets = f } in m)
    (fun_ext (λ i. fun_ext (λ s.
    ap (λ (y : ℕ). has y (index w s % 8)) (zero_at (512 * i + index w s / 8)) ∙ has_zero (index w s % 8))))

-- and none is set past the states
pub zeros_clean : (xs : List ℕ) (w : ℕ) → ((k : ℕ) → slice_index xs k ≡ 0) → Clean xs w
unfolding at
zeros_clean xs w zero_at i j past = ap (λ (y : ℕ). has y (j % 8)) (zero_at (512 * i + j / 8)) ∙ has_zero (j % 8)

-- the byte that says a value at each of its states
module _ (xs : List ℕ) (w a byte : ℕ) (v : Bool)
    (held : Held xs w) (wanted : (t : ℕ) → t < 8 → has byte t ≡ (v && nat_lt t (2 ^ w))) where
  -- live bytes that are all this one say the value at every state
  pub all_say : ((k : ℕ) → k < live w → slice_index xs (512 * a + k) ≡ byte) → (s : State) → sheet xs w a s ≡ v
  all_say same s =
      let j = index w s in
      let lt : index w s < 2 ^ w = index_lt w s in
      let whole : 8 * (j / 8) + j % 8 ≡ j = omega arith in
      let inside : index w s / 8 < live w = omega (arith, live_size w) in
      ap (at xs a) (sym whole)
      ∙ at_byte xs a (j / 8) (j % 8) (omega arith)
      ∙ ap (λ (y : ℕ). has y (j % 8)) (same (j / 8) inside)
      ∙ at_state v w (j % 8) (wanted (j % 8) (omega arith)) (omega arith)

  -- and where they say the value at every state, they have its bits
  pub say_all : ((s : State) → sheet xs w a s ≡ v) → (k t : ℕ) → k < live w → t < 8 → has (slice_index xs (512 * a + k)) t ≡ has byte t
  say_all says k t lt tl =
      sym (at_byte xs a k t tl) ∙ ⊎_elim inside outside (cases_lt (8 * k + t) (2 ^ w))
    where
      inside : 8 * k + t < 2 ^ w → at xs a (8 * k + t) ≡ has byte t
      inside h =
          let number : index w (state_of (8 * k + t)) ≡ 8 * k + t = index_state w (8 * k + t) ∙ mod-eq_of_lt h in
          ap (at xs a) (sym number) ∙ says (state_of (8 * k + t)) ∙ sym (at_state v w t (wanted t tl) (omega arith))

      outside : 2 ^ w ≤ 8 * k + t → at xs a (8 * k + t) ≡ has byte t
      outside h =
          let first : k ≡ 0 = omega (arith, live_size w) in
          held.clean a (8 * k + t) (h, omega arith) ∙ sym (past_states v w t (wanted t tl) (omega arith))

  -- whether the live bytes are all this one says whether the value is said at every state
  pub all_answer : (ys : List ℕ) (r : Bool) → ((k : ℕ) → k < live w → slice_index ys k ≡ slice_index xs (512 * a + k))
      → length ys ≡ live w
      → byte < 256
      → MatchBool r (AllWithin (λ x. x ≡ byte) ys 0 (length ys)) ((k : ℕ) × (k < length ys) × HoldsAt (λ x. (x ≢ byte) × (x < 256)) ys k)
      → Everywhere v (sheet xs w a) r
  all_answer ys true part size small found =
      ((λ yes. all_say (λ k lt. sym (part k lt) ∙ found k 0 (omega arith) (omega arith))), (λ says. refl))
  all_answer ys false part size small (k, lt, other) =
      let is = part k (omega arith) in (
        (λ yes. absurd (false≢true yes)),
        (λ says. absurd ((other 0).0 (byte_ext (slice_index ys k) byte (other 0).1 small
            (λ t tl. ap (λ (x : ℕ). has x t) is ∙ say_all says k t (omega arith) tl)))),
      )
