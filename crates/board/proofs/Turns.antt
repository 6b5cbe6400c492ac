-- Requests that are made in turn.
use Rattle.std.proofs.Common.{◌≡◌, ℕ, ◌+◌, ◌<◌, ◌≤◌, List, [], ◌∷◌, ◌++◌, length, get_or, take, drop, Ok, Err, Result, refl, ap, subst, inl, inr, add-one}
use Rattle.std.proofs.Math.Seq.{drop-cons}
use Rattle.std.proofs.lemmas.List.{take_more, take_all, take-append-drop}
use Rattle.knowledge.specs.declared.fault.Fault.{Fault}
use Rattle.board.specs.declared.request.Request.{Request}
use Rattle.board.specs.Requests.{Meaning}
use Rattle.board.specs.Calls.{Rule, Done, Refused}
use Rattle.board.specs.Turns.{Performed, after_all, AllWritten}

module _ {B : Type 0} (meaning : B → Meaning) (fills : B → Rule) where
  -- requests that are made once others were all done
  performed-append : (b : B) (qs rs : List Request) (c b' : B) (r : Result (Unit {0}) Fault)
      → Performed meaning fills b qs c (Ok tt) → Performed meaning fills c rs b' r
      → Performed meaning fills b (qs ++ rs) b' r
  performed-append b [] rs c b' r same rest = rw (← same) rest
  performed-append b (q ∷ qs) rs c b' r (d, inl (done, first)) rest =
      (d, inl (done, performed-append d qs rs c b' r first rest))
  performed-append b (q ∷ qs) rs c b' r (d, inr (e, refused, last, err)) rest = cc

  -- one more request is done
  pub one_done : (b : B) (qs : List Request) (k : ℕ) (c c' : B) (q : Request) → k < length qs
      → Performed meaning fills b (take k qs) c (Ok tt)
      → Done (meaning c) (fills c) (get_or qs k q) (meaning c')
      → Performed meaning fills b (take (k + 1) qs) c' (Ok tt)
  one_done b qs k c c' q inside first done =
      rw (take_more qs k q inside)
      (performed-append b (take k qs) (get_or qs k q ∷ []) c c' (Ok tt) first (c', inl (done, refl)))

  -- the next request is refused
  pub one_refused : (b : B) (qs : List Request) (k : ℕ) (c c' : B) (q : Request) (e : Fault) → k < length qs
      → Performed meaning fills b (take k qs) c (Ok tt)
      → Refused (meaning c) (fills c) (get_or qs k q) (meaning c') (fills c') e
      → Performed meaning fills b qs c' (Err e)
  one_refused b qs k c c' q e inside first refused =
      let rest = get_or qs k q ∷ drop (k + 1) qs in
      let parts : take k qs ++ rest ≡ qs = rw (add-one, ← drop-cons qs k q inside) (take-append-drop k qs) in
      subst (λ (rs : List Request). Performed meaning fills b rs c' (Err e)) parts
      (performed-append b (take k qs) rest c c' (Err e) first (c', inr (e, refused, refl, refl)))

  -- requests that were all done leave the meaning after all of them
  pub all_written : (b : B) (qs : List Request) (c : B) (r : Result (Unit {0}) Fault)
      → Performed meaning fills b qs c r → AllWritten (meaning b) qs (meaning c) r
  all_written b [] c (Ok _) same = ap meaning same
  all_written b (q ∷ qs) c (Ok x) (d, inl (done, rest)) = rw (← done.wrote) (all_written d qs c (Ok x) rest)
  all_written b (q ∷ qs) c (Ok x) (d, inr (e, refused, last, err)) = cc
  all_written b qs c (Err e) h = tt

  -- no request is left
  pub all_done : (b : B) (qs : List Request) (k : ℕ) (c : B) → length qs ≤ k
      → Performed meaning fills b (take k qs) c (Ok tt) → meaning c ≡ after_all (meaning b) qs
  all_done b qs k c past first = all_written b qs c (Ok tt) (rw (take_all k qs past) at first)

-- the steps of a run of requests, and its end
pub ruleset in_turn = (one_done, one_refused, all_done)
