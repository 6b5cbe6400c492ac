-- Worlds that match: a formula has one truth at them.
use Rattle.std.proofs.Common.{◌≡◌, ℕ, Bool, true, T, ◌↔◌, sym, subst}
use mathlib.Core.Logic.Iff
use mathlib.Mathlib.Logic.Basic.Iff as LogicIff
use Rattle.knowledge.specs.Sets.{Group, in_facts}
use Rattle.knowledge.specs.Tables.Formulas.{Formula, top, bottom, fact, not, binary, knows, shared, post, tell}
use Rattle.knowledge.specs.Truth.Truth.{World, start, copy, told, facts_of, Model, kept, Copied, Blurred, copies, Reached, here, step, Known, Shared, True}
use Rattle.knowledge.proofs.Logic.{joined_iff}

-- matched worlds have the same facts, and what a party takes for possible at one has a match at the other
pub record Bisim (m n : Model) (Z : World → World → Type 0) : Type 0 where
  pub forth : (i : ℕ) (w w' v : World) → Z w v → m.present w' → m.alike i w w' → (v' : World) × n.present v' × n.alike i v v' × Z w' v'
  pub back : (i : ℕ) (v v' w : World) → Z w v → n.present v' → n.alike i v v' → (w' : World) × m.present w' × m.alike i w w' × Z w' v'
  pub facts : (w v : World) → Z w v → facts_of w ≡ facts_of v

-- one property holds at a world exactly if the other holds at its match
abbrev pub Matched : (World → World → Type 0) → (World → Type 0) → (World → Type 0) → Type 0
Matched Z P Q = (w v : World) → Z w v → P w ↔ Q v

-- the match the other way round
turned : {m n : Model} {Z : World → World → Type 0} → Bisim m n Z → Bisim n m (λ v w. Z w v)
turned b = record {
  forth = λ i v v' w z. b.back i v v' w z;
  back = λ i w w' v z. b.forth i w w' v z;
  facts = λ v w z. sym (b.facts w v z);
}

-- worlds still match after a post of what matches
kept_bisim : {m n : Model} {Z : World → World → Type 0} (P Q : World → Type 0) → Bisim m n Z → Matched Z P Q → Bisim (kept m P) (kept n Q) Z
kept_bisim P Q b r = record {
  forth = λ i w w' v z p a. let f = b.forth i w w' v z p.0 a in (f.0, (f.1, (r w' f.0 f.3).0 p.1), f.2, f.3);
  back = λ i v v' w z p a. let f = b.back i v v' w z p.0 a in (f.0, (f.1, (r f.0 v' f.3).1 p.1), f.2, f.3);
  facts = b.facts;
}

-- copies match as their worlds do, told with told
data Lifted (Z : World → World → Type 0) : World → World → Type 0 where
  lifted : (is_told : Bool) (w v : World) → Z w v → Lifted Z (copy is_told w) (copy is_told v)

-- the match of copies the other way round
lifted_turned : {Z : World → World → Type 0} {w v : World} → Lifted Z w v → Lifted (λ y x. Z x y) v w
lifted_turned (lifted is_told w v z) = lifted is_told v w z

-- what a party takes for possible at a copy has a match at the copy's match
lifted_forth : {m n : Model} {Z : World → World → Type 0} (P Q : World → Type 0) → Bisim m n Z → ((w v : World) → Z w v → P w → Q v)
    → (g : Group) (i : ℕ) (w w' v : World) → Lifted Z w v → Copied m.present P w' → Blurred m.alike g i w w'
    → (v' : World) × Copied n.present Q v' × Blurred n.alike g i v v' × Lifted Z w' v'
lifted_forth P Q b r g i w (start f) v z p a = absurd p
lifted_forth P Q b r g i w (copy is_told' w') v (lifted is_told x y z) p a =
    let f = b.forth i x w' y z p.0 a.1 in
    (copy is_told' f.0, (f.1, λ t. r w' f.0 f.3 (p.1 t)), (a.0, f.2), lifted is_told' w' f.0 f.3)

-- matched copies have the same facts
lifted_facts : {m n : Model} {Z : World → World → Type 0} → Bisim m n Z → (w v : World) → Lifted Z w v → facts_of w ≡ facts_of v
lifted_facts b w v (lifted is_told x y z) = b.facts x y z

-- copies match after a tell of what matches
copies_bisim : {m n : Model} {Z : World → World → Type 0} (g : Group) (P Q : World → Type 0) → Bisim m n Z → Matched Z P Q
    → Bisim (copies m g P) (copies n g Q) (Lifted Z)
copies_bisim g P Q b r = record {
  forth = λ i w w' v z. lifted_forth P Q b (λ x y h. (r x y h).0) g i w w' v z;
  back = λ i v v' w z p a.
      let f = lifted_forth Q P (turned b) (λ y x h. (r x y h).1) g i v v' w (lifted_turned z) p a in (f.0, f.1, f.2, lifted_turned f.3);
  facts = lifted_facts b;
}

-- what is known at a world is known at its match
known_forth : {m n : Model} {Z : World → World → Type 0} (P Q : World → Type 0) → Bisim m n Z → Matched Z P Q
    → (i : ℕ) (w v : World) → Z w v → Known m i w P → Known n i v Q
known_forth P Q b r i w v z h v' p a = let f = b.back i v v' w z p a in (r f.0 v' f.3).0 (h f.0 f.1 f.2)

-- and the other way round
known_iff : {m n : Model} {Z : World → World → Type 0} (P Q : World → Type 0) → Bisim m n Z → Matched Z P Q
    → (i : ℕ) (w v : World) → Z w v → Known m i w P ↔ Known n i v Q
known_iff P Q b r i w v z = (known_forth P Q b r i w v z, known_forth Q P (turned b) (λ y x h. Iff.symm (r x y h)) i v w z)

-- what is reached from the match of a world has a match that is reached from the world
reached_back : {m n : Model} {Z : World → World → Type 0} → Bisim m n Z → (g : Group) (w v v' : World) → Z w v → Reached n g v v'
    → (w' : World) × Reached m g w w' × Z w' v'
reached_back b g w v v' z here = (w, here, z)
reached_back b g w v v' z (step i u x s t a p) =
    let f = reached_back b g w v u z s in
    let h = b.back i u x f.0 f.2 p a in
    (h.0, step i f.0 h.0 f.1 t h.2 h.1, h.3)

-- what is shared at a world is shared at its match
shared_forth : {m n : Model} {Z : World → World → Type 0} (P Q : World → Type 0) → Bisim m n Z → Matched Z P Q
    → (g : Group) (w v : World) → Z w v → Shared m g w P → Shared n g v Q
shared_forth P Q b r g w v z h v' s = let f = reached_back b g w v v' z s in (r f.0 v' f.2).0 (h f.0 f.1)

-- and the other way round
shared_iff : {m n : Model} {Z : World → World → Type 0} (P Q : World → Type 0) → Bisim m n Z → Matched Z P Q
    → (g : Group) (w v : World) → Z w v → Shared m g w P ↔ Shared n g v Q
shared_iff P Q b r g w v z = (shared_forth P Q b r g w v z, shared_forth Q P (turned b) (λ y x h. Iff.symm (r x y h)) g v w z)

-- a formula has one truth at matched worlds
pub invariant : (a : Formula) (m n : Model) (Z : World → World → Type 0) → Bisim m n Z → Matched Z (True a m) (True a n)
invariant top m n Z b w v z = Iff.rfl
invariant bottom m n Z b w v z = Iff.rfl
invariant (fact p) m n Z b w v z =
    let e = b.facts w v z in (subst (λ f. T (in_facts f p)) e, subst (λ f. T (in_facts f p)) (sym e))
invariant (not a) m n Z b w v z = Iff.not (invariant a m n Z b w v z)
invariant (binary c a d) m n Z b w v z = joined_iff c (invariant a m n Z b w v z) (invariant d m n Z b w v z)
invariant (knows i a) m n Z b w v z = known_iff (True a m) (True a n) b (invariant a m n Z b) i w v z
invariant (shared g a) m n Z b w v z = shared_iff (True a m) (True a n) b (invariant a m n Z b) g w v z
invariant (post a d) m n Z b w v z =
    let r : Matched Z (True a m) (True a n) = invariant a m n Z b in
    LogicIff.imp (r w v z) (invariant d (kept m (True a m)) (kept n (True a n)) Z (kept_bisim (True a m) (True a n) b r) w v z)
invariant (tell g a d) m n Z b w v z =
    let r : Matched Z (True a m) (True a n) = invariant a m n Z b in
    LogicIff.imp (r w v z)
    (invariant d (copies m g (True a m)) (copies n g (True a n)) (Lifted Z) (copies_bisim g (True a m) (True a n) b r) (told w) (told v) (lifted true w v z))
