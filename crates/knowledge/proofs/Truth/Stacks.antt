-- Notices before a query, and which of them may change places.
use Rattle.std.proofs.Common.{◌≡◌, ℕ, Bool, true, T, ◌↔◌, List, [], ◌∷◌, ◌++◌, sym, refl, ap, ◌∙◌, subst, inl, inr}
use mathlib.Core.Logic.Iff
use mathlib.Mathlib.Logic.Basic.Iff as LogicIff
use Rattle.knowledge.specs.Sets.{Group, in_facts}
use Rattle.knowledge.specs.Lists.{Each}
use Rattle.knowledge.specs.Tables.Formulas.{Formula, top, bottom, fact, not, binary, knows, shared, post, tell, MentionsKnowledge}
use Rattle.knowledge.specs.Truth.Truth.{World, start, copy, told, facts_of, Model, kept, copies, True}
use Rattle.knowledge.specs.Truth.Situations.{Notice, posted, told_to, content, Situation, Holds, after, after_all, before, stacked}
use Rattle.knowledge.proofs.Logic.{joined_iff}
use Rattle.knowledge.proofs.Truth.Invariance.{Bisim, invariant}

-- the formula does not mention knowledge
abbrev pub Silent : Formula → Type 0
Silent a = ¬ MentionsKnowledge a

-- a formula that does not mention knowledge says the same of two worlds with the same facts, whatever their models
pub facts_decide : (a : Formula) → Silent a → (m n : Model) (w v : World) → facts_of w ≡ facts_of v → True a m w ↔ True a n v
facts_decide top h m n w v e = Iff.rfl
facts_decide bottom h m n w v e = Iff.rfl
facts_decide (fact p) h m n w v e = (subst (λ f. T (in_facts f p)) e, subst (λ f. T (in_facts f p)) (sym e))
facts_decide (not a) h m n w v e = Iff.not (facts_decide a h m n w v e)
facts_decide (binary c a b) h m n w v e = joined_iff c (facts_decide a (λ k. h (inl k)) m n w v e) (facts_decide b (λ k. h (inr k)) m n w v e)
facts_decide (knows i a) h m n w v e = absurd (h tt)
facts_decide (shared g a) h m n w v e = absurd (h tt)
facts_decide (post a b) h m n w v e =
    LogicIff.imp (facts_decide a (λ k. h (inl k)) m n w v e)
    (facts_decide b (λ k. h (inr k)) (kept m (True a m)) (kept n (True a n)) w v e)
facts_decide (tell g a b) h m n w v e =
    LogicIff.imp (facts_decide a (λ k. h (inl k)) m n w v e)
    (facts_decide b (λ k. h (inr k)) (copies m g (True a m)) (copies n g (True a n)) (told w) (told v) e)

-- each world is matched with itself
data Same : World → World → Type 0 where
  same : (w : World) → Same w w

-- what is possible in one model is possible in the other, at each world itself
same_forth : (m n : Model) → ((w : World) → m.present w → n.present w) → ((i : ℕ) (w v : World) → m.alike i w v → n.alike i w v)
    → (i : ℕ) (w w' v : World) → Same w v → m.present w' → m.alike i w w' → (v' : World) × n.present v' × n.alike i v v' × Same w' v'
same_forth m n f g i w w' v (same x) p a = (w', f w' p, g i x w' a, same w')

-- and the other way round
same_back : (m n : Model) → ((w : World) → n.present w → m.present w) → ((i : ℕ) (w v : World) → n.alike i w v → m.alike i w v)
    → (i : ℕ) (v v' w : World) → Same w v → n.present v' → n.alike i v v' → (w' : World) × m.present w' × m.alike i w w' × Same w' v'
same_back m n f g i v v' w (same x) p a = (v', f v' p, g i x v' a, same v')

-- a world has the facts that it has
same_facts : (w v : World) → Same w v → facts_of w ≡ facts_of v
same_facts w v (same x) = refl

-- two models with the same worlds, told apart alike
same_bisim : (m n : Model) → ((w : World) → m.present w ↔ n.present w) → ((i : ℕ) (w v : World) → m.alike i w v ↔ n.alike i w v) → Bisim m n Same
same_bisim m n f g = record {
  forth = same_forth m n (λ w. (f w).0) (λ i w v. (g i w v).0);
  back = same_back m n (λ w. (f w).1) (λ i w v. (g i w v).1);
  facts = same_facts;
}

-- a copy of a copy is matched with the copy made in the other order
data Crossed : World → World → Type 0 where
  crossed : (x y : Bool) (w : World) → Crossed (copy x (copy y w)) (copy y (copy x w))

-- the match of copies of copies the other way round
crossed_turned : {w v : World} → Crossed w v → Crossed v w
crossed_turned (crossed x y w) = crossed y x w

-- copies of copies have the facts of their worlds
crossed_facts : (w v : World) → Crossed w v → facts_of w ≡ facts_of v
crossed_facts w v (crossed x y u) = refl

-- a property of worlds that a property of their copies repeats
abbrev Repeats : (World → Type 0) → (World → Type 0) → Type 0
Repeats P P' = (x : Bool) (w : World) → P w ↔ P' (copy x w)

-- what is possible at a copy of a copy is possible at the copy made in the other order
crossed_forth : (m : Model) (g h : Group) (P P' Q Q' : World → Type 0) → Repeats P P' → Repeats Q Q'
    → (i : ℕ) (w w' v : World) → Crossed w v → (copies (copies m g P) h Q').present w' → (copies (copies m g P) h Q').alike i w w'
    → (v' : World) × (copies (copies m h Q) g P').present v' × (copies (copies m h Q) g P').alike i v v' × Crossed w' v'
crossed_forth m g h P P' Q Q' rp rq i w (start f) v c p a = absurd p
crossed_forth m g h P P' Q Q' rp rq i w (copy x' (start f)) v c p a = absurd p.0
crossed_forth m g h P P' Q Q' rp rq i w (copy x' (copy y' w')) v (crossed x y u) p a = (
  copy y' (copy x' w'),
  ((p.0.0, λ t. (rq y' w').1 (p.1 t)), λ t. (rp x' w').0 (p.0.1 t)),
  (a.1.0, (a.0, a.1.1)),
  crossed x' y' w',
)

-- two tells in either order make matching copies
crossed_bisim : (m : Model) (g h : Group) (P P' Q Q' : World → Type 0) → Repeats P P' → Repeats Q Q'
    → Bisim (copies (copies m g P) h Q') (copies (copies m h Q) g P') Crossed
crossed_bisim m g h P P' Q Q' rp rq = record {
  forth = crossed_forth m g h P P' Q Q' rp rq;
  back = λ i v v' w z p a. let f = crossed_forth m h g Q Q' P P' rq rp i v v' w (crossed_turned z) p a in
      (f.0, f.1, f.2, crossed_turned f.3);
  facts = crossed_facts;
}

-- the two formulas are true at the same worlds of every model
abbrev pub Equivalent : Formula → Formula → Type 1
Equivalent a b = (m : Model) (w : World) → True a m w ↔ True b m w

-- a notice may be put before either of two equivalent formulas
pub before_equivalent : (n : Notice) (a b : Formula) → Equivalent a b → Equivalent (before n a) (before n b)
before_equivalent (posted c) a b e m w = LogicIff.imp Iff.rfl (e (kept m (True c m)) w)
before_equivalent (told_to g c) a b e m w = LogicIff.imp Iff.rfl (e (copies m g (True c m)) (told w))

-- and so may notices
pub stacked_equivalent : (ns : List Notice) (a b : Formula) → Equivalent a b → Equivalent (stacked ns a) (stacked ns b)
stacked_equivalent [] a b e = e
stacked_equivalent (n ∷ ns) a b e = before_equivalent n (stacked ns a) (stacked ns b) (stacked_equivalent ns a b e)

-- two conditions in either order
exchanged : {A A' B B' C C' : Type 0} → A ↔ A' → B ↔ B' → C ↔ C' → (A → B → C) ↔ (B' → A' → C')
exchanged e f g = (λ h b a. g.0 (h (e.1 a) (f.1 b)), λ h a b. g.1 (h (f.0 b) (e.0 a)))

-- a post and a tell of what does not mention knowledge may change places
post_tell : (a b c : Formula) (g : Group) → Silent a → Silent b → Equivalent (post a (tell g b c)) (tell g b (post a c))
post_tell a b c g sa sb m w =
    let M : Model = kept m (True a m) in
    let N : Model = copies m g (True b m) in
    let present : (v : World) → (copies M g (True b M)).present v ↔ (kept N (True a N)).present v =
    elim [
      | start f ↦ (λ p. absurd p, λ p. absurd p.0)
      | copy x v ↦ (
        λ p. ((p.0.0, λ t. (facts_decide b sb M m v v refl).0 (p.1 t)), (facts_decide a sa m N v (copy x v) refl).0 p.0.1),
        λ p. ((p.0.0, (facts_decide a sa m N v (copy x v) refl).1 p.1), λ t. (facts_decide b sb M m v v refl).1 (p.0.1 t)),
      )
    ] in
    exchanged (facts_decide a sa m N w (told w) refl) (facts_decide b sb M m w w refl)
    (invariant c (copies M g (True b M)) (kept N (True a N)) Same (same_bisim (copies M g (True b M)) (kept N (True a N)) present (λ i u v. Iff.rfl)) (told w) (told w) (same (told w)))

-- two notices that do not mention knowledge may change places
pub swap : (n k : Notice) (c : Formula) → Silent (content n) → Silent (content k) → Equivalent (before n (before k c)) (before k (before n c))
swap (posted a) (posted b) c sa sb m w =
    let M : Model = kept m (True a m) in
    let N : Model = kept m (True b m) in
    let present : (v : World) → (kept M (True b M)).present v ↔ (kept N (True a N)).present v =
    λ v. (
      λ p. ((p.0.0, (facts_decide b sb M m v v refl).0 p.1), (facts_decide a sa m N v v refl).0 p.0.1),
      λ p. ((p.0.0, (facts_decide a sa m N v v refl).1 p.1), (facts_decide b sb M m v v refl).1 p.0.1),
    ) in
    exchanged (facts_decide a sa m N w w refl) (facts_decide b sb M m w w refl)
    (invariant c (kept M (True b M)) (kept N (True a N)) Same (same_bisim (kept M (True b M)) (kept N (True a N)) present (λ i u v. Iff.rfl)) w w (same w))
swap (posted a) (told_to g b) c sa sb m w = post_tell a b c g sa sb m w
swap (told_to g a) (posted b) c sa sb m w = Iff.symm (post_tell b a c g sb sa m w)
swap (told_to g a) (told_to h b) c sa sb m w =
    let M : Model = copies m g (True a m) in
    let N : Model = copies m h (True b m) in
    exchanged (facts_decide a sa m N w (told w) refl) (facts_decide b sb M m (told w) w refl)
    (invariant c (copies M h (True b M)) (copies N g (True a N)) Crossed
    (crossed_bisim m g h (True a m) (True a N) (True b m) (True b M) (λ x v. facts_decide a sa m N v (copy x v) refl) (λ x v. facts_decide b sb m M v (copy x v) refl))
    (told (told w)) (told (told w)) (crossed true true w))

-- the notice does not mention knowledge
abbrev pub Quiet : Notice → Type 0
Quiet n = Silent (content n)

-- notices that do not mention knowledge may be stacked in either order
one_commutes : (n : Notice) (ks : List Notice) (c : Formula) → Quiet n → Each Quiet ks → Equivalent (before n (stacked ks c)) (stacked ks (before n c))
one_commutes n [] c s t m w = Iff.rfl
one_commutes n (k ∷ ks) c s t m w =
    Iff.trans (swap n k (stacked ks c) s t.0 m w) (before_equivalent k (before n (stacked ks c)) (stacked ks (before n c)) (one_commutes n ks c s t.1) m w)

-- two lists of such notices may change places
pub commutes : (ns ks : List Notice) (c : Formula) → Each Quiet ns → Each Quiet ks → Equivalent (stacked ns (stacked ks c)) (stacked ks (stacked ns c))
commutes [] ks c s t m w = Iff.rfl
commutes (n ∷ ns) ks c s t m w =
    Iff.trans (before_equivalent n (stacked ns (stacked ks c)) (stacked ks (stacked ns c)) (commutes ns ks c s.1 t) m w) (one_commutes n ks (stacked ns c) s.0 t m w)

-- stacking one list of notices after another
pub stacked-++ : (ns ks : List Notice) (c : Formula) → stacked (ns ++ ks) c ≡ stacked ns (stacked ks c)
stacked-++ [] ks c = refl
stacked-++ (n ∷ ns) ks c = ap (before n) (stacked-++ ns ks c)

-- taking one list of notices after another
pub after_all-++ : (s : Situation) (ns ks : List Notice) → after_all s (ns ++ ks) ≡ after_all (after_all s ns) ks
after_all-++ s [] ks = refl
after_all-++ s (n ∷ ns) ks = after_all-++ (after s n) ns ks

-- a notice changes no facts
after_facts : (s : Situation) (n : Notice) → facts_of (after s n).actual ≡ facts_of s.actual
after_facts s (posted a) = refl
after_facts s (told_to g a) = refl

-- notices change no facts
pub after_all_facts : (s : Situation) (ns : List Notice) → facts_of (after_all s ns).actual ≡ facts_of s.actual
after_all_facts s [] = refl
after_all_facts s (n ∷ ns) = after_all_facts (after s n) ns ∙ after_facts s n

-- a query after a notice that was true, and the query with the notice before it, have one truth
pub after_before : (s : Situation) (n : Notice) (c : Formula) → Holds s (content n) → Holds (after s n) c ↔ Holds s (before n c)
after_before s (posted a) c h = (λ x _. x, λ f. f h)
after_before s (told_to g a) c h = (λ x _. x, λ f. f h)
