-- A test of truth, by the worlds that a matter can have.
use Rattle.std.proofs.Common.{◌≡◌, ℕ, zero, suc, ◌-◌, ◌^◌, ◌<◌, Bool, true, false, not as negated, ◌&&◌, T, leb, ◌↔◌, List, [], ◌∷◌, sym, ap, subst, inl, inr, arith, eq-or-lt_of_le, le_of_suc-le-suc}
use mathlib.Core.Bool.{beq}
use mathlib.Core.Logic.Iff
use mathlib.Mathlib.Logic.Basic.Iff as LogicIff
use Rattle.knowledge.specs.Sets.{FactSet, has, in_facts}
use Rattle.knowledge.specs.Tables.Formulas.{Formula, top, bottom, fact, not, binary, knows, shared, post, tell}
use Rattle.knowledge.specs.Tables.Tables.{in_order, formula}
use Rattle.knowledge.specs.Lists.{Each}
use Rattle.knowledge.specs.Truth.Truth.{World, start, copy, told, facts_of, Model, kept, copies, True}
use Rattle.knowledge.specs.Truth.Situations.{Setting, sight, Agree, blank, KeepsLaw, Lawful, starting, Notice, posted, told_to, Situation, Holds, after, after_all, opened}
use Rattle.knowledge.specs.Truth.Verdicts.{Verdict, verdicts, VerdictsTrue}
use Rattle.knowledge.proofs.Logic.{joined_iff}
use Rattle.knowledge.proofs.Tests.{T-and, T-negated, implied, T-implied, T-beq, joined_test, T-joined, all_below, T-all_below}
use Rattle.knowledge.proofs.Bits.{member_below, within_bits}
use Rattle.knowledge.proofs.Truth.Listing.{Listed, sift, listed_sift, start_no_copy}
use Rattle.knowledge.proofs.Truth.Finite.{Finite, Shows, keep, duplicate, DecidesEach, keep_shows, duplicate_shows, known?, known_decided, shared?, shared_decided}

-- whether a formula is true at a world of a finite model
abbrev pub value : Formula → Finite → World → Bool
value top f w = true
value bottom f w = false
value (fact p) f w = in_facts (facts_of w) p
value (not a) f w = negated (value a f w)
value (binary c a b) f w = joined_test c (value a f w) (value b f w)
value (knows i a) f w = known? f i w (value a f)
value (shared g a) f w = shared? f g w (value a f)
value (post a b) f w = let then = value b (keep f (value a f)) w in implied (value a f w) then
value (tell g a b) f w = let then = value b (duplicate f g (value a f)) (told w) in implied (value a f w) then

-- a notice's operator, from its two parts
implied_decided : {A B : Type 0} (a b : Bool) → T a ↔ A → T b ↔ B → T (implied a b) ↔ (A → B)
implied_decided a b e f = Iff.trans (T-implied a b) (LogicIff.imp e f)

-- the value of a formula in a finite model decides its truth in the model shown
value_decides : (a : Formula) (f : Finite) (m : Model) → Shows f m → DecidesEach (value a f) (True a m)
value_decides top f m h w = Iff.rfl
value_decides bottom f m h w = Iff.rfl
value_decides (fact p) f m h w = Iff.rfl
value_decides (not a) f m h w = Iff.trans (T-negated (value a f w)) (Iff.not (value_decides a f m h w))
value_decides (binary c a b) f m h w = Iff.trans (T-joined c (value a f w) (value b f w)) (joined_iff c (value_decides a f m h w) (value_decides b f m h w))
value_decides (knows i a) f m h w = known_decided f m i w (value a f) (True a m) h (value_decides a f m h)
value_decides (shared g a) f m h w = shared_decided f m g w (value a f) (True a m) h (value_decides a f m h)
value_decides (post a b) f m h w =
    let d : DecidesEach (value a f) (True a m) = value_decides a f m h in
    implied_decided (value a f w) (value b (keep f (value a f)) w) (d w)
    (value_decides b (keep f (value a f)) (kept m (True a m)) (keep_shows f m (value a f) (True a m) h d) w)
value_decides (tell g a b) f m h w =
    let d : DecidesEach (value a f) (True a m) = value_decides a f m h in
    implied_decided (value a f w) (value b (duplicate f g (value a f)) (told w)) (d w)
    (value_decides b (duplicate f g (value a f)) (copies m g (True a m)) (duplicate_shows f m g (value a f) (True a m) h d) (told w))

-- the sets of facts that are held in the numbers below n
abbrev pub starts : ℕ → List World
starts zero = []
starts (suc n) = start (record { bits = n }) ∷ starts n

-- they are listed, and no others
listed_starts : (n : ℕ) (f : FactSet) → Listed (start f) (starts n) ↔ (f.bits < n)
listed_starts zero f = (λ h. absurd h, λ h. absurd (omega arith))
listed_starts (suc n) f =
    let r = listed_starts n f in (
      elim [ inl e ↦ (let k : f.bits ≡ n = ap (λ (w : World). (facts_of w).bits) e in omega arith) | inr l ↦ (let k = r.0 l in omega arith) ],
      λ h. elim (eq-or-lt_of_le (le_of_suc-le-suc h)) [ inl e ↦ inl (ap (λ (b : ℕ). start (record { bits = b })) e) | inr l ↦ inr (r.1 l) ],
    )

-- no copy is among them
copy_not_listed : (n : ℕ) (x : Bool) (w : World) → Listed (copy x w) (starts n) → ⊥
copy_not_listed zero x w h = h
copy_not_listed (suc n) x w (inl e) = start_no_copy (sym e)
copy_not_listed (suc n) x w (inr l) = copy_not_listed n x w l

-- the members of a set of facts are not past the number that holds it
fact_below : (f : FactSet) (p : ℕ) → T (in_facts f p) → p < suc f.bits
fact_below f p t =
    let q = (T-and (leb 1 p) (has f.bits (p - 1))).0 t in
    let l = member_below f.bits (p - 1) q.1 in
    omega arith

-- whether a fact of a sight is in both sets or in neither
abbrev pub agrees_on : FactSet → FactSet → FactSet → ℕ → Bool
agrees_on sight f r p = implied (in_facts sight p) (beq (in_facts f p) (in_facts r p))

-- whether two sets of facts agree on a sight
abbrev pub agrees : FactSet → FactSet → FactSet → Bool
agrees sight f r = all_below (suc sight.bits) (agrees_on sight f r)

-- and what that test decides
pub T-agrees : (sight f r : FactSet) → T (agrees sight f r) ↔ Agree sight f r
T-agrees sight f r =
    let same : (p : ℕ) → T (agrees_on sight f r p) ↔ (T (in_facts sight p) → in_facts f p ≡ in_facts r p) =
    λ p. Iff.trans (T-implied (in_facts sight p) (beq (in_facts f p) (in_facts r p))) (LogicIff.imp Iff.rfl (T-beq (in_facts f p) (in_facts r p))) in (
      λ t p h. (same p).0 ((T-all_below (suc sight.bits) (agrees_on sight f r)).0 t p (fact_below sight p h)) h,
      λ h. (T-all_below (suc sight.bits) (agrees_on sight f r)).1 (λ p l. (same p).1 (h p)),
    )

-- a finite model with no worlds
abbrev pub nowhere : Finite
nowhere = record { worlds = []; same = λ _ _ _. false }

-- shows the model with no worlds
nowhere_shows : Shows nowhere blank
nowhere_shows = record { listed = λ w. Iff.rfl; asked = λ i w v. Iff.rfl }

-- the listed model at the start
abbrev pub finite : Setting → Finite
finite s = record {
  worlds = sift (value (formula s.law) nowhere) (starts (2 ^ s.facts));
  same = λ i w v. agrees (sight s i) (facts_of w) (facts_of v);
}

-- it shows the model at the start
finite_shows : (s : Setting) → Shows (finite s) (starting s)
finite_shows s = record { listed = worlds; asked = λ i w v. T-agrees (sight s i) (facts_of w) (facts_of v) }
  where
    worlds : (w : World) → Listed w (sift (value (formula s.law) nowhere) (starts (2 ^ s.facts))) ↔ Lawful s w
    worlds (start f) = Iff.trans (listed_sift (value (formula s.law) nowhere) (starts (2 ^ s.facts)) (start f))
        (Iff.and (Iff.trans (listed_starts (2 ^ s.facts) f) (Iff.symm (within_bits s.facts f))) (value_decides (formula s.law) nowhere blank nowhere_shows (start f)))
    worlds (copy x w) =
        (λ l. copy_not_listed (2 ^ s.facts) x w ((listed_sift (value (formula s.law) nowhere) (starts (2 ^ s.facts)) (copy x w)).0 l).0, λ h. absurd h)

-- a finite model after notices
abbrev pub finite_after : Finite → List Notice → Finite
finite_after f [] = f
finite_after f (posted a ∷ ns) = finite_after (keep f (value a f)) ns
finite_after f (told_to g a ∷ ns) = finite_after (duplicate f g (value a f)) ns

-- it shows the model after the notices
after_shows : (f : Finite) (s : Situation) (ns : List Notice) → Shows f s.model → Shows (finite_after f ns) (after_all s ns).model
after_shows f s [] h = h
after_shows f s (posted a ∷ ns) h =
    after_shows (keep f (value a f)) (after s (posted a)) ns (keep_shows f s.model (value a f) (True a s.model) h (value_decides a f s.model h))
after_shows f s (told_to g a ∷ ns) h =
    after_shows (duplicate f g (value a f)) (after s (told_to g a)) ns
    (duplicate_shows f s.model g (value a f) (True a s.model) h (value_decides a f s.model h))

-- whether a formula is true for a matter of these facts that has taken these notices
unfoldable pub true_after : Setting → FactSet → List Notice → Formula → Bool
true_after s f ns a = value a (finite_after (finite s) ns) (after_all (opened s f) ns).actual

-- and what that test decides
pub true_after_decides : (s : Setting) (f : FactSet) (ns : List Notice) (a : Formula) → T (true_after s f ns a) ↔ Holds (after_all (opened s f) ns) a
unfolding true_after
true_after_decides s f ns a =
    value_decides a (finite_after (finite s) ns) (after_all (opened s f) ns).model
    (after_shows (finite s) (opened s f) ns (finite_shows s)) (after_all (opened s f) ns).actual

-- whether facts satisfy the law
unfoldable pub keeps_law : Setting → FactSet → Bool
keeps_law s f = value (formula s.law) nowhere (start f)

-- and what that test decides
pub keeps_law_decides : (s : Setting) (f : FactSet) → T (keeps_law s f) ↔ KeepsLaw s f
unfolding keeps_law
keeps_law_decides s f = value_decides (formula s.law) nowhere blank nowhere_shows (start f)

-- whether every answer of a list of verdicts is the value of its query
abbrev pub confirmed : List Verdict → Bool
confirmed [] = true
confirmed (v ∷ vs) = beq v.answer (true_after v.setting v.facts [] v.query) && confirmed vs

-- confirmed verdicts are true
confirmed_true : (vs : List Verdict) → T (confirmed vs) → Each (λ v. T v.answer ↔ Holds (opened v.setting v.facts) v.query) vs
confirmed_true [] t = tt
confirmed_true (v ∷ vs) t =
    let b = true_after v.setting v.facts [] v.query in
    let p = (T-and (beq v.answer b) (confirmed vs)).0 t in
    let d = true_after_decides v.setting v.facts [] v.query in
    (subst (λ (a : Bool). T a ↔ Holds (opened v.setting v.facts) v.query) (sym ((T-beq v.answer b).0 p.0)) d, confirmed_true vs p.1)

-- the worked verdicts
pub verdicts_true : VerdictsTrue
unfolding true_after formula in_order
verdicts_true = confirmed_true verdicts tt
