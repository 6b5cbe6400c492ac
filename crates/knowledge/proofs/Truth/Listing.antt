-- Lists of worlds.
use Rattle.std.proofs.Common.{◌≡◌, Bool, true, false, ◌&&◌, T, ◌⊎◌, ◌↔◌, List, [], ◌∷◌, sym, refl, ap, subst, inl, inr}
use Rattle.knowledge.specs.Truth.Truth.{World, start, copy}
use Rattle.knowledge.proofs.Tests.{T-and}
use Rattle.knowledge.specs.Sets.{FactSet}

-- w is in a list
abbrev pub Listed : World → List World → Type 0
Listed w [] = ⊥
Listed w (x ∷ xs) = (w ≡ x) ⊎ Listed w xs

-- a test at every world of a list
abbrev pub everywhere : (World → Bool) → List World → Bool
everywhere f [] = true
everywhere f (x ∷ xs) = let rest = everywhere f xs in f x && rest

-- what a test at every world of a list decides
pub T-everywhere : (f : World → Bool) (ws : List World) → T (everywhere f ws) ↔ ((w : World) → Listed w ws → T (f w))
T-everywhere f [] = (λ _ w h. absurd h, λ _. tt)
T-everywhere f (x ∷ xs) =
    let r = T-everywhere f xs in (
      λ t w. elim [
        | inl e ↦ subst (λ (y : World). T (f y)) (sym e) ((T-and (f x) (everywhere f xs)).0 t).0
        | inr l ↦ r.0 ((T-and (f x) (everywhere f xs)).0 t).1 w l
      ],
      λ h. (T-and (f x) (everywhere f xs)).1 (h x (inl refl), r.1 (λ w l. h w (inr l))),
    )

-- the worlds of a list that pass a test
abbrev pub sift : (World → Bool) → List World → List World
sift f [] = []
sift f (x ∷ xs) = elim (f x) [ true ↦ x ∷ sift f xs | false ↦ sift f xs ]

-- a world passed the sift exactly if it is in the list and passes the test
pub listed_sift : (f : World → Bool) (ws : List World) (w : World) → Listed w (sift f ws) ↔ (Listed w ws × T (f w))
listed_sift f [] w = (λ h. absurd h, λ p. p.0)
listed_sift f (x ∷ xs) w = go (f x) refl (listed_sift f xs w)
  where
    go : (b : Bool) → f x ≡ b → (Listed w (sift f xs) ↔ (Listed w xs × T (f w)))
        → Listed w (elim b [ true ↦ x ∷ sift f xs | false ↦ sift f xs ]) ↔ (((w ≡ x) ⊎ Listed w xs) × T (f w))
    go true e r = (
      elim [ inl k ↦ (inl k, subst (λ (y : World). T (f y)) (sym k) (subst T (sym e) tt)) | inr l ↦ (inr (r.0 l).0, (r.0 l).1) ],
      λ p. elim p.0 [ inl k ↦ inl k | inr l ↦ inr (r.1 (l, p.1)) ],
    )
    go false e r = (
      λ l. (inr (r.0 l).0, (r.0 l).1),
      λ p. elim p.0 [ inl k ↦ absurd (subst T e (subst (λ (y : World). T (f y)) k p.1)) | inr l ↦ r.1 (l, p.1) ],
    )

-- the untold copies of worlds, and the told copies of those that pass a test
abbrev pub copy_all : (World → Bool) → List World → List World
copy_all f [] = []
copy_all f (x ∷ xs) = copy false x ∷ elim (f x) [ true ↦ copy true x ∷ copy_all f xs | false ↦ copy_all f xs ]

-- equal copies are both told or both untold
copy_mark : {x y : Bool} {w v : World} → copy x w ≡ copy y v → x ≡ y
copy_mark {x} {y} e = ap (λ (u : World). elim u [ start f ↦ x | copy z u' ↦ z ]) e

-- equal copies are of equal worlds
copy_of : {x y : Bool} {w v : World} → copy x w ≡ copy y v → w ≡ v
copy_of {x} {y} {w} e = ap (λ (u : World). elim u [ start f ↦ w | copy z u' ↦ u' ]) e

-- a copy is listed exactly if its world is and, where it is told, passes the test
pub listed_copy : (f : World → Bool) (ws : List World) (x : Bool) (w : World) → Listed (copy x w) (copy_all f ws) ↔ (Listed w ws × (T x → T (f w)))
listed_copy f [] x w = (λ h. absurd h, λ p. p.0)
listed_copy f (v ∷ vs) x w = go (f v) refl (listed_copy f vs x w)
  where
    go : (b : Bool) → f v ≡ b → (Listed (copy x w) (copy_all f vs) ↔ (Listed w vs × (T x → T (f w))))
        → Listed (copy x w) (copy false v ∷ elim b [ true ↦ copy true v ∷ copy_all f vs | false ↦ copy_all f vs ]) ↔ (((w ≡ v) ⊎ Listed w vs) × (T x → T (f w)))
    go true e r = (
      elim [
        | inl k ↦ (inl (copy_of k), λ t. absurd (subst T (copy_mark k) t))
        | inr (inl k) ↦ (inl (copy_of k), λ _. subst (λ (y : World). T (f y)) (sym (copy_of k)) (subst T (sym e) tt))
        | inr (inr l) ↦ (inr (r.0 l).0, (r.0 l).1)
      ],
      λ p. elim p.0 [
        | inl k ↦ (elim x as (λ z. Listed (copy z w) (copy false v ∷ copy true v ∷ copy_all f vs)) [ true ↦ inr (inl (ap (copy true) k)) | false ↦ inl (ap (copy false) k) ])
        | inr l ↦ inr (inr (r.1 (l, p.1)))
      ],
    )
    go false e r = (
      elim [
        | inl k ↦ (inl (copy_of k), λ t. absurd (subst T (copy_mark k) t))
        | inr l ↦ (inr (r.0 l).0, (r.0 l).1)
      ],
      λ p. elim p.0 [
        | inl k ↦ (elim x as (λ z. (T z → T (f w)) → Listed (copy z w) (copy false v ∷ copy_all f vs)) [ true ↦ λ h. absurd (subst T e (subst (λ (y : World). T (f y)) k (h tt))) | false ↦ λ _. inl (ap (copy false) k) ]) p.1
        | inr l ↦ inr (r.1 (l, p.1))
      ],
    )

-- tells a set of facts from a copy
is_start : World → Type 0
is_start (start f) = Unit {0}
is_start (copy x w) = ⊥

-- a set of facts is no copy
pub start_no_copy : {f : FactSet} {x : Bool} {w : World} → start f ≡ copy x w → ⊥
unfolding is_start
start_no_copy e = subst is_start e tt

-- no set of facts is listed among copies
pub not_listed_start : (f : World → Bool) (ws : List World) (s : FactSet) → Listed (start s) (copy_all f ws) → ⊥
not_listed_start f [] s h = h
not_listed_start f (x ∷ xs) s h = go (f x) (not_listed_start f xs s) h
  where
    go : (b : Bool) → (Listed (start s) (copy_all f xs) → ⊥)
        → Listed (start s) (copy false x ∷ elim b [ true ↦ copy true x ∷ copy_all f xs | false ↦ copy_all f xs ]) → ⊥
    go true r (inl e) = start_no_copy e
    go true r (inr (inl e)) = start_no_copy e
    go true r (inr (inr l)) = r l
    go false r (inl e) = start_no_copy e
    go false r (inr l) = r l
