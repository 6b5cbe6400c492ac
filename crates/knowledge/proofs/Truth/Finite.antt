-- Models whose worlds are listed, and the tests that decide what is known and shared in them.
use Rattle.std.proofs.Common.{◌≡◌, ℕ, Bool, false, ◌&&◌, ◌||◌, T, ◌⊎◌, ◌↔◌, List, [], ◌∷◌, sym, refl, subst, inl, inr}
use mathlib.Core.Bool.{beq}
use mathlib.Core.Logic.Iff
use mathlib.Mathlib.Logic.Basic.Iff as LogicIff
use Rattle.knowledge.specs.Sets.{Group, in_group}
use Rattle.knowledge.specs.Truth.Truth.{World, start, copy, Model, kept, Copied, Blurred, copies, Reached, here, step, Known, Shared}
use Rattle.knowledge.proofs.Logic.{⊎-iff}
use Rattle.knowledge.proofs.Tests.{T-and, T-or, implied, T-implied, T-beq, some_below, T-some_below}
use Rattle.knowledge.proofs.Bits.{member_below, in_group_bits}
use Rattle.knowledge.proofs.Truth.Listing.{Listed, everywhere, T-everywhere, sift, listed_sift, copy_all, listed_copy, not_listed_start}

-- a model whose worlds are listed, and whose parties are asked by a test
pub record Finite : Type 0 where
  pub worlds : List World
  pub same : ℕ → World → World → Bool

-- a finite model shows a model: it has the same worlds, told apart alike
pub record Shows (f : Finite) (m : Model) : Type 0 where
  pub listed : (w : World) → Listed w f.worlds ↔ m.present w
  pub asked : (i : ℕ) (w v : World) → T (f.same i w v) ↔ m.alike i w v

-- as kept does to a model
abbrev pub keep : Finite → (World → Bool) → Finite
keep f a = record { worlds = sift a f.worlds; same = f.same }

-- whether a party cannot tell two copies apart
abbrev pub same_copies : (ℕ → World → World → Bool) → Group → ℕ → World → World → Bool
same_copies same g i (start s) v = false
same_copies same g i (copy x w) (start s) = false
same_copies same g i (copy x w) (copy y v) = implied (in_group g i) (beq x y) && same i w v

-- as copies does to a model
abbrev pub duplicate : Finite → Group → (World → Bool) → Finite
duplicate f g a = record { worlds = copy_all a f.worlds; same = same_copies f.same g }

-- a test decides a property of worlds
abbrev pub DecidesEach : (World → Bool) → (World → Type 0) → Type 0
DecidesEach a P = (w : World) → T (a w) ↔ P w

-- a finite model still shows the model after a post
pub keep_shows : (f : Finite) (m : Model) (a : World → Bool) (P : World → Type 0) → Shows f m → DecidesEach a P → Shows (keep f a) (kept m P)
keep_shows f m a P h d = record {
  listed = λ w. Iff.trans (listed_sift a f.worlds w) (Iff.and (h.listed w) (d w));
  asked = h.asked;
}

-- and after a tell
pub duplicate_shows : (f : Finite) (m : Model) (g : Group) (a : World → Bool) (P : World → Type 0) → Shows f m → DecidesEach a P → Shows (duplicate f g a) (copies m g P)
duplicate_shows f m g a P h d = record { listed = worlds; asked = same }
  where
    worlds : (w : World) → Listed w (copy_all a f.worlds) ↔ Copied m.present P w
    worlds (start s) = (not_listed_start a f.worlds s, λ x. absurd x)
    worlds (copy x w) = Iff.trans (listed_copy a f.worlds x w) (Iff.and (h.listed w) (LogicIff.imp Iff.rfl (d w)))

    same : (i : ℕ) (w v : World) → T (same_copies f.same g i w v) ↔ Blurred m.alike g i w v
    same i (start s) v = Iff.rfl
    same i (copy x w) (start s) = Iff.rfl
    same i (copy x w) (copy y v) =
        Iff.trans (T-and (implied (in_group g i) (beq x y)) (f.same i w v))
        (Iff.and (Iff.trans (T-implied (in_group g i) (beq x y)) (LogicIff.imp Iff.rfl (T-beq x y))) (h.asked i w v))

-- whether a test passes at every world that party i cannot tell from w
abbrev pub known? : Finite → ℕ → World → (World → Bool) → Bool
known? f i w a = everywhere (λ v. let t = a v in implied (f.same i w v) t) f.worlds

-- and what that test decides
pub known_decided : (f : Finite) (m : Model) (i : ℕ) (w : World) (a : World → Bool) (P : World → Type 0) → Shows f m → DecidesEach a P → T (known? f i w a) ↔ Known m i w P
known_decided f m i w a P h d =
    let r = T-everywhere (λ v. implied (f.same i w v) (a v)) f.worlds in (
      λ t v p l. (d v).0 ((T-implied (f.same i w v) (a v)).0 (r.0 t v ((h.listed v).1 p)) ((h.asked i w v).1 l)),
      λ k. r.1 (λ v l. (T-implied (f.same i w v) (a v)).1 (λ s. (d v).1 (k v ((h.listed v).0 l) ((h.asked i w v).0 s)))),
    )

-- whether some member of the group cannot tell two worlds apart
abbrev pub linked : Finite → Group → World → World → Bool
linked f g u v = some_below g.bits (λ i. in_group g i && f.same i u v)

-- whether links lead from u to v by way of the worlds of a list alone
abbrev pub leads : Finite → Group → List World → World → World → Bool
leads f g [] u v = linked f g u v
leads f g (x ∷ xs) u v = let on = leads f g xs x v in let by = leads f g xs u x && on in leads f g xs u v || by

-- whether a test passes at w and at every world that links lead to
abbrev pub shared? : Finite → Group → World → (World → Bool) → Bool
shared? f g w a = a w && everywhere (λ v. let t = a v in implied (leads f g f.worlds w v) t) f.worlds

-- and what that test decides
linked_decided : (f : Finite) (g : Group) (u v : World) → T (linked f g u v) ↔ ((i : ℕ) × T (in_group g i) × T (f.same i u v))
linked_decided f g u v = (
  λ t. let p = (T-some_below g.bits (λ i. in_group g i && f.same i u v)).0 t in let q = (T-and (in_group g p.0) (f.same p.0 u v)).0 p.2 in (p.0, q.0, q.1),
  λ p. (T-some_below g.bits (λ i. in_group g i && f.same i u v)).1 (p.0, member_below g.bits p.0 (subst T (in_group_bits g p.0) p.1), (T-and (in_group g p.0) (f.same p.0 u v)).1 (p.1, p.2)),
)

-- links lead from u to v by way of the worlds of a list alone
abbrev pub Leads : Finite → Group → List World → World → World → Type 0
Leads f g [] u v = T (linked f g u v)
Leads f g (x ∷ xs) u v = Leads f g xs u v ⊎ (Leads f g xs u x × Leads f g xs x v)

-- which the test decides
leads_decided : (f : Finite) (g : Group) (xs : List World) (u v : World) → T (leads f g xs u v) ↔ Leads f g xs u v
leads_decided f g [] u v = Iff.rfl
leads_decided f g (x ∷ xs) u v =
    Iff.trans (T-or (leads f g xs u v) (leads f g xs u x && leads f g xs x v))
    (⊎-iff (leads_decided f g xs u v) (Iff.trans (T-and (leads f g xs u x) (leads f g xs x v)) (Iff.and (leads_decided f g xs u x) (leads_decided f g xs x v))))

-- a link leads
link_leads : (f : Finite) (g : Group) (xs : List World) (u v : World) → T (linked f g u v) → Leads f g xs u v
link_leads f g [] u v t = t
link_leads f g (x ∷ xs) u v t = inl (link_leads f g xs u v t)

-- ways join at the worlds of the list
leads_join : (f : Finite) (g : Group) (xs : List World) (u x v : World) → Listed x xs → Leads f g xs u x → Leads f g xs x v → Leads f g xs u v
leads_join f g [] u x v h a b = absurd h
leads_join f g (y ∷ ys) u x v (inl e) a b =
    let first : Leads f g ys u y = elim (subst (λ (z : World). Leads f g (y ∷ ys) u z) e a) [ inl k ↦ k | inr k ↦ k.0 ] in
    let last : Leads f g ys y v = elim (subst (λ (z : World). Leads f g (y ∷ ys) z v) e b) [ inl k ↦ k | inr k ↦ k.1 ] in
    inr (first, last)
leads_join f g (y ∷ ys) u x v (inr l) (inl a) (inl b) = inl (leads_join f g ys u x v l a b)
leads_join f g (y ∷ ys) u x v (inr l) (inl a) (inr b) = inr (leads_join f g ys u x y l a b.0, b.1)
leads_join f g (y ∷ ys) u x v (inr l) (inr a) (inl b) = inr (a.0, leads_join f g ys y x v l a.1 b)
leads_join f g (y ∷ ys) u x v (inr l) (inr a) (inr b) = inr (a.0, b.1)

-- links lead to every other world that is reached
reached_leads : (f : Finite) (m : Model) (g : Group) (w v : World) → Shows f m → Reached m g w v → (v ≡ w) ⊎ (m.present v × Leads f g f.worlds w v)
reached_leads f m g w v h here = inl refl
reached_leads f m g w v h (step i u v' s t a p) =
    let link : T (linked f g u v') = (linked_decided f g u v').1 (i, t, (h.asked i u v').1 a) in
    elim (reached_leads f m g w u h s) [
      | inl e ↦ inr (p, link_leads f g f.worlds w v' (subst (λ (z : World). T (linked f g z v')) e link))
      | inr k ↦ inr (p, leads_join f g f.worlds w u v' ((h.listed u).1 k.0) k.1 (link_leads f g f.worlds u v' link))
    ]

-- what is reached from a reached world is reached
reached_join : (m : Model) (g : Group) (u x v : World) → Reached m g u x → Reached m g x v → Reached m g u v
reached_join m g u x v r here = r
reached_join m g u x v r (step i y v' s t a p) = step i y v' (reached_join m g u x y r s) t a p

-- where links lead is reached
leads_reached : (f : Finite) (m : Model) (g : Group) (xs : List World) (u v : World) → Shows f m → ((x : World) → Listed x xs → m.present x)
    → Leads f g xs u v → m.present v → Reached m g u v
leads_reached f m g [] u v h k l p = let e = (linked_decided f g u v).0 l in step e.0 u v here e.1 ((h.asked e.0 u v).0 e.2) p
leads_reached f m g (x ∷ xs) u v h k (inl l) p = leads_reached f m g xs u v h (λ y i. k y (inr i)) l p
leads_reached f m g (x ∷ xs) u v h k (inr l) p =
    reached_join m g u x v (leads_reached f m g xs u x h (λ y i. k y (inr i)) l.0 (k x (inl refl))) (leads_reached f m g xs x v h (λ y i. k y (inr i)) l.1 p)

-- what the test of what is shared decides
pub shared_decided : (f : Finite) (m : Model) (g : Group) (w : World) (a : World → Bool) (P : World → Type 0) → Shows f m → DecidesEach a P → T (shared? f g w a) ↔ Shared m g w P
shared_decided f m g w a P h d =
    let ws = f.worlds in
    let r = T-everywhere (λ v. implied (leads f g ws w v) (a v)) ws in
    let b = T-and (a w) (everywhere (λ v. implied (leads f g ws w v) (a v)) ws) in (
      λ t v s. elim (reached_leads f m g w v h s) [
        | inl e ↦ subst P (sym e) ((d w).0 (b.0 t).0)
        | inr k ↦ (d v).0 ((T-implied (leads f g ws w v) (a v)).0 (r.0 (b.0 t).1 v ((h.listed v).1 k.0)) ((leads_decided f g ws w v).1 k.1))
      ],
      λ k. b.1 (
        (d w).1 (k w here),
        r.1 (λ v l. (T-implied (leads f g ws w v) (a v)).1
            (λ t. (d v).1 (k v (leads_reached f m g ws w v h (λ x i. (h.listed x).0 i) ((leads_decided f g ws w v).0 t) ((h.listed v).0 l))))),
      ),
    )
