-- The tests of a record decide which rules it breaks, and the first that passes has the lowest number.
use Rattle.std.proofs.Common.{◌≡◌, ℕ, ◌<◌, ◌≤◌, Bool, true, false, cond, ◌&&◌, ◌||◌, T, ltb, leb, ◌⊎◌, ◌↔◌, List, [], ◌∷◌, Some, None, Option, sym, refl, ap, subst, inl, inr, arith}
use mathlib.Core.Bool as Bools
use mathlib.Core.List.Memᴰ.{cases_cons}
use mathlib.Core.List.Memᴰ.{head as here}
use mathlib.Core.List.Memᴰ.{not-nil}
use mathlib.Core.List.Memᴰ.{tail as there}
use mathlib.Core.List.{foldr, Memᴰ as Among}
use mathlib.Core.Logic.Iff
use Rattle.knowledge.specs.declared.fault.Cause.{Cause}
use Rattle.knowledge.specs.declared.fault.Cause.TheVariants as cause
use Rattle.knowledge.specs.declared.table.Family.{Family}
use Rattle.knowledge.specs.declared.table.Family.TheVariants.{Boolean, Knowing, Posting, Telling}
use Rattle.knowledge.specs.declared.table.Kind.{Kind}
use Rattle.knowledge.specs.declared.table.Kind.TheVariants.{Top, Bottom, Fact, Not, Binary, Knows, KnowsWhether, Shared, SharedWhether, Post, PostWhether, Tell, TellWhether}
use Rattle.knowledge.specs.Tables.Breaches.{FromTo, NamesFact, in_fact, NamesParty, in_knows, in_knows_whether, NamesGroup, in_shared, in_shared_whether, in_tell, in_tell_whether, Modal, knowing, posting, telling, kind_at, depth_at, Breaks, lacks_fact, lacks_party, lacks_group, too_deep, modal_in_law, lacks_child}
use Rattle.knowledge.specs.declared.survey.Terms.{Terms}
use Rattle.knowledge.specs.Tables.Check.{bad_fact, bad_party, is_modal, bad_child, record_fault}
use Rattle.knowledge.specs.Faults.{number}
use Rattle.knowledge.specs.Sets.{Group, between, Present, is_present}
use Rattle.knowledge.specs.Tables.Tables.{Table, children, family}
use Rattle.knowledge.proofs.Bits.{present_bits}
use Rattle.knowledge.proofs.Tests.{T-and, T-or, T-negated, T-between, T-leb, T-ltb}

-- the test of a fact that is named
outside : (p : Terms) (n : ℕ) → T (Bools.not (between 1 p.facts n)) ↔ (¬ FromTo 1 p.facts n)
outside p n = Iff.trans (T-negated (between 1 p.facts n)) (Iff.not (T-between 1 p.facts n))

-- the test of a group that is named
absent : (p : Terms) (g : Group) → T (Bools.not (is_present p.parties g)) ↔ (¬ Present p.parties g)
absent p g = Iff.trans (T-negated (is_present p.parties g)) (Iff.not (present_bits p.parties g))

-- where the tests of what a record names find something, it is a fact, or a party or a group, that the record names
named : {A B : Type 0} (p : Terms) (k : Kind) → ((n : ℕ) → NamesFact k n → ¬ FromTo 1 p.facts n → A)
    → ((i : ℕ) → NamesParty k i → p.parties ≤ i → B) → ((g : Group) → NamesGroup k g → ¬ Present p.parties g → B)
    → (T (bad_fact p.facts k) → A) × (T (bad_party p.parties k) → B)
named p Top fact party group = (λ x. absurd x, λ x. absurd x)
named p Bottom fact party group = (λ x. absurd x, λ x. absurd x)
named p (Fact n) fact party group = (λ x. fact n (in_fact n) ((outside p n).0 x), λ x. absurd x)
named p (Not a) fact party group = (λ x. absurd x, λ x. absurd x)
named p (Binary c a b) fact party group = (λ x. absurd x, λ x. absurd x)
named p (Knows i a) fact party group = (λ x. absurd x, λ x. party i (in_knows i a) ((T-leb p.parties i).0 x))
named p (KnowsWhether i a) fact party group = (λ x. absurd x, λ x. party i (in_knows_whether i a) ((T-leb p.parties i).0 x))
named p (Shared g a) fact party group = (λ x. absurd x, λ x. group g (in_shared g a) ((absent p g).0 x))
named p (SharedWhether g a) fact party group = (λ x. absurd x, λ x. group g (in_shared_whether g a) ((absent p g).0 x))
named p (Post a b) fact party group = (λ x. absurd x, λ x. absurd x)
named p (PostWhether a b) fact party group = (λ x. absurd x, λ x. absurd x)
named p (Tell g a b) fact party group = (λ x. absurd x, λ x. group g (in_tell g a b) ((absent p g).0 x))
named p (TellWhether g a b) fact party group = (λ x. absurd x, λ x. group g (in_tell_whether g a b) ((absent p g).0 x))

-- the test of facts finds the one that is named
finds_fact : (p : Terms) (k : Kind) (n : ℕ) → NamesFact k n → ¬ FromTo 1 p.facts n → T (bad_fact p.facts k)
finds_fact p k n (in_fact m) h = (outside p m).1 h

-- the test of parties finds the one that is named
finds_party : (p : Terms) (k : Kind) (i : ℕ) → NamesParty k i → p.parties ≤ i → T (bad_party p.parties k)
finds_party p k i (in_knows j a) h = (T-leb p.parties j).1 h
finds_party p k i (in_knows_whether j a) h = (T-leb p.parties j).1 h

-- the test of parties finds the group that is named
finds_group : (p : Terms) (k : Kind) (g : Group) → NamesGroup k g → ¬ Present p.parties g → T (bad_party p.parties k)
finds_group p k g (in_shared h a) n = (absent p h).1 n
finds_group p k g (in_shared_whether h a) n = (absent p h).1 n
finds_group p k g (in_tell h a b) n = (absent p h).1 n
finds_group p k g (in_tell_whether h a b) n = (absent p h).1 n

-- the test of knowledge and notices
modal : (f : Family) → T (is_modal f) ↔ Modal f
modal Boolean = (λ x. absurd x, λ m. elim m [ ])
modal Knowing = (λ _. knowing, λ _. tt)
modal Posting = (λ _. posting, λ _. tt)
modal Telling = (λ _. telling, λ _. tt)

-- the test of places finds one that is not below k
not_below : (k : ℕ) (places : List ℕ) → T (foldr (λ a. ◌||◌ (leb k a)) false places) ↔ ((a : ℕ) × Among a places × (k ≤ a))
not_below k [] = (λ x. absurd x, λ x. absurd (not-nil x.1))
not_below k (a ∷ rest) = (
  λ x. elim ((T-or (leb k a) _).0 x) [
    | inl y ↦ (a, here refl, (T-leb k a).0 y)
    | inr y ↦ (let z = (not_below k rest).0 y in (z.0, there z.1, z.2))
  ],
  λ x. (T-or (leb k a) _).1 (elim (cases_cons x.1) [
    | inl e ↦ inl ((T-leb k a).1 (omega arith))
    | inr m ↦ inr ((not_below k rest).1 (x.0, m, x.2))
  ]),
)

module _ (p : Terms) (t : Table) (k : ℕ) where
  -- what the tests of the names find in the record at place k
  finds : (T (bad_fact p.facts (kind_at t k)) → Breaks p t k cause.Fact) × (T (bad_party p.parties (kind_at t k)) → Breaks p t k cause.Party)
  finds = named p (kind_at t k) lacks_fact lacks_party lacks_group

  -- the test of facts
  fact_rule : T (bad_fact p.facts (kind_at t k)) ↔ Breaks p t k cause.Fact
  fact_rule = (finds.0, elim [ lacks_fact n m h ↦ finds_fact p (kind_at t k) n m h ])

  -- the test of parties and groups
  party_rule : T (bad_party p.parties (kind_at t k)) ↔ Breaks p t k cause.Party
  party_rule = (finds.1, elim [ lacks_party i m h ↦ finds_party p (kind_at t k) i m h | lacks_group g m h ↦ finds_group p (kind_at t k) g m h ])

  -- the test of the depth
  deep_rule : T (ltb 12 (depth_at t k)) ↔ Breaks p t k cause.Deep
  deep_rule = (λ x. too_deep ((T-ltb 12 (depth_at t k)).0 x), elim [ too_deep h ↦ (T-ltb 12 (depth_at t k)).1 h ])

  -- the test of a law
  knowledge_rule : T (p.in_law && is_modal (family (kind_at t k))) ↔ Breaks p t k cause.Knowledge
  knowledge_rule =
      Iff.trans (Iff.trans (T-and p.in_law (is_modal (family (kind_at t k)))) (Iff.and Iff.rfl (modal (family (kind_at t k)))))
      (λ x. modal_in_law x.0 x.1, elim [ modal_in_law l m ↦ (l, m) ])

  -- the test of children
  child_rule : T (bad_child k (kind_at t k)) ↔ Breaks p t k cause.Child
  child_rule = Iff.trans (not_below k (children (kind_at t k))) (λ x. lacks_child x.0 x.1 x.2, elim [ lacks_child a m h ↦ (a, m, h) ])

-- a record can break the rules of these causes alone
one_of : (p : Terms) (t : Table) (k : ℕ) (c : Cause) → Breaks p t k c
    → Among c (cause.Fact ∷ cause.Party ∷ cause.Deep ∷ cause.Knowledge ∷ cause.Child ∷ [])
one_of p t k c (lacks_fact n m h) = here refl
one_of p t k c (lacks_party i m h) = there (here refl)
one_of p t k c (lacks_group g m h) = there (here refl)
one_of p t k c (too_deep h) = there (there (here refl))
one_of p t k c (modal_in_law l m) = there (there (there (here refl)))
one_of p t k c (lacks_child a m h) = there (there (there (there (here refl))))

-- of the causes that have a property the one with the lowest number, or none where no cause has it
abbrev pub Lowest : (Cause → Type 0) → Option Cause → Type 0
Lowest B (Some c) = B c × ((d : Cause) → B d → (d ≡ c) ⊎ (number c < number d))
Lowest B None = (d : Cause) → ¬ B d

-- whether a cause has a lower number than each of others
abbrev lower : Cause → List Cause → Bool
lower c ds = foldr (λ d. ◌&&◌ (ltb (number c) (number d))) true ds

-- and then it has
lower_each : (c : Cause) (ds : List Cause) → T (lower c ds) → (d : Cause) → Among d ds → number c < number d
lower_each c [] l d m = absurd (not-nil m)
lower_each c (x ∷ xs) l d m =
    let b = (T-and (ltb (number c) (number x)) (lower c xs)).0 l in
    elim (cases_cons m) [ inl e ↦ rw e ((T-ltb (number c) (number x)).0 b.0) | inr n ↦ lower_each c xs b.1 d n ]

-- A chain of tests in the order of their causes' numbers: where one passes its cause is the lowest that is left, and else the others are left.
chain : (B : Cause → Type 0) (b : Bool) (c : Cause) (ds : List Cause) (o : Option Cause) → T b ↔ B c → T (lower c ds)
    → (((d : Cause) → B d → Among d ds) → Lowest B o) → ((d : Cause) → B d → Among d (c ∷ ds)) → Lowest B (cond b (Some c) o)
chain B true c ds o r l next left = (r.0 tt, λ d x. elim (cases_cons (left d x)) [ inl e ↦ inl e | inr m ↦ inr (lower_each c ds l d m) ])
chain B false c ds o r l next left = next (λ d x. elim (cases_cons (left d x)) [ inl e ↦ absurd (r.1 (subst B e x)) | inr m ↦ m ])

-- the fault of a record is the lowest of the causes whose rules it breaks
pub record_lowest : (p : Terms) (t : Table) (k : ℕ) → Lowest (Breaks p t k) (record_fault p k (depth_at t k) (kind_at t k))
record_lowest p t k =
    chain (Breaks p t k) _ cause.Fact _ _ (fact_rule p t k) tt
    (chain (Breaks p t k) _ cause.Party _ _ (party_rule p t k) tt
    (chain (Breaks p t k) _ cause.Deep _ _ (deep_rule p t k) tt
    (chain (Breaks p t k) _ cause.Knowledge _ _ (knowledge_rule p t k) tt
    (chain (Breaks p t k) _ cause.Child _ _ (child_rule p t k) tt
    (λ left d x. not-nil (left d x))))))
    (one_of p t k)

-- there is only one such cause
pub lowest_only : (B : Cause → Type 0) (o : Option Cause) (c : Cause) → Lowest B o → B c → ((d : Cause) → B d → number c ≤ number d) → o ≡ Some c
lowest_only B (Some d) c l x h = elim (l.1 c x) [ inl e ↦ ap Some (sym e) | inr s ↦ absurd (let g = h d l.0 in omega arith) ]
lowest_only B None c l x h = absurd (l c x)
