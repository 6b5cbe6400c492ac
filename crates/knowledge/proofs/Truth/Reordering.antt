-- The same notices in two orders, where none mentions knowledge.
use Rattle.std.proofs.Common.{◌≡◌, Bool, true, false, cond, T, ◌↔◌, List, [], ◌∷◌, ◌++◌, length, Some, None, sym, refl, ap, ◌∙◌, subst, append-nil}
use mathlib.Core.List.{Permᴰ}
use mathlib.Core.Logic.Iff
use Rattle.knowledge.specs.declared.fault.Cause.TheVariants.{Party}
use Rattle.knowledge.specs.Faults.{in_matter}
use Rattle.knowledge.specs.Tables.Formulas.{Formula}
use Rattle.knowledge.specs.Tables.Tables.{Table, formula}
use Rattle.knowledge.specs.Sets.{FactSet, is_present}
use Rattle.knowledge.specs.Tables.Check.{check}
use Rattle.knowledge.specs.Lists.{Each}
use Rattle.knowledge.specs.Truth.Truth.{start, True}
use Rattle.knowledge.specs.Truth.Situations.{Setting, blank, Notice, Holds, opened, stacked}
use Rattle.knowledge.specs.Truth.Rules.{Opening, Answer, terms, situation, Call, posts, tells, queries, table_of, fault_of, reply, Allowed, faulty, crowded, filled, answered}
use Rattle.knowledge.specs.Truth.Runs.{Event, is_notice, is_taken, added, taken_in, Run, opens, next, notices, asked, Plain}
use Rattle.knowledge.proofs.Logic.{same_test, some_not_none}
use Rattle.knowledge.proofs.Truth.Stacks.{Silent, facts_decide, Equivalent, stacked_equivalent, Quiet, commutes, stacked-++, after_all_facts}

-- what makes a matter with these facts take a notice that does not mention knowledge, if it has room
abbrev Takes : Setting → FactSet → Call → Type 0
Takes s f c = (fault_of s c ≡ None) × True (formula (table_of c)) blank (start f)

-- whether a notice was taken is decided by the plan and the facts, and what it added does not mention knowledge
abbrev Decided : Setting → FactSet → Call → Bool → Type 0
Decided s f c b = (T b ↔ Takes s f c) × Each Quiet (added b c)

-- what does not mention knowledge is true after notices exactly if it is true of the facts
silent_truth : (o : Opening) (ns : List Notice) (a : Formula) → Silent a → Holds (situation o ns) a ↔ True a blank (start o.facts)
silent_truth o ns a q =
    facts_decide a q (situation o ns).model blank (situation o ns).actual (start o.facts) (after_all_facts (opened o.setting o.facts) ns)

-- the table of a call without a fault passes the check
faultless_checks : (s : Setting) (c : Call) → fault_of s c ≡ None → check (terms false s) (table_of c) ≡ None
faultless_checks s (posts t) e = e
faultless_checks s (tells g t) e = go (is_present (length s.sights) g) e
  where
    go : (b : Bool) → cond b (check (terms false s) t) (Some (in_matter Party)) ≡ None → check (terms false s) t ≡ None
    go true e = e
    go false e = some_not_none (Some (in_matter Party)) (in_matter Party) refl e
faultless_checks s (queries t) e = e

-- what a call adds does not mention knowledge if its formula does not
added_quiet : (c : Call) (b : Bool) → Silent (formula (table_of c)) → Each Quiet (added b c)
added_quiet (posts t) true q = (q, tt)
added_quiet (tells g t) true q = (q, tt)
added_quiet (queries t) true q = tt
added_quiet c false q = tt

-- a notice is taken exactly if its formula is true
reply_taken : (c : Call) (holds : Bool) → T (is_notice c) → is_taken (reply c holds) ≡ holds
reply_taken (posts t) true n = refl
reply_taken (posts t) false n = refl
reply_taken (tells g t) true n = refl
reply_taken (tells g t) false n = refl
reply_taken (queries t) holds n = absurd n

-- a plain notice is decided by the plan and the facts
decided : (o : Opening) (ns : List Notice) (c : Call) (r : Answer) → T (is_notice c) → Allowed o ns c r → Plain o.setting (record { call = c; answer = r })
    → Decided o.setting o.facts c (is_taken r)
decided o ns c r n (faulty f e) p = ((λ x. absurd x, λ k. some_not_none (fault_of o.setting c) f e k.0), tt)
decided o ns c r n (crowded e x) p = absurd (p.not_marks refl)
decided o ns c r n (filled sheet s e x y) p = absurd (p.not_full sheet refl)
decided o ns c r n (answered holds e x h) p =
    let q : Silent (formula (table_of c)) = p.no_knowledge (faultless_checks o.setting c e) in
    let t = Iff.trans h (silent_truth o ns (formula (table_of c)) q) in
    subst (Decided o.setting o.facts c) (sym (reply_taken c holds n)) ((λ y. (e, t.0 y), λ k. t.1 k.1), added_quiet c holds q)

-- each call has been decided
abbrev pub Settled : Setting → FactSet → List Call → Type 0
Settled s f cs = Each (λ c. (b : Bool) × Decided s f c b) cs

-- the notices taken among calls whose latest stands first
abbrev pub taken_of : (s : Setting) (f : FactSet) (cs : List Call) → Settled s f cs → List Notice
taken_of s f [] x = []
taken_of s f (c ∷ cs) x = taken_of s f cs x.1 ++ added x.0.0 c

-- two decisions on one call are the same
same_added : (s : Setting) (f : FactSet) (c d : Call) (b b' : Bool) → c ≡ d → Decided s f c b → Decided s f d b' → added b c ≡ added b' d
same_added s f c d b b' e x =
    subst (λ (y : Call). Decided s f y b' → added b c ≡ added b' y) e
    (λ y. ap (λ (z : Bool). added z c) (same_test b b' (Iff.trans x.0 (Iff.symm y.0))))

-- two decisions on each of some calls leave the same notices taken
same_taken : (s : Setting) (f : FactSet) (cs : List Call) (x y : Settled s f cs) → taken_of s f cs x ≡ taken_of s f cs y
same_taken s f [] x y = refl
same_taken s f (c ∷ cs) x y =
    let e = same_taken s f cs x.1 y.1 in
    let d = same_added s f c c x.0.0 y.0.0 refl x.0.1 y.0.1 in
    λ i. e i ++ d i

-- the two lists of notices may be stacked in each other's place
abbrev pub Exchangeable : List Notice → List Notice → Type 1
Exchangeable ns ms = (q : Formula) → Equivalent (stacked ns q) (stacked ms q)

-- exchangeable notices may be followed by the same ones
extended : (ns ms ks ls : List Notice) → Exchangeable ns ms → ks ≡ ls → Exchangeable (ns ++ ks) (ms ++ ls)
extended ns ms ks ls x e q m w = rw (stacked-++ ns ks q, stacked-++ ms ls q, ← e) (x (stacked ks q) m w)

-- the last two groups of notices may change places if they do not mention knowledge
swapped : (ns ms ks ls ks' ls' : List Notice) → ns ≡ ms → ks ≡ ks' → ls ≡ ls' → Each Quiet ks → Each Quiet ls
    → Exchangeable ((ns ++ ls) ++ ks) ((ms ++ ks') ++ ls')
swapped ns ms ks ls ks' ls' e f g u v q m w =
    subst (λ (l : List Notice). True (stacked ((ns ++ ls) ++ ks) q) m w ↔ True (stacked l q) m w) (λ i. (e i ++ f i) ++ g i)
    (rw (stacked-++ (ns ++ ls) ks q, stacked-++ ns ls (stacked ks q), stacked-++ (ns ++ ks) ls q, stacked-++ ns ks (stacked ls q))
    (stacked_equivalent ns (stacked ls (stacked ks q)) (stacked ks (stacked ls q)) (commutes ls ks q v u) m w))

-- a permutation carries a property of each member
each_permuted : {A : Type 0} (P : A → Type 0) {xs ys : List A} → Permᴰ xs ys → Each P xs → Each P ys
each_permuted P Permᴰ.nil h = h
each_permuted P (Permᴰ.cons e d) h = (subst P e h.0, each_permuted P d h.1)
each_permuted P (Permᴰ.swap e f) h = (subst P f h.1.0, (subst P e h.0, h.1.1))
each_permuted P (Permᴰ.trans d e) h = each_permuted P e (each_permuted P d h)

-- the notices taken among the same calls in two orders are exchangeable
pub permuted : (s : Setting) (f : FactSet) {cs ds : List Call} → Permᴰ cs ds → (x : Settled s f cs) (y : Settled s f ds)
    → Exchangeable (taken_of s f cs x) (taken_of s f ds y)
permuted s f Permᴰ.nil x y q m w = Iff.rfl
permuted s f (Permᴰ.cons {a = c} {b = c'} {l₁ = cs} {l₂ = ds} e d) x y q m w =
    extended (taken_of s f cs x.1) (taken_of s f ds y.1) (added x.0.0 c) (added y.0.0 c')
    (permuted s f d x.1 y.1) (same_added s f c c' x.0.0 y.0.0 e x.0.1 y.0.1) q m w
permuted s f (Permᴰ.swap {a = c} {b = d} {a' = d'} {b' = c'} {l = cs} e h) x y q m w =
    swapped (taken_of s f cs x.1.1) (taken_of s f cs y.1.1)
    (added x.0.0 c) (added x.1.0.0 d) (added y.1.0.0 c') (added y.0.0 d')
    (same_taken s f cs x.1.1 y.1.1)
    (same_added s f c c' x.0.0 y.1.0.0 e x.0.1 y.1.0.1)
    (same_added s f d d' x.1.0.0 y.0.0 h x.1.0.1 y.0.1)
    x.0.1.1 x.1.0.1.1 q m w
permuted s f (Permᴰ.trans {l₂ = cs} d e) x y q m w =
    let z : Settled s f cs = each_permuted (λ c. (b : Bool) × Decided s f c b) d x in
    Iff.trans (permuted s f d x z q m w) (permuted s f e z y q m w)

-- a query adds no notice
pub query_adds_nothing : (ns : List Notice) (b : Bool) (t : Table) → ns ++ added b (queries t) ≡ ns
query_adds_nothing ns true t = append-nil ns
query_adds_nothing ns false t = append-nil ns

-- the notices of a run that has only plain ones are decided, and the taken ones are those so decided
pub settled : (o : Opening) (es : List Event) → Run o es → Each (Plain o.setting) (notices es)
    → (x : Settled o.setting o.facts (asked es)) × (taken_in es ≡ taken_of o.setting o.facts (asked es) x)
settled o es (opens given g l) h = (tt, refl)
settled o es (next {es = es'} (posts t) r run a) h =
    let x = settled o es' run h.1 in
    (((is_taken r, decided o (taken_in es') (posts t) r tt a h.0), x.0), ap (λ (ns : List Notice). ns ++ added (is_taken r) (posts t)) x.1)
settled o es (next {es = es'} (tells g t) r run a) h =
    let x = settled o es' run h.1 in
    (((is_taken r, decided o (taken_in es') (tells g t) r tt a h.0), x.0), ap (λ (ns : List Notice). ns ++ added (is_taken r) (tells g t)) x.1)
settled o es (next {es = es'} (queries t) r run a) h =
    let x = settled o es' run h in
    (x.0, query_adds_nothing (taken_in es') (is_taken r) t ∙ x.1)
