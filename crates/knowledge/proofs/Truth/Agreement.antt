-- The law of runs.
use Rattle.std.proofs.Common.{◌≡◌, ℕ, Bool, true, false, T, ◌↔◌, List, sym, ap, ◌∙◌}
use mathlib.Core.Bool.{Bool-set}
use mathlib.Core.List.{Permᴰ}
use mathlib.Core.Logic.Iff
use mathlib.Core.Logic.{∥∥₁_elim, ∥∥₁_map}
use Rattle.knowledge.specs.Tables.Formulas.{Formula}
use Rattle.knowledge.specs.Tables.Tables.{Table, formula}
use Rattle.knowledge.specs.Lists.{Each}
use Rattle.knowledge.specs.Truth.Truth.{start}
use Rattle.knowledge.specs.Truth.Situations.{Setting, sight, Agree, starting, Notice, posted, told_to, Sound, Holds, after_all, opened, stacked}
use Rattle.knowledge.specs.Truth.Rules.{Room, Opening, Answer, said, situation, Call, posts, tells, queries, Allowed, faulty, crowded, filled, answered}
use Rattle.knowledge.specs.Truth.Runs.{Event, is_taken, added, taken_in, Run, opens, next, notices, asked, fates, Plain, AsksWhatIsKnownBy, MustAgree, reordered, unseen, stacking, RunsSound, RunsAgree}
use Rattle.knowledge.proofs.Logic.{same_test}
use Rattle.knowledge.proofs.Truth.Stacks.{stacked-++, after_all-++, after_before}
use Rattle.knowledge.proofs.Truth.Asked.{asks_says}
use Rattle.knowledge.proofs.Truth.Reordering.{permuted, settled}
use Rattle.knowledge.proofs.Truth.Openings.{opened_lawful}
use Rattle.knowledge.proofs.Truth.Knowing.{taken_by_fate, fates_tell, starting_classes, after_sound, known_stays}
use Rattle.knowledge.specs.Sets.{FactSet}

-- a query after a call, and the query with what the call added stacked before it, have one truth
one_unfolds : (o : Opening) (ns : List Notice) (c : Call) (r : Answer) → Allowed o ns c r → (q : Formula)
    → Holds (after_all (situation o ns) (added (is_taken r) c)) q ↔ Holds (situation o ns) (stacked (added (is_taken r) c) q)
one_unfolds o ns c r (faulty f e) q = Iff.rfl
one_unfolds o ns c r (crowded e x) q = Iff.rfl
one_unfolds o ns c r (filled sheet s e x y) q = Iff.rfl
one_unfolds o ns (posts t) r (answered true e x h) q = after_before (situation o ns) (posted (formula t)) q (h.0 tt)
one_unfolds o ns (posts t) r (answered false e x h) q = Iff.rfl
one_unfolds o ns (tells g t) r (answered true e x h) q = after_before (situation o ns) (told_to g (formula t)) q (h.0 tt)
one_unfolds o ns (tells g t) r (answered false e x h) q = Iff.rfl
one_unfolds o ns (queries t) r (answered holds e x h) q = Iff.rfl

-- a query after a run, and the query with the notices taken stacked before it at the opening, have one truth
pub unfolds : (o : Opening) (es : List Event) → Run o es → (q : Formula)
    → Holds (situation o (taken_in es)) q ↔ Holds (opened o.setting o.facts) (stacked (taken_in es) q)
unfolds o es (opens given g l) q = Iff.rfl
unfolds o es (next {es = es'} c r run a) q =
    let ns = taken_in es' in
    let ms = added (is_taken r) c in
    let s = opened o.setting o.facts in
    rw (stacked-++ ns ms q, after_all-++ s ns ms) (Iff.trans (one_unfolds o ns c r a q) (unfolds o es' run (stacked ms q)))

-- a call leaves a sound situation
one_sound : (o : Opening) (ns : List Notice) (c : Call) (r : Answer) → Allowed o ns c r → Sound (situation o ns)
    → Sound (after_all (situation o ns) (added (is_taken r) c))
one_sound o ns c r (faulty f e) h = h
one_sound o ns c r (crowded e x) h = h
one_sound o ns c r (filled sheet s e x y) h = h
one_sound o ns (posts t) r (answered true e x y) h = after_sound (situation o ns) (posted (formula t)) h (y.0 tt)
one_sound o ns (posts t) r (answered false e x y) h = h
one_sound o ns (tells g t) r (answered true e x y) h = after_sound (situation o ns) (told_to g (formula t)) h (y.0 tt)
one_sound o ns (tells g t) r (answered false e x y) h = h
one_sound o ns (queries t) r (answered holds e x y) h = h

-- so does every run
pub runs_sound : RunsSound
runs_sound o es (opens given g l) = (starting_classes o.setting, opened_lawful o given g l)
runs_sound o es (next {es = es'} c r run a) =
    rw (after_all-++ (opened o.setting o.facts) (taken_in es') (added (is_taken r) c)) (one_sound o (taken_in es') c r a (runs_sound o es' run))

-- the answer to a query is the truth
pub truthful : (o : Opening) (ns : List Notice) (q : Table) (holds : Bool) → Allowed o ns (queries q) (said holds)
    → T holds ↔ Holds (situation o ns) (formula q)
truthful o ns q holds (answered y e x h) = h

-- what the one matter is asked is true exactly if what the other is asked is
abbrev OneTruth : Setting → (es₁ es₂ : List Event) → (f₁ f₂ : FactSet) → (q₁ q₂ : Table) → Type 0
OneTruth s es₁ es₂ f₁ f₂ q₁ q₂ =
    Holds (after_all (opened s f₁) (taken_in es₁)) (formula q₁) ↔ Holds (after_all (opened s f₂) (taken_in es₂)) (formula q₂)

-- the case of the same notices in two orders
reordered_truth : (s : Setting) (f : FactSet) (room₁ room₂ : Room) (es₁ es₂ : List Event) (q : Table)
    → Run (record { setting = s; facts = f; room = room₁ }) es₁ → Run (record { setting = s; facts = f; room = room₂ }) es₂
    → Permᴰ (asked es₁) (asked es₂) → Each (Plain s) (notices es₁) → Each (Plain s) (notices es₂) → OneTruth s es₁ es₂ f f q q
reordered_truth s f room₁ room₂ es₁ es₂ q run₁ run₂ perm h₁ h₂ =
    let o₁ : Opening = record { setting = s; facts = f; room = room₁ } in
    let o₂ : Opening = record { setting = s; facts = f; room = room₂ } in
    let x = settled o₁ es₁ run₁ h₁ in
    let y = settled o₂ es₂ run₂ h₂ in
    let a = opened s f in
    let stacks : Holds a (stacked (taken_in es₁) (formula q)) ↔ Holds a (stacked (taken_in es₂) (formula q)) =
    rw (x.1, y.1) (permuted s f perm x.0 y.0 (formula q) a.model a.actual) in
    Iff.trans (unfolds o₁ es₁ run₁ (formula q)) (Iff.trans stacks (Iff.symm (unfolds o₂ es₂ run₂ (formula q))))

-- the case of a query on what a party knows, and facts that agree on what it sees
unseen_truth : (s : Setting) (f₁ f₂ : FactSet) (es₁ es₂ : List Event) (q : Table) (i : ℕ) → Agree (sight s i) f₁ f₂ → fates es₁ ≡ fates es₂
    → AsksWhatIsKnownBy i q → OneTruth s es₁ es₂ f₁ f₂ q q
unseen_truth s f₁ f₂ es₁ es₂ q i a e k =
    let ns : taken_in es₂ ≡ taken_in es₁ = fates_tell es₂ ∙ (ap taken_by_fate (sym e) ∙ sym (fates_tell es₁)) in
    rw ns (known_stays (starting s) i (start f₁) (start f₂) (taken_in es₁) (formula q) (starting_classes s) a (asks_says i q k))

-- in each of the three cases; a permutation is known only to exist, and so is the equivalence
one_truth : (s : Setting) (es₁ es₂ : List Event) (f₁ f₂ : FactSet) (q₁ q₂ : Table) (room₁ room₂ : Room)
    → Run (record { setting = s; facts = f₁; room = room₁ }) es₁ → Run (record { setting = s; facts = f₂; room = room₂ }) es₂
    → MustAgree s es₁ es₂ f₁ f₂ q₁ q₂ → ∥ OneTruth s es₁ es₂ f₁ f₂ q₁ q₂ ∥₁
one_truth s es₁ es₂ f₁ f₂ q₁ q₂ room₁ room₂ run₁ run₂ (reordered f q perm h₁ h₂) =
    ∥∥₁_map {B = OneTruth s es₁ es₂ f f q q} perm (λ d. reordered_truth s f room₁ room₂ es₁ es₂ q run₁ run₂ d h₁ h₂)
one_truth s es₁ es₂ f₁ f₂ q₁ q₂ room₁ room₂ run₁ run₂ (unseen i g₁ g₂ q a e k) = ∣ unseen_truth s g₁ g₂ es₁ es₂ q i a e k ∣₁
one_truth s es₁ es₂ f₁ f₂ q₁ q₂ room₁ room₂ run₁ run₂ (stacking f r₁ r₂ n t) =
    ∣ rw (n, t) (unfolds (record { setting = s; facts = f; room = room₁ }) es₁ run₁ (formula r₁)) ∣₁

-- the law of runs
pub runs_agree : RunsAgree
runs_agree s f₁ f₂ room₁ room₂ es₁ es₂ q₁ q₂ says₁ says₂ run₁ run₂ said₁ said₂ case =
    let t₁ = truthful (record { setting = s; facts = f₁; room = room₁ }) (taken_in es₁) q₁ says₁ said₁ in
    let t₂ = truthful (record { setting = s; facts = f₂; room = room₂ }) (taken_in es₂) q₂ says₂ said₂ in (
      ∥∥₁_elim (one_truth s es₁ es₂ f₁ f₂ q₁ q₂ room₁ room₂ run₁ run₂ case) (Bool-set says₁ says₂)
          (λ (t : OneTruth s es₁ es₂ f₁ f₂ q₁ q₂). same_test says₁ says₂ (Iff.trans t₁ (Iff.trans t (Iff.symm t₂)))),
      t₁,
      t₂,
    )
