-- Every opening gets an answer, and only one within what the board can surely hold.
use Rattle.std.proofs.Common.{◌≡◌, ℕ, Bool, true, false, T, ltb, ◌↔◌, List, Some, None, Option, sym, refl, ◌∙◌, subst}
use Rattle.knowledge.specs.declared.fault.Cause.TheVariants.{Fact, Width, Lawless}
use Rattle.knowledge.specs.declared.fault.Fault.{Fault}
use Rattle.knowledge.specs.Faults.{in_matter}
use Rattle.knowledge.specs.Truth.Truth.{start}
use Rattle.knowledge.specs.Truth.Situations.{KeepsLaw, Lawful}
use Rattle.knowledge.specs.Truth.Rules.{Opening, Answer, taken, refused, Gives, law_fault, all_known, Narrow, Unsure, OpenAnswered, law_faulty, fact_unknown, too_narrow, fills, breaks_law, opens_well, OpensAnswered, OpensSettled}
use Rattle.knowledge.proofs.Logic.{passes, fails}
use Rattle.knowledge.proofs.Tests.{T-ltb}
use Rattle.knowledge.proofs.Numbered.{listed_between}
use Rattle.knowledge.proofs.Truth.Decision.{keeps_law, keeps_law_decides}

-- the answer to an opening whose board does not fill, by the fault of its law and by whether its facts are known, its board narrow and its facts lawful
abbrev pub opening_by : Option Fault → (known narrow lawful : Bool) → Answer
opening_by (Some f) known narrow lawful = refused f
opening_by None false narrow lawful = refused (in_matter Fact)
opening_by None true true lawful = refused (in_matter Width)
opening_by None true false false = refused (in_matter Lawless)
opening_by None true false true = taken

-- whether the board has fewer places than there are facts
abbrev pub is_narrow : Opening → Bool
is_narrow o = ltb o.room.width o.setting.facts

-- and what that test decides
T-is_narrow : (o : Opening) → T (is_narrow o) ↔ Narrow o
T-is_narrow o = T-ltb o.room.width o.setting.facts

-- the answer to an opening whose board does not fill
abbrev pub open_answer : Opening → List ℕ → Answer
open_answer o given = opening_by (law_fault o) (all_known o given) (is_narrow o) (keeps_law o.setting o.facts)

-- that answer is allowed
pub open_allowed : (o : Opening) (given : List ℕ) → OpenAnswered o given (open_answer o given)
open_allowed o given = go (law_fault o) (all_known o given) (is_narrow o) (keeps_law o.setting o.facts) refl refl refl refl
  where
    wide : is_narrow o ≡ false → ¬ Narrow o
    wide e h = subst T e ((T-is_narrow o).1 h)

    law : T (keeps_law o.setting o.facts) ↔ KeepsLaw o.setting o.facts
    law = keeps_law_decides o.setting o.facts

    go : (f : Option Fault) (known narrow lawful : Bool)
        → law_fault o ≡ f → all_known o given ≡ known → is_narrow o ≡ narrow → keeps_law o.setting o.facts ≡ lawful
        → OpenAnswered o given (opening_by f known narrow lawful)
    go (Some f) known narrow lawful e k n l = law_faulty f e
    go None false narrow lawful e k n l = fact_unknown e k
    go None true true lawful e k n l = too_narrow e k ((T-is_narrow o).0 (subst T (sym n) tt))
    go None true false false e k n l = breaks_law e k (wide n) (λ h. subst T l (law.1 h))
    go None true false true e k n l = opens_well e k (wide n) (law.0 (subst T (sym l) tt))

-- every opening gets an answer
pub opens_answered : OpensAnswered
opens_answered o given = (open_answer o given, open_allowed o given)

-- and no other, within what the board can surely hold
open_answer_only : (o : Opening) (given : List ℕ) (r : Answer) → ¬ Unsure o → OpenAnswered o given r → r ≡ open_answer o given
open_answer_only o given r sure (law_faulty f e) = rw e
open_answer_only o given r sure (fact_unknown e k) = rw (e, k)
open_answer_only o given r sure (too_narrow e k n) = rw (e, k, passes (is_narrow o) ((T-is_narrow o).1 n))
open_answer_only o given r sure (fills sheet s e k n d) = absurd (sure d)
open_answer_only o given r sure (breaks_law e k n b) =
    let l = fails (keeps_law o.setting o.facts) (λ t. b ((keeps_law_decides o.setting o.facts).0 t)) in
    rw (e, k, fails (is_narrow o) (λ t. n ((T-is_narrow o).0 t)), l)
open_answer_only o given r sure (opens_well e k n h) =
    let l = passes (keeps_law o.setting o.facts) ((keeps_law_decides o.setting o.facts).1 h) in
    rw (e, k, fails (is_narrow o) (λ t. n ((T-is_narrow o).0 t)), l)

-- an opening gets only one answer, within what the board can surely hold
pub opens_settled : OpensSettled
opens_settled o given r r' sure a b = open_answer_only o given r sure a ∙ sym (open_answer_only o given r' sure b)

-- a taken opening has a world of the start as its actual world
pub opened_lawful : (o : Opening) (given : List ℕ) → Gives given o.facts → OpenAnswered o given taken → Lawful o.setting (start o.facts)
opened_lawful o given g (opens_well e k n h) = (λ p t. (listed_between 1 o.setting.facts given p k (subst T (g p) t)).1, h)
