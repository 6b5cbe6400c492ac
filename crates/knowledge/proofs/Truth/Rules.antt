-- Every call gets an answer, and only one within what the board can surely hold.
use Rattle.std.proofs.Common.{◌≡◌, ℕ, ◌+◌, Bool, true, false, ◌||◌, T, ltb, ◌↔◌, List, [], ◌∷◌, map, Some, None, Option, sym, refl, ◌∙◌, subst}
use mathlib.Core.Logic.Iff
use Rattle.knowledge.specs.declared.fault.Cause.TheVariants.{Marks}
use Rattle.knowledge.specs.declared.fault.Fault.{Fault}
use Rattle.knowledge.specs.Faults.{in_matter}
use Rattle.knowledge.specs.Tables.Tables.{in_order, formula}
use Rattle.knowledge.specs.Tables.Check.{first_fault, check}
use Rattle.knowledge.specs.Truth.Situations.{Notice, Holds}
use Rattle.knowledge.specs.Truth.Rules.{Opening, Answer, taken, refused, Gives, OpenAnswered, situation, tells_in, Crowded, Doubtful, Call, table_of, fault_of, marks_needed, reply, Allowed, faulty, crowded, filled, answered, CallsAnswered, AnswersSettled}
use Rattle.knowledge.specs.Truth.Runs.{Event, taken_in, Run, opens, next}
use Rattle.knowledge.specs.Truth.Script.{both_facts, example, script, ScriptRuns}
use Rattle.knowledge.proofs.Logic.{⊎-iff, same_test, passes, fails}
use Rattle.knowledge.proofs.Tests.{T-or, T-ltb}
use Rattle.knowledge.proofs.Truth.Decision.{true_after, true_after_decides, keeps_law}
use Rattle.knowledge.proofs.Numbered.{fact_set_gives}
use Rattle.knowledge.proofs.Truth.Openings.{open_allowed}

-- whether a matter has no room for n more marks
abbrev pub is_crowded : Opening → List Notice → ℕ → Bool
is_crowded o ns n = ltb 8 (tells_in ns + n) || ltb o.room.width (o.setting.facts + (tells_in ns + n))

-- the test of room decides whether there is any
T-is_crowded : (o : Opening) (ns : List Notice) (n : ℕ) → T (is_crowded o ns n) ↔ Crowded o ns n
T-is_crowded o ns n =
    Iff.trans (T-or (ltb 8 (tells_in ns + n)) (ltb o.room.width (o.setting.facts + (tells_in ns + n))))
    (⊎-iff (T-ltb 8 (tells_in ns + n)) (T-ltb o.room.width (o.setting.facts + (tells_in ns + n))))

-- the answer to a call where the board does not fill, by the fault of the call and by whether there is no room and the formula is true
abbrev pub answer_by : Call → Option Fault → (full holds : Bool) → Answer
answer_by c (Some f) full holds = refused f
answer_by c None true holds = refused (in_matter Marks)
answer_by c None false holds = reply c holds

-- whether the formula of a call is true
abbrev pub is_true : Opening → List Notice → Call → Bool
is_true o ns c = true_after o.setting o.facts ns (formula (table_of c))

-- and what that test decides
T-is_true : (o : Opening) (ns : List Notice) (c : Call) → T (is_true o ns c) ↔ Holds (situation o ns) (formula (table_of c))
T-is_true o ns c = true_after_decides o.setting o.facts ns (formula (table_of c))

-- the answer of a matter whose board does not fill
abbrev pub answer_to : Opening → List Notice → Call → Answer
answer_to o ns c = answer_by c (fault_of o.setting c) (is_crowded o ns (marks_needed c)) (is_true o ns c)

-- that answer is allowed
pub answer_allowed : (o : Opening) (ns : List Notice) (c : Call) → Allowed o ns c (answer_to o ns c)
answer_allowed o ns c = go (fault_of o.setting c) (is_crowded o ns (marks_needed c)) refl refl
  where
    go : (f : Option Fault) (full : Bool) → fault_of o.setting c ≡ f → is_crowded o ns (marks_needed c) ≡ full
        → Allowed o ns c (answer_by c f full (is_true o ns c))
    go (Some f) full e d = faulty f e
    go None true e d = crowded e ((T-is_crowded o ns (marks_needed c)).0 (subst T (sym d) tt))
    go None false e d = answered (is_true o ns c) e (λ x. subst T d ((T-is_crowded o ns (marks_needed c)).1 x)) (T-is_true o ns c)

-- every call gets an answer
pub calls_answered : CallsAnswered
calls_answered o ns c = (answer_to o ns c, answer_allowed o ns c)

-- and no other, within what the board can surely hold
answer_only : (o : Opening) (ns : List Notice) (c : Call) (r : Answer) → ¬ Doubtful o ns (marks_needed c) → Allowed o ns c r → r ≡ answer_to o ns c
answer_only o ns c r sure (faulty f e) = rw e
answer_only o ns c r sure (crowded e x) = rw (e, passes (is_crowded o ns (marks_needed c)) ((T-is_crowded o ns (marks_needed c)).1 x))
answer_only o ns c r sure (filled sheet s e x d) = absurd (sure d)
answer_only o ns c r sure (answered holds e x h) =
    let same : holds ≡ is_true o ns c = same_test holds (is_true o ns c) (Iff.trans h (Iff.symm (T-is_true o ns c))) in
    rw (e, fails (is_crowded o ns (marks_needed c)) (λ t. x ((T-is_crowded o ns (marks_needed c)).0 t)), same)

-- a call gets only one answer, within what the board can surely hold
pub answers_settled : AnswersSettled
answers_settled o ns c r r' sure a b = answer_only o ns c r sure a ∙ sym (answer_only o ns c r' sure b)

-- the history that calls make, the latest first, where the board does not fill
abbrev pub history : Opening → List Call → List Event
history o [] = []
history o (c ∷ cs) = let es = history o cs in record { call = c; answer = answer_to o (taken_in es) c } ∷ es

-- that history is a run
pub history_runs : (o : Opening) (given : List ℕ) (cs : List Call) → Gives given o.facts → OpenAnswered o given taken → Run o (history o cs)
history_runs o given [] g a = opens given g a
history_runs o given (c ∷ cs) g a =
    next c (answer_to o (taken_in (history o cs)) c) (history_runs o given cs g a) (answer_allowed o (taken_in (history o cs)) c)

-- the example script is a run, with its opening
pub script_runs : ScriptRuns
unfolding true_after keeps_law formula in_order check first_fault
script_runs =
    let g : Gives both_facts example.facts = fact_set_gives 2 both_facts refl in
    let a : OpenAnswered example both_facts taken = open_allowed example both_facts in
    (g, a, history_runs example both_facts (map (λ e. e.call) script) g a)
