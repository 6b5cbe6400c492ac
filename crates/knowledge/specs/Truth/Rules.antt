-- How a matter answers: which answers each call may get.
use Rattle.std.specs.Prelude.{◌≡◌, ℕ, ◌+◌, ◌<◌, max, Bool, true, false, cond, T, ◌⊎◌, ◌↔◌, List, [], ◌∷◌, length, Some, None, Option}
use Rattle.knowledge.specs.declared.fault.Cause.TheVariants.{Fact, Party, Width, Lawless, Marks, Untrue, Full}
use Rattle.knowledge.specs.declared.fault.Fault.{Fault}
use Rattle.knowledge.specs.Faults.{in_matter, in_board}
use Rattle.knowledge.specs.Sets.{FactSet, Group, in_facts, is_present, listed, all_between}
use Rattle.knowledge.specs.Tables.Tables.{Table, formula, need}
use Rattle.knowledge.specs.declared.survey.Terms.{Terms}
use Rattle.knowledge.specs.Tables.Check.{check}
use Rattle.knowledge.specs.Truth.Truth.{start}
use Rattle.knowledge.specs.Truth.Situations.{Setting, KeepsLaw, Lawful, Notice, posted, told_to, Situation, Holds, after_all, opened}

-- what a matter relies on of its board: the width, and how many places never fill it
pub record Room : Type 0 where
  pub width : ℕ
  pub sure : ℕ

-- what a matter is opened with
pub record Opening : Type 0 where
  pub setting : Setting
  pub facts : FactSet
  pub room : Room

-- what a matter answers: a notice or an opening taken, a yes or no to a query, or a refusal
pub data Answer : Type 0 where
  taken : Answer
  said : Bool → Answer
  refused : Fault → Answer

-- what a table is checked against, as a law or as any other formula
abbrev pub terms : (in_law : Bool) → Setting → Terms
terms in_law s = record { facts = s.facts; parties = length s.sights; in_law = in_law }

-- the facts are those of the given numbers, and no others
abbrev pub Gives : List ℕ → FactSet → Type 0
Gives given facts = (n : ℕ) → in_facts facts n ≡ listed n given

-- what is wrong with the law
abbrev pub law_fault : Opening → Option Fault
law_fault o = check (terms true o.setting) o.setting.law

-- whether each given fact is one of the plan's
abbrev pub all_known : Opening → List ℕ → Bool
all_known o given = all_between 1 o.setting.facts given

-- the board has fewer places than there are facts
abbrev pub Narrow : Opening → Type 0
Narrow o = o.room.width < o.setting.facts

-- there are more facts than the board can surely hold
abbrev pub Unsure : Opening → Type 0
Unsure o = o.room.sure < o.setting.facts

-- The answers that an opening may get where facts of these numbers are given. The rules stand in their order, and each wants that none before it refused.
pub data OpenAnswered (o : Opening) (given : List ℕ) : Answer → Type 0 where
  -- the law does not pass the check
  law_faulty : (f : Fault) → law_fault o ≡ Some f → OpenAnswered o given (refused f)
  -- a given fact is none of the plan's
  fact_unknown : law_fault o ≡ None → all_known o given ≡ false → OpenAnswered o given (refused (in_matter Fact))
  -- the board has too few places
  too_narrow : law_fault o ≡ None → all_known o given ≡ true → Narrow o → OpenAnswered o given (refused (in_matter Width))
  -- the board fills, which it does only beyond what it can surely hold; this may come in the place of the two that follow, and which sheet is told is free
  fills : (sheet : ℕ) → sheet < 64 → law_fault o ≡ None → all_known o given ≡ true → ¬ Narrow o → Unsure o
      → OpenAnswered o given (refused (in_board Full sheet))
  -- the facts break the law
  breaks_law : law_fault o ≡ None → all_known o given ≡ true → ¬ Narrow o → ¬ KeepsLaw o.setting o.facts
      → OpenAnswered o given (refused (in_matter Lawless))
  -- none of these
  opens_well : law_fault o ≡ None → all_known o given ≡ true → ¬ Narrow o → KeepsLaw o.setting o.facts → OpenAnswered o given taken

-- the situation of a matter that has taken these notices since its opening, the first first
abbrev pub situation : Opening → List Notice → Situation
situation o ns = after_all (opened o.setting o.facts) ns

-- how many tells are among notices
abbrev pub tells_in : List Notice → ℕ
tells_in [] = 0
tells_in (posted a ∷ ns) = tells_in ns
tells_in (told_to g a ∷ ns) = 1 + tells_in ns

-- no room for the marks of the tells so far and n more: above 8 of them, or past the board's width
abbrev pub Crowded : Opening → List Notice → ℕ → Type 0
Crowded o ns n = (8 < tells_in ns + n) ⊎ (o.room.width < o.setting.facts + (tells_in ns + n))

-- beyond what the board can surely hold
abbrev pub Doubtful : Opening → List Notice → ℕ → Type 0
Doubtful o ns n = o.room.sure < o.setting.facts + (tells_in ns + n)

-- the calls that a matter gets after its opening
pub data Call : Type 0 where
  posts : Table → Call
  tells : Group → Table → Call
  queries : Table → Call

-- the table that a call comes with
abbrev pub table_of : Call → Table
table_of (posts t) = t
table_of (tells g t) = t
table_of (queries t) = t

-- what is wrong with a call whatever the matter holds: for a tell its group, then the table
abbrev pub fault_of : Setting → Call → Option Fault
fault_of s (posts t) = check (terms false s) t
fault_of s (tells g t) = cond (is_present (length s.sights) g) (check (terms false s) t) (Some (in_matter Party))
fault_of s (queries t) = check (terms false s) t

-- how many marks a call needs
abbrev pub marks_needed : Call → ℕ
marks_needed (posts t) = need t
marks_needed (tells g t) = max 1 (need t)
marks_needed (queries t) = need t

-- the answer to a call whose formula is true, and to one whose formula is not
abbrev pub reply : Call → (holds : Bool) → Answer
reply (posts t) true = taken
reply (posts t) false = refused (in_matter Untrue)
reply (tells g t) true = taken
reply (tells g t) false = refused (in_matter Untrue)
reply (queries t) holds = said holds

-- The answers that a call may get from a matter of this opening that has taken these notices. The rules stand in their order.
pub data Allowed (o : Opening) (ns : List Notice) (c : Call) : Answer → Type 0 where
  -- the group or the table is at fault
  faulty : (f : Fault) → fault_of o.setting c ≡ Some f → Allowed o ns c (refused f)
  -- there is no room for the marks
  crowded : fault_of o.setting c ≡ None → Crowded o ns (marks_needed c) → Allowed o ns c (refused (in_matter Marks))
  -- the board fills, which it does only beyond what it can surely hold; this may come in the place of what follows, and which sheet is told is free
  filled : (sheet : ℕ) → sheet < 64 → fault_of o.setting c ≡ None → ¬ Crowded o ns (marks_needed c) → Doubtful o ns (marks_needed c)
      → Allowed o ns c (refused (in_board Full sheet))
  -- the formula is true, or it is not
  answered : (holds : Bool) → fault_of o.setting c ≡ None → ¬ Crowded o ns (marks_needed c)
      → (T holds ↔ Holds (situation o ns) (formula (table_of c))) → Allowed o ns c (reply c holds)

-- every opening gets an answer, whatever numbers are given
abbrev pub OpensAnswered : Type 0
OpensAnswered = (o : Opening) (given : List ℕ) → (r : Answer) × OpenAnswered o given r

-- and only one, within what the board can surely hold
abbrev pub OpensSettled : Type 0
OpensSettled =
    (o : Opening) (given : List ℕ) (r r' : Answer) → ¬ Unsure o → OpenAnswered o given r → OpenAnswered o given r' → r ≡ r'

-- the facts of a taken opening are a world of the start
abbrev pub OpensLawful : Type 0
OpensLawful = (o : Opening) (given : List ℕ) → Gives given o.facts → OpenAnswered o given taken → Lawful o.setting (start o.facts)

-- every call gets an answer
abbrev pub CallsAnswered : Type 0
CallsAnswered = (o : Opening) (ns : List Notice) (c : Call) → (r : Answer) × Allowed o ns c r

-- and only one, within what the board can surely hold
abbrev pub AnswersSettled : Type 0
AnswersSettled =
    (o : Opening) (ns : List Notice) (c : Call) (r r' : Answer)
    → ¬ Doubtful o ns (marks_needed c) → Allowed o ns c r → Allowed o ns c r' → r ≡ r'
