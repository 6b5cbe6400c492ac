-- Runs of a matter, and what two runs have in common.
use Rattle.std.specs.Prelude.{◌≡◌, ℕ, Bool, true, false, T, ◌≢◌, ◌↔◌, List, [], ◌∷◌, ◌++◌, map, None}
use mathlib.Core.List.{Perm}
use Rattle.knowledge.specs.declared.fault.Cause.TheVariants.{Marks, Full}
use Rattle.knowledge.specs.declared.table.Kind.TheVariants.{Knows, KnowsWhether}
use Rattle.knowledge.specs.Faults.{in_matter, in_board}
use Rattle.knowledge.specs.Tables.Formulas.{MentionsKnowledge}
use Rattle.knowledge.specs.Tables.Tables.{Table, last_record, formula}
use Rattle.knowledge.specs.Tables.Check.{check}
use Rattle.knowledge.specs.Lists.{Each}
use Rattle.knowledge.specs.Truth.Situations.{Setting, sight, Agree, Notice, posted, told_to, Sound, Holds, stacked}
use Rattle.knowledge.specs.Truth.Rules.{Room, Opening, Answer, taken, said, refused, terms, Gives, OpenAnswered, situation, Call, posts, tells, queries, table_of, Allowed}
use Rattle.knowledge.specs.Sets.{FactSet}

-- one call with its answer
pub record Event : Type 0 where
  pub call : Call
  pub answer : Answer

-- a notice is a post with its table, or a tell with its group and table
abbrev pub is_notice : Call → Bool
is_notice (posts t) = true
is_notice (tells g t) = true
is_notice (queries t) = false

-- whether an answer says that a notice was taken
abbrev pub is_taken : Answer → Bool
is_taken taken = true
is_taken (said b) = false
is_taken (refused f) = false

-- what a call adds to the notices taken
abbrev pub added : (was_taken : Bool) → Call → List Notice
added false c = []
added true (posts t) = posted (formula t) ∷ []
added true (tells g t) = told_to g (formula t) ∷ []
added true (queries t) = []

-- the notices taken in a history whose latest event stands first; here the first taken stands first
abbrev pub taken_in : List Event → List Notice
taken_in [] = []
taken_in (e ∷ es) = taken_in es ++ added (is_taken e.answer) e.call

-- the history of a matter since a taken opening, the latest event first
pub data Run (o : Opening) : List Event → Type 0 where
  opens : (given : List ℕ) → Gives given o.facts → OpenAnswered o given taken → Run o []
  next : {es : List Event} (c : Call) (r : Answer) → Run o es → Allowed o (taken_in es) c r → Run o (record { call = c; answer = r } ∷ es)

-- after every run the situation is sound
abbrev pub RunsSound : Type 0
RunsSound = (o : Opening) (es : List Event) → Run o es → Sound (situation o (taken_in es))

-- the events of a history that are notices, taken or refused
abbrev pub notices : List Event → List Event
notices [] = []
notices (e ∷ es) = elim (is_notice e.call) [ true ↦ e ∷ notices es | false ↦ notices es ]

-- the notices of a history as they were asked for
abbrev pub asked : List Event → List Call
asked es = map (λ e. e.call) (notices es)

-- the notices of a history, each with whether it was taken
abbrev pub fates : List Event → List (Call × Bool)
fates es = map (λ e. (e.call, is_taken e.answer)) (notices es)

-- a notice that does not mention knowledge, which it does when its table passes the check and its formula does, and was not refused Marks or Full
pub record Plain (s : Setting) (e : Event) : Type 0 where
  pub no_knowledge : check (terms false s) (table_of e.call) ≡ None → ¬ MentionsKnowledge (formula (table_of e.call))
  pub not_marks : e.answer ≢ refused (in_matter Marks)
  pub not_full : (sheet : ℕ) → e.answer ≢ refused (in_board Full sheet)

-- a query on what party i knows: its last record says that the party knows something, or knows whether it is so
pub data AsksWhatIsKnownBy (i : ℕ) (t : Table) : Type 0 where
  known : (a : ℕ) → (last_record t).kind ≡ Knows i a → AsksWhatIsKnownBy i t
  known_whether : (a : ℕ) → (last_record t).kind ≡ KnowsWhether i a → AsksWhatIsKnownBy i t

-- The three cases in which two matters of a plan must give one answer, by their histories, their facts and what they are asked.
pub data MustAgree (s : Setting) (es₁ es₂ : List Event) : (f₁ f₂ : FactSet) (q₁ q₂ : Table) → Type 0 where
  -- the same facts, and the same notices, each as often, in whatever two orders
  reordered : (f : FactSet) (q : Table) → Perm (asked es₁) (asked es₂) → Each (Plain s) (notices es₁) → Each (Plain s) (notices es₂)
      → MustAgree s es₁ es₂ f f q q
  -- facts that agree on what a party sees, the same notices in the same order with the same fates, and a query on what that party knows
  unseen : (i : ℕ) (f₁ f₂ : FactSet) (q : Table) → Agree (sight s i) f₁ f₂ → fates es₁ ≡ fates es₂ → AsksWhatIsKnownBy i q
      → MustAgree s es₁ es₂ f₁ f₂ q q
  -- the same facts, the second matter fresh, and asked the query with the notices that the first took stacked before it
  stacking : (f : FactSet) (q₁ q₂ : Table) → taken_in es₂ ≡ [] → formula q₂ ≡ stacked (taken_in es₁) (formula q₁)
      → MustAgree s es₁ es₂ f f q₁ q₂

-- a yes or no that is the truth of the query in the situation of the matter
abbrev pub Truthful : Opening → List Event → Table → Bool → Type 0
Truthful o es q says = T says ↔ Holds (situation o (taken_in es)) (formula q)

-- Two matters of one plan, over any two boards and after any two histories: in the three cases what they say to queries is one answer, and the truth.
abbrev pub RunsAgree : Type 0
RunsAgree =
    (s : Setting) (f₁ f₂ : FactSet) (room₁ room₂ : Room) (es₁ es₂ : List Event) (q₁ q₂ : Table) (says₁ says₂ : Bool)
    → let o₁ : Opening = record { setting = s; facts = f₁; room = room₁ } in
    let o₂ : Opening = record { setting = s; facts = f₂; room = room₂ } in
    Run o₁ es₁ → Run o₂ es₂
    → Allowed o₁ (taken_in es₁) (queries q₁) (said says₁) → Allowed o₂ (taken_in es₂) (queries q₂) (said says₂)
    → MustAgree s es₁ es₂ f₁ f₂ q₁ q₂
    → (says₁ ≡ says₂) × Truthful o₁ es₁ q₁ says₁ × Truthful o₂ es₂ q₂ says₂
