-- The check of a formula table.
use Rattle.std.specs.Prelude.{ℕ, Bool, true, false, cond, ◌&&◌, ◌||◌, List, [], ◌∷◌, ◌++◌, length, Some, None, Option, Ok, Err, Result, nat_le, nat_lt}
use Rattle.std.proofs.Math.Bool as Bools
use mathlib.Core.List.{foldr}
use Rattle.knowledge.specs.declared.fault.Cause.{Cause}
use Rattle.knowledge.specs.declared.fault.Cause.TheVariants as cause
use Rattle.knowledge.specs.declared.fault.Fault.{Fault}
use Rattle.knowledge.specs.declared.survey.Terms.{Terms}
use Rattle.knowledge.specs.declared.table.Family.{Family}
use Rattle.knowledge.specs.declared.table.Family.TheVariants.{Boolean, Knowing, Posting, Telling}
use Rattle.knowledge.specs.declared.table.Kind.{Kind}
use Rattle.knowledge.specs.declared.table.Kind.TheVariants.{Top, Bottom, Fact, Not, Binary, Knows, KnowsWhether, Shared, SharedWhether, Post, PostWhether, Tell, TellWhether}
use Rattle.knowledge.specs.Faults.{in_table}
use Rattle.knowledge.specs.Sets.{between, is_present}
use Rattle.knowledge.specs.Tables.Tables.{Table, children, family, depth_of}

-- a fact that the plan lacks
abbrev pub bad_fact : ℕ → Kind → Bool
bad_fact facts Top = false
bad_fact facts Bottom = false
bad_fact facts (Fact n) = Bools.not (between 1 facts n)
bad_fact facts (Not a) = false
bad_fact facts (Binary c a b) = false
bad_fact facts (Knows i a) = false
bad_fact facts (KnowsWhether i a) = false
bad_fact facts (Shared g a) = false
bad_fact facts (SharedWhether g a) = false
bad_fact facts (Post a b) = false
bad_fact facts (PostWhether a b) = false
bad_fact facts (Tell g a b) = false
bad_fact facts (TellWhether g a b) = false

-- a party that the plan lacks, or a group that is empty or has such a member
abbrev pub bad_party : ℕ → Kind → Bool
bad_party parties Top = false
bad_party parties Bottom = false
bad_party parties (Fact n) = false
bad_party parties (Not a) = false
bad_party parties (Binary c a b) = false
bad_party parties (Knows i a) = nat_le parties i
bad_party parties (KnowsWhether i a) = nat_le parties i
bad_party parties (Shared g a) = Bools.not (is_present parties g)
bad_party parties (SharedWhether g a) = Bools.not (is_present parties g)
bad_party parties (Post a b) = false
bad_party parties (PostWhether a b) = false
bad_party parties (Tell g a b) = Bools.not (is_present parties g)
bad_party parties (TellWhether g a b) = Bools.not (is_present parties g)

-- knowledge or a notice, which a law must not have
abbrev pub is_modal : Family → Bool
is_modal Boolean = false
is_modal Knowing = true
is_modal Posting = true
is_modal Telling = true

-- a child of record k that is no earlier record
abbrev pub bad_child : ℕ → Kind → Bool
bad_child k r = foldr (λ a. ◌||◌ (nat_le k a)) false (children r)

-- the fault with the lowest number of the record at a place, which has this depth
abbrev pub record_fault : Terms → ℕ → ℕ → Kind → Option Cause
record_fault p place depth k =
    cond (bad_fact p.facts k) (Some cause.Fact)
    (cond (bad_party p.parties k) (Some cause.Party)
    (cond (nat_lt 12 depth) (Some cause.Deep)
    (cond (p.in_law && is_modal (family k)) (Some cause.Knowledge)
    (cond (bad_child place k) (Some cause.Child) None))))

-- how the record at a place passes, or is refused
abbrev pub record_checked : Terms → ℕ → ℕ → Kind → Result Unit Fault
record_checked p place depth k = elim (record_fault p place depth k) [ Some c ↦ Err (in_table c place) | None ↦ Ok tt ]

-- the first faulty record among those that follow faultless ones of these depths
unfoldable pub first_fault : Terms → List ℕ → Table → Option Fault
first_fault p depths [] = None
first_fault p depths (r ∷ rs) =
    elim (record_fault p (length depths) (depth_of depths r) r.kind) [
      | Some c ↦ Some (in_table c (length depths))
      | None ↦ first_fault p (depths ++ (depth_of depths r ∷ [])) rs
    ]

-- the check of a table: its length, which is 1 to 256, then the first faulty record
unfoldable pub check : Terms → Table → Option Fault
check p t = cond (between 1 256 (length t)) (first_fault p [] t) (Some (in_table cause.Nodes 0))
