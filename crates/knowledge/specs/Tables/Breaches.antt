-- The rules that a record of a formula table can break, and the first fault of a table, which its check names.
use Rattle.std.specs.Prelude.{◌≡◌, ℕ, ◌<◌, ◌≤◌, T, ◌↔◌, [], length, Some, None, slice_index, slice_index_or}
use mathlib.Core.List.{Memᴰ as Among}
use Rattle.knowledge.specs.declared.fault.Cause.{Cause}
use Rattle.knowledge.specs.declared.fault.Cause.TheVariants as cause
use Rattle.knowledge.specs.declared.fault.Fault.{Fault}
use Rattle.knowledge.specs.declared.table.Family.{Family}
use Rattle.knowledge.specs.declared.table.Family.TheVariants.{Knowing, Posting, Telling}
use Rattle.knowledge.specs.declared.table.Kind.{Kind}
use Rattle.knowledge.specs.declared.table.Kind.TheVariants.{Fact, Knows, KnowsWhether, Shared, SharedWhether, Tell, TellWhether}
use Rattle.knowledge.specs.declared.survey.Terms.{Terms}
use Rattle.knowledge.specs.Tables.Check.{check}
use Rattle.knowledge.specs.Faults.{number, in_table}
use Rattle.knowledge.specs.Sets.{Group, Present}
use Rattle.knowledge.specs.Tables.Tables.{Table, none, children, family, in_order, depth_of}

-- the number is from first to last
abbrev pub FromTo : ℕ → ℕ → ℕ → Type 0
FromTo first last n = (first ≤ n) × (n ≤ last)

-- a record of this kind names this fact
pub data NamesFact : Kind → ℕ → Type 0 where
  in_fact : (n : ℕ) → NamesFact (Fact n) n

-- a record of this kind names this party
pub data NamesParty : Kind → ℕ → Type 0 where
  in_knows : (i a : ℕ) → NamesParty (Knows i a) i
  in_knows_whether : (i a : ℕ) → NamesParty (KnowsWhether i a) i

-- a record of this kind names this group
pub data NamesGroup : Kind → Group → Type 0 where
  in_shared : (g : Group) (a : ℕ) → NamesGroup (Shared g a) g
  in_shared_whether : (g : Group) (a : ℕ) → NamesGroup (SharedWhether g a) g
  in_tell : (g : Group) (a b : ℕ) → NamesGroup (Tell g a b) g
  in_tell_whether : (g : Group) (a b : ℕ) → NamesGroup (TellWhether g a b) g

-- a record of this kind is built on the record at place a
abbrev pub HasChild : Kind → ℕ → Type 0
HasChild k a = Among a (children k)

-- an operator on knowledge, or a notice of either sort
pub data Modal : Family → Type 0 where
  knowing : Modal Knowing
  posting : Modal Posting
  telling : Modal Telling

-- the kind of the record at place k, where past the last record there is one that breaks no rule
abbrev pub kind_at : Table → ℕ → Kind
kind_at t k = (slice_index_or t k none).kind

-- the depth of the record at place k, for which only those of its children count that are earlier records
abbrev pub depth_at : Table → ℕ → ℕ
depth_at t k = slice_index (in_order depth_of [] t) k

-- the record at place k breaks the rule of this cause
pub data Breaks (p : Terms) (t : Table) (k : ℕ) : Cause → Type 0 where
  -- it names a fact that is not from 1 to the number of the plan's facts
  lacks_fact : (n : ℕ) → NamesFact (kind_at t k) n → ¬ FromTo 1 p.facts n → Breaks p t k cause.Fact
  -- it names a party that the plan lacks
  lacks_party : (i : ℕ) → NamesParty (kind_at t k) i → p.parties ≤ i → Breaks p t k cause.Party
  -- it names a group that is empty or has a member that the plan lacks
  lacks_group : (g : Group) → NamesGroup (kind_at t k) g → ¬ Present p.parties g → Breaks p t k cause.Party
  -- it is deeper than 12
  too_deep : 12 < depth_at t k → Breaks p t k cause.Deep
  -- it is on knowledge, or a notice, and the table is to be a law
  modal_in_law : T p.in_law → Modal (family (kind_at t k)) → Breaks p t k cause.Knowledge
  -- it has a child that is no earlier record
  lacks_child : (a : ℕ) → HasChild (kind_at t k) a → k ≤ a → Breaks p t k cause.Child

-- no record before place k breaks a rule
abbrev pub CleanBefore : Terms → Table → ℕ → Type 0
CleanBefore p t k = (j : ℕ) → j < k → (c : Cause) → ¬ Breaks p t j c

-- the record at place k is the first that breaks a rule, and of the rules that it breaks the cause c has the lowest number
pub record FirstBreach (p : Terms) (t : Table) (k : ℕ) (c : Cause) : Type 0 where
  pub there : k < length t
  pub broken : Breaks p t k c
  pub lowest : (d : Cause) → Breaks p t k d → number c ≤ number d
  pub first : CleanBefore p t k

-- the table has a fault, and this is the first
pub data HasFirstFault (p : Terms) (t : Table) : Fault → Type 0 where
  -- the length is not from 1 to 256
  of_length : ¬ FromTo 1 256 (length t) → HasFirstFault p t (in_table cause.Nodes 0)
  -- the length is, and the record at place k is the first that breaks a rule
  of_record : (k : ℕ) (c : Cause) → FromTo 1 256 (length t) → FirstBreach p t k c → HasFirstFault p t (in_table c k)

-- the length is from 1 to 256, and no record breaks a rule
pub record Faultless (p : Terms) (t : Table) : Type 0 where
  pub size : FromTo 1 256 (length t)
  pub clean : CleanBefore p t (length t)

-- the check names the first fault of a table that has one, and passes exactly the faultless tables
abbrev pub CheckInWords : Type 0
CheckInWords =
    ((p : Terms) (t : Table) (f : Fault) → (check p t ≡ Some f) ↔ HasFirstFault p t f)
    × ((p : Terms) (t : Table) → (check p t ≡ None) ↔ Faultless p t)
