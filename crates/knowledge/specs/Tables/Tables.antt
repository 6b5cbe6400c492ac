-- Formula tables, and the formulas that they hold.
use Rattle.std.specs.Prelude.{ℕ, ◌+◌, ◌-◌, max, List, [], ◌∷◌, ◌++◌, length, get_or, Some, None, Option, slice_index, slice_index_or}
use mathlib.Core.List.{foldr}
use Rattle.knowledge.specs.declared.table.Family.{Family}
use Rattle.knowledge.specs.declared.table.Family.TheVariants.{Boolean, Knowing, Posting, Telling}
use Rattle.knowledge.specs.declared.table.Kind.{Kind}
use Rattle.knowledge.specs.declared.table.Kind.TheVariants.{Top, Bottom, Fact, Not, Binary, Knows, KnowsWhether, Shared, SharedWhether, Post, PostWhether, Tell, TellWhether}
use Rattle.knowledge.specs.declared.table.Record.{Record}
use Rattle.knowledge.specs.Tables.Formulas.{Formula, top, bottom, fact, not, binary, knows, knows_whether, shared, shared_whether, post, post_whether, tell, tell_whether, tell_count}

-- a formula table
abbrev pub Table : Type 0
Table = List Record

-- the records that a record is built on, by their places in the table
abbrev pub children : Kind → List ℕ
children Top = []
children Bottom = []
children (Fact p) = []
children (Not a) = a ∷ []
children (Binary c a b) = a ∷ b ∷ []
children (Knows i a) = a ∷ []
children (KnowsWhether i a) = a ∷ []
children (Shared g a) = a ∷ []
children (SharedWhether g a) = a ∷ []
children (Post a b) = a ∷ b ∷ []
children (PostWhether a b) = a ∷ b ∷ []
children (Tell g a b) = a ∷ b ∷ []
children (TellWhether g a b) = a ∷ b ∷ []

-- the first two of a list, where there are so many
abbrev pub pair : List ℕ → Option ℕ × Option ℕ
pair [] = (None, None)
pair (a ∷ []) = (Some a, None)
pair (a ∷ b ∷ rest) = (Some a, Some b)

-- what sort of operator a record is
abbrev pub family : Kind → Family
family Top = Boolean
family Bottom = Boolean
family (Fact p) = Boolean
family (Not a) = Boolean
family (Binary c a b) = Boolean
family (Knows i a) = Knowing
family (KnowsWhether i a) = Knowing
family (Shared g a) = Knowing
family (SharedWhether g a) = Knowing
family (Post a b) = Posting
family (PostWhether a b) = Posting
family (Tell g a b) = Telling
family (TellWhether g a b) = Telling

-- what is read where a table has no record
abbrev pub none : Record
none = record { kind = Top }

-- the last record of a table
abbrev pub last_record : Table → Record
last_record t = slice_index_or t (length t - 1) none

-- what a record says, from what its children say
abbrev pub built : (ℕ → Formula) → Kind → Formula
built child Top = top
built child Bottom = bottom
built child (Fact p) = fact p
built child (Not a) = not (child a)
built child (Binary c a b) = binary c (child a) (child b)
built child (Knows i a) = knows i (child a)
built child (KnowsWhether i a) = knows_whether i (child a)
built child (Shared g a) = shared g (child a)
built child (SharedWhether g a) = shared_whether g (child a)
built child (Post a b) = post (child a) (child b)
built child (PostWhether a b) = post_whether (child a) (child b)
built child (Tell g a b) = tell g (child a) (child b)
built child (TellWhether g a b) = tell_whether g (child a) (child b)

-- the formula of a record, from those of the records before it; a child that is none of these counts as bottom
abbrev pub formula_of : List Formula → Record → Formula
formula_of earlier r = built (λ a. get_or earlier a bottom) r.kind

-- Values given to records in order, each from those of the records before it; they stand behind earlier ones.
unfoldable pub in_order : {A : Type 0} → (List A → Record → A) → List A → Table → List A
in_order f earlier [] = earlier
in_order f earlier (r ∷ rs) = in_order f (earlier ++ (f earlier r ∷ [])) rs

-- the formula of a table is that of its last record
unfoldable pub formula : Table → Formula
formula t = slice_index_or (in_order formula_of [] t) (length t - 1) bottom

-- how many marks a table's formula needs
abbrev pub need : Table → ℕ
need t = tell_count (formula t)

-- the depth of a record, from those of the records before it: 1 without children, else one more than the deepest child.
-- A child that is none of these records does not count.
abbrev pub depth_of : List ℕ → Record → ℕ
depth_of earlier r = 1 + foldr (λ a. max (slice_index earlier a)) 0 (children r.kind)

-- the depth of a table is that of its last record
unfoldable pub depth : Table → ℕ
depth t = slice_index (in_order depth_of [] t) (length t - 1)
