-- Formulas as trees.
use Rattle.std.specs.Prelude.{ℕ, ◌+◌, max, ◌⊎◌}
use Rattle.knowledge.specs.declared.table.Connective.{Connective}
use Rattle.knowledge.specs.declared.table.Connective.TheVariants.{And, Or, Implies}
use Rattle.knowledge.specs.Sets.{Group}

-- A formula about what the parties know. Facts are numbered from 1, parties from 0.
pub data Formula : Type 0 where
  top bottom : Formula
  fact : ℕ → Formula
  not : Formula → Formula
  binary : Connective → Formula → Formula → Formula
  knows : ℕ → Formula → Formula
  shared : Group → Formula → Formula
  post : Formula → Formula → Formula
  tell : Group → Formula → Formula → Formula

-- i knows a, or i knows not a
abbrev pub knows_whether : ℕ → Formula → Formula
knows_whether i a = binary Or (knows i a) (knows i (not a))

-- a is shared, or not a is
abbrev pub shared_whether : Group → Formula → Formula
shared_whether g a = binary Or (shared g a) (shared g (not a))

-- a implies post a b, and not a implies post (not a) b
abbrev pub post_whether : Formula → Formula → Formula
post_whether a b = binary And (binary Implies a (post a b)) (binary Implies (not a) (post (not a) b))

-- a implies tell g a b, and not a implies tell g (not a) b
abbrev pub tell_whether : Group → Formula → Formula → Formula
tell_whether g a b = binary And (binary Implies a (tell g a b)) (binary Implies (not a) (tell g (not a) b))

-- the formula is, or is built on, what a party knows or a group shares
abbrev pub MentionsKnowledge : Formula → Type 0
MentionsKnowledge top = ⊥
MentionsKnowledge bottom = ⊥
MentionsKnowledge (fact p) = ⊥
MentionsKnowledge (not a) = MentionsKnowledge a
MentionsKnowledge (binary c a b) = MentionsKnowledge a ⊎ MentionsKnowledge b
MentionsKnowledge (knows i a) = Unit {0}
MentionsKnowledge (shared g a) = Unit {0}
MentionsKnowledge (post a b) = MentionsKnowledge a ⊎ MentionsKnowledge b
MentionsKnowledge (tell g a b) = MentionsKnowledge a ⊎ MentionsKnowledge b

-- The tell count, which is how many marks the formula needs: the largest of its parts', and for a tell the larger of a's and one more than b's.
abbrev pub tell_count : Formula → ℕ
tell_count top = 0
tell_count bottom = 0
tell_count (fact p) = 0
tell_count (not a) = tell_count a
tell_count (binary c a b) = max (tell_count a) (tell_count b)
tell_count (knows i a) = tell_count a
tell_count (shared g a) = tell_count a
tell_count (post a b) = max (tell_count a) (tell_count b)
tell_count (tell g a b) = max (tell_count a) (tell_count b + 1)
