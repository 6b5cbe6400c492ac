-- The formula of a query, read off its last record.
use Rattle.std.proofs.Common.{◌≡◌, ℕ, ◌+◌, ◌-◌, ◌<◌, [], ◌∷◌, ◌++◌, length, get_or, take, sym, ap, ◌∙◌, arith}
use Rattle.std.proofs.lemmas.List.{take_all, take_more}
use Rattle.knowledge.specs.declared.table.Kind.{Kind}
use Rattle.knowledge.specs.declared.table.Kind.TheVariants.{Knows, KnowsWhether}
use Rattle.knowledge.specs.Tables.Formulas.{Formula, bottom, knows, knows_whether}
use Rattle.knowledge.specs.Tables.Tables.{Table, none, last_record, built, formula_of, in_order, formula}
use Rattle.knowledge.specs.Truth.Runs.{AsksWhatIsKnownBy, known, known_whether}
use Rattle.knowledge.proofs.Tables.Records.{formula_push}

-- a table is its last record behind the others
pub last_stands_last : (t : Table) → 0 < length t → t ≡ take (length t - 1) t ++ (last_record t ∷ [])
last_stands_last t h =
    let n : length t - 1 + 1 ≡ length t = omega arith in
    sym (take_all (length t - 1 + 1) t (omega arith)) ∙ take_more t (length t - 1) none (omega arith)

-- the formula of a table, read off its last record
pub formula_last : (t : Table) → 0 < length t → formula t ≡ formula_of (in_order formula_of [] (take (length t - 1) t)) (last_record t)
formula_last t h = ap formula (last_stands_last t h) ∙ formula_push (take (length t - 1) t) (last_record t)

-- the formula says that party i knows something, or knows whether it is so
pub data SaysWhatIsKnownBy (i : ℕ) : Formula → Type 0 where
  says_known : (b : Formula) → SaysWhatIsKnownBy i (knows i b)
  says_known_whether : (b : Formula) → SaysWhatIsKnownBy i (knows_whether i b)

-- the formula of a query on what a party knows; a table without records is no such query
pub asks_says : (i : ℕ) (t : Table) → AsksWhatIsKnownBy i t → SaysWhatIsKnownBy i (formula t)
asks_says i [] (known a e) = cc
asks_says i [] (known_whether a e) = cc
asks_says i (r ∷ rs) q = go q
  where
    child : ℕ → Formula
    child a = get_or (in_order formula_of [] (take (length (r ∷ rs) - 1) (r ∷ rs))) a bottom

    last : (k : Kind) → (last_record (r ∷ rs)).kind ≡ k → formula (r ∷ rs) ≡ built child k
    last k e = formula_last (r ∷ rs) (omega arith) ∙ ap (built child) e

    go : AsksWhatIsKnownBy i (r ∷ rs) → SaysWhatIsKnownBy i (formula (r ∷ rs))
    go (known a e) = rw (last (Knows i a) e) (says_known (child a))
    go (known_whether a e) = rw (last (KnowsWhether i a) e) (says_known_whether (child a))
