-- Values given to a table's records in order: their formulas and their depths.
use Rattle.std.proofs.Common.{◌≡◌, ℕ, zero, suc, ◌+◌, ◌-◌, ◌<◌, List, [], ◌∷◌, ◌++◌, length, get_or, take, sym, refl, ap, ◌∙◌, zero-add, arith}
use Rattle.std.proofs.lemmas.List.{length_push, get_or_push, get_or_append_left}
use Rattle.knowledge.specs.declared.table.Record.{Record}
use Rattle.knowledge.specs.Tables.Tables.{Table, none, formula_of, formula, depth_of, depth, in_order}

-- there is one value for each record
pub in_order_length : {A : Type 0} (f : List A → Record → A) (e : List A) (t : Table) → length (in_order f e t) ≡ length e + length t
unfolding in_order
in_order_length f e [] = omega arith
in_order_length f e (r ∷ rs) = in_order_length f (e ++ (f e r ∷ [])) rs ∙ rw (length_push e (f e r)) (omega arith)

-- one more record adds its value
pub in_order_push : {A : Type 0} (f : List A → Record → A) (e : List A) (t : Table) (r : Record)
    → in_order f e (t ++ (r ∷ [])) ≡ in_order f e t ++ (f (in_order f e t) r ∷ [])
unfolding in_order
in_order_push f e [] r = refl
in_order_push f e (s ∷ ss) r = in_order_push f (e ++ (f e s ∷ [])) ss r

-- the earlier values stay
in_order_kept : {A : Type 0} (f : List A → Record → A) (e : List A) (t : Table) (k : ℕ) (d : A) → k < length e
    → get_or (in_order f e t) k d ≡ get_or e k d
unfolding in_order
in_order_kept f e [] k d h = refl
in_order_kept f e (r ∷ rs) k d h =
    in_order_kept f (e ++ (f e r ∷ [])) rs k d (rw (length_push e (f e r)) (omega arith)) ∙ get_or_append_left e (f e r ∷ []) d k h

-- the value behind k records comes from theirs
in_order_behind : {A : Type 0} (f : List A → Record → A) (e : List A) (t : Table) (k : ℕ) (d : A) → k < length t
    → get_or (in_order f e t) (length e + k) d ≡ f (in_order f e (take k t)) (get_or t k none)
unfolding in_order
in_order_behind f e [] k d h = absurd (omega arith)
in_order_behind f e (r ∷ rs) zero d h =
    let n = length_push e (f e r) in
    in_order_kept f (e ++ (f e r ∷ [])) rs (length e + 0) d (omega arith) ∙ get_or_push e (f e r) d (length e + 0) (omega arith)
in_order_behind f e (r ∷ rs) (suc k) d h =
    let n = length_push e (f e r) in
    let i : length e + suc k ≡ length (e ++ (f e r ∷ [])) + k = omega arith in
    rw i (in_order_behind f (e ++ (f e r ∷ [])) rs k d (omega arith))

-- the value of the record at place k comes from those of the records before it
pub in_order_at : {A : Type 0} (f : List A → Record → A) (t : Table) (k : ℕ) (d : A) → k < length t
    → get_or (in_order f [] t) k d ≡ f (in_order f [] (take k t)) (get_or t k none)
in_order_at f t k d h = ap (λ i. get_or (in_order f [] t) i d) (sym (zero-add k)) ∙ in_order_behind f [] t k d h

-- the value of the last record
in_order_last : {A : Type 0} (f : List A → Record → A) (t : Table) (r : Record) (d : A)
    → get_or (in_order f [] (t ++ (r ∷ []))) (length (t ++ (r ∷ [])) - 1) d ≡ f (in_order f [] t) r
in_order_last f t r d =
    let n : length (in_order f [] t) ≡ length (t ++ (r ∷ [])) - 1 = rw (in_order_length f [] t, length_push t r) (omega arith) in
    ap (λ l. get_or l (length (t ++ (r ∷ [])) - 1) d) (in_order_push f [] t r)
    ∙ get_or_push (in_order f [] t) (f (in_order f [] t) r) d (length (t ++ (r ∷ [])) - 1) n

-- the formula of a table is that of its last record
pub formula_push : (t : Table) (r : Record) → formula (t ++ (r ∷ [])) ≡ formula_of (in_order formula_of [] t) r
unfolding formula
formula_push t r = in_order_last formula_of t r _

-- the depth of a table is that of its last record
pub depth_push : (t : Table) (r : Record) → depth (t ++ (r ∷ [])) ≡ depth_of (in_order depth_of [] t) r
unfolding depth
depth_push t r = in_order_last depth_of t r 0
