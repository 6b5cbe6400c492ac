-- The check of a table names its first fault, and passes the table where there is none.
use Rattle.std.proofs.Common.{◌≡◌, ℕ, zero, suc, ◌+◌, ◌<◌, true, false, T, length, get_or, drop, Some, None, Option, sym, refl, ap, subst, inl, inr, ⊎_elim, zero-add, arith, below_none, below_more}
use Rattle.std.proofs.lemmas.List.{at_drop_all}
use Rattle.std.proofs.lemmas.Bool.{cases_Bool, cases_order}
use Rattle.knowledge.specs.declared.fault.Cause.{Cause}
use Rattle.knowledge.specs.declared.fault.Cause.TheVariants.{Nodes}
use Rattle.knowledge.specs.declared.fault.Fault.{Fault}
use Rattle.knowledge.specs.Tables.Breaches.{FromTo, kind_at, depth_at, Breaks, CleanBefore, FirstBreach, HasFirstFault, of_length, of_record, Faultless, CheckInWords}
use Rattle.knowledge.specs.declared.survey.Terms.{Terms}
use Rattle.knowledge.specs.Tables.Check.{record_fault, first_fault, check}
use Rattle.knowledge.specs.Faults.{in_table}
use Rattle.knowledge.specs.Sets.{between}
use Rattle.knowledge.specs.Tables.Tables.{Table, none, in_order, depth_of}
use Rattle.knowledge.proofs.Tests.{T-between}
use Rattle.knowledge.proofs.Tables.Breaches.{Lowest, record_lowest, lowest_only}
use Rattle.knowledge.proofs.Tables.Records.{in_order_at}
use Rattle.knowledge.proofs.Tables.Standing.{depths, outcome, decides_at, refuses_length, checked_records}

-- what an answer of the check says of a table
abbrev Says : Terms → Table → Option Fault → Type 0
Says p t (Some f) = HasFirstFault p t f
Says p t None = Faultless p t

-- where no record before place k breaks a rule, what the record there decides is true
record_says : (p : Terms) (t : Table) (k : ℕ) (o : Option Cause) → FromTo 1 256 (length t) → k < length t → CleanBefore p t k
    → Lowest (Breaks p t k) o → (CleanBefore p t (k + 1) → Says p t (first_fault p (depths (k + 1) t) (drop (k + 1) t)))
    → Says p t (outcome p k (depths (k + 1) t) (drop (k + 1) t) o)
record_says p t k (Some c) s h clean l next = of_record k c s (record {
  there = h;
  broken = l.0;
  lowest = λ e x. elim (l.1 e x) [ inl q ↦ rw q (omega arith) | inr q ↦ omega arith ];
  first = clean;
})
record_says p t k None s h clean l next = next (below_more (λ j. (c : Cause) → ¬ Breaks p t j c) k clean l)

-- and what the table decides from there on
rest_says : (p : Terms) (t : Table) → FromTo 1 256 (length t) → (n k : ℕ) → k + n ≡ length t → CleanBefore p t k
    → Says p t (first_fault p (depths k t) (drop k t))
unfolding first_fault
rest_says p t s zero k e clean =
    subst (Says p t) (sym (at_drop_all (first_fault p (depths k t)) t k (omega arith))) (record { size = s; clean = λ j h. clean j (omega arith) })
rest_says p t s (suc n) k e clean =
    let h : k < length t = omega arith in
    let d : depth_at t k ≡ depth_of (depths k t) (get_or t k none) = in_order_at depth_of t k 0 h in
    subst (Says p t) (sym (decides_at p t k h)) (record_says p t k _ s h clean
    (subst (λ (m : ℕ). Lowest (Breaks p t k) (record_fault p k m (kind_at t k))) d (record_lowest p t k))
    (rest_says p t s n (k + 1) (omega arith)))

-- what the check says of a table is true
check_says : (p : Terms) (t : Table) → Says p t (check p t)
unfolding in_order
check_says p t = ⊎_elim
    (λ (e : between 1 256 (length t) ≡ true). subst (Says p t) (sym (checked_records p t e))
    (rest_says p t ((T-between 1 256 (length t)).0 (subst T (sym e) tt)) (length t) 0 (zero-add (length t)) (below_none (λ j. (c : Cause) → ¬ Breaks p t j c))))
    (λ (e : between 1 256 (length t) ≡ false). subst (Says p t) (sym (refuses_length p t (in_table Nodes 0) e refl))
    (of_length (λ s. subst T e ((T-between 1 256 (length t)).1 s))))
    (cases_Bool (between 1 256 (length t)))

-- there is only one first breach
one_breach : (p : Terms) (t : Table) (j k : ℕ) (c d : Cause) → FirstBreach p t j c → FirstBreach p t k d → in_table c j ≡ in_table d k
one_breach p t j k c d x y = elim (cases_order j k) [
  | inl e ↦ same e
  | inr (inl l) ↦ absurd (y.first j l c x.broken)
  | inr (inr l) ↦ absurd (x.first k l d y.broken)
]
  where
    -- the cause is the fault of the record
    only : (b : Cause) → FirstBreach p t k b → record_fault p k (depth_at t k) (kind_at t k) ≡ Some b
    only b z = lowest_only (Breaks p t k) _ b (record_lowest p t k) z.broken z.lowest

    -- at one place there is one cause
    same : j ≡ k → in_table c j ≡ in_table d k
    same e =
        let f = only c (subst (λ (i : ℕ). FirstBreach p t i c) e x) in
        let g = only d y in
        let q : c ≡ d = cc in
        λ i. in_table (q i) (e i)

-- a table has only one first fault
one_fault : (p : Terms) (t : Table) (f g : Fault) → HasFirstFault p t f → HasFirstFault p t g → f ≡ g
one_fault p t f g (of_length n) (of_length m) = refl
one_fault p t f g (of_length n) (of_record k c s b) = absurd (n s)
one_fault p t f g (of_record k c s b) (of_length n) = absurd (n s)
one_fault p t f g (of_record j c s b) (of_record k d r a) = one_breach p t j k c d b a

-- a faultless table has none
no_fault : (p : Terms) (t : Table) (f : Fault) → Faultless p t → ¬ HasFirstFault p t f
no_fault p t f x (of_length n) = n x.size
no_fault p t f x (of_record k c s b) = x.clean k b.there c b.broken

-- only the first fault is a true answer to a table that has it
says_fault : (p : Terms) (t : Table) (f : Fault) (o : Option Fault) → Says p t o → HasFirstFault p t f → o ≡ Some f
says_fault p t f (Some g) s x = ap Some (one_fault p t g f s x)
says_fault p t f None s x = absurd (no_fault p t f s x)

-- only None is a true answer to a faultless table
says_none : (p : Terms) (t : Table) (o : Option Fault) → Says p t o → Faultless p t → o ≡ None
says_none p t (Some f) s x = absurd (no_fault p t f x s)
says_none p t None s x = refl

-- the check in words
pub check_in_words : CheckInWords
check_in_words = (
  λ p t f. (λ e. subst (Says p t) e (check_says p t), says_fault p t f (check p t) (check_says p t)),
  λ p t. (λ e. subst (Says p t) e (check_says p t), says_none p t (check p t) (check_says p t)),
)
