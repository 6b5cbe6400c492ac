-- A table that passes as a law passes as a formula.
use Rattle.std.proofs.Common.{◌≡◌, ℕ, Bool, true, false, cond, ◌&&◌, ltb, List, [], ◌∷◌, ◌++◌, length, Some, None, Option, sym, refl, ap, ◌∙◌}
use Rattle.knowledge.specs.declared.fault.Cause.{Cause}
use Rattle.knowledge.specs.declared.fault.Cause.TheVariants.{Nodes}
use Rattle.knowledge.specs.declared.table.Record.{Record}
use Rattle.knowledge.specs.Faults.{in_table}
use Rattle.knowledge.specs.Sets.{between}
use Rattle.knowledge.specs.declared.survey.Terms.{Terms}
use Rattle.knowledge.specs.Tables.Check.{bad_fact, bad_party, is_modal, record_fault, first_fault, check}
use Rattle.knowledge.specs.Tables.Tables.{Table, depth_of, family}
use Rattle.knowledge.proofs.Logic.{some_not_none, failed}
use Rattle.knowledge.proofs.Tables.Standing.{outcome, first_decides}

-- the same terms for any formula
abbrev pub unlawed : Terms → Terms
unlawed p = record { facts = p.facts; parties = p.parties; in_law = false }

-- a record without fault in a law is without fault
record_unlawed : (p : Terms) (place d : ℕ) (r : Record) → record_fault p place d r.kind ≡ None → record_fault (unlawed p) place d r.kind ≡ None
record_unlawed p place d r e =
    let a = failed (bad_fact p.facts r.kind) _ _ e in
    let b = failed (bad_party p.parties r.kind) _ _ a.1 in
    let c = failed (ltb 12 d) _ _ b.1 in
    let m = failed (p.in_law && is_modal (family r.kind)) _ _ c.1 in
    rw (a.0, b.0, c.0) m.1

-- records without fault in a law are without fault
records_unlawed : (p : Terms) (ds : List ℕ) (t : Table) → first_fault p ds t ≡ None → first_fault (unlawed p) ds t ≡ None
unfolding first_fault
records_unlawed p ds [] e = refl
records_unlawed p ds (r ∷ rs) e =
    let rest : List ℕ = ds ++ (depth_of ds r ∷ []) in
    first_decides (unlawed p) ds r rs
    ∙ go (record_fault p (length ds) (depth_of ds r) r.kind) refl (records_unlawed p rest rs) (sym (first_decides p ds r rs) ∙ e)
  where
    go : (o : Option Cause) → record_fault p (length ds) (depth_of ds r) r.kind ≡ o
        → (first_fault p (ds ++ (depth_of ds r ∷ [])) rs ≡ None → first_fault (unlawed p) (ds ++ (depth_of ds r ∷ [])) rs ≡ None)
        → outcome p (length ds) (ds ++ (depth_of ds r ∷ [])) rs o ≡ None
        → outcome (unlawed p) (length ds) (ds ++ (depth_of ds r ∷ [])) rs (record_fault (unlawed p) (length ds) (depth_of ds r) r.kind) ≡ None
    go (Some c) f h n = some_not_none (Some (in_table c (length ds))) (in_table c (length ds)) refl n
    go None f h n =
        ap (outcome (unlawed p) (length ds) (ds ++ (depth_of ds r ∷ [])) rs) (record_unlawed p (length ds) (depth_of ds r) r f) ∙ h n

-- a table that passes as a law passes as a formula
pub law_passes : (p : Terms) (t : Table) → check p t ≡ None → check (unlawed p) t ≡ None
unfolding check
law_passes p t e = go (between 1 256 (length t)) e
  where
    go : (b : Bool) → cond b (first_fault p [] t) (Some (in_table Nodes 0)) ≡ None → cond b (first_fault (unlawed p) [] t) (Some (in_table Nodes 0)) ≡ None
    go true n = records_unlawed p [] t n
    go false n = n
