-- Where the survey of a table stands between two records.
use Rattle.std.proofs.Common.{◌≡◌, ℕ, zero, suc, ◌+◌, ◌<◌, ◌≤◌, true, false, ltb, List, [], ◌∷◌, ◌++◌, length, get_or, take, drop, set, Some, None, Option, Ok, Err, Result, sym, refl, ap, ◌∙◌, subst, arith}
use mathlib.Core.Logic.Iff
use Rattle.std.proofs.lemmas.List.{at_drop_more, at_drop_all, take_all, take_more, take_more_set, length-set, length-take-le}
use Rattle.std.proofs.lemmas.Bool.{ltb-false}
use Rattle.knowledge.specs.declared.fault.Cause.{Cause}
use Rattle.knowledge.specs.declared.fault.Cause.TheVariants.{Nodes}
use Rattle.knowledge.specs.declared.fault.Fault.{Fault}
use Rattle.knowledge.specs.declared.measure.Measure.{Measure}
use Rattle.knowledge.specs.declared.table.Kind.{Kind}
use Rattle.knowledge.specs.declared.table.Record.{Record}
use Rattle.knowledge.specs.declared.survey.Terms.{Terms}
use Rattle.knowledge.specs.Tables.Check.{bad_fact, bad_party, record_fault, record_checked, first_fault, check}
use Rattle.knowledge.specs.Faults.{in_table}
use Rattle.knowledge.specs.Tables.Formulas.{Formula, bottom}
use Rattle.knowledge.specs.Tables.Measures.{unmeasured, measure_of, Gauges, Small}
use Rattle.knowledge.specs.Tables.Questions.{Gauge}
use Rattle.knowledge.specs.Sets.{between}
use Rattle.knowledge.specs.Tables.Tables.{Table, none, formula, formula_of, depth, depth_of, in_order}
use Rattle.knowledge.proofs.Logic.{failed}
use Rattle.knowledge.proofs.Tables.Records.{in_order_length, in_order_push, formula_push, depth_push}
use Rattle.knowledge.proofs.Tables.Surveying.{gauged, nests_few}

-- the formulas of the first i records, and their depths
abbrev formulas : ℕ → Table → List Formula
formulas i t = in_order formula_of [] (take i t)

abbrev pub depths : ℕ → Table → List ℕ
depths i t = in_order depth_of [] (take i t)

-- i records are measured and without fault, and the rest decides
pub record Stands (p : Terms) (t : Table) (i : ℕ) (ms : List Measure) (last : Measure) : Type 0 where
  pub size : length ms ≡ 256
  pub small : Small 12 (take i ms)
  pub gauges : Gauges (formulas i t) (depths i t) (take i ms)
  pub latest : 0 < i → Gauge (formula (take i t)) (depth (take i t)) last
  pub rest : first_fault p (depths i t) (drop i t) ≡ first_fault p [] t

-- nothing measures nothing
nothing_gauged : Gauge bottom 0 unmeasured
nothing_gauged = record { depth = refl; tells = refl; knowledge = Iff.rfl }

-- at the start
pub begins : (p : Terms) (t : Table) (ms : List Measure) (last : Measure) → length ms ≡ 256 → Stands p t 0 ms last
unfolding in_order
begins p t ms last e = record {
  size = e;
  small = λ k. (omega arith, omega arith);
  gauges = λ k. nothing_gauged;
  latest = λ h. absurd (omega arith);
  rest = refl;
}

-- there are as many depths as records
depths_length : (i : ℕ) (t : Table) → i ≤ length t → length (depths i t) ≡ i
depths_length i t h = in_order_length depth_of [] (take i t) ∙ (ap (λ (n : ℕ). 0 + n) (length-take-le i t h) ∙ omega arith)

-- what the next record measures
next_gauged : (p : Terms) (t : Table) (i : ℕ) (ms : List Measure) (last : Measure) → Stands p t i ms last
    → Gauge (formula_of (formulas i t) (get_or t i none)) (depth_of (depths i t) (get_or t i none)) (measure_of (take i ms) (get_or t i none))
next_gauged p t i ms last s = gauged (formulas i t) (depths i t) (take i ms) (get_or t i none) s.gauges

-- what a record decides, by its place, the depths up to it and the records that follow
abbrev pub outcome : Terms → ℕ → List ℕ → Table → Option Cause → Option Fault
outcome p place ds rs (Some c) = Some (in_table c place)
outcome p place ds rs None = first_fault p ds rs

-- the first of some records decides, or those after it do
pub first_decides : (p : Terms) (ds : List ℕ) (r : Record) (rs : Table)
    → first_fault p ds (r ∷ rs) ≡ outcome p (length ds) (ds ++ (depth_of ds r ∷ [])) rs (record_fault p (length ds) (depth_of ds r) r.kind)
unfolding first_fault
first_decides p ds r rs = go (record_fault p (length ds) (depth_of ds r) r.kind)
  where
    go : (o : Option Cause) → elim o as (λ _. Option Fault) [ Some c ↦ Some (in_table c (length ds)) | None ↦ first_fault p (ds ++ (depth_of ds r ∷ [])) rs ]
        ≡ outcome p (length ds) (ds ++ (depth_of ds r ∷ [])) rs o
    go (Some c) = refl
    go None = refl

-- the depths of one more record
depths_more : (i : ℕ) (t : Table) → i < length t → depths i t ++ (depth_of (depths i t) (get_or t i none) ∷ []) ≡ depths (i + 1) t
depths_more i t h = sym (ap (in_order depth_of []) (take_more t i none h) ∙ in_order_push depth_of [] (take i t) (get_or t i none))

-- the record at place i decides, or those after it do
pub decides_at : (p : Terms) (t : Table) (i : ℕ) → i < length t
    → first_fault p (depths i t) (drop i t)
    ≡ outcome p i (depths (i + 1) t) (drop (i + 1) t) (record_fault p i (depth_of (depths i t) (get_or t i none)) (get_or t i none).kind)
decides_at p t i h =
    let r : Record = get_or t i none in
    let d : ℕ = depth_of (depths i t) r in
    let n : length (depths i t) ≡ i = depths_length i t (omega arith) in
    let m : depths i t ++ (d ∷ []) ≡ depths (i + 1) t = depths_more i t h in
    at_drop_more (first_fault p (depths i t)) t i none h
    ∙ (first_decides p (depths i t) r (drop (i + 1) t)
    ∙ (λ j. outcome p (n j) (m j) (drop (i + 1) t) (record_fault p (n j) d r.kind)))

-- so does the next record, by what it measures
next_decides : (p : Terms) (t : Table) (i : ℕ) (ms : List Measure) (last : Measure) → Stands p t i ms last → i < length t
    → first_fault p [] t
    ≡ outcome p i (depths (i + 1) t) (drop (i + 1) t) (record_fault p i (measure_of (take i ms) (get_or t i none)).depth (get_or t i none).kind)
next_decides p t i ms last s h =
    let r : Record = get_or t i none in
    let d : depth_of (depths i t) r ≡ (measure_of (take i ms) r).depth = sym (next_gauged p t i ms last s).depth in
    sym s.rest ∙ (decides_at p t i h ∙ (λ j. outcome p i (depths (i + 1) t) (drop (i + 1) t) (record_fault p i (d j) r.kind)))

-- what holds of each place of a list, and of one value more
each_push : {X : Type 0} (P : X → Type 0) (xs : List X) (x d : X) → ((k : ℕ) → P (get_or xs k d)) → P x → (k : ℕ) → P (get_or (xs ++ (x ∷ [])) k d)
each_push P [] x d h p zero = p
each_push P [] x d h p (suc k) = h 0
each_push P (y ∷ ys) x d h p zero = h 0
each_push P (y ∷ ys) x d h p (suc k) = each_push P ys x d (λ j. h (suc j)) p k

-- one record more is measured
gauges_push : (fs : List Formula) (ds : List ℕ) (ms : List Measure) (f : Formula) (d : ℕ) (m : Measure) → length fs ≡ length ms → length ds ≡ length ms
    → Gauges fs ds ms → Gauge f d m → Gauges (fs ++ (f ∷ [])) (ds ++ (d ∷ [])) (ms ++ (m ∷ []))
gauges_push [] [] [] f d m e n g h zero = h
gauges_push [] [] [] f d m e n g h (suc k) = nothing_gauged
gauges_push (x ∷ xs) (y ∷ ys) (z ∷ zs) f d m e n g h zero = g 0
gauges_push (x ∷ xs) (y ∷ ys) (z ∷ zs) f d m e n g h (suc k) = gauges_push xs ys zs f d m (omega arith) (omega arith) (λ j. g (suc j)) h k
gauges_push [] [] (z ∷ zs) f d m e n g h k = absurd (omega arith)
gauges_push [] (y ∷ ys) [] f d m e n g h k = absurd (omega arith)
gauges_push [] (y ∷ ys) (z ∷ zs) f d m e n g h k = absurd (omega arith)
gauges_push (x ∷ xs) [] [] f d m e n g h k = absurd (omega arith)
gauges_push (x ∷ xs) [] (z ∷ zs) f d m e n g h k = absurd (omega arith)
gauges_push (x ∷ xs) (y ∷ ys) [] f d m e n g h k = absurd (omega arith)

-- a record without fault is not too deep
not_deep : (p : Terms) (place d : ℕ) (r : Record) → record_fault p place d r.kind ≡ None → d ≤ 12
not_deep p place d r e =
    let a = failed (bad_fact p.facts r.kind) _ _ e in
    let b = failed (bad_party p.parties r.kind) _ _ a.1 in
    let c : ltb 12 d ≡ false = (failed (ltb 12 d) _ _ b.1).0 in
    omega (arith, ltb-false 12 d c)

-- the next record is measured and without fault
pub goes_on : (p : Terms) (t : Table) (i : ℕ) (ms : List Measure) (last m : Measure) (o : Option Cause) → Stands p t i ms last → i < length t → i < 256
    → m ≡ measure_of (take i ms) (get_or t i none) → o ≡ record_fault p i m.depth (get_or t i none).kind → o ≡ None
    → Stands p t (i + 1) (set ms i m) m
goes_on p t i ms last m o s h l e g d =
    let r : Record = get_or t i none in
    let f : record_fault p i m.depth r.kind ≡ None = sym g ∙ d in
    let size = s.size in
    let more : take (i + 1) (set ms i m) ≡ take i ms ++ (m ∷ []) = take_more_set ms i m (omega arith) in
    let table : take (i + 1) t ≡ take i t ++ (r ∷ []) = take_more t i none h in
    let here : Gauge (formula_of (formulas i t) r) (depth_of (depths i t) r) m =
    subst (λ (x : Measure). Gauge (formula_of (formulas i t) r) (depth_of (depths i t) r) x) (sym e) (next_gauged p t i ms last s) in
    let fs : formulas i t ++ (formula_of (formulas i t) r ∷ []) ≡ formulas (i + 1) t =
    sym (ap (in_order formula_of []) table ∙ in_order_push formula_of [] (take i t) r) in
    let short : length (take i ms) ≡ i = length-take-le i ms (omega arith) in
    let none_wrong : record_fault p i (measure_of (take i ms) r).depth r.kind ≡ None = rw e at f in
    let few : m.tells ≤ m.depth = rw e (nests_few (take i ms) r s.small) in
    record {
      size = length-set ms i m ∙ size;
      small = rw more (each_push (λ (x : Measure). (x.tells ≤ x.depth) × (x.depth ≤ 12)) (take i ms) m unmeasured s.small (few, not_deep p i m.depth r f));
      gauges = rw more (subst (λ (x : List Formula). Gauges x (depths (i + 1) t) (take i ms ++ (m ∷ []))) fs
          (subst (λ (x : List ℕ). Gauges (formulas i t ++ (formula_of (formulas i t) r ∷ [])) x (take i ms ++ (m ∷ []))) (depths_more i t h)
          (gauges_push (formulas i t) (depths i t) (take i ms) (formula_of (formulas i t) r) (depth_of (depths i t) r) m
          (in_order_length formula_of [] (take i t) ∙ omega (arith, length-take-le i t (omega arith))) (in_order_length depth_of [] (take i t) ∙ omega (arith, length-take-le i t (omega arith))) s.gauges here)));
      latest = λ _. rw (table, formula_push (take i t) r, depth_push (take i t) r) here;
      rest = sym (next_decides p t i ms last s h
          ∙ ap (outcome p i (depths (i + 1) t) (drop (i + 1) t)) none_wrong);
    }

-- the check refuses a table of a bad length
pub refuses_length : (p : Terms) (t : Table) (f : Fault) → between 1 256 (length t) ≡ false → f ≡ in_table Nodes 0 → check p t ≡ Some f
unfolding check
refuses_length p t f e g = rw (e, g)

-- the check of a table of a good length goes by its records
pub checked_records : (p : Terms) (t : Table) → between 1 256 (length t) ≡ true → check p t ≡ first_fault p [] t
unfolding check
checked_records p t e = rw e

-- the check refuses the first faulty record
pub refuses_record : (p : Terms) (t : Table) (i : ℕ) (ms : List Measure) (last m : Measure) (o : Option Cause) (c : Cause) (f : Fault)
    → between 1 256 (length t) ≡ true → Stands p t i ms last → i < length t → m ≡ measure_of (take i ms) (get_or t i none)
    → o ≡ record_fault p i m.depth (get_or t i none).kind → o ≡ Some c → f ≡ in_table c i → check p t ≡ Some f
refuses_record p t i ms last m o c f b s h e g d n =
    let w : record_fault p i (measure_of (take i ms) (get_or t i none)).depth (get_or t i none).kind ≡ Some c = rw e at (sym g ∙ d) in
    checked_records p t b
    ∙ (next_decides p t i ms last s h
    ∙ (ap (outcome p i (depths (i + 1) t) (drop (i + 1) t)) w ∙ ap Some (sym n)))

-- at the end the check passes
pub ends : (p : Terms) (t : Table) (i : ℕ) (ms : List Measure) (last : Measure) → between 1 256 (length t) ≡ true
    → Stands p t i ms last → length t ≤ i → 0 < length t → (check p t ≡ None) × Gauge (formula t) (depth t) last
unfolding first_fault
ends p t i ms last b s h l =
    let e : take i t ≡ t = take_all i t h in (
      checked_records p t b ∙ (sym s.rest ∙ at_drop_all (first_fault p (depths i t)) t i h),
      subst (λ (u : Table). Gauge (formula u) (depth u) last) e (s.latest (omega arith)),
    )

-- a refused record is why the check refuses
pub refused_record : (p : Terms) (t : Table) (i : ℕ) (ms : List Measure) (last m : Measure) (f : Fault)
    → between 1 256 (length t) ≡ true → Stands p t i ms last → i < length t → m ≡ measure_of (take i ms) (get_or t i none)
    → Err f ≡ record_checked p i m.depth (get_or t i none).kind → check p t ≡ Some f
refused_record p t i ms last m f b s h e g = go (record_fault p i m.depth (get_or t i none).kind) refl g
  where
    go : (o : Option Cause) → o ≡ record_fault p i m.depth (get_or t i none).kind
        → Err f ≡ (elim o as (λ _. Result Unit Fault) [ Some c ↦ Err (in_table c i) | None ↦ Ok tt ]) → check p t ≡ Some f
    go (Some c) q d = refuses_record p t i ms last m (Some c) c f b s h e q refl (grind arith)
    go None q d = absurd (grind arith)

-- a record that passed has no fault
pub passed_none : (p : Terms) (i d : ℕ) (k : Kind) → Ok tt ≡ record_checked p i d k → record_fault p i d k ≡ None
passed_none p i d k g = go (record_fault p i d k) g
  where
    go : (o : Option Cause) → Ok tt ≡ (elim o as (λ _. Result Unit Fault) [ Some c ↦ Err (in_table c i) | None ↦ Ok tt ]) → o ≡ None
    go (Some c) q = absurd (grind arith)
    go None q = refl
