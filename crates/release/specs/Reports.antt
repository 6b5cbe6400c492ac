-- What the scheduler is told of a law or a notice.
use Rattle.std.specs.Prelude.{◌≡◌, ℕ, true, false, List, ◌++◌, length, Some, None, Ok, Err, Result, codes, decimal}
use Rattle.knowledge.specs.declared.fault.Fault.{Fault}
use Rattle.knowledge.specs.declared.plan.Plan.{Plan}
use Rattle.knowledge.specs.Faults.{written}
use Rattle.knowledge.specs.Plans.{terms_of}
use Rattle.knowledge.specs.Tables.Check.{check}
use Rattle.knowledge.specs.Tables.Formulas.{MentionsKnowledge}
use Rattle.knowledge.specs.Tables.Tables.{Table, formula, depth, need}
use Rattle.release.specs.declared.report.Cost.{Cost}
use Rattle.release.specs.declared.report.Report.{Report}
use Rattle.release.specs.declared.report.Report.TheVariants.{Law, Movable, Fixed}

-- the bytes that tell what a formula takes, as in "records 7, depth 4, tells 0"
abbrev pub cost_line : Cost → List ℕ
cost_line c = codes "records " ++ (decimal c.records ++ (codes ", depth " ++ (decimal c.depth ++ (codes ", tells " ++ decimal c.tells))))

-- the bytes of a report
abbrev pub line : Report → List ℕ
line (Law c) = cost_line c
line (Movable c) = cost_line c ++ codes ", may change places"
line (Fixed c) = cost_line c ++ codes ", keeps its place: it mentions knowledge"

-- the bytes of what comes of a law or a notice
abbrev pub outcome : Result Report Fault → List ℕ
outcome (Ok r) = line r
outcome (Err f) = written f

-- what a formula takes
abbrev pub cost_of : Table → Cost
cost_of t = record { records = length t; depth = depth t; tells = need t }

-- the report on a law
abbrev pub LawReported : Plan → Table → Result Report Fault → Type 0
LawReported p t (Ok (Law c)) = (check (terms_of true p) t ≡ None) × (c ≡ cost_of t)
LawReported p t (Ok (Movable c)) = ⊥
LawReported p t (Ok (Fixed c)) = ⊥
LawReported p t (Err f) = check (terms_of true p) t ≡ Some f

-- the report on a notice: it keeps its place exactly if it mentions knowledge
abbrev pub NoticeReported : Plan → Table → Result Report Fault → Type 0
NoticeReported p t (Ok (Law c)) = ⊥
NoticeReported p t (Ok (Movable c)) = (check (terms_of false p) t ≡ None) × (c ≡ cost_of t) × ¬ MentionsKnowledge (formula t)
NoticeReported p t (Ok (Fixed c)) = (check (terms_of false p) t ≡ None) × (c ≡ cost_of t) × MentionsKnowledge (formula t)
NoticeReported p t (Err f) = check (terms_of false p) t ≡ Some f
