-- What is found of a bundle is what `check` writes.
use Rattle.std.proofs.Common.{◌≡◌, ℕ, suc, ◌+◌, List, [], ◌∷◌, length, Option, Some, None, Result, Ok, sym, ap, ◌∙◌, subst, arith}
use Rattle.qbs_base.specs.declared.status.Status.{Status}
use Rattle.qbs_base.specs.Values.{Schema}
use Rattle.java_ast.specs.declared.tree.Program.{Program}
use Rattle.java_ast.specs.Reading.{program as plain_program}
use Rattle.java_ast.specs.Tree.{PlainProgram}
use Rattle.java_mean.specs.Keeps.{Keeps}
use Rattle.java_mean.specs.WellTyped.{IsWellTyped}
use Rattle.java_types.specs.Texts.{read_by}
use Rattle.deriv_check.specs.Bundles.{Entry}
use Rattle.rewrite_core.specs.Asked.{Place, replaced}
use Rattle.rewrite_core.specs.declared.checking.Checked.{Checked}
use Rattle.rewrite_core.specs.declared.checking.Checked.TheVariants as codes
use Rattle.rewrite_core.specs.Checked.{checks_in, IfAll}
use Rattle.rewrite_core.specs.Checking.{Checks, All, Refused, shown, or_refused, checked_from}
use Rattle.deliveries.specs.declared.plan.Plan.{Plan}
use Rattle.deliveries.specs.declared.fetch.Stop.{Stop}
use Rattle.deliveries.specs.Code.{OrMemory}
use Rattle.qbs.specs.Check.{accepted_line, refused_line, tells, checks}

abbrev plan_of : Status → List ℕ → Plan
plan_of status text = record { status = status; out = text; rep = [] }

pub all_same : (m n : ℕ) (p q : PlainProgram) → All m p ≡ All n q → m ≡ n
all_same m n p q e = cc

counted_by : (tables : Schema) (m : ℕ) (es : List Entry) (n : ℕ) (q : PlainProgram) → ((p : PlainProgram) → checked_from tables (suc m) es p ≡ All n q → n ≡ suc m + length es) →
    (o : Option Place) → or_refused m o (λ l. checked_from tables (suc m) es (replaced l)) ≡ All n q → n ≡ m + suc (length es)
counted_by tables m es n q further None h = absurd cc
counted_by tables m es n q further (Some l) h = let k : n ≡ suc m + length es = further (replaced l) h in omega arith

-- as many are accepted as there are entries
all_counted : (tables : Schema) (m : ℕ) (es : List Entry) (p : PlainProgram) (n : ℕ) (q : PlainProgram) → checked_from tables m es p ≡ All n q → n ≡ m + length es
unfolding checked_from
all_counted tables m [] p n q is = let e : m ≡ n = all_same m n p q is in omega arith
all_counted tables m (e ∷ es) p n q is = counted_by tables m es n q (λ r h. all_counted tables (suc m) es r n q h) (shown tables e p) is

pub all_told : (tables : Schema) (entries : List Entry) (p q : PlainProgram) (n : ℕ) (plan : Plan) → All n q ≡ checked_from tables 0 entries p →
    IsWellTyped tables (read_by tables) q → Keeps p q tables → plan ≡ plan_of Status.Ok (accepted_line n) → checks tables p entries plan
all_told tables entries p q n plan is well keeps due =
    let counted : n ≡ 0 + length entries = all_counted tables 0 entries p n q (sym is) in
    let many : n ≡ length entries = omega arith in
    subst (λ (c : Checks). tells tables entries p c plan) is (record { all = sym is ∙ ap (λ (k : ℕ). All k q) many; well = well; keeps = keeps }, due)

pub one_told : (tables : Schema) (entries : List Entry) (p : PlainProgram) (ordinal : ℕ) (plan : Plan) → Refused ordinal ≡ checked_from tables 0 entries p →
    plan ≡ plan_of Status.Refused (refused_line ordinal) → checks tables p entries plan
one_told tables entries p ordinal plan is due = subst (λ (c : Checks). tells tables entries p c plan) is due

-- the plan of what a bundle comes to
pub all_due : (r : Result Plan Stop) (k : Checked) (tables : Schema) (entries : List Entry) (p : PlainProgram) (n : ℕ) (made : Program) (plan : Plan) (text : List ℕ) → r ≡ Ok plan → k ≡ codes.All n made →
    checks_in k ≡ checked_from tables 0 entries p → IfAll k (λ q. IsWellTyped tables (read_by tables) q) → IfAll k (λ q. Keeps p q tables) → plan ≡ plan_of Status.Ok text → text ≡ accepted_line n →
    OrMemory r (checks tables p entries)
all_due r k tables entries p n made plan text e f is well keeps due said =
    let same : checks_in (codes.All n made) ≡ checked_from tables 0 entries p = subst (λ (x : Checked). checks_in x ≡ checked_from tables 0 entries p) f is in
    subst (λ (x : Result Plan Stop). OrMemory x (checks tables p entries)) (sym e)
    (all_told tables entries p (plain_program made) n plan same
    (subst (λ (x : Checked). IfAll x (λ q. IsWellTyped tables (read_by tables) q)) f well)
    (subst (λ (x : Checked). IfAll x (λ q. Keeps p q tables)) f keeps)
    (due ∙ ap (plan_of Status.Ok) said))

pub one_due : (r : Result Plan Stop) (k : Checked) (tables : Schema) (entries : List Entry) (p : PlainProgram) (ordinal : ℕ) (plan : Plan) (text : List ℕ) → r ≡ Ok plan → k ≡ codes.Refused ordinal →
    checks_in k ≡ checked_from tables 0 entries p → plan ≡ plan_of Status.Refused text → text ≡ refused_line ordinal → OrMemory r (checks tables p entries)
one_due r k tables entries p ordinal plan text e f is due said =
    let same : checks_in (codes.Refused ordinal) ≡ checked_from tables 0 entries p = subst (λ (x : Checked). checks_in x ≡ checked_from tables 0 entries p) f is in
    subst (λ (x : Result Plan Stop). OrMemory x (checks tables p entries)) (sym e)
    (one_told tables entries p ordinal plan same (due ∙ ap (plan_of Status.Refused) said))
