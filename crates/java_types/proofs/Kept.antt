-- The least of joined lists of faults, part by part.
use Rattle.std.proofs.Common.{◌≡◌, ℕ, List, [], ◌∷◌, ◌++◌, refl, sym, ap, ◌∙◌, append_assoc}
use Rattle.std.specs.declared.option.Option.{Option}
use Rattle.qbs_base.specs.declared.span.Span.{Span}
use Rattle.qbs_base.specs.Values.{Schema}
use Rattle.sql_ast.specs.Tree.{PlainQuery}
use Rattle.java_ast.specs.Tree.{Spelled}
use Rattle.java_mean.specs.declared.rule.TypeFault.{TypeFault}
use Rattle.java_mean.specs.declared.rule.TypeRule.{TypeRule}
use Rattle.java_mean.specs.Places.{Place}
use Rattle.java_mean.specs.WellTyped.{marked, faults_at, faults_in}
use Rattle.java_mean.specs.Least.{lesser, least}

pub least-append : (k : Option TypeFault) (fs gs : List TypeFault) → least k (fs ++ gs) ≡ least (least k fs) gs
least-append k [] gs = refl
least-append k (f ∷ fs) gs = least-append (lesser k f) fs gs

pub marked-append : (r : TypeRule) (xs ys : List Span) → marked r (xs ++ ys) ≡ marked r xs ++ marked r ys
marked-append r [] ys = refl
marked-append r (x ∷ xs) ys = ap (λ (l : List TypeFault). record { rule = r; at = x } ∷ l) (marked-append r xs ys)

pub faults_in-append : (schema : Schema) (read : List ℕ → Option PlainQuery) (r : Option Spelled) (ps qs : List Place) → faults_in schema read r (ps ++ qs) ≡ faults_in schema read r ps ++ faults_in schema read r qs
faults_in-append schema read r [] qs = refl
faults_in-append schema read r (p ∷ ps) qs = ap (λ (l : List TypeFault). faults_at schema read r p ++ l) (faults_in-append schema read r ps qs) ∙ sym (append_assoc (faults_at schema read r p) (faults_in schema read r ps) (faults_in schema read r qs))

pub ruleset parts = (least-append, marked-append, faults_in-append)
