-- Programs that are equal but for places are well typed alike.
use Rattle.std.specs.Prelude.{ℕ, Bool, List, [], ◌∷◌, ◌++◌, Option, None}
use Rattle.std.proofs.Common.{◌≡◌, refl, sym, ap, ◌∙◌}
use Rattle.qbs_base.specs.declared.span.Span.{Span}
use Rattle.qbs_base.specs.Values.{Schema}
use Rattle.sql_ast.specs.Tree.{PlainQuery}
use Rattle.java_ast.specs.Tree.{Spelled, PlainMethod, PlainProgram}
use Rattle.java_ast.specs.Unplaced.{nowhere, unplaced_method, unplaced_methods, unplaced_program}
use Rattle.java_mean.specs.declared.rule.TypeRule.{TypeRule}
use Rattle.java_mean.specs.declared.rule.TypeRule.TheVariants as rules
use Rattle.java_mean.specs.declared.rule.TypeFault.{TypeFault}
use Rattle.java_mean.specs.Places.{Place, whole, in_method}
use Rattle.java_mean.specs.Visible.{Visible, is_visible, declared_in}
use Rattle.java_mean.specs.WellTyped.{marked, faults_at, faults_in, faults_in_methods, all_faults, IsWellTyped}
use Rattle.java_unplaced.proofs.Seen.{bare_place, bare_places, method_seen}
use Rattle.java_unplaced.proofs.Ruled.{bare_ats, unknown_bare, mismatch_bare, double_bare, identity_bare, alias_bare, modified_bare, query_bare, order_bare, return_bare, arity_bare, break_bare}

-- the faults, each at no place
abbrev bare_faults : List TypeFault → List TypeFault
bare_faults [] = []
bare_faults (f ∷ fs) = record { rule = f.rule; at = nowhere } ∷ bare_faults fs

joined : (xs ys : List TypeFault) → bare_faults (xs ++ ys) ≡ bare_faults xs ++ bare_faults ys
joined [] ys = refl
joined (x ∷ xs) ys = ap (λ (fs : List TypeFault). record { rule = x.rule; at = nowhere } ∷ fs) (joined xs ys)

both : (xs ys xs' ys' : List TypeFault) → xs' ≡ bare_faults xs → ys' ≡ bare_faults ys → xs' ++ ys' ≡ bare_faults (xs ++ ys)
both xs ys xs' ys' e f = ap (λ (fs : List TypeFault). fs ++ ys') e ∙ (ap (λ (fs : List TypeFault). bare_faults xs ++ fs) f ∙ sym (joined xs ys))

marked_bare : (rule : TypeRule) (ats : List Span) → marked rule (bare_ats ats) ≡ bare_faults (marked rule ats)
marked_bare rule [] = refl
marked_bare rule (at ∷ ats) = ap (λ (fs : List TypeFault). record { rule = rule; at = nowhere } ∷ fs) (marked_bare rule ats)

rule_bare : (rule : TypeRule) (here there : List Span) → here ≡ bare_ats there → marked rule here ≡ bare_faults (marked rule there)
rule_bare rule here there e = ap (marked rule) e ∙ marked_bare rule there

faults_bare : (schema : Schema) (read : List ℕ → Option PlainQuery) (r : Option Spelled) (p : Place) → faults_at schema read r (bare_place p) ≡ bare_faults (faults_at schema read r p)
faults_bare schema read r p =
    both _ _ _ _ (rule_bare rules.Unknown _ _ (unknown_bare schema p))
    (both _ _ _ _ (rule_bare rules.Mismatch _ _ (mismatch_bare schema read r p))
    (both _ _ _ _ (rule_bare rules.DoubleName _ _ (double_bare p))
    (both _ _ _ _ (rule_bare rules.TextIdentity _ _ (identity_bare schema p))
    (both _ _ _ _ (rule_bare rules.ListAlias _ _ (alias_bare schema p))
    (both _ _ _ _ (rule_bare rules.ModifiedInLoop _ _ (modified_bare p))
    (both _ _ _ _ (rule_bare rules.BadQuery _ _ (query_bare schema read p))
    (both _ _ _ _ (rule_bare rules.UnorderedQuery _ _ (order_bare read p))
    (both _ _ _ _ (rule_bare rules.ReturnPlace _ _ (return_bare p))
    (both _ _ _ _ (rule_bare rules.Arity _ _ (arity_bare read p)) (rule_bare rules.BreakPlace _ _ (break_bare p)))))))))))

all_bare : (schema : Schema) (read : List ℕ → Option PlainQuery) (r : Option Spelled) (ps : List Place) → faults_in schema read r (bare_places ps) ≡ bare_faults (faults_in schema read r ps)
all_bare schema read r [] = refl
all_bare schema read r (p ∷ ps) = both _ _ _ _ (faults_bare schema read r p) (all_bare schema read r ps)

method_bare : (schema : Schema) (read : List ℕ → Option PlainQuery) (double : Bool) (m : PlainMethod) →
    faults_in schema read m.result (whole double (unplaced_method m) ∷ in_method schema (unplaced_method m)) ≡ bare_faults (faults_in schema read m.result (whole double m ∷ in_method schema m))
method_bare schema read double m =
    ap (λ (ps : List Place). faults_in schema read m.result (whole double (unplaced_method m) ∷ ps)) (method_seen schema m) ∙ all_bare schema read m.result (whole double m ∷ in_method schema m)

methods_bare : (schema : Schema) (read : List ℕ → Option PlainQuery) (names : Visible) (ms : List PlainMethod) → faults_in_methods schema read names (unplaced_methods ms) ≡ bare_faults (faults_in_methods schema read names ms)
methods_bare schema read names [] = refl
methods_bare schema read names (m ∷ ms) =
    both (faults_in schema read m.result (whole (is_visible names m.name) m ∷ in_method schema m)) (faults_in_methods schema read (declared_in names m.name None) ms) _ _
    (method_bare schema read (is_visible names m.name) m) (methods_bare schema read (declared_in names m.name None) ms)

program_bare : (schema : Schema) (read : List ℕ → Option PlainQuery) (p : PlainProgram) → all_faults schema read (unplaced_program p) ≡ bare_faults (all_faults schema read p)
program_bare schema read p = methods_bare schema read [] p.methods

none_back : (fs : List TypeFault) → bare_faults fs ≡ [] → fs ≡ []
none_back [] e = refl
none_back (f ∷ fs) e = absurd cc

pub well_typed_alike : (schema : Schema) (read : List ℕ → Option PlainQuery) (p q : PlainProgram) → unplaced_program p ≡ unplaced_program q → IsWellTyped schema read p → IsWellTyped schema read q
well_typed_alike schema read p q e well =
    none_back (all_faults schema read q) (sym (program_bare schema read q) ∙ (ap (λ (x : PlainProgram). all_faults schema read x) (sym e) ∙ (program_bare schema read p ∙ ap bare_faults well)))
