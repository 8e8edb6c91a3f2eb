-- Well-typed programs: no rule is broken at any place. Where rules are broken, the fault that is kept is that
-- of the first place, and there of the rule with the least number.
use Rattle.std.specs.Prelude.{◌≡◌, ℕ, Bool, true, false, ◌&&◌, List, [], ◌∷◌, ◌++◌, ◌⊎◌, nat_eq, nat_lt, if◌then◌else◌}
use Rattle.std.specs.declared.option.Option.{Option}
use Rattle.std.specs.declared.option.Option.TheVariants.{None}
use Rattle.qbs_base.specs.declared.span.Span.{Span}
use Rattle.qbs_base.specs.Values.{Schema}
use Rattle.sql_ast.specs.Tree.{PlainQuery}
use Rattle.java_ast.specs.Tree.{Spelled, PlainMethod, PlainProgram}
use Rattle.java_mean.specs.declared.rule.TypeRule.{TypeRule}
use Rattle.java_mean.specs.declared.rule.TypeRule.TheVariants as rules
use Rattle.java_mean.specs.declared.rule.TypeFault.{TypeFault}
use Rattle.java_mean.specs.Places.{Place, whole, in_method}
use Rattle.java_mean.specs.RuleNames.{rule_number}
use Rattle.java_mean.specs.Rules.{unknown, mismatch, double_name, text_identity, list_alias, modified_in_loop, bad_query, unordered_query, return_place, arity, break_place}
use Rattle.java_mean.specs.Visible.{Visible, is_visible, declared_in}

abbrev pub marked : TypeRule → List Span → List TypeFault
marked rule [] = []
marked rule (at ∷ ats) = record { rule = rule; at = at } ∷ marked rule ats

-- the faults of a place of a method with this result
abbrev pub faults_at : Schema → (List ℕ → Option PlainQuery) → Option Spelled → Place → List TypeFault
faults_at schema read r p =
    marked rules.Unknown (unknown schema p)
    ++ (marked rules.Mismatch (mismatch schema read r p)
    ++ (marked rules.DoubleName (double_name p)
    ++ (marked rules.TextIdentity (text_identity schema p)
    ++ (marked rules.ListAlias (list_alias schema p)
    ++ (marked rules.ModifiedInLoop (modified_in_loop p)
    ++ (marked rules.BadQuery (bad_query schema read p)
    ++ (marked rules.UnorderedQuery (unordered_query read p)
    ++ (marked rules.ReturnPlace (return_place p)
    ++ (marked rules.Arity (arity read p)
    ++ marked rules.BreakPlace (break_place p))))))))))

abbrev pub faults_in : Schema → (List ℕ → Option PlainQuery) → Option Spelled → List Place → List TypeFault
faults_in schema read r [] = []
faults_in schema read r (p ∷ ps) = faults_at schema read r p ++ faults_in schema read r ps

-- the faults of methods that stand after methods with these names
abbrev pub faults_in_methods : Schema → (List ℕ → Option PlainQuery) → Visible → List PlainMethod → List TypeFault
faults_in_methods schema read names [] = []
faults_in_methods schema read names (m ∷ ms) =
    faults_in schema read m.result (whole (is_visible names m.name) m ∷ in_method schema m)
    ++ faults_in_methods schema read (declared_in names m.name None) ms

-- all faults of a program, in no order that matters
abbrev pub all_faults : Schema → (List ℕ → Option PlainQuery) → PlainProgram → List TypeFault
all_faults schema read p = faults_in_methods schema read [] p.methods

-- a program is well typed under a schema, whose query texts are read so
abbrev pub IsWellTyped : Schema → (List ℕ → Option PlainQuery) → PlainProgram → Type 0
IsWellTyped schema read p = all_faults schema read p ≡ []

-- ---- The fault that is kept

-- a place that comes first, or the same place with a lesser number
abbrev pub is_before : TypeFault → TypeFault → Bool
is_before f g = if nat_lt f.at.start g.at.start then true else (nat_eq f.at.start g.at.start && nat_lt (rule_number f.rule) (rule_number g.rule))

abbrev pub NoneBefore : TypeFault → List TypeFault → Type 0
NoneBefore f [] = Unit {0}
NoneBefore f (g ∷ gs) = (is_before g f ≡ false) × NoneBefore f gs

abbrev pub Has : TypeFault → List TypeFault → Type 0
Has f [] = ⊥
Has f (g ∷ gs) = (f ≡ g) ⊎ Has f gs

pub record IsLeast (f : TypeFault) (fs : List TypeFault) : Type 0 where
  pub member : Has f fs
  pub first : NoneBefore f fs
