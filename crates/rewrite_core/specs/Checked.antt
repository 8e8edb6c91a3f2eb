-- What code finds out about a bundle.
use Rattle.std.specs.Prelude.{◌≡◌, ◌≤◌, Option, Some, None}
use Rattle.qbs_base.specs.Values.{Schema}
use Rattle.deriv_check.specs.Bundles.{Entry}
use Rattle.java_ast.specs.Path.{last_of, replaced_at}
use Rattle.java_ast.specs.Reading.{statements, program}
use Rattle.java_ast.specs.Tree.{PlainProgram}
use Rattle.java_mean.specs.Keeps.{Keeps}
use Rattle.java_mean.specs.WellTyped.{IsWellTyped}
use Rattle.java_types.specs.declared.checking.Typed.{Typed}
use Rattle.java_types.specs.Texts.{read_by}
use Rattle.rewrite_core.specs.declared.checking.Checked.{Checked}
use Rattle.rewrite_core.specs.declared.checking.Checked.TheVariants as codes
use Rattle.rewrite_core.specs.declared.checking.Shown.{Shown}
use Rattle.rewrite_core.specs.Asked.{Place, replaced}
use Rattle.rewrite_core.specs.Asking.{MayBeAsked}
use Rattle.rewrite_core.specs.Checking.{Checks, All, Refused, shown}

abbrev pub checks_in : Checked → Checks
checks_in (codes.All n p) = All n (program p)
checks_in (codes.Refused i) = Refused i

-- where all entries are accepted, the program that they make is so
abbrev pub IfAll : Checked → (PlainProgram → Type 0) → Type 0
IfAll (codes.All n p) S = S (program p)
IfAll (codes.Refused i) S = Unit {0}

-- the loop gives way so, and may be asked for
pub record GivesWayAs (schema : Schema) (p : PlainProgram) (l : Place) (way : Shown) : Type 0 where
  pub program : l.program ≡ p
  pub becomes : replaced_at way.path way.first (statements way.others.items) p ≡ replaced l
  pub begins : way.first ≤ last_of way.path
  pub may : MayBeAsked schema (read_by schema) l.program l.path l.setting l.candidate

-- what is found of a loop, or that there is none
abbrev pub IsShown : Schema → PlainProgram → Option Place → Option Shown → Type 0
IsShown schema p o None = o ≡ None
IsShown schema p o (Some way) = (l : Place) × (o ≡ Some l) × GivesWayAs schema p l way

-- the program behind an accepted entry
pub record FollowsOn (schema : Schema) (e : Entry) (p q : PlainProgram) : Type 0 where
  pub place : Place
  pub accepted : shown schema e p ≡ Some place
  pub becomes : q ≡ replaced place
  pub typed : IsWellTyped schema (read_by schema) q
  pub keeps : Keeps p q schema

abbrev pub Follows : Schema → Entry → PlainProgram → Option Typed → Type 0
Follows schema e p None = shown schema e p ≡ None
Follows schema e p (Some t) = FollowsOn schema e p (program t.program)
