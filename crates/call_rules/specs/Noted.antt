-- What is noted of the calls of each method: their places, the methods that they name, and the rules that they break by themselves.
use Rattle.std.specs.Prelude.{◌≡◌, ℕ, List, [], ◌∷◌, ◌++◌, bytes_eq, Bool, true, false, not, ◌&&◌, ◌||◌, length, map, nat_eq, slice_get, if◌then◌else◌}
use Rattle.std.specs.declared.option.Option.{Option}
use Rattle.std.specs.declared.option.Option.TheVariants.{Some, None}
use Rattle.qbs_base.specs.declared.span.Span.{Span}
use Rattle.java_ast.specs.Tree.{Expression, QueryLong, Expressions, Statement, Statements, PlainMethod}
use Rattle.java_mean.specs.Rules.{is_none, returns}
use Rattle.java_calls.specs.Called.{Call, call_of, method_named}
use Rattle.java_calls.specs.Inlining.{without_last, last_value, returned_by}
use Rattle.java_calls.specs.Rules.{Site, sites_in, sites_among, sites_at, sites_of, sites_returned, site_of, how_many, may_take_from, returns_at_its_end, number_named}
use Rattle.call_rules.specs.declared.rule.HelperRule.TheVariants as coded
use Rattle.call_rules.specs.declared.rule.HelperRule.{HelperRule as Coded}
use Rattle.call_rules.specs.declared.notes.Noted.{Noted}

abbrev pub has_value : Statement → Bool
has_value s = not (is_none (returned_by s))

abbrev pub ends_well : Statements → Bool
ends_well body = not (is_none (last_value body)) && not (returns (without_last body))

-- the least of the rules on a call of this method, which ends well or not, that the call breaks
abbrev pub broken_by : PlainMethod → Bool → Expressions → Option Statement → Option Coded
broken_by m ends es whole =
    if nat_eq (how_many es) (length m.params) then (if ends && may_take_from m.result whole then None else Some coded.Result) else Some coded.Arguments

abbrev pub broken_of : Option PlainMethod → Expressions → Option Statement → Option Coded
broken_of None es whole = Some coded.NoMethod
broken_of (Some m) es whole = broken_by m (returns_at_its_end m) es whole

abbrev pub noted : List PlainMethod → Site → Noted
noted ms site =
    record {
      at = site.at;
      callee = number_named ms site.call.name;
      breaks = broken_of (method_named site.call.name ms) site.call.arguments site.whole;
    }

abbrev pub notes_in : List PlainMethod → Option Statement → Expression → List Noted
notes_in ms whole e = map (noted ms) (sites_in whole e)

abbrev pub notes_among : List PlainMethod → Expressions → List Noted
notes_among ms es = map (noted ms) (sites_among es)

abbrev pub notes_at : List PlainMethod → Statement → List Noted
notes_at ms s = map (noted ms) (sites_at s)

abbrev pub notes_of : List PlainMethod → Statements → List Noted
notes_of ms p = map (noted ms) (sites_of p)

abbrev pub notes_returned : List PlainMethod → Option Expression → List Noted
notes_returned ms o = map (noted ms) (sites_returned o)

-- the calls of each method
abbrev pub all_notes : List PlainMethod → List PlainMethod → List (List Noted)
all_notes ms some = map (λ (m : PlainMethod). notes_of ms m.body) some

-- ---- The table of methods

abbrev pub number_at : List (List ℕ × ℕ) → List ℕ → Option ℕ
number_at [] x = None
number_at (p ∷ ps) x = if bytes_eq x p.0 then Some p.1 else number_at ps x

abbrev pub numbered_by : Option ℕ → List (List ℕ × ℕ) → List ℕ → ℕ → List (List ℕ × ℕ)
numbered_by None ps x n = ps ++ (x, n) ∷ []
numbered_by (Some m) ps x n = ps

-- a number under a name, where there is none
abbrev pub numbered_in : List (List ℕ × ℕ) → List ℕ → ℕ → List (List ℕ × ℕ)
numbered_in ps x n = numbered_by (number_at ps x) ps x n

-- the numbers are those of the first methods of their names, and it is known of each method whether it returns at its end
pub record AreTabled (numbers : List (List ℕ × ℕ)) (flags : List Bool) (ms : List PlainMethod) : Type 0 where
  pub numbered : (x : List ℕ) → number_at numbers x ≡ number_named ms x
  pub ended : flags ≡ map returns_at_its_end ms
