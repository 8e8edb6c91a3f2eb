-- Whether there are calls in parts one behind the other.
use Rattle.std.proofs.Common.{◌≡◌, ℕ, List, [], ◌∷◌, ◌++◌, Bool, true, false, cond, Option, Some, None, refl, sym, ap, ◌∙◌}
use Rattle.std.specs.Prelude.{◌||◌}
use Rattle.qbs_base.specs.declared.span.Span.{Span}
use Rattle.java_ast.specs.Tree.{Expression, Lit, Var, Field, Binary, Not, Equals, Size, Get, Contains, Fetch, Query, QueryLong, QueryBoolean, NewList, NewSet, NewSetOf, Expressions, Statement}
use Rattle.call_parts.specs.Called.{is_single_name}
use Rattle.java_calls.specs.Called.{Call, call_of}
use Rattle.java_calls.specs.Rules.{Site, site_of, sites_in, sites_among}
use Rattle.method_texts.specs.Anew.{has_sites}

pub has_joined : (a b : List Site) → has_sites (a ++ b) ≡ has_sites a || has_sites b
has_joined [] b = refl
has_joined (s ∷ a) b = refl

abbrev named : Bool → Call → Option Call
named one call = cond one (Some call) None

has_named : (whole : Option Statement) (at : Span) (one : Bool) (call : Call) → has_sites (site_of whole at (named one call)) ≡ one
has_named whole at true call = refl
has_named whole at false call = refl

-- a query is a call where its text is a single name
pub has_call_of : (whole : Option Statement) (at to : Span) (text : List ℕ) (es : Expressions) → has_sites (site_of whole at (call_of (QueryLong to text es))) ≡ is_single_name text
has_call_of whole at to text es = has_named whole at (is_single_name text) (record { name = text; arguments = es })

pub has_query : (whole : Option Statement) (at : Span) (text : List ℕ) (es : Expressions) → has_sites (sites_in whole (QueryLong at text es)) ≡ is_single_name text || has_sites (sites_among es)
has_query whole at text es = rw (has_joined (site_of whole at (call_of (QueryLong at text es))) (sites_among es), has_call_of whole at at text es) refl

-- whether there are any does not depend on what the expression is the whole value of
pub has_any : (whole : Option Statement) (e : Expression) → has_sites (sites_in whole e) ≡ has_sites (sites_in None e)
has_any whole (Lit at value) = refl
has_any whole (Var at name) = refl
has_any whole (Field at row name) = refl
has_any whole (Binary at op a b) = refl
has_any whole (Not at e) = refl
has_any whole (Equals at a b) = refl
has_any whole (Size at name) = refl
has_any whole (Get at name e) = refl
has_any whole (Contains at name e) = refl
has_any whole (Fetch at table) = refl
has_any whole (Query at element text es) = refl
has_any whole (QueryLong at text es) = rw (has_query whole at text es, has_query None at text es) refl
has_any whole (QueryBoolean at text es) = refl
has_any whole (NewList at) = refl
has_any whole (NewSet at) = refl
has_any whole (NewSetOf at query) = refl

-- ---- One part behind another

-- a part has calls, and so has the whole that begins with it
pub first_has : (a b : List Site) (n whole : Bool) → n ≡ has_sites a → n ≡ true → has_sites (a ++ b) ≡ whole → true ≡ whole
first_has a b n whole p q e = ap (λ (k : Bool). k || has_sites b) (sym q ∙ p) ∙ sym (has_joined a b) ∙ e

-- a part has none: the whole has those of what is behind it
pub first_lacks : (a b : List Site) (n whole : Bool) → n ≡ has_sites a → n ≡ false → has_sites (a ++ b) ≡ whole → has_sites b ≡ whole
first_lacks a b n whole p q e = ap (λ (k : Bool). k || has_sites b) (sym q ∙ p) ∙ sym (has_joined a b) ∙ e

-- a query that is no call itself
pub query_lacks : (at : Span) (text : List ℕ) (es : Expressions) (n : Bool) → n ≡ is_single_name text → n ≡ false → has_sites (sites_among es) ≡ has_sites (sites_in None (QueryLong at text es))
query_lacks at text es n p q = ap (λ (k : Bool). k || has_sites (sites_among es)) (sym q ∙ p) ∙ sym (has_query None at text es)

pub ruleset sites = (has_joined, has_query, has_any)
