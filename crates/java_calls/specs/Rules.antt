-- The rules of helpers, each with the places where it is broken.
use Rattle.std.specs.Prelude.{◌≡◌, ◌≢◌, ◌⊎◌, ℕ, suc, ◌+◌, ◌<◌, ◌≤◌, List, [], ◌∷◌, ◌++◌, Bool, true, false, not, ◌&&◌, ◌||◌, length, nat_eq, nat_lt, position, slice_get, take, codes, if◌then◌else◌}
use Rattle.std.specs.List.{flat_map, list_any}
use Rattle.std.specs.Str.{bytes_eq}
use Rattle.std.specs.declared.option.Option.{Option}
use Rattle.std.specs.declared.option.Option.TheVariants.{Some, None}
use Rattle.qbs_base.specs.declared.span.Span.{Span}
use Rattle.java_ast.specs.Tree.{Spelled, Int, Long, BoxedInteger, BoxedLong, ListOf, SetOf, Expression, Lit, Var, Field, Binary, Not, Equals, Size, Get, Contains, Fetch, Query, QueryLong, QueryBoolean, NewList, NewSet, NewSetOf, Expressions, NoMore, And, Statement, Declare, Assign, Add, Sort, If, IfElse, ForEach, While, Print, Return, Break, Statements, Nothing, Then, PlainMethod, PlainProgram}
use Rattle.java_mean.specs.Rules.{at_of, is_none, returns}
use Rattle.call_parts.specs.Kinds.{is_scalar_type, are_one_type, is_unreadable}
use Rattle.java_calls.specs.Called.{Call, call_of, call_in, method_at, method_named}
use Rattle.java_calls.specs.Inlining.{without_last, last_value, inlined_within}

-- as the code's enum has them, numbered from 1
pub data HelperRule : Type 0 where
  NoMethod : HelperRule
  Arguments : HelperRule
  Result : HelperRule
  Recursive : HelperRule
  TooLarge : HelperRule

abbrev pub rule_number : HelperRule → ℕ
rule_number NoMethod = 1
rule_number Arguments = 2
rule_number Result = 3
rule_number Recursive = 4
rule_number TooLarge = 5

-- ---- Where calls stand

-- a call, its place, and the statement whose whole value it is, if it is one's
pub record Site : Type 0 where
  pub at : Span
  pub call : Call
  pub whole : Option Statement

abbrev pub site_of : Option Statement → Span → Option Call → List Site
site_of whole at (Some call) = record { at = at; call = call; whole = whole } ∷ []
site_of whole at None = []

-- the calls in an expression, which is the whole value of this statement or of none, in text order
abbrev mutual
  pub sites_in : Option Statement → Expression → List Site
  sites_in whole (Field at row column) = sites_in None row
  sites_in whole (Binary at op a b) = sites_in None a ++ sites_in None b
  sites_in whole (Not at e) = sites_in None e
  sites_in whole (Equals at a b) = sites_in None a ++ sites_in None b
  sites_in whole (Get at x e) = sites_in None e
  sites_in whole (Contains at x e) = sites_in None e
  sites_in whole (Query at element text es) = sites_among es
  sites_in whole (QueryLong at text es) = site_of whole at (call_of (QueryLong at text es)) ++ sites_among es
  sites_in whole (QueryBoolean at text es) = sites_among es
  sites_in whole (NewSetOf at query) = sites_in None query
  sites_in whole _ = []

  pub sites_among : Expressions → List Site
  sites_among NoMore = []
  sites_among (And e es) = sites_in None e ++ sites_among es

abbrev pub sites_returned : Option Expression → List Site
sites_returned None = []
sites_returned (Some e) = sites_in None e

abbrev mutual
  pub sites_at : Statement → List Site
  sites_at (Declare at ty x e) = sites_in (Some (Declare at ty x e)) e
  sites_at (Assign at x e) = sites_in (Some (Assign at x e)) e
  sites_at (Add at x e) = sites_in None e
  sites_at (Sort at x keys downs) = []
  sites_at (If at c a) = sites_in None c ++ sites_of a
  sites_at (IfElse at c a b) = sites_in None c ++ (sites_of a ++ sites_of b)
  sites_at (ForEach at ty x e body) = sites_in None e ++ sites_of body
  sites_at (While at c body) = sites_in None c ++ sites_of body
  sites_at (Print at e) = sites_in None e
  sites_at (Return at e) = sites_returned e
  sites_at (Break at) = []

  pub sites_of : Statements → List Site
  sites_of Nothing = []
  sites_of (Then s ss) = sites_at s ++ sites_of ss

-- ---- 3. Result

-- its last statement returns a value, and no other statement returns
abbrev pub returns_at_its_end : PlainMethod → Bool
returns_at_its_end m = not (is_none (last_value m.body)) && not (returns (without_last m.body))

-- The statement may take a result of this type: a declaration one of its own type, an assignment a scalar. Where the result isn't scalar
-- the declared variable is one that can be read.
abbrev pub may_take : Spelled → Statement → Bool
may_take ty (Declare at declared x e) = are_one_type ty declared && (is_scalar_type ty || not (is_unreadable x))
may_take ty (Assign at x e) = is_scalar_type ty
may_take ty _ = false

abbrev pub may_take_from : Option Spelled → Option Statement → Bool
may_take_from (Some ty) (Some s) = may_take ty s
may_take_from _ _ = false

-- the method has a result that the statement, whose whole value the call is, may take
abbrev pub has_result_for : Option Statement → PlainMethod → Bool
has_result_for whole m = returns_at_its_end m && may_take_from m.result whole

-- ---- 4. Recursive

abbrev pub number_named : List PlainMethod → List ℕ → Option ℕ
number_named ms name = position (λ m. bytes_eq m.name name) ms

-- a method calls another, by their numbers
pub record CallsMethod (ms : List PlainMethod) (i j : ℕ) : Type 0 where
  pub method : PlainMethod
  pub there : slice_get ms i ≡ Some method
  pub number : ℕ
  pub site : Site
  pub calls : slice_get (sites_of method.body) number ≡ Some site
  pub named : number_named ms site.call.name ≡ Some j

pub data Reaches (ms : List PlainMethod) : ℕ → ℕ → Type 0 where
  directly : (i j : ℕ) → CallsMethod ms i j → Reaches ms i j
  through : (i j k : ℕ) → CallsMethod ms i j → Reaches ms j k → Reaches ms i k

-- ---- 1 to 4, of a call in a method

abbrev pub how_many : Expressions → ℕ
how_many NoMore = 0
how_many (And e es) = suc (how_many es)

-- a call of the method with the number i, which is the first in it or isn't, breaks the rule
abbrev pub Breaks : List PlainMethod → ℕ → ℕ → Site → HelperRule → Type 0
Breaks ms i n site NoMethod = method_named site.call.name ms ≡ None
Breaks ms i n site Arguments = (m : PlainMethod) × (method_named site.call.name ms ≡ Some m) × (how_many site.call.arguments ≢ length m.params)
Breaks ms i n site Result = (m : PlainMethod) × (method_named site.call.name ms ≡ Some m) × (has_result_for site.whole m ≡ false)
Breaks ms i n site Recursive = (n ≡ 0) × Reaches ms i i
Breaks ms i n site TooLarge = ⊥

-- a rule and its place, and the number of the method and of the call in it
pub record Broken (p : PlainProgram) (rule : HelperRule) (at : Span) : Type 0 where
  pub i : ℕ
  pub method : PlainMethod
  pub there : slice_get p.methods i ≡ Some method
  pub n : ℕ
  pub site : Site
  pub calls : slice_get (sites_of method.body) n ≡ Some site
  pub breaks : Breaks p.methods i n site rule
  pub place : at ≡ site.at

abbrev pub is_earlier : HelperRule → Span → HelperRule → Span → Bool
is_earlier r a s b = if nat_lt a.start b.start then true else (nat_eq a.start b.start && nat_lt (rule_number r) (rule_number s))

-- ---- 5. TooLarge

-- statements at all depths
abbrev mutual
  pub size_of : Statement → ℕ
  size_of (If at c a) = suc (total_of a)
  size_of (IfElse at c a b) = suc (total_of a + total_of b)
  size_of (ForEach at ty x e body) = suc (total_of body)
  size_of (While at c body) = suc (total_of body)
  size_of _ = 1

  pub total_of : Statements → ℕ
  total_of Nothing = 0
  total_of (Then s ss) = size_of s + total_of ss

abbrev pub sum_of : List PlainMethod → ℕ
sum_of [] = 0
sum_of (m ∷ ms) = total_of m.body + sum_of ms

abbrev pub most_statements : ℕ
most_statements = 100000

-- with this method of the inlined program, and not with those before it, there are too many statements
pub record IsTooLarge (p : PlainProgram) (at : Span) : Type 0 where
  pub depth : ℕ
  pub whole : PlainProgram
  pub inlined : inlined_within depth p ≡ Some whole
  pub i : ℕ
  pub method : PlainMethod
  pub there : slice_get p.methods i ≡ Some method
  pub before : sum_of (take i whole.methods) ≤ most_statements
  pub passed : most_statements < sum_of (take (suc i) whole.methods)
  pub place : at ≡ method.span

-- ---- The fault that is kept

-- none of the first four rules is broken
abbrev pub BreaksNone : PlainProgram → Type 0
BreaksNone p = (rule : HelperRule) (at : Span) → Broken p rule at → ⊥

-- the first place of the first four rules, and there the least number; the fifth only where these hold
abbrev pub IsFault : PlainProgram → HelperRule → Span → Type 0
IsFault p TooLarge at = IsTooLarge p at × BreaksNone p
IsFault p rule at = Broken p rule at × ((r : HelperRule) (to : Span) → Broken p r to → is_earlier r to rule at ≡ false)
