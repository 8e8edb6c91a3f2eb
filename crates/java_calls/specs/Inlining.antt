-- The program in which no call is left. The calls are replaced one by one, the first in the text always first: the parameters
-- with the arguments, the helper's body, and the statement of the call with the value that the helper returns.
use Rattle.std.specs.Prelude.{◌≡◌, ℕ, zero, suc, List, [], ◌∷◌, ◌++◌, Bool, true, false, if◌then◌else◌}
use Rattle.std.specs.List.{flat_map}
use Rattle.std.specs.Option.{option_map}
use Rattle.std.specs.Str.{bytes_eq}
use Rattle.std.specs.declared.option.Option.{Option}
use Rattle.std.specs.declared.option.Option.TheVariants.{Some, None}
use Rattle.qbs_base.specs.declared.span.Span.{Span}
use Rattle.java_ast.specs.Names.{Names}
use Rattle.java_ast.specs.Path.{with_body, with_methods}
use Rattle.java_ast.specs.Spans.{place_of}
use Rattle.java_ast.specs.Tree.{Spelled, Int, Long, Boolean, String, Expression, Var, Expressions, NoMore, And, Statement, Declare, Assign, Add, Sort, If, IfElse, ForEach, While, Print, Return, Break, Statements, Nothing, Then, PlainParam, PlainMethod, PlainProgram}
use Rattle.java_mean.specs.Refines.{followed_by}
use Rattle.call_parts.specs.Kinds.{is_scalar_type}
use Rattle.call_parts.specs.Marks.{next_number}
use Rattle.java_calls.specs.Called.{Call, call_of, method_named}
use Rattle.java_calls.specs.ProgramNames.{names_of}
use Rattle.java_calls.specs.Renaming.{Renaming, as_they_are, marked_but, renamed}

-- ---- Helpers

-- all statements of a block but the last one
abbrev pub without_last : Statements → Statements
without_last Nothing = Nothing
without_last (Then s Nothing) = Nothing
without_last (Then s (Then a p)) = Then s (without_last (Then a p))

abbrev pub returned_by : Statement → Option Expression
returned_by (Return at e) = e
returned_by _ = None

-- the value that the last statement of a block returns
abbrev pub last_value : Statements → Option Expression
last_value Nothing = None
last_value (Then s Nothing) = returned_by s
last_value (Then s (Then a p)) = last_value (Then a p)

-- the type with which the first statement of a block that declares the variable declares it
abbrev pub declared_type : List ℕ → Statements → Option Spelled
declared_type x Nothing = None
declared_type x (Then (Declare at ty y e) p) = if bytes_eq y x then Some ty else declared_type x p
declared_type x (Then s p) = declared_type x p

abbrev pub unless_scalar : List ℕ → Option Spelled → Option (List ℕ)
unless_scalar x (Some ty) = if is_scalar_type ty then None else Some x
unless_scalar x None = None

abbrev pub kept_by : Statements → Option Expression → Option (List ℕ)
kept_by body (Some (Var at x)) = unless_scalar x (declared_type x body)
kept_by body _ = None

-- the variable that a helper returns, where its type isn't scalar
abbrev pub kept_variable : PlainMethod → Option (List ℕ)
kept_variable m = kept_by m.body (last_value m.body)

-- ---- One block

-- statements, and the last number that was taken
pub record Made : Type 0 where
  pub block : Statements
  pub taken : ℕ

abbrev pub alone : Statement → ℕ → Made
alone s taken = record { block = Then s Nothing; taken = taken }

-- what comes in place of a statement whose value is a call, whose own names are renamed so, behind the last number taken
abbrev pub Expand : Type 0
Expand = ℕ → Renaming → Statement → Call → Option Made

abbrev pub made_of : (Statements → Statement) → Option Made → Option Made
made_of f o = option_map (λ (m : Made). alone (f m.block) m.taken) o

abbrev pub then_made : Option Made → (ℕ → Option Made) → Option Made
then_made None f = None
then_made (Some m) f = option_map (λ (n : Made). record { block = followed_by m.block n.block; taken = n.taken }) (f m.taken)

abbrev pub both_made : (Statements → Statements → Statement) → Option Made → (ℕ → Option Made) → Option Made
both_made g None f = None
both_made g (Some m) f = option_map (λ (n : Made). alone (g m.block n.block) n.taken) (f m.taken)

abbrev pub expanded : Expand → ℕ → Renaming → Statement → Option Call → Statement → Option Made
expanded expand taken f s (Some call) other = expand taken f s call
expanded expand taken f s None other = Some (alone other taken)

abbrev mutual
  pub inlined : Expand → Renaming → ℕ → Statement → Option Made
  inlined expand f taken (Declare at ty x e) = expanded expand taken f (Declare at ty x e) (call_of e) (Declare at ty (f x) (renamed f e))
  inlined expand f taken (Assign at x e) = expanded expand taken f (Assign at x e) (call_of e) (Assign at (f x) (renamed f e))
  inlined expand f taken (Add at x e) = Some (alone (Add at (f x) (renamed f e)) taken)
  inlined expand f taken (Sort at x keys downs) = Some (alone (Sort at (f x) keys downs) taken)
  inlined expand f taken (If at c a) = made_of (If at (renamed f c)) (all_inlined expand f taken a)
  inlined expand f taken (IfElse at c a b) = both_made (IfElse at (renamed f c)) (all_inlined expand f taken a) (λ k. all_inlined expand f k b)
  inlined expand f taken (ForEach at ty x e body) = made_of (ForEach at ty (f x) (renamed f e)) (all_inlined expand f taken body)
  inlined expand f taken (While at c body) = made_of (While at (renamed f c)) (all_inlined expand f taken body)
  inlined expand f taken (Print at e) = Some (alone (Print at (renamed f e)) taken)
  inlined expand f taken (Return at e) = Some (alone (Return at (option_map (renamed f) e)) taken)
  inlined expand f taken (Break at) = Some (alone (Break at) taken)

  pub all_inlined : Expand → Renaming → ℕ → Statements → Option Made
  all_inlined expand f taken Nothing = Some (record { block = Nothing; taken = taken })
  all_inlined expand f taken (Then s ss) = then_made (inlined expand f taken s) (λ k. all_inlined expand f k ss)

-- ---- One call

abbrev pub target_of : Statement → List ℕ
target_of (Declare at ty x e) = x
target_of (Assign at x e) = x
target_of _ = []

-- the statement of the call with another value
abbrev pub with_value : Renaming → Statement → Expression → Statement
with_value f (Declare at ty x e) v = Declare at ty (f x) v
with_value f (Assign at x e) v = Assign at (f x) v
with_value f s v = s

-- a declaration for each parameter, with its argument
abbrev pub arguments_given : Span → Renaming → List PlainParam → Renaming → Expressions → Statements
arguments_given at g [] f es = Nothing
arguments_given at g (p ∷ ps) f NoMore = Nothing
arguments_given at g (p ∷ ps) f (And e es) = Then (Declare at p.ty (g p.name) (renamed f e)) (arguments_given at g ps f es)

-- the statement of the call behind the helper's body: it falls away where the returned variable has taken its name
abbrev pub ended : Renaming → Statement → Renaming → Option (List ℕ) → Option Expression → Statements
ended f s g (Some kept) value = Nothing
ended f s g None (Some e) = Then (with_value f s (renamed g e)) Nothing
ended f s g None None = Nothing

abbrev pub expand_with : Expand → ℕ → Renaming → Statement → Call → Option PlainMethod → Option Made
expand_with inner c f s call None = None
expand_with inner c f s call (Some m) =
    let g : Renaming = marked_but (kept_variable m) (f (target_of s)) c in
    option_map (λ (made : Made). record {
      block = followed_by (arguments_given (place_of s) g m.params f call.arguments) (followed_by made.block (ended f s g (kept_variable m) (last_value m.body)));
      taken = made.taken;
    })
    (all_inlined inner g c (without_last m.body))

-- calls in calls, of which so many may stand in one another
unfoldable pub expand_at : ℕ → Names → List PlainMethod → Expand
expand_at zero names ms taken f s call = None
expand_at (suc depth) names ms taken f s call = expand_with (expand_at depth names ms) (next_number names taken) f s call (method_named call.name ms)

-- ---- The program

pub record AllMade : Type 0 where
  pub methods : List PlainMethod
  pub taken : ℕ

abbrev pub made_method : PlainMethod → Option Made → (ℕ → Option AllMade) → Option AllMade
made_method m None further = None
made_method m (Some made) further = option_map (λ (all : AllMade). record { methods = with_body m made.block ∷ all.methods; taken = all.taken }) (further made.taken)

abbrev pub inlined_methods : Expand → ℕ → List PlainMethod → Option AllMade
inlined_methods expand taken [] = Some (record { methods = []; taken = taken })
inlined_methods expand taken (m ∷ ms) = made_method m (all_inlined expand as_they_are taken m.body) (λ k. inlined_methods expand k ms)

abbrev pub inlined_within : ℕ → PlainProgram → Option PlainProgram
inlined_within depth p = option_map (λ (all : AllMade). with_methods p all.methods) (inlined_methods (expand_at depth (names_of p) p.methods) 0 p.methods)

-- the program in which the calls are replaced
abbrev pub IsInlined : PlainProgram → PlainProgram → Type 0
IsInlined p q = (depth : ℕ) × (inlined_within depth p ≡ Some q)
