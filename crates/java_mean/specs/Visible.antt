-- The visible variables, in the order of their declarations, each with its type where that is known.
use Rattle.std.specs.Prelude.{ℕ, Bool, true, false, List, [], ◌∷◌, ◌++◌, bytes_eq, if◌then◌else◌, map}
use Rattle.std.specs.declared.option.Option.{Option}
use Rattle.std.specs.declared.option.Option.TheVariants.{None}
use Rattle.qbs_base.specs.Values.{Schema}
use Rattle.java_ast.specs.Names.{Names}
use Rattle.java_ast.specs.Tree.{Statement, Declare, PlainParam}
use Rattle.java_mean.specs.Types.{JavaType, type_spelled}

abbrev pub Visible : Type 0
Visible = List (List ℕ × Option JavaType)

abbrev pub names_seen : Visible → Names
names_seen vs = map (λ v. v.0) vs

abbrev pub is_visible : Visible → List ℕ → Bool
is_visible [] x = false
is_visible (v ∷ vs) x = if bytes_eq x v.0 then true else is_visible vs x

-- the type of a variable, where it is visible and has one
abbrev pub type_at : Visible → List ℕ → Option JavaType
type_at [] x = None
type_at (v ∷ vs) x = if bytes_eq x v.0 then v.1 else type_at vs x

-- what is visible after a declaration: a name that is visible already keeps its type
abbrev pub declared_in : Visible → List ℕ → Option JavaType → Visible
declared_in vs x k = if is_visible vs x then vs else vs ++ (x, k) ∷ []

-- what is visible after a statement of a block
abbrev pub after : Schema → Visible → Statement → Visible
after schema vs (Declare at ty x e) = declared_in vs x (type_spelled schema ty)
after schema vs _ = vs

-- the parameters are visible in a method's body
abbrev pub with_params : Schema → Visible → List PlainParam → Visible
with_params schema vs [] = vs
with_params schema vs (p ∷ ps) = with_params schema (declared_in vs p.name (type_spelled schema p.ty)) ps
