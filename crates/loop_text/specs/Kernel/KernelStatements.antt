-- K4: which statements a loop may hold. K5: how often variables are updated.
use Rattle.std.specs.Prelude.{ℕ, suc, Bool, true, false, not, ◌&&◌, ◌||◌, List, [], ◌∷◌, take, nat_eq, slice_get}
use Rattle.std.specs.Str.{bytes_eq}
use Rattle.std.specs.declared.option.Option.{Option}
use Rattle.std.specs.declared.option.Option.TheVariants.{Some, None}
use Rattle.qbs_base.specs.declared.scalar.Scalar.{Scalar}
use Rattle.qbs_base.specs.declared.scalar.Scalar.TheVariants as scalars
use Rattle.qbs_base.specs.declared.span.Span.{Span}
use Rattle.java_ast.specs.Tree.{Spelled, Expression, Statement}
use Rattle.java_ast.specs.Tree as plain
use Rattle.loop_text.specs.Kernel.KernelLoop.{is_while}
use Rattle.java_ast.specs.Names.{Names}
use Rattle.loop_text.specs.Sites.Sites.{Site, Binding, Row, Local, Outer, binding_at, same_binding, place_of, place_where, any_site, has_number, innermost, target_of, is_update}

-- ---- K4

-- an expression has a query or a fetch in it
abbrev pub asks : Expression → Bool
asks (plain.Lit at value) = false
asks (plain.Var at x) = false
asks (plain.Field at row column) = asks row
asks (plain.Binary at op a b) = asks a || asks b
asks (plain.Not at e) = asks e
asks (plain.Equals at a b) = asks a || asks b
asks (plain.Size at x) = false
asks (plain.Get at x e) = asks e
asks (plain.Contains at x e) = asks e
asks (plain.Fetch at table) = true
asks (plain.Query at element text arguments) = true
asks (plain.QueryLong at text arguments) = true
asks (plain.QueryBoolean at text arguments) = true
asks (plain.NewList at) = false
asks (plain.NewSet at) = false
asks (plain.NewSetOf at query) = true

abbrev pub is_truth : Scalar → Bool
is_truth (scalars.Bool b) = true
is_truth _ = false

-- `true` or `false`
abbrev pub is_truth_literal : Expression → Bool
is_truth_literal (plain.Lit at value) = is_truth value
is_truth_literal _ = false

abbrev pub is_boolean : Spelled → Bool
is_boolean plain.Boolean = true
is_boolean _ = false

-- `b = true` or `b = false`
abbrev pub sets_flag : Statement → Bool
sets_flag (plain.Assign at x e) = is_truth_literal e
sets_flag _ = false

abbrev pub is_after_flag : Option Statement → Bool
is_after_flag (Some s) = sets_flag s
is_after_flag None = false

abbrev pub is_while_site : Option Site → Bool
is_while_site (Some s) = is_while s.statement
is_while_site None = false

-- the innermost loop of some is one that counts
abbrev pub is_counted : List Site → Option ℕ → Bool
is_counted sites (Some n) = is_while_site (slice_get sites n)
is_counted sites None = false

-- the site may stand in a loop of the kernel form
abbrev pub is_allowed : List Site → Site → Statement → Bool
is_allowed sites s (plain.Declare at ty x e) = is_boolean ty && is_truth_literal e
is_allowed sites s (plain.Assign at x e) = not (asks e)
is_allowed sites s (plain.Add at x e) = not (asks e)
is_allowed sites s (plain.If at c a) = not (asks c)
is_allowed sites s (plain.IfElse at c a b) = not (asks c)
is_allowed sites s (plain.ForEach at ty x e b) = true
is_allowed sites s (plain.While at c b) = true
is_allowed sites s (plain.Break at) = is_after_flag s.previous && not (is_counted sites (innermost s.round.loops))
is_allowed sites s _ = false

abbrev pub broken_statement : List Site → ℕ → Site → Option Span
broken_statement sites n s = place_where (not (is_allowed sites s s.statement)) (place_of s.statement)

-- ---- K5

-- one target, bound alike at two sites
abbrev pub same_target : Option (List ℕ) → Binding → Option (List ℕ) → Binding → Bool
same_target (Some x) b (Some y) c = bytes_eq x y && same_binding b c
same_target _ b _ c = false

abbrev pub target_bound : List Site → ℕ → Option (List ℕ) → Binding
target_bound sites n (Some x) = binding_at sites n x
target_bound sites n None = Outer

-- what the target of an update is bound to
abbrev pub target_binding : List Site → ℕ → Site → Binding
target_binding sites n s = target_bound sites n (target_of s.statement)

-- both sites update one variable
abbrev pub share_target : List Site → ℕ → Site → ℕ → Site → Bool
share_target sites n s m t = same_target (target_of s.statement) (target_binding sites n s) (target_of t.statement) (target_binding sites m t)

abbrev pub is_row : Binding → Bool
is_row (Row n) = true
is_row _ = false

-- an update of what was updated before; the row of a loop is no accumulator and no flag
abbrev pub is_repeated : List Site → ℕ → Site → Bool
is_repeated sites n s = not (is_row (target_binding sites n s)) && any_site (λ m t. share_target sites n s m t) 0 (take n sites)

abbrev pub is_break : Statement → Bool
is_break (plain.Break at) = true
is_break _ = false

abbrev pub is_innermost_of : List ℕ → Option ℕ → Bool
is_innermost_of loops (Some n) = has_number loops n
is_innermost_of loops None = false

-- the site stands in a loop that this `break` ends, and isn't what stands directly before it
abbrev pub is_beside_break : ℕ → Site → ℕ → Site → Bool
is_beside_break n s m t = is_break t.statement && (is_innermost_of s.round.loops (innermost t.round.loops) && not (nat_eq (suc n) m))

abbrev pub is_beside_some_break : List Site → ℕ → Site → Bool
is_beside_some_break sites n s = any_site (λ m t. is_beside_break n s m t) 0 sites

abbrev pub broken_update : List Site → ℕ → Site → Option Span
broken_update sites n s = place_where (is_update s.statement && (is_repeated sites n s || is_beside_some_break sites n s)) (place_of s.statement)

-- a site updates the local variable that is declared at this number
abbrev pub updates_local : List Site → ℕ → ℕ → Site → Bool
updates_local sites d n s = is_update s.statement && same_binding (target_binding sites n s) (Local d)

abbrev pub is_declaration : Statement → Bool
is_declaration (plain.Declare at ty x e) = true
is_declaration _ = false

-- a flag that nothing updates
abbrev pub is_idle_flag : List Site → ℕ → Site → Bool
is_idle_flag sites d s = is_declaration s.statement && not (any_site (updates_local sites d) 0 sites)

abbrev pub is_none : Names → Bool
is_none [] = true
is_none (x ∷ xs) = false
