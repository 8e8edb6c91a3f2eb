-- The places of a program where all of them are left aside: the same places of its parts, each with its own places left aside.
use Rattle.std.specs.Prelude.{ℕ, Bool, true, false, List, [], ◌∷◌, ◌++◌, Some, None}
use Rattle.std.proofs.Common.{◌≡◌, refl, sym, ap, ◌∙◌}
use Rattle.qbs_base.specs.declared.span.Span.{Span}
use Rattle.qbs_base.specs.Values.{Schema}
use Rattle.java_ast.specs.Tree as plain
use Rattle.java_ast.specs.Tree.{Expression, Expressions, Statement, Statements, PlainParam, PlainMethod}
use Rattle.java_ast.specs.Unplaced.{nowhere, unplaced, unplaced_all, unplaced_statement, unplaced_block, unplaced_method}
use Rattle.java_mean.specs.Places.{Around, Place, value, step, param, whole, in_operands, in_expressions, in_expression, is_nothing, walking, in_for_each, in_while, in_branch, in_parts, in_statements, in_params, in_body, in_method}
use Rattle.java_mean.specs.Types.{type_spelled}
use Rattle.java_mean.specs.Visible.{Visible, declared_in, after, with_params}

abbrev pub bare_place : Place → Place
bare_place (value vs e) = value vs (unplaced e)
bare_place (step vs w last a) = step vs w last (unplaced_statement a)
bare_place (param vs at p) = param vs nowhere p
bare_place (whole double m) = whole double (unplaced_method m)

abbrev pub bare_places : List Place → List Place
bare_places [] = []
bare_places (p ∷ ps) = bare_place p ∷ bare_places ps

joined : (xs ys : List Place) → bare_places (xs ++ ys) ≡ bare_places xs ++ bare_places ys
joined [] ys = refl
joined (x ∷ xs) ys = ap (λ (ps : List Place). bare_place x ∷ ps) (joined xs ys)

both : (xs ys xs' ys' : List Place) → xs' ≡ bare_places xs → ys' ≡ bare_places ys → xs' ++ ys' ≡ bare_places (xs ++ ys)
both xs ys xs' ys' e f = ap (λ (ps : List Place). ps ++ ys') e ∙ (ap (λ (ps : List Place). bare_places xs ++ ps) f ∙ sym (joined xs ys))

behind : (p : Place) (xs xs' : List Place) → xs' ≡ bare_places xs → bare_place p ∷ xs' ≡ bare_places (p ∷ xs)
behind p xs xs' e = ap (λ (ps : List Place). bare_place p ∷ ps) e

mutual
  operands_seen : (vs : Visible) (e : Expression) → in_operands vs (unplaced e) ≡ bare_places (in_operands vs e)
  operands_seen vs (plain.Field at e f) = behind (value vs e) (in_operands vs e) (in_operands vs (unplaced e)) (operands_seen vs e)
  operands_seen vs (plain.Binary at op a b) = both (in_expression vs a) (in_expression vs b) (in_expression vs (unplaced a)) (in_expression vs (unplaced b)) (behind (value vs a) (in_operands vs a) (in_operands vs (unplaced a)) (operands_seen vs a)) (behind (value vs b) (in_operands vs b) (in_operands vs (unplaced b)) (operands_seen vs b))
  operands_seen vs (plain.Not at e) = behind (value vs e) (in_operands vs e) (in_operands vs (unplaced e)) (operands_seen vs e)
  operands_seen vs (plain.Equals at a b) = both (in_expression vs a) (in_expression vs b) (in_expression vs (unplaced a)) (in_expression vs (unplaced b)) (behind (value vs a) (in_operands vs a) (in_operands vs (unplaced a)) (operands_seen vs a)) (behind (value vs b) (in_operands vs b) (in_operands vs (unplaced b)) (operands_seen vs b))
  operands_seen vs (plain.Get at x e) = behind (value vs e) (in_operands vs e) (in_operands vs (unplaced e)) (operands_seen vs e)
  operands_seen vs (plain.Contains at x e) = behind (value vs e) (in_operands vs e) (in_operands vs (unplaced e)) (operands_seen vs e)
  operands_seen vs (plain.Query at ty text es) = all_seen vs es
  operands_seen vs (plain.QueryLong at text es) = all_seen vs es
  operands_seen vs (plain.QueryBoolean at text es) = all_seen vs es
  operands_seen vs (plain.NewSetOf at e) = behind (value vs e) (in_operands vs e) (in_operands vs (unplaced e)) (operands_seen vs e)
  operands_seen vs (plain.Lit at x) = refl
  operands_seen vs (plain.Var at x) = refl
  operands_seen vs (plain.Size at x) = refl
  operands_seen vs (plain.Fetch at t) = refl
  operands_seen vs (plain.NewList at) = refl
  operands_seen vs (plain.NewSet at) = refl

  all_seen : (vs : Visible) (es : Expressions) → in_expressions vs (unplaced_all es) ≡ bare_places (in_expressions vs es)
  all_seen vs plain.NoMore = refl
  all_seen vs (plain.And e es) = both (in_expression vs e) (in_expressions vs es) (in_expression vs (unplaced e)) (in_expressions vs (unplaced_all es)) (behind (value vs e) (in_operands vs e) (in_operands vs (unplaced e)) (operands_seen vs e)) (all_seen vs es)

seen : (vs : Visible) (e : Expression) → in_expression vs (unplaced e) ≡ bare_places (in_expression vs e)
seen vs e = behind (value vs e) (in_operands vs e) (in_operands vs (unplaced e)) (operands_seen vs e)

nothing_seen : (p : Statements) → is_nothing (unplaced_block p) ≡ is_nothing p
nothing_seen plain.Nothing = refl
nothing_seen (plain.Then a p) = refl

walking_seen : (e : Expression) (walked : List (List ℕ)) → walking (unplaced e) walked ≡ walking e walked
walking_seen (plain.Var at x) walked = refl
walking_seen (plain.Lit at x) walked = refl
walking_seen (plain.Field at e f) walked = refl
walking_seen (plain.Binary at op a b) walked = refl
walking_seen (plain.Not at e) walked = refl
walking_seen (plain.Equals at a b) walked = refl
walking_seen (plain.Size at x) walked = refl
walking_seen (plain.Get at x e) walked = refl
walking_seen (plain.Contains at x e) walked = refl
walking_seen (plain.Fetch at t) walked = refl
walking_seen (plain.Query at ty text es) walked = refl
walking_seen (plain.QueryLong at text es) walked = refl
walking_seen (plain.QueryBoolean at text es) walked = refl
walking_seen (plain.NewList at) walked = refl
walking_seen (plain.NewSet at) walked = refl
walking_seen (plain.NewSetOf at e) walked = refl

for_each_seen : (e : Expression) (w : Around) → in_for_each (unplaced e) w ≡ in_for_each e w
for_each_seen e w = ap (λ (walked : List (List ℕ)). record { walked = walked; in_loop = true; final = false }) (walking_seen e w.walked)

after_seen : (schema : Schema) (vs : Visible) (a : Statement) → after schema vs (unplaced_statement a) ≡ after schema vs a
after_seen schema vs (plain.Declare at ty x e) = refl
after_seen schema vs (plain.Assign at x e) = refl
after_seen schema vs (plain.Add at x e) = refl
after_seen schema vs (plain.Sort at x keys down) = refl
after_seen schema vs (plain.If at c a) = refl
after_seen schema vs (plain.IfElse at c a b) = refl
after_seen schema vs (plain.ForEach at ty x e body) = refl
after_seen schema vs (plain.While at c body) = refl
after_seen schema vs (plain.Print at e) = refl
after_seen schema vs (plain.Return at e) = refl
after_seen schema vs (plain.Break at) = refl

mutual
  parts_seen : (schema : Schema) (vs : Visible) (w : Around) (a : Statement) → in_parts schema vs w (unplaced_statement a) ≡ bare_places (in_parts schema vs w a)
  parts_seen schema vs w (plain.Declare at ty x e) = seen vs e
  parts_seen schema vs w (plain.Assign at x e) = seen vs e
  parts_seen schema vs w (plain.Add at x e) = seen vs e
  parts_seen schema vs w (plain.Sort at x keys down) = refl
  parts_seen schema vs w (plain.If at c a) =
      both (in_expression vs c) (in_statements schema vs (in_branch w) a) (in_expression vs (unplaced c)) (in_statements schema vs (in_branch w) (unplaced_block a)) (seen vs c) (block_seen schema vs (in_branch w) a)
  parts_seen schema vs w (plain.IfElse at c a b) =
      let one : List Place = in_statements schema vs (in_branch w) a in
      let two : List Place = in_statements schema vs (in_branch w) b in
      let one' : List Place = in_statements schema vs (in_branch w) (unplaced_block a) in
      let two' : List Place = in_statements schema vs (in_branch w) (unplaced_block b) in
      both (in_expression vs c) (one ++ two) (in_expression vs (unplaced c)) (one' ++ two') (seen vs c) (both one two one' two' (block_seen schema vs (in_branch w) a) (block_seen schema vs (in_branch w) b))
  parts_seen schema vs w (plain.ForEach at ty x e body) =
      let inside : Visible = declared_in vs x (type_spelled schema ty) in
      both (in_expression vs e) (in_statements schema inside (in_for_each e w) body) (in_expression vs (unplaced e)) (in_statements schema inside (in_for_each (unplaced e) w) (unplaced_block body)) (seen vs e)
      (ap (λ (u : Around). in_statements schema inside u (unplaced_block body)) (for_each_seen e w) ∙ block_seen schema inside (in_for_each e w) body)
  parts_seen schema vs w (plain.While at c body) =
      both (in_expression vs c) (in_statements schema vs (in_while w) body) (in_expression vs (unplaced c)) (in_statements schema vs (in_while w) (unplaced_block body)) (seen vs c) (block_seen schema vs (in_while w) body)
  parts_seen schema vs w (plain.Print at e) = seen vs e
  parts_seen schema vs w (plain.Return at None) = refl
  parts_seen schema vs w (plain.Return at (Some e)) = seen vs e
  parts_seen schema vs w (plain.Break at) = refl

  block_seen : (schema : Schema) (vs : Visible) (w : Around) (p : Statements) → in_statements schema vs w (unplaced_block p) ≡ bare_places (in_statements schema vs w p)
  block_seen schema vs w plain.Nothing = refl
  block_seen schema vs w (plain.Then a p) =
      let here : Bool → List Place = λ last. step vs w last (unplaced_statement a) ∷ in_parts schema vs w (unplaced_statement a) in
      both (step vs w (is_nothing p) a ∷ in_parts schema vs w a) (in_statements schema (after schema vs a) w p) (here (is_nothing (unplaced_block p))) (in_statements schema (after schema vs (unplaced_statement a)) w (unplaced_block p))
      (ap here (nothing_seen p) ∙ behind (step vs w (is_nothing p) a) (in_parts schema vs w a) (in_parts schema vs w (unplaced_statement a)) (parts_seen schema vs w a))
      (ap (λ (us : Visible). in_statements schema us w (unplaced_block p)) (after_seen schema vs a) ∙ block_seen schema (after schema vs a) w p)

params_seen : (schema : Schema) (vs : Visible) (at : Span) (ps : List PlainParam) → in_params schema vs nowhere ps ≡ bare_places (in_params schema vs at ps)
params_seen schema vs at [] = refl
params_seen schema vs at (p ∷ ps) =
    behind (param vs at p) (in_params schema (declared_in vs p.name (type_spelled schema p.ty)) at ps) (in_params schema (declared_in vs p.name (type_spelled schema p.ty)) nowhere ps)
    (params_seen schema (declared_in vs p.name (type_spelled schema p.ty)) at ps)

pub method_seen : (schema : Schema) (m : PlainMethod) → in_method schema (unplaced_method m) ≡ bare_places (in_method schema m)
method_seen schema m =
    both (in_params schema [] m.span m.params) (in_statements schema (with_params schema [] m.params) in_body m.body) (in_params schema [] nowhere m.params) (in_statements schema (with_params schema [] m.params) in_body (unplaced_block m.body))
    (params_seen schema [] m.span m.params) (block_seen schema (with_params schema [] m.params) in_body m.body)
