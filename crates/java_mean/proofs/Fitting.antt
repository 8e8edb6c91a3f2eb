-- Statements that fit in at a place of a program in which no rule is broken.
use Rattle.std.proofs.Common.{◌≡◌, ℕ, Bool, true, false, not, List, [], ◌∷◌, ◌++◌, length, Option, Some, None, refl, sym, ap, ◌∙◌, append_assoc}
use Rattle.std.specs.Prelude.{◌&&◌, ◌||◌}
use Rattle.qbs_base.specs.declared.span.Span.{Span}
use Rattle.qbs_base.specs.Values.{Schema}
use Rattle.sql_ast.specs.Tree.{PlainQuery}
use Rattle.java_ast.specs.Path.{with_body}
use Rattle.java_ast.specs.Tree as tree
use Rattle.java_ast.specs.Tree.{Spelled, Expression, Statement, Statements, PlainMethod, PlainProgram}
use Rattle.java_mean.specs.Fits.{IsSeenAlike, visible_past, visible_before, around_place, in_first, IsFineAt, IsFineBehind, IsLeftAlike, FitsIn}
use Rattle.java_mean.specs.Places.{Around, Place, step, whole, in_expression, in_parts, in_statement, in_statements, in_params, in_method, in_branch, in_while, in_for_each, in_body, is_nothing}
use Rattle.java_mean.specs.Refines.{Hole, Here, Past, InIf, InThen, InElse, InEach, InWhile, fill, followed_by, behind, types_at, with_part}
use Rattle.java_mean.specs.Rules.{only_if, is_none, returns, returns_in, returned, taken, set_result, unknown_result}
use Rattle.java_mean.specs.Types.{JavaType, Types, with_type, type_spelled, types_of_params, types_after, types_past}
use Rattle.java_mean.specs.Visible.{Visible, is_visible, type_at, declared_in, after, with_params}
use Rattle.java_mean.specs.WellTyped.{marked, faults_at, faults_in, faults_in_methods, IsWellTyped}
use Rattle.java_mean.specs.declared.rule.TypeRule.{TypeRule}
use Rattle.java_mean.specs.declared.rule.TypeRule.TheVariants as rules
use Rattle.java_mean.proofs.Faultless.{none_both, faults_in-append, none_in, fine, only_none, neither, got_some, absent, Sees, sees_declared}
use Rattle.java_mean.proofs.Bridge.{nth_seen}
use Rattle.java_mean.proofs.ByNames.{SameOn, statements_same}
use Rattle.java_mean.proofs.Replacing.{nth_here}

-- ---- Places one after the other

nothing_both : (p q : Statements) → is_nothing (followed_by p q) ≡ (is_nothing p && is_nothing q)
nothing_both tree.Nothing q = refl
nothing_both (tree.Then a p) q = refl

-- the places of the first statements, and of the rest
places_joined : (schema : Schema) (p q : Statements) (vs : Visible) (w : Around) → in_statements schema vs w (followed_by p q) ≡ in_first schema vs w (is_nothing q) p ++ in_statements schema (visible_past schema vs p) w q
places_joined schema tree.Nothing q vs w = refl
places_joined schema (tree.Then a p) q vs w =
    ap (λ (b : Bool). in_statement schema vs w b a ++ in_statements schema (after schema vs a) w (followed_by p q)) (nothing_both p q)
    ∙ ap (λ (ps : List Place). in_statement schema vs w (is_nothing p && is_nothing q) a ++ ps) (places_joined schema p q (after schema vs a) w)
    ∙ sym (append_assoc (in_statement schema vs w (is_nothing p && is_nothing q) a) (in_first schema (after schema vs a) w (is_nothing q) p) (in_statements schema (visible_past schema (after schema vs a) p) w q))

and_three : (a b c : Bool) → ((a && b) && c) ≡ (a && (b && c))
and_three true b c = refl
and_three false b c = refl

-- and of the first of joined statements
first_joined : (schema : Schema) (p q : Statements) (vs : Visible) (w : Around) (ends : Bool) → in_first schema vs w ends (followed_by p q) ≡ in_first schema vs w (is_nothing q && ends) p ++ in_first schema (visible_past schema vs p) w ends q
first_joined schema tree.Nothing q vs w ends = refl
first_joined schema (tree.Then a p) q vs w ends =
    let last : (is_nothing (followed_by p q) && ends) ≡ (is_nothing p && (is_nothing q && ends)) = ap (λ (b : Bool). b && ends) (nothing_both p q) ∙ and_three (is_nothing p) (is_nothing q) ends in
    ap (λ (b : Bool). in_statement schema vs w b a ++ in_first schema (after schema vs a) w ends (followed_by p q)) last
    ∙ ap (λ (ps : List Place). in_statement schema vs w (is_nothing p && (is_nothing q && ends)) a ++ ps) (first_joined schema p q (after schema vs a) w ends)
    ∙ sym (append_assoc (in_statement schema vs w (is_nothing p && (is_nothing q && ends)) a) (in_first schema (after schema vs a) w (is_nothing q && ends) p) (in_first schema (visible_past schema (after schema vs a) p) w ends q))

pub faults_joined : (schema : Schema) (read : List ℕ → Option PlainQuery) (r : Option Spelled) (vs : Visible) (w : Around) (ends : Bool) (one other : Statements) → faults_in schema read r (in_first schema vs w ends (followed_by one other)) ≡ faults_in schema read r (in_first schema vs w (is_nothing other && ends) one) ++ faults_in schema read r (in_first schema (visible_past schema vs one) w ends other)
faults_joined schema read r vs w ends one other = ap (faults_in schema read r) (first_joined schema one other vs w ends) ∙ faults_in-append schema read r (in_first schema vs w (is_nothing other && ends) one) (in_first schema (visible_past schema vs one) w ends other)

and_true : (b : Bool) → (b && true) ≡ b
and_true true = refl
and_true false = refl

-- first statements that end a block are the block
pub first_whole : (schema : Schema) (vs : Visible) (w : Around) (p : Statements) → in_first schema vs w true p ≡ in_statements schema vs w p
first_whole schema vs w tree.Nothing = refl
first_whole schema vs w (tree.Then a p) = ap (λ (b : Bool). in_statement schema vs w b a ++ in_first schema (after schema vs a) w true p) (and_true (is_nothing p)) ∙ ap (λ (ps : List Place). in_statement schema vs w (is_nothing p) a ++ ps) (first_whole schema (after schema vs a) w p)

none_joined : (schema : Schema) (read : List ℕ → Option PlainQuery) (r : Option Spelled) (ps qs : List Place) → faults_in schema read r ps ≡ [] → faults_in schema read r qs ≡ [] → faults_in schema read r (ps ++ qs) ≡ []
none_joined schema read r ps qs h k = rw (faults_in-append schema read r ps qs, h, k) refl

-- ---- What is seen

pub sees_after : (schema : Schema) (read : List ℕ → Option PlainQuery) (r : Option Spelled) (vs : Visible) (g : Types) (w : Around) (last : Bool) (a : Statement) → Sees vs g → faults_at schema read r (step vs w last a) ≡ [] → Sees (after schema vs a) (types_after schema g a)
sees_after schema read r vs g w last (tree.Declare at ty x e) s h =
    let n = fine schema read r (step vs w last (tree.Declare at ty x e)) h in
    let k = got_some (type_spelled schema ty) at n.known in
    let new = neither (is_visible vs x) _ (only_none (taken vs x) at n.single) in
    sees_declared vs g x (type_spelled schema ty) k.value s new.left k.is
sees_after schema read r vs g w last _ s h = s

sees_inner : (schema : Schema) (read : List ℕ → Option PlainQuery) (r : Option Spelled) (vs : Visible) (g : Types) (w : Around) (last : Bool) (at : Span) (ty : Spelled) (x : List ℕ) (e : Expression) (p : Statements) → Sees vs g → faults_at schema read r (step vs w last (tree.ForEach at ty x e p)) ≡ [] → Sees (declared_in vs x (type_spelled schema ty)) (with_type x (type_spelled schema ty) g)
sees_inner schema read r vs g w last at ty x e p s h =
    let n = fine schema read r (step vs w last (tree.ForEach at ty x e p)) h in
    let k = got_some (type_spelled schema ty) at n.known in
    let new = neither (is_visible vs x) _ (only_none (taken vs x) at n.single) in
    sees_declared vs g x (type_spelled schema ty) k.value s new.left k.is

pub sees_past : (schema : Schema) (read : List ℕ → Option PlainQuery) (r : Option Spelled) (p : Statements) (vs : Visible) (g : Types) (w : Around) (ends : Bool) → Sees vs g → faults_in schema read r (in_first schema vs w ends p) ≡ [] → Sees (visible_past schema vs p) (types_past schema g p)
sees_past schema read r tree.Nothing vs g w ends s h = s
sees_past schema read r (tree.Then a p) vs g w ends s h =
    let two = none_in schema read r (in_statement schema vs w (is_nothing p && ends) a) (in_first schema (after schema vs a) w ends p) h in
    let one = none_both (faults_at schema read r (step vs w (is_nothing p && ends) a)) (faults_in schema read r (in_parts schema vs w a)) two.left in
    sees_past schema read r p (after schema vs a) (types_after schema g a) w ends (sees_after schema read r vs g w (is_nothing p && ends) a s one.left) two.right

visible_by : (vs : Visible) (g : Types) (x : List ℕ) (o : Option JavaType) (b : Bool) → Sees vs g → g x ≡ o → is_visible vs x ≡ b → b ≡ not (is_none o)
visible_by vs g x None true s e q = let t = s.known x q in let none : type_at vs x ≡ None = s.same x ∙ e in let some : type_at vs x ≡ Some t.value = t.is in absurd cc
visible_by vs g x None false s e q = refl
visible_by vs g x (Some k) true s e q = refl
visible_by vs g x (Some k) false s e q = let none : type_at vs x ≡ None = absent vs x q in let some : type_at vs x ≡ Some k = s.same x ∙ e in absurd cc

-- what is visible is what has a type
pub visible_is_typed : (vs : Visible) (g : Types) (x : List ℕ) → Sees vs g → is_visible vs x ≡ not (is_none (g x))
visible_is_typed vs g x s = visible_by vs g x (g x) (is_visible vs x) s refl refl

-- a variable that has one type in both is seen alike
seen_alike : (vs us : Visible) (g h : Types) (x : List ℕ) → Sees vs g → Sees us h → g x ≡ h x → IsSeenAlike vs us x
seen_alike vs us g h x s t e =
    record {
      visible = visible_is_typed vs g x s ∙ ap (λ (o : Option JavaType). not (is_none o)) e ∙ sym (visible_is_typed us h x t);
      type = s.same x ∙ e ∙ sym (t.same x);
    }

-- ---- What is last, and what returns

and_false : (b : Bool) → (b && false) ≡ false
and_false true = refl
and_false false = refl

or_three : (a b c : Bool) → (a || (b || c)) ≡ ((a || b) || c)
or_three true b c = refl
or_three false b c = refl

more_left : (a b c : Bool) → (a ≡ true → b ≡ true) → (a || c) ≡ true → (b || c) ≡ true
more_left true b c f h = ap (λ (z : Bool). z || c) (f refl)
more_left false true c f h = refl
more_left false false c f h = h

more_right : (c a b : Bool) → (a ≡ true → b ≡ true) → (c || a) ≡ true → (c || b) ≡ true
more_right true a b f h = refl
more_right false a b f h = f h

-- less is marked where more is true
marked_less : (rule : TypeRule) (c a b : Bool) (at : Span) → (a ≡ true → b ≡ true) → marked rule (only_if (c && not a) at) ≡ [] → marked rule (only_if (c && not b) at) ≡ []
marked_less rule false a b at f h = refl
marked_less rule true true b at f h = ap (λ (z : Bool). marked rule (only_if (not z) at)) (f refl)
marked_less rule true false b at f h = absurd cc

not_last : (rule : TypeRule) (b : Bool) (at : Span) → marked rule (only_if (not (b && false)) at) ≡ [] → ⊥
not_last rule true at h = absurd cc
not_last rule false at h = absurd cc

-- a statement that has no fault before others has none where it is the last
last_too : (schema : Schema) (read : List ℕ → Option PlainQuery) (r : Option Spelled) (vs : Visible) (w : Around) (last : Bool) (a : Statement) → faults_at schema read r (step vs w false a) ≡ [] → faults_at schema read r (step vs w last a) ≡ []
last_too schema read r vs w last (tree.Return at e) h =
    let more = none_both (marked rules.Mismatch (returned schema vs r at e)) (marked rules.ReturnPlace (only_if (not (w.final && false)) at) ++ []) h in
    absurd (not_last rules.ReturnPlace w.final at (none_both (marked rules.ReturnPlace (only_if (not (w.final && false)) at)) [] more.right).left)
last_too schema read r vs w last (tree.Break at) h = absurd (not_last rules.BreakPlace w.in_loop at h)
last_too schema read r vs w last _ h = h

-- and so have statements
pub ends_too : (schema : Schema) (read : List ℕ → Option PlainQuery) (r : Option Spelled) (p : Statements) (vs : Visible) (w : Around) (ends : Bool) → faults_in schema read r (in_first schema vs w false p) ≡ [] → faults_in schema read r (in_first schema vs w ends p) ≡ []
ends_too schema read r tree.Nothing vs w ends h = refl
ends_too schema read r (tree.Then a p) vs w ends h =
    let two = none_in schema read r (in_statement schema vs w (is_nothing p && false) a) (in_first schema (after schema vs a) w false p) h in
    let one = none_both (faults_at schema read r (step vs w (is_nothing p && false) a)) (faults_in schema read r (in_parts schema vs w a)) two.left in
    let early : faults_at schema read r (step vs w false a) ≡ [] = ap (λ (b : Bool). faults_at schema read r (step vs w b a)) (sym (and_false (is_nothing p))) ∙ one.left in
    let here : faults_in schema read r (in_statement schema vs w (is_nothing p && ends) a) ≡ [] = rw (last_too schema read r vs w (is_nothing p && ends) a early, one.right) refl in
    none_joined schema read r (in_statement schema vs w (is_nothing p && ends) a) (in_first schema (after schema vs a) w ends p) here (ends_too schema read r p (after schema vs a) w ends two.right)

not_nothing : (hole : Hole) (p : Statements) → is_nothing p ≡ false → is_nothing (fill hole p) ≡ false
not_nothing (Here q) tree.Nothing n = absurd cc
not_nothing (Here q) (tree.Then a p) n = refl
not_nothing (Past a k) p n = refl
not_nothing (InIf at e k q) p n = refl
not_nothing (InThen at e k b q) p n = refl
not_nothing (InElse at e a k q) p n = refl
not_nothing (InEach at ty x e k q) p n = refl
not_nothing (InWhile at e k q) p n = refl

returns_both : (p q : Statements) → returns (followed_by p q) ≡ (returns p || returns q)
returns_both tree.Nothing q = refl
returns_both (tree.Then a p) q = ap (λ (b : Bool). returns_in a || b) (returns_both p q) ∙ or_three (returns_in a) (returns p) (returns q)

returns_too : (hole : Hole) (old new : Statements) → (returns old ≡ true → returns new ≡ true) → returns (fill hole old) ≡ true → returns (fill hole new) ≡ true
returns_too (Here q) old new f h = returns_both new q ∙ more_left (returns old) (returns new) (returns q) f (sym (returns_both old q) ∙ h)
returns_too (Past a k) old new f h = more_right (returns_in a) (returns (fill k old)) (returns (fill k new)) (returns_too k old new f) h
returns_too (InIf at e k q) old new f h = more_left (returns (fill k old)) (returns (fill k new)) (returns q) (returns_too k old new f) h
returns_too (InThen at e k b q) old new f h = more_left (returns (fill k old) || returns b) (returns (fill k new) || returns b) (returns q) (more_left (returns (fill k old)) (returns (fill k new)) (returns b) (returns_too k old new f)) h
returns_too (InElse at e a k q) old new f h = more_left (returns a || returns (fill k old)) (returns a || returns (fill k new)) (returns q) (more_right (returns a) (returns (fill k old)) (returns (fill k new)) (returns_too k old new f)) h
returns_too (InEach at ty x e k q) old new f h = more_left (returns (fill k old)) (returns (fill k new)) (returns q) (returns_too k old new f) h
returns_too (InWhile at e k q) old new f h = more_left (returns (fill k old)) (returns (fill k new)) (returns q) (returns_too k old new f) h

-- ---- A place in statements

-- the statements at a place have no fault, nor has what is behind them, and what is visible there is seen
pub record IsFinePlace (schema : Schema) (read : List ℕ → Option PlainQuery) (r : Option Spelled) (vs : Visible) (g : Types) (w : Around) (hole : Hole) (p : Statements) : Type 0 where
  pub part : faults_in schema read r (in_first schema (visible_before schema vs hole) (around_place w hole) (is_nothing (behind hole)) p) ≡ []
  pub behind : faults_in schema read r (in_statements schema (visible_past schema (visible_before schema vs hole) p) (around_place w hole) (behind hole)) ≡ []
  pub sees : Sees (visible_before schema vs hole) (types_at schema g hole)

module _ (schema : Schema) (read : List ℕ → Option PlainQuery) (r : Option Spelled) where
  -- a statement with a fault at none of its places, and the rest of its block
  record IsFineFirst (vs : Visible) (w : Around) (a : Statement) (p : Statements) : Type 0 where
    pub step : faults_at schema read r (step vs w (is_nothing p) a) ≡ []
    pub parts : faults_in schema read r (in_parts schema vs w a) ≡ []
    pub rest : faults_in schema read r (in_statements schema (after schema vs a) w p) ≡ []

  first_fine : (vs : Visible) (w : Around) (a : Statement) (p : Statements) → faults_in schema read r (in_statements schema vs w (tree.Then a p)) ≡ [] → IsFineFirst vs w a p
  first_fine vs w a p h =
      let two = none_in schema read r (in_statement schema vs w (is_nothing p) a) (in_statements schema (after schema vs a) w p) h in
      let one = none_both (faults_at schema read r (step vs w (is_nothing p) a)) (faults_in schema read r (in_parts schema vs w a)) two.left in
      record { step = one.left; parts = one.right; rest = two.right }

  -- and back
  first_none : (vs : Visible) (w : Around) (a : Statement) (p : Statements) → faults_at schema read r (step vs w (is_nothing p) a) ≡ [] → faults_in schema read r (in_parts schema vs w a) ≡ [] → faults_in schema read r (in_statements schema (after schema vs a) w p) ≡ [] → faults_in schema read r (in_statements schema vs w (tree.Then a p)) ≡ []
  first_none vs w a p h i j = none_joined schema read r (in_statement schema vs w (is_nothing p) a) (in_statements schema (after schema vs a) w p) (rw (h, i) refl) j

  place_fine : (hole : Hole) (p : Statements) (vs : Visible) (g : Types) (w : Around) → Sees vs g → faults_in schema read r (in_statements schema vs w (fill hole p)) ≡ [] → IsFinePlace schema read r vs g w hole p
  place_fine (Here q) p vs g w s h =
      let two = none_in schema read r (in_first schema vs w (is_nothing q) p) (in_statements schema (visible_past schema vs p) w q) (ap (faults_in schema read r) (sym (places_joined schema p q vs w)) ∙ h) in
      record { part = two.left; behind = two.right; sees = s }
  place_fine (Past a k) p vs g w s h =
      let f = first_fine vs w a (fill k p) h in
      let u = place_fine k p (after schema vs a) (types_after schema g a) w (sees_after schema read r vs g w (is_nothing (fill k p)) a s f.step) f.rest in
      record { part = u.part; behind = u.behind; sees = u.sees }
  place_fine (InIf at e k q) p vs g w s h =
      let f = first_fine vs w (tree.If at e (fill k p)) q h in
      let two = none_in schema read r (in_expression vs e) (in_statements schema vs (in_branch w) (fill k p)) f.parts in
      let u = place_fine k p vs g (in_branch w) s two.right in
      record { part = u.part; behind = u.behind; sees = u.sees }
  place_fine (InThen at e k b q) p vs g w s h =
      let f = first_fine vs w (tree.IfElse at e (fill k p) b) q h in
      let two = none_in schema read r (in_expression vs e) (in_statements schema vs (in_branch w) (fill k p) ++ in_statements schema vs (in_branch w) b) f.parts in
      let three = none_in schema read r (in_statements schema vs (in_branch w) (fill k p)) (in_statements schema vs (in_branch w) b) two.right in
      let u = place_fine k p vs g (in_branch w) s three.left in
      record { part = u.part; behind = u.behind; sees = u.sees }
  place_fine (InElse at e a k q) p vs g w s h =
      let f = first_fine vs w (tree.IfElse at e a (fill k p)) q h in
      let two = none_in schema read r (in_expression vs e) (in_statements schema vs (in_branch w) a ++ in_statements schema vs (in_branch w) (fill k p)) f.parts in
      let three = none_in schema read r (in_statements schema vs (in_branch w) a) (in_statements schema vs (in_branch w) (fill k p)) two.right in
      let u = place_fine k p vs g (in_branch w) s three.right in
      record { part = u.part; behind = u.behind; sees = u.sees }
  place_fine (InEach at ty x e k q) p vs g w s h =
      let f = first_fine vs w (tree.ForEach at ty x e (fill k p)) q h in
      let of_x = type_spelled schema ty in
      let two = none_in schema read r (in_expression vs e) (in_statements schema (declared_in vs x of_x) (in_for_each e w) (fill k p)) f.parts in
      let u = place_fine k p (declared_in vs x of_x) (with_type x of_x g) (in_for_each e w) (sees_inner schema read r vs g w (is_nothing q) at ty x e (fill k p) s f.step) two.right in
      record { part = u.part; behind = u.behind; sees = u.sees }
  place_fine (InWhile at e k q) p vs g w s h =
      let f = first_fine vs w (tree.While at e (fill k p)) q h in
      let two = none_in schema read r (in_expression vs e) (in_statements schema vs (in_while w) (fill k p)) f.parts in
      let u = place_fine k p vs g (in_while w) s two.right in
      record { part = u.part; behind = u.behind; sees = u.sees }

  -- other statements at a place have no fault, nor has what is behind them: then none is anywhere
  place_refilled : (hole : Hole) (old new : Statements) (vs : Visible) (w : Around) → is_nothing old ≡ false → faults_in schema read r (in_first schema (visible_before schema vs hole) (around_place w hole) (is_nothing (behind hole)) new) ≡ [] → faults_in schema read r (in_statements schema (visible_past schema (visible_before schema vs hole) new) (around_place w hole) (behind hole)) ≡ [] → faults_in schema read r (in_statements schema vs w (fill hole old)) ≡ [] → faults_in schema read r (in_statements schema vs w (fill hole new)) ≡ []
  place_refilled (Here q) old new vs w n i j h = ap (faults_in schema read r) (places_joined schema new q vs w) ∙ none_joined schema read r (in_first schema vs w (is_nothing q) new) (in_statements schema (visible_past schema vs new) w q) i j
  place_refilled (Past a k) old new vs w n i j h =
      let f = first_fine vs w a (fill k old) h in
      let early : faults_at schema read r (step vs w false a) ≡ [] = ap (λ (b : Bool). faults_at schema read r (step vs w b a)) (sym (not_nothing k old n)) ∙ f.step in
      first_none vs w a (fill k new) (last_too schema read r vs w (is_nothing (fill k new)) a early) f.parts (place_refilled k old new (after schema vs a) w n i j f.rest)
  place_refilled (InIf at e k q) old new vs w n i j h =
      let f = first_fine vs w (tree.If at e (fill k old)) q h in
      let two = none_in schema read r (in_expression vs e) (in_statements schema vs (in_branch w) (fill k old)) f.parts in
      let u = place_refilled k old new vs (in_branch w) n i j two.right in
      first_none vs w (tree.If at e (fill k new)) q f.step (none_joined schema read r (in_expression vs e) (in_statements schema vs (in_branch w) (fill k new)) two.left u) f.rest
  place_refilled (InThen at e k b q) old new vs w n i j h =
      let f = first_fine vs w (tree.IfElse at e (fill k old) b) q h in
      let two = none_in schema read r (in_expression vs e) (in_statements schema vs (in_branch w) (fill k old) ++ in_statements schema vs (in_branch w) b) f.parts in
      let three = none_in schema read r (in_statements schema vs (in_branch w) (fill k old)) (in_statements schema vs (in_branch w) b) two.right in
      let u = place_refilled k old new vs (in_branch w) n i j three.left in
      let both = none_joined schema read r (in_statements schema vs (in_branch w) (fill k new)) (in_statements schema vs (in_branch w) b) u three.right in
      first_none vs w (tree.IfElse at e (fill k new) b) q f.step (none_joined schema read r (in_expression vs e) (in_statements schema vs (in_branch w) (fill k new) ++ in_statements schema vs (in_branch w) b) two.left both) f.rest
  place_refilled (InElse at e a k q) old new vs w n i j h =
      let f = first_fine vs w (tree.IfElse at e a (fill k old)) q h in
      let two = none_in schema read r (in_expression vs e) (in_statements schema vs (in_branch w) a ++ in_statements schema vs (in_branch w) (fill k old)) f.parts in
      let three = none_in schema read r (in_statements schema vs (in_branch w) a) (in_statements schema vs (in_branch w) (fill k old)) two.right in
      let u = place_refilled k old new vs (in_branch w) n i j three.right in
      let both = none_joined schema read r (in_statements schema vs (in_branch w) a) (in_statements schema vs (in_branch w) (fill k new)) three.left u in
      first_none vs w (tree.IfElse at e a (fill k new)) q f.step (none_joined schema read r (in_expression vs e) (in_statements schema vs (in_branch w) a ++ in_statements schema vs (in_branch w) (fill k new)) two.left both) f.rest
  place_refilled (InEach at ty x e k q) old new vs w n i j h =
      let f = first_fine vs w (tree.ForEach at ty x e (fill k old)) q h in
      let of_x = type_spelled schema ty in
      let two = none_in schema read r (in_expression vs e) (in_statements schema (declared_in vs x of_x) (in_for_each e w) (fill k old)) f.parts in
      let u = place_refilled k old new (declared_in vs x of_x) (in_for_each e w) n i j two.right in
      first_none vs w (tree.ForEach at ty x e (fill k new)) q f.step (none_joined schema read r (in_expression vs e) (in_statements schema (declared_in vs x of_x) (in_for_each e w) (fill k new)) two.left u) f.rest
  place_refilled (InWhile at e k q) old new vs w n i j h =
      let f = first_fine vs w (tree.While at e (fill k old)) q h in
      let two = none_in schema read r (in_expression vs e) (in_statements schema vs (in_while w) (fill k old)) f.parts in
      let u = place_refilled k old new vs (in_while w) n i j two.right in
      first_none vs w (tree.While at e (fill k new)) q f.step (none_joined schema read r (in_expression vs e) (in_statements schema vs (in_while w) (fill k new)) two.left u) f.rest

-- ---- Methods

-- the place of a whole method has no fault by another body either
whole_too : (schema : Schema) (read : List ℕ → Option PlainQuery) (double : Bool) (m : PlainMethod) (old new : Statements) → (returns old ≡ true → returns new ≡ true) → faults_at schema read m.result (whole double (with_body m old)) ≡ [] → faults_at schema read m.result (whole double (with_body m new)) ≡ []
whole_too schema read double m old new f h =
    let a = none_both (marked rules.Unknown (unknown_result schema m.result m.span)) _ h in
    let b = none_both (marked rules.Mismatch (set_result m.result m.span)) _ a.right in
    let c = none_both (marked rules.DoubleName (only_if double m.span)) _ b.right in
    let d = none_both (marked rules.ReturnPlace (only_if (not (is_none m.result) && not (returns old)) m.span)) [] c.right in
    let e : marked rules.ReturnPlace (only_if (not (is_none m.result) && not (returns new)) m.span) ≡ [] = marked_less rules.ReturnPlace (not (is_none m.result)) (returns old) (returns new) m.span f d.left in
    rw (a.left, b.left, c.left, e) refl

method_refilled : (schema : Schema) (read : List ℕ → Option PlainQuery) (double : Bool) (m : PlainMethod) (hole : Hole) (old new : Statements) → is_nothing old ≡ false → (returns old ≡ true → returns new ≡ true) → IsFineAt schema read m hole new → IsFineBehind schema read m hole new → faults_in schema read m.result (whole double (with_body m (fill hole old)) ∷ in_method schema (with_body m (fill hole old))) ≡ [] → faults_in schema read m.result (whole double (with_body m (fill hole new)) ∷ in_method schema (with_body m (fill hole new))) ≡ []
method_refilled schema read double m hole old new n f i j h =
    let vs = with_params schema [] m.params in
    let one = none_both (faults_at schema read m.result (whole double (with_body m (fill hole old)))) (faults_in schema read m.result (in_method schema (with_body m (fill hole old)))) h in
    let two = none_in schema read m.result (in_params schema [] m.span m.params) (in_statements schema vs in_body (fill hole old)) one.right in
    let body = place_refilled schema read m.result hole old new vs in_body n i j two.right in
    let rest = none_joined schema read m.result (in_params schema [] m.span m.params) (in_statements schema vs in_body (fill hole new)) two.left body in
    rw (whole_too schema read double m (fill hole old) (fill hole new) (returns_too hole old new f) one.left, rest) refl

methods_refilled : (schema : Schema) (read : List ℕ → Option PlainQuery) (before after : List PlainMethod) (names : Visible) (m : PlainMethod) (hole : Hole) (old new : Statements) → is_nothing old ≡ false → (returns old ≡ true → returns new ≡ true) → IsFineAt schema read m hole new → IsFineBehind schema read m hole new → faults_in_methods schema read names (before ++ with_body m (fill hole old) ∷ after) ≡ [] → faults_in_methods schema read names (before ++ with_body m (fill hole new) ∷ after) ≡ []
methods_refilled schema read [] after names m hole old new n f i j h =
    let two = none_both (faults_in schema read m.result (whole (is_visible names m.name) (with_body m (fill hole old)) ∷ in_method schema (with_body m (fill hole old)))) (faults_in_methods schema read (declared_in names m.name None) after) h in
    rw (method_refilled schema read (is_visible names m.name) m hole old new n f i j two.left, two.right) refl
methods_refilled schema read (k ∷ before) after names m hole old new n f i j h =
    let two = none_both (faults_in schema read k.result (whole (is_visible names k.name) k ∷ in_method schema k)) (faults_in_methods schema read (declared_in names k.name None) (before ++ with_body m (fill hole old) ∷ after)) h in
    rw (two.left, methods_refilled schema read before after (declared_in names k.name None) m hole old new n f i j two.right) refl

-- ---- Programs

pub refilled : (schema : Schema) (read : List ℕ → Option PlainQuery) (p : PlainProgram) (before after : List PlainMethod) (m : PlainMethod) (hole : Hole) (old new : Statements) → IsWellTyped schema read (with_part p before after m hole old) → is_nothing old ≡ false → (returns old ≡ true → returns new ≡ true) → IsFineAt schema read m hole new → IsFineBehind schema read m hole new → IsWellTyped schema read (with_part p before after m hole new)
refilled schema read p before after m hole old new h n f i j = methods_refilled schema read before after [] m hole old new n f i j h

-- what stands at a place of a program has no fault
pub place_seen : (schema : Schema) (read : List ℕ → Option PlainQuery) (p : PlainProgram) (before after : List PlainMethod) (m : PlainMethod) (hole : Hole) (part : Statements) → IsWellTyped schema read (with_part p before after m hole part) → IsFinePlace schema read m.result (with_params schema [] m.params) (types_of_params schema m.params) in_body hole part
place_seen schema read p before after m hole part h =
    let k = nth_seen schema read (before ++ with_body m (fill hole part) ∷ after) [] (length before) (with_body m (fill hole part)) h (nth_here before after (with_body m (fill hole part))) in
    place_fine schema read m.result hole part (with_params schema [] m.params) (types_of_params schema m.params) in_body k.params k.body

pub part_fine : (schema : Schema) (read : List ℕ → Option PlainQuery) (p : PlainProgram) (before after : List PlainMethod) (m : PlainMethod) (hole : Hole) (part : Statements) → IsWellTyped schema read (with_part p before after m hole part) → IsFineAt schema read m hole part
part_fine schema read p before after m hole part h = (place_seen schema read p before after m hole part h).part

pub behind_fine : (schema : Schema) (read : List ℕ → Option PlainQuery) (p : PlainProgram) (before after : List PlainMethod) (m : PlainMethod) (hole : Hole) (part : Statements) → IsWellTyped schema read (with_part p before after m hole part) → IsFineBehind schema read m hole part
behind_fine schema read p before after m hole part h = (place_seen schema read p before after m hole part h).behind

pub type_there : (schema : Schema) (read : List ℕ → Option PlainQuery) (p : PlainProgram) (before after : List PlainMethod) (m : PlainMethod) (hole : Hole) (part : Statements) → IsWellTyped schema read (with_part p before after m hole part) → (x : List ℕ) → type_at (visible_before schema (with_params schema [] m.params) hole) x ≡ types_at schema (types_of_params schema m.params) hole x
type_there schema read p before after m hole part h x = (place_seen schema read p before after m hole part h).sees.same x

pub visible_there : (schema : Schema) (read : List ℕ → Option PlainQuery) (p : PlainProgram) (before after : List PlainMethod) (m : PlainMethod) (hole : Hole) (part : Statements) → IsWellTyped schema read (with_part p before after m hole part) → (x : List ℕ) → is_visible (visible_before schema (with_params schema [] m.params) hole) x ≡ not (is_none (types_at schema (types_of_params schema m.params) hole x))
visible_there schema read p before after m hole part h x = visible_is_typed (visible_before schema (with_params schema [] m.params) hole) (types_at schema (types_of_params schema m.params) hole) x (place_seen schema read p before after m hole part h).sees

-- what is behind the place has no fault under what the new statements leave
behind_too : (schema : Schema) (read : List ℕ → Option PlainQuery) (m : PlainMethod) (hole : Hole) (old new : Statements) → IsFinePlace schema read m.result (with_params schema [] m.params) (types_of_params schema m.params) in_body hole old → FitsIn schema read m hole old new → IsFineBehind schema read m hole new
behind_too schema read m hole old new k f =
    let vs = visible_before schema (with_params schema [] m.params) hole in
    let g = types_at schema (types_of_params schema m.params) hole in
    let w = around_place in_body hole in
    let ends = is_nothing (behind hole) in
    let s = sees_past schema read m.result old vs g w ends k.sees k.part in
    let t = sees_past schema read m.result new vs g w ends k.sees f.fine in
    let same : SameOn (IsLeftAlike schema m hole old new) (visible_past schema vs old) (visible_past schema vs new) = record { alike = λ x e. seen_alike (visible_past schema vs old) (visible_past schema vs new) (types_past schema g old) (types_past schema g new) x s t e } in
    sym (statements_same schema read m.result (IsLeftAlike schema m hole old new) (behind hole) (visible_past schema vs old) (visible_past schema vs new) w same f.mentioned f.declared) ∙ k.behind

pub fits_in : (schema : Schema) (read : List ℕ → Option PlainQuery) (p : PlainProgram) (before after : List PlainMethod) (m : PlainMethod) (hole : Hole) (old new : Statements) → IsWellTyped schema read (with_part p before after m hole old) → FitsIn schema read m hole old new → IsWellTyped schema read (with_part p before after m hole new)
fits_in schema read p before after m hole old new h f = refilled schema read p before after m hole old new h f.there f.returned f.fine (behind_too schema read m hole old new (place_seen schema read p before after m hole old h) f)
