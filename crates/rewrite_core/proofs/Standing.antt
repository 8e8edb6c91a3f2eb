-- What the statements that ask leave visible, and what the kept statements of a run do.
use Rattle.std.proofs.Common.{◌≡◌, ℕ, Bool, true, false, ◌||◌, List, [], ◌∷◌, Option, Some, None, refl, sym, ap, ◌∙◌, cond, bytes_eq}
use Rattle.std.proofs.lemmas.Bool.{or_parts}
use Rattle.qbs_base.specs.declared.span.Span.{Span}
use Rattle.qbs_base.specs.Values.{Schema}
use Rattle.java_ast.specs.Tree as tree
use Rattle.java_ast.specs.Tree.{Spelled, Expression, Statement, Statements, Nothing, Then}
use Rattle.java_mean.specs.declared.types.JavaType.{JavaType}
use Rattle.java_mean.specs.Places.{Around}
use Rattle.java_mean.specs.Refines.{followed_by}
use Rattle.java_mean.specs.Types.{Types, type_spelled, types_after, types_past}
use Rattle.java_mean.proofs.Puts.{names_equal}
use Rattle.loop_text.specs.Statements.Fragment.{set_by}
use Rattle.loop_text.specs.Statements.Loops.{is_loop}
use Rattle.java_loops.specs.Walks.Reads.{Set}
use Rattle.java_loops.specs.Walks.Replacing.{Ask, asking, asked, is_asked, replacement, run_and_loop}
use Rattle.java_loops.specs.Walks.Runs.{kept}
use Rattle.java_loops.proofs.Typing.Visible.{names_back}
use Rattle.rewrite_core.specs.Asking.{MayStand, AllMayStand, AlikeOn}
use Rattle.rewrite_core.proofs.KeptFaultless.{type_kept, alike_after, alike_dropped}

-- ---- Asks

module _ (schema : Schema) (round : Around) (at_loop : Types) where
  set_by_ask : (ty : Option Spelled) (at : Span) (x : List ℕ) (e : Expression) (y : List ℕ) → bytes_eq x y ≡ false → bytes_eq (set_by (asking ty at x e)) y ≡ false
  set_by_ask (Some ty) at x e y h = h
  set_by_ask None at x e y h = h

  -- other variables keep their types
  pub ask_keeps : (h : Types) (ty : Option Spelled) (at : Span) (x : List ℕ) (e : Expression) (y : List ℕ) → bytes_eq x y ≡ false → types_after schema h (asking ty at x e) y ≡ h y
  ask_keeps h ty at x e y other = type_kept schema h (asking ty at x e) y (set_by_ask ty at x e y other)

  stands_behind : (h : Types) (ty : Option Spelled) (at : Span) (x : List ℕ) (e : Expression) (o : Option Spelled) (y : List ℕ) → bytes_eq x y ≡ false → MayStand schema round at_loop h o y → MayStand schema round at_loop (types_after schema h (asking ty at x e)) o y
  stands_behind h ty at x e (Some o) y other m = (ask_keeps h ty at x e y other ∙ m.0, m.1, m.2, m.3)
  stands_behind h ty at x e None y other m = (ask_keeps h ty at x e y other ∙ m.0, m.1)

  -- the further asks may stand behind one
  pub all_stand_behind : (h : Types) (ty : Option Spelled) (at : Span) (x : List ℕ) (e : Expression) (ks : List Ask) → is_asked ks x ≡ false → AllMayStand schema round at_loop h ks → AllMayStand schema round at_loop (types_after schema h (asking ty at x e)) ks
  all_stand_behind h ty at x e [] apart m = tt
  all_stand_behind h ty at x e (k ∷ ks) apart m =
      let two = or_parts (bytes_eq k.name x) (is_asked ks x) apart in
      (stands_behind h ty at x e k.ty k.name (names_back x k.name ∙ two.0) m.0, m.1, all_stand_behind h ty at x e ks two.1 m.2)

  own_type : (h : Types) (ty : Option Spelled) (at : Span) (x : List ℕ) (e : Expression) (y : List ℕ) → bytes_eq x y ≡ true → MayStand schema round at_loop h ty x → types_after schema h (asking ty at x e) y ≡ at_loop y
  own_type h (Some ty) at x e y same m = ap (λ b. cond b (type_spelled schema ty) (h y)) same ∙ m.3 ∙ ap at_loop (names_equal x y same)
  own_type h None at x e y same m = ap h (sym (names_equal x y same)) ∙ m.0 ∙ ap at_loop (names_equal x y same)

  either_same : (b : Bool) (z : Option JavaType) → cond b z z ≡ z
  either_same true z = refl
  either_same false z = refl

  one_leaves : (k : Ask) (ks : List Ask) (h : Types) (y : List ℕ) (b : Bool) → bytes_eq k.name y ≡ b → MayStand schema round at_loop h k.ty k.name → types_past schema (types_after schema h (asking k.ty k.at k.name k.value)) (asked ks) y ≡ cond (is_asked ks y) (at_loop y) (types_after schema h (asking k.ty k.at k.name k.value) y) → types_past schema (types_after schema h (asking k.ty k.at k.name k.value)) (asked ks) y ≡ cond (b || is_asked ks y) (at_loop y) (h y)
  one_leaves k ks h y true e m rest = rest ∙ ap (λ o. cond (is_asked ks y) (at_loop y) o) (own_type h k.ty k.at k.name k.value y e m) ∙ either_same (is_asked ks y) (at_loop y)
  one_leaves k ks h y false e m rest = rest ∙ ap (λ o. cond (is_asked ks y) (at_loop y) o) (ask_keeps h k.ty k.at k.name k.value y e)

  -- what is asked for has the type that it has at the loop, and all else keeps its own
  pub asks_leave : (ks : List Ask) (h : Types) → AllMayStand schema round at_loop h ks → (y : List ℕ) → types_past schema h (asked ks) y ≡ cond (is_asked ks y) (at_loop y) (h y)
  asks_leave [] h m y = refl
  asks_leave (k ∷ ks) h m y = one_leaves k ks h y (bytes_eq k.name y) refl m.0 (asks_leave ks (types_after schema h (asking k.ty k.at k.name k.value)) (all_stand_behind h k.ty k.at k.name k.value ks m.1 m.2) y)

-- ---- Kept statements

module _ (schema : Schema) where
  pub past_both : (g : Types) (p q : Statements) → types_past schema g (followed_by p q) ≡ types_past schema (types_past schema g p) q
  past_both g Nothing q = refl
  past_both g (Then a p) q = past_both (types_after schema g a) p q

  -- a loop leaves nothing more visible
  pub past_loop : (g : Types) (a : Statement) → is_loop a ≡ true → types_past schema g (Then a Nothing) ≡ g
  past_loop g (tree.ForEach at ty x e b) l = refl
  past_loop g (tree.While at c b) l = refl
  past_loop g (tree.Declare at ty x e) l = absurd cc
  past_loop g (tree.Assign at x e) l = absurd cc
  past_loop g (tree.Add at x e) l = absurd cc
  past_loop g (tree.Sort at x keys down) l = absurd cc
  past_loop g (tree.If at c a) l = absurd cc
  past_loop g (tree.IfElse at c a b) l = absurd cc
  past_loop g (tree.Print at e) l = absurd cc
  past_loop g (tree.Return at e) l = absurd cc
  past_loop g (tree.Break at) l = absurd cc

  one_kept : (r : Set) (a : Statement) (p : Statements) (g h : Types) (b : Bool) → r (set_by a) ≡ b → AlikeOn r g h
      → (AlikeOn r (types_after schema g a) (types_after schema h a) → AlikeOn r (types_past schema (types_after schema g a) p) (types_past schema (types_after schema h a) (kept r p)))
      → (AlikeOn r (types_after schema g a) h → AlikeOn r (types_past schema (types_after schema g a) p) (types_past schema h (kept r p)))
      → AlikeOn r (types_past schema (types_after schema g a) p) (types_past schema h (cond b (Then a (kept r p)) (kept r p)))
  one_kept r a p g h true e alike further skipped = further (alike_after schema r g h a alike)
  one_kept r a p g h false e alike further skipped = skipped (alike_dropped schema r g h a e alike)

  pub kept_leave : (r : Set) (p : Statements) (g h : Types) → AlikeOn r g h → AlikeOn r (types_past schema g p) (types_past schema h (kept r p))
  kept_leave r Nothing g h alike = alike
  kept_leave r (Then a p) g h alike = one_kept r a p g h (r (set_by a)) refl alike (λ further. kept_leave r p (types_after schema g a) (types_after schema h a) further) (λ skipped. kept_leave r p (types_after schema g a) h skipped)

  picked : (b u : Bool) (s t : Option JavaType) → (b || u) ≡ true → (u ≡ true → s ≡ t) → s ≡ cond b s t
  picked true u s t h same = refl
  picked false u s t h same = same h

-- What a run and its loop leave visible of kept variables and of those that are asked for, kept statements and asks leave alike.
pub left_alike : (schema : Schema) (round : Around) (r : Set) (run : Statements) (loop : Statement) (g : Types) (ks : List Ask) → is_loop loop ≡ true → AllMayStand schema round (types_past schema g run) (types_past schema g (kept r run)) ks → (x : List ℕ) → (is_asked ks x || r x) ≡ true → types_past schema g (run_and_loop run loop) x ≡ types_past schema g (replacement r run ks) x
left_alike schema round r run loop g ks l m x either =
    ap (λ t. t x) (past_both schema g run (Then loop Nothing) ∙ past_loop schema (types_past schema g run) loop l)
    ∙ picked schema (is_asked ks x) (r x) (types_past schema g run x) (types_past schema g (kept r run) x) either (kept_leave schema r run g g (λ y n. refl) x)
    ∙ sym (asks_leave schema round (types_past schema g run) ks (types_past schema g (kept r run)) m x)
    ∙ sym (ap (λ t. t x) (past_both schema g (kept r run) (asked ks)))
