-- A fragment of a well-typed program: its run and its loop are typed under the types of what is visible there,
-- and where the run passes from a typed store the loop begins in one.
use Rattle.std.proofs.Common.{◌≡◌, ℕ, List, [], Option, Some, None, Ok, refl, sym, ap, ◌∙◌, subst}
use Rattle.std.specs.Prelude.{◌||◌, slice_get}
use Rattle.qbs_base.specs.Values.{Schema}
use Rattle.sql_ast.specs.Tree.{PlainQuery}
use Rattle.java_ast.specs.Tree as tree
use Rattle.java_ast.specs.Tree.{Statement, Statements, Nothing, Then, PlainMethod, PlainProgram}
use Rattle.java_ast.specs.Path.{found_in}
use Rattle.java_mean.specs.Asks.{frame_of}
use Rattle.java_mean.specs.Numbers.{NumbersFit}
use Rattle.java_mean.specs.Refines.{Hole, Here, Past, InIf, InThen, InElse, InEach, InWhile, first_of, path_of, fill, types_at, loop_at, IsTypedPlace}
use Rattle.java_mean.specs.Statement.{State, GoesOn, meanings}
use Rattle.java_mean.specs.Types.{Types, with_type, type_spelled, types_after, types_past, visible_at, visible_in, types_of_params, IsTyped}
use Rattle.java_mean.specs.Typing.{Frame, IsWorld, TypedStatement, TypedStatements}
use Rattle.java_mean.specs.WellTyped.{IsWellTyped}
use Rattle.java_mean.specs.World.{World}
use Rattle.java_mean.proofs.Bridge.{nth_seen}
use Rattle.java_mean.proofs.TypedPlaces.{places_typed}
use Rattle.java_loops.specs.Walks.Replacing.{run_and_loop}
use Rattle.java_loops.proofs.Walks.Placed.{types_behind}
use Rattle.java_loops.proofs.Walks.TypedPasses.{run_leaves_typed}
use Rattle.java_loops.proofs.Walks.Visibility.{TypedNext, next_of, TypedParts, typed_parts, typed_past}
use Rattle.loop_text.specs.Statements.Fragment.{Fragment, fragment_at, declared_in_run}
use Rattle.java_loops.specs.Kernel.Kernel as kernel
use Rattle.java_loops.specs.Kernel.Kernel.{types_in_method}
use Rattle.java_ast.specs.Names.{Names, is_among, declared_among, names_of_params}
use Rattle.loop_text.specs.Sites.Sites.{is_some}
use Rattle.java_loops.proofs.Placing.Place.{behind_all, fill_behind, IsPlaced, IsPlacedIn, placed_at}
use Rattle.java_mean.proofs.Sets.{among_set}
use Rattle.java_loops.proofs.Typing.Visible.{AreNamed, typed_past_named, named_at, params_named}

-- ---- Types by the number of a place

pub types_behind_all : (schema : Schema) (g : Types) (p : Statements) (h : Hole) → types_at schema g (behind_all p h) ≡ types_past schema (types_at schema g h) p
types_behind_all schema g p (Here q) = types_behind schema g p (Here q)
types_behind_all schema g p (Past a h) = types_behind_all schema (types_after schema g a) p h
types_behind_all schema g p (InIf at e h q) = types_behind_all schema g p h
types_behind_all schema g p (InThen at e h b q) = types_behind_all schema g p h
types_behind_all schema g p (InElse at e a h q) = types_behind_all schema g p h
types_behind_all schema g p (InEach at ty x e h q) = types_behind_all schema (with_type x (type_spelled schema ty) g) p h
types_behind_all schema g p (InWhile at e h q) = types_behind_all schema g p h

visible_before : (schema : Schema) (g : Types) (a : Statement) → visible_in schema g a [] ≡ Some g
visible_before schema g (tree.Declare at ty x e) = refl
visible_before schema g (tree.Assign at x e) = refl
visible_before schema g (tree.Add at x e) = refl
visible_before schema g (tree.Sort at x keys down) = refl
visible_before schema g (tree.If at e p) = refl
visible_before schema g (tree.IfElse at e p q) = refl
visible_before schema g (tree.ForEach at ty x e p) = refl
visible_before schema g (tree.While at e p) = refl
visible_before schema g (tree.Print at e) = refl
visible_before schema g (tree.Return at e) = refl
visible_before schema g (tree.Break at) = refl

visible_there : (schema : Schema) (g : Types) (hole : Hole) (a : Statement) (p : Statements) → visible_at schema g (fill hole (Then a p)) (first_of hole) (path_of hole) ≡ Some (types_at schema g hole)
visible_there schema g (Here q) a p = visible_before schema g a
visible_there schema g (Past b h) a p = visible_there schema (types_after schema g b) h a p
visible_there schema g (InIf at e h q) a p = visible_there schema g h a p
visible_there schema g (InThen at e h b q) a p = visible_there schema g h a p
visible_there schema g (InElse at e b h q) a p = visible_there schema g h a p
visible_there schema g (InEach at ty x e h q) a p = visible_there schema (with_type x (type_spelled schema ty) g) h a p
visible_there schema g (InWhile at e h q) a p = visible_there schema g h a p

same_types : (o : Option Types) (a b : Types) → o ≡ Some a → o ≡ Some b → a ≡ b
same_types o a b e h = cc

-- the types at the loop, by the numbers of its place
placed_types : (schema : Schema) (start : Types) (names : Names) (block : Statements) (n : ℕ) (path : List ℕ) (f : Fragment) (g : Types) (k : IsPlaced names block n path f) → visible_at schema start block n path ≡ Some g → g ≡ types_past schema (types_at schema start k.hole) f.run
placed_types schema start names block n path f g k v =
    let hole : Hole = behind_all f.run k.hole in
    let is : block ≡ fill hole (Then f.loop Nothing) = k.is ∙ fill_behind k.hole f.run (Then f.loop Nothing) in
    let there : visible_at schema start block n path ≡ Some (types_at schema start hole) =
    ap (λ b. visible_at schema start b n path) is ∙ ap (λ i. visible_at schema start (fill hole (Then f.loop Nothing)) i path) (sym k.first) ∙ ap (visible_at schema start (fill hole (Then f.loop Nothing)) (first_of hole)) (sym k.down) ∙ visible_there schema start hole f.loop Nothing in
    same_types (visible_at schema start block n path) g (types_at schema start hole) v there ∙ types_behind_all schema start f.run k.hole

-- ---- A fragment of a well-typed program

-- The run and the loop of a fragment are typed, where the first types are visible before the run and the second at the
-- loop. The variables with types are those whose names are visible.
pub record IsTypedFragment (c : Frame) (f : Fragment) (before g : Types) : Type 0 where
  pub loop : Option Types
  pub end : Types
  pub after : Types
  pub whole : TypedStatements c loop before (run_and_loop f.run f.loop) end
  pub run : TypedStatements c loop before f.run g
  pub is : g ≡ types_past c.schema before f.run
  pub body : TypedStatement c loop g f.loop after
  pub visible : (y : List ℕ) → is_some (before y) ≡ is_among f.visible y
  pub named : (y : List ℕ) → is_some (g y) ≡ (is_among f.visible y || is_among (declared_in_run f) y)

fragment_typed : (c : Frame) (start : Types) (names : Names) (block : Statements) (n : ℕ) (path : List ℕ) (f : Fragment) (g : Types) (k : IsPlaced names block n path f) → AreNamed start names → g ≡ types_past c.schema (types_at c.schema start k.hole) f.run → IsTypedPlace c None start k.hole (run_and_loop f.run f.loop) → IsTypedFragment c f (types_at c.schema start k.hole) g
fragment_typed c start names block n path f g k s is t =
    let l : Option Types = loop_at c.schema None start k.hole in
    let before : Types = types_at c.schema start k.hole in
    let after : Types = types_past c.schema before (run_and_loop f.run f.loop) in
    let p : TypedParts c l before f.run (Then f.loop Nothing) after = typed_parts c l before f.run (Then f.loop Nothing) after t.typed in
    let same : p.middle ≡ g = typed_past c l before p.middle f.run p.first ∙ sym is in
    let b : TypedNext c l p.middle f.loop Nothing after = next_of c l p.middle f.loop Nothing after p.second in
    let run : TypedStatements c l before f.run g = subst (λ z. TypedStatements c l before f.run z) same p.first in
    let n : AreNamed before f.visible = subst (AreNamed before) k.visible (named_at c None start k.hole l before after t.end names t.around s) in
    record {
      loop = l;
      end = after;
      after = b.middle;
      whole = t.typed;
      run = run;
      is = is;
      body = subst (λ z. TypedStatement c l z f.loop b.middle) same b.first;
      visible = n.by;
      named = λ y. typed_past_named c l before g f.run run y ∙ ap (λ b. b || is_among (declared_among f.run) y) (n.by y) ∙ ap (λ b. is_among f.visible y || b) (sym (among_set (declared_among f.run) y));
    }

types_found : (schema : Schema) (n : ℕ) (path : List ℕ) (method : PlainMethod) (o : Option PlainMethod) (g : Types) → o ≡ Some method → found_in (types_in_method schema n path) o ≡ Some g → visible_at schema (types_of_params schema method.params) method.body n path ≡ Some g
types_found schema n path method o g e h = sym (ap (found_in (types_in_method schema n path)) e) ∙ h

-- the types before the run of a fragment
abbrev pub types_before : (schema : Schema) (p : PlainProgram) (path : List ℕ) (f : Fragment) → IsPlacedIn p path f → Types
types_before schema p path f k = types_at schema (types_of_params schema k.method.params) k.placed.hole

-- The fragment to whose loop a path leads in a well-typed program: where it stands, that it is typed under the types that
-- are visible there, and that no rule of types is broken at it.
pub record FragmentThere (schema : Schema) (read : List ℕ → Option PlainQuery) (p : PlainProgram) (path : List ℕ) (f : Fragment) (g : Types) : Type 0 where
  pub place : IsPlacedIn p path f
  pub is : g ≡ types_past schema (types_before schema p path f place) f.run
  pub typed : IsTypedFragment (frame_of schema read place.method) f (types_before schema p path f place) g

fragment_is_typed : (schema : Schema) (read : List ℕ → Option PlainQuery) (p : PlainProgram) (path : List ℕ) (f : Fragment) (g : Types) → IsWellTyped schema read p → NumbersFit p → IsPlacedIn p path f → kernel.types_at schema path p ≡ Some g → FragmentThere schema read p path f g
fragment_is_typed schema read p path f g t fits k e =
    let start : Types = types_of_params schema k.method.params in
    let names : Names = names_of_params k.method.params in
    let there : visible_at schema start k.method.body k.first k.down ≡ Some g = types_found schema k.first k.down k.method (slice_get p.methods k.number) g k.found (sym (ap (λ z. kernel.types_at schema z p) k.is) ∙ e) in
    let seen = nth_seen schema read p.methods [] k.number k.method t k.found in
    let is : g ≡ types_past schema (types_at schema start k.placed.hole) f.run = placed_types schema start names k.method.body k.first k.down f g k.placed there in
    record {
      place = k;
      is = is;
      typed = fragment_typed (frame_of schema read k.method) start names k.method.body k.first k.down f g k.placed (params_named schema start k.method.params seen.params) is (places_typed schema read p k.number k.method k.placed.hole (run_and_loop f.run f.loop) t fits k.found k.placed.is);
    }

-- The fragment of a loop of a well-typed program stands there and is typed.
pub fragment_there : (schema : Schema) (read : List ℕ → Option PlainQuery) (p : PlainProgram) (path : List ℕ) (f : Fragment) (g : Types) → IsWellTyped schema read p → NumbersFit p → fragment_at path p ≡ Some f → kernel.types_at schema path p ≡ Some g → FragmentThere schema read p path f g
fragment_there schema read p path f g t fits h e = fragment_is_typed schema read p path f g t fits (placed_at path p f h) e

-- ---- The store at the loop

-- where the run passes from a typed store the loop begins in one
pub store_typed : (c : Frame) (f : Fragment) (before g : Types) → IsTypedFragment c f before g → (w : World) → IsWorld c w → (s t : State) → IsTyped c.schema before s.store → meanings f.run w s ≡ Ok (GoesOn t) → IsTyped c.schema g t.store
store_typed c f before g k w i s t h e = subst (λ z. IsTyped c.schema z t.store) (sym k.is) (run_leaves_typed c k.loop before k.end f.run f.loop k.whole w i s t h e)
