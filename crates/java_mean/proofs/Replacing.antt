-- In a well-typed program statements give way to others where the program stays well typed.
use Rattle.std.proofs.Common.{◌≡◌, ℕ, List, [], ◌∷◌, ◌++◌, length, Option, Some, None, refl, sym, subst}
use Rattle.std.specs.Prelude.{slice_get}
use Rattle.qbs_base.specs.Values.{Schema}
use Rattle.sql_ast.specs.Tree.{PlainQuery}
use Rattle.java_ast.specs.Tree.{Statements, PlainMethod, PlainProgram}
use Rattle.java_ast.specs.Path.{with_body, with_methods}
use Rattle.java_mean.specs.Asks.{frame_of}
use Rattle.java_mean.specs.Keeps.{Keeps}
use Rattle.java_mean.specs.Numbers.{NumbersFit}
use Rattle.java_mean.specs.Queries.{Reader}
use Rattle.java_mean.specs.Refines.{Hole, fill, types_at, loop_at, IsTypedPlace, Replaces, MayReplace, GivesWay, with_part}
use Rattle.java_mean.specs.Types.{Types, types_of_params, types_past}
use Rattle.java_mean.specs.Typing.{Extends}
use Rattle.java_mean.specs.WellTyped.{IsWellTyped}
use Rattle.java_mean.proofs.Fewer.{narrower}
use Rattle.java_mean.proofs.Replaced.{program_kept}
use Rattle.java_mean.proofs.TypedPlaces.{places_typed}

-- ---- Readers

agree : (o u : Option PlainQuery) → ((q : PlainQuery) → o ≡ Some q → u ≡ Some q) → ((q : PlainQuery) → u ≡ Some q → o ≡ Some q) → o ≡ u
agree (Some q) u f g = sym (f q refl)
agree None (Some q) f g = g q refl
agree None None f g = refl

extensional : {A B : Type 0} (f g : A → B) → ((x : A) → f x ≡ g x) → f ≡ g
extensional f g h = λ i. λ x. h x i

readers_same : (schema : Schema) (one other : Reader schema) → one.read ≡ other.read
readers_same schema one other = extensional one.read other.read (λ text. agree (one.read text) (other.read text) (λ q e. (other.exact text q).1 ((one.exact text q).0 e)) (λ q e. (one.exact text q).1 ((other.exact text q).0 e)))

pub by_any_reader : (schema : Schema) (one other : Reader schema) (p : PlainProgram) → IsWellTyped schema one.read p → IsWellTyped schema other.read p
by_any_reader schema one other p t = subst (λ read. IsWellTyped schema read p) (readers_same schema one other) t

-- ---- Replacing

pub nth_here : (before after : List PlainMethod) (m : PlainMethod) → slice_get (before ++ m ∷ after) (length before) ≡ Some m
nth_here [] after m = refl
nth_here (n ∷ before) after m = nth_here before after m

place_in : (schema : Schema) (read : List ℕ → Option PlainQuery) (p : PlainProgram) (before after : List PlainMethod) (m : PlainMethod) (hole : Hole) (part : Statements) → IsWellTyped schema read (with_methods p (before ++ with_body m (fill hole part) ∷ after)) → NumbersFit (with_methods p (before ++ with_body m (fill hole part) ∷ after)) → IsTypedPlace (frame_of schema read m) None (types_of_params schema m.params) hole part
place_in schema read p before after m hole part t f = places_typed schema read (with_methods p (before ++ with_body m (fill hole part) ∷ after)) (length before) (with_body m (fill hole part)) hole part t f (nth_here before after (with_body m (fill hole part))) refl

-- what is visible after the place is what the new statements leave, and what the old ones leave
pub new_left : (schema : Schema) (reader : Reader schema) (p : PlainProgram) (before after : List PlainMethod) (m : PlainMethod) (hole : Hole) (old new : Statements) → IsWellTyped schema reader.read (with_methods p (before ++ with_body m (fill hole old) ∷ after)) → NumbersFit (with_methods p (before ++ with_body m (fill hole old) ∷ after)) → IsWellTyped schema reader.read (with_methods p (before ++ with_body m (fill hole new) ∷ after)) → NumbersFit (with_methods p (before ++ with_body m (fill hole new) ∷ after)) → Extends (types_past schema (types_at schema (types_of_params schema m.params) hole) old) (types_past schema (types_at schema (types_of_params schema m.params) hole) new) → Replaces (frame_of schema reader.read m) (loop_at schema None (types_of_params schema m.params) hole) (types_at schema (types_of_params schema m.params) hole) (types_past schema (types_at schema (types_of_params schema m.params) hole) new) old new → Keeps (with_methods p (before ++ with_body m (fill hole old) ∷ after)) (with_methods p (before ++ with_body m (fill hole new) ∷ after)) schema
new_left schema reader p before after m hole old new t f u g e r =
    let at = types_at schema (types_of_params schema m.params) hole in
    let o = place_in schema reader.read p before after m hole old t f in
    let n = place_in schema reader.read p before after m hole new u g in
    let may : MayReplace (frame_of schema reader.read m) m hole old new = record {
      loop = loop_at schema None (types_of_params schema m.params) hole;
      before = at;
      after_old = types_past schema at old;
      after_new = types_past schema at new;
      after = types_past schema at new;
      end = n.end;
      around = n.around;
      old_typed = o.typed;
      new_typed = n.typed;
      old_leaves = e;
      new_leaves = λ x k q. q;
      replaces = r;
    } in
    program_kept schema p before after m hole old new (λ other. subst (λ read. MayReplace (frame_of schema read m) m hole old new) (readers_same schema reader other) may)

pub old_left : (schema : Schema) (reader : Reader schema) (p : PlainProgram) (before after : List PlainMethod) (m : PlainMethod) (hole : Hole) (old new : Statements) → IsWellTyped schema reader.read (with_methods p (before ++ with_body m (fill hole old) ∷ after)) → NumbersFit (with_methods p (before ++ with_body m (fill hole old) ∷ after)) → IsWellTyped schema reader.read (with_methods p (before ++ with_body m (fill hole new) ∷ after)) → NumbersFit (with_methods p (before ++ with_body m (fill hole new) ∷ after)) → Extends (types_past schema (types_at schema (types_of_params schema m.params) hole) new) (types_past schema (types_at schema (types_of_params schema m.params) hole) old) → Replaces (frame_of schema reader.read m) (loop_at schema None (types_of_params schema m.params) hole) (types_at schema (types_of_params schema m.params) hole) (types_past schema (types_at schema (types_of_params schema m.params) hole) old) old new → Keeps (with_methods p (before ++ with_body m (fill hole old) ∷ after)) (with_methods p (before ++ with_body m (fill hole new) ∷ after)) schema
old_left schema reader p before after m hole old new t f u g e r =
    let at = types_at schema (types_of_params schema m.params) hole in
    let o = place_in schema reader.read p before after m hole old t f in
    let n = place_in schema reader.read p before after m hole new u g in
    let may : MayReplace (frame_of schema reader.read m) m hole old new = record {
      loop = loop_at schema None (types_of_params schema m.params) hole;
      before = at;
      after_old = types_past schema at old;
      after_new = types_past schema at new;
      after = types_past schema at old;
      end = o.end;
      around = o.around;
      old_typed = o.typed;
      new_typed = n.typed;
      old_leaves = λ x k q. q;
      new_leaves = e;
      replaces = r;
    } in
    program_kept schema p before after m hole old new (λ other. subst (λ read. MayReplace (frame_of schema read m) m hole old new) (readers_same schema reader other) may)

-- both leave other variables too, which nothing behind the place mentions
pub both_left : (schema : Schema) (reader : Reader schema) (p : PlainProgram) (before after : List PlainMethod) (m : PlainMethod) (hole : Hole) (old new : Statements) (alike : Types) → IsWellTyped schema reader.read (with_part p before after m hole old) → NumbersFit (with_part p before after m hole old) → IsWellTyped schema reader.read (with_part p before after m hole new) → NumbersFit (with_part p before after m hole new) → GivesWay (frame_of schema reader.read m) None (types_of_params schema m.params) hole old new alike → Keeps (with_part p before after m hole old) (with_part p before after m hole new) schema
both_left schema reader p before after m hole old new alike t f u g r =
    let params = types_of_params schema m.params in
    let at = types_at schema params hole in
    let loop = loop_at schema None params hole in
    let o = place_in schema reader.read p before after m hole old t f in
    let n = place_in schema reader.read p before after m hole new u g in
    let c = frame_of schema reader.read m in
    let k = narrower c (λ x. alike x ≡ types_past schema at new x) None params hole loop at (types_past schema at new) alike n.end n.around r.new_leaves (λ x e. e) r.seen_before (λ b e. absurd cc) r.mentioned_behind in
    let may : MayReplace c m hole old new = record {
      loop = loop;
      before = at;
      after_old = types_past schema at old;
      after_new = types_past schema at new;
      after = alike;
      end = k.end;
      around = k.around;
      old_typed = o.typed;
      new_typed = n.typed;
      old_leaves = r.old_leaves;
      new_leaves = r.new_leaves;
      replaces = r.replaces;
    } in
    program_kept schema p before after m hole old new (λ other. subst (λ read. MayReplace (frame_of schema read m) m hole old new) (readers_same schema reader other) may)
