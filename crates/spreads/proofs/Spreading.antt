-- The spread of a typed loop covers it.
use Rattle.std.proofs.Common.{◌≡◌, ℕ, Bool, true, false, ◌||◌, ◌&&◌, cond, List, [], ◌∷◌, Option, Some, None, Result, Ok, Err, refl, sym, ap, ◌∙◌, subst}
use Rattle.std.specs.Prelude.{bytes_eq, nat_eq}
use Rattle.std.specs.List.{filter, AllByRecursion}
use Rattle.qbs_base.specs.declared.scalar.Row.{Row}
use Rattle.qbs_base.specs.declared.scalar.Scalar.{Scalar}
use Rattle.qbs_base.specs.declared.scalar.Value.{Value}
use Rattle.qbs_base.specs.declared.scalar.Value.TheVariants.{One, Whole, Many}
use Rattle.qbs_base.specs.declared.span.Span.{Span}
use Rattle.qbs_base.specs.Values.{Schema}
use Rattle.java_ast.specs.Names.{Names, is_among}
use Rattle.java_ast.specs.Tree as tree
use Rattle.java_ast.specs.Tree.{Spelled, Expression, Statement, Statements, Nothing, Then, PlainMethod}
use Rattle.java_mean.specs.declared.ending.Ending.{Ending}
use Rattle.java_mean.specs.declared.types.JavaType.{JavaType}
use Rattle.java_mean.specs.declared.types.JavaType.TheVariants.{Of, Listed, Distinct}
use Rattle.java_mean.specs.declared.types.Single.{Single}
use Rattle.java_mean.specs.declared.types.Single.TheVariants.{RowOf}
use Rattle.java_mean.specs.Asks.{frame_of}
use Rattle.java_mean.specs.Endings.{◌>>=◌, found}
use Rattle.java_mean.specs.Expression.{value_of, scalars_of, as_rows}
use Rattle.java_mean.specs.Queries.{Reader}
use Rattle.java_mean.specs.Refines.{Alike}
use Rattle.java_mean.specs.Statement.{State, Passed, GoesOn, Leaves, Returns, Does, done, then_do, with_variable, each, test_of, is_set_type, meaning, meanings}
use Rattle.java_mean.specs.Store.{Store, Variable, put}
use Rattle.java_mean.specs.Types.{Types, with_type, IsOf, IsMember}
use Rattle.java_mean.specs.Typing.{Frame, IsWorld, HasType, Has, listed, distinct, IsNew, is_new_list, is_new_set, Extends, bool, TypedStatement, TypedStatements}
use Rattle.java_mean.specs.World.{World}
use Rattle.java_mean.proofs.Alike.{typed_same, test_same, extends_new, typed_store}
use Rattle.java_mean.proofs.Bridge.{body_in}
use Rattle.java_mean.proofs.Fewer.{Same, fewer_with, Stand, statements_stand}
use Rattle.java_mean.proofs.Further.{meaning_same, meanings_same}
use Rattle.java_mean.proofs.Puts.{put_same, put_other, names_equal, name_same}
use Rattle.java_mean.proofs.Simulates.{Holds}
use Rattle.java_mean.proofs.TypedRuns.{extends_statement}
use Rattle.java_mean.proofs.TypedValues.{rows_in, typed_value}
use Rattle.sql_ast.proofs.Tools.{all_parts}
use Rattle.spreads.specs.Alone.{times_named, walks_alone}
use Rattle.spreads.specs.Covers.{with_turns, Covered, Covers}
use Rattle.spreads.specs.Spread.{Select, select_of, is_there, value_declared, walked, walked_or, spread_in, spread_among, selects_among, spread_of}
use Rattle.spreads.specs.Staying.{assigned_in, assigned_among}
use Rattle.spreads.proofs.Covering.{IsWalk, covered_same, covered_fewer, covered_done, covered_then, covered_branch, beside_alike, walk_covers}
use Rattle.spreads.proofs.Itself.{covers_itself}
use Rattle.spreads.proofs.Named.{Other, AreOthers, others}
use Rattle.spreads.proofs.Pairs.{IsPair, pair_if}
use Rattle.spreads.proofs.Passing.{IsAmong, Untouched}
use Rattle.spreads.proofs.Repeated.{covered_repeat}
use Rattle.spreads.proofs.Selected.{found_select, SelectTyped, select_of_typed, chosen_rows, value_is, value_fails, select_walk}
use Rattle.spreads.proofs.Typings.{DeclareTyped, EachTyped, over, fresh, typing, typings, value_typing}

-- ---- Small facts

all_true : (rows : List Row) → filter (λ (row : Row). true) rows ≡ rows
all_true [] = refl
all_true (row ∷ rows) = ap (λ z. row ∷ z) (all_true rows)

single_of : JavaType → Single
single_of (Of a) = a
single_of (Listed a) = a
single_of (Distinct a) = a

has_listed : (k : JavaType) (a b : Single) → Has k a → k ≡ Listed b → a ≡ b
has_listed _ a b (listed _) e = ap (λ (j : JavaType). elim j as (λ _. Single) [ Of x ↦ x | Listed x ↦ x | Distinct x ↦ x ]) e
has_listed _ a b (distinct _) e = absurd cc

no_query : (e : Expression) (at : Span) (ty : Spelled) (text : List ℕ) (es : tree.Expressions) → IsNew e → e ≡ tree.Query at ty text es → ⊥
no_query _ at ty text es (is_new_list new) e = absurd cc
no_query _ at ty text es (is_new_set new) e = absurd cc

untouched_put : (g : Types) (assigned : Names) (s : Store) (x : List ℕ) (v : Variable) → g x ≡ None → Untouched g assigned s (put s x v)
untouched_put g assigned s x v new y b e n = put_other s x y v (by_name (bytes_eq x y) refl)
  where
    by_name : (d : Bool) → bytes_eq x y ≡ d → d ≡ false
    by_name true q = let there : g x ≡ g y = ap g (names_equal x y q) in absurd cc
    by_name false q = refl

-- a state with another variable has as many turns
covered_from : (schema : Schema) (l : Option Types) (h : Types) (s t : State) (x : List ℕ) (v : Variable) (r : Result Passed Ending) (f : Does) → Covered schema l h (with_variable s x v) t r f → Covered schema l h s t r f
covered_from schema l h s t x v (Ok (GoesOn u)) f to = record { extra = to.extra; state = to.state; passes = to.passes; alike = to.alike; left = to.left; spent = to.spent }
covered_from schema l h s t x v (Ok (Leaves u)) f to = record { extra = to.extra; state = to.state; passes = to.passes; alike = to.alike; left = to.left; spent = to.spent }
covered_from schema l h s t x v (Ok (Returns u z)) f to = record { extra = to.extra; state = to.state; passes = to.passes; lines = to.lines }
covered_from schema l h s t x v (Err z) f to = tt

or_true : (a b : Bool) → b ≡ true → (a || b) ≡ true
or_true true b e = refl
or_true false b e = e

first_true : (a b : Bool) → a ≡ true → (a || b) ≡ true
first_true true b e = refl
first_true false b e = absurd cc

among_more : (n : List ℕ) (ns ms : Names) → AllByRecursion (IsAmong ns) ms → AllByRecursion (IsAmong (n ∷ ns)) ms
among_more n ns [] h = tt
among_more n ns (x ∷ ms) h = (or_true (bytes_eq x n) (is_among ns x) h.0, among_more n ns ms h.1)

among_themselves : (ns : Names) → AllByRecursion (IsAmong ns) ns
among_themselves [] = tt
among_themselves (n ∷ ns) = (first_true (bytes_eq n n) (is_among ns n) (name_same n), among_more n ns ns (among_themselves ns))

-- ---- Statements

module _ (schema : Schema) (reader : Reader schema) (m : PlainMethod) (assigned : Names) (w : World) (world : IsWorld (frame_of schema reader.read m) w) where
  abbrev frame : Frame
  frame = frame_of schema reader.read m

  abbrev Seen : Option Types → Types → Type 0
  Seen l g = (b : Types) → l ≡ Some b → Extends g b

  abbrev CoversBy : Option Types → Types → Types → Does → Does → Type 0
  CoversBy l g h f f' = (s t : State) → Alike schema g s t → Covered schema l h s t (f s) f'

  abbrev spread_block : Statements → Statements
  spread_block p = spread_among schema reader.read assigned None p

  abbrev row_types : List ℕ → Single → Types → Types
  row_types x a g = with_type x (Some (Of a)) g

  -- what the induction gives for the statements of a block
  abbrev BlockCovers : Statements → Type 0
  BlockCovers p = (l : Option Types) (g h : Types) → TypedStatements frame l g p h → AllByRecursion (IsAmong assigned) (assigned_among p) → Seen l g → CoversBy l g g (meanings p w) (meanings (spread_block p) w)

  seen_here : (g : Types) → Seen (Some g) g
  seen_here g b e = let same : g ≡ b = some_types g b e in subst (Extends g) same (λ x k i. i)
    where
      some_types : (x y : Types) → (let o : Option Types = Some x in o) ≡ Some y → x ≡ y
      some_types x y e = ap (λ (o : Option Types). elim o as (λ _. Types) [ Some z ↦ z | None ↦ x ]) e

  if_covers : (l : Option Types) (g : Types) (at : Span) (c : Expression) (p q : Statements) → HasType frame g c bool → CoversBy l g g (meanings p w) (meanings q w) → CoversBy l g g (meaning (tree.If at c p) w) (meaning (tree.If at c q) w)
  if_covers l g at c p q h k s t i = covered_branch schema l g s t (test_of c w s.store) (test_of c w) (meanings p w) done (meanings q w) done (sym (test_same frame g c bool h w s t i)) (k s t i) (covered_done schema l g s t i)

  choose_covers : (l : Option Types) (g : Types) (at : Span) (c : Expression) (p q p' q' : Statements) → HasType frame g c bool → CoversBy l g g (meanings p w) (meanings p' w) → CoversBy l g g (meanings q w) (meanings q' w) → CoversBy l g g (meaning (tree.IfElse at c p q) w) (meaning (tree.IfElse at c p' q') w)
  choose_covers l g at c p q p' q' h k j s t i = covered_branch schema l g s t (test_of c w s.store) (test_of c w) (meanings p w) (meanings q w) (meanings p' w) (meanings q' w) (sym (test_same frame g c bool h w s t i)) (k s t i) (j s t i)

  while_covers : (l : Option Types) (g : Types) (at : Span) (c : Expression) (p q : Statements) → HasType frame g c bool → CoversBy (Some g) g g (meanings p w) (meanings q w) → CoversBy l g g (meaning (tree.While at c p) w) (meaning (tree.While at c q) w)
  while_covers l g at c p q h k s t i = covered_repeat schema l g (test_of c w) (meanings p w) (meanings q w) (λ u v a. sym (test_same frame g c bool h w u v a)) (λ n z. meanings_same n q w z) k s.turns s t i

  -- ---- A walk over a list that both have

  plain_walk : (l : Option Types) (g : Types) (x : List ℕ) (a : Single) (p q : Statements) → g x ≡ None → CoversBy (Some (row_types x a g)) (row_types x a g) (row_types x a g) (meanings p w) (meanings q w) → (rows : List Row) → AllByRecursion (IsMember schema a) rows → CoversBy l g g (each rows x (meanings p w)) (each rows x (meanings q w))
  plain_walk l g x a p q new k rows all s t i =
      let walk : IsWalk schema g (row_types x a g) x a (λ (row : Row). true) (meanings p w) (meanings q w) (λ (z : Store). Unit {0}) = record {
        new = new;
        wider = extends_new g x (Of a) new;
        steady = λ n z. meanings_same n q w z;
        set = λ z v h. tt;
        goes = λ u v h e. tt;
        takes = λ row is e u v b h there. k u v b;
        skips = λ row is e u v b h there. absurd cc;
      } in
      subst (λ z. Covered schema l g s t (each z x (meanings p w) s) (each rows x (meanings q w))) (all_true rows)
      (walk_covers schema l g (row_types x a g) x a (λ (row : Row). true) (meanings p w) (meanings q w) (λ (z : Store). Unit {0}) walk rows all s t i tt)

  each_value : (l : Option Types) (g : Types) (x : List ℕ) (e : Expression) (k : JavaType) (a : Single) (p q : Statements) → Has k a → g x ≡ None → CoversBy (Some (row_types x a g)) (row_types x a g) (row_types x a g) (meanings p w) (meanings q w) → (s t : State) → Alike schema g s t → (o : Result Value Ending) → value_of e w t.store ≡ o → Holds ⊥ (IsOf schema k) o → Covered schema l g s t (o >>= λ v. as_rows v >>= λ rows. each rows x (meanings p w) s) (λ z. value_of e w z.store >>= λ v. as_rows v >>= λ rows. each rows x (meanings q w) z)
  each_value l g x e k a p q has new c s t i (Ok (One y)) r h = tt
  each_value l g x e k a p q has new c s t i (Ok (Whole row)) r h = tt
  each_value l g x e k a p q has new c s t i (Ok (Many rows)) r h =
      covered_same schema l g s t (each rows x (meanings p w) s) (each rows x (meanings q w)) (λ z. value_of e w z.store >>= λ v. as_rows v >>= λ rows. each rows x (meanings q w) z) (λ n. ap (λ o. o >>= λ v. as_rows v >>= λ rows. each rows x (meanings q w) (with_turns n t)) r) (plain_walk l g x a p q new c rows (rows_in schema k a (Many rows) has h) s t i)
  each_value l g x e k a p q has new c s t i (Err y) r h = tt

  each_covers : (l : Option Types) (g : Types) (at : Span) (ty : Spelled) (x : List ℕ) (e : Expression) (k : JavaType) (a : Single) (p q : Statements) → HasType frame g e k → Has k a → g x ≡ None → CoversBy (Some (row_types x a g)) (row_types x a g) (row_types x a g) (meanings p w) (meanings q w) → CoversBy l g g (meaning (tree.ForEach at ty x e p) w) (meaning (tree.ForEach at ty x e q) w)
  each_covers l g at ty x e k a p q typed has new c s t i = each_value l g x e k a p q has new c s t i (value_of e w s.store) (sym (typed_same frame g e k typed w s t i)) (typed_value frame g e k typed w s.store world (typed_store schema g s t i))

  fresh_covers : (l : Option Types) (g : Types) (at : Span) (ty : Spelled) (x : List ℕ) (e : Expression) (p q : Statements) → IsNew e → CoversBy l g g (meaning (tree.ForEach at ty x e p) w) (meaning (tree.ForEach at ty x e q) w)
  fresh_covers l g at ty x _ p q (is_new_list new) s t i = covered_same schema l g s t (Ok (GoesOn s)) done (meaning (tree.ForEach at ty x (tree.NewList new) q) w) (λ n. refl) (covered_done schema l g s t i)
  fresh_covers l g at ty x _ p q (is_new_set new) s t i = covered_same schema l g s t (Ok (GoesOn s)) done (meaning (tree.ForEach at ty x (tree.NewSet new) q) w) (λ n. refl) (covered_done schema l g s t i)

  pub own_each : (l : Option Types) (g h : Types) (at : Span) (ty : Spelled) (x : List ℕ) (e : Expression) (p : Statements) → EachTyped frame g x e p h → AllByRecursion (IsAmong assigned) (assigned_among p) → BlockCovers p → CoversBy l g h (meaning (tree.ForEach at ty x e p) w) (meaning (tree.ForEach at ty x e (spread_block p)) w)
  own_each l g _ at ty x e p (over k a hb new typed has body) names c = each_covers l g at ty x e k a p (spread_block p) typed has new (c (Some (row_types x a g)) (row_types x a g) hb body names (seen_here (row_types x a g)))
  own_each l g _ at ty x e p (fresh k hb new is body) names c = fresh_covers l g at ty x e p (spread_block p) is

  -- ---- A walk over a select

  select_each : (l : Option Types) (g : Types) (at : Span) (ty : Spelled) (x : List ℕ) (e : Expression) (k : JavaType) (a : Single) (s : Select) (p : Statements) (hb : Types) → HasType frame g e k → Has k a → g x ≡ None → TypedStatements frame (Some (row_types x a g)) (row_types x a g) p hb → AllByRecursion (IsAmong assigned) (assigned_among p) → BlockCovers p → select_of schema reader.read assigned e ≡ Some s → CoversBy l g g (meaning (tree.ForEach at ty x e p) w) (meaning (walked schema at ty x s (spread_block p)) w)
  select_each l g at ty x e k a sel p hb typed has new body names c is s t i = by_arguments (scalars_of sel.arguments w s.store) refl
    where
      st : SelectTyped schema reader m assigned g e k sel
      st = select_of_typed schema reader m assigned g e k sel typed is

      same : a ≡ RowOf st.is.from.table
      same = has_listed k a (RowOf st.is.from.table) has st.answer

      body' : TypedStatements frame (Some (row_types x (RowOf st.is.from.table) g)) (row_types x (RowOf st.is.from.table) g) p hb
      body' = subst (λ z. TypedStatements frame (Some (row_types x z g)) (row_types x z g) p hb) same body

      by_arguments : (o : Result (List Scalar) Ending) → scalars_of sel.arguments w s.store ≡ o → Covered schema l g s t (value_of e w s.store >>= λ v. as_rows v >>= λ rows. each rows x (meanings p w) s) (meaning (walked schema at ty x sel (spread_block p)) w)
      by_arguments (Ok xs) h =
          subst (λ o. Covered schema l g s t (o >>= λ v. as_rows v >>= λ rows. each rows x (meanings p w) s) (meaning (walked schema at ty x sel (spread_block p)) w)) (sym (value_is schema reader m assigned g e k sel st w world s.store xs h))
          (select_walk schema reader m assigned g e k sel st w world at x p (spread_block p) hb new body' names (c (Some (row_types x (RowOf st.is.from.table) g)) (row_types x (RowOf st.is.from.table) g) hb body' names (seen_here (row_types x (RowOf st.is.from.table) g))) s.store (typed_store schema g s t i) xs h l ty s t i (λ y b f n. refl))
      by_arguments (Err z) h =
          subst (λ o. Covered schema l g s t (o >>= λ v. as_rows v >>= λ rows. each rows x (meanings p w) s) (meaning (walked schema at ty x sel (spread_block p)) w)) (sym (value_fails schema reader m assigned g e k sel st w world s.store z h)) tt

  inner_each : (l : Option Types) (g h : Types) (at : Span) (ty : Spelled) (x : List ℕ) (e : Expression) (p : Statements) → EachTyped frame g x e p h → AllByRecursion (IsAmong assigned) (assigned_among p) → BlockCovers p → (o : Option Select) → select_of schema reader.read assigned e ≡ o → CoversBy l g h (meaning (tree.ForEach at ty x e p) w) (meaning (walked_or schema at ty x e o (spread_block p)) w)
  inner_each l g h at ty x e p typed names c None is = own_each l g h at ty x e p typed names c
  inner_each l g _ at ty x e p (over k a hb new typed has body) names c (Some sel) is = select_each l g at ty x e k a sel p hb typed has new body names c is
  inner_each l g _ at ty x e p (fresh k hb new fine body) names c (Some sel) is =
      let f = found_select schema reader.read assigned e sel is in
      absurd (no_query e f.at (tree.Table f.name) f.text sel.arguments fine f.is)

  -- ---- A select that is declared for a walk

  same_beside : (x : List ℕ) (k : JavaType) (g : Types) → Same (Other x) g (with_type x (Some k) g)
  same_beside x k g z n = ap (λ b. cond b (Some k) (g z)) (sym n)

  same_inside : (P : List ℕ → Type 0) (h g : Types) (y : List ℕ) (k : Option JavaType) → Same P h g → Same P (with_type y k h) (with_type y k g)
  same_inside P h g y k s z n = ap (cond (bytes_eq y z) k) (s z n)

  -- what the two statements do, where the select has these rows
  declared_run : (s : State) (at : Span) (ty : Spelled) (x : List ℕ) (e : Expression) (at2 : Span) (ty2 : Spelled) (y : List ℕ) (at3 : Span) (body p : Statements) (rows : List Row) → value_of e w s.store ≡ Ok (Many rows) → meanings (Then (tree.Declare at ty x e) (Then (tree.ForEach at2 ty2 y (tree.Var at3 x) body) p)) w s ≡ then_do (each rows y (meanings body w) (with_variable s x (record { value = Many rows; is_set = is_set_type ty }))) (meanings p w)
  declared_run s at ty x e at2 ty2 y at3 body p rows h =
      let v : Variable = record { value = Many rows; is_set = is_set_type ty } in
      let s1 : State = with_variable s x v in
      ap (λ o. then_do (o >>= λ z. done (with_variable s x (record { value = z; is_set = is_set_type ty }))) (meanings (Then (tree.ForEach at2 ty2 y (tree.Var at3 x) body) p) w)) h
      ∙ ap (λ o. then_do ((found o >>= λ (held : Variable). (let r : Result Value Ending = Ok held.value in r)) >>= λ z. as_rows z >>= λ rows. each rows y (meanings body w) s1) (meanings p w)) (put_same s.store x v)

  new_var : (e : Expression) (at : Span) (x : List ℕ) → IsNew e → e ≡ tree.Var at x → ⊥
  new_var _ at x (is_new_list new) e = absurd cc
  new_var _ at x (is_new_set new) e = absurd cc

  some_type : (k j : JavaType) → (let o : Option JavaType = Some k in o) ≡ Some j → k ≡ j
  some_type k j e = ap (λ (o : Option JavaType). elim o as (λ _. JavaType) [ Some z ↦ z | None ↦ k ]) e

  module _ (l : Option Types) (g : Types) (at : Span) (ty : Spelled) (x : List ℕ) (e : Expression) (type : JavaType) (new : g x ≡ None) (typed : HasType frame g e type) (sel : Select) (is : select_of schema reader.read assigned e ≡ Some sel) (at2 : Span) (ty2 : Spelled) (y : List ℕ) (at3 : Span) (body p : Statements) (other : AreOthers x y body p) (names : AllByRecursion (IsAmong assigned) (assigned_among body)) (names' : AllByRecursion (IsAmong assigned) (assigned_among p)) (seen : Seen l g) (c : BlockCovers body) (c' : BlockCovers p) where
    abbrev with_list : Types
    with_list = with_type x (Some type) g

    abbrev pair : Statements
    pair = Then (tree.Declare at ty x e) (Then (tree.ForEach at2 ty2 y (tree.Var at3 x) body) p)

    abbrev spread_pair : Statements
    spread_pair = Then (walked schema at2 ty2 y sel (spread_block body)) (spread_block p)

    st : SelectTyped schema reader m assigned g e type sel
    st = select_of_typed schema reader m assigned g e type sel typed is

    abbrev row : Single
    row = RowOf st.is.from.table

    list_new : Extends with_list g
    list_new = extends_new g x type new

    row_new : with_list y ≡ None → g y ≡ None
    row_new n = ap (λ b. cond b (Some type) (g y)) (sym other.row) ∙ n

    row_is : (k : JavaType) (a : Single) → HasType frame with_list (tree.Var at3 x) k → Has k a → a ≡ row
    row_is k a h has =
        let here : (let o : Option JavaType = Some type in o) ≡ Some k = ap (λ b. cond b (Some type) (g x)) (sym (name_same x)) ∙ value_typing frame with_list (tree.Var at3 x) k h in
        has_listed k a row has (sym (some_type type k here) ∙ st.answer)

    rest_stands : (m1 : Types) → TypedStatements frame l with_list p m1 → Stand frame l g p
    rest_stands m1 t = statements_stand frame (Other x) l l with_list g p m1 t list_new (same_beside x type g) (λ b q. record { start = b; is = q; seen = seen b q }) other.behind

    body_stands : (hb : Types) → TypedStatements frame (Some (row_types y row with_list)) (row_types y row with_list) body hb → Stand frame (Some (row_types y row g)) (row_types y row g) body
    body_stands hb t =
        statements_stand frame (Other x) (Some (row_types y row with_list)) (Some (row_types y row g)) (row_types y row with_list) (row_types y row g) body hb t (fewer_with with_list g y (Some (Of row)) list_new) (same_inside (Other x) g with_list y (Some (Of row)) (same_beside x type g)) (λ b q. body_in (row_types y row g)) other.inside

    by_arguments : (s t : State) → Alike schema g s t → with_list y ≡ None → Stand frame (Some (row_types y row g)) (row_types y row g) body → Stand frame l g p → (o : Result (List Scalar) Ending) → scalars_of sel.arguments w s.store ≡ o → Covered schema l g s t (meanings pair w s) (meanings spread_pair w)
    by_arguments s t i n b r (Ok xs) h =
        let rows : List Row = chosen_rows schema reader m assigned g e type sel st w world xs in
        let v : Variable = record { value = Many rows; is_set = is_set_type ty } in
        let s1 : State = with_variable s x v in
        let walk : Covered schema l g s1 t (each rows y (meanings body w) s1) (meaning (walked schema at2 ty2 y sel (spread_block body)) w) =
        select_walk schema reader m assigned g e type sel st w world at2 y body (spread_block body) b.end (row_new n) b.typed names (c (Some (row_types y row g)) (row_types y row g) b.end b.typed names (seen_here (row_types y row g))) s.store (typed_store schema g s t i) xs h l ty2 s1 t (beside_alike schema g s t x v new i) (untouched_put g assigned s.store x v new)
        in
        subst (λ o. Covered schema l g s t o (meanings spread_pair w)) (sym (declared_run s at ty x e at2 ty2 y at3 body p rows (value_is schema reader m assigned g e type sel st w world s.store xs h)))
        (covered_then schema l g g s t (each rows y (meanings body w) s1) (meaning (walked schema at2 ty2 y sel (spread_block body)) w) (meanings p w) (meanings (spread_block p) w) (λ k z. meaning_same k (walked schema at2 ty2 y sel (spread_block body)) w z) (λ u z a. c' l g r.end r.typed names' seen u z a) (covered_from schema l g s t x v (each rows y (meanings body w) s1) (meaning (walked schema at2 ty2 y sel (spread_block body)) w) walk))
    by_arguments s t i n b r (Err z) h =
        subst (λ o. Covered schema l g s t (then_do (o >>= λ v. done (with_variable s x (record { value = v; is_set = is_set_type ty }))) (meanings (Then (tree.ForEach at2 ty2 y (tree.Var at3 x) body) p) w)) (meanings spread_pair w)) (sym (value_fails schema reader m assigned g e type sel st w world s.store z h)) tt

    pair_over : (k : JavaType) (a : Single) (hb m1 : Types) → with_list y ≡ None → HasType frame with_list (tree.Var at3 x) k → Has k a → TypedStatements frame (Some (row_types y a with_list)) (row_types y a with_list) body hb → TypedStatements frame l with_list p m1 → CoversBy l g g (meanings pair w) (meanings spread_pair w)
    pair_over k a hb m1 n h has inner rest s t i =
        by_arguments s t i n (body_stands hb (subst (λ z. TypedStatements frame (Some (row_types y z with_list)) (row_types y z with_list) body hb) (row_is k a h has) inner)) (rest_stands m1 rest) (scalars_of sel.arguments w s.store) refl

    pair_each : (e2 : Expression) (h m1 : Types) → e2 ≡ tree.Var at3 x → EachTyped frame with_list y e2 body h → TypedStatements frame l h p m1 → CoversBy l g g (meanings pair w) (meanings spread_pair w)
    pair_each e2 _ m1 q (over k a hb n h has inner) rest = pair_over k a hb m1 n (subst (λ z. HasType frame with_list z k) q h) has inner rest
    pair_each e2 _ m1 q (fresh k hb n fine inner) rest = absurd (new_var e2 at3 x fine q)

  abbrev declared_spread : Option Expression → Span → Spelled → List ℕ → Expression → Span → Spelled → List ℕ → Expression → Statements → Statements → Statements
  declared_spread o at ty x e at2 ty2 y e2 body p =
      elim o as (λ _. Statements) [
        | Some value ↦ spread_among schema reader.read assigned (Some value) (Then (tree.ForEach at2 ty2 y e2 body) p)
        | None ↦ Then (spread_in schema reader.read assigned None (tree.Declare at ty x e)) (spread_among schema reader.read assigned None (Then (tree.ForEach at2 ty2 y e2 body) p))
      ]

  module _ (l : Option Types) (g h1 m1 : Types) (at : Span) (ty : Spelled) (x : List ℕ) (e : Expression) (at2 : Span) (ty2 : Spelled) (y : List ℕ) (e2 : Expression) (body p : Statements) (one : TypedStatement frame l g (tree.Declare at ty x e) h1) (rest : TypedStatements frame l h1 (Then (tree.ForEach at2 ty2 y e2 body) p) m1) (names : AllByRecursion (IsAmong assigned) (assigned_among body)) (names' : AllByRecursion (IsAmong assigned) (assigned_among p)) (seen : Seen l g) (c : BlockCovers body) (c' : BlockCovers p) (later : BlockCovers (Then (tree.ForEach at2 ty2 y e2 body) p)) (both : AllByRecursion (IsAmong assigned) (assigned_among (Then (tree.ForEach at2 ty2 y e2 body) p))) where
    as_pair : (v : Expression) → IsPair schema reader assigned x e at2 ty2 y e2 body p v → CoversBy l g g (meanings (Then (tree.Declare at ty x e) (Then (tree.ForEach at2 ty2 y e2 body) p)) w) (meanings (Then (walked_or schema at2 ty2 y e2 (select_of schema reader.read assigned v) (spread_block body)) (spread_block p)) w)
    as_pair v pair =
        let d : DeclareTyped frame g ty x e h1 = typing frame l g (tree.Declare at ty x e) h1 one in
        let rest' : TypedStatements frame l (with_type x (Some d.type) g) (Then (tree.ForEach at2 ty2 y e2 body) p) m1 = subst (λ z. TypedStatements frame l z (Then (tree.ForEach at2 ty2 y e2 body) p) m1) d.end rest in
        let then_ = typings frame l (with_type x (Some d.type) g) (Then (tree.ForEach at2 ty2 y e2 body) p) m1 rest' in
        let each_ : EachTyped frame (with_type x (Some d.type) g) y e2 body then_.between = typing frame l (with_type x (Some d.type) g) (tree.ForEach at2 ty2 y e2 body) then_.between then_.one in
        let once_ : times_named x (Then (tree.ForEach at2 ty2 y (tree.Var pair.place x) body) p) ≡ 1 = subst (λ z. times_named x (Then (tree.ForEach at2 ty2 y z body) p) ≡ 1) pair.walks pair.once in
        let there : select_of schema reader.read assigned v ≡ Some pair.select = ap (select_of schema reader.read assigned) (sym pair.value) ∙ pair.selects in
        let covers : CoversBy l g g (meanings (Then (tree.Declare at ty x e) (Then (tree.ForEach at2 ty2 y (tree.Var pair.place x) body) p)) w) (meanings (Then (walked schema at2 ty2 y pair.select (spread_block body)) (spread_block p)) w) =
        pair_each l g at ty x e d.type d.new d.typed pair.select pair.selects at2 ty2 y pair.place body p (others x at2 pair.place ty2 y body p once_) names names' seen c c' e2 then_.between m1 pair.walks each_ then_.rest
        in
        subst (λ z. CoversBy l g g (meanings (Then (tree.Declare at ty x e) (Then (tree.ForEach at2 ty2 y z body) p)) w) (meanings (Then (walked_or schema at2 ty2 y z (select_of schema reader.read assigned v) (spread_block body)) (spread_block p)) w)) (sym pair.walks)
        (subst (λ o. CoversBy l g g (meanings (Then (tree.Declare at ty x e) (Then (tree.ForEach at2 ty2 y (tree.Var pair.place x) body) p)) w) (meanings (Then (walked_or schema at2 ty2 y (tree.Var pair.place x) o (spread_block body)) (spread_block p)) w)) (sym there) covers)

    declared_covers : (o : Option Expression) → value_declared schema reader.read assigned (tree.Declare at ty x e) (Then (tree.ForEach at2 ty2 y e2 body) p) ≡ o → CoversBy l g g (meanings (Then (tree.Declare at ty x e) (Then (tree.ForEach at2 ty2 y e2 body) p)) w) (meanings (declared_spread o at ty x e at2 ty2 y e2 body p) w)
    declared_covers (Some v) h = as_pair v (pair_if schema reader assigned x e at2 ty2 y e2 body p v (walks_alone x (Then (tree.ForEach at2 ty2 y e2 body) p) && is_there (select_of schema reader.read assigned e)) refl h)
    declared_covers None h = λ s t i. (
        let wider = extends_statement frame l g h1 (tree.Declare at ty x e) one in
        covered_then schema l h1 g s t (meaning (tree.Declare at ty x e) w s) (meaning (tree.Declare at ty x e) w) (meanings (Then (tree.ForEach at2 ty2 y e2 body) p) w) (meanings (spread_block (Then (tree.ForEach at2 ty2 y e2 body) p)) w) (λ k z. meaning_same k (tree.Declare at ty x e) w z) (λ u v a. covered_fewer schema l h1 g u v (meanings (Then (tree.ForEach at2 ty2 y e2 body) p) w u) (meanings (spread_block (Then (tree.ForEach at2 ty2 y e2 body) p)) w) wider (later l h1 m1 rest both (λ b q j k r. wider j k (seen b q j k r)) u v a)) (covers_itself frame l g (tree.Declare at ty x e) h1 one w world s t i))

  -- ---- All statements

  plain_then : (a : Statement) (p : Statements) (a' : Statement) (p' : Statements) (l : Option Types) (g h m1 : Types) → TypedStatement frame l g a h → CoversBy l g h (meaning a w) (meaning a' w) → CoversBy l h h (meanings p w) (meanings p' w) → CoversBy l g g (meanings (Then a p) w) (meanings (Then a' p') w)
  plain_then a p a' p' l g h m1 one c c' s t i =
      let wider = extends_statement frame l g h a one in
      covered_then schema l h g s t (meaning a w s) (meaning a' w) (meanings p w) (meanings p' w) (λ k z. meaning_same k a' w z) (λ u v b. covered_fewer schema l h g u v (meanings p w u) (meanings p' w) wider (c' u v b)) (c s t i)

  further : (l : Option Types) (g h : Types) (a : Statement) → TypedStatement frame l g a h → Seen l g → Seen l h
  further l g h a one seen b q j k r = extends_statement frame l g h a one j k (seen b q j k r)

  mutual
    in_covers : (a : Statement) (l : Option Types) (g h : Types) → TypedStatement frame l g a h → AllByRecursion (IsAmong assigned) (assigned_in a) → Seen l g → CoversBy l g h (meaning a w) (meaning (spread_in schema reader.read assigned None a) w)
    in_covers (tree.If at c p) l g h d names seen =
        let k = typing frame l g (tree.If at c p) h d in
        subst (λ z. CoversBy l g z (meaning (tree.If at c p) w) (meaning (tree.If at c (spread_block p)) w)) (sym k.end) (if_covers l g at c p (spread_block p) k.test (among_covers p l g k.inner k.typed names seen))
    in_covers (tree.IfElse at c p q) l g h d names seen =
        let k = typing frame l g (tree.IfElse at c p q) h d in
        let both = all_parts (IsAmong assigned) (assigned_among p) (assigned_among q) names in
        subst (λ z. CoversBy l g z (meaning (tree.IfElse at c p q) w) (meaning (tree.IfElse at c (spread_block p) (spread_block q)) w)) (sym k.end) (choose_covers l g at c p q (spread_block p) (spread_block q) k.test (among_covers p l g k.inner k.typed both.0 seen) (among_covers q l g k.other k.otherwise both.1 seen))
    in_covers (tree.ForEach at ty x e p) l g h d names seen =
        inner_each l g h at ty x e p (typing frame l g (tree.ForEach at ty x e p) h d) names (λ l' g' h' d' n s. among_covers p l' g' h' d' n s) (select_of schema reader.read assigned e) refl
    in_covers (tree.While at c p) l g h d names seen =
        let k = typing frame l g (tree.While at c p) h d in
        subst (λ z. CoversBy l g z (meaning (tree.While at c p) w) (meaning (tree.While at c (spread_block p)) w)) (sym k.end) (while_covers l g at c p (spread_block p) k.test (among_covers p (Some g) g k.inner k.typed names (seen_here g)))
    in_covers a l g h d names seen = covers_itself frame l g a h d w world

    pub among_covers : (p : Statements) → BlockCovers p
    among_covers Nothing l g h d names seen = λ s t i. covered_same schema l g s t (Ok (GoesOn s)) done (meanings Nothing w) (λ n. refl) (covered_done schema l g s t i)
    among_covers (Then (tree.Declare at ty x e) (Then (tree.ForEach at2 ty2 y e2 body) p)) l g h d names seen =
        let k = typings frame l g (Then (tree.Declare at ty x e) (Then (tree.ForEach at2 ty2 y e2 body) p)) h d in
        let both = all_parts (IsAmong assigned) (assigned_among body) (assigned_among p) names in
        declared_covers l g k.between h at ty x e at2 ty2 y e2 body p k.one k.rest both.0 both.1 seen (λ l' g' h' d' n s. among_covers body l' g' h' d' n s) (λ l' g' h' d' n s. among_covers p l' g' h' d' n s) (λ l' g' h' d' n s. among_covers (Then (tree.ForEach at2 ty2 y e2 body) p) l' g' h' d' n s) names (value_declared schema reader.read assigned (tree.Declare at ty x e) (Then (tree.ForEach at2 ty2 y e2 body) p)) refl
    among_covers (Then a p) l g h d names seen =
        let k = typings frame l g (Then a p) h d in
        let both = all_parts (IsAmong assigned) (assigned_in a) (assigned_among p) names in
        plain_then a p (spread_in schema reader.read assigned None a) (spread_block p) l g k.between h k.one (in_covers a l g k.between k.one both.0 seen) (among_covers p l k.between h k.rest both.1 (further l g k.between a k.one seen))

-- ---- The loop

module _ (schema : Schema) (reader : Reader schema) (m : PlainMethod) (l : Option Types) (g h : Types) where
  abbrev framed : Frame
  framed = frame_of schema reader.read m

  loop_covers : (at : Span) (ty : Spelled) (x : List ℕ) (e : Expression) (p : Statements) → TypedStatement framed l g (tree.ForEach at ty x e p) h → Covers framed l g h (Then (tree.ForEach at ty x e p) Nothing) (Then (tree.ForEach at ty x e (spread_among schema reader.read (assigned_among p) None p)) Nothing)
  loop_covers at ty x e p d = record {
    by = λ w world s t i. (
        let q : Statements = spread_among schema reader.read (assigned_among p) None p in
        covered_then schema l h h s t (meaning (tree.ForEach at ty x e p) w s) (meaning (tree.ForEach at ty x e q) w) (meanings Nothing w) (meanings Nothing w) (λ k z. meaning_same k (tree.ForEach at ty x e q) w z) (λ u v a. covered_same schema l h u v (Ok (GoesOn u)) done (meanings Nothing w) (λ n. refl) (covered_done schema l h u v a))
        (own_each schema reader m (assigned_among p) w world l g h at ty x e p (typing framed l g (tree.ForEach at ty x e p) h d) (among_themselves (assigned_among p)) (among_covers schema reader m (assigned_among p) w world p) s t i));
  }

  by_count : (at : Span) (ty : Spelled) (x : List ℕ) (e : Expression) (p : Statements) (z : Statement) → TypedStatement framed l g (tree.ForEach at ty x e p) h → (b : Bool) → cond b None (let o : Option Statement = Some (tree.ForEach at ty x e (spread_among schema reader.read (assigned_among p) None p)) in o) ≡ Some z → Covers framed l g h (Then (tree.ForEach at ty x e p) Nothing) (Then z Nothing)
  by_count at ty x e p z d true i = absurd cc
  by_count at ty x e p z d false i = subst (λ a. Covers framed l g h (Then (tree.ForEach at ty x e p) Nothing) (Then a Nothing)) (some_statement (tree.ForEach at ty x e (spread_among schema reader.read (assigned_among p) None p)) z i) (loop_covers at ty x e p d)
    where
      some_statement : (a b : Statement) → (let o : Option Statement = Some a in o) ≡ Some b → a ≡ b
      some_statement a b e = ap (λ (o : Option Statement). elim o as (λ _. Statement) [ Some z ↦ z | None ↦ a ]) e

  pub spread_covers : (s z : Statement) → TypedStatement framed l g s h → spread_of schema reader.read s ≡ Some z → Covers framed l g h (Then s Nothing) (Then z Nothing)
  spread_covers (tree.ForEach at ty x e p) z d i = by_count at ty x e p z d (nat_eq (selects_among schema reader.read (assigned_among p) None p) 0) i
  spread_covers s z d i = absurd cc
