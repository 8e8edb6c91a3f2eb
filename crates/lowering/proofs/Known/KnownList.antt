-- One known list of a lowered loop: its query has one column, whose type is that of the list's scalars, and the entries with
-- the numbers of its arguments have the types of its parameters.
use Rattle.std.proofs.Common.{◌≡◌, ℕ, Bool, List, map, Option, Some, None, refl, sym, ap, ◌∙◌, subst, slice_get}
use Rattle.std.specs.List.{AllByRecursion}
use Rattle.qbs_base.specs.declared.span.Span.{Span}
use Rattle.sql_ast.specs.declared.tree.SqlCol.{SqlCol}
use Rattle.sql_ast.specs.declared.tree.SqlItem.TheVariants as items
use Rattle.sql_ast.specs.Tree.{PlainListing, PlainQuery, Listing}
use Rattle.sql_ast.specs.Typing.{ty_of_col}
use Rattle.sql_ast.specs.Valid.{IsQueryOf}
use Rattle.java_ast.specs.Tree as tree
use Rattle.java_ast.specs.Tree.{Spelled, Expression, Expressions, Statements, Then, PlainMethod}
use Rattle.java_mean.specs.declared.types.JavaType.{JavaType}
use Rattle.java_mean.specs.declared.types.JavaType.TheVariants.{Listed, Distinct}
use Rattle.java_mean.specs.declared.types.Single.{Single}
use Rattle.java_mean.specs.declared.types.Single.TheVariants.{ScalarOf, RowOf}
use Rattle.java_mean.specs.Asks.{frame_of}
use Rattle.java_mean.specs.Refines.{followed_by}
use Rattle.java_mean.specs.Types.{Types}
use Rattle.java_mean.specs.Typing.{Frame, QueryType, HasType, query, new_set_of, HaveTypes, TypedStatements}
use Rattle.loop_text.specs.Kernel.KernelConditions.{Asked, asked_for, behind_setting}
use Rattle.java_loops.specs.Kernel.Setting.{Setting}
use Rattle.java_loops.specs.Lowering.Lowered.{query_asked, numbers_of_arguments}
use Rattle.java_loops.specs.Lowering.Numbering.{arguments_asked, entries_of}
use Rattle.java_loops.proofs.Known.KnownAnswers.{GivenTyped, given_typed}
use Rattle.java_loops.proofs.Known.KnownLists.{AsksBy, as_list, as_set, IsAskedFor, IsKnownList, known_list}
use Rattle.java_loops.proofs.Known.KnownNumbers.{IsGoodKnown}
use Rattle.java_loops.proofs.Numbers.Numberings.{type_of_members}
use Rattle.java_loops.proofs.Valid.ValidThere.{IsEntered}
use Rattle.lowering.proofs.Known.KnownArguments.{entry_types, arguments_typed}
use Rattle.lowering.proofs.Known.KnownColumn.{IsColumnQuery, column_query}

-- ---- The type of what asks

-- the text has a query of this type, and the arguments have the types of its parameters
record IsTypedAsk (c : Frame) (g : Types) (a : Asked) (k : JavaType) : Type 0 where
  type : QueryType
  asked : c.asks a.text ≡ Some type
  arguments : HaveTypes c g a.arguments type.params
  members : type_of_members (Some k) ≡ type_of_members (Some type.answer)

query_typed : (c : Frame) (g : Types) (at : Span) (ty : Spelled) (text : List ℕ) (es : Expressions) (k : JavaType) → HasType c g (tree.Query at ty text es) k → (t : QueryType) × (c.asks text ≡ Some t) × HaveTypes c g es t.params × (k ≡ t.answer)
query_typed c g _ _ _ _ _ (query at ty text es q e t) = (q, e, t, refl)

set_typed : (c : Frame) (g : Types) (at : Span) (e : Expression) (k : JavaType) → HasType c g (tree.NewSetOf at e) k → (a : Single) × (k ≡ Distinct a) × HasType c g e (Listed a)
set_typed c g _ _ _ (new_set_of at e a t) = (a, refl, t)

-- a set has the scalars of its list
same_members : (a : Single) → type_of_members (Some (Distinct a)) ≡ type_of_members (Some (Listed a))
same_members (ScalarOf ty) = refl
same_members (RowOf n) = refl

typed_ask : (c : Frame) (g : Types) (a : Asked) (set : Bool) (e : Expression) (k : JavaType) → AsksBy a set e → HasType c g e k → IsTypedAsk c g a k
typed_ask c g a _ _ k (as_list at ty) t =
    let q = query_typed c g at ty a.text a.arguments k t in
    record { type = q.0; asked = q.1; arguments = q.2; members = ap (λ z. type_of_members (Some z)) q.3 }
typed_ask c g a _ _ k (as_set at at' ty) t =
    let s = set_typed c g at (tree.Query at' ty a.text a.arguments) k t in
    let q = query_typed c g at' ty a.text a.arguments (Listed s.0) s.2 in
    record { type = q.0; asked = q.1; arguments = q.2; members = ap (λ z. type_of_members (Some z)) s.1 ∙ same_members s.0 ∙ ap (λ z. type_of_members (Some z)) q.3 }

-- ---- One known list

-- the query that the run gives to a variable, and the entry numbers of its arguments
abbrev pub query_for : Setting → List ℕ → Option PlainQuery
query_for w x = query_asked w.read (asked_for w.fragment.run x)

abbrev pub arguments_for : Setting → List ℕ → List ℕ
arguments_for w x = numbers_of_arguments (entries_of w) (arguments_asked (asked_for w.fragment.run x))

pub record IsKnownHere (w : Setting) (x : List ℕ) : Type 0 where
  pub listing : PlainListing
  pub col : SqlCol
  pub is : query_for w x ≡ Some (Listing listing)
  pub valid : IsQueryOf w.schema (Listing listing)
  pub item : listing.item ≡ items.Column col
  pub whole : listing.limit ≡ None
  pub entries : map (slice_get (entry_types w)) (arguments_for w x) ≡ map Some listing.params
  pub column : ty_of_col w.schema listing.from col ≡ Some (type_of_members (w.types x))

-- A known list of a typed run is so, where its query is one of the schema.
pub known_here : (w : Setting) (m : PlainMethod) (l : Option Types) (start : Types) → TypedStatements (frame_of w.schema w.read m) l start w.fragment.run w.types → (x : List ℕ) → IsGoodKnown w x → AllByRecursion (IsEntered (entries_of w)) (arguments_asked (asked_for w.fragment.run x)) → ((q : PlainQuery) → query_for w x ≡ Some q → IsQueryOf w.schema q) → IsKnownHere w x
known_here w m l start run x good entered valid =
    let c : Frame = frame_of w.schema w.read m in
    let k : IsKnownList w good.number x = known_list w good.number x good.known in
    let q : IsAskedFor w.fragment.run x k.asked = k.asks in
    let behind : Statements = behind_setting x w.fragment.run in
    let run_so : TypedStatements c l start (followed_by q.before (Then q.statement behind)) w.types = subst (λ p. TypedStatements c l start p w.types) q.is run in
    let given : GivenTyped c w.types x q.value = given_typed c l start w.types q.before q.statement behind x q.value q.gives run_so in
    let ask : IsTypedAsk c given.before k.asked given.type = typed_ask c given.before k.asked q.asks.set q.value given.type q.asks.form given.value in
    let read : query_for w x ≡ w.read k.asked.text = ap (query_asked w.read) k.is in
    let found : IsColumnQuery w.schema (w.read k.asked.text) ask.type = column_query w.schema (w.read k.asked.text) ask.type k.column ask.asked (λ r e. (valid r (read ∙ e)).groups) in
    let there : AllByRecursion (IsEntered (entries_of w)) (arguments_asked (Some k.asked)) = subst (λ o. AllByRecursion (IsEntered (entries_of w)) (arguments_asked o)) k.is entered in
    let members : type_of_members (w.types x) ≡ found.ty = ap type_of_members given.there ∙ ask.members ∙ ap (λ z. type_of_members (Some z)) found.answer in
    record {
      listing = found.listing;
      col = found.col;
      is = read ∙ found.is;
      valid = valid (Listing found.listing) (read ∙ found.is);
      item = found.item;
      whole = found.whole;
      entries =
          ap (λ o. map (slice_get (entry_types w)) (numbers_of_arguments (entries_of w) (arguments_asked o))) k.is
          ∙ arguments_typed w c given.before good.number k.asked.arguments ask.type.params refl k.entries there given.extends ask.arguments
          ∙ ap (map Some) found.params;
      column = found.column ∙ ap Some (sym members);
    }
