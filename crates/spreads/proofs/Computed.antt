-- The worked loops compute.
use Rattle.std.proofs.Common.{◌≡◌, ℕ, ◌+◌, [], ◌∷◌, Option, Some, None, refl, ap, ◌∙◌}
use Rattle.std.specs.Fmt.{digits}
use Rattle.std.specs.Prelude.{codes, nat_eq, if◌then◌else◌}
use Rattle.qbs_base.specs.Values.{Schema}
use Rattle.qbs_base.specs.declared.scalar.Ty.TheVariants as tys
use Rattle.sql_ast.specs.Lexer.{tokens_in}
use Rattle.sql_ast.specs.Reader.{listed_at, atom_at, negation_in, joined_from, conjunction_at, condition_at}
use Rattle.sql_ast.specs.Texts.{HasQuery}
use Rattle.sql_ast.specs.Worked.{staff_schema}
use Rattle.sql_ast.proofs.Judged.{query_exactly}
use Rattle.java_ast.specs.Tree as tree
use Rattle.java_ast.specs.Names.{Names}
use Rattle.java_ast.specs.Tree.{Expression, Statement, PlainMethod, Statements, Nothing, Then}
use Rattle.java_mean.specs.declared.types.JavaType.TheVariants.{Of, Listed}
use Rattle.java_mean.specs.declared.types.Single.TheVariants.{ScalarOf, RowOf}
use Rattle.java_mean.specs.Asks.{type_of_found, frame_of}
use Rattle.java_mean.specs.Numbers.{NumbersFit}
use Rattle.java_mean.specs.Queries.{Reader}
use Rattle.java_mean.specs.Types.{Types, with_type}
use Rattle.java_mean.specs.Typing.{QueryType, Frame, HasType, var, field, fetch, query, no_more, and, listed, TypedStatement, add, for_each, TypedStatements, done as nothing, next}
use Rattle.java_mean.specs.WellTyped.{IsWellTyped}
use Rattle.java_mean.specs.Worked.{somewhere, User, Role, u, out}
use Rattle.spreads.specs.Covers.{Covers}
use Rattle.spreads.specs.Narrowed.{narrowed_at}
use Rattle.spreads.specs.Spread.{Reads, value_declared, spread_in, spread_among, selects_in, selects_among, spread_of}
use Rattle.spreads.specs.Worked.{r, by_id, by_id_text, asked, add_label, each_user, asking, declare_roles, walk_roles, declaring, walk_out, spread_out, with_out, labelling}
use Rattle.spreads.specs.WorkedNarrow.{program_of, walking, declaring as declaring_users, users, users_asked}
use Rattle.spreads.proofs.Sound as sound
use Rattle.spreads.proofs.Spreading.{spread_covers}

has_query : HasQuery staff_schema by_id_text by_id
unfolding tokens_in listed_at atom_at negation_in joined_from conjunction_at condition_at
has_query = (query_exactly staff_schema by_id_text by_id).1 refl

read_is : (reader : Reader staff_schema) → reader.read by_id_text ≡ Some by_id
read_is reader = (reader.exact by_id_text by_id).1 has_query

spread_direct : (read : Reads) → read by_id_text ≡ Some by_id → spread_of staff_schema read asking ≡ Some spread_out
spread_direct read e = rw e refl

-- where a value is declared for the statements behind it
spread_declaring : (schema : Schema) (read : Reads) (assigned : Names) (s : Statement) (p : Statements) (v : Expression) → value_declared schema read assigned s p ≡ Some v → spread_among schema read assigned None (Then s p) ≡ spread_among schema read assigned (Some v) p
spread_declaring schema read assigned s p v e = ap (λ (o : Option Expression). elim o as (λ _. Statements) [ Some value ↦ spread_among schema read assigned (Some value) p | None ↦ Then (spread_in schema read assigned None s) (spread_among schema read assigned None p) ]) e

selects_declaring : (schema : Schema) (read : Reads) (assigned : Names) (s : Statement) (p : Statements) (v : Expression) → value_declared schema read assigned s p ≡ Some v → selects_among schema read assigned None (Then s p) ≡ selects_among schema read assigned (Some v) p
selects_declaring schema read assigned s p v e = ap (λ (o : Option Expression). elim o as (λ _. ℕ) [ Some value ↦ selects_among schema read assigned (Some value) p | None ↦ selects_in schema read assigned None s + selects_among schema read assigned None p ]) e

module _ (read : Reads) (e : read by_id_text ≡ Some by_id) where
  value_there : value_declared staff_schema read [] declare_roles walk_roles ≡ Some asked
  value_there = rw e refl

  selects_there : selects_among staff_schema read [] None (Then declare_roles walk_roles) ≡ 1
  selects_there = selects_declaring staff_schema read [] declare_roles walk_roles asked value_there ∙ one_select
    where
      one_select : selects_among staff_schema read [] (Some asked) walk_roles ≡ 1
      one_select = rw e refl

  spread_there : spread_among staff_schema read [] None (Then declare_roles walk_roles) ≡ walk_out
  spread_there = spread_declaring staff_schema read [] declare_roles walk_roles asked value_there ∙ walked_out
    where
      walked_out : spread_among staff_schema read [] (Some asked) walk_roles ≡ walk_out
      walked_out = rw e refl

  spread_declared : spread_of staff_schema read declaring ≡ Some spread_out
  spread_declared =
      ap (λ (n : ℕ). if nat_eq n 0 then None else (let o : Option Statement = Some (each_user (spread_among staff_schema read [] None (Then declare_roles walk_roles))) in o)) selects_there
      ∙ ap (λ (p : Statements). let o : Option Statement = Some (each_user p) in o) spread_there

pub direct : (reader : Reader staff_schema) → spread_of staff_schema reader.read asking ≡ Some spread_out
direct reader = spread_direct reader.read (read_is reader)

pub declared : (reader : Reader staff_schema) → spread_of staff_schema reader.read declaring ≡ Some spread_out
declared reader = spread_declared reader.read (read_is reader)

module _ (reader : Reader staff_schema) (m : PlainMethod) where
  abbrev frame : Frame
  frame = frame_of staff_schema reader.read m

  abbrev with_user : Types
  with_user = with_type u (Some (Of (RowOf 0))) with_out

  abbrev with_role : Types
  with_role = with_type r (Some (Of (RowOf 1))) with_user

  abbrev type : QueryType
  type = record { params = tys.Long ∷ []; answer = Listed (RowOf 1) }

  asks : frame.asks by_id_text ≡ Some type
  asks = ap (type_of_found staff_schema) (read_is reader)

  asked_typed : HasType frame with_user asked (Listed (RowOf 1))
  asked_typed = query somewhere (tree.Table Role) by_id_text (tree.And (tree.Field somewhere (tree.Var somewhere u) (codes "roleId")) tree.NoMore) type asks (and (tree.Field somewhere (tree.Var somewhere u) (codes "roleId")) tree.NoMore tys.Long [] (field somewhere (tree.Var somewhere u) (codes "roleId") 0 2 _ (var somewhere u (Of (RowOf 0)) refl) refl refl) no_more)

  adding : TypedStatements frame (Some with_role) with_role add_label with_role
  adding = next (Some with_role) with_role with_role with_role (tree.Add somewhere out (tree.Field somewhere (tree.Var somewhere r) (codes "label"))) Nothing (add (Some with_role) with_role somewhere out (tree.Field somewhere (tree.Var somewhere r) (codes "label")) (Listed (ScalarOf tys.Text)) (ScalarOf tys.Text) refl (listed (ScalarOf tys.Text)) (field somewhere (tree.Var somewhere r) (codes "label") 1 1 _ (var somewhere r (Of (RowOf 1)) refl) refl refl)) (nothing (Some with_role) with_role)

  pub typed : TypedStatement frame None with_out asking with_out
  typed =
      for_each None with_out with_user somewhere (tree.Table User) u (tree.Fetch somewhere User) (Then (tree.ForEach somewhere (tree.Table Role) r asked add_label) Nothing) (Listed (RowOf 0)) (RowOf 0) refl (fetch somewhere User 0 refl) (listed (RowOf 0))
      (next (Some with_user) with_user with_user with_user (tree.ForEach somewhere (tree.Table Role) r asked add_label) Nothing (for_each (Some with_user) with_user with_role somewhere (tree.Table Role) r asked add_label (Listed (RowOf 1)) (RowOf 1) refl asked_typed (listed (RowOf 1)) adding) (nothing (Some with_user) with_user))

  pub covered : Covers frame None with_out with_out (Then asking Nothing) (Then spread_out Nothing)
  covered = spread_covers staff_schema reader m None with_out with_out asking spread_out typed (direct reader)

-- ---- Programs with the loop

asking_typed : (read : Reads) → read by_id_text ≡ Some by_id → IsWellTyped staff_schema read (labelling asking)
asking_typed read e = rw e refl

declaring_typed : (read : Reads) → read by_id_text ≡ Some by_id → IsWellTyped staff_schema read (labelling declaring)
declaring_typed read e = rw e refl

pub direct_program : (reader : Reader staff_schema) → IsWellTyped staff_schema reader.read (labelling asking) × NumbersFit (labelling asking)
direct_program reader = (asking_typed reader.read (read_is reader), refl)

pub declared_program : (reader : Reader staff_schema) → IsWellTyped staff_schema reader.read (labelling declaring) × NumbersFit (labelling declaring)
declared_program reader = (declaring_typed reader.read (read_is reader), refl)

pub after_program : (reader : Reader staff_schema) → IsWellTyped staff_schema reader.read (labelling spread_out) × NumbersFit (labelling spread_out)
after_program reader =
    let before = declared_program reader in
    (sound.typed staff_schema reader (labelling declaring) (0 ∷ 1 ∷ []) declaring spread_out before.0 refl (declared reader), sound.numbers staff_schema reader (labelling declaring) (0 ∷ 1 ∷ []) declaring spread_out before.1 refl (declared reader))

-- ---- Walks that are narrowed

pub narrowed_direct : narrowed_at staff_schema (0 ∷ 0 ∷ []) (program_of (walking users)) ≡ Some (program_of (walking users_asked))
unfolding digits
narrowed_direct = refl

pub narrowed_declared : narrowed_at staff_schema (0 ∷ 1 ∷ []) (program_of (declaring_users users)) ≡ Some (program_of (declaring_users users_asked))
unfolding digits
narrowed_declared = refl
