-- What a query is emitted from, and what it means.
use Rattle.std.specs.Prelude.{◌≡◌, ℕ, ◌+◌, ◌<◌, ◌^◌, false, List, [], ◌∷◌, map, length, slice_get}
use Rattle.std.specs.List.{AllByRecursion}
use Rattle.std.specs.Str.{IsUtf8}
use Rattle.std.specs.declared.option.Option.{Option}
use Rattle.std.specs.declared.option.Option.TheVariants.{Some, None}
use Rattle.qbs_base.specs.declared.scalar.Scalar.{Scalar}
use Rattle.qbs_base.specs.declared.scalar.Scalar.TheVariants as scalars
use Rattle.qbs_base.specs.declared.scalar.Ty.{Ty}
use Rattle.qbs_base.specs.declared.scalar.Value.{Value}
use Rattle.qbs_base.specs.declared.scalar.Value.TheVariants as values
use Rattle.qbs_base.specs.Values.{Schema, Database, IsDatabaseOf, AreOf}
use Rattle.tor_terms.specs.declared.term.Atom.{Atom}
use Rattle.tor_terms.specs.declared.term.Atom.TheVariants as atoms
use Rattle.tor_terms.specs.declared.term.Operand.{Operand}
use Rattle.tor_terms.specs.declared.term.Operand.TheVariants as operands
use Rattle.kernel_lang.specs.declared.parts.Entry.{Entry}
use Rattle.kernel_lang.specs.Plain.{Accumulator, Fragment}
use Rattle.kernel_lang.specs.Given.{world_given}
use Rattle.kernel_lang.specs.Pools.{Member, members}
use Rattle.kernel_lang.specs.Postcondition.{claimed}
use Rattle.kernel_lang.specs.Typed.{operand_type}
use Rattle.sql_ast.specs.declared.tree.SqlCol.{SqlCol}
use Rattle.sql_ast.specs.declared.tree.SqlItem.TheVariants as items
use Rattle.sql_ast.specs.Canonical.{canonical}
use Rattle.sql_ast.specs.Meaning.{Answered, Rows, One, number_answered, plain_row, query_answer}
use Rattle.sql_ast.specs.Tree.{Condition, Both, Either, Not, Compare, Bare, Exists, Within, Filter, Everything, Where, PlainListing, PlainQuery, Listing, Number, Truth}
use Rattle.sql_ast.specs.Typing.{ty_of_col}
use Rattle.sql_ast.specs.Utf8.{ScalarIsUtf8, LiteralsAreUtf8}
use Rattle.sql_ast.specs.Valid.{FitsScalar, IsQueryOf, params_in}
use Rattle.sql_parts.specs.Emitted.{item_col, query_of}
use Rattle.sql_parts.specs.Numbered.{Emission, in_order}
use Rattle.sql_parts.specs.Scopes.{ground}

-- an accumulator that stands outside all loops
pub record IsOutermost (f : Fragment) (acc : ℕ) : Type 0 where
  pub accumulator : Accumulator
  pub there : slice_get f.accs acc ≡ Some accumulator
  pub base : accumulator.base ≡ 0

-- a query of one column without a limit, and one entry for each of its parameters, of that type
pub record IsKnownQuery (schema : Schema) (types : List Ty) (q : PlainQuery) (args : List ℕ) : Type 0 where
  pub listing : PlainListing
  pub col : SqlCol
  pub is : q ≡ Listing listing
  pub valid : IsQueryOf schema q
  pub item : listing.item ≡ items.Column col
  pub whole : listing.limit ≡ None
  pub entries : map (slice_get types) args ≡ map Some listing.params

abbrev pub AreKnown : Schema → List Ty → List PlainQuery → List (List ℕ) → Type 0
AreKnown schema types [] [] = Unit {0}
AreKnown schema types (q ∷ qs) (args ∷ rest) = IsKnownQuery schema types q args × AreKnown schema types qs rest
AreKnown schema types _ _ = ⊥

abbrev pub known_type : Schema → Option PlainQuery → Option Ty
known_type schema (Some (Listing q)) = ty_of_col schema q.from (item_col q.item)
known_type schema _ = None

abbrev pub MemberFits : Schema → Fragment → List PlainQuery → Atom → Type 0
MemberFits schema f known (atoms.Member a q) = operand_type schema f a ≡ known_type schema (slice_get known q)
MemberFits schema f known _ = Unit {0}

-- the known queries of a fragment, of the types of what is tested against them
pub record AreKnownTo (schema : Schema) (f : Fragment) (known : List PlainQuery) (args : List (List ℕ)) : Type 0 where
  pub each : AreKnown schema f.entries known args
  pub count : length known ≡ f.known
  pub members : AllByRecursion (MemberFits schema f known) f.atoms

-- ---- What a query means

abbrev pub value_or : Option Scalar → Scalar
value_or None = scalars.Bool false
value_or (Some x) = x

-- the values of entries
abbrev pub values_at : List Scalar → List ℕ → List Scalar
values_at values entries = map (λ k. value_or (slice_get values k)) entries

-- the scalars, as the rows of a list of them
abbrev pub as_rows : List Scalar → Answered
as_rows xs = Rows (map (λ x. plain_row (Some x)) xs)

-- each known list is the answer of its query with its arguments
abbrev pub AreAnswers : Database → List Scalar → List PlainQuery → List (List ℕ) → List (List Scalar) → Type 0
AreAnswers db values [] [] [] = Unit {0}
AreAnswers db values (q ∷ qs) (args ∷ rest) (known ∷ lists) = (query_answer db (values_at values args) q ≡ as_rows known) × AreAnswers db values qs rest lists
AreAnswers db values _ _ _ = ⊥

-- a database of the schema, entry values of the fragment's types and the answers of the known queries
pub record IsGiven (schema : Schema) (f : Fragment) (known : List PlainQuery) (args : List (List ℕ)) (db : Database) (entry : Entry) : Type 0 where
  pub database : IsDatabaseOf schema db
  pub values : AreOf f.entries entry.values
  pub answers : AreAnswers db entry.values known args entry.known

-- what a query answers that has this value: a number is too large where it isn't in 64 bits
abbrev pub scalar_answered : Scalar → Answered
scalar_answered (scalars.Long n) = number_answered n
scalar_answered (scalars.Bool b) = One (scalars.Bool b)
scalar_answered (scalars.Text t) = One (scalars.Text t)

abbrev pub answered : Value → Answered
answered (values.One x) = scalar_answered x
answered (values.Whole r) = Rows (r ∷ [])
answered (values.Many rows) = Rows rows

-- the query's answer with the values of its entries is what the postcondition claims of the accumulator
abbrev pub SaysWhatIsClaimed : Schema → Fragment → List ℕ → List PlainQuery → List (List ℕ) → Member → Emission → Type 0
SaysWhatIsClaimed schema f cand known args m e =
    (db : Database) (entry : Entry) → IsGiven schema f known args db entry → query_answer db (values_at entry.values e.entries) e.query ≡ answered (claimed f (members f cand) (world_given f db entry) m)

-- of the accumulator of this number, with what the candidate chooses for it
abbrev pub AnswersWhatIsClaimed : Schema → Fragment → List ℕ → ℕ → List PlainQuery → List (List ℕ) → Emission → Type 0
AnswersWhatIsClaimed schema f cand acc known args e = (m : Member) → slice_get (members f cand) acc ≡ Some m → SaysWhatIsClaimed schema f cand known args m e

-- ---- The entries of a query's parameters

-- each is an entry of the fragment, and has the type of its parameter
pub record HasEntries (f : Fragment) (e : Emission) : Type 0 where
  pub there : AllByRecursion (λ k. k < length f.entries) e.entries
  pub types : map (slice_get f.entries) e.entries ≡ map Some (params_in e.query)

-- so it is for each accumulator, whatever is chosen for it
abbrev pub EntriesAreThere : Schema → Fragment → List PlainQuery → List (List ℕ) → Type 0
EntriesAreThere schema f known args = (cand : List ℕ) (m : Member) → HasEntries f (in_order f.entries (query_of (ground schema f cand known args) m))

-- ---- Text literals

abbrev pub LiteralIsUtf8 : Operand → Type 0
LiteralIsUtf8 (operands.Field j c) = Unit {0}
LiteralIsUtf8 (operands.Entry k) = Unit {0}
LiteralIsUtf8 (operands.Lit x) = ScalarIsUtf8 x

abbrev pub AtomIsUtf8 : Atom → Type 0
AtomIsUtf8 (atoms.Less a b) = LiteralIsUtf8 a × LiteralIsUtf8 b
AtomIsUtf8 (atoms.Same a b) = LiteralIsUtf8 a × LiteralIsUtf8 b
AtomIsUtf8 (atoms.Truth a) = LiteralIsUtf8 a
AtomIsUtf8 (atoms.Member a q) = LiteralIsUtf8 a
AtomIsUtf8 (atoms.Flag k loops) = Unit {0}

-- the text literals of a fragment's atoms and of its known queries are UTF-8
pub record TextsAreUtf8 (f : Fragment) (known : List PlainQuery) : Type 0 where
  pub own : AllByRecursion AtomIsUtf8 f.atoms
  pub of_known : AllByRecursion LiteralsAreUtf8 known

-- its literals are UTF-8, and where it is a query of the schema, its canonical text is
pub record QueryIsUtf8 (schema : Schema) (q : PlainQuery) : Type 0 where
  pub literals : LiteralsAreUtf8 q
  pub text : IsQueryOf schema q → IsUtf8 (canonical q)

-- so it is for each accumulator, whatever is chosen for it
abbrev pub QueriesAreUtf8 : Schema → Fragment → List PlainQuery → List (List ℕ) → Type 0
QueriesAreUtf8 schema f known args =
    (cand : List ℕ) (acc : ℕ) (m : Member) → slice_get (members f cand) acc ≡ Some m → QueryIsUtf8 schema (in_order f.entries (query_of (ground schema f cand known args) m)).query

-- ---- What code alone can hold: numbers of 64 bits, and FROM items that can be counted

abbrev pub OperandIsHeld : Operand → Type 0
OperandIsHeld (operands.Lit x) = FitsScalar x
OperandIsHeld _ = Unit {0}

abbrev pub AtomIsHeld : Atom → Type 0
AtomIsHeld (atoms.Less a b) = OperandIsHeld a × OperandIsHeld b
AtomIsHeld (atoms.Same a b) = OperandIsHeld a × OperandIsHeld b
AtomIsHeld _ = Unit {0}

abbrev pub StartIsHeld : Option Scalar → Type 0
StartIsHeld None = Unit {0}
StartIsHeld (Some x) = FitsScalar x

-- the numbers in a fragment are of 64 bits
pub record IsHeld (f : Fragment) : Type 0 where
  pub atoms_held : AllByRecursion AtomIsHeld f.atoms
  pub starts_held : AllByRecursion (λ a. StartIsHeld a.start) f.accs

-- with so many FROM items around, those of each inner SELECT can be counted
abbrev mutual
  pub AreCounted : ℕ → Condition → Type 0
  AreCounted n (Both a b) = AreCounted n a × AreCounted n b
  AreCounted n (Either a b) = AreCounted n a × AreCounted n b
  AreCounted n (Not a) = AreCounted n a
  AreCounted n (Compare cmp a b) = Unit {0}
  AreCounted n (Bare col) = Unit {0}
  AreCounted n (Exists from filter_) = (n + length from < 2 ^ 64) × FilterIsCounted (n + length from) filter_
  AreCounted n (Within a negated col from filter_) = (n + length from < 2 ^ 64) × FilterIsCounted (n + length from) filter_

  pub FilterIsCounted : ℕ → Filter → Type 0
  FilterIsCounted n Everything = Unit {0}
  FilterIsCounted n (Where a) = AreCounted n a

-- around a known query there are six FROM items at most
abbrev pub QueryIsCounted : PlainQuery → Type 0
QueryIsCounted (Listing q) = (6 + length q.from < 2 ^ 64) × FilterIsCounted (6 + length q.from) q.filter
QueryIsCounted (Number q) = Unit {0}
QueryIsCounted (Truth q) = Unit {0}
