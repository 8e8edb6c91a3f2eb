-- Methods, constants, fields that are kept, tests for null and guards, found by hand.
use Rattle.std.specs.Prelude.{◌≡◌, ℕ, Bool, true, false, List, [], ◌∷◌, ◌++◌, map, slice_get, codes}
use Rattle.std.specs.List.{flat_map}
use Rattle.std.specs.declared.option.Option.{Option}
use Rattle.std.specs.declared.option.Option.TheVariants.{Some, None}
use Rattle.view_items.specs.declared.item.Item.{Item}
use Rattle.view_items.specs.Items.{items_of}
use Rattle.view_items.specs.Brackets.{if_some, closings_of, rounds_of}
use Rattle.view_shapes.specs.declared.members.ClassPlace.{ClassPlace}
use Rattle.view_shapes.specs.Members.{class_of, members_of}
use Rattle.view_shapes.specs.Mentions.{mentions}
use Rattle.view_shapes.specs.Worked.{Bytes}
use Rattle.view_map.specs.declared.model.FetchPattern.{FetchPattern}
use Rattle.view_map.specs.declared.model.PatternItem.{PatternItem}
use Rattle.view_map.specs.declared.model.RowClass.{RowClass}
use Rattle.view_map.specs.declared.model.ScalarKind.TheVariants as kinds
use Rattle.view_map.specs.declared.model.ViewMap.{ViewMap}
use Rattle.view_map.specs.declared.model.QueryKind.TheVariants as queries
use Rattle.view_map.specs.Patterns.{pattern_items}
use Rattle.view_map.specs.Templates.{template_of}
use Rattle.view_rules.specs.declared.java_type.JavaType.{JavaType}
use Rattle.view_rules.specs.declared.java_type.JavaType.TheVariants as types
use Rattle.view_rules.specs.declared.sight.Sighted.{Sighted}
use Rattle.view_rules.specs.Setting.{Within}
use Rattle.view_shapes.specs.declared.method.Method.{Method}
use Rattle.view_scope.specs.Allowed.{is_free_in, is_no_field, is_kept, keeps_meaning, keeps_template}
use Rattle.view_scope.specs.Constants.{constants_of}
use Rattle.view_scope.specs.Guards.{is_guarded}
use Rattle.view_scope.specs.Methods.{method_of}
use Rattle.view_scope.specs.Nulls.{is_tested}
use Rattle.view_scope.specs.Obscured.{word_at, means_the_same, is_clear}
use Rattle.view_scope.specs.Outside.{is_in_sight_at, are_rows_known, body_of}
use Rattle.view_scope.specs.Patterns.{bytes_of, first_at}
use Rattle.view_scope.specs.Standing.{standing_of}

-- what is so of a source: of its items, the closing bracket and the round of each, and its class
abbrev pub in_class : {A : Type 0} → Bytes → (List Item → List ℕ → List ℕ → ClassPlace → Option A) → Option A
in_class source f =
    if_some (closings_of (items_of source)) (λ closings.
    if_some (class_of (items_of source) closings) (f (items_of source) closings (rounds_of (items_of source))))

-- and of its member with a number, which is a method
abbrev pub in_method : {A : Type 0} → Bytes → ℕ → (List Item → List ℕ → List ℕ → Method → Option A) → Option A
in_method source n f =
    in_class source (λ items closings rounds class.
    if_some (slice_get (members_of items closings class.from) n) (λ member. if_some (method_of items closings member) (f items closings rounds)))

-- a class with two methods, and one with a method that tests one of its parameters
abbrev pub two_methods : Bytes
two_methods = codes "class A { void f(int a) { } int g() { } }"

abbrev pub tested_dao : Bytes
tested_dao = codes "class A { void f(Long roleId, String login) { if (roleId == null) throw e; login = login.trim(); go(); } }"

-- ---- Methods and constants

-- the names of a method and its parameters
abbrev pub names_of : List Item → Option Method → List Bytes
names_of items None = []
names_of items (Some m) = word_at items m.name ∷ map (λ p. word_at items p.name) m.parameters

abbrev pub all_names : List Item → List ℕ → List ℕ → ClassPlace → Option (List Bytes)
all_names items closings rounds class = Some (flat_map (λ s. names_of items (method_of items closings s)) (members_of items closings class.from))

abbrev pub HasMethods : Bytes → List Bytes → Type 0
HasMethods source names = in_class source all_names ≡ Some names

abbrev pub constant_names : List Item → List ℕ → List ℕ → ClassPlace → Option (List Bytes)
constant_names items closings rounds class = Some (flat_map (λ c. c.name ∷ c.value.bytes ∷ []) (constants_of items closings class))

-- constants, each with its literal
abbrev pub HasConstants : Bytes → List Bytes → Type 0
HasConstants source cs = in_class source constant_names ≡ Some cs

abbrev pub Frees : Bytes → Bytes → Bool → Type 0
Frees name source b = in_method source 0 (λ items closings rounds m. Some (is_free_in items closings rounds m name)) ≡ Some b

abbrev pub kept : Bytes → List Item → List ℕ → List ℕ → ClassPlace → Option Bool
kept field items closings rounds class = Some (is_kept items closings class (members_of items closings class.from) field)

abbrev pub Keeps : Bytes → Bytes → Bool → Type 0
Keeps field source b = in_class source (kept field) ≡ Some b

pub record WorkedMembers : Type 0 where
  pub methods : HasMethods two_methods (codes "f" ∷ codes "a" ∷ codes "g" ∷ [])
  pub of_list : HasMethods (codes "class A { List<Long> f() { } }") (codes "f" ∷ [])
  pub no_constants : HasConstants two_methods []
  pub any_number : HasMethods (codes "class A { void f(int n, final long... ids) { } }") (codes "f" ∷ codes "n" ∷ codes "ids" ∷ [])
  pub constant : HasConstants (codes "class A { private static final int MAX = 5; static final long MIN = -3L; static int n = 1; final int m = 2; static final int S = MAX + 1; }")
      (codes "MAX" ∷ codes "5" ∷ codes "MIN" ∷ codes "3L" ∷ [])
  pub declared_anew : Frees (codes "MAX") (codes "class A { void f() { int q = 0, MAX; (MAX) = 3; } }") false
  pub compared : Frees (codes "MAX") (codes "class A { void f(int q) { if (q > MAX) g(); } }") true
  pub of_parameter : Frees (codes "MAX") (codes "class A { void f(int MAX) { } }") false
  pub by_setter : Keeps (codes "users") (codes "class A { Repo users; A(Repo users) { this.users = users; } void setUsers(Repo u) { this.users = u; } }") true
  pub by_another : Keeps (codes "users") (codes "class A { Repo users; void setUp() { users = Repo.none(); } }") false
  pub by_setter_that_does_more : Keeps (codes "users") (codes "class A { Repo users; void setUsers(Repo u) { this.users = u; log(); } }") false

-- ---- Tests for null and guards

-- in the first member, a method, a variable is tested
abbrev pub Tests : Bytes → ℕ → Bytes → Bool → Type 0
Tests source n name b = in_method source n (λ items closings rounds m. Some (is_tested items closings rounds m.from m.to name)) ≡ Some b

-- the first parameter is guarded where a word stands first in the method
abbrev pub guarded_at : List Item → List ℕ → List ℕ → Method → Bytes → Option Bool
guarded_at items closings rounds m word =
    if_some (slice_get (mentions items word m.from m.to) 0) (λ place. if_some (slice_get m.parameters 0) (λ p.
    Some (is_guarded items closings rounds (body_of m) place (word_at items p.name) p.name)))

abbrev pub Guards : Bytes → ℕ → Bytes → Bool → Type 0
Guards source n word b = in_method source n (λ items closings rounds m. guarded_at items closings rounds m word) ≡ Some b

-- a method with a parameter r and this body
abbrev pub of_body : Bytes → Bytes
of_body body = codes "class A { void f(Row r) { " ++ body ++ codes " } }"

pub record WorkedGuards : Type 0 where
  pub tested : Tests tested_dao 0 (codes "roleId") true
  pub other : Tests tested_dao 0 (codes "login") false
  pub guarded : Guards tested_dao 0 (codes "go") true
  pub by_equals : Tests (of_body (codes "if (Objects.equals(r, null)) g();")) 0 (codes "r") true
  pub by_class : Tests (of_body (codes "if ((r) instanceof Named) g();")) 0 (codes "r") true
  pub where_set : Tests (of_body (codes "while ((r = it.next()) == null) g();")) 0 (codes "r") true
  pub beside_another : Tests (of_body (codes "if (r == null && x.y > 3) g();")) 0 (codes "x") false
  pub member : Tests (of_body (codes "if (isEmpty(r.name())) g(r);")) 0 (codes "r") false
  pub in_parentheses : Tests (of_body (codes "if (Objects.isNull((r))) g();")) 0 (codes "r") true
  pub behind_a_cast : Tests (of_body (codes "g(ofNullable((Object) (r)));")) 0 (codes "r") true
  pub another_argument : Tests (of_body (codes "g(defaultString(x, r));")) 0 (codes "r") false
  pub text_or_null : Tests (of_body (codes "g(Objects.toString((r), x));")) 0 (codes "r") true
  pub text : Tests (of_body (codes "g(Objects.toString(r));")) 0 (codes "r") false
  pub behind_type_arguments : Tests (of_body (codes "if ((r).<A, List<?>>conv() == null) g();")) 0 (codes "r") true
  pub by_what_it_gives : Tests (of_body (codes "if (r.name() == null) g();")) 0 (codes "r") false
  pub by_case : Tests (of_body (codes "switch (r) { case null -> g(); }")) 0 (codes "r") true
  pub given_by_choice : Tests (of_body (codes "x = c ? r : null;")) 0 (codes "x") true
  pub given_by_call : Tests (of_body (codes "r = o.orElse(null);")) 0 (codes "r") true
  pub given_to_both : Tests (of_body (codes "x = r = null;")) 0 (codes "x") true
  pub compared_there : Tests (of_body (codes "x = y == null ? 0L : y;")) 0 (codes "x") false
  pub before_given : Tests (of_body (codes "r = g(); x = null;")) 0 (codes "r") false
  pub given_in_switch : Tests (of_body (codes "Long x = switch (k) { case 1 -> r; default -> null; };")) 0 (codes "x") true
  pub given_in_array : Tests (of_body (codes "Long x = first(new Long[] { r, null });")) 0 (codes "x") true
  pub given_in_lambda : Tests (of_body (codes "Long x = o.orElseGet(() -> { return null; });")) 0 (codes "x") true
  pub before_given_in_switch : Tests (of_body (codes "x = g(); y = switch (k) { default -> null; };")) 0 (codes "x") false
  pub before_given_in_block : Tests (of_body (codes "if ((x = g()) > 3) { y = null; }")) 0 (codes "x") false
  pub set_in_lambda : Tests (of_body (codes "x = () -> { y = null; z(); };")) 0 (codes "y") true
  pub in_any : Tests (of_body (codes "if (isAnyBlank(x, r)) g();")) 0 (codes "r") true
  pub in_all_by_member : Tests (of_body (codes "if (allNotNull(x, r.name())) g();")) 0 (codes "r") false
  pub in_first : Tests (of_body (codes "x = firstNonBlank(y, r);")) 0 (codes "r") true
  pub or_other : Tests (of_body (codes "x = defaultIfBlank(r, y);")) 0 (codes "r") true
  pub by_or : Guards (of_body (codes "if (r == null || x > 3) return; go();")) 0 (codes "go") true
  pub by_and : Guards (of_body (codes "if (r == null && x > 3) return; go();")) 0 (codes "go") false
  pub inside : Guards (of_body (codes "if (x > 3 && null != r) { go(); }")) 0 (codes "go") true
  pub inside_or : Guards (of_body (codes "if (x > 3 || null != r) { go(); }")) 0 (codes "go") false
  pub behind_else : Guards (of_body (codes "if (r == null) g(); else { go(); }")) 0 (codes "go") true
  pub with_else : Guards (of_body (codes "if (r == null) return; else g(); go();")) 0 (codes "go") false
  pub nested : Guards (of_body (codes "if (x > 3) { if (r == null) return; } go();")) 0 (codes "go") false
  pub where_set_elsewhere : Guards (of_body (codes "if (r == null) return; r = g(); go();")) 0 (codes "go") false

-- ---- What is in sight, and what is hidden

abbrev pub user_class : RowClass
user_class = record { class = codes "User"; within = None; table = 0; by_value = false; members = [] }

abbrev pub user_map : ViewMap
user_map = record { classes = user_class ∷ []; fetches = []; constants = []; templates = []; texts_binary = false }

-- with the pattern `users.all()` for its rows
abbrev pub fetching_map : ViewMap
fetching_map =
    record {
      classes = user_class ∷ [];
      fetches = record { table = 0; within = None; items = pattern_items (items_of (codes "users.all()")) } ∷ [];
      constants = [];
      templates = [];
      texts_binary = false;
    }

abbrev pub user_setting : List Item → Within
user_setting items =
    record {
      map = fetching_map;
      tables = [];
      items = items;
      classes = 0 ∷ [];
      fetches = 0 ∷ [];
      templates = [];
      map_constants = [];
      constants = [];
      params = [];
      tested = [];
      clear = [];
      gets = false;
    }

-- a row of the class is in sight where a word stands first, by the first mention of its name
abbrev pub seen_at : List Item → List ℕ → List ℕ → Method → Option Bool
seen_at items closings rounds m =
    if_some (slice_get (mentions items (codes "go") m.from m.to) 0) (λ place. if_some (slice_get (mentions items (codes "u") m.from m.to) 0) (λ at.
    Some (is_in_sight_at (user_setting items) closings m place (types.Row 0) at)))

-- all rows in sight where a word stands first are among these variables
abbrev pub known_at : List Sighted → List Item → List ℕ → List ℕ → Method → Option Bool
known_at vs items closings rounds m =
    if_some (slice_get (mentions items (codes "go") m.from m.to) 0) (λ place.
    Some (are_rows_known (user_setting items) closings (standing_of items closings (body_of m)) m place vs))

abbrev pub KnowsRows : Bytes → List Sighted → Bool → Type 0
KnowsRows source vs b = in_method source 0 (known_at vs) ≡ Some b

abbrev pub user_variable : Bytes → JavaType → Sighted
user_variable name java = record { name = name; java = java; outside = true; column = None }

abbrev pub Sees : Bytes → Bool → Type 0
Sees source b = in_method source 0 seen_at ≡ Some b

-- a map with the constant A.LEAST
abbrev pub constant_map : ViewMap
constant_map =
    record {
      classes = [];
      fetches = [];
      constants =
          record { kind = kinds.Int; names = codes "A" ∷ codes "LEAST" ∷ []; value = record { kind = kinds.Int; negative = false; bytes = codes "1" } }
          ∷ [];
      templates = [];
      texts_binary = false;
    }

abbrev pub same : ViewMap → List Item → List ℕ → List ℕ → ClassPlace → Option Bool
same map items closings rounds class = Some (means_the_same map items (word_at items class.name))

abbrev pub MeansTheSame : ViewMap → Bytes → Bool → Type 0
MeansTheSame map source b = in_class source (same map) ≡ Some b

pub record WorkedSight : Type 0 where
  pub of_for : Sees (codes "class A { void f() { for (User u : xs) { go(); } } }") true
  pub behind_for : Sees (codes "class A { void f() { for (User u : xs) { g(); } go(); } }") false
  pub of_block : Sees (codes "class A { void f() { final User u = g(); if (b) { go(); } } }") true
  pub of_inner_block : Sees (codes "class A { void f() { if (b) { User u = g(); } go(); } }") false
  pub of_fetch : Sees (codes "class A { void f() { for (final var u : users.all()) { go(); } } }") true
  pub of_list : Sees (codes "class A { void f() { for (var u : us) { go(); } } }") false
  pub of_more_than_fetch : Sees (codes "class A { void f() { for (var u : users.all().some()) { go(); } } }") false
  pub plain : MeansTheSame user_map (codes "import java.util.List; class A { static class Row { } }") true
  pub nested : MeansTheSame user_map (codes "class A { static class User { } }") false
  pub of_java : MeansTheSame user_map (codes "class A { enum Math { B } }") false
  pub imported : MeansTheSame user_map (codes "import java.awt.List; class A { }") false
  pub itself : MeansTheSame constant_map (codes "class A { }") true
  pub nested_first : MeansTheSame constant_map (codes "class B { class A { } }") false
  pub imported_class : MeansTheSame user_map (codes "import app.User; class A { }") true
  pub imported_field : MeansTheSame user_map (codes "import static app.Base.User; class A { }") false
  pub imported_first : MeansTheSame constant_map (codes "import static app.Base.A; class B { }") false

-- ---- What patterns begin with

abbrev pub first_name : List PatternItem → Bytes
first_name is = bytes_of (slice_get is (first_at is))

abbrev pub BeginsWith : Bytes → Bytes → Type 0
BeginsWith pattern name = first_name (pattern_items (items_of pattern)) ≡ name

pub record WorkedFronts : Type 0 where
  pub of_field : BeginsWith (codes "this.users.findAll()") (codes "users")
  pub of_method : BeginsWith (codes "session().createQuery(query).list()") (codes "session")
  pub of_cast : BeginsWith (codes "(List<User>) store.all()") (codes "store")
  pub of_new : BeginsWith (codes "new Repo(store).all()") (codes "Repo")

-- ---- Fetch patterns

abbrev pub fetch_of : Bytes → Option Bytes → FetchPattern
fetch_of pattern within = record { table = 0; within = within; items = pattern_items (items_of pattern) }

-- a pattern, said of all classes or of one, means in a class what the map says
abbrev pub meant : Bytes → Option Bytes → List Item → List ℕ → List ℕ → ClassPlace → Option Bool
meant pattern within items closings rounds class =
    Some (keeps_meaning user_map items closings rounds class (members_of items closings class.from) (fetch_of pattern within))

abbrev pub Means : Bytes → Option Bytes → Bytes → Bool → Type 0
Means pattern within source b = in_class source (meant pattern within) ≡ Some b

pub record WorkedFetches : Type 0 where
  pub of_a_field : Means (codes "users.all()") None (codes "class A { Repo users; }") true
  pub of_a_set_field : Means (codes "users.all()") None (codes "class A { Repo users; void f() { users = g(); } }") false
  pub with_a_set_field : Means (codes "users.all(by)") None (codes "class A { Repo users; By by; void f() { by = g(); } }") false
  pub of_own_method : Means (codes "all()") None (codes "class A { List<U> all() { } }") false
  pub said_here : Means (codes "all()") (Some (codes "A")) (codes "class A { List<U> all() { } }") true
  pub of_a_class : Means (codes "Users.all()") None (codes "class A { }") true
  pub of_a_hidden_class : Means (codes "Users.all()") None (codes "class A { void f(Repo Users) { } }") false
  pub of_parentheses : Means (codes "(users).all()") None (codes "class A { Repo users; }") false
  pub of_own_class : Means (codes "A.users.all()") None (codes "class A { static Repo users; }") true
  pub of_own_class_where_set : Means (codes "A.users.all()") None (codes "class A { static Repo users; void f() { users = g(); } }") false
  pub of_own_class_by_method : Means (codes "A.all()") None (codes "class A { static List<U> all() { } }") false
  pub with_a_literal : Means (codes "users.all(User.class)") None (codes "class A { Repo users; void f(int User) { } }") true
  pub with_a_class : Means (codes "users.all(User.kind())") None (codes "class A { Repo users; List<User> f(User u) { } }") true
  pub with_a_hidden_class : Means (codes "users.all(User.kind())") None (codes "class A { Repo users; Kinds User; }") false

-- ---- Templates

abbrev pub template_kept : Bytes → List Item → List ℕ → List ℕ → ClassPlace → Option Bool
template_kept template items closings rounds class =
    Some (keeps_template user_map items closings rounds class (members_of items closings class.from) (template_of queries.Long (items_of template)))

abbrev pub KeepsTemplate : Bytes → Bytes → Bool → Type 0
KeepsTemplate template source b = in_class source (template_kept template) ≡ Some b

pub record WorkedTemplates : Type 0 where
  pub of_a_method : KeepsTemplate (codes "count($sql {, $arg})") (codes "class A { }") true
  pub of_own_method : KeepsTemplate (codes "count($sql {, $arg})") (codes "class A { long count(String s) { } }") false
  pub of_a_field : KeepsTemplate (codes "base.count($sql {, $arg})") (codes "class A { Base base; long count(String s) { } }") true
  pub of_a_set_field : KeepsTemplate (codes "base.count($sql {, $arg})") (codes "class A { Base base; void f() { base = g(); } }") false
  pub of_a_class : KeepsTemplate (codes "Base.count($sql {, $arg})") (codes "class A { Base base; }") true
  pub of_a_hidden_class : KeepsTemplate (codes "Base.count($sql {, $arg})") (codes "class A { Odd Base; }") false
  pub with_a_hidden_class : KeepsTemplate (codes "base.count($sql {, User.of($arg)})") (codes "class A { Base base; Odd User; }") false

-- ---- Names of variables

abbrev pub Clears : Bytes → Bytes → Bool → Type 0
Clears name source b = is_clear (items_of source) name ≡ b

-- no field has the first of the names of a constant
abbrev pub unhidden : List Bytes → List Item → List ℕ → List ℕ → ClassPlace → Option Bool
unhidden names items closings rounds class = Some (is_no_field items closings rounds names)

abbrev pub Unhidden : List Bytes → Bytes → Bool → Type 0
Unhidden names source b = in_class source (unhidden names) ≡ Some b

pub record WorkedNames : Type 0 where
  pub imported : Clears (codes "Objects") (codes "import java.util.Objects; class A { boolean f() { return b > Objects.hash(a); } }") true
  pub types : Clears (codes "User") (codes "List<User> us = new User[3]; f(User.class, User::getId); for (User u : us) { }") true
  pub before_and : Clears (codes "Objects") (codes "if (o instanceof Odd Objects && b) g();") false
  pub before_question : Clears (codes "Objects") (codes "n = o instanceof Odd Objects ? 1 : 2;") false
  pub before_when : Clears (codes "Objects") (codes "switch (o) { case Odd Objects when b -> g(); }") false
  pub in_record : Clears (codes "Objects") (codes "if (o instanceof Point(int Objects, int y)) g();") false
  pub caught : Clears (codes "Objects") (codes "try { g(); } catch (Odd Objects) { }") false
  pub of_lambda : Clears (codes "Objects") (codes "g(Objects -> 1);") false
  pub of_array : Clears (codes "Objects") (codes "int n, Objects[] = g();") false
  pub lone_constant : Unhidden (codes "MAX" ∷ []) (codes "import static app.Codes.MAX; class A { boolean f(int n) { return n > MAX; } }") true
  pub hidden_lone_constant : Unhidden (codes "MAX" ∷ []) (codes "class A { static int MAX = g(); boolean f(int n) { return n > MAX; } }") false
  pub constant : Unhidden (codes "B" ∷ codes "MAX" ∷ []) (codes "class A { boolean f(int n) { return n > B.MAX; } }") true
  pub hidden_constant : Unhidden (codes "B" ∷ codes "MAX" ∷ []) (codes "class A { Odd B; boolean f(int n) { return n > B.MAX; } }") false

-- ---- Rows in sight

pub record WorkedRows : Type 0 where
  pub of_nothing : KnowsRows (codes "class A { void f(int n) { go(); } }") ([]) true
  pub of_parameter : KnowsRows (codes "class A { void f(User u) { go(); } }") ([]) false
  pub of_known_parameter : KnowsRows (codes "class A { void f(User u) { go(); } }") (user_variable (codes "u") (types.Row 0) ∷ []) true
  pub of_another_type : KnowsRows (codes "class A { void f(User u) { go(); } }") (user_variable (codes "u") (types.Rows 0) ∷ []) false
  pub of_statement : KnowsRows (codes "class A { void f() { List<User> us = g(); if (b) { go(); } } }") ([]) false
  pub of_known_statement : KnowsRows (codes "class A { void f() { List<User> us = g(); if (b) { go(); } } }") (user_variable (codes "us") (types.Rows 0) ∷ []) true
  pub of_ended_block : KnowsRows (codes "class A { void f() { if (b) { User u = g(); } go(); } }") ([]) true
  pub of_head : KnowsRows (codes "class A { void f() { for (User u : us) { go(); } } }") ([]) false
  pub behind_head : KnowsRows (codes "class A { void f() { for (User u : us) { g(); } go(); } }") ([]) true
  pub of_call : KnowsRows (codes "class A { void f() { User.all(); go(); } }") ([]) true

pub record Worked : Type 0 where
  pub members : WorkedMembers
  pub guards : WorkedGuards
  pub sight : WorkedSight
  pub fronts : WorkedFronts
  pub fetches : WorkedFetches
  pub templates : WorkedTemplates
  pub names : WorkedNames
  pub rows : WorkedRows
