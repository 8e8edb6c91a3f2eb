-- A class with its members, the ends of its statements and its blocks, and statements and names at the edges, found by hand.
use Rattle.std.specs.Prelude.{◌≡◌, ℕ, zero, suc, Bool, true, false, List, [], ◌∷◌, ◌++◌, length, map, codes}
use Rattle.std.specs.declared.option.Option.{Option}
use Rattle.std.specs.declared.option.Option.TheVariants.{Some, None}
use Rattle.view_items.specs.declared.item.Item.{Item}
use Rattle.view_items.specs.Items.{items_of}
use Rattle.view_items.specs.Brackets.{if_some, closings_of, rounds_of, stretch}
use Rattle.view_shapes.specs.declared.members.Stretch.{Stretch}
use Rattle.view_shapes.specs.Members.{class_of, members_of}
use Rattle.view_shapes.specs.Statements.{end_of}
use Rattle.view_shapes.specs.Blocks.{statements_of, blocks_of}
use Rattle.view_shapes.specs.Mentions.{may_be_set}
use Rattle.view_shapes.specs.Uses.{is_free}

abbrev pub Bytes : Type 0
Bytes = List ℕ

abbrev pub bytes_of : List Item → List Bytes
bytes_of items = map (λ i. i.bytes) items

-- the bytes of the items of stretches
abbrev pub texts : List Item → List Stretch → List (List Bytes)
texts items ss = map (λ s. bytes_of (stretch s.from s.to items)) ss

-- the bytes of the items of texts
abbrev pub items_in : List Bytes → List (List Bytes)
items_in ts = map (λ t. bytes_of (items_of t)) ts

abbrev pub members_in : List Item → List ℕ → Option (List (List Bytes))
members_in items closings = if_some (class_of items closings) (λ c. Some (texts items (members_of items closings c.from)))

-- the class of a source has these members
abbrev pub HasMembers : Bytes → List Bytes → Type 0
HasMembers source ts = if_some (closings_of (items_of source)) (members_in (items_of source)) ≡ Some (items_in ts)

abbrev pub statements_in : List Item → List ℕ → Option (List (List Bytes))
statements_in items closings = Some (texts items (statements_of items closings 0))

-- a text is these statements
abbrev pub HasStatements : Bytes → List Bytes → Type 0
HasStatements source ts = if_some (closings_of (items_of source)) (statements_in (items_of source)) ≡ Some (items_in ts)

abbrev pub blocks_in : List Item → List ℕ → Option (List (List Bytes))
blocks_in items closings = Some (texts items (blocks_of items closings (record { from = 0; to = length items })))

-- a text has these blocks, itself first
abbrev pub HasBlocks : Bytes → List Bytes → Type 0
HasBlocks source ts = if_some (closings_of (items_of source)) (blocks_in (items_of source)) ≡ Some (items_in ts)

abbrev pub freedom : Bytes → List Item → List ℕ → Option Bool
freedom name items closings = Some (is_free items closings (rounds_of items) name 0 (length items))

-- a name is free in a text, or it isn't
abbrev pub Frees : Bytes → Bytes → Bool → Type 0
Frees name source b = if_some (closings_of (items_of source)) (freedom name (items_of source)) ≡ Some b

abbrev pub Sets : Bytes → Bytes → Bool → Type 0
Sets name source b = may_be_set (items_of source) name 0 (length (items_of source)) ≡ b

-- where the first statement of a text ends
abbrev pub first_end : List Item → List ℕ → Option (Option ℕ)
first_end items closings = Some (end_of items closings 0)

abbrev pub EndsAt : Bytes → Option ℕ → Type 0
EndsAt source e = if_some (closings_of (items_of source)) (first_end (items_of source)) ≡ Some e

abbrev pub repeated : ℕ → Bytes → Bytes
repeated zero bs = []
repeated (suc n) bs = bs ++ repeated n bs

-- ---- a class

abbrev pub first_field : Bytes
first_field = codes "private static final Logger LOG = LoggerFactory.getLogger(UserDao.class);"

abbrev pub second_field : Bytes
second_field = codes "private Repo<UserAccount> users;"

abbrev pub guard : Bytes
guard = codes "if (roleId == null) { throw new IllegalArgumentException(\"roleId\"); }"

abbrev pub trim : Bytes
trim = codes "login = login.trim();"

abbrev pub declaration : Bytes
declaration = codes "final List<String> mails = new ArrayList<String>();"

abbrev pub skipping : Bytes
skipping = codes "if (!u.isEnabled()) { continue; }"

abbrev pub adding : Bytes
adding = codes "if (roleId.equals(u.getRoleId()) && u.getLogin().equals(login)) { mails.add(u.getEmail()); }"

abbrev pub loop : Bytes
loop = codes "for (UserAccount u : users.findAll()) { " ++ skipping ++ adding ++ codes " }"

abbrev pub logging : Bytes
logging = codes "LOG.debug(\"{} mails of {}\", mails.size(), roleId);"

abbrev pub returning : Bytes
returning = codes "return mails;"

abbrev pub mails_body : Bytes
mails_body = guard ++ trim ++ declaration ++ loop ++ logging ++ returning

abbrev pub mails : Bytes
mails = codes "@Transactional(readOnly = true) public List<String> mails(Long roleId, String login) { " ++ mails_body ++ codes " }"

abbrev pub counting : Bytes
counting = codes "if (u.getRoleId().equals(chief.getRoleId()) && u.getAge() < chief.getAge()) { younger++; }"

abbrev pub report_block : Bytes
report_block = codes "int younger = 0; for (UserAccount u : users.findAll()) { " ++ counting ++ codes " } LOG.info(\"{}: {} has {}\", title, chief, younger);"

abbrev pub report_body : Bytes
report_body = codes "for (UserAccount chief : users.findAll()) { " ++ report_block ++ codes " }"

abbrev pub report : Bytes
report = codes "public void report(String title) { " ++ report_body ++ codes " }"

abbrev pub user_dao : Bytes
user_dao = codes "@Repository\npublic class UserDao {\n\n" ++ first_field ++ second_field ++ mails ++ report ++ codes " }\n"

pub record WorkedClass : Type 0 where
  pub members : HasMembers user_dao (first_field ∷ second_field ∷ mails ∷ report ∷ [])
  pub statements : HasStatements mails_body (guard ∷ trim ∷ declaration ∷ loop ∷ logging ∷ returning ∷ [])
  pub blocks : HasBlocks mails_body (mails_body ∷ codes "throw new IllegalArgumentException(\"roleId\");" ∷ (skipping ++ adding) ∷ codes "continue;" ∷ codes "mails.add(u.getEmail());" ∷ [])
  pub inner_blocks : HasBlocks report_body (report_body ∷ report_block ∷ counting ∷ codes "younger++;" ∷ [])

-- ---- members and statements at the edges

-- behind `=` a closing brace ends no member, and braces of annotations are in parentheses
pub record WorkedMembers : Type 0 where
  pub valued : HasMembers (codes "class A { int[] a = {1, 2}; Runnable r = () -> { b(); }; void c() {} int d; }")
      (codes "int[] a = {1, 2};" ∷ codes "Runnable r = () -> { b(); };" ∷ codes "void c() {}" ∷ codes "int d;" ∷ [])
  pub annotated : HasMembers (codes "@X({\"a\", \"}\"}) class A { @X({\"{\"}) int a; static { b(); } }") (codes "@X({\"{\"}) int a;" ∷ codes "static { b(); }" ∷ [])
  pub generic : if_some (closings_of (items_of (codes "class A<T> { }"))) (members_in (items_of (codes "class A<T> { }"))) ≡ None

pub record WorkedStatements : Type 0 where
  pub nearest_if : HasStatements (codes "if (a) if (b) c(); else d(); e();") (codes "if (a) if (b) c(); else d();" ∷ codes "e();" ∷ [])
  pub chain : HasStatements (codes "if (a) { b(); } else if (c) d(); else { e(); } f();") (codes "if (a) { b(); } else if (c) d(); else { e(); }" ∷ codes "f();" ∷ [])
  pub lambda : HasStatements (codes "a(() -> { b(); c(); }); d();") (codes "a(() -> { b(); c(); });" ∷ codes "d();" ∷ [])
  pub repeating : HasStatements (codes "do a(); while (b); while (c) d();") (codes "do a(); while (b);" ∷ codes "while (c) d();" ∷ [])
  pub trying : HasStatements (codes "try (A a = b(); C c = d()) { e(); } catch (F f) { g(); } finally { h(); } i();") (codes "try (A a = b(); C c = d()) { e(); } catch (F f) { g(); } finally { h(); }" ∷ codes "i();" ∷ [])
  pub label : HasStatements (codes "a: for (;;) { break a; } b();") (codes "a: for (;;) { break a; }" ∷ codes "b();" ∷ [])
  pub local : HasStatements (codes "@A({1}) final class B { int c; } record D(int e) { } record(f);") (codes "@A({1}) final class B { int c; }" ∷ codes "record D(int e) { }" ∷ codes "record(f);" ∷ [])
  pub switches : HasStatements (codes "switch (a) { case 1: b(); default: c(); } int d = switch (e) { default -> 2; };") (codes "switch (a) { case 1: b(); default: c(); }" ∷ codes "int d = switch (e) { default -> 2; };" ∷ [])
  pub sixty_four : EndsAt (repeated 64 (codes "a:") ++ codes ";") (Some 129)
  pub sixty_five : EndsAt (repeated 65 (codes "a:") ++ codes ";") None

-- blocks of lambdas and classes, and behind arrows, are none
pub record WorkedBlocks : Type 0 where
  pub bodies : HasBlocks (codes "if (a) for (;;) { b(); } else { c(() -> { d(); }); }") (codes "if (a) for (;;) { b(); } else { c(() -> { d(); }); }" ∷ codes "b();" ∷ codes "c(() -> { d(); });" ∷ [])
  pub cases : HasBlocks (codes "switch (a) { case 1: { b(); } case 2: if (c) { d(); } }") (codes "switch (a) { case 1: { b(); } case 2: if (c) { d(); } }" ∷ codes "b();" ∷ [])
  pub arrows : HasBlocks (codes "switch (a) { case 1 -> { b(); } }") (codes "switch (a) { case 1 -> { b(); } }" ∷ [])
  pub clauses : HasBlocks (codes "try { a(); } catch (B b) { c(); } finally { d(); }") (codes "try { a(); } catch (B b) { c(); } finally { d(); }" ∷ codes "a();" ∷ codes "c();" ∷ codes "d();" ∷ [])
  pub types : HasBlocks (codes "class A { void b() { c(); } } new D() { void e() { f(); } };") (codes "class A { void b() { c(); } } new D() { void e() { f(); } };" ∷ [])

-- ---- names

pub record WorkedNames : Type 0 where
  pub second_declared : Frees (codes "MAX") (codes "int q = 0, MAX; (MAX) = 3;") false
  pub in_comparison : Frees (codes "MAX") (codes "if (n > MAX) n = MAX;") true
  pub behind_arguments : Frees (codes "MAX") (codes "if (a instanceof L<X> MAX) b();") false
  pub argument : Frees (codes "MAX") (codes "f(a, MAX);") true
  pub of_lambda : Frees (codes "MAX") (codes "f((a, MAX) -> a);") false
  pub of_for : Frees (codes "MAX") (codes "for (int a = 0, MAX; ; ) { }") false
  pub case : Frees (codes "MAX") (codes "switch (a) { case MAX: b(); }") true
  pub label : Frees (codes "MAX") (codes "; MAX: b();") false
  pub behind_dot : Frees (codes "MAX") (codes "int a = b.MAX;") true
  pub in_parentheses : Sets (codes "x") (codes "(x) = 3;") true
  pub counted : Sets (codes "x") (codes "--((x));") true
  pub compared : Sets (codes "x") (codes "a = x == 3;") false
  pub of_another : Sets (codes "x") (codes "a.x = 3;") false

pub record Worked : Type 0 where
  pub class : WorkedClass
  pub members : WorkedMembers
  pub statements : WorkedStatements
  pub blocks : WorkedBlocks
  pub names : WorkedNames
