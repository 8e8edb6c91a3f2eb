-- Fragments that are found the same are equal, and each is found the same as itself.
use Rattle.std.proofs.Common.{◌≡◌, ◌↔◌, ℕ, Bool, true, false, ◌&&◌, IsTrue, List, [], ◌∷◌, nat_eq, refl, sym, ap, ◌∙◌, subst, eqb-true, eq-eqb}
use Rattle.std.specs.declared.option.Option.{Option}
use Rattle.std.specs.declared.option.Option.TheVariants.{Some, None}
use Rattle.qbs_base.specs.Columns.{same_ty}
use Rattle.qbs_base.specs.Scalar.{scalar_same}
use Rattle.qbs_base.specs.declared.scalar.Scalar.{Scalar}
use Rattle.qbs_base.specs.declared.scalar.Ty.{Ty}
use Rattle.qbs_base.specs.declared.scalar.Ty.TheVariants as tys
use Rattle.tor_terms.specs.declared.term.Atom.{Atom}
use Rattle.tor_terms.specs.declared.term.Atom.TheVariants as atoms
use Rattle.tor_terms.specs.declared.term.Elem.{Elem}
use Rattle.tor_terms.specs.declared.term.Elem.TheVariants.{Whole, Field}
use Rattle.tor_terms.specs.declared.term.Operand.{Operand}
use Rattle.tor_terms.specs.declared.term.Operand.TheVariants as operands
use Rattle.tor_terms.specs.declared.term.Way.{Way}
use Rattle.tor_terms.specs.declared.term.Way.TheVariants.{Max, Min}
use Rattle.tor_terms.specs.Plain.{Form, Is, Both, Either}
use Rattle.tor_terms.specs.Same.{same_elem, same_flag, same_form, same_forms, same_numbers, same_way}
use Rattle.tor_terms.specs.Truth.{same_operand}
use Rattle.tor_terms.proofs.Identical.{both, same_operand-true}
use Rattle.tor_terms.proofs.Scalars.{scalar_same-true, scalar_same-self}
use Rattle.kernel_lang.specs.declared.parts.Col.{Col}
use Rattle.kernel_lang.specs.declared.parts.ListDef.{ListDef}
use Rattle.kernel_lang.specs.declared.parts.Update.{Update}
use Rattle.kernel_lang.specs.declared.parts.Update.TheVariants as updates
use Rattle.kernel_lang.specs.Plain.{Accumulator, Fragment}
use Rattle.kernel_copies.specs.Same.{same_all, same_key, same_limit, same_list, same_atom, same_update, same_start, same_guard, same_frame, same_accumulator, same_types, same_fragment}

-- ---- what is found the same is equal

both_left : (a b : Bool) → (a && b) ≡ true → a ≡ true
both_left true b h = refl
both_left false b h = h

both_right : (a b : Bool) → (a && b) ≡ true → b ≡ true
both_right true b h = h
both_right false b h = cc

flag_equal : (s t : Bool) → same_flag s t ≡ true → s ≡ t
flag_equal true true h = refl
flag_equal false false h = refl
flag_equal true false h = cc
flag_equal false true h = cc

way_equal : (s t : Way) → same_way s t ≡ true → s ≡ t
way_equal Max Max h = refl
way_equal Min Min h = refl
way_equal Max Min h = cc
way_equal Min Max h = cc

element_equal : (d e : Elem) → same_elem d e ≡ true → d ≡ e
element_equal (Whole j) (Whole k) h = ap Whole (eqb-true j k h)
element_equal (Field j c) (Field k d) h = both Field (nat_eq j k) (nat_eq c d) h (eqb-true j k) (eqb-true c d)
element_equal _ _ h = cc

all_equal : {A : Type 0} (same : A → A → Bool) → ((x y : A) → same x y ≡ true → x ≡ y) → (xs ys : List A) → same_all same xs ys ≡ true → xs ≡ ys
all_equal same e [] [] h = refl
all_equal same e (x ∷ xs) (y ∷ ys) h = both (λ z zs. z ∷ zs) (same x y) (same_all same xs ys) h (e x y) (all_equal same e xs ys)
all_equal same e [] (y ∷ ys) h = cc
all_equal same e (x ∷ xs) [] h = cc

numbers_equal : (a b : List ℕ) → same_numbers a b ≡ true → a ≡ b
numbers_equal [] [] h = refl
numbers_equal (j ∷ a) (k ∷ b) h = both (λ x y. x ∷ y) (nat_eq j k) (same_numbers a b) h (eqb-true j k) (numbers_equal a b)
numbers_equal [] (k ∷ b) h = cc
numbers_equal (j ∷ a) [] h = cc

form_equal : (f g : Form) → same_form f g ≡ true → f ≡ g
form_equal (Is j s) (Is k t) h = both Is (nat_eq j k) (same_flag s t) h (eqb-true j k) (flag_equal s t)
form_equal (Both f g) (Both d e) h = both Both (same_form f d) (same_form g e) h (form_equal f d) (form_equal g e)
form_equal (Either f g) (Either d e) h = both Either (same_form f d) (same_form g e) h (form_equal f d) (form_equal g e)
form_equal _ _ h = cc

forms_equal : (fs gs : List Form) → same_forms fs gs ≡ true → fs ≡ gs
forms_equal [] [] h = refl
forms_equal (f ∷ fs) (g ∷ gs) h = both (λ x y. x ∷ y) (same_form f g) (same_forms fs gs) h (form_equal f g) (forms_equal fs gs)
forms_equal [] (g ∷ gs) h = cc
forms_equal (f ∷ fs) [] h = cc

type_equal : (x y : Ty) → same_ty x y ≡ true → x ≡ y
type_equal tys.Long tys.Long h = refl
type_equal tys.Bool tys.Bool h = refl
type_equal tys.Text tys.Text h = refl
type_equal _ _ h = cc

types_equal : (xs ys : List Ty) → same_types xs ys ≡ true → xs ≡ ys
types_equal [] [] h = refl
types_equal (x ∷ xs) (y ∷ ys) h = both (λ z zs. z ∷ zs) (same_ty x y) (same_types xs ys) h (type_equal x y) (types_equal xs ys)
types_equal [] (y ∷ ys) h = cc
types_equal (x ∷ xs) [] h = cc

abbrev key_made : ℕ → Bool → Col
key_made c d = record { column = c; down = d }

key_equal : (a b : Col) → same_key a b ≡ true → a ≡ b
key_equal a b h = both key_made (nat_eq a.column b.column) (same_flag a.down b.down) h (eqb-true a.column b.column) (flag_equal a.down b.down)

limit_equal : (a b : Option ℕ) → same_limit a b ≡ true → a ≡ b
limit_equal None None h = refl
limit_equal (Some m) (Some n) h = ap Some (eqb-true m n h)
limit_equal None (Some n) h = cc
limit_equal (Some m) None h = cc

abbrev list_made : ℕ → Option ℕ → List Col → ListDef
list_made t l ks = record { table = t; keys = ks; limit = l }

list_equal : (a b : ListDef) → same_list a b ≡ true → a ≡ b
list_equal a b h =
    let front : (nat_eq a.table b.table && same_limit a.limit b.limit) ≡ true = both_left _ _ h in
    let keys : a.keys ≡ b.keys = all_equal same_key key_equal a.keys b.keys (both_right (nat_eq a.table b.table && same_limit a.limit b.limit) _ h) in
    ap (list_made a.table a.limit) keys
    ∙ both (λ t l. list_made t l b.keys) (nat_eq a.table b.table) (same_limit a.limit b.limit) front (eqb-true a.table b.table) (limit_equal a.limit b.limit)

atom_equal : (a b : Atom) → same_atom a b ≡ true → a ≡ b
atom_equal (atoms.Less a b) (atoms.Less c d) h = both atoms.Less (same_operand a c) (same_operand b d) h (same_operand-true a c) (same_operand-true b d)
atom_equal (atoms.Same a b) (atoms.Same c d) h = both atoms.Same (same_operand a c) (same_operand b d) h (same_operand-true a c) (same_operand-true b d)
atom_equal (atoms.Truth a) (atoms.Truth b) h = ap atoms.Truth (same_operand-true a b h)
atom_equal (atoms.Member a m) (atoms.Member b n) h = both (λ k x. atoms.Member x k) (nat_eq m n) (same_operand a b) h (eqb-true m n) (same_operand-true a b)
atom_equal (atoms.Flag m a) (atoms.Flag n b) h = both atoms.Flag (nat_eq m n) (same_numbers a b) h (eqb-true m n) (numbers_equal a b)
atom_equal _ _ h = cc

update_equal : (a b : Update) → same_update a b ≡ true → a ≡ b
update_equal (updates.Push d) (updates.Push e) h = ap updates.Push (element_equal d e h)
update_equal (updates.PushNew d) (updates.PushNew e) h = ap updates.PushNew (element_equal d e h)
update_equal updates.Tick updates.Tick h = refl
update_equal (updates.Plus d) (updates.Plus e) h = ap updates.Plus (element_equal d e h)
update_equal (updates.Best v d) (updates.Best w e) h = both updates.Best (same_way v w) (same_elem d e) h (way_equal v w) (element_equal d e)
update_equal updates.Mark updates.Mark h = refl
update_equal _ _ h = cc

start_equal : (a b : Option Scalar) → same_start a b ≡ true → a ≡ b
start_equal None None h = refl
start_equal (Some x) (Some y) h = ap Some (scalar_same-true x y h)
start_equal None (Some y) h = cc
start_equal (Some x) None h = cc

guard_equal : (a b : Option Form) → same_guard a b ≡ true → a ≡ b
guard_equal None None h = refl
guard_equal (Some f) (Some g) h = ap Some (form_equal f g h)
guard_equal None (Some g) h = cc
guard_equal (Some f) None h = cc

abbrev acc_made : ℕ → Bool → Update → Option Scalar → List ℕ → List (Option Form) → List Form → Accumulator
acc_made base opposite update start chain guards pool = record { chain = chain; base = base; guards = guards; update = update; start = start; opposite = opposite; pool = pool }

acc_equal : (a b : Accumulator) → same_accumulator a b ≡ true → a ≡ b
acc_equal a b h =
    let frame : same_frame a b ≡ true = both_left _ _ (both_left _ _ h) in
    let guards : a.guards ≡ b.guards = all_equal same_guard guard_equal a.guards b.guards (both_right (same_frame a b) _ (both_left _ _ h)) in
    let pool : a.pool ≡ b.pool = forms_equal a.pool b.pool (both_right (same_frame a b && same_all same_guard a.guards b.guards) _ h) in
    let four = both_left _ _ frame in
    let chain : a.chain ≡ b.chain = numbers_equal a.chain b.chain (both_right (nat_eq a.base b.base && same_flag a.opposite b.opposite && same_update a.update b.update && same_start a.start b.start) _ frame) in
    let three = both_left _ _ four in
    let start : a.start ≡ b.start = start_equal a.start b.start (both_right (nat_eq a.base b.base && same_flag a.opposite b.opposite && same_update a.update b.update) _ four) in
    let two = both_left _ _ three in
    let update : a.update ≡ b.update = update_equal a.update b.update (both_right (nat_eq a.base b.base && same_flag a.opposite b.opposite) _ three) in
    ap (λ x. acc_made a.base a.opposite a.update a.start a.chain a.guards x) pool
    ∙ ap (λ x. acc_made a.base a.opposite a.update a.start a.chain x b.pool) guards
    ∙ ap (λ x. acc_made a.base a.opposite a.update a.start x b.guards b.pool) chain
    ∙ ap (λ x. acc_made a.base a.opposite a.update x b.chain b.guards b.pool) start
    ∙ ap (λ x. acc_made a.base a.opposite x b.start b.chain b.guards b.pool) update
    ∙ both (λ x y. acc_made x y b.update b.start b.chain b.guards b.pool) (nat_eq a.base b.base) (same_flag a.opposite b.opposite) two (eqb-true a.base b.base) (flag_equal a.opposite b.opposite)

abbrev made : ℕ → List Ty → List ListDef → List Atom → List Accumulator → Fragment
made known entries lists atoms accs = record { lists = lists; atoms = atoms; accs = accs; entries = entries; known = known }

pub fragments_equal : (f g : Fragment) → same_fragment f g ≡ true → f ≡ g
fragments_equal f g h =
    let accs : f.accs ≡ g.accs =
    all_equal same_accumulator acc_equal f.accs g.accs (both_right (nat_eq f.known g.known && same_types f.entries g.entries && same_all same_list f.lists g.lists && same_all same_atom f.atoms g.atoms) _ h) in
    let four = both_left _ _ h in
    let tests : f.atoms ≡ g.atoms = all_equal same_atom atom_equal f.atoms g.atoms (both_right (nat_eq f.known g.known && same_types f.entries g.entries && same_all same_list f.lists g.lists) _ four) in
    let three = both_left _ _ four in
    let lists : f.lists ≡ g.lists = all_equal same_list list_equal f.lists g.lists (both_right (nat_eq f.known g.known && same_types f.entries g.entries) _ three) in
    let two = both_left _ _ three in
    ap (made f.known f.entries f.lists f.atoms) accs
    ∙ ap (λ x. made f.known f.entries f.lists x g.accs) tests
    ∙ ap (λ x. made f.known f.entries x g.atoms g.accs) lists
    ∙ both (λ x y. made x y g.lists g.atoms g.accs) (nat_eq f.known g.known) (same_types f.entries g.entries) two (eqb-true f.known g.known) (types_equal f.entries g.entries)

-- ---- each is found the same as itself

both_true : (a b : Bool) → a ≡ true → b ≡ true → (a && b) ≡ true
both_true true b p q = q
both_true false b p q = cc

number_self : (n : ℕ) → nat_eq n n ≡ true
number_self n = eq-eqb n n refl

flag_self : (s : Bool) → same_flag s s ≡ true
flag_self true = refl
flag_self false = refl

way_self : (v : Way) → same_way v v ≡ true
way_self Max = refl
way_self Min = refl

element_self : (e : Elem) → same_elem e e ≡ true
element_self (Whole j) = number_self j
element_self (Field j c) = both_true _ _ (number_self j) (number_self c)

operand_self : (a : Operand) → same_operand a a ≡ true
operand_self (operands.Field j c) = both_true _ _ (number_self j) (number_self c)
operand_self (operands.Entry j) = number_self j
operand_self (operands.Lit x) = scalar_same-self x

all_self : {A : Type 0} (same : A → A → Bool) → ((x : A) → same x x ≡ true) → (xs : List A) → same_all same xs xs ≡ true
all_self same s [] = refl
all_self same s (x ∷ xs) = both_true (same x x) (same_all same xs xs) (s x) (all_self same s xs)

numbers_self : (ns : List ℕ) → same_numbers ns ns ≡ true
numbers_self [] = refl
numbers_self (n ∷ ns) = both_true (nat_eq n n) (same_numbers ns ns) (number_self n) (numbers_self ns)

form_self : (f : Form) → same_form f f ≡ true
form_self (Is j s) = both_true (nat_eq j j) (same_flag s s) (number_self j) (flag_self s)
form_self (Both f g) = both_true (same_form f f) (same_form g g) (form_self f) (form_self g)
form_self (Either f g) = both_true (same_form f f) (same_form g g) (form_self f) (form_self g)

forms_self : (fs : List Form) → same_forms fs fs ≡ true
forms_self [] = refl
forms_self (f ∷ fs) = both_true (same_form f f) (same_forms fs fs) (form_self f) (forms_self fs)

type_self : (x : Ty) → same_ty x x ≡ true
type_self tys.Long = refl
type_self tys.Bool = refl
type_self tys.Text = refl

types_self : (xs : List Ty) → same_types xs xs ≡ true
types_self [] = refl
types_self (x ∷ xs) = both_true (same_ty x x) (same_types xs xs) (type_self x) (types_self xs)

key_self : (a : Col) → same_key a a ≡ true
key_self a = both_true _ _ (number_self a.column) (flag_self a.down)

limit_self : (a : Option ℕ) → same_limit a a ≡ true
limit_self None = refl
limit_self (Some n) = number_self n

list_self : (a : ListDef) → same_list a a ≡ true
list_self a = both_true _ _ (both_true _ _ (number_self a.table) (limit_self a.limit)) (all_self same_key key_self a.keys)

atom_self : (a : Atom) → same_atom a a ≡ true
atom_self (atoms.Less a b) = both_true _ _ (operand_self a) (operand_self b)
atom_self (atoms.Same a b) = both_true _ _ (operand_self a) (operand_self b)
atom_self (atoms.Truth a) = operand_self a
atom_self (atoms.Member a m) = both_true _ _ (number_self m) (operand_self a)
atom_self (atoms.Flag m a) = both_true _ _ (number_self m) (numbers_self a)

update_self : (u : Update) → same_update u u ≡ true
update_self (updates.Push d) = element_self d
update_self (updates.PushNew d) = element_self d
update_self updates.Tick = refl
update_self (updates.Plus d) = element_self d
update_self (updates.Best v d) = both_true _ _ (way_self v) (element_self d)
update_self updates.Mark = refl

start_self : (a : Option Scalar) → same_start a a ≡ true
start_self None = refl
start_self (Some x) = scalar_same-self x

guard_self : (a : Option Form) → same_guard a a ≡ true
guard_self None = refl
guard_self (Some f) = form_self f

frame_self : (a : Accumulator) → same_frame a a ≡ true
frame_self a = both_true _ _ (both_true _ _ (both_true _ _ (both_true _ _ (number_self a.base) (flag_self a.opposite)) (update_self a.update)) (start_self a.start)) (numbers_self a.chain)

acc_self : (a : Accumulator) → same_accumulator a a ≡ true
acc_self a = both_true _ _ (both_true _ _ (frame_self a) (all_self same_guard guard_self a.guards)) (forms_self a.pool)

fragment_self : (f : Fragment) → same_fragment f f ≡ true
fragment_self f =
    both_true _ _ (both_true _ _ (both_true _ _ (both_true _ _ (number_self f.known) (types_self f.entries)) (all_self same_list list_self f.lists)) (all_self same_atom atom_self f.atoms)) (all_self same_accumulator acc_self f.accs)

pub same_of_equal : (f g : Fragment) → f ≡ g → same_fragment f g ≡ true
same_of_equal f g e = subst (λ (x : Fragment). same_fragment f x ≡ true) e (fragment_self f)

pub test_is_right : (f g : Fragment) (b : Bool) → b ≡ same_fragment f g → (IsTrue b ↔ (f ≡ g))
test_is_right f g b e = (λ t. fragments_equal f g (sym e ∙ t), λ same. e ∙ same_of_equal f g same)
