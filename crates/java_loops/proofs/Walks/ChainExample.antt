-- The worked loop has the chains of its fragment.
use Rattle.std.proofs.Common.{arith, zero, suc, ◌≡◌, ℕ, pos, Bool, true, false, cond, List, [], ◌∷◌, Option, Some, None, refl, sym, ap, ◌∙◌, subst}
use Rattle.std.specs.Prelude.{bytes_eq, codes, nat_eq, slice_get, get_or}
use Rattle.std.specs.List.{AllByRecursion}
use Rattle.std.proofs.lemmas.Bool.Decides.{nat_tests}
use Rattle.qbs_base.specs.Named.{at_name}
use Rattle.qbs_base.specs.Values.{IsRowOf, IsDatabaseOf}
use Rattle.qbs_base.specs.declared.scalar.Scalar.TheVariants as scalars
use Rattle.qbs_base.specs.declared.scalar.Ty.{Ty}
use Rattle.qbs_base.specs.declared.scalar.Ty.TheVariants as tys
use Rattle.qbs_base.specs.Columns.{columns_at, table_number}
use Rattle.java_ast.specs.Tree as tree
use Rattle.java_ast.specs.Tree.{Expression, Statement, Statements, Nothing, Then}
use Rattle.sql_ast.specs.Worked.{staff_schema}
use Rattle.java_mean.specs.Worked.{somewhere, staff, User, Role, block, field, u, out, long}
use Rattle.java_mean.proofs.Puts.{names_equal}
use Rattle.tor_terms.specs.declared.term.Elem.TheVariants as elems
use Rattle.tor_terms.specs.declared.term.Operand.TheVariants as operands
use Rattle.tor_terms.specs.declared.term.Way.TheVariants as ways
use Rattle.tor_terms.specs.Plain.{Form, Is, Both, Either}
use Rattle.tor_terms.specs.Truth.{has_loop}
use Rattle.tor_terms.specs.Value.{only_number}
use Rattle.kernel_lang.specs.declared.parts.Update.{Update}
use Rattle.kernel_lang.specs.declared.parts.Update.TheVariants as updates
use Rattle.kernel_lang.specs.declared.parts.ListDef.{ListDef}
use Rattle.qbs_base.specs.Tables.{rows_of}
use Rattle.kernel_lang.specs.Given.{list_at}
use Rattle.kernel_lang.specs.Running.{layer, layers_of}
use Rattle.kernel_lang.specs.Plain.{Accumulator}
use Rattle.kernel_lang.specs.Worked.{all_of}
use Rattle.tor_terms.specs.declared.term.Atom.TheVariants as atoms
use Rattle.java_ast.specs.declared.tree.Op.TheVariants as ops
use Rattle.kernel_lang.specs.Validity.{broken, parts_broken, accumulator_broken, is_small, atoms_are_there, tests_have_fields, flags_are_flags, limits_are_valid, chain_is_valid, accumulator_is_there, base_is_valid, reads_its_chain, flag_is_quiet, reads_flags_in_place, starts_rightly, suits_the_lists, conditions_are_few}
use Rattle.java_loops.specs.Walks.Carried.{IsLong}
use Rattle.java_loops.specs.Walks.Effects.{sets}
use Rattle.java_loops.specs.Walks.ChainExample.{names_kept, oldest_kept, counted, r, roles, ids, limit, oldest, count, without, var, has_role, is_kept, is_older, is_grown, flagging, branches, counting, loop, numbers, flag as flag_acc, fragment, WorkedChains, store, given, WorkedRuns}
use Rattle.java_loops.specs.Walks.ChainLaws.{IsAccumulator, outer, inner, no_more}
use Rattle.java_loops.specs.Walks.ChainStarts.{whole_list, Begins, IsMade, StandsForCondition, StandsForStatement}
use Rattle.java_loops.specs.Walks.Matched.{entry_value, HoldsScalar, HoldsRows, HoldsScalars}
use Rattle.java_loops.specs.Walks.Chains as chains
use Rattle.java_loops.specs.Walks.Chains.{By, Takes, joined, IsFlag, IsChain, AreChain, Settles}
use Rattle.java_loops.specs.Walks.Forms as forms
use Rattle.java_loops.specs.Walks.Forms.{IsOperand, IsForm}
use Rattle.java_loops.specs.Walks.Numbering.{Source, FromTable, FromVariable, Numbering, Starts, Reads, Flags, no_flags, with_flag, with_loop, IsApart, IsNewLoop}

-- ---- Names that have no number

no_entry : (a : List ℕ) → bytes_eq limit a ≡ false → (f : Option (List ℕ)) → numbers.entries a f ≡ None
no_entry a e None = ap (λ p. cond p (Some 0) None) e
no_entry a e (Some g) = refl

source_apart : (a : List ℕ) → bytes_eq a roles ≡ false → (p q : Bool) (x : List ℕ) → cond p (Some (FromTable User)) (cond q (Some (FromVariable roles)) None) ≡ Some (FromVariable x) → bytes_eq a x ≡ false
source_apart a e true q x h = absurd cc
source_apart a e false true x h = let same : roles ≡ x = cc in subst (λ (z : List ℕ). bytes_eq a z ≡ false) same e
source_apart a e false false x h = absurd cc

apart : (a : List ℕ) → bytes_eq limit a ≡ false → bytes_eq ids a ≡ false → bytes_eq a roles ≡ false → IsApart numbers a
apart a e h i = record {
  loops = refl;
  entries = no_entry a e;
  known = ap (λ p. cond p (Some 0) None) h;
  sources = λ j x s. source_apart a i (nat_eq j 0) (nat_eq j 1) x s;
}

-- the numbers inside the loop
abbrev in_loop : Numbering
in_loop = with_loop u 0 numbers

apart_inside : (a : List ℕ) → bytes_eq u a ≡ false → IsApart numbers a → IsApart in_loop a
apart_inside a e h = record { loops = ap (λ p. cond p (Some 0) None) e; entries = h.entries; known = h.known; sources = h.sources }

none_is : {A : Type 0} {P : Type 0} (x : A) → None ≡ Some x → P
none_is x e = absurd cc

first_loop : IsNewLoop numbers no_flags 0
first_loop = record { loops = λ y i e. none_is i e; in_sight = λ y flag e. none_is flag e }

only_loop : (p : Bool) (i : ℕ) → cond p (Some 0) None ≡ Some i → nat_eq 1 i ≡ false
only_loop true i e = let same : 0 ≡ i = cc in subst (λ (n : ℕ). nat_eq 1 n ≡ false) same refl
only_loop false i e = none_is i e

second_loop : IsNewLoop in_loop no_flags 1
second_loop = record { loops = λ y i e. only_loop (bytes_eq u y) i e; in_sight = λ y flag e. none_is flag e }

-- ---- Conditions

user_role : IsOperand in_loop (field u (codes "roleId")) (operands.Field 0 2) tys.Long
user_role = forms.field somewhere somewhere u (codes "roleId") 0 2 _ refl refl refl

user_active : IsOperand in_loop (field u (codes "active")) (operands.Field 0 4) tys.Bool
user_active = forms.field somewhere somewhere u (codes "active") 0 4 _ refl refl refl

user_age : IsOperand in_loop (field u (codes "age")) (operands.Field 0 3) tys.Long
user_age = forms.field somewhere somewhere u (codes "age") 0 3 _ refl refl refl

user_name : IsOperand in_loop (field u (codes "name")) (operands.Field 0 1) tys.Text
user_name = forms.field somewhere somewhere u (codes "name") 0 1 _ refl refl refl

user_id : IsOperand in_loop (field u (codes "id")) (operands.Field 0 0) tys.Long
user_id = forms.field somewhere somewhere u (codes "id") 0 0 _ refl refl refl

has_role_form : IsForm fragment.atoms (with_loop r 1 in_loop) no_flags true has_role (Is 0 true)
has_role_form = forms.atom true has_role _ true 0 (forms.same somewhere _ _ _ _ tys.Long refl (forms.field somewhere somewhere u (codes "roleId") 0 2 _ refl refl refl) (forms.field somewhere somewhere r (codes "id") 1 0 _ refl refl refl)) refl

-- the flag that is read after its loop
abbrev read_after : Flags
read_after = with_flag without (Some (Reads 3 true (0 ∷ []))) (with_flag without (Some (Starts true)) no_flags)

is_kept_form : IsForm fragment.atoms in_loop read_after true is_kept (Both (Is 1 true) (Is 2 true))
is_kept_form = forms.both somewhere _ _ _ _ (forms.atom true _ _ true 1 (forms.truth _ 0 4 user_active) refl) (forms.negated true somewhere (var without) (Is 2 true) (forms.atom false (var without) _ false 2 (forms.flag somewhere without 3 true (0 ∷ []) refl) refl))

not_kept_form : IsForm fragment.atoms in_loop read_after false is_kept (Either (Is 1 false) (Is 2 false))
not_kept_form = forms.not_both somewhere _ _ _ _ (forms.atom false _ _ true 1 (forms.truth _ 0 4 user_active) refl) (forms.negated false somewhere (var without) (Is 2 false) (forms.atom true (var without) _ false 2 (forms.flag somewhere without 3 true (0 ∷ []) refl) refl))

is_older_best : forms.IsBest fragment.atoms in_loop read_after oldest ways.Max 0 3 true is_older (Is 3 true ∷ [])
is_older_best = forms.both_left somewhere _ _ [] (Is 3 true ∷ []) (forms.right true somewhere somewhere _ _ refl user_age) (forms.one true _ _ (forms.atom true _ _ true 3 (forms.member somewhere ids _ _ 0 tys.Long refl refl user_id) refl))

is_grown_form : IsForm fragment.atoms in_loop read_after true is_grown (Is 4 true)
is_grown_form = forms.negated true somewhere _ (Is 4 true) (forms.atom false _ _ false 4 (forms.at_most somewhere _ _ _ _ user_age (forms.entry somewhere limit 0 tys.Long refl refl)) refl)

-- ---- The flag

flag_chain : IsChain fragment true in_loop no_flags flagging without [] (layer 1 (Some (Is 0 true)) ∷ []) (By updates.Mark true)
flag_chain =
    chains.over true in_loop no_flags somewhere (tree.Table Role) r (var roles) _ without 1 (Is 0 true ∷ []) [] updates.Mark true (chains.variable somewhere roles 1 refl) (apart_inside r refl (apart r refl refl refl)) refl refl second_loop
    (chains.here true _ no_flags [] _ _ without _ _ _ (chains.under true _ no_flags _ without true has_role _ (Is 0 true ∷ []) [] [] _ (chains.only_branch somewhere without has_role _) (forms.one true has_role _ has_role_form) (chains.here true _ no_flags [] _ _ without _ _ _ (chains.update true _ no_flags _ without _ (chains.mark somewhere somewhere without true)) refl)) refl)

loops_of_flag : (p : Bool) (j : ℕ) → cond p (Some 0) None ≡ Some j → has_loop (0 ∷ []) j ≡ true
loops_of_flag true j e = let same : 0 ≡ j = cc in subst (λ (n : ℕ). has_loop (0 ∷ []) n ≡ true) same refl
loops_of_flag false j e = none_is j e

is_flag : IsFlag fragment in_loop 3 flag_acc (layer 1 (Some (Is 0 true)) ∷ [])
is_flag = record { there = refl; update = refl; start = refl; inside = refl; loops = λ x j e. loops_of_flag (bytes_eq u x) j e }

settles : Settles fragment false in_loop (with_flag without (Some (Starts true)) no_flags) flagging (without ∷ []) read_after
settles = chains.flagged in_loop _ _ flagging without [] 3 flag_acc (layer 1 (Some (Is 0 true)) ∷ []) (apart_inside without refl (apart without refl refl refl)) is_flag refl flag_chain (chains.ended false in_loop _ flagging)

-- ---- The whole loop

-- a variable of another name is no flag
no_flag : (a : List ℕ) → bytes_eq without a ≡ false → read_after a ≡ None
no_flag a e = ap (λ p. cond p (Some (Reads 3 true (0 ∷ []))) (cond p (Some (Starts true)) None)) e

-- the chain of a variable that is set after the flag
after_flag : (a : List ℕ) (gs : List Form) (v : Update) → bytes_eq without a ≡ false → sets flagging a ≡ false → AreChain fragment false in_loop read_after (without ∷ []) (block (branches ∷ counting ∷ [])) a gs [] (By v false) → AreChain fragment false in_loop no_flags [] (block (tree.Declare somewhere tree.Boolean without (tree.Lit somewhere (scalars.Bool true)) ∷ flagging ∷ branches ∷ counting ∷ [])) a gs [] (By v false)
after_flag a gs v e s h = chains.declared false in_loop no_flags [] somewhere somewhere without true _ a gs [] (By v false) (apart_inside without refl (apart without refl refl refl)) e (chains.later false in_loop _ read_after (without ∷ []) flagging _ a gs [] (By v false) refl s settles (no_flag a e) h)

whole : (a : List ℕ) (gs : List Form) (v : Update) → bytes_eq u a ≡ false → AreChain fragment false in_loop no_flags [] (block (tree.Declare somewhere tree.Boolean without (tree.Lit somewhere (scalars.Bool true)) ∷ flagging ∷ branches ∷ counting ∷ [])) a gs [] (By v false) → IsChain fragment false numbers no_flags loop a [] (layer 0 (joined gs) ∷ []) (By v false)
whole a gs v e h = chains.over false numbers no_flags somewhere (tree.Table User) u (tree.Fetch somewhere User) _ a 0 gs [] v false (chains.fetch somewhere User 0 refl) (apart u refl refl refl) refl e first_loop h

names_chain : AreChain fragment false in_loop read_after (without ∷ []) (block (branches ∷ counting ∷ [])) out (Both (Is 1 true) (Is 2 true) ∷ []) [] (By (updates.Push (elems.Field 0 1)) false)
names_chain =
    chains.here false in_loop read_after _ branches _ out _ _ _
    (chains.under false in_loop read_after branches out true is_kept _ _ [] [] _ (chains.first_branch somewhere out is_kept _ _ refl) (forms.one true is_kept _ is_kept_form) (chains.here false in_loop read_after [] _ _ out _ _ _ (chains.update false in_loop read_after _ out _ (chains.push somewhere out _ _ (forms.of_column _ 0 1 tys.Text user_name))) refl))
    refl

oldest_chain : AreChain fragment false in_loop read_after (without ∷ []) (block (branches ∷ counting ∷ [])) oldest (Either (Is 1 false) (Is 2 false) ∷ Is 3 true ∷ []) [] (By (updates.Best ways.Max (elems.Field 0 3)) false)
oldest_chain =
    chains.here false in_loop read_after _ branches _ oldest _ _ _
    (chains.under false in_loop read_after branches oldest false is_kept _ _ (Is 3 true ∷ []) [] _ (chains.other_branch somewhere oldest is_kept _ _ refl) (forms.one false is_kept _ not_kept_form)
    (chains.here false in_loop read_after [] _ _ oldest _ _ _
    (chains.best false in_loop read_after _ oldest true is_older _ ways.Max 0 3 (Is 3 true ∷ []) [] (chains.only_branch somewhere oldest is_older _) is_older_best (chains.here false in_loop read_after [] _ _ oldest [] [] _ (chains.update false in_loop read_after _ oldest _ (chains.takes somewhere oldest _ 0 3 user_age)) refl))
    refl))
    refl

count_chain : AreChain fragment false in_loop read_after (without ∷ []) (block (branches ∷ counting ∷ [])) count (Is 4 true ∷ []) [] (By updates.Tick false)
count_chain =
    chains.later false in_loop read_after read_after (without ∷ []) branches _ count _ _ _ refl refl (chains.unset false in_loop read_after read_after branches without [] refl (chains.ended false in_loop read_after branches)) refl
    (chains.here false in_loop read_after _ counting _ count _ _ _
    (chains.under false in_loop read_after counting count true is_grown _ (Is 4 true ∷ []) [] [] _ (chains.only_branch somewhere count is_grown _) (forms.one true is_grown _ is_grown_form) (chains.here false in_loop read_after [] _ _ count _ _ _ (chains.update false in_loop read_after _ count _ (chains.tick somewhere somewhere somewhere somewhere count)) refl))
    refl)

nought : IsLong (only_number (pos 0))
nought = record { number = pos 0; is = refl; fits = refl }

is_valid : broken fragment ≡ None
unfolding broken parts_broken accumulator_broken is_small atoms_are_there tests_have_fields flags_are_flags limits_are_valid chain_is_valid accumulator_is_there base_is_valid reads_its_chain flag_is_quiet reads_flags_in_place starts_rightly suits_the_lists conditions_are_few
is_valid = refl

pushed_is : IsAccumulator fragment numbers loop out names_kept
pushed_is = record { apart = apart out refl refl refl; chain = whole out _ _ refl (after_flag out _ _ refl refl names_chain); start = tt }

best_is : IsAccumulator fragment numbers loop oldest oldest_kept
best_is = record { apart = apart oldest refl refl refl; chain = whole oldest _ _ refl (after_flag oldest _ _ refl refl oldest_chain); start = nought }

ticked_is : IsAccumulator fragment numbers loop count counted
ticked_is = record { apart = apart count refl refl refl; chain = whole count _ _ refl (after_flag count _ _ refl refl count_chain); start = nought }

pub worked_chains : WorkedChains
worked_chains = record {
  valid = is_valid;
  pushed = pushed_is;
  best = best_is;
  ticked = ticked_is;
  all = outer out names_kept _ _ refl pushed_is (outer oldest oldest_kept _ _ refl best_is (outer count counted _ _ refl ticked_is (inner 0 flag_acc _ _ refl no_more)));
}

-- ---- On the worked tables

users_typed : AllByRecursion (IsRowOf 0 (columns_at staff_schema 0)) (rows_of staff.db 0)
users_typed = ((refl, (refl, (tt, (refl, (refl, (tt, tt)))))), ((refl, (refl, (tt, (refl, (refl, (tt, tt)))))), ((refl, (refl, (tt, (refl, (refl, (tt, tt)))))), ((refl, (refl, (tt, (refl, (refl, (tt, tt)))))), ((refl, (refl, (tt, (refl, (refl, (tt, tt)))))), tt)))))

roles_typed : AllByRecursion (IsRowOf 1 (columns_at staff_schema 1)) (rows_of staff.db 1)
roles_typed = ((refl, (refl, (tt, tt))), ((refl, (refl, (tt, tt))), ((refl, (refl, (tt, tt))), tt)))

staff_typed : IsDatabaseOf staff_schema staff.db
staff_typed = (refl, omega arith, users_typed, (refl, omega arith, roles_typed, tt))

limit_is : (x : List ℕ) (e : ℕ) (p : Bool) → bytes_eq limit x ≡ p → cond p (Some 0) None ≡ Some e → (limit ≡ x) × (0 ≡ e)
limit_is x e true q h = (names_equal limit x q, cc)
limit_is x e false q h = none_is e h

ids_is : (x : List ℕ) (e : ℕ) (p : Bool) → bytes_eq ids x ≡ p → cond p (Some 0) None ≡ Some e → (ids ≡ x) × (0 ≡ e)
ids_is x e true q h = (names_equal ids x q, cc)
ids_is x e false q h = none_is e h

first_type : (ty : Ty) → Some tys.Long ≡ Some ty → tys.Long ≡ ty
first_type ty e = cc

-- the sources of the two loops
data IsKnown : ℕ → Source → Type 0 where
  of_users : IsKnown 0 (FromTable User)
  of_roles : IsKnown 1 (FromVariable roles)

source_known : (j : ℕ) (s : Source) (p q : Bool) → nat_eq j 0 ≡ p → nat_eq j 1 ≡ q → cond p (Some (FromTable User)) (cond q (Some (FromVariable roles)) None) ≡ Some s → IsKnown j s
source_known j s true q e h k = let same : FromTable User ≡ s = cc in let at : 0 ≡ j = grind (arith, nat_tests, e) in subst (λ (z : ℕ). IsKnown z s) at (subst (λ (z : Source). IsKnown 0 z) same (of_users))
source_known j s false true e h k = let same : FromVariable roles ≡ s = cc in let at : 1 ≡ j = grind (arith, nat_tests, h) in subst (λ (z : ℕ). IsKnown z s) at (subst (λ (z : Source). IsKnown 1 z) same (of_roles))
source_known j s false false e h k = none_is s k

known_source : (j : ℕ) (s : Source) → numbers.sources j ≡ Some s → IsKnown j s
known_source j s e = source_known j s (nat_eq j 0) (nat_eq j 1) refl refl e

abbrev Fetched : ℕ → Source → Type 0
Fetched j (FromTable t) = (table_number staff_schema t ≡ Some j) × (slice_get fragment.lists j ≡ Some (whole_list j))
Fetched j (FromVariable x) = Unit {0}

abbrev Listed : ℕ → Source → Type 0
Listed j (FromTable t) = Unit {0}
Listed j (FromVariable x) = HoldsRows (list_at staff.db (slice_get fragment.lists j)) (at_name store x)

fetched_is : (j : ℕ) (s : Source) → IsKnown j s → Fetched j s
fetched_is _ _ of_users = (refl, refl)
fetched_is _ _ of_roles = tt

listed_is : (j : ℕ) (s : Source) → IsKnown j s → Listed j s
listed_is _ _ of_users = tt
listed_is _ _ of_roles = record { is_set = false; is = refl }

tables_are : (j : ℕ) (d : ListDef) → slice_get fragment.lists j ≡ Some d → d.table ≡ j
tables_are zero d e = let same : all_of 0 ≡ d = cc in ap (λ (z : ListDef). z.table) (sym same)
tables_are (suc zero) d e = let same : all_of 1 ≡ d = cc in ap (λ (z : ListDef). z.table) (sym same)
tables_are (suc (suc j)) d e = none_is d e

entry_is : (x : List ℕ) (g : Option (List ℕ)) (e : ℕ) (ty : Ty) → numbers.entries x g ≡ Some e → slice_get numbers.entry_types e ≡ Some ty → HoldsScalar ty (slice_get given.values e) (entry_value staff store x g)
entry_is x (Some g) e ty h t = none_is e h
entry_is x None e ty h t =
    let same = limit_is x e (bytes_eq limit x) refl h in
    let long_type : tys.Long ≡ ty = first_type ty (ap (slice_get numbers.entry_types) same.1 ∙ t) in
    let first : HoldsScalar tys.Long (slice_get given.values 0) (entry_value staff store limit None) = record { scalar = long 20; is = refl; at = refl; typed = refl } in
    subst (λ (z : Ty). HoldsScalar z (slice_get given.values e) (entry_value staff store x None)) long_type (subst (λ (z : ℕ). HoldsScalar tys.Long (slice_get given.values z) (entry_value staff store x None)) same.1 (subst (λ (z : List ℕ). HoldsScalar tys.Long (slice_get given.values 0) (entry_value staff store z None)) same.0 first))

known_is : (x : List ℕ) (q : ℕ) (ty : Ty) → numbers.known x ≡ Some q → slice_get numbers.known_types q ≡ Some ty → HoldsScalars ty (get_or given.known q []) (at_name store x)
known_is x q ty h t =
    let same = ids_is x q (bytes_eq ids x) refl h in
    let long_type : tys.Long ≡ ty = first_type ty (ap (slice_get numbers.known_types) same.1 ∙ t) in
    let first : HoldsScalars tys.Long (get_or given.known 0 []) (at_name store ids) = record { rows = record { is_set = false; is = refl }; typed = (refl, (refl, (refl, tt))) } in
    subst (λ (z : Ty). HoldsScalars z (get_or given.known q []) (at_name store x)) long_type (subst (λ (z : ℕ). HoldsScalars tys.Long (get_or given.known z []) (at_name store x)) same.1 (subst (λ (z : List ℕ). HoldsScalars tys.Long (get_or given.known 0 []) (at_name store z)) same.0 first))

worked_begins : Begins numbers fragment staff store given
worked_begins = record {
  schema = refl;
  database = staff_typed;
  tables = tables_are;
  fetched = λ j t e. fetched_is j (FromTable t) (known_source j (FromTable t) e);
  variables = λ j x e. listed_is j (FromVariable x) (known_source j (FromVariable x) e);
  loops = λ x. refl;
  entries = entry_is;
  known = known_is;
}

same_test : StandsForCondition numbers (atoms.Same (operands.Field 0 2) (operands.Field 1 0))
same_test = record {
  loops = (with_loop r 1 in_loop).loops;
  flags = no_flags;
  condition = has_role;
  truth = true;
  is = forms.same somewhere _ _ _ _ tys.Long refl (forms.field somewhere somewhere u (codes "roleId") 0 2 _ refl refl refl) (forms.field somewhere somewhere r (codes "id") 1 0 _ refl refl refl);
}

truth_test : StandsForCondition numbers (atoms.Truth (operands.Field 0 4))
truth_test = record { loops = in_loop.loops; flags = no_flags; condition = field u (codes "active"); truth = true; is = forms.truth _ 0 4 user_active }

flag_test : StandsForCondition numbers (atoms.Flag 3 (0 ∷ []))
flag_test = record { loops = in_loop.loops; flags = read_after; condition = var without; truth = false; is = forms.flag somewhere without 3 true (0 ∷ []) refl }

member_test : StandsForCondition numbers (atoms.Member (operands.Field 0 0) 0)
member_test = record { loops = in_loop.loops; flags = no_flags; condition = tree.Contains somewhere ids (field u (codes "id")); truth = true; is = forms.member somewhere ids _ _ 0 tys.Long refl refl user_id }

less_test : StandsForCondition numbers (atoms.Less (operands.Entry 0) (operands.Field 0 3))
less_test = record {
  loops = in_loop.loops;
  flags = no_flags;
  condition = tree.Binary somewhere ops.Le (field u (codes "age")) (var limit);
  truth = false;
  is = forms.at_most somewhere _ _ _ _ user_age (forms.entry somewhere limit 0 tys.Long refl refl);
}

whole_loop : (a : List ℕ) (acc : Accumulator) → IsAccumulator fragment numbers loop a acc → StandsForStatement fragment numbers acc
whole_loop a acc i = record { quiet = false; loops = numbers.loops; flags = no_flags; statement = loop; variable = a; conditions = []; layers = layers_of acc; is = i.chain }

flag_statement : StandsForStatement fragment numbers flag_acc
flag_statement = record { quiet = true; loops = in_loop.loops; flags = no_flags; statement = flagging; variable = without; conditions = []; layers = layer 1 (Some (Is 0 true)) ∷ []; is = flag_chain }

is_made : IsMade fragment numbers given
is_made = record {
  tests = (same_test, (truth_test, (flag_test, (member_test, (less_test, tt)))));
  updates = (whole_loop out names_kept pushed_is, (whole_loop oldest oldest_kept best_is, (whole_loop count counted ticked_is, (flag_statement, tt))));
  keys = tt;
  tables = (omega arith, (omega arith, tt));
  known = refl;
  values = (refl, tt);
}

pub worked_runs : WorkedRuns
worked_runs = record {
  begins = worked_begins;
  made = is_made;
  names = refl;
  names_end = refl;
  greatest = refl;
  greatest_ends = refl;
  number = refl;
  number_ends = refl;
}
