-- Known lists of small databases are of one type each, and so what is gathered are items of the schema.
use Rattle.std.proofs.Common.{◌≡◌, ℕ, zero, suc, ◌+◌, ◌%◌, Bool, true, false, ◌&&◌, List, [], ◌∷◌, ◌++◌, Option, Some, None, refl, subst}
use Rattle.std.specs.Prelude.{OnOk}
use Rattle.std.specs.List.{AllByRecursion, list_all}
use Rattle.std.specs.declared.result.Result.{Result}
use Rattle.std.specs.declared.result.Result.TheVariants.{Ok, Err}
use Rattle.qbs_base.specs.declared.scalar.Scalar.{Scalar}
use Rattle.qbs_base.specs.declared.scalar.Scalar.TheVariants as scalars
use Rattle.qbs_base.specs.declared.scalar.Ty.{Ty}
use Rattle.qbs_base.specs.declared.scalar.Ty.TheVariants as tys
use Rattle.qbs_base.specs.Values.{Schema, HasTy}
use Rattle.tor_terms.specs.Truth.{same_variant}
use Rattle.kernel_lang.specs.Plain.{Fragment}
use Rattle.store_parts.specs.Limits.{are_of_one_type}
use Rattle.small_dbs.specs.declared.small.SmallDb.{SmallDb}
use Rattle.small_dbs.specs.Chosen.{member_type, members, known}
use Rattle.small_dbs.specs.Literals.{values}
use Rattle.small_dbs.specs.Small.{small, smalls}
use Rattle.small_dbs.proofs.Fitted.{is_choice, members_typed, small_is_of}
use Rattle.proof_store.specs.Banks.{Puts, put, refused}
use Rattle.proof_store.specs.Gathering.{IsFirst, none, here, later, PutsIf, Gathers}
use Rattle.proof_store.specs.Grammar.{IsItemOf}

both : (a b : Bool) → a ≡ true → b ≡ true → (a && b) ≡ true
both true true p q = refl
both true false p q = absurd cc
both false b p q = absurd cc

one_variant : (ty : Ty) (x y : Scalar) → HasTy ty x → HasTy ty y → same_variant x y ≡ true
one_variant tys.Long (scalars.Long m) (scalars.Long n) h g = refl
one_variant tys.Bool (scalars.Bool m) (scalars.Bool n) h g = refl
one_variant tys.Text (scalars.Text m) (scalars.Text n) h g = refl
one_variant tys.Long (scalars.Bool m) y h g = absurd h
one_variant tys.Long (scalars.Text m) y h g = absurd h
one_variant tys.Bool (scalars.Long m) y h g = absurd h
one_variant tys.Bool (scalars.Text m) y h g = absurd h
one_variant tys.Text (scalars.Long m) y h g = absurd h
one_variant tys.Text (scalars.Bool m) y h g = absurd h
one_variant tys.Long (scalars.Long m) (scalars.Bool n) h g = absurd g
one_variant tys.Long (scalars.Long m) (scalars.Text n) h g = absurd g
one_variant tys.Bool (scalars.Bool m) (scalars.Long n) h g = absurd g
one_variant tys.Bool (scalars.Bool m) (scalars.Text n) h g = absurd g
one_variant tys.Text (scalars.Text m) (scalars.Long n) h g = absurd g
one_variant tys.Text (scalars.Text m) (scalars.Bool n) h g = absurd g

all_alike : (ty : Ty) (x : Scalar) (xs : List Scalar) → HasTy ty x → AllByRecursion (HasTy ty) xs → list_all (same_variant x) xs ≡ true
all_alike ty x [] h g = refl
all_alike ty x (y ∷ ys) h g = both (same_variant x y) (list_all (same_variant x) ys) (one_variant ty x y h g.0) (all_alike ty x ys h g.1)

of_one_type : (ty : Ty) (xs : List Scalar) → AllByRecursion (HasTy ty) xs → are_of_one_type xs ≡ true
of_one_type ty [] h = refl
of_one_type ty (x ∷ xs) h = all_alike ty x xs h.0 h.1

known_of_one_type : (schema : Schema) (f : Fragment) (d q n : ℕ) → list_all are_of_one_type (known schema f (values f) d q n) ≡ true
known_of_one_type schema f d q zero = refl
known_of_one_type schema f d q (suc n) =
    both (are_of_one_type (members (values f (member_type schema f q f.atoms)) (d + q) (d % 3))) (list_all are_of_one_type (known schema f (values f) d (q + 1) n))
    (of_one_type (member_type schema f q f.atoms) (members (values f (member_type schema f q f.atoms)) (d + q) (d % 3)) (members_typed (values f) (is_choice f) (member_type schema f q f.atoms) (d + q) (d % 3)))
    (known_of_one_type schema f d (q + 1) n)

pub small_is_item : (schema : Schema) (f : Fragment) (d : ℕ) → IsItemOf schema (small schema f d)
small_is_item schema f d = record { database = small_is_of schema f d; known = known_of_one_type schema f d 0 f.known }

-- ---- what is gathered

-- of what is there
abbrev IfThere : (SmallDb → Type 0) → Option SmallDb → Type 0
IfThere P None = Unit {0}
IfThere P (Some s) = P s

first_is : (P : SmallDb → Type 0) (f : Fragment) (c : List ℕ) (ss : List SmallDb) (o : Option SmallDb) → AllByRecursion P ss → IsFirst f c ss o → IfThere P o
first_is P f c _ _ h none = tt
first_is P f c _ _ h (here s rest r) = h.0
first_is P f c _ o h (later s rest _ n g) = first_is P f c rest o h.1 g

all_last : (P : SmallDb → Type 0) (items : List SmallDb) (s : SmallDb) → AllByRecursion P items → P s → AllByRecursion P (items ++ s ∷ [])
all_last P [] s h p = (p, tt)
all_last P (x ∷ xs) s h p = (h.0, all_last P xs s h.1 p)

all_put : (P : SmallDb → Type 0) (items : List SmallDb) (s : SmallDb) (end : List SmallDb) → AllByRecursion P items → P s → Puts items s end → AllByRecursion P end
all_put P items s _ h p (put n) = all_last P items s h p
all_put P items s _ h p (refused r) = h

all_put_if : (P : SmallDb → Type 0) (items : List SmallDb) (o : Option SmallDb) (end : List SmallDb) → AllByRecursion P items → IfThere P o → PutsIf items o end → AllByRecursion P end
all_put_if P items None end h p e = subst (AllByRecursion P) e h
all_put_if P items (Some s) end h p e = all_put P items s end h p e

smalls_are : (schema : Schema) (f : Fragment) → AllByRecursion (IsItemOf schema) (smalls schema f)
smalls_are schema f = (small_is_item schema f 0, (small_is_item schema f 1, (small_is_item schema f 2, (small_is_item schema f 3, (small_is_item schema f 4, (small_is_item schema f 5, (small_is_item schema f 6, (small_is_item schema f 7, tt))))))))

pub gathered_are : (schema : Schema) (f : Fragment) (cs : List (List ℕ)) (items end : List SmallDb) → Gathers schema f cs items end → AllByRecursion (IsItemOf schema) items → AllByRecursion (IsItemOf schema) end
gathered_are schema f [] items end g h = subst (AllByRecursion (IsItemOf schema)) g h
gathered_are schema f (c ∷ cs) items end g h =
    gathered_are schema f cs g.1 end g.4 (all_put_if (IsItemOf schema) items g.0 g.1 h (first_is (IsItemOf schema) f c (smalls schema f) g.0 (smalls_are schema f) g.2) g.3)

pub items_gathered : {A E : Type 0} (schema : Schema) (f : Fragment) (cs : List (List ℕ)) (items end : List SmallDb) (r : Result A E) → OnOk r (Gathers schema f cs items end) → AllByRecursion (IsItemOf schema) items
    → OnOk r (AllByRecursion (IsItemOf schema) end)
items_gathered schema f cs items end (Ok x) g h = gathered_are schema f cs items end g h
items_gathered schema f cs items end (Err x) g h = tt
