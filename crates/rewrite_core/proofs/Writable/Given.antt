-- What is there of an option is of a kind.
use Rattle.std.proofs.Common.{◌≡◌, Option, Some, None, subst}
use Rattle.java_ast.specs.Path.{found_in}
use Rattle.sql_ast.specs.Names.{◌>>=◌}

-- what is there is of this kind
abbrev pub Holds : {A : Type 0} → (A → Type 0) → Option A → Type 0
Holds P None = Unit {0}
Holds P (Some x) = P x

some_is : {A : Type 0} (x y : A) → Some x ≡ Some y → x ≡ y
some_is x y e = cc

pub found_holds : {A : Type 0} (P : A → Type 0) (o : Option A) (x : A) → o ≡ Some x → Holds P o → P x
found_holds P (Some y) x e h = subst P (some_is y x e) h
found_holds P None x e h = absurd cc

-- what a function finds in it is of a kind, where it finds that in all that are of the first kind
pub found_all : {A B : Type 0} (P : A → Type 0) (Q : B → Type 0) (f : A → Option B) (o : Option A) → Holds P o → ((x : A) → P x → Holds Q (f x)) → Holds Q (found_in f o)
found_all P Q f None h k = tt
found_all P Q f (Some x) h k = k x h

pub next : {A B : Type 0} (P : A → Type 0) (Q : B → Type 0) (o : Option A) (f : A → Option B) → Holds P o → ((x : A) → P x → Holds Q (f x)) → Holds Q (o >>= f)
next P Q (Some x) f h k = k x h
next P Q None f h k = tt

-- whatever is there
pub any_next : {A B : Type 0} (Q : B → Type 0) (o : Option A) (f : A → Option B) → ((x : A) → Holds Q (f x)) → Holds Q (o >>= f)
any_next Q (Some x) f k = k x
any_next Q None f k = tt
