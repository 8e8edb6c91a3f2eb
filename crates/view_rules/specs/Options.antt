-- What may be missing.
use Rattle.std.specs.Prelude.{Bool, Option, Some, None, if◌then◌else◌}

infixl 10 ◌>>=◌
abbrev pub ◌>>=◌ : {A B : Type 0} → Option A → (A → Option B) → Option B
(Some x) >>= f = f x
None >>= f = None

-- where a test holds
abbrev pub where_so : {A : Type 0} → Bool → A → Option A
where_so test x = if test then Some x else None
