-- A name is a text.
use Rattle.std.proofs.Common.{◌≡◌, ℕ, zero, suc, ◌<◌, Bool, true, false, ◌&&◌, List, [], ◌∷◌, Option, Some, None, refl, sym, ap, arith}
use Rattle.std.specs.Prelude.{IsUtf8, IfSome, IsSome}
use Rattle.std.specs.Borrow.{Bor}
use Rattle.std.specs.List.{list_all}
use Rattle.std.specs.Option.{option_copied}
use Rattle.std.specs.Str.{IsAscii}
use Rattle.std.proofs.lemmas.Bool.Decides.{nat_tests}
use Rattle.std.proofs.lemmas.Str.{IsUtf8-from_ascii}
use Rattle.qbs_base.specs.Bytes.{is_name_start, is_name_part}
use Rattle.schema.specs.Bytes.{is_name}
use Rattle.dump_schema.specs.Names.{name_in}

both : (a b : Bool) → (a && b) ≡ true → (a ≡ true) × (b ≡ true)
both true true e = (refl, refl)
both true false e = absurd cc
both false b e = absurd cc

small_part : (b : ℕ) → is_name_part b ≡ true → b < 128
small_part b e = grind (arith, nat_tests)

small_start : (b : ℕ) → is_name_start b ≡ true → b < 128
small_start b e = grind (arith, nat_tests)

parts_ascii : (bs : List ℕ) → list_all is_name_part bs ≡ true → IsAscii bs
parts_ascii [] e i = omega arith
parts_ascii (b ∷ bs) e zero = small_part b (both (is_name_part b) (list_all is_name_part bs) e).0
parts_ascii (b ∷ bs) e (suc i) = parts_ascii bs (both (is_name_part b) (list_all is_name_part bs) e).1 i

name_ascii : (bs : List ℕ) → is_name bs ≡ true → IsAscii bs
name_ascii [] e i = absurd cc
name_ascii (b ∷ bs) e zero = small_start b (both (is_name_start b) (list_all is_name_part bs) e).0
name_ascii (b ∷ bs) e (suc i) = parts_ascii bs (both (is_name_start b) (list_all is_name_part bs) e).1 i

pub named_text : (bs : List ℕ) (o : Option (Bor (List ℕ))) → true ≡ is_name bs → IfSome o (λ t. t.now ≡ bs) → (IsUtf8 bs → IsSome o) → option_copied o ≡ name_in bs
named_text bs (Some t) test same some = rw (← test) (ap (λ (x : List ℕ). Some x) same)
named_text bs None test same some = let none = some (IsUtf8-from_ascii bs (name_ascii bs (sym test))) in absurd cc
