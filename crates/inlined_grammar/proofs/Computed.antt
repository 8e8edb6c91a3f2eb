-- The worked class is of the grammar and can be written, and so is its inlined class by the laws.
use Rattle.std.proofs.Common.{◌≡◌, ℕ, zero, suc, ◌<◌, Bool, true, false, List, [], ◌∷◌, refl, codes, arith}
use Rattle.std.specs.Prelude.{◌&&◌}
use Rattle.std.specs.Str.{IsAscii}
use Rattle.std.proofs.lemmas.Bool.Decides.{nat_tests}
use Rattle.std.proofs.lemmas.Str.{IsUtf8-from_ascii}
use Rattle.qbs_base.specs.Bytes.{is_name_part}
use Rattle.java_grammar.specs.InGrammar.{InStatements, InMethod, IsInGrammar}
use Rattle.java_grammar.specs.Written.{are_name_parts, IsText, WrittenStatements, IsWritten}
use Rattle.java_calls.specs.Worked.{helper, staff_with, class_with, calling, replaced}
use Rattle.java_calls.proofs.Computed as java_calls
use Rattle.java_calls.proofs.Witness.{fits, breaks_none}
use Rattle.inlined_grammar.proofs.InGrammar.{in_grammar}
use Rattle.inlined_grammar.proofs.Written.{is_written}

helper_body : InStatements helper.body
helper_body = ((refl, refl, tt), ((refl, refl, refl, ((((refl, refl), refl), ((refl, refl), tt)), tt)), (refl, tt)))

calling_body : InStatements calling
calling_body = ((refl, refl, (tt, tt)), (refl, tt))

helper_in : InMethod helper
helper_in = record { result = refl; name = refl; params = (tt, refl, tt); body = helper_body }

staff_in : InMethod (staff_with calling)
staff_in = record { result = tt; name = refl; params = tt; body = calling_body }

pub calling_in : IsInGrammar (class_with calling)
calling_in = record { «package» = tt; imports = tt; name = refl; methods = (helper_in, (staff_in, tt)) }

pub replaced_in : IsInGrammar (class_with replaced)
replaced_in = in_grammar (class_with calling) (class_with replaced) calling_in breaks_none fits (1, java_calls.inlined)

-- ---- Its name is a text

both_true : (a b : Bool) → (a && b) ≡ true → (a ≡ true) × (b ≡ true)
both_true true true h = (refl, refl)
both_true true false h = absurd cc
both_true false b h = absurd cc

small_part : (b : ℕ) → is_name_part b ≡ true → b < 128
small_part b e = grind (arith, nat_tests)

parts_ascii : (bs : List ℕ) → are_name_parts bs ≡ true → IsAscii bs
parts_ascii [] e i = omega arith
parts_ascii (b ∷ bs) e zero = small_part b (both_true (is_name_part b) (are_name_parts bs) e).0
parts_ascii (b ∷ bs) e (suc i) = parts_ascii bs (both_true (is_name_part b) (are_name_parts bs) e).1 i

name_text : IsText (codes "ofRole")
name_text = IsUtf8-from_ascii (codes "ofRole") (parts_ascii (codes "ofRole") refl)

helper_written : WrittenStatements helper.body
helper_written = ((refl, refl, tt), ((refl, refl, refl, ((((refl, refl), refl), ((refl, refl), tt)), tt)), (refl, tt)))

calling_statements : WrittenStatements calling
calling_statements = ((refl, refl, (name_text, (omega arith, tt))), (refl, tt))

pub calling_written : IsWritten (class_with calling)
calling_written = record { «package» = tt; imports = tt; name = refl; methods = ((refl, refl, (tt, refl, tt), helper_written), ((tt, refl, tt, calling_statements), tt)) }

pub replaced_written : IsWritten (class_with replaced)
replaced_written = is_written (class_with calling) (class_with replaced) calling_written (1, java_calls.inlined)
