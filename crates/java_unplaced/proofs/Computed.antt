-- The worked classes compute.
use Rattle.std.proofs.Common.{◌≡◌, ℕ, List, [], ◌∷◌, refl, ap, arith}
use Rattle.qbs_base.specs.Values.{Schema}
use Rattle.java_ast.specs.Tree.{PlainMethod, PlainProgram}
use Rattle.java_ast.specs.Unplaced.{unplaced_program}
use Rattle.java_mean.specs.declared.ending.RunFault.TheVariants.{Overflow}
use Rattle.java_mean.specs.Keeps.{Keeps}
use Rattle.java_mean.specs.Outcome.{Faulted, outcome}
use Rattle.java_mean.specs.Worked.{somewhere, staff}
use Rattle.java_unplaced.specs.Worked.{class_at, elsewhere, total_at}
use Rattle.java_unplaced.proofs.Kept.{keep_alike}

-- the line of the first method, where there is one
first_line : PlainProgram → ℕ
first_line p = line_of p.methods
  where
    line_of : List PlainMethod → ℕ
    line_of [] = 0
    line_of (m ∷ ms) = m.span.line

pub differ : class_at somewhere ≡ class_at elsewhere → ⊥
unfolding first_line
differ e = different (first_line (class_at somewhere)) (first_line (class_at elsewhere)) refl refl (ap first_line e)
  where
    different : (one seven : ℕ) → one ≡ 1 → seven ≡ 7 → one ≡ seven → ⊥
    different one seven a b h = absurd (omega arith)

pub alike : unplaced_program (class_at somewhere) ≡ unplaced_program (class_at elsewhere)
alike = refl

pub first : outcome staff (total_at somewhere) [] 100 ≡ Faulted Overflow somewhere
first = refl

pub second : outcome staff (total_at elsewhere) [] 100 ≡ Faulted Overflow elsewhere
second = refl

pub there : (schema : Schema) → Keeps (class_at somewhere) (class_at elsewhere) schema
there schema = keep_alike schema (class_at somewhere) (class_at elsewhere) alike

pub back : (schema : Schema) → Keeps (class_at elsewhere) (class_at somewhere) schema
back schema = keep_alike schema (class_at elsewhere) (class_at somewhere) refl
