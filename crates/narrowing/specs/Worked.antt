-- A program with a for-each that is narrowed, and one that stays for each reason.
use Rattle.std.specs.Prelude.{ℕ, ◌+◌, ◌*◌, List, [], ◌∷◌, true}
use Rattle.std.specs.declared.option.Option.TheVariants.{Some, None}
use Rattle.qbs_base.specs.declared.scalar.Scalar.TheVariants as scalars
use Rattle.qbs_base.specs.declared.span.Span.{Span}
use Rattle.java_ast.specs.Tree.{Table, Expression, Lit, Var, Statement, If, ForEach, While, Print, Statements, Nothing, Then, PlainProgram}
use Rattle.java_mean.specs.Worked.{User, u, out}
use Rattle.spreads.specs.WorkedNarrow.{program_of, body, users}
use Rattle.narrowing.specs.declared.walk.Reason.TheVariants as reasons
use Rattle.narrowing.specs.declared.walk.Walk.{Walk}

-- the statement of a line with this number
abbrev pub at : ℕ → Span
at n = record { line = n; column = 5; start = 10 * n; end = 10 * n + 9 }

abbrev walking : ℕ → Expression → Statements → Statement
walking n e p = ForEach (at n) (Table User) u e p

abbrev printing : Statements
printing = Then (Print (at 0) (Var (at 0) u)) Nothing

-- narrowed, or as it is read
abbrev pub walks : Expression → PlainProgram
walks e =
    program_of
    (Then (walking 1 e body)
    (Then (While (at 2) (Lit (at 2) (scalars.Bool true)) (Then (walking 3 users body) Nothing))
    (Then (walking 4 (Var (at 4) out) body)
    (Then (walking 5 users printing)
    (Then (walking 6 users (Then (If (at 6) (Lit (at 6) (scalars.Bool true)) printing) Nothing))
    (Then (walking 7 users body) Nothing))))))

abbrev pub said_of : List Walk
said_of =
    record { at = at 1; stays = None }
    ∷ record { at = at 3; stays = Some reasons.Inside }
    ∷ record { at = at 4; stays = Some reasons.List }
    ∷ record { at = at 5; stays = Some reasons.Body }
    ∷ record { at = at 6; stays = Some reasons.Condition }
    ∷ record { at = at 7; stays = Some reasons.Covered }
    ∷ []
