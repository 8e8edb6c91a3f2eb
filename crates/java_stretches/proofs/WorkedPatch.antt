-- The worked text, by the laws.
use Rattle.std.proofs.Common.{◌≡◌, ℕ, List, [], ◌++◌, Some, codes, refl, subst, ◌∙◌, arith}
use Rattle.java_ast.specs.Path.{replaced_at}
use Rattle.java_ast.specs.Tree.{Var, Return, Statements, Nothing, Then}
use Rattle.java_ast.specs.Unplaced.{unplaced_block}
use Rattle.java_grammar.specs.ReadBack.{IsReadBack}
use Rattle.java_stretches.specs.Lines.{SameStatements, CanStandFor}
use Rattle.java_stretches.specs.Worked as whole
use Rattle.java_stretches.specs.Worked.{at, front, old, rest, new, tokens, program, path, counter, walk}
use Rattle.java_stretches.proofs.Worked.{worked as whole_worked}
use Rattle.loop_text.specs.Statements.Fragment.{Fragment, fragment_at}
use Rattle.loop_text.specs.Statements.KeptStatements.{first_at}
use Rattle.java_stretches.specs.Carries.{Carries, MayComeFor}
use Rattle.java_stretches.specs.Laid.{with_texts}
use Rattle.java_stretches.specs.WorkedPatch.{query, block, patches, IsWorked}
use Rattle.java_stretches.proofs.Carried.{carried, one_more, read_back}

-- what can stand for statements can stand for those that are the same but for places
pub stands_too : (text : List ℕ) (a b : Statements) → unplaced_block a ≡ unplaced_block b → CanStandFor text a → CanStandFor text b
stands_too text a b e c = record {
  lines = record {
    tokens = c.lines.tokens;
    lexed_as = c.lines.lexed_as;
    statements = λ room.
        let s : SameStatements room c.lines.tokens.list a = c.lines.statements room in
        record { others = s.others; has = s.has; same = s.same ∙ e };
  };
  closed = c.closed;
  ends = c.ends;
}

abbrev fragment : Fragment
fragment = record { visible = []; run = Then counter Nothing; loop = walk; behind = Then (Return (at 6 5 104 114) (Some (Var (at 6 13 112 113) (codes "n")))) Nothing }

leads : fragment_at path program ≡ Some fragment
leads = refl

begins : first_at path program ≡ Some 0
begins = refl

come : MayComeFor fragment block
come = record { first = query; others = Nothing; is = refl; simple = refl; chain = λ lo lined c. (omega (arith, c.0, c.2), lined, omega arith) }

text_is : with_texts (front ++ (old ++ rest)) 0 patches ≡ front ++ (new ++ rest)
text_is = refl

pub worked : IsWorked
worked =
    let w : whole.IsWorked = whole_worked in
    let before : Carries (front ++ (old ++ rest)) [] program = carried (front ++ (old ++ rest)) tokens program w.lexed_as w.has in
    let after : Carries (front ++ (old ++ rest)) patches (replaced_at path 0 block program) =
    one_more (front ++ (old ++ rest)) [] program before path fragment 0 leads begins w.run counter refl block come new (stands_too new whole.block block refl w.stands) tt in
    record {
      before = before;
      after = after;
      text = text_is;
      read = subst (λ (text : List ℕ). IsReadBack text (replaced_at path 0 block program)) text_is (read_back (front ++ (old ++ rest)) patches (replaced_at path 0 block program) after);
    }
