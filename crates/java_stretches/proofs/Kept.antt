-- A text in which other bytes stand for some statements of its program.
use Rattle.std.proofs.Common.{◌≡◌, ℕ, ◌<◌, List, [], ◌∷◌, ◌++◌, length, Ok, Some, refl, sym, ap, subst, ◌∙◌}
use Rattle.java_lex.specs.Cutting.{nodes_of, HasNodes, Replaces, StartsAt, EndsAt}
use Rattle.java_lex.specs.Lexing.{lexed}
use Rattle.java_lex.specs.declared.token.Token.{Token}
use Rattle.java_lex.specs.declared.token.TokenNode.{TokenNode}
use Rattle.java_lex.specs.declared.token.Tokens.{Tokens}
use Rattle.java_lex.proofs.Cut.{nodes_append}
use Rattle.java_lex.proofs.Replaced.{replaced}
use Rattle.java_ast.specs.Path.{replaced_at, last_of}
use Rattle.java_ast.specs.Spans.{place_of}
use Rattle.java_ast.specs.Tree.{Statement, Statements, PlainProgram}
use Rattle.java_grammar.specs.Grammar.{HasProgram, IsProgram, IsReadable}
use Rattle.java_grammar.specs.ReadingPrograms.{program_at}
use Rattle.java_grammar.proofs.Again.{Any}
use Rattle.java_grammar.proofs.ProgramLaws.{program_reads}
use Rattle.java_grammar.proofs.Whole.{whole_only, found_free}
use Rattle.java_grammar.specs.ReadBack.{SameProgram, IsReadBack}
use Rattle.java_stretches.specs.Lines.{SameStatements, CanStandFor}
use Rattle.java_stretches.specs.Stretch.{StartsWith, Stretch, GoesFrom}
use Rattle.java_stretches.proofs.Programs.{stretch}
use Rattle.java_stretches.proofs.SamePrograms.{same_program}
use Rattle.java_stretches.proofs.Unplacing.{same_replaced}

starts_at : (one other : Statement) (ts : List Token) (q : ℕ) → Some one ≡ Some other → StartsWith (place_of one) ts → (place_of other).start ≡ q → StartsAt q ts
starts_at one other [] q e h s = absurd h
starts_at one other (t ∷ ts) q e h s = let is : one ≡ other = cc in sym h.1 ∙ (ap (λ (x : Statement). (place_of x).start) is ∙ s)

pub kept : (front old rest new : List ℕ) (tokens : Tokens) (p : PlainProgram) (path : List ℕ) (first : ℕ) (block : Statements) → lexed (front ++ (old ++ rest)) ≡ Ok tokens → IsProgram tokens.list p → first < last_of path
    → GoesFrom p path first front old → CanStandFor new block → IsReadBack (front ++ (new ++ rest)) (replaced_at path first block p)
kept front old rest new tokens p path first block lexes has less g c =
    let st : Stretch tokens.list p path first g.last = stretch tokens.list p path first g.last has g.to_last less in
    let given : Tokens = c.lines.tokens in
    let r : Replaces front old rest new st.before st.within st.after given.list = record {
      text = (tokens, lexes, st.parts);
      statement = st.closed;
      starts = starts_at st.one g.one st.within (length front) (sym st.is_first ∙ g.to_first) st.starts g.starts;
      ends = subst (λ (q : ℕ). EndsAt q st.within) g.ends st.ends;
      replacement = (given, c.lines.lexed_as, refl);
      new_statement = c.closed;
      new_ends = c.ends;
    } in
    let n : HasNodes (front ++ (new ++ rest)) (nodes_of st.before ++ (nodes_of given.list ++ nodes_of st.after)) = replaced front old rest new st.before st.within st.after given.list r in
    let s : SameStatements st.room given.list block = c.lines.statements st.room in
    let whole : IsProgram (st.before ++ (given.list ++ st.after)) (replaced_at path first s.others p) = st.replaced given.list s.others s.has in
    let nodes : nodes_of (st.before ++ (given.list ++ st.after)) ≡ nodes_of n.tokens.list =
    nodes_append st.before (given.list ++ st.after) ∙ (ap (λ (ns : List TokenNode). nodes_of st.before ++ ns) (nodes_append given.list st.after) ∙ sym n.same) in
    let q : SameProgram n.tokens.list (replaced_at path first s.others p) = same_program (st.before ++ (given.list ++ st.after)) n.tokens.list (replaced_at path first s.others p) nodes whole in
    record { tokens = n.tokens; lexed = n.read; read = record { program = q.program; has = q.has; same = q.same ∙ same_replaced path first s.others block p p s.same refl } }

-- what is read has the tokens, depth left aside
pub readable : (ts : List Token) (p : PlainProgram) → IsReadable ts p → IsProgram ts p
readable ts p h = found_free HasProgram Any program_at program_reads tt ts p (whole_only HasProgram Any program_at program_reads tt ts p h)
