-- Places of sites.
use Rattle.std.specs.Prelude.{ℕ, suc, List, ◌∷◌, Option, None}
use Rattle.std.proofs.Common.{◌≡◌, refl, sym, ap, ◌∙◌, ◌+◌, ◌<◌, length, drop, map, get_or, arith}
use Rattle.std.proofs.lemmas.List.{take-map, length-map}
use Rattle.std.proofs.lemmas.Option.{slice_get-map}
use Rattle.qbs_base.specs.declared.span.Span.{Span}
use Rattle.java_ast.specs.declared.tree.Stmt.{Stmt, out-Stmt}
use Rattle.java_ast.specs.declared.tree.StmtNode.{StmtNode}
use Rattle.java_ast.specs.declared.tree.StmtNode as stmts
use Rattle.java_ast.specs.Reading.{statement, node_statement}
use Rattle.loop_text.specs.declared.sites.list.Site as code
use Rattle.loop_text.specs.Sites.Reading.{site_of}
use Rattle.loop_text.specs.Sites.Sites.{Site, place_of, first_place, first_broken}
use Rattle.loop_text.proofs.Trees.Walked.{next_item}

placed : (n : StmtNode) (at : Span) → place_of (node_statement n at) ≡ at
placed (stmts.Declare ty name value) at = refl
placed (stmts.Assign name value) at = refl
placed (stmts.Add name value) at = refl
placed (stmts.Sort name keys down) at = refl
placed (stmts.If' cond _ first stmts.None') at = refl
placed (stmts.If' cond _ first (stmts.Some' _ other)) at = refl
placed (stmts.ForEach' ty name list _ body) at = refl
placed (stmts.While' cond _ body) at = refl
placed (stmts.Print value) at = refl
placed (stmts.Return value) at = refl
placed stmts.Break at = refl

-- the place of a statement is that of its node
pub place_is : (s : Stmt) → place_of (statement s) ≡ (out-Stmt s).span
place_is s = placed (out-Stmt s).node (out-Stmt s).span

passed_by : (test : ℕ → Site → Option Span) (n m : ℕ) (all rest : List Site) (s : Site) (whole : Option Span) → m ≡ suc n → all ≡ s ∷ rest → test n s ≡ None → first_broken test n all ≡ whole → first_broken test m rest ≡ whole
passed_by test n m all rest s whole next is none h =
    ap (λ (k : ℕ). first_broken test k rest) next
    ∙ sym (ap (λ (o : Option Span). first_place o (first_broken test (suc n) rest)) none)
    ∙ sym (ap (first_broken test n) is)
    ∙ h

-- the next site passes a test
pub passed_site : (test : ℕ → Site → Option Span) (n : ℕ) (ss : List code.Site) (s : code.Site) (whole : Option Span) → n < length ss → s ≡ get_or ss n s → test n (site_of s) ≡ None → first_broken test n (map site_of (drop n ss)) ≡ whole → first_broken test (n + 1) (map site_of (drop (n + 1) ss)) ≡ whole
passed_site test n ss s whole h is none all =
    passed_by test n (n + 1) (map site_of (drop n ss)) (map site_of (drop (n + 1) ss)) (site_of s) whole (omega arith) (ap (map site_of) (next_item ss n s h is)) none all

pub ruleset rounds = (place_is, slice_get-map, take-map, length-map)
