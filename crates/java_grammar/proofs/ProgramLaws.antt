-- Programs are read exactly.
use Rattle.std.proofs.Common.{◌≡◌, ℕ, pred, Bool, true, false, List, [], ◌∷◌, ◌++◌, length, Some, None, codes, refl, ap, ◌∙◌, append_assoc, arith, inl, inr}
use Rattle.std.proofs.lemmas.List.{length-append}
use Rattle.java_lex.specs.declared.token.TokenNode.{TokenNode}
use Rattle.java_lex.specs.declared.token.TokenNode.TheVariants as tokens
use Rattle.readers.specs.Reading.{is_over}
use Rattle.java_ast.specs.Tree.{PlainMethod}
use Rattle.java_grammar.specs.Marks.{Tok}
use Rattle.java_grammar.specs.Rules.{Rule, One, Word, Sign, Opening, Seq, Made, Many}
use Rattle.java_grammar.specs.Words.{name_in}
use Rattle.java_limits.specs.Limits.{deepest}
use Rattle.java_grammar.specs.Grammar.{Whether, Method, HasDotted, Dotted, Package, Class, ProgramIn, HasProgram}
use Rattle.java_grammar.specs.Reading.{first_is, is_word, many_at}
use Rattle.java_grammar.specs.ReadingBodies.{is_close}
use Rattle.java_grammar.specs.ReadingPrograms.{method_at, dotted_name_at, package_at, is_no_import, imports_at, methods_at, class_at, program_in, program_at}
use Rattle.java_grammar.proofs.Again.{Any, Heads, then_heads}
use Rattle.java_grammar.proofs.SingleLaws.{this_heads}
use Rattle.java_grammar.proofs.Many.{IsOver}
use Rattle.java_grammar.proofs.Laws.{Reads, empty, one, word, sign, seq, join, of, either, turned, before, enclosed, many}
use Rattle.java_grammar.proofs.TypeLaws.{some_name}
use Rattle.java_grammar.proofs.LevelLaws.{some_both}
use Rattle.java_grammar.proofs.MethodLaws.{NoWord, whether_reads, method_reads, method_first}
use Rattle.java_grammar.proofs.DottedLaws.{dotted_reads}

-- ---- the package and the imports

dotted_name_reads : (text : List ℕ) (star : Bool) → Reads (Dotted text star) Any (dotted_name_at text star)
unfolding dotted_name_at
dotted_name_reads text star = of (seq (word text) (seq (one name_in some_name) (join (dotted_reads star) (sign (codes ";")) (λ vs y rest h any. rw (h.1, h.2) refl)))) (λ x. x.1.0 ++ x.1.1.0)

dotted_name_heads : (text : List ℕ) (star : Bool) (p : TokenNode → Bool) (b : Bool) → p (tokens.Word text) ≡ b → Heads p b (Dotted text star) Any
dotted_name_heads text star p b is us x rest h follows = then_heads (Word text) (λ y. Seq (One name_in) (Seq (HasDotted star) (Sign (codes ";")))) p b Any (this_heads (tokens.Word text) p b Any is) us h.0 rest h.1 tt

package_reads : Reads Package (NoWord (codes "package")) package_at
unfolding package_at
package_reads =
    either (is_word (codes "package")) (before (NoWord (codes "package")) (of (dotted_name_reads (codes "package") false) (λ x. Some x)) (λ rest f. tt)) (before (NoWord (codes "package")) (empty None) (λ rest f. tt))
    (λ us x rest h f. dotted_name_heads (codes "package") false (is_word (codes "package")) true refl us h.0 rest h.1 tt)
    (λ us x rest h f. ap (λ (ts : List Tok). first_is (is_word (codes "package")) (ts ++ rest)) h.0 ∙ f)

abbrev Import : Rule (List ℕ)
Import = Dotted (codes "import") true

-- no import goes on here
abbrev NoImport : List Tok → Type 0
NoImport rest = IsOver is_no_import rest

import_over : (us : List Tok) (x : List ℕ) (rest : List Tok) → Import us x → is_over (λ (t : Tok). is_no_import t.token.node) (us ++ rest) ≡ false
import_over us x rest h = let s = h.1 in ap (λ (ts : List Tok). is_over (λ (t : Tok). is_no_import t.token.node) (ts ++ rest)) (s.2 ∙ ap (λ (ts : List Tok). ts ++ s.1) s.3.1) ∙ ap is_no_import s.3.2

imports_reads : Reads (Many Import) NoImport imports_at
unfolding imports_at
imports_reads =
    before NoImport
    (many is_no_import (dotted_name_reads (codes "import") true) (λ us x h. omega (arith, ap length h.1.2, length-append h.1.0 h.1.1, ap length h.1.3.1)) import_over (λ us x rest h. tt))
    (λ rest f. (f, tt))

-- ---- the class

methods_reads : (room : ℕ) → Reads (Made (λ x. x.1.0) (Seq (Opening room (codes "{")) (Seq (Many (Method (pred room))) (Sign (codes "}"))))) Any (methods_at room)
unfolding methods_at
methods_reads room = of (enclosed room (codes "{") (some_both all.sound.some (sign (codes "}")).sound.some) (λ m e. join all (sign (codes "}")) (λ vs y rest h any. rw (h.1, h.2) refl))) (λ x. x.1.0)
  where
    all : Reads (Many (Method (pred room))) (IsOver is_close) (many_at is_close (method_at (pred room)))
    all =
        before (IsOver is_close)
        (many is_close (method_reads (pred room))
        (λ us m h. let s = method_first (pred room) us m h in omega (arith, ap length s.3))
        (λ us m rest h. let s = method_first (pred room) us m h in ap (λ (ts : List Tok). is_over (λ (t : Tok). is_close t.token.node) (ts ++ rest)) s.3 ∙ ap is_close s.4)
        (λ us m rest h. tt))
        (λ rest f. (f, tt))

class_reads : (room : ℕ) → Reads (Class room) Any (class_at room)
unfolding class_at
class_reads room =
    turned (Class room) (of (seq (word (codes "class")) (seq (one name_in some_name) (methods_reads room))) (λ x. x.1))
    (λ us x h.
    let p = h.1 in
    let q = p.4 in
    let m = q.4 in
    ((tt, (h.0.1.0, m.0)), (p.0, p.1, p.2, p.3, (q.0, q.1, q.2, q.3, m.1)), h.2 ∙ ap (λ (ms : List PlainMethod). (h.0.1.0, ms)) m.2))
    (λ us x h.
    let p = h.1 in
    let q = p.4 in
    ((tt, (h.0.1.0, h.0.1.1.1.0)), (p.0, p.1, p.2, p.3, (q.0, q.1, q.2, q.3, (h.0.1.1, q.4, refl))), h.2))

class_heads : (room : ℕ) (p : TokenNode → Bool) (b : Bool) → p (tokens.Word (codes "class")) ≡ b → Heads p b (Class room) Any
class_heads room p b is us x rest h follows = then_heads (Word (codes "class")) (λ y. Seq (One name_in) (Seq (Opening room (codes "{")) (Seq (Many (Method (pred room))) (Sign (codes "}"))))) p b Any (this_heads (tokens.Word (codes "class")) p b Any is) us h.0 rest h.1 tt

-- ---- what stands behind

abbrev PublicClass : ℕ → Rule (Bool × (List ℕ × List PlainMethod))
PublicClass room = Seq (Whether (codes "public")) (Class room)

public_class_heads : (room : ℕ) (p : TokenNode → Bool) (b : Bool) → p (tokens.Word (codes "public")) ≡ b → p (tokens.Word (codes "class")) ≡ b → Heads p b (PublicClass room) Any
public_class_heads room p b is_public is_class us y rest h follows = ap (λ (ts : List Tok). first_is p (ts ++ rest)) h.2 ∙ ap (λ (ts : List Tok). first_is p ts) (append_assoc h.0 h.1 rest) ∙ by h.3
  where
    by : Whether (codes "public") h.0 y.0 → first_is p (h.0 ++ (h.1 ++ rest)) ≡ b
    by (inl k) = this_heads (tokens.Word (codes "public")) p b Any is_public h.0 tt (h.1 ++ rest) k.1 tt
    by (inr k) = ap (λ (ts : List Tok). first_is p (ts ++ (h.1 ++ rest))) k.0 ∙ class_heads room p b is_class h.1 y.1 rest h.4 tt

imports_heads : (room : ℕ) (p : TokenNode → Bool) (b : Bool) → p (tokens.Word (codes "import")) ≡ b → p (tokens.Word (codes "public")) ≡ b → p (tokens.Word (codes "class")) ≡ b → Heads p b (Seq (Many Import) (PublicClass room)) Any
imports_heads room p b is_import is_public is_class us y rest h follows = ap (λ (ts : List Tok). first_is p (ts ++ rest)) h.2 ∙ ap (λ (ts : List Tok). first_is p ts) (append_assoc h.0 h.1 rest) ∙ by y.0 h.3
  where
    by : (xs : List (List ℕ)) → Many Import h.0 xs → first_is p (h.0 ++ (h.1 ++ rest)) ≡ b
    by [] k = ap (λ (ts : List Tok). first_is p (ts ++ (h.1 ++ rest))) k ∙ public_class_heads room p b is_public is_class h.1 y.1 rest h.4 tt
    by (x ∷ xs) k = ap (λ (ts : List Tok). first_is p (ts ++ (h.1 ++ rest))) k.2 ∙ ap (λ (ts : List Tok). first_is p ts) (append_assoc k.0 k.1 (h.1 ++ rest)) ∙ dotted_name_heads (codes "import") true p b is_import k.0 x (k.1 ++ (h.1 ++ rest)) k.3 tt

over_first : (stop : TokenNode → Bool) (rest : List Tok) → first_is stop rest ≡ true → IsOver stop rest
over_first stop [] e = refl
over_first stop (t ∷ rest) e = e

-- ---- programs

pub programs_read : (room : ℕ) → Reads (ProgramIn room) Any (program_in room)
unfolding program_in
programs_read room =
    of (join package_reads (join imports_reads (join (whether_reads (codes "public")) (class_reads room) (λ vs y rest h any. class_heads room (is_word (codes "public")) false refl vs y rest h tt))
    (λ vs y rest h any. over_first is_no_import (vs ++ rest) (public_class_heads room is_no_import true refl refl vs y rest h tt)))
    (λ vs y rest h any. imports_heads room (is_word (codes "package")) false refl refl refl vs y rest h tt))
    (λ x. record { «package» = x.0; imports = x.1.0; public = x.1.1.0; name = x.1.1.1.0; methods = x.1.1.1.1 })

pub program_reads : Reads HasProgram Any program_at
program_reads = programs_read deepest
