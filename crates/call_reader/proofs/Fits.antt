-- What good tokens have is a tree of the grammar that can be written: methods and programs.
use Rattle.std.proofs.Common.{◌≡◌, ℕ, Bool, true, false, cond, List, [], ◌∷◌, ◌++◌, refl, sym, ap, subst, ◌∙◌, arith, codes, Option, Some, None, Ok, inl, inr}
use Rattle.std.specs.Prelude.{pred, ◌==◌}
use Rattle.std.specs.Str.{bytes_eq}
use Rattle.std.proofs.lemmas.Bool.Decides.{nat_tests}
use Rattle.java_ast.specs.Tree as plain
use Rattle.java_ast.specs.Tree.{Spelled, PlainParam, PlainMethod, PlainProgram}
use Rattle.java_lex.specs.declared.token.Token.{Token}
use Rattle.java_lex.specs.declared.token.Tokens.{Tokens}
use Rattle.java_lex.specs.Lexing.{lexed}
use Rattle.qbs_base.specs.Bytes.{is_name_start, is_name_part}
use Rattle.java_lex.proofs.Lengths.{on_cond}
use Rattle.java_grammar.specs.Marks.{Tok, all_strict}
use Rattle.java_grammar.specs.Rules.{Rule, Many}
use Rattle.java_grammar.specs.Words.{by_word, is_name, scalar_type}
use Rattle.java_grammar.specs.Statements.{Parenthesised}
use Rattle.java_grammar.specs.Grammar.{Result, Parameter, NextParameter, Parameters, Method, HasDotted, ended, starred, dotted, Dotted, Package, Class, HasProgram}
use Rattle.java_grammar.specs.Written.{IsWord, is_word, are_name_parts, onto_first, parts_of, AreWords, AreWordsOrStar, WrittenType, WrittenStatements, WrittenParams, WrittenResult, WrittenMethods, WrittenPackage, WrittenImports, IsWritten}
use Rattle.java_grammar.specs.InGrammar.{IsScalarType, InResult, InParams, InMethod, InMethods, AreNames, AreNamesOrStar, InDotted, InPackage, InImports, IsInGrammar}
use Rattle.java_grammar.proofs.Fixed.{both_true}
use Rattle.java_grammar.proofs.Good.{AllGood, lexed_good}
use Rattle.java_grammar.proofs.Fitting.{GoodToks, good_split, good_parts, NodeOf, node_of, WordFits, name_fits, by_word_fits, OfSome, of_some, of_none}
use Rattle.java_grammar.proofs.Fitted.{TypeFits, type_fits, StatementsFit, block_fits}
use Rattle.call_reader.specs.SpelledOut.{spelled_out}
use Rattle.call_reader.specs.WithCalls.{IsReadableWithCalls}
use Rattle.call_reader.proofs.Spelled.{spelled_out_good}
use Rattle.java_grammar.proofs.Programs.{word_no_star}

-- ---- types

inside_of : {A : Type 0} → (Q : A → Type 0) (room : ℕ) (P : Rule A) (us : List Tok) (x : A) → ((vs : List Tok) (y : A) → P vs y → GoodToks vs → Q y) → Parenthesised room P us x → GoodToks us → Q x
inside_of Q room P us x f (y, (a, b, e, o, (c, d, k, h, cl)), is) g =
    let s : GoodToks a × GoodToks b = good_parts us a b e g in
    subst Q (sym is) (f c y.1.0 h (good_parts b c d k s.1).0)

-- ---- methods

record ResultFits (result : Option Spelled) : Type 0 where
  inside : InResult result
  written : WrittenResult result

result_fits : (us : List Tok) (result : Option Spelled) → Result us result → GoodToks us → ResultFits result
result_fits us result (inl (y, h, is)) g = subst ResultFits (sym is) (record { inside = tt; written = tt })
result_fits us result (inr (y, h, is)) g = let f : TypeFits y = type_fits us y h g in subst ResultFits (sym is) (record { inside = f.type; written = f.written })

-- the type of a parameter
record ScalarType (ty : Spelled) : Type 0 where
  scalar : IsScalarType ty
  written : WrittenType ty

scalar_type_is : (w : List ℕ) → OfSome ScalarType (scalar_type w)
scalar_type_is w =
    on_cond (OfSome ScalarType) (bytes_eq w (codes "int")) (Some plain.Int) _ (λ e. of_some ScalarType plain.Int (record { scalar = tt; written = tt }))
    (λ _. on_cond (OfSome ScalarType) (bytes_eq w (codes "long")) (Some plain.Long) _ (λ e. of_some ScalarType plain.Long (record { scalar = tt; written = tt }))
    (λ _. on_cond (OfSome ScalarType) (bytes_eq w (codes "boolean")) (Some plain.Boolean) _ (λ e. of_some ScalarType plain.Boolean (record { scalar = tt; written = tt }))
    (λ _. on_cond (OfSome ScalarType) (bytes_eq w (codes "String")) (Some plain.String) None (λ e. of_some ScalarType plain.String (record { scalar = tt; written = tt })) (λ e. of_none ScalarType))))

record ParamFits (p : PlainParam) : Type 0 where
  type : ScalarType p.ty
  name : WordFits is_name p.name

param_fits : (us : List Tok) (p : PlainParam) → Parameter us p → GoodToks us → ParamFits p
param_fits us p (y, (a, b, e, ty, n), is) g =
    let s : GoodToks a × GoodToks b = good_parts us a b e g in
    let k : NodeOf (by_word scalar_type) y.0 = node_of (by_word scalar_type) a y.0 ty s.0 in
    subst ParamFits (sym is) (record { type = by_word_fits ScalarType scalar_type k.node y.0 (λ w l f. scalar_type_is w y.0 f) k.gives k.good; name = name_fits b y.1 n s.1 })

record ParamsFit (ps : List PlainParam) : Type 0 where
  inside : InParams ps
  written : WrittenParams ps

one_more_param : (p : PlainParam) (ps : List PlainParam) → ParamFits p → ParamsFit ps → ParamsFit (p ∷ ps)
one_more_param p ps f k = record { inside = (f.type.scalar, f.name.passed, k.inside); written = (f.type.written, f.name.word, k.written) }

further_params : (us : List Tok) (ps : List PlainParam) → Many NextParameter us ps → GoodToks us → ParamsFit ps
further_params us [] h g = record { inside = tt; written = tt }
further_params us (p ∷ ps) (a, b, e, (y, (c, d, k, comma, h), is), rest) g =
    let s : GoodToks a × GoodToks b = good_parts us a b e g in
    one_more_param p ps (subst ParamFits (sym is) (param_fits d y.1 h (good_parts a c d k s.0).1)) (further_params b ps rest s.1)

params_fit : (us : List Tok) (ps : List PlainParam) → Parameters us ps → GoodToks us → ParamsFit ps
params_fit us ps (inl (y, (a, b, e, h, rest), is)) g =
    let s : GoodToks a × GoodToks b = good_parts us a b e g in
    subst ParamsFit (sym is) (one_more_param y.0 y.1 (param_fits a y.0 h s.0) (further_params b y.1 rest s.1))
params_fit us ps (inr h) g = subst ParamsFit (sym h.1) (record { inside = tt; written = tt })

record MethodFits (m : PlainMethod) : Type 0 where
  inside : InMethod m
  written : WrittenResult m.result × IsWord m.name × WrittenParams m.params × WrittenStatements m.body

method_fits : (room : ℕ) (us : List Tok) (m : PlainMethod) → Method room us m → GoodToks us → MethodFits m
method_fits room us m (y, (a, b, e, access, (c, d, f, fixed, (i, j, k, r, (l, n, o, w, (p, q, s, ps, body))))), is) g =
    let t : GoodToks a × GoodToks b = good_parts us a b e g in
    let u : GoodToks c × GoodToks d = good_parts b c d f t.1 in
    let v : GoodToks i × GoodToks j = good_parts d i j k u.1 in
    let x : GoodToks l × GoodToks n = good_parts j l n o v.1 in
    let z : GoodToks p × GoodToks q = good_parts n p q s x.1 in
    let fr : ResultFits y.1.1.0 = result_fits i y.1.1.0 r v.0 in
    let fn : WordFits is_name y.1.1.1.0 = name_fits l y.1.1.1.0 w x.0 in
    let fp : ParamsFit y.1.1.1.1.0 = inside_of ParamsFit room Parameters p y.1.1.1.1.0 (λ vs xs h k. params_fit vs xs h k) ps z.0 in
    let fb : StatementsFit y.1.1.1.1.1 = block_fits room q y.1.1.1.1.1 body z.1 in
    subst MethodFits (sym is) (record { inside = record { result = fr.inside; name = fn.passed; params = fp.inside; body = fb.inside }; written = (fr.written, fn.word, fp.written, fb.written) })

record MethodsFit (ms : List PlainMethod) : Type 0 where
  inside : InMethods ms
  written : WrittenMethods ms

methods_fit : (room : ℕ) (us : List Tok) (ms : List PlainMethod) → Many (Method room) us ms → GoodToks us → MethodsFit ms
methods_fit room us [] h g = record { inside = tt; written = tt }
methods_fit room us (m ∷ ms) (a, b, e, h, rest) g =
    let s : GoodToks a × GoodToks b = good_parts us a b e g in
    let f : MethodFits m = method_fits room a m h s.0 in
    let k : MethodsFit ms = methods_fit room b ms rest s.1 in
    record { inside = (f.inside, k.inside); written = (f.written, k.written) }

-- ---- dotted names

part_no_dot : (b : ℕ) → is_name_part b ≡ true → (b == 46) ≡ false
part_no_dot b h = grind (arith, nat_tests, h)

start_no_dot : (b : ℕ) → is_name_start b ≡ true → (b == 46) ≡ false
start_no_dot b h = grind (arith, nat_tests, h)

-- the parts behind a word, and before a dot or the end
onto_word : (b : ℕ) (bs : List ℕ) (tail : List ℕ) (parts : List (List ℕ)) → (b == 46) ≡ false → parts_of (bs ++ tail) ≡ bs ∷ parts → parts_of ((b ∷ bs) ++ tail) ≡ (b ∷ bs) ∷ parts
onto_word b bs tail parts e h = ap (λ (v : Bool). cond {A = List (List ℕ)} v ([] ∷ parts_of (bs ++ tail)) (onto_first b (parts_of (bs ++ tail)))) e ∙ ap (onto_first b) h

parts_behind : (bs : List ℕ) (tail : List ℕ) (parts : List (List ℕ)) → are_name_parts bs ≡ true → parts_of tail ≡ [] ∷ parts → parts_of (bs ++ tail) ≡ bs ∷ parts
parts_behind [] tail parts h e = e
parts_behind (b ∷ bs) tail parts h e =
    let t : (is_name_part b ≡ true) × (are_name_parts bs ≡ true) = both_true (is_name_part b) (are_name_parts bs) h in
    onto_word b bs tail parts (part_no_dot b t.0) (parts_behind bs tail parts t.1 e)

word_parts : (w tail : List ℕ) (parts : List (List ℕ)) → is_word w ≡ true → parts_of tail ≡ [] ∷ parts → parts_of (w ++ tail) ≡ w ∷ parts
word_parts [] tail parts h e = absurd cc
word_parts (b ∷ bs) tail parts h e =
    let t : (is_name_start b ≡ true) × (are_name_parts bs ≡ true) = both_true (is_name_start b) (are_name_parts bs) h in
    onto_word b bs tail parts (start_no_dot b t.0) (parts_behind bs tail parts t.1 e)

-- names with dots before them, of which the last may be a star
record BehindFits (star : Bool) (rest : List ℕ) : Type 0 where
  parts : List (List ℕ)
  are : parts_of rest ≡ [] ∷ parts
  names : cond star (AreNamesOrStar parts) (AreNames parts)
  words : cond star (AreWordsOrStar parts) (AreWords parts)

more_names : (star : Bool) (w : List ℕ) (rest : List ℕ) → WordFits is_name w → BehindFits star rest → BehindFits star (codes "." ++ (w ++ rest))
more_names star w rest n f = by star f
  where
    or_star : (ps : List (List ℕ)) → AreNamesOrStar ps → AreNamesOrStar (w ∷ ps)
    or_star [] h = n.passed
    or_star (p ∷ ps) h = (n.passed, word_no_star w n.word, h)

    or_star_words : (ps : List (List ℕ)) → AreWordsOrStar ps → AreWordsOrStar (w ∷ ps)
    or_star_words [] h = rw (word_no_star w n.word, n.word) refl
    or_star_words (p ∷ ps) h = (n.word, h)

    by : (star : Bool) → BehindFits star rest → BehindFits star (codes "." ++ (w ++ rest))
    by true f = record { parts = w ∷ f.parts; are = ap (λ (ps : List (List ℕ)). [] ∷ ps) (word_parts w rest f.parts n.word f.are); names = or_star f.parts f.names; words = or_star_words f.parts f.words }
    by false f = record { parts = w ∷ f.parts; are = ap (λ (ps : List (List ℕ)). [] ∷ ps) (word_parts w rest f.parts n.word f.are); names = (n.passed, word_no_star w n.word, f.names); words = (n.word, f.words) }

nothing_behind : (star : Bool) → BehindFits star []
nothing_behind true = record { parts = []; are = refl; names = tt; words = tt }
nothing_behind false = record { parts = []; are = refl; names = tt; words = tt }

behind_fits : (star : Bool) (us : List Tok) (rest : List ℕ) → HasDotted star us rest → GoodToks us → BehindFits star rest
behind_fits star us rest ended g = nothing_behind star
behind_fits star us rest (starred dot s) g = record { parts = codes "*" ∷ []; are = refl; names = refl; words = refl }
behind_fits star us rest (dotted {us = a} {vs = b} {ws = c} {w} {rest = more} dot n h) g =
    let s = good_split a (b ++ c) g in
    let t = good_split b c s.1 in
    more_names star w more (name_fits b w n t.0) (behind_fits star c more h t.1)

record DottedFits (star : Bool) (name : List ℕ) : Type 0 where
  first : List ℕ
  parts : List (List ℕ)
  are : parts_of name ≡ first ∷ parts
  word : WordFits is_name first
  names : cond star (AreNamesOrStar parts) (AreNames parts)
  words : cond star (AreWordsOrStar parts) (AreWords parts)

dotted_fits : (kw : List ℕ) (star : Bool) (us : List Tok) (name : List ℕ) → Dotted kw star us name → GoodToks us → DottedFits star name
dotted_fits kw star us name (y, (a, b, e, w, (c, d, k, n, (i, j, l, h, end))), is) g =
    let s : GoodToks a × GoodToks b = good_parts us a b e g in
    let t : GoodToks c × GoodToks d = good_parts b c d k s.1 in
    let f : WordFits is_name y.1.0 = name_fits c y.1.0 n t.0 in
    let r : BehindFits star y.1.1.0 = behind_fits star i y.1.1.0 h (good_parts d i j l t.1).0 in
    subst (DottedFits star) (sym is) (record { first = y.1.0; parts = r.parts; are = word_parts y.1.0 y.1.1.0 r.parts f.word r.are; word = f; names = r.names; words = r.words })

record PackageFits (name : Option (List ℕ)) : Type 0 where
  inside : InPackage name
  written : WrittenPackage name

package_is : (name : List ℕ) → DottedFits false name → PackageFits (Some name)
package_is name f = record {
  inside = subst (λ (ps : List (List ℕ)). InDotted AreNames ps) (sym f.are) (f.word.passed, word_no_star f.first f.word.word, f.names);
  written = subst AreWords (sym f.are) (f.word.word, f.words);
}

package_fits : (us : List Tok) (name : Option (List ℕ)) → Package us name → GoodToks us → PackageFits name
package_fits us name (inl (y, h, is)) g = subst PackageFits (sym is) (package_is y (dotted_fits (codes "package") false us y h g))
package_fits us name (inr h) g = subst PackageFits (sym h.1) (record { inside = tt; written = tt })

first_or_star : (w : List ℕ) (ps : List (List ℕ)) → is_word w ≡ true → AreWordsOrStar ps → AreWordsOrStar (w ∷ ps)
first_or_star w [] h k = rw (word_no_star w h, h) refl
first_or_star w (p ∷ ps) h k = (h, k)

record ImportsFit (names : List (List ℕ)) : Type 0 where
  inside : InImports names
  written : WrittenImports names

imports_fit : (us : List Tok) (names : List (List ℕ)) → Many (Dotted (codes "import") true) us names → GoodToks us → ImportsFit names
imports_fit us [] h g = record { inside = tt; written = tt }
imports_fit us (name ∷ names) (a, b, e, h, rest) g =
    let s : GoodToks a × GoodToks b = good_parts us a b e g in
    let f : DottedFits true name = dotted_fits (codes "import") true a name h s.0 in
    let k : ImportsFit names = imports_fit b names rest s.1 in
    record {
      inside = (subst (λ (ps : List (List ℕ)). InDotted AreNamesOrStar ps) (sym f.are) (f.word.passed, word_no_star f.first f.word.word, f.names), k.inside);
      written = (subst AreWordsOrStar (sym f.are) (first_or_star f.first f.parts f.word.word f.words), k.written);
    }

-- ---- the program

record ClassFits (c : List ℕ × List PlainMethod) : Type 0 where
  name : WordFits is_name c.0
  methods : MethodsFit c.1

class_fits : (room : ℕ) (us : List Tok) (c : List ℕ × List PlainMethod) → Class room us c → GoodToks us → ClassFits c
class_fits room us x (y, (a, b, e, w, (c, d, k, n, (i, j, l, o, (m, p, q, ms, cl)))), is) g =
    let s : GoodToks a × GoodToks b = good_parts us a b e g in
    let t : GoodToks c × GoodToks d = good_parts b c d k s.1 in
    let u : GoodToks i × GoodToks j = good_parts d i j l t.1 in
    subst ClassFits (sym is) (record { name = name_fits c y.1.0 n t.0; methods = methods_fit (pred room) m y.1.1.1.0 ms (good_parts j m p q u.1).0 })

record ProgramFits (p : PlainProgram) : Type 0 where
  inside : IsInGrammar p
  written : IsWritten p

program_fits : (us : List Tok) (p : PlainProgram) → HasProgram us p → GoodToks us → ProgramFits p
program_fits us p (y, (a, b, e, h, (c, d, k, i, (l, m, n, w, class))), is) g =
    let s : GoodToks a × GoodToks b = good_parts us a b e g in
    let t : GoodToks c × GoodToks d = good_parts b c d k s.1 in
    let u : GoodToks l × GoodToks m = good_parts d l m n t.1 in
    let fp : PackageFits y.0 = package_fits a y.0 h s.0 in
    let fi : ImportsFit y.1.0 = imports_fit c y.1.0 i t.0 in
    let fc : ClassFits y.1.1.1 = class_fits _ m y.1.1.1 class u.1 in
    subst ProgramFits (sym is) (record {
      inside = record { «package» = fp.inside; imports = fi.inside; name = fc.name.passed; methods = fc.methods.inside };
      written = record { «package» = fp.written; imports = fi.written; name = fc.name.word; methods = fc.methods.written };
    })

good_tokens : (ts : List Token) → AllGood ts → GoodToks (all_strict ts)
good_tokens [] g = tt
good_tokens (t ∷ ts) g = (g.0, good_tokens ts g.1)

-- so the tokens of a text with calls spelled out
pub program_with_calls_fits : (text : List ℕ) (tokens : Tokens) (p : PlainProgram) → lexed text ≡ Ok tokens → IsReadableWithCalls tokens.list p → IsInGrammar p × IsWritten p
program_with_calls_fits text tokens p e h =
    let f : ProgramFits p = program_fits (all_strict (spelled_out tokens.list)) p h (good_tokens (spelled_out tokens.list) (spelled_out_good tokens.list (lexed_good text tokens e))) in
    (f.inside, f.written)
