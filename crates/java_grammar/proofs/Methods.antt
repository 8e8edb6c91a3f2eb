-- The tokens of methods and of a program have them by the grammar, but for places.
use Rattle.std.proofs.Common.{◌≡◌, ℕ, Bool, true, false, cond, List, [], ◌∷◌, ◌++◌, refl, sym, ap, subst, ◌∙◌, append_assoc, codes, Option, Some, None, inl, inr}
use Rattle.std.specs.Prelude.{pred}
use Rattle.std.specs.List.{flat_map}
use Rattle.std.proofs.lemmas.List.{append-nil}
use Rattle.std.proofs.lemmas.List.Concat.{flat_map-cons}
use Rattle.java_ast.specs.declared.tree.Access.{Access}
use Rattle.java_ast.specs.declared.tree.Access.TheVariants as accesses
use Rattle.java_ast.specs.Tree as plain
use Rattle.java_ast.specs.Tree.{Spelled, Statements, PlainParam, PlainMethod, PlainProgram}
use Rattle.java_text.specs.Canonical.{canonical}
use Rattle.java_lex.specs.declared.token.Token.{Token}
use Rattle.java_lex.specs.declared.token.TokenNode.{TokenNode}
use Rattle.java_lex.specs.declared.token.TokenNode.TheVariants as nodes
use Rattle.java_lex.specs.Cutting.{nodes_of, HasNodes}
use Rattle.java_grammar.specs.Marks.{Tok, all_free, extent, nowhere}
use Rattle.java_grammar.specs.Rules.{One, Many}
use Rattle.java_grammar.specs.Words.{by_word, scalar_type}
use Rattle.java_grammar.specs.Statements.{Parenthesised}
use Rattle.java_limits.specs.Limits.{deepest}
use Rattle.java_grammar.specs.Grammar.{Reached, Whether, Result, Parameter, NextParameter, Parameters, Method, HasDotted, ended, starred, dotted, Dotted, Package, Class, HasProgram}
use Rattle.java_grammar.specs.Printed.{word, sign, parted, type_tokens, braced_tokens, statements_tokens, access_tokens, word_tokens_if, result_tokens, param_tokens, method_tokens, part_tokens, parts_tokens, package_tokens, import_tokens, tokens_of}
use Rattle.java_ast.specs.Unplaced.{unplaced_method, unplaced_methods, unplaced_program}
use Rattle.java_grammar.specs.InGrammar.{IsName, IsScalarType, InResult, InParams, InMethod, InMethods, AreNames, AreNamesOrStar, InDotted, InPackage, InImports, IsInGrammar}
use Rattle.java_grammar.specs.ReadBack.{SameProgram, IsReadBack}
use Rattle.java_grammar.specs.Written.{parts_of, is_star, IsWritten}
use Rattle.java_grammar.proofs.Signs.{AreTokens, Parts, split, none_left, this_node, opens, one_token, Three, three}
use Rattle.java_grammar.proofs.Derived.{name_has, regroup}
use Rattle.java_grammar.proofs.Stated.{type_has, in_parentheses, BlockFound, block_has, statements_have}
use Rattle.java_grammar.proofs.Programs.{joined, parts_joined, star_is, program_has_tokens}

-- ---- heads of methods

reached_has : (access : Access) (us : List Tok) → AreTokens us (access_tokens access) → Reached us access
reached_has accesses.Plain us h = inr (inr (none_left us h, refl))
reached_has accesses.Public us h = inl (tt, this_node (nodes.Word (codes "public")) us h, refl)
reached_has accesses.Private us h = inr (inl (tt, this_node (nodes.Word (codes "private")) us h, refl))

whether_has : (there : Bool) (w : List ℕ) (us : List Tok) → AreTokens us (word_tokens_if there w) → Whether w us there
whether_has true w us h = inl (tt, this_node (nodes.Word w) us h, refl)
whether_has false w us h = inr (none_left us h, refl)

result_has : (result : Option Spelled) (us : List Tok) → InResult result → AreTokens us (result_tokens result) → Result us result
result_has None us k h = inl (tt, this_node (nodes.Word (codes "void")) us h, refl)
result_has (Some ty) us k h = inr (ty, type_has ty us k h, refl)

scalar_has : (ty : Spelled) (us : List Tok) → IsScalarType ty → AreTokens us (type_tokens ty) → One (by_word scalar_type) us ty
scalar_has plain.Int us k h = one_token (by_word scalar_type) (nodes.Word (codes "int")) plain.Int us refl h
scalar_has plain.Long us k h = one_token (by_word scalar_type) (nodes.Word (codes "long")) plain.Long us refl h
scalar_has plain.Boolean us k h = one_token (by_word scalar_type) (nodes.Word (codes "boolean")) plain.Boolean us refl h
scalar_has plain.String us k h = one_token (by_word scalar_type) (nodes.Word (codes "String")) plain.String us refl h
scalar_has plain.BoxedInteger us k h = absurd k
scalar_has plain.BoxedLong us k h = absurd k
scalar_has plain.BoxedBoolean us k h = absurd k
scalar_has (plain.Table w) us k h = absurd k
scalar_has (plain.ListOf ty) us k h = absurd k
scalar_has (plain.SetOf ty) us k h = absurd k

parameter_has : (p : PlainParam) (us : List Tok) → IsScalarType p.ty → IsName p.name → AreTokens us (param_tokens p) → Parameter us p
parameter_has p us k l h =
    let q : Parts us (type_tokens p.ty) (word p.name) = split (type_tokens p.ty) (word p.name) us h in
    ((p.ty, p.name), (q.front, q.back, q.parts, scalar_has p.ty q.front k q.first, name_has p.name q.back l q.second), refl)

abbrev next_tokens : PlainParam → List TokenNode
next_tokens p = sign (codes ",") ++ param_tokens p

next_have : (ps : List PlainParam) (us : List Tok) → InParams ps → AreTokens us (flat_map next_tokens ps) → Many NextParameter us ps
next_have [] us k h = none_left us h
next_have (p ∷ ps) us k h =
    let g : AreTokens us (next_tokens p ++ flat_map next_tokens ps) = subst (λ (ns : List TokenNode). AreTokens us ns) (flat_map-cons next_tokens p ps) h in
    let q : Parts us (next_tokens p) (flat_map next_tokens ps) = split (next_tokens p) (flat_map next_tokens ps) us g in
    let r : Parts q.front (sign (codes ",")) (param_tokens p) = split (sign (codes ",")) (param_tokens p) q.front q.first in
    (q.front, q.back, q.parts, ((tt, p), (r.front, r.back, r.parts, this_node (nodes.Sign (codes ",")) r.front r.first, parameter_has p r.back k.0 k.1 r.second), refl), next_have ps q.back k.2 q.second)

parameters_have : (ps : List PlainParam) (us : List Tok) → InParams ps → AreTokens us (parted (sign (codes ",")) param_tokens ps) → Parameters us ps
parameters_have [] us k h = inr (none_left us h, refl)
parameters_have (p ∷ ps) us k h =
    let q : Parts us (param_tokens p) (flat_map next_tokens ps) = split (param_tokens p) (flat_map next_tokens ps) us h in
    inl ((p, ps), (q.front, q.back, q.parts, parameter_has p q.front k.0 k.1 q.first, next_have ps q.back k.2 q.second), refl)

-- ---- methods

pub record MethodFound (room : ℕ) (us : List Tok) (m : PlainMethod) : Type 0 where
  pub value : PlainMethod
  pub has : Method room us value
  pub same : unplaced_method value ≡ unplaced_method m

abbrev body_tokens : PlainMethod → List TokenNode
body_tokens m = braced_tokens (statements_tokens m.body)

abbrev parenthesised_tokens : PlainMethod → List TokenNode
parenthesised_tokens m = sign (codes "(") ++ (parted (sign (codes ",")) param_tokens m.params ++ sign (codes ")"))

-- the parts of a method in order
ordered : (a s r n o q c b : List TokenNode) → (((((a ++ s) ++ (r ++ n)) ++ o) ++ q) ++ c) ++ b ≡ a ++ (s ++ (r ++ (n ++ ((o ++ (q ++ c)) ++ b))))
ordered a s r n o q c b =
    ap (λ (ns : List TokenNode). ns ++ b) (append_assoc (((a ++ s) ++ (r ++ n)) ++ o) q c ∙ append_assoc ((a ++ s) ++ (r ++ n)) o (q ++ c))
    ∙ append_assoc ((a ++ s) ++ (r ++ n)) (o ++ (q ++ c)) b
    ∙ append_assoc (a ++ s) (r ++ n) ((o ++ (q ++ c)) ++ b)
    ∙ append_assoc a s ((r ++ n) ++ ((o ++ (q ++ c)) ++ b))
    ∙ ap (λ (ns : List TokenNode). a ++ (s ++ ns)) (append_assoc r n ((o ++ (q ++ c)) ++ b))

method_has : (m : PlainMethod) (room : ℕ) (us : List Tok) → InMethod m → AreTokens us (method_tokens m) → MethodFound room us m
method_has m room us k h =
    let a : List TokenNode = access_tokens m.access in
    let g : AreTokens us (access_tokens m.access ++ (word_tokens_if m.fixed (codes "static") ++ (result_tokens m.result ++ (word m.name ++ (parenthesised_tokens m ++ body_tokens m))))) =
    subst (λ (ns : List TokenNode). AreTokens us ns) (ordered (access_tokens m.access) (word_tokens_if m.fixed (codes "static")) (result_tokens m.result) (word m.name) (sign (codes "(")) (parted (sign (codes ",")) param_tokens m.params) (sign (codes ")")) (body_tokens m)) h in
    let p : Three us (access_tokens m.access) (word_tokens_if m.fixed (codes "static")) (result_tokens m.result ++ (word m.name ++ (parenthesised_tokens m ++ body_tokens m))) = three (access_tokens m.access) (word_tokens_if m.fixed (codes "static")) (result_tokens m.result ++ (word m.name ++ (parenthesised_tokens m ++ body_tokens m))) us g in
    let q : Three p.c (result_tokens m.result) (word m.name) (parenthesised_tokens m ++ body_tokens m) = three (result_tokens m.result) (word m.name) (parenthesised_tokens m ++ body_tokens m) p.c p.third in
    let r : Parts q.c (parenthesised_tokens m) (body_tokens m) = split (parenthesised_tokens m) (body_tokens m) q.c q.third in
    let s : Three r.front (sign (codes "(")) (parted (sign (codes ",")) param_tokens m.params) (sign (codes ")")) = three (sign (codes "(")) (parted (sign (codes ",")) param_tokens m.params) (sign (codes ")")) r.front r.first in
    let b : BlockFound room r.back m.body = block_has room r.back m.body r.second (λ vs t. statements_have m.body (pred room) vs k.body t) in
    let params : Parenthesised room Parameters r.front m.params = subst (λ (vs : List Tok). Parenthesised room Parameters vs m.params) (sym s.parts) (in_parentheses room Parameters s.a s.b s.c m.params s.first (parameters_have m.params s.b k.params s.second) s.third) in
    record {
      value = record { access = m.access; fixed = m.fixed; result = m.result; name = m.name; params = m.params; body = b.values; span = extent us };
      has = (
        (m.access, (m.fixed, (m.result, (m.name, (m.params, b.values))))),
        (
          p.a,
          p.b ++ p.c,
          p.parts,
          reached_has m.access p.a p.first,
          (
            p.b,
            p.c,
            refl,
            whether_has m.fixed (codes "static") p.b p.second,
            (
              q.a,
              q.b ++ q.c,
              q.parts,
              result_has m.result q.a k.result q.first,
              (
                q.b,
                q.c,
                refl,
                name_has m.name q.b k.name q.second,
                (r.front, r.back, r.parts, params, b.has),
              ),
            ),
          ),
        ),
        refl,
      );
      same = ap (λ (ss : Statements). record m { body = ss; span = nowhere }) b.same;
    }

pub record MethodsFound (room : ℕ) (us : List Tok) (ms : List PlainMethod) : Type 0 where
  pub values : List PlainMethod
  pub has : Many (Method room) us values
  pub same : unplaced_methods values ≡ unplaced_methods ms

methods_have : (ms : List PlainMethod) (room : ℕ) (us : List Tok) → InMethods ms → AreTokens us (flat_map method_tokens ms) → MethodsFound room us ms
methods_have [] room us k h = record { values = []; has = none_left us h; same = refl }
methods_have (m ∷ ms) room us k h =
    let g : AreTokens us (method_tokens m ++ flat_map method_tokens ms) = subst (λ (ns : List TokenNode). AreTokens us ns) (flat_map-cons method_tokens m ms) h in
    let p : Parts us (method_tokens m) (flat_map method_tokens ms) = split (method_tokens m) (flat_map method_tokens ms) us g in
    let x : MethodFound room p.front m = method_has m room p.front k.0 p.first in
    let f : MethodsFound room p.back ms = methods_have ms room p.back k.1 p.second in
    record {
      values = x.value ∷ f.values;
      has = (p.front, p.back, p.parts, x.has, f.has);
      same = ap (λ (y : PlainMethod). y ∷ unplaced_methods f.values) x.same ∙ ap (λ (ys : List PlainMethod). unplaced_method m ∷ ys) f.same;
    }

-- ---- dotted names

-- the parts behind the first, each with its dot
abbrev behind_dots : List (List ℕ) → List ℕ
behind_dots [] = []
behind_dots (part ∷ parts) = 46 ∷ joined (part ∷ parts)

abbrev behind_tokens : List (List ℕ) → List TokenNode
behind_tokens [] = []
behind_tokens (part ∷ parts) = sign (codes ".") ++ parts_tokens (part ∷ parts)

joined_is : (part : List ℕ) (parts : List (List ℕ)) → joined (part ∷ parts) ≡ part ++ behind_dots parts
joined_is part [] = sym (append-nil part)
joined_is part (further ∷ parts) = refl

tokens_are : (part : List ℕ) (parts : List (List ℕ)) → parts_tokens (part ∷ parts) ≡ part_tokens part ++ behind_tokens parts
tokens_are part [] = sym (append-nil (part_tokens part))
tokens_are part (further ∷ parts) = refl

part_word : (part : List ℕ) → is_star part ≡ false → part_tokens part ≡ word part
part_word part e = ap (λ (v : Bool). cond v (sign part) (word part)) e

-- names behind dots
names_have : (star : Bool) (parts : List (List ℕ)) (us : List Tok) → AreNames parts → AreTokens us (behind_tokens parts) → HasDotted star us (behind_dots parts)
names_have star [] us k h = subst (λ (vs : List Tok). HasDotted star vs []) (sym (none_left us h)) ended
names_have star (part ∷ parts) us k h =
    let g : AreTokens us (sign (codes ".") ++ (word part ++ behind_tokens parts)) = subst (λ (ns : List TokenNode). AreTokens us (sign (codes ".") ++ ns)) (tokens_are part parts ∙ ap (λ (ns : List TokenNode). ns ++ behind_tokens parts) (part_word part k.1)) h in
    let p : Three us (sign (codes ".")) (word part) (behind_tokens parts) = three (sign (codes ".")) (word part) (behind_tokens parts) us g in
    let d : HasDotted star (p.a ++ (p.b ++ p.c)) (codes "." ++ (part ++ behind_dots parts)) = dotted (this_node (nodes.Sign (codes ".")) p.a p.first) (name_has part p.b k.0 p.second) (names_have star parts p.c k.2 p.third) in
    subst (λ (bs : List ℕ). HasDotted star us bs) (ap (λ (bs : List ℕ). 46 ∷ bs) (sym (joined_is part parts))) (subst (λ (vs : List Tok). HasDotted star vs (codes "." ++ (part ++ behind_dots parts))) (sym p.parts) d)

-- the last part, which may be a star
last_has : (part : List ℕ) (us : List Tok) (v : Bool) → is_star part ≡ v → IsName part → AreTokens us (sign (codes ".") ++ cond v (sign part) (word part)) → HasDotted true us (46 ∷ part)
last_has part us true e k h =
    let p : Parts us (sign (codes ".")) (sign part) = split (sign (codes ".")) (sign part) us h in
    let q : AreTokens p.back (sign (codes "*")) = subst (λ (bs : List ℕ). AreTokens p.back (sign bs)) (star_is part e) p.second in
    let d : HasDotted true (p.front ++ p.back) (codes ".*") = starred (this_node (nodes.Sign (codes ".")) p.front p.first) (this_node (nodes.Sign (codes "*")) p.back q) in
    subst (λ (bs : List ℕ). HasDotted true us bs) (ap (λ (bs : List ℕ). 46 ∷ bs) (sym (star_is part e))) (subst (λ (vs : List Tok). HasDotted true vs (codes ".*")) (sym p.parts) d)
last_has part us false e k h =
    let p : Parts us (sign (codes ".")) (word part) = split (sign (codes ".")) (word part) us h in
    let d : HasDotted true (p.front ++ (p.back ++ [])) (codes "." ++ (part ++ [])) = dotted (this_node (nodes.Sign (codes ".")) p.front p.first) (name_has part p.back k p.second) ended in
    let eq : p.front ++ (p.back ++ []) ≡ us = ap (λ (vs : List Tok). p.front ++ vs) (append-nil p.back) ∙ sym p.parts in
    subst (λ (bs : List ℕ). HasDotted true us bs) (ap (λ (bs : List ℕ). 46 ∷ bs) (append-nil part)) (subst (λ (vs : List Tok). HasDotted true vs (codes "." ++ (part ++ []))) eq d)

names_or_star_have : (parts : List (List ℕ)) (us : List Tok) → AreNamesOrStar parts → AreTokens us (behind_tokens parts) → HasDotted true us (behind_dots parts)
names_or_star_have [] us k h = subst (λ (vs : List Tok). HasDotted true vs []) (sym (none_left us h)) ended
names_or_star_have (part ∷ []) us k h = last_has part us (is_star part) refl k h
names_or_star_have (part ∷ further ∷ parts) us k h =
    let g : AreTokens us (sign (codes ".") ++ (word part ++ behind_tokens (further ∷ parts))) = subst (λ (ns : List TokenNode). AreTokens us (sign (codes ".") ++ (ns ++ behind_tokens (further ∷ parts)))) (part_word part k.1) h in
    let p : Three us (sign (codes ".")) (word part) (behind_tokens (further ∷ parts)) = three (sign (codes ".")) (word part) (behind_tokens (further ∷ parts)) us g in
    let d : HasDotted true (p.a ++ (p.b ++ p.c)) (codes "." ++ (part ++ behind_dots (further ∷ parts))) = dotted (this_node (nodes.Sign (codes ".")) p.a p.first) (name_has part p.b k.0 p.second) (names_or_star_have (further ∷ parts) p.c k.2 p.third) in
    subst (λ (vs : List Tok). HasDotted true vs (codes "." ++ (part ++ behind_dots (further ∷ parts)))) (sym p.parts) d

-- word a . b . c ;
dotted_line : (w : List ℕ) (star : Bool) (part : List ℕ) (parts : List (List ℕ)) (us : List Tok) → IsName part → is_star part ≡ false → ((vs : List Tok) → AreTokens vs (behind_tokens parts) → HasDotted star vs (behind_dots parts)) → AreTokens us ((word w ++ parts_tokens (part ∷ parts)) ++ sign (codes ";")) → Dotted w star us (joined (part ∷ parts))
dotted_line w star part parts us k e behind h =
    let eq : (word w ++ parts_tokens (part ∷ parts)) ++ sign (codes ";") ≡ word w ++ (word part ++ (behind_tokens parts ++ sign (codes ";"))) =
    ap (λ (ns : List TokenNode). (word w ++ ns) ++ sign (codes ";")) (tokens_are part parts ∙ ap (λ (ns : List TokenNode). ns ++ behind_tokens parts) (part_word part e)) in
    let g : AreTokens us (word w ++ (word part ++ (behind_tokens parts ++ sign (codes ";")))) = subst (λ (ns : List TokenNode). AreTokens us ns) eq h in
    let p : Three us (word w) (word part) (behind_tokens parts ++ sign (codes ";")) = three (word w) (word part) (behind_tokens parts ++ sign (codes ";")) us g in
    let q : Parts p.c (behind_tokens parts) (sign (codes ";")) = split (behind_tokens parts) (sign (codes ";")) p.c p.third in (
      (tt, (part, (behind_dots parts, tt))),
      (
        p.a,
        p.b ++ p.c,
        p.parts,
        this_node (nodes.Word w) p.a p.first,
        (p.b, p.c, refl, name_has part p.b k p.second, (q.front, q.back, q.parts, behind q.front q.first, this_node (nodes.Sign (codes ";")) q.back q.second)),
      ),
      joined_is part parts,
    )

package_line : (parts : List (List ℕ)) (us : List Tok) → InDotted AreNames parts → AreTokens us ((word (codes "package") ++ parts_tokens parts) ++ sign (codes ";")) → Dotted (codes "package") false us (joined parts)
package_line [] us k h = absurd k
package_line (part ∷ parts) us k h = dotted_line (codes "package") false part parts us k.0 k.1 (λ vs t. names_have false parts vs k.2 t) h

import_line : (parts : List (List ℕ)) (us : List Tok) → InDotted AreNamesOrStar parts → AreTokens us ((word (codes "import") ++ parts_tokens parts) ++ sign (codes ";")) → Dotted (codes "import") true us (joined parts)
import_line [] us k h = absurd k
import_line (part ∷ parts) us k h = dotted_line (codes "import") true part parts us k.0 k.1 (λ vs t. names_or_star_have parts vs k.2 t) h

package_has : (name : Option (List ℕ)) (us : List Tok) → InPackage name → AreTokens us (package_tokens name) → Package us name
package_has None us k h = inr (none_left us h, refl)
package_has (Some bs) us k h = inl (bs, subst (λ (x : List ℕ). Dotted (codes "package") false us x) (parts_joined bs) (package_line (parts_of bs) us k h), refl)

imports_have : (names : List (List ℕ)) (us : List Tok) → InImports names → AreTokens us (flat_map import_tokens names) → Many (Dotted (codes "import") true) us names
imports_have [] us k h = none_left us h
imports_have (bs ∷ names) us k h =
    let g : AreTokens us (import_tokens bs ++ flat_map import_tokens names) = subst (λ (ns : List TokenNode). AreTokens us ns) (flat_map-cons import_tokens bs names) h in
    let p : Parts us (import_tokens bs) (flat_map import_tokens names) = split (import_tokens bs) (flat_map import_tokens names) us g in
    (p.front, p.back, p.parts, subst (λ (x : List ℕ). Dotted (codes "import") true p.front x) (parts_joined bs) (import_line (parts_of bs) p.front k.0 p.first), imports_have names p.back k.1 p.second)

-- ---- the program

-- a program, but for places
pub record ProgramFound (us : List Tok) (p : PlainProgram) : Type 0 where
  pub value : PlainProgram
  pub has : HasProgram us value
  pub same : unplaced_program value ≡ unplaced_program p

program_order : (a b c d e f g h : List TokenNode) → ((((a ++ b) ++ (((c ++ d) ++ e) ++ f)) ++ g) ++ h) ≡ a ++ (b ++ (c ++ (d ++ (e ++ (f ++ (g ++ h))))))
program_order a b c d e f g h =
    append_assoc ((a ++ b) ++ (((c ++ d) ++ e) ++ f)) g h
    ∙ append_assoc (a ++ b) (((c ++ d) ++ e) ++ f) (g ++ h)
    ∙ append_assoc a b ((((c ++ d) ++ e) ++ f) ++ (g ++ h))
    ∙ ap (λ (ns : List TokenNode). a ++ (b ++ ns)) (append_assoc ((c ++ d) ++ e) f (g ++ h) ∙ regroup c d e (f ++ (g ++ h)))

program_has : (p : PlainProgram) (us : List Tok) → IsInGrammar p → AreTokens us (tokens_of p) → ProgramFound us p
program_has p us k h =
    let g : AreTokens us (package_tokens p.«package» ++ (flat_map import_tokens p.imports ++ (word_tokens_if p.public (codes "public") ++ (word (codes "class") ++ (word p.name ++ (sign (codes "{") ++ (flat_map method_tokens p.methods ++ sign (codes "}")))))))) =
    subst (λ (ns : List TokenNode). AreTokens us ns) (program_order (package_tokens p.«package») (flat_map import_tokens p.imports) (word_tokens_if p.public (codes "public")) (word (codes "class")) (word p.name) (sign (codes "{")) (flat_map method_tokens p.methods) (sign (codes "}"))) h in
    let a : Three us (package_tokens p.«package») (flat_map import_tokens p.imports) (word_tokens_if p.public (codes "public") ++ (word (codes "class") ++ (word p.name ++ (sign (codes "{") ++ (flat_map method_tokens p.methods ++ sign (codes "}")))))) = three (package_tokens p.«package») (flat_map import_tokens p.imports) (word_tokens_if p.public (codes "public") ++ (word (codes "class") ++ (word p.name ++ (sign (codes "{") ++ (flat_map method_tokens p.methods ++ sign (codes "}")))))) us g in
    let b : Parts a.c (word_tokens_if p.public (codes "public")) (word (codes "class") ++ (word p.name ++ (sign (codes "{") ++ (flat_map method_tokens p.methods ++ sign (codes "}"))))) = split (word_tokens_if p.public (codes "public")) (word (codes "class") ++ (word p.name ++ (sign (codes "{") ++ (flat_map method_tokens p.methods ++ sign (codes "}"))))) a.c a.third in
    let c : Three b.back (word (codes "class")) (word p.name) (sign (codes "{") ++ (flat_map method_tokens p.methods ++ sign (codes "}"))) = three (word (codes "class")) (word p.name) (sign (codes "{") ++ (flat_map method_tokens p.methods ++ sign (codes "}"))) b.back b.second in
    let d : Three c.c (sign (codes "{")) (flat_map method_tokens p.methods) (sign (codes "}")) = three (sign (codes "{")) (flat_map method_tokens p.methods) (sign (codes "}")) c.c c.third in
    let f : MethodsFound (pred deepest) d.b p.methods = methods_have p.methods (pred deepest) d.b k.methods d.second in
    let class : Class deepest b.back (p.name, f.values) = (
      (tt, (p.name, (tt, (f.values, tt)))),
      (
        c.a,
        c.b ++ c.c,
        c.parts,
        this_node (nodes.Word (codes "class")) c.a c.first,
        (
          c.b,
          c.c,
          refl,
          name_has p.name c.b k.name c.second,
          (
            d.a,
            d.b ++ d.c,
            d.parts,
            opens deepest (codes "{") d.a d.first,
            (d.b, d.c, refl, f.has, this_node (nodes.Sign (codes "}")) d.c d.third),
          ),
        ),
      ),
      refl,
    ) in
    record {
      value = record { «package» = p.«package»; imports = p.imports; public = p.public; name = p.name; methods = f.values };
      has = (
        (p.«package», (p.imports, (p.public, (p.name, f.values)))),
        (
          a.a,
          a.b ++ a.c,
          a.parts,
          package_has p.«package» a.a k.«package» a.first,
          (
            a.b,
            a.c,
            refl,
            imports_have p.imports a.b k.imports a.second,
            (b.front, b.back, b.parts, whether_has p.public (codes "public") b.front b.first, class),
          ),
        ),
        refl,
      );
      same = ap (λ (ms : List PlainMethod). record p { methods = ms }) f.same;
    }

pub free_tokens : (ts : List Token) → AreTokens (all_free ts) (nodes_of ts)
free_tokens [] = tt
free_tokens (t ∷ ts) = (refl, refl, free_tokens ts)

pub tokens_have_program : (ts : List Token) (p : PlainProgram) → IsInGrammar p → nodes_of ts ≡ tokens_of p → SameProgram ts p
tokens_have_program ts p k e =
    let f : ProgramFound (all_free ts) p = program_has p (all_free ts) k (subst (λ (ns : List TokenNode). AreTokens (all_free ts) ns) e (free_tokens ts)) in
    record { program = f.value; has = f.has; same = f.same }

pub text_is_read_back : (p : PlainProgram) → IsInGrammar p → IsWritten p → IsReadBack (canonical p) p
text_is_read_back p k h =
    let n : HasNodes (canonical p) (tokens_of p) = program_has_tokens p h in
    record { tokens = n.tokens; lexed = n.read; read = tokens_have_program n.tokens.list p k n.same }
