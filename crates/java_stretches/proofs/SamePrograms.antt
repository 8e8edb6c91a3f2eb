-- The programs of tokens with the same nodes are the same but for places.
use Rattle.std.proofs.Common.{◌≡◌, ℕ, pred, Bool, true, false, List, [], ◌∷◌, ◌++◌, Option, codes, refl, sym, ap, subst, ◌∙◌}
use Rattle.java_ast.specs.declared.tree.Access.{Access}
use Rattle.java_ast.specs.Tree.{Spelled, PlainParam, Statements, PlainMethod, PlainProgram}
use Rattle.java_ast.specs.Unplaced.{nowhere, unplaced_block, unplaced_method, unplaced_methods, unplaced_program}
use Rattle.java_limits.specs.Limits.{deepest}
use Rattle.java_lex.specs.Cutting.{nodes_of}
use Rattle.java_lex.specs.declared.token.Token.{Token}
use Rattle.java_grammar.specs.Marks.{Tok, all_free}
use Rattle.java_grammar.specs.Rules.{Many}
use Rattle.java_grammar.specs.Words.{by_word, name_in, scalar_type}
use Rattle.java_grammar.specs.Statements.{HasBlock}
use Rattle.java_grammar.specs.Grammar.{Reached, Whether, Result, Parameter, Parameters, Method, HasDotted, ended, starred, dotted, Dotted, Package, Class, ProgramIn, IsProgram}
use Rattle.java_grammar.specs.ReadBack.{SameProgram}
use Rattle.java_stretches.proofs.SameNodes.{Twin, twins, Halves, halves, halves_of, Thirds, thirds, none_left, Stays, stays_empty, stays_one, stays_opening, stays_seq, stays_or, stays_made, stays_many, Moves, Same, Both, moves_same, moves_seq, moves_made, moves_placed}
use Rattle.java_stretches.proofs.SameExpressions.{stays_sign, stays_word}
use Rattle.java_stretches.proofs.SameStatements.{parentheses_stay, spellings_stay, AlikeBlock, move_block}

-- ---- heads

accesses_stay : Stays Reached
accesses_stay = stays_or (stays_made (stays_word (codes "public")) _) (stays_or (stays_made (stays_word (codes "private")) _) (stays_empty _))

words_stay : (text : List ℕ) → Stays (Whether text)
words_stay text = stays_or (stays_made (stays_word text) _) (stays_empty false)

results_stay : Stays Result
results_stay = stays_or (stays_made (stays_word (codes "void")) _) (stays_made spellings_stay _)

parameters_stay : Stays Parameters
parameters_stay = stays_or (stays_made (stays_seq parameter (stays_many (stays_made (stays_seq (stays_sign (codes ",")) parameter) _))) _) (stays_empty _)
  where
    parameter : Stays Parameter
    parameter = stays_made (stays_seq (stays_one (by_word scalar_type)) (stays_one name_in)) _

parts_stay : {star : Bool} {us : List Tok} {text : List ℕ} → HasDotted star us text → (vs : List Tok) → Twin us vs → HasDotted star vs text
parts_stay (ended {star}) vs w = subst (λ (zs : List Tok). HasDotted star zs []) (sym (none_left [] vs refl w)) ended
parts_stay (starred {us} {vs = more} d s) vs w =
    let p : Halves us more vs = halves us more vs w in
    subst (λ (zs : List Tok). HasDotted true zs (codes ".*")) (sym p.parts) (starred ((stays_sign (codes ".")).by us p.front tt p.first d) ((stays_sign (codes "*")).by more p.back tt p.second s))
parts_stay (dotted {star} {us} {vs = more} {ws} {w = name} {rest} d o h) vs w =
    let p : Thirds us more ws vs = thirds us more ws vs w in
    subst (λ (zs : List Tok). HasDotted star zs (codes "." ++ (name ++ rest))) (sym p.parts) (dotted ((stays_sign (codes ".")).by us p.a tt p.first d) ((stays_one name_in).by more p.b name p.second o) (parts_stay h p.c p.third))

dotted_stay : (word : List ℕ) (star : Bool) → Stays (Dotted word star)
dotted_stay word star = stays_made (stays_seq (stays_word word) (stays_seq (stays_one name_in) (stays_seq parts (stays_sign (codes ";"))))) _
  where
    parts : Stays (HasDotted star)
    parts = record { by = λ us vs x w h. parts_stay h vs w }

packages_stay : Stays Package
packages_stay = stays_or (stays_made (dotted_stay (codes "package") false) _) (stays_empty _)

-- ---- methods

abbrev AlikeMethod : PlainMethod → PlainMethod → Type 0
AlikeMethod m n = unplaced_method n ≡ unplaced_method m

blocks_move : (room : ℕ) → Moves AlikeBlock (HasBlock room)
blocks_move room = record { by = λ us vs x w h. move_block h vs w }

abbrev MethodParts : Type 0
MethodParts = Access × (Bool × (Option Spelled × (List ℕ × (List PlainParam × Statements))))

abbrev method_of : MethodParts → Statements → PlainMethod
method_of x body = record { access = x.0; fixed = x.1.0; result = x.1.1.0; name = x.1.1.1.0; params = x.1.1.1.1.0; body = body; span = nowhere }

same_method : (x y : MethodParts) → Both Same (Both Same (Both Same (Both Same (Both Same AlikeBlock)))) x y → method_of y (unplaced_block y.1.1.1.1.1) ≡ method_of x (unplaced_block x.1.1.1.1.1)
same_method (a, (b, (c, (d, (e, f))))) (a', (b', (c', (d', (e', f'))))) (p, (q, (r, (s, (t, u))))) = cc

methods_move : (room : ℕ) → Moves AlikeMethod (Method room)
methods_move room =
    moves_placed AlikeMethod (λ at x. record { access = x.0; fixed = x.1.0; result = x.1.1.0; name = x.1.1.1.0; params = x.1.1.1.1.0; body = x.1.1.1.1.1; span = at }) (λ at there x y r. same_method x y r)
    (moves_seq (moves_same accesses_stay) (moves_seq (moves_same (words_stay (codes "static"))) (moves_seq (moves_same results_stay) (moves_seq (moves_same (stays_one name_in)) (moves_seq (moves_same (parentheses_stay room parameters_stay)) (blocks_move room))))))

all_move : (room : ℕ) (us vs : List Tok) (ms : List PlainMethod) → Twin us vs → Many (Method room) us ms → (ns : List PlainMethod) × Many (Method room) vs ns × (unplaced_methods ns ≡ unplaced_methods ms)
all_move room us vs [] w h = ([], none_left us vs h w, refl)
all_move room us vs (m ∷ ms) w h =
    let p : Halves h.0 h.1 vs = halves_of us h.0 h.1 vs h.2 w in
    let r = (methods_move room).by h.0 p.front m p.first h.3 in
    let q = all_move room h.1 p.back ms p.second h.4 in
    (r.0 ∷ q.0, (p.front, p.back, p.parts, r.1, q.1), ap (λ (z : PlainMethod). z ∷ unplaced_methods q.0) r.2 ∙ ap (λ (zs : List PlainMethod). unplaced_method m ∷ zs) q.2)

abbrev AlikeMethods : List PlainMethod → List PlainMethod → Type 0
AlikeMethods ms ns = unplaced_methods ns ≡ unplaced_methods ms

-- ---- programs

abbrev AlikeClass : List ℕ × List PlainMethod → List ℕ × List PlainMethod → Type 0
AlikeClass = Both Same AlikeMethods

classes_move : (room : ℕ) → Moves AlikeClass (Class room)
classes_move room =
    moves_made AlikeClass (λ x. (x.1.0, x.1.1.1.0)) (λ x y r. (r.1.0, r.1.1.1.0))
    (moves_seq (moves_same (stays_word (codes "class"))) (moves_seq (moves_same (stays_one name_in)) (moves_seq (moves_same (stays_opening room (codes "{"))) (moves_seq bodies (moves_same (stays_sign (codes "}")))))))
  where
    bodies : Moves AlikeMethods (Many (Method (pred room)))
    bodies = record { by = λ us vs x w h. all_move (pred room) us vs x w h }

abbrev AlikeProgram : PlainProgram → PlainProgram → Type 0
AlikeProgram p q = unplaced_program q ≡ unplaced_program p

abbrev ProgramParts : Type 0
ProgramParts = Option (List ℕ) × (List (List ℕ) × (Bool × (List ℕ × List PlainMethod)))

abbrev program_of : ProgramParts → List PlainMethod → PlainProgram
program_of x methods = record { «package» = x.0; imports = x.1.0; public = x.1.1.0; name = x.1.1.1.0; methods = methods }

same_parts : (x y : ProgramParts) → Both Same (Both Same (Both Same AlikeClass)) x y → program_of y (unplaced_methods y.1.1.1.1) ≡ program_of x (unplaced_methods x.1.1.1.1)
same_parts (a, (b, (c, (d, e)))) (a', (b', (c', (d', e')))) (p, (q, (r, (s, t)))) = cc

programs_move : (room : ℕ) → Moves AlikeProgram (ProgramIn room)
programs_move room =
    moves_made AlikeProgram (λ x. record { «package» = x.0; imports = x.1.0; public = x.1.1.0; name = x.1.1.1.0; methods = x.1.1.1.1 }) (λ x y r. same_parts x y r)
    (moves_seq (moves_same packages_stay) (moves_seq (moves_same (stays_many (dotted_stay (codes "import") true))) (moves_seq (moves_same (words_stay (codes "public"))) (classes_move room))))

pub same_program : (ts us : List Token) (p : PlainProgram) → nodes_of ts ≡ nodes_of us → IsProgram ts p → SameProgram us p
same_program ts us p e h = let r = (programs_move deepest).by (all_free ts) (all_free us) p (twins ts us e) h in record { program = r.0; has = r.1; same = r.2 }
