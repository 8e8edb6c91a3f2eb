-- Declarations, statements with bodies and blocks are read exactly.
use Rattle.std.proofs.Common.{◌≡◌, ℕ, pred, Bool, true, false, cond, List, ◌++◌, Option, Some, None, Ok, codes, is_some, refl, sym, ap, subst, ◌∙◌, inl, inr, ◌⊎◌}
use Rattle.std.specs.Str.{bytes_eq}
use Rattle.qbs_base.specs.declared.span.Span.{Span}
use Rattle.java_lex.specs.declared.token.TokenNode.{TokenNode}
use Rattle.java_lex.specs.declared.token.TokenNode.TheVariants as tokens
use Rattle.readers.proofs.Tools.{chosen}
use Rattle.java_ast.specs.Tree.{Spelled, Statement, Declare}
use Rattle.java_grammar.specs.Marks.{Tok, extent}
use Rattle.java_grammar.specs.Rules.{Rule, One, Sign, Seq, Then, Or, Made, Placed}
use Rattle.java_grammar.specs.Words.{is_name, by_word, name_in, word_type, element_type, collection, collection_of}
use Rattle.java_grammar.specs.Types.{Element, Spelling}
use Rattle.java_grammar.specs.Expressions.{ranks}
use Rattle.java_grammar.specs.Statements.{Parenthesised, Value, Increase, Increment, MemberCall, NamedRest, Declaration, IfHead, WhileHead, Walk, ForHead}
use Rattle.java_grammar.specs.Reading.{Reader, first_is, is_word, is_sign}
use Rattle.java_grammar.specs.ReadingTypes.{element_at}
use Rattle.java_grammar.specs.ReadingBodies.{declared_as_at, declaration_at, declared_list_at, is_name_token, typed_rest_at, word_rest_at, named_item_at, if_head_at, while_head_at, walk_at, walk_part_at, for_head_at}
use Rattle.java_grammar.proofs.Sound.{Sound}
use Rattle.java_grammar.proofs.Again.{Leads, Again, Any, Heads, one_heads, then_heads}
use Rattle.java_grammar.proofs.SingleLaws.{same_bytes, this_heads}
use Rattle.java_grammar.proofs.Laws.{Reads, one, word, sign, seq, join, by_value, of, put, either, turned, enclosed}
use Rattle.java_grammar.proofs.TypeLaws.{some_name, some_element, spelling_reads}
use Rattle.java_grammar.proofs.ExpressionLaws.{Follow, closing_follows}
use Rattle.java_grammar.proofs.LevelLaws.{some_both}
use Rattle.java_grammar.proofs.NestLaws.{expression_reads}
use Rattle.java_grammar.proofs.PlainLaws.{condition_reads, value_reads, named_rest_reads}

abbrev some : {A : Type 0} → A → Option A
some x = Some x

-- ---- declarations

abbrev pub DeclaredAs : ℕ → Spelled → Rule (Span → Statement)
DeclaredAs room ty = Made (λ x at. Declare at ty x.0 x.1.1) (Seq (One name_in) (Seq (Sign (codes "=")) (Value room)))

declared_as_reads : (room : ℕ) (ty : Spelled) → Reads (DeclaredAs room ty) Any (declared_as_at room ty)
unfolding declared_as_at
declared_as_reads room ty = of (seq (one name_in some_name) (seq (sign (codes "=")) (value_reads room))) (λ x at. Declare at ty x.0 x.1.1)

abbrev TypedFirst : ℕ → Rule Statement
TypedFirst room = Placed (λ at x. x.1 at) (Then Spelling (DeclaredAs room))

declaration_there : (room : ℕ) (us : List Tok) (x : Statement) → TypedFirst room us x → Declaration room us x
declaration_there room us x h = let d = h.1.4 in ((h.0.0, d.0), (h.1.0, h.1.1, h.1.2, h.1.3, d.1), h.2 ∙ ap (λ (f : Span → Statement). f (extent us)) d.2)

pub declaration_back : (room : ℕ) (us : List Tok) (x : Statement) → Declaration room us x → TypedFirst room us x
declaration_back room us x h = ((h.0.0, λ at. Declare at h.0.0 h.0.1.0 h.0.1.1.1), (h.1.0, h.1.1, h.1.2, h.1.3, (h.0.1, h.1.4, refl)), h.2)

pub declaration_reads : (room : ℕ) → Reads (Declaration room) Any (declaration_at room)
unfolding declaration_at
declaration_reads room = turned (Declaration room) (put (by_value spelling_reads (declared_as_reads room)) (λ at x. x.1 at)) (declaration_there room) (declaration_back room)

element_reads : Reads Element Any element_at
unfolding element_at
element_reads = of (seq (sign (codes "<")) (seq (one (by_word element_type) some_element) (sign (codes ">")))) (λ x. x.1.0)

abbrev pub DeclaredList : ℕ → Bool → Rule (Span → Statement)
DeclaredList room list = Made (λ x. x.1) (Then Element (λ element. DeclaredAs room (collection_of list element)))

declared_list_reads : (room : ℕ) (list : Bool) → Reads (DeclaredList room list) Any (declared_list_at room list)
unfolding declared_list_at
declared_list_reads room list = of (by_value element_reads (λ element. declared_as_reads room (collection_of list element))) (λ x. x.1)

-- ---- behind a name

-- a declaration, where the name before is a type or begins one
abbrev pub DeclaredRest : ℕ → List ℕ → Rule (Span → Statement)
DeclaredRest room w us f = ((ty : Spelled) × (word_type w ≡ Some ty) × DeclaredAs room ty us f) ⊎ ((list : Bool) × (collection w ≡ Some list) × DeclaredList room list us f)

abbrev pub WordRest : ℕ → List ℕ → Rule (Span → Statement)
WordRest room w = Or (DeclaredRest room w) (NamedRest room w)

named_rest_heads : (room : ℕ) (w : List ℕ) (p : TokenNode → Bool) (b : Bool) → p (tokens.Sign (codes "=")) ≡ b → p (tokens.Sign (codes ".")) ≡ b → p (tokens.Sign (codes "+=")) ≡ b → p (tokens.Sign (codes "++")) ≡ b → Heads p b (NamedRest room w) Any
named_rest_heads room w p b equals dot plus count us f rest (inl h) follows = then_heads (Sign (codes "=")) (λ y. Value room) p b Any (this_heads (tokens.Sign (codes "=")) p b Any equals) us h.0 rest h.1 tt
named_rest_heads room w p b equals dot plus count us f rest (inr (inl h)) follows = then_heads (Sign (codes ".")) (λ y. MemberCall room w) p b Any (this_heads (tokens.Sign (codes ".")) p b Any dot) us h.0 rest h.1 tt
named_rest_heads room w p b equals dot plus count us f rest (inr (inr h)) follows = by h.1
  where
    by : Or (Increase room w) (Increment w) us f → first_is p (us ++ rest) ≡ b
    by (inl k) = then_heads (Sign (codes "+=")) (λ y. Value room) p b Any (this_heads (tokens.Sign (codes "+=")) p b Any plus) us k.0 rest k.1 tt
    by (inr k) = then_heads (Sign (codes "++")) (λ y. Sign (codes ";")) p b Any (this_heads (tokens.Sign (codes "++")) p b Any count) us k.0 rest k.1 tt

declared_as_heads : (room : ℕ) (ty : Spelled) → Heads is_name_token true (DeclaredAs room ty) Any
declared_as_heads room ty us f rest h follows = then_heads (One name_in) (λ y. Seq (Sign (codes "=")) (Value room)) is_name_token true Any (one_heads name_in is_name_token true Any (λ n w e. ap is_some e)) us h.0 rest h.1 tt

declared_list_heads : (room : ℕ) (list : Bool) → Heads (is_sign (codes "<")) true (DeclaredList room list) Any
declared_list_heads room list us f rest h follows = then_heads Element (λ element. DeclaredAs room (collection_of list element)) (is_sign (codes "<")) true Any element_heads us h.0 rest h.1 tt
  where
    element_heads : Heads (is_sign (codes "<")) true Element Any
    element_heads us x rest h follows = then_heads (Sign (codes "<")) (λ y. Seq (One (by_word element_type)) (Sign (codes ">"))) (is_sign (codes "<")) true Any (this_heads (tokens.Sign (codes "<")) (is_sign (codes "<")) true Any refl) us h.0 rest h.1 tt

typed_rest_reads : (room : ℕ) (w : List ℕ) (o : Option Spelled) → word_type w ≡ o → collection w ≡ None → Reads (WordRest room w) Any (typed_rest_at room w o)
unfolding typed_rest_at
typed_rest_reads room w None is no_list = turned (WordRest room w) (named_rest_reads room w) (λ us f h. inr h) back
  where
    back : (us : List Tok) (f : Span → Statement) → WordRest room w us f → NamedRest room w us f
    back us f (inl (inl h)) = absurd (let q : some h.0 ≡ None = sym h.1 ∙ is in cc)
    back us f (inl (inr h)) = absurd (let q : some h.0 ≡ None = sym h.1 ∙ no_list in cc)
    back us f (inr h) = h
typed_rest_reads room w (Some ty) is no_list =
    turned (WordRest room w)
    (either is_name_token (declared_as_reads room ty) (named_rest_reads room w) (declared_as_heads room ty) (named_rest_heads room w is_name_token false refl refl refl refl))
    there back
  where
    there : (us : List Tok) (f : Span → Statement) → Or (DeclaredAs room ty) (NamedRest room w) us f → WordRest room w us f
    there us f (inl h) = inl (inl (ty, is, h))
    there us f (inr h) = inr h

    back : (us : List Tok) (f : Span → Statement) → WordRest room w us f → Or (DeclaredAs room ty) (NamedRest room w) us f
    back us f (inl (inl h)) = let same : h.0 ≡ ty = let q : some h.0 ≡ some ty = sym h.1 ∙ is in cc in inl (subst (λ (s : Spelled). DeclaredAs room s us f) same h.2)
    back us f (inl (inr h)) = absurd (let q : some h.0 ≡ None = sym h.1 ∙ no_list in cc)
    back us f (inr h) = inr h

collection_is : (w : List ℕ) (b : Bool) → collection w ≡ some b → (w ≡ codes "List") ⊎ (w ≡ codes "Set")
collection_is w b e =
    elim (chosen (bytes_eq w (codes "List")) (some true) (cond (bytes_eq w (codes "Set")) (some false) None) (some b) e) [
      | inl h ↦ inl (same_bytes w (codes "List") h.0)
      | inr h ↦ elim (chosen (bytes_eq w (codes "Set")) (some false) None (some b) h.1) [
        | inl k ↦ inr (same_bytes w (codes "Set") k.0)
        | inr k ↦ absurd cc
      ]
    ]

-- List and Set are no types, and they are names
pub collection_no_type : (w : List ℕ) (b : Bool) → collection w ≡ some b → (word_type w ≡ None) × (is_name w ≡ true)
collection_no_type w b e = elim (collection_is w b e) [
  | inl h ↦ subst (λ (v : List ℕ). (word_type v ≡ None) × (is_name v ≡ true)) (sym h) (refl, refl)
  | inr h ↦ subst (λ (v : List ℕ). (word_type v ≡ None) × (is_name v ≡ true)) (sym h) (refl, refl)
]

word_rest_reads : (room : ℕ) (w : List ℕ) (o : Option Bool) → collection w ≡ o → Reads (WordRest room w) Any (word_rest_at room w o)
unfolding word_rest_at
word_rest_reads room w None is = typed_rest_reads room w (word_type w) refl is
word_rest_reads room w (Some list) is =
    turned (WordRest room w)
    (either (is_sign (codes "<")) (declared_list_reads room list) (named_rest_reads room w) (declared_list_heads room list) (named_rest_heads room w (is_sign (codes "<")) false refl refl refl refl))
    there back
  where
    there : (us : List Tok) (f : Span → Statement) → Or (DeclaredList room list) (NamedRest room w) us f → WordRest room w us f
    there us f (inl h) = inl (inr (list, is, h))
    there us f (inr h) = inr h

    back : (us : List Tok) (f : Span → Statement) → WordRest room w us f → Or (DeclaredList room list) (NamedRest room w) us f
    back us f (inl (inl h)) = absurd (let q : some h.0 ≡ None = sym h.1 ∙ (collection_no_type w list is).0 in cc)
    back us f (inl (inr h)) = let same : h.0 ≡ list = let q : some h.0 ≡ some list = sym h.1 ∙ is in cc in inl (subst (λ (l : Bool). DeclaredList room l us f) same h.2)
    back us f (inr h) = inr h

-- a declaration, or a statement, that begins with a name
abbrev pub NamedItem : ℕ → Rule Statement
NamedItem room = Placed (λ at x. x.1 at) (Then (One name_in) (WordRest room))

pub named_item_reads : (room : ℕ) → Reads (NamedItem room) Any (named_item_at room)
unfolding named_item_at
named_item_reads room = put (by_value (one name_in some_name) (λ w. word_rest_reads room w (collection w) refl)) (λ at x. x.1 at)

-- ---- heads

pub if_head_reads : (room : ℕ) → Reads (IfHead room) Any (if_head_at room)
unfolding if_head_at
if_head_reads room = of (seq (word (codes "if")) (condition_reads room)) (λ x. x.1)

pub while_head_reads : (room : ℕ) → Reads (WhileHead room) Any (while_head_at room)
unfolding while_head_at
while_head_reads room = of (seq (word (codes "while")) (condition_reads room)) (λ x. x.1)

walk_reads : (room : ℕ) → Reads (Walk room) (Follow ranks) (walk_at room)
unfolding walk_at
walk_reads room = of (seq spelling_reads (seq (one name_in some_name) (seq (sign (codes ":")) (expression_reads room)))) (λ x. (x.0, (x.1.0, x.1.1.1)))

pub walk_part_reads : (room : ℕ) → Reads (Parenthesised room (Walk (pred room))) Any (walk_part_at room)
unfolding walk_part_at
walk_part_reads room = of (enclosed room (codes "(") (some_both (walk_reads (pred room)).sound.some (sign (codes ")")).sound.some) (λ m e. join (walk_reads (pred room)) (sign (codes ")")) (λ vs y rest h any. closing_follows ranks (codes ")") refl vs y rest h))) (λ x. x.1.0)

pub for_head_reads : (room : ℕ) → Reads (ForHead room) Any (for_head_at room)
unfolding for_head_at
for_head_reads room = of (seq (word (codes "for")) (walk_part_reads room)) (λ x. x.1)

-- ---- what may follow, by whether it ends in an `if` without an `else`

abbrev pub NoElse : List Tok → Type 0
NoElse rest = first_is (is_word (codes "else")) rest ≡ false

abbrev pub Ends : Bool → List Tok → Type 0
Ends false rest = Unit {0}
Ends true rest = NoElse rest

abbrev pub Anyhow : {A : Type 0} → (Bool → Rule A) → Rule (Bool × A)
Anyhow G us y = G y.0 us y.1

abbrev pub Ending : {A : Type 0} → (Bool → Rule A) → Bool → Rule (Bool × A)
Ending G b us y = (y.0 ≡ b) × G b us y.1

pub record ReadsBy {A : Type 0} (G : Bool → Rule A) (r : Reader (Bool × A)) : Type 0 where
  pub sound : Sound (Anyhow G) r
  pub again : (b : Bool) (us : List Tok) (x : A) (rest : List Tok) → G b us x → Ends b rest → Leads (r (us ++ rest)) (Ok ((b, x), rest)) us rest

pub ending : {A : Type 0} {G : Bool → Rule A} {r : Reader (Bool × A)} → ReadsBy G r → (b : Bool) → Again (Ending G b) (Ends b) r
ending {A} {G} {r} law b us y rest h follows = subst (λ (c : Bool). Leads (r (us ++ rest)) (Ok ((c, y.1), rest)) us rest) (sym h.0) (law.again b us y.1 rest h.1 follows)

pub no_else_ends : (b : Bool) (rest : List Tok) → NoElse rest → Ends b rest
no_else_ends false rest h = tt
no_else_ends true rest h = h
