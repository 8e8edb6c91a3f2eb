-- The statements of tokens with the same nodes are the same but for places.
use Rattle.std.proofs.Common.{◌≡◌, ℕ, pos, pred, Bool, true, List, [], ◌∷◌, ◌++◌, Option, Some, None, codes, refl, sym, ap, subst, ◌∙◌}
use Rattle.std.specs.Prelude.{not}
use Rattle.std.specs.Option.{option_map}
use Rattle.std.specs.Str.{bytes_eq}
use Rattle.qbs_base.specs.declared.span.Span.{Span}
use Rattle.qbs_base.specs.declared.scalar.Scalar.TheVariants as scalars
use Rattle.java_ast.specs.declared.tree.Op.TheVariants as ops
use Rattle.java_ast.specs.Tree.{Spelled, Expression, Lit, Var, Binary, Statement, Statements, Declare, Assign, Add, Sort, If, IfElse, ForEach, While, Print, Return, Break, Nothing, Then as Followed}
use Rattle.java_ast.specs.Unplaced.{nowhere, unplaced, unplaced_statement, unplaced_block}
use Rattle.java_grammar.specs.Marks.{Tok, extent}
use Rattle.java_grammar.specs.Rules.{Rule}
use Rattle.java_grammar.specs.Words.{by_word, name_in, table_in, word_type, element_type, collection, is_number_type}
use Rattle.java_grammar.specs.Types.{Spelling, KeyColumn, Key}
use Rattle.java_grammar.specs.Statements.{Parenthesised, Condition, Value, Where, Assignment, Increase, Increment, Addition, Printing, Further, keys_in, downs_in, Keys, Sorting, MemberCall, NamedRest, Named, Returning, Breaking, Plain, Declaration, IfHead, WhileHead, Walk, ForHead, Opens, HasStatement, plain, if_alone, if_else, for_each, while, HasBody, block, single, HasBlock, braces, HasStatements, none, declared, stated}
use Rattle.java_stretches.proofs.SameNodes.{Twin, Halves, halves, Thirds, thirds, none_left, Stays, stays_one, stays_opening, stays_seq, stays_then, stays_or, stays_made, stays_many, Moves, Same, Both, moves_same, moves_seq, moves_then, moves_or, moves_made, moves_placed}
use Rattle.java_stretches.proofs.SameExpressions.{stays_sign, stays_word, Alike, expressions_move}

-- ---- parts without places

pub parentheses_stay : {A : Type 0} {P : Rule A} (room : ℕ) → Stays P → Stays (Parenthesised room P)
parentheses_stay room p = stays_made (stays_seq (stays_opening room (codes "(")) (stays_seq p (stays_sign (codes ")")))) _

pub spellings_stay : Stays Spelling
spellings_stay =
    stays_or (stays_one (by_word word_type))
    (stays_made (stays_seq (stays_one (by_word collection)) (stays_made (stays_seq (stays_sign (codes "<")) (stays_seq (stays_one (by_word element_type)) (stays_sign (codes ">")))) _)) _)

columns_stay : (x : List ℕ) → Stays (KeyColumn x)
columns_stay x = stays_made (stays_seq (stays_sign (codes "->")) (stays_seq (stays_word x) (stays_seq (stays_sign (codes ".")) (stays_one name_in)))) _

key_stays : (room : ℕ) → Stays (Key room)
key_stays room =
    stays_or (stays_made (stays_seq (stays_opening room (codes "(")) (stays_seq (stays_one table_in) (stays_then (stays_one name_in) (λ x. stays_made (stays_seq (stays_sign (codes ")")) (columns_stay x)) _)))) _)
    (stays_made (stays_then (stays_one name_in) columns_stay) _)

further_stays : (room : ℕ) → Stays (Further room)
further_stays room =
    stays_made (stays_seq (stays_sign (codes ".")) (stays_or (stays_made (stays_seq (stays_word (codes "thenComparing")) (parentheses_stay room (key_stays (pred room)))) _)
    (stays_made (stays_seq (stays_word (codes "reversed")) (stays_seq (stays_opening room (codes "(")) (stays_sign (codes ")")))) _))) _

keys_stay : (room : ℕ) → Stays (Keys room)
keys_stay room =
    stays_made (stays_seq (stays_word (codes "Comparator")) (stays_seq (stays_sign (codes ".")) (stays_seq (stays_word (codes "comparing")) (stays_seq (parentheses_stay room (key_stays (pred room))) (stays_many (further_stays room)))))) _

-- ---- statements without bodies

moves_where : {A : Type 0} {R : A → A → Type 0} {P : Rule A} (b : Bool) → Moves R P → Moves R (Where b P)
moves_where b p = record { by = λ us vs x w h. let a = p.by us vs x w h.1 in (a.0, (h.0, a.1), a.2) }

conditions_move : (room : ℕ) → Moves Alike (Condition room)
conditions_move room = moves_made Alike (λ x. x.1.0) (λ x y r. r.1.0) (moves_seq (moves_same (stays_opening room (codes "("))) (moves_seq (expressions_move (pred room)) (moves_same (stays_sign (codes ")")))))

values_move : (room : ℕ) → Moves Alike (Value room)
values_move room = moves_made Alike (λ x. x.0) (λ x y r. r.0) (moves_seq (expressions_move room) (moves_same (stays_sign (codes ";"))))

abbrev pub AlikeStatement : Statement → Statement → Type 0
AlikeStatement x y = unplaced_statement y ≡ unplaced_statement x

-- what makes a statement of its place
abbrev AlikeAt : (Span → Statement) → (Span → Statement) → Type 0
AlikeAt f g = (at there : Span) → unplaced_statement (g there) ≡ unplaced_statement (f at)

assignments_move : (room : ℕ) (w : List ℕ) → Moves AlikeAt (Assignment room w)
assignments_move room w = moves_made AlikeAt (λ x at. Assign at w x.1) (λ x y r at there. ap (Assign nowhere w) r.1) (moves_seq (moves_same (stays_sign (codes "="))) (values_move room))

increases_move : (room : ℕ) (w : List ℕ) → Moves AlikeAt (Increase room w)
increases_move room w =
    moves_made AlikeAt (λ x at. Assign at w (Binary at ops.Add (Var at w) x.1)) (λ x y r at there. ap (λ (e : Expression). Assign nowhere w (Binary nowhere ops.Add (Var nowhere w) e)) r.1) (moves_seq (moves_same (stays_sign (codes "+="))) (values_move room))

increments_move : (w : List ℕ) → Moves AlikeAt (Increment w)
increments_move w =
    moves_made AlikeAt (λ x at. Assign at w (Binary at ops.Add (Var at w) (Lit at (scalars.Long (pos 1))))) (λ x y r at there. refl) (moves_same (stays_seq (stays_sign (codes "++")) (stays_sign (codes ";"))))

additions_move : (room : ℕ) (w : List ℕ) → Moves AlikeAt (Addition room w)
additions_move room w =
    moves_made AlikeAt (λ x at. Add at w x.1.0) (λ x y r at there. ap (Add nowhere w) r.1.0) (moves_seq (moves_same (stays_word (codes "add"))) (moves_seq (conditions_move room) (moves_same (stays_sign (codes ";")))))

printings_move : (room : ℕ) → Moves AlikeAt (Printing room)
printings_move room =
    moves_made AlikeAt (λ x at. Print at x.1.1.1.0) (λ x y r at there. ap (Print nowhere) r.1.1.1.0)
    (moves_seq (moves_same (stays_word (codes "out"))) (moves_seq (moves_same (stays_sign (codes "."))) (moves_seq (moves_same (stays_word (codes "println"))) (moves_seq (conditions_move room) (moves_same (stays_sign (codes ";")))))))

sortings_move : (room : ℕ) (w : List ℕ) → Moves AlikeAt (Sorting room w)
sortings_move room w =
    moves_made AlikeAt (λ x at. Sort at w (keys_in x.1.0) (downs_in x.1.0)) (λ x y r at there. ap (λ z. Sort nowhere w (keys_in z.1.0) (downs_in z.1.0)) r)
    (moves_same (stays_seq (stays_word (codes "sort")) (stays_seq (parentheses_stay room (keys_stay (pred room))) (stays_sign (codes ";")))))

members_move : (room : ℕ) (w : List ℕ) → Moves AlikeAt (MemberCall room w)
members_move room w = moves_or (additions_move room w) (moves_or (sortings_move room w) (moves_where (bytes_eq w (codes "System")) (printings_move room)))

rests_move : (room : ℕ) (w : List ℕ) → Moves AlikeAt (NamedRest room w)
rests_move room w =
    moves_or (assignments_move room w) (moves_or (moves_made AlikeAt (λ x. x.1) (λ x y r. r.1) (moves_seq (moves_same (stays_sign (codes "."))) (members_move room w)))
    (moves_where (not (is_number_type w)) (moves_or (increases_move room w) (increments_move w))))

named_moves : (room : ℕ) → Moves AlikeStatement (Named room)
named_moves room = moves_placed AlikeStatement (λ at x. x.1 at) (λ at there x y r. r.1 at there) (moves_then (stays_one name_in) (rests_move room))

abbrev AlikeOption : Option Expression → Option Expression → Type 0
AlikeOption x y = option_map unplaced y ≡ option_map unplaced x

returns_move : (room : ℕ) → Moves AlikeStatement (Returning room)
returns_move room =
    moves_placed AlikeStatement (λ at x. Return at x.1) (λ at there x y r. ap (Return nowhere) r.1)
    (moves_seq {S = AlikeOption} (moves_same (stays_word (codes "return"))) (moves_or (moves_made AlikeOption (λ x. None) (λ x y r. refl) (moves_same (stays_sign (codes ";")))) (moves_made AlikeOption (λ x. Some x) (λ x y r. ap (λ (e : Expression). Some e) r) (values_move room))))

breaks_move : Moves AlikeStatement Breaking
breaks_move = moves_placed AlikeStatement (λ at x. Break at) (λ at there x y r. refl) (moves_same (stays_seq (stays_word (codes "break")) (stays_sign (codes ";"))))

plains_move : (room : ℕ) → Moves AlikeStatement (Plain room)
plains_move room = moves_or (returns_move room) (moves_or breaks_move (named_moves room))

declarations_move : (room : ℕ) → Moves AlikeStatement (Declaration room)
declarations_move room =
    moves_placed AlikeStatement (λ at x. Declare at x.0 x.1.0 x.1.1.1) (λ at there x y r. ap (λ (ty : Spelled). Declare nowhere ty y.1.0 (unplaced y.1.1.1)) r.0 ∙ ap (λ (w : List ℕ). Declare nowhere x.0 w (unplaced y.1.1.1)) r.1.0 ∙ ap (Declare nowhere x.0 x.1.0) r.1.1.1)
    (moves_seq (moves_same spellings_stay) (moves_seq (moves_same (stays_one name_in)) (moves_seq (moves_same (stays_sign (codes "="))) (values_move room))))

-- ---- statements with bodies

if_heads_move : (room : ℕ) → Moves Alike (IfHead room)
if_heads_move room = moves_made Alike (λ x. x.1) (λ x y r. r.1) (moves_seq (moves_same (stays_word (codes "if"))) (conditions_move room))

while_heads_move : (room : ℕ) → Moves Alike (WhileHead room)
while_heads_move room = moves_made Alike (λ x. x.1) (λ x y r. r.1) (moves_seq (moves_same (stays_word (codes "while"))) (conditions_move room))

-- the type, the name and what is walked
abbrev AlikeWalk : Spelled × (List ℕ × Expression) → Spelled × (List ℕ × Expression) → Type 0
AlikeWalk = Both Same (Both Same Alike)

for_heads_move : (room : ℕ) → Moves AlikeWalk (ForHead room)
for_heads_move room =
    moves_made AlikeWalk (λ x. x.1) (λ x y r. r.1) (moves_seq (moves_same (stays_word (codes "for"))) (moves_made AlikeWalk (λ x. x.1.0) (λ x y r. r.1.0) (moves_seq (moves_same (stays_opening room (codes "("))) (moves_seq walks (moves_same (stays_sign (codes ")")))))))
  where
    walks : Moves AlikeWalk (Walk (pred room))
    walks =
        moves_made AlikeWalk (λ x. (x.0, (x.1.0, x.1.1.1))) (λ x y r. (r.0, (r.1.0, r.1.1.1)))
        (moves_seq (moves_same spellings_stay) (moves_seq (moves_same (stays_one name_in)) (moves_seq (moves_same (stays_sign (codes ":"))) (expressions_move (pred room)))))

opens_stay : (room : ℕ) (us vs : List Tok) → Twin us vs → Opens room us → Opens room vs
opens_stay room us vs w h = by vs (subst (λ (zs : List Tok). Twin zs vs) h.2 w)
  where
    by : (ws : List Tok) → Twin (h.0 ∷ h.1) ws → Opens room ws
    by [] k = absurd k
    by (t ∷ ws) k = (t, ws, refl, λ e. h.3 (sym k.0 ∙ e))

abbrev pub AlikeBlock : Statements → Statements → Type 0
AlikeBlock xs ys = unplaced_block ys ≡ unplaced_block xs

abbrev pub FoundBlock : (Statements → Type 0) → Statements → Type 0
FoundBlock P xs = (ys : Statements) × P ys × AlikeBlock xs ys

abbrev FoundStatement : (Statement → Type 0) → Statement → Type 0
FoundStatement P x = (y : Statement) × P y × AlikeStatement x y

mutual
  move_statement : {room : ℕ} {open_if : Bool} {us : List Tok} {x : Statement} → HasStatement room open_if us x → (vs : List Tok) → Twin us vs → FoundStatement (HasStatement room open_if vs) x
  move_statement (plain {room} {us} {x} h) vs w = let r = (plains_move room).by us vs x w h in (r.0, plain r.1, r.2)
  move_statement (if_alone {room} {us} {vs = inner} {cond} {yes} h b) vs w =
      let p : Halves us inner vs = halves us inner vs w in
      let r = (if_heads_move room).by us p.front cond p.first h in
      let q = move_body b p.back p.second in
      (If (extent vs) r.0 q.0, subst (λ (zs : List Tok). HasStatement room true zs (If (extent zs) r.0 q.0)) (sym p.parts) (if_alone r.1 q.1), ap (λ (e : Expression). If nowhere e (unplaced_block q.0)) r.2 ∙ ap (If nowhere (unplaced cond)) q.2)
  move_statement (if_else {room} {open_if} {us} {vs = inner} {ws} {zs} {cond} {yes} {other} h b e c) vs w =
      let p : Thirds us inner (ws ++ zs) vs = thirds us inner (ws ++ zs) vs w in
      let l : Halves ws zs p.c = halves ws zs p.c p.third in
      let is : vs ≡ p.a ++ (p.b ++ (l.front ++ l.back)) = p.parts ∙ ap (λ (ys : List Tok). p.a ++ (p.b ++ ys)) l.parts in
      let r = (if_heads_move room).by us p.a cond p.first h in
      let q = move_body b p.b p.second in
      let o = move_body c l.back l.second in (
        IfElse (extent vs) r.0 q.0 o.0,
        subst (λ (ys : List Tok). HasStatement room open_if ys (IfElse (extent ys) r.0 q.0 o.0)) (sym is) (if_else r.1 q.1 ((stays_word (codes "else")).by ws l.front tt l.first e) o.1),
        ap (λ (z : Expression). IfElse nowhere z (unplaced_block q.0) (unplaced_block o.0)) r.2 ∙ (ap (λ (z : Statements). IfElse nowhere (unplaced cond) z (unplaced_block o.0)) q.2 ∙ ap (IfElse nowhere (unplaced cond) (unplaced_block yes)) o.2),
      )
  move_statement (for_each {room} {open_if} {us} {vs = inner} {walk} {body} h b) vs w =
      let p : Halves us inner vs = halves us inner vs w in
      let r = (for_heads_move room).by us p.front walk p.first h in
      let q = move_body b p.back p.second in (
        ForEach (extent vs) r.0.0 r.0.1.0 r.0.1.1 q.0,
        subst (λ (zs : List Tok). HasStatement room open_if zs (ForEach (extent zs) r.0.0 r.0.1.0 r.0.1.1 q.0)) (sym p.parts) (for_each r.1 q.1),
        ap (λ (z : Spelled). ForEach nowhere z r.0.1.0 (unplaced r.0.1.1) (unplaced_block q.0)) r.2.0 ∙ (ap (λ (z : List ℕ). ForEach nowhere walk.0 z (unplaced r.0.1.1) (unplaced_block q.0)) r.2.1.0
            ∙ (ap (λ (z : Expression). ForEach nowhere walk.0 walk.1.0 z (unplaced_block q.0)) r.2.1.1 ∙ ap (ForEach nowhere walk.0 walk.1.0 (unplaced walk.1.1)) q.2)),
      )
  move_statement (while {room} {open_if} {us} {vs = inner} {cond} {body} h b) vs w =
      let p : Halves us inner vs = halves us inner vs w in
      let r = (while_heads_move room).by us p.front cond p.first h in
      let q = move_body b p.back p.second in
      (While (extent vs) r.0 q.0, subst (λ (zs : List Tok). HasStatement room open_if zs (While (extent zs) r.0 q.0)) (sym p.parts) (while r.1 q.1), ap (λ (e : Expression). While nowhere e (unplaced_block q.0)) r.2 ∙ ap (While nowhere (unplaced cond)) q.2)

  move_body : {room : ℕ} {open_if : Bool} {us : List Tok} {xs : Statements} → HasBody room open_if us xs → (vs : List Tok) → Twin us vs → FoundBlock (HasBody room open_if vs) xs
  move_body (block h) vs w = let r = move_block h vs w in (r.0, block r.1, r.2)
  move_body (single {room} {us} o h) vs w = let r = move_statement h vs w in (Followed r.0 Nothing, single (opens_stay room us vs w o) r.1, ap (λ (z : Statement). Followed z Nothing) r.2)

  pub move_block : {room : ℕ} {us : List Tok} {xs : Statements} → HasBlock room us xs → (vs : List Tok) → Twin us vs → FoundBlock (HasBlock room vs) xs
  move_block (braces {room} {us} {vs = inner} {ws} o h c) vs w =
      let p : Thirds us inner ws vs = thirds us inner ws vs w in
      let r = move_statements h p.b p.second in
      (r.0, subst (λ (zs : List Tok). HasBlock room zs r.0) (sym p.parts) (braces ((stays_opening room (codes "{")).by us p.a tt p.first o) r.1 ((stays_sign (codes "}")).by ws p.c tt p.third c)), r.2)

  pub move_statements : {room : ℕ} {us : List Tok} {xs : Statements} → HasStatements room us xs → (vs : List Tok) → Twin us vs → FoundBlock (HasStatements room vs) xs
  move_statements (none {room}) vs w = (Nothing, subst (λ (zs : List Tok). HasStatements room zs Nothing) (sym (none_left [] vs refl w)) none, refl)
  move_statements (declared {room} {us} {vs = more} {x} {xs} d h) vs w =
      let p : Halves us more vs = halves us more vs w in
      let r = (declarations_move room).by us p.front x p.first d in
      let q = move_statements h p.back p.second in
      (Followed r.0 q.0, subst (λ (zs : List Tok). HasStatements room zs (Followed r.0 q.0)) (sym p.parts) (declared r.1 q.1), ap (λ (z : Statement). Followed z (unplaced_block q.0)) r.2 ∙ ap (Followed (unplaced_statement x)) q.2)
  move_statements (stated {room} {us} {vs = more} {x} {xs} d h) vs w =
      let p : Halves us more vs = halves us more vs w in
      let r = move_statement d p.front p.first in
      let q = move_statements h p.back p.second in
      (Followed r.0 q.0, subst (λ (zs : List Tok). HasStatements room zs (Followed r.0 q.0)) (sym p.parts) (stated r.1 q.1), ap (λ (z : Statement). Followed z (unplaced_block q.0)) r.2 ∙ ap (Followed (unplaced_statement x)) q.2)
