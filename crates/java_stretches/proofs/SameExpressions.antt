-- The expressions of tokens with the same nodes are the same but for places.
use Rattle.std.proofs.Common.{◌≡◌, ℕ, pred, Bool, true, false, List, [], ◌++◌, Option, Some, None, codes, refl, sym, ap, subst, ◌∙◌}
use Rattle.std.specs.Option.{option_map}
use Rattle.qbs_base.specs.declared.span.Span.{Span}
use Rattle.java_ast.specs.Tree.{Expression, Expressions, Lit, Var, Field, Binary, Not, Equals, Size, Get, Contains, Fetch, Query, QueryLong, QueryBoolean, NewSetOf, NoMore, And}
use Rattle.java_ast.specs.Unplaced.{nowhere, unplaced, unplaced_all}
use Rattle.java_grammar.specs.Marks.{Tok, extent}
use Rattle.java_grammar.specs.Rules.{Word, Sign}
use Rattle.java_grammar.specs.Words.{by_word, word_if, name_in, table_in, variable_in, text_in, natural_in, literal_in, is_number_type, element_type}
use Rattle.java_grammar.specs.Expressions.{limit, Limit, Negative, Literal, Variable, created, Elements, Creation, created_as, Call, SizeOf, QueryOf, QueryOfLong, QueryOfBoolean, query_of, TableClass, ElementQuery, QueryStart, operator_in, Operator, left_behind, HasAtom, literal, grouped, creation, HasSource, no_source, source, HasCall, equal_to, size_of, get_from, contained_in, fetch_from, query_of_element, query_of_long, query_of_truth, HasArguments, no_more, one_more, HasSuffix, field, called, HasParts, atom, dotted, further, HasUnary, variable, parts, negation, HasChain, operand, joined, HasRank, unary, chain, HasExpression}
use Rattle.java_stretches.proofs.SameNodes.{Twin, Halves, halves, Thirds, thirds, Single, alone, none_left, Stays, stays_empty, stays_one, stays_this, stays_opening, stays_seq, stays_then, stays_or, stays_made, Moves, moves_same, moves_placed}

-- ---- parts without places

pub stays_sign : (text : List ℕ) → Stays (Sign text)
stays_sign text = stays_this _

pub stays_word : (text : List ℕ) → Stays (Word text)
stays_word text = stays_this _

limits_stay : Stays Limit
limits_stay = stays_made (stays_then (stays_one (word_if is_number_type)) (λ type. stays_seq (stays_sign (codes ".")) (stays_one (by_word (limit type))))) _

negatives_stay : Stays Negative
negatives_stay = stays_made (stays_seq (stays_sign (codes "-")) (stays_one natural_in)) _

creations_stay : (room : ℕ) → Stays (Creation room)
creations_stay room =
    stays_made (stays_seq (stays_word (codes "new")) (stays_seq (stays_one (by_word created)) (stays_seq (stays_sign (codes "<")) (stays_seq elements (stays_seq (stays_sign (codes ">")) (stays_opening room (codes "("))))))) _
  where
    elements : Stays Elements
    elements = stays_or (stays_empty tt) (stays_made (stays_one (by_word element_type)) _)

tables_stay : Stays TableClass
tables_stay = stays_made (stays_seq (stays_one table_in) (stays_seq (stays_sign (codes ".")) (stays_word (codes "class")))) _

element_queries_stay : Stays ElementQuery
element_queries_stay = stays_made (stays_seq (stays_one (by_word element_type)) (stays_seq (stays_sign (codes ".")) (stays_seq (stays_word (codes "class")) (stays_seq (stays_sign (codes ",")) (stays_one text_in))))) _

starts_stay : (room : ℕ) → Stays (QueryStart room)
starts_stay room = stays_made (stays_seq (stays_word (codes "db")) (stays_seq (stays_sign (codes ".")) (stays_seq (stays_one (by_word query_of)) (stays_opening room (codes "("))))) _

operators_stay : (left rank : ℕ) → Stays (Operator left rank)
operators_stay left rank = record { by = λ us vs x w h. let s : Single h.0 vs = alone us vs h.0 h.1 w in (s.token, s.is, ap (operator_in rank) s.node ∙ h.2, λ e. h.3 (sym s.strict ∙ e)) }

-- ---- the same but for places

abbrev pub Alike : Expression → Expression → Type 0
Alike x y = unplaced y ≡ unplaced x

abbrev pub Found : (Expression → Type 0) → Expression → Type 0
Found P x = (y : Expression) × P y × Alike x y

-- what makes an expression of its place
abbrev AlikeAt : (Span → Expression) → (Span → Expression) → Type 0
AlikeAt f g = (at there : Span) → unplaced (g there) ≡ unplaced (f at)

abbrev AlikeOption : Option Expression → Option Expression → Type 0
AlikeOption x y = option_map unplaced y ≡ option_map unplaced x

literals_move : Moves Alike Literal
literals_move = moves_placed Alike Lit (λ at there x y e. ap (Lit nowhere) e) (moves_same (stays_or negatives_stay (stays_or (stays_one literal_in) limits_stay)))

variables_move : Moves Alike Variable
variables_move = moves_placed Alike Var (λ at there x y e. ap (Var nowhere) e) (moves_same (stays_one variable_in))

created_alike : (set : Bool) (at there : Span) (x y : Option Expression) → AlikeOption x y → Alike (created_as set at x) (created_as set there y)
created_alike false at there x y e = refl
created_alike true at there None None e = refl
created_alike true at there None (Some y) e = absurd cc
created_alike true at there (Some x) None e = absurd cc
created_alike true at there (Some x) (Some y) e = let f : unplaced y ≡ unplaced x = cc in ap (NewSetOf nowhere) f

mutual
  move_atom : {room : ℕ} {us : List Tok} {x : Expression} → HasAtom room us x → (vs : List Tok) → Twin us vs → Found (HasAtom room vs) x
  move_atom (literal {us} {x} h) vs w = let r = literals_move.by us vs x w h in (r.0, literal r.1, r.2)
  move_atom (grouped {room} {us} {vs = inner} {ws} o h s) vs w =
      let p : Thirds us inner ws vs = thirds us inner ws vs w in
      let r = move_rank h p.b p.second in
      (r.0, subst (λ (zs : List Tok). HasAtom room zs r.0) (sym p.parts) (grouped ((stays_opening room (codes "(")).by us p.a tt p.first o) r.1 ((stays_sign (codes ")")).by ws p.c tt p.third s)), r.2)
  move_atom (creation {room} {set} {us} {vs = inner} {ws} {query} c h s) vs w =
      let p : Thirds us inner ws vs = thirds us inner ws vs w in
      let r = move_source h p.b p.second in (
        created_as set (extent vs) r.0,
        subst (λ (zs : List Tok). HasAtom room zs (created_as set (extent zs) r.0)) (sym p.parts) (creation ((creations_stay room).by us p.a set p.first c) r.1 ((stays_sign (codes ")")).by ws p.c tt p.third s)),
        created_alike set (extent (us ++ (inner ++ ws))) (extent vs) query r.0 r.2,
      )

  move_source : {room : ℕ} {set : Bool} {us : List Tok} {x : Option Expression} → HasSource room set us x → (vs : List Tok) → Twin us vs → (y : Option Expression) × HasSource room set vs y × AlikeOption x y
  move_source (no_source {room} {set}) vs w = (None, subst (λ (zs : List Tok). HasSource room set zs None) (sym (none_left [] vs refl w)) no_source, refl)
  move_source (source {room} {us} {vs = inner} {ws} {c} {node} q h s) vs w =
      let p : Thirds us inner ws vs = thirds us inner ws vs w in
      let r = move_call h p.b p.second (Var nowhere []) refl in (
        Some (r.0 (extent vs)),
        subst (λ (zs : List Tok). HasSource room true zs (Some (r.0 (extent zs)))) (sym p.parts) (source ((starts_stay room).by us p.a c p.first q) r.1 ((stays_sign (codes ")")).by ws p.c tt p.third s)),
        ap (λ (e : Expression). Some e) (r.2 (extent (us ++ (inner ++ ws))) (extent vs)),
      )

  move_call : {room : ℕ} {w : List ℕ} {x : Expression} {c : Call} {us : List Tok} {node : Span → Expression} → HasCall room w x c us node → (vs : List Tok) → Twin us vs → (z : Expression) → Alike x z
      → (made : Span → Expression) × HasCall room w z c vs made × AlikeAt node made
  move_call (equal_to {x} {y} h) vs t z e = let r = move_rank h vs t in ((λ at. Equals at z r.0), equal_to r.1, λ at there. ap (λ (a : Expression). Equals nowhere a (unplaced r.0)) e ∙ ap (Equals nowhere (unplaced x)) r.2)
  move_call (size_of {room} {w} {x}) vs t z e = ((λ at. Size at w), subst (λ (zs : List Tok). HasCall room w z SizeOf zs (λ at. Size at w)) (sym (none_left [] vs refl t)) size_of, λ at there. refl)
  move_call (get_from {w} h) vs t z e = let r = move_rank h vs t in ((λ at. Get at w r.0), get_from r.1, λ at there. ap (Get nowhere w) r.2)
  move_call (contained_in {w} h) vs t z e = let r = move_rank h vs t in ((λ at. Contains at w r.0), contained_in r.1, λ at there. ap (Contains nowhere w) r.2)
  move_call (fetch_from {table} {us} h) vs t z e = ((λ at. Fetch at table), fetch_from (tables_stay.by us vs table t h), λ at there. refl)
  move_call (query_of_element {room} {w} {q} {us} {vs = more} h k) vs t z e =
      let p : Halves us more vs = halves us more vs t in
      let r = move_arguments k p.back p.second in
      ((λ at. Query at q.0 q.1 r.0), subst (λ (zs : List Tok). HasCall room w z QueryOf zs (λ at. Query at q.0 q.1 r.0)) (sym p.parts) (query_of_element (element_queries_stay.by us p.front q p.first h) r.1), λ at there. ap (Query nowhere q.0 q.1) r.2)
  move_call (query_of_long {room} {w} {text} {us} {vs = more} h k) vs t z e =
      let p : Halves us more vs = halves us more vs t in
      let r = move_arguments k p.back p.second in
      ((λ at. QueryLong at text r.0), subst (λ (zs : List Tok). HasCall room w z QueryOfLong zs (λ at. QueryLong at text r.0)) (sym p.parts) (query_of_long ((stays_one text_in).by us p.front text p.first h) r.1), λ at there. ap (QueryLong nowhere text) r.2)
  move_call (query_of_truth {room} {w} {text} {us} {vs = more} h k) vs t z e =
      let p : Halves us more vs = halves us more vs t in
      let r = move_arguments k p.back p.second in
      ((λ at. QueryBoolean at text r.0), subst (λ (zs : List Tok). HasCall room w z QueryOfBoolean zs (λ at. QueryBoolean at text r.0)) (sym p.parts) (query_of_truth ((stays_one text_in).by us p.front text p.first h) r.1), λ at there. ap (QueryBoolean nowhere text) r.2)

  move_arguments : {room : ℕ} {us : List Tok} {xs : Expressions} → HasArguments room us xs → (vs : List Tok) → Twin us vs → (ys : Expressions) × HasArguments room vs ys × (unplaced_all ys ≡ unplaced_all xs)
  move_arguments (no_more {room}) vs t = (NoMore, subst (λ (zs : List Tok). HasArguments room zs NoMore) (sym (none_left [] vs refl t)) no_more, refl)
  move_arguments (one_more {room} {us} {vs = first} {ws} {x} {xs} s h k) vs t =
      let p : Thirds us first ws vs = thirds us first ws vs t in
      let r = move_rank h p.b p.second in
      let q = move_arguments k p.c p.third in
      (And r.0 q.0, subst (λ (zs : List Tok). HasArguments room zs (And r.0 q.0)) (sym p.parts) (one_more ((stays_sign (codes ",")).by us p.a tt p.first s) r.1 q.1), ap (λ (a : Expression). And a (unplaced_all q.0)) r.2 ∙ ap (And (unplaced x)) q.2)

  move_suffix : {room left after : ℕ} {bare : Option (List ℕ)} {x : Expression} {m : List ℕ} {us : List Tok} {node : Span → Expression} → HasSuffix room bare x m left us node after → (vs : List Tok) → Twin us vs → (z : Expression) → Alike x z
      → (made : Span → Expression) × HasSuffix room bare z m left vs made after × AlikeAt node made
  move_suffix (field {room} {left} {bare} {x} {m}) vs t z e =
      ((λ at. Field at z m), subst (λ (zs : List Tok). HasSuffix room bare z m left zs (λ at. Field at z m) (pred left)) (sym (none_left [] vs refl t)) field, λ at there. ap (λ (a : Expression). Field nowhere a m) e)
  move_suffix (called {room} {left} {bare} {m} {c} {us} {vs = inner} {ws} is o h s) vs t z e =
      let p : Thirds us inner ws vs = thirds us inner ws vs t in
      let r = move_call h p.b p.second z e in
      (r.0, subst (λ (zs : List Tok). HasSuffix room bare z m left zs r.0 (left_behind c left)) (sym p.parts) (called is ((stays_opening room (codes "(")).by us p.a tt p.first o) r.1 ((stays_sign (codes ")")).by ws p.c tt p.third s)), r.2)

  move_parts : {room left : ℕ} {us : List Tok} {x : Expression} → HasParts room left us x → (vs : List Tok) → Twin us vs → Found (HasParts room left vs) x
  move_parts (atom h) vs t = let r = move_atom h vs t in (r.0, atom r.1, r.2)
  move_parts (dotted {room} {left} {w} {m} {us} {vs = dot} {ws} {zs} {node} v d k s) vs t =
      let p : Thirds us dot (ws ++ zs) vs = thirds us dot (ws ++ zs) vs t in
      let q : Halves ws zs p.c = halves ws zs p.c p.third in
      let e : vs ≡ p.a ++ (p.b ++ (q.front ++ q.back)) = p.parts ∙ ap (λ (ys : List Tok). p.a ++ (p.b ++ ys)) q.parts in
      let r = move_suffix s q.back q.second (Var (extent p.a) w) refl in (
        r.0 (extent vs),
        subst (λ (ys : List Tok). HasParts room left ys (r.0 (extent ys))) (sym e) (dotted ((stays_one variable_in).by us p.a w p.first v) ((stays_sign (codes ".")).by dot p.b tt p.second d) ((stays_one name_in).by ws q.front m q.first k) r.1),
        r.2 (extent (us ++ (dot ++ (ws ++ zs)))) (extent vs),
      )
  move_parts (further {room} {left} {after} {m} {us} {vs = dot} {ws} {zs} {x} {node} h o k s) vs t =
      let p : Thirds us dot (ws ++ zs) vs = thirds us dot (ws ++ zs) vs t in
      let q : Halves ws zs p.c = halves ws zs p.c p.third in
      let e : vs ≡ p.a ++ (p.b ++ (q.front ++ q.back)) = p.parts ∙ ap (λ (ys : List Tok). p.a ++ (p.b ++ ys)) q.parts in
      let f = move_parts h p.a p.first in
      let r = move_suffix s q.back q.second f.0 f.2 in (
        r.0 (extent vs),
        subst (λ (ys : List Tok). HasParts room after ys (r.0 (extent ys))) (sym e) (further f.1 ((stays_opening left (codes ".")).by dot p.b tt p.second o) ((stays_one name_in).by ws q.front m q.first k) r.1),
        r.2 (extent (us ++ (dot ++ (ws ++ zs)))) (extent vs),
      )

  move_unary : {room : ℕ} {us : List Tok} {x : Expression} → HasUnary room us x → (vs : List Tok) → Twin us vs → Found (HasUnary room vs) x
  move_unary (variable {us} {x} h) vs t = let r = variables_move.by us vs x t h in (r.0, variable r.1, r.2)
  move_unary (parts h) vs t = let r = move_parts h vs t in (r.0, parts r.1, r.2)
  move_unary (negation {room} {us} {vs = inner} o h) vs t =
      let p : Halves us inner vs = halves us inner vs t in
      let r = move_unary h p.back p.second in
      (Not (extent vs) r.0, subst (λ (zs : List Tok). HasUnary room zs (Not (extent zs) r.0)) (sym p.parts) (negation ((stays_opening room (codes "!")).by us p.front tt p.first o) r.1), ap (Not nowhere) r.2)

  move_chain : {room rank left : ℕ} {us : List Tok} {x : Expression} → HasChain room rank left us x → (vs : List Tok) → Twin us vs → Found (HasChain room rank left vs) x
  move_chain (operand h) vs t = let r = move_rank h vs t in (r.0, operand r.1, r.2)
  move_chain (joined {room} {rank} {left} {us} {vs = middle} {ws} {x} {y} {o} h op k) vs t =
      let p : Thirds us middle ws vs = thirds us middle ws vs t in
      let a = move_chain h p.a p.first in
      let b = move_rank k p.c p.third in (
        Binary (extent vs) o a.0 b.0,
        subst (λ (zs : List Tok). HasChain room rank (pred left) zs (Binary (extent zs) o a.0 b.0)) (sym p.parts) (joined a.1 ((operators_stay left rank).by middle p.b o p.second op) b.1),
        ap (λ (z : Expression). Binary nowhere o z (unplaced b.0)) a.2 ∙ ap (Binary nowhere o (unplaced x)) b.2,
      )

  move_rank : {room rank : ℕ} {us : List Tok} {x : Expression} → HasRank room rank us x → (vs : List Tok) → Twin us vs → Found (HasRank room rank vs) x
  move_rank (unary h) vs t = let r = move_unary h vs t in (r.0, unary r.1, r.2)
  move_rank (chain h) vs t = let r = move_chain h vs t in (r.0, chain r.1, r.2)

pub expressions_move : (room : ℕ) → Moves Alike (HasExpression room)
expressions_move room = record { by = λ us vs x w h. move_rank h vs w }
