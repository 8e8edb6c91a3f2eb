-- Expressions that may nest are read exactly, one level over the next.
use Rattle.std.proofs.Common.{◌≡◌, ℕ, ℤ, zero, suc, pred, ◌≤◌, Bool, true, false, cond, List, [], ◌∷◌, ◌++◌, length, Option, Some, None, codes, refl, sym, ap, subst, ◌∙◌, append_assoc, arith, inl, inr, ◌⊎◌}
use Rattle.std.specs.Str.{bytes_eq}
use Rattle.std.proofs.lemmas.List.{length-append}
use Rattle.qbs_base.specs.declared.span.Span.{Span}
use Rattle.qbs_base.specs.declared.scalar.Scalar.{Scalar}
use Rattle.java_lex.specs.declared.token.TokenNode.{TokenNode}
use Rattle.java_lex.specs.declared.token.TokenNode.TheVariants as tokens
use Rattle.readers.specs.Reading.{is_over}
use Rattle.readers.proofs.Tools.{chosen}
use Rattle.java_ast.specs.Tree.{Spelled, Expression, Expressions, Var, Field, Equals, Size, Get, Contains, Fetch, Query, QueryLong, QueryBoolean, NoMore, And}
use Rattle.java_grammar.specs.Marks.{Tok, nowhere, extent}
use Rattle.java_grammar.specs.Rules.{Rule, Empty, One, Word, Sign, Opening, Seq, Then, Or, Made, Placed, Many}
use Rattle.java_grammar.specs.Words.{by_word, text_in, table_in, natural_in, literal_in, truth_of, element_type}
use Rattle.java_grammar.specs.Expressions.{Limit, Negative, Literal, created, created_as, Elements, Creation, Call, EqualTo, SizeOf, GetFrom, ContainedIn, FetchFrom, QueryOf, QueryOfLong, QueryOfBoolean, query_of, call_of, left_behind, TableClass, ElementQuery, QueryStart, ranks, name_or_none, HasAtom, literal, grouped, creation, HasSource, no_source, source, HasCall, equal_to, size_of, get_from, contained_in, fetch_from, query_of_element, query_of_long, query_of_truth, HasArguments, no_more, one_more, HasSuffix, field, called, atom, HasUnary, parts, operand, HasRank, unary, chain}
use Rattle.java_grammar.specs.Reading.{Reader, seq_at, one_at, first_is, or_at, is_word, is_sign, word_at, sign_at, opening_at}
use Rattle.java_grammar.specs.ReadingExpressions.{Ranked, table_class_at, element_query_at, is_no_comma, next_argument_at, gathered, arguments_at, query_of_element_at, query_of_long_at, query_of_truth_at, call_at, called_at, suffix_by, suffix_at, query_start_at, query_in, elements_at, creation_at, source_at, source_end_at, new_at, grouped_at, atom_at}
use Rattle.java_grammar.proofs.Sound.{Passes, Inhabited}
use Rattle.java_grammar.proofs.Again.{Any, Heads, one_heads, then_heads, or_heads}
use Rattle.java_grammar.proofs.SingleLaws.{token_of, by_word_is, same_bytes, opening_heads, this_heads}
use Rattle.java_grammar.proofs.Laws.{Reads, empty, one, word, sign, opening, seq, join, of, put, either, turned, before, Shut, seq_shut, made_shut, opening_shut, guarded, enclosed, many, same_reads}
use Rattle.java_grammar.proofs.TypeLaws.{some_table, some_element}
use Rattle.java_grammar.proofs.ExpressionLaws.{Follow, ends, literal_reads, limit_heads}

abbrev some : {A : Type 0} → A → Option A
some x = Some x

-- ---- some tokens have it

pub some_both : {A B : Type 0} {P : Rule A} {Q : Rule B} → Inhabited P → Inhabited Q → Inhabited (Seq P Q)
some_both p q = record { tokens = p.tokens ++ q.tokens; value = (p.value, q.value); has = (p.tokens, q.tokens, refl, p.has, q.has) }

pub unary_rank : (room rank : ℕ) (us : List Tok) (x : Expression) → HasUnary room us x → HasRank room rank us x
unary_rank room zero us x h = unary h
unary_rank room (suc rank) us x h = chain (operand (unary_rank room rank us x h))

pub some_unary : (room : ℕ) → Inhabited (HasUnary room)
some_unary room = let s = literal_reads.sound.some in record { tokens = s.tokens; value = s.value; has = parts (atom (literal s.has)) }

pub some_rank : (room rank : ℕ) → Inhabited (HasRank room rank)
some_rank room rank = let s = some_unary room in record { tokens = s.tokens; value = s.value; has = unary_rank room rank s.tokens s.value s.has }

-- ---- what may follow

abbrev pub Closed : List Tok → Type 0
Closed rest = first_is (is_sign (codes ")")) rest ≡ true

closed_ends : (rank : ℕ) (n : TokenNode) → is_sign (codes ")") n ≡ true → ends rank n ≡ true
closed_ends rank n e = rw e refl

pub closed_follow : (rank : ℕ) (rest : List Tok) → Closed rest → Follow rank rest
closed_follow rank [] e = absurd cc
closed_follow rank (t ∷ rest) e = closed_ends rank t.token.node e

closed_by_sign : (us : List Tok) (x : Unit {0}) (rest : List Tok) → Sign (codes ")") us x → Closed (us ++ rest)
closed_by_sign us x rest h = rw (h.1, h.2) refl

-- ---- parts of calls

some_text : Passes text_in
some_text = record { token = token_of (tokens.Text []); value = []; is = refl }

table_class_reads : Reads TableClass Any table_class_at
unfolding table_class_at
table_class_reads = of (seq (one table_in some_table) (seq (sign (codes ".")) (word (codes "class")))) (λ x. x.0)

element_query_reads : Reads ElementQuery Any element_query_at
unfolding element_query_at
element_query_reads = of (seq (one (by_word element_type) some_element) (seq (sign (codes ".")) (seq (word (codes "class")) (seq (sign (codes ",")) (one text_in some_text))))) (λ x. (x.0, x.1.1.1.1))

some_query : Passes (by_word query_of)
some_query = record { token = token_of (tokens.Word (codes "query")); value = QueryOf; is = refl }

query_start_reads : (room : ℕ) → Reads (QueryStart room) Any (query_start_at room)
unfolding query_start_at
query_start_reads room = of (seq (word (codes "db")) (seq (sign (codes ".")) (seq (one (by_word query_of) some_query) (opening room (codes "("))))) (λ x. x.1.1.0)

query_start_shut : (room : ℕ) → room ≡ zero → Shut (query_start_at room)
unfolding query_start_at
query_start_shut room is =
    let a = seq_shut (one_at (by_word query_of)) (opening_at room (codes "(")) (opening_shut room (codes "(") is) in
    let b = seq_shut (sign_at (codes ".")) (seq_at (one_at (by_word query_of)) (opening_at room (codes "("))) a in
    let c = seq_shut (word_at (codes "db")) (seq_at (sign_at (codes ".")) (seq_at (one_at (by_word query_of)) (opening_at room (codes "(")))) b in
    made_shut (λ x. x.1.1.0) (seq_at (word_at (codes "db")) (seq_at (sign_at (codes ".")) (seq_at (one_at (by_word query_of)) (opening_at room (codes "("))))) c

some_created : Passes (by_word created)
some_created = record { token = token_of (tokens.Word (codes "ArrayList")); value = false; is = refl }

elements_reads : Reads Elements (λ rest. first_is (is_sign (codes ">")) rest ≡ true) elements_at
unfolding elements_at
elements_reads =
    either (is_sign (codes ">")) (before _ (empty tt) (λ rest f. tt)) (before _ (of (one (by_word element_type) some_element) (λ x. tt)) (λ rest f. tt))
    (λ us x rest h follows. rw h.0 follows)
    (λ us x rest h follows. one_heads (by_word element_type) (is_sign (codes ">")) false Any (λ n y e. rw (by_word_is element_type n y e).1 refl) us h.0 rest h.1 tt)

creation_reads : (room : ℕ) → Reads (Creation room) Any (creation_at room)
unfolding creation_at
creation_reads room =
    of (seq (word (codes "new")) (seq (one (by_word created) some_created) (seq (sign (codes "<")) (join elements_reads (seq (sign (codes ">")) (opening room (codes "("))) (λ vs y rest h any. rw (h.2, h.3.1, h.3.2) refl))))) (λ x. x.1.0)

creation_shut : (room : ℕ) → room ≡ zero → Shut (creation_at room)
unfolding creation_at
creation_shut room is =
    let a = seq_shut (sign_at (codes ">")) (opening_at room (codes "(")) (opening_shut room (codes "(") is) in
    let b = seq_shut elements_at (seq_at (sign_at (codes ">")) (opening_at room (codes "("))) a in
    let c = seq_shut (sign_at (codes "<")) (seq_at elements_at (seq_at (sign_at (codes ">")) (opening_at room (codes "(")))) b in
    let d = seq_shut (one_at (by_word created)) (seq_at (sign_at (codes "<")) (seq_at elements_at (seq_at (sign_at (codes ">")) (opening_at room (codes "("))))) c in
    let e = seq_shut (word_at (codes "new")) (seq_at (one_at (by_word created)) (seq_at (sign_at (codes "<")) (seq_at elements_at (seq_at (sign_at (codes ">")) (opening_at room (codes "(")))))) d in
    made_shut (λ x. x.1.0) (seq_at (word_at (codes "new")) (seq_at (one_at (by_word created)) (seq_at (sign_at (codes "<")) (seq_at elements_at (seq_at (sign_at (codes ">")) (opening_at room (codes "("))))))) e

-- ---- arguments

abbrev NextArgument : ℕ → Rule Expression
NextArgument room = Made (λ x. x.1) (Seq (Sign (codes ",")) (HasRank room ranks))

args_there : (room : ℕ) (xs : List Expression) (vs : List Tok) → Many (NextArgument room) vs xs → HasArguments room vs (gathered xs)
args_there room [] vs h = subst (λ (ws : List Tok). HasArguments room ws NoMore) (sym h) no_more
args_there room (x ∷ xs) vs h =
    let a = h.3 in
    let s = a.1 in
    let all : vs ≡ s.0 ++ (s.1 ++ h.1) = h.2 ∙ ap (λ (ws : List Tok). ws ++ h.1) s.2 ∙ append_assoc s.0 s.1 h.1 in
    subst (λ (ws : List Tok). HasArguments room ws (And x (gathered xs))) (sym all) (subst (λ (y : Expression). HasArguments room (s.0 ++ (s.1 ++ h.1)) (And y (gathered xs))) (sym a.2) (one_more s.3 s.4 (args_there room xs h.1 h.4)))

args_back : {room : ℕ} {vs : List Tok} {es : Expressions} → HasArguments room vs es → (xs : List Expression) × Many (NextArgument room) vs xs × (es ≡ gathered xs)
args_back no_more = ([], refl, refl)
args_back (one_more {us} {vs} {ws} {x} {xs} s h rest) =
    let t = args_back rest in
    (x ∷ t.0, (us ++ vs, ws, sym (append_assoc us vs ws), ((tt, x), (us, vs, refl, s, h), refl), t.1), ap (And x) t.2)

-- ---- one level

abbrev pub QueryRule : ℕ → Rule Expression
QueryRule room ts x = HasSource room true ts (Some x)

module _ (room : ℕ) (inner : Ranked) (query : Reader Expression)
    (inner_law : (m : ℕ) → room ≡ suc m → (rank : ℕ) → rank ≤ 6 → Reads (HasRank (pred room) rank) (Follow rank) (inner rank)) (query_law : (m : ℕ) → room ≡ suc m → Reads (QueryRule (pred room)) Any query) where
  expr_law : (m : ℕ) → room ≡ suc m → Reads (HasRank (pred room) ranks) (Follow ranks) (inner ranks)
  expr_law m e = inner_law m e ranks (omega arith)

  next_argument_reads : (m : ℕ) → room ≡ suc m → Reads (NextArgument (pred room)) (Follow ranks) (next_argument_at inner)
  unfolding next_argument_at
  next_argument_reads m e = of (seq (sign (codes ",")) (expr_law m e)) (λ x. x.1)

  arguments_reads : (m : ℕ) → room ≡ suc m → Reads (Many (NextArgument (pred room))) Closed (arguments_at inner)
  unfolding arguments_at
  arguments_reads m e =
      before Closed
      (many is_no_comma (next_argument_reads m e)
      (λ us x h. omega (arith, ap length h.1.2, length-append h.1.0 h.1.1, ap length h.1.3.1))
      (λ us x rest h. rw (h.1.2, h.1.3.1, h.1.3.2) refl)
      (λ us x rest h. rw (h.1.2, h.1.3.1, h.1.3.2) refl))
      (λ rest f. (closed_over rest f, closed_follow ranks rest f))
    where
      closed_over : (rest : List Tok) → Closed rest → is_over (λ (t : Tok). is_no_comma t.token.node) rest ≡ true
      closed_over [] f = refl
      closed_over (t ∷ rest) f = by t.token.node f
        where
          by : (n : TokenNode) → is_sign (codes ")") n ≡ true → is_no_comma n ≡ true
          by (tokens.Sign s) g = subst (λ (u : List ℕ). is_no_comma (tokens.Sign u) ≡ true) (sym (same_bytes s (codes ")") g)) refl
          by (tokens.Word w) g = refl
          by (tokens.Text t) g = refl
          by (tokens.Integer v l) g = refl

  -- ---- what stands in the parentheses of a call

  query_value : (make : Span → Spelled × List ℕ → Expressions → Expression) → Rule ((Spelled × List ℕ) × List Expression) → Rule (Span → Expression)
  query_value make P = Made (λ x at. make at x.0 (gathered x.1)) P

  element_reads : (m : ℕ) → room ≡ suc m → Reads (Made (λ x at. Query at x.0.0 x.0.1 (gathered x.1)) (Seq ElementQuery (Many (NextArgument (pred room))))) Closed (query_of_element_at inner)
  unfolding query_of_element_at
  element_reads m e = of (seq element_query_reads (arguments_reads m e)) (λ x at. Query at x.0.0 x.0.1 (gathered x.1))

  long_reads : (m : ℕ) → room ≡ suc m → Reads (Made (λ x at. QueryLong at x.0 (gathered x.1)) (Seq (One text_in) (Many (NextArgument (pred room))))) Closed (query_of_long_at inner)
  unfolding query_of_long_at
  long_reads m e = of (seq (one text_in some_text) (arguments_reads m e)) (λ x at. QueryLong at x.0 (gathered x.1))

  truth_reads : (m : ℕ) → room ≡ suc m → Reads (Made (λ x at. QueryBoolean at x.0 (gathered x.1)) (Seq (One text_in) (Many (NextArgument (pred room))))) Closed (query_of_truth_at inner)
  unfolding query_of_truth_at
  truth_reads m e = of (seq (one text_in some_text) (arguments_reads m e)) (λ x at. QueryBoolean at x.0 (gathered x.1))

  equal_back : {r : ℕ} {w : List ℕ} {x : Expression} {us : List Tok} {f : Span → Expression} → HasCall r w x EqualTo us f → Made (λ y at. Equals at x y) (HasRank r ranks) us f
  equal_back (equal_to {y} h) = (y, h, refl)

  size_back : {r : ℕ} {w : List ℕ} {x : Expression} {us : List Tok} {f : Span → Expression} → HasCall r w x SizeOf us f → Empty (λ at. Size at w) us f
  size_back size_of = (refl, refl)

  get_back : {r : ℕ} {w : List ℕ} {x : Expression} {us : List Tok} {f : Span → Expression} → HasCall r w x GetFrom us f → Made (λ y at. Get at w y) (HasRank r ranks) us f
  get_back (get_from {y} h) = (y, h, refl)

  contains_back : {r : ℕ} {w : List ℕ} {x : Expression} {us : List Tok} {f : Span → Expression} → HasCall r w x ContainedIn us f → Made (λ y at. Contains at w y) (HasRank r ranks) us f
  contains_back (contained_in {y} h) = (y, h, refl)

  fetch_back : {r : ℕ} {w : List ℕ} {x : Expression} {us : List Tok} {f : Span → Expression} → HasCall r w x FetchFrom us f → Made (λ table at. Fetch at table) TableClass us f
  fetch_back (fetch_from {table} h) = (table, h, refl)

  element_back : {r : ℕ} {w : List ℕ} {x : Expression} {us : List Tok} {f : Span → Expression} → HasCall r w x QueryOf us f → Made (λ y at. Query at y.0.0 y.0.1 (gathered y.1)) (Seq ElementQuery (Many (NextArgument r))) us f
  element_back (query_of_element {q} {us} {vs} {es} h args) = let t = args_back args in ((q, t.0), (us, vs, refl, h, t.1), ap {B = Span → Expression} (λ (a : Expressions) (at : Span). Query at q.0 q.1 a) t.2)

  long_back : {r : ℕ} {w : List ℕ} {x : Expression} {us : List Tok} {f : Span → Expression} → HasCall r w x QueryOfLong us f → Made (λ y at. QueryLong at y.0 (gathered y.1)) (Seq (One text_in) (Many (NextArgument r))) us f
  long_back (query_of_long {text} {us} {vs} {es} h args) = let t = args_back args in ((text, t.0), (us, vs, refl, h, t.1), ap {B = Span → Expression} (λ (a : Expressions) (at : Span). QueryLong at text a) t.2)

  truth_back : {r : ℕ} {w : List ℕ} {x : Expression} {us : List Tok} {f : Span → Expression} → HasCall r w x QueryOfBoolean us f → Made (λ y at. QueryBoolean at y.0 (gathered y.1)) (Seq (One text_in) (Many (NextArgument r))) us f
  truth_back (query_of_truth {text} {us} {vs} {es} h args) = let t = args_back args in ((text, t.0), (us, vs, refl, h, t.1), ap {B = Span → Expression} (λ (a : Expressions) (at : Span). QueryBoolean at text a) t.2)

  call_reads : (m : ℕ) → room ≡ suc m → (w : List ℕ) (x : Expression) (c : Call) → Reads (HasCall (pred room) w x c) Closed (call_at inner w x c)
  unfolding call_at
  call_reads m e w x EqualTo = turned (HasCall (pred room) w x EqualTo) (before Closed (of (expr_law m e) (λ y at. Equals at x y)) (λ rest f. closed_follow ranks rest f)) (λ us f h. subst (λ (g : Span → Expression). HasCall (pred room) w x EqualTo us g) (sym h.2) (equal_to h.1)) (λ us f h. equal_back h)
  call_reads m e w x SizeOf = turned (HasCall (pred room) w x SizeOf) (before Closed (empty (λ at. Size at w)) (λ rest f. tt)) (λ us f h. subst (λ (g : Span → Expression). HasCall (pred room) w x SizeOf us g) (sym h.1) (subst (λ (ws : List Tok). HasCall (pred room) w x SizeOf ws (λ at. Size at w)) (sym h.0) size_of)) (λ us f h. size_back h)
  call_reads m e w x GetFrom = turned (HasCall (pred room) w x GetFrom) (before Closed (of (expr_law m e) (λ y at. Get at w y)) (λ rest f. closed_follow ranks rest f)) (λ us f h. subst (λ (g : Span → Expression). HasCall (pred room) w x GetFrom us g) (sym h.2) (get_from h.1)) (λ us f h. get_back h)
  call_reads m e w x ContainedIn = turned (HasCall (pred room) w x ContainedIn) (before Closed (of (expr_law m e) (λ y at. Contains at w y)) (λ rest f. closed_follow ranks rest f)) (λ us f h. subst (λ (g : Span → Expression). HasCall (pred room) w x ContainedIn us g) (sym h.2) (contained_in h.1)) (λ us f h. contains_back h)
  call_reads m e w x FetchFrom = turned (HasCall (pred room) w x FetchFrom) (before Closed (of table_class_reads (λ table at. Fetch at table)) (λ rest f. tt)) (λ us f h. subst (λ (g : Span → Expression). HasCall (pred room) w x FetchFrom us g) (sym h.2) (fetch_from h.1)) (λ us f h. fetch_back h)
  call_reads m e w x QueryOf = turned (HasCall (pred room) w x QueryOf) (element_reads m e)
      (λ us f h. subst (λ (g : Span → Expression). HasCall (pred room) w x QueryOf us g) (sym h.2) (subst (λ (ws : List Tok). HasCall (pred room) w x QueryOf ws (λ at. Query at h.0.0.0 h.0.0.1 (gathered h.0.1))) (sym h.1.2) (query_of_element h.1.3 (args_there (pred room) h.0.1 h.1.1 h.1.4)))) (λ us f h. element_back h)
  call_reads m e w x QueryOfLong = turned (HasCall (pred room) w x QueryOfLong) (long_reads m e)
      (λ us f h. subst (λ (g : Span → Expression). HasCall (pred room) w x QueryOfLong us g) (sym h.2) (subst (λ (ws : List Tok). HasCall (pred room) w x QueryOfLong ws (λ at. QueryLong at h.0.0 (gathered h.0.1))) (sym h.1.2) (query_of_long h.1.3 (args_there (pred room) h.0.1 h.1.1 h.1.4)))) (λ us f h. long_back h)
  call_reads m e w x QueryOfBoolean = turned (HasCall (pred room) w x QueryOfBoolean) (truth_reads m e)
      (λ us f h. subst (λ (g : Span → Expression). HasCall (pred room) w x QueryOfBoolean us g) (sym h.2) (subst (λ (ws : List Tok). HasCall (pred room) w x QueryOfBoolean ws (λ at. QueryBoolean at h.0.0 (gathered h.0.1))) (sym h.1.2) (query_of_truth h.1.3 (args_there (pred room) h.0.1 h.1.1 h.1.4)))) (λ us f h. truth_back h)

  some_call : (r : ℕ) (w : List ℕ) (x : Expression) (c : Call) → Inhabited (HasCall r w x c)
  some_call r w x EqualTo = let s = some_rank r ranks in record { tokens = s.tokens; value = λ at. Equals at x s.value; has = equal_to s.has }
  some_call r w x SizeOf = record { tokens = []; value = λ at. Size at w; has = size_of }
  some_call r w x GetFrom = let s = some_rank r ranks in record { tokens = s.tokens; value = λ at. Get at w s.value; has = get_from s.has }
  some_call r w x ContainedIn = let s = some_rank r ranks in record { tokens = s.tokens; value = λ at. Contains at w s.value; has = contained_in s.has }
  some_call r w x FetchFrom = let s = table_class_reads.sound.some in record { tokens = s.tokens; value = λ at. Fetch at s.value; has = fetch_from s.has }
  some_call r w x QueryOf = let s = element_query_reads.sound.some in record { tokens = s.tokens ++ []; value = λ at. Query at s.value.0 s.value.1 NoMore; has = query_of_element s.has no_more }
  some_call r w x QueryOfLong = let s = (one text_in some_text).sound.some in record { tokens = s.tokens ++ []; value = λ at. QueryLong at s.value NoMore; has = query_of_long s.has no_more }
  some_call r w x QueryOfBoolean = let s = (one text_in some_text).sound.some in record { tokens = s.tokens ++ []; value = λ at. QueryBoolean at s.value NoMore; has = query_of_truth s.has no_more }

  -- a call and what closes it
  ended_call : (m : ℕ) → room ≡ suc m → (w : List ℕ) (x : Expression) (c : Call) → Reads (Seq (HasCall (pred room) w x c) (Sign (codes ")"))) Any (seq_at (call_at inner w x c) (sign_at (codes ")")))
  ended_call m e w x c = join (call_reads m e w x c) (sign (codes ")")) (λ vs y rest h any. closed_by_sign vs y rest h)

  some_ended : (w : List ℕ) (x : Expression) (c : Call) → Inhabited (Seq (HasCall (pred room) w x c) (Sign (codes ")")))
  some_ended w x c = some_both (some_call (pred room) w x c) (sign (codes ")")).sound.some

  abbrev CalledRule : List ℕ → Expression → Call → Rule (Span → Expression)
  CalledRule w x c = Made (λ y. y.1.0) (Seq (Opening room (codes "(")) (Seq (HasCall (pred room) w x c) (Sign (codes ")"))))

  called_reads : (w : List ℕ) (x : Expression) (c : Call) → Reads (CalledRule w x c) Any (called_at room inner w x c)
  unfolding called_at
  called_reads w x c = of (enclosed room (codes "(") (some_ended w x c) (λ m e. ended_call m e w x c)) (λ y. y.1.0)

  -- ---- what follows a member

  abbrev pub NoOpen : List Tok → Type 0
  NoOpen rest = first_is (is_sign (codes "(")) rest ≡ false

  abbrev pub SuffixRule : Option (List ℕ) → Expression → List ℕ → ℕ → Rule ((Span → Expression) × ℕ)
  SuffixRule bare x m left us y = HasSuffix room bare x m left us y.0 y.1

  abbrev FieldRule : Expression → List ℕ → ℕ → Rule ((Span → Expression) × ℕ)
  FieldRule x m left = Empty ((λ at. Field at x m), pred left)

  field_there : (bare : Option (List ℕ)) (x : Expression) (m : List ℕ) (left : ℕ) (us : List Tok) (y : (Span → Expression) × ℕ) → FieldRule x m left us y → SuffixRule bare x m left us y
  field_there bare x m left us y h = subst (λ (z : (Span → Expression) × ℕ). SuffixRule bare x m left us z) (sym h.1) (subst (λ (ws : List Tok). HasSuffix room bare x m left ws (λ at. Field at x m) (pred left)) (sym h.0) field)

  plain_back : {bare : Option (List ℕ)} {x : Expression} {m : List ℕ} {left after : ℕ} {us : List Tok} {f : Span → Expression} → call_of bare m ≡ None → HasSuffix room bare x m left us f after → FieldRule x m left us (f, after)
  plain_back none field = (refl, refl)
  plain_back none (called is o h s) = absurd (let q = sym none ∙ is in cc)

  called_back : {bare : Option (List ℕ)} {x : Expression} {m : List ℕ} {left after : ℕ} {us : List Tok} {f : Span → Expression} (c : Call) → call_of bare m ≡ Some c → HasSuffix room bare x m left us f after
      → Or (Made (λ node. (node, left_behind c left)) (CalledRule (name_or_none bare) x c)) (FieldRule x m left) us (f, after)
  called_back c some_c field = inr (refl, refl)
  called_back {bare} {x} {m} {left} {after} c some_c (called {c = d} {us} {vs} {ws} {node} is o h s) =
      let same : d ≡ c = let q : some d ≡ some c = sym is ∙ some_c in cc in
      inl (node, ((tt, (node, tt)), (us, vs ++ ws, refl, o, (vs, ws, refl, subst (λ (b : Call). HasCall (pred room) (name_or_none bare) x b vs node) same h, s)), refl), ap (λ (b : Call). (node, left_behind b left)) same)

  called_there : (bare : Option (List ℕ)) (x : Expression) (m : List ℕ) (left : ℕ) (c : Call) → call_of bare m ≡ Some c → (us : List Tok) (y : (Span → Expression) × ℕ) → Made (λ node. (node, left_behind c left)) (CalledRule (name_or_none bare) x c) us y → SuffixRule bare x m left us y
  called_there bare x m left c is us y h =
      let k = h.1 in
      let p = k.1 in
      let q = p.4 in
      let all : us ≡ p.0 ++ (q.0 ++ q.1) = p.2 ∙ ap (λ (ws : List Tok). p.0 ++ ws) q.2 in
      subst (λ (z : (Span → Expression) × ℕ). SuffixRule bare x m left us z) (sym h.2)
      (subst (λ (ws : List Tok). HasSuffix room bare x m left ws h.0 (left_behind c left)) (sym all)
      (subst (λ (f : Span → Expression). HasSuffix room bare x m left (p.0 ++ (q.0 ++ q.1)) f (left_behind c left)) (sym k.2) (called is p.3 q.3 q.4)))

  pub suffix_reads : (bare : Option (List ℕ)) (x : Expression) (m : List ℕ) (left : ℕ) → Reads (SuffixRule bare x m left) NoOpen (suffix_at room inner bare x m left)
  unfolding suffix_at suffix_by
  suffix_reads bare x m left = by (call_of bare m) refl
    where
      alike : (r : Reader ((Span → Expression) × ℕ)) (ts : List Tok) → r ts ≡ or_at (is_sign (codes "(")) r r ts
      alike r ts = both (first_is (is_sign (codes "(")) ts)
        where
          both : (b : Bool) → r ts ≡ cond b (r ts) (r ts)
          both true = refl
          both false = refl

      by : (o : Option Call) → call_of bare m ≡ o → Reads (SuffixRule bare x m left) NoOpen (or_at (is_sign (codes "(")) (suffix_by room inner (name_or_none bare) x m left o) (suffix_by room inner (name_or_none bare) x m left None))
      by None is =
          same_reads (or_at (is_sign (codes "(")) (suffix_by room inner (name_or_none bare) x m left None) (suffix_by room inner (name_or_none bare) x m left None)) (alike (suffix_by room inner (name_or_none bare) x m left None))
          (turned (SuffixRule bare x m left) (before NoOpen (empty ((λ at. Field at x m), pred left)) (λ rest f. tt)) (field_there bare x m left) (λ us y h. plain_back is h))
      by (Some c) is =
          turned (SuffixRule bare x m left)
          (either (is_sign (codes "(")) (before NoOpen (of (called_reads (name_or_none bare) x c) (λ node. (node, left_behind c left))) (λ rest f. tt)) (before NoOpen (empty ((λ at. Field at x m), pred left)) (λ rest f. tt))
          (λ us y rest h follows. then_heads (Opening room (codes "(")) (λ z. Seq (HasCall (pred room) (name_or_none bare) x c) (Sign (codes ")"))) (is_sign (codes "(")) true Any (opening_heads room (codes "(") (is_sign (codes "(")) true Any refl) us h.1.0 rest h.1.1 tt)
          (λ us y rest h follows. rw h.0 follows))
          (λ us y h. elim h [ inl k ↦ called_there bare x m left c is us y k | inr k ↦ field_there bare x m left us y k ])
          (λ us y h. called_back c is h)

  -- ---- what stands alone

  abbrev GroupedRule : Rule Expression
  GroupedRule = Made (λ x. x.1.0) (Seq (Opening room (codes "(")) (Seq (HasRank (pred room) ranks) (Sign (codes ")"))))

  grouped_reads : Reads GroupedRule Any (grouped_at room inner)
  unfolding grouped_at
  grouped_reads = of (enclosed room (codes "(") (some_both (some_rank (pred room) ranks) (sign (codes ")")).sound.some) (λ m e. join (expr_law m e) (sign (codes ")")) (λ vs y rest h any. closed_follow ranks (vs ++ rest) (closed_by_sign vs y rest h)))) (λ x. x.1.0)

  source_back : {r : ℕ} {us : List Tok} {q : Option Expression} → HasSource r true us q → Or (Made (λ x. Some x) (QueryRule r)) (Empty None) us q
  source_back no_source = inr (refl, refl)
  source_back (source {us} {vs} {ws} {c} {node} s h e) = inl (node (extent (us ++ (vs ++ ws))), source s h e, refl)

  none_back : {r : ℕ} {us : List Tok} {q : Option Expression} → HasSource r false us q → Empty None us q
  none_back no_source = (refl, refl)

  none_there : (r : ℕ) (set : Bool) (us : List Tok) (q : Option Expression) → Empty None us q → HasSource r set us q
  none_there r set us q h = subst (λ (p : Option Expression). HasSource r set us p) (sym h.1) (subst (λ (ws : List Tok). HasSource r set ws None) (sym h.0) no_source)

  query_heads : {r : ℕ} {us : List Tok} {q : Option Expression} → HasSource r true us q → (x : Expression) → q ≡ some x → (rest : List Tok) → first_is (is_word (codes "db")) (us ++ rest) ≡ true
  query_heads no_source x e rest = absurd cc
  query_heads (source {us} {vs} {ws} {c} {node} s h k) x e rest =
      let t = s.1 in
      rw (t.2, t.3.1, t.3.2) refl

  source_reads : (m : ℕ) → room ≡ suc m → (set : Bool) → Reads (HasSource (pred room) set) Closed (source_at query set)
  unfolding source_at
  source_reads m e false = turned (HasSource (pred room) false) (before Closed (empty None) (λ rest f. tt)) (none_there (pred room) false) (λ us q h. none_back h)
  source_reads m e true =
      turned (HasSource (pred room) true)
      (either (is_word (codes "db")) (before Closed (of (query_law m e) (λ x. Some x)) (λ rest f. tt)) (before Closed (empty None) (λ rest f. tt))
      (λ us q rest h follows. query_heads h.1 h.0 refl rest)
      (λ us q rest h follows. rw h.0 (no_db rest follows)))
      (λ us q h. elim h [ inl k ↦ subst (λ (p : Option Expression). HasSource (pred room) true us p) (sym k.2) k.1 | inr k ↦ none_there (pred room) true us q k ])
      (λ us q h. source_back h)
    where
      no_db : (rest : List Tok) → Closed rest → first_is (is_word (codes "db")) rest ≡ false
      no_db [] f = refl
      no_db (t ∷ rest) f = by t.token.node f
        where
          by : (n : TokenNode) → is_sign (codes ")") n ≡ true → is_word (codes "db") n ≡ false
          by (tokens.Sign s) g = refl
          by (tokens.Word w) g = absurd cc
          by (tokens.Text t) g = refl
          by (tokens.Integer v l) g = refl

  source_end_reads : (m : ℕ) → room ≡ suc m → (set : Bool) → Reads (Made (λ x. x.0) (Seq (HasSource (pred room) set) (Sign (codes ")")))) Any (source_end_at query set)
  unfolding source_end_at
  source_end_reads m e set = of (join (source_reads m e set) (sign (codes ")")) (λ vs y rest h any. closed_by_sign vs y rest h)) (λ x. x.0)

  some_source_end : (set : Bool) → Inhabited (Made (λ x. x.0) (Seq (HasSource (pred room) set) (Sign (codes ")"))))
  some_source_end set = let s = (sign (codes ")")).sound.some in record { tokens = s.tokens; value = None; has = ((None, s.value), ([], s.tokens, refl, no_source, s.has), refl) }

  abbrev NewRule : Rule Expression
  NewRule = Placed (λ at x. created_as x.0 at x.1) (Then (Creation room) (λ set. Made (λ x. x.0) (Seq (HasSource (pred room) set) (Sign (codes ")")))))

  new_reads : Reads NewRule Any (new_at room query)
  unfolding new_at
  new_reads = put (guarded room (creation_reads room) (creation_shut room) some_source_end source_end_reads) (λ at x. created_as x.0 at x.1)

  abbrev AtomRule : Rule Expression
  AtomRule = Or GroupedRule (Or NewRule Literal)

  atom_there : (us : List Tok) (x : Expression) → AtomRule us x → HasAtom room us x
  atom_there us x (inl h) =
      let p = h.1 in
      let q = p.4 in
      subst (λ (y : Expression). HasAtom room us y) (sym h.2) (subst (λ (ws : List Tok). HasAtom room ws h.0.1.0) (sym (p.2 ∙ ap (λ (ws : List Tok). p.0 ++ ws) q.2)) (grouped p.3 q.3 q.4))
  atom_there us x (inr (inl h)) =
      let p = h.1 in
      let k = p.4 in
      let q = k.1 in
      let all : us ≡ p.0 ++ (q.0 ++ q.1) = p.2 ∙ ap (λ (ws : List Tok). p.0 ++ ws) q.2 in
      subst (λ (y : Expression). HasAtom room us y) (sym h.2)
      (subst (λ (s : Option Expression). HasAtom room us (created_as h.0.0 (extent us) s)) (sym k.2)
      (subst (λ (ws : List Tok). HasAtom room ws (created_as h.0.0 (extent ws) k.0.0)) (sym all) (creation p.3 q.3 q.4)))
  atom_there us x (inr (inr h)) = literal h

  atom_back : {us : List Tok} {x : Expression} → HasAtom room us x → AtomRule us x
  atom_back (literal h) = inr (inr h)
  atom_back (grouped {us} {vs} {ws} {x} o h s) = inl ((tt, (x, tt)), (us, vs ++ ws, refl, o, (vs, ws, refl, h, s)), refl)
  atom_back (creation {set} {us} {vs} {ws} {query = q} o h s) = inr (inl ((set, q), (us, vs ++ ws, refl, o, ((q, tt), (vs, ws, refl, h, s), refl)), refl))

  new_heads : (p : TokenNode → Bool) (b : Bool) → p (tokens.Word (codes "new")) ≡ b → Heads p b NewRule Any
  new_heads p b e us x rest h follows =
      then_heads (Creation room) (λ set. Made (λ y. y.0) (Seq (HasSource (pred room) set) (Sign (codes ")")))) p b Any
      (λ vs set after k any. then_heads (Word (codes "new")) (λ y. Seq (One (by_word created)) (Seq (Sign (codes "<")) (Seq Elements (Seq (Sign (codes ">")) (Opening room (codes "(")))))) p b Any (this_heads (tokens.Word (codes "new")) p b Any e) vs k.0 after k.1 tt) us h.0 rest h.1 tt

  grouped_heads : (p : TokenNode → Bool) (b : Bool) → p (tokens.Sign (codes "(")) ≡ b → Heads p b GroupedRule Any
  grouped_heads p b e us x rest h follows = then_heads (Opening room (codes "(")) (λ y. Seq (HasRank (pred room) ranks) (Sign (codes ")"))) p b Any (opening_heads room (codes "(") p b Any e) us h.0 rest h.1 tt

  literal_heads : (p : TokenNode → Bool) (b : Bool) → p (tokens.Sign (codes "-")) ≡ b → ((n : TokenNode) (v : Scalar) → literal_in n ≡ Some v → p n ≡ b) → p (tokens.Word (codes "Long")) ≡ b → p (tokens.Word (codes "Integer")) ≡ b → Heads p b Literal Any
  literal_heads p b minus plain long integer us x rest h follows = by h.0 us h.1
    where
      by : (v : Scalar) (vs : List Tok) → Or Negative (Or (One literal_in) Limit) vs v → first_is p (vs ++ rest) ≡ b
      by v vs (inl k) = then_heads (Sign (codes "-")) (λ y. One natural_in) p b Any (this_heads (tokens.Sign (codes "-")) p b Any minus) vs k.0 rest k.1 tt
      by v vs (inr (inl k)) = one_heads literal_in p b Any plain vs v rest k tt
      by v vs (inr (inr k)) = limit_heads p b long integer vs v rest k tt

  truth_is : (w : List ℕ) (v : Scalar) → truth_of w ≡ some v → (w ≡ codes "true") ⊎ (w ≡ codes "false")
  truth_is w v e = by w v e
    where
      by : (w : List ℕ) (v : Scalar) → truth_of w ≡ some v → (w ≡ codes "true") ⊎ (w ≡ codes "false")
      by w v e = elim (chosen (bytes_eq w (codes "true")) _ _ (some v) e) [
        | inl h ↦ inl (same_bytes w (codes "true") h.0)
        | inr h ↦ elim (chosen (bytes_eq w (codes "false")) _ _ (some v) h.1) [ inl k ↦ inr (same_bytes w (codes "false") k.0) | inr k ↦ absurd cc ]
      ]

  -- what holds of numbers, texts, `true` and `false` holds of all literals
  at_literal : (P : TokenNode → Type 0) → ((s : List ℕ) → P (tokens.Text s)) → P (tokens.Word (codes "true")) → P (tokens.Word (codes "false")) → ((v : ℤ) (l : Bool) → P (tokens.Integer v l)) → (n : TokenNode) (v : Scalar) → literal_in n ≡ some v → P n
  at_literal P texts truth falsehood numbers (tokens.Text s) v e = texts s
  at_literal P texts truth falsehood numbers (tokens.Integer z l) v e = numbers z l
  at_literal P texts truth falsehood numbers (tokens.Sign s) v e = absurd cc
  at_literal P texts truth falsehood numbers (tokens.Word w) v e = elim (truth_is w v e) [ inl h ↦ subst (λ (u : List ℕ). P (tokens.Word u)) (sym h) truth | inr h ↦ subst (λ (u : List ℕ). P (tokens.Word u)) (sym h) falsehood ]

  pub atom_reads : Reads (HasAtom room) Any (atom_at room inner query)
  unfolding atom_at
  atom_reads =
      turned (HasAtom room)
      (either (is_sign (codes "(")) grouped_reads
      (either (is_word (codes "new")) new_reads literal_reads (new_heads (is_word (codes "new")) true refl)
      (literal_heads (is_word (codes "new")) false refl (λ n v e. at_literal (λ k. is_word (codes "new") k ≡ false) (λ s. refl) refl refl (λ z l. refl) n v e) refl refl))
      (grouped_heads (is_sign (codes "(")) true refl)
      (or_heads NewRule Literal (is_sign (codes "(")) false Any (new_heads (is_sign (codes "(")) false refl) (literal_heads (is_sign (codes "(")) false refl (λ n v e. at_literal (λ k. is_sign (codes "(") k ≡ false) (λ s. refl) refl refl (λ z l. refl) n v e) refl refl)))
      atom_there (λ us x h. atom_back h)

  pub atom_heads : (p : TokenNode → Bool) (b : Bool) → p (tokens.Sign (codes "(")) ≡ b → p (tokens.Word (codes "new")) ≡ b → p (tokens.Sign (codes "-")) ≡ b → ((s : List ℕ) → p (tokens.Text s) ≡ b) → ((v : ℤ) (l : Bool) → p (tokens.Integer v l) ≡ b)
      → p (tokens.Word (codes "true")) ≡ b → p (tokens.Word (codes "false")) ≡ b → p (tokens.Word (codes "Long")) ≡ b → p (tokens.Word (codes "Integer")) ≡ b → Heads p b (HasAtom room) Any
  atom_heads p b opens made minus texts numbers truth falsehood long integer us x rest h follows =
      or_heads GroupedRule (Or NewRule Literal) p b Any (grouped_heads p b opens) (or_heads NewRule Literal p b Any (new_heads p b made) (literal_heads p b minus (λ n v e. at_literal (λ k. p k ≡ b) texts truth falsehood numbers n v e) long integer)) us x rest (atom_back h) tt

  -- ---- a query where nothing else may stand

  abbrev AskedRule : Rule Expression
  AskedRule = Placed (λ at x. x.1.0 at) (Then (QueryStart room) (λ c. Seq (HasCall (pred room) [] (Var nowhere []) c) (Sign (codes ")"))))

  asked_back : {us : List Tok} {q : Option Expression} → HasSource room true us q → (x : Expression) → q ≡ some x → AskedRule us x
  asked_back no_source x e = absurd cc
  asked_back (source {us} {vs} {ws} {c} {node} s h k) x e = ((c, (node, tt)), (us, vs ++ ws, refl, s, (vs, ws, refl, h, k)), let q : node (extent (us ++ (vs ++ ws))) ≡ x = cc in sym q)

  asked_there : (us : List Tok) (x : Expression) → AskedRule us x → QueryRule room us x
  asked_there us x h =
      let p = h.1 in
      let q = p.4 in
      subst (λ (y : Expression). HasSource room true us (Some y)) (sym h.2)
      (subst (λ (ws : List Tok). HasSource room true ws (Some (h.0.1.0 (extent ws)))) (sym (p.2 ∙ ap (λ (ws : List Tok). p.0 ++ ws) q.2)) (source p.3 q.3 q.4))

  pub query_reads : Reads (QueryRule room) Any (query_in room inner)
  unfolding query_in
  query_reads =
      turned (QueryRule room) (put (guarded room (query_start_reads room) (query_start_shut room) (λ c. some_ended [] (Var nowhere []) c) (λ m e c. ended_call m e [] (Var nowhere []) c)) (λ at x. x.1.0 at)) asked_there (λ us x h. asked_back h x refl)
