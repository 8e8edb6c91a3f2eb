-- A source carries its program, and one patch more carries the program in which a loop gave way.
use Rattle.std.proofs.Common.{◌≡◌, ℕ, ◌≤◌, ◌<◌, Bool, true, false, List, [], ◌∷◌, ◌++◌, Some, None, Ok, refl, sym, ap, ◌∙◌, subst, arith}
use Rattle.std.specs.List.{AllByRecursion}
use Rattle.std.proofs.lemmas.Bool.{and_parts}
use Rattle.qbs_base.specs.Places.{first_place}
use Rattle.qbs_base.specs.declared.span.Span.{Span}
use Rattle.java_lex.specs.Cutting.{nodes_of, HasNodes, EndsAt, EndsStatement}
use Rattle.java_lex.specs.Lexing.{lexed}
use Rattle.java_lex.specs.Spans.{StandInOrder}
use Rattle.java_lex.specs.declared.token.Token.{Token}
use Rattle.java_lex.specs.declared.token.TokenNode.{TokenNode}
use Rattle.java_lex.specs.declared.token.Tokens.{Tokens}
use Rattle.java_lex.proofs.Cut.{list_of}
use Rattle.java_lex.proofs.Spanned.{spans}
use Rattle.java_ast.specs.Path.{statement_at, branch_of, replaced_at, last_of}
use Rattle.java_ast.specs.Spans.{place_of}
use Rattle.java_ast.specs.Tree.{Statement, Declare, Assign, Add, Sort, If, IfElse, ForEach, While, Print, Return, Break, Statements, Nothing, Then, PlainProgram}
use Rattle.java_ast.specs.Unplaced.{nowhere, unplaced_statement, unplaced_block}
use Rattle.java_grammar.specs.Marks.{Tok, tokens_of, all_free}
use Rattle.java_grammar.specs.Statements.{HasStatements, none, declared, stated}
use Rattle.java_grammar.specs.Grammar.{IsProgram}
use Rattle.java_grammar.specs.ReadBack.{SameProgram, IsReadBack}
use Rattle.java_stretches.specs.Lines.{SameStatements, CanStandFor}
use Rattle.java_stretches.specs.Stretch.{sibling, StartsWith, Stretch}
use Rattle.java_stretches.proofs.Ends.{first_of, extent_starts, starts_then}
use Rattle.java_stretches.proofs.Leaves.{Stands, declaration_alone, statement_stands}
use Rattle.java_stretches.proofs.Programs.{stretch}
use Rattle.java_stretches.proofs.SameNodes.{twins}
use Rattle.java_stretches.proofs.SameStatements.{move_statements}
use Rattle.java_stretches.proofs.SamePrograms.{same_program}
use Rattle.java_stretches.proofs.Unplacing.{same_replaced}
use Rattle.loop_text.specs.Statements.Fragment.{Fragment, is_simple, are_simple, fragment_at}
use Rattle.loop_text.specs.Statements.KeptStatements.{first_at}
use Rattle.java_stretches.specs.Carries.{Carries, MayComeFor}
use Rattle.java_stretches.specs.Fit.{SameStart, FitBlock, nothing, followed, FitMethods}
use Rattle.java_stretches.specs.Fit as fit
use Rattle.java_stretches.specs.Focus.{Chain, Focus}
use Rattle.java_stretches.specs.Laid.{Patched, with_texts, ended_before, begun_at, FollowFrom, AreClosed, IsMarked, Laid}
use Rattle.java_stretches.proofs.Focused.{focus}
use Rattle.java_stretches.proofs.Found.{fits_itself}
use Rattle.java_stretches.proofs.Steps.{Given, EndBefore, Put, put, begun_before}
use Rattle.java_stretches.proofs.Texts.{laid_text}

-- ---- To begin with, and in the end

follow_from : (text : List ℕ) (q : ℕ) (ts : List Token) → StandInOrder text q ts → FollowFrom q ts
follow_from text q [] h = tt
follow_from text q (t ∷ ts) h = (h.0, h.1, follow_from text t.span.end ts h.3)

pub carried : (source : List ℕ) (tokens : Tokens) (p : PlainProgram) → lexed source ≡ Ok tokens → IsProgram tokens.list p → Carries source [] p
carried source tokens p lexes has =
    let o : StandInOrder source 0 tokens.list = (spans source tokens lexes).0 in
    record {
      tokens = tokens.list;
      program = p;
      has = has;
      same = refl;
      fits = fits_itself source tokens.list p o has;
      laid = (list_of source tokens.list (tokens, lexes, refl), follow_from source 0 tokens.list o);
    }

pub read_back : (source : List ℕ) (ps : List Patched) (p : PlainProgram) → Carries source ps p → IsReadBack (with_texts source 0 ps) p
read_back source ps p c =
    let n : HasNodes (with_texts source 0 ps) (nodes_of c.tokens) = laid_text source [] source first_place ps c.tokens refl refl c.laid in
    let s : SameProgram n.tokens.list c.program = same_program c.tokens n.tokens.list c.program (sym n.same) c.has in
    record { tokens = n.tokens; lexed = n.read; read = record { program = s.program; has = s.has; same = s.same ∙ c.same } }

-- ---- What comes in place

simple_unplaced : (s : Statement) → is_simple (unplaced_statement s) ≡ is_simple s
simple_unplaced (Declare at ty name value) = refl
simple_unplaced (Assign at name value) = refl
simple_unplaced (Add at name value) = refl
simple_unplaced (Sort at name keys downs) = refl
simple_unplaced (If at test first) = refl
simple_unplaced (IfElse at test first other) = refl
simple_unplaced (ForEach at ty name list body) = refl
simple_unplaced (While at test body) = refl
simple_unplaced (Print at value) = refl
simple_unplaced (Return at value) = refl
simple_unplaced (Break at) = refl

pub no_branches : (s : Statement) → is_simple s ≡ true → (b : ℕ) → branch_of b s ≡ None
no_branches (Declare at ty name value) e b = refl
no_branches (Assign at name value) e b = refl
no_branches (Add at name value) e b = refl
no_branches (Sort at name keys downs) e b = refl
no_branches (If at test first) e b = absurd cc
no_branches (IfElse at test first other) e b = absurd cc
no_branches (ForEach at ty name list body) e b = absurd cc
no_branches (While at test body) e b = absurd cc
no_branches (Print at value) e b = refl
no_branches (Return at value) e b = refl
no_branches (Break at) e b = refl

pub chain_order : (lo hi : ℕ) (block : Statements) → Chain lo hi block → lo ≤ hi
chain_order lo hi Nothing h = h
chain_order lo hi (Then s ss) h = omega (arith, h.0, chain_order (place_of s).start hi ss h.2)

-- the first ones begin at the same place
abbrev HeadsAlike : Statements → Statements → Type 0
HeadsAlike Nothing ss = Unit {0}
HeadsAlike (Then t ts) Nothing = Unit {0}
HeadsAlike (Then t ts) (Then s ss) = SameStart (place_of t) (place_of s)

fits_made : (lo hi : ℕ) (behind : Bool) (ts ss : Statements) → unplaced_block ts ≡ unplaced_block ss → are_simple ss ≡ true → Chain lo hi ss → (behind ≡ false → HeadsAlike ts ss) → FitBlock lo hi behind ts ss
fits_made lo hi behind Nothing Nothing e simple h heads = nothing h
fits_made lo hi behind Nothing (Then s ss) e simple h heads = absurd cc
fits_made lo hi behind (Then t ts) Nothing e simple h heads = absurd cc
fits_made lo hi behind (Then t ts) (Then s ss) e simple h heads =
    let one : unplaced_statement t ≡ unplaced_statement s = cc in
    let others : unplaced_block ts ≡ unplaced_block ss = cc in
    let two = and_parts (is_simple s) (are_simple ss) simple in
    let kind : is_simple t ≡ is_simple s = sym (simple_unplaced t) ∙ (ap is_simple one ∙ simple_unplaced s) in
    followed
    (record { starts = heads; ends = λ no. (let f : true ≡ false = sym two.0 ∙ no in absurd cc); lined = h.1 })
    (fit.alone h.0 (omega arith) (no_branches t (kind ∙ two.0)) (no_branches s two.0) kind)
    (fits_made (place_of s).start hi (is_simple s) ts ss others two.1 h.2 (λ no. (let f : true ≡ false = sym two.0 ∙ no in absurd cc)))

-- ---- Tokens that stand for a text

-- the same token, which stands nowhere
abbrev marked : Token → Token
marked t = record { span = nowhere; node = t.node }

abbrev all_marked : List Token → List Token
all_marked [] = []
all_marked (t ∷ ts) = marked t ∷ all_marked ts

marked_nodes : (ts : List Token) → nodes_of (all_marked ts) ≡ nodes_of ts
marked_nodes [] = refl
marked_nodes (t ∷ ts) = ap (λ (ns : List TokenNode). t.node ∷ ns) (marked_nodes ts)

are_marked : (ts : List Token) → AllByRecursion IsMarked (all_marked ts)
are_marked [] = tt
are_marked (t ∷ ts) = ((refl, refl), are_marked ts)

-- the same token where a statement begins
abbrev headed : Span → Token → Token
headed at t = record { span = record { line = at.line; column = at.column; start = at.start; end = 0 }; node = t.node }

-- the first statement of tokens begins with the first one
block_starts : {room : ℕ} {us : List Tok} {xs : Statements} → HasStatements room us xs → (x : Statement) (rest : Statements) → xs ≡ Then x rest → StartsWith (place_of x) (tokens_of us)
block_starts none x rest e = absurd cc
block_starts (declared {room} {us} {vs} {x = y} d h) x rest e =
    let is : y ≡ x = cc in
    subst (λ (z : Statement). StartsWith (place_of z) (tokens_of (us ++ vs))) is (starts_then (place_of y) us vs (stands_start us y (declaration_alone room us y d).stands))
  where
    stands_start : (ws : List Tok) (z : Statement) → Stands ws z → StartsWith (place_of z) (tokens_of ws)
    stands_start ws z k = subst (λ (at : Span). StartsWith at (tokens_of ws)) (sym k.place) (extent_starts ws (first_of ws k.ends))
block_starts (stated {us} {vs} {x = y} d h) x rest e =
    let is : y ≡ x = cc in
    subst (λ (z : Statement). StartsWith (place_of z) (tokens_of (us ++ vs))) is (starts_then (place_of y) us vs (stands_start us y (statement_stands d)))
  where
    stands_start : (ws : List Tok) (z : Statement) → Stands ws z → StartsWith (place_of z) (tokens_of ws)
    stands_start ws z k = subst (λ (at : Span). StartsWith at (tokens_of ws)) (sym k.place) (extent_starts ws (first_of ws k.ends))

-- The tokens of a text that has statements, as they stand among those of the source, and the statements that they have then.
record Made (room : ℕ) (text : List ℕ) (first : Statement) (others : Statements) : Type 0 where
  head : Token
  tail : List Token
  given : List Token
  can : CanStandFor text (Then first others)
  given_is : given ≡ can.lines.tokens.list
  same_nodes : nodes_of (head ∷ tail) ≡ nodes_of given
  block : Statements
  has : HasStatements room (all_free (head ∷ tail)) block
  same : unplaced_block block ≡ unplaced_block (Then first others)
  heads : HeadsAlike block (Then first others)
  start : head.span.start ≡ (place_of first).start
  short : head.span.end ≡ 0
  all : AllByRecursion IsMarked tail

made : (room : ℕ) (text : List ℕ) (first : Statement) (others : Statements) → CanStandFor text (Then first others) → Made room text first others
made room text first others can = by can.lines.tokens.list refl
  where
    heads_by : (block : Statements) (head : Token) (tail : List Token) → head.span.line ≡ (place_of first).line → head.span.column ≡ (place_of first).column → head.span.start ≡ (place_of first).start
        → HasStatements room (all_free (head ∷ tail)) block → HeadsAlike block (Then first others)
    heads_by Nothing head tail a b c h = tt
    heads_by (Then t ts) head tail a b c h =
        let s : StartsWith (place_of t) (tokens_of (all_free (head ∷ tail))) = block_starts h t ts refl in
        ((s.0.0 ∙ a, s.0.1 ∙ b), s.1 ∙ c)

    by : (ts : List Token) → can.lines.tokens.list ≡ ts → Made room text first others
    by [] e = absurd (subst EndsStatement e can.closed)
    by (t ∷ ts) e =
        let s : SameStatements room can.lines.tokens.list (Then first others) = can.lines.statements room in
        let head : Token = headed (place_of first) t in
        let nodes : nodes_of (headed (place_of first) t ∷ all_marked ts) ≡ nodes_of can.lines.tokens.list = ap (λ (ns : List TokenNode). t.node ∷ ns) (marked_nodes ts) ∙ sym (ap nodes_of e) in
        let m = move_statements s.has (all_free (headed (place_of first) t ∷ all_marked ts)) (twins can.lines.tokens.list (headed (place_of first) t ∷ all_marked ts) (sym nodes)) in
        record {
          head = headed (place_of first) t;
          tail = all_marked ts;
          given = can.lines.tokens.list;
          can = can;
          given_is = refl;
          same_nodes = nodes;
          block = m.0;
          has = m.1;
          same = m.2 ∙ s.same;
          heads = heads_by m.0 (headed (place_of first) t) (all_marked ts) refl refl refl m.1;
          start = refl;
          short = refl;
          all = are_marked ts;
        }

-- ---- A loop gives way

closed_list : (ts : List Token) → EndsStatement ts → AreClosed ts
closed_list [] h = absurd h
closed_list (t ∷ ts) h = h

same_some : (x y : Statement) → Some x ≡ Some y → x ≡ y
same_some x y e = cc

module _ (source : List ℕ) (ps : List Patched) (p : PlainProgram) (c : Carries source ps p) (path : List ℕ) (f : Fragment) (first : ℕ) (less : first < last_of path) where
  abbrev At : Type 0
  At =
      Focus (λ one. statement_at (sibling path first) p ≡ Some one) (λ one. statement_at (sibling path first) c.program ≡ Some one) (λ other. statement_at path c.program ≡ Some other) f.run f.loop
      (λ others' others. FitMethods 0 (replaced_at path first others' c.program).methods (replaced_at path first others p).methods)

  abbrev patch_at : ℕ → List ℕ → Patched
  patch_at from text = record { from = from; to = (place_of f.loop).end; text = text }

  -- with the tokens from the run's first on
  by_tokens : (o : At) (st : Stretch c.tokens c.program path first o.loop') (block : Statements) (m : MayComeFor f block) (text : List ℕ) → CanStandFor text block → EndBefore (place_of f.loop).end ps
      → (within : List Token) → st.within ≡ within
      → Carries source (ended_before (begun_at ps (place_of o.one).start) ps ++ (patch_at (begun_at ps (place_of o.one).start) text ∷ [])) (replaced_at path first block p)
  by_tokens o st block m text can few [] e = absurd (subst (StartsWith (place_of st.one)) e st.starts)
  by_tokens o st block m text can few (u ∷ rest) e =
      let same_one : st.one ≡ o.one' = same_some st.one o.one' (sym st.is_first ∙ o.to_other) in
      let starts : StartsWith (place_of o.one') (u ∷ rest) = subst (λ (x : Statement). StartsWith (place_of x) (u ∷ rest)) same_one (subst (StartsWith (place_of st.one)) e st.starts) in
      let line : u.span.line ≡ (place_of o.one).line = sym starts.0.0 ∙ o.same.0.0 in
      let start : u.span.start ≡ (place_of o.one).start = sym starts.1 ∙ o.same.1 in
      let ends : EndsAt (place_of f.loop).end (u ∷ rest) = subst (λ (k : ℕ). EndsAt k (u ∷ rest)) o.ends (subst (EndsAt (place_of o.loop').end) e st.ends) in
      let can' : CanStandFor text (Then m.first m.others) = subst (CanStandFor text) m.is can in
      let n : Made st.room text m.first m.others = made st.room text m.first m.others can' in
      let chain : Chain (place_of o.one).start (place_of f.loop).start (Then m.first m.others) =
      subst (Chain (place_of o.one).start (place_of f.loop).start) m.is (m.chain (place_of o.one).start o.loop_lined o.chain) in
      let simple : are_simple (Then m.first m.others) ≡ true = sym (ap are_simple m.is) ∙ m.simple in
      let own : (place_of m.first).start ≤ (place_of f.loop).start = chain_order (place_of m.first).start (place_of f.loop).start m.others chain.2 in
      let g : Given (begun_at ps u.span.start) (place_of f.loop).end text n.head n.tail =
      record {
        given = n.can.lines.tokens.list;
        has = (n.can.lines.tokens, n.can.lines.lexed_as, refl);
        closed = n.can.closed;
        ends = n.can.ends;
        same = n.same_nodes ∙ ap nodes_of n.given_is;
        behind = omega (arith, begun_before ps u.span.start, start, chain.0, n.start);
        before = omega (arith, n.start, own, o.grows);
        short = n.short;
        marked = n.all;
      }
      in
      let parts : c.tokens ≡ st.before ++ (u ∷ (rest ++ st.after)) = st.parts ∙ ap (λ (ws : List Token). st.before ++ (ws ++ st.after)) e in
      let laid : Put first_place source ps u.span.start (place_of f.loop).end text (st.before ++ (n.head ∷ (n.tail ++ st.after))) =
      put u rest st.after (place_of f.loop).end text n.head n.tail (λ z. o.lined (sym line ∙ z)) ends (omega (arith, start, chain.0, own, o.grows)) first_place source ps c.tokens st.before c.laid parts (closed_list st.before st.closed) few g in
      let fits : FitBlock (place_of o.one).start (place_of f.loop).end false n.block (Then m.first m.others) =
      fits_made (place_of o.one).start (place_of f.loop).end false n.block (Then m.first m.others) n.same simple (chain_longer (place_of o.one).start (place_of f.loop).start (place_of f.loop).end (Then m.first m.others) o.grows chain) (λ z. n.heads) in
      record {
        tokens = st.before ++ (n.head ∷ (n.tail ++ st.after));
        program = replaced_at path first n.block c.program;
        has = st.replaced (n.head ∷ n.tail) n.block n.has;
        same = same_replaced path first n.block block c.program p (n.same ∙ sym (ap unplaced_block m.is)) c.same;
        fits = o.replaced n.block block (subst (FitBlock (place_of o.one).start (place_of f.loop).end false n.block) (sym m.is) fits);
        laid = subst (λ (k : ℕ). Laid first_place source (ended_before (begun_at ps k) ps ++ (patch_at (begun_at ps k) text ∷ [])) (st.before ++ (n.head ∷ (n.tail ++ st.after)))) start laid.laid;
      }
    where
      chain_longer : (lo hi end : ℕ) (ss : Statements) → hi < end → Chain lo hi ss → Chain lo end ss
      chain_longer lo hi end Nothing more h = omega (arith, more, h)
      chain_longer lo hi end (Then s ss) more h = (h.0, h.1, chain_longer (place_of s).start hi end ss more h.2)

-- Where the statements that come for a run and its loop stand in a patch, the source carries the program in which they do.
pub one_more : (source : List ℕ) (ps : List Patched) (p : PlainProgram) → Carries source ps p → (path : List ℕ) (f : Fragment) (first : ℕ) → fragment_at path p ≡ Some f → first_at path p ≡ Some first → first < last_of path
    → (one : Statement) → statement_at (sibling path first) p ≡ Some one → (block : Statements) → MayComeFor f block → (text : List ℕ) → CanStandFor text block → EndBefore (place_of f.loop).end ps
    → Carries source (ended_before (begun_at ps (place_of one).start) ps ++ (record { from = begun_at ps (place_of one).start; to = (place_of f.loop).end; text = text } ∷ [])) (replaced_at path first block p)
one_more source ps p c path f first leads begins less one to_one block m text can few =
    let o : At source ps p c path f first less = focus 0 c.program p c.fits path f first leads begins less in
    let st : Stretch c.tokens c.program path first o.loop' = stretch c.tokens c.program path first o.loop' c.has o.to_loop less in
    let is : o.one ≡ one = same_some o.one one (sym o.to_one ∙ to_one) in
    subst (λ (x : Statement). Carries source (ended_before (begun_at ps (place_of x).start) ps ++ (record { from = begun_at ps (place_of x).start; to = (place_of f.loop).end; text = text } ∷ [])) (replaced_at path first block p)) is
    (by_tokens source ps p c path f first less o st block m text can few st.within refl)

-- Where a run stands before its loop: its first statement begins no later than the loop does.
pub record RunStands (p : PlainProgram) (path : List ℕ) (f : Fragment) (first : ℕ) : Type 0 where
  pub one : Statement
  pub to_one : statement_at (sibling path first) p ≡ Some one
  pub before : (place_of one).start ≤ (place_of f.loop).start
  pub grows : (place_of f.loop).start < (place_of f.loop).end

pub run_stands : (source : List ℕ) (ps : List Patched) (p : PlainProgram) → Carries source ps p → (path : List ℕ) (f : Fragment) (first : ℕ) → fragment_at path p ≡ Some f → first_at path p ≡ Some first → first < last_of path → RunStands p path f first
run_stands source ps p c path f first leads begins less =
    let o : At source ps p c path f first less = focus 0 c.program p c.fits path f first leads begins less in
    record { one = o.one; to_one = o.to_one; before = chain_order (place_of o.one).start (place_of f.loop).start f.run o.chain; grows = o.grows }
