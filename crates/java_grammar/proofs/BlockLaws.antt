-- Statements of all kinds, lists of them and blocks are read exactly, however deep.
use Rattle.std.proofs.Common.{◌≡◌, ℕ, zero, suc, pred, Bool, true, false, cond, List, [], ◌∷◌, ◌++◌, length, Option, Some, None, Ok, codes, is_some, refl, sym, ap, subst, ◌∙◌, append_assoc, arith, inl, inr, ◌⊎◌}
use Rattle.std.proofs.lemmas.List.{append-nil}
use Rattle.qbs_base.specs.declared.span.Span.{Span}
use Rattle.java_lex.specs.declared.token.TokenNode.{TokenNode}
use Rattle.java_lex.specs.declared.token.TokenNode.TheVariants as tokens
use Rattle.readers.specs.Reading.{is_over, made}
use Rattle.java_ast.specs.Tree.{Spelled, Expression, Statement, Statements, Declare, If, IfElse, ForEach, While, Nothing, Then as Followed}
use Rattle.java_grammar.specs.Marks.{Tok, extent}
use Rattle.java_grammar.specs.Rules.{Rule, Empty, One, Word, Sign, Seq, Then, Or, Made, Placed, Many}
use Rattle.java_grammar.specs.Words.{is_name, by_word, name_in, word_type, collection, collection_of}
use Rattle.java_words.specs.Words.{is_among, reserved_words}
use Rattle.java_grammar.specs.Types.{Element}
use Rattle.java_grammar.specs.Statements.{Parenthesised, Walk, Condition, Value, Plain, Declaration, IfHead, WhileHead, ForHead, HasStatement, plain as bare, if_alone, if_else, for_each, while, HasBody, HasBlock, HasStatements, none, declared, stated}
use Rattle.java_grammar.specs.Reading.{Reader, then_at, seq_at, empty_at, first_is, or_at, is_word, word_at}
use Rattle.java_grammar.specs.ReadingTypes.{is_word_type}
use Rattle.java_grammar.specs.ReadingStatements.{plain_at}
use Rattle.java_grammar.specs.ReadingBodies.{declaration_at, is_name_token, named_item_at, if_head_at, while_head_at, for_head_at, is_keyword, body_in, otherwise_at, if_of, if_at, for_at, while_at, statement_by, item_by, is_close, listed, items_by, statement_inside, statements_inside, body_at, block_at, statement_at, item_at, statements_at}
use Rattle.java_grammar.proofs.Sound.{Sound, then_sound, placed_sound, made_sound, either_sound, or_sound, empty_sound, turned_sound}
use Rattle.java_grammar.proofs.Again.{Leads, Again, Any, Heads, then_heads, then_again, seq_again, placed_again, made_again, empty_again}
use Rattle.java_grammar.proofs.SingleLaws.{by_word_is, word_if_is, is_word_true, this_heads, word_sound, word_again}
use Rattle.java_grammar.proofs.Laws.{Reads, of, turned, many}
use Rattle.java_grammar.proofs.PlainLaws.{named_no_word, plain_reads}
use Rattle.java_grammar.proofs.BodyLaws.{declaration_reads, DeclaredList, WordRest, NamedItem, named_item_reads, collection_no_type, if_head_reads, while_head_reads, for_head_reads, NoElse, Ends, Anyhow, Ending, ReadsBy, ending, no_else_ends}
use Rattle.java_grammar.proofs.StatementLaws.{begun_first, statement_kind, statement_begun, keyword_no_name, keyword_no_type, begins_no_sign, begins_no_else, Closed, blocks, bodies}

abbrev some : {A : Type 0} → A → Option A
some x = Some x

-- ---- statements, by the law of their bodies

word_heads : {B : Type 0} (Q : Rule B) (text : List ℕ) (p : TokenNode → Bool) (b : Bool) (us vs rest : List Tok) (y : Unit {0} × B) → p (tokens.Word text) ≡ b → Seq (Word text) Q us y → first_is p ((us ++ vs) ++ rest) ≡ b
word_heads Q text p b us vs rest y is h =
    ap (λ (ts : List Tok). first_is p ts) (append_assoc us vs rest) ∙ then_heads (Word text) (λ z. Q) p b Any (this_heads (tokens.Word text) p b Any is) us y (vs ++ rest) h tt

plain_no_word : (room : ℕ) (text : List ℕ) → is_among text reserved_words ≡ true → is_word text (tokens.Word (codes "return")) ≡ false → is_word text (tokens.Word (codes "break")) ≡ false → Heads (is_word text) false (Plain room) Any
plain_no_word room text reserved no_return no_break us x rest (inl h) follows = then_heads (Word (codes "return")) (λ z. Or (Made (λ y. None) (Sign (codes ";"))) (Made (λ y. Some y) (Value room))) (is_word text) false Any (this_heads (tokens.Word (codes "return")) (is_word text) false Any no_return) us h.0 rest h.1 tt
plain_no_word room text reserved no_return no_break us x rest (inr (inl h)) follows = then_heads (Word (codes "break")) (λ z. Sign (codes ";")) (is_word text) false Any (this_heads (tokens.Word (codes "break")) (is_word text) false Any no_break) us h.0 rest h.1 tt
plain_no_word room text reserved no_return no_break us x rest (inr (inr h)) follows = named_no_word room text reserved us x rest h tt

abbrev while_of : Span → Expression × (Bool × Statements) → Bool × Statement
while_of at x = (x.1.0, While at x.0 x.1.1)

abbrev for_of : Span → (Spelled × (List ℕ × Expression)) × (Bool × Statements) → Bool × Statement
for_of at x = (x.1.0, ForEach at x.0.0 x.0.1.0 x.0.1.1 x.1.1)

abbrev if_made : Span → Expression × ((Bool × Statements) × Option (Bool × Statements)) → Bool × Statement
if_made at x = if_of at x.0 x.1.0.1 x.1.1

module _ (room : ℕ) (body : Reader (Bool × Statements)) (law : ReadsBy (HasBody room) body) where
  abbrev Bodied : Rule (Bool × Statements)
  Bodied = Anyhow (HasBody room)

  abbrev Stated : Rule (Bool × Statement)
  Stated = Anyhow (HasStatement room)

  -- ---- while and for

  while_there : (us : List Tok) (y : Bool × Statement) → Placed while_of (Seq (WhileHead room) Bodied) us y → Stated us y
  while_there us y h = subst (λ (v : Bool × Statement). HasStatement room v.0 us v.1) (sym h.2) (subst (λ (ts : List Tok). HasStatement room h.0.1.0 ts (While (extent ts) h.0.0 h.0.1.1)) (sym h.1.2) (while h.1.3 h.1.4))

  while_sound : Sound Stated (while_at room body)
  unfolding while_at
  while_sound =
      turned_sound (Placed while_of (Seq (WhileHead room) Bodied)) Stated (while_at room body) while_there
      (placed_sound while_of (Seq (WhileHead room) Bodied) (seq_at (while_head_at room) body) (then_sound (WhileHead room) (λ x. Bodied) (while_head_at room) (λ x. body) (while_head_reads room).sound (λ x. law.sound)))

  while_again : (b : Bool) → Again (Placed while_of (Seq (WhileHead room) (Ending (HasBody room) b))) (Ends b) (while_at room body)
  unfolding while_at
  while_again b = placed_again while_of (Seq (WhileHead room) (Ending (HasBody room) b)) (Ends b) (seq_at (while_head_at room) body) (seq_again (WhileHead room) (Ending (HasBody room) b) (Ends b) (while_head_at room) body (while_head_reads room).again (ending law b))

  for_there : (us : List Tok) (y : Bool × Statement) → Placed for_of (Seq (ForHead room) Bodied) us y → Stated us y
  for_there us y h = subst (λ (v : Bool × Statement). HasStatement room v.0 us v.1) (sym h.2) (subst (λ (ts : List Tok). HasStatement room h.0.1.0 ts (ForEach (extent ts) h.0.0.0 h.0.0.1.0 h.0.0.1.1 h.0.1.1)) (sym h.1.2) (for_each h.1.3 h.1.4))

  for_sound : Sound Stated (for_at room body)
  unfolding for_at
  for_sound =
      turned_sound (Placed for_of (Seq (ForHead room) Bodied)) Stated (for_at room body) for_there
      (placed_sound for_of (Seq (ForHead room) Bodied) (seq_at (for_head_at room) body) (then_sound (ForHead room) (λ x. Bodied) (for_head_at room) (λ x. body) (for_head_reads room).sound (λ x. law.sound)))

  for_again : (b : Bool) → Again (Placed for_of (Seq (ForHead room) (Ending (HasBody room) b))) (Ends b) (for_at room body)
  unfolding for_at
  for_again b = placed_again for_of (Seq (ForHead room) (Ending (HasBody room) b)) (Ends b) (seq_at (for_head_at room) body) (seq_again (ForHead room) (Ending (HasBody room) b) (Ends b) (for_head_at room) body (for_head_reads room).again (ending law b))

  -- ---- if

  abbrev Else : Rule (Bool × Statements) → Rule (Option (Bool × Statements))
  Else P = Made (λ x. Some x.1) (Seq (Word (codes "else")) P)

  abbrev Otherwise : Bool → Rule (Option (Bool × Statements))
  Otherwise true = Empty None
  Otherwise false = Or (Else Bodied) (Empty None)

  otherwise_sound : (c : Bool) → Sound (Otherwise c) (otherwise_at body c)
  unfolding otherwise_at
  otherwise_sound true = empty_sound None
  otherwise_sound false =
      or_sound (Else Bodied) (Empty None) (is_word (codes "else")) (made (λ x. Some x.1) (seq_at (word_at (codes "else")) body)) (empty_at None)
      (made_sound (λ x. Some x.1) (Seq (Word (codes "else")) Bodied) (seq_at (word_at (codes "else")) body) (then_sound (Word (codes "else")) (λ x. Bodied) (word_at (codes "else")) (λ x. body) (word_sound (codes "else")) (λ x. law.sound)))
      (empty_sound None)

  abbrev IfRule : Rule (Bool × Statement)
  IfRule = Placed if_made (Seq (IfHead room) (Then Bodied (λ first. Otherwise first.0)))

  if_without : (c : Bool) (us a d g : List Tok) (cond : Expression) (first : Statements) → us ≡ a ++ (d ++ g) → g ≡ [] → IfHead room a cond → HasBody room c d first → HasStatement room true us (If (extent us) cond first)
  if_without c us a d g cond first all over head h =
      let path : us ≡ a ++ d = all ∙ ap (λ (ts : List Tok). a ++ (d ++ ts)) over ∙ ap (λ (ts : List Tok). a ++ ts) (append-nil d) in
      subst (λ (ts : List Tok). HasStatement room true ts (If (extent ts) cond first)) (sym path) (if_alone head h)

  if_built : (c : Bool) (o : Option (Bool × Statements)) (us a d g : List Tok) (cond : Expression) (first : Statements) → us ≡ a ++ (d ++ g) → IfHead room a cond → HasBody room c d first → Otherwise c g o → Stated us (if_of (extent us) cond first o)
  if_built true None us a d g cond first all head h other = if_without true us a d g cond first all other.0 head h
  if_built true (Some o) us a d g cond first all head h other = absurd (let q : some o ≡ None = other.1 in cc)
  if_built false None us a d g cond first all head h (inl other) = absurd (let q : None ≡ some other.0.1 = other.2 in cc)
  if_built false None us a d g cond first all head h (inr other) = if_without false us a d g cond first all other.0 head h
  if_built false (Some o) us a d g cond first all head h (inr other) = absurd (let q : some o ≡ None = other.1 in cc)
  if_built false (Some o) us a d g cond first all head h (inl other) =
      let s = other.1 in
      let same : other.0.1 ≡ o = let q : some o ≡ some other.0.1 = other.2 in cc in
      let path : us ≡ a ++ (d ++ (s.0 ++ s.1)) = all ∙ ap (λ (ts : List Tok). a ++ (d ++ ts)) s.2 in
      subst (λ (v : Bool × Statements). HasStatement room v.0 us (IfElse (extent us) cond first v.1)) same
      (subst (λ (ts : List Tok). HasStatement room other.0.1.0 ts (IfElse (extent ts) cond first other.0.1.1)) (sym path) (if_else head h s.3 s.4))

  if_there : (us : List Tok) (y : Bool × Statement) → IfRule us y → Stated us y
  if_there us y h =
      let p = h.1 in
      let q = p.4 in
      subst (λ (v : Bool × Statement). HasStatement room v.0 us v.1) (sym h.2)
      (if_built h.0.1.0.0 h.0.1.1 us p.0 q.0 q.1 h.0.0 h.0.1.0.1 (p.2 ∙ ap (λ (ts : List Tok). p.0 ++ ts) q.2) p.3 q.3 q.4)

  if_sound : Sound Stated (if_at room body)
  unfolding if_at
  if_sound =
      turned_sound IfRule Stated (if_at room body) if_there
      (placed_sound if_made (Seq (IfHead room) (Then Bodied (λ first. Otherwise first.0))) (seq_at (if_head_at room) (then_at body (λ first. otherwise_at body first.0)))
      (then_sound (IfHead room) (λ x. Then Bodied (λ first. Otherwise first.0)) (if_head_at room) (λ x. then_at body (λ first. otherwise_at body first.0)) (if_head_reads room).sound
      (λ x. then_sound Bodied (λ first. Otherwise first.0) body (λ first. otherwise_at body first.0) law.sound (λ first. otherwise_sound first.0))))

  none_again : (d : Bool) → Again (Empty None) NoElse (otherwise_at body d)
  unfolding otherwise_at
  none_again true us x rest h f = empty_again None us x rest h tt
  none_again false us x rest h f = rw (ap (λ (ts : List Tok). first_is (is_word (codes "else")) (ts ++ rest)) h.0 ∙ f) (empty_again None us x rest h tt)

  abbrev Alone : Bool → Rule (Bool × Statement)
  Alone c = Placed if_made (Seq (IfHead room) (Then (Ending (HasBody room) c) (λ first. Empty None)))

  alone_again : (c : Bool) → Again (Alone c) NoElse (if_at room body)
  unfolding if_at
  alone_again c =
      placed_again if_made (Seq (IfHead room) (Then (Ending (HasBody room) c) (λ first. Empty None))) NoElse (seq_at (if_head_at room) (then_at body (λ first. otherwise_at body first.0)))
      (seq_again (IfHead room) (Then (Ending (HasBody room) c) (λ first. Empty None)) NoElse (if_head_at room) (then_at body (λ first. otherwise_at body first.0)) (if_head_reads room).again
      (then_again (Ending (HasBody room) c) (λ first. Empty None) (Ends c) NoElse body (λ first. otherwise_at body first.0) (ending law c) (λ first. none_again first.0)
      (λ first vs o rest h f. subst (λ (ts : List Tok). Ends c (ts ++ rest)) (sym h.0) (no_else_ends c rest f))))

  abbrev ElseOf : Bool → Bool → Rule (Option (Bool × Statements))
  ElseOf b d us o = (d ≡ false) × Else (Ending (HasBody room) b) us o

  else_again : (b d : Bool) → Again (ElseOf b d) (Ends b) (otherwise_at body d)
  unfolding otherwise_at
  else_again b true us x rest h f = absurd (let q = h.0 in cc)
  else_again b false us x rest h f =
      let s = h.1.1 in
      let first : first_is (is_word (codes "else")) (us ++ rest) ≡ true = then_heads (Word (codes "else")) (λ y. Ending (HasBody room) b) (is_word (codes "else")) true Any (this_heads (tokens.Word (codes "else")) (is_word (codes "else")) true Any refl) us h.1.0 rest s tt in
      rw first (made_again (λ y. Some y.1) (Seq (Word (codes "else")) (Ending (HasBody room) b)) (Ends b) (seq_at (word_at (codes "else")) body) (seq_again (Word (codes "else")) (Ending (HasBody room) b) (Ends b) (word_at (codes "else")) body (word_again (codes "else")) (ending law b)) us x rest h.1 f)

  abbrev Both : Bool → Rule (Bool × Statement)
  Both b = Placed if_made (Seq (IfHead room) (Then (Ending (HasBody room) false) (λ first. ElseOf b first.0)))

  both_again : (b : Bool) → Again (Both b) (Ends b) (if_at room body)
  unfolding if_at
  both_again b =
      placed_again if_made (Seq (IfHead room) (Then (Ending (HasBody room) false) (λ first. ElseOf b first.0))) (Ends b) (seq_at (if_head_at room) (then_at body (λ first. otherwise_at body first.0)))
      (seq_again (IfHead room) (Then (Ending (HasBody room) false) (λ first. ElseOf b first.0)) (Ends b) (if_head_at room) (then_at body (λ first. otherwise_at body first.0)) (if_head_reads room).again
      (then_again (Ending (HasBody room) false) (λ first. ElseOf b first.0) (Ends false) (Ends b) body (λ first. otherwise_at body first.0) (ending law false) (λ first. else_again b first.0) (λ first vs o rest h f. tt)))

  -- ---- all kinds

  abbrev PlainRule : Rule (Bool × Statement)
  PlainRule = Made (λ x. (false, x)) (Plain room)

  plains : Reads PlainRule Any (made (λ x. (false, x)) (plain_at room))
  plains = of (plain_reads room) (λ x. (false, x))

  plain_there : (us : List Tok) (y : Bool × Statement) → PlainRule us y → Stated us y
  plain_there us y h = subst (λ (v : Bool × Statement). HasStatement room v.0 us v.1) (sym h.2) (bare h.1)

  kinds_sound : Sound Stated (statement_by room body)
  unfolding statement_by
  kinds_sound =
      either_sound Stated (is_word (codes "if")) (if_at room body) (or_at (is_word (codes "for")) (for_at room body) (or_at (is_word (codes "while")) (while_at room body) (made (λ x. (false, x)) (plain_at room)))) if_sound
      (either_sound Stated (is_word (codes "for")) (for_at room body) (or_at (is_word (codes "while")) (while_at room body) (made (λ x. (false, x)) (plain_at room))) for_sound
      (either_sound Stated (is_word (codes "while")) (while_at room body) (made (λ x. (false, x)) (plain_at room)) while_sound (turned_sound PlainRule Stated (made (λ x. (false, x)) (plain_at room)) plain_there plains.sound)))

  kinds_again : {b : Bool} {us : List Tok} {x : Statement} → HasStatement room b us x → (rest : List Tok) → Ends b rest → Leads (statement_by room body (us ++ rest)) (Ok ((b, x), rest)) us rest
  unfolding statement_by
  kinds_again (bare {us} {x} h) rest f =
      rw (plain_no_word room (codes "if") refl refl refl us x rest h tt, plain_no_word room (codes "for") refl refl refl us x rest h tt, plain_no_word room (codes "while") refl refl refl us x rest h tt) (plains.again us (false, x) rest (x, h, refl) tt)
  kinds_again (if_alone {open_if} {us} {vs} {cond} {yes = first} h k) rest f =
      rw (word_heads (Condition room) (codes "if") (is_word (codes "if")) true us vs rest h.0 refl h.1)
      (alone_again open_if (us ++ vs) (true, If (extent (us ++ vs)) cond first) rest ((cond, ((open_if, first), None)), (us, vs, refl, h, (vs, [], sym (append-nil vs), (refl, k), (refl, refl))), refl) f)
  kinds_again (if_else {open_if} {us} {vs} {ws} {zs} {cond} {yes = first} {other} h k e l) rest f =
      let all : List Tok = us ++ (vs ++ (ws ++ zs)) in
      rw (word_heads (Condition room) (codes "if") (is_word (codes "if")) true us (vs ++ (ws ++ zs)) rest h.0 refl h.1)
      (both_again open_if all (open_if, IfElse (extent all) cond first other) rest ((cond, ((false, first), Some (open_if, other))), (us, vs ++ (ws ++ zs), refl, h, (vs, ws ++ zs, refl, (refl, k), (refl, ((tt, (open_if, other)), (ws, zs, refl, e, (refl, l)), refl)))), refl) f)
  kinds_again (for_each {open_if} {us} {vs} {walk} {body = first} h k) rest f =
      rw (word_heads (Parenthesised room (Walk (pred room))) (codes "for") (is_word (codes "if")) false us vs rest h.0 refl h.1, word_heads (Parenthesised room (Walk (pred room))) (codes "for") (is_word (codes "for")) true us vs rest h.0 refl h.1)
      (for_again open_if (us ++ vs) (open_if, ForEach (extent (us ++ vs)) walk.0 walk.1.0 walk.1.1 first) rest ((walk, (open_if, first)), (us, vs, refl, h, (refl, k)), refl) f)
  kinds_again (while {open_if} {us} {vs} {cond} {body = first} h k) rest f =
      rw (word_heads (Condition room) (codes "while") (is_word (codes "if")) false us vs rest h.0 refl h.1, word_heads (Condition room) (codes "while") (is_word (codes "for")) false us vs rest h.0 refl h.1, word_heads (Condition room) (codes "while") (is_word (codes "while")) true us vs rest h.0 refl h.1)
      (while_again open_if (us ++ vs) (open_if, While (extent (us ++ vs)) cond first) rest ((cond, (open_if, first)), (us, vs, refl, h, (refl, k)), refl) f)

  pub kinds : ReadsBy (HasStatement room) (statement_by room body)
  kinds = record { sound = kinds_sound; again = λ b us x rest h follows. kinds_again h rest follows }

-- ---- declarations and statements one after the other

-- a declaration, or a statement
abbrev pub Item : ℕ → Rule Statement
Item room us x = Declaration room us x ⊎ ((b : Bool) × HasStatement room b us x)

module _ (room : ℕ) (statement : Reader (Bool × Statement)) (law : ReadsBy (HasStatement room) statement) where
  named_there : (us : List Tok) (x : Statement) → NamedItem room us x → Item room us x
  named_there us x h = by h.1.4
    where
      by : WordRest room h.0.0 h.1.1 h.0.1 → Item room us x
      by (inr k) = inr (false, bare (inr (inr (h.0, (h.1.0, h.1.1, h.1.2, h.1.3, k), h.2))))
      by (inl (inl k)) =
          let p = h.1 in
          let one = p.3 in
          let typed : by_word word_type one.0.token.node ≡ Some k.0 = ap (by_word word_type) (word_if_is is_name one.0.token.node h.0.0 one.2).0 ∙ k.1 in
          inl ((k.0, k.2.0), (p.0, p.1, p.2, inl (one.0, one.1, typed), k.2.1), h.2 ∙ ap (λ (f : Span → Statement). f (extent us)) k.2.2)
      by (inl (inr k)) =
          let p = h.1 in
          let one = p.3 in
          let q = k.2.1 in
          let listed_as : by_word collection one.0.token.node ≡ Some k.0 = ap (by_word collection) (word_if_is is_name one.0.token.node h.0.0 one.2).0 ∙ k.1 in
          let all : us ≡ (p.0 ++ q.0) ++ q.1 = p.2 ∙ ap (λ (ts : List Tok). p.0 ++ ts) q.2 ∙ sym (append_assoc p.0 q.0 q.1) in
          inl ((collection_of k.0 k.2.0.0, q.4.0), (p.0 ++ q.0, q.1, all, inr ((k.0, k.2.0.0), (p.0, q.0, refl, (one.0, one.1, listed_as), q.3), refl), q.4.1), h.2 ∙ ap (λ (f : Span → Statement). f (extent us)) (k.2.2 ∙ q.4.2))

  abbrev AnyStatement : Rule Statement
  AnyStatement = Made (λ x. x.1) (Anyhow (HasStatement room))

  item_sound : Sound (Item room) (item_by room statement)
  unfolding item_by
  item_sound =
      either_sound (Item room) is_name_token (named_item_at room) (or_at is_word_type (declaration_at room) (made (λ x. x.1) statement)) (turned_sound (NamedItem room) (Item room) (named_item_at room) named_there (named_item_reads room).sound)
      (either_sound (Item room) is_word_type (declaration_at room) (made (λ x. x.1) statement) (turned_sound (Declaration room) (Item room) (declaration_at room) (λ us x h. inl h) (declaration_reads room).sound)
      (turned_sound AnyStatement (Item room) (made (λ x. x.1) statement) (λ us x h. inr (h.0.0, subst (λ (y : Statement). HasStatement room h.0.0 us y) (sym h.2) h.1)) (made_sound (λ x. x.1) (Anyhow (HasStatement room)) statement law.sound)))

  -- what begins with a name
  by_name : (us : List Tok) (x : Statement) (rest : List Tok) → NamedItem room us x → Leads (item_by room statement (us ++ rest)) (Ok (x, rest)) us rest
  unfolding item_by
  by_name us x rest h =
      let s = h.1 in
      let first : first_is is_name_token (us ++ rest) ≡ true = ap (λ (ts : List Tok). first_is is_name_token (ts ++ rest)) s.2 ∙ ap (λ (ts : List Tok). first_is is_name_token ((ts ++ s.1) ++ rest)) s.3.1 ∙ ap is_some s.3.2 in
      rw first ((named_item_reads room).again us x rest h tt)

  declared_again : (us : List Tok) (x : Statement) (rest : List Tok) → Declaration room us x → Leads (item_by room statement (us ++ rest)) (Ok (x, rest)) us rest
  unfolding item_by
  declared_again us x rest h = by h.1.3
    where
      by_word_of : (t : Tok) (w : List ℕ) (b : Bool) → h.1.0 ≡ t ∷ [] → t.token.node ≡ tokens.Word w → word_type w ≡ Some h.0.0 → is_name w ≡ b → Leads (item_by room statement (us ++ rest)) (Ok (x, rest)) us rest
      by_word_of t w true one is typed named =
          let name : name_in t.token.node ≡ Some w = ap name_in is ∙ ap (λ (b : Bool). cond b (some w) None) named in
          by_name us x rest ((w, λ at. Declare at h.0.0 h.0.1.0 h.0.1.1.1), (h.1.0, h.1.1, h.1.2, (t, one, name), inl (inl (h.0.0, typed, (h.0.1, h.1.4, refl)))), h.2)
      by_word_of t w false one is typed named =
          let front : us ++ rest ≡ t ∷ (h.1.1 ++ rest) = ap (λ (ts : List Tok). ts ++ rest) h.1.2 ∙ ap (λ (ts : List Tok). (ts ++ h.1.1) ++ rest) one in
          let no_name : first_is is_name_token (us ++ rest) ≡ false = ap (λ (ts : List Tok). first_is is_name_token ts) front ∙ ap is_name_token is ∙ ap (λ (b : Bool). is_some (cond b (some w) None)) named in
          let a_type : first_is is_word_type (us ++ rest) ≡ true = ap (λ (ts : List Tok). first_is is_word_type ts) front ∙ ap is_word_type is ∙ ap is_some typed in
          rw (no_name, a_type) ((declaration_reads room).again us x rest h tt)

      by : (One (by_word word_type) h.1.0 h.0.0) ⊎ Made (λ y. collection_of y.0 y.1) (Seq (One (by_word collection)) Element) h.1.0 h.0.0 → Leads (item_by room statement (us ++ rest)) (Ok (x, rest)) us rest
      by (inl k) = let w = by_word_is word_type k.0.token.node h.0.0 k.2 in by_word_of k.0 w.0 (is_name w.0) k.1 w.1 w.2 refl
      by (inr k) =
          let q = k.1 in
          let one = q.3 in
          let w = by_word_is collection one.0.token.node k.0.0 one.2 in
          let named = (collection_no_type w.0 k.0.0 w.2).1 in
          let name : name_in one.0.token.node ≡ Some w.0 = ap name_in w.1 ∙ ap (λ (b : Bool). cond b (some w.0) None) named in
          let all : us ≡ q.0 ++ (q.1 ++ h.1.1) = h.1.2 ∙ ap (λ (ts : List Tok). ts ++ h.1.1) q.2 ∙ append_assoc q.0 q.1 h.1.1 in
          let made_as : Span → Statement = λ at. Declare at (collection_of k.0.0 k.0.1) h.0.1.0 h.0.1.1.1 in
          let rest_has : DeclaredList room k.0.0 (q.1 ++ h.1.1) made_as = ((k.0.1, made_as), (q.1, h.1.1, refl, q.4, (h.0.1, h.1.4, refl)), refl) in
          by_name us x rest ((w.0, made_as), (q.0, q.1 ++ h.1.1, all, (one.0, one.1, name), inl (inr (k.0.0, w.2, rest_has))), h.2 ∙ ap (λ (s : Spelled). Declare (extent us) s h.0.1.0 h.0.1.1.1) k.2)

  stated_again : (b : Bool) (us : List Tok) (x : Statement) (rest : List Tok) → HasStatement room b us x → NoElse rest → Leads (item_by room statement (us ++ rest)) (Ok (x, rest)) us rest
  unfolding item_by
  stated_again b us x rest h f = elim (statement_kind h) [
    | inl k ↦ let n = k.0 in by_name us x rest (n.0, (n.1.0, n.1.1, n.1.2, n.1.3, inr n.1.4), n.2)
    | inr k ↦
        rw (begun_first is_keyword is_name_token false keyword_no_name us rest k, begun_first is_keyword is_word_type false keyword_no_type us rest k)
        (made_again (λ y. y.1) (Ending (HasStatement room) b) (Ends b) statement (ending law b) us x rest ((b, x), (refl, h), refl) (no_else_ends b rest f))
  ]

  pub items_one : Reads (Item room) NoElse (item_by room statement)
  items_one = record { sound = item_sound; again = again }
    where
      again : (us : List Tok) (x : Statement) (rest : List Tok) → Item room us x → NoElse rest → Leads (item_by room statement (us ++ rest)) (Ok (x, rest)) us rest
      again us x rest (inl h) f = declared_again us x rest h
      again us x rest (inr h) f = stated_again h.0 us x rest h.1 f

  -- ---- what a declaration or a statement begins with

  abbrev First : List Tok → Type 0
  First us = (t : Tok) × (ts : List Tok) × (us ≡ t ∷ ts) × (is_close t.token.node ≡ false) × (is_word (codes "else") t.token.node ≡ false)

  no_else_type : (w : List ℕ) (s : Spelled) → word_type w ≡ Some s → is_word (codes "else") (tokens.Word w) ≡ false
  no_else_type w s e = by (is_word (codes "else") (tokens.Word w)) refl
    where
      by : (b : Bool) → is_word (codes "else") (tokens.Word w) ≡ b → b ≡ false
      by true h = let same = is_word_true (codes "else") (tokens.Word w) h in let q : some s ≡ None = sym e ∙ ap (by_word word_type) same in absurd cc
      by false h = refl

  no_else_collection : (w : List ℕ) (b : Bool) → collection w ≡ Some b → is_word (codes "else") (tokens.Word w) ≡ false
  no_else_collection w c e = by (is_word (codes "else") (tokens.Word w)) refl
    where
      by : (b : Bool) → is_word (codes "else") (tokens.Word w) ≡ b → b ≡ false
      by true h = let same = is_word_true (codes "else") (tokens.Word w) h in let q : some c ≡ None = sym e ∙ ap (by_word collection) same in absurd cc
      by false h = refl

  declared_first : (us : List Tok) (x : Statement) → Declaration room us x → First us
  declared_first us x h = by h.1.3
    where
      by : (One (by_word word_type) h.1.0 h.0.0) ⊎ Made (λ y. collection_of y.0 y.1) (Seq (One (by_word collection)) Element) h.1.0 h.0.0 → First us
      by (inl k) =
          let w = by_word_is word_type k.0.token.node h.0.0 k.2 in
          (k.0, h.1.1, h.1.2 ∙ ap (λ (ts : List Tok). ts ++ h.1.1) k.1, ap is_close w.1, ap (is_word (codes "else")) w.1 ∙ no_else_type w.0 h.0.0 w.2)
      by (inr k) =
          let q = k.1 in
          let one = q.3 in
          let w = by_word_is collection one.0.token.node k.0.0 one.2 in
          (one.0, q.1 ++ h.1.1, h.1.2 ∙ ap (λ (ts : List Tok). ts ++ h.1.1) (q.2 ∙ ap (λ (ts : List Tok). ts ++ q.1) one.1), ap is_close w.1, ap (is_word (codes "else")) w.1 ∙ no_else_collection w.0 k.0.0 w.2)

  item_first : (us : List Tok) (x : Statement) → Item room us x → First us
  item_first us x (inl h) = declared_first us x h
  item_first us x (inr h) = let s = statement_begun h.1 in (s.0, s.1, s.2, begins_no_sign (codes "}") s.0.token.node s.3, begins_no_else s.0.token.node s.3)

  -- ---- lists

  many_there : (us : List Tok) (xs : List Statement) → Many (Item room) us xs → HasStatements room us (listed xs)
  many_there us [] h = subst (λ (ts : List Tok). HasStatements room ts Nothing) (sym h) none
  many_there us (x ∷ xs) h =
      let others = many_there h.1 xs h.4 in
      subst (λ (ts : List Tok). HasStatements room ts (Followed x (listed xs))) (sym h.2) (elim h.3 [ inl k ↦ declared k others | inr k ↦ stated k.1 others ])

  many_back : {us : List Tok} {ys : Statements} → HasStatements room us ys → (xs : List Statement) × Many (Item room) us xs × (ys ≡ listed xs)
  many_back none = ([], refl, refl)
  many_back (declared {us} {vs} {x} h k) = let r = many_back k in (x ∷ r.0, (us, vs, refl, inl h, r.1), ap (Followed x) r.2)
  many_back (stated {open_if} {us} {vs} {x} h k) = let r = many_back k in (x ∷ r.0, (us, vs, refl, inr (open_if, h), r.1), ap (Followed x) r.2)

  pub items : Reads (HasStatements room) Closed (items_by room statement)
  unfolding items_by
  items =
      turned (HasStatements room)
      (of (many is_close items_one
      (λ us x h. let s = item_first us x h in omega (arith, ap length s.2))
      (λ us x rest h. let s = item_first us x h in ap (λ (ts : List Tok). is_over (λ (t : Tok). is_close t.token.node) (ts ++ rest)) s.2 ∙ s.3)
      (λ us x rest h. let s = item_first us x h in ap (λ (ts : List Tok). first_is (is_word (codes "else")) (ts ++ rest)) s.2 ∙ s.4)) listed)
      (λ us ys h. subst (λ (zs : Statements). HasStatements room us zs) (sym h.2) (many_there us h.0 h.1)) (λ us ys h. many_back h)

-- ---- all levels

abbrev pub StatementLaw : ℕ → Type 0
StatementLaw room = (m : ℕ) → room ≡ suc m → ReadsBy (HasStatement (pred room)) (statement_inside room)

abbrev pub StatementsLaw : ℕ → Type 0
StatementsLaw room = (m : ℕ) → room ≡ suc m → Reads (HasStatements (pred room)) Closed (statements_inside room)

pub inside_laws : (room : ℕ) → StatementLaw room × StatementsLaw room
unfolding statement_inside
inside_laws zero = ((λ m e. absurd (omega (arith, e))), (λ m e. absurd (omega (arith, e))))
inside_laws (suc room) =
    let l = inside_laws room in
    let s = kinds room (body_in room (statement_inside room) (statements_inside room)) (bodies room (statement_inside room) (statements_inside room) l.0 l.1) in
    ((λ m e. s), (λ m e. items room (statement_by room (body_in room (statement_inside room) (statements_inside room))) s))

pub body_reads : (room : ℕ) → ReadsBy (HasBody room) (body_at room)
unfolding body_at
body_reads room = let l = inside_laws room in bodies room (statement_inside room) (statements_inside room) l.0 l.1

pub block_reads : (room : ℕ) → Reads (HasBlock room) Any (block_at room)
unfolding block_at
block_reads room = let l = inside_laws room in blocks room (statement_inside room) (statements_inside room) l.0 l.1

pub statement_reads : (room : ℕ) → ReadsBy (HasStatement room) (statement_at room)
unfolding statement_at
statement_reads room = kinds room (body_at room) (body_reads room)

pub item_reads : (room : ℕ) → Reads (Item room) NoElse (item_at room)
unfolding item_at
item_reads room = items_one room (statement_at room) (statement_reads room)

pub statements_reads : (room : ℕ) → Reads (HasStatements room) Closed (statements_at room)
unfolding statements_at
statements_reads room = items room (statement_at room) (statement_reads room)
