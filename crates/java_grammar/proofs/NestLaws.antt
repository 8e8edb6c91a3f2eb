-- Chains of parts and of operators are read exactly, and so are expressions of any rank.
use Rattle.std.proofs.Common.{◌≡◌, ℕ, zero, suc, pred, ◌≤◌, ◌<◌, Bool, true, false, List, [], ◌∷◌, ◌++◌, length, Option, Some, None, Ok, Err, codes, is_some, refl, sym, ap, subst, ◌∙◌, append_assoc, arith, inl, inr, ◌⊎◌}
use Rattle.std.specs.Str.{bytes_eq}
use Rattle.std.proofs.lemmas.List.{append-nil}
use Rattle.qbs_base.specs.declared.span.Span.{Span}
use Rattle.java_lex.specs.declared.token.TokenNode.{TokenNode}
use Rattle.java_lex.specs.declared.token.TokenNode.TheVariants as tokens
use Rattle.readers.specs.declared.fault.Fault.TheVariants.{TooDeep}
use Rattle.readers.specs.Reading.{◌>>=◌, Read, made}
use Rattle.readers.proofs.Tools.{chosen}
use Rattle.java_ast.specs.declared.tree.Op.{Op}
use Rattle.java_ast.specs.declared.tree.Op.TheVariants as ops
use Rattle.java_ast.specs.Tree.{Expression, Var, Binary, Not}
use Rattle.java_grammar.specs.Marks.{Tok, extent}
use Rattle.java_grammar.specs.Rules.{Rule, Empty, One, Sign, Opening, Seq, Then, Or, Made, Placed}
use Rattle.java_grammar.specs.Words.{is_variable, name_in, variable_in}
use Rattle.java_limits.specs.Limits.{longest}
use Rattle.java_grammar.specs.Expressions.{Variable, Call, EqualTo, left_behind, operator_in, Operator, ranks, HasAtom, HasSuffix, field, called, HasParts, atom, dotted, further, HasUnary, variable, parts, negation, HasChain, operand, joined, HasRank, unary, chain, HasExpression}
use Rattle.java_grammar.specs.Reading.{Reader, then_at, first_is, is_sign, chain_at, continued, chained_at, held, held_at}
use Rattle.java_grammar.specs.ReadingExpressions.{Ranked, suffix_at, atom_at, is_variable_token, variable_at, dotted_at, behind_variable_at, named_at, head_at, part_at, postfix_at, negation_at, unary_at, is_operator, operand_at, rank_in, inside, query_inside, rank_at, expression_at}
use Rattle.java_grammar.proofs.Sound.{Sound, Passes, Held, held_sound}
use Rattle.java_grammar.proofs.Again.{Leads, then_leads, bind_leads, leads_left, leads_right, Again, Any, then_again, placed_again, held_again, Heads, one_heads, then_heads}
use Rattle.java_grammar.proofs.SingleLaws.{token_of, word_if_is, opening_heads, this_heads}
use Rattle.java_grammar.proofs.Chain.{chained_sound, chain_steps, chain_ends}
use Rattle.java_grammar.proofs.Laws.{Reads, empty, one, sign, opening, seq, by_value, of, put, either, turned, before, enclosed}
use Rattle.java_grammar.proofs.TypeLaws.{some_name}
use Rattle.java_grammar.proofs.ExpressionLaws.{Follow, ends, no_dot, no_open, looser_follow, no_operator, operator_ends, first_follows}
use Rattle.java_grammar.proofs.LevelLaws.{some_unary, QueryRule, suffix_reads, atom_reads, atom_heads, query_reads}

abbrev some : {A : Type 0} → A → Option A
some x = Some x

abbrev behind_at : Reader Expression → Op × List Tok → Read Tok (Op × Expression)
behind_at r y = r y.1 >>= λ z. Ok ((y.0, z.0), z.1)

abbrev NoOpen : List Tok → Type 0
NoOpen rest = first_is (is_sign (codes "(")) rest ≡ false

abbrev NoDot : List Tok → Type 0
NoDot rest = first_is (is_sign (codes ".")) rest ≡ false

some_variable : Passes variable_in
some_variable = record { token = token_of (tokens.Word (codes "x")); value = codes "x"; is = refl }

variable_no_sign : (text : List ℕ) (n : TokenNode) (w : List ℕ) → variable_in n ≡ Some w → is_sign text n ≡ false
variable_no_sign text n w e = rw ((word_if_is is_variable n w e).0) refl

-- behind what is no name, a call is one of `equals`
after_none : {room left after : ℕ} {x : Expression} {m : List ℕ} {us : List Tok} {f : Span → Expression} → HasSuffix room None x m left us f after → after ≡ pred left
after_none field = refl
after_none {left} {m} (called {c} is o h s) =
    elim (chosen (bytes_eq m (codes "equals")) (some EqualTo) None (some c) is) [
      | inl k ↦ let same : EqualTo ≡ c = let q : some EqualTo ≡ some c = k.1 in cc in ap (λ (d : Call). left_behind d left) (sym same)
      | inr k ↦ absurd cc
    ]

module _ (room : ℕ) (inner : Ranked) (query : Reader Expression)
    (inner_law : (m : ℕ) → room ≡ suc m → (rank : ℕ) → rank ≤ 6 → Reads (HasRank (pred room) rank) (Follow rank) (inner rank)) (query_law : (m : ℕ) → room ≡ suc m → Reads (QueryRule (pred room)) Any query) where
  abbrev SuffixRule : Option (List ℕ) → Expression → List ℕ → ℕ → Rule ((Span → Expression) × ℕ)
  SuffixRule bare x m left us y = HasSuffix room bare x m left us y.0 y.1

  suffixes : (bare : Option (List ℕ)) (x : Expression) (m : List ℕ) (left : ℕ) → Reads (SuffixRule bare x m left) NoOpen (suffix_at room inner bare x m left)
  suffixes = suffix_reads room inner query inner_law query_law

  -- ---- parts

  abbrev PartRule : ℕ → Expression → Rule (Span → Expression)
  PartRule left x = Made (λ y. y.1.1.0) (Seq (Opening left (codes ".")) (Then (One name_in) (λ m. SuffixRule None x m left)))

  part_reads : (left : ℕ) (x : Expression) → Reads (PartRule left x) NoOpen (part_at room inner left x)
  unfolding part_at
  part_reads left x = of (seq (opening left (codes ".")) (by_value (one name_in some_name) (λ m. suffixes None x m left))) (λ y. y.1.1.0)

  part_over : (x : Expression) (ts : List Tok) → first_is (is_sign (codes ".")) ts ≡ true → part_at room inner zero x ts ≡ Err (TooDeep (length ts))
  unfolding part_at
  part_over x [] e = absurd cc
  part_over x (t ∷ ts) e = rw e refl

  part_grows : (n : ℕ) (us vs : List Tok) (x : Expression) (f : Span → Expression) → HasParts room n us x → PartRule n x vs f → HasParts room (pred n) (us ++ vs) (f (extent (us ++ vs)))
  part_grows n us vs x f so_far h =
      let p = h.1 in
      let q = p.4 in
      let all : vs ≡ p.0 ++ (q.0 ++ q.1) = p.2 ∙ ap (λ (ws : List Tok). p.0 ++ ws) q.2 in
      subst (λ (g : Span → Expression). HasParts room (pred n) (us ++ vs) (g (extent (us ++ vs)))) (sym h.2)
      (subst (λ (ws : List Tok). HasParts room (pred n) (us ++ ws) (h.0.1.1.0 (extent (us ++ ws)))) (sym all)
      (subst (λ (k : ℕ). HasParts room k (us ++ (p.0 ++ (q.0 ++ q.1))) (h.0.1.1.0 (extent (us ++ (p.0 ++ (q.0 ++ q.1)))))) (after_none q.4) (further so_far p.3 q.3 q.4)))

  -- ---- what comes first

  abbrev VariableRule : Rule (List ℕ × Expression)
  VariableRule = Placed (λ at w. (w, Var at w)) (One variable_in)

  variable_reads : Reads VariableRule Any variable_at
  unfolding variable_at
  variable_reads = put (one variable_in some_variable) (λ at w. (w, Var at w))

  abbrev DottedRule : List ℕ × Expression → Rule ((Span → Expression) × Option ℕ)
  DottedRule v = Made (λ y. (y.1.1.0, Some y.1.1.1)) (Seq (Sign (codes ".")) (Then (One name_in) (λ m. SuffixRule (Some v.0) v.1 m (longest room))))

  dotted_reads : (v : List ℕ × Expression) → Reads (DottedRule v) NoOpen (dotted_at room inner v)
  unfolding dotted_at
  dotted_reads v = of (seq (sign (codes ".")) (by_value (one name_in some_name) (λ m. suffixes (Some v.0) v.1 m (longest room)))) (λ y. (y.1.1.0, Some y.1.1.1))

  abbrev AloneRule : List ℕ × Expression → Rule ((Span → Expression) × Option ℕ)
  AloneRule v = Empty ((λ at. Var at v.0), None)

  dot_heads : (v : List ℕ × Expression) → Heads (is_sign (codes ".")) true (DottedRule v) Any
  dot_heads v us y rest h follows = then_heads (Sign (codes ".")) (λ z. Then (One name_in) (λ m. SuffixRule (Some v.0) v.1 m (longest room))) (is_sign (codes ".")) true Any (this_heads (tokens.Sign (codes ".")) (is_sign (codes ".")) true Any refl) us h.0 rest h.1 tt

  abbrev Bare : List Tok → Type 0
  Bare rest = NoDot rest × NoOpen rest

  behind_reads : (v : List ℕ × Expression) → Reads (Or (DottedRule v) (AloneRule v)) Bare (behind_variable_at room inner v)
  unfolding behind_variable_at
  behind_reads v =
      either (is_sign (codes ".")) (before Bare (dotted_reads v) (λ rest f. f.1)) (before Bare (empty ((λ at. Var at v.0), None)) (λ rest f. tt))
      (λ us y rest h follows. dot_heads v us y rest h tt)
      (λ us y rest h follows. rw h.0 follows.0)

  abbrev NamedRule : Rule (Expression × Option ℕ)
  NamedRule = Placed (λ at x. (x.1.0 at, x.1.1)) (Then VariableRule (λ v. Or (DottedRule v) (AloneRule v)))

  named_reads : Reads NamedRule Bare (named_at room inner)
  unfolding named_at
  named_reads = put (by_value variable_reads behind_reads) (λ at x. (x.1.0 at, x.1.1))

  abbrev FirstRule : Rule (Expression × Option ℕ)
  FirstRule = Made (λ x. (x, Some (longest room))) (HasAtom room)

  atoms : Reads (HasAtom room) Any (atom_at room inner query)
  atoms = atom_reads room inner query inner_law query_law

  no_variable : Heads is_variable_token false (HasAtom room) Any
  no_variable = atom_heads room inner query inner_law query_law is_variable_token false refl refl refl (λ s. refl) (λ v l. refl) refl refl refl refl

  first_heads : Heads is_variable_token false FirstRule Any
  first_heads us y rest h follows = no_variable us h.0 rest h.1 tt

  named_heads : (p : TokenNode → Bool) (b : Bool) → ((n : TokenNode) (w : List ℕ) → variable_in n ≡ Some w → p n ≡ b) → Heads p b NamedRule Any
  named_heads p b is us y rest h follows = then_heads VariableRule (λ v. Or (DottedRule v) (AloneRule v)) p b Any (λ vs v after k any. one_heads variable_in p b Any is vs k.0 after k.1 tt) us h.0 rest h.1 tt

  head_reads : Reads (Or NamedRule FirstRule) Bare (head_at room inner query)
  unfolding head_at
  head_reads =
      either is_variable_token named_reads (before Bare (of atoms (λ x. (x, Some (longest room)))) (λ rest f. tt))
      (λ us y rest h follows. named_heads is_variable_token true (λ n w e. ap is_some e) us y rest h tt)
      (λ us y rest h follows. first_heads us y rest h tt)

  -- ---- a name, or what has parts

  abbrev PostfixRule : Rule Expression
  PostfixRule us x = Variable us x ⊎ ((n : ℕ) × HasParts room n us x)

  -- what the first part makes of a variable
  begun_by : (us : List Tok) (x : Expression) (n : ℕ) → Or NamedRule FirstRule us (x, Some n) → HasParts room n us x
  begun_by us x n (inr h) =
      let k : (longest room) ≡ n = let e : some n ≡ some (longest room) = ap (λ (y : Expression × Option ℕ). y.1) h.2 in cc in
      subst (λ (y : Expression). HasParts room n us y) (sym (ap (λ (y : Expression × Option ℕ). y.0) h.2)) (subst (λ (m : ℕ). HasParts room m us h.0) k (atom h.1))
  begun_by us x n (inl h) = by h.1.4
    where
      by : Or (DottedRule h.0.0) (AloneRule h.0.0) h.1.1 h.0.1 → HasParts room n us x
      by (inr k) = absurd (let a : some n ≡ None = ap (λ (y : Expression × Option ℕ). y.1) h.2 ∙ ap (λ (y : (Span → Expression) × Option ℕ). y.1) k.1 in cc)
      by (inl k) =
          let p = k.1 in
          let q = p.4 in
          let v = h.1.3 in
          let all : us ≡ h.1.0 ++ (p.0 ++ (q.0 ++ q.1)) = h.1.2 ∙ ap (λ (ws : List Tok). h.1.0 ++ ws) (p.2 ∙ ap (λ (ws : List Tok). p.0 ++ ws) q.2) in
          let left : k.0.1.1.1 ≡ n = let e : some n ≡ some k.0.1.1.1 = ap (λ (y : Expression × Option ℕ). y.1) h.2 ∙ ap (λ (y : (Span → Expression) × Option ℕ). y.1) k.2 in cc in
          let suffix : HasSuffix room (Some v.0) (Var (extent h.1.0) v.0) k.0.1.0 (longest room) q.1 k.0.1.1.0 k.0.1.1.1 = subst (λ (u : List ℕ × Expression). HasSuffix room (Some u.0) u.1 k.0.1.0 (longest room) q.1 k.0.1.1.0 k.0.1.1.1) v.2 q.4 in
          let value : x ≡ k.0.1.1.0 (extent us) = ap (λ (y : Expression × Option ℕ). y.0) h.2 ∙ ap (λ (y : (Span → Expression) × Option ℕ). y.0 (extent us)) k.2 in
          subst (λ (y : Expression). HasParts room n us y) (sym value)
          (subst (λ (m : ℕ). HasParts room m us (k.0.1.1.0 (extent us))) left
          (subst (λ (ws : List Tok). HasParts room k.0.1.1.1 ws (k.0.1.1.0 (extent ws))) (sym all) (dotted v.1 p.3 q.3 suffix)))

  alone_is : (us : List Tok) (x : Expression) → Or NamedRule FirstRule us (x, None) → PostfixRule us x
  alone_is us x (inr h) = absurd (let a : None ≡ some (longest room) = ap (λ (y : Expression × Option ℕ). y.1) h.2 in cc)
  alone_is us x (inl h) = by h.1.4
    where
      by : Or (DottedRule h.0.0) (AloneRule h.0.0) h.1.1 h.0.1 → PostfixRule us x
      by (inl k) = absurd (let a : None ≡ some k.0.1.1.1 = ap (λ (y : Expression × Option ℕ). y.1) h.2 ∙ ap (λ (y : (Span → Expression) × Option ℕ). y.1) k.2 in cc)
      by (inr k) =
          let v = h.1.3 in
          let all : us ≡ h.1.0 = h.1.2 ∙ ap (λ (ws : List Tok). h.1.0 ++ ws) k.0 ∙ append-nil h.1.0 in
          let value : x ≡ Var (extent us) v.0 = ap (λ (y : Expression × Option ℕ). y.0) h.2 ∙ ap (λ (y : (Span → Expression) × Option ℕ). y.0 (extent us)) k.1 ∙ ap (λ (u : List ℕ × Expression). Var (extent us) u.0) v.2 in
          inl (v.0, subst (λ (ws : List Tok). One variable_in ws v.0) (sym all) v.1, value)

  postfix_sound : Sound PostfixRule (postfix_at room inner query)
  unfolding postfix_at
  postfix_sound =
      chained_sound (is_sign (codes ".")) (part_at room inner) PartRule (HasParts room) PostfixRule (λ n x. (part_reads n x).sound) part_grows (λ n us x h. inr (n, h)) part_over (Or NamedRule FirstRule) (head_at room inner query) head_reads.sound alone_is begun_by

  -- what has parts is read up to where further parts may follow
  first_leads : (us : List Tok) (x : Expression) (rest : List Tok) → HasAtom room us x → Leads (head_at room inner query (us ++ rest)) (Ok ((x, Some (longest room)), rest)) us rest
  unfolding head_at
  first_leads us x rest h = rw (no_variable us x rest h tt) ((of {B = Expression × Option ℕ} atoms (λ y. (y, Some (longest room)))).again us (x, Some (longest room)) rest (x, h, refl) tt)

  behind_dotted : (v : List ℕ × Expression) → Again (DottedRule v) NoOpen (behind_variable_at room inner v)
  unfolding behind_variable_at
  behind_dotted v us y rest h follows = rw (dot_heads v us y rest h tt) ((dotted_reads v).again us y rest h follows)

  dotted_leads : (us : List Tok) (y : Expression × Option ℕ) (rest : List Tok) → Placed (λ at x. (x.1.0 at, x.1.1)) (Then VariableRule DottedRule) us y → NoOpen rest → Leads (head_at room inner query (us ++ rest)) (Ok (y, rest)) us rest
  unfolding head_at named_at
  dotted_leads us y rest h follows =
      let is_named : first_is is_variable_token (us ++ rest) ≡ true = then_heads VariableRule DottedRule is_variable_token true Any (λ vs v after k any. one_heads variable_in is_variable_token true Any (λ n w e. ap is_some e) vs k.0 after k.1 tt) us h.0 rest h.1 tt in
      rw is_named (placed_again (λ at x. (x.1.0 at, x.1.1)) (Then VariableRule DottedRule) NoOpen (then_at variable_at (behind_variable_at room inner))
      (then_again VariableRule DottedRule Any NoOpen variable_at (behind_variable_at room inner) variable_reads.again behind_dotted (λ x vs z after k f. tt)) us y rest h follows)

  parts_lead : {n : ℕ} {us : List Tok} {x : Expression} → HasParts room n us x → (rest : List Tok) → NoOpen rest → Leads (postfix_at room inner query (us ++ rest)) (chain_at (is_sign (codes ".")) (part_at room inner) n (us ++ rest) x rest) us rest
  unfolding postfix_at
  parts_lead (atom {us} {x} h) rest f = bind_leads (head_at room inner query (us ++ rest)) ((x, Some (longest room)), rest) (λ y. continued (is_sign (codes ".")) (part_at room inner) y.0.1 (us ++ rest) y.0.0 y.1) us rest (first_leads us x rest h)
  parts_lead (dotted {left} {w} {m} {us} {vs} {ws} {zs} {node} v d k s) rest f =
      let all : List Tok = us ++ (vs ++ (ws ++ zs)) in
      bind_leads (head_at room inner query (all ++ rest)) ((node (extent all), Some left), rest) (λ y. continued (is_sign (codes ".")) (part_at room inner) y.0.1 (all ++ rest) y.0.0 y.1) all rest
      (dotted_leads all (node (extent all), Some left) rest (((w, Var (extent us) w), (node, Some left)), (us, vs ++ (ws ++ zs), refl, (w, v, refl), ((tt, (m, (node, left))), (vs, ws ++ zs, refl, d, (ws, zs, refl, k, s)), refl)), refl) f)
  parts_lead (further {left} {after} {m} {us} {vs} {ws} {zs} {x} {node} h o k s) rest f =
      let part : List Tok = vs ++ (ws ++ zs) in
      let rule : PartRule left x part node = ((tt, (m, (node, after))), (vs, ws ++ zs, refl, o, (ws, zs, refl, k, s)), refl) in
      let goes : first_is (is_sign (codes ".")) (part ++ rest) ≡ true = then_heads (Opening left (codes ".")) (λ z. Then (One name_in) (λ m'. SuffixRule None x m' left)) (is_sign (codes ".")) true Any (opening_heads left (codes ".") (is_sign (codes ".")) true Any refl) part rule.0 rest rule.1 tt in
      let shut_off : NoOpen (part ++ rest) = then_heads (Opening left (codes ".")) (λ z. Then (One name_in) (λ m'. SuffixRule None x m' left)) (is_sign (codes "(")) false Any (opening_heads left (codes ".") (is_sign (codes "(")) false Any refl) part rule.0 rest rule.1 tt in
      let so_far = leads_left _ _ us part rest (parts_lead h (part ++ rest) shut_off) in
      let step = chain_steps (is_sign (codes ".")) (part_at room inner) part_over left (us ++ (part ++ rest)) x us part rest node refl goes ((part_reads left x).again part node rest rule f) in
      let all : Leads (postfix_at room inner query (us ++ (part ++ rest))) (chain_at (is_sign (codes ".")) (part_at room inner) (pred left) (us ++ (part ++ rest)) (node (extent (us ++ part))) rest) (us ++ part) rest = then_leads _ _ _ (us ++ part) rest so_far (leads_right _ _ us part rest step) in
      subst (λ (ts : List Tok). Leads (postfix_at room inner query ts) (chain_at (is_sign (codes ".")) (part_at room inner) after ts (node (extent (us ++ part))) rest) (us ++ part) rest) (sym (append_assoc us part rest))
      (subst (λ (n : ℕ). Leads (postfix_at room inner query (us ++ (part ++ rest))) (chain_at (is_sign (codes ".")) (part_at room inner) n (us ++ (part ++ rest)) (node (extent (us ++ part))) rest) (us ++ part) rest) (sym (after_none s)) all)

  postfix_again : Again PostfixRule Bare (postfix_at room inner query)
  unfolding postfix_at
  postfix_again us x rest (inr h) f = then_leads _ _ (Ok (x, rest)) us rest (parts_lead h.1 rest f.1) (inl (chain_ends (is_sign (codes ".")) (part_at room inner) part_over h.0 (us ++ rest) x rest f.0))
  postfix_again us x rest (inl h) f = by_name us x rest h f
    where
      by_name : (us : List Tok) (x : Expression) (rest : List Tok) → Variable us x → Bare rest → Leads (postfix_at room inner query (us ++ rest)) (Ok (x, rest)) us rest
      by_name us x rest h f =
          bind_leads (head_at room inner query (us ++ rest)) ((x, None), rest) (λ y. continued (is_sign (codes ".")) (part_at room inner) y.0.1 (us ++ rest) y.0.0 y.1) us rest
          (head_reads.again us (x, None) rest (inl (((h.0, Var (extent us) h.0), ((λ at. Var at h.0), None)), (us, [], sym (append-nil us), (h.0, h.1, refl), inr (refl, refl)), ap (λ (y : Expression). (y, None)) h.2)) f)

  -- ---- what begins with `!`

  abbrev NegationRule : Rule Expression
  NegationRule = Placed (λ at x. Not at x.1) (Seq (Opening room (codes "!")) (HasUnary (pred room)))

  unary_back : {r : ℕ} {us : List Tok} {x : Expression} → HasRank r zero us x → HasUnary r us x
  unary_back (unary h) = h

  negation_reads : Reads NegationRule (Follow zero) (negation_at room inner)
  unfolding negation_at
  negation_reads =
      put (enclosed room (codes "!") (some_unary (pred room)) (λ m e. turned (HasUnary (pred room)) (inner_law m e zero (omega arith)) (λ us x h. unary_back h) (λ us x h. unary h))) (λ at x. Not at x.1)

  unary_there : (us : List Tok) (x : Expression) → Or NegationRule PostfixRule us x → HasUnary room us x
  unary_there us x (inl h) = subst (λ (y : Expression). HasUnary room us y) (sym h.2) (subst (λ (ws : List Tok). HasUnary room ws (Not (extent ws) h.0.1)) (sym h.1.2) (negation h.1.3 h.1.4))
  unary_there us x (inr (inl h)) = variable h
  unary_there us x (inr (inr h)) = parts h.1

  unary_rule : {us : List Tok} {x : Expression} → HasUnary room us x → Or NegationRule PostfixRule us x
  unary_rule (variable h) = inr (inl h)
  unary_rule (parts {left} h) = inr (inr (left, h))
  unary_rule (negation {us} {vs} {x} o h) = inl ((tt, x), (us, vs, refl, o, h), refl)

  postfix_heads : Heads (is_sign (codes "!")) false PostfixRule Any
  postfix_heads us x rest (inl h) follows = one_heads variable_in (is_sign (codes "!")) false Any (variable_no_sign (codes "!")) us h.0 rest h.1 tt
  postfix_heads us x rest (inr h) follows = by h.1 rest
    where
      by : {n : ℕ} {us : List Tok} {x : Expression} → HasParts room n us x → (rest : List Tok) → first_is (is_sign (codes "!")) (us ++ rest) ≡ false
      by (atom {us} {x} h) rest = atom_heads room inner query inner_law query_law (is_sign (codes "!")) false refl refl refl (λ s. refl) (λ v l. refl) refl refl refl refl us x rest h tt
      by (dotted {w} {us} {vs} {ws} {zs} v d k s) rest = ap (λ (ts : List Tok). first_is (is_sign (codes "!")) ts) (append_assoc us (vs ++ (ws ++ zs)) rest) ∙ one_heads variable_in (is_sign (codes "!")) false Any (variable_no_sign (codes "!")) us w ((vs ++ (ws ++ zs)) ++ rest) v tt
      by (further {us} {vs} {ws} {zs} h o k s) rest = ap (λ (ts : List Tok). first_is (is_sign (codes "!")) ts) (append_assoc us (vs ++ (ws ++ zs)) rest) ∙ by h ((vs ++ (ws ++ zs)) ++ rest)

  pub unary_reads : Reads (HasUnary room) (Follow zero) (unary_at room inner query)
  unfolding unary_at
  unary_reads =
      turned (HasUnary room)
      (either (is_sign (codes "!")) negation_reads (record { sound = postfix_sound; again = λ us x rest h f. postfix_again us x rest h (no_dot zero rest f, no_open zero rest f) })
      (λ us x rest h follows. then_heads (Opening room (codes "!")) (λ y. HasUnary (pred room)) (is_sign (codes "!")) true Any (opening_heads room (codes "!") (is_sign (codes "!")) true Any refl) us h.0 rest h.1 tt)
      (λ us x rest h follows. postfix_heads us x rest h tt))
      unary_there (λ us x h. unary_rule h)

  -- ---- operators

  some_operator : (rank : ℕ) → rank < 6 → Passes (operator_in rank)
  some_operator zero lt = record { token = token_of (tokens.Sign (codes "*")); value = ops.Mul; is = refl }
  some_operator (suc zero) lt = record { token = token_of (tokens.Sign (codes "+")); value = ops.Add; is = refl }
  some_operator (suc (suc zero)) lt = record { token = token_of (tokens.Sign (codes "<")); value = ops.Lt; is = refl }
  some_operator (suc (suc (suc zero))) lt = record { token = token_of (tokens.Sign (codes "==")); value = ops.Eq; is = refl }
  some_operator (suc (suc (suc (suc zero)))) lt = record { token = token_of (tokens.Sign (codes "&&")); value = ops.And; is = refl }
  some_operator (suc (suc (suc (suc (suc zero))))) lt = record { token = token_of (tokens.Sign (codes "||")); value = ops.Or; is = refl }
  some_operator (suc (suc (suc (suc (suc (suc n)))))) lt = absurd (omega (arith, lt))

  module _ (rank : ℕ) (low : rank < 6) (r : Reader Expression) (below : Reads (HasRank room rank) (Follow rank) r) where
    abbrev OperandRule : ℕ → Expression → Rule (Span → Expression)
    OperandRule left x = Made (λ y at. Binary at y.0 x y.1) (Seq (Held left (operator_in rank)) (HasRank room rank))

    held_operator : (left : ℕ) → Reads (Held left (operator_in rank)) Any (held_at left (operator_in rank))
    held_operator left = record { sound = held_sound left (operator_in rank) (some_operator rank low); again = held_again (operator_in rank) left }

    operand_reads : (left : ℕ) (x : Expression) → Reads (OperandRule left x) (Follow rank) (operand_at rank r left x)
    unfolding operand_at
    operand_reads left x = of (seq (held_operator left) below) (λ y at. Binary at y.0 x y.1)

    operand_over : (x : Expression) (ts : List Tok) → first_is (is_operator rank) ts ≡ true → operand_at rank r zero x ts ≡ Err (TooDeep (length ts))
    unfolding operand_at
    operand_over x [] e = absurd cc
    operand_over x (t ∷ ts) e = by (operator_in rank t.token.node) e
      where
        by : (o : Option Op) → is_some o ≡ true → made {B = Span → Expression} (λ y at. Binary at y.0 x y.1) (λ us. held zero o ts >>= behind_at r) (t ∷ ts) ≡ Err (TooDeep (suc (length ts)))
        by None h = absurd cc
        by (Some o) h = refl

    operand_grows : (n : ℕ) (us vs : List Tok) (x : Expression) (f : Span → Expression) → HasChain room rank n us x → OperandRule n x vs f → HasChain room rank (pred n) (us ++ vs) (f (extent (us ++ vs)))
    operand_grows n us vs x f so_far h =
        subst (λ (g : Span → Expression). HasChain room rank (pred n) (us ++ vs) (g (extent (us ++ vs)))) (sym h.2)
        (subst (λ (ws : List Tok). HasChain room rank (pred n) (us ++ ws) (Binary (extent (us ++ ws)) h.0.0 x h.0.1)) (sym h.1.2) (joined so_far h.1.3 h.1.4))

    abbrev BaseRule : Rule (Expression × Option ℕ)
    BaseRule = Made (λ x. (x, Some (longest room))) (HasRank room rank)

    base_reads : Reads BaseRule (Follow rank) (made (λ x. (x, Some (longest room))) r)
    base_reads = of below (λ x. (x, Some (longest room)))

    operand_begun : (us : List Tok) (x : Expression) (n : ℕ) → BaseRule us (x, Some n) → HasChain room rank n us x
    operand_begun us x n h =
        let k : (longest room) ≡ n = let e : some n ≡ some (longest room) = ap (λ (y : Expression × Option ℕ). y.1) h.2 in cc in
        subst (λ (y : Expression). HasChain room rank n us y) (sym (ap (λ (y : Expression × Option ℕ). y.0) h.2)) (subst (λ (m : ℕ). HasChain room rank m us h.0) k (operand h.1))

    abbrev go : Reader Expression
    go ts = chained_at (is_operator rank) (operand_at rank r) (made (λ x. (x, Some (longest room))) r) ts

    rank_sound : Sound (HasRank room (suc rank)) go
    rank_sound =
        chained_sound (is_operator rank) (operand_at rank r) OperandRule (HasChain room rank) (HasRank room (suc rank)) (λ n x. (operand_reads n x).sound) operand_grows (λ n us x h. chain h) operand_over BaseRule (made (λ x. (x, Some (longest room))) r) base_reads.sound
        (λ us x h. absurd (let e : None ≡ some (longest room) = ap (λ (y : Expression × Option ℕ). y.1) h.2 in cc)) operand_begun

    operator_heads : (left : ℕ) (p : TokenNode → Bool) → ((n : TokenNode) (o : Op) → operator_in rank n ≡ Some o → p n ≡ true) → (us : List Tok) (o : Op) (rest : List Tok) → Operator left rank us o → first_is p (us ++ rest) ≡ true
    operator_heads left p is us o rest h = rw h.1 (is h.0.token.node o h.2)

    chain_leads : {n : ℕ} {us : List Tok} {x : Expression} → HasChain room rank n us x → (rest : List Tok) → Follow rank rest → Leads (go (us ++ rest)) (chain_at (is_operator rank) (operand_at rank r) n (us ++ rest) x rest) us rest
    chain_leads (operand {us} {x} h) rest f = bind_leads (made (λ y. (y, Some (longest room))) r (us ++ rest)) ((x, Some (longest room)), rest) (λ y. continued (is_operator rank) (operand_at rank r) y.0.1 (us ++ rest) y.0.0 y.1) us rest (base_reads.again us (x, Some (longest room)) rest (x, h, refl) f)
    chain_leads (joined {left} {us} {vs} {ws} {x} {y} {o} h op g) rest f =
        let part : List Tok = vs ++ ws in
        let node : Span → Expression = λ at. Binary at o x y in
        let rule : OperandRule left x part node = ((o, y), (vs, ws, refl, op, g), refl) in
        let path = append_assoc vs ws rest in
        let goes : first_is (is_operator rank) (part ++ rest) ≡ true = ap (λ (ts : List Tok). first_is (is_operator rank) ts) path ∙ operator_heads left (is_operator rank) (λ n k e. ap is_some e) vs o (ws ++ rest) op in
        let tight : Follow rank (part ++ rest) = first_follows rank (part ++ rest) (ap (λ (ts : List Tok). first_is (ends rank) ts) path ∙ operator_heads left (ends rank) (operator_ends rank) vs o (ws ++ rest) op) in
        let so_far = leads_left _ _ us part rest (chain_leads h (part ++ rest) tight) in
        let step = chain_steps (is_operator rank) (operand_at rank r) operand_over left (us ++ (part ++ rest)) x us part rest node refl goes ((operand_reads left x).again part node rest rule f) in
        let all : Leads (go (us ++ (part ++ rest))) (chain_at (is_operator rank) (operand_at rank r) (pred left) (us ++ (part ++ rest)) (node (extent (us ++ part))) rest) (us ++ part) rest = then_leads _ _ _ (us ++ part) rest so_far (leads_right _ _ us part rest step) in
        subst (λ (ts : List Tok). Leads (go ts) (chain_at (is_operator rank) (operand_at rank r) (pred left) ts (node (extent (us ++ part))) rest) (us ++ part) rest) (sym (append_assoc us part rest)) all

    chain_rule : {us : List Tok} {x : Expression} → HasRank room (suc rank) us x → (n : ℕ) × HasChain room rank n us x
    chain_rule (chain {left} h) = (left, h)

    pub next_rank : Reads (HasRank room (suc rank)) (Follow (suc rank)) go
    next_rank = record {
      sound = rank_sound;
      again = λ us x rest h f. let c = chain_rule h in then_leads _ _ (Ok (x, rest)) us rest (chain_leads c.1 rest (looser_follow rank rest f)) (inl (chain_ends (is_operator rank) (operand_at rank r) operand_over c.0 (us ++ rest) x rest (no_operator rank rest f)));
    }

  pub rank_reads : (rank : ℕ) → rank ≤ 6 → Reads (HasRank room rank) (Follow rank) (rank_in room inner query rank)
  unfolding rank_in
  rank_reads zero le = turned (HasRank room zero) unary_reads (λ us x h. unary h) (λ us x h. unary_back h)
  rank_reads (suc rank) le = next_rank rank (omega (arith, le)) (rank_in room inner query rank) (rank_reads rank (omega (arith, le)))

-- ---- all levels

abbrev pub InnerLaw : ℕ → Type 0
InnerLaw room = (m : ℕ) → room ≡ suc m → (rank : ℕ) → rank ≤ 6 → Reads (HasRank (pred room) rank) (Follow rank) (inside room rank)

abbrev pub QueryLaw : ℕ → Type 0
QueryLaw room = (m : ℕ) → room ≡ suc m → Reads (QueryRule (pred room)) Any (query_inside room)

pub inner_laws : (room : ℕ) → InnerLaw room × QueryLaw room
unfolding inside
inner_laws zero = ((λ m e rank le. absurd (omega (arith, e))), (λ m e. absurd (omega (arith, e))))
inner_laws (suc room) =
    let l = inner_laws room in
    ((λ m e rank le. rank_reads room (inside room) (query_inside room) l.0 l.1 rank le), (λ m e. query_reads room (inside room) (query_inside room) l.0 l.1))

pub levels : (room rank : ℕ) → rank ≤ 6 → Reads (HasRank room rank) (Follow rank) (rank_at room rank)
unfolding rank_at
levels room rank le = let l = inner_laws room in rank_reads room (inside room) (query_inside room) l.0 l.1 rank le

pub expression_reads : (room : ℕ) → Reads (HasExpression room) (Follow ranks) (expression_at room)
unfolding expression_at
expression_reads room = levels room ranks (omega arith)
