-- What an expression may begin with.
use Rattle.std.proofs.Common.{◌≡◌, ℕ, ℤ, Bool, List, ◌++◌, Some, codes, ap, ◌∙◌, append_assoc}
use Rattle.java_lex.specs.declared.token.TokenNode.{TokenNode}
use Rattle.java_lex.specs.declared.token.TokenNode.TheVariants as tokens
use Rattle.java_ast.specs.Tree.{Expression}
use Rattle.java_grammar.specs.Marks.{Tok}
use Rattle.java_grammar.specs.Words.{variable_in}
use Rattle.java_grammar.specs.Expressions.{HasAtom, HasParts, atom, dotted, further, HasUnary, variable, parts, negation, HasChain, operand, joined, HasRank, unary, chain}
use Rattle.java_grammar.specs.Reading.{first_is}
use Rattle.java_grammar.specs.ReadingExpressions.{inside, query_inside}
use Rattle.java_grammar.proofs.Again.{Any, one_heads}
use Rattle.java_grammar.proofs.SingleLaws.{opening_heads}
use Rattle.java_grammar.proofs.LevelLaws.{atom_heads}
use Rattle.java_grammar.proofs.NestLaws.{inner_laws}

-- a test of which the answer is one for all that an expression begins with
pub record Begins (p : TokenNode → Bool) (b : Bool) : Type 0 where
  pub opens : p (tokens.Sign (codes "(")) ≡ b
  pub bang : p (tokens.Sign (codes "!")) ≡ b
  pub minus : p (tokens.Sign (codes "-")) ≡ b
  pub made : p (tokens.Word (codes "new")) ≡ b
  pub truth : p (tokens.Word (codes "true")) ≡ b
  pub falsehood : p (tokens.Word (codes "false")) ≡ b
  pub long : p (tokens.Word (codes "Long")) ≡ b
  pub integer : p (tokens.Word (codes "Integer")) ≡ b
  pub texts : (s : List ℕ) → p (tokens.Text s) ≡ b
  pub numbers : (v : ℤ) (l : Bool) → p (tokens.Integer v l) ≡ b
  pub names : (n : TokenNode) (w : List ℕ) → variable_in n ≡ Some w → p n ≡ b

module _ (p : TokenNode → Bool) (b : Bool) (t : Begins p b) where
  atom_first : (room : ℕ) (us : List Tok) (x : Expression) (rest : List Tok) → HasAtom room us x → first_is p (us ++ rest) ≡ b
  atom_first room us x rest h =
      let l = inner_laws room in
      atom_heads room (inside room) (query_inside room) l.0 l.1 p b t.opens t.made t.minus t.texts t.numbers t.truth t.falsehood t.long t.integer us x rest h tt

  parts_first : {room n : ℕ} {us : List Tok} {x : Expression} → HasParts room n us x → (rest : List Tok) → first_is p (us ++ rest) ≡ b
  parts_first (atom {room} {us} {x} h) rest = atom_first room us x rest h
  parts_first (dotted {w} {us} {vs} {ws} {zs} v d k s) rest = ap (λ (ts : List Tok). first_is p ts) (append_assoc us (vs ++ (ws ++ zs)) rest) ∙ one_heads variable_in p b Any t.names us w ((vs ++ (ws ++ zs)) ++ rest) v tt
  parts_first (further {us} {vs} {ws} {zs} h o k s) rest = ap (λ (ts : List Tok). first_is p ts) (append_assoc us (vs ++ (ws ++ zs)) rest) ∙ parts_first h ((vs ++ (ws ++ zs)) ++ rest)

  unary_first : {room : ℕ} {us : List Tok} {x : Expression} → HasUnary room us x → (rest : List Tok) → first_is p (us ++ rest) ≡ b
  unary_first (variable {us} h) rest = one_heads variable_in p b Any t.names us h.0 rest h.1 tt
  unary_first (parts h) rest = parts_first h rest
  unary_first (negation {room} {us} {vs} o h) rest = ap (λ (ts : List Tok). first_is p ts) (append_assoc us vs rest) ∙ opening_heads room (codes "!") p b Any t.bang us tt (vs ++ rest) o tt

  mutual
    chain_first : {room rank n : ℕ} {us : List Tok} {x : Expression} → HasChain room rank n us x → (rest : List Tok) → first_is p (us ++ rest) ≡ b
    chain_first (operand h) rest = expression_first h rest
    chain_first (joined {us} {vs} {ws} h o g) rest = ap (λ (ts : List Tok). first_is p ts) (append_assoc us (vs ++ ws) rest) ∙ chain_first h ((vs ++ ws) ++ rest)

    pub expression_first : {room rank : ℕ} {us : List Tok} {x : Expression} → HasRank room rank us x → (rest : List Tok) → first_is p (us ++ rest) ≡ b
    expression_first (unary h) rest = unary_first h rest
    expression_first (chain h) rest = chain_first h rest
