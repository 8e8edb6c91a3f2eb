-- What single steps of the code give, where the values are made by what is not read.
use Rattle.std.proofs.Common.{◌≡◌, ℕ, suc, ◌-◌, Bool, true, false, cond, List, Option, None, Ok, codes, refl, ◌∙◌}
use Rattle.std.proofs.Math.Numerals.{sub-one}
use Rattle.qbs_base.specs.declared.span.Span.{Span}
use Rattle.java_ast.specs.Tree.{Expression, Field}
use Rattle.java_grammar.specs.Marks.{Tok}
use Rattle.java_limits.specs.Limits.{longest}
use Rattle.java_grammar.specs.Expressions.{call_of, name_or_none}
use Rattle.java_grammar.specs.Reading.{first_is, is_sign, chain_at}
use Rattle.java_grammar.specs.ReadingExpressions.{Ranked, suffix_by, suffix_at, is_operator, operand_at, rank_in, rank_at}

-- behind the first operand of a rank
pub ranked_on : (room rank : ℕ) (ts : List Tok) (x : Expression) (rest : List Tok) → rank_at room rank ts ≡ Ok (x, rest)
    → rank_at room (suc rank) ts ≡ chain_at (is_operator rank) (operand_at rank (rank_at room rank)) (longest room) ts x rest
unfolding rank_at rank_in
ranked_on room rank ts x rest e = rw e refl

-- ---- behind a member, where nothing is called

same_ways : {A : Type 0} (b : Bool) (x : A) → cond b x x ≡ x
same_ways true x = refl
same_ways false x = refl

module _ (room : ℕ) (inner : Ranked) (bare : Option (List ℕ)) (x : Expression) (m : List ℕ) (left : ℕ) (ts : List Tok) (node : Span → Expression) (made : node ≡ (λ at. Field at x m)) where
  not_called : suffix_by room inner (name_or_none bare) x m left None ts ≡ Ok ((node, left - 1), ts)
  unfolding suffix_by
  not_called = rw (made, sub-one) refl

  pub not_opened : first_is (is_sign (codes "(")) ts ≡ false → suffix_at room inner bare x m left ts ≡ Ok ((node, left - 1), ts)
  unfolding suffix_at
  not_opened e = rw e not_called

  pub not_known : call_of bare m ≡ None → suffix_at room inner bare x m left ts ≡ Ok ((node, left - 1), ts)
  unfolding suffix_at
  not_known e = rw e (same_ways (first_is (is_sign (codes "(")) ts) (suffix_by room inner (name_or_none bare) x m left None ts) ∙ not_called)
