-- Two statements of a program that a text has stand at two places.
use Rattle.std.proofs.Common.{◌≡◌, ℕ, suc, List, [], ◌∷◌, Some, Ok, refl, sym, ap, subst, ◌∙◌}
use Rattle.std.specs.Prelude.{slice_get}
use Rattle.java_lex.specs.declared.token.Token.{Token}
use Rattle.java_lex.specs.declared.token.Tokens.{Tokens}
use Rattle.java_lex.specs.Lexing.{lexed}
use Rattle.java_lex.specs.Spans.{StandsIn, StandInOrder, IsToken}
use Rattle.java_lex.proofs.Spanned.{spans}
use Rattle.java_lex.proofs.Apart.{same_start}
use Rattle.java_ast.specs.Tree.{Statement, PlainProgram}
use Rattle.java_ast.specs.Path.{statement_at}
use Rattle.java_grammar.specs.Marks.{Tok, tokens_of, all_strict, all_free}
use Rattle.java_limits.specs.Limits.{deepest}
use Rattle.java_grammar.specs.Grammar.{HasProgram}
use Rattle.java_ast.specs.Spans.{place_of}
use Rattle.java_grammar.specs.Placing.{BeginsWithToken, LeadToOnePlace}
use Rattle.java_grammar.proofs.Apart.{Begins, Apart}
use Rattle.java_grammar.proofs.Starts.{end_of, Ordered, statements_of_program}

pub strict_tokens : (ts : List Token) → tokens_of (all_strict ts) ≡ ts
strict_tokens [] = refl
strict_tokens (t ∷ ts) = ap (λ (us : List Token). t ∷ us) (strict_tokens ts)

pub free_tokens : (ts : List Token) → tokens_of (all_free ts) ≡ ts
free_tokens [] = refl
free_tokens (t ∷ ts) = ap (λ (us : List Token). t ∷ us) (free_tokens ts)

-- a token of the text
abbrev IsOf : List ℕ → Tokens → Token → Type 0
IsOf text tokens t = StandsIn text t.span × ((n : ℕ) × IsToken tokens n t)

in_order : (text : List ℕ) (tokens : Tokens) (q : ℕ) (us : List Tok) → ((n : ℕ) (t : Token) → slice_get (tokens_of us) n ≡ Some t → (m : ℕ) × IsToken tokens m t)
    → StandInOrder text q (tokens_of us) → Ordered (IsOf text tokens) q us
in_order text tokens q [] are h = tt
in_order text tokens q (t ∷ us) are h = (h.0, h.1, (h.2, are 0 t.token refl), in_order text tokens t.token.span.end us (λ n u e. are (suc n) u e) h.3)

module _ (text : List ℕ) (tokens : Tokens) (us : List Tok) (p : PlainProgram) (lexes : lexed text ≡ Ok tokens) (same : tokens_of us ≡ tokens.list) (has : HasProgram us p) where
  statements : Apart (IsOf text tokens) 0 (end_of 0 us) (λ path. statement_at path p)
  statements =
      statements_of_program (IsOf text tokens) 0 deepest us p has
      (in_order text tokens 0 us (λ n t e. (n, subst (λ (ts : List Token). slice_get ts n ≡ Some t) same e))
      (subst (λ (ts : List Token). StandInOrder text 0 ts) (sym same) (spans text tokens lexes).0))

  pub begins_with_token : (path : List ℕ) (s : Statement) → statement_at path p ≡ Some s → BeginsWithToken tokens s
  begins_with_token path s e =
      let h : Begins (IsOf text tokens) 0 (end_of 0 us) (place_of s) = statements.begins path s e in
      record { number = h.is.1.0; token = h.token; is = h.is.1.1; same = h.same; start = h.start }

  pub one_path : (a b : List ℕ) → LeadToOnePlace p a b → a ≡ b
  one_path a b l =
      let h : Begins (IsOf text tokens) 0 (end_of 0 us) (place_of l.first) = statements.begins a l.first l.to_first in
      let k : Begins (IsOf text tokens) 0 (end_of 0 us) (place_of l.other) = statements.begins b l.other l.to_other in
      let start : h.token.span.start ≡ k.token.span.start = same_start text h.token.span k.token.span h.is.0 k.is.0 (sym h.same.0 ∙ (l.same.0 ∙ k.same.0), sym h.same.1 ∙ (l.same.1 ∙ k.same.1)) in
      statements.one a b l.first l.other l.to_first l.to_other (h.start ∙ (start ∙ sym k.start))
