use Rattle.std.proofs.Common.{rules, ◌++◌, ℕ, List, [], ◌∷◌, Some, None, string_bytes, ap, ◌∙◌, sym, lit<}
use Rattle.std.proofs.lemmas.Str.Pattern.{split_once_first}
use Rattle.sql_ast.specs.Lexer.{quoted_at}
use Rattle.sql_parse.proofs.Lexed.{text_behind, quote_goes_on, quote_closes, quote_stays_open}
use Rattle.sql_parse.proofs.lexing.quoted.Goals as goal

pub returns-in-None : goal.returns-in-None
returns-in-None c =
    let found = split_once_first 39 c.loop-before.rest.now (Some (c.in-Some.before, c.in-Some.after)) c.in-Some.ensures.cases (lit< tt) in
    quote_closes (string_bytes c.loop-before.out) c.loop-before.rest.now c.in-Some.before.now c.in-Some.after.now (quoted_at c.args.text.now) found.0 found.1 found.2 (sym c.in-None.ensures) c.loop-before.invariant.1
    ∙ ap (λ (w : List ℕ). Some (w, c.in-Some.after.now)) (sym (c.from_string.ensures ∙ c.in_ok-push_str.ensures.bytes))

pub loop-before-preserved : goal.loop-before-preserved
loop-before-preserved c =
    let found = split_once_first 39 c.loop-before.rest.now (Some (c.in-Some.before, c.in-Some.after)) c.in-Some.ensures.cases (lit< tt) in (
      search rules,
      ap (λ (w : List ℕ). text_behind w (quoted_at c.in-Some-after_quote.further.now)) (c.in_ok-push_str-in-Some-after_quote.ensures.bytes ∙ ap (λ (w : List ℕ). w ++ 39 ∷ []) c.in_ok-push_str.ensures.bytes)
          ∙ quote_goes_on (string_bytes c.loop-before.out) c.loop-before.rest.now c.in-Some.before.now c.in-Some.after.now c.in-Some-after_quote.further.now (quoted_at c.args.text.now) found.0 found.1 found.2 (sym c.in-Some-after_quote.ensures) c.loop-before.invariant.1,
    )

pub returns : goal.returns
returns c =
    let found = split_once_first 39 c.loop-before.rest.now None c.in_default.ensures.cases (lit< tt) in
    quote_stays_open (string_bytes c.loop-before.out) c.loop-before.rest.now (quoted_at c.args.text.now) found c.loop-before.invariant.1
