use Rattle.std.proofs.Common.{rules, ◌++◌, ℕ, List, [], ◌∷◌, Some, None, string_bytes, ap, ◌∙◌, sym, lit<}
use Rattle.std.proofs.lemmas.Str.Pattern.{split_once_first}
use Rattle.sql_ast.specs.Canonical.{doubled}
use Rattle.sql_ast.proofs.Doubled.{without, one_more}
use Rattle.sql_ast.proofs.quoted.put_doubled.Goals as goal

pub loop-before-preserved : goal.loop-before-preserved
loop-before-preserved c =
    let found = split_once_first 39 c.loop-before.rest.now (Some (c.in-Some.before, c.in-Some.after)) c.in-Some.ensures.cases (lit< tt) in (
      search rules,
      ap (λ (w : List ℕ). w ++ doubled c.in-Some.after.now) (c.in_ok-push_str-2.ensures.bytes ∙ ap (λ (w : List ℕ). w ++ 39 ∷ 39 ∷ []) c.in_ok-push_str.ensures.bytes)
          ∙ one_more c.loop-before.rest.now c.in-Some.before.now c.in-Some.after.now (string_bytes c.loop-before.out) found.0 found.1 found.2
          ∙ c.loop-before.invariant.1,
    )

pub returns : goal.returns
returns c =
    let found = split_once_first 39 c.loop-before.rest.now None c.in_default.ensures.cases (lit< tt) in
    c.in_ok-push_str-3.ensures.bytes
    ∙ ap (λ (w : List ℕ). string_bytes c.loop-before.out ++ w) (sym (without c.loop-before.rest.now found))
    ∙ c.loop-before.invariant.1
