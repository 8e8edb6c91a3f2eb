use Rattle.std.proofs.Common.{◌≡◌, ◌<◌, ◌^◌, sym, ◌∙◌, true, false, arith}
use Rattle.std.specs.Fmt.{decimal}
use Rattle.std.specs.Str.{bytes_eq}
use Rattle.word_values.proofs.Numbers.{number_some, number_none, bytes_equal, equal_bytes}
use Rattle.word_values.proofs.values.number_within.Goals as goal

pub returns-in_default : goal.returns-in_default
returns-in_default c =
    let small : c.args.high < 2 ^ 64 = omega arith in
    number_none c.args.low c.args.high c.args.word.now c.parse.result small c.parse.ensures.value.0 (λ n e l h d. absurd cc)

pub returns-then-number-low : goal.returns-then-number-low
returns-then-number-low c =
    let small : c.args.high < 2 ^ 64 = omega arith in
    number_none c.args.low c.args.high c.args.word.now c.parse.result small c.parse.ensures.value.0 (λ n e l h d. let is : c.in-Ok.number ≡ n = cc in omega arith)

pub returns-then-high-number : goal.returns-then-high-number
returns-then-high-number c =
    let small : c.args.high < 2 ^ 64 = omega arith in
    number_none c.args.low c.args.high c.args.word.now c.parse.result small c.parse.ensures.value.0 (λ n e l h d. let is : c.in-Ok.number ≡ n = cc in omega arith)

pub returns-then-same : goal.returns-then-same
returns-then-same c =
    let small : c.args.high < 2 ^ 64 = omega arith in
    number_some c.args.low c.args.high c.in-Ok.number c.args.word.now small (omega arith) (omega arith) (bytes_equal c.args.word.now (decimal c.in-Ok.number) (sym c.in_ok-same.ensures ∙ c.if-same.true))

pub returns-else-same : goal.returns-else-same
returns-else-same c =
    let small : c.args.high < 2 ^ 64 = omega arith in
    number_none c.args.low c.args.high c.args.word.now c.parse.result small c.parse.ensures.value.0 (λ n e l h d. let is : c.in-Ok.number ≡ n = cc in
    let same : bytes_eq c.args.word.now (decimal n) ≡ true = equal_bytes c.args.word.now (decimal n) d in
    let other : bytes_eq c.args.word.now (decimal c.in-Ok.number) ≡ false = sym c.in_ok-same.ensures ∙ c.if-same.false in
    absurd cc)
