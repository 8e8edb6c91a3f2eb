-- One more of the numbers that are summed.
use Rattle.std.specs.Prelude.{◌≡◌, ℕ, ℤ, pos, ◌+ℤ◌, ◌+◌, ◌<◌, List, drop, length, get_or, refl}
use Rattle.std.specs.declared.option.Option.{Option}
use Rattle.std.specs.declared.option.Option.TheVariants.{Some, None}
use Rattle.std.proofs.Common.{sym, ◌∙◌, ap, arith}
use Rattle.std.proofs.lemmas.Int.{ints}
use Rattle.std.proofs.lemmas.List.{at_drop_more}
use Rattle.qbs_base.specs.declared.scalar.Row.{Row}
use Rattle.tor_terms.specs.Evaluation.{number_of, plus, sum_of}

pub plus-plus : (a n : ℤ) (o : Option ℤ) → plus (Some a) (plus (Some n) o) ≡ plus (Some (a +ℤ n)) o
plus-plus a n None = refl
plus-plus a n (Some m) = ap Some (omega (arith, ints))

pub plus-zero : (o : Option ℤ) → plus (Some (pos 0)) o ≡ o
plus-zero None = refl
plus-zero (Some m) = ap Some (omega (arith, ints))

pub sum-more : (rows : List Row) (i : ℕ) (x : Row) (s n t : ℤ) → i < length rows → x ≡ get_or rows i x → sum_of rows ≡ plus (Some s) (sum_of (drop i rows)) → Some n ≡ number_of x → t ≡ s +ℤ n → sum_of rows ≡ plus (Some t) (sum_of (drop (i + 1) rows))
sum-more rows i x s n t h e k en et =
    k
    ∙ ap (plus (Some s)) (at_drop_more sum_of rows i x h)
    ∙ ap (λ y. plus (Some s) (plus (number_of y) (sum_of (drop (i + 1) rows)))) (sym e)
    ∙ ap (λ m. plus (Some s) (plus m (sum_of (drop (i + 1) rows)))) (sym en)
    ∙ plus-plus s n (sum_of (drop (i + 1) rows))
    ∙ ap (λ z. plus (Some z) (sum_of (drop (i + 1) rows))) (sym et)
