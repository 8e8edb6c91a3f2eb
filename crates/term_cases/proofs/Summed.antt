-- The numbers of a table fit their sum.
use Rattle.std.proofs.Common.{◌≡◌, ℤ, false, IsTrue, IfSome, Option, Some, List, [], ◌∷◌, map, slice_get, refl, sym, ap, ◌∙◌, subst, arith}
use Rattle.std.specs.List.{AllByRecursion}
use Rattle.qbs_base.specs.declared.scalar.Row.{Row}
use Rattle.qbs_base.specs.declared.scalar.Ty.TheVariants as tys
use Rattle.qbs_base.specs.Sort.{put_in, stable_sort}
use Rattle.qbs_base.specs.Values.{Database}
use Rattle.kernel_lang.specs.declared.parts.Entry.{Entry}
use Rattle.kernel_lang.specs.Fitting.{PartsFit, is_of}
use Rattle.kernel_lang.specs.declared.fragment.KFragment.{KFragment}
use Rattle.kernel_lang.specs.Plain.{Fragment}
use Rattle.kernel_lang.specs.Whole.{fragment_of}
use Rattle.term_cases.specs.Sums.{numbers, nothing, number_row, sum_of_numbers}

abbrev IsNumber : Row → Type 0
IsNumber r = IsTrue (is_of tys.Long (slice_get r.cells 0))

are_numbers : (ns : List ℤ) → AllByRecursion IsNumber (map number_row ns)
are_numbers [] = tt
are_numbers (n ∷ ns) = (refl, are_numbers ns)

-- without a key nothing is moved
put_first : (r : Row) (rows : List Row) → put_in (λ s t. false) r rows ≡ r ∷ rows
put_first r [] = refl
put_first r (s ∷ rows) = refl

unsorted : (rows : List Row) → stable_sort (λ s t. false) rows ≡ rows
unsorted [] = refl
unsorted (r ∷ rows) = ap (put_in (λ s t. false) r) (unsorted rows) ∙ put_first r rows

sum_fits : (ns : List ℤ) → PartsFit sum_of_numbers (numbers ns) nothing
sum_fits ns =
    record {
      tables = (omega arith, tt);
      columns = ((tys.Long, are_numbers ns), tt);
      tests = tt;
      numbers = (subst (AllByRecursion IsNumber) (sym (unsorted (map number_row ns))) (are_numbers ns), tt);
      known = refl;
      values = tt;
    }

pub fits_from : (f : Fragment) (db : Database) (entry : Entry) (ns : List ℤ) → f ≡ sum_of_numbers → db ≡ numbers ns → entry ≡ nothing → PartsFit f db entry
fits_from f db entry ns e d g =
    subst (λ (x : Fragment). PartsFit x db entry) (sym e)
    (subst (λ (x : Database). PartsFit sum_of_numbers x entry) (sym d)
    (subst (λ (x : Entry). PartsFit sum_of_numbers (numbers ns) x) (sym g) (sum_fits ns)))

pub sum_found : (o : Option KFragment) (f : KFragment) → o ≡ Some f → IfSome o (λ g. fragment_of g ≡ sum_of_numbers) → fragment_of f ≡ sum_of_numbers
sum_found o f e h = subst (λ (x : Option KFragment). IfSome x (λ g. fragment_of g ≡ sum_of_numbers)) e h
