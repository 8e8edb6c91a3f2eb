-- Lists of elements, and of lent rows.
use Rattle.std.proofs.Common.{◌≡◌, ℕ, zero, suc, Bool, true, false, if◌then◌else◌, ◌||◌, List, [], ◌∷◌, ◌++◌, map, take, Bor, Option, Some, refl, sym, ap, ◌∙◌}
use Rattle.std.specs.List.{list_any}
use Rattle.std.proofs.lemmas.List.{map-append}
use Rattle.qbs_base.specs.declared.scalar.Row.{Row}
use Rattle.tor_terms.specs.Evaluation.{with_row}
use Rattle.tor_terms.specs.Fits.{row_of}
use Rattle.tor_terms.specs.Truth.{Element}
use Rattle.tor_terms.specs.Value.{same_row, same_datum, inserted}
use Rattle.kernel_lang.specs.Given.{cut}
use Rattle.kernel_interp.specs.Reading.{rows_seen}

pub rows_back : (rows : List Row) → map row_of (map Element rows) ≡ rows
rows_back [] = refl
rows_back (r ∷ rows) = ap (λ (rs : List Row). r ∷ rs) (rows_back rows)

any_element : (r : Row) (rows : List Row) → list_any (same_datum (Element r)) (map Element rows) ≡ list_any (same_row r) rows
any_element r [] = refl
any_element r (s ∷ rows) = ap (λ (b : Bool). same_row r s || b) (any_element r rows)

-- the list with an element last, where it isn't there
pub inserted_row : (rows : List Row) (r : Row) → inserted (map Element rows) (Element r) ≡ map Element (with_row rows r)
inserted_row rows r =
    ap (λ (b : Bool). if b then map Element rows else map Element rows ++ Element r ∷ []) (any_element r rows) ∙ go (list_any (same_row r) rows)
  where
    go : (b : Bool) → (if b then map Element rows else map Element rows ++ Element r ∷ []) ≡ map Element (if b then rows else rows ++ r ∷ [])
    go true = refl
    go false = sym (map-append Element rows (r ∷ []))

take_seen : (n : ℕ) (rows : List (Bor Row)) → rows_seen (take n rows) ≡ take n (rows_seen rows)
take_seen zero rows = refl
take_seen (suc n) [] = refl
take_seen (suc n) (r ∷ rows) = ap (λ (rs : List Row). r.now ∷ rs) (take_seen n rows)

pub cut_seen : (n : ℕ) (limit : Option ℕ) (old new : List (Bor Row)) → limit ≡ Some n → new ≡ take n old → rows_seen new ≡ cut limit (rows_seen old)
cut_seen n limit old new e t = ap rows_seen t ∙ take_seen n old ∙ ap (λ (l : Option ℕ). cut l (rows_seen old)) (sym e)
