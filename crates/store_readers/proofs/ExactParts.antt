-- Rows, entry values and known lists: the readers are exact.
use Rattle.std.proofs.Common.{◌≡◌, ℕ, zero, suc, ◌<◌, List, [], ◌∷◌, ◌++◌, length, Option, Some, None, Ok, Err, refl, sym, ap, subst, ◌∙◌, arith, inl}
use Rattle.std.specs.Prelude.{codes}
use Rattle.std.specs.Fmt.{decimal}
use Rattle.std.specs.List.{flat_map}
use Rattle.readers.specs.Reading.{made}
use Rattle.readers.proofs.Tools.{ok_is}
use Rattle.readers.proofs.Lawful.{Takes, alike}
use Rattle.readers.proofs.Again.{Any}
use Rattle.qbs_base.specs.declared.columns.Column.{Column}
use Rattle.qbs_base.specs.declared.scalar.Kind.TheVariants as kinds
use Rattle.qbs_base.specs.declared.scalar.Kind.{Kind}
use Rattle.qbs_base.specs.declared.scalar.Row.{Row}
use Rattle.qbs_base.specs.declared.scalar.Scalar.{Scalar}
use Rattle.qbs_base.specs.declared.scalar.Ty.{Ty}
use Rattle.qbs_base.specs.Literal.{scalar_text}
use Rattle.text_readers.specs.Bytes.{Reader}
use Rattle.text_readers.specs.Offsets.{Each, IsBelow}
use Rattle.text_readers.proofs.Exact.{IsText, Exact, Whichever, exact_byte, exact_both, exact_made, exact_word}
use Rattle.text_readers.proofs.Numbers.{NoDigit, exact_number}
use Rattle.store_parts.specs.Texts.{value_text, values_text, row_text, rows_text, entry_text, list_text, known_text}
use Rattle.scalar_readers.specs.Scalars.{ty_of, IsRead}
use Rattle.scalar_readers.proofs.ExactChoices.{exact_before, exact_then}
use Rattle.scalar_readers.proofs.ExactScalars.{exact_scalar, exact_any}
use Rattle.store_readers.specs.Reading.{count_at, times, lines_at, kind_at, spaced_at, cells_at, row_from, row_at, rows_at, entry_at, members_at, list_at, known_at}
use Rattle.store_readers.specs.Readable.{AreFew, IsOfKind, AreReadCells, IsReadRow, AreReadRows, AreReadValues, AreAlike, IsReadList, AreReadLists}

-- ---- nothing, and so many

-- the one value that has the empty text
pub exact_done : {A : Type 0} (text : A → List ℕ) (fits : A → Type 0) (x : A) → text x ≡ [] → fits x → ((y : A) → fits y → x ≡ y) → Exact text fits Any (λ ts. Ok (x, ts))
exact_done {A} text fits x empty fit only = record {
  lawful = record {
    found = λ ts y e. subst (λ (z : A × List ℕ). Takes (IsText text fits) ts z.0 z.1) (ok_is (x, ts) y e) (record { front = []; parts = refl; has = (sym empty, fit) });
    begins = λ ts n e. absurd cc;
    stays = λ n us le. le;
    same = λ rest rest' us vs ag. alike ag;
  };
  again = λ us y rest h any.
      let none : us ≡ [] = h.0 ∙ ap text (sym (only y h.1)) ∙ empty in
      let same : x ≡ y = only y h.1 in
      inl (ap (λ (ws : List ℕ). Ok (x, ws ++ rest)) none ∙ ap (λ (z : A). Ok (z, rest)) same);
  shallow = λ ts d. d;
  some = x;
  fit = fit;
}

-- so many
abbrev AreTimes : {A : Type 0} → (A → Type 0) → ℕ → List A → Type 0
AreTimes f n xs = (length xs ≡ n) × Each f xs

module _ {A : Type 0} {t : A → List ℕ} {f : A → Type 0} {F : List ℕ → Type 0} {r : Reader A} (G : List ℕ → Type 0) (e : Exact t f F r) (next : (xs : List A) (rest : List ℕ) → Each f xs → G rest → F (flat_map t xs ++ rest)) where
  none_only : (xs : List A) → AreTimes f 0 xs → [] ≡ xs
  none_only [] h = refl
  none_only (x ∷ xs) h = let q : suc (length xs) ≡ 0 = h.0 in absurd (omega (arith, q))

  more_back : (n : ℕ) (xs : List A) → AreTimes f (suc n) xs → (x : A × List A) × (x.0 ∷ x.1 ≡ xs) × (flat_map t xs ≡ t x.0 ++ flat_map t x.1) × (f x.0 × AreTimes f n x.1)
  more_back n [] h = let q : 0 ≡ suc n = h.0 in absurd (omega (arith, q))
  more_back n (x ∷ xs) h = let q : suc (length xs) ≡ suc n = h.0 in ((x, xs), refl, refl, (h.1.0, (omega (arith, q), h.1.1)))

  pub exact_times : (n : ℕ) → Exact (flat_map t) (AreTimes f n) G (times n r)
  unfolding times
  exact_times zero = exact_before G (λ rest g. tt) (exact_done (flat_map t) (AreTimes f 0) [] refl (refl, tt) none_only)
  exact_times (suc n) =
      exact_made (flat_map t) (AreTimes f (suc n)) (λ x. x.0 ∷ x.1) (exact_both e (exact_times n) (λ xs rest h g. next xs rest h.1 g))
      (λ x h. (refl, (ap (λ (k : ℕ). suc k) h.1.0, (h.0, h.1.1)))) (more_back n)

exact_count : Exact decimal (IsBelow 65) NoDigit count_at
unfolding count_at
exact_count = exact_number 65 (omega arith) (omega arith)

-- how many lines there are, and these
abbrev lines_text : {A : Type 0} → (A → List ℕ) → List A → List ℕ
lines_text t xs = decimal (length xs) ++ (codes "\n" ++ flat_map t xs)

abbrev FewLines : {A : Type 0} → (A → Type 0) → List A → Type 0
FewLines f xs = AreFew xs × Each f xs

exact_lines : {A : Type 0} {t : A → List ℕ} {f : A → Type 0} {r : Reader A} → Exact t f Any r → Exact (lines_text t) (FewLines f) Any (lines_at r)
unfolding lines_at
exact_lines {A} {t} {f} e =
    exact_made (lines_text t) (FewLines f) (λ x. x.1.1) (exact_then exact_count (λ n. exact_both (exact_byte 10) (exact_times Any e (λ xs rest h g. tt) n) (λ xs rest h g. tt)) (λ n x rest h k g. refl)) to back
  where
    to : (x : ℕ × (Unit {0} × List A)) → IsBelow 65 x.0 × (Whichever x.1.0 × AreTimes f x.0 x.1.1) → (decimal x.0 ++ (10 ∷ flat_map t x.1.1) ≡ lines_text t x.1.1) × FewLines f x.1.1
    to x h = (ap (λ (n : ℕ). decimal n ++ (10 ∷ flat_map t x.1.1)) (sym h.1.1.0), (omega (arith, h.0, h.1.1.0), h.1.1.1))

    back : (xs : List A) → FewLines f xs → (x : ℕ × (Unit {0} × List A)) × (x.1.1 ≡ xs) × (lines_text t xs ≡ decimal x.0 ++ (10 ∷ flat_map t x.1.1)) × (IsBelow 65 x.0 × (Whichever x.1.0 × AreTimes f x.0 x.1.1))
    back xs h = ((length xs, (tt, xs)), refl, refl, (h.0, (tt, (refl, h.1))))

-- ---- values behind spaces

exact_kind : (kind : Option Ty) → Exact scalar_text (IsOfKind kind) NoDigit (kind_at kind)
unfolding kind_at
exact_kind None = exact_any
exact_kind (Some ty) = exact_scalar ty

exact_spaced : (kind : Option Ty) → Exact value_text (IsOfKind kind) NoDigit (spaced_at kind)
unfolding spaced_at
exact_spaced kind = exact_made value_text (IsOfKind kind) (λ x. x.1) (exact_both (exact_byte 32) (exact_kind kind) (λ x rest h g. tt)) (λ x h. (refl, h.1)) (λ x h. ((tt, x), refl, refl, (tt, h)))

next_value : (f : Scalar → Type 0) (xs : List Scalar) (rest : List ℕ) → Each f xs → NoDigit rest → NoDigit (flat_map value_text xs ++ rest)
next_value f [] rest h g = g
next_value f (x ∷ xs) rest h g = refl

exact_values : (kind : Option Ty) (n : ℕ) → Exact (flat_map value_text) (AreTimes (IsOfKind kind) n) NoDigit (times n (spaced_at kind))
exact_values kind n = exact_times NoDigit (exact_spaced kind) (next_value (IsOfKind kind)) n

-- ---- rows

next_cell : (cs : List Column) (xs : List Scalar) (rest : List ℕ) → AreReadCells cs xs → NoDigit rest → NoDigit (flat_map value_text xs ++ rest)
next_cell cs [] rest h g = g
next_cell cs (x ∷ xs) rest h g = refl

exact_cells : (cs : List Column) → Exact (flat_map value_text) (AreReadCells cs) NoDigit (cells_at cs)
unfolding cells_at
exact_cells [] = exact_before NoDigit (λ rest g. tt) (exact_done (flat_map value_text) (AreReadCells []) [] refl tt only)
  where
    only : (xs : List Scalar) → AreReadCells [] xs → [] ≡ xs
    only [] h = refl
    only (x ∷ xs) h = absurd h
exact_cells (c ∷ cs) = exact_made (flat_map value_text) (AreReadCells (c ∷ cs)) (λ x. x.0 ∷ x.1) (exact_both (exact_spaced (Some c.ty)) (exact_cells cs) (next_cell cs)) (λ x h. (refl, h)) back
  where
    back : (xs : List Scalar) → AreReadCells (c ∷ cs) xs → (x : Scalar × List Scalar) × (x.0 ∷ x.1 ≡ xs) × (flat_map value_text xs ≡ value_text x.0 ++ flat_map value_text x.1) × (IsRead c.ty x.0 × AreReadCells cs x.1)
    back [] h = absurd h
    back (x ∷ xs) h = ((x, xs), refl, refl, h)

exact_row : (number : ℕ) (cs : List Column) → Exact row_text (IsReadRow number cs) Any (row_at number cs)
unfolding row_at
exact_row number cs =
    exact_made row_text (IsReadRow number cs) (row_from number) (exact_both (exact_word (codes "row")) (exact_both (exact_cells cs) (exact_byte 10) (λ x rest h g. refl)) (λ x rest h g. tt))
    (λ x h. (refl, (refl, h.1.0))) (λ r h. ((tt, (r.cells, tt)), ap (λ (k : Kind). record { kind = k; cells = r.cells }) (sym h.0), refl, (tt, (h.1, tt))))

pub exact_rows : (number : ℕ) (cs : List Column) → Exact rows_text (AreReadRows number cs) Any (rows_at number cs)
unfolding rows_at
exact_rows number cs =
    exact_made rows_text (AreReadRows number cs) (λ x. x.1) (exact_both (exact_word (codes "table ")) (exact_lines (exact_row number cs)) (λ x rest h g. tt)) (λ x h. (refl, h.1)) (λ rows h. ((tt, rows), refl, refl, (tt, h)))

-- ---- entry values

pub exact_entry : Exact entry_text AreReadValues Any entry_at
unfolding entry_at
exact_entry =
    exact_made entry_text AreReadValues (λ x. x.1.1.0) (exact_both (exact_word (codes "entry ")) (exact_then exact_count (λ n. exact_both (exact_values None n) (exact_byte 10) (λ x rest h g. refl)) joins) (λ x rest h g. tt)) to back
  where
    joins : (n : ℕ) (x : List Scalar × Unit {0}) (rest : List ℕ) → IsBelow 65 n → AreTimes (IsOfKind None) n x.0 × Whichever x.1 → Any rest → NoDigit ((flat_map value_text x.0 ++ (10 ∷ [])) ++ rest)
    joins n ([], u) rest h k g = refl
    joins n (x ∷ xs, u) rest h k g = refl

    to : (x : Unit {0} × (ℕ × (List Scalar × Unit {0}))) → Whichever x.0 × (IsBelow 65 x.1.0 × (AreTimes (IsOfKind None) x.1.0 x.1.1.0 × Whichever x.1.1.1))
        → (codes "entry " ++ (decimal x.1.0 ++ (flat_map value_text x.1.1.0 ++ (10 ∷ []))) ≡ entry_text x.1.1.0) × AreReadValues x.1.1.0
    to x h = (ap (λ (n : ℕ). codes "entry " ++ (decimal n ++ (flat_map value_text x.1.1.0 ++ (10 ∷ [])))) (sym h.1.1.0.0), (omega (arith, h.1.0, h.1.1.0.0), h.1.1.0.1))

    back : (xs : List Scalar) → AreReadValues xs → (x : Unit {0} × (ℕ × (List Scalar × Unit {0}))) × (x.1.1.0 ≡ xs) × (entry_text xs ≡ codes "entry " ++ (decimal x.1.0 ++ (flat_map value_text x.1.1.0 ++ (10 ∷ []))))
        × (Whichever x.0 × (IsBelow 65 x.1.0 × (AreTimes (IsOfKind None) x.1.0 x.1.1.0 × Whichever x.1.1.1)))
    back xs h = ((tt, (length xs, (xs, tt))), refl, refl, (tt, (h.0, ((refl, h.1), tt))))

-- ---- known lists

abbrev AreMembers : ℕ → List Scalar → Type 0
AreMembers n xs = (length xs ≡ n) × AreAlike xs

exact_members : (n : ℕ) → Exact (flat_map value_text) (AreMembers n) NoDigit (members_at n)
unfolding members_at
exact_members zero = exact_before NoDigit (λ rest g. tt) (exact_done (flat_map value_text) (AreMembers 0) [] refl (refl, tt) only)
  where
    only : (xs : List Scalar) → AreMembers 0 xs → [] ≡ xs
    only [] h = refl
    only (x ∷ xs) h = let q : suc (length xs) ≡ 0 = h.0 in absurd (omega (arith, q))
exact_members (suc n) =
    exact_made (flat_map value_text) (AreMembers (suc n)) (λ x. x.0 ∷ x.1) (exact_then (exact_spaced None) (λ x. exact_values (Some (ty_of x)) n) (λ x xs rest h k g. next_value (IsRead (ty_of x)) xs rest k.1 g))
    (λ x h. (refl, (ap (λ (k : ℕ). suc k) h.1.0, (h.0, h.1.1)))) back
  where
    back : (xs : List Scalar) → AreMembers (suc n) xs → (x : Scalar × List Scalar) × (x.0 ∷ x.1 ≡ xs) × (flat_map value_text xs ≡ value_text x.0 ++ flat_map value_text x.1) × (IsOfKind None x.0 × AreTimes (IsOfKind (Some (ty_of x.0))) n x.1)
    back [] h = let q : 0 ≡ suc n = h.0 in absurd (omega (arith, q))
    back (x ∷ xs) h = let q : suc (length xs) ≡ suc n = h.0 in ((x, xs), refl, refl, (h.1.0, (omega (arith, q), h.1.1)))

exact_list : Exact list_text IsReadList Any list_at
unfolding list_at
exact_list =
    exact_made list_text IsReadList (λ x. x.1.1.0) (exact_both (exact_word (codes "list ")) (exact_then exact_count (λ n. exact_both (exact_members n) (exact_byte 10) (λ x rest h g. refl)) joins) (λ x rest h g. tt)) to back
  where
    joins : (n : ℕ) (x : List Scalar × Unit {0}) (rest : List ℕ) → IsBelow 65 n → AreMembers n x.0 × Whichever x.1 → Any rest → NoDigit ((flat_map value_text x.0 ++ (10 ∷ [])) ++ rest)
    joins n ([], u) rest h k g = refl
    joins n (x ∷ xs, u) rest h k g = refl

    to : (x : Unit {0} × (ℕ × (List Scalar × Unit {0}))) → Whichever x.0 × (IsBelow 65 x.1.0 × (AreMembers x.1.0 x.1.1.0 × Whichever x.1.1.1))
        → (codes "list " ++ (decimal x.1.0 ++ (flat_map value_text x.1.1.0 ++ (10 ∷ []))) ≡ list_text x.1.1.0) × IsReadList x.1.1.0
    to x h = (ap (λ (n : ℕ). codes "list " ++ (decimal n ++ (flat_map value_text x.1.1.0 ++ (10 ∷ [])))) (sym h.1.1.0.0), (omega (arith, h.1.0, h.1.1.0.0), h.1.1.0.1))

    back : (xs : List Scalar) → IsReadList xs → (x : Unit {0} × (ℕ × (List Scalar × Unit {0}))) × (x.1.1.0 ≡ xs) × (list_text xs ≡ codes "list " ++ (decimal x.1.0 ++ (flat_map value_text x.1.1.0 ++ (10 ∷ []))))
        × (Whichever x.0 × (IsBelow 65 x.1.0 × (AreMembers x.1.0 x.1.1.0 × Whichever x.1.1.1)))
    back xs h = ((tt, (length xs, (xs, tt))), refl, refl, (tt, (h.0, ((refl, h.1), tt))))

pub exact_known : Exact known_text AreReadLists Any known_at
unfolding known_at
exact_known =
    exact_made known_text AreReadLists (λ x. x.1) (exact_both (exact_word (codes "known ")) (exact_lines exact_list) (λ x rest h g. tt)) (λ x h. (refl, h.1)) (λ known h. ((tt, known), refl, refl, (tt, h)))
