-- What stands under a name, after files were put.
use Rattle.std.proofs.Common.{◌≡◌, ℕ, ◌+◌, ◌<◌, ◌≤◌, Bool, true, false, cond, List, [], ◌∷◌, ◌++◌, length, get_or, take, suc, refl, sym, ap, ◌∙◌, subst, arith}
use Rattle.std.specs.Prelude.{Option, Some, None, nat_lt, not, slice_set, map, reverse, string_bytes}
use Rattle.std.specs.List.{position_or_len}
use Rattle.std.specs.Str.{bytes_eq}
use Rattle.std.proofs.lemmas.Slice.Eq.{bytes_eq-Decides}
use Rattle.std.proofs.lemmas.List.{take_more, map-append, reverse-append}
use borrow.Author.Tests.{ltb-true, ltb-false}
use Rattle.qbs_base.specs.Named.{at_name, with_name}
use Rattle.files_sinks.specs.Held.{Entry, MemFilesView}
use Rattle.cases.specs.declared.held.File.{File}
use Rattle.cases.specs.Files.{entry_of, last_under, last_with}

same_name : (x y : List ℕ) → bytes_eq x y ≡ true → x ≡ y
same_name x y e = (bytes_eq-Decides x y).0 e

-- a name that isn't the first isn't the other of two equal ones
other_name : (x y z : List ℕ) → bytes_eq x y ≡ false → bytes_eq x z ≡ true → (b : Bool) → bytes_eq y z ≡ b → b ≡ false
other_name x y z apart same true e =
    let third : x ≡ y = same_name x z same ∙ sym (same_name y z e) in
    let yes : true ≡ false = sym ((bytes_eq-Decides x y).1 third) ∙ apart in
    absurd (cc)
other_name x y z apart same false e = refl

turned : (a b : Bool) (x y z : Option (List ℕ)) → (a ≡ true → b ≡ false) → cond a x (cond b y z) ≡ cond b y (cond a x z)
turned true true x y z h = absurd (let e : true ≡ false = h refl in cc)
turned true false x y z h = refl
turned false true x y z h = refl
turned false false x y z h = refl

hidden : (a b : Bool) (x y z : Option (List ℕ)) → (b ≡ false → a ≡ false) → cond b x z ≡ cond b x (cond a y z)
hidden a true x y z h = refl
hidden a false x y z h = ap (λ c. cond c y z) (sym (h refl))

module _ (n v m : List ℕ) where
  abbrev place_in : List Entry → ℕ
  place_in es = position_or_len (λ entry. bytes_eq entry.0 n) es

  abbrev due : List Entry → Option (List ℕ)
  due es = cond (bytes_eq n m) (Some v) (at_name es m)

  past : (e : Entry) (es fs : List Entry) → bytes_eq e.0 n ≡ false → at_name fs m ≡ due es → at_name (e ∷ fs) m ≡ due (e ∷ es)
  past e es fs apart ih =
      ap (λ z. cond (bytes_eq e.0 m) (Some e.1) z) ih
      ∙ turned (bytes_eq e.0 m) (bytes_eq n m) (Some e.1) (Some v) (at_name es m) (λ same. other_name e.0 n m apart same (bytes_eq n m) refl)

  put_over : (es : List Entry) → place_in es < length es → at_name (slice_set es (place_in es) (n, v)) m ≡ due es
  put_over [] l = absurd (omega arith)
  put_over (e ∷ es) l = by (λ k. put_over es k) (bytes_eq e.0 n) refl
    where
      by : (place_in es < length es → at_name (slice_set es (place_in es) (n, v)) m ≡ due es) → (b : Bool) → bytes_eq e.0 n ≡ b → at_name (slice_set (e ∷ es) (place_in (e ∷ es)) (n, v)) m ≡ due (e ∷ es)
      by ih true q =
          let here : 0 ≡ place_in (e ∷ es) = ap (λ b. cond (not b) (1 + place_in es) 0) (sym q) in
          subst (λ k. at_name (slice_set (e ∷ es) k (n, v)) m ≡ due (e ∷ es)) here
          (hidden (bytes_eq e.0 m) (bytes_eq n m) (Some v) (Some e.1) (at_name es m) (λ f. subst (λ w. bytes_eq w m ≡ false) (sym (same_name e.0 n q)) f))
      by ih false q =
          let on : 1 + place_in es ≡ place_in (e ∷ es) = ap (λ b. cond (not b) (1 + place_in es) 0) (sym q) in
          let there : suc (place_in es) ≡ place_in (e ∷ es) = omega arith in
          let within : place_in es < length es = omega arith in
          subst (λ k. at_name (slice_set (e ∷ es) k (n, v)) m ≡ due (e ∷ es)) there
          (past e es (slice_set es (place_in es) (n, v)) q (ih within))

  put_behind : (es : List Entry) → length es ≤ place_in es → at_name (es ++ (n, v) ∷ []) m ≡ due es
  put_behind [] l = refl
  put_behind (e ∷ es) l = by (λ k. put_behind es k) (bytes_eq e.0 n) refl
    where
      by : (length es ≤ place_in es → at_name (es ++ (n, v) ∷ []) m ≡ due es) → (b : Bool) → bytes_eq e.0 n ≡ b → at_name (e ∷ es ++ (n, v) ∷ []) m ≡ due (e ∷ es)
      by ih true q =
          let here : 0 ≡ place_in (e ∷ es) = ap (λ b. cond (not b) (1 + place_in es) 0) (sym q) in
          absurd (omega arith)
      by ih false q =
          let on : 1 + place_in es ≡ place_in (e ∷ es) = ap (λ b. cond (not b) (1 + place_in es) 0) (sym q) in
          past e es (es ++ (n, v) ∷ []) q (ih (omega arith))

  abbrev put_at : List Entry → Option ℕ → List Entry
  put_at es place = elim place [ Some k ↦ slice_set es k (n, v) | None ↦ es ++ (n, v) ∷ [] ]

  pub at_put : (es : List Entry) → at_name (with_name es n v) m ≡ due es
  at_put es = by (nat_lt (place_in es) (length es)) refl
    where
      by : (b : Bool) → nat_lt (place_in es) (length es) ≡ b → at_name (with_name es n v) m ≡ due es
      by true q = subst (λ b. at_name (put_at es (cond b (Some (place_in es)) None)) m ≡ due es) (sym q) (put_over es (ltb-true (place_in es) (length es) q))
      by false q = subst (λ b. at_name (put_at es (cond b (Some (place_in es)) None)) m ≡ due es) (sym q) (put_behind es (ltb-false (place_in es) (length es) q))

-- with one file more
last_more : (files : List File) (file : File) (m : List ℕ) → last_under (files ++ file ∷ []) m ≡ cond (bytes_eq (string_bytes file.name) m) (Some file.bytes.items) (last_under files m)
last_more files file m = ap (λ es. at_name (reverse es) m) (map-append entry_of files (file ∷ [])) ∙ ap (λ es. at_name es m) (reverse-append (map entry_of files) (entry_of file ∷ []))

-- the files that are held are those that were put, one after the other
pub put_next : (held : List File) (i : ℕ) (file : File) (es : List Entry) (n v : List ℕ) → i < length held → file ≡ get_or held i file → n ≡ string_bytes file.name → v ≡ file.bytes.items
    → ((m : List ℕ) → at_name es m ≡ last_under (take i held) m) → (m : List ℕ) → at_name (with_name es n v) m ≡ last_under (take (i + 1) held) m
put_next held i file es n v l is named bytes before m =
    at_put n v m es
    ∙ ap (λ z. cond (bytes_eq n m) (Some v) z) (before m)
    ∙ ap (λ w. cond (bytes_eq w m) (Some v) (last_under (take i held) m)) named
    ∙ ap (λ w. cond (bytes_eq (string_bytes file.name) m) (Some w) (last_under (take i held) m)) bytes
    ∙ sym (last_more (take i held) file m)
    ∙ ap (λ f. last_under (take i held ++ f ∷ []) m) is
    ∙ ap (λ files. last_under files m) (sym (take_more held i file l))

-- the files that are held, with one over them
pub put_over_held : (held : List File) (es : List Entry) (n name v bytes : List ℕ) → n ≡ name → v ≡ bytes → ((m : List ℕ) → at_name es m ≡ last_under held m)
    → (m : List ℕ) → at_name (with_name es n v) m ≡ last_with held name bytes m
put_over_held held es n name v bytes named valued before m =
    at_put n v m es
    ∙ ap (λ z. cond (bytes_eq n m) (Some v) z) (before m)
    ∙ ap (λ w. cond (bytes_eq w m) (Some v) (last_under held m)) named
    ∙ ap (λ w. cond (bytes_eq name m) (Some w) (last_under held m)) valued

-- a put leaves all but the files
pub fresh_put : (s t : MemFilesView) (es : List Entry) → t ≡ record s { files = es } → s ≡ record s { failing = []; calls = 0; faults = 0 } → t ≡ record t { failing = []; calls = 0; faults = 0 }
fresh_put s t es put before =
    let fresh : List Entry → MemFilesView = λ fs. record { files = fs; failing = []; calls = 0; faults = 0 } in
    let over : MemFilesView → MemFilesView = λ f. record f { files = es } in
    put ∙ ap over before ∙ ap fresh (sym (ap (λ (f : MemFilesView). f.files) put))
