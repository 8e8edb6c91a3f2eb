-- Files that are told are read in one way where no read fails.
use Rattle.std.proofs.Common.{◌≡◌, ℕ, ◌<◌, ◌≤◌, ◌-◌, inl, inr, List, [], ◌∷◌, length, Option, Some, None, IfSome, subst, sym, refl, ap, ◌∙◌, arith, codes}
use Rattle.std.specs.Prelude.{IsSome}
use Rattle.qbs_base.specs.declared.columns.Table.{Table}
use Rattle.deliveries.specs.declared.plan.Plan.{Plan}
use Rattle.deliveries.specs.Plan.{Given}
use Rattle.deliveries.specs.Steps.{IsRead, IsNotRead}
use Rattle.deliveries.specs.Named.{AreFilesRead, AreFilesUnread, IsNamed}
use Rattle.plans.specs.Tables.{table_files, AreRead, AreNotRead, IsFileOf}
use Rattle.qbs.proofs.OneStep.{IsOne}

told_same : (told : Option (List ℕ)) (b c : List ℕ) → IsSome told → IfSome told (λ all. b ≡ all) → IfSome told (λ all. c ≡ all) → b ≡ c
told_same (Some all) b c some x y = x ∙ sym y
told_same None b c some x y = absurd cc

told_apart : (told : Option (List ℕ)) (b : List ℕ) (limit : ℕ) → IsSome told → length b ≤ limit → IfSome told (λ all. b ≡ all) → IfSome told (λ all. limit < length all) → ⊥
told_apart (Some all) b limit some within is long = let h : limit < length b = subst (λ (bytes : List ℕ). limit < length bytes) (sym is) long in omega arith
told_apart None b limit some within is long = cc

not_read_same : (files : Given) (name : List ℕ) (limit : ℕ) (label : List ℕ) (p q : Plan) → ((name : List ℕ) → files.failed name → ⊥) → IsNotRead files name limit label p → IsNotRead files name limit label q → p ≡ q
not_read_same files name limit label p q calm (inl a) y = absurd (calm name a.0)
not_read_same files name limit label p q calm (inr a) (inl b) = absurd (calm name b.0)
not_read_same files name limit label p q calm (inr a) (inr b) = a.1 ∙ sym b.1

read_apart : (files : Given) (name : List ℕ) (limit : ℕ) (label : List ℕ) (b : List ℕ) (p : Plan) → IsSome (files.told name) → ((name : List ℕ) → files.failed name → ⊥) → IsRead files name limit b → IsNotRead files name limit label p → ⊥
read_apart files name limit label b p told calm read (inl rose) = calm name rose.0
read_apart files name limit label b p told calm read (inr long) = told_apart (files.told name) b limit told read.0 read.1 long.0

pub read_one : (files : Given) (name : List ℕ) (limit : ℕ) (label : List ℕ) → IsSome (files.told name) → ((name : List ℕ) → files.failed name → ⊥) → IsOne {B = List ℕ} (IsRead files name limit) (IsNotRead files name limit label)
read_one files name limit label told calm = record {
  same = λ b c x y. told_same (files.told name) b c told x.1 y.1;
  stops = λ p q x y. not_read_same files name limit label p q calm x y;
  apart = λ b p x y. read_apart files name limit label b p told calm x y;
}

-- ---- files by their names

same_front : {A : Type 0} (x y : A) (xs ys : List A) → x ≡ y → xs ≡ ys → x ∷ xs ≡ y ∷ ys
same_front x y xs ys a b = ap (λ z. z ∷ xs) a ∙ ap (λ zs. y ∷ zs) b

texts_same : (files : Given) (names : List (List ℕ)) (left : ℕ) (b c : List (List ℕ)) → ((name : List ℕ) → IsNamed names name → IsSome (files.told name)) →
    AreFilesRead files names left b → AreFilesRead files names left c → b ≡ c
texts_same files [] left [] [] told x y = refl
texts_same files [] left (t ∷ ts) c told x y = absurd x
texts_same files [] left [] (u ∷ us) told x y = absurd y
texts_same files (name ∷ names) left [] c told x y = absurd x
texts_same files (name ∷ names) left (t ∷ ts) [] told x y = absurd y
texts_same files (name ∷ names) left (t ∷ ts) (u ∷ us) told x y =
    let here : t ≡ u = told_same (files.told name) t u (told name (inl refl)) x.0.1 y.0.1 in
    same_front t u ts us here
    (texts_same files names (left - length u) ts us (λ other is. told other (inr is)) (subst (λ (text : List ℕ). AreFilesRead files names (left - length text) ts) here x.1) y.1)

texts_stop : (files : Given) (names : List (List ℕ)) (left : ℕ) (label : List ℕ) (p q : Plan) → ((name : List ℕ) → IsNamed names name → IsSome (files.told name)) → ((name : List ℕ) → files.failed name → ⊥) →
    AreFilesUnread files names left label p → AreFilesUnread files names left label q → p ≡ q
texts_stop files [] left label p q told calm x y = absurd x
texts_stop files (name ∷ names) left label p q told calm (inl x) (inl y) = not_read_same files name left label p q calm x y
texts_stop files (name ∷ names) left label p q told calm (inl x) (inr y) = absurd (read_apart files name left label y.0 p (told name (inl refl)) calm y.1 x)
texts_stop files (name ∷ names) left label p q told calm (inr x) (inl y) = absurd (read_apart files name left label x.0 q (told name (inl refl)) calm x.1 y)
texts_stop files (name ∷ names) left label p q told calm (inr x) (inr y) =
    let here : x.0 ≡ y.0 = told_same (files.told name) x.0 y.0 (told name (inl refl)) x.1.1 y.1.1 in
    texts_stop files names (left - length y.0) label p q (λ other is. told other (inr is)) calm (subst (λ (text : List ℕ). AreFilesUnread files names (left - length text) label p) here x.2) y.2

texts_apart : (files : Given) (names : List (List ℕ)) (left : ℕ) (label : List ℕ) (b : List (List ℕ)) (p : Plan) → ((name : List ℕ) → IsNamed names name → IsSome (files.told name)) → ((name : List ℕ) → files.failed name → ⊥) →
    AreFilesRead files names left b → AreFilesUnread files names left label p → ⊥
texts_apart files [] left label b p told calm x y = y
texts_apart files (name ∷ names) left label [] p told calm x y = x
texts_apart files (name ∷ names) left label (t ∷ ts) p told calm x (inl y) = read_apart files name left label t p (told name (inl refl)) calm x.0 y
texts_apart files (name ∷ names) left label (t ∷ ts) p told calm x (inr y) =
    let here : t ≡ y.0 = told_same (files.told name) t y.0 (told name (inl refl)) x.0.1 y.1.1 in
    texts_apart files names (left - length y.0) label ts p (λ other is. told other (inr is)) calm (subst (λ (text : List ℕ). AreFilesRead files names (left - length text) ts) here x.1) y.2

pub files_one : (files : Given) (names : List (List ℕ)) (left : ℕ) (label : List ℕ) → ((name : List ℕ) → IsNamed names name → IsSome (files.told name)) → ((name : List ℕ) → files.failed name → ⊥) →
    IsOne {B = List (List ℕ)} (AreFilesRead files names left) (AreFilesUnread files names left label)
files_one files names left label told calm = record {
  same = λ b c x y. texts_same files names left b c told x y;
  stops = λ p q x y. texts_stop files names left label p q told calm x y;
  apart = λ b p x y. texts_apart files names left label b p told calm x y;
}

pub tables_one : (files : Given) (folder : List ℕ) (tables : List Table) (left : ℕ) → ((name : List ℕ) → IsFileOf folder tables name → IsSome (files.told name)) → ((name : List ℕ) → files.failed name → ⊥) →
    IsOne {B = List (List ℕ)} (AreRead files folder tables left) (AreNotRead files folder tables left)
tables_one files folder tables left told calm = record {
  same = λ b c x y. texts_same files (table_files folder tables) left b c told x y;
  stops = λ p q x y. texts_stop files (table_files folder tables) left (codes "tables") p q told calm x y;
  apart = λ b p x y. texts_apart files (table_files folder tables) left (codes "tables") b p told calm x y;
}
