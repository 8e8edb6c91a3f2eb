-- Files that are read one after the other: how far it has come, and what comes of it.
use Rattle.std.proofs.Common.{◌≡◌, ℕ, zero, suc, ◌+◌, ◌-◌, ◌<◌, ◌≤◌, List, [], ◌∷◌, ◌++◌, length, take, drop, get_or, Option, Ok, Err, IfSome, refl, sym, ap, subst, ◌∙◌, arith, append_assoc, inl, inr}
use Rattle.std.proofs.lemmas.List.{append-nil}
use Rattle.files_sinks.specs.Outside.{Rose}
use Rattle.deliveries.specs.declared.plan.Plan.{Plan}
use Rattle.deliveries.specs.declared.fetch.Stop.{Stop}
use Rattle.deliveries.specs.Code.{Goes}
use Rattle.deliveries.specs.Named.{AreFilesRead, AreFilesUnread, ReadsFiles}
use Rattle.deliveries.specs.Plan.{Failed, Given}
use Rattle.deliveries.specs.Reads.{Looks, AreReadBy, none, next, OnlyReads}
use Rattle.deliveries.specs.Steps.{IsRead, IsNotRead}

-- ---- names so far and behind

pub names_on : (names : List (List ℕ)) (n : ℕ) (name fill : List ℕ) → n < length names → name ≡ get_or names n fill → take (suc n) names ≡ take n names ++ name ∷ []
names_on [] n name fill few is = absurd (omega arith)
names_on (other ∷ names) zero name fill few is = ap (λ (x : List ℕ). x ∷ []) (sym is)
names_on (other ∷ names) (suc n) name fill few is = ap (λ (xs : List (List ℕ)). other ∷ xs) (names_on names n name fill (omega arith) is)

pub names_split : (names : List (List ℕ)) (n : ℕ) (name fill : List ℕ) → n < length names → name ≡ get_or names n fill → names ≡ take n names ++ name ∷ drop (suc n) names
names_split [] n name fill few is = absurd (omega arith)
names_split (other ∷ names) zero name fill few is = ap (λ (x : List ℕ). x ∷ names) (sym is)
names_split (other ∷ names) (suc n) name fill few is = ap (λ (xs : List (List ℕ)). other ∷ xs) (names_split names n name fill (omega arith) is)

pub all_names : (names : List (List ℕ)) (n : ℕ) → length names ≡ n → take n names ≡ names
all_names [] zero e = refl
all_names [] (suc n) e = absurd cc
all_names (other ∷ names) zero e = absurd cc
all_names (other ∷ names) (suc n) e = let less : length names ≡ n = omega arith in ap (λ (xs : List (List ℕ)). other ∷ xs) (all_names names n less)

-- ---- files that are read, and how many bytes are left behind them

abbrev IsFront : (List ℕ → Option (List ℕ)) → List (List ℕ) → ℕ → List (List ℕ) → ℕ → Type 0
IsFront told [] left [] behind = behind ≡ left
IsFront told (name ∷ names) left (text ∷ texts) behind = (length text ≤ left) × IfSome (told name) (λ all. text ≡ all) × IsFront told names (left - length text) texts behind
IsFront told _ left _ behind = ⊥

front_on : (told : List ℕ → Option (List ℕ)) (names : List (List ℕ)) (left : ℕ) (texts : List (List ℕ)) (behind : ℕ) (name text : List ℕ) → IsFront told names left texts behind →
    length text ≤ behind → IfSome (told name) (λ all. text ≡ all) → IsFront told (names ++ name ∷ []) left (texts ++ text ∷ []) (behind - length text)
front_on told [] left [] behind name text h few is = (subst (λ (n : ℕ). length text ≤ n) h few, is, ap (λ (n : ℕ). n - length text) h)
front_on told [] left (t ∷ ts) behind name text h few is = absurd h
front_on told (n ∷ ns) left [] behind name text h few is = absurd h
front_on told (n ∷ ns) left (t ∷ ts) behind name text h few is = (h.0, h.1, front_on told ns (left - length t) ts behind name text h.2 few is)

front_read : (files : Given) (names : List (List ℕ)) (left : ℕ) (texts : List (List ℕ)) (behind : ℕ) → IsFront files.told names left texts behind → AreFilesRead files names left texts
front_read files [] left [] behind h = tt
front_read files [] left (t ∷ ts) behind h = absurd h
front_read files (n ∷ ns) left [] behind h = absurd h
front_read files (n ∷ ns) left (t ∷ ts) behind h = ((h.0, h.1), front_read files ns (left - length t) ts behind h.2)

front_stops : (files : Given) (names : List (List ℕ)) (left : ℕ) (texts : List (List ℕ)) (behind : ℕ) (name : List ℕ) (others : List (List ℕ)) (label : List ℕ) (plan : Plan) → IsFront files.told names left texts behind →
    IsNotRead files name behind label plan → AreFilesUnread files (names ++ name ∷ others) left label plan
front_stops files [] left [] behind name others label plan h stop = inl (subst (λ (n : ℕ). IsNotRead files name n label plan) h stop)
front_stops files [] left (t ∷ ts) behind name others label plan h stop = absurd h
front_stops files (n ∷ ns) left [] behind name others label plan h stop = absurd h
front_stops files (n ∷ ns) left (t ∷ ts) behind name others label plan h stop = inr (t, (h.0, h.1), front_stops files ns (left - length t) ts behind name others label plan h.2 stop)

read_by_on : {D : Type 0} (by_read : D → List ℕ → D → Type 0) (names : List (List ℕ)) (name : List ℕ) (old between new : D) → AreReadBy by_read names old between → by_read between name new → AreReadBy by_read (names ++ name ∷ []) old new
read_by_on by_read names name old between new none r = next r none
read_by_on by_read names name old between new (next {names = ns} {old = o} {between = b} first rest) r = next first (read_by_on by_read ns name b between new rest r)

-- ---- a read that failed in a part of the call

pub failed_since : {D : Type 0} (faults : D → ℕ) (may_fail : D → List ℕ → Type 0) (a b c : D) → faults a ≤ faults b → ((name : List ℕ) → may_fail b name → may_fail a name) →
    (name : List ℕ) → Failed faults may_fail b c name → Failed faults may_fail a c name
failed_since faults may_fail a b c le fewer name h = (rose_since (faults a) (faults b) (faults c) le h.0, fewer name h.1)
  where
    rose_since : (i j k : ℕ) → i ≤ j → Rose j k → Rose i k
    rose_since i j k le rose = omega arith

-- ---- how far reading has come: the first names are read, and so many bytes are left

pub record IsSoFar {D : Type 0} (l : Looks D) (names : List (List ℕ)) (n limit left : ℕ) (were texts : List (List ℕ)) (old files : D) : Type 0 where
  pub more : List (List ℕ)
  pub put : texts ≡ were ++ more
  pub front : IsFront (l.told old) (take n names) limit more left
  pub read : AreReadBy l.by_read (take n names) old files
  pub held : l.told files ≡ l.told old
  pub later : l.faults old ≤ l.faults files
  pub fewer : (name : List ℕ) → l.may_fail files name → l.may_fail old name

pub none_so_far : {D : Type 0} (l : Looks D) (names : List (List ℕ)) (limit : ℕ) (texts : List (List ℕ)) (files : D) → IsSoFar l names 0 limit limit texts texts files files
none_so_far l names limit texts files = record {
  more = [];
  put = sym (append-nil texts);
  front = refl;
  read = none;
  held = refl;
  later = omega arith;
  fewer = λ name h. h;
}

pub one_more : {D : Type 0} (l : Looks D) (names : List (List ℕ)) (n limit left : ℕ) (were texts pushed : List (List ℕ)) (name fill text : List ℕ) (old files new : D) →
    IsSoFar l names n limit left were texts old files → n < length names → name ≡ get_or names n fill → l.by_read files name new → l.told new ≡ l.told files → l.faults files ≤ l.faults new →
    ((other : List ℕ) → l.may_fail new other → l.may_fail files other) → (length text ≤ left) × IfSome (l.told files name) (λ all. text ≡ all) → pushed ≡ texts ++ text ∷ [] →
    IsSoFar l names (suc n) limit (left - length text) were pushed old new
one_more l names n limit left were texts pushed name fill text old files new so few is once held later fewer read put = record {
  more = so.more ++ text ∷ [];
  put = put ∙ ap (λ (ts : List (List ℕ)). ts ++ text ∷ []) so.put ∙ append_assoc were so.more (text ∷ []);
  front = subst (λ (ns : List (List ℕ)). IsFront (l.told old) ns limit (so.more ++ text ∷ []) (left - length text)) (sym (names_on names n name fill few is))
      (front_on (l.told old) (take n names) limit so.more left name text so.front read.0 (subst (λ (told : List ℕ → Option (List ℕ)). IfSome (told name) (λ all. text ≡ all)) so.held read.1));
  read = subst (λ (ns : List (List ℕ)). AreReadBy l.by_read ns old new) (sym (names_on names n name fill few is)) (read_by_on l.by_read (take n names) name old files new so.read once);
  held = held ∙ so.held;
  later = omega (arith, later, so.later);
  fewer = λ other h. so.fewer other (fewer other h);
}

-- all of them are read
pub all_so_far : {D : Type 0} (l : Looks D) (names : List (List ℕ)) (n limit left : ℕ) (were texts : List (List ℕ)) (old files : D) → IsSoFar l names n limit left were texts old files → length names ≡ n → OnlyReads l names old files
all_so_far l names n limit left were texts old files so all = record {
  names = names;
  others = [];
  front = sym (append-nil names);
  read = subst (λ (ns : List (List ℕ)). AreReadBy l.by_read ns old files) (all_names names n all) so.read;
  held = so.held;
  later = so.later;
  fewer = so.fewer;
}

pub read_so_far : {D : Type 0} (A : Type 0) (l : Looks D) (failed : List ℕ → Type 0) (names : List (List ℕ)) (n limit left : ℕ) (label : List ℕ) (were texts : List (List ℕ)) (old files : D) (done : A) →
    IsSoFar l names n limit left were texts old files → length names ≡ n → ReadsFiles {A = A} (record { told = l.told old; failed = failed }) names limit label were texts (Ok done)
read_so_far A l failed names n limit left label were texts old files done so all =
    (so.more, so.put, front_read (record { told = l.told old; failed = failed }) names limit so.more left (subst (λ (ns : List (List ℕ)). IsFront (l.told old) ns limit so.more left) (all_names names n all) so.front))

-- those before one that was tried are read
pub stopped_so_far : {D : Type 0} (l : Looks D) (names : List (List ℕ)) (n limit left : ℕ) (were texts : List (List ℕ)) (name fill : List ℕ) (old files new : D) →
    IsSoFar l names n limit left were texts old files → n < length names → name ≡ get_or names n fill → l.by_read files name new → l.told new ≡ l.told files → l.faults files ≤ l.faults new →
    ((other : List ℕ) → l.may_fail new other → l.may_fail files other) → OnlyReads l names old new
stopped_so_far l names n limit left were texts name fill old files new so few is once held later fewer = record {
  names = take n names ++ name ∷ [];
  others = drop (suc n) names;
  front = names_split names n name fill few is ∙ sym (append_assoc (take n names) (name ∷ []) (drop (suc n) names));
  read = read_by_on l.by_read (take n names) name old files new so.read once;
  held = held ∙ so.held;
  later = omega (arith, later, so.later);
  fewer = λ other h. so.fewer other (fewer other h);
}

-- it isn't read, and that is due
pub unread_so_far : {D : Type 0} (A : Type 0) (l : Looks D) (failed after : List ℕ → Type 0) (names : List (List ℕ)) (n limit left : ℕ) (label : List ℕ) (were texts : List (List ℕ)) (name fill : List ℕ) (old files : D) (stop : Stop) →
    IsSoFar l names n limit left were texts old files → n < length names → name ≡ get_or names n fill → ((other : List ℕ) → after other → failed other) →
    Goes {A = List ℕ} (Err stop) (IsRead (record { told = l.told files; failed = after }) name left) (IsNotRead (record { told = l.told files; failed = after }) name left label) →
    ReadsFiles {A = A} (record { told = l.told old; failed = failed }) names limit label were texts (Err stop)
unread_so_far A l failed after names n limit left label were texts name fill old files Stop.Memory so few is more h = tt
unread_so_far A l failed after names n limit left label were texts name fill old files (Stop.Due plan) so few is more h =
    subst (λ (ns : List (List ℕ)). AreFilesUnread (record { told = l.told old; failed = failed }) ns limit label plan) (sym (names_split names n name fill few is))
    (front_stops (record { told = l.told old; failed = failed }) (take n names) limit so.more left name (drop (suc n) names) label plan so.front (as_before h))
  where
    as_before : IsNotRead (record { told = l.told files; failed = after }) name left label plan → IsNotRead (record { told = l.told old; failed = failed }) name left label plan
    as_before (inl fault) = inl (more name fault.0, fault.1)
    as_before (inr long) = inr (subst (λ (told : List ℕ → Option (List ℕ)). IfSome (told name) (λ all. left < length all)) so.held long.0, long.1)
