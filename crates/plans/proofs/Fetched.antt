-- Files that were read: what was told later, and rose later, in terms of the whole call.
use Rattle.std.proofs.Common.{◌≡◌, ℕ, suc, ◌-◌, ◌<◌, ◌≤◌, List, [], ◌∷◌, length, Option, ap, subst, ◌∙◌, arith, inl, inr, codes, IfSome, refl}
use Rattle.qbs_base.specs.declared.columns.Table.{Table}
use Rattle.deliveries.specs.declared.plan.Plan.{Plan}
use Rattle.deliveries.specs.Named.{AreFilesRead, AreFilesUnread}
use Rattle.deliveries.specs.Plan.{Failed, Given}
use Rattle.deliveries.specs.Steps.{IsRead, IsNotRead}
use Rattle.deliveries.proofs.Naming.{failed_since}
use Rattle.plans.specs.Tables.{table_files, AreRead, AreNotRead}

-- ---- counts that rose in a part of the call

pub failed_later : {D : Type 0} (faults : D → ℕ) (may_fail : D → List ℕ → Type 0) (a b c : D) → faults a ≤ faults b → ((name : List ℕ) → may_fail b name → may_fail a name) →
    (name : List ℕ) → Failed faults may_fail b c name → Failed faults may_fail a c name
failed_later faults may_fail a b c le fewer name h = failed_since faults may_fail a b c le fewer name h

pub told_later : (a b c : ℕ) → a ≤ b → b ≤ c → a ≤ c
told_later a b c h k = omega arith

-- ---- what is told later

pub read_there : (told later : List ℕ → Option (List ℕ)) (after rose : List ℕ → Type 0) (name : List ℕ) (limit : ℕ) (bytes : List ℕ) → later ≡ told →
    IsRead (record { told = later; failed = after }) name limit bytes → IsRead (record { told = told; failed = rose }) name limit bytes
read_there told later after rose name limit bytes same read =
    subst (λ (t : List ℕ → Option (List ℕ)). (length bytes ≤ limit) × IfSome (t name) (λ all. bytes ≡ all)) same read

pub not_read_there : (told later : List ℕ → Option (List ℕ)) (after rose : List ℕ → Type 0) (name : List ℕ) (limit : ℕ) (label : List ℕ) (plan : Plan) → later ≡ told → ((name : List ℕ) → after name → rose name) →
    IsNotRead (record { told = later; failed = after }) name limit label plan → IsNotRead (record { told = told; failed = rose }) name limit label plan
not_read_there told later after rose name limit label plan same f (inl fault) = inl (f name fault.0, fault.1)
not_read_there told later after rose name limit label plan same f (inr long) =
    inr (subst (λ (t : List ℕ → Option (List ℕ)). IfSome (t name) (λ all. limit < length all)) same long.0, long.1)

pub files_read_there : (told later : List ℕ → Option (List ℕ)) (after rose : List ℕ → Type 0) (names : List (List ℕ)) (left : ℕ) (texts : List (List ℕ)) → later ≡ told →
    AreFilesRead (record { told = later; failed = after }) names left texts → AreFilesRead (record { told = told; failed = rose }) names left texts
files_read_there told later after rose [] left [] same h = h
files_read_there told later after rose [] left (text ∷ texts) same h = absurd h
files_read_there told later after rose (name ∷ names) left [] same h = absurd h
files_read_there told later after rose (name ∷ names) left (text ∷ texts) same h =
    (read_there told later after rose name left text same h.0, files_read_there told later after rose names (left - length text) texts same h.1)

pub files_unread_there : (told later : List ℕ → Option (List ℕ)) (after rose : List ℕ → Type 0) (names : List (List ℕ)) (left : ℕ) (label : List ℕ) (plan : Plan) → later ≡ told → ((name : List ℕ) → after name → rose name) →
    AreFilesUnread (record { told = later; failed = after }) names left label plan → AreFilesUnread (record { told = told; failed = rose }) names left label plan
files_unread_there told later after rose [] left label plan same f h = absurd h
files_unread_there told later after rose (name ∷ names) left label plan same f (inl here) = inl (not_read_there told later after rose name left label plan same f here)
files_unread_there told later after rose (name ∷ names) left label plan same f (inr behind) =
    inr (behind.0, read_there told later after rose name left behind.0 same behind.1, files_unread_there told later after rose names (left - length behind.0) label plan same f behind.2)

pub are_read_there : (told later : List ℕ → Option (List ℕ)) (after rose : List ℕ → Type 0) (folder : List ℕ) (tables : List Table) (left : ℕ) (texts : List (List ℕ)) → later ≡ told →
    AreRead (record { told = later; failed = after }) folder tables left texts → AreRead (record { told = told; failed = rose }) folder tables left texts
are_read_there told later after rose folder tables left texts same h = files_read_there told later after rose (table_files folder tables) left texts same h

pub are_not_read_there : (told later : List ℕ → Option (List ℕ)) (after rose : List ℕ → Type 0) (folder : List ℕ) (tables : List Table) (left : ℕ) (plan : Plan) → later ≡ told → ((name : List ℕ) → after name → rose name) →
    AreNotRead (record { told = later; failed = after }) folder tables left plan → AreNotRead (record { told = told; failed = rose }) folder tables left plan
are_not_read_there told later after rose folder tables left plan same f h = files_unread_there told later after rose (table_files folder tables) left (codes "tables") plan same f h

-- ---- as many texts as files

as_many_files : (files : Given) (names : List (List ℕ)) (left : ℕ) (texts : List (List ℕ)) → AreFilesRead files names left texts → length texts ≡ length names
as_many_files files [] left [] r = refl
as_many_files files [] left (text ∷ texts) r = absurd r
as_many_files files (name ∷ names) left [] r = absurd r
as_many_files files (name ∷ names) left (text ∷ texts) r = ap suc (as_many_files files names (left - length text) texts r.1)

as_many_tables : (folder : List ℕ) (tables : List Table) → length (table_files folder tables) ≡ length tables
as_many_tables folder [] = refl
as_many_tables folder (table ∷ tables) = ap suc (as_many_tables folder tables)

pub as_many : (files : Given) (folder : List ℕ) (tables : List Table) (left : ℕ) (texts : List (List ℕ)) → AreRead files folder tables left texts → length texts ≡ length tables
as_many files folder tables left texts r = as_many_files files (table_files folder tables) left texts r ∙ as_many_tables folder tables
