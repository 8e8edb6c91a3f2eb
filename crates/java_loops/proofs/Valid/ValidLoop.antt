-- Each site of a loop of the kernel form is visited with what is visible there.
use Rattle.std.proofs.Common.{◌≡◌, ℕ, zero, suc, ◌<◌, ◌≤◌, Bool, true, false, not, ◌&&◌, List, [], length, Option, Some, None, refl, sym, ap, ◌∙◌, subst, cond, bytes_eq, slice_get, arith, ⊎_elim, nat_lt}
use Rattle.std.proofs.lemmas.Bool.{cases_lt, and_parts, lt-ltb}
use Rattle.qbs_base.specs.declared.span.Span.{Span}
use Rattle.java_ast.specs.Tree as tree
use Rattle.java_ast.specs.Tree.{Spelled, Expression, Statement, Statements, Nothing, Then}
use Rattle.java_mean.specs.declared.types.JavaType.{JavaType}
use Rattle.java_mean.specs.declared.types.JavaType.TheVariants.{Of}
use Rattle.java_mean.specs.Types.{Types, with_type, type_spelled}
use Rattle.java_mean.specs.Typing.{Frame, TypedStatement, TypedStatements, done, next as next_typed}
use Rattle.java_mean.proofs.Puts.{names_equal, name_same}
use Rattle.loop_text.specs.Statements.Fragment.{Fragment, is_live}
use Rattle.java_loops.specs.Kernel.Kernel.{Broken, first_rule, broken, broken_counts}
use Rattle.java_loops.specs.Kernel.KernelConditions.{broken_conditions}
use Rattle.java_loops.specs.Kernel.KernelForms.{broken_forms}
use Rattle.java_loops.specs.Kernel.KernelLists.{broken_lists, broken_depth}
use Rattle.loop_text.specs.Kernel.KernelLists.{too_deep}
use Rattle.loop_text.specs.Kernel.Counting.{Counting, counting}
use Rattle.loop_text.specs.Kernel.KernelLoop.{counts_rightly, counts_in, begins, takes_row, is_table, is_item, is_kernel_loop, ends, starts_at_zero}
use Rattle.java_loops.specs.Kernel.KernelLoop.{broken_loop}
use Rattle.java_loops.specs.Kernel.KernelStarts.{broken_starts}
use Rattle.java_loops.specs.Kernel.KernelStatements.{broken_statements, broken_updates}
use Rattle.loop_text.specs.Statements.Loops.{is_loop}
use Rattle.java_ast.specs.Names.{is_among, mentioned_among}
use Rattle.java_loops.specs.Kernel.Setting.{Setting}
use Rattle.loop_text.specs.declared.sites.bindings.Binding.TheVariants.{Row}
use Rattle.loop_text.specs.Sites.Sites.{Site, binding_at, place_of, depth, in_loop, outside, without_first, without_last, before_last, sites_of}
use Rattle.java_loops.proofs.Typing.BoundSteps.{bound_next}
use Rattle.java_loops.proofs.Typing.BoundTyping.{TypedBranch, typed_next, typed_each, over, over_new, typed_while, typed_declare}
use Rattle.java_loops.proofs.Nested.NestRules.{Unbroken, loop_parts, and_second}
use Rattle.java_loops.proofs.Standing.Standing.{site_of}
use Rattle.java_loops.proofs.Standing.StandingRules.{none_where, unbroken_at}
use Rattle.java_loops.proofs.Standing.StandingSites.{body_stands, loop_first}
use Rattle.java_loops.proofs.Valid.ValidScope.{among_last, Scope, inside_loop, scope_new}
use Rattle.java_loops.proofs.Valid.ValidVisits.{RoundStands, round_in_loop, member, of_new, Nested, Visited}
use Rattle.java_loops.proofs.Valid.ValidSites.{row_scope, all_visits}

-- ---- The rules

pub record Rules (w : Setting) : Type 0 where
  pub unbroken : Unbroken w
  pub depth : broken_depth w ≡ None
  pub counts : broken_counts w ≡ None

rule_none : (rule : ℕ) (o : Option Span) (more : Option Broken) → first_rule rule o more ≡ None → (o ≡ None) × (more ≡ None)
rule_none rule (Some at) more e = absurd cc
rule_none rule None more e = (refl, e)

pub rules : (w : Setting) → broken w ≡ None → Rules w
rules w e =
    let nine : Option Broken = first_rule 9 (broken_starts w) None in
    let eight : Option Broken = first_rule 8 (broken_counts w) nine in
    let seven : Option Broken = first_rule 7 (broken_conditions w) eight in
    let six : Option Broken = first_rule 6 (broken_forms w) seven in
    let five : Option Broken = first_rule 5 (broken_updates w) six in
    let four : Option Broken = first_rule 4 (broken_statements w) five in
    let three : Option Broken = first_rule 3 (broken_depth w) four in
    let two : Option Broken = first_rule 2 (broken_lists w) three in
    let a = rule_none 1 (broken_loop w) two e in
    let b = rule_none 2 (broken_lists w) three a.1 in
    let c = rule_none 3 (broken_depth w) four b.1 in
    let d = rule_none 4 (broken_statements w) five c.1 in
    let f = rule_none 5 (broken_updates w) six d.1 in
    let g = rule_none 6 (broken_forms w) seven f.1 in
    let h = rule_none 7 (broken_conditions w) eight g.1 in
    let i = rule_none 8 (broken_counts w) nine h.1 in
    let j = rule_none 9 (broken_starts w) None i.1 in
    record {
      unbroken = record { loop = a.0; lists = b.0; statements = d.0; updates = f.0; forms = g.0; conditions = h.0; starts = j.0 };
      depth = c.0;
      counts = i.0;
    }

-- A setting whose loop is of the kernel form and well typed.
pub record Checked (w : Setting) (c : Frame) : Type 0 where
  pub sites : w.sites ≡ sites_of w.fragment.loop
  pub none : broken w ≡ None
  pub schema : c.schema ≡ w.schema
  pub at_body : Option Types
  pub after : Types
  pub typed : TypedStatement c at_body w.types w.fragment.loop after

-- K3
pub shallow_at : (w : Setting) → broken_depth w ≡ None → (n : ℕ) (s : Site) → slice_get w.sites n ≡ Some s → is_loop s.statement ≡ true → depth s ≤ 2
shallow_at w none n s get loops =
    let h = none_where (is_loop s.statement && nat_lt 2 (depth s)) (place_of s.statement) (unbroken_at too_deep w.sites none n s get) in
    let e : nat_lt 2 (depth s) ≡ false = and_second (is_loop s.statement) (nat_lt 2 (depth s)) h loops in
    ⊎_elim (λ (l : 2 < depth s). absurd (let t : nat_lt 2 (depth s) ≡ true = lt-ltb 2 (depth s) l in cc)) (λ l. l) (cases_lt 2 (depth s))

-- ---- The body of a loop that counts

pub record BeginsWithRow (b : Statements) : Type 0 where
  pub at : Span
  pub ty : Spelled
  pub row : List ℕ
  pub value : Expression
  pub rest : Statements
  pub is : b ≡ Then (tree.Declare at ty row value) rest
  pub table : is_table ty ≡ true

row_taken : (k : Counting) (s : Statement) (ss : Statements) → takes_row k s ≡ true → BeginsWithRow (Then s ss)
row_taken k (tree.Declare at ty x e) ss h = record { at = at; ty = ty; row = x; value = e; rest = ss; is = refl; table = (and_parts (is_table ty) (is_item k e) h).0 }
row_taken k (tree.Assign at x e) ss h = absurd cc
row_taken k (tree.Add at x e) ss h = absurd cc
row_taken k (tree.Sort at x keys downs) ss h = absurd cc
row_taken k (tree.If at c p) ss h = absurd cc
row_taken k (tree.IfElse at c p q) ss h = absurd cc
row_taken k (tree.ForEach at ty x e b) ss h = absurd cc
row_taken k (tree.While at c b) ss h = absurd cc
row_taken k (tree.Print at e) ss h = absurd cc
row_taken k (tree.Return at e) ss h = absurd cc
row_taken k (tree.Break at) ss h = absurd cc

begun : (k : Counting) (b : Statements) → begins k b ≡ true → BeginsWithRow b
begun k Nothing h = absurd cc
begun k (Then s ss) h = row_taken k s ss h

begun_rightly : (f : Fragment) (o : Option Counting) (b : Statements) → counts_rightly f o b ≡ true → BeginsWithRow b
begun_rightly f None b h = absurd cc
begun_rightly f (Some k) b h =
    let p = and_parts (counts_in k b) (starts_at_zero k.counter f.run && not (is_live f k.counter)) h in
    let q = and_parts (begins k b) (ends k (without_first b) && not (is_among (mentioned_among (without_last (without_first b))) k.counter)) p.0 in
    begun k b q.0

typed_before : (c : Frame) (l : Option Types) (g h z : Types) (s : Statement) (ss : Statements) → TypedStatement c l g s h → TypedStatements c l h ss z → TypedBranch c l g (before_last s ss)
typed_before c l g h z s Nothing t u = record { last = g; body = done l g }
typed_before c l g h z s (Then t' ss) t u =
    let v = typed_next c l h z t' ss u in
    let more = typed_before c l h v.middle v.last t' ss v.first v.rest in
    record { last = more.last; body = next_typed l g h more.last s (before_last t' ss) t more.body }

typed_without_last : (c : Frame) (l : Option Types) (g z : Types) (ss : Statements) → TypedStatements c l g ss z → TypedBranch c l g (without_last ss)
typed_without_last c l g z Nothing u = record { last = g; body = done l g }
typed_without_last c l g z (Then s ss) u = let v = typed_next c l g z s ss u in typed_before c l g v.middle v.last s ss v.first v.rest

-- ---- The loop

names_back : (x y : List ℕ) (b c : Bool) → bytes_eq x y ≡ b → bytes_eq y x ≡ c → b ≡ c
names_back x y true true e f = refl
names_back x y false false e f = refl
names_back x y true false e f = let same : x ≡ y = names_equal x y e in let g : bytes_eq y x ≡ true = subst (λ z. bytes_eq y z ≡ true) (sym same) (name_same y) in absurd cc
names_back x y false true e f = let same : y ≡ x = names_equal y x f in let g : bytes_eq x y ≡ true = subst (λ z. bytes_eq x z ≡ true) (sym same) (name_same x) in absurd cc

pub bytes_back : (x y : List ℕ) → bytes_eq x y ≡ bytes_eq y x
bytes_back x y = names_back x y (bytes_eq x y) (bytes_eq y x) refl refl

first_scope : (P : ℕ → JavaType → Type 0) (g : Types) (sites : List Site) → Scope P g sites outside 0 g
first_scope P g sites = record { bound = λ x k h. h; outer = λ x k h. refl; extends = λ x k h. h }

first_round : (sites : List Site) (n : ℕ) → RoundStands sites n outside
first_round sites n = record { loops = tt; rising = refl; short = omega arith; tests = tt; outer = tt }

first_visit : (P : ℕ → JavaType → Type 0) (c : Frame) (g h : Types) (l : Option Types) (loop : Statement) → TypedStatement c l g loop h → Visited P c g (sites_of loop) 0
first_visit P c g h l loop t =
    record { site = site_of outside None loop; there = loop_first loop; at_body = l; now = g; after = h; typed = t; scope = first_scope P g (sites_of loop); round = first_round (sites_of loop) 0 }

body_round : (loop : Statement) → is_loop loop ≡ true → RoundStands (sites_of loop) 1 (in_loop outside 0)
body_round loop loops = round_in_loop (sites_of loop) 0 (site_of outside None loop) outside (loop_first loop) loops (omega arith) (first_round (sites_of loop) 0)

-- what is taken in the first statement of a loop that counts is its row
abbrev pub FirstRow : (ℕ → JavaType → Type 0) → Frame → Statement → Type 0
FirstRow P c loop = (at : Span) (q : Expression) (at' : Span) (ty : Spelled) (x : List ℕ) (e : Expression) (ss : Statements) (k : JavaType) → loop ≡ tree.While at q (Then (tree.Declare at' ty x e) ss) → is_table ty ≡ true → type_spelled c.schema ty ≡ Some k → P 0 k

counted_visits : (P : ℕ → JavaType → Type 0) (c : Frame) (g z : Types) (at : Span) (q : Expression) (at' : Span) (ty : Spelled) (x : List ℕ) (e : Expression) (ss : Statements) → is_table ty ≡ true → FirstRow P c (tree.While at q (Then (tree.Declare at' ty x e) ss)) → Nested P c g (sites_of (tree.While at q (Then (tree.Declare at' ty x e) ss))) → TypedStatements c (Some g) g (Then (tree.Declare at' ty x e) ss) z → (k : ℕ) → 1 ≤ k → k < length (sites_of (tree.While at q (Then (tree.Declare at' ty x e) ss))) → Visited P c g (sites_of (tree.While at q (Then (tree.Declare at' ty x e) ss))) k
counted_visits P c g z at q at' ty x e ss table row nested t k low high =
    let loop : Statement = tree.While at q (Then (tree.Declare at' ty x e) ss) in
    let sites : List Site = sites_of loop in
    let s : Site = site_of outside None loop in
    let v = typed_next c (Some g) g z (tree.Declare at' ty x e) ss t in
    let d = typed_declare c (Some g) g at' ty x e v.middle v.first in
    let rest : TypedStatements c (Some g) (with_type x (Some d.type) g) ss v.last = subst (λ i. TypedStatements c (Some g) i ss v.last) d.after v.rest in
    let body = typed_without_last c (Some g) (with_type x (Some d.type) g) v.last ss rest in
    let scope : Scope P g sites (in_loop outside 0) 1 (with_type x (Some d.type) g) = scope_new P g g sites outside (in_loop outside 0) 0 1 x d.type (Row 0) (inside_loop outside 0) d.new
    (λ y. bound_next sites 0 s y (loop_first loop) ∙ ap (λ b. cond b (Row 0) (binding_at sites 0 y)) (bytes_back y x))
    (λ y h. (record { site = s; there = loop_first loop; loops = refl; inside = among_last [] 0 }, row at q at' ty x e ss d.type refl table d.spelled))
    (first_scope P g sites) in
    all_visits P c g sites nested (in_loop outside 0) None (without_last ss) 1 (length sites) (body_stands loop) (Some g) (with_type x (Some d.type) g) body.last body.body scope (body_round loop refl) k low high

each_visits : (P : ℕ → JavaType → Type 0) (c : Frame) (l : Option Types) (g h : Types) (at : Span) (ty : Spelled) (x : List ℕ) (e : Expression) (p : Statements) → Nested P c g (sites_of (tree.ForEach at ty x e p)) → TypedStatement c l g (tree.ForEach at ty x e p) h → (k : ℕ) → 1 ≤ k → k < length (sites_of (tree.ForEach at ty x e p)) → Visited P c g (sites_of (tree.ForEach at ty x e p)) k
each_visits P c l g h at ty x e p nested t k low high =
    let loop : Statement = tree.ForEach at ty x e p in
    let sites : List Site = sites_of loop in
    elim (typed_each c l g h at ty x e p t) [
      | over z j a new v has u ↦ all_visits P c g sites nested (in_loop outside 0) None p 1 (length sites) (body_stands loop) (Some (with_type x (Some (Of a)) g)) (with_type x (Some (Of a)) g) z u (row_scope P c g sites outside None at ty x e p 0 g (Of a) nested (loop_first loop) new (member j a v has) (first_scope P g sites)) (body_round loop refl) k low high
      | over_new z j new isnew u ↦ all_visits P c g sites nested (in_loop outside 0) None p 1 (length sites) (body_stands loop) (Some (with_type x (Some j) g)) (with_type x (Some j) g) z u (row_scope P c g sites outside None at ty x e p 0 g j nested (loop_first loop) new (of_new j isnew) (first_scope P g sites)) (body_round loop refl) k low high
    ]

begun_visits : (P : ℕ → JavaType → Type 0) (c : Frame) (g z : Types) (at : Span) (q : Expression) (b : Statements) (d : BeginsWithRow b) → FirstRow P c (tree.While at q b) → Nested P c g (sites_of (tree.While at q b)) → TypedStatements c (Some g) g b z → (k : ℕ) → 1 ≤ k → k < length (sites_of (tree.While at q b)) → Visited P c g (sites_of (tree.While at q b)) k
begun_visits P c g z at q b d =
    subst (λ i. FirstRow P c (tree.While at q i) → Nested P c g (sites_of (tree.While at q i)) → TypedStatements c (Some g) g i z → (k : ℕ) → 1 ≤ k → k < length (sites_of (tree.While at q i)) → Visited P c g (sites_of (tree.While at q i)) k) (sym d.is) (λ row nested t k low high. counted_visits P c g z at q d.at d.ty d.row d.value d.rest d.table row nested t k low high)

inner_visits : (P : ℕ → JavaType → Type 0) (f : Fragment) (c : Frame) (l : Option Types) (g h : Types) (loop : Statement) → is_kernel_loop f loop ≡ true → FirstRow P c loop → Nested P c g (sites_of loop) → TypedStatement c l g loop h → (k : ℕ) → 1 ≤ k → k < length (sites_of loop) → Visited P c g (sites_of loop) k
inner_visits P f c l g h (tree.ForEach at ty x e p) kernel row nested t k low high = each_visits P c l g h at ty x e p nested t k low high
inner_visits P f c l g h (tree.While at q b) kernel row nested t k low high =
    let u = typed_while c l g h at q b t in
    begun_visits P c g u.branch.last at q b (begun_rightly f (counting q) b kernel) row nested u.branch.body k low high
inner_visits P f c l g h (tree.Declare at ty x e) kernel row nested t k low high = absurd cc
inner_visits P f c l g h (tree.Assign at x e) kernel row nested t k low high = absurd cc
inner_visits P f c l g h (tree.Add at x e) kernel row nested t k low high = absurd cc
inner_visits P f c l g h (tree.Sort at x keys downs) kernel row nested t k low high = absurd cc
inner_visits P f c l g h (tree.If at q p) kernel row nested t k low high = absurd cc
inner_visits P f c l g h (tree.IfElse at q p o) kernel row nested t k low high = absurd cc
inner_visits P f c l g h (tree.Print at e) kernel row nested t k low high = absurd cc
inner_visits P f c l g h (tree.Return at e) kernel row nested t k low high = absurd cc
inner_visits P f c l g h (tree.Break at) kernel row nested t k low high = absurd cc

loop_visits : (P : ℕ → JavaType → Type 0) (f : Fragment) (c : Frame) (l : Option Types) (g h : Types) (loop : Statement) → is_kernel_loop f loop ≡ true → FirstRow P c loop → Nested P c g (sites_of loop) → TypedStatement c l g loop h → (k : ℕ) → k < length (sites_of loop) → Visited P c g (sites_of loop) k
loop_visits P f c l g h loop kernel row nested t zero high = first_visit P c g h l loop t
loop_visits P f c l g h loop kernel row nested t (suc k) high = inner_visits P f c l g h loop kernel row nested t (suc k) (omega arith) high

abbrev AllVisited : (ℕ → JavaType → Type 0) → Frame → Types → List Site → Type 0
AllVisited P c g sites = Nested P c g sites → (k : ℕ) → k < length sites → Visited P c g sites k

-- each site of a loop of the kernel form
pub site_visited : (P : ℕ → JavaType → Type 0) (w : Setting) (c : Frame) → Checked w c → FirstRow P c w.fragment.loop → Nested P c w.types w.sites → (k : ℕ) → k < length w.sites → Visited P c w.types w.sites k
site_visited P w c is row nested k high =
    let kernel : is_kernel_loop w.fragment w.fragment.loop ≡ true = (loop_parts w (rules w is.none).unbroken).1 in
    subst (λ s. AllVisited P c w.types s) (sym is.sites) (λ nested' k' high'. loop_visits P w.fragment c is.at_body w.types is.after w.fragment.loop kernel row nested' is.typed k' high') nested k high
