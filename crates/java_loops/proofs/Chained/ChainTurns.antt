-- The turns of a loop, whether it walks a list or counts, and the accumulators of a for-each as one statement.
use Rattle.std.proofs.Common.{◌≡◌, ℕ, Bool, true, false, List, [], Option, Some, None, refl, sym, ap, ◌∙◌, subst, cond, slice_get, bytes_eq, arith}
use Rattle.qbs_base.specs.declared.span.Span.{Span}
use Rattle.qbs_base.specs.Values.{Schema}
use Rattle.qbs_base.specs.Columns.{table_number}
use Rattle.java_ast.specs.Tree as tree
use Rattle.java_ast.specs.Tree.{Spelled, Expression, Statement, Statements, Nothing, Then}
use Rattle.java_mean.specs.declared.types.JavaType.{JavaType}
use Rattle.java_mean.specs.declared.types.JavaType.TheVariants.{Of}
use Rattle.java_mean.specs.declared.types.Single.TheVariants.{RowOf}
use Rattle.java_mean.specs.Types.{Types, with_type, type_spelled, row_type, made_of}
use Rattle.java_mean.specs.Typing.{Frame, TypedStatement, TypedStatements, done, next as next_typed}
use Rattle.java_mean.proofs.Puts.{names_equal, name_same}
use Rattle.kernel_lang.specs.Plain.{Accumulator, Fragment}
use Rattle.kernel_lang.specs.Running.{layers_of, started}
use Rattle.tor_terms.specs.Plain.{Form}
use Rattle.java_loops.specs.Walks.Carried.{Suits}
use Rattle.java_loops.specs.Walks.ChainLaws.{IsAccumulator, IsTurned}
use Rattle.java_loops.specs.Walks.Chains as chains
use Rattle.java_loops.specs.Walks.Chains.{By, joined, IsList, IsChain, AreChain}
use Rattle.java_loops.specs.Walks.Numbering.{Numbering, no_flags, with_loop}
use Rattle.loop_text.specs.Kernel.KernelLists.{source_of, source_in}
use Rattle.loop_text.specs.Kernel.KernelStarts.{Numbered, form_found}
use Rattle.loop_text.specs.Statements.Loops.{is_loop}
use Rattle.java_loops.specs.Lowering.Lowered.{accumulator_with}
use Rattle.java_loops.specs.Lowering.Numbering.{Numbers, found_number, table_of_loop}
use Rattle.java_loops.specs.Kernel.Setting.{Setting}
use Rattle.loop_text.specs.Statements.Setting.{is_found}
use Rattle.loop_text.specs.declared.sites.bindings.Binding.TheVariants.{Row, Outer}
use Rattle.loop_text.specs.Sites.Sites.{bound_by, binding_at, outside, kernel_body, sites_of, before_last, without_last}
use Rattle.java_loops.proofs.Typing.BoundSteps.{bound_next}
use Rattle.java_loops.proofs.Typing.BoundTyping.{TypedNext, typed_next, over, over_new, typed_each, typed_while, TypedDeclare, typed_declare}
use Rattle.java_loops.proofs.Chained.ChainDown.{not_new}
use Rattle.java_loops.proofs.Chained.ChainPremises.{HasRows}
use Rattle.java_loops.proofs.Chained.ChainSight.{Binds}
use Rattle.java_loops.proofs.Chained.ChainTurned.{Turns, Lowerable, Updated, ChainOf, chain_of, is_turned, first_there}
use Rattle.java_loops.proofs.Nested.NestRules.{Unbroken, listed_at}
use Rattle.java_loops.proofs.Standing.Standing.{site_of}
use Rattle.java_loops.proofs.Standing.StandingSites.{loop_first}

-- ---- The loop at its start

pub first_site : (w : Setting) → w.sites ≡ sites_of w.fragment.loop → slice_get w.sites 0 ≡ Some (site_of outside None w.fragment.loop)
first_site w e = ap (λ ss. slice_get ss 0) e ∙ loop_first w.fragment.loop

binds_by : (w : Setting) (s : Statement) (x : List ℕ) → w.sites ≡ sites_of w.fragment.loop → w.fragment.loop ≡ s → ((y : List ℕ) → bound_by y 0 s Outer ≡ cond (bytes_eq x y) (Row 0) Outer) → Binds w 0 1 x (Row 0)
binds_by w s x sites is by = record { up = omega arith; by = λ y. bound_next w.sites 0 (site_of outside None w.fragment.loop) y (first_site w sites) ∙ ap (λ z. bound_by y 0 z Outer) is ∙ by y }

-- The turns of a for-each.
pub turns_each : (w : Setting) (c : Frame) → Unbroken w → w.sites ≡ sites_of w.fragment.loop → HasRows w c → (at : Span) (ty : Spelled) (x : List ℕ) (e : Expression) (b : Statements) → w.fragment.loop ≡ tree.ForEach at ty x e b → (l : Option Types) (h : Types) → TypedStatement c l w.types (tree.ForEach at ty x e b) h → Turns w c
turns_each w c u sites rows at ty x e b is l h t =
    elim (typed_each c l w.types h at ty x e b t) [
      | over z k a new v has body ↦
          record {
            row = x;
            type = Of a;
            is_row = ap Of (rows.by 0 (site_of outside None w.fragment.loop) at ty x e b w.types k a (first_site w sites) is (λ y q s. s) v has);
            new = new;
            binds = binds_by w (tree.ForEach at ty x e b) x sites is (λ y. refl);
            loop = ap is_loop is;
            left = Some (with_type x (Some (Of a)) w.types);
            last = z;
            body = subst (λ p. TypedStatements c (Some (with_type x (Some (Of a)) w.types)) (with_type x (Some (Of a)) w.types) p z) (sym (ap kernel_body is)) body;
          }
      | over_new z k new isnew body ↦ absurd (not_new w.fragment.run e isnew (listed w u sites at ty x e b is))
    ]
  where
    listed : (w : Setting) → Unbroken w → w.sites ≡ sites_of w.fragment.loop → (at : Span) (ty : Spelled) (x : List ℕ) (e : Expression) (b : Statements) → w.fragment.loop ≡ tree.ForEach at ty x e b → is_found (source_of w.fragment.run e) ≡ true
    listed w u sites at ty x e b is =
        ap (λ (s : Statement). is_found (source_in w.fragment.run s)) (sym is) ∙ listed_at w u 0 (site_of outside None w.fragment.loop) (first_site w sites) (ap is_loop is)

-- the statements but the last
record TypedPart (c : Frame) (l : Option Types) (g : Types) (p : Statements) : Type 0 where
  last : Types
  body : TypedStatements c l g p last

typed_part : (c : Frame) (l : Option Types) (g h : Types) (s : Statement) (p : Statements) → TypedStatements c l g (Then s p) h → TypedPart c l g (before_last s p)
typed_part c l g h s Nothing t = record { last = g; body = done l g }
typed_part c l g h s (Then z p) t =
    let u : TypedNext c l g s (Then z p) = typed_next c l g h s (Then z p) t in
    let rest : TypedPart c l u.middle (before_last z p) = typed_part c l u.middle u.last z p u.rest in
    record { last = rest.last; body = next_typed l g u.middle rest.last s (before_last z p) u.first rest.body }

typed_without : (c : Frame) (l : Option Types) (g h : Types) (p : Statements) → TypedStatements c l g p h → TypedPart c l g (without_last p)
typed_without c l g h Nothing t = record { last = h; body = t }
typed_without c l g h (Then s p) t = typed_part c l g h s p t

row_spelled : (schema : Schema) (name : List ℕ) (k : JavaType) (o : Option ℕ) → table_number schema name ≡ o → type_spelled schema (tree.Table name) ≡ Some k → k ≡ Of (RowOf (found_number o))
row_spelled schema name k (Some n) e h = let g : Some (Of (RowOf n)) ≡ Some k = ap (λ o. made_of Of (row_type o)) (sym e) ∙ h in cc
row_spelled schema name k None e h = let g : None ≡ Some k = ap (λ o. made_of Of (row_type o)) (sym e) ∙ h in absurd cc

-- The turns of a loop that counts, whose body takes a row first.
pub turns_counted : (w : Setting) (c : Frame) → w.sites ≡ sites_of w.fragment.loop → c.schema ≡ w.schema → (at at' : Span) (test : Expression) (table x : List ℕ) (e : Expression) (b : Statements) → w.fragment.loop ≡ tree.While at test (Then (tree.Declare at' (tree.Table table) x e) b) → (l : Option Types) (h : Types) → TypedStatement c l w.types (tree.While at test (Then (tree.Declare at' (tree.Table table) x e) b)) h → Turns w c
turns_counted w c sites schema at at' test table x e b is l h t =
    let s : Statement = tree.Declare at' (tree.Table table) x e in
    let u = typed_while c l w.types h at test (Then s b) t in
    let v : TypedNext c (Some w.types) w.types s b = typed_next c (Some w.types) w.types u.branch.last s b u.branch.body in
    let z : TypedDeclare c w.types v.middle (tree.Table table) x e = typed_declare c (Some w.types) w.types at' (tree.Table table) x e v.middle v.first in
    let part : TypedPart c (Some w.types) v.middle (without_last b) = typed_without c (Some w.types) v.middle v.last b v.rest in
    record {
      row = x;
      type = z.type;
      is_row = row_spelled c.schema table z.type (table_number c.schema table) refl z.spelled ∙ ap (λ q. Of (RowOf (found_number (table_number q table)))) schema ∙ ap (λ q. Of (RowOf (table_of_loop w.schema q))) (sym is);
      new = z.new;
      binds = binds_by w (tree.While at test (Then s b)) x sites is (λ y. ap (λ q. cond q (Row 0) Outer) (names_back y x));
      loop = ap is_loop is;
      left = Some w.types;
      last = part.last;
      body = subst (λ p. TypedStatements c (Some w.types) (with_type x (Some z.type) w.types) p part.last) (sym (ap kernel_body is)) (subst (λ g. TypedStatements c (Some w.types) g (without_last b) part.last) z.after part.body);
    }
  where
    same_or : (y x : List ℕ) (p q : Bool) → bytes_eq y x ≡ p → bytes_eq x y ≡ q → p ≡ q
    same_or y x true true e f = refl
    same_or y x false false e f = refl
    same_or y x true false e f = let g : bytes_eq x y ≡ true = ap (λ z. bytes_eq x z) (names_equal y x e) ∙ name_same x in absurd cc
    same_or y x false true e f = let g : bytes_eq y x ≡ true = ap (λ z. bytes_eq y z) (names_equal x y f) ∙ name_same y in absurd cc

    names_back : (y x : List ℕ) → bytes_eq y x ≡ bytes_eq x y
    names_back y x = same_or y x (bytes_eq y x) (bytes_eq x y) refl refl

-- ---- A for-each as one statement

pub row_name : (w : Setting) (row y : List ℕ) (b : Bool) → bytes_eq row y ≡ b → Row 0 ≡ cond b (Row 0) Outer → row ≡ y
row_name w row y true e h = names_equal row y e
row_name w row y false e h = absurd cc

-- The accumulator of a variable is that of the whole for-each, where it starts as its update asks for.
pub is_accumulator : (w : Setting) (c : Frame) (t : Numbers) (N : Numbering) (F : Fragment) → (known : Lowerable w c t N F) → (at : Span) (ty : Spelled) (y : List ℕ) (e : Expression) (b : Statements) → w.fragment.loop ≡ tree.ForEach at ty y e b → (cs : List Form) (x : List ℕ) (u : Numbered) → Updated w x u → Suits (By (accumulator_with w t cs x 0 u.site.round (form_found w.sites (Some u))).update (accumulator_with w t cs x 0 u.site.round (form_found w.sites (Some u))).opposite) (started (accumulator_with w t cs x 0 u.site.round (form_found w.sites (Some u))).start) → IsAccumulator F N w.fragment.loop x (accumulator_with w t cs x 0 u.site.round (form_found w.sites (Some u)))
is_accumulator w c t N F known at ty y e b is cs x u up suits =
    let acc : Accumulator = accumulator_with w t cs x 0 u.site.round (form_found w.sites (Some u)) in
    let row : List ℕ = known.turns.row in
    let k : ChainOf w c N F known.turns x acc = chain_of w c t N F known cs x u up in
    let turned : IsTurned F N row 0 (kernel_body w.fragment.loop) x k.fronts k.layers acc = is_turned w c t N F known cs x u up suits in
    let own : binding_at w.sites 1 y ≡ Row 0 = bound_next w.sites 0 (site_of outside None w.fragment.loop) y (first_there w c t N F known) ∙ ap (λ s. bound_by y 0 s Outer) is ∙ ap (λ q. cond q (Row 0) Outer) (name_same y) in
    let name : row ≡ y = row_name w row y (bytes_eq row y) refl (sym own ∙ known.turns.binds.by y) in
    let list : IsList N e 0 = known.numbers.lists 0 (site_of outside None w.fragment.loop) at ty y e b N.loops (first_there w c t N F known) is in
    let chain : AreChain F false (with_loop row 0 N) no_flags [] b x k.fronts k.layers (By acc.update acc.opposite) = subst (λ p. AreChain F false (with_loop row 0 N) no_flags [] p x k.fronts k.layers (By acc.update acc.opposite)) (ap kernel_body is) k.chain in
    record {
      apart = turned.apart;
      start = suits;
      chain =
          subst (λ s. IsChain F false N no_flags s x [] (layers_of acc) (By acc.update acc.opposite)) (ap (λ z. tree.ForEach at ty z e b) name ∙ sym is)
          (subst (λ ys. IsChain F false N no_flags (tree.ForEach at ty row e b) x [] ys (By acc.update acc.opposite)) (sym k.is)
          (chains.over false N no_flags at ty row e b x 0 k.fronts k.layers acc.update acc.opposite list turned.variable refl turned.other turned.new chain));
    }
