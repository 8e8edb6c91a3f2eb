-- One step more of the blocks of a `try`, of a `switch`, and of the statements of a block.
use Rattle.std.proofs.Common.{◌≡◌, ℕ, suc, ◌+◌, ◌-◌, ◌<◌, ◌≤◌, true, false, List, [], ◌++◌, Some, None, refl, sym, ap, ◌∙◌, append_assoc, arith, if◌then◌else◌}
use Rattle.std.proofs.lemmas.List.{append-nil}
use Rattle.view_items.specs.declared.item.Item.{Item}
use Rattle.view_shapes.specs.declared.members.Stretch.{Stretch}
use Rattle.view_shapes.specs.Found.{is_over, step_over}
use Rattle.view_shapes.specs.Statements.{brace_of}
use Rattle.view_shapes.specs.Blocks.{listed, block_at, next_clause, try_blocks, case_block, case_blocks}

-- what was listed, and what is listed now
joined : (old more front rest now t : List Stretch) → now ≡ front ++ rest → old ++ now ≡ t → more ≡ old ++ front → more ++ rest ≡ t
joined old more front rest now t split so_far is_more = rw is_more (append_assoc old front rest ∙ ap (λ (ss : List Stretch). old ++ ss) (sym split) ∙ so_far)

ended : (old now t : List Stretch) → now ≡ [] → old ++ now ≡ t → old ≡ t
ended old now t none so_far = sym (append-nil old) ∙ ap (λ (ss : List Stretch). old ++ ss) (sym none) ∙ so_far

last : (old more now t : List Stretch) → old ++ now ≡ t → more ≡ old ++ now → more ≡ t
last old more now t so_far is_more = is_more ∙ so_far

tried : (items : List Item) (cs : List ℕ) (n c k : ℕ) → c < n
    → try_blocks (n - c) items cs k ≡ listed (brace_of items cs k) (λ b. block_at items cs b ++ listed (next_clause items cs b) (try_blocks (n - (c + 1)) items cs))
unfolding try_blocks
tried items cs n c k lt = let e : n - c ≡ suc (n - (c + 1)) = omega (arith, lt) in rw e refl

pub try_over : (items : List Item) (cs : List ℕ) (n c k : ℕ) (old t : List Stretch) → old ++ try_blocks (n - c) items cs k ≡ t → c < n → None ≡ brace_of items cs k → old ≡ t
try_over items cs n c k old t so_far lt none = ended old _ t (tried items cs n c k lt ∙ rw (sym none) refl) so_far

pub try_last : (items : List Item) (cs : List ℕ) (n c k b : ℕ) (old more t : List Stretch) → old ++ try_blocks (n - c) items cs k ≡ t → c < n → Some b ≡ brace_of items cs k → more ≡ old ++ block_at items cs b
    → None ≡ next_clause items cs b → more ≡ t
try_last items cs n c k b old more t so_far lt brace is_more none =
    let h : try_blocks (n - c) items cs k ≡ block_at items cs b ++ [] = tried items cs n c k lt ∙ rw (sym brace, sym none) refl in
    sym (append-nil more) ∙ joined old more (block_at items cs b) [] _ t h so_far is_more

pub try_next : (items : List Item) (cs : List ℕ) (n c k b m : ℕ) (old more t : List Stretch) → old ++ try_blocks (n - c) items cs k ≡ t → c < n → Some b ≡ brace_of items cs k → more ≡ old ++ block_at items cs b
    → Some m ≡ next_clause items cs b → more ++ try_blocks (n - (c + 1)) items cs m ≡ t
try_next items cs n c k b m old more t so_far lt brace is_more next =
    let h : try_blocks (n - c) items cs k ≡ block_at items cs b ++ try_blocks (n - (c + 1)) items cs m = tried items cs n c k lt ∙ rw (sym brace, sym next) refl in
    joined old more (block_at items cs b) _ _ t h so_far is_more

pub try_end : (items : List Item) (cs : List ℕ) (n c k : ℕ) (old t : List Stretch) → old ++ try_blocks (n - c) items cs k ≡ t → n ≤ c → old ≡ t
unfolding try_blocks
try_end items cs n c k old t so_far le =
    let e : n - c ≡ 0 = omega (arith, le) in
    ended old _ t (rw e refl) so_far

-- ---- a switch

switched : (items : List Item) (cs : List ℕ) (n c k : ℕ) → c < n
    → case_blocks (n - c) items cs k ≡ (if is_over items k then [] else case_block items cs k ++ listed (step_over items cs k) (case_blocks (n - (c + 1)) items cs))
unfolding case_blocks
switched items cs n c k lt = let e : n - c ≡ suc (n - (c + 1)) = omega (arith, lt) in rw e refl

pub case_over : (items : List Item) (cs : List ℕ) (n c k : ℕ) (old t : List Stretch) → old ++ case_blocks (n - c) items cs k ≡ t → c < n → true ≡ is_over items k → old ≡ t
case_over items cs n c k old t so_far lt over = ended old _ t (switched items cs n c k lt ∙ rw (sym over) refl) so_far

pub case_last : (items : List Item) (cs : List ℕ) (n c k : ℕ) (old more t : List Stretch) → old ++ case_blocks (n - c) items cs k ≡ t → c < n → false ≡ is_over items k → more ≡ old ++ case_block items cs k
    → None ≡ step_over items cs k → more ≡ t
case_last items cs n c k old more t so_far lt some is_more none =
    let h : case_blocks (n - c) items cs k ≡ case_block items cs k ++ [] = switched items cs n c k lt ∙ rw (sym some, sym none) refl in
    sym (append-nil more) ∙ joined old more (case_block items cs k) [] _ t h so_far is_more

pub case_next : (items : List Item) (cs : List ℕ) (n c k m : ℕ) (old more t : List Stretch) → old ++ case_blocks (n - c) items cs k ≡ t → c < n → false ≡ is_over items k → more ≡ old ++ case_block items cs k
    → Some m ≡ step_over items cs k → more ++ case_blocks (n - (c + 1)) items cs m ≡ t
case_next items cs n c k m old more t so_far lt some is_more next =
    let h : case_blocks (n - c) items cs k ≡ case_block items cs k ++ case_blocks (n - (c + 1)) items cs m = switched items cs n c k lt ∙ rw (sym some, sym next) refl in
    joined old more (case_block items cs k) _ _ t h so_far is_more

pub case_end : (items : List Item) (cs : List ℕ) (n c k : ℕ) (old t : List Stretch) → old ++ case_blocks (n - c) items cs k ≡ t → n ≤ c → old ≡ t
unfolding case_blocks
case_end items cs n c k old t so_far le =
    let e : n - c ≡ 0 = omega (arith, le) in
    ended old _ t (rw e refl) so_far
