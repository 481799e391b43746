-- Labels and bytes of several sections, one section further.
use Rattle.std.proofs.Common.{◌≡◌, ℕ, zero, suc, ◌+◌, ◌<◌, ◌≤◌, ◌^◌, Bool, true, false, ◌&&◌, List, [], ◌∷◌, ◌++◌, length, get_or, drop, map, refl, sym, ap, ◌∙◌, arith, drop-cons, append_assoc}
use Rattle.std.specs.Prelude.{nat_le}
use Rattle.std.proofs.lemmas.List.{drop_all, append-nil}
use Rattle.std.proofs.lemmas.Bool.{ltb-true, leb-true}
use Rattle.std.specs.List.{list_all}
use Rattle.ev_asm.specs.declared.statement.Stmt.{Stmt}
use Rattle.ev_asm.specs.declared.statement.Stmt.TheVariants.{Jump}
use Rattle.ev_asm.specs.declared.block.Block.{Block}
use Rattle.ev_asm.specs.declared.linking.Section.{Section}
use Rattle.ev_asm.specs.Assembly.{Name, Places, size, total_size, place}
use Rattle.ev_asm.specs.Assembled.{are_instructions}
use Rattle.ev_asm.specs.Linked.{block_in, reaches, all_reach, is_linkable}
use Rattle.ev_asm.proofs.Statements.{split_at}

both : (a b : Bool) → (a && b) ≡ true → (a ≡ true) × (b ≡ true)
both true b h = (refl, h)
both false b h = absurd cc

-- ---- what each section keeps

pub record IsLinkable (env : Places) (s : Section) : Type 0 where
  pub counts : are_instructions s.stmts ≡ true
  pub reach : all_reach env s.address s.stmts ≡ true
  pub room : s.address + total_size s.stmts < 2 ^ 64

linkable : (env : Places) (s : Section) → is_linkable env s ≡ true → IsLinkable env s
linkable env s h =
    let k = both (are_instructions s.stmts) _ h in
    let l = both (all_reach env s.address s.stmts) _ k.1 in
    record { counts = k.0; reach = l.0; room = ltb-true _ _ l.1 }

pub linkable_at : (env : Places) (ss : List Section) (n : ℕ) (s : Section) → list_all (is_linkable env) ss ≡ true → n < length ss → s ≡ get_or ss n s
    → IsLinkable env s
linkable_at env [] n s h lt e = absurd (omega arith)
linkable_at env (x ∷ xs) zero s h lt e = linkable env s (ap (is_linkable env) e ∙ (both (is_linkable env x) (list_all (is_linkable env) xs) h).0)
linkable_at env (x ∷ xs) (suc n) s h lt e = linkable_at env xs n s ((both (is_linkable env x) (list_all (is_linkable env) xs) h).1) (omega arith) e

pub section_at : (ss : List Section) (n : ℕ) (s : Section) → n < length ss → s ≡ get_or ss n s → drop n ss ≡ s ∷ drop (suc n) ss
section_at ss n s lt e = drop-cons ss n s lt ∙ ap (λ (x : Section). x ∷ drop (suc n) ss) (sym e)

-- ---- jumps

pub near : (env : Places) (a : ℕ) (s : Stmt) (c : _) (name : Name) (p k : ℕ) → s ≡ Jump c name → reaches env a s ≡ true → k ≡ size s → p ≡ place env name
    → (p ≤ a + k + 2147483647) × (a + k ≤ p + 2147483647)
unfolding reaches
near env a s c name p k e h l q =
    let f : reaches env a (Jump c name) ≡ true = sym (ap (reaches env a) e) ∙ h in
    let b = both (nat_le (place env name) (a + size (Jump c name) + 2147483647)) _ f in
    let g : k ≡ size (Jump c name) = l ∙ ap size e in
    let x = leb-true _ _ b.0 in
    let y = leb-true _ _ b.1 in
    (omega (arith, x, g, q), omega (arith, y, g, q))

pub reach_step : (env : Places) (stmts : List Stmt) (n m a b : ℕ) (s : Stmt) → n < length stmts → m ≡ suc n → s ≡ get_or stmts n s → b ≡ a + size s
    → all_reach env a (drop n stmts) ≡ true
    → (reaches env a s ≡ true) × (all_reach env b (drop m stmts) ≡ true)
unfolding all_reach
reach_step env stmts n m a b s lt k e l h =
    let g : all_reach env a (s ∷ drop (suc n) stmts) ≡ true = sym (ap (all_reach env a) (split_at stmts n s lt e)) ∙ h in
    let r = both (reaches env a s) (all_reach env (a + size s) (drop (suc n) stmts)) g in
    (r.0, rw (k, l) r.1)

-- ---- blocks

pub blocks_step : (env : Places) (ss : List Section) (n m : ℕ) (s : Section) (b : Block) (done more W : List Block) → n < length ss → m ≡ suc n
    → s ≡ get_or ss n s → b ≡ block_in env s → more ≡ done ++ b ∷ []
    → done ++ map (block_in env) (drop n ss) ≡ W → more ++ map (block_in env) (drop m ss) ≡ W
blocks_step env ss n m s b done more W lt k e l g w =
    rw (k, g, l) (append_assoc done (block_in env s ∷ []) (map (block_in env) (drop (suc n) ss)) ∙ ap (λ (x : List Section). done ++ map (block_in env) x)
    (sym (section_at ss n s lt e)) ∙ w)

pub blocks_end : (env : Places) (ss : List Section) (n : ℕ) (done W : List Block) → length ss ≤ n → done ++ map (block_in env) (drop n ss) ≡ W → done ≡ W
blocks_end env ss n done W le w = sym (append-nil done) ∙ ap (λ (x : List Section). done ++ map (block_in env) x) (sym (drop_all n ss le)) ∙ w
