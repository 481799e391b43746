-- The delivery of any event under FRED.
use Rattle.std.proofs.Common.{◌≡◌, ℕ, ◌+◌, ◌-◌, ◌*◌, ◌/◌, ◌%◌, ◌^◌, ◌<◌, ◌≤◌, Bool, true, false, ◌&&◌, List, [], ◌∷◌, get_or, set, drop, map, length, reverse, None, refl, sym, ap, ◌∙◌, arith}
use Rattle.std.specs.Prelude.{◌==◌, if◌then◌else◌, bit_and}
use Rattle.std.proofs.lemmas.Bool.{eqb-true, eq-eqb}
use Rattle.std.proofs.lemmas.Nat.{and_mask}
use Rattle.ev_isa.specs.Word.{bit_if}
use Rattle.ev_isa.specs.Flags.{flags_word}
use Rattle.ev_event.specs.declared.event.Event.{Event}
use Rattle.ev_event.specs.declared.event.EventType.{EventType}
use Rattle.ev_event.specs.declared.event.EventType.TheVariants.{External, Nmi, Hardware, SoftInt, Int1, Int3, Other}
use Rattle.ev_event.specs.Event.{is_hardware, is_nmi_type, type_number}
use Rattle.ev_effect.specs.Frame.{addresses, placed, first_event}
use Rattle.ev_listing.specs.AddressMap.{fred_page}
use Rattle.ev_state.specs.Outcome.{Outcome, Went, with_cr2, below, frame_written}
use Rattle.ev_state.specs.Processor.{Processor, is_user, with_rsp}
use Rattle.ev_mem.specs.Memory.{Memory, view}
use Rattle.ev_fred.specs.FredDelivery.{fred_delivery, in_fred_handler, exchanged_if, handler_page, new_level, frame_top, is_software, has_length, ss_word}
use Rattle.ev_fred.specs.FredDelivery as delivery
use Rattle.ev_symbolic.specs.Value.{M, OSub, OSame, number}
use Rattle.ev_symbolic.specs.State.{top_tag}
use Rattle.ev_symbolic.specs.Agrees.{Env, eval, eval_flags, untracked, Known, Open, Code, FactsHold, Agrees, Fits, with_words}
use Rattle.ev_symbolic.specs.Openings.{gs_tag}
use Rattle.ev_symbolic.specs.Names.{says_same}
use Rattle.ev_symbolic.proofs.Blocks.{begins, levels_split}
use Rattle.ev_symbolic.proofs.Placed.{listed_known, places_open, no_event, eight_open}
use Rattle.ev_blocks.specs.Shapes.{from_top, fred_frame}
use Rattle.ev_blocks.specs.Fred.{ByInt3, ByIntN, FromKernel, event_type, event_vector, way_facts, fred_block}
use Rattle.ev_deliver.specs.FredDelivers.{way_by, entry_by, entry_of, other_base, faulted, fred_variables, FredSite, frame_at, fred_handler, fred_words, FredFacts, FramesTell, FredDelivers}

-- ---- sixteen registers, one by one

abbrev pub listed : List ℕ → List ℕ
listed xs =
    get_or xs 0 0 ∷ get_or xs 1 0 ∷ get_or xs 2 0 ∷ get_or xs 3 0 ∷ get_or xs 4 0 ∷ get_or xs 5 0 ∷ get_or xs 6 0 ∷ get_or xs 7 0 ∷ get_or xs 8 0
    ∷ get_or xs 9 0 ∷ get_or xs 10 0 ∷ get_or xs 11 0 ∷ get_or xs 12 0 ∷ get_or xs 13 0 ∷ get_or xs 14 0 ∷ get_or xs 15 0 ∷ []

pub listed_is : (xs : List ℕ) → length xs ≡ 16 → xs ≡ listed xs
listed_is (x0 ∷ x1 ∷ x2 ∷ x3 ∷ x4 ∷ x5 ∷ x6 ∷ x7 ∷ x8 ∷ x9 ∷ x10 ∷ x11 ∷ x12 ∷ x13 ∷ x14 ∷ x15 ∷ []) h = refl
listed_is _ h = absurd (omega arith)

-- the same numbers as a function
abbrev pub tabled : (ℕ → ℕ) → ℕ → List ℕ
tabled f rsp = f 0 ∷ f 1 ∷ f 2 ∷ f 3 ∷ rsp ∷ f 5 ∷ f 6 ∷ f 7 ∷ f 8 ∷ f 9 ∷ f 10 ∷ f 11 ∷ f 12 ∷ f 13 ∷ f 14 ∷ f 15 ∷ []

-- ---- CR2

pub with_cr2_is : (c : Processor) (e : Event) → with_cr2 c e ≡ faulted c e
with_cr2_is c e = pick (is_hardware e.kind && (e.vector == 14))
  where
    pick : (b : Bool) → (if b then record c { cr2 = e.info } else c) ≡ record c { cr2 = if b then e.info else c.cr2 }
    pick true = refl
    pick false = refl

-- ---- the delivery

module _ (code : Code) (c : Processor) (m : Memory) (e : Event) (env : Env) (site : FredSite c e env) where
  frame_address : below (env.base top_tag) 8 ≡ frame_at env
  frame_address = ap (λ z. z % M) (let q : env.base top_tag + M - 64 ≡ env.base top_tag + (M - 64) = omega arith in q)

  frame_is : delivery.fred_frame (faulted c e) e false ≡ map (eval env) fred_frame
  unfolding eval ss_word
  frame_is = ap (λ (f : ℕ → ℕ). f 16 ∷ f 17 ∷ f 18 ∷ f 19 ∷ f 20 ∷ f 21 ∷ f 22 ∷ f 23 ∷ []) (sym site.var)

  frame_open : Open env (fred_block FromKernel).ground.known m.regions → first_event (view m false) true (reverse (addresses (frame_at env) 8)) ≡ None
  frame_open o = no_event m true (reverse (addresses (frame_at env) 8))
      (eight_open m.regions _ _ _ _ _ _ _ _ (places_open env (fred_block FromKernel).ground.known m.regions o 8 (M - 64) refl))

  went : Open env (fred_block FromKernel).ground.known m.regions
      → fred_delivery c m e false ≡ Went (fred_handler c e env) (fred_words env m.words) (frame_at env)
  unfolding fred_delivery
  went o =
      ap (λ (d : Processor). by_top d (frame_top d (new_level d e false))) (with_cr2_is c e)
      ∙ ap (by_top (faulted c e)) site.top
      ∙ ap (by_frame (faulted c e)) frame_address
      ∙ ap (frame_written (faulted c e) (fred_handler c e env) m.words (frame_at env) (delivery.fred_frame (faulted c e) e false)) (frame_open o)
      ∙ ap (λ f. Went (fred_handler c e env) (placed m.words (frame_at env) f) (frame_at env)) frame_is
    where
      by_frame : Processor → ℕ → Outcome
      by_frame d a =
          frame_written d (in_fred_handler d e (new_level d e false) a) m.words a (delivery.fred_frame d e false)
          (first_event (view m false) true (reverse (addresses a 8)))

      by_top : Processor → ℕ → Outcome
      by_top d t = by_frame d (below t 8)

  -- ---- the state that it opens

  module _ (rest : env.rest ≡ untracked (fred_handler c e env)) where
    -- the handler, by whether the event interrupted a task
    abbrev handler_by : Bool → Processor
    handler_by b = record (with_rsp (exchanged_if b (faulted c e)) (frame_at env)) {
      rip = handler_page c.msrs.config + (if b then 0 else 0x100);
      cs = 0x10;
      ss = 0x18;
      cpl = 0;
      flags = 2;
      level = new_level c e false;
      nmi_blocked = (fred_handler c e env).nmi_blocked;
      sti_blocked = false;
    }

    at_page : (o : ℕ) → env.base 1000 ≡ 0 → o < 0x1000 → handler_page c.msrs.config + o ≡ (env.base 1000 + (fred_page + o)) % M
    at_page o z h =
        ap (λ k. handler_page k + o) site.config
        ∙ (let q : 0xffffffff81000000 + o ≡ (env.base 1000 + (0xffffffff81000000 + o)) % M = omega (arith, z) in q)

    regs_are : set c.regs 4 (frame_at env) ≡ tabled env.var (frame_at env)
    regs_are = ap (λ xs. set xs 4 (frame_at env)) (listed_is c.regs site.long) ∙ ap (λ f. tabled f (frame_at env)) (sym site.var)

    area_is : (n : ℕ) → n ≡ env.base gs_tag → n ≡ (env.base gs_tag + 0) % M
    area_is n h = let small = site.area_small in h ∙ (let q : env.base gs_tag ≡ (env.base gs_tag + 0) % M = omega arith in q)

    levels_are : c.msrs.rsp ≡ env.var 63 ∷ env.rest.msrs.rsp
    levels_are = levels_split c.msrs.rsp site.levels ∙ ap (λ f. f 63 ∷ drop 1 c.msrs.rsp) (sym site.var)
        ∙ ap (λ xs. env.var 63 ∷ xs) (dropped (is_user c) ∙ sym (ap (λ (r : Processor). r.msrs.rsp) rest))
      where
        dropped : (b : Bool) → drop 1 c.msrs.rsp ≡ drop 1 (exchanged_if b (faulted c e)).msrs.rsp
        dropped true = refl
        dropped false = refl

    flags_are : 2 ≡ flags_word env.flags
    unfolding flags_word
    flags_are = ap flags_word (sym site.flags)

    nothing : Open env [] m.regions
    nothing l h = let clash : false ≡ true = h in absurd (cc)

    known_by : (b : Bool) → Fits code env (fred_block (entry_by b e))
        → Known env (fred_block FromKernel).ground.known (fred_words env m.words) (from_top 0x40 fred_frame)
    known_by true fit = listed_known env (fred_block FromKernel).ground.known (fred_block FromKernel).ground.own fit.ground.sep fred_frame (M - 64) m.words
        [] (from_top 0x40 fred_frame) refl refl tt refl
    known_by false fit = listed_known env (fred_block FromKernel).ground.known (fred_block FromKernel).ground.own fit.ground.sep fred_frame (M - 64) m.words
        [] (from_top 0x40 fred_frame) refl refl tt refl

    agrees : (b : Bool) → is_user c ≡ b → Fits code env (fred_block (entry_by b e)) → Open env (fred_block FromKernel).ground.known m.regions
        → Agrees env (fred_block (entry_by b e)).ground (fred_block (entry_by b e)).opening (handler_by b) (with_words m (fred_words env m.words))
    unfolding eval eval_flags
    agrees true h fit o = record {
      regs = regs_are;
      rip = at_page 0 fit.ground.zero_base (omega arith);
      flags = flags_are;
      gs = area_is c.msrs.kernel_gs_base (sym (ap (λ b. if b then c.msrs.kernel_gs_base else c.msrs.gs_base) h) ∙ site.area);
      kernel_gs = sym (ap (λ b. other_base b c) h) ∙ ap (λ f. f 60) (sym site.var);
      selector = ap (λ f. f 61) (sym site.var);
      cr2 = tt;
      levels = levels_are;
      blocked = refl;
      rest = sym (ap (λ b. untracked (handler_by b)) h) ∙ sym rest;
      words = known_by true fit;
      known_open = o;
      shared_open = nothing;
    }
    agrees false h fit o = record {
      regs = regs_are;
      rip = at_page 0x100 fit.ground.zero_base (omega arith);
      flags = flags_are;
      gs = area_is c.msrs.gs_base (sym (ap (λ b. if b then c.msrs.kernel_gs_base else c.msrs.gs_base) h) ∙ site.area);
      kernel_gs = sym (ap (λ b. other_base b c) h) ∙ ap (λ f. f 60) (sym site.var);
      selector = ap (λ f. f 61) (sym site.var);
      cr2 = tt;
      levels = levels_are;
      blocked = refl;
      rest = sym (ap (λ b. untracked (handler_by b)) h) ∙ sym rest;
      words = known_by false fit;
      known_open = o;
      shared_open = nothing;
    }

    begin : (b : Bool) → is_user c ≡ b → Fits code env (fred_block (entry_by b e)) → Open env (fred_block (entry_by b e)).ground.known m.regions
        → Fits code env (fred_block (entry_by b e))
        × Agrees env (fred_block (entry_by b e)).ground (fred_block (entry_by b e)).opening (handler_by b) (with_words m (fred_words env m.words))
        × Open env (fred_block FromKernel).ground.known m.regions
    begin true h fit o = (fit, agrees true h fit o, o)
    begin false h fit o = (fit, agrees false h fit o, o)

pub fred_delivers : FredDelivers
fred_delivers code c m e env site rest fit o =
    let r = begin code c m e env site rest (is_user c) refl fit o in
    record {
      went = went code c m e env site r.2;
      at = begins code (fred_block (entry_of c e)) env (fred_handler c e env) (with_words m (fred_words env m.words)) r.0 r.1;
    }

-- ---- the facts of the entry

bit_small : (k : ℕ) (b : Bool) → bit_if k b ≤ 2 ^ k
bit_small k true = omega arith
bit_small k false = omega arith

type_at : (low v t l : ℕ) → low < 2 ^ 32 → v < 2 ^ 8 → t < 16 → ((low + 2 ^ 32 * v + 2 ^ 48 * t + 2 ^ 57) + 2 ^ 60 * l) / 2 ^ 48 % 2 ^ 4 ≡ t
type_at low v t l h k i = omega arith

vector_at : (low v t l : ℕ) → low < 2 ^ 32 → v < 2 ^ 8 → t < 16 → ((low + 2 ^ 32 * v + 2 ^ 48 * t + 2 ^ 57) + 2 ^ 60 * l) / 2 ^ 32 % 2 ^ 8 ≡ v
vector_at low v t l h k i = omega arith

-- whether a small number is another
unlike : (v n : ℕ) → v < 2 ^ 8 → n < 2 ^ 8 → (v == n) ≡ false → ((v + M - n) % M == 0) ≡ false
unlike v n h k q = pick ((v + M - n) % M == 0) refl
  where
    pick : (b : Bool) → ((v + M - n) % M == 0) ≡ b → b ≡ false
    pick true r =
        let zero : (v + M - n) % M ≡ 0 = eqb-true _ 0 r in
        let same : v ≡ n = omega arith in
        let clash : true ≡ false = sym (eq-eqb v n same) ∙ q in absurd (cc)
    pick false r = refl

module _ (c : Processor) (e : Event) (env : Env) (var : env.var ≡ fred_variables c e) (ss_small : c.ss < 2 ^ 16) (small : e.vector < 2 ^ 8) where
  abbrev low : ℕ
  low = c.ss + bit_if 16 c.sti_blocked + bit_if 17 (is_software e.kind) + bit_if 18 (is_nmi_type e.kind)

  low_small : low < 2 ^ 32
  low_small =
      let a : bit_if 16 c.sti_blocked ≤ 2 ^ 16 = bit_small 16 c.sti_blocked in
      let b : bit_if 17 (is_software e.kind) ≤ 2 ^ 17 = bit_small 17 (is_software e.kind) in
      let d : bit_if 18 (is_nmi_type e.kind) ≤ 2 ^ 18 = bit_small 18 (is_nmi_type e.kind) in
      sum_small c.ss (bit_if 16 c.sti_blocked) (bit_if 17 (is_software e.kind)) (bit_if 18 (is_nmi_type e.kind)) ss_small a b d
    where
      sum_small : (w x y z : ℕ) → w < 2 ^ 16 → x ≤ 2 ^ 16 → y ≤ 2 ^ 17 → z ≤ 2 ^ 18 → w + x + y + z < 2 ^ 32
      sum_small w x y z h i j k = omega arith

  abbrev counted : ℕ
  counted = if has_length e.kind then e.length else 0

  word_is : ss_word c e false ≡ (low + 2 ^ 32 * e.vector + 2 ^ 48 * type_number e.kind + 2 ^ 57) + 2 ^ 60 * counted
  unfolding ss_word
  word_is = by_test (low + 2 ^ 32 * e.vector + 2 ^ 48 * type_number e.kind + 2 ^ 57) (has_length e.kind)
    where
      by_test : (x : ℕ) (b : Bool) → (x + 0) + (if b then 2 ^ 60 * e.length else 0) ≡ x + 2 ^ 60 * (if b then e.length else 0)
      by_test x true = omega arith
      by_test x false = omega arith

  type_small : (k : EventType) → type_number k < 16
  unfolding type_number
  type_small External = omega arith
  type_small Nmi = omega arith
  type_small Hardware = omega arith
  type_small SoftInt = omega arith
  type_small Int1 = omega arith
  type_small Int3 = omega arith
  type_small Other = omega arith

  type_is : eval env event_type ≡ type_number e.kind
  unfolding eval
  type_is = ap (λ f. bit_and (f 21 / 2 ^ 48) 15) var ∙ ap (λ w. bit_and (w / 2 ^ 48) 15) word_is ∙ and_mask _ 4
      ∙ type_at low e.vector (type_number e.kind) counted low_small small (type_small e.kind)

  vector_is : eval env event_vector ≡ e.vector
  unfolding eval
  vector_is = ap (λ f. bit_and (f 21 / 2 ^ 32) 255) var ∙ ap (λ w. bit_and (w / 2 ^ 32) 255) word_is ∙ and_mask _ 8
      ∙ vector_at low e.vector (type_number e.kind) counted low_small small (type_small e.kind)

  -- what a fact on the type or the vector comes to
  same_type : (n : ℕ) (k : EventType) → e.kind ≡ k → eval env (says_same event_type n 0).val ≡ number OSame (number OSub (type_number k) n) 0
  unfolding eval
  same_type n k q = ap (λ x. number OSame (number OSub x n) 0) (type_is ∙ ap type_number q)

  same_vector : (n : ℕ) → eval env (says_same event_vector n 0).val ≡ number OSame (number OSub e.vector n) 0
  unfolding eval
  same_vector n = ap (λ x. number OSame (number OSub x n) 0) vector_is

  by_kind : (k : EventType) → e.kind ≡ k → FactsHold env (way_facts (way_by k e.vector))
  unfolding type_number
  by_kind External q = (same_type 7 External q, (same_type 4 External q, tt))
  by_kind Nmi q = (same_type 7 Nmi q, (same_type 4 Nmi q, tt))
  by_kind Hardware q = (same_type 7 Hardware q, (same_type 4 Hardware q, tt))
  by_kind SoftInt q = pick (e.vector == 3) refl
    where
      pick : (b : Bool) → (e.vector == 3) ≡ b → FactsHold env (way_facts (if b then ByInt3 else ByIntN))
      pick true r = (
        same_type 7 SoftInt q,
        (
          same_type 4 SoftInt q,
          (same_vector 3 ∙ ap (λ x. number OSame (number OSub x 3) 0) (eqb-true e.vector 3 r), tt),
        ),
      )
      pick false r = (
        same_type 7 SoftInt q,
        (
          same_type 4 SoftInt q,
          (same_vector 3 ∙ ap (λ b. if b then 1 else 0) (unlike e.vector 3 small (omega arith) r), tt),
        ),
      )
  by_kind Int1 q = (same_type 7 Int1 q, (same_type 4 Int1 q, tt))
  by_kind Int3 q = (same_type 7 Int3 q, (same_type 4 Int3 q, tt))
  by_kind Other q = (same_type 7 Other q, tt)

  by_origin : (b : Bool) → FactsHold env (fred_block (entry_by b e)).ground.facts
  by_origin true = by_kind e.kind refl
  by_origin false = tt

pub fred_facts : FredFacts
fred_facts c e env var h k = by_origin c e env var h k (is_user c)

-- ---- what the frame tells

-- a bit as a number
abbrev one_if : Bool → ℕ
one_if b = if b then 1 else 0

bit_is : (k : ℕ) (b : Bool) → bit_if k b ≡ one_if b * 2 ^ k
bit_is k true = omega arith
bit_is k false = omega arith

one_small : (b : Bool) → one_if b < 2
one_small true = omega arith
one_small false = omega arith

one_is : (b : Bool) → (one_if b == 1) ≡ b
one_is true = refl
one_is false = refl

-- SS's word by its parts
abbrev parts : (w x y z v t l : ℕ) → ℕ
parts w x y z v t l = (w + x * 2 ^ 16 + y * 2 ^ 17 + z * 2 ^ 18 + 2 ^ 32 * v + 2 ^ 48 * t + 2 ^ 57) + 2 ^ 60 * l

ss_part : (w x y z v t l : ℕ) → w < 2 ^ 16 → parts w x y z v t l % 2 ^ 16 ≡ w
ss_part w x y z v t l h = omega arith

sti_part : (w x y z v t l : ℕ) → w < 2 ^ 16 → x < 2 → parts w x y z v t l / 2 ^ 16 % 2 ≡ x
sti_part w x y z v t l h i = omega arith

nmi_part : (w x y z v t l : ℕ) → w < 2 ^ 16 → x < 2 → y < 2 → z < 2 → parts w x y z v t l / 2 ^ 18 % 2 ≡ z
nmi_part w x y z v t l h i j k = omega arith

level_part : (w l : ℕ) → w < 2 ^ 16 → l < 4 → (w + 2 ^ 16 * l) / 2 ^ 16 % 4 ≡ l
level_part w l h i = omega arith

cs_part : (w l : ℕ) → w < 2 ^ 16 → (w + 2 ^ 16 * l) % 2 ^ 16 ≡ w
cs_part w l h = omega arith

pub frames_tell : FramesTell
unfolding eval
frames_tell c e env var cs_small level_small ss_small small =
    let x : ℕ = one_if c.sti_blocked in
    let y : ℕ = one_if (is_software e.kind) in
    let z : ℕ = one_if (is_nmi_type e.kind) in
    let l : ℕ = counted c e env var ss_small small in
    let ss : env.var 21 ≡ parts c.ss x y z e.vector (type_number e.kind) l
    = ap (λ f. f 21) var ∙ word_is c e env var ss_small small
    ∙ (λ i. (c.ss + bit_is 16 c.sti_blocked i + bit_is 17 (is_software e.kind) i + bit_is 18 (is_nmi_type e.kind) i + 2 ^ 32 * e.vector
    + 2 ^ 48 * type_number e.kind + 2 ^ 57) + 2 ^ 60 * l) in
    let cs : env.var 18 ≡ c.cs + 2 ^ 16 * c.level = ap (λ f. f 18) var in record {
      vector = vector_is c e env var ss_small small;
      cs = ap (λ n. n % 2 ^ 16) cs ∙ cs_part c.cs c.level cs_small;
      level = ap (λ n. n / 2 ^ 16 % 4) cs ∙ level_part c.cs c.level cs_small level_small;
      ss = ap (λ n. n % 2 ^ 16) ss ∙ ss_part c.ss x y z e.vector (type_number e.kind) l ss_small;
      sti = ap (λ n. n / 2 ^ 16 % 2 == 1) ss ∙ ap (λ n. n == 1) (sti_part c.ss x y z e.vector (type_number e.kind) l ss_small (one_small c.sti_blocked))
          ∙ one_is c.sti_blocked;
      nmi = ap (λ n. n / 2 ^ 18 % 2 == 1) ss
          ∙ ap (λ n. n == 1) (nmi_part c.ss x y z e.vector (type_number e.kind) l ss_small (one_small c.sti_blocked) (one_small (is_software e.kind))
          (one_small (is_nmi_type e.kind))) ∙ one_is (is_nmi_type e.kind);
    }
