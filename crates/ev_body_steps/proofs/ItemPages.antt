-- Items of a page: they write the word of its presence, or, where the address is in no page, the word behind those of pages, which nobody reads.
use Rattle.std.proofs.Common.{◌≡◌, ℕ, suc, ◌+◌, ◌-◌, ◌*◌, ◌/◌, ◌^◌, ◌<◌, ◌≤◌, Bool, true, false, ◌&&◌, [], Some, None, refl, sym, ap, ◌∙◌, subst, arith}
use Rattle.std.specs.Prelude.{ℤ, pos, slice_get, nat_le, nat_lt, if◌then◌else◌}
use Rattle.std.proofs.lemmas.Bool.{leb-true, ltb-true, ltb-false, le-leb, lt-ltb}
use Rattle.ev_isa.specs.Word.{NatMap, put_at, displaced, sign_extend}
use Rattle.ev_isa.specs.Flags.{Flags}
use Rattle.ev_isa.specs.Pages.{Text, Page, Lower, Upper, text_base, page_base, place_of}
use Rattle.ev_isa.specs.Spelling.{spelling, four_bytes}
use Rattle.ev_isa.specs.declared.instruction.Ins.{Ins}
use Rattle.ev_isa.specs.declared.instruction.Ins.TheVariants.{StoreImm}
use Rattle.ev_isa.specs.declared.mode.Mode.{Mode}
use Rattle.ev_body.specs.declared.item.Item.{Item}
use Rattle.ev_body.specs.declared.item.Item.TheVariants.{Map, Unmap}
use Rattle.ev_body.specs.declared.body.Body.{Body}
use Rattle.ev_body.specs.declared.image.Image.{Image}
use Rattle.ev_body.specs.WellFormed.{IsImage}
use Rattle.ev_mem.specs.Memory.{page_map}
use Rattle.ev_state.specs.Processor.{Processor, register}
use Rattle.ev_abstract.specs.Context.{BodyContext, local}
use Rattle.ev_abstract.specs.ItemMeaning.{item_step, with_context, with_page}
use Rattle.ev_abstract.specs.Machine.{Machine, processor}
use Rattle.ev_abstract.specs.Machine as abstract
use Rattle.ev_abstract.specs.Run.{item_at}
use Rattle.ev_concrete.specs.ConcreteRun.{System, is_return}
use Rattle.ev_concrete.specs.Shown.{shown_always}
use Rattle.ev_built.specs.Built.{IsBuilt}
use Rattle.ev_symbolic.specs.Agrees.{IsOpen}
use Rattle.ev_symbolic.specs.Single.{onward, Leads, Singles}
use Rattle.ev_symbolic.proofs.Single.{singles}
use Rattle.ev_relation.specs.Named.{PageBit}
use Rattle.ev_relation.specs.Relation.{Stands}
use Rattle.ev_relation.proofs.Facts.{Facts}
use Rattle.ev_body_steps.proofs.ItemCells.{before, visible_of, bytes_of}
use Rattle.ev_body_steps.proofs.ItemAddresses.{page_word_open, displaced_zero}
use Rattle.ev_body_steps.proofs.ItemWords.{word_of}
use Rattle.ev_body_steps.proofs.ItemWords as words
use Rattle.ev_body_steps.proofs.ItemVisible.{goes_onward}
use Rattle.ev_body_steps.proofs.ItemVisible as visible
use Rattle.ev_body_steps.proofs.KernelStep as step
use Rattle.ev_body_steps.proofs.ItemSteps as steps
use Rattle.ev_body_steps.proofs.ItemUser as user
use Rattle.ev_body_steps.proofs.ItemPage.{number_at, page_index}

-- ---- which addresses are in pages

-- two that aren't both so
not_both : (a b : Bool) → (a ≡ true → b ≡ true → ⊥) → (a && b) ≡ false
not_both true true h = absurd (h refl refl)
not_both true false h = refl
not_both false b h = refl

-- what `map` and `unmap` make of the machine, by the number of the page
abbrev paged : Machine → Bool → ℕ → Bool → Machine
paged m true i t = record m { present = put_at m.present i t }
paged m false i t = m

-- an address whose number is below 256 is one of a page
in_page : (n : ℕ) → n < 2 ^ 64 → number_at n < 256 → place_of n ≡ Page (number_at n)
unfolding place_of
in_page n small l =
    let from : page_base ≤ n = omega arith in
    let to : n < page_base + 0x1000 * 256 = omega arith in
    ap (λ t. if t then Text else (if nat_le page_base n && nat_lt n (page_base + 0x1000 * 256) then Page ((n - page_base) / 0x1000)
    else (if nat_lt n (2 ^ 63) then Lower else Upper)))
    (not_both (nat_le text_base n) (nat_lt n (text_base + 0x10000)) (λ i j. let k = ltb-true n (text_base + 0x10000) j in let z : ⊥ = omega arith in z))
    ∙ ap (λ t. if t && nat_lt n (page_base + 0x1000 * 256) then Page ((n - page_base) / 0x1000) else (if nat_lt n (2 ^ 63) then Lower else Upper))
    (le-leb page_base n from)
    ∙ ap (λ t. if t then Page ((n - page_base) / 0x1000) else (if nat_lt n (2 ^ 63) then Lower else Upper)) (lt-ltb n (page_base + 0x1000 * 256) to)
    ∙ ap Page (let e : (n - page_base) / 0x1000 ≡ number_at n = omega arith in e)

-- and every other is in none
in_none : (m : Machine) (t : Bool) (n : ℕ) → n < 2 ^ 64 → 256 ≤ number_at n → with_page m (place_of n) t ≡ m
unfolding place_of
in_none m t n small l =
    ap (λ b. with_page m (if nat_le text_base n && nat_lt n (text_base + 0x10000) then Text else (if b then Page ((n - page_base) / 0x1000)
    else (if nat_lt n (2 ^ 63) then Lower else Upper))) t)
    (not_both (nat_le page_base n) (nat_lt n (page_base + 0x1000 * 256)) (λ i j.
    let from = leb-true page_base n i in let to = ltb-true n (page_base + 0x1000 * 256) j in let z : ⊥ = omega arith in z))
    ∙ other (nat_le text_base n && nat_lt n (text_base + 0x10000)) (nat_lt n (2 ^ 63))
  where
    other : (a b : Bool) → with_page m (if a then Text else (if b then Lower else Upper)) t ≡ m
    other true b = refl
    other false true = refl
    other false false = refl

becomes : (m : Machine) (t : Bool) (n : ℕ) → n < 2 ^ 64 → (is_page : Bool) → nat_lt (number_at n) 256 ≡ is_page
    → with_page m (place_of n) t ≡ paged m is_page (number_at n) t
becomes m t n small true q = ap (λ y. with_page m y t) (in_page n small (ltb-true (number_at n) 256 q))
becomes m t n small false q = in_none m t n small (ltb-false (number_at n) 256 q)

module _ (mode : Mode) (image : Image) (built : IsBuilt image) (good : IsImage image) (facts : Facts mode image)
    (left : NatMap ℕ) (s : System) (m : Machine) (h : Stands mode image left s m) (p : ℕ) (hp : p < image.processors)
    (o : step.Top mode image built good facts left s m h p hp) (body' : Body) (is : slice_get image.bodies o.b.body ≡ Some body')
    (ss : ℕ) (extra v : ℕ → ℕ) (f : Flags)
    (a : visible.AtVisible mode image built good facts left s m h p hp o body' is ss extra v f) where
  abbrev c : Processor
  c = s.cpus p

  abbrev b : BodyContext
  b = o.b

  abbrev x : abstract.Processor
  x = processor m p

  abbrev next : ℕ
  next = visible.at mode image built good facts left s m h p hp o body' is (suc b.place)

  abbrev Does : Type 0
  Does = visible.Does mode image built good facts left s m h p hp o body' is ss extra v f a

  abbrev one : Singles c s.memory next
  one = singles c s.memory next

  -- RAX is the address of the word, by the local that the item names
  module _ (off : a.offset ≡ 60) (is_page : Bool) (q : ℕ) (asked : v 0 ≡ local b q) (told : nat_lt (number_at (v 0)) 256 ≡ is_page)
      (rax : register c 0 ≡ page_map + 8 * page_index is_page (v 0)) where
    abbrev index : ℕ
    index = page_index is_page (v 0)

    within : (t : Bool) → nat_lt (number_at (v 0)) 256 ≡ t → page_index t (v 0) ≤ 256
    unfolding page_index
    within true q = let l = ltb-true (number_at (v 0)) 256 q in omega arith
    within false q = omega arith

    low : index ≤ 256
    low = within is_page told

    place_is : displaced (register c 0) (pos 0) ≡ page_map + 8 * index
    place_is = ap (λ n. displaced n (pos 0)) rax ∙ displaced_zero (page_map + 8 * index) (let l = low in omega arith)

    opened : IsOpen s.memory.regions (page_map + 8 * index)
    opened = page_word_open image s.memory.regions h.regions_are index low

    small : v 0 < 2 ^ 64
    small = subst (λ n. n < 2 ^ 64) (sym asked) (user.local_small mode image built good facts left s m h p hp o body' is ss extra v f a q)

    makes : (t is_page : Bool) → nat_lt (number_at (v 0)) 256 ≡ is_page
        → words.Makes mode image built good facts left s m h p hp o (paged m is_page (number_at (v 0)) t)
        (put_at s.memory.words (page_map + 8 * page_index is_page (v 0)) (word_of t)) x.tasks x.slots x.bodies
    unfolding page_index
    makes t true q = words.makes_page mode image built good facts left s m h p hp o (number_at (v 0)) t (ltb-true (number_at (v 0)) 256 q)
    makes t false q = words.makes_behind_pages mode image built good facts left s m h p hp o (word_of t)

    store : (item : Item) → item_at (Some body') b.place ≡ Some item → (t : Bool) (k : ℤ) → visible_of item ≡ Some (StoreImm 0 (pos 0) k)
        → sign_extend k ≡ word_of t → a.offset ≡ bytes_of (before item)
        → item_step image m p b item ≡ (
          with_context (with_page m (place_of (local b q)) t) p
              (steps.behind mode image built good facts left s m h p hp o body' is ss extra v f a None (suc b.place) None),
          [],
        ) → Does
    unfolding is_return shown_always
    store item hi t k seen value offset meaning =
        let ins : Ins = StoreImm 0 (pos 0) k in
        steps.does mode image built good facts left s m h p hp o body' is ss extra v f a item hi ins seen offset (omega arith) refl
        None tt a.flags None (tt, refl) (Some (PageBit index, word_of t)) (words.page_free mode image built good facts left s m h p hp o index low)
        (λ i. goes_onward c s.memory ins a.flags _ next _ a.state.flags
        (subst (λ n. Leads c s.memory ins (onward c c.regs next) (put_at s.memory.words (page_map + 8 * index) n)) value
        (one.stores_number 0 (pos 0) k (page_map + 8 * index) i place_is opened)))
        (paged m is_page (number_at (v 0)) t) x.slots (makes t is_page told) []
        (meaning ∙ ap (λ y. (
          with_context y p
              (steps.behind mode image built good facts left s m h p hp o body' is ss extra v f a None (suc b.place) None),
          [],
        ))
        (ap (λ n. with_page m (place_of n) t) (sym asked) ∙ becomes m t (v 0) small is_page told)) refl

    pub by_map : item_at (Some body') b.place ≡ Some (Map q) → Does
    unfolding item_step visible_of before spelling four_bytes
    by_map hi = store (Map q) hi true (pos 1) refl refl off refl

    pub by_unmap : item_at (Some body') b.place ≡ Some (Unmap q) → Does
    unfolding item_step visible_of before spelling four_bytes
    by_unmap hi = store (Unmap q) hi false (pos 0) refl refl off refl
