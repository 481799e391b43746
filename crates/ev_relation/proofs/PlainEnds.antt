-- Where the block of a spot in an item's code ends no mark looks at memory, but for those that end before the load of `call`'s state and before its exchange.
use Rattle.std.proofs.Common.{◌≡◌, ℕ, zero, suc, ◌+◌, ◌%◌, ◌<◌, Bool, true, false, List, [], ◌∷◌, Option, Some, refl, sym, ap, ◌∙◌, arith}
use Rattle.std.specs.Prelude.{slice_get}
use Rattle.ev_isa.specs.Spelling.{spelling, four_bytes}
use Rattle.ev_isa.specs.Word.{NatMap}
use Rattle.ev_isa.specs.declared.mode.Mode.{Mode}
use Rattle.ev_body.specs.declared.key.Key.{Key}
use Rattle.ev_body.specs.declared.item.Item.{Item}
use Rattle.ev_body.specs.declared.item.Item.TheVariants.{Call, Kick, Wait, Take, Finish}
use Rattle.ev_body.specs.declared.body.Body.{Body}
use Rattle.ev_body.specs.declared.image.Image.{Image}
use Rattle.ev_asm.specs.Assembly.{size, total_size}
use Rattle.ev_listing.specs.Expansion.{expansion, item_address, function_address}
use Rattle.ev_listing.specs.Marks.{stmts_of}
use Rattle.ev_state.specs.Processor.{Processor}
use Rattle.ev_mem.specs.Memory.{Memory}
use Rattle.ev_abstract.specs.Context.{CallId, BodyContext}
use Rattle.ev_abstract.specs.Run.{item_at}
use Rattle.ev_concrete.specs.ConcreteRun.{marks_of, mark_at}
use Rattle.ev_law.specs.Legal.{runs_calls}
use Rattle.ev_symbolic.specs.Value.{M}
use Rattle.ev_symbolic.specs.State.{SS, Block}
use Rattle.ev_symbolic.specs.Run.{brun}
use Rattle.ev_symbolic.specs.Agrees.{Env, addr, At}
use Rattle.ev_symbolic.specs.Names.{item_tag}
use Rattle.ev_symbolic.specs.Openings.{at_base}
use Rattle.ev_symbolic.proofs.Blocks.{at_end}
use Rattle.ev_blocks.specs.Shapes.{Layout, Origin}
use Rattle.ev_blocks.specs.Calls.{CallSpot, AtRecord, BehindWait, BehindBusy, AtFill, AtHead, AtLink, BehindFailure, BehindCall, AtTake, BehindTake, AtTurn, BehindTurn, AtTaken, AtFinish, BehindNext, AtOffset, call_end, take_end}
use Rattle.ev_blocks.specs.Items.{BodySpot, AtTable, AtJump, AtItem, AtNumber, AtNumbers, AtKick, AtUserWord, AtPageWord, BehindSti, BehindKick, InCall, kick_end, body_block}
use Rattle.ev_paths.proofs.BodyEnds.{body_ends}
use Rattle.ev_paths.proofs.CallEnds.{call_ends}
use Rattle.ev_table.specs.Table.{code_table, places_of, item_lines, reads_no_memory}
use Rattle.ev_relation.specs.Filling.{Filling}
use Rattle.ev_relation.specs.Active.{number_of, numbers_of, address_local, page_local, address_of_item, item_place, HasPlace, InCodeOf, IsByHand, BehindExchange, BehindOldLink, AtFunction, BehindArgument, BehindCaller, BehindAddress, BehindFinish, BehindComparison, AtQuiet, InCallSpot, InSpot}
use Rattle.ev_relation.specs.Relation.{IsContext}
use Rattle.ev_relation.proofs.Facts.{Facts}
use Rattle.ev_relation.proofs.Spots.{is_in_code}
use Rattle.ev_relation.proofs.Depth.{body_at}
use Rattle.ev_relation.proofs.ItemMarks.{plain_stands, PlainIn, first_plain, number_plain, numbers_plain, address_plain, page_plain}

-- the spots before the two
abbrev pub ends_at_call : BodySpot → Bool
ends_at_call (InCall (AtRecord site)) = true
ends_at_call (InCall (AtLink address func to is_stale)) = true
ends_at_call s = false

none_to_run : (ks : List CallId) → runs_calls ks ≡ false → ks ≡ []
none_to_run [] h = refl
none_to_run (k ∷ ks) h = let clash : true ≡ false = h in absurd (cc)

module _ (mode : Mode) (image : Image) (facts : Facts mode image) (e : Env) (c : Processor) (b : BodyContext) where
  -- the mark of its next instruction looks at no memory
  abbrev pub IsPlain : Type 0
  IsPlain = reads_no_memory (mark_at (marks_of mode image) c.rip) ≡ true

  -- so many bytes behind the beginning of its item
  abbrev IsBehind : ℕ → Type 0
  IsBehind o = c.rip ≡ (e.base item_tag + o) % M

  -- in item n of its body, which begins at a
  in_item : (n a o : ℕ) (item : Item) → item_at (slice_get image.bodies b.body) n ≡ Some item → a ≡ item_place mode image b.body n → o < 0x100
      → c.rip ≡ (a + o) % M → ((key : Key) → PlainIn mode b.body key (function_address mode image) n o item) → IsPlain
  in_item n a o item h at small rip plain =
      let found = body_at (slice_get image.bodies b.body) n item h in
      let there : ℕ = item_address mode b.body found.0 n in
      let base : a ≡ there = at ∙ ap (address_of_item mode b.body n) found.1 in
      let range = (facts.item_range b.body n found.0 found.1).1 in
      let x = plain_stands (code_table mode image) (places_of mode image) there o (item_lines mode image b.body found.0 n item)
      (facts.items b.body n found.0 item found.1 found.2) (plain found.0.key) in
      let is : c.rip ≡ there + o = rip ∙ ap (λ t. (t + o) % M) base ∙ (let q : (there + o) % M ≡ there + o = omega (arith, range, small) in q) in
      ap reads_no_memory (facts.marks c.rip x.0 (ap (code_table mode image) is ∙ x.1)) ∙ x.2

  -- where the context's item begins, so many bytes behind its own
  at_next : IsContext mode image b → (o : ℕ) → e.base item_tag + o ≡ item_place mode image b.body b.place → IsBehind o → IsPlain
  at_next ctx o place rip =
      let a : ℕ = e.base item_tag + o in
      in_item b.place a 0 ctx.item ctx.is place (omega arith) (rip ∙ ap (λ t. t % M) (let q : a ≡ a + 0 = omega arith in q))
      (λ key. first_plain mode b.body key (function_address mode image) b.place ctx.item)

  -- in the context's own item
  at_own : IsContext mode image b → HasPlace mode image e b → IsBehind 0 → IsPlain
  at_own ctx place rip = at_next ctx 0 ((let q : e.base item_tag + 0 ≡ e.base item_tag = omega arith in q) ∙ place) rip

  -- the item behind item n
  follows : (n long : ℕ) (item : Item) → InCodeOf mode image e b n item → b.place ≡ suc n
      → ((body : Body) → total_size (stmts_of (item_lines mode image b.body body n item)) ≡ long)
      → e.base item_tag + long ≡ item_place mode image b.body b.place
  follows n long item code next total =
      let found = body_at (slice_get image.bodies b.body) n item code.0 in
      ap (λ t. t + long) (code.1 ∙ ap (address_of_item mode b.body n) found.1)
      ∙ ap (λ t. item_address mode b.body found.0 n + t) (sym (total found.0))
      ∙ sym (facts.follow b.body n found.0 item found.2)
      ∙ sym (ap (address_of_item mode b.body (suc n)) found.1)
      ∙ ap (item_place mode image b.body) (sym next)

  behind_call : IsContext mode image b → (site to func s n : ℕ) → InCodeOf mode image e b n (Call site to func s) → b.place ≡ suc n → IsBehind call_end
      → IsPlain
  unfolding expansion size spelling four_bytes
  behind_call ctx site to func s n code next rip = at_next ctx call_end (follows n call_end (Call site to func s) code next (λ body. refl)) rip

  -- ---- made by hand

  by_hand : (o : Origin) (w : Processor) (words : NatMap ℕ) (offset edges : ℕ) → IsByHand mode image o e w b words offset edges → IsBehind offset → IsPlain
  unfolding expansion size spelling four_bytes
  by_hand o w words offset edges h rip = by_case h
    where
      is_at : (n : ℕ) → offset ≡ n → IsBehind n
      is_at n q = rip ∙ ap (λ t. (e.base item_tag + t) % M) q

      by_case : IsByHand mode image o e w b words offset edges → IsPlain
      by_case (BehindExchange q x s is_first y z t) =
          in_item y.n (e.base item_tag) 163 (Call y.site y.to y.func s) y.code.0 y.code.1 (omega arith) (is_at 163 q) (λ key. refl)
      by_case (BehindOldLink n q x y z t u) = in_item z.n (e.base item_tag) 56 Take z.code.0 z.code.1 (omega arith) (is_at 56 q) (λ key. refl)
      by_case (AtFunction q x y z t u) = in_item z.n (e.base item_tag) 87 Take z.code.0 z.code.1 (omega arith) (is_at 87 q) (λ key. refl)
      by_case (BehindArgument q x y z t u) = in_item z.n (e.base item_tag) 94 Take z.code.0 z.code.1 (omega arith) (is_at 94 q) (λ key. refl)
      by_case (BehindCaller q x y z t u) = in_item z.n (e.base item_tag) 101 Take z.code.0 z.code.1 (omega arith) (is_at 101 q) (λ key. refl)
      by_case (BehindAddress q x y z t u v) = in_item z.n (e.base item_tag) 108 Take z.code.0 z.code.1 (omega arith) (is_at 108 q) (λ key. refl)
      by_case (BehindFinish q x y z t) = in_item z.n (e.base item_tag) 27 Finish z.code.0 z.code.1 (omega arith) (is_at 27 q) (λ key. refl)
      by_case (BehindComparison q x to sends y z) =
          in_item b.place (e.base item_tag) 7 (Kick to y.s) y.item y.place (omega arith) (is_at 7 q) (λ key. refl)
      by_case (AtQuiet q x to y) = in_item b.place (e.base item_tag) 50 (Kick to y.s) y.item y.place (omega arith) (is_at 50 q) (λ key. refl)

  -- ---- at the end of a spot's block

  module _ (fred : Bool) (layout : Layout) (o : Origin) (k : ℕ) (w : Processor) (g : Option Filling) (m : Memory) (ctx : IsContext mode image b) where
    -- where it ends
    ends : (B : Block) → At (code_table mode image) B k e c m → k ≡ B.steps → (z : SS) → brun B B.steps ≡ Some z → (n : ℕ) → z.rip ≡ at_base item_tag n
        → IsBehind n
    ends B at last z runs n rip = (at_end (code_table mode image) B k z (ap (brun B) last ∙ runs) e c m at).rip ∙ ap (addr e) rip

    -- before an instruction of the context's item
    own : (n : ℕ) (item : Item) → HasPlace mode image e b → item_at (slice_get image.bodies b.body) b.place ≡ Some item → n < 0x100 → IsBehind n
        → ((key : Key) → PlainIn mode b.body key (function_address mode image) b.place n item) → IsPlain
    own n item place is small rip plain = in_item b.place (e.base item_tag) n item is place small rip plain

    call_plain : (s : CallSpot) → At (code_table mode image) (body_block fred layout (InCall s)) k e c m → k ≡ (body_block fred layout (InCall s)).steps
        → ends_at_call (InCall s) ≡ false → InCallSpot mode image o s e w b g m.words → IsPlain
    unfolding expansion size spelling four_bytes
    call_plain (AtRecord site) at last other h = let clash : true ≡ false = other in absurd (cc)
    call_plain (AtLink address func to is_stale) at last other h = let clash : true ≡ false = other in absurd (cc)
    call_plain (BehindWait true) at last other h =
        let z = (call_ends fred layout).wait true in
        let wait = h.1 in
        at_next ctx 36 (follows wait.n 36 (Wait wait.site) wait.code wait.next (λ body. refl))
        (ends (body_block fred layout (InCall (BehindWait true))) at last z.z z.runs 36 (ap (λ (t : SS). t.rip) z.is))
    call_plain (BehindWait false) at last other h =
        let z = (call_ends fred layout).wait false in
        at_own ctx h.1 (ends (body_block fred layout (InCall (BehindWait false))) at last z.z z.runs 0 (ap (λ (t : SS). t.rip) z.is))
    call_plain (BehindBusy s) at last other h =
        let z = (call_ends fred layout).busy s in
        behind_call ctx h.site h.to h.func s h.n h.code h.next
        (ends (body_block fred layout (InCall (BehindBusy s))) at last z.z z.runs call_end (ap (λ (t : SS). t.rip) z.is))
    call_plain (AtFill address func to s) at last other h =
        let z = (call_ends fred layout).fills address func to s h.2.is_local.0 h.2.is_local.1 in
        own 140 (Call h.2.site to func s) h.1 h.2.item (omega arith)
        (ends (body_block fred layout (InCall (AtFill address func to s))) at last z.z z.runs 140 z.continues.rip) (λ key. refl)
    call_plain (AtHead address func to) at last other h =
        own 140 (Call h.2.fills.site to func h.2.s) h.1 h.2.fills.item (omega arith)
        (ends (body_block fred layout (InCall (AtHead address func to))) at last _ refl 140 refl) (λ key. refl)
    call_plain (BehindFailure address func to) at last other h =
        own 163 (Call h.2.fills.site to func h.2.s) h.1 h.2.fills.item (omega arith)
        (ends (body_block fred layout (InCall (BehindFailure address func to))) at last _ refl 163 refl) (λ key. refl)
    call_plain (BehindCall s is_first) at last other h =
        let z = (call_ends fred layout).answers s is_first h.0.is_local.0 h.0.is_local.1 in
        behind_call ctx h.0.site h.0.to h.0.func s h.0.n h.0.code h.0.next
        (ends (body_block fred layout (InCall (BehindCall s is_first))) at last z.z z.runs call_end (ap (λ (t : SS). t.rip) z.is))
    call_plain AtTake at last other h =
        let z = (call_ends fred layout).take in
        own 19 Take h.1 h.2 (omega arith) (ends (body_block fred layout (InCall AtTake)) at last z.z z.runs 19 (ap (λ (t : SS). t.rip) z.is)) (λ key. refl)
    call_plain (BehindTake left) at last other h =
        let z = (call_ends fred layout).behind_take left in
        in_item h.1.n (e.base item_tag) 36 Take h.1.code.0 h.1.code.1 (omega arith)
        (ends (body_block fred layout (InCall (BehindTake left))) at last z.z z.runs 36 (ap (λ (t : SS). t.rip) z.is)) (λ key. refl)
    call_plain (AtTurn zero) at last other h =
        let z = (call_ends fred layout).turn zero in
        in_item h.1.n (e.base item_tag) 74 Take h.1.code.0 h.1.code.1 (omega arith)
        (ends (body_block fred layout (InCall (AtTurn zero))) at last z.z z.runs 74 (ap (λ (t : SS). t.rip) z.is)) (λ key. refl)
    call_plain (AtTurn (suc left)) at last other h =
        let z = (call_ends fred layout).turn (suc left) in
        in_item h.1.n (e.base item_tag) 49 Take h.1.code.0 h.1.code.1 (omega arith)
        (ends (body_block fred layout (InCall (AtTurn (suc left)))) at last z.z z.runs 49 (ap (λ (t : SS). t.rip) z.is)) (λ key. refl)
    call_plain (BehindTurn left) at last other h =
        let z = (call_ends fred layout).behind_turn left in
        in_item h.1.n (e.base item_tag) 36 Take h.1.code.0 h.1.code.1 (omega arith)
        (ends (body_block fred layout (InCall (BehindTurn left))) at last z.z z.runs 36 (ap (λ (t : SS). t.rip) z.is)) (λ key. refl)
    call_plain (AtTaken true) at last other h =
        let z = (call_ends fred layout).taken true in
        in_item h.1.n (e.base item_tag) 87 Take h.1.code.0 h.1.code.1 (omega arith)
        (ends (body_block fred layout (InCall (AtTaken true))) at last z.z z.runs 87 (ap (λ (t : SS). t.rip) z.is)) (λ key. refl)
    call_plain (AtTaken false) at last other h =
        let z = (call_ends fred layout).taken false in
        at_next ctx take_end (follows h.1.n take_end Take h.1.code (h.1.none (none_to_run b.calls h.3)) (λ body. refl))
        (ends (body_block fred layout (InCall (AtTaken false))) at last z.z z.runs take_end (ap (λ (t : SS). t.rip) z.is))
    call_plain AtFinish at last other h =
        let z = (call_ends fred layout).finish in
        own 3 Finish h.1 h.2 (omega arith) (ends (body_block fred layout (InCall AtFinish)) at last z.z z.runs 3 (ap (λ (t : SS). t.rip) z.is)) (λ key. refl)
    call_plain BehindNext at last other h =
        let z = (call_ends fred layout).behind_next in
        own 20 Finish h.place h.item (omega arith) (ends (body_block fred layout (InCall BehindNext)) at last z.z z.runs 20 (ap (λ (t : SS). t.rip) z.is))
        (λ key. refl)
    call_plain (AtOffset offset edges) at last other h =
        by_hand o w m.words offset edges h (ends (body_block fred layout (InCall (AtOffset offset edges))) at last _ refl offset refl)

    pub spot_plain : (s : BodySpot) → At (code_table mode image) (body_block fred layout s) k e c m → k ≡ (body_block fred layout s).steps
        → is_in_code s ≡ true → ends_at_call s ≡ false → InSpot mode image o s e w b g m.words → IsPlain
    unfolding expansion size spelling four_bytes
    spot_plain AtItem at last i other h = at_own ctx h.1 (ends (body_block fred layout AtItem) at last _ refl 0 refl)
    spot_plain (AtNumber n) at last i other h =
        let z = (body_ends fred layout).number n in
        own 10 ctx.item h.1 ctx.is (omega arith) (ends (body_block fred layout (AtNumber n)) at last z.z z.runs 10 (ap (λ (t : SS). t.rip) z.is))
        (λ key. number_plain mode b.body key (function_address mode image) b.place ctx.item n (sym (ap number_of ctx.is) ∙ h.2))
    spot_plain (AtNumbers rcx rax rdx) at last i other h =
        let z = (body_ends fred layout).numbers rcx rax rdx in
        own 30 ctx.item h.1 ctx.is (omega arith) (ends (body_block fred layout (AtNumbers rcx rax rdx)) at last z.z z.runs 30 (ap (λ (t : SS). t.rip) z.is))
        (λ key. numbers_plain mode b.body key (function_address mode image) b.place ctx.item (rcx, rax, rdx) (sym (ap numbers_of ctx.is) ∙ h.2))
    spot_plain AtUserWord at last i other h =
        let z = (body_ends fred layout).user_word in
        own 16 ctx.item h.1 ctx.is (omega arith) (ends (body_block fred layout AtUserWord) at last z.z z.runs 16 (ap (λ (t : SS). t.rip) z.is))
        (λ key. address_plain mode b.body key (function_address mode image) b.place ctx.item h.2.register (sym (ap address_local ctx.is) ∙ h.2.is))
    spot_plain (AtPageWord is_page) at last i other h =
        let z = (body_ends fred layout).page_word is_page in
        own 60 ctx.item h.1 ctx.is (omega arith) (ends (body_block fred layout (AtPageWord is_page)) at last z.z z.runs 60 (ap (λ (t : SS). t.rip) z.is))
        (λ key. page_plain mode b.body key (function_address mode image) b.place ctx.item h.2.register (sym (ap page_local ctx.is) ∙ h.2.is))
    spot_plain BehindSti at last i other h =
        let z = (body_ends fred layout).behind_sti in
        at_next ctx 2 h.1 (ends (body_block fred layout BehindSti) at last z.z z.runs 2 (ap (λ (t : SS). t.rip) z.is))
    spot_plain (InCall s) at last i other h = call_plain s at last other h
    spot_plain AtTable at last i other h = let clash : false ≡ true = i in absurd (cc)
    spot_plain AtJump at last i other h = let clash : false ≡ true = i in absurd (cc)
    spot_plain (AtKick to) at last i other h =
        let z = (body_ends fred layout).kick to in
        own 43 (Kick to h.s) h.place h.item (omega arith) (ends (body_block fred layout (AtKick to)) at last z.z z.runs 43 (ap (λ (t : SS). t.rip) z.is))
        (λ key. refl)
    spot_plain BehindKick at last i other h =
        let z = (body_ends fred layout).behind_kick in
        at_next ctx kick_end h.1 (ends (body_block fred layout BehindKick) at last z.z z.runs kick_end (ap (λ (t : SS). t.rip) z.is))
