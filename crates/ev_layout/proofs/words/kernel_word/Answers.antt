use Rattle.std.proofs.Common.{◌≡◌, ℕ, ◌*◌, ◌-◌, ◌/◌, ◌%◌, ◌∙◌, sym, ap, Bool}
use Rattle.ev_body.specs.declared.image.Image.{Image}
use Rattle.ev_listing.specs.AddressMap.{pcpu, task_words, stack_top}
use Rattle.ev_concrete.specs.Opening.{within, task_word}
use Rattle.ev_layout.specs.Placed.{placed}
use Rattle.ev_layout.proofs.There.{is_below, there_code, there_stack, there_area, there_task, there_table}
use Rattle.ev_layout.proofs.words.kernel_word.Goals as goal

test : (base unit p q a : ℕ) (x y : Bool) → p ≡ q → y ≡ within base (unit * p) a → y ≡ x → within base (unit * q) a ≡ x
test base unit p q a x y e h g = ap (λ (n : ℕ). within base (unit * n) a) (sym e) ∙ sym h ∙ g

pub returns-then-a-ge-CODE : goal.returns-then-a-ge-CODE
returns-then-a-ge-CODE c = c.code_word.ensures
    ∙ sym (there_code (placed c.args.blocks.now) c.args.mode c.args.image.now c.args.a c.requires.upper c.if-a-ge-CODE.true)

pub returns-then-within : goal.returns-then-within
returns-then-within c =
    let i : Image = c.args.image.now in
    let p = c.from-processors.ensures ∙ ap (λ (v : Image). v.processors) c.image.view_is in
    let b = is_below c.args.a c.requires.upper c.if-a-ge-CODE.false in
    c.stack_word.ensures ∙ sym (there_stack (placed c.args.blocks.now) c.args.mode i c.args.a b
    (test (stack_top 0 0 - 0x4000) 0x100000 c.from-processors.result i.processors c.args.a _ _ p c.within.ensures c.if-within.true))

pub returns-then-within-2 : goal.returns-then-within-2
returns-then-within-2 c =
    let i : Image = c.args.image.now in
    let p = c.from-processors.ensures ∙ ap (λ (v : Image). v.processors) c.image.view_is in
    let b = is_below c.args.a c.requires.upper c.if-a-ge-CODE.false in
    let r = test (stack_top 0 0 - 0x4000) 0x100000 c.from-processors.result i.processors c.args.a _ _ p c.within.ensures c.if-within.false in
    c.area_word.ensures ∙ sym (there_area (placed c.args.blocks.now) c.args.mode i c.args.a b r
    (test (pcpu 0) 0x10000 c.from-processors.result i.processors c.args.a _ _ p c.within-2.ensures c.if-within-2.true))

pub returns-then-within-3 : goal.returns-then-within-3
returns-then-within-3 c =
    let i : Image = c.args.image.now in
    let p = c.from-processors.ensures ∙ ap (λ (v : Image). v.processors) c.image.view_is in
    let b = is_below c.args.a c.requires.upper c.if-a-ge-CODE.false in
    let r = test (stack_top 0 0 - 0x4000) 0x100000 c.from-processors.result i.processors c.args.a _ _ p c.within.ensures c.if-within.false in
    let h = test (pcpu 0) 0x10000 c.from-processors.result i.processors c.args.a _ _ p c.within-2.ensures c.if-within-2.false in
    let k : ℕ = (c.args.a - task_words 0 0) / 0x40 in
    c.task_word.ensures ∙ ap (λ (n : ℕ). task_word n (k / 4) (k % 4) (c.args.a % 0x40)) c.task_count.ensures.is
    ∙ sym (there_task (placed c.args.blocks.now) c.args.mode i c.args.a b r h
    (test (task_words 0 0) 0x100 c.from-processors.result i.processors c.args.a _ _ p c.within-3.ensures c.if-within-3.true))

pub returns : goal.returns
returns c =
    let i : Image = c.args.image.now in
    let p = c.from-processors.ensures ∙ ap (λ (v : Image). v.processors) c.image.view_is in
    let b = is_below c.args.a c.requires.upper c.if-a-ge-CODE.false in
    let r = test (stack_top 0 0 - 0x4000) 0x100000 c.from-processors.result i.processors c.args.a _ _ p c.within.ensures c.if-within.false in
    let h = test (pcpu 0) 0x10000 c.from-processors.result i.processors c.args.a _ _ p c.within-2.ensures c.if-within-2.false in
    let g = test (task_words 0 0) 0x100 c.from-processors.result i.processors c.args.a _ _ p c.within-3.ensures c.if-within-3.false in
    c.table_there.ensures ∙ sym (there_table (placed c.args.blocks.now) c.args.mode i c.args.a b r h g)
