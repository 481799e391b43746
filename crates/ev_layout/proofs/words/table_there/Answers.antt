use Rattle.std.proofs.Common.{◌≡◌, ◌∙◌, ◌*◌, sym, true, false, refl}
use Rattle.ev_listing.specs.AddressMap.{user_table, kernel_table, idt_base, cells_base}
use Rattle.ev_mem.specs.Memory.{page_map}
use Rattle.ev_concrete.specs.Opening.{within}
use Rattle.ev_layout.specs.There.{table_there}
use Rattle.ev_layout.proofs.words.table_there.Goals as goal

pub returns-then-within : goal.returns-then-within
unfolding table_there
returns-then-within c =
    let h0 : within user_table (8 * 257) c.args.a ≡ true = sym c.within.ensures ∙ c.if-within.true in
    rw h0 c.table_word.ensures

pub returns-then-within-2 : goal.returns-then-within-2
unfolding table_there
returns-then-within-2 c =
    let h0 : within user_table (8 * 257) c.args.a ≡ false = sym c.within.ensures ∙ c.if-within.false in
    let h1 : within kernel_table (8 * 257) c.args.a ≡ true = sym c.within-2.ensures ∙ c.if-within-2.true in
    rw (h0, h1) c.table_word-then-within-2.ensures

pub returns-then-within-3 : goal.returns-then-within-3
unfolding table_there
returns-then-within-3 c =
    let h0 : within user_table (8 * 257) c.args.a ≡ false = sym c.within.ensures ∙ c.if-within.false in
    let h1 : within kernel_table (8 * 257) c.args.a ≡ false = sym c.within-2.ensures ∙ c.if-within-2.false in
    let h2 : within idt_base (16 * 256) c.args.a ≡ true = sym c.within-3.ensures ∙ c.if-within-3.true in
    rw (h0, h1, h2) c.idt_word.ensures

pub returns-then-within-4 : goal.returns-then-within-4
unfolding table_there
returns-then-within-4 c =
    let h0 : within user_table (8 * 257) c.args.a ≡ false = sym c.within.ensures ∙ c.if-within.false in
    let h1 : within kernel_table (8 * 257) c.args.a ≡ false = sym c.within-2.ensures ∙ c.if-within-2.false in
    let h2 : within idt_base (16 * 256) c.args.a ≡ false = sym c.within-3.ensures ∙ c.if-within-3.false in
    let h3 : within page_map (8 * 256) c.args.a ≡ true = sym c.within-4.ensures ∙ c.if-within-4.true in
    rw (h0, h1, h2, h3) c.page_word.ensures

pub returns-then-within-5 : goal.returns-then-within-5
unfolding table_there
returns-then-within-5 c =
    let h0 : within user_table (8 * 257) c.args.a ≡ false = sym c.within.ensures ∙ c.if-within.false in
    let h1 : within kernel_table (8 * 257) c.args.a ≡ false = sym c.within-2.ensures ∙ c.if-within-2.false in
    let h2 : within idt_base (16 * 256) c.args.a ≡ false = sym c.within-3.ensures ∙ c.if-within-3.false in
    let h3 : within page_map (8 * 256) c.args.a ≡ false = sym c.within-4.ensures ∙ c.if-within-4.false in
    let h4 : within cells_base (8 * 256) c.args.a ≡ true = sym c.within-5.ensures ∙ c.if-within-5.true in
    rw (h0, h1, h2, h3, h4) c.cell_word.ensures

pub returns : goal.returns
unfolding table_there
returns c =
    let h0 : within user_table (8 * 257) c.args.a ≡ false = sym c.within.ensures ∙ c.if-within.false in
    let h1 : within kernel_table (8 * 257) c.args.a ≡ false = sym c.within-2.ensures ∙ c.if-within-2.false in
    let h2 : within idt_base (16 * 256) c.args.a ≡ false = sym c.within-3.ensures ∙ c.if-within-3.false in
    let h3 : within page_map (8 * 256) c.args.a ≡ false = sym c.within-4.ensures ∙ c.if-within-4.false in
    let h4 : within cells_base (8 * 256) c.args.a ≡ false = sym c.within-5.ensures ∙ c.if-within-5.false in
    rw (h0, h1, h2, h3, h4) refl
