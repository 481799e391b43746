use Rattle.std.proofs.Common.{◌≡◌, ℕ, Some, None, ◌∙◌, ap, sym}
use Rattle.std.specs.Option.{option_or, option_map}
use Rattle.ev_stub.specs.Position.{in_block}
use Rattle.ev_stub_fred.specs.declared.position.FredBlock.TheVariants.{Kernel, Main}
use Rattle.ev_stub_fred.specs.Position.{place_of}
use Rattle.ev_stub_fred.proofs.Positions.{user_countable, kernel_countable, in_kernel, in_main, entered, all_blocks}
use Rattle.ev_stub_fred.proofs.position.fred_place_at.Goals as goal

pub or_in_block-user-requires : goal.or_in_block-user-requires
or_in_block-user-requires c = user_countable

pub or_in_block-entered-requires : goal.or_in_block-entered-requires
or_in_block-entered-requires c = kernel_countable

pub returns-in-Some : goal.returns-in-Some
returns-in-Some c =
    let rip : ℕ = c.args.rip in
    ap (λ x. option_map place_of (option_or x (in_block Main (in_main rip))))
    (sym c.in-Some.is ∙ c.or_in_block-entered.ensures ∙ ap (λ x. option_or x (in_block Kernel (in_kernel rip))) c.or_in_block-user.ensures)
    ∙ all_blocks rip

pub returns-in-Some-in_handlers : goal.returns-in-Some-in_handlers
returns-in-Some-in_handlers c =
    let rip : ℕ = c.args.rip in
    let before : None ≡ entered rip = sym c.in-None.is ∙ c.or_in_block-entered.ensures
    ∙ ap (λ x. option_or x (in_block Kernel (in_kernel rip))) c.or_in_block-user.ensures in
    let main : Some c.in-Some-in_handlers.index ≡ in_main rip = sym c.in-Some-in_handlers.is ∙ c.in_handlers.ensures in
    (λ i. option_map place_of (option_or (before i) (in_block Main (main i)))) ∙ all_blocks rip

pub returns-in-None-in_handlers : goal.returns-in-None-in_handlers
returns-in-None-in_handlers c =
    let rip : ℕ = c.args.rip in
    let before : None ≡ entered rip = sym c.in-None.is ∙ c.or_in_block-entered.ensures
    ∙ ap (λ x. option_or x (in_block Kernel (in_kernel rip))) c.or_in_block-user.ensures in
    let main : None ≡ in_main rip = sym c.in-None-in_handlers.is ∙ c.in_handlers.ensures in
    (λ i. option_map place_of (option_or (before i) (in_block Main (main i)))) ∙ all_blocks rip
