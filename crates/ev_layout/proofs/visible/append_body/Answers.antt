use Rattle.std.proofs.Common.{◌≡◌, ◌++◌, ◌∙◌, ℕ, List, ap}
use Rattle.ev_isa.specs.declared.mode.Mode.{Mode}
use Rattle.ev_body.specs.declared.item.Item.{Item}
use Rattle.ev_body.specs.declared.image.Image.{Image}
use Rattle.ev_body.specs.declared.key.Key.{Key}
use Rattle.ev_listing.specs.AddressMap.{body_code}
use Rattle.ev_listing.specs.Expansion.{expansions, function_address, body_stmts}
use Rattle.ev_listing.specs.Marks.{marks}
use Rattle.ev_layout.specs.Marks.{listed}
use Rattle.ev_layout.proofs.Results.{on_ok}
use Rattle.ev_layout.proofs.visible.append_body.Goals as goal

pub returns : goal.returns
unfolding body_stmts
returns c =
    on_ok c.append_items.result
    ((mode : Mode) (b : ℕ) (key : Key) (f : ℕ → ℕ)
    → listed c.append_items.new.places ≡ listed c.args.places.now ++ marks (body_code c.args.n) (expansions mode b key f 0 c.deref.result.now))
    ((mode : Mode) (image : Image) → listed c.append_items.new.places ≡ listed c.args.places.now ++ marks (body_code c.args.n)
    (body_stmts mode image c.args.n c.args.body.now))
    (λ h mode image. h mode c.args.n c.args.body.now.key (function_address mode image)
    ∙ ap (λ (is : List Item). listed c.args.places.now ++ marks (body_code c.args.n)
    (expansions mode c.args.n c.args.body.now.key (function_address mode image) 0 is)) (c.deref.ensures.value ∙ c.in_ok-items.ensures))
    c.append_items.ensures
