use Rattle.std.proofs.Common.{◌∷◌}
use Rattle.ev_listing.specs.AddressMap.{no_body, sys_entry, common_entry, exit_entry, nmi_entry, repeat_entry, nbody_entry, exitn_entry, nlast_entry}
use Rattle.ev_listing.specs.IdtCode.{idt_listings}
use Rattle.ev_stub_idt.specs.Listings.{vector_stubs}
use Rattle.ev_stub_idt.proofs.idt.listings.Goals as goal

pub returns : goal.returns
unfolding idt_listings vector_stubs
returns c =
    rw (
      c.in_ok-add_stubs.ensures,
      c.in_ok-add_listing-9.ensures.ok,
      c.in_ok-add_listing-8.ensures.ok,
      c.in_ok-add_listing-7.ensures.ok,
      c.in_ok-add_listing-6.ensures.ok,
      c.in_ok-add_listing-5.ensures.ok,
      c.in_ok-add_listing-4.ensures.ok,
      c.in_ok-add_listing-3.ensures.ok,
      c.in_ok-add_listing-2.ensures.ok,
      c.in_ok-add_listing.ensures.ok,
      c.new-listings.ensures.items,
    )
    (λ i. record { address = no_body; lines = c.none.ensures i } ∷ record { address = sys_entry; lines = c.sys.ensures i } ∷ record {
      address =
          common_entry;
      lines = c.common.ensures i;
    }
    ∷ record { address = exit_entry; lines = c.exit.ensures i } ∷ record { address = nmi_entry; lines = c.nmi.ensures i } ∷ record {
      address =
          repeat_entry;
      lines = c.repeat.ensures i;
    }
    ∷ record { address = nbody_entry; lines = c.nbody.ensures i } ∷ record { address = exitn_entry; lines = c.exitn.ensures i } ∷ record {
      address =
          nlast_entry;
      lines = c.nlast.ensures i;
    } ∷ vector_stubs)
