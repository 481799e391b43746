use Rattle.std.proofs.Common.{◌∙◌, ap}
use Rattle.ev_listing.specs.AddressMap.{sys_entry, common_entry, exit_entry, nmi_entry, repeat_entry, nbody_entry, exitn_entry, nlast_entry}
use Rattle.ev_stub.specs.Position.{is_countable}
use Rattle.ev_stub_idt.proofs.Positions.{sys_countable, common_countable, exit_countable, nmi_countable, repeat_countable, nbody_countable, exitn_countable, nlast_countable, entries_in_turn}
use Rattle.ev_stub_idt.proofs.position.or_in_entries.Goals as goal

pub or_in_block-found-requires : goal.or_in_block-found-requires
or_in_block-found-requires c = ap (is_countable sys_entry) c.sys.ensures ∙ sys_countable

pub or_in_block-found-requires-2 : goal.or_in_block-found-requires-2
or_in_block-found-requires-2 c = ap (is_countable common_entry) c.common.ensures ∙ common_countable

pub or_in_block-found-requires-3 : goal.or_in_block-found-requires-3
or_in_block-found-requires-3 c = ap (is_countable exit_entry) c.exit.ensures ∙ exit_countable

pub or_in_block-found-requires-4 : goal.or_in_block-found-requires-4
or_in_block-found-requires-4 c = ap (is_countable nmi_entry) c.nmi.ensures ∙ nmi_countable

pub or_in_block-found-requires-5 : goal.or_in_block-found-requires-5
or_in_block-found-requires-5 c = ap (is_countable repeat_entry) c.repeat.ensures ∙ repeat_countable

pub or_in_block-found-requires-6 : goal.or_in_block-found-requires-6
or_in_block-found-requires-6 c = ap (is_countable nbody_entry) c.nbody.ensures ∙ nbody_countable

pub or_in_block-found-requires-7 : goal.or_in_block-found-requires-7
or_in_block-found-requires-7 c = ap (is_countable exitn_entry) c.exitn.ensures ∙ exitn_countable

pub or_in_block-requires : goal.or_in_block-requires
or_in_block-requires c = ap (is_countable nlast_entry) c.nlast.ensures ∙ nlast_countable

pub returns : goal.returns
returns c =
    rw (
      c.or_in_block.ensures,
      c.or_in_block-found-7.ensures,
      c.or_in_block-found-6.ensures,
      c.or_in_block-found-5.ensures,
      c.or_in_block-found-4.ensures,
      c.or_in_block-found-3.ensures,
      c.or_in_block-found-2.ensures,
      c.or_in_block-found.ensures,
      c.sys.ensures,
      c.common.ensures,
      c.exit.ensures,
      c.nmi.ensures,
      c.repeat.ensures,
      c.nbody.ensures,
      c.exitn.ensures,
      c.nlast.ensures,
    )
    (entries_in_turn c.args.rip c.args.found)
