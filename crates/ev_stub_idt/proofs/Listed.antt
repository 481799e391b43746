-- The code's listings: they can be linked.
use Rattle.std.proofs.Common.{◌≡◌, List, map, refl, ap, sym, subst}
use Rattle.ev_isa.specs.Instruction.{is_instruction}
use Rattle.ev_isa.specs.Spelling.{spelling, four_bytes}
use Rattle.ev_asm.specs.Assembly.{size, places}
use Rattle.ev_asm.specs.Assembled.{is_encoded}
use Rattle.ev_asm.specs.Linked.{reaches, all_reach, AreLinkable}
use Rattle.ev_listing.specs.IdtCode.{idt_listings}
use Rattle.ev_stub.specs.declared.listing.Listing.{Listing}
use Rattle.ev_stub.specs.Blocks.{section_of}
use Rattle.ev_stub.specs.Lines.{listings_of}

pub idt_linkable : AreLinkable (map section_of idt_listings)
unfolding idt_listings is_encoded is_instruction size spelling four_bytes places reaches all_reach
idt_linkable = refl

pub are_linkable : (ls : List Listing) → listings_of ls ≡ idt_listings → AreLinkable (map section_of (listings_of ls))
are_linkable ls e = subst AreLinkable (sym (ap (map section_of) e)) idt_linkable
