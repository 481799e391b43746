-- Kinds of items that bodies are searched for. Own.
use Rattle.std.specs.Prelude.{Bool, ◌==◌}
use Rattle.ev_body.specs.declared.item.Item.{Item}
use Rattle.ev_abstract.specs.Chain.{is_breakpoint, is_user_access, is_sti}
use Rattle.ev_abstract.specs.Rules.{leads_to, is_eoi, is_take, is_call_at, sends}
use Rattle.ev_accept.specs.declared.items.Kind.{Kind}
use Rattle.ev_accept.specs.declared.items.Kind.TheVariants.{Breakpoint, UserAccess, SetIf, JumpTo, EndService, TakeCalls, CallAt, Sends}

-- whether an item is of the kind
abbrev pub is_of : Kind → Item → Bool
is_of Breakpoint = is_breakpoint
is_of UserAccess = is_user_access
is_of SetIf = is_sti
is_of (JumpTo i) = λ item. leads_to item (λ n. n == i)
is_of EndService = is_eoi
is_of TakeCalls = is_take
is_of (CallAt site) = is_call_at site
is_of (Sends key) = sends key
