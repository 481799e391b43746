-- The rooms that do not depend on interrupts, as the code holds them. Own.
use Rattle.std.specs.Prelude.{◌≡◌, ◌≤◌, List}
use Rattle.ev_body.specs.declared.body.Body.{Body}
use Rattle.ev_accept.specs.Bound.{pf_room, bp_room, nmi_room}
use Rattle.ev_accept.specs.declared.bound.Rooms.{Rooms}

-- the code's numbers are the rooms, each with its greatest value
pub record AreRooms (bodies : List Body) (rooms : Rooms) : Type 0 where
  pub pf : rooms.pf ≡ pf_room bodies
  pub bp : rooms.bp ≡ bp_room bodies
  pub nmi : rooms.nmi ≡ nmi_room bodies
  pub pf_small : rooms.pf ≤ 1
  pub bp_small : rooms.bp ≤ 2
  pub nmi_small : rooms.nmi ≤ 3
