-- Interrupt commands (SDM volume 3, 10.6.1, after x2APIC; what is refused is own).
use Rattle.std.specs.Prelude.{ℕ, ◌/◌, ◌%◌, ◌^◌, ◌&&◌, nat_lt, ◌==◌, if◌then◌else◌, Option, Some, None, Result, Ok, Err}
use Rattle.ev_isa.specs.declared.fault.Gp.{Gp}
use Rattle.ev_apic.specs.declared.send.Target.{Target}
use Rattle.ev_apic.specs.declared.send.Target.TheVariants.{One, Myself, All, Others}
use Rattle.ev_apic.specs.declared.send.SendKey.{SendKey}
use Rattle.ev_apic.specs.declared.send.SendKey.TheVariants.{Fixed, Nmi}
use Rattle.ev_apic.specs.declared.send.Send.{Send}

-- bits 19:18 and 63:32 of the interrupt command
abbrev pub target_of : ℕ → ℕ → Target
target_of shorthand destination = if shorthand == 0 then One destination else (if shorthand == 1 then Myself else (if shorthand == 2 then All else Others))

abbrev pub send_to : ℕ → SendKey → Send
send_to v key = record { target = target_of (v / 2 ^ 18 % 4) (v / 2 ^ 32); key = key }

-- What a write to the interrupt command register sends: mode 0 a fixed vector from 16 on, mode 4 an NMI; anything else is a fault.
unfoldable pub sent : ℕ → Option Send
sent v =
    if v / 2 ^ 8 % 8 == 4 then Some (send_to v Nmi)
    else (if (v / 2 ^ 8 % 8 == 0) && nat_lt 15 (v % 256) then Some (send_to v (Fixed (v % 256))) else None)

-- the same as the result of the write
abbrev pub or_gp : Option Send → Result Send Gp
or_gp None = Err (record {})
or_gp (Some s) = Ok s
