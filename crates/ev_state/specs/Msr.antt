-- Model-specific registers (SDM volume 4, table 2-2; FRED specification, "FRED configuration MSRs", in the project's profile).
use Rattle.std.specs.Prelude.{◌≡◌, true, false, ℕ, ◌%◌, Bool, not, ◌&&◌, ◌==◌, if◌then◌else◌, List, get_or, set, Option, Some, None, Result, Ok, Err}
use Rattle.std.specs.List.{list_all}
use Rattle.ev_isa.specs.Word.{is_canonical}
use Rattle.ev_isa.specs.declared.fault.Gp.{Gp}
use Rattle.ev_frame.specs.Config.{is_reserved}

pub record Msrs : Type 0 where
  pub star : ℕ
  pub lstar : ℕ
  pub fmask : ℕ
  pub gs_base : ℕ
  pub kernel_gs_base : ℕ
  pub stklvls : ℕ
  pub config : ℕ
  pub rsp : List ℕ  -- of stack levels 0 to 3

-- what stands at an MSR's number, if there is such an MSR
unfoldable pub msr : Msrs → ℕ → Option ℕ
msr m n =
    if n == 0xc0000081 then Some m.star
    else (if n == 0xc0000082 then Some m.lstar
    else (if n == 0xc0000084 then Some m.fmask
    else (if n == 0xc0000101 then Some m.gs_base
    else (if n == 0xc0000102 then Some m.kernel_gs_base
    else (if n == 0x1cc then Some (get_or m.rsp 0 0)
    else (if n == 0x1cd then Some (get_or m.rsp 1 0)
    else (if n == 0x1ce then Some (get_or m.rsp 2 0)
    else (if n == 0x1cf then Some (get_or m.rsp 3 0)
    else (if n == 0x1d0 then Some m.stklvls
    else (if n == 0x1d4 then Some m.config else None))))))))))

-- a written RSP is a canonical multiple of 64
abbrev pub is_level_rsp : ℕ → Bool
is_level_rsp v = is_canonical v && (v % 64 == 0)

abbrev pub given : Bool → Msrs → Option Msrs
given b m = if b then Some m else None

-- the MSRs after a write, if it is no fault
unfoldable pub written : Msrs → ℕ → ℕ → Option Msrs
written m n v =
    if n == 0xc0000081 then Some (record m { star = v })
    else (if n == 0xc0000082 then given (is_canonical v) (record m { lstar = v })
    else (if n == 0xc0000084 then Some (record m { fmask = v })
    else (if n == 0xc0000101 then given (is_canonical v) (record m { gs_base = v })
    else (if n == 0xc0000102 then given (is_canonical v) (record m { kernel_gs_base = v })
    else (if n == 0x1cc then given (is_level_rsp v) (record m { rsp = set m.rsp 0 v })
    else (if n == 0x1cd then given (is_level_rsp v) (record m { rsp = set m.rsp 1 v })
    else (if n == 0x1ce then given (is_level_rsp v) (record m { rsp = set m.rsp 2 v })
    else (if n == 0x1cf then given (is_level_rsp v) (record m { rsp = set m.rsp 3 v })
    else (if n == 0x1d0 then Some (record m { stklvls = v })
    else (if n == 0x1d4 then given (is_canonical v && not (is_reserved v)) (record m { config = v }) else None))))))))))

-- the registers hold values that a write takes
pub record AreMsrs (lstar gs_base kernel_gs_base config : ℕ) (rsp : List ℕ) : Type 0 where
  pub lstar_canonical : is_canonical lstar ≡ true
  pub gs_canonical : is_canonical gs_base ≡ true
  pub kernel_gs_canonical : is_canonical kernel_gs_base ≡ true
  pub config_canonical : is_canonical config ≡ true
  pub config_free : is_reserved config ≡ false
  pub level_rsps : list_all is_level_rsp rsp ≡ true

-- an access to an MSR that isn't there is refused
abbrev pub or_gp : Option ℕ → Result ℕ Gp
or_gp None = Err (record {})
or_gp (Some v) = Ok v

-- the GS base and the kernel GS base are exchanged
abbrev pub bases_exchanged : Msrs → Msrs
bases_exchanged m = record m { gs_base = m.kernel_gs_base; kernel_gs_base = m.gs_base }
