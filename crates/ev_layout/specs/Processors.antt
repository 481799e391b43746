-- The MSRs of a processor at the opening (addresses are own; FRED specification, "FRED configuration MSRs"), and the descriptors of tasks.
use Rattle.std.specs.Prelude.{ℕ, ◌^◌, Bool, nat_lt, List, [], ◌∷◌}
use Rattle.std.specs.List.{list_all}
use Rattle.ev_body.specs.declared.image.TaskSpec.{TaskSpec}
use Rattle.ev_state.specs.Msr.{Msrs}
use Rattle.ev_listing.specs.AddressMap.{pcpu, stack_top, sys_entry}

abbrev pub opening_msrs : ℕ → ℕ → Msrs
opening_msrs p base = record {
  star = 0x0023001000000000;
  lstar = sys_entry;
  fmask = 0x40200;
  gs_base = base;
  kernel_gs_base = pcpu p;
  rsp = stack_top p 0 ∷ stack_top p 6 ∷ stack_top p 4 ∷ stack_top p 5 ∷ [];
  stklvls = 0x30020;
  config = 0xffffffff81000040;
}

-- each task's GS base is below 2 ^ 32
abbrev pub have_bases : List TaskSpec → Bool
have_bases tasks = list_all (λ (t : TaskSpec). nat_lt t.gs (2 ^ 32)) tasks

-- each descriptor's selector is below this one
abbrev pub are_below : ℕ → List (ℕ × ℕ) → Bool
are_below selector bases = list_all (λ (e : ℕ × ℕ). nat_lt e.0 selector) bases
