use Rattle.std.proofs.Common.{◌≡◌, ℕ, ◌+◌, ◌∙◌, refl, sym, subst, ap, inr, arith, false, true}
use Rattle.ev_isa.specs.Word.{is_canonical}
use Rattle.ev_body.specs.WellFormed.{IsImage}
use Rattle.ev_layout.proofs.Descriptors.{first_fits}
use Rattle.ev_isa.specs.Flags.{flags_word, flags_of, modelled, start_flags}
use Rattle.ev_body.specs.declared.image.TaskSpec.{TaskSpec}
use Rattle.ev_layout.specs.Processors.{opening_msrs}
use Rattle.ev_layout.proofs.cpu.opening_cpu.Goals as goal

start_modelled : 0x40202 ≡ modelled 0x40202
unfolding flags_word flags_of
start_modelled = refl

start_is : 0x40202 ≡ flags_word start_flags
unfolding flags_word
start_is = refl

pub invariant_of-result : goal.invariant_of-result
invariant_of-result c = record {
  rip_canonical = subst (λ (t : TaskSpec). is_canonical t.start ≡ true) (sym c.first_task-task.ensures)
      (first_fits c.args.image.now (subst IsImage c.image.view_is
      c.image.invariant) c.args.p).0;
  flags_modelled = start_modelled;
  ring = inr refl;
  level_small = omega arith;
}

pub msrs-requires-clause-base : goal.msrs-requires-clause-base
msrs-requires-clause-base c = subst (λ (t : TaskSpec). is_canonical t.gs ≡ true) (sym c.first_task-task.ensures)
    (first_fits c.args.image.now (subst IsImage c.image.view_is c.image.invariant) c.args.p).1

pub returns : goal.returns
returns c =
    let t = c.first_task-task.ensures in
    let msrs = c.msrs.ensures ∙ ap (λ (x : TaskSpec). opening_msrs c.args.p x.gs) t in
    let tss = ap (λ (x : ℕ). x + 0x404) c.area.ensures in
    let cr4 = c.control.ensures in
    let gs = c.task_selector.ensures in
    let gdt = c.descriptors.ensures in
    λ i. record {
      regs = (t i).regs;
      rip = (t i).start;
      flags = start_is i;
      cr2 = 0;
      cr4 = cr4 i;
      cpl = 3;
      level = 0;
      cs = 0x33;
      ss = 0x2b;
      gs = gs i;
      nmi_blocked = false;
      sti_blocked = false;
      idt = 0xffff888000810000;
      tss = tss i;
      msrs = msrs i;
      gdt = gdt i;
    }
