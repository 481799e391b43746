-- What an instruction comes to, by what `exec` answers.
use Rattle.std.proofs.Common.{◌≡◌, ℕ, Bool, refl, sym, ap, subst, ◌∙◌}
use Rattle.ev_isa.specs.declared.instruction.Ins.{Ins}
use Rattle.ev_event.specs.declared.event.Event.{Event}
use Rattle.ev_state.specs.Processor.{Processor}
use Rattle.ev_mem.specs.Memory.{Memory}
use Rattle.ev_apic.specs.declared.apic.Apic.{Apic}
use Rattle.ev_exec.specs.declared.outcome.Outcome.{Outcome}
use Rattle.ev_exec.specs.declared.outcome.Outcome.TheVariants.{Done as IsDone, Raise as Raises, Special as IsSpecial}
use Rattle.ev_exec.specs.Exec.{Executed, Done, Raise, Special}
use Rattle.ev_exec.specs.After.{after, After as AfterExec}
use Rattle.ev_proc.specs.ProcessorStep.{After, after_exec, ran, fault}
use Rattle.ev_proc.specs.Conditions.{IsException}
use Rattle.ev_proc.proofs.Raised.{RaisesWhere}

regions_in : (c : Processor) (m : Memory) (x : Executed) → (after c m x).mem.regions ≡ m.regions
regions_in c m (Done c' words) = refl
regions_in c m (Raise e) = refl
regions_in c m Special = refl

pub regions_kept : (c c' : Processor) (m m' : Memory) (o : Outcome) (x : Executed) → after c m x ≡ record { cpu = c'; mem = m'; outcome = o }
    → m'.regions ≡ m.regions
regions_kept c c' m m' o x h = sym (ap (λ (a : AfterExec). a.mem.regions) h) ∙ regions_in c m x

pub done : (c c' : Processor) (a : Apic) (m m' : Memory) (nmi : Bool) (next : ℕ) (i : Ins) (x : Executed)
    → after c m x ≡ record { cpu = c'; mem = m'; outcome = IsDone } → ran c' a m'.words nmi ≡ after_exec c a m nmi next i x
done c c' a m m' nmi next i (Done d words) h = ap (λ (r : AfterExec). ran r.cpu a r.mem.words nmi) (sym h)
done c c' a m m' nmi next i (Raise e) h = let o : Raises e ≡ IsDone = ap (λ (r : AfterExec). r.outcome) h in cc
done c c' a m m' nmi next i Special h = let o : IsSpecial ≡ IsDone = ap (λ (r : AfterExec). r.outcome) h in cc

pub record WasRaised (c c' : Processor) (m m' : Memory) (e : Event) (x : Executed) : Type 0 where
  pub cpu : c' ≡ c
  pub mem : m' ≡ m
  pub is : x ≡ Raise e

pub raised : (c c' : Processor) (m m' : Memory) (e : Event) (x : Executed) → after c m x ≡ record { cpu = c'; mem = m'; outcome = Raises e }
    → WasRaised c c' m m' e x
raised c c' m m' e (Done d words) h = let o : IsDone ≡ Raises e = ap (λ (r : AfterExec). r.outcome) h in cc
raised c c' m m' e (Raise f) h = let o : Raises f ≡ Raises e = ap (λ (r : AfterExec). r.outcome) h in let same : f ≡ e = cc in
    record { cpu = sym (ap (λ (r : AfterExec). r.cpu) h); mem = sym (ap (λ (r : AfterExec). r.mem) h); is = ap (λ (g : Event). Raise g) same }
raised c c' m m' e Special h = let o : IsSpecial ≡ Raises e = ap (λ (r : AfterExec). r.outcome) h in cc

pub record WasSpecial (c c' : Processor) (m m' : Memory) (x : Executed) : Type 0 where
  pub cpu : c' ≡ c
  pub mem : m' ≡ m
  pub is : x ≡ Special

pub left_special : (c c' : Processor) (m m' : Memory) (x : Executed) → after c m x ≡ record { cpu = c'; mem = m'; outcome = IsSpecial } → WasSpecial c c' m m' x
left_special c c' m m' (Done d words) h = let o : IsDone ≡ IsSpecial = ap (λ (r : AfterExec). r.outcome) h in cc
left_special c c' m m' (Raise e) h = let o : Raises e ≡ IsSpecial = ap (λ (r : AfterExec). r.outcome) h in cc
left_special c c' m m' Special h = record { cpu = sym (ap (λ (r : AfterExec). r.cpu) h); mem = sym (ap (λ (r : AfterExec). r.mem) h); is = refl }

pub raised_event : (c c' : Processor) (m m' : Memory) (e : Event) (x : Executed) → after c m x ≡ record { cpu = c'; mem = m'; outcome = Raises e }
    → RaisesWhere x → IsException e
raised_event c c' m m' e x h p = let w : WasRaised c c' m m' e x = raised c c' m m' e x h in let P : Executed → Type 0 = λ y. RaisesWhere y in subst P w.is p

pub raised_to : (r : After) (c c' : Processor) (a : Apic) (m m' : Memory) (nmi : Bool) (next : ℕ) (i : Ins) (e : Event) (x : Executed)
    → after c m x ≡ record { cpu = c'; mem = m'; outcome = Raises e } → r ≡ fault c' a m' nmi e → r ≡ after_exec c a m nmi next i x
raised_to r c c' a m m' nmi next i e x h hr = let w : WasRaised c c' m m' e x = raised c c' m m' e x h in
    hr ∙ ap (λ (y : Processor). fault y a m' nmi e) w.cpu ∙ ap (λ (y : Memory). fault c a y nmi e) w.mem
    ∙ ap (λ (y : Executed). after_exec c a m nmi next i y) (sym w.is)
