-- A return that meets a fault.
use Rattle.std.proofs.Common.{◌≡◌, ◌/◌, ◌%◌, ◌^◌, ℕ, Bool, true, false, ◌&&◌, ◌==◌, nat_le, if◌then◌else◌, List, [], ◌∷◌, Option, Some, None, Result, Ok, Err, IfErr, refl, sym, subst}
use Rattle.ev_isa.specs.Word.{NatMap, is_canonical}
use Rattle.ev_event.specs.declared.event.Event.{Event}
use Rattle.ev_event.specs.Event.{gp}
use Rattle.ev_effect.specs.Frame.{first_event, addresses}
use Rattle.ev_state.specs.Processor.{Processor, register, rsp, selector}
use Rattle.ev_state.specs.Descriptors.{base_of}
use Rattle.ev_state.specs.Outcome.{Outcome, Went, Met, words_at}
use Rattle.ev_mem.specs.Memory.{Memory, view}
use Rattle.ev_words.specs.Answer.{return_of}
use Rattle.ev_idt.specs.IdtDelivery.{iretq, iret_after, iret_words, is_return, sysretq}
use Rattle.ev_fred.specs.FredDelivery.{eretu, eretu_words, erets, erets_words, frame_read, return_addresses, lkgs, with_kernel_gs}
use Rattle.ev_proc.specs.Conditions.{HasEntries, IsException}
use Rattle.ev_proc.proofs.Raised.{is_exception, IsNoOther, first}
use Rattle.ev_proc.proofs.Tries.{AreSame, IsAgain, same, with_cr2_same, entries_kept}

refused : (c d : Processor) (b : Bool) (d' : Processor) (words : NatMap ℕ) → AreSame c d → IsAgain c (if b then Went d' words 0 else Met d (gp 0))
refused c d true d' words p = tt
refused c d false d' words p = (p, is_exception 13 0 0)

iret_words_again : (c d : Processor) (words : NatMap ℕ) (ws : List ℕ) → AreSame c d → IsAgain c (iret_words d words ws)
iret_words_again c d words (rip ∷ cs ∷ flags ∷ rsp ∷ ss ∷ []) p = refused c d (is_canonical rip && is_return (selector cs) (selector ss)) _ words p
iret_words_again c d words _ p = (p, is_exception 13 0 0)

iret_after_again : (c d : Processor) (words : NatMap ℕ) (as' : List ℕ) (o : Option Event) → AreSame c d → IsNoOther o → IsAgain c (iret_after d words as' o)
iret_after_again c d words as' None p q = iret_words_again c d words (words_at words as') p
iret_after_again c d words as' (Some e) p q = (with_cr2_same c d e p, q)

pub iretq_again : (c : Processor) (m : Memory) → IsAgain c (iretq c m)
unfolding iretq
iretq_again c m =
    let d : Processor = record c { nmi_blocked = false } in
    let s : AreSame c d = record { cr4 = refl; idt = refl; tss = refl } in
    iret_after_again c d m.words (addresses (rsp c) 5) (first_event (view m false) false (addresses (rsp c) 5)) s
    (first (view m false) false (addresses (rsp c) 5))

pub sysretq_again : (c : Processor) (words : NatMap ℕ) → IsAgain c (sysretq c words)
unfolding sysretq
sysretq_again c words = refused c c (is_canonical (register c 1)) _ words (same c)

eretu_words_again : (c : Processor) (words : NatMap ℕ) (ws : List ℕ) → IsAgain c (eretu_words c words ws)
eretu_words_again c words (rip ∷ cs ∷ flags ∷ rsp ∷ ss ∷ []) =
    refused c c ((c.level == 0) && is_canonical rip && (selector cs == 0x33) && (selector ss == 0x2b)) _ words (same c)
eretu_words_again c words _ = (same c, is_exception 13 0 0)

erets_words_again : (c : Processor) (words : NatMap ℕ) (ws : List ℕ) → IsAgain c (erets_words c words ws)
erets_words_again c words (rip ∷ cs ∷ flags ∷ rsp ∷ ss ∷ []) =
    refused c c (nat_le (cs / 2 ^ 16 % 4) c.level && is_canonical rip && (selector cs == 0x10)) _ words (same c)
erets_words_again c words _ = (same c, is_exception 13 0 0)

read_again : (c : Processor) (return : List ℕ → Outcome) (words : NatMap ℕ) (as' : List ℕ) (o : Option Event) → ((ws : List ℕ) → IsAgain c (return ws))
    → IsNoOther o → IsAgain c (frame_read c return words as' o)
read_again c return words as' None p q = p (words_at words as')
read_again c return words as' (Some e) p q = (with_cr2_same c c e (same c), q)

pub eretu_again : (c : Processor) (m : Memory) → IsAgain c (eretu c m)
unfolding eretu
eretu_again c m = read_again c (eretu_words c m.words) m.words (return_addresses c) (first_event (view m false) false (return_addresses c))
    (eretu_words_again c m.words) (first (view m false) false (return_addresses c))

pub erets_again : (c : Processor) (m : Memory) → IsAgain c (erets c m)
unfolding erets
erets_again c m = read_again c (erets_words c m.words) m.words (return_addresses c) (first_event (view m false) false (return_addresses c))
    (erets_words_again c m.words) (first (view m false) false (return_addresses c))

by_base : (c : Processor) (words : NatMap ℕ) (s : ℕ) (b : Option ℕ) → IsAgain c (with_kernel_gs c words s b)
by_base c words s None = (same c, is_exception 13 s 0)
by_base c words s (Some base) = tt

pub lkgs_again : (c : Processor) (words : NatMap ℕ) (s : ℕ) → IsAgain c (lkgs c words s)
unfolding lkgs
lkgs_again c words s = by_base c words s (base_of c.gdt s)

met : (c d : Processor) (e : Event) (words : NatMap ℕ) (o : Outcome) → Met d e ≡ o → IsAgain c o → IsAgain c (Met d e)
met c d e words o h a = let P : Outcome → Type 0 = λ x. IsAgain c x in subst P (sym h) a

pub met_entries : (c d : Processor) (m : Memory) (e : Event) (o : Outcome) → Met d e ≡ o → IsAgain c o → HasEntries c m → HasEntries d m
met_entries c d m e o h a p = entries_kept c d m (met c d e m.words o h a).0 p

pub met_exception : (c d : Processor) (m : Memory) (e : Event) (o : Outcome) → Met d e ≡ o → IsAgain c o → IsException e
met_exception c d m e o h a = (met c d e m.words o h a).1

pub after_entries : (c d : Processor) (m : Memory) (r : Result (Unit {0}) Event) (o : Outcome) → return_of r d m.words ≡ o → IsAgain c o → HasEntries c m
    → IfErr r (λ e. HasEntries d m)
after_entries c d m (Ok done) o h a p = tt
after_entries c d m (Err e) o h a p = met_entries c d m e o h a p

pub after_event : (c d : Processor) (m : Memory) (r : Result (Unit {0}) Event) (o : Outcome) → return_of r d m.words ≡ o → IsAgain c o → IfErr r IsException
after_event c d m (Ok done) o h a = tt
after_event c d m (Err e) o h a = met_exception c d m e o h a
