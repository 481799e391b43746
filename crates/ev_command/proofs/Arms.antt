-- The command that a first word begins.
use Rattle.std.proofs.Common.{◌≡◌, ◌∙◌, ◌↔◌, List, [], ◌∷◌, Option, Some, None, Result, IfOk, refl, sym, ap, subst, codes, true, false, true≢false}
use Rattle.std.proofs.lemmas.Result.{IfOk-weaker}
use Rattle.ev_command.specs.declared.command.Command.{Command}
use Rattle.ev_command.specs.declared.command.Command.TheVariants.{Run, Asm, Check, Probe, Gen, Threads}
use Rattle.ev_command.specs.Commands.{Gives, IsBuilt, IsCounted, IsExactly, Says, SaysBehind, first_word, is_built}
use Rattle.ev_command.specs.Uses.{Text}
use Rattle.ev_command.proofs.RunLaws.{differ}

only_asm : (c : Command) → first_word c ≡ codes "asm" → c ≡ Asm
only_asm (Run m f) e = absurd (differ (codes "run") (codes "asm") refl e refl)
only_asm Asm e = refl
only_asm Check e = absurd (differ (codes "check") (codes "asm") refl e refl)
only_asm Probe e = absurd (differ (codes "probe") (codes "asm") refl e refl)
only_asm (Gen s n) e = absurd (differ (codes "gen") (codes "asm") refl e refl)
only_asm (Threads m n) e = absurd (differ (codes "threads") (codes "asm") refl e refl)

only_check : (c : Command) → first_word c ≡ codes "check" → c ≡ Check
only_check (Run m f) e = absurd (differ (codes "run") (codes "check") refl e refl)
only_check Asm e = absurd (differ (codes "asm") (codes "check") refl e refl)
only_check Check e = refl
only_check Probe e = absurd (differ (codes "probe") (codes "check") refl e refl)
only_check (Gen s n) e = absurd (differ (codes "gen") (codes "check") refl e refl)
only_check (Threads m n) e = absurd (differ (codes "threads") (codes "check") refl e refl)

only_probe : (c : Command) → first_word c ≡ codes "probe" → c ≡ Probe
only_probe (Run m f) e = absurd (differ (codes "run") (codes "probe") refl e refl)
only_probe Asm e = absurd (differ (codes "asm") (codes "probe") refl e refl)
only_probe Check e = absurd (differ (codes "check") (codes "probe") refl e refl)
only_probe Probe e = refl
only_probe (Gen s n) e = absurd (differ (codes "gen") (codes "probe") refl e refl)
only_probe (Threads m n) e = absurd (differ (codes "threads") (codes "probe") refl e refl)

module _ {E : Type 0} where
  -- the answers that say what these words say
  abbrev pub Answers : Text → List Text → Result (Option Command) E → Type 0
  Answers w ws r = IfOk r (IsExactly (SaysBehind w ws))

  -- a command with options
  pub options_arm : (v w : Text) (ws : List Text) (r : Result (Option Command) E) → w ≡ v → Answers v ws r → Answers w ws r
  options_arm v w ws r e h = subst (λ (x : Text). Answers x ws r) (sym e) h

  -- a command without
  abbrev pub Alone : Command → List Text → Result (Option Command) E → Type 0
  Alone b ws r = IfOk r (IsExactly (λ c. (c ≡ b) × Gives ws c))

  bare_arm : (w : Text) (ws : List Text) (b : Command) (r : Result (Option Command) E) → w ≡ first_word b → IsCounted b
      → ((c : Command) → first_word c ≡ first_word b → c ≡ b) → Alone b ws r → Answers w ws r
  bare_arm w ws b r e n only h = IfOk-weaker r _ _ (λ o law c. (
    λ q. let s = (law c).0 q in (ap first_word s.0 ∙ sym e, s.1, subst IsCounted (sym s.0) n),
    λ q. (law c).1 (only c (q.0 ∙ e), q.1),
  )) h

  pub asm_arm : (w : Text) (ws : List Text) (r : Result (Option Command) E) → w ≡ codes "asm" → Alone Asm ws r → Answers w ws r
  asm_arm w ws r e h = bare_arm w ws Asm r e tt only_asm h

  pub check_arm : (w : Text) (ws : List Text) (r : Result (Option Command) E) → w ≡ codes "check" → Alone Check ws r → Answers w ws r
  check_arm w ws r e h = bare_arm w ws Check r e tt only_check h

  pub probe_arm : (w : Text) (ws : List Text) (r : Result (Option Command) E) → w ≡ codes "probe" → Alone Probe ws r → Answers w ws r
  probe_arm w ws r e h = bare_arm w ws Probe r e tt only_probe h

-- ---- the first word

first_of_words : (w : Text) (ws : List Text) (c : Command) → SaysBehind w ws c ↔ Says (w ∷ ws) c
first_of_words w ws c = (
  λ s. (ws, ap (λ (x : Text). x ∷ ws) (sym s.0), s.1, s.2),
  λ s.
      let a : w ≡ first_word c = cc in
      let b : ws ≡ s.0 = cc in
      (sym a, subst (λ (x : List Text). Gives x c) (sym b) s.2, s.3),
)

module _ {E : Type 0} where
  pub all_words : (w : Text) (rest ws : List Text) → ws ≡ w ∷ rest → (r : Result (Option Command) E) → Answers w rest r → IfOk r (IsExactly (Says ws))
  all_words w rest ws e r h = IfOk-weaker r _ _ (λ o law c. (
    λ k. subst (λ (x : List Text). Says x c) (sym e) ((first_of_words w rest c).0 ((law c).0 k)),
    λ k. (law c).1 ((first_of_words w rest c).1 (subst (λ (x : List Text). Says x c) e k)),
  )) h

pub no_words : IsExactly (Says []) None
no_words c = (λ h. absurd cc, λ s. let bad = s.1 in absurd cc)

-- ---- what is built

module _ (Is : Command → Type 0) (answer : Option Command) (law : IsExactly Is answer) where
  pub built : (command : Command) → answer ≡ Some command → is_built command ≡ true → IsExactly (λ c. Is c × IsBuilt c) (Some command)
  built command e b c = (
    λ h. let s : command ≡ c = cc in ((law c).0 (e ∙ h), subst IsBuilt s b),
    λ k. sym e ∙ (law c).1 k.0,
  )

  pub unbuilt : (command : Command) → answer ≡ Some command → is_built command ≡ false → IsExactly (λ c. Is c × IsBuilt c) None
  unbuilt command e b c = (
    λ h. absurd cc,
    λ k.
        let a : answer ≡ Some c = (law c).1 k.0 in
        let s : command ≡ c = cc in
        let t : is_built command ≡ true = subst IsBuilt (sym s) k.1 in
        absurd (true≢false (sym t ∙ b)),
  )

  pub unsaid : answer ≡ None → IsExactly (λ c. Is c × IsBuilt c) None
  unsaid e c = (λ h. absurd cc, λ k. let a : answer ≡ Some c = (law c).1 k.0 in absurd cc)
