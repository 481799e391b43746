-- What the words behind `run`, and behind a command without options, say.
use Rattle.std.proofs.Common.{◌≡◌, ◌∙◌, ◌↔◌, Bool, true, false, List, [], ◌∷◌, Option, Some, None, refl, sym, ap, ap₂, subst, codes, is_some, true≢false}
use Rattle.std.specs.Prelude.{MatchOption, if◌then◌else◌, option_and_then}
use Rattle.clap.specs.Words.{found_of, rows_of}
use Rattle.clap.specs.declared.parser.matches.ArgMatches.{ArgMatches}
use Rattle.std.specs.Option.{option_map}
use Rattle.std.specs.Str.{bytes_eq}
use Rattle.clap.specs.Walk.{Row, first_of, one_of}
use Rattle.clap.specs.Simple.{App}
use Rattle.ev_isa.specs.declared.mode.Mode.{Mode}
use Rattle.ev_isa.specs.declared.mode.Mode.TheVariants.{Idt, Fred}
use Rattle.ev_command.specs.declared.command.Command.{Command}
use Rattle.ev_command.specs.declared.command.Command.TheVariants.{Run, Asm, Check, Probe, Gen, Threads}
use Rattle.ev_command.specs.Apps.{IsRefusedBy, IsTakenBy, asked, mode_and_frames}
use Rattle.ev_command.specs.Commands.{Gives, IsCounted, SaysBehind, first_word, mode_word, options_of, run_from}
use Rattle.ev_command.specs.Uses.{Given, Text, lookup}
use Rattle.ev_command.proofs.Automaton.{has, same}
use Rattle.ev_command.proofs.EachOnce.{AreAskable, Fits}
use Rattle.ev_command.proofs.Laws.{Alike, IsPlain, Refused, Taken, alike, fits_at, flag_askable, gives_read, none_askable, read, read_gives, read_good, refused_is, run_frames, run_mode, taken_is, truth, value_in, valued_askable}

-- ---- `run`

abbrev pub run_value : List Given → Option Command
run_value g = run_from (value_in (codes "mode") g) (has (codes "frames") g)

abbrev pub IsCommand : Text → List Given → Command → Type 0
IsCommand word g c = (first_word c ≡ word) × Alike g (options_of c) × IsCounted c

run_fits : (m : Option Mode) (f : Bool) → Fits mode_and_frames (options_of (Run m f))
run_fits None false = tt
run_fits None true = (refl, tt)
run_fits (Some Idt) false = (refl, tt)
run_fits (Some Idt) true = (refl, (refl, tt))
run_fits (Some Fred) false = (refl, tt)
run_fits (Some Fred) true = (refl, (refl, tt))

run_is : (g : List Given) (m : Option Mode) (f : Bool) (c : Command) → Fits mode_and_frames g → lookup (codes "mode") g
    ≡ lookup (codes "mode") (options_of (Run m f))
    → lookup (codes "frames") g ≡ lookup (codes "frames") (options_of (Run m f)) → Some (Run m f) ≡ Some c → IsCommand (codes "run") g c
run_is g m f c k a b e =
    let is : Run m f ≡ c = cc in
    subst (λ (x : Command). IsCommand (codes "run") g x) is (refl, alike mode_and_frames g (options_of (Run m f)) k (run_fits m f) (a, (b, tt)), tt)

run_back : (g : List Given) (c : Command) → Fits mode_and_frames g → run_value g ≡ Some c → IsCommand (codes "run") g c
run_back g c k e = go (lookup (codes "mode") g) (lookup (codes "frames") g) refl refl e
  where
    named : (w : Text) (f : Bool) (x y : Bool) → bytes_eq w (codes "idt") ≡ x → bytes_eq w (codes "fred") ≡ y → lookup (codes "mode") g ≡ Some (Some w)
        → ((m : Mode) → lookup (codes "frames") g ≡ lookup (codes "frames") (options_of (Run (Some m) f)))
        → option_map (λ m. Run (Some m) f) (if x then Some Idt else (if y then Some Fred else None)) ≡ Some c → IsCommand (codes "run") g c
    named w f true y p q a b h = run_is g (Some Idt) f c k (a ∙ ap (λ (v : Text). Some (Some v)) (same w (codes "idt") p)) (b Idt) h
    named w f false true p q a b h = run_is g (Some Fred) f c k (a ∙ ap (λ (v : Text). Some (Some v)) (same w (codes "fred") q)) (b Fred) h
    named w f false false p q a b h = absurd cc

    go : (o p : Option (Option Text)) → lookup (codes "mode") g ≡ o → lookup (codes "frames") g ≡ p → run_from (option_and_then (λ (v : Option Text). v) o)
        (is_some p) ≡ Some c → IsCommand (codes "run") g c
    go None None a b h = run_is g None false c k a b h
    go None (Some None) a b h = run_is g None true c k a b h
    go (Some (Some w)) None a b h = named w false (bytes_eq w (codes "idt")) (bytes_eq w (codes "fred")) refl refl a (λ m. b) h
    go (Some (Some w)) (Some None) a b h = named w true (bytes_eq w (codes "idt")) (bytes_eq w (codes "fred")) refl refl a (λ m. b) h
    go (Some None) p a b h = let bad : Some true ≡ Some false = fits_at mode_and_frames g (codes "mode") None k a in absurd cc
    go None (Some (Some v)) a b h = let bad : Some false ≡ Some true = fits_at mode_and_frames g (codes "frames") (Some v) k b in absurd cc
    go (Some (Some w)) (Some (Some v)) a b h = let bad : Some false ≡ Some true = fits_at mode_and_frames g (codes "frames") (Some v) k b in absurd cc

run_to : (g : List Given) (m : Option Mode) (f : Bool) → Alike g (options_of (Run m f)) → run_value g ≡ Some (Run m f)
run_to g None false s = rw (s (codes "mode"), s (codes "frames")) refl
run_to g None true s = rw (s (codes "mode"), s (codes "frames")) refl
run_to g (Some Idt) false s = rw (s (codes "mode"), s (codes "frames")) refl
run_to g (Some Idt) true s = rw (s (codes "mode"), s (codes "frames")) refl
run_to g (Some Fred) false s = rw (s (codes "mode"), s (codes "frames")) refl
run_to g (Some Fred) true s = rw (s (codes "mode"), s (codes "frames")) refl

pub mode_plain : (m : Mode) → IsPlain (mode_word m)
mode_plain Idt = (refl, refl, refl)
mode_plain Fred = (refl, refl, refl)

run_askable : (m : Option Mode) (f : Bool) → AreAskable mode_and_frames (options_of (Run m f))
run_askable None false = none_askable mode_and_frames
run_askable None true = flag_askable mode_and_frames (codes "frames") [] refl refl (none_askable mode_and_frames)
run_askable (Some m) false = valued_askable mode_and_frames (codes "mode") (mode_word m) [] (refl, refl, λ v. refl) (mode_plain m)
    (none_askable mode_and_frames)
run_askable (Some m) true = valued_askable mode_and_frames (codes "mode") (mode_word m) ((codes "frames", None) ∷ []) (refl, refl, λ v. refl) (mode_plain m)
    (flag_askable mode_and_frames (codes "frames") [] refl refl (none_askable mode_and_frames))

pub differ : (a b : Text) → bytes_eq a b ≡ false → a ≡ b → bytes_eq b b ≡ true → ⊥
differ a b f e t = true≢false (sym (ap (λ (x : Text). bytes_eq x b) e ∙ t) ∙ f)

run_read : (ws : List Text) (c : Command) → SaysBehind (codes "run") ws c → option_and_then run_value (read mode_and_frames ws) ≡ Some c
run_read ws (Run m f) (w, gives, counted) =
    let r = gives_read mode_and_frames ws (Run m f) (run_askable m f) gives in
    ap (option_and_then run_value) r.1 ∙ run_to r.0 m f r.2
run_read ws Asm (w, gives, counted) = absurd (differ (codes "asm") (codes "run") refl w refl)
run_read ws Check (w, gives, counted) = absurd (differ (codes "check") (codes "run") refl w refl)
run_read ws Probe (w, gives, counted) = absurd (differ (codes "probe") (codes "run") refl w refl)
run_read ws (Gen s n) (w, gives, counted) = absurd (differ (codes "gen") (codes "run") refl w refl)
run_read ws (Threads m n) (w, gives, counted) = absurd (differ (codes "threads") (codes "run") refl w refl)

run_said : (ws : List Text) (c : Command) → option_and_then run_value (read mode_and_frames ws) ≡ Some c → SaysBehind (codes "run") ws c
run_said ws c e = go (read mode_and_frames ws) refl e
  where
    go : (o : Option (List Given)) → read mode_and_frames ws ≡ o → option_and_then run_value o ≡ Some c → SaysBehind (codes "run") ws c
    go None k h = absurd cc
    go (Some g) k h =
        let b = run_back g c (read_good mode_and_frames ws g k).1 h in
        (b.0, read_gives mode_and_frames ws g c k b.1, b.2)

run_law : (ws : List Text) (o : Option Command) → o ≡ option_and_then run_value (read mode_and_frames ws) → (c : Command) → o ≡ Some c
    ↔ SaysBehind (codes "run") ws c
run_law ws o e c = (λ h. run_said ws c (sym e ∙ h), λ s. e ∙ run_read ws c s)

pub run_none : (a : App) → a ≡ asked mode_and_frames → (ws : List Text) → IsRefusedBy a ws → (c : Command) → None ≡ Some c ↔ SaysBehind (codes "run") ws c
run_none a is ws refuses c =
    let refused : Refused mode_and_frames ws = subst (λ (x : App). IsRefusedBy x ws) is refuses in
    run_law ws None (sym (ap (option_and_then run_value) (refused_is mode_and_frames ws refl refused))) c

pub run_some : (a : App) → a ≡ asked mode_and_frames → (ws : List Text) (rows : List Row) → IsTakenBy a ws rows → (m : Option Text) (f : Bool) → m
    ≡ first_of (codes "mode") rows
    → (one_of (codes "frames") rows ≡ Some (codes "true") → f ≡ true) → (one_of (codes "frames") rows ≡ Some (codes "false") → f ≡ false) → (c : Command)
    → run_from m f ≡ Some c ↔ SaysBehind (codes "run") ws c
run_some a is ws rows takes m f mode yes_frames no_frames c =
    let taken : Taken mode_and_frames ws rows = subst (λ (x : App). IsTakenBy x ws rows) is takes in
    let r = taken_is mode_and_frames ws rows refl taken in
    let fits = (read_good mode_and_frames ws r.0 r.1).1 in
    let m_is : m ≡ value_in (codes "mode") r.0 = mode ∙ ap (first_of (codes "mode")) r.2 ∙ run_mode r.0 fits in
    let f_is : f ≡ has (codes "frames") r.0 = flag (has (codes "frames") r.0) (ap (one_of (codes "frames")) r.2 ∙ run_frames r.0 fits) in
    run_law ws (run_from m f) (ap₂ run_from m_is f_is ∙ sym (ap (option_and_then run_value) r.1)) c
  where
    flag : (b : Bool) → one_of (codes "frames") rows ≡ Some (truth b) → f ≡ b
    flag true e = yes_frames e
    flag false e = no_frames e

-- ---- a command without options

bare_law : (ws : List Text) (c : Command) → options_of c ≡ [] → (is_some (read [] ws) ≡ true) ↔ Gives ws c
bare_law ws c none = (λ h. go (read [] ws) refl h, λ s. ap is_some (back s).1)
  where
    go : (o : Option (List Given)) → read [] ws ≡ o → is_some o ≡ true → Gives ws c
    go None k h = absurd (true≢false (sym h))
    go (Some g) k h = read_gives [] ws g c k (subst (λ (os : List Given). Alike g os) (sym none) (alike [] g [] (read_good [] ws g k).1 tt tt))

    back : Gives ws c → (g : List Given) × (read [] ws ≡ Some g)
    back s = let r = gives_read [] ws c (subst (λ (os : List Given). AreAskable [] os) (sym none) (none_askable [])) s in (r.0, r.1)

pub bare_none : (a : App) → a ≡ asked [] → (ws : List Text) → IsRefusedBy a ws → (b : Command) → options_of b ≡ [] → (c : Command) → None ≡ Some c
    ↔ ((c ≡ b) × Gives ws c)
bare_none a is ws refuses b none c =
    let refused : Refused [] ws = subst (λ (x : App). IsRefusedBy x ws) is refuses in
    let r = refused_is [] ws refl refused in
    (λ h. absurd cc, λ (e, gives). absurd (true≢false (sym ((bare_law ws b none).1 (subst (Gives ws) e gives)) ∙ ap is_some r)))

pub bare_some : (a : App) → a ≡ asked [] → (ws : List Text) (rows : List Row) → IsTakenBy a ws rows → (b : Command) → options_of b ≡ [] → (c : Command)
    → Some b ≡ Some c ↔ ((c ≡ b) × Gives ws c)
bare_some a is ws rows takes b none c =
    let taken : Taken [] ws rows = subst (λ (x : App). IsTakenBy x ws rows) is takes in
    let r = taken_is [] ws rows refl taken in
    let gives : Gives ws b = (bare_law ws b none).0 (ap is_some r.1) in
    (λ h. let e : c ≡ b = cc in (e, subst (Gives ws) (sym e) gives), λ (e, g). ap Some (sym e))

-- ---- what the code knows of clap's answer

abbrev pub Known : App → List Text → Option ArgMatches → Type 0
Known a ws o = MatchOption o (IsRefusedBy a ws) (λ m. IsTakenBy a ws (rows_of (found_of m)))

pub known_some : (a : App) (ws : List Text) (o : Option ArgMatches) (m : ArgMatches) → o ≡ Some m → Known a ws o → IsTakenBy a ws (rows_of (found_of m))
known_some a ws o m e k = subst (Known a ws) e k

pub known_none : (a : App) (ws : List Text) (o : Option ArgMatches) → o ≡ None → Known a ws o → IsRefusedBy a ws
known_none a ws o e k = subst (Known a ws) e k
