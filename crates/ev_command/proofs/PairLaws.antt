-- What the words behind a command with two options that take values say.
use Rattle.std.proofs.Common.{◌≡◌, ◌∙◌, ◌↔◌, ℕ, ◌+◌, ◌<◌, ◌≤◌, ◌^◌, Bool, true, false, List, [], ◌∷◌, ◌++◌, Option, Some, None, refl, sym, ap, ap₂, subst, codes, decimal, is_some, true≢false, arith, ◌==◌, ◌%◌, ne_eqb}
use Rattle.std.specs.Prelude.{if◌then◌else◌, option_and_then, slice_get}
use Rattle.std.specs.Str.{bytes_eq}
use Rattle.std.proofs.lemmas.Fmt.{decimal_by_steps, parse-decimal}
use Rattle.std.specs.Prelude.{Result, Ok, Err}
use Rattle.std.specs.Str.Parse.{ParsesUnsigned}
use Rattle.clap.specs.Walk.{Row, first_of, with_default}
use Rattle.clap.specs.Simple.{App}
use Rattle.ev_isa.specs.declared.mode.Mode.{Mode}
use Rattle.ev_isa.specs.declared.mode.Mode.TheVariants.{Idt, Fred}
use Rattle.ev_command.specs.declared.command.Command.{Command}
use Rattle.ev_command.specs.declared.command.Command.TheVariants.{Run, Asm, Check, Probe, Gen, Threads}
use Rattle.ev_command.specs.Apps.{IsRefusedBy, IsTakenBy, Table, asked, mode_and_turns, seed_and_count}
use Rattle.ev_command.specs.Commands.{IsCounted, IsGen, IsThreads, SaysBehind, first_word, gen_by, threads_by, mode_by, mode_word, options_of}
use Rattle.ev_command.specs.Uses.{Given, Text, lookup}
use Rattle.ev_command.proofs.Automaton.{eq_self, rows_for, rule, same}
use Rattle.ev_command.proofs.EachOnce.{AreAskable, Fits}
use Rattle.ev_command.proofs.Laws.{Alike, IsBuiltTo, IsPlain, IsValued, Refused, Taken, alike, first_value_in, found_row, gives_read, none_askable, read, read_gives, read_good, refused_is, skip_valued, taken_is, value_in, valued_askable}
use Rattle.ev_command.proofs.RunLaws.{differ, mode_plain}

-- ---- numbers

abbrev BeginsDigit : ℕ → Text → Type 0
BeginsDigit n ds = (x : ℕ) × (rest : Text) × (ds ≡ x ∷ rest) × (48 ≤ x)

begins : (n : ℕ) → n < 2 ^ 64 → BeginsDigit n (decimal n)
begins = decimal_by_steps BeginsDigit (λ n h. (48 + n, [], refl, omega arith))
    (λ n ds h (x, rest, e, k). (x, rest ++ (48 + n % 10) ∷ [], ap (λ (ys : Text). ys ++ (48 + n % 10) ∷ []) e, k))

digit_plain : (x : ℕ) (rest : Text) → 48 ≤ x → IsPlain (x ∷ rest)
digit_plain x rest h =
    let e : (x == 45) ≡ false = ne_eqb x 45 (λ k. absurd (omega arith)) in
    (rw e refl, rw e refl, rw e refl)

pub decimal_plain : (n : ℕ) → n < 2 ^ 64 → IsPlain (decimal n)
decimal_plain n h = let b = begins n h in subst IsPlain (sym b.2) (digit_plain b.0 b.1 b.3)

-- ---- two options with values

some_in : (o : Option (Option Text)) (x : Text) → option_and_then (λ (v : Option Text). v) o ≡ Some x → o ≡ Some (Some x)
some_in None x e = absurd cc
some_in (Some None) x e = absurd cc
some_in (Some (Some v)) x e = ap Some e

module _ (a b word : Text) (differs : bytes_eq a b ≡ false) where
  abbrev pair : Table
  pair = (a, true) ∷ (b, true) ∷ []

  abbrev two : Text → Text → List Given
  two x y = (a, Some x) ∷ (b, Some y) ∷ []

  second : {X : Type 0} (p q : X) → lookup b ((a, p) ∷ (b, q) ∷ []) ≡ Some q
  second p q = rw (differs, eq_self b) refl

  first : {X : Type 0} (p q : X) → lookup a ((a, p) ∷ (b, q) ∷ []) ≡ Some p
  first p q = rw (eq_self a) refl

  pair_alike : (g : List Given) (x y : Text) → Fits pair g → value_in a g ≡ Some x → value_in b g ≡ Some y → Alike g (two x y)
  pair_alike g x y f p q = alike pair g (two x y) f (first true true, (second true true, tt))
      (some_in (lookup a g) x p ∙ sym (first (Some x) (Some y)), (some_in (lookup b g) y q ∙ sym (second (Some x) (Some y)), tt))

  pair_askable : IsValued pair a → IsValued pair b → (x y : Text) → IsPlain x → IsPlain y → AreAskable pair (two x y)
  pair_askable i j x y p q = valued_askable pair a x ((b, Some y) ∷ []) i p (valued_askable pair b y [] j q (none_askable pair))

  abbrev From : (Option Text → Option Text → Command → Type 0) → Type 0
  From P = (s n : Option Text) (c : Command) → P s n c → (x : Text) × (y : Text) × (s ≡ Some x) × (n ≡ Some y) × (options_of c ≡ two x y)
      × (first_word c ≡ word) × IsCounted c

  abbrev To : (Option Text → Option Text → Command → Type 0) → Type 0
  To P = (c : Command) → first_word c ≡ word → IsCounted c → (x : Text) × (y : Text) × (options_of c ≡ two x y) × IsPlain x × IsPlain y
      × P (Some x) (Some y) c

  module _ (P : Option Text → Option Text → Command → Type 0) (out : From P) (back : To P) (is_built : IsBuiltTo pair) (i : IsValued pair a)
      (j : IsValued pair b) where
    given : (ws : List Text) (c : Command) → SaysBehind word ws c → (g : List Given) × (read pair ws ≡ Some g) × P (value_in a g) (value_in b g) c
    given ws c s =
        let t = back c s.0 s.2 in
        let r = gives_read pair ws c (subst (AreAskable pair) (sym t.2) (pair_askable i j t.0 t.1 t.3 t.4)) s.1 in
        let like : Alike r.0 (two t.0 t.1) = subst (Alike r.0) t.2 r.2 in
        let p : value_in a r.0 ≡ Some t.0 = ap (option_and_then (λ (v : Option Text). v)) (like a ∙ first (Some t.0) (Some t.1)) in
        let q : value_in b r.0 ≡ Some t.1 = ap (option_and_then (λ (v : Option Text). v)) (like b ∙ second (Some t.0) (Some t.1)) in
        (r.0, r.1, rw (p, q) t.5)

    pub pair_none : (app : App) → app ≡ asked pair → (ws : List Text) → IsRefusedBy app ws → (c : Command) → None ≡ Some c ↔ SaysBehind word ws c
    pair_none app is ws refuses c =
        let refused : Refused pair ws = subst (λ (x : App). IsRefusedBy x ws) is refuses in
        let r = refused_is pair ws is_built refused in
        (λ h. absurd cc, λ s. let g = given ws c s in absurd (true≢false (sym (ap is_some g.1) ∙ ap is_some r)))

    pub pair_some : (app : App) → app ≡ asked pair → (ws : List Text) (rows : List Row) → IsTakenBy app ws rows → (s n : Option Text) → s ≡ first_of a rows
        → n ≡ first_of b rows
        → (o : Option Command) → ((c : Command) → o ≡ Some c ↔ P s n c) → (c : Command) → o ≡ Some c ↔ SaysBehind word ws c
    pair_some app is ws rows takes s n s_is n_is o law c =
        let taken : Taken pair ws rows = subst (λ (x : App). IsTakenBy x ws rows) is takes in
        let r = taken_is pair ws rows is_built taken in
        let fits = (read_good pair ws r.0 r.1).1 in
        let plain : rows ≡ rows_for r.0 = r.2 ∙ ap (λ rs. with_default rs (rule b true)) (skip_valued a (rows_for r.0)) ∙ skip_valued b (rows_for r.0) in
        let p : s ≡ value_in a r.0 = s_is ∙ ap (first_of a) plain ∙ ap (option_and_then (λ (x : Row). slice_get x.values 0)) (found_row a r.0)
        ∙ first_value_in a pair r.0 fits i.0 in
        let q : n ≡ value_in b r.0 = n_is ∙ ap (first_of b) plain ∙ ap (option_and_then (λ (x : Row). slice_get x.values 0)) (found_row b r.0)
        ∙ first_value_in b pair r.0 fits j.0 in (
          λ h.
              let d = out s n c ((law c).0 h) in
              (d.5, read_gives pair ws r.0 c r.1 (subst (Alike r.0) (sym d.4) (pair_alike r.0 d.0 d.1 fits (sym p ∙ d.2) (sym q ∙ d.3))), d.6),
          λ h.
              let g = given ws c h in
              let same_given : g.0 ≡ r.0 = cc (g.1, r.1) in
              (law c).1 (rw (p, q) (subst (λ (x : List Given). P (value_in a x) (value_in b x) c) same_given g.2)),
        )

-- ---- `gen`

gen_out : (s n : Option Text) (c : Command) → IsGen s n c → (x : Text) × (y : Text) × (s ≡ Some x) × (n ≡ Some y)
    × (options_of c ≡ (codes "seed", Some x) ∷ (codes "count", Some y) ∷ []) × (first_word c ≡ codes "gen") × IsCounted c
gen_out s n c (seed, count, p, q, e, k) = (decimal seed, decimal count, p, q, ap options_of e, ap first_word e, subst IsCounted (sym e) k)

gen_back : (c : Command) → first_word c ≡ codes "gen" → IsCounted c → (x : Text) × (y : Text)
    × (options_of c ≡ (codes "seed", Some x) ∷ (codes "count", Some y) ∷ []) × IsPlain x × IsPlain y × IsGen (Some x) (Some y) c
gen_back (Gen seed count) e k = (
  decimal seed,
  decimal count,
  refl,
  decimal_plain seed k.0,
  decimal_plain count (omega arith),
  (seed, count, refl, refl, refl, k),
)
gen_back (Run m f) e k = absurd (differ (codes "run") (codes "gen") refl e refl)
gen_back Asm e k = absurd (differ (codes "asm") (codes "gen") refl e refl)
gen_back Check e k = absurd (differ (codes "check") (codes "gen") refl e refl)
gen_back Probe e k = absurd (differ (codes "probe") (codes "gen") refl e refl)
gen_back (Threads m n) e k = absurd (differ (codes "threads") (codes "gen") refl e refl)

-- ---- `threads`

threads_out : (s n : Option Text) (c : Command) → IsThreads s n c → (x : Text) × (y : Text) × (s ≡ Some x) × (n ≡ Some y)
    × (options_of c ≡ (codes "mode", Some x) ∷ (codes "turns", Some y) ∷ []) × (first_word c ≡ codes "threads") × IsCounted c
threads_out s n c (mode, turns, p, q, e, k) = (mode_word mode, decimal turns, p, q, ap options_of e, ap first_word e, subst IsCounted (sym e) k)

threads_back : (c : Command) → first_word c ≡ codes "threads" → IsCounted c → (x : Text) × (y : Text)
    × (options_of c ≡ (codes "mode", Some x) ∷ (codes "turns", Some y) ∷ []) × IsPlain x × IsPlain y × IsThreads (Some x) (Some y) c
threads_back (Threads mode turns) e k = (
  mode_word mode,
  decimal turns,
  refl,
  mode_plain mode,
  decimal_plain turns (omega arith),
  (mode, turns, refl, refl, refl, k),
)
threads_back (Run m f) e k = absurd (differ (codes "run") (codes "threads") refl e refl)
threads_back Asm e k = absurd (differ (codes "asm") (codes "threads") refl e refl)
threads_back Check e k = absurd (differ (codes "check") (codes "threads") refl e refl)
threads_back Probe e k = absurd (differ (codes "probe") (codes "threads") refl e refl)
threads_back (Gen s n) e k = absurd (differ (codes "gen") (codes "threads") refl e refl)

abbrev pub NoneBy : App → List Text → Type 0
NoneBy app ws = IsRefusedBy app ws

pub gen_none : (app : App) → app ≡ asked seed_and_count → (ws : List Text) → NoneBy app ws → (c : Command) → None ≡ Some c ↔ SaysBehind (codes "gen") ws c
gen_none = pair_none (codes "seed") (codes "count") (codes "gen") refl IsGen gen_out gen_back refl (refl, refl, λ v. refl) (refl, refl, λ v. refl)

pub gen_some : (app : App) → app ≡ asked seed_and_count → (ws : List Text) (rows : List Row) → IsTakenBy app ws rows → (s n : Option Text) → s
    ≡ first_of (codes "seed") rows → n ≡ first_of (codes "count") rows
    → (o : Option Command) → ((c : Command) → o ≡ Some c ↔ IsGen s n c) → (c : Command) → o ≡ Some c ↔ SaysBehind (codes "gen") ws c
gen_some = pair_some (codes "seed") (codes "count") (codes "gen") refl IsGen gen_out gen_back refl (refl, refl, λ v. refl) (refl, refl, λ v. refl)

pub threads_none : (app : App) → app ≡ asked mode_and_turns → (ws : List Text) → NoneBy app ws → (c : Command) → None ≡ Some c
    ↔ SaysBehind (codes "threads") ws c
threads_none = pair_none (codes "mode") (codes "turns") (codes "threads") refl IsThreads threads_out threads_back refl (refl, refl, λ v. refl)
    (refl, refl, λ v. refl)

pub threads_some : (app : App) → app ≡ asked mode_and_turns → (ws : List Text) (rows : List Row) → IsTakenBy app ws rows → (s n : Option Text) → s
    ≡ first_of (codes "mode") rows → n ≡ first_of (codes "turns") rows
    → (o : Option Command) → ((c : Command) → o ≡ Some c ↔ IsThreads s n c) → (c : Command) → o ≡ Some c ↔ SaysBehind (codes "threads") ws c
threads_some = pair_some (codes "mode") (codes "turns") (codes "threads") refl IsThreads threads_out threads_back refl (refl, refl, λ v. refl)
    (refl, refl, λ v. refl)

-- ---- values

pub gen_law : (o p : Option ℕ) (s n : Option Text) → ((x : ℕ) → o ≡ Some x ↔ ((s ≡ Some (decimal x)) × (x < 2 ^ 64)))
    → ((y : ℕ) → p ≡ Some y ↔ ((n ≡ Some (decimal y)) × (1 ≤ y) × (y ≤ 200000)))
    → (r : Option Command) → r ≡ gen_by o p → (c : Command) → r ≡ Some c ↔ IsGen s n c
gen_law o p s n f g r e c = (
  λ h. go o p refl refl (sym e ∙ h),
  λ (x, y, a, b, is, k). e ∙ ap₂ gen_by ((f x).1 (a, k.0)) ((g y).1 (b, k.1, k.2))
      ∙ ap Some (sym is),
)
  where
    go : (i j : Option ℕ) → o ≡ i → p ≡ j → gen_by i j ≡ Some c → IsGen s n c
    go (Some x) (Some y) a b h =
        let u = (f x).0 a in
        let v = (g y).0 b in
        let is : c ≡ Gen x y = cc in
        (x, y, u.0, v.0, is, (u.1, v.1, v.2))
    go (Some x) None a b h = absurd cc
    go None j a b h = absurd cc

pub threads_law : (o : Option Mode) (p : Option ℕ) (s n : Option Text) → o ≡ option_and_then mode_by s
    → ((y : ℕ) → p ≡ Some y ↔ ((n ≡ Some (decimal y)) × (1 ≤ y) × (y ≤ 10000)))
    → (r : Option Command) → r ≡ threads_by o p → (c : Command) → r ≡ Some c ↔ IsThreads s n c
threads_law o p s n f g r e c = (
  λ h. go o p refl refl (sym e ∙ h),
  λ (m, y, a, b, is, k). e ∙ ap₂ threads_by (f ∙ ap (option_and_then mode_by) a ∙ named m)
      ((g y).1 (b, k.0, k.1)) ∙ ap Some (sym is),
)
  where
    named : (m : Mode) → mode_by (mode_word m) ≡ Some m
    named Idt = refl
    named Fred = refl

    word : (m : Mode) (w : Text) (x y : Bool) → bytes_eq w (codes "idt") ≡ x → bytes_eq w (codes "fred") ≡ y
        → (if x then Some Idt else (if y then Some Fred else None)) ≡ Some m → w ≡ mode_word m
    word Idt w true y a b h = same w (codes "idt") a
    word Fred w true y a b h = absurd cc
    word Idt w false true a b h = absurd cc
    word Fred w false true a b h = same w (codes "fred") b
    word m w false false a b h = absurd cc

    said : (t : Option Text) (m : Mode) → option_and_then mode_by t ≡ Some m → t ≡ Some (mode_word m)
    said None m h = absurd cc
    said (Some w) m h = ap Some (word m w (bytes_eq w (codes "idt")) (bytes_eq w (codes "fred")) refl refl h)

    go : (i : Option Mode) (j : Option ℕ) → o ≡ i → p ≡ j → threads_by i j ≡ Some c → IsThreads s n c
    go (Some m) (Some y) a b h =
        let v = (g y).0 b in
        let is : c ≡ Threads m y = cc in
        (m, y, said s m (sym f ∙ a), v.0, is, (v.1, v.2))
    go (Some m) None a b h = absurd cc
    go None j a b h = absurd cc

pub number_some : {E : Type 0} (text shown : Text) (number : ℕ) (r : Result ℕ E) → r ≡ Ok number → ParsesUnsigned 64 10 text r → shown ≡ decimal number
    → number < 2 ^ 64 → shown ≡ text
    → (n : ℕ) → Some number ≡ Some n ↔ ((text ≡ decimal n) × (n < 2 ^ 64))
number_some text shown number r e p d k q n = (
  λ h. let is : number ≡ n = cc in (sym q ∙ d ∙ ap decimal is, subst (λ (x : ℕ). x < 2 ^ 64) is k),
  λ (a, b). let is : Ok number ≡ Ok n = sym e ∙ parse-decimal 64 n text r b b a p in let same_number : number ≡ n = cc in ap Some same_number,
)

pub number_other : {E : Type 0} (text shown : Text) (number : ℕ) (r : Result ℕ E) → r ≡ Ok number → ParsesUnsigned 64 10 text r → shown ≡ decimal number
    → (shown ≡ text → ⊥)
    → (n : ℕ) → None ≡ Some n ↔ ((text ≡ decimal n) × (n < 2 ^ 64))
number_other text shown number r e p d q n = (
  λ h. absurd cc,
  λ (a, b). let is : Ok number ≡ Ok n = sym e ∙ parse-decimal 64 n text r b b a p in let same_number : number ≡ n = cc in
      absurd (q (d ∙ ap decimal same_number ∙ sym a)),
)

pub number_none : {E : Type 0} (text : Text) (r : Result ℕ E) (x : E) → r ≡ Err x → ParsesUnsigned 64 10 text r → (n : ℕ) → None ≡ Some n
    ↔ ((text ≡ decimal n) × (n < 2 ^ 64))
number_none text r x e p n = (λ h. absurd cc, λ (a, b). let bad : Err x ≡ Ok n = sym e ∙ parse-decimal 64 n text r b b a p in absurd cc)
