-- What the words say, by what clap makes of them.
use Rattle.std.proofs.Common.{◌≡◌, ◌∙◌, Bool, true, false, List, [], ◌∷◌, ◌++◌, map, Option, Some, None, refl, sym, ap, ap₂, subst, inl, inr, codes, is_some, true≢false}
use Rattle.std.specs.Prelude.{if◌then◌else◌, ◌||◌, flat_map, find, option_and_then, slice_get}
use Rattle.std.specs.List.{fold}
use Rattle.std.specs.Option.{option_map}
use Rattle.std.specs.Str.{bytes_eq}
use Rattle.clap.specs.Lexer.{long_of}
use Rattle.clap.specs.Walk.{Row, first_of, has_row, more_values, nothing_held, one_of, row_text, rows_after, with_default}
use Rattle.clap.specs.Values.{reading_of}
use Rattle.clap.specs.declared.builder.value_parser.ValueParser.TheVariants as vp
use Rattle.clap.specs.declared.parser.matches.ValueSource.TheVariants.{DefaultValue}
use Rattle.clap.specs.Simple.{App, built}
use Rattle.clap.specs.Faults.{built_fault}
use Rattle.ev_command.specs.declared.command.Command.{Command}
use Rattle.ev_command.specs.Apps.{IsRefusedBy, IsTakenBy, Table, asked, has_dashes, mode_and_frames}
use Rattle.ev_command.specs.Commands.{Gives, options_of}
use Rattle.ev_command.specs.Uses.{Given, Once, Text, Use, apart, flag, given_by, joined, lookup, words_of}
use Rattle.ev_command.proofs.Automaton.{After, Agrees, app, clean, has, is_value, row_by, rows_for, rule, rules_for, run, row_found, at_none, same, whole}
use Rattle.ev_command.proofs.Spelling.{spelled, word_by}
use Rattle.ev_command.proofs.EachOnce.{AreAskable, Fits, Good, IsUse, reads, run_good, uses_free, uses_ok}

-- ---- clap's answer, by the automaton

abbrev pub read : Table → List Text → Option (List Given)
read t ws = if has_dashes ws then None else run t ws [] clean

-- what the code knows of the words where clap refuses them, and of the rows where it takes them
abbrev pub Refused : Table → List Text → Type 0
Refused t ws = IsRefusedBy (asked t) ws

abbrev pub Taken : Table → List Text → List Row → Type 0
Taken t ws rows = IsTakenBy (asked t) ws rows

abbrev pub IsBuiltTo : Table → Type 0
IsBuiltTo t = built (asked t) ≡ app (codes "fredbox") t

pub refused_is : (t : Table) (ws : List Text) → IsBuiltTo t → Refused t ws → read t ws ≡ None
refused_is t ws is (inl d) = rw d refl
refused_is t ws is (inr f) = go (has_dashes ws) refl
  where
    after : (o : Option (List Given)) → Agrees o (built_fault (app (codes "fredbox") t) nothing_held ws)
        (λ g. rows_after (rules_for t) [] ws ≡ fold with_default (rows_for g) (rules_for t)) → o ≡ None
    after None a = refl
    after (Some g) a = absurd (f (ap (λ x. built_fault x nothing_held ws) is ∙ a.0))

    go : (b : Bool) → has_dashes ws ≡ b → (if b then None else run t ws [] clean) ≡ None
    go true e = refl
    go false e = after (run t ws [] clean) (whole (codes "fredbox") t ws e)

pub taken_is : (t : Table) (ws : List Text) (rows : List Row) → IsBuiltTo t → Taken t ws rows → (g : List Given) × (read t ws ≡ Some g)
    × (rows ≡ fold with_default (rows_for g) (rules_for t))
taken_is t ws rows is (d, f, r) = after (run t ws [] clean) refl (whole (codes "fredbox") t ws d)
  where
    after : (o : Option (List Given)) → run t ws [] clean ≡ o → Agrees o (built_fault (app (codes "fredbox") t) nothing_held ws)
        (λ g. rows_after (rules_for t) [] ws ≡ fold with_default (rows_for g) (rules_for t))
        → (g : List Given) × (read t ws ≡ Some g) × (rows ≡ fold with_default (rows_for g) (rules_for t))
    after None k a = absurd (a (sym (ap (λ x. built_fault x nothing_held ws) is) ∙ f))
    after (Some g) k a = (g, rw d k, r ∙ ap (λ (x : App). rows_after x.top.rules [] ws) is ∙ a.1)

-- ---- what the rows hold

abbrev row_at : Text → List Row → Option Row
row_at n rows = find (λ r. bytes_eq r.id n) rows

id_is : (n : Text) (v : Option Text) → (row_by n v).id ≡ n
id_is n (Some v) = refl
id_is n None = refl

pub found_row : (n : Text) (gs : List Given) → row_at n (rows_for gs) ≡ option_map (row_by n) (lookup n gs)
found_row n [] = refl
found_row n (g ∷ gs) = rw (id_is g.0 g.1) (go (bytes_eq g.0 n) refl (found_row n gs))
  where
    go : (b : Bool) → bytes_eq g.0 n ≡ b → row_at n (rows_for gs) ≡ option_map (row_by n) (lookup n gs)
        → (if b then Some (row_by g.0 g.1) else row_at n (rows_for gs)) ≡ option_map (row_by n) (if b then Some g.1 else lookup n gs)
    go true e r = ap (λ (m : Text). Some (row_by m g.1)) (same g.0 n e)
    go false e r = r

-- the value under a name
abbrev pub value_in : Text → List Given → Option Text
value_in n gs = option_and_then (λ (v : Option Text). v) (lookup n gs)

pub fits_at : (t : Table) (gs : List Given) (n : Text) (x : Option Text) → Fits t gs → lookup n gs ≡ Some x → lookup n t ≡ Some (is_some x)
fits_at t [] n x f e = absurd cc
fits_at t (g ∷ gs) n x f e = go (bytes_eq g.0 n) refl e (fits_at t gs n x f.1)
  where
    go : (b : Bool) → bytes_eq g.0 n ≡ b → (if b then Some g.1 else lookup n gs) ≡ Some x → (lookup n gs ≡ Some x → lookup n t ≡ Some (is_some x))
        → lookup n t ≡ Some (is_some x)
    go true k e more =
        let is : g.1 ≡ x = cc in
        ap (λ (m : Text). lookup m t) (sym (same g.0 n k)) ∙ f.0 ∙ ap (λ (y : Option Text). Some (is_some y)) is
    go false k e more = more e

pub skip_valued : (n : Text) (rows : List Row) → with_default rows (rule n true) ≡ rows
skip_valued n rows = go (has_row n rows) refl
  where
    go : (b : Bool) → has_row n rows ≡ b → with_default rows (rule n true) ≡ rows
    go true e = rw e refl
    go false e = rw e refl

abbrev off : Text → Row
off n = record { id = n; values = codes "false" ∷ []; count = None; source = Some DefaultValue; reading = reading_of vp.Bool }

flag_default : (n : Text) (rows : List Row) → has_row n rows ≡ false → with_default rows (rule n false) ≡ rows ++ off n ∷ []
flag_default n rows e = rw e (at_none n (more_values DefaultValue (codes "false" ∷ [])) (off n ∷ []) rows e)

keep_flag : (n : Text) (rows : List Row) → has_row n rows ≡ true → with_default rows (rule n false) ≡ rows
keep_flag n rows e = rw e refl

-- a row behind others
row_behind : (n : Text) (r : Row) (rows : List Row) → has_row n rows ≡ false → row_at n (rows ++ r ∷ []) ≡ (if bytes_eq r.id n then Some r else None)
row_behind n r [] e = refl
row_behind n r (x ∷ xs) e = go (bytes_eq x.id n) e (row_behind n r xs)
  where
    go : (b : Bool) → (b || has_row n xs) ≡ false → (has_row n xs ≡ false → row_at n (xs ++ r ∷ []) ≡ (if bytes_eq r.id n then Some r else None))
        → (if b then Some x else row_at n (xs ++ r ∷ [])) ≡ (if bytes_eq r.id n then Some r else None)
    go true f more = absurd (true≢false f)
    go false f more = more f

other_behind : (n : Text) (r : Row) (rows : List Row) → bytes_eq r.id n ≡ false → row_at n (rows ++ r ∷ []) ≡ row_at n rows
other_behind n r [] e = rw e refl
other_behind n r (x ∷ xs) e = ap (λ (o : Option Row). if bytes_eq x.id n then Some x else o) (other_behind n r xs e)

-- the rows of `mode` and `frames`
abbrev pub rows_of_run : List Given → List Row
rows_of_run g = fold with_default (rows_for g) (rules_for mode_and_frames)

run_rows : (g : List Given) → rows_of_run g ≡ with_default (rows_for g) (rule (codes "frames") false)
run_rows g = ap (λ rows. with_default rows (rule (codes "frames") false)) (skip_valued (codes "mode") (rows_for g))

pub first_value_in : (n : Text) (t : Table) (g : List Given) → Fits t g → lookup n t ≡ Some true → option_and_then (λ (r : Row). slice_get r.values 0)
    (option_map (row_by n) (lookup n g)) ≡ value_in n g
first_value_in n t g f k = go (lookup n g) refl
  where
    go : (o : Option (Option Text)) → lookup n g ≡ o → option_and_then (λ (r : Row). slice_get r.values 0) (option_map (row_by n) o)
        ≡ option_and_then (λ (v : Option Text). v) o
    go None e = refl
    go (Some (Some v)) e = refl
    go (Some None) e = let bad : Some true ≡ Some false = sym k ∙ fits_at t g n None f e in absurd cc

pub run_mode : (g : List Given) → Fits mode_and_frames g → first_of (codes "mode") (rows_of_run g) ≡ value_in (codes "mode") g
run_mode g f = ap (λ (o : Option Row). option_and_then (λ (r : Row). slice_get r.values 0) o)
    (ap (row_at (codes "mode")) (run_rows g) ∙ go (has_row (codes "frames") (rows_for g)) refl ∙ found_row (codes "mode") g)
    ∙ first_value_in (codes "mode") mode_and_frames g f refl
  where
    go : (b : Bool) → has_row (codes "frames") (rows_for g) ≡ b → row_at (codes "mode") (with_default (rows_for g) (rule (codes "frames") false))
        ≡ row_at (codes "mode") (rows_for g)
    go true e = ap (row_at (codes "mode")) (keep_flag (codes "frames") (rows_for g) e)
    go false e = ap (row_at (codes "mode")) (flag_default (codes "frames") (rows_for g) e) ∙ other_behind (codes "mode") (off (codes "frames"))
        (rows_for g) refl

abbrev pub truth : Bool → Text
truth true = codes "true"
truth false = codes "false"

pub run_frames : (g : List Given) → Fits mode_and_frames g → one_of (codes "frames") (rows_of_run g) ≡ Some (truth (has (codes "frames") g))
run_frames g f = ap (λ rows. one_of (codes "frames") rows) (run_rows g) ∙ go (lookup (codes "frames") g) refl
  where
    go : (o : Option (Option Text)) → lookup (codes "frames") g ≡ o → one_of (codes "frames") (with_default (rows_for g) (rule (codes "frames") false))
        ≡ Some (truth (is_some o))
    go None e =
        let none : has_row (codes "frames") (rows_for g) ≡ false = row_found (codes "frames") g ∙ ap is_some e in
        ap (λ (o : Option Row). option_and_then row_text o) (ap (row_at (codes "frames")) (flag_default (codes "frames") (rows_for g) none)
        ∙ row_behind (codes "frames") (off (codes "frames")) (rows_for g) none)
    go (Some (Some v)) e = let bad : Some false ≡ Some true = fits_at mode_and_frames g (codes "frames") (Some v) f e in absurd cc
    go (Some None) e =
        let there : has_row (codes "frames") (rows_for g) ≡ true = row_found (codes "frames") g ∙ ap is_some e in
        ap (λ (o : Option Row). option_and_then row_text o) (ap (row_at (codes "frames")) (keep_flag (codes "frames") (rows_for g) there)
        ∙ found_row (codes "frames") g ∙ ap (option_map (row_by (codes "frames"))) e)

-- ---- the words give what is asked

pub read_run : (t : Table) (ws : List Text) (g : List Given) → read t ws ≡ Some g → (has_dashes ws ≡ false) × (run t ws [] clean ≡ Some g)
read_run t ws g e = go (has_dashes ws) refl e
  where
    go : (b : Bool) → has_dashes ws ≡ b → (if b then None else run t ws [] clean) ≡ Some g → (has_dashes ws ≡ false) × (run t ws [] clean ≡ Some g)
    go true k h = absurd cc
    go false k h = (k, h)

pub read_good : (t : Table) (ws : List Text) (g : List Given) → read t ws ≡ Some g → Good t g
read_good t ws g e = subst (λ (o : Option (List Given)). After o (Good t)) (read_run t ws g e).1 (run_good t ws [] clean ((tt, tt), tt))

abbrev pub Alike : List Given → List Given → Type 0
Alike g asked = (name : Text) → lookup name g ≡ lookup name asked

pub read_gives : (t : Table) (ws : List Text) (g : List Given) (c : Command) → read t ws ≡ Some g → Alike g (options_of c) → Gives ws c
read_gives t ws g c e s =
    let ends = subst (λ (o : Option (List Given)). After o (λ out. (us : List Use) × (ws ≡ flat_map words_of us) × (out ≡ map given_by us)))
    (read_run t ws g e).1 (spelled t ws [] clean) in
    (ends.0, ends.1, (subst Once ends.2 (read_good t ws g e).0, λ name. ap (lookup name) (sym ends.2) ∙ s name))

pub gives_read : (t : Table) (ws : List Text) (c : Command) → AreAskable t (options_of c) → Gives ws c → (g : List Given) × (read t ws ≡ Some g)
    × Alike g (options_of c)
gives_read t ws c q (us, e, (o, s)) =
    let a = uses_ok t (options_of c) q us o (λ name x h. sym (s name) ∙ h) in
    (map given_by us, rw (e, uses_free t us a) (reads t us [] [] clean refl o a), s)

-- ---- names of a table

abbrev pub Names : Table → (Text → Type 0) → Type 0
Names [] P = Unit {0}
Names (p ∷ ps) P = P p.0 × Names ps P

names_at : (t : Table) (P : Text → Type 0) (name : Text) (k : Bool) → Names t P → lookup name t ≡ Some k → P name
names_at [] P name k a e = absurd cc
names_at (p ∷ ps) P name k a e = go (bytes_eq p.0 name) refl e (names_at ps P name k a.1)
  where
    go : (b : Bool) → bytes_eq p.0 name ≡ b → (if b then Some p.1 else lookup name ps) ≡ Some k → (lookup name ps ≡ Some k → P name) → P name
    go true h f more = subst P (same p.0 name h) a.0
    go false h f more = more f

outside : (t : Table) (g : List Given) (name : Text) → Fits t g → lookup name t ≡ None → lookup name g ≡ None
outside t g name f e = go (lookup name g) refl
  where
    go : (o : Option (Option Text)) → lookup name g ≡ o → o ≡ None
    go None h = refl
    go (Some x) h = let bad : None ≡ Some (is_some x) = sym e ∙ fits_at t g name x f h in absurd cc

pub alike : (t : Table) (g asked : List Given) → Fits t g → Fits t asked → Names t (λ n. lookup n g ≡ lookup n asked) → Alike g asked
alike t g asked f k a name = go (lookup name t) refl
  where
    go : (o : Option Bool) → lookup name t ≡ o → lookup name g ≡ lookup name asked
    go None e = outside t g name f e ∙ sym (outside t asked name k e)
    go (Some b) e = names_at t (λ n. lookup n g ≡ lookup n asked) name b a e

-- ---- uses of a table's options

abbrev pub IsPlain : Text → Type 0
IsPlain v = (long_of v ≡ None) × (is_value v ≡ true) × (bytes_eq v (45 ∷ 45 ∷ []) ≡ false)

abbrev pub IsValued : Table → Text → Type 0
IsValued t n = (lookup n t ≡ Some true) × (long_of (word_by n None) ≡ Some (n, None)) × ((v : Text) → long_of (word_by n (Some v)) ≡ Some (n, Some v))

pub none_askable : (t : Table) → AreAskable t []
none_askable t name x e u h = absurd cc

also_askable : (t : Table) (n : Text) (v : Option Text) (rest : List Given) → ((u : Use) → given_by u ≡ (n, v) → IsUse t u) → AreAskable t rest
    → AreAskable t ((n, v) ∷ rest)
also_askable t n v rest given_as more name x e u h = go (bytes_eq n name) refl e
  where
    go : (b : Bool) → bytes_eq n name ≡ b → (if b then Some v else lookup name rest) ≡ Some x → IsUse t u
    go true k f =
        let a : n ≡ name = same n name k in
        let c : v ≡ x = cc in
        given_as u (h ∙ ap₂ (λ (y : Text) (z : Option Text). (y, z)) (sym a) (sym c))
    go false k f = more name x f u h

pub valued_askable : (t : Table) (n v : Text) (rest : List Given) → IsValued t n → IsPlain v → AreAskable t rest → AreAskable t ((n, Some v) ∷ rest)
valued_askable t n v rest k p more = also_askable t n (Some v) rest given_as more
  where
    given_as : (u : Use) → given_by u ≡ (n, Some v) → IsUse t u
    given_as (flag m) e = let bad : None ≡ Some v = ap (λ (g : Given). g.1) e in absurd cc
    given_as (apart m w) e =
        let a : m ≡ n = ap (λ (g : Given). g.0) e in
        let y : Some w ≡ Some v = ap (λ (g : Given). g.1) e in
        let b : w ≡ v = cc in
        rw (a, b) (k.0, k.1, p.0, p.1, p.2)
    given_as (joined m w) e =
        let a : m ≡ n = ap (λ (g : Given). g.0) e in
        let y : Some w ≡ Some v = ap (λ (g : Given). g.1) e in
        let b : w ≡ v = cc in
        rw (a, b) (k.0, k.2 v)

pub flag_askable : (t : Table) (n : Text) (rest : List Given) → lookup n t ≡ Some false → long_of (word_by n None) ≡ Some (n, None) → AreAskable t rest
    → AreAskable t ((n, None) ∷ rest)
flag_askable t n rest k l more = also_askable t n None rest given_as more
  where
    given_as : (u : Use) → given_by u ≡ (n, None) → IsUse t u
    given_as (flag m) e = let a : m ≡ n = ap (λ (g : Given). g.0) e in rw a (k, l)
    given_as (apart m w) e = let bad : Some w ≡ None = ap (λ (g : Given). g.1) e in absurd cc
    given_as (joined m w) e = let bad : Some w ≡ None = ap (λ (g : Given). g.1) e in absurd cc
