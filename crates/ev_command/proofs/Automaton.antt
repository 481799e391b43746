-- clap's walk over options with long names alone, as an automaton.
use Rattle.std.proofs.Common.{◌≡◌, ◌∙◌, ℕ, Bool, true, false, List, [], ◌∷◌, ◌++◌, map, length, Option, Some, None, refl, sym, ap, subst, zero, suc, codes, is_some, append-nil, ◌⊎◌, inl, inr, true≢false}
use Rattle.std.specs.Prelude.{if◌then◌else◌, ◌&&◌, ◌||◌, not, slice_get}
use Rattle.std.specs.List.{fold, list_any}
use Rattle.std.specs.Option.{option_map, option_map_or}
use Rattle.std.specs.Str.{bytes_eq, chars}
use Rattle.std.proofs.lemmas.Slice.Eq.{bytes_eq-Decides}
use Rattle.clap.specs.Lexer.{long_of, short_of}
use Rattle.clap.specs.Kinds.{Kinds, or_else}
use Rattle.clap.specs.Walk.{Held, Row, Rule, Waiting, Walk, idle, positional, option, plain, arg_by_id, arg_by_index, arg_by_long, arg_by_short, has_row, at_row, bundle_met, settled, used, more_values, reacted, walked, after_flag, long_met, Step, after_step, long_or_other, plain_word, short_or_plain, subcommand_met, nothing_held, rows_after, walk, with_default, finished}
use Rattle.clap.specs.Takes.{is_given}
use Rattle.clap.specs.Simple.{App, entered, Shape, new_rule, new_shape}
use Rattle.clap.specs.Faults.{flag_word_fault, flags_fault, settle_fault, step_fault, turn_fault, default_fault, defaults_fault, built_fault, entered_fault, check_fault, long_fault, bundle_fault, react_fault, use_fault, walk_fault}
use Rattle.clap.specs.declared.builder.action.ArgAction.TheVariants.{Set, SetTrue}
use Rattle.clap.specs.declared.builder.value_parser.ValueParser.TheVariants as vp
use Rattle.clap.specs.declared.error.kind.ErrorKind.TheVariants as kind
use Rattle.clap.specs.declared.parser.matches.ValueSource.TheVariants.{CommandLine}
use Rattle.clap.specs.Values.{reading_of}
use Rattle.ev_command.specs.Apps.{Table, has_dashes}
use Rattle.ev_command.specs.Uses.{Text, Given, lookup}

-- ---- tests

pub same : (a b : Text) → bytes_eq a b ≡ true → a ≡ b
same a b h = (bytes_eq-Decides a b).0 h

pub eq_self : (a : Text) → bytes_eq a a ≡ true
eq_self a = (bytes_eq-Decides a a).1 refl

-- ---- the options of a command

abbrev pub rule : Text → Bool → Rule
rule n true = record (new_rule n) {
  long = Some n;
  action = Some Set;
  parser = Some vp.String;
  range = Some (record { start_inclusive = 1; end_inclusive = 1 });
}
rule n false = record (new_rule n) {
  long = Some n;
  action = Some SetTrue;
  defaults = codes "false" ∷ [];
  missing = codes "true" ∷ [];
  parser = Some vp.Bool;
  range = Some (record { start_inclusive = 0; end_inclusive = 0 });
}

abbrev pub rules_for : Table → List Rule
rules_for t = map (λ p. rule p.0 p.1) t

abbrev pub shape : Text → Table → Shape
shape name t = record (new_shape name) {
  rules = rules_for t;
  no_binary_name = true;
  disable_help_flag = true;
  disable_help_subcommand = true;
  disable_version_flag = true;
  is_built = true;
}

-- ---- the matches of what was given

abbrev pub row_by : Text → Option Text → Row
row_by n (Some v) = record { id = n; values = v ∷ []; count = None; source = Some CommandLine; reading = reading_of vp.String }
row_by n None = record { id = n; values = codes "true" ∷ []; count = None; source = Some CommandLine; reading = reading_of vp.Bool }

abbrev pub rows_for : List Given → List Row
rows_for gs = map (λ g. row_by g.0 g.1) gs

abbrev pub has : Text → List Given → Bool
has n gs = is_some (lookup n gs)

row_id : (n : Text) (v : Option Text) → (row_by n v).id ≡ n
row_id n (Some v) = refl
row_id n None = refl

pub row_found : (n : Text) (gs : List Given) → has_row n (rows_for gs) ≡ has n gs
row_found n [] = refl
row_found n (g ∷ gs) = rw (row_id g.0 g.1) (go (bytes_eq g.0 n) (row_found n gs))
  where
    go : (b : Bool) → has_row n (rows_for gs) ≡ has n gs → (b || has_row n (rows_for gs)) ≡ is_some (if b then Some g.1 else lookup n gs)
    go true r = refl
    go false r = r

-- a change of a row that isn't there
pub at_none : (n : Text) (change : Row → List Row) (missing rows : List Row) → has_row n rows ≡ false → at_row n change missing rows ≡ rows ++ missing
at_none n change missing [] h = refl
at_none n change missing (r ∷ rs) h = go (bytes_eq r.id n) h (at_none n change missing rs)
  where
    go : (b : Bool) → (b || has_row n rs) ≡ false → (has_row n rs ≡ false → at_row n change missing rs ≡ rs ++ missing)
        → (if b then change r ++ rs else r ∷ at_row n change missing rs) ≡ r ∷ (rs ++ missing)
    go true f more = absurd (true≢false f)
    go false f more = ap (λ xs. r ∷ xs) (more f)

-- ---- finding a rule

pub find_long : (t : Table) (n : Text) → arg_by_long (rules_for t) n ≡ option_map (rule n) (lookup n t)
find_long [] n = refl
find_long (p ∷ ps) n = go p.0 p.1 (bytes_eq p.0 n) refl (find_long ps n)
  where
    go : (m : Text) (k b : Bool) → bytes_eq m n ≡ b → arg_by_long (rules_for ps) n ≡ option_map (rule n) (lookup n ps)
        → arg_by_long (rule m k ∷ rules_for ps) n ≡ option_map (rule n) (if b then Some k else lookup n ps)
    go m true true e r = rw (same m n e, eq_self n) refl
    go m false true e r = rw (same m n e, eq_self n) refl
    go m true false e r = rw e r
    go m false false e r = rw e r

pub find_id : (t : Table) (n : Text) → arg_by_id (rules_for t) n ≡ option_map (rule n) (lookup n t)
find_id [] n = refl
find_id (p ∷ ps) n = go p.0 p.1 (bytes_eq p.0 n) refl (find_id ps n)
  where
    go : (m : Text) (k b : Bool) → bytes_eq m n ≡ b → arg_by_id (rules_for ps) n ≡ option_map (rule n) (lookup n ps)
        → arg_by_id (rule m k ∷ rules_for ps) n ≡ option_map (rule n) (if b then Some k else lookup n ps)
    go m true true e r = rw (same m n e, eq_self n) refl
    go m false true e r = rw (same m n e, eq_self n) refl
    go m true false e r = rw e r
    go m false false e r = rw e r

pub no_short : (t : Table) (x : ℕ) → arg_by_short (rules_for t) x ≡ None
no_short [] x = refl
no_short (p ∷ ps) x = go p.0 p.1 (no_short ps x)
  where
    go : (m : Text) (k : Bool) → arg_by_short (rules_for ps) x ≡ None → arg_by_short (rule m k ∷ rules_for ps) x ≡ None
    go m true r = r
    go m false r = r

pub no_index : (t : Table) (i : ℕ) → arg_by_index (rules_for t) i ≡ None
no_index [] i = refl
no_index (p ∷ ps) i = go p.0 p.1 (no_index ps i)
  where
    go : (m : Text) (k : Bool) → arg_by_index (rules_for ps) i ≡ None → arg_by_index (rule m k ∷ rules_for ps) i ≡ None
    go m true r = r
    go m false r = r

-- ---- the automaton

-- nothing waits; an option has its value, and isn't settled; an option waits for its value
pub data Phase : Type 0 where
  clean : Phase
  held : Text → Text → Phase
  wanting : Text → Phase

abbrev pub settle : List Given → Phase → Option (List Given)
settle gs clean = Some gs
settle gs (held n v) = if has n gs then None else Some (gs ++ (n, Some v) ∷ [])
settle gs (wanting n) = None

abbrev pub State : Type 0
State = List Given × Phase

abbrev pub opened : Option (List Given) → Text → Option Text → Option Bool → Option State
opened s n v None = None
opened None n v (Some k) = None
opened (Some gs) n None (Some true) = Some (gs, wanting n)
opened (Some gs) n (Some x) (Some true) = if has n gs then None else Some (gs ++ (n, Some x) ∷ [], clean)
opened (Some gs) n None (Some false) = if has n gs then None else Some (gs ++ (n, None) ∷ [], clean)
opened (Some gs) n (Some x) (Some false) = None

-- a bundle of short flags has a first
abbrev pub reads_flag : ℕ → Text → Bool
reads_flag zero flags = false
reads_flag (suc k) flags = is_some (slice_get (chars flags) 0)

abbrev pub is_value_by : Option Text → Bool
is_value_by None = true
is_value_by (Some flags) = not (reads_flag (length flags) flags)

abbrev pub is_value : Text → Bool
is_value w = is_value_by (short_of w)

abbrev pub by_value : List Given → Phase → Text → Bool → Option State
by_value gs (wanting n) w b = if b then Some (gs, held n w) else None
by_value gs _ w b = None

abbrev pub step_by : Table → List Given → Phase → Text → Option (Text × Option Text) → Option State
step_by t gs ph w (Some p) = opened (settle gs ph) p.0 p.1 (lookup p.0 t)
step_by t gs ph w None = by_value gs ph w (is_value w)

abbrev pub step : Table → List Given → Phase → Text → Option State
step t gs ph w = step_by t gs ph w (long_of w)

-- what is given at the end
abbrev pub then_run : Option State → (State → Option (List Given)) → Option (List Given)
then_run None next = None
then_run (Some s) next = next s

abbrev pub run : Table → List Text → List Given → Phase → Option (List Given)
run t [] gs ph = settle gs ph
run t (w ∷ ws) gs ph = then_run (step t gs ph w) (λ s. run t ws s.0 s.1)

-- ---- clap's walk at the automaton's states

abbrev pub pending_at : Phase → Option (Text × List Text)
pending_at clean = None
pending_at (held n v) = Some (n, v ∷ [])
pending_at (wanting n) = Some (n, [])

abbrev pub waiting_at : Phase → Waiting
waiting_at (wanting n) = option n
waiting_at _ = idle

abbrev pub held_at : List Given → Phase → Held
held_at gs ph = record { rows = rows_for gs; pending = pending_at ph; skip = 0 }

abbrev pub walk_at : List Given → Phase → Walk
walk_at gs ph = record { held = held_at gs ph; waiting = waiting_at ph; position = 1; is_trailing = false; stopped = None }

-- the option of the phase takes a value
abbrev pub IsKnown : Table → Phase → Type 0
IsKnown t clean = Unit {0}
IsKnown t (held n v) = lookup n t ≡ Some true
IsKnown t (wanting n) = lookup n t ≡ Some true

-- no fault, and the fact of what comes; or a fault
abbrev pub Agrees : {X : Type 0} → Option X → Kinds → (X → Type 0) → Type 0
Agrees None faults P = faults ≡ [] → ⊥
Agrees (Some x) faults P = (faults ≡ []) × P x

-- ---- uses

add_row : (n : Text) (x : Option Text) (gs : List Given) → rows_for (gs ++ (n, x) ∷ []) ≡ rows_for gs ++ row_by n x ∷ []
add_row n x [] = refl
add_row n x (g ∷ gs) = ap (λ rs. row_by g.0 g.1 ∷ rs) (add_row n x gs)

-- the values of a use
abbrev pub values_by : Option Text → List Text
values_by None = []
values_by (Some v) = v ∷ []

fresh : (n : Text) (gs : List Given) (missing : List Row) (change : Row → List Row) → has n gs ≡ false → at_row n change missing
    (at_row n (λ _. []) [] (rows_for gs)) ≡ rows_for gs ++ missing
fresh n gs missing change h =
    let none : has_row n (rows_for gs) ≡ false = row_found n gs ∙ h in
    let gone : at_row n (λ _. []) [] (rows_for gs) ≡ rows_for gs = at_none n (λ _. []) [] (rows_for gs) none ∙ append-nil (rows_for gs) in
    ap (at_row n change missing) gone ∙ at_none n change missing (rows_for gs) none

pub use_is : (n : Text) (x : Option Text) (gs : List Given) → has n gs ≡ false → used (rule n (is_some x)) (values_by x) (rows_for gs)
    ≡ rows_for (gs ++ (n, x) ∷ [])
use_is n (Some v) gs h = fresh n gs _ (more_values CommandLine (v ∷ [])) h ∙ sym (add_row n (Some v) gs)
use_is n None gs h = fresh n gs _ (more_values CommandLine (codes "true" ∷ [])) h ∙ sym (add_row n None gs)

pub use_free : (n : Text) (x : Option Text) (gs : List Given) → has n gs ≡ false → use_fault false (rule n (is_some x)) (values_by x) (rows_for gs) ≡ []
use_free n (Some v) gs h = rw (row_found n gs, h) refl
use_free n None gs h = rw (row_found n gs, h) refl

pub use_again : (n : Text) (x : Option Text) (gs : List Given) → has n gs ≡ true → use_fault false (rule n (is_some x)) (values_by x) (rows_for gs) ≡ [] → ⊥
use_again n (Some v) gs h e = let bad : ◌≡◌ {A = Kinds} (kind.ArgumentConflict ∷ []) [] = rw (row_found n gs, h) at e in absurd cc
use_again n None gs h e = let bad : ◌≡◌ {A = Kinds} (kind.ArgumentConflict ∷ []) [] = rw (row_found n gs, h) at e in absurd cc

pub settles : (t : Table) (gs : List Given) (ph : Phase) → IsKnown t ph
    → Agrees (settle gs ph) (settle_fault (rules_for t) false (held_at gs ph)) (λ g. settled (rules_for t) (held_at gs ph) ≡ held_at g clean)
settles t gs clean k = (refl, refl)
settles t gs (held n v) k = go (has n gs) refl
  where
    go : (b : Bool) → has n gs ≡ b → Agrees (if b then None else Some (gs ++ (n, Some v) ∷ [])) (settle_fault (rules_for t) false (held_at gs (held n v)))
        (λ g. settled (rules_for t) (held_at gs (held n v)) ≡ held_at g clean)
    go true h = rw (find_id t n, k) (use_again n (Some v) gs h)
    go false h = rw (find_id t n, k) (
      use_free n (Some v) gs h,
      ap (λ (rs : List Row). record { rows = rs; pending = None; skip = 0 })
          (use_is n (Some v) gs h),
    )
settles t gs (wanting n) k = rw (find_id t n, k) (λ e. absurd cc)

-- ---- steps

or_left : (x y : Kinds) → or_else x y ≡ [] → x ≡ []
or_left [] y e = refl
or_left (k ∷ ks) y e = absurd cc

or_right : (x y : Kinds) → or_else x y ≡ [] → y ≡ []
or_right [] y e = e
or_right (k ∷ ks) y e = absurd cc

or_both : (x y : Kinds) → x ≡ [] → y ≡ [] → or_else x y ≡ []
or_both x y e f = rw e f

no_subcommand : (wt : Waiting) (w : Text) → subcommand_met [] wt w ≡ None
no_subcommand idle w = refl
no_subcommand (option id) w = refl
no_subcommand positional w = refl

abbrev pub IsBundle : List Rule → ℕ → Text → Held → Type 0
IsBundle c k flags h = ((reads_flag k flags ≡ true) × (flags_fault c false k flags 0 h ≡ [] → ⊥))
    ⊎ ((reads_flag k flags ≡ false) × (flags_fault c false k flags 0 h ≡ []) × (bundle_met c k flags 0 plain h ≡ (h, plain)))

bundle_is : (t : Table) (k : ℕ) (flags : Text) (h : Held) → IsBundle (rules_for t) k flags h
unfolding bundle_met flags_fault
bundle_is t zero flags h = inr (refl, refl, refl)
bundle_is t (suc k) flags h = go (slice_get (chars flags) 0) refl
  where
    go : (o : Option ℕ) → slice_get (chars flags) 0 ≡ o → IsBundle (rules_for t) (suc k) flags h
    go None e = inr (rw e refl, rw e refl, rw e refl)
    go (Some x) e = inl (rw e refl, rw (e, no_short t x) (λ f. absurd cc))

module _ (name : Text) (t : Table) (gs : List Given) (ph : Phase) (known : IsKnown t ph) (w : Text) where
  abbrev met : Option (Text × Option Text) → Held × Step
  met lw = long_or_other (rules_for t) (waiting_at ph) w lw (held_at gs ph)

  abbrev Steps : Option State → Kinds → Held × Step → Type 0
  Steps o first m = Agrees o (or_else first (step_fault (shape name t) 1 m.0 m.1)) (λ s. after_step (rules_for t) w (walk_at gs ph) m.0 m.1 ≡ walk_at s.0 s.1)

  used_steps : (n : Text) (x : Option Text) (g : List Given) → settle_fault (rules_for t) false (held_at gs ph) ≡ [] → settled (rules_for t) (held_at gs ph)
      ≡ held_at g clean
      → Agrees {X = State} (if has n g then None else Some (g ++ (n, x) ∷ [], clean))
      (or_else (react_fault (rules_for t) false (rule n (is_some x)) (values_by x) (held_at gs ph)) [])
      (λ s. ◌≡◌ {A = Walk} (record {
        held = reacted (rules_for t) (rule n (is_some x)) (values_by x) (held_at gs ph);
        waiting = idle;
        position = 1;
        is_trailing = false;
        stopped = None;
      }) (walk_at s.0 s.1))
  used_steps n x g free is = go (has n g) refl
    where
      go : (b : Bool) → has n g ≡ b → Agrees {X = State} (if b then None else Some (g ++ (n, x) ∷ [], clean))
          (or_else (react_fault (rules_for t) false (rule n (is_some x)) (values_by x) (held_at gs ph)) [])
          (λ s. ◌≡◌ {A = Walk} (record {
            held = reacted (rules_for t) (rule n (is_some x)) (values_by x) (held_at gs ph);
            waiting = idle;
            position = 1;
            is_trailing = false;
            stopped = None;
          }) (walk_at s.0 s.1))
      go true h = λ e. use_again n x g h (subst (λ (q : Held). use_fault false (rule n (is_some x)) (values_by x) q.rows ≡ []) is
          (or_right _ _ (or_left _ _ e)))
      go false h = (
        or_both _ _ (or_both _ _ free (subst (λ (q : Held). use_fault false (rule n (is_some x)) (values_by x) q.rows ≡ []) (sym is) (use_free n x g h)))
            refl,
        ap (λ (q : Held). record {
          held = record { rows = used (rule n (is_some x)) (values_by x) q.rows; pending = None; skip = 0 };
          waiting = idle;
          position = 1;
          is_trailing = false;
          stopped = None;
        }) is
            ∙ ap (λ (rs : List Row). record {
              held = record { rows = rs; pending = None; skip = 0 };
              waiting = idle;
              position = 1;
              is_trailing = false;
              stopped = None;
            }) (use_is n x g h),
      )

  long_steps : (n : Text) (v : Option Text) (k : Option Bool) (o : Option (List Given))
      → Agrees o (settle_fault (rules_for t) false (held_at gs ph)) (λ g. settled (rules_for t) (held_at gs ph) ≡ held_at g clean)
      → Steps (opened o n v k) (long_fault (rules_for t) false (option_map (rule n) k) v (held_at gs ph))
      (after_flag (rules_for t) (waiting_at ph) w (long_met (rules_for t) (option_map (rule n) k) v (held_at gs ph)).0
      (long_met (rules_for t) (option_map (rule n) k) v (held_at gs ph)).1)
  long_steps n v None None a = λ e. absurd cc
  long_steps n v None (Some g) a = λ e. absurd cc
  long_steps n None (Some true) None a = λ e. a (or_left _ _ e)
  long_steps n (Some x) (Some true) None a = λ e. a (or_left _ _ (or_left _ _ e))
  long_steps n None (Some false) None a = λ e. a (or_left _ _ (or_left _ _ e))
  long_steps n (Some x) (Some false) None a = λ e. absurd cc
  long_steps n None (Some true) (Some g) a = (
    or_both _ _ a.0 refl,
    ap (λ (x : Held). record {
      held = record x { pending = Some (n, []) };
      waiting = option n;
      position = 1;
      is_trailing = false;
      stopped = None;
    }) a.1,
  )
  long_steps n (Some x) (Some true) (Some g) a = used_steps n (Some x) g a.0 a.1
  long_steps n None (Some false) (Some g) a = used_steps n None g a.0 a.1
  long_steps n (Some x) (Some false) (Some g) a = λ e. absurd cc

plain_steps : (name : Text) (t : Table) (gs : List Given) (ph : Phase) → (k : IsKnown t ph) → (w : Text)
    → Steps name t gs ph k w (by_value gs ph w true) [] (plain_word (rules_for t) (waiting_at ph) w (held_at gs ph))
plain_steps name t gs clean k w = rw (no_index t 1) (λ e. absurd cc)
plain_steps name t gs (held n v) k w = rw (no_index t 1) (λ e. absurd cc)
plain_steps name t gs (wanting n) k w = rw (find_id t n, k, eq_self n) (refl, refl)

no_value : (gs : List Given) (ph : Phase) (w : Text) → by_value gs ph w false ≡ None
no_value gs clean w = refl
no_value gs (held n v) w = refl
no_value gs (wanting n) w = refl

value_steps : (name : Text) (t : Table) (gs : List Given) (ph : Phase) → (k : IsKnown t ph) → (w : Text) (sf : Option Text)
    → Steps name t gs ph k w (by_value gs ph w (is_value_by sf)) (option_map_or (λ flags. bundle_fault (rules_for t) false flags (held_at gs ph)) sf [])
    (short_or_plain (rules_for t) (waiting_at ph) w sf (held_at gs ph))
value_steps name t gs ph k w None = plain_steps name t gs ph k w
value_steps name t gs ph k w (Some flags) = elim (bundle_is t (length flags) flags (held_at gs ph)) [
  | inl b ↦ rw (b.0, no_value gs ph w) (λ e. b.1 (or_left _ _ e))
  | inr b ↦ rw (b.0, b.1, b.2) (plain_steps name t gs ph k w)
]

-- one more word
pub steps : (name : Text) (t : Table) (gs : List Given) (ph : Phase) → IsKnown t ph → (w : Text) → bytes_eq w (45 ∷ 45 ∷ []) ≡ false
    → Agrees (step t gs ph w) (turn_fault (shape name t) [] (walk_at gs ph) w) (λ s. walked (rules_for t) [] (walk_at gs ph) w ≡ walk_at s.0 s.1)
unfolding walked
steps name t gs ph k w h = rw (no_subcommand (waiting_at ph) w, h) (go (long_of w))
  where
    go : (lw : Option (Text × Option Text)) → Steps name t gs ph k w (step_by t gs ph w lw) (flag_word_fault (rules_for t) false lw w (held_at gs ph))
        (met name t gs ph k w lw)
    go None = value_steps name t gs ph k w (short_of w)
    go (Some p) = rw (find_long t p.0) (long_steps name t gs ph k w p.0 p.1 (lookup p.0 t) (settle gs ph) (settles t gs ph k))

-- ---- all words

-- the fact of what is there
abbrev pub After : {X : Type 0} → Option X → (X → Type 0) → Type 0
After None P = Unit {0}
After (Some x) P = P x

known_opened : (t : Table) (o : Option (List Given)) (n : Text) (v : Option Text) (k : Option Bool) → lookup n t ≡ k → After (opened o n v k)
    (λ s. IsKnown t s.1)
known_opened t None n v None e = tt
known_opened t (Some g) n v None e = tt
known_opened t None n v (Some k) e = tt
known_opened t (Some g) n None (Some true) e = e
known_opened t (Some g) n (Some x) (Some true) e = go (has n g)
  where
    go : (b : Bool) → After {X = State} (if b then None else Some (g ++ (n, Some x) ∷ [], clean)) (λ s. IsKnown t s.1)
    go true = tt
    go false = tt
known_opened t (Some g) n None (Some false) e = go (has n g)
  where
    go : (b : Bool) → After {X = State} (if b then None else Some (g ++ (n, None) ∷ [], clean)) (λ s. IsKnown t s.1)
    go true = tt
    go false = tt
known_opened t (Some g) n (Some x) (Some false) e = tt

known_value : (t : Table) (gs : List Given) (ph : Phase) (w : Text) (b : Bool) → IsKnown t ph → After (by_value gs ph w b) (λ s. IsKnown t s.1)
known_value t gs clean w b k = tt
known_value t gs (held n v) w b k = tt
known_value t gs (wanting n) w true k = k
known_value t gs (wanting n) w false k = tt

pub known : (t : Table) (gs : List Given) (ph : Phase) (w : Text) → IsKnown t ph → After (step t gs ph w) (λ s. IsKnown t s.1)
known t gs ph w k = go (long_of w)
  where
    go : (lw : Option (Text × Option Text)) → After (step_by t gs ph w lw) (λ s. IsKnown t s.1)
    go None = known_value t gs ph w (is_value w) k
    go (Some p) = known_opened t (settle gs ph) p.0 p.1 (lookup p.0 t) refl

either_false : (a b : Bool) → (a || b) ≡ false → (a ≡ false) × (b ≡ false)
either_false true b e = absurd (true≢false e)
either_false false b e = (refl, e)

abbrev pub Runs : Text → Table → List Text → Option (List Given) → Walk → Type 0
Runs name t ws o w = Agrees o (or_else (walk_fault (shape name t) [] w ws) (settle_fault (rules_for t) false (fold (walked (rules_for t) []) w ws).held))
    (λ g. (settled (rules_for t) (fold (walked (rules_for t) []) w ws).held ≡ held_at g clean) × ((fold (walked (rules_for t) []) w ws).stopped ≡ None))

with_free : {X : Type 0} (o : Option X) (f : Kinds) (P Q : X → Type 0) → Agrees o f P → ((x : X) → P x → Q x) → Agrees o f Q
with_free None f P Q a m = a
with_free (Some x) f P Q a m = (a.0, m x a.1)

pub runs : (name : Text) (t : Table) (ws : List Text) (gs : List Given) (ph : Phase) → IsKnown t ph → has_dashes ws ≡ false → Runs name t ws (run t ws gs ph)
    (walk_at gs ph)
unfolding walk_fault
runs name t [] gs ph k d = with_free (settle gs ph) _ (λ g. settled (rules_for t) (held_at gs ph) ≡ held_at g clean)
    (λ g. (settled (rules_for t) (held_at gs ph) ≡ held_at g clean) × ((walk_at gs ph).stopped ≡ None)) (settles t gs ph k) (λ g e. (e, refl))
runs name t (w ∷ ws) gs ph k d =
    let no = either_false (bytes_eq w (45 ∷ 45 ∷ [])) (has_dashes ws) d in
    go (step t gs ph w) (turn_fault (shape name t) [] (walk_at gs ph) w) (walked (rules_for t) [] (walk_at gs ph) w)
    (steps name t gs ph k w no.0) (known t gs ph w k) (λ g p q. runs name t ws g p q no.1)
  where
    go : (o : Option State) (f : Kinds) (v : Walk) → Agrees o f (λ s. v ≡ walk_at s.0 s.1) → After o (λ s. IsKnown t s.1)
        → ((g : List Given) (p : Phase) → IsKnown t p → Runs name t ws (run t ws g p) (walk_at g p))
        → Agrees (then_run o (λ s. run t ws s.0 s.1))
        (or_else (or_else f (walk_fault (shape name t) [] v ws)) (settle_fault (rules_for t) false (fold (walked (rules_for t) []) v ws).held))
        (λ g. (settled (rules_for t) (fold (walked (rules_for t) []) v ws).held ≡ held_at g clean) × ((fold (walked (rules_for t) []) v ws).stopped ≡ None))
    go None f v a b more = λ e. a (or_left _ _ (or_left _ _ e))
    go (Some s) f v a b more = rw (a.0, a.1) (more s.0 s.1 b)

-- ---- after the words

default_none : (n : Text) (k : Bool) (rows : List Row) → default_fault rows (rule n k) ≡ []
default_none n k rows = go k (has_row n rows) refl
  where
    go : (j b : Bool) → has_row n rows ≡ b → default_fault rows (rule n j) ≡ []
    go true true e = rw e refl
    go true false e = rw e refl
    go false true e = rw e refl
    go false false e = rw e refl

defaults_none : (t : Table) (rows : List Row) → defaults_fault rows (rules_for t) ≡ []
unfolding defaults_fault
defaults_none [] rows = refl
defaults_none (p ∷ ps) rows = or_both _ _ (default_none p.0 p.1 rows) (defaults_none ps (with_default rows (rule p.0 p.1)))

none_required : (t : Table) (given : Rule → Bool) → list_any (λ a. a.required && given a) (rules_for t) ≡ false
none_required [] given = refl
none_required (p ∷ ps) given = go p.0 p.1 (none_required ps given)
  where
    go : (m : Text) (k : Bool) → list_any (λ a. a.required && given a) (rules_for ps) ≡ false → list_any (λ a. a.required && given a)
        (rule m k ∷ rules_for ps) ≡ false
    go m true r = r
    go m false r = r

abbrev pub app : Text → Table → App
app name t = record { top = shape name t; subs = [] }

none : (w b f r : Kinds) → or_else w (or_else b (or_else f r)) ≡ [] → or_else w f ≡ []
none w b f r e = or_both w f (or_left w (or_else b (or_else f r)) e) (or_left f r (or_right b (or_else f r) (or_right w (or_else b (or_else f r)) e)))

-- the options that the words give, or a fault
pub whole : (name : Text) (t : Table) (ws : List Text) → has_dashes ws ≡ false
    → Agrees (run t ws [] clean) (built_fault (app name t) nothing_held ws)
    (λ g. rows_after (rules_for t) [] ws ≡ fold with_default (rows_for g) (rules_for t))
whole name t ws d = go (run t ws [] clean) (runs name t ws [] clean tt d)
  where
    go : (o : Option (List Given)) → Runs name t ws o (walk_at [] clean)
        → Agrees o (built_fault (app name t) nothing_held ws) (λ g. rows_after (rules_for t) [] ws ≡ fold with_default (rows_for g) (rules_for t))
    go None a = λ e. a (none (walk_fault (shape name t) [] (walk_at [] clean) ws) (entered_fault (app name t) (walk (rules_for t) [] nothing_held ws).stopped)
        (settle_fault (rules_for t) false (walk (rules_for t) [] nothing_held ws).held)
        (or_else (defaults_fault (settled (rules_for t) (walk (rules_for t) [] nothing_held ws).held).rows (rules_for t))
        (check_fault (shape name t) (finished (rules_for t) (walk (rules_for t) [] nothing_held ws).held)
        (is_some (entered (app name t) (walk (rules_for t) [] nothing_held ws).stopped)))) e)
    go (Some g) a =
        let below : entered_fault (app name t) (walk (rules_for t) [] nothing_held ws).stopped ≡ [] = rw a.1.1 refl in
        let valid : check_fault (shape name t) (finished (rules_for t) (walk (rules_for t) [] nothing_held ws).held)
        (is_some (entered (app name t) (walk (rules_for t) [] nothing_held ws).stopped)) ≡ []
        = rw (a.1.1, none_required t (λ x. not (is_given x.id (finished (rules_for t) (walk (rules_for t) [] nothing_held ws).held)))) refl in (
          or_both _ _ (or_left _ _ a.0) (or_both _ _ below
              (or_both _ _ (or_right _ _ a.0) (or_both _ _ (defaults_none t (settled (rules_for t) (walk (rules_for t) [] nothing_held ws).held).rows)
              valid))),
          ap (λ (h : Held). fold with_default h.rows (rules_for t)) a.1.0,
        )
