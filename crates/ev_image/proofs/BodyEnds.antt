-- A body at its end is well-formed, apart from the others, and its functions are new.
use Rattle.std.proofs.Common.{◌≡◌, ℕ, ◌+◌, ◌≤◌, ◌<◌, Bool, true, false, not, List, [], ◌∷◌, ◌++◌, length, map, filter_map, flat_map, Option, Some, None, Result, Ok, refl, sym, ap, ◌∙◌, subst, arith, length-append, zero-add}
use Rattle.std.specs.Prelude.{◌||◌, ◌==◌, is_none}
use Rattle.std.specs.List.{list_all}
use Rattle.std.proofs.lemmas.Bool.{and_parts, and_from}
use Rattle.std.proofs.lemmas.List.{append-nil}
use Rattle.std.proofs.lemmas.Grind.{flat_map-append}
use Rattle.ev_body.specs.Bodies.{key_number}
use Rattle.ev_body.specs.WellFormed.{has_operands, ends_with, are_parts, is_key, is_user_only, is_user_side, has_no_parts, is_body, is_apart, are_apart, are_distinct, functions_of}
use Rattle.ev_body.specs.declared.key.Key.{Key}
use Rattle.ev_body.specs.declared.key.Side.{Side}
use Rattle.ev_body.specs.declared.body.Part.{Part}
use Rattle.ev_body.specs.declared.body.Body.{Body}
use Rattle.ev_io.specs.declared.cause.Cause.{Cause}
use Rattle.ev_part.specs.declared.body.BodyLines.{BodyLines}
use Rattle.ev_part.specs.PartItems.{PartView, is_ended, items_of, next_item, part_leads}
use Rattle.ev_part.specs.BodyParts.{all_parts, function_part, body_with, body_ended}
use Rattle.ev_image.specs.Head.{function_of, functions_in, is_main}
use Rattle.ev_image.proofs.Kept.{ends_as, AllParts, AreNumbered, AreFunctions, BeginsMain, funcs, is_nil, IsBodyRead, AreBodies}
use Rattle.ev_image.proofs.Lists.{unless_ok, not_false, or_true, at_most, less, all_more}
use Rattle.ev_image.proofs.Parts.{HasItems, part_items}

-- ---- the parts of a body

abbrev AllItems : ℕ → List PartView → Type 0
AllItems bytes [] = Unit {0}
AllItems bytes (p ∷ ps) = HasItems bytes p × AllItems bytes ps

all_items : (bytes : ℕ) (ps : List PartView) → AllParts bytes ps → list_all (λ (p : PartView). is_ended p.lines) ps ≡ true → list_all part_leads ps ≡ true
    → AllItems bytes ps
all_items bytes [] g e h = tt
all_items bytes (p ∷ ps) g e h =
    let a = and_parts (is_ended p.lines) (list_all (λ (q : PartView). is_ended q.lines) ps) e in
    let b = and_parts (part_leads p) (list_all part_leads ps) h in
    (part_items bytes p g.0 a.0 b.0, all_items bytes ps g.1 a.1 b.1)

-- the part of a function
abbrev part_of : ℕ → PartView → Part
part_of f p = record { func = f; items = items_of p }

with_function : (p : PartView) (ps : List PartView) (f : ℕ) → p.func ≡ Some f
    → filter_map function_part (p ∷ ps) ≡ part_of f p ∷ filter_map function_part ps
unfolding function_part
with_function p ps f e = rw e refl

without_function : (p : PartView) (ps : List PartView) → p.func ≡ None → filter_map function_part (p ∷ ps) ≡ filter_map function_part ps
unfolding function_part
without_function p ps e = rw e refl

-- the number of the item behind these parts, where the first has number n
abbrev end_of : ℕ → List PartView → ℕ
end_of n [] = n
end_of n (p ∷ ps) = end_of (next_item p) ps

end_last : (n : ℕ) (ps : List PartView) (p : PartView) → end_of n (ps ++ p ∷ []) ≡ next_item p
end_last n [] p = refl
end_last n (x ∷ xs) p = end_last (next_item x) xs p

-- ---- function parts

-- a function part with those behind it
function_by : (bytes n : ℕ) (p : PartView) (parts : List Part) (f : ℕ) → p.func ≡ Some f → f < 8 → HasItems bytes p → p.first ≡ n
    → are_parts bytes (next_item p) parts ≡ true → are_parts bytes n (part_of f p ∷ parts) ≡ true
function_by bytes n p parts f e l g s h =
    let main : is_main p ≡ false = ap is_none e in
    let ends = ap (λ (b : Bool). ends_with (ends_as b) (items_of p)) (sym main) ∙ g.ends in
    let operands = ap (λ (m : ℕ). list_all (has_operands bytes m (m + length (items_of p))) (items_of p)) (sym s) ∙ g.operands in
    let next : n + length (items_of p) ≡ next_item p = omega (arith, g.count, s) in
    and_from _ _ (and_from _ _ (and_from _ _ (less f 8 l) ends) operands) (ap (λ (m : ℕ). are_parts bytes m parts) next ∙ h)

functions_fit : (bytes n : ℕ) (ps : List PartView) → AllItems bytes ps → AreFunctions (funcs ps) → AreNumbered n ps
    → are_parts bytes n (filter_map function_part ps) ≡ true
functions_fit bytes n [] g h s = refl
functions_fit bytes n (p ∷ ps) g h s = by p.func refl h (λ k. functions_fit bytes (next_item p) ps g.1 k s.1)
  where
    by : (o : Option ℕ) → p.func ≡ o → AreFunctions (o ∷ funcs ps)
        → (AreFunctions (funcs ps) → are_parts bytes (next_item p) (filter_map function_part ps) ≡ true)
        → are_parts bytes n (filter_map function_part (p ∷ ps)) ≡ true
    by None e h go = absurd h
    by (Some f) e h go = ap (are_parts bytes n) (with_function p ps f e)
        ∙ function_by bytes n p (filter_map function_part ps) f e h.0 g.0 s.0 (go h.1)

items_many : (bytes n : ℕ) (ps : List PartView) → AllItems bytes ps → AreFunctions (funcs ps) → AreNumbered n ps
    → n + length (flat_map (λ (part : Part). part.items) (filter_map function_part ps)) ≡ end_of n ps
items_many bytes n [] g h s = omega arith
items_many bytes n (p ∷ ps) g h s = by p.func refl h (λ k. items_many bytes (next_item p) ps g.1 k s.1)
  where
    by : (o : Option ℕ) → p.func ≡ o → AreFunctions (o ∷ funcs ps)
        → (AreFunctions (funcs ps)
        → next_item p + length (flat_map (λ (part : Part). part.items) (filter_map function_part ps)) ≡ end_of (next_item p) ps)
        → n + length (flat_map (λ (part : Part). part.items) (filter_map function_part (p ∷ ps))) ≡ end_of (next_item p) ps
    by None e h go = absurd h
    by (Some f) e h go =
        let k = ap (λ (ls : List Part). length (flat_map (λ (part : Part). part.items) ls)) (with_function p ps f e) in
        let long = length-append (items_of p) (flat_map (λ (part : Part). part.items) (filter_map function_part ps)) in
        let more = go h.1 in
        let count = g.0.count in
        let first = s.0 in
        omega (arith, k, long, more, count, first)

funcs_are : (ps : List PartView) → map (λ (part : Part). part.func) (filter_map function_part ps) ≡ functions_in ps
funcs_are [] = refl
funcs_are (p ∷ ps) = by p.func refl (funcs_are ps)
  where
    none : (o : Option ℕ) → o ≡ None → (let ns : List ℕ = elim o [ None ↦ [] | Some func ↦ func ∷ [] ] in ns) ≡ []
    none o e = rw e refl

    some : (o : Option ℕ) (f : ℕ) → o ≡ Some f → (let ns : List ℕ = elim o [ None ↦ [] | Some func ↦ func ∷ [] ] in ns) ≡ f ∷ []
    some o f e = rw e refl

    by : (o : Option ℕ) → p.func ≡ o → map (λ (part : Part). part.func) (filter_map function_part ps) ≡ functions_in ps
        → map (λ (part : Part). part.func) (filter_map function_part (p ∷ ps)) ≡ function_of p ++ functions_in ps
    by None e more = ap (map (λ (part : Part). part.func)) (without_function p ps e) ∙ more
        ∙ ap (λ (ns : List ℕ). ns ++ functions_in ps) (sym (none p.func e))
    by (Some f) e more = ap (map (λ (part : Part). part.func)) (with_function p ps f e) ∙ ap (λ (ns : List ℕ). f ∷ ns) more
        ∙ ap (λ (ns : List ℕ). ns ++ functions_in ps) (sym (some p.func f e))

-- ---- the body

calls_fit : (qs : List PartView) (k : Bool) → (is_nil qs || k) ≡ true → (has_no_parts (filter_map function_part qs) || k) ≡ true
calls_fit [] k h = refl
calls_fit (q ∷ qs) k h = by (has_no_parts (filter_map function_part (q ∷ qs)))
  where
    by : (b : Bool) → (b || k) ≡ true
    by true = refl
    by false = h

-- what is known of a body but its items
pub record HasKey (key : Key) (side : Side) : Type 0 where
  pub is : is_key key ≡ true
  pub runs : (not (is_user_only key) || is_user_side side) ≡ true

body_by : (bytes : ℕ) (key : Key) (side : Side) (p : PartView) (qs : List PartView) → HasKey key side → AllItems bytes (p ∷ qs)
    → BeginsMain (funcs (p ∷ qs)) → AreNumbered 0 (p ∷ qs) → end_of 0 (p ∷ qs) ≤ 256 → (is_nil qs || (key_number key == 0xfb)) ≡ true
    → is_body bytes (body_with key side (p ∷ qs)) ≡ true
body_by bytes key side p qs k g h s l c = by p.func refl h
  where
    by : (o : Option ℕ) → p.func ≡ o → BeginsMain (o ∷ funcs qs) → is_body bytes (body_with key side (p ∷ qs)) ≡ true
    by (Some f) e h = absurd h
    by None e h =
        let main : is_main p ≡ true = ap is_none e in
        let ends = ap (λ (b : Bool). ends_with (ends_as b) (items_of p)) (sym main) ∙ g.0.ends in
        let many = length (items_of p) in
        let operands = ap (λ (m : ℕ). list_all (has_operands bytes 0 m) (items_of p)) (sym (zero-add many))
        ∙ ap (λ (m : ℕ). list_all (has_operands bytes m (m + many)) (items_of p)) (sym s.0) ∙ g.0.operands in
        let count = g.0.count in
        let first = s.0 in
        let next : next_item p ≡ many = omega (arith, count, first) in
        let fit = functions_fit bytes (next_item p) qs g.1 h s.1 in
        let all = items_many bytes (next_item p) qs g.1 h s.1 in
        let long = length-append (items_of p) (flat_map (λ (part : Part). part.items) (filter_map function_part qs)) in
        let whole : Body = record { key = key; side = side; items = items_of p; parts = filter_map function_part qs } in
        let same : body_with key side (p ∷ qs) ≡ whole =
        ap (λ (parts : List Part). record { key = key; side = side; items = items_of p; parts = parts }) (without_function p qs e) in
        ap (is_body bytes) same
        ∙ and_from _ _
        (and_from _ _ (and_from _ _ (and_from _ _ (and_from _ _ (and_from _ _ k.is k.runs) ends) operands) (calls_fit qs (key_number key == 0xfb) c))
        (ap (λ (m : ℕ). are_parts bytes m (filter_map function_part qs)) (sym next) ∙ fit))
        (at_most (length (items_of p ++ flat_map (λ (part : Part). part.items) (filter_map function_part qs))) 256 (omega (arith, long, all, next, l)))

-- a body of parts of which the last is this one
body_fits : (bytes : ℕ) (key : Key) (side : Side) (fs : List PartView) (p : PartView) → HasKey key side → AllItems bytes (fs ++ p ∷ [])
    → BeginsMain (funcs (fs ++ p ∷ [])) → AreNumbered 0 (fs ++ p ∷ []) → next_item p ≤ 256 → (is_nil fs || (key_number key == 0xfb)) ≡ true
    → is_body bytes (body_with key side (fs ++ p ∷ [])) ≡ true
body_fits bytes key side [] p k g h s l c = body_by bytes key side p [] k g h s l c
body_fits bytes key side (x ∷ xs) p k g h s l c =
    let e = end_last (next_item x) xs p in
    body_by bytes key side x (xs ++ p ∷ []) k g h s (omega (arith, e, l)) (or_true (is_nil (xs ++ p ∷ [])) (key_number key == 0xfb) c)

-- ---- the bodies with one more

apart_more : (bs : List Body) (b : Body) → are_apart bs ≡ true → list_all (λ c. is_apart c b) bs ≡ true → are_apart (bs ++ b ∷ []) ≡ true
apart_more [] b h k = refl
apart_more (x ∷ xs) b h k =
    let p = and_parts (list_all (is_apart x) xs) (are_apart xs) h in
    let q = and_parts (is_apart x b) (list_all (λ c. is_apart c b) xs) k in
    and_from (list_all (is_apart x) (xs ++ b ∷ [])) (are_apart (xs ++ b ∷ [])) (all_more (is_apart x) xs b p.0 q.0) (apart_more xs b p.1 q.1)

abbrev funcs_in : Body → List ℕ
funcs_in b = map (λ (part : Part). part.func) b.parts

one_more : (bytes : ℕ) (bodies : List Body) (b : BodyLines) → IsBodyRead bytes bodies b → AreBodies bytes bodies → is_ended b.part.lines ≡ true
    → list_all part_leads (all_parts b) ≡ true → AreBodies bytes (bodies ++ body_with b.key b.side (all_parts b) ∷ [])
one_more bytes bodies b g h e l =
    let ps = all_parts b in
    let body = body_with b.key b.side ps in
    let items = all_items bytes ps g.parts (all_more (λ (p : PartView). is_ended p.lines) b.finished b.part g.ended e) l in
    record {
      few = omega (arith, length-append bodies (body ∷ []), g.room);
      fit = all_more (is_body bytes) bodies body h.fit
          (body_fits bytes b.key b.side b.finished b.part (record { is = g.key; runs = g.side }) items g.begins g.numbered g.few g.calls);
      apart = apart_more bodies body h.apart g.apart;
      functions_once = ap are_distinct (flat_map-append funcs_in bodies (body ∷ []) ∙ ap (λ (ns : List ℕ). functions_of bodies ++ ns)
          (append-nil (funcs_in body) ∙ funcs_are ps)) ∙ g.functions_once;
    }

pub body_added : (bytes : ℕ) (bodies : List Body) (b : BodyLines) (body : Body) → IsBodyRead bytes bodies b → AreBodies bytes bodies
    → is_ended b.part.lines ≡ true → body_ended b ≡ Ok body → AreBodies bytes (bodies ++ body ∷ [])
unfolding body_ended
body_added bytes bodies b body g h e k =
    let u = unless_ok (not (list_all part_leads (all_parts b))) Cause.NoLabel _ body k in
    let same : body_with b.key b.side (all_parts b) ≡ body = is_same _ _ u.1 in
    subst (λ (c : Body). AreBodies bytes (bodies ++ c ∷ [])) same (one_more bytes bodies b g h e (not_false (list_all part_leads (all_parts b)) u.0))
  where
    is_same : (x y : Body) → ◌≡◌ {A = Result Body Cause} (Ok x) (Ok y) → x ≡ y
    is_same x y e = cc
