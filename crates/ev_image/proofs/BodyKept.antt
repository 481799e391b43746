-- Lines of a body keep what stands of it, and at its end it is a body.
use Rattle.std.proofs.Common.{◌≡◌, ℕ, ◌+◌, ◌≤◌, ◌<◌, true, false, not, List, [], ◌∷◌, ◌++◌, length, Option, Some, None, Result, Ok, refl, sym, ap, ◌∙◌, subst, arith, append_assoc}
use Rattle.std.specs.Prelude.{◌||◌, ◌==◌, nat_lt}
use Rattle.std.specs.List.{list_all}
use Rattle.std.proofs.lemmas.List.{append-nil, map-append}
use Rattle.ev_body.specs.Bodies.{key_number}
use Rattle.ev_body.specs.WellFormed.{is_key, is_user_only, is_user_side, is_apart, are_distinct, functions_of}
use Rattle.ev_body.specs.declared.key.Key.{Key}
use Rattle.ev_body.specs.declared.key.Side.{Side}
use Rattle.ev_body.specs.declared.body.Body.{Body}
use Rattle.ev_io.specs.declared.cause.Cause.{Cause}
use Rattle.ev_line.specs.Operands.{among}
use Rattle.ev_part.specs.declared.line.BodyLine.{BodyLine}
use Rattle.ev_part.specs.declared.body.BodyLines.{BodyLines}
use Rattle.ev_part.specs.PartItems.{PartView, is_ended, item_count, next_item, is_second_here, most_items, part_grown}
use Rattle.ev_part.specs.BodyParts.{new_part, body_begun, all_parts, body_grown, function_begun}
use Rattle.ev_part.proofs.PartLaws.{count_more}
use Rattle.ev_image.specs.Head.{function_of, functions_in, is_main, new_body}
use Rattle.ev_image.proofs.Kept.{IsLine, IsPartOf, AllParts, AreNumbered, AreFunctions, BeginsMain, funcs, is_nil, IsBodyRead, AreBodies}
use Rattle.ev_image.proofs.Lists.{unless_ok, made_ok, or_true, not_less, all_more, distinct_more}
use Rattle.ev_image.proofs.Parts.{part_more}

-- ---- a part in the place of the last

parts_last : (bytes : ℕ) (ps : List PartView) (p : PartView) → AllParts bytes (ps ++ p ∷ []) → AllParts bytes ps × IsPartOf bytes p
parts_last bytes [] p g = (tt, g.0)
parts_last bytes (q ∷ qs) p g = let k = parts_last bytes qs p g.1 in ((g.0, k.0), k.1)

parts_more : (bytes : ℕ) (ps : List PartView) (p : PartView) → AllParts bytes ps → IsPartOf bytes p → AllParts bytes (ps ++ p ∷ [])
parts_more bytes [] p g h = (h, tt)
parts_more bytes (q ∷ qs) p g h = (g.0, parts_more bytes qs p g.1 h)

numbered_last : (n : ℕ) (ps : List PartView) (p q : PartView) → q.first ≡ p.first → AreNumbered n (ps ++ p ∷ []) → AreNumbered n (ps ++ q ∷ [])
numbered_last n [] p q e g = (e ∙ g.0, tt)
numbered_last n (x ∷ xs) p q e g = (g.0, numbered_last (next_item x) xs p q e g.1)

numbered_more : (n : ℕ) (ps : List PartView) (p q : PartView) → q.first ≡ next_item p → AreNumbered n (ps ++ p ∷ [])
    → AreNumbered n ((ps ++ p ∷ []) ++ q ∷ [])
numbered_more n [] p q e g = (g.0, (e, tt))
numbered_more n (x ∷ xs) p q e g = (g.0, numbered_more (next_item x) xs p q e g.1)

functions_more : (fs : List (Option ℕ)) (f : ℕ) → AreFunctions fs → f < 8 → AreFunctions (fs ++ Some f ∷ [])
functions_more [] f g h = (h, tt)
functions_more (None ∷ fs) f g h = absurd g
functions_more (Some k ∷ fs) f g h = (g.0, functions_more fs f g.1 h)

begins_more : (fs : List (Option ℕ)) (f : ℕ) → BeginsMain fs → f < 8 → BeginsMain (fs ++ Some f ∷ [])
begins_more [] f g h = absurd g
begins_more (None ∷ fs) f g h = functions_more fs f g h
begins_more (Some k ∷ fs) f g h = absurd g

same_functions : (ps : List PartView) (p q : PartView) → q.func ≡ p.func → functions_in (ps ++ q ∷ []) ≡ functions_in (ps ++ p ∷ [])
same_functions [] p q e = ap (λ (o : Option ℕ). (let ns : List ℕ = elim o [ None ↦ [] | Some func ↦ func ∷ [] ] in ns) ++ []) e
same_functions (x ∷ xs) p q e = ap (λ (ns : List ℕ). function_of x ++ ns) (same_functions xs p q e)

one_function : (ps : List PartView) (f n : ℕ) → functions_in (ps ++ new_part (Some f) n ∷ []) ≡ functions_in ps ++ f ∷ []
one_function [] f n = refl
one_function (x ∷ xs) f n = ap (λ (ns : List ℕ). function_of x ++ ns) (one_function xs f n) ∙ sym (append_assoc (function_of x) (functions_in xs) (f ∷ []))

-- ---- the opening of a body

pub body_begins : (bytes : ℕ) (bodies : List Body) (key : Key) (side : Side) → AreBodies bytes bodies → is_key key ≡ true
    → (not (is_user_only key) || is_user_side side) ≡ true
    → list_all (λ c. is_apart c (new_body key side)) bodies ≡ true → length bodies < 64 → IsBodyRead bytes bodies (body_begun key side)
body_begins bytes bodies key side g k s a l = record {
  room = l;
  key = k;
  side = s;
  apart = a;
  parts = (record { lines = tt; last = refl }, tt);
  begins = tt;
  ended = refl;
  numbered = (refl, tt);
  few = omega arith;
  calls = refl;
  functions_once = ap are_distinct (append-nil (functions_of bodies)) ∙ g.functions_once;
}

-- ---- a line more

-- a part that grows keeps its function and the number of its first item, and its items are not too many
pub record Grows (p : PartView) (l : BodyLine) (q : PartView) : Type 0 where
  pub is : record p { lines = p.lines ++ l ∷ [] } ≡ q
  pub few : next_item p + item_count l ≤ 256

grows : (p : PartView) (l : BodyLine) (q : PartView) → part_grown p l ≡ Ok q → Grows p l q
unfolding part_grown
grows p l q h =
    let a = unless_ok (is_second_here p l) Cause.Double _ q h in
    let b = unless_ok (nat_lt most_items (next_item p + item_count l)) Cause.Limit _ q a.1 in
    record { is = let e : record p { lines = p.lines ++ l ∷ [] } ≡ q = same _ _ b.1 in e; few = not_less 256 (next_item p + item_count l) b.0 }
  where
    same : (x y : PartView) → ◌≡◌ {A = Result PartView Cause} (Ok x) (Ok y) → x ≡ y
    same x y e = cc

grown_kept : (bytes : ℕ) (bodies : List Body) (b : BodyLines) (l : BodyLine) → IsBodyRead bytes bodies b → is_ended b.part.lines ≡ false
    → IsLine bytes (is_main b.part) l → next_item b.part + item_count l ≤ 256
    → IsBodyRead bytes bodies (record b { part = record b.part { lines = b.part.lines ++ l ∷ [] } })
grown_kept bytes bodies b l g e h n =
    let q : PartView = record b.part { lines = b.part.lines ++ l ∷ [] } in
    let k = parts_last bytes b.finished b.part g.parts in
    let f = λ (p : PartView). p.func in
    record {
      room = g.room;
      key = g.key;
      side = g.side;
      apart = g.apart;
      parts = parts_more bytes b.finished q k.0 (part_more bytes b.part l k.1 e h);
      begins = subst BeginsMain (map-append f b.finished (b.part ∷ []) ∙ sym (map-append f b.finished (q ∷ []))) g.begins;
      ended = g.ended;
      numbered = numbered_last 0 b.finished b.part q refl g.numbered;
      few = omega (arith, count_more b.part.lines l, n);
      calls = g.calls;
      functions_once = ap (λ (ns : List ℕ). are_distinct (functions_of bodies ++ ns)) (same_functions b.finished b.part q refl) ∙ g.functions_once;
    }

-- a line of the part that is being read
pub body_more : (bytes : ℕ) (bodies : List Body) (b : BodyLines) (l : BodyLine) (next : BodyLines) → IsBodyRead bytes bodies b
    → is_ended b.part.lines ≡ false → IsLine bytes (is_main b.part) l → body_grown b l ≡ Ok next → IsBodyRead bytes bodies next
body_more bytes bodies b l next g e h k =
    let m = made_ok (λ (p : PartView). record b { part = p }) (part_grown b.part l) next k in
    let r = grows b.part l m.0 m.1 in
    subst (IsBodyRead bytes bodies) (ap (λ (p : PartView). record b { part = p }) r.is ∙ m.2) (grown_kept bytes bodies b l g e h r.few)

-- a function part
pub function_more : (bytes : ℕ) (bodies : List Body) (b : BodyLines) (f : ℕ) → IsBodyRead bytes bodies b → is_ended b.part.lines ≡ true → f < 8
    → (key_number b.key == 0xfb) ≡ true → among (functions_of bodies ++ functions_in (all_parts b)) f ≡ false → IsBodyRead bytes bodies (function_begun b f)
function_more bytes bodies b f g e l k h =
    let q = new_part (Some f) (next_item b.part) in
    record {
      room = g.room;
      key = g.key;
      side = g.side;
      apart = g.apart;
      parts = parts_more bytes (all_parts b) q g.parts (record { lines = tt; last = refl });
      begins = subst BeginsMain (sym (map-append (λ (p : PartView). p.func) (all_parts b) (q ∷ []))) (begins_more (funcs (all_parts b)) f g.begins l);
      ended = all_more (λ (p : PartView). is_ended p.lines) b.finished b.part g.ended e;
      numbered = numbered_more 0 b.finished b.part q refl g.numbered;
      few = omega (arith, g.few);
      calls = or_true (is_nil (all_parts b)) (key_number b.key == 0xfb) k;
      functions_once = ap are_distinct (ap (λ (ns : List ℕ). functions_of bodies ++ ns) (one_function (all_parts b) f (next_item b.part))
          ∙ sym (append_assoc (functions_of bodies) (functions_in (all_parts b)) (f ∷ [])))
          ∙ distinct_more (functions_of bodies ++ functions_in (all_parts b)) f g.functions_once h;
    }
