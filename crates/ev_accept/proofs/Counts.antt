-- Bodies of an image have at most 256 items.
use Rattle.std.proofs.Common.{◌≡◌, refl, ◌∙◌, ap, ℕ, zero, suc, ◌≤◌, ◌<◌, Bool, true, false, not, ◌&&◌, ◌||◌, eqb, leb, List, [], ◌∷◌, length, get_or, arith}
use Rattle.std.specs.List.{list_all}
use Rattle.std.proofs.lemmas.Bool.{and_parts, leb-true}
use Rattle.ev_body.specs.declared.body.Body.{Body}
use Rattle.ev_body.specs.Bodies.{body_items, key_number}
use Rattle.ev_body.specs.WellFormed.{is_key, is_body, is_user_only, is_user_side, ends_with, is_ret, has_operands, has_no_parts, are_parts}

few_of : (bytes : ℕ) (b : Body) → is_body bytes b ≡ true → length (body_items b) ≤ 256
few_of bytes b h =
    leb-true (length (body_items b)) 256
    (back (is_key b.key) (not (is_user_only b.key) || is_user_side b.side) (ends_with is_ret b.items)
    (list_all (has_operands bytes 0 (length b.items)) b.items)
    (has_no_parts b.parts || eqb (key_number b.key) 0xfb) (are_parts bytes (length b.items) b.parts) (leb (length (body_items b)) 256) h)
  where
    back : (k a c d e f g : Bool) → (k && a && c && d && e && f && g) ≡ true → g ≡ true
    back k a c d e f true h = refl
    back k a c d e f false h = grind arith

pub few_items : (bytes : ℕ) (bs : List Body) (i : ℕ) (b : Body) → list_all (is_body bytes) bs ≡ true → i < length bs → b ≡ get_or bs i b
    → length (body_items b) ≤ 256
few_items bytes [] i b h l e = absurd (omega arith)
few_items bytes (c ∷ cs) zero b h l e = few_of bytes b (ap (is_body bytes) e ∙ (and_parts (is_body bytes c) (list_all (is_body bytes) cs) h).0)
few_items bytes (c ∷ cs) (suc i) b h l e = few_items bytes cs i b (and_parts (is_body bytes c) (list_all (is_body bytes) cs) h).1 (omega arith) e
