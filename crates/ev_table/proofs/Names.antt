-- Labels of bodies: each names its body and its item, so that an item's label is given once.
use Rattle.std.proofs.Common.{◌≡◌, ℕ, ◌+◌, ◌%◌, ◌^◌, ◌<◌, ◌≤◌, ◌⊎◌, inl, inr, Bool, true, false, List, [], ◌∷◌, ◌++◌, length, refl, sym, ap, ◌∙◌, subst, arith, append_assoc, eqb-true}
use Rattle.std.specs.Prelude.{◌==◌, decimal}
use Rattle.std.proofs.lemmas.Fmt.{decimal_by_steps, decimal_injective}
use Rattle.ev_asm.specs.Assembly.{Name, is_name}
use Rattle.ev_listing.specs.Expansion.{item_label, own_label, taken_label}
use Rattle.ev_fetch.proofs.Regions.{Each, each_append}
use Rattle.ev_symbolic.proofs.Values.{and_left, and_right}

-- ---- digits

abbrev IsDigit : ℕ → Type 0
IsDigit x = (48 ≤ x) × (x < 58)

-- a text that doesn't begin with a digit
abbrev pub NoDigit : List ℕ → Type 0
NoDigit [] = Unit {0}
NoDigit (x ∷ xs) = IsDigit x → ⊥

digits : (n : ℕ) → n < 2 ^ 64 → Each IsDigit (decimal n)
digits n h =
    decimal_by_steps (λ n ds. Each IsDigit ds) (λ n l. ((omega arith, omega arith), tt))
    (λ n ds l k. each_append IsDigit ds ((48 + n % 10) ∷ []) k ((omega arith, omega arith), tt)) n h

head_same : (x y : ℕ) (xs ys : List ℕ) → x ∷ xs ≡ y ∷ ys → x ≡ y
head_same x y xs ys h = cc

tail_same : (x y : ℕ) (xs ys : List ℕ) → x ∷ xs ≡ y ∷ ys → xs ≡ ys
tail_same x y xs ys h = cc

digit_first : (x : ℕ) (xs us : List ℕ) → IsDigit x → NoDigit us → us ≡ x ∷ xs → ⊥
digit_first x xs [] d n h = absurd (cc)
digit_first x xs (u ∷ us) d n h = n (subst IsDigit (sym (head_same u x us xs h)) d)

-- digits end where no digit follows
parse : (xs ys us vs : List ℕ) → Each IsDigit xs → Each IsDigit ys → NoDigit us → NoDigit vs → xs ++ us ≡ ys ++ vs → (xs ≡ ys) × (us ≡ vs)
parse [] [] us vs a b m n h = (refl, h)
parse [] (y ∷ ys) us vs a b m n h = absurd (digit_first y (ys ++ vs) us b.0 m h)
parse (x ∷ xs) [] us vs a b m n h = absurd (digit_first x (xs ++ us) vs a.0 n (sym h))
parse (x ∷ xs) (y ∷ ys) us vs a b m n h =
    let e = head_same x y (xs ++ us) (ys ++ vs) h in
    let r = parse xs ys us vs a.1 b.1 m n (tail_same x y (xs ++ us) (ys ++ vs) h) in
    ((λ i. e i ∷ r.0 i), r.1)

-- ---- names of bodies

-- a label of an item's own: "b", the body, "i", the item, and the rest
pub item_form : (b n : ℕ) (name : Name) → own_label b n name ≡ 0x62 ∷ (decimal b ++ 0x69 ∷ (decimal n ++ name))
item_form b n name =
    ap (λ (l : List ℕ). 0x62 ∷ (l ++ name)) (append_assoc (decimal b) (0x69 ∷ []) (decimal n))
    ∙ ap (λ (l : List ℕ). 0x62 ∷ l) (append_assoc (decimal b) (0x69 ∷ decimal n) name)

plain_form : (b n : ℕ) → item_label b n ≡ 0x62 ∷ (decimal b ++ 0x69 ∷ (decimal n ++ []))
plain_form b n = sym (nil (item_label b n)) ∙ item_form b n []
  where
    nil : (xs : List ℕ) → xs ++ [] ≡ xs
    nil [] = refl
    nil (x ∷ xs) = ap (λ (l : List ℕ). x ∷ l) (nil xs)

not_digit : (x : ℕ) → 58 ≤ x → IsDigit x → ⊥
not_digit x l d = let u = d.1 in omega arith

same_body : (m n : ℕ) (us vs : List ℕ) → m < 2 ^ 64 → n < 2 ^ 64 → NoDigit us → NoDigit vs → 0x62 ∷ (decimal m ++ us) ≡ 0x62 ∷ (decimal n ++ vs)
    → (m ≡ n) × (us ≡ vs)
same_body m n us vs hm hn a b h =
    let r = parse (decimal m) (decimal n) us vs (digits m hm) (digits n hn) a b (tail_same 0x62 0x62 (decimal m ++ us) (decimal n ++ vs) h) in
    (decimal_injective m n hm hn r.0, r.1)

-- a label of an item, or of its own, tells the body, the item and the rest
pub own_tells : (m k n i : ℕ) (x y : Name) → m < 2 ^ 64 → k < 2 ^ 64 → n < 2 ^ 64 → i < 2 ^ 64 → NoDigit x → NoDigit y
    → 0x62 ∷ (decimal m ++ 0x69 ∷ (decimal k ++ x)) ≡ 0x62 ∷ (decimal n ++ 0x69 ∷ (decimal i ++ y)) → (m ≡ n) × (k ≡ i) × (x ≡ y)
own_tells m k n i x y hm hk hn hi a b h =
    let r = same_body m n (0x69 ∷ (decimal k ++ x)) (0x69 ∷ (decimal i ++ y)) hm hn (not_digit 0x69 (omega arith)) (not_digit 0x69 (omega arith)) h in
    let s = parse (decimal k) (decimal i) x y (digits k hk) (digits i hi) a b (tail_same 0x69 0x69 (decimal k ++ x) (decimal i ++ y) r.1) in
    (r.0, decimal_injective k i hk hi s.0, s.1)

-- what the labels of item k of body m look like: that behind an exchange is given by a `take` alone
abbrev pub IsOwn : ℕ → ℕ → Bool → Name → Type 0
IsOwn m k takes name = ((x : Name) × (name ≡ own_label m k x) × NoDigit x × (0 < length x)) ⊎ ((takes ≡ true) × (name ≡ taken_label m))

own_differs : (m k n i : ℕ) (t : Bool) (name : Name) → m < 2 ^ 64 → k < 2 ^ 64 → n < 2 ^ 64 → i < 2 ^ 64 → IsOwn m k t name → name ≡ item_label n i → ⊥
own_differs m k n i t name hm hk hn hi (inl own) h =
    let tells = own_tells m k n i own.0 [] hm hk hn hi own.2 tt (sym (item_form m k own.0) ∙ sym own.1 ∙ h ∙ plain_form n i) in
    let none : length own.0 ≡ 0 = ap (λ (x : Name). length x) tells.2 in
    let some : 0 < length own.0 = own.3 in
    omega (arith, none, some)
own_differs m k n i t name hm hk hn hi (inr e) h =
    let r = same_body m n (0x54 ∷ 0x32 ∷ []) (0x69 ∷ (decimal i ++ [])) hm hn (not_digit 0x54 (omega arith)) (not_digit 0x69 (omega arith))
    (sym e.1 ∙ h ∙ plain_form n i) in
    let z : 0x54 ≡ 0x69 = head_same 0x54 0x69 (0x32 ∷ []) (decimal i ++ []) r.1 in
    omega (arith, z)

item_differs : (m k n i : ℕ) → m < 2 ^ 64 → k < 2 ^ 64 → n < 2 ^ 64 → i < 2 ^ 64 → item_label m k ≡ item_label n i → (m ≡ n) × (k ≡ i)
item_differs m k n i hm hk hn hi h =
    let t = own_tells m k n i [] [] hm hk hn hi tt tt (sym (plain_form m k) ∙ h ∙ plain_form n i) in
    (t.0, t.1)

-- ---- the assembler's test of names

names_same : (x y : Name) → is_name x y ≡ true → x ≡ y
names_same [] [] h = refl
names_same [] (y ∷ ys) h = absurd (cc)
names_same (x ∷ xs) [] h = absurd (cc)
names_same (x ∷ xs) (y ∷ ys) h =
    let e = eqb-true x y (and_left (x == y) (is_name xs ys) h) in
    let r = names_same xs ys (and_right (x == y) (is_name xs ys) h) in
    λ i. e i ∷ r i

pub other_name : (x y : Name) → (x ≡ y → ⊥) → is_name x y ≡ false
other_name x y h = pick (is_name x y) refl
  where
    pick : (b : Bool) → is_name x y ≡ b → b ≡ false
    pick true q = absurd (h (names_same x y q))
    pick false q = refl

pub not_own : (m k n i : ℕ) (t : Bool) (name : Name) → m < 2 ^ 64 → k < 2 ^ 64 → n < 2 ^ 64 → i < 2 ^ 64 → IsOwn m k t name
    → is_name name (item_label n i) ≡ false
not_own m k n i t name hm hk hn hi own = other_name name (item_label n i) (own_differs m k n i t name hm hk hn hi own)

pub not_other : (m k n i : ℕ) → m < 2 ^ 64 → k < 2 ^ 64 → n < 2 ^ 64 → i < 2 ^ 64 → ((m ≡ n) → (k ≡ i) → ⊥) → is_name (item_label m k) (item_label n i) ≡ false
not_other m k n i hm hk hn hi h =
    other_name (item_label m k) (item_label n i) (λ e. let t = item_differs m k n i hm hk hn hi e in h t.0 t.1)

-- a label that an item has of its own is no other item's, and no label of an item
pub own_apart : (m k n i : ℕ) (t : Bool) (name x : Name) → m < 2 ^ 64 → k < 2 ^ 64 → n < 2 ^ 64 → i < 2 ^ 64 → NoDigit x → 0 < length x
    → ((m ≡ n) → (k ≡ i) → ⊥) → IsOwn m k t name → is_name name (own_label n i x) ≡ false
own_apart m k n i t name x hm hk hn hi nd some h own = other_name name (own_label n i x) (differs own)
  where
    differs : IsOwn m k t name → name ≡ own_label n i x → ⊥
    differs (inl o) e =
        let tells = own_tells m k n i o.0 x hm hk hn hi o.2 nd (sym (item_form m k o.0) ∙ sym o.1 ∙ e ∙ item_form n i x) in h tells.0 tells.1
    differs (inr o) e =
        let r = same_body m n (0x54 ∷ 0x32 ∷ []) (0x69 ∷ (decimal i ++ x)) hm hn (not_digit 0x54 (omega arith)) (not_digit 0x69 (omega arith))
        (sym o.1 ∙ e ∙ item_form n i x) in
        let z : 0x54 ≡ 0x69 = head_same 0x54 0x69 (0x32 ∷ []) (decimal i ++ x) r.1 in
        omega (arith, z)

pub item_apart : (m k n i : ℕ) (x : Name) → m < 2 ^ 64 → k < 2 ^ 64 → n < 2 ^ 64 → i < 2 ^ 64 → NoDigit x → 0 < length x
    → is_name (item_label m k) (own_label n i x) ≡ false
item_apart m k n i x hm hk hn hi nd some = other_name (item_label m k) (own_label n i x) differs
  where
    differs : item_label m k ≡ own_label n i x → ⊥
    differs e =
        let t = own_tells m k n i [] x hm hk hn hi tt nd (sym (plain_form m k) ∙ e ∙ item_form n i x) in
        let none : length x ≡ 0 = sym (ap (λ (y : Name). length y) t.2) in
        omega (arith, none, some)

-- ---- the label behind an exchange

taken_differs : (m n : ℕ) (us : List ℕ) → m < 2 ^ 64 → n < 2 ^ 64 → 0x62 ∷ (decimal m ++ 0x69 ∷ us) ≡ taken_label n → ⊥
taken_differs m n us hm hn h =
    let r = same_body m n (0x69 ∷ us) (0x54 ∷ 0x32 ∷ []) hm hn (not_digit 0x69 (omega arith)) (not_digit 0x54 (omega arith)) h in
    let z : 0x69 ≡ 0x54 = head_same 0x69 0x54 us (0x32 ∷ []) r.1 in
    omega (arith, z)

-- it is no label of an item
pub item_not_taken : (m k n : ℕ) → m < 2 ^ 64 → n < 2 ^ 64 → is_name (item_label m k) (taken_label n) ≡ false
item_not_taken m k n hm hn = other_name (item_label m k) (taken_label n) (λ e. taken_differs m n (decimal k ++ []) hm hn (sym (plain_form m k) ∙ e))

-- nor one that an item of another body has, or an item that is no `take`
pub own_not_taken : (m k n : ℕ) (t : Bool) (name : Name) → m < 2 ^ 64 → n < 2 ^ 64 → ((m ≡ n) → t ≡ false) → IsOwn m k t name
    → is_name name (taken_label n) ≡ false
own_not_taken m k n t name hm hn h own = other_name name (taken_label n) (differs own)
  where
    differs : IsOwn m k t name → name ≡ taken_label n → ⊥
    differs (inl o) e = taken_differs m n (decimal k ++ o.0) hm hn (sym (item_form m k o.0) ∙ sym o.1 ∙ e)
    differs (inr o) e =
        let r = same_body m n (0x54 ∷ 0x32 ∷ []) (0x54 ∷ 0x32 ∷ []) hm hn (not_digit 0x54 (omega arith)) (not_digit 0x54 (omega arith)) (sym o.1 ∙ e) in
        let z : true ≡ false = sym o.0 ∙ h r.0 in
        absurd (cc)
