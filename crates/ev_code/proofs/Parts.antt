-- How readers are made of parts: what a reader takes it spells, more bytes change no answer but Short, and what is Short can be completed.
use Rattle.std.proofs.Common.{◌≡◌, ℕ, zero, suc, ◌<◌, Bool, true, false, List, [], ◌∷◌, ◌++◌, get_or, Result, Ok, Err, refl, sym, ap, subst, ◌∙◌, append_assoc, arith, if◌then◌else◌, ◌==◌, cond, ltb}
use Rattle.std.proofs.lemmas.Bool.{eqb-true, ltb-true}
use Rattle.ev_isa.specs.declared.instruction.Ins.{Ins}
use Rattle.ev_isa.specs.Spelling.{spelling}
use Rattle.ev_code.specs.declared.fault.DecodeFault.{DecodeFault}
use Rattle.ev_code.specs.declared.fault.DecodeFault.TheVariants.{Unknown, Short}
use Rattle.ev_code.specs.Coding.{IsEncodable}
use Rattle.ev_code.specs.Reader.{Read, ◌>>=◌, byte_at}

abbrev pub IsBytes : List ℕ → Type 0
IsBytes bytes = (i : ℕ) → get_or bytes i 0 < 256

pub bytes_rest : (x : ℕ) (bytes : List ℕ) → IsBytes (x ∷ bytes) → IsBytes bytes
bytes_rest x bytes h i = h (suc i)

pub bytes_cons : (x : ℕ) (bytes : List ℕ) → x < 256 → IsBytes bytes → IsBytes (x ∷ bytes)
bytes_cons x bytes lt h zero = lt
bytes_cons x bytes lt h (suc i) = h i

pub bytes_append : (xs ys : List ℕ) → IsBytes xs → IsBytes ys → IsBytes (xs ++ ys)
bytes_append [] ys h k = k
bytes_append (x ∷ xs) ys h k = bytes_cons x (xs ++ ys) (h 0) (bytes_append xs ys (bytes_rest x xs h) k)

pub no_bytes : IsBytes []
no_bytes i = omega arith

-- an answer, and the one with more bytes
abbrev pub Extends : {X : Type 0} → List ℕ → Read X → Read X → Type 0
Extends more (Ok e) read = read ≡ Ok (e.0, e.1 ++ more)
Extends more (Err Unknown) read = read ≡ Err Unknown
Extends more (Err Short) read = Unit {0}

abbrev pub IsStable : {X : Type 0} → (List ℕ → Read X) → Type 0
IsStable r = (bytes more : List ℕ) → Extends more (r bytes) (r (bytes ++ more))

-- bytes that a reader takes whole
pub record IsLive {X : Type 0} (r : List ℕ → Read X) : Type 0 where
  pub bytes : List ℕ
  pub value : X
  pub are_bytes : IsBytes bytes
  pub taken : r bytes ≡ Ok (value, [])

abbrev pub IsTrim : {X : Type 0} → (List ℕ → Read X) → Type 0
IsTrim {X = X} r = (bytes : List ℕ) → r bytes ≡ Err Short → IsLive {X = X} (λ more. r (bytes ++ more))

-- A reader of what stands behind the bytes that f puts before it, where V holds: W says which values it has, and text how they are spelled.
pub record Reads {X : Type 0} (V : Type 0) (f : List ℕ → List ℕ) (W : X → Type 0) (text : X → List ℕ) (r : List ℕ → Read X) : Type 0 where
  pub stable : IsStable r
  pub trim : IsTrim r
  pub takes : V → (bytes : List ℕ) (e : X × List ℕ) → IsBytes bytes → r bytes ≡ Ok e → W e.0 × (f bytes ≡ text e.0 ++ e.1) × IsBytes e.1

abbrev pub IsReader : Type 0 → (List ℕ → List ℕ) → (List ℕ → Read Ins) → Type 0
IsReader V f r = Reads {X = Ins} V f IsEncodable spelling r

abbrev pub same : List ℕ → List ℕ
same bytes = bytes

abbrev pub IsField : {X : Type 0} → (X → Type 0) → (X → List ℕ) → (List ℕ → Read X) → Type 0
IsField {X = X} W text r = Reads {X = X} (Unit {0}) same W text r

ok_is : {A : Type 0} (x y : A) → (let u : Result A DecodeFault = Ok x in u) ≡ Ok y → x ≡ y
ok_is x y e = cc

-- ---- leaves

pub done : {X : Type 0} (V : Type 0) (f : List ℕ → List ℕ) (W : X → Type 0) (text : X → List ℕ) (x : X)
    → (V → W x × ((bytes : List ℕ) → f bytes ≡ text x ++ bytes))
    → Reads V f W text (λ bytes. Ok (x, bytes))
done {X = X} V f W text x h = record {
  stable = λ bytes more. refl;
  trim = λ bytes e. absurd cc;
  takes = λ v bytes e are t. subst (λ (d : X × List ℕ). W d.0 × (f bytes ≡ text d.0 ++ d.1) × IsBytes d.1) (ok_is (x, bytes) e t) ((h v).0, (h v).1 bytes, are);
}

pub stop : {X : Type 0} (V : Type 0) (f : List ℕ → List ℕ) (W : X → Type 0) (text : X → List ℕ) → Reads V f W text (λ bytes. Err Unknown)
stop V f W text = record { stable = λ bytes more. refl; trim = λ bytes e. absurd cc; takes = λ v bytes e are t. absurd cc }

-- ---- a choice

pub choose : {X : Type 0} (V : Type 0) (f : List ℕ → List ℕ) (W : X → Type 0) (text : X → List ℕ) (t : Bool) (p q : List ℕ → Read X)
    → (t ≡ true → Reads V f W text p) → (t ≡ false → Reads V f W text q) → Reads V f W text (λ bytes. if t then p bytes else q bytes)
choose V f W text true p q h k = h refl
choose V f W text false p q h k = k refl

-- ---- a step

bind_ok : {A B : Type 0} (r : Result A DecodeFault) (f : A → Result B DecodeFault) (y : B) → (r >>= f) ≡ Ok y → (x : A) × (r ≡ Ok x) × (f x ≡ Ok y)
bind_ok (Ok x) f y e = (x, refl, e)
bind_ok (Err d) f y e = absurd cc

extends_bind : {X Y : Type 0} (more : List ℕ) (u v : Read X) (q : X × List ℕ → Read Y) → Extends more u v → ((x : X) → IsStable (λ bytes. q (x, bytes)))
    → Extends more (u >>= q) (v >>= q)
extends_bind more (Ok e) v q h k = rw h (k e.0 e.1 more)
extends_bind more (Err Unknown) v q h k = rw h refl
extends_bind more (Err Short) v q h k = tt

stable_bind : {X Y : Type 0} (r : List ℕ → Read X) (q : X × List ℕ → Read Y) → IsStable r → ((x : X) → IsStable (λ bytes. q (x, bytes)))
    → IsStable (λ bytes. r bytes >>= q)
stable_bind r q h k bytes more = extends_bind more (r bytes) (r (bytes ++ more)) q (h bytes more) k

extends_ok : {X : Type 0} (more rest : List ℕ) (u v : Read X) (x : X) → Extends more u v → u ≡ Ok (x, rest) → v ≡ Ok (x, rest ++ more)
extends_ok {X = X} more rest (Ok e) v x h t = h ∙ ap (λ (d : X × List ℕ). Ok (d.0, d.1 ++ more)) (ok_is e (x, rest) t)
extends_ok more rest (Err d) v x h t = absurd cc

-- the steps of a reader that ended early, by what its first step answered
trim_by : {X Y : Type 0} (r : List ℕ → Read X) (q : X × List ℕ → Read Y) (bytes : List ℕ) (u : Read X) → r bytes ≡ u → IsStable r → IsTrim r
    → ((x : X) → IsTrim (λ rest. q (x, rest))) → ((x : X) → IsLive (λ rest. q (x, rest))) → (u >>= q) ≡ Err Short → IsLive (λ more. r (bytes ++ more) >>= q)
trim_by r q bytes (Ok e) at stable trim after live short =
    let rest = after e.0 e.1 short in
    record {
      bytes = rest.bytes;
      value = rest.value;
      are_bytes = rest.are_bytes;
      taken = rw (extends_ok rest.bytes e.1 (r bytes) (r (bytes ++ rest.bytes)) e.0 (stable bytes rest.bytes) at) rest.taken;
    }
trim_by r q bytes (Err Unknown) at stable trim after live short = absurd cc
trim_by r q bytes (Err Short) at stable trim after live short =
    let first = trim bytes at in
    let rest = live first.value in
    record {
      bytes = first.bytes ++ rest.bytes;
      value = rest.value;
      are_bytes = bytes_append first.bytes rest.bytes first.are_bytes rest.are_bytes;
      taken = rw (sym (append_assoc bytes first.bytes rest.bytes))
          (rw (extends_ok rest.bytes [] (r (bytes ++ first.bytes)) (r ((bytes ++ first.bytes) ++ rest.bytes)) first.value
          (stable (bytes ++ first.bytes) rest.bytes) first.taken) rest.taken);
    }

trim_bind : {X Y : Type 0} (r : List ℕ → Read X) (q : X × List ℕ → Read Y) → IsStable r → IsTrim r → ((x : X) → IsTrim (λ rest. q (x, rest)))
    → ((x : X) → IsLive (λ rest. q (x, rest)))
    → IsTrim (λ bytes. r bytes >>= q)
trim_bind r q stable trim after live bytes short = trim_by r q bytes (r bytes) refl stable trim after live short

-- a field, and what stands behind it
pub field : {X Y : Type 0} (V : Type 0) (f : List ℕ → List ℕ) (U : Y → Type 0) (whole : Y → List ℕ) (W : X → Type 0) (text : X → List ℕ)
    (r : List ℕ → Read X) (q : X × List ℕ → Read Y)
    → IsField W text r → ((x : X) → Reads (V × W x) (λ bytes. f (text x ++ bytes)) U whole (λ bytes. q (x, bytes))) → ((x : X) → IsLive (λ bytes. q (x, bytes)))
    → Reads V f U whole (λ bytes. r bytes >>= q)
field V f U whole W text r q first after live = record {
  stable = stable_bind r q first.stable (λ x. (after x).stable);
  trim = trim_bind r q first.stable first.trim (λ x. (after x).trim) live;
  takes = λ v bytes e are t.
      let b = bind_ok (r bytes) q e t in
      let k = first.takes tt bytes b.0 are b.1 in
      let h = (after b.0.0).takes (v, k.0) b.0.1 e k.2 b.2 in
      (h.0, ap f k.1 ∙ h.1, h.2);
}

-- ---- a byte

stable_byte : {Y : Type 0} (q : ℕ × List ℕ → Read Y) → ((x : ℕ) → IsStable (λ bytes. q (x, bytes))) → IsStable (λ bytes. byte_at bytes >>= q)
stable_byte q h [] more = tt
stable_byte q h (x ∷ bytes) more = h x bytes more

trim_byte : {Y : Type 0} (q : ℕ × List ℕ → Read Y) (x : ℕ) → x < 256 → IsLive (λ bytes. q (x, bytes)) → ((x : ℕ) → IsTrim (λ bytes. q (x, bytes)))
    → IsTrim (λ bytes. byte_at bytes >>= q)
trim_byte q x lt live h [] short = record {
  bytes = x ∷ live.bytes;
  value = live.value;
  are_bytes = bytes_cons x live.bytes lt live.are_bytes;
  taken =
      live.taken;
}
trim_byte q x lt live h (y ∷ bytes) short = h y bytes short

takes_byte : {Y : Type 0} (V : Type 0) (f : List ℕ → List ℕ) (U : Y → Type 0) (whole : Y → List ℕ) (q : ℕ × List ℕ → Read Y)
    → ((x : ℕ) → Reads (V × (x < 256)) (λ bytes. f (x ∷ bytes)) U whole (λ bytes. q (x, bytes)))
    → V → (bytes : List ℕ) (e : Y × List ℕ) → IsBytes bytes → (byte_at bytes >>= q) ≡ Ok e → U e.0 × (f bytes ≡ whole e.0 ++ e.1) × IsBytes e.1
takes_byte V f U whole q h v [] e are t = absurd cc
takes_byte V f U whole q h v (x ∷ bytes) e are t = (h x).takes (v, are 0) bytes e (bytes_rest x bytes are) t

-- a byte and what stands behind it: x is a byte with which it goes on
pub next : {Y : Type 0} (V : Type 0) (f : List ℕ → List ℕ) (U : Y → Type 0) (whole : Y → List ℕ) (q : ℕ × List ℕ → Read Y) (x : ℕ) → x < 256
    → IsLive (λ bytes. q (x, bytes))
    → ((x : ℕ) → Reads (V × (x < 256)) (λ bytes. f (x ∷ bytes)) U whole (λ bytes. q (x, bytes))) → Reads V f U whole (λ bytes. byte_at bytes >>= q)
next V f U whole q x lt live h = record {
  stable = stable_byte q (λ y. (h y).stable);
  trim = trim_byte q x lt live (λ y. (h y).trim);
  takes = takes_byte V f U whole q h;
}

abbrev pub are_bytes : List ℕ → Bool
are_bytes [] = true
are_bytes (x ∷ xs) = if ltb x 256 then are_bytes xs else false

bytes_by : (xs : List ℕ) → are_bytes xs ≡ true → IsBytes xs
bytes_by [] h = no_bytes
bytes_by (x ∷ xs) h = by (ltb x 256) refl (λ k. bytes_by xs k) h
  where
    by : (t : Bool) → ltb x 256 ≡ t → (are_bytes xs ≡ true → IsBytes xs) → cond t (are_bytes xs) false ≡ true → IsBytes (x ∷ xs)
    by true e rest k = bytes_cons x xs (ltb-true x 256 e) (rest k)
    by false e rest k = absurd cc

-- what is alive
pub live : {X : Type 0} (r : List ℕ → Read X) (bytes : List ℕ) (x : X) → are_bytes bytes ≡ true → r bytes ≡ Ok (x, []) → IsLive r
live r bytes x are t = record { bytes = bytes; value = x; are_bytes = bytes_by bytes are; taken = t }

-- a field that comes last
pub tail : {X : Type 0} (V : Type 0) (f : List ℕ → List ℕ) (U : X → Type 0) (whole : X → List ℕ) (W : X → Type 0) (text : X → List ℕ) (r : List ℕ → Read X)
    → IsField W text r → (V → (x : X) → W x → U x × ((bytes : List ℕ) → f (text x ++ bytes) ≡ whole x ++ bytes)) → Reads V f U whole r
tail V f U whole W text r first h = record {
  stable = first.stable;
  trim = first.trim;
  takes = λ v bytes e are t.
      let k = first.takes tt bytes e are t in
      let g = h v e.0 k.0 in
      (g.0, ap f k.1 ∙ g.1 e.1, k.2);
}

-- what holds with no premise
pub under : {X : Type 0} (V : Type 0) (f : List ℕ → List ℕ) (W : X → Type 0) (text : X → List ℕ) (r : List ℕ → Read X) → Reads (Unit {0}) f W text r
    → Reads V f W text r
under V f W text r h = record { stable = h.stable; trim = h.trim; takes = λ v bytes e are t. h.takes tt bytes e are t }

-- a choice of this byte
pub pick : {X : Type 0} (V : Type 0) (f : ℕ → List ℕ → List ℕ) (W : X → Type 0) (text : X → List ℕ) (x k : ℕ) (p q : List ℕ → Read X)
    → Reads (Unit {0}) (f k) W text p → Reads V (f x) W text q → Reads V (f x) W text (λ bytes. if x == k then p bytes else q bytes)
pick {X = X} V f W text x k p q h g =
    choose V (f x) W text (x == k) p q
    (λ t. subst (λ (y : ℕ). Reads {X = X} V (f y) W text p) (sym (eqb-true x k t)) (under V (f k) W text p h))
    (λ t. g)
