-- A reader behind lines that follow each other up to the line `script`: what comes of the next answer.
use Rattle.std.proofs.Common.{◌≡◌, ℕ, suc, ◌+◌, Bool, true, false, List, [], ◌∷◌, ◌++◌, length, Option, Some, None, Result, Ok, Err, refl, ap, sym, subst, ◌∙◌, length-append, arith}
use Rattle.ev_body.specs.KernelImage.{KernelImage}
use Rattle.ev_io.specs.declared.cause.Cause.{Cause}
use Rattle.ev_io.specs.declared.lines.LineFault.{LineFault}
use Rattle.ev_io.specs.Lines.{Reading}
use Rattle.ev_io.specs.InputLines.{ByteFault, TooLarge, TooLong, NotAscii, lines_of, text_of, line_fault, joined, Next, Says, Ends, Faulty, next_said, Skips}
use Rattle.ev_io.specs.Tokens.{tokens_of, is_passed_over}
use Rattle.ev_io.specs.Follow.{cause_of, tokens_follow, line_follows, read, Stands}
use Rattle.ev_io.proofs.NextLaws.{over_first, said_first, fault_first}
use Rattle.ev_io.proofs.StandLaws.{stands_part}
use Rattle.ev_image.specs.declared.head.Head.{Head}
use Rattle.ev_image.specs.Head.{head_follows}
use Rattle.ev_image.specs.declared.reading.ImageFault.{ImageFault}
use Rattle.ev_image.specs.Reads.{Opened, image_in, opened, fault_of, Follows, AnswersLine, ReadsImage, CountsRead}

-- ---- nothing follows the line `script` but lines that are passed over

stays_line : (before : ℕ) (image : KernelImage) (line : List ℕ) (head : Head) → line_follows head_follows before (Head.Opened image) line ≡ Ok head
    → head ≡ Head.Opened image
unfolding line_follows tokens_follow head_follows
stays_line before image line head e = by (line_fault before line) (is_passed_over (tokens_of (text_of line))) e
  where
    by : (f : Option ByteFault) (p : Bool)
        → (let r : Result Head Cause = elim f [
          | Some fault ↦ Err (cause_of fault)
          | None ↦ elim p [ true ↦ Ok (Head.Opened image) | false ↦ Err Cause.Word ]
        ] in r) ≡ Ok head → head ≡ Head.Opened image
    by (Some f) p e = absurd cc
    by None true e = let g : Head.Opened image ≡ head = cc in sym g
    by None false e = absurd cc

stays : (n before : ℕ) (image : KernelImage) (lines : List (List ℕ)) (head : Head) → read head_follows n before (Head.Opened image) lines ≡ Ok head
    → head ≡ Head.Opened image
unfolding read
stays n before image [] head e = let g : Head.Opened image ≡ head = cc in sym g
stays n before image (line ∷ lines) head e = by (line_follows head_follows before (Head.Opened image) line) refl e
    (stays (n + 1) (before + length line) image lines head)
  where
    by : (r : Result Head Cause) → line_follows head_follows before (Head.Opened image) line ≡ r
        → (let q : Result Head (ℕ × Cause) = elim r [ Err cause ↦ Err (n + 1, cause) | Ok s ↦ read head_follows (n + 1) (before + length line) s lines ] in q)
        ≡ Ok head
        → (read head_follows (n + 1) (before + length line) (Head.Opened image) lines ≡ Ok head → head ≡ Head.Opened image) → head ≡ Head.Opened image
    by (Err cause) h e go = absurd cc
    by (Ok s) h e go = go (sym (ap (λ (k : Head). read head_follows (n + 1) (before + length line) k lines) (stays_line before image line s h)) ∙ e)

-- ---- lines that follow each other, before the line `script`

opened_more : (n before : ℕ) (s : Head) (xs ys : List (List ℕ)) (head : Head) → read head_follows n before s xs ≡ Ok head → image_in head ≡ None
    → opened n before s (xs ++ ys) ≡ opened (n + length xs) (before + length (joined xs)) head ys
unfolding read opened
opened_more n before s [] ys head e h =
    let g : s ≡ head = cc in
    ap (λ k. opened k before s ys) (none_more n) ∙ ap (λ k. opened (n + 0) k s ys) (none_more before) ∙ ap (λ k. opened (n + 0) (before + 0) k ys) g
  where
    none_more : (n : ℕ) → n ≡ n + 0
    none_more n = omega arith
opened_more n before s (x ∷ xs) ys head e h = by (line_follows head_follows before s x) e
    (λ t k. opened_more (n + 1) (before + length x) t xs ys head k h)
  where
    counted : n + suc (length xs) ≡ n + 1 + length xs
    counted = omega arith

    summed : before + length (x ++ joined xs) ≡ before + length x + length (joined xs)
    summed = omega (arith, length-append x (joined xs))

    going : (t : Head) (o : Option KernelImage) → image_in t ≡ o → read head_follows (n + 1) (before + length x) t xs ≡ Ok head
        → ((u : Head) → read head_follows (n + 1) (before + length x) u xs ≡ Ok head
        → opened (n + 1) (before + length x) u (xs ++ ys) ≡ opened (n + 1 + length xs) (before + length x + length (joined xs)) head ys)
        → (let q : Result Opened (ℕ × Cause) = elim o [
          | Some image ↦ Ok (record { image = image; lines = n + 1; bytes = before + length x; behind = xs ++ ys })
          | None ↦ opened (n + 1) (before + length x) t (xs ++ ys)
        ] in q) ≡ opened (n + suc (length xs)) (before + length (x ++ joined xs)) head ys
    going t None k e go = rw (counted, summed) (go t e)
    going (Head.Opened image) (Some i) k e go =
        let g = stays (n + 1) (before + length x) image xs head e in
        absurd (let z : Some image ≡ None = ap image_in (sym g) ∙ h in cc)
    going Head.Image (Some i) k e go = absurd cc
    going Head.Processors (Some i) k e go = absurd cc
    going (Head.Nest p) (Some i) k e go = absurd cc
    going (Head.Start p) (Some i) k e go = absurd cc
    going (Head.Text p t) (Some i) k e go = absurd cc
    going (Head.Tasks p) (Some i) k e go = absurd cc
    going (Head.Body p b) (Some i) k e go = absurd cc
    going (Head.Bodies p) (Some i) k e go = absurd cc
    going (Head.Filled p) (Some i) k e go = absurd cc

    by : (r : Result Head Cause)
        → (let q : Result Head (ℕ × Cause) = elim r [ Err cause ↦ Err (n + 1, cause) | Ok t ↦ read head_follows (n + 1) (before + length x) t xs ] in q)
        ≡ Ok head → ((u : Head) → read head_follows (n + 1) (before + length x) u xs ≡ Ok head
        → opened (n + 1) (before + length x) u (xs ++ ys) ≡ opened (n + 1 + length xs) (before + length x + length (joined xs)) head ys)
        → (let q : Result Opened (ℕ × Cause) = elim r [
          | Err cause ↦ Err (n + 1, cause)
          | Ok next ↦ elim (image_in next) [
            | Some image ↦ Ok (record { image = image; lines = n + 1; bytes = before + length x; behind = xs ++ ys })
            | None ↦ opened (n + 1) (before + length x) next (xs ++ ys)
          ]
        ] in q) ≡ opened (n + suc (length xs)) (before + length (x ++ joined xs)) head ys
    by (Err cause) e go = absurd cc
    by (Ok t) e go = going t (image_in t) refl e go

-- ---- the next line that is said

-- what comes of a line that follows or doesn't
abbrev opened_line : (n gone : ℕ) → List (List ℕ) → Result Head Cause → Result Opened (ℕ × Cause)
opened_line n gone behind (Err cause) = Err (n, cause)
opened_line n gone behind (Ok next) = elim (image_in next) [
  | Some image ↦ Ok (record { image = image; lines = n; bytes = gone; behind = behind })
  | None ↦ opened n gone next behind
]

-- what comes of the next line that is said and those behind it
abbrev opened_on : Head → Next → Result Opened (ℕ × Cause)
opened_on s (Ends n gone) = Err (n, Cause.NoEnd)
opened_on s (Faulty n fault) = Err (n, cause_of fault)
opened_on s (Says n gone text behind) = opened_line n gone behind (head_follows s (tokens_of text))

fault_opened : (n before : ℕ) (s : Head) (line : List ℕ) (lines : List (List ℕ)) (f : ByteFault) → line_fault before line ≡ Some f
    → opened n before s (line ∷ lines) ≡ Err (n + 1, cause_of f)
unfolding opened line_follows
fault_opened n before s line lines f h = rw (opened, line_follows, h) refl

over_opened : (n before : ℕ) (s : Head) (line : List ℕ) (lines : List (List ℕ)) → image_in s ≡ None → line_fault before line ≡ None
    → is_passed_over (tokens_of (text_of line)) ≡ true → opened n before s (line ∷ lines) ≡ opened (n + 1) (before + length line) s lines
unfolding opened line_follows tokens_follow
over_opened n before s line lines o h k = rw (opened, line_follows, h, tokens_follow, k, o) refl

said_opened : (n before : ℕ) (s : Head) (line : List ℕ) (lines : List (List ℕ)) → line_fault before line ≡ None
    → is_passed_over (tokens_of (text_of line)) ≡ false
    → opened n before s (line ∷ lines) ≡ opened_line (n + 1) (before + length line) lines (head_follows s (tokens_of (text_of line)))
unfolding opened line_follows tokens_follow
said_opened n before s line lines h k = rw (opened, line_follows, h, tokens_follow, k) (by (head_follows s (tokens_of (text_of line))))
  where
    by : (r : Result Head Cause) → (let q : Result Opened (ℕ × Cause) = elim r [
      | Err cause ↦ Err (n + 1, cause)
      | Ok next ↦ elim (image_in next) [
        | Some image ↦ Ok (record { image = image; lines = n + 1; bytes = before + length line; behind = lines })
        | None ↦ opened (n + 1) (before + length line) next lines
      ]
    ] in q) ≡ opened_line (n + 1) (before + length line) lines r
    by (Err cause) = refl
    by (Ok next) = refl

opened_next : (n before : ℕ) (s : Head) (lines : List (List ℕ)) → image_in s ≡ None → opened n before s lines ≡ opened_on s (next_said n before lines)
unfolding opened next_said
opened_next n before s [] o = refl
opened_next n before s (line ∷ lines) o = by (line_fault before line) refl (is_passed_over (tokens_of (text_of line))) refl
    (opened_next (n + 1) (before + length line) s lines o)
  where
    by : (f : Option ByteFault) → line_fault before line ≡ f → (p : Bool) → is_passed_over (tokens_of (text_of line)) ≡ p
        → opened (n + 1) (before + length line) s lines ≡ opened_on s (next_said (n + 1) (before + length line) lines)
        → opened n before s (line ∷ lines) ≡ opened_on s (next_said n before (line ∷ lines))
    by (Some f) h p k more = fault_opened n before s line lines f h ∙ ap (opened_on s) (sym (fault_first n before line lines f h))
    by None h true k more = over_opened n before s line lines o h k ∙ more ∙ ap (opened_on s) (sym (over_first n before line lines h k))
    by None h false k more = said_opened n before s line lines h k ∙ ap (opened_on s) (sym (said_first n before line lines h k))

-- what comes of all lines is what comes of those behind a reader
at_reader : (old : Reading) (bytes : List ℕ) (now : Reading) (rest : Option (List ℕ)) (s : Head) → image_in s ≡ None
    → (p : Stands head_follows old Head.Image bytes now rest s)
    → opened old.number old.gone Head.Image (lines_of bytes) ≡ opened_on s (next_said now.number now.gone (lines_of p.left))
at_reader old bytes now rest s o p =
    ap (opened old.number old.gone Head.Image) p.lines ∙ opened_more old.number old.gone Head.Image p.passed (lines_of p.left) s p.follow o
    ∙ ap (λ k. opened k (old.gone + length (joined p.passed)) s (lines_of p.left)) (sym p.number)
    ∙ ap (λ k. opened now.number k s (lines_of p.left)) (sym p.gone) ∙ opened_next now.number now.gone s (lines_of p.left) o

-- ---- the next answer

pub no_script : (old : Reading) (bytes : List ℕ) (now : Reading) (rest : Option (List ℕ)) (s : Head) (new : Reading) → image_in s ≡ None
    → (p : Stands head_follows old Head.Image bytes now rest s) → next_said now.number now.gone (lines_of p.left) ≡ Ends new.number new.gone
    → opened old.number old.gone Head.Image (lines_of bytes) ≡ Err (new.number, Cause.NoEnd)
no_script old bytes now rest s new o p k = at_reader old bytes now rest s o p ∙ ap (opened_on s) k

faulty_at : (old : Reading) (bytes : List ℕ) (now : Reading) (rest : Option (List ℕ)) (s : Head) (n : ℕ) (f : ByteFault) → image_in s ≡ None
    → (p : Stands head_follows old Head.Image bytes now rest s) → next_said now.number now.gone (lines_of p.left) ≡ Faulty n f
    → opened old.number old.gone Head.Image (lines_of bytes) ≡ Err (n, cause_of f)
faulty_at old bytes now rest s n f o p k = at_reader old bytes now rest s o p ∙ ap (opened_on s) k

pub faulty : (old : Reading) (bytes : List ℕ) (now : Reading) (rest : Option (List ℕ)) (s : Head) (new : Reading) (rest' : Option (List ℕ)) (x : LineFault)
    → image_in s ≡ None → (p : Stands head_follows old Head.Image bytes now rest s) → Skips now p.left new rest' (Err x)
    → ReadsImage old bytes new rest' (Err (fault_of x))
faulty old bytes now rest s new rest' LineFault.ReadFault o p k = stands_part head_follows old Head.Image bytes now rest s new rest' p k
faulty old bytes now rest s new rest' (LineFault.TooLarge n) o p k = faulty_at old bytes now rest s n TooLarge o p k
faulty old bytes now rest s new rest' (LineFault.TooLong n) o p k = faulty_at old bytes now rest s n TooLong o p k
faulty old bytes now rest s new rest' (LineFault.NotAscii n m) o p k = faulty_at old bytes now rest s n (NotAscii m) o p k

pub bad_line : (old : Reading) (bytes : List ℕ) (now : Reading) (rest : Option (List ℕ)) (s : Head) (new : Reading) (rest' : Option (List ℕ)) (n : ℕ)
    (cause : Cause) → image_in s ≡ None → (p : Stands head_follows old Head.Image bytes now rest s) → Skips now p.left new rest' (Ok (Some n))
    → head_follows s (tokens_of new.text) ≡ Err cause → opened old.number old.gone Head.Image (lines_of bytes) ≡ Err (n, cause)
bad_line old bytes now rest s new rest' n cause o p k e = at_reader old bytes now rest s o p ∙ ap (opened_on s) k.3
    ∙ ap (opened_line n new.gone (lines_of k.0)) e

-- the line of this number doesn't follow, or memory was refused
pub refused_line : (old : Reading) (bytes : List ℕ) (now : Reading) (rest : Option (List ℕ)) (s : Head) (new : Reading) (rest' : Option (List ℕ))
    (n : ℕ) (fault : ImageFault) → image_in s ≡ None → (p : Stands head_follows old Head.Image bytes now rest s)
    → Skips now p.left new rest' (Ok (Some n)) → Follows n (head_follows s (tokens_of new.text)) (Err fault) → ReadsImage old bytes new rest' (Err fault)
refused_line old bytes now rest s new rest' n ImageFault.NoMemory o p k f = tt
refused_line old bytes now rest s new rest' n ImageFault.Read o p k f = absurd (let z : ImageFault.Read ≡ ImageFault.BadLine n f.0 = f.1 in cc)
refused_line old bytes now rest s new rest' n (ImageFault.BadLine m cause) o p k f =
    subst (λ x. ReadsImage old bytes new rest' (Err x)) (sym f.1) (bad_line old bytes now rest s new rest' n f.0 o p k f.2)

-- the next line is refused, or there is none
pub refused : (old : Reading) (bytes : List ℕ) (now : Reading) (rest : Option (List ℕ)) (s : Head) (new : Reading) (rest' : Option (List ℕ))
    (answer : Result (Option ℕ) LineFault) (fault : ImageFault) → image_in s ≡ None → (p : Stands head_follows old Head.Image bytes now rest s)
    → Skips now p.left new rest' answer → AnswersLine s new answer (Err fault) → ReadsImage old bytes new rest' (Err fault)
refused old bytes now rest s new rest' (Ok (Some n)) fault o p k f = refused_line old bytes now rest s new rest' n fault o p k f
refused old bytes now rest s new rest' (Ok None) fault o p k f =
    let g : fault ≡ ImageFault.BadLine new.number Cause.NoEnd = cc in
    subst (λ x. ReadsImage old bytes new rest' (Err x)) (sym g) (no_script old bytes now rest s new o p k)
refused old bytes now rest s new rest' (Err x) fault o p k f =
    let g : fault ≡ fault_of x = cc in
    subst (λ y. ReadsImage old bytes new rest' (Err y)) (sym g) (faulty old bytes now rest s new rest' x o p k)

-- the next line follows what stands
pub followed : (s : Head) (new : Reading) (answer : Result (Option ℕ) LineFault) (next : Head) → AnswersLine s new answer (Ok next)
    → (n : ℕ) × (answer ≡ Ok (Some n)) × (head_follows s (tokens_of new.text) ≡ Ok next)
followed s new (Ok (Some n)) next f = (n, refl, f)
followed s new (Ok None) next f = absurd cc
followed s new (Err x) next f = absurd cc

-- and stands so behind lines that were said before
pub skips_to : (old : Reading) (bytes : List ℕ) (new : Reading) (rest : Option (List ℕ)) (n : ℕ) (answer : Result (Option ℕ) LineFault)
    → Skips old bytes new rest answer → answer ≡ Ok (Some n) → Skips old bytes new rest (Ok (Some n))
skips_to old bytes new rest n answer k e = subst (Skips old bytes new rest) e k

-- where a line was refused, no fault was counted by it
pub refused_counts : (U : Type 0) (n : ℕ) (said : Result Head Cause) (fault : ImageFault) (a b : ℕ) → Follows n said (Err fault) → b ≡ a
    → CountsRead {T = U} a b (Err fault)
refused_counts U n said ImageFault.NoMemory a b f e = e
refused_counts U n said ImageFault.Read a b f e = absurd (let z : ImageFault.Read ≡ ImageFault.BadLine n f.0 = f.1 in cc)
refused_counts U n said (ImageFault.BadLine m cause) a b f e = e

-- a fault that was counted in one answer is counted in the next
pub counts_again : (T U : Type 0) (fault : ImageFault) (a b c : ℕ) → b ≡ a → CountsRead {T = T} b c (Err fault) → CountsRead {T = U} a c (Err fault)
counts_again T U ImageFault.Read a b c e k = omega (arith, e, k)
counts_again T U (ImageFault.BadLine n cause) a b c e k = k ∙ e
counts_again T U ImageFault.NoMemory a b c e k = k ∙ e

-- the line `script`
pub script_line : (old : Reading) (bytes : List ℕ) (now : Reading) (rest : Option (List ℕ)) (s : Head) (new : Reading) (rest' : Option (List ℕ)) (n : ℕ)
    (image : KernelImage) → image_in s ≡ None → (p : Stands head_follows old Head.Image bytes now rest s) → Skips now p.left new rest' (Ok (Some n))
    → head_follows s (tokens_of new.text) ≡ Ok (Head.Opened image) → ReadsImage old bytes new rest' (Ok image)
script_line old bytes now rest s new rest' n image o p k e = (
  k.0,
  k.1,
  at_reader old bytes now rest s o p ∙ ap (opened_on s) k.3 ∙ ap (opened_line n new.gone (lines_of k.0)) e
      ∙ ap (λ (m : ℕ). Ok (record { image = image; lines = m; bytes = new.gone; behind = lines_of k.0 })) (sym k.2),
)
