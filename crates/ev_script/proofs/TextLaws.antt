-- The text of a script line reads as that line.
use Rattle.std.proofs.Common.{◌≡◌, ℕ, zero, suc, ◌^◌, ◌<◌, Bool, true, false, ◌&&◌, ◌||◌, List, [], ◌∷◌, ◌++◌, length, Option, Some, None, Result, Ok, Err, refl, ap, sym, ◌∙◌, arith}
use Rattle.std.specs.Prelude.{nat_le, nat_lt, ◌==◌, codes, decimal}
use Rattle.std.specs.Fmt.{digits}
use Rattle.std.proofs.lemmas.Bool.{eqb-true}
use Rattle.std.proofs.lemmas.Bool.Decides.{nat_tests}
use Rattle.ev_body.specs.declared.key.Key.{Key}
use Rattle.ev_body.specs.declared.key.Key.TheVariants.{Nmi, Irq}
use Rattle.ev_body.specs.Bodies.{key_number}
use Rattle.ev_body.specs.WellFormed.{is_sendable}
use Rattle.ev_body.specs.KernelImage.{KernelImage}
use Rattle.ev_io.specs.declared.cause.Cause.{Cause}
use Rattle.ev_io.specs.Number.{number_of}
use Rattle.ev_io.specs.Tokens.{Token, tokens_of}
use Rattle.ev_io.proofs.TokenLaws.{spaceless, first_token, last_token}
use Rattle.ev_io.proofs.DecimalLaws.{IsDecimalOf, decimal_is, number_back, no_space}
use Rattle.ev_abstract.specs.EntryText.{key_text}
use Rattle.ev_abstract.specs.Script.{has_body_of, is_line}
use Rattle.ev_abstract.specs.declared.script_line.Line.{Line}
use Rattle.ev_line.specs.Names.{key_of, interrupt_key, low_digit}
use Rattle.ev_line.specs.Operands.{Processor, Within, KeyOfBody, value, or_else, if_it, then_make, among, number, number_within, processor, key, sent_key, key_of_body}
use Rattle.ev_line.specs.Forms.{read_by}
use Rattle.ev_line.proofs.NameLaws.{both}
use Rattle.ev_line.proofs.FormLaws.{one_place, make_both, two_places}
use Rattle.ev_script.specs.ScriptLine.{word_of, keys_with_bodies, line_of_tokens, line_of}
use Rattle.ev_script.specs.LineText.{line_words, line_text}
use Rattle.ev_script.proofs.LineLaws.{turn_forms, edge_forms, arrive_forms, accept_forms, bodies_among}

-- ---- operands

picked : {X : Type 0} → (b : Bool) (x : X) (cause : Cause) → b ≡ true → ◌≡◌ {A = Result X Cause} (elim b [ true ↦ Ok x | false ↦ Err cause ]) (Ok x)
picked true x cause h = refl
picked false x cause h = absurd cc

processor_read : (count p : ℕ) (t : Token) → number_of t ≡ Some p → nat_lt p count ≡ true → value (Processor count) t ≡ Ok p
unfolding value processor number
processor_read count p t h k = ap (λ o. if_it (λ n. nat_lt n count) Cause.NoSuchProcessor (or_else Cause.Number o)) h
    ∙ picked (nat_lt p count) p Cause.NoSuchProcessor k

edges_read : (n : ℕ) (t : Token) → number_of t ≡ Some n → nat_le 1 n ≡ true → nat_le n 4096 ≡ true → value (Within 1 4096) t ≡ Ok n
unfolding value number_within number
edges_read n t h k l =
    ap (λ o. if_it (λ m. nat_le 1 m && nat_le m 4096) Cause.Limit (or_else Cause.Number o)) h ∙ picked (nat_le 1 n && nat_le n 4096) n Cause.Limit
    (ap (λ v. v && nat_le n 4096) k ∙ l)

key_read : (keys : List ℕ) (k : Key) (t : Token) → key_of t ≡ Some k → is_sendable k ≡ true → among keys (key_number k) ≡ true → value (KeyOfBody keys) t ≡ Ok k
unfolding value key_of_body sent_key key
key_read keys k t h s b =
    ap (λ o. if_it (λ x. among keys (key_number x)) Cause.NoBody (if_it is_sendable Cause.Name (or_else Cause.Name o))) h
    ∙ ap (if_it (λ x. among keys (key_number x)) Cause.NoBody) (picked (is_sendable k) k Cause.Name s) ∙ picked (among keys (key_number k)) k Cause.NoBody b

-- ---- the text of a key

abbrev is_interrupt : ℕ → Option Key → Bool
is_interrupt v (Some (Irq w)) = v == w
is_interrupt v k = false

-- whether an interrupt's text reads as its key and is a token
abbrev reads_back : ℕ → Bool
reads_back v = is_interrupt v (key_of (key_text (Irq v))) && (spaceless (key_text (Irq v)) && nat_lt 0 (length (key_text (Irq v))))

-- a test of all numbers below n
abbrev up_to : ℕ → (ℕ → Bool) → Bool
up_to zero test = true
up_to (suc n) test = test n && up_to n test

up_to_at : (n v : ℕ) (test : ℕ → Bool) → up_to n test ≡ true → v < n → test v ≡ true
up_to_at zero v test h l = absurd (omega (arith, l))
up_to_at (suc n) v test h l = let p = both (test n) (up_to n test) h in by (v == n) refl p.0 (λ m. up_to_at n v test p.1 m)
  where
    differ : (a b : ℕ) → a == b ≡ false → a < suc b → a < b
    differ a b h l = grind (arith, nat_tests)

    by : (e : Bool) → v == n ≡ e → test n ≡ true → (v < n → test v ≡ true) → test v ≡ true
    by true k here more = ap test (eqb-true v n k) ∙ here
    by false k here more = more (differ v n k l)

all_read_back : up_to 256 (λ v. nat_lt v 32 || reads_back v) ≡ true
unfolding key_of interrupt_key low_digit key_text digits
all_read_back = refl

-- what a key's text is
record IsWordOf (k : Key) (t : Token) : Type 0 where
  reads : key_of t ≡ Some k
  spaces : spaceless t ≡ true
  some : 0 < length t

interrupt_word : (v : ℕ) → nat_le 32 v ≡ true → nat_lt v 256 ≡ true → IsWordOf (Irq v) (key_text (Irq v))
interrupt_word v h k = let p = both (is_interrupt v (key_of (key_text (Irq v)))) _ all in let q = both (spaceless (key_text (Irq v))) _ p.1 in
    record { reads = same (key_of (key_text (Irq v))) p.0; spaces = q.0; some = less _ _ q.1 }
  where
    below : nat_lt v 32 ≡ false
    below = grind (arith, nat_tests)

    less : (a b : ℕ) → nat_lt a b ≡ true → a < b
    less a b h = grind (arith, nat_tests)

    all : reads_back v ≡ true
    all = ap (λ b. b || reads_back v) (sym below) ∙ up_to_at 256 v (λ v. nat_lt v 32 || reads_back v) all_read_back (less v 256 k)

    same : (o : Option Key) → is_interrupt v o ≡ true → o ≡ Some (Irq v)
    same None h = absurd cc
    same (Some (Irq w)) h = ap (λ x. Some (Irq x)) (sym (eqb-true v w h))
    same (Some k) h = absurd cc

nmi_word : IsWordOf Nmi (key_text Nmi)
unfolding key_of key_text
nmi_word = record { reads = refl; spaces = refl; some = omega arith }

sent_word : (k : Key) → is_sendable k ≡ true → IsWordOf k (key_text k)
sent_word Nmi h = nmi_word
sent_word (Irq v) h = let p = both (nat_le 32 v) (nat_lt v 256) h in interrupt_word v p.0 p.1
sent_word k h = absurd cc

-- ---- lines

decimal_tokens : (n : ℕ) → n < 2 ^ 64 → tokens_of (decimal n) ≡ decimal n ∷ []
decimal_tokens n h = let d : IsDecimalOf n (decimal n) = decimal_is n h in last_token (decimal n) d.some (no_space (decimal n) d.digits)

decimal_then : (n : ℕ) (rest : List ℕ) → n < 2 ^ 64 → tokens_of (decimal n ++ 32 ∷ rest) ≡ decimal n ∷ tokens_of rest
decimal_then n rest h = let d : IsDecimalOf n (decimal n) = decimal_is n h in first_token (decimal n) rest d.some (no_space (decimal n) d.digits)

one_operand : (image : KernelImage) (word : Token) (p : ℕ) → 0 < length word → spaceless word ≡ true → p < 2 ^ 64
    → tokens_of (word ++ 32 ∷ decimal p) ≡ word ∷ decimal p ∷ []
one_operand image word p l s h = first_token word (decimal p) l s ∙ ap (λ (ts : List Token). word ∷ ts) (decimal_tokens p h)

turn_back : (image : KernelImage) (p : ℕ) → p < 2 ^ 64 → nat_lt p image.processors ≡ true → line_of (line_text (Line.Turn p)) image ≡ Ok (Line.Turn p)
unfolding line_words line_of_tokens read_by word_of
turn_back image p h k =
    ap (line_of_tokens image) (one_operand image (codes "turn") p (omega arith) refl h)
    ∙ turn_forms image.processors (keys_with_bodies image) (decimal p ∷ [])
    ∙ ap (then_make Line.Turn) (one_place (Processor image.processors) (λ n. n) (decimal p)
    ∙ ap (then_make (λ n. n)) (processor_read image.processors p (decimal p) (number_back p h) k))

accept_back : (image : KernelImage) (p : ℕ) → p < 2 ^ 64 → nat_lt p image.processors ≡ true → line_of (line_text (Line.Accept p)) image ≡ Ok (Line.Accept p)
unfolding line_words line_of_tokens read_by word_of
accept_back image p h k =
    ap (line_of_tokens image) (one_operand image (codes "accept") p (omega arith) refl h)
    ∙ accept_forms image.processors (keys_with_bodies image) (decimal p ∷ [])
    ∙ ap (then_make Line.Accept) (one_place (Processor image.processors) (λ n. n) (decimal p)
    ∙ ap (then_make (λ n. n)) (processor_read image.processors p (decimal p) (number_back p h) k))

edge_back : (image : KernelImage) (p n : ℕ) → p < 2 ^ 64 → n < 2 ^ 64 → nat_lt p image.processors ≡ true → nat_le 1 n ≡ true → nat_le n 4096 ≡ true
    → line_of (line_text (Line.Edge p n)) image ≡ Ok (Line.Edge p n)
unfolding line_words line_of_tokens read_by word_of
edge_back image p n h i k l m =
    ap (line_of_tokens image) (first_token (codes "edge") (decimal p ++ 32 ∷ decimal n) (omega arith) refl
    ∙ ap (λ (ts : List Token). codes "edge" ∷ ts) (decimal_then p (decimal n) h ∙ ap (λ (ts : List Token). decimal p ∷ ts) (decimal_tokens n i)))
    ∙ edge_forms image.processors (keys_with_bodies image) (decimal p ∷ decimal n ∷ [])
    ∙ two_places (Processor image.processors) (Within 1 4096) (λ p n. Line.Edge p n) (decimal p) (decimal n)
    ∙ ap (λ r. make_both (λ p n. Line.Edge p n) r (value (Within 1 4096) (decimal n))) (processor_read image.processors p (decimal p) (number_back p h) k)
    ∙ ap (make_both (λ p n. Line.Edge p n) (Ok p)) (edges_read n (decimal n) (number_back n i) l m)

arrive_back : (image : KernelImage) (p : ℕ) (key : Key) → p < 2 ^ 64 → nat_lt p image.processors ≡ true → is_sendable key ≡ true → has_body_of image key ≡ true
    → line_of (line_text (Line.Arrive p key)) image ≡ Ok (Line.Arrive p key)
unfolding line_words line_of_tokens read_by word_of
arrive_back image p key h k s b =
    let word : IsWordOf key (key_text key) = sent_word key s in
    ap (line_of_tokens image) (first_token (codes "arrive") (decimal p ++ 32 ∷ key_text key) (omega arith) refl
    ∙ ap (λ (ts : List Token). codes "arrive" ∷ ts)
    (decimal_then p (key_text key) h ∙ ap (λ (ts : List Token). decimal p ∷ ts) (last_token (key_text key) word.some word.spaces)))
    ∙ arrive_forms image.processors (keys_with_bodies image) (decimal p ∷ key_text key ∷ [])
    ∙ two_places (Processor image.processors) (KeyOfBody (keys_with_bodies image)) (λ p key. Line.Arrive p key) (decimal p) (key_text key)
    ∙ ap (λ r. make_both (λ p key. Line.Arrive p key) r (value (KeyOfBody (keys_with_bodies image)) (key_text key)))
    (processor_read image.processors p (decimal p) (number_back p h) k)
    ∙ ap (make_both (λ p key. Line.Arrive p key) (Ok p))
    (key_read (keys_with_bodies image) key (key_text key) word.reads s (bodies_among image.bodies (key_number key) ∙ b))

-- a line of an image is read from its text
pub turn_reads : (image : KernelImage) (p : ℕ) → p < 2 ^ 64 → is_line image (Line.Turn p) ≡ true → line_of (line_text (Line.Turn p)) image ≡ Ok (Line.Turn p)
unfolding is_line
turn_reads image p h k = turn_back image p h k

pub accept_reads : (image : KernelImage) (p : ℕ) → p < 2 ^ 64 → is_line image (Line.Accept p) ≡ true
    → line_of (line_text (Line.Accept p)) image ≡ Ok (Line.Accept p)
unfolding is_line
accept_reads image p h k = accept_back image p h k

pub edge_reads : (image : KernelImage) (p n : ℕ) → p < 2 ^ 64 → n < 2 ^ 64 → is_line image (Line.Edge p n) ≡ true
    → line_of (line_text (Line.Edge p n)) image ≡ Ok (Line.Edge p n)
unfolding is_line
edge_reads image p n h i k =
    let a = both (nat_lt p image.processors && nat_le 1 n) (nat_le n 4096) k in
    let b = both (nat_lt p image.processors) (nat_le 1 n) a.0 in
    edge_back image p n h i b.0 b.1 a.1

pub arrive_reads : (image : KernelImage) (p : ℕ) (key : Key) → p < 2 ^ 64 → is_line image (Line.Arrive p key) ≡ true
    → line_of (line_text (Line.Arrive p key)) image ≡ Ok (Line.Arrive p key)
unfolding is_line
arrive_reads image p key h k =
    let a = both (nat_lt p image.processors && is_sendable key) (has_body_of image key) k in
    let b = both (nat_lt p image.processors) (is_sendable key) a.0 in
    arrive_back image p key h b.0 b.1 a.1
