-- What is read is well formed: the image of a document, and the script behind it.
use Rattle.std.proofs.Common.{◌≡◌, ℕ, ◌+◌, Bool, true, false, List, [], ◌∷◌, ◌++◌, length, map, Option, Some, None, Result, Ok, Err, refl, ap, ◌∙◌, subst}
use Rattle.std.specs.Prelude.{nat_le, ◌==◌, ◌||◌}
use Rattle.std.specs.List.{list_any}
use Rattle.ev_body.specs.declared.body.Body.{Body}
use Rattle.ev_body.specs.Bodies.{key_number}
use Rattle.ev_body.specs.KernelImage.{KernelImage}
use Rattle.ev_body.specs.WellFormed.{IsImage}
use Rattle.ev_abstract.specs.Script.{IsScript, is_line}
use Rattle.ev_abstract.specs.declared.script_line.Line.{Line}
use Rattle.ev_image.specs.declared.head.Head.{Head}
use Rattle.ev_image.specs.Head.{head_follows}
use Rattle.ev_image.specs.Reads.{Opened, opened, image_in, Reached}
use Rattle.ev_image.proofs.HeadKept.{image_kept}
use Rattle.ev_image.proofs.Told.{line_gives}
use Rattle.ev_io.specs.declared.cause.Cause.{Cause}
use Rattle.ev_io.specs.Follow.{cause_of, line_follows, read, tokens_follow}
use Rattle.ev_io.specs.InputLines.{ByteFault, line_fault, text_of}
use Rattle.ev_io.specs.Tokens.{Token, tokens_of, is_passed_over}
use Rattle.ev_line.specs.Operands.{among}
use Rattle.ev_script.specs.declared.line.Word.{Word}
use Rattle.ev_script.specs.Script.{Ended, Open, Standing, ends, follows, one_more, read_script, said, said_by, then_stands, whole}
use Rattle.ev_script.specs.ScriptLine.{forms_of_word, keys_with_bodies, line_of_tokens, script_forms, word_of}
use Rattle.ev_script.proofs.LineLaws.{arrive_formed, edge_formed, processor_formed}
use Rattle.ev_script.proofs.ScriptLaws.{more_formed}
use Rattle.ev_text.proofs.Gives.{AllGive}

-- ---- a line that follows is passed over, or the rule takes its tokens

followed : {S : Type 0} → (rule : S → List Token → Result S Cause) (before : ℕ) (s : S) (line : List ℕ) (next : S)
    → line_follows rule before s line ≡ Ok next → (P : S → Type 0) → P s → ((ts : List Token) → rule s ts ≡ Ok next → P next) → P next
unfolding line_follows tokens_follow
followed {S} rule before s line next h P here there = by (line_fault before line) (is_passed_over (tokens_of (text_of line))) h
  where
    by : (f : Option ByteFault) (p : Bool)
        → (let r : Result S Cause = elim f [
          | Some fault ↦ Err (cause_of fault)
          | None ↦ elim p [ true ↦ Ok s | false ↦ rule s (tokens_of (text_of line)) ]
        ] in r) ≡ Ok next → P next
    by (Some f) p e = absurd cc
    by None true e = let g : s ≡ next = cc in subst P g here
    by None false e = there (tokens_of (text_of line)) e

-- ---- the image

reached_more : (head : Head) (ts : List Token) (next : Head) → Reached head → head_follows head ts ≡ Ok next → Reached next
reached_more head ts next r h = (ts ∷ r.0, (head, r.1, h))

-- what is shown of the lines from one on, whatever state is reached there
abbrev OpensReached : (n before : ℕ) → List (List ℕ) → Opened → Type 0
OpensReached n before lines o = (next : Head) → Reached next → opened n before next lines ≡ Ok o → Reached (Head.Opened o.image)

opened_reached : (n before : ℕ) (head : Head) (lines : List (List ℕ)) (o : Opened) → Reached head → opened n before head lines ≡ Ok o
    → Reached (Head.Opened o.image)
unfolding opened
opened_reached n before head [] o r h = absurd cc
opened_reached n before head (line ∷ lines) o r h =
    by (line_follows head_follows before head line) refl h (λ next k. opened_reached (n + 1) (before + length line) next lines o k)
  where
    at : (next : Head) → Reached next → OpensReached (n + 1) (before + length line) lines o
        → (let q : Result Opened (ℕ × Cause) = elim (image_in next) [
          | Some image ↦ Ok (record { image = image; lines = n + 1; bytes = before + length line; behind = lines })
          | None ↦ opened (n + 1) (before + length line) next lines
        ] in q) ≡ Ok o → Reached (Head.Opened o.image)
    at (Head.Opened image) r rest e = let g : image ≡ o.image = cc in subst (λ i. Reached (Head.Opened i)) g r
    at next r rest e = rest next r e

    by : (f : Result Head Cause) → line_follows head_follows before head line ≡ f
        → (let q : Result Opened (ℕ × Cause) = elim f [
          | Err cause ↦ Err (n + 1, cause)
          | Ok next ↦ elim (image_in next) [
            | Some image ↦ Ok (record { image = image; lines = n + 1; bytes = before + length line; behind = lines })
            | None ↦ opened (n + 1) (before + length line) next lines
          ]
        ] in q) ≡ Ok o → OpensReached (n + 1) (before + length line) lines o → Reached (Head.Opened o.image)
    by (Err cause) k e rest = absurd cc
    by (Ok next) k e rest = at next (followed head_follows before head line next k Reached r (λ ts j. reached_more head ts next r j)) rest e

pub opened_is_image : (lines : List (List ℕ)) (o : Opened) → opened 0 0 Head.Image lines ≡ Ok o → IsImage o.image
opened_is_image lines o h = image_kept o.image (opened_reached 0 0 Head.Image lines o ([], refl) h)

-- ---- a script line

has_body : (bs : List Body) (n : ℕ) → list_any (λ (b : Body). key_number b.key == n) bs ≡ among (map (λ (b : Body). key_number b.key) bs) n
has_body [] n = refl
has_body (b ∷ bs) n = ap (λ (t : Bool). (key_number b.key == n) || t) (has_body bs n)

forms_formed : (image : KernelImage) (o : Option Word)
    → AllGive (λ line. is_line image line ≡ true) (forms_of_word image.processors (keys_with_bodies image) o)
unfolding forms_of_word is_line
forms_formed image None = tt
forms_formed image (Some Word.Turn) = (λ p lt. processor_formed image.processors p lt, tt)
forms_formed image (Some Word.Edge) = (λ p lt n k. edge_formed image.processors p n lt k.0 k.1, tt)
forms_formed image (Some Word.Arrive) =
    (λ p lt key k. arrive_formed image.processors p _ _ lt k.0 (has_body image.bodies (key_number key) ∙ k.1), tt)
forms_formed image (Some Word.Accept) = (λ p lt. processor_formed image.processors p lt, tt)

line_formed : (image : KernelImage) (ts : List Token) (line : Line) → line_of_tokens image ts ≡ Ok line → is_line image line ≡ true
unfolding line_of_tokens
line_formed image ts line h =
    line_gives (λ l. is_line image l ≡ true) (script_forms image.processors (keys_with_bodies image)) ts line
    (λ w. forms_formed image (word_of w)) h

-- ---- the script

abbrev Formed : KernelImage → Standing → Type 0
Formed image (Open script) = IsScript image script
Formed image (Ended script) = IsScript image script

follows_formed : (image : KernelImage) (s : Standing) (ts : List Token) (next : Standing) → Formed image s → follows image s ts ≡ Ok next
    → Formed image next
unfolding follows said one_more
follows_formed image (Ended script) ts next f h = absurd cc
follows_formed image (Open script) ts next f h = by (ends ts) (line_of_tokens image ts) refl h
  where
    more : (line : Line) (full : Bool) → line_of_tokens image ts ≡ Ok line
        → (let r : Result (Option Line) Cause = elim full [ true ↦ Err Cause.Limit | false ↦ Ok (Some line) ] in then_stands script r) ≡ Ok next
        → Formed image next
    more line true k e = absurd cc
    more line false k e = let g : Open (script ++ line ∷ []) ≡ next = cc in
        subst (Formed image) g (more_formed image script line f (line_formed image ts line k))

    by : (r : Result Bool Cause) (l : Result Line Cause) → line_of_tokens image ts ≡ l → then_stands script (said_by r (length script) l) ≡ Ok next
        → Formed image next
    by (Err cause) l k e = absurd cc
    by (Ok true) l k e = let g : Ended script ≡ next = cc in subst (Formed image) g f
    by (Ok false) (Err cause) k e = absurd cc
    by (Ok false) (Ok line) k e = more line (nat_le 200000 (length script)) k e

-- the same of lines that are read
abbrev ReadsFormed : KernelImage → (n before : ℕ) → List (List ℕ) → Standing → Type 0
ReadsFormed image n before lines last = (next : Standing) → Formed image next → read (follows image) n before next lines ≡ Ok last → Formed image last

read_formed : (image : KernelImage) (n before : ℕ) (s : Standing) (lines : List (List ℕ)) (last : Standing) → Formed image s
    → read (follows image) n before s lines ≡ Ok last → Formed image last
unfolding read
read_formed image n before s [] last f h = let g : s ≡ last = cc in subst (Formed image) g f
read_formed image n before s (line ∷ lines) last f h =
    by (line_follows (follows image) before s line) refl h (λ next k. read_formed image (n + 1) (before + length line) next lines last k)
  where
    by : (r : Result Standing Cause) → line_follows (follows image) before s line ≡ r
        → (let q : Result Standing (ℕ × Cause) = elim r [
          | Err cause ↦ Err (n + 1, cause)
          | Ok next ↦ read (follows image) (n + 1) (before + length line) next lines
        ] in q) ≡ Ok last → ReadsFormed image (n + 1) (before + length line) lines last → Formed image last
    by (Err cause) k e rest = absurd cc
    by (Ok next) k e rest = rest next (followed (follows image) before s line next k (Formed image) f (λ ts j. follows_formed image s ts next f j)) e

pub script_is_formed : (image : KernelImage) (n before : ℕ) (lines : List (List ℕ)) (script : List Line) → read_script image n before lines ≡ Ok script
    → IsScript image script
unfolding read_script whole
script_is_formed image n before lines script h = by (read (follows image) n before (Open []) lines) refl h
  where
    by : (r : Result Standing (ℕ × Cause)) → read (follows image) n before (Open []) lines ≡ r → whole (n + length lines) r ≡ Ok script
        → IsScript image script
    by (Err refusal) k e = absurd cc
    by (Ok (Open s)) k e = absurd cc
    by (Ok (Ended s)) k e = let g : s ≡ script = cc in subst (IsScript image) g (read_formed image n before (Open []) lines (Ended s) refl k)
