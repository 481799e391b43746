-- All cells of an image have spellings, where its bodies' numbers are in range.
use Rattle.std.proofs.Common.{◌≡◌, ℕ, zero, suc, ◌+◌, ◌<◌, ◌≤◌, Bool, true, false, List, [], ◌∷◌, ◌++◌, length, refl, sym, ap, ◌∙◌, append_assoc, arith}
use Rattle.std.specs.Prelude.{codes}
use Rattle.ev_isa.specs.declared.mode.Mode.{Mode}
use Rattle.ev_isa.specs.declared.mode.Mode.TheVariants.{Idt, Fred}
use Rattle.ev_isa.specs.Instruction.{is_instruction}
use Rattle.ev_isa.specs.Spelling.{spelling, four_bytes}
use Rattle.ev_event.specs.Event.{has_error_code}
use Rattle.ev_body.specs.declared.key.Key.{Key}
use Rattle.ev_body.specs.declared.key.Key.TheVariants.{Sys, Db, Nmi, Bp, Ud, Ss, Gp, Pf, Ac, Irq}
use Rattle.ev_asm.specs.Assembly.{Name, Places, place, places, size}
use Rattle.ev_listing.specs.Marks.{Listing, stmts_of, all_places}
use Rattle.ev_listing.specs.Expansion.{exit_of}
use Rattle.ev_listing.specs.IdtCode.{idt_listings, stubs}
use Rattle.ev_listing.specs.FredCode.{fred_listings}
use Rattle.ev_concrete.specs.Opening.{kernel_listings, body_listings, listings}
use Rattle.std.specs.List.{list_all}
use Rattle.ev_body.specs.declared.image.Image.{Image}
use Rattle.ev_body.specs.WellFormed.{IsImage}
use Rattle.ev_fetch.specs.Spelled.{has_spelling}
use Rattle.ev_fetch.specs.Claims.{BodiesAreSpelled}
use Rattle.ev_fetch.proofs.Regions.{Each, each_append}
use Rattle.ev_fetch.proofs.Sizes.{idt_code, stub_if, stub_size, idt_between, fred_between}
use Rattle.ev_fetch.proofs.Labels.{InCode, has_place, place_in_code, has_first, has_rest, LiesInCode, places_in_code, IsSpelledWith, listings_spelled}
use Rattle.ev_fetch.proofs.Bodies.{lie, bodies_lie, bodies_spelled, closed_listings, fred_spelled, idt_spelled}

-- ---- the places of listings one behind the other

places_append : (xs ys : List Listing) → all_places (xs ++ ys) ≡ all_places xs ++ all_places ys
places_append [] ys = refl
places_append (x ∷ xs) ys = ap (λ e. places x.address (stmts_of x.lines) ++ e) (places_append xs ys)
    ∙ sym (append_assoc (places x.address (stmts_of x.lines)) (all_places xs) (all_places ys))

first_has : (xs ys : List Listing) (name : Name) → has_place (all_places xs) name ≡ true → has_place (all_places (xs ++ ys)) name ≡ true
first_has xs ys name h = ap (λ e. has_place e name) (places_append xs ys) ∙ has_first (all_places xs) (all_places ys) name h

rest_has : (xs ys : List Listing) (name : Name) → has_place (all_places ys) name ≡ true → has_place (all_places (xs ++ ys)) name ≡ true
rest_has xs ys name h = ap (λ e. has_place e name) (places_append xs ys) ∙ has_rest (all_places xs) (all_places ys) name h

-- ---- stubs

stubs_lie : (v n : ℕ) → v + n ≤ 256 → Each LiesInCode (stubs v n)
stubs_lie v zero h = tt
stubs_lie v (suc n) h = let size = stub_size (has_error_code v) v in ((omega arith, omega arith), stubs_lie (suc v) n (omega arith))

stub_spelled : (env : Places) (t : Bool) (v : ℕ) → v < 256 → InCode (place env (codes "COMMON")) → Each (λ l. IsSpelledWith env l.stmt) (stub_if t v)
unfolding is_instruction
stub_spelled env true v h c = (record { fields = record { sfits = omega arith }; counts = refl }, (c, tt))
stub_spelled env false v h c =
    (record { fields = record { sfits = omega arith }; counts = refl }, (record { fields = record { sfits = omega arith }; counts = refl }, (c, tt)))

stubs_spelled : (env : Places) (v n : ℕ) → v + n ≤ 256 → InCode (place env (codes "COMMON"))
    → Each (λ b. Each (λ l. IsSpelledWith env l.stmt) b.lines) (stubs v n)
stubs_spelled env v zero h c = tt
stubs_spelled env v (suc n) h c = (stub_spelled env (has_error_code v) v (omega arith) c, stubs_spelled env (suc v) n (omega arith) c)

-- ---- the kernel's own code

kernel_lies : (mode : Mode) → Each LiesInCode (kernel_listings mode)
unfolding idt_listings
kernel_lies Idt = each_append LiesInCode idt_code (stubs 0 256) (lie idt_code idt_between) (stubs_lie 0 256 (omega arith))
kernel_lies Fred = lie fred_listings fred_between

common_there : has_place (all_places idt_code) (codes "COMMON") ≡ true
unfolding size spelling four_bytes places
common_there = refl

kernel_spelled : (mode : Mode) (env : Places) → ((name : Name) → has_place (all_places (kernel_listings mode)) name ≡ true → InCode (place env name))
    → Each (λ b. Each (λ l. IsSpelledWith env l.stmt) b.lines) (kernel_listings mode)
unfolding idt_listings
kernel_spelled Idt env known =
    let own : (name : Name) → has_place (all_places idt_code) name ≡ true → InCode (place env name) =
    λ name h. known name (first_has idt_code (stubs 0 256) name h) in
    each_append (λ b. Each (λ l. IsSpelledWith env l.stmt) b.lines) idt_code (stubs 0 256)
    (closed_listings env (all_places idt_code) own idt_code idt_spelled) (stubs_spelled env 0 256 (omega arith) (own (codes "COMMON") common_there))
kernel_spelled Fred env known = closed_listings env (all_places fred_listings) known fred_listings fred_spelled

exit_there : has_place (all_places idt_code) (codes "EXIT") ≡ true
unfolding size spelling four_bytes places
exit_there = refl

exitn_there : has_place (all_places idt_code) (codes "EXITN") ≡ true
unfolding size spelling four_bytes places
exitn_there = refl

fexit_there : has_place (all_places fred_listings) (codes "FEXIT") ≡ true
unfolding fred_listings size spelling four_bytes places
fexit_there = refl

fexitn_there : has_place (all_places fred_listings) (codes "FEXITN") ≡ true
unfolding fred_listings size spelling four_bytes places
fexitn_there = refl

idt_exit : (key : Key) → has_place (all_places idt_code) (exit_of Idt key) ≡ true
idt_exit Nmi = exitn_there
idt_exit Sys = exit_there
idt_exit Db = exit_there
idt_exit Bp = exit_there
idt_exit Ud = exit_there
idt_exit Ss = exit_there
idt_exit Gp = exit_there
idt_exit Pf = exit_there
idt_exit Ac = exit_there
idt_exit (Irq v) = exit_there

fred_exit : (key : Key) → has_place (all_places fred_listings) (exit_of Fred key) ≡ true
fred_exit Nmi = fexitn_there
fred_exit Sys = fexit_there
fred_exit Db = fexit_there
fred_exit Bp = fexit_there
fred_exit Ud = fexit_there
fred_exit Ss = fexit_there
fred_exit Gp = fexit_there
fred_exit Pf = fexit_there
fred_exit Ac = fexit_there
fred_exit (Irq v) = fexit_there

kernel_exit : (mode : Mode) (key : Key) → has_place (all_places (kernel_listings mode)) (exit_of mode key) ≡ true
unfolding idt_listings
kernel_exit Idt key = first_has idt_code (stubs 0 256) (exit_of Idt key) (idt_exit key)
kernel_exit Fred key = fred_exit key

-- ---- all listings

-- each listing lies in the code
pub listings_lie : (mode : Mode) (image : Image) → IsImage image → Each LiesInCode (listings mode image)
unfolding listings
listings_lie mode image is =
    let few = is.bodies_given.0 in
    each_append LiesInCode (body_listings mode image 0 image.bodies) (kernel_listings mode)
    (bodies_lie mode image (length image.text) 0 image.bodies is.bodies_given.1 (omega arith)) (kernel_lies mode)

-- each statement of each listing has a spelling, with the places of all labels
pub statements_are_spelled : (mode : Mode) (image : Image) → IsImage image → list_all (has_spelling image.processors) image.bodies ≡ true
    → Each (λ b. Each (λ l. IsSpelledWith (all_places (listings mode image)) l.stmt) b.lines) (listings mode image)
unfolding listings
statements_are_spelled mode image is h =
    let bodies = body_listings mode image 0 image.bodies in
    let kernel = kernel_listings mode in
    let env = all_places (bodies ++ kernel) in
    let known : (name : Name) → has_place env name ≡ true → InCode (place env name) =
    λ name k. place_in_code env name (places_in_code (bodies ++ kernel) (listings_lie mode image is)) k in
    each_append (λ b. Each (λ l. IsSpelledWith env l.stmt) b.lines) bodies kernel
    (bodies_spelled mode image is env 0 image.bodies is.bodies_given.1 h
    (λ key. known (exit_of mode key) (rest_has bodies kernel (exit_of mode key) (kernel_exit mode key)))
    (λ name k. known name (first_has bodies kernel name k)))
    (kernel_spelled mode env (λ name k. known name (rest_has bodies kernel name k)))

pub bodies_are_spelled : BodiesAreSpelled
bodies_are_spelled mode image is h =
    listings_spelled (all_places (listings mode image)) (listings mode image) (listings_lie mode image is) (statements_are_spelled mode image is h)
