-- Calls on both machines: calls that cross, a call to oneself, all eight sites at once, interrupts that find nothing to take, and a function that calls
-- and waits between `take` and `finish`. What visible steps show are the entries; and, but for the eight sites, before every step, edges too, each call
-- record is in its place. A record that no body of its owner fills has what the abstract machine says of it. The head of a queue leads to its calls, the
-- last one first. What a body took is linked from registers: while `take` turns it round, RAX leads to what is left, the last one first, and R14 to what
-- is turned; behind the load of a link RCX is what is left beyond the record in RAX. Then, and in `finish`, R14 leads to the calls that are still to run.
-- In the code of each item of calls the registers are its context's locals, but for those that get theirs last, and what the item has read or computed.
use Rattle.std.specs.Prelude.{◌≡◌, refl, ℕ, zero, suc, ◌+◌, ◌-◌, List, [], ◌∷◌, ◌++◌, Bool, true, false, ◌&&◌, ◌||◌, nat_lt, nat_le, ◌==◌, if◌then◌else◌, Option, Some, None, reverse, slice_get, not}
use Rattle.std.specs.List.{list_all}
use Rattle.ev_isa.specs.Word.{NatMap, numbers_from}
use Rattle.ev_isa.specs.declared.mode.Mode.{Mode}
use Rattle.ev_isa.specs.declared.mode.Mode.TheVariants.{Fred, Idt}
use Rattle.ev_body.specs.Bodies.{body_items, fill}
use Rattle.ev_body.specs.KernelImage.{KernelImage}
use Rattle.ev_body.specs.declared.body.Body.{Body}
use Rattle.ev_body.specs.declared.item.Item.{Item}
use Rattle.ev_body.specs.declared.key.Key.{Key}
use Rattle.ev_body.specs.declared.key.Side.TheVariants.{Both, User}
use Rattle.ev_state.specs.Processor.{Processor, register}
use Rattle.ev_abstract.specs.Context.{BodyContext, CallId, local}
use Rattle.ev_abstract.specs.CrossCall.{take_place}
use Rattle.ev_abstract.specs.EntryText.{trace_text}
use Rattle.ev_abstract.specs.Machine.{CallRecord, CallState, Free, Machine, opening, processor}
use Rattle.ev_abstract.specs.Rules.{rules}
use Rattle.ev_abstract.specs.Run.{item_at, line_step, turn}
use Rattle.ev_abstract.specs.declared.script_line.Line.{Line}
use Rattle.ev_abstract.specs.declared.script_line.Line.TheVariants.{Accept, Arrive, Turn}
use Rattle.ev_listing.specs.AddressMap.{pcpu, record_address}
use Rattle.ev_listing.specs.Expansion.{function_address, item_address}
use Rattle.ev_concrete.specs.ConcreteRun.{Activation, Marks, System, concrete_line, concrete_step, interrupted, is_visible, marks_of, opening_system}
use Rattle.ev_concrete.specs.Shown.{shown}
use Rattle.ev_examples.proofs.AgreementOfMachines.{calls_from, comparing, same_calls, same_numbers}
use Rattle.ev_examples.proofs.BusySite.{calling_twice}
use Rattle.ev_examples.proofs.ComputesAcceptance.{deciding}
use Rattle.ev_examples.proofs.CrossingCalls.{call_handler, calling, crossing, crossing_script}
use Rattle.ev_examples.proofs.Documents.{body, turns}
use Rattle.ev_examples.proofs.ShownEntries.{showing, shows}

-- ---- where a body is

-- how far RIP is in the code of item i of a body, where it is there
unfoldable pub offset_in : Mode → ℕ → Option Body → ℕ → ℕ → Option ℕ
offset_in mode n None i rip = None
offset_in mode n (Some b) i rip =
    let a : ℕ = item_address mode n b i in if nat_le a rip && nat_lt rip (item_address mode n b (suc i)) then Some (rip - a) else None

unfoldable pub first_take : Option Body → ℕ
first_take None = 0
first_take (Some b) = take_place 0 (body_items b)

-- between the load that found the record free and the exchange that gives it away
unfoldable pub fills_at : ℕ → Option Item → Option ℕ → Bool
fills_at k (Some (Item.Call site to func s)) (Some o) = (site == k) && nat_le 51 o
fills_at k item o = false

unfoldable pub is_filled_by : Mode → KernelImage → ℕ → BodyContext → ℕ → Bool
unfolding offset_in fills_at
is_filled_by mode image k c rip = let b : Option Body = slice_get image.bodies c.body in
    fills_at k (item_at b c.place) (offset_in mode c.body b c.place rip)

-- of the contexts on a processor, with the places where their activations are
unfoldable pub is_filled : Mode → KernelImage → ℕ → List BodyContext → List Activation → Bool
unfolding is_filled_by
is_filled mode image k [] as' = false
is_filled mode image k (c ∷ cs) [] = false
is_filled mode image k (c ∷ cs) (a ∷ as') = is_filled_by mode image k c a.rip || is_filled mode image k cs as'

-- ---- what its registers lead to

unfoldable pub both_lists : NatMap ℕ → List CallId → (left turned : ℕ) → Bool
unfolding calls_from same_calls
both_lists words calls left turned = same_calls calls (reverse (calls_from 20 words left) ++ calls_from 20 words turned)

-- by how far it is in `take`
unfoldable pub in_take : NatMap ℕ → Processor → List CallId → ℕ → Bool
unfolding both_lists
in_take words c calls o =
    if nat_lt o 26 then true
    else (if nat_lt o 36 then both_lists words calls (register c 0) 0
    else (if o == 63 then both_lists words calls (register c 1) (register c 0)
    else (if o == 66 then both_lists words calls (register c 1) (register c 14)
    else (if nat_lt o 74 then both_lists words calls (register c 0) (register c 14)
    else (nat_le 108 o || both_lists words calls 0 (register c 14))))))

-- in another item, or in the exit, where R14 is the interrupted code's again
unfoldable pub in_other : NatMap ℕ → Processor → List CallId → Option Item → Option ℕ → Bool
unfolding both_lists
in_other words c [] item o = true
in_other words c (k ∷ ks) (Some Item.Finish) (Some o) =
    if nat_lt o 10 then both_lists words (k ∷ ks) 0 (register c 14) else both_lists words (k ∷ ks) (register c 3) 0 || both_lists words ks 0 (register c 14)
in_other words c (k ∷ ks) item o = both_lists words (k ∷ ks) 0 (register c 14)

unfoldable pub list_at : NatMap ℕ → Processor → List CallId → Option ℕ → Option Item → Option ℕ → Bool
unfolding in_take in_other
list_at words c calls (Some o) item p = in_take words c calls o
list_at words c calls None item p = in_other words c calls item p

unfoldable pub list_of_last : Mode → KernelImage → NatMap ℕ → Processor → List BodyContext → Bool
unfolding offset_in first_take list_at
list_of_last mode image words c [] = true
list_of_last mode image words c (b ∷ below) = let body : Option Body = slice_get image.bodies b.body in
    list_at words c b.calls (offset_in mode b.body body (first_take body) c.rip) (item_at body b.place) (offset_in mode b.body body b.place c.rip)

-- ---- a record's words

unfoldable pub call_seen : NatMap ℕ → ℕ → CallRecord → CallState → Bool
call_seen words a r Free = words a == 0
call_seen words a r _ = (words a == 1) && (words (a + 0x10) == r.arg) && (words (a + 0x38) == r.func)

unfoldable pub whole_record_seen : NatMap ℕ → (p k : ℕ) → CallRecord → Bool
unfolding call_seen
whole_record_seen words p k r = let a : ℕ = record_address p k in
    (words (a + 0x20) == p) && (words (a + 0x30) == k) && (words (a + 0x28) == r.number) && call_seen words a r r.state

-- ---- what its registers are in the code of an item

-- the item in whose code RIP is, of so many from number i on, and how far
unfoldable pub item_from : Mode → ℕ → Option Body → (many i rip : ℕ) → Option (ℕ × ℕ)
unfolding offset_in
item_from mode n b zero i rip = None
item_from mode n b (suc many) i rip = found (offset_in mode n b i rip) (item_from mode n b many (suc i) rip)
  where
    found : Option ℕ → Option (ℕ × ℕ) → Option (ℕ × ℕ)
    found (Some o) later = Some (i, o)
    found None later = later

-- the locals, but for those of some registers
unfoldable pub locals_seen : Processor → BodyContext → (ℕ → Bool) → Bool
locals_seen c b but = list_all (λ i. but i || (register c i == local b i)) (numbers_from 6 8)

-- the record is filled for a call of this function, the site's next one
unfoldable pub filled_seen : Mode → KernelImage → ℕ → CallRecord → NatMap ℕ → BodyContext → (site func s : ℕ) → Bool
filled_seen mode image p r words b site func s = let a : ℕ = record_address p site in
    (words a == 1) && (words (a + 8) == function_address mode image func) && (words (a + 0x10) == local b s) && (words (a + 0x20) == p)
    && (words (a + 0x28) == suc r.number) && (words (a + 0x30) == site) && (words (a + 0x38) == func)

-- In `call`, where its context is at it, RBX is the first record and then the site's, RDX the head's address once the record is filled, and RAX the head that
-- was read, to which the record is linked. Behind its visible instruction one register gets its local last: 0 where the site was busy, else 2 where the head
-- was 0, which is in RAX, and 1 where it wasn't.
unfoldable pub in_call : Mode → KernelImage → ℕ → NatMap CallRecord → NatMap ℕ → Processor → BodyContext → (site to func s i o : ℕ) → Bool
unfolding locals_seen filled_seen
in_call mode image p records words c b site to func s i o =
    if i == b.place
    then locals_seen c b (λ j. false)
    && (nat_lt o 9 || (register c 3 == (if nat_lt o 16 then pcpu p + 0x800 else record_address p site)))
    && (nat_lt o 140 || ((register c 2 == pcpu to + 0x30) && filled_seen mode image p (records site) words b site func s))
    && (nat_lt o 154 || (words (record_address p site + 0x18) == register c 0))
    else locals_seen c b (λ j. j == s) && (local b s == (if nat_lt o 163 then 0 else (if register c 0 == 0 then 2 else 1)))

-- where a function is to begin its record has its address, the argument and the caller
unfoldable pub begins_seen : Mode → KernelImage → NatMap ℕ → BodyContext → List CallId → Bool
begins_seen mode image words b [] = true
begins_seen mode image words b (k ∷ ks) = let a : ℕ = record_address k.from k.site in
    (words (a + 8) == place_of (slice_get image.bodies b.body)) && (words (a + 0x10) == local b 9) && (words (a + 0x20) == local b 10)
  where
    place_of : Option Body → ℕ
    place_of None = 0
    place_of (Some body) = item_address mode b.body body b.place

unfoldable pub has_calls : List CallId → Bool
has_calls [] = false
has_calls (k ∷ ks) = true

-- In `take`, from its exchange on, and in `finish`, from its store on, R9 and R10 get their locals last, from the record of the call whose function begins.
unfoldable pub in_function : Mode → KernelImage → NatMap ℕ → Processor → BodyContext → (nine ten : Bool) → Bool
unfolding locals_seen begins_seen has_calls
in_function mode image words c b nine ten =
    locals_seen c b (λ j. has_calls b.calls && (((j == 9) && not nine) || ((j == 10) && not ten))) && begins_seen mode image words b b.calls

unfoldable pub in_item : Mode → KernelImage → ℕ → NatMap CallRecord → NatMap ℕ → Processor → BodyContext → Option Item → (i o : ℕ) → Bool
unfolding in_call in_function
in_item mode image p records words c b (Some (Item.Call site to func s)) i o = in_call mode image p records words c b site to func s i o
in_item mode image p records words c b (Some (Item.Wait site)) i o = locals_seen c b (λ j. false)
    && (nat_lt o 9 || (register c 3 == (if nat_lt o 16 then pcpu p + 0x800 else record_address p site)))
in_item mode image p records words c b (Some Item.Take) i o =
    if nat_lt o 26 then locals_seen c b (λ j. false) && (nat_lt o 9 || (register c 2 == pcpu p + 0x800))
    else in_function mode image words c b (nat_le 94 o) (nat_le 101 o)
in_item mode image p records words c b (Some Item.Finish) i o =
    if nat_lt o 27 then locals_seen c b (λ j. false) else in_function mode image words c b false false
in_item mode image p records words c b item i o = locals_seen c b (λ j. false)

unfoldable pub variables_seen : Mode → KernelImage → ℕ → NatMap CallRecord → NatMap ℕ → Processor → List BodyContext → Bool
unfolding item_from in_item
variables_seen mode image p records words c [] = true
variables_seen mode image p records words c (b ∷ below) = at_place (item_from mode b.body body 12 0 c.rip)
  where
    body : Option Body
    body = slice_get image.bodies b.body

    at_place : Option (ℕ × ℕ) → Bool
    at_place (Some x) = in_item mode image p records words c b (item_at body x.0) x.0 x.1
    at_place None = true

-- ---- before every step

-- the records of these sites, the queue, what the last body took, and its registers
unfoldable pub places_on : Mode → KernelImage → List ℕ → Machine → System → ℕ → Bool
unfolding is_filled whole_record_seen list_of_last variables_seen calls_from same_calls
places_on mode image sites m s p = let x = processor m p in let words : NatMap ℕ = s.memory.words in
    list_all (λ k. is_filled mode image k x.bodies (interrupted (s.cpus p) (s.activations p)) || whole_record_seen words p k (x.records k)) sites
    && same_calls (reverse x.queue) (calls_from 20 words (words (pcpu p + 0x30)))
    && list_of_last mode image words (s.cpus p) x.bodies && variables_seen mode image p x.records words (s.cpus p) x.bodies

-- a turn of p: its edges, and then its visible step, which shows the entries
unfoldable pub kept_in_turn : ℕ → Mode → KernelImage → List ℕ → Marks → Machine → System → ℕ → (System → Bool) → Bool
unfolding places_on same_numbers
kept_in_turn zero mode image sites marks m s p rest = false
kept_in_turn (suc n) mode image sites marks m s p rest =
    list_all (places_on mode image sites m s) (numbers_from 0 image.processors) && elim (is_visible marks s p) [
      | true ↦ same_numbers (trace_text [] (shown marks s p)) (trace_text [] (turn image m p).1) && rest (concrete_step image.processors s p).0
      | false ↦ kept_in_turn n mode image sites marks m (concrete_step image.processors s p).0 p rest
    ]

-- of a script
unfoldable pub kept_along : Mode → KernelImage → List ℕ → Marks → Machine → System → List Line → Bool
unfolding kept_in_turn
kept_along mode image sites marks m s [] = true
kept_along mode image sites marks m s (Turn p ∷ ls) =
    kept_in_turn 600 mode image sites marks m s p (λ s'. kept_along mode image sites marks (turn image m p).0 s' ls)
kept_along mode image sites marks m s (l ∷ ls) =
    kept_along mode image sites marks (line_step image m l).0 (concrete_line marks image.processors s l).0 ls

unfoldable pub calls_are_kept : Mode → KernelImage → List ℕ → List Line → Bool
unfolding kept_along
calls_are_kept mode image sites script = kept_along mode image sites (marks_of mode image) (opening image) (opening_system mode image) script

unfoldable pub keeping : Unit {0}
unfolding comparing showing call_handler calling offset_in first_take fills_at is_filled_by is_filled both_lists in_take in_other list_at list_of_last call_seen
    whole_record_seen item_from locals_seen filled_seen in_call begins_seen has_calls in_function in_item variables_seen places_on kept_in_turn
    kept_along calls_are_kept
keeping = tt

-- ---- calls that cross

idt_crossing : calls_are_kept Idt crossing (0 ∷ []) crossing_script ≡ true
unfolding keeping crossing crossing_script
idt_crossing = refl

fred_crossing : calls_are_kept Fred crossing (0 ∷ []) crossing_script ≡ true
unfolding keeping crossing crossing_script
fred_crossing = refl

-- ---- a second call at a site whose first one isn't done

abbrev busy_script : List Line
busy_script = turns 0 6 ++ Accept 1 ∷ turns 1 6

idt_busy : calls_are_kept Idt calling_twice (0 ∷ []) busy_script ≡ true
unfolding keeping calling_twice
idt_busy = refl

fred_busy : calls_are_kept Fred calling_twice (0 ∷ []) busy_script ≡ true
unfolding keeping calling_twice
fred_busy = refl

-- ---- a call to oneself

unfoldable to_oneself : KernelImage
to_oneself = calling (body Key.Sys User (Item.Call 2 0 0 12 ∷ Item.Kick 0 12 ∷ Item.Sti ∷ Item.Wait 2 ∷ Item.Cli ∷ Item.Ret ∷ []))

unfoldable to_oneself_script : List Line
to_oneself_script = turns 0 6 ++ Accept 0 ∷ turns 0 9

to_oneself_kept : rules to_oneself ≡ None
unfolding deciding call_handler calling to_oneself
to_oneself_kept = refl

idt_to_oneself : calls_are_kept Idt to_oneself (2 ∷ []) to_oneself_script ≡ true
unfolding keeping to_oneself to_oneself_script
idt_to_oneself = refl

fred_to_oneself : calls_are_kept Fred to_oneself (2 ∷ []) to_oneself_script ≡ true
unfolding keeping to_oneself to_oneself_script
fred_to_oneself = refl

-- ---- all eight sites of a processor at once: what is shown, since the places before each step are too many to compute

abbrev calls_of : List ℕ → List Item
calls_of [] = Item.Ret ∷ []
calls_of (k ∷ ks) = Item.Call k 1 0 12 ∷ Item.Kick 1 12 ∷ calls_of ks

unfoldable all_sites : KernelImage
all_sites = calling (body Key.Sys User (calls_of (numbers_from 0 8)))

unfoldable all_sites_script : List Line
all_sites_script = turns 0 17 ++ Accept 1 ∷ turns 1 4

all_sites_kept : rules all_sites ≡ None
unfolding deciding call_handler calling all_sites
all_sites_kept = refl

idt_all_sites : shows Idt all_sites all_sites_script ≡ true
unfolding keeping all_sites all_sites_script
idt_all_sites = refl

fred_all_sites : shows Fred all_sites all_sites_script ≡ true
unfolding keeping all_sites all_sites_script
fred_all_sites = refl

-- ---- two `take`s in a row with nothing to take; then a function that calls and waits, between `take` and `finish`

unfoldable within_function : KernelImage
within_function = record {
  processors = 2;
  nest = 2;
  pages = [];
  cells = [];
  text = crossing.text;
  tasks = crossing.tasks;
  bodies = fill (body Key.Sys User (Item.Call 0 1 1 12 ∷ Item.Kick 1 12 ∷ Item.Sti ∷ Item.Wait 0 ∷ Item.Cli ∷ Item.Ret ∷ [])
      ∷ record {
        key = Key.Irq 0xfb;
        side = Both;
        items = Item.Take ∷ Item.Eoi ∷ Item.Ret ∷ [];
        parts =
            record { func = 3; items = Item.Log 9 ∷ Item.Finish ∷ [] }
            ∷ record { func = 1; items = Item.Call 5 0 3 10 ∷ Item.Kick 0 10 ∷ Item.Wait 5 ∷ Item.Finish ∷ [] } ∷ [];
      } ∷ []);
}

unfoldable within_function_script : List Line
within_function_script = Arrive 1 (Key.Irq 0xfb) ∷ turns 1 2 ++ Arrive 1 (Key.Irq 0xfb) ∷ turns 1 5 ++ turns 0 4 ++ Accept 1 ∷ turns 1 6
    ++ Accept 0 ∷ turns 0 8 ++ turns 1 3 ++ turns 0 2

within_function_kept : rules within_function ≡ None
unfolding deciding call_handler calling crossing within_function
within_function_kept = refl

idt_within_function : calls_are_kept Idt within_function (0 ∷ 5 ∷ []) within_function_script ≡ true
unfolding keeping crossing within_function within_function_script
idt_within_function = refl

fred_within_function : calls_are_kept Fred within_function (0 ∷ 5 ∷ []) within_function_script ≡ true
unfolding keeping crossing within_function within_function_script
fred_within_function = refl
