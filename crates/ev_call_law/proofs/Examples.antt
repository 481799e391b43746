-- The invariant of calls, computed after every line of scripts.
use Rattle.std.specs.Prelude.{◌≡◌, refl, ℕ, Bool, true, false, not, ◌&&◌, ◌||◌, nat_lt, ◌==◌, List, [], ◌∷◌, ◌++◌, Option, Some, None, is_none, slice_get, replicate, flat_map, count_by}
use Rattle.std.specs.List.{list_all, list_any}
use Rattle.ev_isa.specs.Spelling.{spelling}
use Rattle.ev_isa.specs.declared.instruction.AluOp.{AluOp}
use Rattle.ev_isa.specs.declared.instruction.Cond.{Cond}
use Rattle.ev_isa.specs.declared.instruction.Ins.TheVariants.{Syscall}
use Rattle.ev_isa.specs.Flags.{alu, difference, flags_of, flags_word, holds, shift_left, shift_right, sum}
use Rattle.ev_isa.specs.Instruction.{is_instruction, user_may}
use Rattle.ev_isa.specs.Pages.{fault_at, place_of, text_word, word_at_start}
use Rattle.ev_isa.specs.Reading.{behind, forms, narrow_forms, plain_forms, prefixed_forms, reading, reg_at, rm_at, signed_at, wide_forms}
use Rattle.ev_isa.specs.Spelling.{four_bytes}
use Rattle.ev_event.specs.Event.{type_number}
use Rattle.ev_body.specs.Bodies.{covers, fill, key_number}
use Rattle.ev_body.specs.KernelImage.{KernelImage}
use Rattle.ev_body.specs.declared.body.Body.{Body}
use Rattle.ev_body.specs.declared.body.Part.{Part}
use Rattle.ev_body.specs.declared.image.TaskSpec.{TaskSpec}
use Rattle.ev_body.specs.declared.item.Item.{Item}
use Rattle.ev_body.specs.declared.key.Key.{Key}
use Rattle.ev_body.specs.declared.key.Side.TheVariants.{Both, User}
use Rattle.ev_effect.specs.Effect.{access_event, effect}
use Rattle.ev_abstract.specs.Boundary.{choice}
use Rattle.ev_abstract.specs.CallLaws.{is_call, is_ran}
use Rattle.ev_abstract.specs.Context.{BodyContext, CallId}
use Rattle.ev_abstract.specs.CrossCall.{record_of}
use Rattle.ev_abstract.specs.Delivery.{delivered}
use Rattle.ev_abstract.specs.ItemMeaning.{item_step}
use Rattle.ev_abstract.specs.Machine.{CallRecord, Machine, opening, processor}
use Rattle.ev_abstract.specs.Run.{line_step, trace, turn}
use Rattle.ev_abstract.specs.UserCode.{executed, user_step}
use Rattle.ev_abstract.specs.declared.entry.Entry.{Entry}
use Rattle.ev_abstract.specs.declared.script_line.Line.{Line}
use Rattle.ev_abstract.specs.declared.script_line.Line.TheVariants.{Accept, Arrive, Turn}
use Rattle.ev_call_law.specs.Calls.{first_function, function_at, has_run, is_call_of, is_free, is_queued, one_if, is_taken, times, to_run, was_queued}

-- ---- the invariant as a test

abbrev all_of : List ℕ → (ℕ → Bool) → Bool
all_of ns test = list_all test ns

-- a call that is not free has its numbers in range
abbrev in_range : ℕ → CallId → CallRecord → Bool
in_range processors k r = is_free r.state
    || (nat_lt k.from processors && nat_lt k.site 8 && nat_lt r.to processors && nat_lt r.func 8 && nat_lt 0 r.number)

abbrev is_placed : Machine → CallId → ℕ → Bool
is_placed m k q =
    (times k (processor m q).queue == one_if (is_queued (record_of m k).state && ((record_of m k).to == q)))
    && in_range 2 k (record_of m k) && (times k (to_run (processor m q).bodies) == one_if (is_taken (record_of m k).state && ((record_of m k).to == q)))

-- the call's entry as its record has it
abbrev is_entry_of : CallId → CallRecord → Entry → Bool
is_entry_of k r (Entry.Call p site number to func arg) =
    (p == k.from) && (site == k.site) && (number == r.number) && (to == r.to) && (func == r.func) && (arg == r.arg)
is_entry_of k r _ = false

abbrev is_told : Machine → List Entry → CallId → ℕ → Bool
is_told m entries k n =
    (count_by (is_call k.from k.site n) entries == one_if (was_queued (record_of m k) n))
    && (count_by (is_ran k.from k.site n) entries == one_if (has_run (record_of m k) n))
    && (count_by (is_call_of k) entries == (record_of m k).number) &&
    (not (nat_lt 0 (record_of m k).number) || list_any (is_entry_of k (record_of m k)) entries)

abbrev same_option : Option ℕ → Option ℕ → Bool
same_option None o = is_none o
same_option (Some a) None = false
same_option (Some a) (Some b) = a == b

abbrev function_of : Option Body → ℕ → Option ℕ
function_of None i = None
function_of (Some b) i = function_at b i

abbrev runs_its_call : KernelImage → Machine → BodyContext → Bool
runs_its_call image m c = same_option (function_of (slice_get image.bodies c.body) c.place) (first_function m c.calls)

-- for two processors, each of eight sites and the first numbers
abbrev is_kept : KernelImage → Machine → List Entry → Bool
is_kept image m entries = all_of (0 ∷ 1 ∷ []) (λ from. all_of (0 ∷ 1 ∷ 2 ∷ 3 ∷ 4 ∷ 5 ∷ 6 ∷ 7 ∷ []) (λ site.
    all_of (0 ∷ 1 ∷ []) (is_placed m (record { from = from; site = site }))
    && all_of (0 ∷ 1 ∷ 2 ∷ []) (is_told m entries (record { from = from; site = site }))))
    && all_of (0 ∷ 1 ∷ []) (λ q. list_all (runs_its_call image m) (processor m q).bodies)

-- after each line of a script
abbrev is_kept_along : KernelImage → Machine → List Entry → List Line → Bool
is_kept_along image m entries [] = is_kept image m entries
is_kept_along image m entries (l ∷ ls) =
    is_kept image m entries && is_kept_along image (line_step image m l).0 (entries ++ (line_step image m l).1) ls

-- the entries of calls
abbrev call_entries : List Entry → List Entry
call_entries [] = []
call_entries (e ∷ es) = one e ++ call_entries es
  where
    one : Entry → List Entry
    one (Entry.Enter p key kind side depth error info rip) = []
    one (Entry.Log p v) = []
    one e = e ∷ []

-- ---- images

abbrev turns : ℕ → ℕ → List Line
turns p n = replicate n (Turn p)

-- the body that takes calls, with these functions
abbrev handler : List Part → Body
handler parts = record { key = Key.Irq 0xfb; side = Both; items = Item.Take ∷ Item.Eoi ∷ Item.Ret ∷ []; parts = parts }

-- two functions, the second one with an item more
abbrev two_functions : List Part
two_functions = record { func = 3; items = Item.Log 9 ∷ Item.Finish ∷ [] }
    ∷ record { func = 1; items = Item.Nop ∷ Item.Log 10 ∷ Item.Finish ∷ [] } ∷ []

abbrev one_task : List TaskSpec
one_task = record { start = 0x400000; gs = 0; regs = replicate 16 0 } ∷ []

-- two processors that make system calls with these items
abbrev calling : List Item → List Part → KernelImage
calling items parts = record {
  processors = 2;
  nest = 2;
  pages = [];
  cells = [];
  text = flat_map spelling (Syscall ∷ Syscall ∷ []);
  tasks = one_task ∷ one_task ∷ [];
  bodies = fill (record { key = Key.Sys; side = User; items = items; parts = [] } ∷ handler parts ∷ []);
}

unfoldable computing : Unit {0}
unfolding flags_word flags_of sum difference alu shift_left shift_right holds user_may is_instruction place_of fault_at text_word word_at_start signed_at
    reg_at rm_at behind wide_forms prefixed_forms narrow_forms plain_forms forms reading four_bytes spelling type_number key_number covers access_event
    effect choice delivered item_step opening turn line_step executed user_step is_call is_ran
computing = tt

-- ---- two processors call each other, and each waits with interrupts open

unfoldable each_other : KernelImage
each_other = calling (
    Item.Cpu 12 ∷ Item.Set 13 0 ∷ Item.Alu AluOp.Cmp 12 13 ∷ Item.Jcc Cond.Nz 7 ∷ Item.Call 0 1 3 12 ∷ Item.Kick 1 12 ∷ Item.Goto 9
    ∷ Item.Call 0 0 1 12 ∷ Item.Kick 0 12 ∷ Item.Sti ∷ Item.Wait 0 ∷ Item.Cli ∷ Item.Ret ∷ []) two_functions

unfoldable each_other_script : List Line
each_other_script = turns 0 9 ++ turns 1 9 ++ Accept 0 ∷ Accept 1 ∷ turns 0 7 ++ turns 1 6 ++ turns 0 3 ++ turns 1 3

each_other_kept : is_kept_along each_other (opening each_other) [] each_other_script ≡ true
unfolding computing each_other each_other_script
each_other_kept = refl

each_other_entries : call_entries (trace each_other each_other_script) ≡
    Entry.Call 0 0 1 1 3 0 ∷ Entry.Call 1 0 1 0 1 1 ∷ Entry.Ran 0 1 0 1 ∷ Entry.Ran 1 0 0 1 ∷ Entry.Done 0 0 1 ∷ Entry.Done 1 0 1 ∷ []
unfolding computing each_other each_other_script
each_other_entries = refl

-- ---- a call to oneself; before it a wait for a site that never called

unfoldable to_oneself : KernelImage
to_oneself = calling (
    Item.Call 2 0 1 12 ∷ Item.Kick 0 12 ∷ Item.Wait 5 ∷ Item.Sti ∷ Item.Wait 2 ∷ Item.Cli ∷ Item.Ret ∷ Item.Call 5 0 1 12 ∷ Item.Kick 0 12 ∷ Item.Ret ∷ [])
    two_functions

unfoldable to_oneself_script : List Line
to_oneself_script = turns 0 5 ++ Accept 0 ∷ turns 0 10

to_oneself_kept : is_kept_along to_oneself (opening to_oneself) [] to_oneself_script ≡ true
unfolding computing to_oneself to_oneself_script
to_oneself_kept = refl

to_oneself_entries : call_entries (trace to_oneself to_oneself_script) ≡
    Entry.Call 0 2 1 0 1 0 ∷ Entry.Done 0 5 0 ∷ Entry.Ran 0 0 2 1 ∷ Entry.Done 0 2 1 ∷ []
unfolding computing to_oneself to_oneself_script
to_oneself_entries = refl

-- ---- all eight sites of a processor at once, and again while some have not run

unfoldable all_sites : KernelImage
all_sites = calling (
    Item.Call 0 1 1 12 ∷ Item.Kick 1 12 ∷ Item.Call 1 1 3 12 ∷ Item.Kick 1 12 ∷ Item.Call 2 1 1 12 ∷ Item.Kick 1 12 ∷ Item.Call 3 1 3 12 ∷ Item.Kick 1 12
    ∷ Item.Call 4 1 1 12 ∷ Item.Kick 1 12 ∷ Item.Call 5 1 3 12 ∷ Item.Kick 1 12 ∷ Item.Call 6 1 1 12 ∷ Item.Kick 1 12 ∷ Item.Call 7 1 3 12
    ∷ Item.Kick 1 12 ∷ Item.Ret ∷ []) two_functions

-- the second round finds site 0 busy, then 1 free and queued behind the calls that were taken, the others busy
unfoldable all_sites_script : List Line
all_sites_script = turns 0 18 ++ Accept 1 ∷ turns 1 2 ++ turns 0 3 ++ turns 1 5 ++ turns 0 15 ++ turns 1 17 ++ Accept 1 ∷ turns 1 6

all_sites_kept : is_kept_along all_sites (opening all_sites) [] all_sites_script ≡ true
unfolding computing all_sites all_sites_script
all_sites_kept = refl

all_sites_entries : call_entries (trace all_sites all_sites_script) ≡
    Entry.Call 0 0 1 1 1 0 ∷ Entry.Call 0 1 1 1 3 2 ∷ Entry.Call 0 2 1 1 1 1 ∷ Entry.Call 0 3 1 1 3 1 ∷ Entry.Call 0 4 1 1 1 1 ∷ Entry.Call 0 5 1 1 3 1
    ∷ Entry.Call 0 6 1 1 1 1 ∷ Entry.Call 0 7 1 1 3 1 ∷ Entry.Busy 0 0 ∷ Entry.Ran 1 0 0 1 ∷ Entry.Ran 1 0 1 1 ∷ Entry.Call 0 1 2 1 3 0
    ∷ Entry.Busy 0 2 ∷ Entry.Busy 0 3 ∷ Entry.Busy 0 4 ∷ Entry.Busy 0 5 ∷ Entry.Busy 0 6 ∷ Entry.Busy 0 7
    ∷ Entry.Ran 1 0 2 1 ∷ Entry.Ran 1 0 3 1 ∷ Entry.Ran 1 0 4 1 ∷ Entry.Ran 1 0 5 1 ∷ Entry.Ran 1 0 6 1 ∷ Entry.Ran 1 0 7 1 ∷ Entry.Ran 1 0 1 2 ∷ []
unfolding computing all_sites all_sites_script
all_sites_entries = refl

-- ---- two `take`s in a row with nothing to take; then a function that calls and waits, between `take` and `finish`

unfoldable within_function : KernelImage
within_function = calling (Item.Call 0 1 1 12 ∷ Item.Kick 1 12 ∷ Item.Sti ∷ Item.Wait 0 ∷ Item.Cli ∷ Item.Ret ∷ []) (
    record { func = 3; items = Item.Log 9 ∷ Item.Finish ∷ [] }
    ∷ record { func = 1; items = Item.Call 5 0 3 10 ∷ Item.Kick 0 10 ∷ Item.Wait 5 ∷ Item.Finish ∷ [] } ∷ [])

unfoldable within_function_script : List Line
within_function_script = Arrive 1 (Key.Irq 0xfb) ∷ turns 1 2 ++ Arrive 1 (Key.Irq 0xfb) ∷ turns 1 5 ++ turns 0 4 ++ Accept 1 ∷ turns 1 6 ++ Accept 0 ∷ turns 0
    8
    ++ turns 1 3 ++ turns 0 2

within_function_kept : is_kept_along within_function (opening within_function) [] within_function_script ≡ true
unfolding computing within_function within_function_script
within_function_kept = refl

within_function_entries : call_entries (trace within_function within_function_script) ≡
    Entry.Call 0 0 1 1 1 0 ∷ Entry.Call 1 5 1 0 3 0 ∷ Entry.Ran 0 1 5 1 ∷ Entry.Done 1 5 1 ∷ Entry.Ran 1 0 0 1 ∷ Entry.Done 0 0 1 ∷ []
unfolding computing within_function within_function_script
within_function_entries = refl
