-- Where the calls of the abstract machine are, which function a context runs, and what a trace
-- tells of calls. Own.
use Rattle.std.specs.Prelude.{◌≡◌, ℕ, ◌+◌, ◌<◌, Bool, true, false, ◌&&◌, ◌||◌, nat_lt, nat_le, ◌==◌, if◌then◌else◌, List, [], ◌∷◌, ◌++◌, length, flat_map, Option, Some, None, slice_get, count_by}
use Rattle.ev_body.specs.declared.body.Part.{Part}
use Rattle.ev_body.specs.declared.body.Body.{Body}
use Rattle.ev_body.specs.declared.image.Image.{Image}
use Rattle.ev_abstract.specs.Context.{CallId, BodyContext}
use Rattle.ev_abstract.specs.Machine.{CallState, Free, Queued, Taken, CallRecord, Machine, processor}
use Rattle.ev_abstract.specs.CrossCall.{record_of}
use Rattle.ev_abstract.specs.declared.entry.Entry.{Entry}
use Rattle.ev_abstract.specs.CallLaws.{is_call, is_ran}
use Rattle.ev_abstract.specs.Rules.{in_function}

-- ---- where a call is

-- whether two ids name one call
abbrev pub is_id : CallId → CallId → Bool
is_id j k = (j.from == k.from) && (j.site == k.site)

-- no call of the site is under way
abbrev pub is_free : CallState → Bool
is_free Free = true
is_free _ = false

-- it waits in its target's queue
abbrev pub is_queued : CallState → Bool
is_queued Queued = true
is_queued _ = false

-- it is in a list of its target's contexts
abbrev pub is_taken : CallState → Bool
is_taken Taken = true
is_taken _ = false

-- 1 where the test passes
abbrev pub one_if : Bool → ℕ
one_if t = if t then 1 else 0

-- how often the call stands in a list
abbrev pub times : CallId → List CallId → ℕ
times k ks = count_by (is_id k) ks

-- the calls that contexts still have to run
abbrev pub to_run : List BodyContext → List CallId
to_run bodies = flat_map (λ (c : BodyContext). c.calls) bodies

-- the numbers of a call that was made are in range
pub record IsInRange (image : Image) (k : CallId) (r : CallRecord) : Type 0 where
  pub from : k.from < image.processors
  pub site : k.site < 8
  pub to : r.to < image.processors
  pub func : r.func < 8
  pub number : 0 < r.number

-- A call is free and nowhere, or queued and once in the queue of its target alone, or taken and
-- once in the lists of its target's contexts alone.
pub record IsPlaced (image : Image) (m : Machine) (k : CallId) : Type 0 where
  pub queue : (q : ℕ) → times k (processor m q).queue
      ≡ one_if (is_queued (record_of m k).state && ((record_of m k).to == q))
  pub list : (q : ℕ) → times k (to_run (processor m q).bodies)
      ≡ one_if (is_taken (record_of m k).state && ((record_of m k).to == q))
  pub fits : is_free (record_of m k).state ≡ false → IsInRange image k (record_of m k)

-- ---- what a trace tells of a call

-- whether the site has queued a call of this number
abbrev pub was_queued : CallRecord → ℕ → Bool
was_queued r n = nat_le 1 n && nat_le n r.number

-- whether that call has run: all but the last one have, and the last one where the record is free
abbrev pub has_run : CallRecord → ℕ → Bool
has_run r n = was_queued r n && (nat_lt n r.number || is_free r.state)

-- whether the entry says that a call of this site was queued
abbrev pub is_call_of : CallId → Entry → Bool
is_call_of k (Entry.Call p site number to func arg) = (p == k.from) && (site == k.site)
is_call_of k _ = false

-- the entries have this call, with its target, function and argument
pub record HasEntry (k : CallId) (number to func arg : ℕ) (entries : List Entry) : Type 0 where
  pub before : List Entry
  pub rest : List Entry
  pub stands : entries ≡ before ++ Entry.Call k.from k.site number to func arg ∷ rest

-- The entries have each call that the site queued, and each that ran, just once, and the record has
-- their number. It has of the last one what its entry says.
pub record IsTold (k : CallId) (r : CallRecord) (entries : List Entry) : Type 0 where
  pub calls : (n : ℕ) → count_by (is_call k.from k.site n) entries ≡ one_if (was_queued r n)
  pub runs : (n : ℕ) → count_by (is_ran k.from k.site n) entries ≡ one_if (has_run r n)
  pub total : count_by (is_call_of k) entries ≡ r.number
  pub last : 0 < r.number → HasEntry k r.number r.to r.func r.arg entries

-- ---- which function runs

-- the function in whose part item i stands, where the parts begin with item n
abbrev pub part_at : ℕ → List Part → ℕ → Option ℕ
part_at n [] i = None
part_at n (part ∷ parts) i =
    if nat_lt i (n + length part.items) then Some part.func
    else part_at (n + length part.items) parts i

-- the function in which item i of a body stands, if it is in one
abbrev pub function_at : Body → ℕ → Option ℕ
function_at b i = if in_function b i then part_at (length b.items) b.parts i else None

-- the function of the first call
abbrev pub first_function : Machine → List CallId → Option ℕ
first_function m [] = None
first_function m (k ∷ ks) = Some (record_of m k).func

-- A context stands in the function of its first call, and in none where it has no call to run.
pub record RunsItsCall (image : Image) (m : Machine) (c : BodyContext) : Type 0 where
  pub body : Body
  pub is_body : slice_get image.bodies c.body ≡ Some body
  pub function : function_at body c.place ≡ first_function m c.calls

-- each context of a list does
abbrev pub RunTheirCalls : Image → Machine → List BodyContext → Type 0
RunTheirCalls image m [] = Unit {0}
RunTheirCalls image m (c ∷ below) = RunsItsCall image m c × RunTheirCalls image m below

-- ---- the invariant

-- Each call is placed, the entries so far tell of it, and each context runs its call.
pub record KeepsCallRecords (image : Image) (m : Machine) (entries : List Entry) : Type 0 where
  pub placed : (k : CallId) → IsPlaced image m k
  pub told : (k : CallId) → IsTold k (record_of m k) entries
  pub runs : (q : ℕ) → RunTheirCalls image m (processor m q).bodies
