-- Cross calls between processors. Own.
use Rattle.std.specs.Prelude.{ℕ, suc, List, [], ◌∷◌, ◌++◌, Option, Some, None, slice_get}
use Rattle.ev_isa.specs.Word.{put_at}
use Rattle.ev_body.specs.declared.item.Item.{Item}
use Rattle.ev_body.specs.declared.item.Item.TheVariants.{Take}
use Rattle.ev_body.specs.declared.body.Body.{Body}
use Rattle.ev_body.specs.declared.image.Image.{Image}
use Rattle.ev_body.specs.Bodies.{body_items, function_start}
use Rattle.ev_abstract.specs.Context.{CallId, BodyContext, with_local, at_place}
use Rattle.ev_abstract.specs.Machine.{CallState, Queued, Taken, CallRecord, Machine, processor, with_processor}

-- the record of a call
abbrev pub record_of : Machine → CallId → CallRecord
record_of m k = (processor m k.from).records k.site

-- the machine in which the record of a call is r
abbrev pub with_record : Machine → CallId → CallRecord → Machine
with_record m k r = with_processor m k.from (record (processor m k.from) { records = put_at (processor m k.from).records k.site r })

-- the record in another state
abbrev pub in_state : CallRecord → CallState → CallRecord
in_state r s = record r { state = s }

-- the machine in which the queue of p is this
abbrev pub with_queue : Machine → ℕ → List CallId → Machine
with_queue m p queue = with_processor m p (record (processor m p) { queue = queue })

-- the call is made: its record, and its place at the end of the target's queue
abbrev pub queued : Machine → CallId → CallRecord → Machine
queued m k r = let m' : Machine = with_record m k r in with_queue m' r.to ((processor m' r.to).queue ++ k ∷ [])

-- the record of the next call of a site
abbrev pub new_record : CallRecord → ℕ → ℕ → ℕ → CallRecord
new_record r to func arg = record { number = suc r.number; to = to; func = func; arg = arg; state = Queued }

-- what `call` leaves in its local: 2 where the target's queue was empty, 1 where it wasn't
abbrev pub queue_answer : List CallId → ℕ
queue_answer [] = 2
queue_answer (k ∷ ks) = 1

-- each of these calls is taken
abbrev pub all_taken : Machine → List CallId → Machine
all_taken m [] = m
all_taken m (k ∷ ks) = all_taken (with_record m k (in_state (record_of m k) Taken)) ks

-- the number of the `take` among items from n on
abbrev pub take_place : ℕ → List Item → ℕ
take_place n [] = n
take_place n (Take ∷ items) = n
take_place n (item ∷ items) = take_place (suc n) items

-- the place behind `take` in the body that takes calls
abbrev pub after_take : Option Body → ℕ
after_take None = 0
after_take (Some b) = suc (take_place 0 (body_items b))

-- the place at which a function begins in that body
abbrev pub start_of : Option Body → ℕ → ℕ
start_of None func = 0
start_of (Some b) func = function_start b func

-- The context at the function of its first call, with r9 the argument and r10 the caller, or behind `take` where there is no call.
abbrev pub at_first_call : Image → Machine → BodyContext → List CallId → BodyContext
at_first_call image m c [] = at_place (record c { calls = [] }) (after_take (slice_get image.bodies c.body))
at_first_call image m c (k ∷ ks) =
    at_place (with_local (with_local (record c { calls = k ∷ ks }) 9 (record_of m k).arg) 10 k.from)
    (start_of (slice_get image.bodies c.body) (record_of m k).func)
