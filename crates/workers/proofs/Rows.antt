-- Replies, next calls and courses computed by hand beside their definitions.
use Rattle.std.proofs.Common.{◌≡◌, true, false, [], ◌∷◌, inl, inr, refl}
use Rattle.std.specs.Prelude.{Some, None, codes, decimal}
use Rattle.rs_wire.specs.declared.words.Kind.TheVariants as kind
use Rattle.rs_wire.specs.declared.call.Call.TheVariants as call
use Rattle.handlers.specs.Values.{count_in}
use Rattle.handlers.specs.declared.law.Law.TheVariants as law
use Rattle.rs_wire.specs.declared.delivery.Job.TheVariants as job
use Rattle.tape.specs.declared.answer.Answer.TheVariants as answer
use Rattle.tape.specs.declared.entry.Entry.{Entry}
use Rattle.tape.specs.declared.event.Event.TheVariants as event
use Rattle.workers.specs.declared.job.OpenJob.{OpenJob}
use Rattle.workers.specs.declared.job.Stage.TheVariants as stage
use Rattle.workers.specs.Courses.{course}
use Rattle.workers.specs.Going.{IsNextOf}
use Rattle.workers.specs.Replies.{no_route as fail_of, plain, reply}

-- a request of no route is failed with 513, once, and a fire-and-forget of none is not
no_route : reply None kind.Response 1 (codes "hi") [] false 0 ≡ Some (call.Fail 1 513 (codes "no route"))
unfolding reply
no_route = refl

no_route_once : reply None kind.Stream 1 (codes "hi") [] false 1 ≡ None
unfolding reply
no_route_once = refl

no_route_fnf : reply None kind.Fnf 1 (codes "hi") [] false 0 ≡ None
unfolding reply
no_route_fnf = refl

-- an echo is one reply with the end, and a law without an item ends at once
echo : reply (Some law.Echo) kind.Response 1 (codes "hi") [] false 0 ≡ Some (call.Next 1 (plain (codes "hi")) true)
unfolding reply
echo = refl

echo_once : reply (Some law.Echo) kind.Response 1 (codes "hi") [] false 1 ≡ None
unfolding reply
echo_once = refl

drop_ends : reply (Some law.Drop) kind.Response 1 (codes "hi") [] false 0 ≡ Some (call.Done 1)
unfolding reply
drop_ends = refl

-- a count of 3 has the items 0, 1 and 2, then the end, and nothing after it
count_first : reply (Some law.Count) kind.Stream 1 (codes "3") [] false 0 ≡ Some (call.Next 1 (plain (decimal 0)) false)
unfolding reply count_in
count_first = refl

count_last : reply (Some law.Count) kind.Stream 1 (codes "3") [] false 2 ≡ Some (call.Next 1 (plain (decimal 2)) false)
unfolding reply count_in
count_last = refl

count_ends : reply (Some law.Count) kind.Stream 1 (codes "3") [] false 3 ≡ Some (call.Done 1)
unfolding reply count_in
count_ends = refl

count_ended : reply (Some law.Count) kind.Stream 1 (codes "3") [] false 4 ≡ None
unfolding reply count_in
count_ended = refl

-- a channel answers its request's content first, then what was got, and ends where nothing more comes
upper_first : reply (Some law.Upper) kind.Channel 1 (codes "ab") (codes "cd" ∷ []) false 0 ≡ Some (call.Next 1 (plain (codes "AB")) false)
unfolding reply
upper_first = refl

upper_second : reply (Some law.Upper) kind.Channel 1 (codes "ab") (codes "cd" ∷ []) false 1 ≡ Some (call.Next 1 (plain (codes "CD")) false)
unfolding reply
upper_second = refl

upper_waits : reply (Some law.Upper) kind.Channel 1 (codes "ab") (codes "cd" ∷ []) false 2 ≡ None
unfolding reply
upper_waits = refl

upper_ends : reply (Some law.Upper) kind.Channel 1 (codes "ab") (codes "cd" ∷ []) true 2 ≡ Some (call.Done 1)
unfolding reply
upper_ends = refl

-- a content without an item makes no reply
skipped : reply (Some law.Count) kind.Channel 1 (codes "a") (codes "5" ∷ []) false 0 ≡ Some (call.Next 1 (plain (decimal 0)) false)
unfolding reply count_in
skipped = refl

-- the next call of an open response is its reply, and no Take
abbrev open_response : OpenJob
open_response = record { stream = 1; kind = kind.Response; message = plain (codes "hi"); route = None; made = 0; stage = stage.Request }

reply_is_next : IsNextOf [] open_response (fail_of 1)
reply_is_next = inl (true, refl)

take_is_not_next : IsNextOf [] open_response (call.Take 1) → ⊥
take_is_not_next (inl said) = let is = said.1 in absurd (cc)
take_is_not_next (inr taken) = let is = taken.0.channel in absurd (cc)

-- a reply that was accepted before any job was got on its stream counts for that job
early_reply : Entry
early_reply = record { who = 1; event = event.Asked (call.Done 5); answer = answer.Done }

job_after : Entry
job_after = record { who = 1; event = event.Asked call.TakeJob; answer = answer.GotJob (job.Asked 5 kind.Fnf None (plain []) true) }

early_counts : (course (1 ∷ []) 5 (job_after ∷ early_reply ∷ [])).made ≡ call.Done 5 ∷ []
unfolding course early_reply job_after
early_counts = refl
