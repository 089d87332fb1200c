-- How the front of a worker goes on, by one call or by several.
use Rattle.std.specs.List.{AllByRecursion}
use Rattle.std.proofs.lemmas.Bool.Decides.{nat_tests}
use Rattle.std.proofs.Common.{◌≡◌, ◌<◌, ◌≤◌, ◌+◌, ◌∙◌, ℕ, Bool, true, false, if◌then◌else◌, List, [], ◌∷◌, ◌++◌, length, refl, sym, ap, subst, arith, append-nil, append_assoc}
use Rattle.std.proofs.lemmas.List.{length-append}
use Rattle.rs_wire.specs.declared.settings.Settings.{Settings}
use Rattle.rs_wire.specs.declared.call.Call.{Call}
use Rattle.rs_wire.specs.declared.call.Call.TheVariants as call
use Rattle.tape.specs.declared.event.Event.{Event}
use Rattle.tape.specs.declared.event.Event.TheVariants as event
use Rattle.tape.specs.declared.answer.Answer.{Answer}
use Rattle.tape.specs.declared.entry.Entry.{Entry}
use Rattle.conn_lock.specs.Callers.{times}
use Rattle.conn_shared.specs.Members.{Continues}
use Rattle.session_core.specs.Seen.{entries_after}
use Rattle.std.specs.Prelude.{Option, Some, None, IfSome}
use Rattle.handlers.specs.Listed.{Listed}
use Rattle.workers.specs.declared.job.OpenJob.{OpenJob}
use Rattle.workers.specs.Causes.{IsHindered, IsStoppedBy, IsWaiting, WasAnswered, WasGot, WasTried}
use Rattle.workers.specs.Courses.{Asks, GoesOn, HasSent, HasSentMost, IsOfJob, IsReplyOn, IsWorkersCall, WorksOn, accepted, accepted_in, accepted_of, bytes_of_all, is_done, is_named}

-- ---- which entries are added

module _ (P : Call → Type 0) (names : List ℕ) (number : ℕ) where
  abbrev pub IsOwn : Entry → Type 0
  IsOwn e = 0 < times e.who names → (e.who ≡ number) × Asks P e.event

pub all_append : {X : Type 0} (P : X → Type 0) (xs ys : List X) → AllByRecursion P xs → AllByRecursion P ys → AllByRecursion P (xs ++ ys)
all_append P [] ys h k = k
all_append P (x ∷ xs) ys h k = (h.0, all_append P xs ys h.1 k)

pub all_weaker : {X : Type 0} (P Q : X → Type 0) (xs : List X) → ((x : X) → P x → Q x) → AllByRecursion P xs → AllByRecursion Q xs
all_weaker P Q [] f h = tt
all_weaker P Q (x ∷ xs) f h = (f x h.0, all_weaker P Q xs f h.1)

pub accepted-append : (names : List ℕ) (xs ys : List Entry) → accepted names (xs ++ ys) ≡ accepted names xs ++ accepted names ys
accepted-append names [] ys = refl
accepted-append names (x ∷ xs) ys = by (is_named names x.who) (accepted-append names xs ys)
  where
    by : (b : Bool) → accepted names (xs ++ ys) ≡ accepted names xs ++ accepted names ys
        → (if b then accepted_in x.event x.answer ++ accepted names (xs ++ ys) else accepted names (xs ++ ys)) ≡ (if b then accepted_in x.event x.answer ++ accepted names xs else accepted names xs) ++ accepted names ys
    by true rest = ap (λ cs. accepted_in x.event x.answer ++ cs) rest ∙ sym (append_assoc (accepted_in x.event x.answer) (accepted names xs) (accepted names ys))
    by false rest = rest

pub goes_both : (P : Call → Type 0) (names : List ℕ) (number : ℕ) (a b c : List Entry) (m n : ℕ) → GoesOn P names number a b m → GoesOn P names number b c n → GoesOn P names number a c (m + n)
goes_both P names number a b c m n h k = record {
  more = k.more ++ h.more;
  on = k.on ∙ (ap (λ es. k.more ++ es) h.on ∙ sym (append_assoc k.more h.more a));
  own = all_append (IsOwn P names number) k.more h.more k.own h.own;
  count = (let l : length (accepted names (k.more ++ h.more)) ≡ length (accepted names k.more) + length (accepted names h.more) = ap length (accepted-append names k.more h.more) ∙ length-append (accepted names k.more) (accepted names h.more) in let x = h.count in let y = k.count in omega arith);
}

pub goes_none : (P : Call → Type 0) (names : List ℕ) (number : ℕ) (a : List Entry) → GoesOn P names number a a 0
goes_none P names number a = record { more = []; on = refl; own = tt; count = refl }

asks_weaker : (P Q : Call → Type 0) → ((c : Call) → P c → Q c) → (e : Event) → Asks P e → Asks Q e
asks_weaker P Q f (event.Asked asked) h = f asked h
asks_weaker P Q f (event.Open first taken) h = absurd h
asks_weaker P Q f (event.Cut conn) h = absurd h
asks_weaker P Q f (event.Draw conn room) h = absurd h
asks_weaker P Q f (event.Came conn frame) h = absurd h
asks_weaker P Q f (event.Bad conn rule) h = absurd h
asks_weaker P Q f (event.Tick now) h = absurd h

pub goes_weaker : (P Q : Call → Type 0) (names : List ℕ) (number : ℕ) (a b : List Entry) (n : ℕ) → ((c : Call) → P c → Q c) → GoesOn P names number a b n → GoesOn Q names number a b n
goes_weaker P Q names number a b n f h = record {
  more = h.more;
  on = h.on;
  own = all_weaker (IsOwn P names number) (IsOwn Q names number) h.more (λ e own named. ((own named).0, asks_weaker P Q f e.event (own named).1)) h.own;
  count = h.count;
}

pub goes_longer : (P : Call → Type 0) (names : List ℕ) (number : ℕ) (a b : List Entry) (n : ℕ) → GoesOn P names number a b n → length a ≤ length b
goes_longer P names number a b n h = let l : length b ≡ length h.more + length a = ap length h.on ∙ length-append h.more a in omega arith

pub goes_later : (P : Call → Type 0) (names : List ℕ) (number : ℕ) (a b : List Entry) (n : ℕ) → GoesOn P names number a b n → Continues a b
goes_later P names number a b n h = (h.more, h.on)

-- ---- all replies on one stream

pub none_of : {X : Type 0} (xs : List X) → length xs ≡ 0 → xs ≡ []
none_of [] h = refl
none_of (x ∷ xs) h = absurd (omega arith)

-- the replies of a job's calls are on its stream
on_stream : (s : ℕ) (e : Event) (a : Answer) → Asks (IsOfJob s) e → AllByRecursion (IsReplyOn s) (accepted_in e a)
on_stream s (event.Asked (call.Next q message complete)) a h = by (is_done a)
  where
    by : (b : Bool) → AllByRecursion (IsReplyOn s) (if b then call.Next q message complete ∷ [] else [])
    by true = (h, tt)
    by false = tt
on_stream s (event.Asked (call.Done q)) a h = by (is_done a)
  where
    by : (b : Bool) → AllByRecursion (IsReplyOn s) (if b then call.Done q ∷ [] else [])
    by true = (h, tt)
    by false = tt
on_stream s (event.Asked (call.Fail q code content)) a h = by (is_done a)
  where
    by : (b : Bool) → AllByRecursion (IsReplyOn s) (if b then call.Fail q code content ∷ [] else [])
    by true = (h, tt)
    by false = tt
on_stream s (event.Asked (call.Take q)) a h = tt
on_stream s (event.Asked call.TakeJob) a h = tt
on_stream s (event.Asked (call.Request kind initial message complete)) a h = tt
on_stream s (event.Asked (call.Grant q n)) a h = tt
on_stream s (event.Asked (call.Cancel q)) a h = tt
on_stream s (event.Asked (call.Push metadata)) a h = tt
on_stream s (event.Asked (call.Lease ttl count metadata)) a h = tt
on_stream s (event.Asked call.Close) a h = tt
on_stream s (event.Open first taken) a h = absurd h
on_stream s (event.Cut conn) a h = absurd h
on_stream s (event.Draw conn room) a h = absurd h
on_stream s (event.Came conn frame) a h = absurd h
on_stream s (event.Bad conn rule) a h = absurd h
on_stream s (event.Tick now) a h = absurd h

pub named_above : (names : List ℕ) (n : ℕ) → is_named names n ≡ true → 0 < times n names
named_above names n is = grind (arith, nat_tests)

all_on : (s : ℕ) (names : List ℕ) (number : ℕ) (more : List Entry) → AllByRecursion (IsOwn (IsOfJob s) names number) more → AllByRecursion (IsReplyOn s) (accepted names more)
all_on s names number [] h = tt
all_on s names number (x ∷ more) h = by (is_named names x.who) refl (all_on s names number more h.1)
  where
    by : (b : Bool) → is_named names x.who ≡ b → AllByRecursion (IsReplyOn s) (accepted names more) → AllByRecursion (IsReplyOn s) (if b then accepted_in x.event x.answer ++ accepted names more else accepted names more)
    by true is rest = all_append (IsReplyOn s) (accepted_in x.event x.answer) (accepted names more) (on_stream s x.event x.answer (h.0 (named_above names x.who is)).1) rest
    by false is rest = rest

job_works : (s : ℕ) (asked : Call) → IsOfJob s asked → IsWorkersCall asked
job_works s (call.Take q) on = tt
job_works s call.TakeJob on = tt
job_works s (call.Next q message complete) on = tt
job_works s (call.Done q) on = tt
job_works s (call.Fail q code content) on = tt
job_works s (call.Request kind initial message complete) on = absurd on
job_works s (call.Grant q n) on = absurd on
job_works s (call.Cancel q) on = absurd on
job_works s (call.Push metadata) on = absurd on
job_works s (call.Lease ttl count metadata) on = absurd on
job_works s call.Close on = absurd on

pub of_worker : (s : ℕ) (names : List ℕ) (number : ℕ) (a b : List Entry) (n : ℕ) → GoesOn (IsOfJob s) names number a b n → GoesOn IsWorkersCall names number a b n
of_worker s names number a b n h = goes_weaker (IsOfJob s) IsWorkersCall names number a b n (job_works s) h

-- one job went on
pub works_job : (s : ℕ) (names : List ℕ) (number : ℕ) (a b : List Entry) (n : ℕ) → GoesOn (IsOfJob s) names number a b n → WorksOn names number a b
unfolding of_worker goes_weaker
works_job s names number a b n h =
    let w = of_worker s names number a b n h in
    record { more = w.more; on = w.on; own = w.own; stream = s; one = all_on s names number h.more h.own }

-- a TakeJob makes no reply
pub job_taken_quietly : (names : List ℕ) (number : ℕ) (a b : List Entry) (r : Answer) → GoesOn (λ c. c ≡ call.TakeJob) names number a b (length (accepted_of call.TakeJob r)) → GoesOn IsWorkersCall names number a b 0
job_taken_quietly names number a b r h = goes_weaker (λ c. c ≡ call.TakeJob) IsWorkersCall names number a b 0 (λ c is. subst IsWorkersCall (sym is) tt) h

-- no reply was accepted
pub works_quietly : (names : List ℕ) (number : ℕ) (a b : List Entry) → GoesOn IsWorkersCall names number a b 0 → WorksOn names number a b
works_quietly names number a b h = record { more = h.more; on = h.on; own = h.own; stream = 0; one = subst (AllByRecursion (IsReplyOn 0)) (sym (none_of (accepted names h.more) h.count)) tt }

-- no reply was accepted at first
pub works_after : (names : List ℕ) (number : ℕ) (a b c : List Entry) → GoesOn IsWorkersCall names number a b 0 → WorksOn names number b c → WorksOn names number a c
works_after names number a b c h k = record {
  more = k.more ++ h.more;
  on = k.on ∙ (ap (λ es. k.more ++ es) h.on ∙ sym (append_assoc k.more h.more a));
  own = all_append (IsOwn IsWorkersCall names number) k.more h.more k.own h.own;
  stream = k.stream;
  one = subst (AllByRecursion (IsReplyOn k.stream)) (sym (accepted-append names k.more h.more ∙ (ap (λ cs. accepted names k.more ++ cs) (none_of (accepted names h.more) h.count) ∙ append-nil (accepted names k.more)))) k.one;
}

-- ---- between more distant fronts

pub later_both : (a b c : List Entry) → Continues a b → Continues b c → Continues a c
later_both a b c h k = (k.0 ++ h.0, k.1 ∙ (ap (λ es. k.0 ++ es) h.1 ∙ sym (append_assoc k.0 h.0 a)))

pub answered_between : (g : Settings) (number : ℕ) (a b c d : List Entry) (asked : Call) (r : Answer) → Continues a b → Continues c d → WasAnswered g number b c asked r → WasAnswered g number a d asked r
answered_between g number a b c d asked r h k w = record {
  before = w.before;
  since = later_both a b w.before h w.since;
  up_to = later_both (entries_after number (event.Asked asked) r w.before) c d w.up_to k;
  answered = w.answered;
  full = w.full;
}

pub tried_between : (g : Settings) (routes : List Listed) (number : ℕ) (a b c d : List Entry) (j : OpenJob) (asked : Call) (r : Answer) → Continues a b → Continues c d
    → WasTried g routes number b c j asked r → WasTried g routes number a d j asked r
tried_between g routes number a b c d j asked r h k w = record { next = w.next; was = answered_between g number a b c d asked r h k w.was }

pub hindered_between : (g : Settings) (routes : List Listed) (number : ℕ) (a b c d : List Entry) (j : OpenJob) → Continues a b → Continues c d → IsHindered g routes number b c j → IsHindered g routes number a d j
hindered_between g routes number a b c d j h k w = record { asked = w.asked; met = w.met; hindered = w.hindered; tried = tried_between g routes number a b c d j w.asked w.met h k w.tried }

pub waiting_since : (g : Settings) (routes : List Listed) (names : List ℕ) (number : ℕ) (a b c : List Entry) (j : OpenJob) → Continues a b → IsWaiting g routes names number b c j → IsWaiting g routes names number a c j
unfolding hindered_between
waiting_since g routes names number a b c j h w = record { met = hindered_between g routes number a b c c j h ([], refl) w.met; last = w.last }

pub stopped_since : (g : Settings) (routes : List Listed) (names : List ℕ) (number : ℕ) (a b c : List Entry) (j : OpenJob) (r : Answer) → Continues a b
    → IsStoppedBy g routes names number b c j r → IsStoppedBy g routes names number a c j r
stopped_since g routes names number a b c j r h w = record { asked = w.asked; tried = tried_between g routes number a b c c j w.asked r h ([], refl) w.tried; last = w.last; final = w.final }

pub got_since : (g : Settings) (number : ℕ) (a b c : List Entry) (j : OpenJob) → Continues a b → WasGot g number b c j → WasGot g number a c j
got_since g number a b c j h w = record { initial = w.initial; complete = w.complete; got = answered_between g number a b c c call.TakeJob _ h ([], refl) w.got }

-- ---- the bytes of replies

pub bytes-append : (xs ys : List Call) → bytes_of_all (xs ++ ys) ≡ bytes_of_all xs + bytes_of_all ys
bytes-append [] ys = omega arith
bytes-append (x ∷ xs) ys = let rest = bytes-append xs ys in omega arith

pub sent_none : (names : List ℕ) (a : List Entry) → HasSent names a a 0
sent_none names a = record { more = []; on = refl; sent = omega arith }

pub sent_both : (names : List ℕ) (a b c : List Entry) (m n : ℕ) → HasSent names a b m → HasSent names b c n → HasSent names a c (m + n)
sent_both names a b c m n h k = record {
  more = k.more ++ h.more;
  on = k.on ∙ (ap (λ es. k.more ++ es) h.on ∙ sym (append_assoc k.more h.more a));
  sent = (let l : bytes_of_all (accepted names (k.more ++ h.more)) ≡ bytes_of_all (accepted names k.more) + bytes_of_all (accepted names h.more) =
      ap bytes_of_all (accepted-append names k.more h.more) ∙ bytes-append (accepted names k.more) (accepted names h.more) in let x = h.sent in let y = k.sent in omega arith);
}

pub sent_less : (names : List ℕ) (a b : List Entry) (m n : ℕ) → m ≤ n → HasSent names a b n → HasSent names a b m
sent_less names a b m n le h = record { more = h.more; on = h.on; sent = (let s = h.sent in omega arith) }

pub sent_since : (names : List ℕ) (a b c : List Entry) (n : ℕ) → Continues a b → HasSent names b c n → HasSent names a c n
sent_since names a b c n h k = sent_less names a c n (0 + n) (omega arith) (sent_both names a b c 0 n (record { more = h.0; on = h.1; sent = omega arith }) k)

pub most_since : (names : List ℕ) (most : Option ℕ) (a b c : List Entry) → Continues a b → HasSentMost names most b c → HasSentMost names most a c
most_since names None a b c h k = absurd k
most_since names (Some most) a b c h k = sent_since names a b c most h k

-- where so many bytes are enough
pub enough_sent : (names : List ℕ) (most : Option ℕ) (a b : List Entry) (n : ℕ) → (most ≡ None → ⊥) → IfSome most (λ m. m ≤ n) → HasSent names a b n → HasSentMost names most a b
enough_sent names None a b n some le h = absurd (some refl)
enough_sent names (Some most) a b n some le h = sent_less names a b most n le h
