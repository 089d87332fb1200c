-- The lines of a step are written after those of the steps before it.
use Rattle.std.proofs.Common.{◌≡◌, ◌≢◌, ℕ, Bool, List, [], ◌++◌, Option, Some, None, refl, sym, ap, subst}
use Rattle.rs_wire.specs.declared.words.Kind.{Kind}
use Rattle.rs_wire.specs.declared.settings.Settings.{Settings}
use Rattle.outside.specs.Links.{Shown}
use Rattle.tape.specs.declared.entry.Entry.{Entry}
use Rattle.call_model.specs.Order.{Asking}
use Rattle.std.proofs.Common.{◌⊎◌, true, false, true≢false, inl, inr, Result, Ok, Err, IfNone, OnErr, OnOk}
use Rattle.std.specs.Result.{is_err}
use Rattle.outside.specs.Streams.{ByteStream}
use Rattle.conn_shared.specs.Members.{Knowledge}
use Rattle.call_model.specs.Saying.{said}
use Rattle.client.specs.Alone.{IsOwn}
use Rattle.client.specs.Clients.{ClientSeen}
use Rattle.client.specs.Calling.{CanBegin, Comes, IsUnderWay, Owns, StepsTo}
use Rattle.client.proofs.OverCalls.{run_on_by, run_start, run_stops_by}
use Rattle.rsocket_output.specs.Written.{CutOff, Writes}
use Rattle.rsocket_output.proofs.Moves.{cuts_off_more, writes_more, writes_none}
use Rattle.rsocket_call.specs.Made.{Alone, GoesWith, HasMade, StopsWith}
use Rattle.rsocket_call.specs.declared.make.Made.TheVariants as made
use Rattle.client.specs.Takes.{HasPrinted}
use Rattle.client.specs.declared.called.Called.{Called}
use Rattle.client.specs.declared.called.Called.TheVariants as called
use Rattle.client.specs.declared.calling.Calling.{Calling}

prints_after : (kind : Kind) (e : Bool) (past new : List Entry) (lines text : List ℕ) → HasPrinted kind e past new [] lines → HasPrinted kind e past new text (text ++ lines)
prints_after kind e past new lines text h = record { more = h.more; printed = ap (λ (l : List ℕ). text ++ l) h.printed; says = h.says }

comes_as : (r : Called) (P Q : Type 0) → (P → Q) → Comes r P → Comes r Q
comes_as called.OutOfMemory P Q f h = tt
comes_as called.Finished P Q f h = f h
comes_as called.Net P Q f h = f h
comes_as (called.Dead last) P Q f h = f h
comes_as (called.Idle n) P Q f h = f h
comes_as (called.Refused why) P Q f h = f h

owns_as : (o : Option Called) (P Q : Type 0) → (P → Q) → Owns o P → Owns o Q
owns_as None P Q f h = f h
owns_as (Some called.OutOfMemory) P Q f h = tt
owns_as (Some called.Finished) P Q f h = f h
owns_as (Some called.Net) P Q f h = f h
owns_as (Some (called.Dead last)) P Q f h = f h
owns_as (Some (called.Idle n)) P Q f h = f h
owns_as (Some (called.Refused why)) P Q f h = f h

steps_after : (o : Option Called) (w : Asking) (moments : Option (List ℕ)) (lulls tries base faults first : ℕ) (g : Settings) (past new : List Entry) (c : ℕ) (present : Option Shown) (k : Calling) (links : List Shown) (back back' : Option (List Shown)) (lines text : List ℕ)
    → StepsTo o w moments lulls tries base faults first g past new c present k links back back' [] lines → StepsTo o w moments lulls tries base faults first g past new c present k links back back' text (text ++ lines)
steps_after None w moments lulls tries base faults first g past new c present k links back back' lines text h = record { more = h.more; got = h.got; under_way = h.under_way; prints = prints_after w.kind _ past new lines text h.prints }
steps_after (Some r) w moments lulls tries base faults first g past new c present k links back back' lines text h =
    comes_as r _ _ (λ s. record {
      more = s.more;
      last = s.last;
      got = s.got;
      number = s.number;
      ended = record {
        order = s.ended.order;
        timed = s.ended.timed;
        number = s.ended.number;
        opened = s.ended.opened;
        carried = s.ended.carried;
        left = s.ended.left;
        prints = prints_after w.kind _ past new lines text s.ended.prints;
        why = s.ended.why;
        timely = s.ended.timely;
        used_up = s.ended.used_up;
      };
    }) h

-- what a step says, after the text that is written
pub step_after : (o : Option Called) (w : Asking) (moments : Option (List ℕ)) (lulls tries faults faults' : ℕ) (g : Settings) (past new : List Entry) (c c' : ℕ) (present present' : Option Shown) (k k' : Calling) (back back' : Option (List Shown)) (none lines text : List ℕ) (P : Type 0)
    → none ≡ []
    → Owns o (P × ((base first : ℕ) (links : List Shown) → IsUnderWay w moments base faults first g past c present k links → StepsTo o w moments lulls tries base faults' first g past new c' present' k' links back back' none lines))
    → Owns o (P × ((base first : ℕ) (links : List Shown) → IsUnderWay w moments base faults first g past c present k links → StepsTo o w moments lulls tries base faults' first g past new c' present' k' links back back' text (text ++ lines)))
step_after o w moments lulls tries faults faults' g past new c c' present present' k k' back back' none lines text P is h =
    owns_as o _ _ (λ s. (
      s.0,
      λ base first links u. steps_after o w moments lulls tries base faults' first g past new c' present' k' links back back' lines text
          (subst (λ (l : List ℕ). StepsTo o w moments lulls tries base faults' first g past new c' present' k' links back back' l lines) is (s.1 base first links u)),
    )) h

-- ---- between two steps

-- the call goes on, and what it printed is written
pub record IsOn (w : Asking) (moments : Option (List ℕ)) (was now : ClientSeen) (back back' : Option (List Shown)) (base faults : ℕ) (k : Calling) (old new : ByteStream) : Type 0 where
  pub text : List ℕ
  pub written : Writes text old new
  pub came : Alone w moments was now (GoesWith w moments was now back back' base faults k text)

module _ (w : Asking) (moments : Option (List ℕ)) (lulls tries base faults faults' : ℕ) (was now new : ClientSeen) (k k' : Calling) (back back' back'' : Option (List Shown)) (old mid : ByteStream) (on : IsOn w moments was now back back' base faults k old mid)
    (same : now.caller ≡ record was.caller { front = now.caller.front; note = now.caller.note }) (o : Option Called) (none lines : List ℕ) (empty : none ≡ []) where
  -- what a step from here says
  abbrev pub Says : Type 0
  Says = IsOwn new.caller → Owns o (IsOwn now.caller × ((base' first : ℕ) (links : List Shown) → IsUnderWay w moments base' faults first now.caller.of.settings now.caller.front now.conn now.link k links
      → StepsTo o w moments lulls tries base' faults' first now.caller.of.settings now.caller.front new.caller.front new.conn new.link k' links back' back'' none lines))

  settings_is : now.caller.of.settings ≡ was.caller.of.settings
  settings_is = ap (λ (m : Knowledge). m.of.settings) same

  after : Says → IsOwn new.caller → Owns o (IsOwn now.caller × ((base' first : ℕ) (links : List Shown) → IsUnderWay w moments base' faults first now.caller.of.settings now.caller.front now.conn now.link k links
      → StepsTo o w moments lulls tries base' faults' first now.caller.of.settings now.caller.front new.caller.front new.conn new.link k' links back' back'' on.text (on.text ++ lines)))
  after s own = step_after o w moments lulls tries faults faults' now.caller.of.settings now.caller.front new.caller.front now.conn new.conn now.link new.link k k' back' back'' none lines on.text (IsOwn now.caller) empty (s own)

  -- it goes on
  pub goes : o ≡ None → Says → Alone w moments was new (GoesWith w moments was new back back'' base faults' k' (on.text ++ lines))
  goes is s = run_on_by w moments lulls tries base faults faults' was.conn was.caller.of.settings was.caller now.caller new.caller now.conn new.conn now.link new.link k k' back back' back'' [] on.text (on.text ++ lines)
      (CanBegin w moments was.caller.front was.conn was.link) now.caller.of.settings o settings_is is on.came (after s)

  -- it has come to something
  pub stops : (r : Called) → o ≡ Some r → Says → IsOwn new.caller → Comes r (IsOwn was.caller × (CanBegin w moments was.caller.front was.conn was.link → StopsWith w moments lulls tries was new back back'' base faults' r (on.text ++ lines)))
  stops r is s = run_stops_by w moments lulls tries base faults faults' was.conn was.caller.of.settings was.caller now.caller new.caller now.conn new.conn now.link new.link k k' back back' back'' [] on.text (on.text ++ lines)
      (CanBegin w moments was.caller.front was.conn was.link) now.caller.of.settings o r settings_is is on.came (after s)

  -- its lines were written
  pub goes_written : (new_out : ByteStream) → o ≡ None → Says → Writes lines mid new_out → IsOn w moments was new back back'' base faults' k' old new_out
  goes_written new_out is s written = record { text = on.text ++ lines; written = writes_more old mid new_out on.text lines on.written written; came = goes is s }

  pub stops_written : (new_out : ByteStream) (r : Called) → o ≡ Some r → (r ≡ called.OutOfMemory → ⊥) → Says → Writes lines mid new_out → HasMade (made.Called r) w moments lulls tries was new back back'' base faults' old new_out
  stops_written new_out called.OutOfMemory is memory s written = absurd (memory refl)
  stops_written new_out called.Finished is memory s written = record { text = on.text ++ lines; written = writes_more old mid new_out on.text lines on.written written; came = stops called.Finished is s }
  stops_written new_out called.Net is memory s written = record { text = on.text ++ lines; written = writes_more old mid new_out on.text lines on.written written; came = stops called.Net is s }
  stops_written new_out (called.Dead last) is memory s written = record { text = on.text ++ lines; written = writes_more old mid new_out on.text lines on.written written; came = stops (called.Dead last) is s }
  stops_written new_out (called.Idle n) is memory s written = record { text = on.text ++ lines; written = writes_more old mid new_out on.text lines on.written written; came = stops (called.Idle n) is s }
  stops_written new_out (called.Refused why) is memory s written = record { text = on.text ++ lines; written = writes_more old mid new_out on.text lines on.written written; came = stops (called.Refused why) is s }

  -- a write failed
  either : (x : Option Called) → o ≡ x → (o ≡ Some called.OutOfMemory → ⊥) → Says
      → Alone w moments was new (((j : Calling) × GoesWith w moments was new back back'' base faults' j (on.text ++ lines)) ⊎ ((r : Called) × (r ≢ called.OutOfMemory) × StopsWith w moments lulls tries was new back back'' base faults' r (on.text ++ lines)))
  either None is memory s own = (let a = goes is s own in (a.0, λ can. inl (k', a.1 can)))
  either (Some called.OutOfMemory) is memory s own = absurd (memory is)
  either (Some called.Finished) is memory s own = (let a = stops called.Finished is s own in (a.0, λ can. inr (called.Finished, (λ e. cc), a.1 can)))
  either (Some called.Net) is memory s own = (let a = stops called.Net is s own in (a.0, λ can. inr (called.Net, (λ e. cc), a.1 can)))
  either (Some (called.Dead last)) is memory s own = (let a = stops (called.Dead last) is s own in (a.0, λ can. inr ((called.Dead last), (λ e. cc), a.1 can)))
  either (Some (called.Idle n)) is memory s own = (let a = stops (called.Idle n) is s own in (a.0, λ can. inr ((called.Idle n), (λ e. cc), a.1 can)))
  either (Some (called.Refused why)) is memory s own = (let a = stops (called.Refused why) is s own in (a.0, λ can. inr ((called.Refused why), (λ e. cc), a.1 can)))

  pub cut : (new_out : ByteStream) → (o ≡ Some called.OutOfMemory → ⊥) → Says → CutOff lines mid new_out → HasMade made.WriteFault w moments lulls tries was new back back'' base faults' old new_out
  cut new_out memory s c = record { text = on.text ++ lines; cut = cuts_off_more old mid new_out on.text lines on.written c; came = either o refl memory s }

-- after the request
pub on_start : (w : Asking) (moments : Option (List ℕ)) (base : ℕ) (was now : ClientSeen) (k : Calling) (back : Option (List Shown)) (out : ByteStream)
    → (IsOwn now.caller → IsOwn was.caller × ((m : Option (List ℕ)) (n : ℕ) → CanBegin w m was.caller.front was.conn was.link → IsUnderWay w m n n was.conn was.caller.of.settings now.caller.front now.conn now.link k [] × (said w.kind false now.caller.front ≡ said w.kind false was.caller.front)))
    → IsOn w moments was now back back base base k out out
on_start w moments base was now k back out h = record {
  text = [];
  written = writes_none out;
  came = run_start w moments base was.conn was.caller.of.settings was.caller now.caller was.conn now.conn was.link now.link k back [] h;
}

-- ---- by cases

pub on_err : {T E P : Type 0} (r : Result T E) → is_err r ≡ true → OnErr r P → P
on_err (Ok x) is h = absurd (true≢false (sym is))
on_err (Err e) is h = h

pub on_ok : {T E P : Type 0} (r : Result T E) → is_err r ≡ false → OnOk r P → P
on_ok (Ok x) is h = h
on_ok (Err e) is h = absurd (true≢false is)

pub on_none : {T P : Type 0} (o : Option T) → o ≡ None → IfNone o P → P
on_none {T} {P} o is h = subst (λ (x : Option T). IfNone x P) is h
