-- One link whose connection was opened, put together from its opening and from what attended it.
use Rattle.std.proofs.Common.{◌≡◌, ◌≢◌, ◌∙◌, inl, inr, ℕ, zero, suc, Bool, true, false, List, [], ◌∷◌, ◌++◌, Option, Some, None, IfSome, slice_get, refl, sym, ap, subst}
use Rattle.rs_wire.specs.declared.words.Side.TheVariants.{Server}
use Rattle.rs_wire.specs.declared.settings.Settings.{Settings}
use Rattle.rs_frame.specs.declared.frame.Frame.{Frame}
use Rattle.rs_frame.specs.Framed.{framed}
use Rattle.rs_chunk.specs.Stream.{first_frame}
use Rattle.std.specs.Io.KnownBytes.{append_known}
use Rattle.outside.specs.Links.{Shown}
use Rattle.tape.specs.Told.{entry_of}
use Rattle.tape.specs.declared.event.Event.{Event}
use Rattle.tape.specs.declared.event.Event.TheVariants as event
use Rattle.tape.specs.declared.answer.Answer.{Answer}
use Rattle.tape.specs.declared.answer.Answer.TheVariants as answer
use Rattle.tape.specs.declared.entry.Entry.{Entry}
use Rattle.session_model.specs.Legal.{Legal}
use Rattle.session_model.specs.Life.{resumption_agreed}
use Rattle.conn_shared.specs.Calls.{IsCalled}
use Rattle.conn_shared.specs.Members.{Continues, Knowledge}
use Rattle.link_model.specs.Carrying.{IsFresh}
use Rattle.link_model.specs.Leaving.{Left}
use Rattle.link_laws.specs.Opened.{IsJustOpened}
use Rattle.link_laws.specs.Staying.{IsHeld}
use Rattle.link_laws.proofs.Opened.{just_opened}
use Rattle.pump.specs.declared.turned.Turned.{Turned}
use Rattle.pump.specs.declared.turned.Turned.TheVariants as turned
use Rattle.pump.specs.Turns.{GoesOn, Names, Ticks, WasNoted}
use Rattle.pump.proofs.Adding.{IsOn, called_continues, continues_both, continues_same, follows_continues, goes_both, goes_called, goes_continues}
use Rattle.pump.proofs.Events.{was_wider}
use Rattle.handlers.specs.Listed.{Listed}
use Rattle.workers.specs.declared.job.OpenJob.{OpenJob}
use Rattle.workers.specs.Courses.{IsNoWork}
use Rattle.workers.specs.Serving.{Serving}
use Rattle.server.specs.Attended.{BeginsBy, HasOpened, IsFirstOf, OpenedAt, ServesAt, ServesOne}
use Rattle.server.specs.Attending.{Attends, Grants, KeepsWork}
use Rattle.server.specs.Opening.{AreBack, IsFirst, OpensAfter, OpensAt, TriesToOpen, wish_of}
use Rattle.server.specs.declared.served.Served.{Served}
use Rattle.server.specs.declared.served.Served.TheVariants as served
use Rattle.server.specs.Serving.{At, Between, IsFull, IsLeft, IsUnopened, KeepsServing, ServedFor, ServedSo, may_resume, served_by}
use Rattle.server.proofs.Agreed.{IsAgreed, agreed_here, agreed_on}
use Rattle.server.proofs.FirstFrame.{first_still, fresh_by}
use Rattle.server.proofs.Kept.{serving_goes}
use Rattle.server.proofs.Places.{back_both, same_got}

-- ---- at a place

pub at_of : (ks : List Knowledge) (at : ℕ) (k : Knowledge) (P : Knowledge → Type 0) → slice_get ks at ≡ Some k → P k → At ks at P
at_of ks at k P is p = subst (λ (o : Option Knowledge). IfSome o P) (sym is) p

between_of : (olds news : List Knowledge) (at : ℕ) (a b : Knowledge) (P : Knowledge → Knowledge → Type 0) → slice_get olds at ≡ Some a → slice_get news at ≡ Some b → P a b → Between olds news at P
between_of olds news at a b P was is p = at_of olds at a (λ old. At news at (λ new. P old new)) was (at_of news at b (P a) is p)

-- one that came back has its names, its number and its parts
pub back_got : (olds news : List Knowledge) (at : ℕ) (a b : Knowledge) → AreBack olds news → slice_get olds at ≡ Some a → slice_get news at ≡ Some b → IsOn a b
back_got [] news at a b back was is = absurd (cc)
back_got (x ∷ xs) [] at a b back was is = absurd back
back_got (x ∷ xs) (y ∷ ys) zero a b back was is =
    let first : a ≡ x = (let s : Some x ≡ Some a = was in cc) in
    let second : b ≡ y = (let s : Some y ≡ Some b = is in cc) in
    subst (λ (k : Knowledge). IsOn k b) (sym first) (subst (λ (k : Knowledge). IsOn x k) (sym second) back.0)
back_got (x ∷ xs) (y ∷ ys) (suc at) a b back was is = back_got xs ys at a b back.1 was is

-- ---- the opening

called_on : (g : Settings) (me : Knowledge) (e : Event) (a : Answer) (new : List Entry) → IsCalled g me e a new → Continues me.front new
called_on g me e a new c = continues_both me.front c.before new (follows_continues me.names me.front c.before c.follows) (called_continues g me e a new c)

-- an accepted opening was brought after the tick
brought_after : (g : Settings) (me : Knowledge) (met : Answer) (first : Frame) (taken : Bool) (c : ℕ) (new : List Entry) → OpensAfter g me met first taken (answer.Opened c) new → IsCalled g me (event.Open (Some first) taken) (answer.Opened c) new
brought_after g me answer.TapeFull first taken c new o = absurd (let no : answer.Opened c ≡ answer.TapeFull = o.0 in cc)
brought_after g me answer.OutOfMemory first taken c new o = absurd (let no : answer.Opened c ≡ answer.OutOfMemory = o.0 in cc)
brought_after g me _ first taken c new o = o

opening_of : (g : Settings) (moments : Option (List ℕ)) (me : Knowledge) (first : Frame) (taken : Bool) (c : ℕ) (new : List Entry) → (t : TriesToOpen g moments me first taken (answer.Opened c) new) → IsCalled g (record me { front = t.ticked; note = None }) (event.Open (Some first) taken) (answer.Opened c) new
opening_of g moments me first taken c new t = brought_after g (record me { front = t.ticked; note = None }) t.met first taken c new t.opening

-- its entry is the newest
pub opened_by : (g : Settings) (moments : Option (List ℕ)) (old new : Knowledge) (first : Frame) (taken : Bool) (c : ℕ) → IsOn old new → TriesToOpen g moments old first taken (answer.Opened c) new.front → HasOpened c first new
opened_by g moments old new first taken c on t =
    let called = opening_of g moments old first taken c new.front t in
    let number : old.number ≡ new.number = sym (ap (λ (k : Knowledge). k.number) on) in
    record {
      taken = taken;
      before = called.before;
      newest = called.step.after ∙ ap (λ n. entry_of n (event.Open (Some first) taken) (answer.Opened c) ∷ called.before) number;
    }

-- a tick, or an opening
abbrev IsBegun : Option (List ℕ) → Event → Type 0
IsBegun moments (event.Tick now) = Ticks moments (event.Tick now)
IsBegun moments (event.Open first taken) = Unit {0}
IsBegun moments _ = ⊥

begun_idle : (moments : Option (List ℕ)) (e : Event) → IsBegun moments e → IsNoWork e
begun_idle moments (event.Asked asked) h = absurd h
begun_idle moments _ h = tt

tries_goes : (g : Settings) (moments : Option (List ℕ)) (me : Knowledge) (first : Frame) (taken : Bool) (c : ℕ) (new : List Entry) → TriesToOpen g moments me first taken (answer.Opened c) new → GoesOn (IsBegun moments) me new
tries_goes g moments me first taken c new t =
    let mid : Knowledge = record me { front = t.ticked; note = None } in
    let called = opening_of g moments me first taken c new t in
    goes_both (IsBegun moments) me mid new refl (goes_called (IsBegun moments) g me (event.Tick t.tick.now) t.met t.ticked t.tick.moment t.tick.called)
    (goes_called (IsBegun moments) g mid (event.Open (Some first) taken) (answer.Opened c) new tt called)

-- ---- what attended it

granted_on : (g : Settings) (grant : Option ℕ) (me : Knowledge) (a : Answer) (new : List Entry) → Grants g grant me a new → Continues me.front new
granted_on g None me a new h = ([], h.1)
granted_on g (Some count) me a new h = called_on g me _ a new h

attends_on : (g : Settings) (moments : Option (List ℕ)) (helps : Bool) (grant : Option ℕ) (c : ℕ) (me : Knowledge) (a : Answer) (new : List Entry) → Attends g moments helps grant c me a new → Continues me.front new
attends_on g moments helps grant c me a new h = continues_both me.front h.leased new (granted_on g grant me a h.leased h.lease) (h.rest.more, h.rest.on)

legal_before : (g : Settings) (more past : List Entry) → Legal g (more ++ past) → Legal g past
unfolding Legal
legal_before g [] past legal = legal
legal_before g (x ∷ more) past legal = legal_before g more past legal.0

-- ---- together

-- What is known of a link whose connection was opened and attended.
pub record Serves (g : Settings) (moments : Option (List ℕ)) (helps : Bool) (grant : Option ℕ) (slot at c : ℕ) (routes : List Listed) (olds mids news : List Knowledge) (was now : Option (List OpenJob)) (link : Shown) (first : Frame) (r : Turned) : Type 0 where
  pub side : g.side ≡ Server
  pub back : AreBack olds mids
  pub back_on : AreBack mids news
  pub opens : OpensAt g moments slot at olds mids first (answer.Opened c)
  pub is_first : IsFirst g.max_in link first
  pub serves : ServesAt g moments helps grant routes was now at c mids news link r

same_mid : (g : Settings) (moments : Option (List ℕ)) (helps : Bool) (grant : Option ℕ) (slot at c : ℕ) (routes : List Listed) (olds mids news : List Knowledge) (was now : Option (List OpenJob)) (link : Shown) (first : Frame) (r : Turned)
    → (s : Serves g moments helps grant slot at c routes olds mids news was now link first r) → s.opens.new ≡ s.serves.old
same_mid g moments helps grant slot at c routes olds mids news was now link first r s = same_got s.opens.new s.serves.old (slice_get mids at) s.opens.is s.serves.there

-- its parts in order
pub record Parts (g : Settings) (moments : Option (List ℕ)) (helps : Bool) (grant : Option ℕ) (c : ℕ) (routes : List Listed) (was now : Option (List OpenJob)) (link : Shown) (first : Frame) (r : Turned) (old mid new : Knowledge) : Type 0 where
  pub taken : Bool
  pub tries : TriesToOpen g moments old first taken (answer.Opened c) mid.front
  pub on : IsOn old mid
  pub on_after : IsOn mid new
  pub opened : HasOpened c first mid
  pub more : List Entry
  pub since : new.front ≡ more ++ mid.front
  pub legal : Legal g mid.front
  pub serves : ServesOne g moments helps grant routes was now c mid new link r

parts_of : (g : Settings) (moments : Option (List ℕ)) (helps : Bool) (grant : Option ℕ) (slot at c : ℕ) (routes : List Listed) (olds mids news : List Knowledge) (was now : Option (List OpenJob)) (link : Shown) (first : Frame) (r : Turned)
    → (s : Serves g moments helps grant slot at c routes olds mids news was now link first r) → Parts g moments helps grant c routes was now link first r s.opens.old s.serves.old s.serves.new
parts_of g moments helps grant slot at c routes olds mids news was now link first r s =
    let same = same_mid g moments helps grant slot at c routes olds mids news was now link first r s in
    let tries : TriesToOpen g moments s.opens.old first s.opens.taken (answer.Opened c) s.serves.old.front = subst (λ (k : Knowledge). TriesToOpen g moments s.opens.old first s.opens.taken (answer.Opened c) k.front) same s.opens.tries in
    let on : IsOn s.opens.old s.serves.old = back_got olds mids at s.opens.old s.serves.old s.back s.opens.was s.serves.there in
    let since = attends_on g moments helps grant c s.serves.old s.serves.serves.attends.lease s.serves.new.front s.serves.serves.attends.attends in
    record {
      taken = s.opens.taken;
      tries = tries;
      on = on;
      on_after = s.serves.same;
      opened = opened_by g moments s.opens.old s.serves.old first s.opens.taken c on tries;
      more = since.0;
      since = since.1;
      legal = legal_before g since.0 s.serves.old.front (subst (Legal g) since.1 s.serves.serves.legal);
      serves = s.serves.serves;
    }

-- the connection was just opened
pub just_by : (g : Settings) (me : Knowledge) (c : ℕ) (first : Frame) → HasOpened c first me → Legal g me.front → IsJustOpened g me.front c first
just_by g me c first o legal = subst (λ (es : List Entry). IsJustOpened g es c first) (sym o.newest) (just_opened g o.before me.number c first o.taken (subst (Legal g) o.newest legal))

agreed_since : (g : Settings) (moments : Option (List ℕ)) (helps : Bool) (grant : Option ℕ) (c : ℕ) (routes : List Listed) (was now : Option (List OpenJob)) (link : Shown) (first : Frame) (r : Turned) (old mid new : Knowledge)
    → g.side ≡ Server → Parts g moments helps grant c routes was now link first r old mid new → resumption_agreed g new.front ≡ may_resume (wish_of first)
agreed_since g moments helps grant c routes was now link first r old mid new side p =
    let here : IsAgreed mid.front (may_resume (wish_of first)) = subst (λ (es : List Entry). IsAgreed es (may_resume (wish_of first))) (sym p.opened.newest)
    (agreed_here g p.opened.before mid.number first p.opened.taken c (subst (Legal g) p.opened.newest p.legal)) in
    ap (resumption_agreed g) p.since ∙ agreed_on g p.more mid.front (may_resume (wish_of first)) side here

left_by : (g : Settings) (news : List Knowledge) (link : Shown) (at c : ℕ) (s : Served) → (s ≢ served.OutOfMemory → At news at (λ me. IsHeld c me.number me.front → Left g me.front link c)) → IsLeft g news link (s, Some (at, c))
left_by g news link at c served.OutOfMemory h = tt
left_by g news link at c _ h = h (λ is. cc)

unopened_none : (g : Settings) (moments : Option (List ℕ)) (news : List Knowledge) (link : Shown) (at c : ℕ) (s : Served) → IsUnopened g moments news link (s, Some (at, c))
unopened_none g moments news link at c served.OutOfMemory = tt
unopened_none g moments news link at c _ = tt

-- why it came to its end so
ended_so : (g : Settings) (moments : Option (List ℕ)) (helps : Bool) (grant : Option ℕ) (slot at c : ℕ) (routes : List Listed) (olds news : List Knowledge) (was now : Option (List OpenJob)) (link : Shown) (first : Frame) (r : Turned) (resumes : Bool) (old mid new : Knowledge)
    → slice_get olds at ≡ Some old → slice_get news at ≡ Some new → Parts g moments helps grant c routes was now link first r old mid new → resumption_agreed g new.front ≡ resumes
    → ServedFor g moments slot olds news link (served_by r resumes, Some (at, c))
ended_so g moments helps grant slot at c routes olds news was now link first (turned.Over cause) resumes old mid new there is p agreed = at_of news at new _ is p.serves.cause
ended_so g moments helps grant slot at c routes olds news was now link first (turned.Displaced n) resumes old mid new there is p agreed =
    between_of olds news at old new (λ a b. WasNoted (Names c) g a b.front (answer.Stale n)) there is
    (was_wider (Names c) (Names c) g old mid new.front new.front (answer.Stale n) (λ v h. h) (ap (λ (k : Knowledge). k.number) p.on) (goes_continues (IsBegun moments) old mid.front (tries_goes g moments old first p.taken c mid.front p.tries)) (continues_same new.front) p.serves.cause)
ended_so g moments helps grant slot at c routes olds news was now link first (turned.Dead last) resumes old mid new there is p agreed =
    between_of olds news at old new (λ a b. WasNoted (Ticks moments) g a b.front (answer.Dead last)) there is
    (was_wider (Ticks moments) (Ticks moments) g old mid new.front new.front (answer.Dead last) (λ v h. h) (ap (λ (k : Knowledge). k.number) p.on) (goes_continues (IsBegun moments) old mid.front (tries_goes g moments old first p.taken c mid.front p.tries)) (continues_same new.front) p.serves.cause)
ended_so g moments helps grant slot at c routes olds news was now link first turned.End true old mid new there is p agreed = (inr p.serves.cause, at_of news at new _ is agreed)
ended_so g moments helps grant slot at c routes olds news was now link first turned.End false old mid new there is p agreed = (p.serves.cause, at_of news at new _ is agreed)
ended_so g moments helps grant slot at c routes olds news was now link first turned.LinkFault true old mid new there is p agreed = (inl p.serves.cause, at_of news at new _ is agreed)
ended_so g moments helps grant slot at c routes olds news was now link first turned.LinkFault false old mid new there is p agreed = (p.serves.cause, at_of news at new _ is agreed)
ended_so g moments helps grant slot at c routes olds news was now link first turned.TapeFull resumes old mid new there is p agreed = at_of news at new IsFull is p.serves.cause
ended_so g moments helps grant slot at c routes olds news was now link first turned.OutOfMemory resumes old mid new there is p agreed = tt
ended_so g moments helps grant slot at c routes olds news was now link first (turned.Moved given taken) resumes old mid new there is p agreed = absurd p.serves.cause
ended_so g moments helps grant slot at c routes olds news was now link first (turned.Busy q) resumes old mid new there is p agreed = absurd p.serves.cause
ended_so g moments helps grant slot at c routes olds news was now link first turned.Lull resumes old mid new there is p agreed = absurd p.serves.cause

-- the statement of a worker goes on
work_so : (g : Settings) (moments : Option (List ℕ)) (routes : List Listed) (olds news : List Knowledge) (was now : Option (List OpenJob)) (s : Served) (at c : ℕ) (first : Frame) (taken : Bool) (old mid new : Knowledge) → slice_get olds at ≡ Some old → slice_get news at ≡ Some new → IsOn old mid → IsOn mid new
    → TriesToOpen g moments old first taken (answer.Opened c) mid.front → KeepsWork mid.names routes mid.front new.front was now → KeepsServing routes olds news was now (s, Some (at, c))
work_so g moments routes olds news None now s at c first taken old mid new there is on after tries keeps = keeps
work_so g moments routes olds news (Some was) None s at c first taken old mid new there is on after tries keeps = absurd keeps
work_so g moments routes olds news (Some was) (Some now) s at c first taken old mid new there is on after tries keeps =
    between_of olds news at old new (λ a b. Serving a.names a.front routes was → Serving b.names b.front routes now) there is (λ h.
    (let names : mid.names ≡ old.names = ap (λ (k : Knowledge). k.names) on in
    let later : new.names ≡ mid.names = ap (λ (k : Knowledge). k.names) after in
    let begun : Serving old.names mid.front routes was = serving_goes (IsBegun moments) old mid.front routes was (begun_idle moments) (tries_goes g moments old first taken c mid.front tries) h in
    subst (λ ns. Serving ns new.front routes now) (sym later) (keeps (subst (λ ns. Serving ns mid.front routes was) (sym names) begun))))

out_by : (r : Turned) (resumes : Bool) → r ≡ turned.OutOfMemory → served_by r resumes ≡ served.OutOfMemory
out_by r resumes is = ap (λ (t : Turned). served_by t resumes) is

-- all that is said of a link whose connection was opened
pub opened_so : (g : Settings) (moments : Option (List ℕ)) (helps : Bool) (grant : Option ℕ) (slot at c : ℕ) (routes : List Listed) (olds mids news : List Knowledge) (was now : Option (List OpenJob)) (link : Shown) (first : Frame) (r : Turned) (resumes : Bool)
    → Serves g moments helps grant slot at c routes olds mids news was now link first r → resumes ≡ may_resume (wish_of first) → ServedSo g moments helps grant slot routes olds news was now link (served_by r resumes, Some (at, c))
opened_so g moments helps grant slot at c routes olds mids news was now link first r resumes s asks =
    let old = s.opens.old in
    let mid = s.serves.old in
    let new = s.serves.new in
    let p = parts_of g moments helps grant slot at c routes olds mids news was now link first r s in
    let just = just_by g mid c first p.opened p.legal in
    let agreed = agreed_since g moments helps grant c routes was now link first r old mid new s.side p ∙ sym asks in
    record {
      same = back_both olds mids news s.back s.back_on;
      added = record {
        first = first;
        mid = mids;
        opens = s.opens;
        same = s.back;
        old = mid;
        new = new;
        was = s.serves.there;
        is = s.serves.is;
        is_first = s.is_first;
        others = s.serves.others;
        lease = p.serves.attends.lease;
        attends = p.serves.attends.attends;
        memory = λ out. out_by r resumes (p.serves.attends.want out);
        ticks = p.serves.ticks;
      };
      carried = at_of news at new _ s.serves.is p.serves.carried;
      left = left_by g news link at c (served_by r resumes) (λ some. at_of news at new _ s.serves.is (λ held. p.serves.left first just held (λ out. some (out_by r resumes out))));
      unopened = unopened_none g moments news link at c (served_by r resumes);
      cause = ended_so g moments helps grant slot at c routes olds news was now link first r resumes old mid new s.opens.was s.serves.is p agreed;
      work = work_so g moments routes olds news was now (served_by r resumes) at c first p.taken old mid new s.opens.was s.serves.is p.on p.on_after p.tries p.serves.work;
    }

-- ---- before

-- a caller that just opened its connection by the link's first frame finds it fresh
pub fresh_at : (g : Settings) (k : Knowledge) (at c : ℕ) (callers : List Knowledge) (link : Shown) (rest : List ℕ) → Legal g k.front → slice_get callers at ≡ Some k → OpenedAt g.max_in at c callers link rest → IsFresh g k.front link c rest
fresh_at g k at c callers link rest legal is o =
    let same : o.me ≡ k = same_got o.me k (slice_get callers at) o.is is in
    let opened : HasOpened c o.first k = subst (HasOpened c o.first) same o.opened in
    fresh_by g k.front c o.first link rest (just_by g k c o.first opened legal) o.begins

-- the caller at a place has opened a connection by the first frame
pub opened_at : (g : Settings) (moments : Option (List ℕ)) (slot at c : ℕ) (olds mids : List Knowledge) (first : Frame) (link : Shown) (rest : List ℕ) → AreBack olds mids → OpensAt g moments slot at olds mids first (answer.Opened c) → BeginsBy g.max_in first link rest → OpenedAt g.max_in at c mids link rest
opened_at g moments slot at c olds mids first link rest back o b = record {
  me = o.new;
  is = o.is;
  first = first;
  opened = opened_by g moments o.old o.new first o.taken c (back_got olds mids at o.old o.new back o.was o.is) o.tries;
  begins = b;
}

-- ---- after the first frame

pub begins_at : (most limit : ℕ) (first : Frame) (link : Shown) (bytes rest : List ℕ) → limit ≡ most → IsFirstOf first bytes limit link → bytes ≡ framed (first_frame bytes) ++ rest → BeginsBy most first link rest
begins_at most limit first link bytes rest same begins cut = record { read = bytes; begins = subst (λ n. IsFirstOf first bytes n link) same begins; cut = cut }

-- all that is said of a link whose connection was opened by its first frame
pub opened_as : (g : Settings) (moments : Option (List ℕ)) (helps : Bool) (grant : Option ℕ) (slot at c : ℕ) (routes : List Listed) (olds mids news : List Knowledge) (was now : Option (List OpenJob)) (old link : Shown) (first : Frame) (rest piece : List ℕ) (r : Turned) (resumes : Bool)
    → g.side ≡ Server → AreBack olds mids → AreBack mids news → OpensAt g moments slot at olds mids first (answer.Opened c) → BeginsBy g.max_in first old rest → link.taken ≡ append_known old.taken piece
    → ServesAt g moments helps grant routes was now at c mids news link r → resumes ≡ may_resume (wish_of first) → ServedSo g moments helps grant slot routes olds news was now link (served_by r resumes, Some (at, c))
opened_as g moments helps grant slot at c routes olds mids news was now old link first rest piece r resumes side back back_on opens begins grown serves asks =
    opened_so g moments helps grant slot at c routes olds mids news was now link first r resumes (record { side = side; back = back; back_on = back_on; opens = opens; is_first = first_still g.max_in first old link rest piece begins grown; serves = serves }) asks
