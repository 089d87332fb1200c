-- What a call came to, whose link and whose tape went back.
use Rattle.std.proofs.Common.{◌≡◌, ◌≢◌, ◌∙◌, ◌⊎◌, ℕ, false, List, [], ◌∷◌, ◌++◌, Option, is_some, inl, inr, refl, sym, ap, subst}
use Rattle.outside.specs.Causes.{Rose}
use Rattle.outside.specs.Links.{Shown}
use Rattle.outside.specs.declared.net.Ask.{Ask}
use Rattle.outside.specs.Streams.{ByteStream}
use Rattle.tape.specs.declared.event.Event.TheVariants as event
use Rattle.tape.specs.declared.answer.Answer.TheVariants as answer
use Rattle.tape.specs.Told.{entry_of}
use Rattle.tape.specs.declared.entry.Entry.{Entry}
use Rattle.conn_shared.specs.Members.{Knowledge}
use Rattle.call_model.specs.Leaving.{GotBack}
use Rattle.call_model.specs.Ran.{link_line}
use Rattle.session_model.specs.Life.{openings}
use Rattle.call_model.specs.Order.{Asking, InOrder}
use Rattle.call_model.specs.Saying.{said}
use Rattle.call_model.specs.Timing.{AreMoments}
use Rattle.command_line.specs.declared.call_task.CallTask.{CallTask}
use Rattle.client.specs.Alone.{IsOwn}
use Rattle.client.specs.Calling.{GoesFrom, StopsFrom}
use Rattle.client.specs.Clients.{ClientSeen, PutsBack}
use Rattle.client.specs.Counting.{HasDialed}
use Rattle.client.specs.declared.called.Called.{Called}
use Rattle.client.specs.declared.called.Called.TheVariants as called
use Rattle.client.specs.declared.calling.Calling.{Calling}
use Rattle.client.proofs.Alone.{own_call}
use Rattle.client.proofs.OverRuns.{got_none}
use Rattle.rsocket_output.specs.Written.{CutOff, Writes}
use Rattle.rsocket_output.proofs.Moves.{writes_none}
use Rattle.rsocket_call.specs.Begun.{HasOpened, IsStillTo}
use Rattle.rsocket_call.specs.Called.{WasPrinting, asking_for, settings_for, tries_for}
use Rattle.rsocket_call.specs.Ended.{TextOf, GotTape, HasCome}
use Rattle.rsocket_call.specs.Made.{Alone, GoesWith, HasMade, IsCutOff, IsWritten, StopsWith}
use Rattle.rsocket_call.specs.declared.make.Made.{Made}
use Rattle.rsocket_call.specs.declared.make.Made.TheVariants as made
use Rattle.rsocket_call.proofs.Beginning.{can_begin, first_is_one, nothing_said, tick_first, tick_in_order, tick_opens_none, tick_unstarted}
use Rattle.rsocket_call.proofs.Ending.{printing_on, printing_stopped, text_of}
use Rattle.rsocket_call.proofs.Saying.{says_nothing}

module _ (t : CallTask) (moments : Option (List ℕ)) (fresh : Option (List Entry)) (shelf shelf' : List (Option (List Entry))) (asks asks' : Option (List Ask)) (back mid back' : Option (List Shown)) (faults faults' : ℕ) (me : Knowledge) (was now : ClientSeen) (empty : me.front ≡ []) (opened : HasOpened moments me was)
    (settings : was.caller.of.settings ≡ settings_for t) (own : IsOwn now.caller) (tape : GotTape (settings_for t) (is_some fresh) now.caller.front shelf shelf') (puts : PutsBack now.link mid back') (dialed : HasDialed t.address t.ws asks asks') where
  -- what holds where the caller was alone, does
  holds : (P : Type 0) → Alone (asking_for t) moments was now P → IsOwn was.caller × P
  holds P came = (let a = came own in (a.0, a.1 (can_begin (asking_for t) moments me was empty opened a.0)))

  stopped : (r : Called) (text : List ℕ) → IsOwn was.caller → StopsWith (asking_for t) moments t.lulls (tries_for t) was now back mid faults faults' r text → StopsFrom r (asking_for t) moments t.lulls (tries_for t) faults faults' 1 (settings_for t) was.caller.front now.caller.front now.link [] back mid [] text
  stopped r text alone s = subst (λ n. StopsFrom r (asking_for t) moments t.lulls (tries_for t) faults faults' n (settings_for t) was.caller.front now.caller.front now.link [] back mid [] text) (first_is_one moments me was empty opened alone)
      (subst (λ g. StopsFrom r (asking_for t) moments t.lulls (tries_for t) faults faults' was.conn g was.caller.front now.caller.front now.link [] back mid [] text) settings s)

  gone_on : (k : Calling) (text : List ℕ) → IsOwn was.caller → GoesWith (asking_for t) moments was now back mid faults faults' k text → GoesFrom (asking_for t) moments faults faults' 1 (settings_for t) was.caller.front now.caller.front now.conn now.link k [] back mid [] text
  gone_on k text alone s = subst (λ n. GoesFrom (asking_for t) moments faults faults' n (settings_for t) was.caller.front now.caller.front now.conn now.link k [] back mid [] text) (first_is_one moments me was empty opened alone)
      (subst (λ g. GoesFrom (asking_for t) moments faults faults' was.conn g was.caller.front now.caller.front now.conn now.link k [] back mid [] text) settings s)

  written : (r : Called) (old new : ByteStream) → IsWritten r (asking_for t) moments t.lulls (tries_for t) was now back mid faults faults' old new → (text : List ℕ) × TextOf r t moments fresh shelf shelf' asks asks' back back' faults faults' text × Writes text old new
  written r old new h =
      let a = holds (StopsWith (asking_for t) moments t.lulls (tries_for t) was now back mid faults faults' r h.text) h.came in (
        h.text,
        text_of t moments fresh shelf shelf' asks asks' back mid back' faults faults' was.caller.front now.caller.front now.link h.text (nothing_said (asking_for t) moments me was empty opened a.0) tape puts dialed r (stopped r h.text a.0 a.1),
        h.written,
      )

  cut : (old new : ByteStream) → IsCutOff (asking_for t) moments t.lulls (tries_for t) was now back mid faults faults' old new → (text : List ℕ) × WasPrinting t moments fresh shelf shelf' asks asks' back back' text × CutOff text old new
  cut old new h =
      let a = holds (((k : Calling) × GoesWith (asking_for t) moments was now back mid faults faults' k h.text) ⊎ ((r : Called) × (r ≢ called.OutOfMemory) × StopsWith (asking_for t) moments t.lulls (tries_for t) was now back mid faults faults' r h.text)) h.came in
      let none = nothing_said (asking_for t) moments me was empty opened a.0 in (
        h.text,
        elim (a.1) [
          | inl on ↦ printing_on t moments fresh shelf shelf' asks asks' back mid back' faults faults' was.caller.front now.caller.front now.link h.text none tape puts dialed now.conn on.0 (gone_on on.0 h.text a.0 on.1)
          | inr off ↦ printing_stopped t moments fresh shelf shelf' asks asks' back mid back' faults faults' was.caller.front now.caller.front now.link h.text none tape puts dialed off.0 (stopped off.0 h.text a.0 off.2)
        ],
        h.cut,
      )

  pub has_come : (m : Made) (old new : ByteStream) → HasMade m (asking_for t) moments t.lulls (tries_for t) was now back mid faults faults' old new → HasCome m t moments fresh shelf shelf' asks asks' back back' faults faults' old new
  has_come made.WriteFault old new h = cut old new h
  has_come (made.Called called.OutOfMemory) old new h = (h.0, tt, h.1)
  has_come (made.Called called.Finished) old new h = written called.Finished old new h
  has_come (made.Called called.Net) old new h = written called.Net old new h
  has_come (made.Called (called.Dead last)) old new h = written (called.Dead last) old new h
  has_come (made.Called (called.Idle n)) old new h = written (called.Idle n) old new h
  has_come (made.Called (called.Refused why)) old new h = written (called.Refused why) old new h

  pub has_come_by : (w : Asking) (lulls tries : ℕ) → w ≡ asking_for t → lulls ≡ t.lulls → tries ≡ tries_for t → (m : Made) (old new : ByteStream) → HasMade m w moments lulls tries was now back mid faults faults' old new → HasCome m t moments fresh shelf shelf' asks asks' back back' faults faults' old new
  has_come_by w lulls tries is n k m old new h = has_come m old new (subst (λ x. HasMade m (asking_for t) moments t.lulls x was now back mid faults faults' old new) k
      (subst (λ x. HasMade m (asking_for t) moments x tries was now back mid faults faults' old new) n (subst (λ x. HasMade m x moments lulls tries was now back mid faults faults' old new) is h)))

-- ---- no client began

unlinked : (t : CallTask) (moments : Option (List ℕ)) (fresh : Option (List Entry)) (shelf shelf' : List (Option (List Entry))) (asks asks' : Option (List Ask)) (back back' : Option (List Shown)) (faults faults' n now : ℕ) (past : List Entry) → past ≡ entry_of n (event.Tick now) answer.Quiet ∷ [] → AreMoments moments past
    → GotTape (settings_for t) (is_some fresh) past shelf shelf' → HasDialed t.address t.ws asks asks' → back' ≡ back → Rose faults faults' → TextOf called.Net t moments fresh shelf shelf' asks asks' back back' faults faults' []
unlinked t moments fresh shelf shelf' asks asks' back back' faults faults' n now past is timed tape dialed same rose =
    let w = asking_for t in
    let none : said t.kind false past ≡ [] = ap (said t.kind false) is ∙ says_nothing t.kind _ (tick_unstarted w moments n now 0) in
    record {
      past = past;
      links = [];
      call = record {
        put_back = tape.put_back;
        legal = tape.legal;
        fair = tape.fair;
        dialed = dialed;
        got_back = subst (GotBack [] back) (sym same) (got_none back);
        call = record {
          order = subst (InOrder w) (sym is) (tick_in_order w moments n now 0);
          timed = timed;
          each = λ place. record { each = sym (ap openings is ∙ tick_opens_none w moments n now 0); carried = tt; timely = tt; left = tt };
        };
      };
      why = inl (refl, rose);
      stops = (λ place. tt, ap (λ (l : List ℕ). l ++ link_line) (sym none));
    }

-- the caller went on by a tick, or memory ran out
pub came_unbegun : (r : Called) (t : CallTask) (moments : Option (List ℕ)) (fresh : Option (List Entry)) (shelf shelf' : List (Option (List Entry))) (asks asks' : Option (List Ask)) (back back' : Option (List Shown)) (faults faults' : ℕ) (me now : Knowledge) (out : ByteStream) → me.front ≡ [] → me.of.settings ≡ settings_for t → me.of.tells ≡ is_some fresh
    → now ≡ record me { front = now.front; note = now.note } → IsOwn now → IsStillTo r moments me now.front back back' faults faults' → HasDialed t.address t.ws asks asks' → GotTape now.of.settings now.of.tells now.front shelf shelf' → HasCome (made.Called r) t moments fresh shelf shelf' asks asks' back back' faults faults' out out
came_unbegun called.OutOfMemory t moments fresh shelf shelf' asks asks' back back' faults faults' me now out none settings tells same own h dialed tape = ([], tt, writes_none out)
came_unbegun called.Finished t moments fresh shelf shelf' asks asks' back back' faults faults' me now out none settings tells same own h dialed tape = absurd h
came_unbegun (called.Dead last) t moments fresh shelf shelf' asks asks' back back' faults faults' me now out none settings tells same own h dialed tape = absurd h
came_unbegun (called.Idle n) t moments fresh shelf shelf' asks asks' back back' faults faults' me now out none settings tells same own h dialed tape = absurd h
came_unbegun (called.Refused why) t moments fresh shelf shelf' asks asks' back back' faults faults' me now out none settings tells same own h dialed tape = absurd h
came_unbegun called.Net t moments fresh shelf shelf' asks asks' back back' faults faults' me now out none settings tells same own (ticks, kept, rose) dialed tape =
    let tick = own_call me.of.settings me now (event.Tick ticks.now) ticks.answered refl same ticks.called own in
    let is = tick_first moments me now.front none ticks tick.1 in
    let here : now.of.settings ≡ settings_for t = ap (λ (k : Knowledge). k.of.settings) same ∙ settings in
    let telling : now.of.tells ≡ is_some fresh = ap (λ (k : Knowledge). k.of.tells) same ∙ tells in (
      [],
      unlinked t moments fresh shelf shelf' asks asks' back back' faults faults' me.number ticks.now now.front is (subst (AreMoments moments) (sym is) (ticks.moment, tt))
          (subst (λ b. GotTape (settings_for t) b now.front shelf shelf') telling (subst (λ g. GotTape g now.of.tells now.front shelf shelf') here tape)) dialed kept rose,
      writes_none out,
    )
