-- What a call came to, once its link and its tape went back.
use Rattle.std.proofs.lemmas.List.{length-append}
use Rattle.std.proofs.Common.{◌≡◌, ◌∙◌, ◌⊎◌, ◌≤◌, ℕ, Bool, true, false, List, [], ◌∷◌, ◌++◌, Option, Some, None, IsSome, is_some, append-nil, inl, inr, refl, sym, ap, subst, arith}
use Rattle.rs_wire.specs.declared.words.Kind.{Kind}
use Rattle.outside.specs.Links.{Shown}
use Rattle.outside.specs.declared.net.Ask.{Ask}
use Rattle.tape.specs.declared.entry.Entry.{Entry}
use Rattle.link_model.specs.Carrying.{Between, Carried}
use Rattle.link_model.proofs.Fresh.{is_carried}
use Rattle.call_model.specs.Leaving.{GotBack, one_if}
use Rattle.call_model.specs.Present.{IsServed}
use Rattle.call_model.specs.Ran.{HasPlace, IsCall, IsIdle, cause_line, idle_line}
use Rattle.call_model.specs.Saying.{said}
use Rattle.call_model.specs.Timing.{IsTimely}
use Rattle.call_model.proofs.Links.{all_but_one, carried_and_one, few_later, timely_and_one}
use Rattle.command_line.specs.declared.call_task.CallTask.{CallTask}
use Rattle.client.specs.Calling.{GoesFrom, StopsFrom, is_finished}
use Rattle.client.specs.Clients.{PutsBack}
use Rattle.client.specs.Counting.{HasDialed}
use Rattle.client.specs.Takes.{HasPrinted}
use Rattle.client.specs.Whole.{IsWholeCall}
use Rattle.client.specs.declared.called.Called.{Called}
use Rattle.client.specs.declared.called.Called.TheVariants as called
use Rattle.client.specs.declared.calling.Calling.{Calling}
use Rattle.client.proofs.Whole.{got_all, whole_call}
use Rattle.rsocket_call.specs.Called.{IsCallOf, WasPrinting, asking_for, settings_for, tries_for}
use Rattle.rsocket_call.specs.Ended.{GotTape, TextOf, last_line, refused_line, word_of}

-- ---- what was printed

pub printed_is : (k : Kind) (e : Bool) (past new : List Entry) (text : List ℕ) → said k false past ≡ [] → HasPrinted k e past new [] text → text ≡ said k e new
printed_is k e past new text none h = h.printed ∙ sym (h.says ∙ ap (λ (l : List ℕ). l ++ h.more) none)

told : (k : Kind) (new : List Entry) (text line : List ℕ) → text ≡ said k false new → text ++ line ≡ said k false new ++ line
told k new text line is = ap (λ (l : List ℕ). l ++ line) is

word_is : (o : Option (List ℕ)) → IsSome o → o ≡ Some (word_of o)
word_is (Some word) h = refl
word_is None h = cc

-- ---- where its caller was alone and it could begin

module _ (t : CallTask) (moments : Option (List ℕ)) (fresh : Option (List Entry)) (shelf shelf' : List (Option (List Entry))) (asks asks' : Option (List Ask)) (back mid back' : Option (List Shown)) (faults faults' : ℕ) (past new : List Entry) (present : Option Shown) (text : List ℕ) (none : said t.kind false past ≡ []) (tape : GotTape (settings_for t) (is_some fresh) new shelf shelf') (puts : PutsBack present mid back')
    (dialed : HasDialed t.address t.ws asks asks') where
  -- a call over these links
  call_of : (links : List Shown) → IsCall (settings_for t) (asking_for t) moments new links → GotBack links back back' → IsCallOf t moments fresh shelf shelf' asks asks' back back' new links
  call_of links call got = record { put_back = tape.put_back; legal = tape.legal; fair = tape.fair; dialed = dialed; got_back = got; call = call }

  module _ (r : Called) (s : StopsFrom r (asking_for t) moments t.lulls (tries_for t) faults faults' 1 (settings_for t) past new present [] back mid [] text) where
    whole : IsWholeCall r (asking_for t) moments t.lulls (tries_for t) faults faults' (settings_for t) past new present back mid [] text
    whole = whole_call r (asking_for t) moments t.lulls (tries_for t) faults faults' 1 (settings_for t) past new present back mid [] text refl s

    call : IsCallOf t moments fresh shelf shelf' asks asks' back back' new whole.links
    call = call_of whole.links whole.call (whole.got back' puts)

    says : text ≡ said t.kind (is_finished r) new
    says = printed_is t.kind (is_finished r) past new text none whole.prints

  -- what is told of it
  pub text_of : (r : Called) → StopsFrom r (asking_for t) moments t.lulls (tries_for t) faults faults' 1 (settings_for t) past new present [] back mid [] text → TextOf r t moments fresh shelf shelf' asks asks' back back' faults faults' text
  text_of called.OutOfMemory s = tt
  text_of called.Finished s = record { past = new; links = (whole called.Finished s).links; call = call called.Finished s; ended = ((whole called.Finished s).why, says called.Finished s) }
  text_of (called.Refused why) s =
      let w = whole (called.Refused why) s in
      record {
        past = new;
        links = w.links;
        call = call (called.Refused why) s;
        line = refused_line why;
        why = record { why = why; word = word_of (cause_line why); closed_is = w.why.0; names = word_is (cause_line why) w.why.1; line_is = refl };
        stops = (w.why.2, told t.kind new text (refused_line why) (says (called.Refused why) s));
      }
  text_of called.Net s =
      let w = whole called.Net s in
      record { past = new; links = w.links; call = call called.Net s; why = w.why.0; stops = (w.why.1, told t.kind new text (last_line called.Net) (says called.Net s)) }
  text_of (called.Dead at) s =
      let w = whole (called.Dead at) s in
      record { past = new; links = w.links; call = call (called.Dead at) s; last = at; why = w.why.0; stops = (w.why.1, told t.kind new text (last_line (called.Dead at)) (says (called.Dead at) s)) }
  text_of (called.Idle n) s =
      let w = whole (called.Idle n) s in
      let same : n ≡ t.lulls = w.why.0 in
      record {
        past = new;
        links = w.links;
        call = call (called.Idle n) s;
        why = subst (IsIdle (settings_for t) new w.links) same w.why.1;
        stops = (w.why.2, told t.kind new text (idle_line n) (says (called.Idle n) s) ∙ ap (λ m. said t.kind false new ++ idle_line m) same);
      }

  -- a write failed once it had come to something
  pub printing_stopped : (r : Called) → StopsFrom r (asking_for t) moments t.lulls (tries_for t) faults faults' 1 (settings_for t) past new present [] back mid [] text → WasPrinting t moments fresh shelf shelf' asks asks' back back' text
  printing_stopped r s = record { past = new; links = (whole r s).links; call = call r s; more = []; prints = by (is_finished r) (says r s) }
    where
      by : (e : Bool) → text ≡ said t.kind e new → (text ≡ said t.kind true new) ⊎ (text ≡ said t.kind false new ++ [])
      by true is = inl is
      by false is = inr (is ∙ sym (append-nil (said t.kind false new)))

  -- or while it went on
  carried_here : (link : Shown) (c : ℕ) (b : Between) (full : Bool) → IsServed (settings_for t) new link c b full → HasPlace new → Carried (settings_for t) new link c
  carried_here link c b true h place = absurd (let full = h.place refl in omega (arith, full, place))
  carried_here link c b false h place = subst (Carried (settings_for t) new link) h.conn (is_carried (settings_for t) new link b (h.kept refl))

  few : (full : Bool) → one_if full ≤ 2
  few true = omega arith
  few false = omega arith

  pub printing_on : (c : ℕ) (k : Calling) → GoesFrom (asking_for t) moments faults faults' 1 (settings_for t) past new c present k [] back mid [] text → WasPrinting t moments fresh shelf shelf' asks asks' back back' text
  printing_on c k s =
      let u = s.under_way in
      let last = u.link in
      let links = s.more ++ last ∷ [] in
      record {
        past = new;
        links = links;
        call = call_of links (record {
          order = u.ready.stands.order;
          timed = u.ready.stands.timed;
          each = λ place. record {
            each = (let all = length-append s.more (last ∷ []) in let opened = u.ready.served.joined.last in let number = u.number in omega (arith, all, opened, number));
            carried = carried_and_one (settings_for t) new 1 s.more last (u.carried place) (subst (Carried (settings_for t) new last) u.number (carried_here last c k.pump k.full u.ready.served place));
            timely = timely_and_one new 1 s.more last u.counted.timely (subst (IsTimely new last) u.number (few_later (one_if k.full) 2 new last c (few k.full) u.counted.ticks));
            left = all_but_one (settings_for t) new 1 s.more last (u.left place);
          };
        }) (got_all last present s.more back mid back' (inl (u.has, s.got)) puts);
        more = [];
        prints = inr (printed_is t.kind false past new text none s.prints ∙ sym (append-nil (said t.kind false new)));
      }
