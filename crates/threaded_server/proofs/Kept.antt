-- What is kept, by what the carrier's caller knows, goes on over its calls.
use Rattle.std.proofs.lemmas.Bool.Decides.{nat_tests}
use Rattle.std.proofs.Common.{◌≡◌, ◌≢◌, ◌<◌, ◌+◌, inl, inr, ℕ, suc, Bool, true, false, List, [], ◌∷◌, ◌++◌, take, drop, Some, refl, ap, sym, ◌∙◌, subst, arith}
use Rattle.std.specs.List.{AllByRecursion}
use Rattle.rs_wire.specs.declared.settings.Settings.{Settings}
use Rattle.rs_chunk.specs.Rest.{Rest}
use Rattle.rs_frame.specs.declared.frame.Frame.{Frame}
use Rattle.tape.specs.Told.{entry_of}
use Rattle.tape.specs.declared.event.Event.{Event}
use Rattle.tape.specs.declared.event.Event.TheVariants as event
use Rattle.tape.specs.declared.answer.Answer.{Answer}
use Rattle.tape.specs.declared.answer.Answer.TheVariants as answer
use Rattle.tape.specs.declared.entry.Entry.{Entry}
use Rattle.session_model.specs.Answers.{facts}
use Rattle.session_model.specs.Legal.{Legal}
use Rattle.session_model.specs.Life.{openings}
use Rattle.session_model.specs.Means.{Means}
use Rattle.session_model.proofs.Meaning.{last_means}
use Rattle.conn_lock.specs.Callers.{IsOthers, calls, once, times}
use Rattle.conn_shared.specs.Lines.{who_of}
use Rattle.conn_shared.specs.Members.{Follows, Knowledge, SharedId}
use Rattle.link_model.specs.Carrying.{Between, Keeps}
use Rattle.pump.specs.Turns.{Arrives, GoesOn, Names}
use Rattle.pump.proofs.Adding.{IsOn, all_split, goes_as}
use Rattle.pump.proofs.Events.{arrives_names}
use Rattle.cable_script.specs.declared.line.Line.{Line}
use Rattle.ring.specs.declared.item.Mark.{Mark}
use Rattle.ring.specs.declared.item.Mark.TheVariants as mark
use Rattle.ring.specs.declared.item.Item.{Item}
use Rattle.ring.specs.declared.item.Item.TheVariants as item
use Rattle.ring.specs.Parts.{bytes_of, cuts, part}
use Rattle.threaded_model.specs.Threaded.{is_asked, told_in}
use Rattle.carriers.specs.Alone.{IsOurs, OthersAsk, linked}
use Rattle.carriers.specs.Moves.{HasGiven, HasHeard, HasTaken, HasTold}
use Rattle.carriers.proofs.Alone.{IsNone, asks_back, gained, gained_others, moves_alone}
use Rattle.carriers.proofs.Items.{Grows, grows_bytes}
use Rattle.threaded_server.specs.declared.knows.Knows.{Knows}
use Rattle.threaded_server.specs.declared.knows.Knows.TheVariants as knows
use Rattle.threaded_server.specs.Carrying.{IsCarrying, IsReading, ServerCarries, ServerHands}
use Rattle.threaded_server.specs.Begun.{HasBegun, IsBegun}
use Rattle.threaded_server.proofs.OwnEntries.{Begins}
use Rattle.threaded_server.proofs.Adding.{legal_before, legal_last}
use Rattle.threaded_server.proofs.Handing.{hands}
use Rattle.threaded_server.proofs.Carried.{IsOther, answered, carries_none, cut_here, filled, followed, gave_more, heard_more, marked, opened_here, over_others, passed_over, pushed_more, read_to, refused_here, ticked, took_more}

-- ---- a caller, and what it was

number_on : (was now : Knowledge) → IsOn was now → now.number ≡ was.number
number_on was now on = ap (λ (x : Knowledge). x.number) on

settings_on : (was now : Knowledge) → IsOn was now → now.of.settings ≡ was.of.settings
settings_on was now on = ap (λ (x : Knowledge). x.of.settings) on

none_ours : (n : ℕ) (more : List Entry) → AllByRecursion (IsOurs IsNone n) more → AllByRecursion (IsOther n) more
none_ours n [] h = tt
none_ours n (x ∷ more) h = (elim h.0 [ inl own ↦ absurd own.1 | inr other ↦ other ], none_ours n more h.1)

-- ---- one step

-- where a step of what is kept adds these entries, what is kept goes on
onward : (was now : Knowledge) (more : List Entry) (u u' : ℕ) (lines lines' : List Line) (kn kn' : Knows) (s s' r r' : List Item) → IsOn was now → now.front ≡ more ++ was.front
    → (OthersAsk now → Legal was.of.settings (more ++ was.front) → ServerCarries was.of.settings was.front was.number lines u kn s r → ServerCarries was.of.settings (more ++ was.front) was.number lines' u' kn' s' r')
    → IsReading u lines was kn s r → IsReading u' lines' now kn' s' r'
onward was now more u u' lines lines' kn kn' s s' r r' on is step k asks legal =
    let g = settings_on was now on in
    let n = number_on was now on in
    let legal' : Legal was.of.settings (more ++ was.front) = subst (λ (t : Settings). Legal t (more ++ was.front)) g (subst (Legal now.of.settings) is legal) in
    let before = k (asks_back was now on more is asks) (legal_before was.of.settings more was.front legal') in
    let after = step asks legal' before in
    subst (λ (t : Settings). ServerCarries t now.front now.number lines' u' kn' s' r') (sym g)
    (subst (λ (i : ℕ). ServerCarries was.of.settings now.front i lines' u' kn' s' r') (sym n)
    (subst (λ (es : List Entry). ServerCarries was.of.settings es was.number lines' u' kn' s' r') (sym is) after))

-- where no entry is added
still : (me : Knowledge) (u u' : ℕ) (lines lines' : List Line) (kn kn' : Knows) (s s' r r' : List Item) → (ServerCarries me.of.settings me.front me.number lines u kn s r → ServerCarries me.of.settings me.front me.number lines' u' kn' s' r') → IsReading u lines me kn s r → IsReading u' lines' me kn' s' r'
still me u u' lines lines' kn kn' s s' r r' step k asks legal = step (k asks legal)

others_of : (was now : Knowledge) → IsOn was now → (f : Follows was.names was.front now.front) → OthersAsk now → AllByRecursion (IsOther was.number) f.0
others_of was now on f asks = none_ours was.number f.0 (gained_others was now on f asks)

-- it looked
pub kept_looked : (was now : Knowledge) (u : ℕ) (lines : List Line) (kn : Knows) (s r : List Item) → IsOn was now → Follows was.names was.front now.front → IsReading u lines was kn s r → IsReading u lines now kn s r
kept_looked was now u lines kn s r on f = onward was now f.0 u u lines lines kn kn s s r r on f.1 (λ asks legal c. over_others was.of.settings f.0 was.front was.number lines u kn s r (others_of was now on f asks) legal c)

-- ---- it told the session something

told_others : (g : Settings) (was now : Knowledge) (e : Event) (a : Answer) → IsOn was now → (t : HasTold g was now e a) → OthersAsk now → AllByRecursion (IsOther was.number) t.follows.0
told_others g was now e a on t asks =
    let mid : Knowledge = record was { front = t.before } in
    let off : IsOn mid now = on in
    let back : OthersAsk mid = asks_back mid now off (entry_of was.number e a ∷ []) t.is asks in
    others_of was mid refl t.follows back

kept_told : (g : Settings) (was now : Knowledge) (e : Event) (a : Answer) (u u' : ℕ) (lines lines' : List Line) (kn kn' : Knows) (s s' r r' : List Item) → IsOn was now → (t : HasTold g was now e a)
    → (Legal was.of.settings (entry_of was.number e a ∷ t.before) → ServerCarries was.of.settings t.before was.number lines u kn s r → ServerCarries was.of.settings (entry_of was.number e a ∷ t.before) was.number lines' u' kn' s' r')
    → IsReading u lines was kn s r → IsReading u' lines' now kn' s' r'
kept_told g was now e a u u' lines lines' kn kn' s s' r r' on t step =
    let x = entry_of was.number e a in
    let same : t.before ≡ t.follows.0 ++ was.front = t.follows.1 in
    onward was now (x ∷ t.follows.0) u u' lines lines' kn kn' s s' r r' on (t.is ∙ ap (λ (es : List Entry). x ∷ es) same) (λ asks legal c.
    let over = over_others was.of.settings t.follows.0 was.front was.number lines u kn s r (told_others g was now e a on t asks) (legal_last was.of.settings x (t.follows.0 ++ was.front) legal) c in
    subst (λ (es : List Entry). ServerCarries was.of.settings (x ∷ es) was.number lines' u' kn' s' r') same
    (step (subst (λ (es : List Entry). Legal was.of.settings (x ∷ es)) (sym same) legal) (subst (λ (es : List Entry). ServerCarries was.of.settings es was.number lines u kn s r) (sym same) over)))

pub kept_tick : (g : Settings) (was now : Knowledge) (moment : ℕ) (a : Answer) (u : ℕ) (lines : List Line) (l : Line) (kn : Knows) (s r : List Item) → IsOn was now → told_in l ≡ moment ∷ [] → HasTold g was now (event.Tick moment) a → IsReading u lines was kn s r → IsReading u (lines ++ l ∷ []) now kn s r
kept_tick g was now moment a u lines l kn s r on tells t = kept_told g was now (event.Tick moment) a u u lines (lines ++ l ∷ []) kn kn s s r r on t (λ legal c. ticked was.of.settings t.before (entry_of was.number (event.Tick moment) a) was.number moment lines l u kn s r refl tells legal c)

pub kept_cut : (g : Settings) (was now : Knowledge) (conn : ℕ) (b : Between) (a : Answer) (u : ℕ) (lines : List Line) (s r : List Item) → IsOn was now → b.conn ≡ conn → HasTold g was now (event.Cut conn) a → IsReading (suc u) lines was (knows.Accepted conn b) s r → IsReading (suc u) lines now (knows.Accepted conn b) s r
kept_cut g was now conn b a u lines s r on same t = kept_told g was now (event.Cut conn) a (suc u) (suc u) lines lines (knows.Accepted conn b) (knows.Accepted conn b) s s r r on t (λ legal c. cut_here was.of.settings t.before (entry_of was.number (event.Cut conn) a) was.number lines u conn b s r (ap event.Cut (sym same)) legal c)

-- ---- bytes of the connection that was accepted

-- what is kept of a link, in the caller's words
keeps_as : (was now : Knowledge) (more : List Entry) (given taken : List ℕ) (b : Between) → IsOn was now → now.front ≡ more ++ was.front → Keeps now.of.settings now.front (linked given taken) b → Keeps was.of.settings (more ++ was.front) (linked given taken) b
keeps_as was now more given taken b on is k = subst (λ (es : List Entry). Keeps was.of.settings es (linked given taken) b) is (subst (λ (g : Settings). Keeps g now.front (linked given taken) b) (settings_on was now on) k)

pub kept_given : (was now : Knowledge) (lines : List Line) (conn : ℕ) (b b' : Between) (s s' r : List Item) → IsOn was now → HasGiven was now b b' s s' → b'.left ≡ [] → IsReading 0 lines was (knows.Accepted conn b) s r → IsReading 0 lines now (knows.Accepted conn b') s' r
kept_given was now lines conn b b' s s' r on h none = onward was now h.goes.more 0 0 lines lines (knows.Accepted conn b) (knows.Accepted conn b') s s' r r on h.goes.on (λ asks legal c.
    gave_more was.of.settings h.goes.more was.front was.number lines conn b b' s s' r h.piece (subst (Grows h.piece s) (sym h.sent) (grows_bytes s h.piece)) c (record {
      ours = gained (Names b.conn) was now on h.goes asks;
      conn = h.conn;
      none_left = none;
      keeps = keeps_as was now h.goes.more (part (cuts s) s ++ h.piece) (part (cuts s) r) b' on h.goes.on (h.kept (linked (part (cuts s) s) (part (cuts s) r)) (λ alone. c.here.kept) (moves_alone now b'.conn asks));
    }))

names_goes : (c : ℕ) (me : Knowledge) (new : List Entry) → GoesOn (Arrives c) me new → GoesOn (Names c) me new
names_goes c me new h = goes_as (Arrives c) (Names c) me new (arrives_names c) h

pub kept_taken : (was now : Knowledge) (lines : List Line) (conn : ℕ) (b b' : Between) (m : Mark) (s r r' : List Item) → IsOn was now → HasTaken was now b b' m r r' → IsReading 0 lines was (knows.Accepted conn b) s r → IsReading (cuts (item.Mark m ∷ [])) lines now (knows.Accepted conn b') s r'
kept_taken was now lines conn b b' m s r r' on h =
    let goes = names_goes b.conn was now.front h.goes in
    onward was now goes.more 0 (cuts (item.Mark m ∷ [])) lines lines (knows.Accepted conn b) (knows.Accepted conn b') s s r r' on goes.on (λ asks legal c.
    took_more was.of.settings goes.more was.front was.number lines conn b b' s r r' h.bytes m (read_to r r' h.bytes m h.read) c (record {
      ours = gained (Names b.conn) was now on goes asks;
      conn = h.conn;
      none_left = h.left ∙ c.here.none_left;
      keeps = keeps_as was now goes.more (part (cuts s) s) (part (cuts s) r ++ h.bytes) b' on goes.on (h.kept (linked (part (cuts s) s) (part (cuts s) r)) (λ alone. c.here.kept) (moves_alone now b'.conn asks));
    }))

pub kept_heard : (was now : Knowledge) (u : ℕ) (lines : List Line) (conn : ℕ) (b b' : Between) (s r : List Item) → IsOn was now → HasHeard was now b b' → IsReading u lines was (knows.Accepted conn b) s r → IsReading u lines now (knows.Accepted conn b') s r
kept_heard was now u lines conn b b' s r on h =
    let goes = names_goes b.conn was now.front h.goes in
    onward was now goes.more u u lines lines (knows.Accepted conn b) (knows.Accepted conn b') s s r r on goes.on (λ asks legal c.
    heard_more was.of.settings goes.more was.front was.number lines u conn b b' s r c (record {
      ours = gained (Names b.conn) was now on goes asks;
      conn = h.conn;
      none_left = h.left ∙ c.here.none_left;
      keeps = keeps_as was now goes.more (part (cuts s) s) (part (cuts s) r) b' on goes.on (h.kept (linked (part (cuts s) s) (part (cuts s) r)) (λ alone. c.here.kept) (moves_alone now b'.conn asks));
    }))

-- ---- an opening

-- an opening that was accepted has the next number
next_is : (g : Settings) (S : List Entry) (who : ℕ) (e : Event) (conn : ℕ) (f : Frame) (taken : Bool) → e ≡ event.Open (Some f) taken → Legal g (entry_of who e (answer.Opened conn) ∷ S) → conn ≡ openings S + 1
unfolding facts
next_is g S who e conn f taken is legal =
    let means : Means g (facts g S) (event.Open (Some f) taken) (answer.Opened conn) = subst (λ (v : Event). Means g (facts g S) v (answer.Opened conn)) is (last_means g (entry_of who e (answer.Opened conn)) S legal) in
    means.next

pub kept_begun : (g : Settings) (was now : Knowledge) (u : ℕ) (lines : List Line) (reader : Rest) (kn : Knows) (s r : List Item) → IsOn was now → HasBegun g was now reader kn → IsReading u lines was (knows.Nothing reader) s r → IsReading u lines now kn s r
kept_begun g was now u lines reader kn s r on h = kept_told g was now (event.Open (Some h.frame) false) h.answer u u lines lines (knows.Nothing reader) kn s s r r on h.told (λ legal c. by_knows kn h.is legal c)
  where
    begins : Begins h.frame reader.bytes h.rest
    begins = record { spells = h.spells; passes = h.passes }

    x : Entry
    x = entry_of was.number (event.Open (Some h.frame) false) h.answer

    by_knows : (k : Knows) → IsBegun reader.max_in h.answer h.rest k → Legal was.of.settings (x ∷ h.told.before) → ServerCarries was.of.settings h.told.before was.number lines u (knows.Nothing reader) s r → ServerCarries was.of.settings (x ∷ h.told.before) was.number lines u k s r
    by_knows (knows.Nothing other) is legal c = absurd is
    by_knows (knows.Accepted conn b) is legal c =
        let next : conn ≡ openings h.told.before + 1 = next_is was.of.settings h.told.before was.number (event.Open (Some h.frame) false) conn h.frame false refl (subst (λ (a : Answer). Legal was.of.settings (entry_of was.number (event.Open (Some h.frame) false) a ∷ h.told.before)) is.0 legal) in
        subst (λ (t : Between). ServerCarries was.of.settings (x ∷ h.told.before) was.number lines u (knows.Accepted conn t) s r) (sym is.1)
        (opened_here was.of.settings h.told.before x h.frame was.number lines u conn reader.max_in reader h.rest s r (record { taken = false; event_is = refl }) legal is.0 next begins c)
    by_knows (knows.Refused bytes pushed) is legal c =
        subst (λ (n : ℕ). ServerCarries was.of.settings (x ∷ h.told.before) was.number lines u (knows.Refused bytes n) s r) (sym is.2)
        (refused_here was.of.settings h.told.before x h.frame was.number lines u reader h.rest bytes s r (record { taken = false; event_is = refl }) legal is.0 is.1 begins c)

-- ---- without a call

pub kept_filled : (me : Knowledge) (lines : List Line) (old new : Rest) (bytes : List ℕ) (m : Mark) (s r r' : List Item) → r' ≡ (r ++ bytes_of bytes) ++ item.Mark m ∷ [] → new.bytes ≡ old.bytes ++ bytes → IsReading 0 lines me (knows.Nothing old) s r → IsReading (cuts (item.Mark m ∷ [])) lines me (knows.Nothing new) s r'
kept_filled me lines old new bytes m s r r' is more = still me 0 (cuts (item.Mark m ∷ [])) lines lines (knows.Nothing old) (knows.Nothing new) s s r r' (λ c. filled me.of.settings me.front me.number lines old new s r r' bytes m (read_to r r' bytes m is) more c)

pub kept_passed : (me : Knowledge) (lines : List Line) (refusal bytes : List ℕ) (pushed : ℕ) (m : Mark) (s r r' : List Item) → r' ≡ (r ++ bytes_of bytes) ++ item.Mark m ∷ [] → IsReading 0 lines me (knows.Refused refusal pushed) s r → IsReading (cuts (item.Mark m ∷ [])) lines me (knows.Refused refusal pushed) s r'
kept_passed me lines refusal bytes pushed m s r r' is = still me 0 (cuts (item.Mark m ∷ [])) lines lines (knows.Refused refusal pushed) (knows.Refused refusal pushed) s s r r' (λ c. passed_over me.of.settings me.front me.number lines refusal bytes pushed s r r' m (read_to r r' bytes m is) c)

pub kept_pushed : (me : Knowledge) (lines : List Line) (refusal : List ℕ) (pushed more : ℕ) (s s' r : List Item) → s' ≡ s ++ bytes_of (take more (drop pushed refusal)) → IsReading 0 lines me (knows.Refused refusal pushed) s r → IsReading 0 lines me (knows.Refused refusal (pushed + more)) s' r
kept_pushed me lines refusal pushed more s s' r is = still me 0 0 lines lines (knows.Refused refusal pushed) (knows.Refused refusal (pushed + more)) s s' r r (λ c. pushed_more me.of.settings me.front me.number lines refusal pushed more s s' r is c)

pub kept_marked : (me : Knowledge) (u : ℕ) (lines : List Line) (kn : Knows) (s s' r : List Item) → Grows [] s s' → IsReading u lines me kn s r → IsReading u lines me kn s' r
kept_marked me u lines kn s s' r g = still me u u lines lines kn kn s s' r r (λ c. marked me.of.settings me.front me.number lines u kn s s' r g c)

pub kept_answered : (me : Knowledge) (lines : List Line) (kn : Knows) (reader : Rest) (s s' r : List Item) → s' ≡ s ++ item.Mark mark.Cut ∷ [] → reader.bytes ≡ [] → IsReading 1 lines me kn s r → IsReading 0 lines me (knows.Nothing reader) s' r
kept_answered me lines kn reader s s' r is none = still me 1 0 lines lines kn (knows.Nothing reader) s s' r r (λ c. answered me.of.settings me.front me.number lines kn reader s s' r is none c)

pub kept_followed : (me : Knowledge) (l : Line) (lines : List Line) (kn : Knows) (s r : List Item) → told_in l ≡ [] → IsReading 0 lines me kn s r → IsReading 0 (lines ++ l ∷ []) me kn s r
kept_followed me l lines kn s r none = still me 0 0 lines (lines ++ l ∷ []) kn kn s s r r (λ c. followed me.of.settings me.front me.number lines l 0 kn s r none c)

-- ---- another caller was joined in

-- entries of callers of other numbers only ask
asked_others : (me now : Knowledge) (others : List Entry) → now.number ≡ me.number → 0 < times me.number me.names → IsOthers who_of me.names others → AllByRecursion (λ (x : Entry). is_asked x.event ≡ false → x.who ≡ now.number) others → AllByRecursion (IsOther me.number) others
asked_others me now [] same named o ask = tt
asked_others me now (x ∷ others) same named o ask =
    let here : once x.who me.number + calls who_of me.number others ≡ 0 = o me.number named in
    let other : x.who ≢ me.number = λ is. absurd (let one = once_is x.who me.number is in omega (arith, here, one)) in
    ((other, asks_or (is_asked x.event) (λ no. other (ask.0 no ∙ same))), asked_others me now others same named (λ y y_named. (let sum : once x.who y + calls who_of y others ≡ 0 = o y y_named in omega (arith, sum))) ask.1)
  where
    once_is : (a b : ℕ) → a ≡ b → once a b ≡ 1
    once_is a b is = grind (arith, nat_tests, is)

    asks_or : (b : Bool) → (b ≡ false → ⊥) → b ≡ true
    asks_or true h = refl
    asks_or false h = absurd (h refl)

-- what is kept goes on where another caller was joined in, whose entries are on top
pub server_joined : (me now : Knowledge) (lines : List Line) (kn : Knows) (s r : List Item) → now.of ≡ me.of → now.number ≡ me.number → 0 < times me.number me.names → Follows me.names me.front now.front → IsCarrying me lines kn s r → IsCarrying now lines kn s r
server_joined me now lines kn s r of number named f k asks legal =
    let g : now.of.settings ≡ me.of.settings = ap (λ (i : SharedId). i.settings) of in
    let same : now.front ≡ f.0 ++ me.front = f.1 in
    let all = all_split (λ (x : Entry). is_asked x.event ≡ false → x.who ≡ now.number) f.0 me.front (subst (λ (es : List Entry). AllByRecursion (λ (x : Entry). is_asked x.event ≡ false → x.who ≡ now.number) es) same asks.ask) in
    let legal' : Legal me.of.settings (f.0 ++ me.front) = subst (λ (t : Settings). Legal t (f.0 ++ me.front)) g (subst (Legal now.of.settings) same legal) in
    let before = k (record { named = named; ask = subst (λ (n : ℕ). AllByRecursion (λ (x : Entry). is_asked x.event ≡ false → x.who ≡ n) me.front) number all.1 }) (legal_before me.of.settings f.0 me.front legal') in
    let after = over_others me.of.settings f.0 me.front me.number lines 0 kn s r (asked_others me now f.0 number named f.2 all.0) legal' before in
    subst (λ (t : Settings). ServerCarries t now.front now.number lines 0 kn s r) (sym g)
    (subst (λ (i : ℕ). ServerCarries me.of.settings now.front i lines 0 kn s r) (sym number)
    (subst (λ (es : List Entry). ServerCarries me.of.settings es me.number lines 0 kn s r) (sym same) after))

-- ---- at the end

-- what the carrier hands back, where both ends have said that the script is over
pub server_hands : (me : Knowledge) (lines : List Line) (kn : Knows) (sent received down up : List Item) → OthersAsk me → Legal me.of.settings me.front → down ≡ sent ++ item.Mark mark.End ∷ [] → up ≡ received ++ item.Mark mark.End ∷ [] → IsCarrying me lines kn sent received
    → ServerHands me.of.settings me.front me.number lines kn (cuts sent) down up
server_hands me lines kn sent received down up asks legal is_down is_up k =
    subst (λ (l : List Item). ServerHands me.of.settings me.front me.number lines kn (cuts sent) l up) (sym is_down)
    (subst (λ (l : List Item). ServerHands me.of.settings me.front me.number lines kn (cuts sent) (sent ++ item.Mark mark.End ∷ []) l) (sym is_up)
    (hands me.of.settings me.front me.number lines kn sent received (k asks legal)))

-- at first
pub begun : (me : Knowledge) (reader : Rest) → me.front ≡ [] → reader.bytes ≡ [] → IsCarrying me [] (knows.Nothing reader) [] []
begun me reader none empty asks legal = subst (λ (es : List Entry). ServerCarries me.of.settings es me.number [] 0 (knows.Nothing reader) [] []) (sym none) (carries_none me.of.settings me.number reader empty)
