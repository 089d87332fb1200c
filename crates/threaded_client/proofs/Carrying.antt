-- What the carrier of the client keeps, by what its caller knows. Entries stand newest first.
use Rattle.std.proofs.Common.{◌≡◌, ◌<◌, ◌∙◌, ℕ, true, false, List, [], ◌∷◌, ◌++◌, Option, Some, None, refl, ap, sym, subst, append-nil}
use Rattle.std.specs.List.{AllByRecursion}
use Rattle.rs_wire.specs.declared.settings.Settings.{Settings}
use Rattle.tape.specs.Told.{entry_of}
use Rattle.tape.specs.declared.entry.Entry.{Entry}
use Rattle.tape.specs.declared.event.Event.{Event}
use Rattle.tape.specs.declared.event.Event.TheVariants as event
use Rattle.tape.specs.declared.answer.Answer.{Answer}
use Rattle.tape.specs.declared.answer.Answer.TheVariants as answer
use Rattle.session_model.specs.Joined.{is_accepted}
use Rattle.session_model.specs.Legal.{Legal}
use Rattle.conn_lock.specs.Callers.{times}
use Rattle.conn_shared.specs.Members.{Follows, Knowledge, SharedId}
use Rattle.link_model.specs.Carrying.{Between, Keeps, is_of}
use Rattle.pump.specs.Turns.{Arrives, GoesOn, IsKept, Names}
use Rattle.pump.proofs.Adding.{IsOn}
use Rattle.pump.proofs.Events.{arrives_names}
use Rattle.cable_script.specs.declared.line.Line.{Line}
use Rattle.cable_script.specs.declared.line.Line.TheVariants as line
use Rattle.ring.specs.declared.item.Mark.{Mark}
use Rattle.ring.specs.declared.item.Mark.TheVariants as mark
use Rattle.ring.specs.declared.item.Item.{Item}
use Rattle.ring.specs.declared.item.Item.TheVariants as item
use Rattle.threaded_model.specs.Threaded.{act, joins_after}
use Rattle.carriers.specs.Alone.{IsOurs, OthersAsk, linked}
use Rattle.carriers.specs.Moves.{HasGiven, HasHeard, HasLost, HasTaken, HasTold}
use Rattle.carriers.proofs.Items.{Cuts, Grows, IsPlain, cuts_at_once, cuts_now, grows_bytes, grows_mark, grows_none, grows_read}
use Rattle.carriers.proofs.Blocks.{accepted_block, asked_spares, keeps_block, ours_are}
use Rattle.carriers.proofs.Alone.{IsNone, asks_back, gained, gained_others, joined_others, moves_alone}
use Rattle.threaded_client.specs.Carrying.{ClientCarries, IsCarrying, Joins, conn_of}
use Rattle.threaded_client.proofs.Client.{client_adds, client_idle}
use Rattle.threaded_client.specs.Handing.{ClientHands}
use Rattle.threaded_client.proofs.Acting.{client_begun, client_cut, client_open, client_refused, client_tick, new_pump}
use Rattle.threaded_client.proofs.Handing.{client_hands}

-- said of the caller, of whom only the front and the note have changed
carries_as : (me me' : Knowledge) (past : List Entry) (lines : List Line) (p : Option Between) (sent received : List Item) → IsOn me me' → me'.front ≡ past → ClientCarries me.of.settings past me.number lines p sent received → ClientCarries me'.of.settings me'.front me'.number lines p sent received
carries_as me me' past lines p sent received on is k =
    let number : me'.number ≡ me.number = ap (λ (x : Knowledge). x.number) on in
    let g : me'.of.settings ≡ me.of.settings = ap (λ (x : Knowledge). x.of.settings) on in
    subst (λ (t : Settings). ClientCarries t me'.front me'.number lines p sent received) (sym g) (subst (λ (es : List Entry). ClientCarries me.of.settings es me'.number lines p sent received) (sym is)
    (subst (λ (n : ℕ). ClientCarries me.of.settings past n lines p sent received) (sym number) k))

keeps_as : (me me' : Knowledge) (past : List Entry) (given taken : List ℕ) (b : Between) → IsOn me me' → me'.front ≡ past → Keeps me'.of.settings me'.front (linked given taken) b → Keeps me.of.settings past (linked given taken) b
keeps_as me me' past given taken b on is k =
    let g : me'.of.settings ≡ me.of.settings = ap (λ (x : Knowledge). x.of.settings) on in
    subst (λ (t : Settings). Keeps t past (linked given taken) b) g (subst (λ (es : List Entry). Keeps me'.of.settings es (linked given taken) b) is k)

-- ---- bytes

-- bytes were moved on the connection that joins the ends
pub carrying_moved : (me me' : Knowledge) (lines : List Line) (b b' : Between) (P : Event → Type 0) (x y : List ℕ) (sent sent' received received' : List Item) → IsOn me me' → Grows x sent sent' → Grows y received received' → b'.conn ≡ b.conn → (b.left ≡ [] → b'.left ≡ [])
    → ((e : Event) → P e → is_of b.conn e ≡ true) → GoesOn P me me'.front → ((given taken : List ℕ) → IsKept me (linked given taken) b → IsKept me' (linked (given ++ x) (taken ++ y)) b')
    → IsCarrying me lines (Some b) sent received → IsCarrying me' lines (Some b') sent' received'
carrying_moved me me' lines b b' P x y sent sent' received received' on up down conn left names h kept k o =
    let back : OthersAsk me = asks_back me me' on h.more h.on o in
    carries_as me me' (h.more ++ me.front) lines (Some b') sent' received' on h.on
    (client_adds me.of.settings me.front h.more me.number lines (Some b) (Some b') P x y sent sent' received received' up down (ap Some conn) (gained P me me' on h o) names (λ given taken j. record {
      accepted = accepted_block h.more me.front b'.conn (subst (λ (c : ℕ). is_accepted me.front c ≡ true) (sym conn) j.accepted);
      left = left j.left;
      keeps = keeps_as me me' (h.more ++ me.front) (given ++ x) (taken ++ y) b' on h.on (kept given taken (λ alone. j.keeps) (moves_alone me' b'.conn o));
    }) (k back))

kept_same : (me : Knowledge) (given taken : List ℕ) (b : Between) → IsKept me (linked given taken) b → IsKept me (linked given (taken ++ [])) b
kept_same me given taken b k = subst (λ (l : List ℕ). IsKept me (linked given l) b) (sym (append-nil taken)) k

kept_also : (me : Knowledge) (given taken : List ℕ) (b : Between) → IsKept me (linked given taken) b → IsKept me (linked (given ++ []) taken) b
kept_also me given taken b k = subst (λ (l : List ℕ). IsKept me (linked l taken) b) (sym (append-nil given)) k

-- bytes were drawn and pushed
pub carrying_given : (me me' : Knowledge) (lines : List Line) (b b' : Between) (sent sent' received : List Item) → IsOn me me' → HasGiven me me' b b' sent sent' → b'.left ≡ [] → IsCarrying me lines (Some b) sent received → IsCarrying me' lines (Some b') sent' received
carrying_given me me' lines b b' sent sent' received on h left k =
    carrying_moved me me' lines b b' (Names b.conn) h.piece [] sent sent' received received on (subst (λ (l : List Item). Grows h.piece sent l) (sym h.sent) (grows_bytes sent h.piece)) (grows_none received) h.conn (λ was. left)
    (λ e names. names) h.goes (λ given taken kept. kept_same me' (given ++ h.piece) taken b' (h.kept (linked given taken) kept)) k

-- bytes were read up to a mark, and brought
pub carrying_taken : (me me' : Knowledge) (lines : List Line) (b b' : Between) (m : Mark) (sent received received' : List Item) → IsOn me me' → HasTaken me me' b b' m received received' → IsPlain m → IsCarrying me lines (Some b) sent received → IsCarrying me' lines (Some b') sent received'
carrying_taken me me' lines b b' m sent received received' on h plain k =
    carrying_moved me me' lines b b' (Arrives b.conn) [] h.bytes sent sent received received' on (grows_none sent) (subst (λ (l : List Item). Grows h.bytes received l) (sym h.read) (grows_read received h.bytes m plain)) h.conn (λ was. h.left ∙ was)
    (arrives_names b.conn) h.goes (λ given taken kept. kept_also me' given (taken ++ h.bytes) b' (h.kept (linked given taken) kept)) k

-- what stood in front was brought
pub carrying_heard : (me me' : Knowledge) (lines : List Line) (b b' : Between) (sent received : List Item) → IsOn me me' → HasHeard me me' b b' → IsCarrying me lines (Some b) sent received → IsCarrying me' lines (Some b') sent received
carrying_heard me me' lines b b' sent received on h k =
    carrying_moved me me' lines b b' (Arrives b.conn) [] [] sent sent received received on (grows_none sent) (grows_none received) h.conn (λ was. h.left ∙ was)
    (arrives_names b.conn) h.goes (λ given taken kept. kept_also me' given (taken ++ []) b' (kept_same me' given taken b' (h.kept (linked given taken) kept))) k

joins_same : (g : Settings) (past : List Entry) (p : Option Between) (given taken : List ℕ) → Joins g past p given taken → Joins g past p (given ++ []) (taken ++ [])
joins_same g past p given taken j = subst (λ (l : List ℕ). Joins g past p l (taken ++ [])) (sym (append-nil given)) (subst (λ (l : List ℕ). Joins g past p given l) (sym (append-nil taken)) j)

-- a mark was pushed that cuts and ends nothing
pub carrying_marked : (me : Knowledge) (lines : List Line) (p : Option Between) (m : Mark) (sent sent' received : List Item) → sent' ≡ sent ++ item.Mark m ∷ [] → IsPlain m → IsCarrying me lines p sent received → IsCarrying me lines p sent' received
carrying_marked me lines p m sent sent' received is plain k o =
    client_adds me.of.settings me.front [] me.number lines p p IsNone [] [] sent sent' received received (subst (λ (l : List Item). Grows [] sent l) (sym is) (grows_mark sent m plain)) (grows_none received) refl tt (λ e none. absurd none)
    (λ given taken j. joins_same me.of.settings me.front p given taken j) (k o)

-- a mark was read that cuts and ends nothing, and no byte
pub carrying_skipped : (me : Knowledge) (lines : List Line) (p : Option Between) (m : Mark) (sent received received' : List Item) → received' ≡ received ++ item.Mark m ∷ [] → IsPlain m → IsCarrying me lines p sent received → IsCarrying me lines p sent received'
carrying_skipped me lines p m sent received received' is plain k o =
    client_adds me.of.settings me.front [] me.number lines p p IsNone [] [] sent sent received received' (grows_none sent) (subst (λ (l : List Item). Grows [] received l) (sym is) (grows_mark received m plain)) refl tt (λ e none. absurd none)
    (λ given taken j. joins_same me.of.settings me.front p given taken j) (k o)

-- a line does nothing
pub carrying_idle : (me : Knowledge) (lines : List Line) (p : Option Between) (l : Line) (sent received : List Item) → act (conn_of p) l ≡ None → IsCarrying me lines p sent received → IsCarrying me (lines ++ l ∷ []) p sent received
carrying_idle me lines p l sent received none k o = client_idle me.of.settings me.front me.number lines p sent received l none (k o)

-- ---- entries

joins_block : (g : Settings) (more past : List Entry) (n : ℕ) (p : Option Between) (given taken : List ℕ) → AllByRecursion (IsOurs IsNone n) more → Joins g past p given taken → Joins g (more ++ past) p given taken
joins_block g more past n None given taken h j = j
joins_block g more past n (Some b) given taken h j = record {
  accepted = accepted_block more past b.conn j.accepted;
  left = j.left;
  keeps = keeps_block g more past (linked given taken) b (ours_are IsNone (λ e. is_of b.conn e ≡ false) n (λ e none. absurd none) (asked_spares b.conn) more h) j.keeps;
}

-- before the entry of a call, after those of the others
before_told : (g : Settings) (me me' : Knowledge) (e : Event) (a : Answer) (lines : List Line) (p : Option Between) (sent received : List Item) → IsOn me me' → (h : HasTold g me me' e a) → OthersAsk me' → IsCarrying me lines p sent received → ClientCarries me.of.settings h.before me.number lines p sent received
before_told g me me' e a lines p sent received on h o k =
    let others = h.follows.0 in
    let mid : Knowledge = record me { front = h.before; note = None } in
    let here : OthersAsk mid = asks_back mid me' on (entry_of me.number e a ∷ []) h.is o in
    let back : OthersAsk me = asks_back me mid refl others h.follows.1 here in
    let ours : AllByRecursion (IsOurs IsNone me.number) others = gained_others me mid refl h.follows here in
    subst (λ (es : List Entry). ClientCarries me.of.settings es me.number lines p sent received) (sym h.follows.1)
    (client_adds me.of.settings me.front others me.number lines p p IsNone [] [] sent sent received received (grows_none sent) (grows_none received) refl ours (λ v none. absurd none)
    (λ given taken j. joins_same me.of.settings (others ++ me.front) p given taken (joins_block me.of.settings others me.front me.number p given taken ours j)) (k back))

-- a moment was told
pub carrying_ticked : (g : Settings) (me me' : Knowledge) (a : Answer) (lines : List Line) (p : Option Between) (now : ℕ) (sent received : List Item) → IsOn me me' → HasTold g me me' (event.Tick now) a → IsCarrying me lines p sent received → IsCarrying me' (lines ++ line.Tick now ∷ []) p sent received
carrying_ticked g me me' a lines p now sent received on h k o =
    let x : Entry = entry_of me.number (event.Tick now) a in
    carries_as me me' (x ∷ h.before) (lines ++ line.Tick now ∷ []) p sent received on h.is (client_tick me.of.settings h.before me.number lines p sent received x now refl refl (before_told g me me' (event.Tick now) a lines p sent received on h o k))

-- an opening was accepted
pub carrying_opened : (g : Settings) (me me' : Knowledge) (c : ℕ) (lines : List Line) (sent received : List Item) → IsOn me me' → HasTold g me me' (event.Open None false) (answer.Opened c) → Legal me'.of.settings me'.front → IsCarrying me lines None sent received → IsCarrying me' (lines ++ line.Open ∷ []) (Some (new_pump me.of.settings c)) sent received
carrying_opened g me me' c lines sent received on h legal k o =
    let x : Entry = entry_of me.number (event.Open None false) (answer.Opened c) in
    let same : me'.of.settings ≡ me.of.settings = ap (λ (x : Knowledge). x.of.settings) on in
    let right : Legal me.of.settings (x ∷ h.before) = subst (λ (t : Settings). Legal t (x ∷ h.before)) same (subst (λ (es : List Entry). Legal me'.of.settings es) h.is legal) in
    carries_as me me' (x ∷ h.before) (lines ++ line.Open ∷ []) (Some (new_pump me.of.settings c)) sent received on h.is
    (client_open me.of.settings h.before me.number lines sent received x c right refl refl refl (before_told g me me' (event.Open None false) (answer.Opened c) lines None sent received on h o k))

-- an opening was refused
pub carrying_refused : (g : Settings) (me me' : Knowledge) (a : Answer) (lines : List Line) (sent received : List Item) → IsOn me me' → HasTold g me me' (event.Open None false) a → joins_after None line.Open a ≡ None → IsCarrying me lines None sent received → IsCarrying me' (lines ++ line.Open ∷ []) None sent received
carrying_refused g me me' a lines sent received on h none k o =
    let x : Entry = entry_of me.number (event.Open None false) a in
    carries_as me me' (x ∷ h.before) (lines ++ line.Open ∷ []) None sent received on h.is
    (client_refused me.of.settings h.before me.number lines sent received x refl refl none (before_told g me me' (event.Open None false) a lines None sent received on h o k))

-- a connection was cut, and what was read up to the server's cut was lost
pub carrying_cut : (g : Settings) (me me' : Knowledge) (a : Answer) (lines : List Line) (b b' : Between) (sent sent' received received' : List Item) → IsOn me me' → HasTold g me me' (event.Cut b.conn) a → sent' ≡ sent ++ item.Mark mark.Cut ∷ [] → HasLost b b' mark.Cut received received'
    → IsCarrying me lines (Some b) sent received → IsCarrying me' (lines ++ line.Cut ∷ []) None sent' received'
carrying_cut g me me' a lines b b' sent sent' received received' on h is lost k o =
    let x : Entry = entry_of me.number (event.Cut b.conn) a in
    let before : ClientCarries me.of.settings h.before me.number lines (Some b) sent received = before_told g me me' (event.Cut b.conn) a lines (Some b) sent received on h o k in
    let up : Cuts [] sent sent' = subst (λ (l : List Item). Cuts [] sent l) (sym is) (cuts_at_once sent) in
    let down : Cuts lost.bytes received received' = subst (λ (l : List Item). Cuts lost.bytes received l) (sym lost.read) (cuts_now received lost.bytes) in
    carries_as me me' (x ∷ h.before) (lines ++ line.Cut ∷ []) None sent' received' on h.is
    (client_cut me.of.settings h.before me.number lines b b' [] lost.bytes sent sent' received received' x refl refl up down lost.conn (lost.left ∙ before.here.left) (λ s t keeps.
    let at : Knowledge = record me' { front = x ∷ h.before } in
    let there : OthersAsk at = subst (λ (es : List Entry). OthersAsk (record me' { front = es })) h.is o in
    let there_on : IsOn me at = on_at me me' (x ∷ h.before) on in
    let kept : IsKept at (linked s t) b = λ alone. subst (λ (w : Settings). Keeps w (x ∷ h.before) (linked s t) b) (sym (ap (λ (y : Knowledge). y.of.settings) there_on)) keeps in
    subst (λ (l : List ℕ). Keeps me.of.settings (x ∷ h.before) (linked l (t ++ lost.bytes)) b') (sym (append-nil s))
    (keeps_as me at (x ∷ h.before) s (t ++ lost.bytes) b' there_on refl (lost.kept at (linked s t) kept (moves_alone at b'.conn there)))) before)
  where
    on_at : (me me' : Knowledge) (es : List Entry) → IsOn me me' → IsOn me (record me' { front = es })
    on_at me me' es on = ap (λ (y : Knowledge). record y { front = es }) on

-- others were joined into the caller, whose entries follow
pub client_joined : (me me' : Knowledge) (lines : List Line) (p : Option Between) (sent received : List Item) → me'.of ≡ me.of → me'.number ≡ me.number → 0 < times me.number me.names → Follows me.names me.front me'.front → IsCarrying me lines p sent received → IsCarrying me' lines p sent received
client_joined me me' lines p sent received of number named f k o =
    let both = joined_others me me' number named f o in
    let others = f.0 in
    let g : me'.of.settings ≡ me.of.settings = ap (λ (x : SharedId). x.settings) of in
    subst (λ (t : Settings). ClientCarries t me'.front me'.number lines p sent received) (sym g) (subst (λ (n : ℕ). ClientCarries me.of.settings me'.front n lines p sent received) (sym number)
    (subst (λ (es : List Entry). ClientCarries me.of.settings es me.number lines p sent received) (sym f.1)
    (client_adds me.of.settings me.front others me.number lines p p IsNone [] [] sent sent received received (grows_none sent) (grows_none received) refl both.1 (λ v none. absurd none)
    (λ given taken j. joins_same me.of.settings (others ++ me.front) p given taken (joins_block me.of.settings others me.front me.number p given taken both.1 j)) (k both.0))))

-- it begins
pub carrying_begun : (me : Knowledge) (sent received : List Item) → me.front ≡ [] → sent ≡ [] → received ≡ [] → IsCarrying me [] None sent received
carrying_begun me sent received front up down o = subst (λ (es : List Entry). ClientCarries me.of.settings es me.number [] None sent received) (sym front) (subst (λ (l : List Item). ClientCarries me.of.settings [] me.number [] None l received) (sym up)
    (subst (λ (l : List Item). ClientCarries me.of.settings [] me.number [] None [] l) (sym down) (client_begun me.of.settings me.number)))

-- what it hands back, once the end was pushed and read
pub carrying_hands : (me : Knowledge) (lines : List Line) (p : Option Between) (sent received up down : List Item) → OthersAsk me → up ≡ sent ++ item.Mark mark.End ∷ [] → down ≡ received ++ item.Mark mark.End ∷ [] → IsCarrying me lines p sent received
    → ClientHands me.of.settings me.front me.number lines p up down
carrying_hands me lines p sent received up down o ups downs k = subst (λ (l : List Item). ClientHands me.of.settings me.front me.number lines p l down) (sym ups)
    (subst (λ (l : List Item). ClientHands me.of.settings me.front me.number lines p (sent ++ item.Mark mark.End ∷ []) l) (sym downs) (client_hands me.of.settings me.front me.number lines p sent received (k o)))
