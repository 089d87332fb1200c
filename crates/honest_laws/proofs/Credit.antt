-- An item that comes finds credit.
use Rattle.std.proofs.Common.{◌≡◌, ◌≤◌, ◌<◌, ◌%◌, ◌+◌, ◌-◌, ◌==◌, ◌&&◌, ◌||◌, ℕ, Bool, true, false, not, cond, List, [], ◌++◌, Option, Some, None, is_some, refl, ap, sym, subst, ◌∙◌, append-nil, arith}
use Rattle.std.proofs.lemmas.Bool.Decides.{nat_tests}
use Rattle.rs_wire.specs.declared.words.Kind.{Kind}
use Rattle.rs_wire.specs.declared.words.Kind.TheVariants.{Response, Fnf, Stream as Streamed, Channel}
use Rattle.rs_wire.specs.declared.words.Role.{Role}
use Rattle.rs_wire.specs.declared.words.Role.TheVariants.{Requester, Responder}
use Rattle.rs_wire.specs.declared.words.Side.{Side}
use Rattle.rs_wire.specs.declared.fault.Refusal.{Refusal}
use Rattle.rs_wire.specs.declared.fault.Refusal.TheVariants as refusal
use Rattle.rs_wire.specs.declared.message.Message.{Message}
use Rattle.credit.specs.declared.Credit.{Credit}
use Rattle.rs_wire.specs.declared.settings.Settings.{Settings}
use Rattle.rs_frame.specs.declared.frame.Frame.{Frame}
use Rattle.rs_frame.specs.declared.frame.Frame.TheVariants as frame
use Rattle.tape.specs.declared.entry.Entry.{Entry}
use Rattle.fragment.specs.Joining.{with_part}
use Rattle.stream_model.specs.declared.stream.Stream.{Stream}
use Rattle.stream_model.specs.Turns.{carries, inbound, is_role, needs_credit, other}
use Rattle.stream_model.specs.Streams.{highest, one_if, turn}
use Rattle.stream_model.specs.Kept.{kept, stream_of}
use Rattle.stream_model.specs.Known.{credit_at, is_own_parity, known as known_after, other_side, over_at}
use Rattle.stream_model.specs.Refused.{credit_refused, on_way, outbound_credit, outbound_over}
use Rattle.stream_model.specs.Arriving.{over_credit, over_credit_on}
use Rattle.stream_model.proofs.Keeping.{live_turn}
use Rattle.session_model.specs.Lists.{IsPrefix}
use Rattle.session_model.specs.Streams.{known, unfinished, words}
use Rattle.session_model.specs.Frames.{handled, made}
use Rattle.session_model.specs.Legal.{Legal}
use Rattle.session_laws.proofs.Prefixes.{prefix_trans}
use Rattle.session_laws.specs.Streams.{IsLawful}
use Rattle.honest_laws.proofs.Arrives.{Arrives}
use Rattle.honest_laws.proofs.Counts.{Counts, counts, counts_more}
use Rattle.honest_laws.proofs.Entries.{keeps, other_parity}
use Rattle.honest_laws.proofs.Made.{MadeAt, before_it, handled_before, lawful_at, made_at, means_at}
use Rattle.honest_laws.proofs.Maker.{ByEnd, ByItem, ByRequest, MadeSo, made_so}
use Rattle.honest_laws.proofs.Marks.{bare_at}
use Rattle.honest_laws.proofs.NextId.{peers_own}
use Rattle.honest_laws.proofs.Keeps.{Keeps}
use Rattle.honest_laws.proofs.Roles.{late, own_parts}
use Rattle.honest_laws.proofs.Tally.{Tally}
use Rattle.honest_laws.proofs.Unfinished.{made_next, nexts, unfinished_next}

-- ---- an item that finds none

record Breaks (f : Stream) (next : Bool) : Type 0 where
  item : next ≡ true
  carried : carries f.kind f.whole (inbound f.role) (other f.role) ≡ true
  needs : needs_credit f.kind ≡ true
  spent : (credit_at f (inbound f.role)).granted ≤ (credit_at f (inbound f.role)).used

both : (a b : Bool) → (a && b) ≡ true → (a ≡ true) × (b ≡ true)
both true b is = (refl, is)
both false b is = absurd (cc)

breaks : (f : Stream) (next : Bool)
    → ((next && carries f.kind f.whole (inbound f.role) (other f.role)) && (not (over_at f (inbound f.role)) && (needs_credit f.kind && ((credit_at f (inbound f.role)).granted - (credit_at f (inbound f.role)).used == 0)))) ≡ true
    → Breaks f next
breaks f next is =
    let a = both (next && carries f.kind f.whole (inbound f.role) (other f.role)) _ is in
    let b = both next (carries f.kind f.whole (inbound f.role) (other f.role)) a.0 in
    let c = both (not (over_at f (inbound f.role))) _ a.1 in
    let d = both (needs_credit f.kind) ((credit_at f (inbound f.role)).granted - (credit_at f (inbound f.role)).used == 0) c.1 in
    let none_left = d.1 in
    record { item = b.0; carried = b.1; needs = d.0; spent = grind (arith, nat_tests) }

unless_true : (b : Bool) (n : ℕ) → (b ≡ true → ⊥) → cond b (Some n) None ≡ None
unless_true true n never = absurd (never refl)
unless_true false n never = refl

not_over_credit : (f : Stream) (next : Bool) → (Breaks f next → ⊥) → over_credit f next ≡ None
not_over_credit f next never = unless_true _ _ (λ is. never (breaks f next is))

-- ---- the parts of the two ends

responds : (role : Role) → is_role role Requester ≡ false → role ≡ Responder
responds Requester is = absurd (cc)
responds Responder is = refl

requests : (role : Role) → is_role role Requester ≡ true → role ≡ Requester
requests Requester is = refl
requests Responder is = absurd (cc)

differ : (mine peers : Role) → is_role peers Requester ≡ not (is_role mine Requester) → peers ≡ other mine
differ Requester Requester is = absurd (cc)
differ Requester Responder is = refl
differ Responder Requester is = refl
differ Responder Responder is = absurd (cc)

requested : (mine : Role) → Requester ≡ other mine → mine ≡ Responder
requested Requester is = absurd (cc)
requested Responder is = refl

responded : (mine : Role) → other mine ≡ Responder → mine ≡ Requester
responded Requester is = refl
responded Responder is = absurd (cc)

-- the part of the peer in a stream is the other one
parts_differ : (side : Side) (s : ℕ) (mine peers : Role) → is_role mine Requester ≡ is_own_parity side s → is_role peers Requester ≡ is_own_parity (other_side side) s → peers ≡ other mine
parts_differ side s mine peers m p =
    let apart : is_role peers Requester ≡ not (is_role mine Requester) = p ∙ (other_parity side s ∙ ap not (sym m)) in
    differ mine peers apart

-- ---- an item of a channel's requester stands after its own message

whole_before : (kind : Kind) (whole : Bool) → carries kind whole (inbound Responder) (other Responder) ≡ true → whole ≡ true
whole_before Channel whole is = is
whole_before Streamed whole is = absurd (cc)
whole_before Response whole is = absurd (cc)
whole_before Fnf whole is = absurd (cc)

-- ---- the end that sends

open_way : (over : Bool) → on_way (Some over) ≡ None → over ≡ false
open_way true none = absurd (cc)
open_way false none = refl

-- who may send has not ended its way
sends_open : (kind : Kind) (role : Role) (f : Stream) → on_way (outbound_over role kind f) ≡ None → over_at f (inbound (other role)) ≡ false
sends_open Channel Requester f none = open_way f.request_over none
sends_open Channel Responder f none = open_way f.reply_over none
sends_open Streamed Requester f none = absurd (cc)
sends_open Streamed Responder f none = open_way f.reply_over none
sends_open Response Requester f none = absurd (cc)
sends_open Response Responder f none = open_way f.reply_over none
sends_open Fnf Requester f none = absurd (cc)
sends_open Fnf Responder f none = absurd (cc)

-- a requester that may send has a channel
sends_channel : (kind : Kind) (f : Stream) → on_way (outbound_over Requester kind f) ≡ None → needs_credit kind ≡ true
sends_channel Channel f none = refl
sends_channel Streamed f none = absurd (cc)
sends_channel Response f none = absurd (cc)
sends_channel Fnf f none = absurd (cc)

-- and has credit left
some_left : (needs : Bool) (granted used : ℕ) (why : Refusal) → needs ≡ true → cond (needs && (granted - used == 0)) (Some why) None ≡ None → used < granted
some_left true granted used why is none =
    elim (granted - used == 0) as (λ v. (granted - used == 0) ≡ v → cond v (Some why) None ≡ None → used < granted) [ true ↦ λ zero none. absurd (cc) | false ↦ λ more none. grind (arith, nat_tests) ] refl none
some_left false granted used why is none = absurd (cc)

same_credit : (role : Role) (f : Stream) → outbound_credit role f ≡ credit_at f (inbound (other role))
same_credit Requester f = refl
same_credit Responder f = refl

sends_credit : (f : Stream) → needs_credit f.kind ≡ true → credit_refused (Some f) ≡ None → (credit_at f (inbound (other f.role))).used < (credit_at f (inbound (other f.role))).granted
sends_credit f needs none =
    subst (λ (c : Credit). c.used < c.granted) (same_credit f.role f)
    (some_left (needs_credit f.kind) (outbound_credit f.role f).granted (outbound_credit f.role f).used (refusal.NoCredit (outbound_credit f.role f).granted) needs none)

-- ---- sums of prefixes

record Fewer (a b : Counts) : Type 0 where
  given : a.given ≤ b.given
  without : a.without ≤ b.without
  parts : a.parts ≤ b.parts

fewer : (s : ℕ) (xs ys : List Frame) → IsPrefix xs ys → Fewer (counts s xs) (counts s ys)
fewer s xs ys p =
    let sum = ap (counts s) (sym p.1) ∙ counts_more s xs p.0 in
    let given = ap (λ (c : Counts). c.given) sum in
    let without = ap (λ (c : Counts). c.without) sum in
    let parts = ap (λ (c : Counts). c.parts) sum in
    record { given = omega (arith, given); without = omega (arith, without); parts = omega (arith, parts) }

-- ---- an honest end's item

-- the stream s at the end that hears: what it made and handled in sums, what is kept of it, and whether its request came in parts
record Hears (side : Side) (s : ℕ) (made handled : Counts) (f : Stream) (parts next : Bool) : Type 0 where
  tally : Tally side s made handled f parts
  breaks : Breaks f next

late_one : (role : Role) (parts whole : Bool) → role ≡ Responder → whole ≡ true → 1 ≤ one_if parts → 1 ≤ late role parts whole
late_one Requester parts whole is w some = absurd (cc)
late_one Responder true true is w some = omega arith
late_one Responder true false is w some = absurd (cc)
late_one Responder false whole is w some = absurd (omega arith)

same_late : (role : Role) (parts whole : Bool) → role ≡ Responder → whole ≡ true → one_if parts ≤ late role parts whole
same_late Requester parts whole is w = absurd (cc)
same_late Responder true true is w = omega arith
same_late Responder true false is w = absurd (cc)
same_late Responder false whole is w = omega arith

-- the sender's own request in parts was no item at the end that hears either
parts_late : (side : Side) (s : ℕ) (M H own : Counts) (f : Stream) (parts next : Bool) (peers : Role) → Hears side s M H f parts next → peers ≡ other f.role → own.parts ≤ H.parts → own_parts peers own.parts ≤ late f.role parts f.whole
parts_late side s M H own f parts next Responder h differs le = omega arith
parts_late side s M H own f parts next Requester h differs le =
    let role : f.role ≡ Responder = requested f.role differs in
    let whole : f.whole ≡ true = whole_before f.kind f.whole (subst (λ (r : Role). carries f.kind f.whole (inbound r) (other r) ≡ true) role h.breaks.carried) in
    let most = h.tally.parts_in role in
    let one = same_late f.role parts f.whole role whole in
    omega (arith, le, most, one)

-- the kind of a stream whose requester hears is that of its request
without_both : (side : Side) (s : ℕ) (M H own heard : Counts) (f k : Stream) (parts parts' next : Bool) → Hears side s M H f parts next → Tally (other_side side) s own heard k parts' → Fewer heard M → k.role ≡ other f.role
    → k.role ≡ Responder → one_if (not (needs_credit k.kind)) ≤ 0
without_both side s M H own heard f k parts parts' next h t fewer_heard differs responder =
    let role : f.role ≡ Requester = responded f.role (sym differs ∙ responder) in
    let mine = h.tally.without_own role in
    let theirs = t.without_peer responder in
    let le = fewer_heard.without in
    let zero : one_if (not (needs_credit f.kind)) ≡ 0 = rw h.breaks.needs refl in
    omega (arith, mine, theirs, le, zero)

no_without : (needs : Bool) → one_if (not needs) ≤ 0 → needs ≡ true
no_without true none = refl
no_without false none = absurd (omega arith)

needs_by : (role : Role) (kind : Kind) (k : Stream) → on_way (outbound_over role kind k) ≡ None → (role ≡ Responder → one_if (not (needs_credit kind)) ≤ 0) → needs_credit kind ≡ true
needs_by Requester kind k sends none = sends_channel kind k sends
needs_by Responder kind k sends none = no_without (needs_credit kind) (none refl)

-- what made the request's own message whole is no item
by_request : (side : Side) (s : ℕ) (M H own front : Counts) (f : Stream) (parts next : Bool) → Hears side s M H f parts next → is_own_parity side s ≡ false → H.ended ≡ own.ended + front.ended → H.parts ≡ own.parts + front.parts
    → 1 ≤ front.parts → front.ended ≡ 0 → own.ended ≡ 0 → ⊥
by_request side s M H own front f parts next h peers ended asked some none_front none_own =
    let role = responds f.role (h.tally.part ∙ peers) in
    let whole : f.whole ≡ true = whole_before f.kind f.whole (subst (λ (r : Role). carries f.kind f.whole (inbound r) (other r) ≡ true) role h.breaks.carried) in
    let most = h.tally.parts_in role in
    let used = h.tally.used_in h.breaks.needs in
    let one = late_one f.role parts f.whole role whole (omega (arith, most, asked, some)) in
    absurd (omega (arith, used, one, ended, none_front, none_own))

-- an item finds credit where it was made with credit
by_item : (side : Side) (s : ℕ) (M H own heard front : Counts) (f k : Stream) (parts parts' next : Bool) → Hears side s M H f parts next → Tally (other_side side) s own heard k parts' → Fewer heard M → Fewer own H
    → on_way (outbound_over k.role k.kind k) ≡ None → credit_refused (Some k) ≡ None → H.ended ≡ own.ended + front.ended → front.ended ≡ 0 → ⊥
by_item side s M H own heard front f k parts parts' next h t fewer_heard fewer_own sends credit ended none_front =
    let differs = parts_differ side s f.role k.role h.tally.part t.part in
    let needs = needs_by k.role k.kind k sends (without_both side s M H own heard f k parts parts' next h t fewer_heard differs) in
    let still = sends_open k.kind k.role k sends in
    let left = sends_credit k needs credit in
    let used_in = h.tally.used_in h.breaks.needs in
    let granted_in = h.tally.granted_in h.breaks.needs in
    let used_out = t.used_out needs still in
    let granted_out = t.granted_out needs in
    let given = fewer_heard.given in
    let spent = h.breaks.spent in
    let own_late = parts_late side s M H own f parts next k.role h differs fewer_own.parts in
    absurd (omega (arith, left, used_in, granted_in, used_out, granted_out, given, spent, own_late, ended, none_front))

-- ---- the two ends

-- a stream of which something is kept, against the sums
record KeptSo (g : Settings) (past : List Entry) (s : ℕ) (f : Stream) : Type 0 where
  parts : Bool
  tally : Tally g.side s (counts s (made g past)) (counts s (handled past)) f parts

kept_so : (g : Settings) (past : List Entry) (s : ℕ) (f : Stream) → Legal g past → kept (turn g.max_streams (words g past) s) ≡ Some f → KeptSo g past s f
kept_so g past s f legal is =
    let M = counts s (made g past) in
    let H = counts s (handled past) in
    let l = live_turn (turn g.max_streams (words g past) s) f is in
    let t : Tally g.side s M H (stream_of l.0.opening l.0.words) (not (is_some l.0.opening.whole)) =
    subst (Keeps g.side s M H (highest (s % 2) (words g past))) l.1 (keeps g past s legal) in
    record { parts = not (is_some l.0.opening.whole); tally = subst (λ (i : Stream). Tally g.side s M H i (not (is_some l.0.opening.whole))) l.3 t }

-- no message of an honest end's has N that it doesn't end with
no_next : (g h : Settings) (before earlier : List Entry) (front : List Frame) (s : ℕ) → Legal h earlier → handled before ≡ made h earlier ++ front → front ≡ [] → (unfinished g before s).next ≡ true → ⊥
no_next g h before earlier front s legal is none had =
    let all : handled before ≡ made h earlier = is ∙ (ap (λ l. made h earlier ++ l) none ∙ append-nil (made h earlier)) in
    let some = unfinished_next g before s had in
    let never : nexts s false (handled before) ≡ false = ap (nexts s false) all ∙ made_next h earlier s legal in
    cc

or_next : (had next : Bool) → next ≡ false → (had || next) ≡ true → had ≡ true
or_next true next is some = refl
or_next false true is some = absurd (cc)
or_next false false is some = absurd (cc)

credit_by : (g h : Settings) (before peer : List Entry) (s : ℕ) (c n : Bool) (m : Message) (f : Stream) → Arrives g h before peer (frame.Payload s false c n m) → kept (turn g.max_streams (words g before) s) ≡ Some f
    → Breaks f (with_part (unfinished g before s) m c n).next → (at : MadeAt h peer (handled before) (frame.Payload s false c n m)) → IsLawful h at.earlier → MadeSo h at.earlier s n at.front → ⊥
credit_by g h before peer s c n m f a is b at lawful (ByRequest own above some none_front) =
    let k = kept_so g before s f a.lawful.legal is in
    let sum = ap (counts s) at.before_is ∙ counts_more s (made h at.earlier) at.front in
    let theirs : is_own_parity (other_side g.side) s ≡ true = subst (λ (side : Side). is_own_parity side s ≡ true) a.sides own in
    let bare = bare_at h.side h.max_streams s (counts s (made h at.earlier)) (counts s (handled at.earlier)) (words h at.earlier) above (keeps h at.earlier s lawful.legal) in
    by_request g.side s (counts s (made g before)) (counts s (handled before)) (counts s (made h at.earlier)) (counts s at.front) f k.parts _ (record { tally = k.tally; breaks = b }) (peers_own g.side s theirs)
    (ap (λ (i : Counts). i.ended) sum) (ap (λ (i : Counts). i.parts) sum) some none_front bare.ended
credit_by g h before peer s c n m f a is b at lawful (ByItem k kept_there sends credit none_front) =
    let mine = kept_so g before s f a.lawful.legal is in
    let there = kept_so h at.earlier s k lawful.legal kept_there in
    let sum = ap (counts s) at.before_is ∙ counts_more s (made h at.earlier) at.front in
    let heard = prefix_trans (handled at.earlier) (handled peer) (made g before) (handled_before at.newer at.x at.earlier peer at.is) a.heard in
    let own : IsPrefix (made h at.earlier) (handled before) = (at.front, sym at.before_is) in
    by_item g.side s (counts s (made g before)) (counts s (handled before)) (counts s (made h at.earlier)) (counts s (handled at.earlier)) (counts s at.front) f k mine.parts there.parts _
    (record { tally = mine.tally; breaks = b }) (subst (λ (side : Side). Tally side s (counts s (made h at.earlier)) (counts s (handled at.earlier)) k there.parts) a.sides there.tally)
    (fewer s (handled at.earlier) (made g before) heard) (fewer s (made h at.earlier) (handled before) own) sends credit (ap (λ (i : Counts). i.ended) sum) none_front
credit_by g h before peer s c n m f a is b at lawful (ByEnd no_item none_front) =
    no_next g h before at.earlier at.front s lawful.legal at.before_is none_front (or_next (unfinished g before s).next n no_item b.item)

credit_kept : (g h : Settings) (before peer : List Entry) (s : ℕ) (c n : Bool) (m : Message) (o : Option Stream) → Arrives g h before peer (frame.Payload s false c n m) → kept (turn g.max_streams (words g before) s) ≡ o
    → over_credit_on o (with_part (unfinished g before s) m c n).next ≡ None
credit_kept g h before peer s c n m None a is = refl
credit_kept g h before peer s c n m (Some f) a is =
    not_over_credit f (with_part (unfinished g before s) m c n).next (λ b.
    let at = made_at h peer (handled before) (frame.Payload s false c n m) a.next in
    let lawful = lawful_at h at.newer at.x at.earlier peer at.is a.peer_lawful in
    let earlier = before_it h at.x at.earlier lawful in
    credit_by g h before peer s c n m f a is b at earlier
    (made_so h at.earlier s at.x.answer at.x.event at.front at.back c n m a.peer_checked (means_at h at.x at.earlier lawful) at.among))

pub finds_credit : (g h : Settings) (before peer : List Entry) (s : ℕ) (c n : Bool) (m : Message) → Arrives g h before peer (frame.Payload s false c n m)
    → over_credit_on ((known g before).kept s) (with_part (unfinished g before s) m c n).next ≡ None
unfolding known_after
finds_credit g h before peer s c n m a = credit_kept g h before peer s c n m (kept (turn g.max_streams (words g before) s)) a refl
