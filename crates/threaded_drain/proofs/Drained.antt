-- Where nothing is left to cross, what the carriers hand back is a script that threads played. Entries stand newest first.
use Rattle.std.proofs.lemmas.Bool.Decides.{nat_tests}
use Rattle.std.proofs.Common.{◌≡◌, ◌≢◌, ◌<◌, ◌≤◌, ◌^◌, ◌⊎◌, inl, inr, ◌∙◌, ℕ, Bool, true, false, List, [], ◌∷◌, ◌++◌, length, drop, take, Option, Some, None, IfSome, is_some, refl, ap, sym, subst, arith, append-nil}
use Rattle.std.proofs.lemmas.List.{drop_at, take_all}
use Rattle.std.proofs.lemmas.List.Concat.{flat_map-cons}
use Rattle.rs_wire.specs.declared.settings.Settings.{Settings}
use Rattle.rs_wire.specs.declared.words.Side.TheVariants.{Client, Server}
use Rattle.rs_frame.specs.declared.frame.Frame.{Frame}
use Rattle.rs_frame.specs.Spelling.{canonical}
use Rattle.rs_frame.specs.Framed.{framed_all, framed_frame}
use Rattle.rs_chunk.specs.Stream.{IsTooLong, IsWhole, first_length}
use Rattle.rs_chunk.proofs.Lengths.{length-canonical}
use Rattle.tape.specs.declared.entry.Entry.{Entry}
use Rattle.session_model.specs.Lists.{IsPrefix}
use Rattle.session_model.specs.Life.{closed, is_live, live}
use Rattle.session_model.specs.Frames.{came, first_bad, queued}
use Rattle.session_model.specs.Joined.{refused}
use Rattle.session_model.proofs.Queue.{framed_all-append}
use Rattle.session_laws.specs.Ends.{AreEnds}
use Rattle.session_laws.proofs.Framing.{AreSpellable, frames_given}
use Rattle.session_laws.proofs.Refused.{refused_spelled}
use Rattle.session_laws.proofs.Spelled.{came_spelled}
use Rattle.link_model.specs.Carrying.{Between, Keeps}
use Rattle.link_model.specs.Reading.{HasRead, IsPart}
use Rattle.pump.specs.Turns.{IsEmptied}
use Rattle.cable_script.specs.declared.line.Line.{Line}
use Rattle.cable_script.specs.declared.line.Line.TheVariants as line
use Rattle.ring.specs.declared.item.Item.{Item}
use Rattle.ring.specs.Parts.{cuts, part}
use Rattle.threaded_model.specs.Handed.{IsDone, IsReadOut, IsSettled}
use Rattle.threaded_model.specs.Threaded.{AreCalls, Threaded, calls_of}
use Rattle.threaded_model.proofs.Ending.{threaded_by}
use Rattle.threaded_model.proofs.Reading.{read_crossed}
use Rattle.threaded_model.proofs.Settled.{first_length_is, live_is}
use Rattle.carriers.specs.Alone.{linked}
use Rattle.threaded_client.specs.Carrying.{IsSound as IsSoundNear}
use Rattle.threaded_client.specs.Handing.{ClientHands, IsPresent}
use Rattle.threaded_server.specs.declared.knows.Knows.{Knows}
use Rattle.threaded_server.specs.declared.knows.Knows.TheVariants as knows
use Rattle.threaded_server.specs.Carrying.{IsHere, IsSound, ServerHands}
use Rattle.threaded_server.proofs.Handing.{done_accepted, done_read, done_refused, done_unknown}
use Rattle.threaded_drain.specs.Resting.{IsAtRest, IsDoneThere}
use Rattle.threaded_drain.proofs.Good.{good_now}
use Rattle.threaded_drain.proofs.Short.{AreShort, refused_short}

-- ---- what was read of short frames

-- no length that is too long stands in front of short frames
none_long : (most : ℕ) (frames : List Frame) → 64 ≤ most → AreSpellable frames → AreShort frames → IsTooLong (framed_all frames) most → ⊥
none_long most [] le h s l = absurd (let n = l.0 in omega (arith, n))
none_long most (f ∷ fs) le h s l =
    let short : length (canonical f) < 2 ^ 24 = subst (λ (n : ℕ). n < 2 ^ 24) (sym (length-canonical f)) h.0.short in
    let is : first_length (framed_all (f ∷ fs)) ≡ length (canonical f) = ap first_length (flat_map-cons framed_frame f fs) ∙ first_length_is (canonical f) (framed_all fs) short in
    let few = s.0 in
    absurd (omega (arith, l.1, is, length-canonical f, few, le))

short_behind : (xs ys : List Frame) → AreShort (xs ++ ys) → AreShort ys
short_behind [] ys h = h
short_behind (x ∷ xs) ys h = short_behind xs ys h.1

spelled_behind : (xs ys : List Frame) → AreSpellable (xs ++ ys) → AreSpellable ys
spelled_behind [] ys h = h
spelled_behind (x ∷ xs) ys h = spelled_behind xs ys h.1

-- so where whole short frames were read, no bytes came that are no frame
pub read_good : (most : ℕ) (frames here : List Frame) (bad : Option ℕ) (rest taken : List ℕ) → 64 ≤ most → AreSpellable frames → AreSpellable here → AreShort frames → HasRead here bad most rest taken → taken ≡ framed_all frames → bad ≡ None
read_good most frames here None rest taken le h hh s r all = refl
read_good most frames here (Some rule) rest taken le h hh s r all =
    let c = read_crossed most frames here (Some rule) rest taken taken h r ([], append-nil taken) ([], append-nil taken ∙ all) in
    let front = framed_all here in
    let whole : IsPrefix front (take (length (framed_all frames)) (framed_all frames)) = (c.begins.0, c.begins.1 ∙ (all ∙ sym (take_all (length (framed_all frames)) (framed_all frames) (omega arith)))) in
    let p = frames_given (length (framed_all frames)) here frames hh h whole in
    let more = p.0 in
    let split : front ++ framed_all more ≡ taken = sym (framed_all-append here more) ∙ (ap framed_all p.1 ∙ sym all) in
    let dropped : drop (length front) taken ≡ framed_all more = ap (drop (length front)) (sym split) ∙ drop_at front (framed_all more) (length front) refl in
    absurd (none_long most more le (spelled_behind here more (subst AreSpellable (sym p.1) h)) (short_behind here more (subst AreShort (sym p.1) s)) (subst (λ (l : List ℕ). IsTooLong l most) dropped c.bad_fits.1))

-- ---- the client

live_true : (now c : ℕ) → now ≡ c → 0 < c → is_live now c ≡ true
live_true now c same some = grind (arith, nat_tests)

not_bad : (b : Bool) (o : Option ℕ) → b ≡ is_some o → o ≡ None → b ≡ true → ⊥
not_bad b o is none bad = absurd (let f : is_some o ≡ false = rw none refl in cc (is, f, bad))

emptied_part : (b : Between) (o : Option ℕ) → b.bad ≡ is_some o → o ≡ None → IsEmptied b → IsPart b.rest b.max_in
emptied_part b o is none (inl bad) = absurd (not_bad b.bad o is none bad)
emptied_part b o is none (inr part) = part

-- nothing stands in front that can come: all that was read came
near_read : (g : Settings) (C : List Entry) (c : ℕ) (gave took : List ℕ) (b : Between) → b.conn ≡ c → b.max_in ≡ g.max_in → Keeps g C (linked gave took) b → first_bad C b.conn ≡ None → IsEmptied b → IsReadOut g C c took
near_read g C c gave took b is limit k good empty =
    let part = emptied_part b (first_bad C b.conn) k.bad good empty in
    subst (λ (d : ℕ). IsReadOut g C d took) is (record {
      good = good;
      rest = b.rest;
      read = subst (λ (o : Option ℕ). HasRead (came C b.conn) o g.max_in b.rest took) good k.taken;
      no_frame = λ w. part.0 (subst (IsWhole b.rest) (sym limit) w);
      no_length = λ l. part.1 (subst (IsTooLong b.rest) (sym limit) l);
    })

-- ---- both

-- all is done on the client's live connection, of which the server knows this
done_by : (g h : Settings) (C S : List Entry) (place : ℕ → ℕ) (conn : ℕ → ℕ) (n : ℕ) (b : Between) (kn : Knows) (up read_up down read_down : List Item) → AreEnds g h C S → b.max_in ≡ g.max_in → IsSound h kn → read_down ≡ down → IsPresent g C conn n b up read_down → IsHere h S place n down read_up kn → live C ≡ b.conn
    → IsDoneThere h S b kn → IsDone g h C S conn place n read_up down read_down
done_by g h C S place conn n b (knows.Nothing reader) up read_up down read_down e limit sound all p i here there = inl (done_unknown h S place n down read_up reader.bytes i (subst (IsTooLong reader.bytes) sound.0 there))
done_by g h C S place conn n b (knows.Accepted d far) up read_up down read_down e limit sound all p i here there = inr (far.conn, i.at.opening, i.at.place_is, inl (done_accepted g h C S place n (conn n) down read_up (part n read_down) far i (λ at. accepted at there)))
  where
    accepted : is_live (live S) far.conn ≡ true → (live S ≢ d) ⊎ ((queued h S ≡ 0) × IsEmptied b × IsEmptied far) → (queued h S ≡ 0) × (closed h S ≡ None → IsReadOut h S far.conn (part n read_up)) × (closed g C ≡ None → IsReadOut g C (conn n) (part n read_down))
    accepted at (inl apart) = absurd (apart (live_is (live S) far.conn at ∙ sound.1))
    accepted at (inr done) = (
      done.0,
      λ free.
          let good = good_now h S far.conn e.server_legal at free in
          done_read h S place n down read_up far i good sound.0 (emptied_part far (first_bad S far.conn) i.kept.bad good done.2),
      λ free. near_read g C (conn n) (part n up) (part n read_down) b (sym p.is) limit p.keeps (good_now g C b.conn e.client_legal (live_true (live C) b.conn here p.some) free) done.1,
    )
done_by g h C S place conn n b (knows.Refused bytes pushed) up read_up down read_down e limit sound all p i here there =
    let sent : part n down ≡ framed_all (refused S i.d) = i.sent_are ∙ (take_all pushed bytes (let w = there.0 in omega (arith, w)) ∙ i.bytes_are) in
    let taken : part n read_down ≡ framed_all (refused S i.d) = ap (part n) all ∙ sent in
    let few : 64 ≤ g.max_in = e.client_checked.max_in.above in
    let good : first_bad C b.conn ≡ None =
    read_good g.max_in (refused S i.d) (came C b.conn) (first_bad C b.conn) b.rest (part n read_down) few (refused_spelled S i.d) (came_spelled g C b.conn e.client_fair) (refused_short S i.d) p.keeps.taken taken in
    inr (i.d, i.at.opening, i.at.place_is, inr (done_refused g h C S place n (conn n) down read_up (part n read_down) bytes pushed i there.0 (near_read g C (conn n) (part n up) (part n read_down) b (sym p.is) limit p.keeps good there.1)))

pub settled_by : (g h : Settings) (lines others : List Line) (C S : List Entry) (near_number far_number conn n : ℕ) (p : Option Between) (kn : Knows) (up read_up down read_down : List Item) → AreEnds g h C S → (c : ClientHands g C near_number lines p up read_down)
    → (s : ServerHands h S far_number others kn n down read_up) → IsSoundNear g conn p → IsSound h kn → read_up ≡ up → read_down ≡ down → IsAtRest g h C S p kn → IsSettled g h C S c.conn s.place read_up down read_down
settled_by g h lines others C S near_number far_number conn n p kn up read_up down read_down e c s near far all_up all_down (inl none) = inl none
settled_by g h lines others C S near_number far_number conn n p kn up read_up down read_down e c s near far all_up all_down (inr rest) =
    let b = rest.0 in
    let same : cuts up ≡ n = ap cuts (sym all_up) ∙ s.both in
    let sound : (b.conn ≡ conn) × (b.max_in ≡ g.max_in) = subst (λ (o : Option Between). IsSoundNear g conn o) rest.1 near in
    let at : IsPresent g C c.conn (cuts up) b up read_down = subst (λ (o : Option Between). IfSome o (λ x. IsPresent g C c.conn (cuts up) x up read_down)) rest.1 c.present in
    let present : IsPresent g C c.conn n b up read_down = subst (λ (k : ℕ). IsPresent g C c.conn k b up read_down) same at in
    inr (record {
      k = n;
      some = subst (λ (k : ℕ). 0 < k) (sym present.is) present.some;
      live_is = rest.2.live_is ∙ sym present.is;
      none_waits = rest.2.none_waits;
      done = done_by g h C S s.place c.conn n b kn up read_up down read_down e sound.1 far all_down present s.here rest.2.live_is rest.2.there;
    })

pub played_by : (g h : Settings) (lines : List Line) (C S : List Entry) (near_number far_number conn n : ℕ) (p : Option Between) (kn : Knows) (up read_up down read_down : List Item) → AreEnds g h C S → ClientHands g C near_number (line.Open ∷ lines) p up read_down
    → ServerHands h S far_number lines kn n down read_up → IsSoundNear g conn p → IsSound h kn → read_up ≡ up → read_down ≡ down → IsAtRest g h C S p kn → AreCalls (calls_of Client lines) C → AreCalls (calls_of Server lines) S → Threaded g h lines C S
played_by g h lines C S near_number far_number conn n p kn up read_up down read_down e c s near far all_up all_down rest asked heard =
    let same : cuts up ≡ n = ap cuts (sym all_up) ∙ s.both in
    threaded_by g h lines C S c.conn s.place up read_up down read_down (record { ends = e; near = c.keeps; far = s.keeps; all_up = all_up; all_down = all_down })
    (record {
      client_calls = asked;
      server_calls = heard;
      client_acts = c.acts;
      server_ticks = s.ticks;
      server_cuts = λ d is. let was = s.cut d is in (was.0, c.cut (s.place d) (let lt = was.1 in omega (arith, lt, same)));
    })
    (settled_by g h (line.Open ∷ lines) lines C S near_number far_number conn n p kn up read_up down read_down e c s near far all_up all_down rest)
