-- What the server's carrier keeps goes on, step by step.
use Rattle.std.proofs.Common.{◌≡◌, ◌≢◌, ◌<◌, ◌+◌, inr, ℕ, suc, true, false, List, [], ◌∷◌, ◌++◌, take, drop, None, refl, ap, sym, ◌∙◌, subst, arith, append-nil, append_assoc, true≢false}
use Rattle.std.specs.List.{AllByRecursion}
use Rattle.rs_wire.specs.declared.settings.Settings.{Settings}
use Rattle.rs_frame.specs.declared.frame.Frame.{Frame}
use Rattle.rs_frame.specs.Framed.{framed_all}
use Rattle.rs_chunk.specs.Rest.{Rest}
use Rattle.tape.specs.declared.event.Event.TheVariants as event
use Rattle.tape.specs.declared.answer.Answer.TheVariants as answer
use Rattle.tape.specs.declared.entry.Entry.{Entry}
use Rattle.session_model.specs.Legal.{Legal}
use Rattle.session_model.specs.Life.{openings}
use Rattle.session_model.specs.Frames.{refusal}
use Rattle.session_model.specs.Joined.{IsOpening, only, refused}
use Rattle.link_model.specs.Carrying.{Between, Keeps, is_of}
use Rattle.cable_script.specs.declared.line.Line.{Line}
use Rattle.ring.specs.declared.item.Mark.{Mark}
use Rattle.ring.specs.declared.item.Mark.TheVariants as mark
use Rattle.ring.specs.declared.item.Item.{Item}
use Rattle.ring.specs.declared.item.Item.TheVariants as item
use Rattle.ring.specs.Parts.{bytes_of, cuts, ends, part}
use Rattle.threaded_model.specs.Threaded.{has_cut, is_asked, made_by, moments, told_by, told_in}
use Rattle.carriers.specs.Alone.{IsOurs, linked}
use Rattle.threaded_server.specs.declared.knows.Knows.{Knows}
use Rattle.threaded_server.specs.declared.knows.Knows.TheVariants as knows
use Rattle.threaded_server.specs.Serving.{HasAccepted, HasRefused, HasServed, IsAt, KnowsNothing}
use Rattle.threaded_server.specs.Carrying.{IsHere, ServerCarries}
use Rattle.carriers.proofs.Items.{Cuts, Grows, cuts_at_once, cuts_both, grows_bytes, part_former, part_later, part_marked, part_read, no_cuts}
use Rattle.threaded_server.proofs.Adding.{IsNew, IsSpare, accepted_spared, at_more, nothing_spared, refused_more, refused_spared, served_more, spare_asked}
use Rattle.threaded_server.proofs.Bytes.{IsOver, accepted_over, accepted_parts, nothing_over, nothing_parts, nothing_read, refused_over, refused_parts, refused_read, refused_sent, served_cut, served_received, served_sent}
use Rattle.threaded_server.proofs.OwnEntries.{Begins, IsFirst, accepted_first, placed, refused_at, served_cutting, served_opened, served_ticking, spare_cut, spare_tick}

-- ---- entries of others

-- an entry of another, who asks
abbrev pub IsOther : ℕ → Entry → Type 0
IsOther n x = (x.who ≢ n) × (is_asked x.event ≡ true)

as_ours : (c n : ℕ) (more : List Entry) → AllByRecursion (IsOther n) more → AllByRecursion (IsOurs (λ e. is_of c e ≡ true) n) more
as_ours c n [] h = tt
as_ours c n (x ∷ more) h = (inr h.0, as_ours c n more h.1)

as_spare : (n : ℕ) (more : List Entry) → AllByRecursion (IsOther n) more → AllByRecursion IsSpare more
as_spare n [] h = tt
as_spare n (x ∷ more) h = (spare_asked x h.0.1, as_spare n more h.1)

above_none : (S : List Entry) (place : ℕ → ℕ) (n : ℕ) → IsNew S place n 0
above_none S place n d o lt is = let a = o.above in absurd (omega (arith, a, is))

here_spared : (h : Settings) (more S : List Entry) (place : ℕ → ℕ) (k : ℕ) (sent received : List Item) (kn : Knows) → AllByRecursion IsSpare more → Legal h (more ++ S) → IsHere h S place k sent received kn → IsHere h (more ++ S) place k sent received kn
here_spared h more S place k sent received (knows.Nothing reader) spare legal i = nothing_spared more S place k sent received reader.bytes spare i
here_spared h more S place k sent received (knows.Accepted conn b) spare legal i = accepted_spared h more S place k sent received b spare i
here_spared h more S place k sent received (knows.Refused bytes pushed) spare legal i = refused_spared h more S place k sent received bytes pushed spare legal i

pub over_others : (h : Settings) (more S : List Entry) (number : ℕ) (lines : List Line) (u : ℕ) (kn : Knows) (sent received : List Item) → AllByRecursion (IsOther number) more → Legal h (more ++ S) → ServerCarries h S number lines u kn sent received → ServerCarries h (more ++ S) number lines u kn sent received
over_others h more S number lines u kn sent received others legal s = record {
  place = s.place;
  served = served_more h more S number 0 s.place (told_by lines) sent received (as_ours 0 number more others) (above_none S s.place (cuts sent)) s.served;
  here = here_spared h more S s.place (cuts sent) sent received kn (as_spare number more others) legal s.here;
  both = s.both;
  empty = s.empty;
  open_end = s.open_end;
}

-- ---- what was read

-- items were read, which are these bytes and this mark
pub record IsReadTo (bytes : List ℕ) (m : Mark) (old new : List Item) : Type 0 where
  pub count : cuts new ≡ cuts old + cuts (item.Mark m ∷ [])
  pub before : (k : ℕ) → k < cuts old → part k new ≡ part k old
  pub last : part (cuts old) new ≡ part (cuts old) old ++ bytes
  pub empty : part (cuts old + 1) new ≡ []

pub read_to : (old new : List Item) (bytes : List ℕ) (m : Mark) → new ≡ (old ++ bytes_of bytes) ++ item.Mark m ∷ [] → IsReadTo bytes m old new
read_to old new bytes m is = subst (IsReadTo bytes m old) (sym is) (
    let ys = old ++ bytes_of bytes in
    let same : cuts ys ≡ cuts old = (let a = cuts_both old (bytes_of bytes) in let b = no_cuts bytes in omega (arith, a, b)) in
    record {
      count = cuts_both ys (item.Mark m ∷ []) ∙ ap (λ (n : ℕ). n + cuts (item.Mark m ∷ [])) same;
      before = λ k lt. part_former k ys (item.Mark m ∷ []) (omega (arith, lt, same)) ∙ part_former k old (bytes_of bytes) lt;
      last = part_read old bytes m;
      empty = part_marked (cuts old + 1) ys m ∙ part_later (cuts old + 1) ys (omega (arith, same));
    })

-- the connections before, where items were read
served_read : (h : Settings) (S : List Entry) (number : ℕ) (place : ℕ → ℕ) (told : List ℕ) (sent received received' : List Item) (bytes : List ℕ) (m : Mark) → IsReadTo bytes m received received' → cuts received ≡ cuts sent + 0 → HasServed h S number place told sent received → HasServed h S number place told sent received'
served_read h S number place told sent received received' bytes m r both s = served_received h S number place told sent received received' r.before (let n = r.count in omega (arith, n)) (omega (arith, both)) s

now_last : (sent received received' : List Item) (bytes : List ℕ) (m : Mark) → IsReadTo bytes m received received' → cuts received ≡ cuts sent + 0 → part (cuts sent) received' ≡ part (cuts sent) received ++ bytes
now_last sent received received' bytes m r both = let same : cuts received ≡ cuts sent = omega (arith, both) in subst (λ (k : ℕ). part k received' ≡ part k received ++ bytes) same r.last

-- where what is kept of the connection goes on, all does
pub carries_read : (h : Settings) (S : List Entry) (number : ℕ) (lines : List Line) (kn kn' : Knows) (sent received received' : List Item) (bytes : List ℕ) (m : Mark) → IsReadTo bytes m received received'
    → (s : ServerCarries h S number lines 0 kn sent received) → (part (cuts sent) received' ≡ part (cuts sent) received ++ bytes → IsHere h S s.place (cuts sent) sent received' kn')
    → ServerCarries h S number lines (cuts (item.Mark m ∷ [])) kn' sent received'
carries_read h S number lines kn kn' sent received received' bytes m r s here = record {
  place = s.place;
  served = served_read h S number s.place (told_by lines) sent received received' bytes m r s.both s.served;
  here = here (now_last sent received received' bytes m r s.both);
  both = let n = r.count in let b = s.both in omega (arith, n, b);
  empty = (let same : cuts received ≡ cuts sent = (let b = s.both in omega (arith, b)) in subst (λ (k : ℕ). part (k + 1) received' ≡ []) same r.empty);
  open_end = s.open_end;
}

pub filled : (h : Settings) (S : List Entry) (number : ℕ) (lines : List Line) (old new : Rest) (sent received received' : List Item) (bytes : List ℕ) (m : Mark) → IsReadTo bytes m received received' → new.bytes ≡ old.bytes ++ bytes → ServerCarries h S number lines 0 (knows.Nothing old) sent received → ServerCarries h S number lines (cuts (item.Mark m ∷ [])) (knows.Nothing new) sent received'
filled h S number lines old new sent received received' bytes m r more s = carries_read h S number lines (knows.Nothing old) (knows.Nothing new) sent received received' bytes m r s (λ last. subst (λ (l : List ℕ). KnowsNothing S s.place (cuts sent) sent received' l) (sym more) (nothing_read S s.place (cuts sent) sent received received' old.bytes bytes last s.here))

pub passed_over : (h : Settings) (S : List Entry) (number : ℕ) (lines : List Line) (refusal bytes : List ℕ) (pushed : ℕ) (sent received received' : List Item) (m : Mark) → IsReadTo bytes m received received' → ServerCarries h S number lines 0 (knows.Refused refusal pushed) sent received → ServerCarries h S number lines (cuts (item.Mark m ∷ [])) (knows.Refused refusal pushed) sent received'
passed_over h S number lines refusal bytes pushed sent received received' m r s = carries_read h S number lines (knows.Refused refusal pushed) (knows.Refused refusal pushed) sent received received' bytes m r s (λ last. refused_read h S s.place (cuts sent) sent received received' refusal bytes pushed last s.here)

-- ---- bytes of the connection that was accepted

-- the former connections are others
new_here : (h : Settings) (S : List Entry) (number : ℕ) (place : ℕ → ℕ) (told : List ℕ) (n : ℕ) (sent received : List Item) (b : Between) → HasAccepted h S place n sent received b → IsNew S place n b.conn
new_here h S number place told n sent received b a d o lt same = absurd (let at = a.at.place_is in let is : place d ≡ place b.conn = ap place same in omega (arith, lt, at, is))

-- its bytes moved: entries were added, and what is kept of its link is kept
pub record HasMoved (h : Settings) (more S : List Entry) (number : ℕ) (b b' : Between) (given taken : List ℕ) : Type 0 where
  pub ours : AllByRecursion (IsOurs (λ e. is_of b.conn e ≡ true) number) more
  pub conn : b'.conn ≡ b.conn
  pub none_left : b'.left ≡ []
  pub keeps : Keeps h (more ++ S) (linked given taken) b'

accepted_moved : (h : Settings) (more S : List Entry) (number : ℕ) (place : ℕ → ℕ) (k : ℕ) (s s' r r' : List Item) (b b' : Between) → HasMoved h more S number b b' (part k s') (part k r') → HasAccepted h S place k s r b → HasAccepted h (more ++ S) place k s' r' b'
accepted_moved h more S number place k s s' r r' b b' m a = record {
  at = subst (λ (c : ℕ). IsAt (more ++ S) place k c) (sym m.conn) (at_more more S place k b.conn a.at);
  unrefused = subst (λ (c : ℕ). refused (more ++ S) c ≡ []) (sym m.conn) (refused_more more S b.conn a.at.opening ∙ a.unrefused);
  none_left = m.none_left;
  kept = m.keeps;
}

-- bytes were drawn and pushed
pub gave_more : (h : Settings) (more S : List Entry) (number : ℕ) (lines : List Line) (conn : ℕ) (b b' : Between) (sent sent' received : List Item) (piece : List ℕ) → Grows piece sent sent' → ServerCarries h S number lines 0 (knows.Accepted conn b) sent received
    → HasMoved h more S number b b' (part (cuts sent) sent ++ piece) (part (cuts sent) received) → ServerCarries h (more ++ S) number lines 0 (knows.Accepted conn b') sent' received
gave_more h more S number lines conn b b' sent sent' received piece g s m =
    let same = g.same_cuts in
    let new = new_here h S number s.place (told_by lines) (cuts sent) sent received b s.here in
    let moved = subst (λ (l : List ℕ). HasMoved h more S number b b' l (part (cuts sent) received)) (sym g.last) m in
    record {
      place = s.place;
      served = served_sent h (more ++ S) number s.place (told_by lines) sent sent' received piece g (served_more h more S number b.conn s.place (told_by lines) sent received m.ours new s.served);
      here = subst (λ (k : ℕ). HasAccepted h (more ++ S) s.place k sent' received b') (sym same) (accepted_moved h more S number s.place (cuts sent) sent sent' received received b b' moved s.here);
      both = let b = s.both in omega (arith, b, same);
      empty = subst (λ (k : ℕ). part (k + 1) received ≡ []) (sym same) s.empty;
      open_end = g.same_ends ∙ s.open_end;
    }

-- bytes were read up to a mark, and brought
pub took_more : (h : Settings) (more S : List Entry) (number : ℕ) (lines : List Line) (conn : ℕ) (b b' : Between) (sent received received' : List Item) (bytes : List ℕ) (m : Mark) → IsReadTo bytes m received received' → ServerCarries h S number lines 0 (knows.Accepted conn b) sent received
    → HasMoved h more S number b b' (part (cuts sent) sent) (part (cuts sent) received ++ bytes) → ServerCarries h (more ++ S) number lines (cuts (item.Mark m ∷ [])) (knows.Accepted conn b') sent received'
took_more h more S number lines conn b b' sent received received' bytes m r s v =
    let new = new_here h S number s.place (told_by lines) (cuts sent) sent received b s.here in
    let last = now_last sent received received' bytes m r s.both in
    let moved = subst (λ (l : List ℕ). HasMoved h more S number b b' (part (cuts sent) sent) l) (sym last) v in
    record {
      place = s.place;
      served = served_read h (more ++ S) number s.place (told_by lines) sent received received' bytes m r s.both (served_more h more S number b.conn s.place (told_by lines) sent received v.ours new s.served);
      here = accepted_moved h more S number s.place (cuts sent) sent sent received received' b b' moved s.here;
      both = let n = r.count in let b = s.both in omega (arith, n, b);
      empty = (let same : cuts received ≡ cuts sent = (let b = s.both in omega (arith, b)) in subst (λ (k : ℕ). part (k + 1) received' ≡ []) same r.empty);
      open_end = s.open_end;
    }

-- what stood in front was brought
pub heard_more : (h : Settings) (more S : List Entry) (number : ℕ) (lines : List Line) (u conn : ℕ) (b b' : Between) (sent received : List Item) → ServerCarries h S number lines u (knows.Accepted conn b) sent received
    → HasMoved h more S number b b' (part (cuts sent) sent) (part (cuts sent) received) → ServerCarries h (more ++ S) number lines u (knows.Accepted conn b') sent received
heard_more h more S number lines u conn b b' sent received s v = record {
  place = s.place;
  served = served_more h more S number b.conn s.place (told_by lines) sent received v.ours (new_here h S number s.place (told_by lines) (cuts sent) sent received b s.here) s.served;
  here = accepted_moved h more S number s.place (cuts sent) sent sent received received b b' v s.here;
  both = s.both;
  empty = s.empty;
  open_end = s.open_end;
}

-- ---- bytes and marks are pushed

-- bytes of a refusal were pushed
pub pushed_more : (h : Settings) (S : List Entry) (number : ℕ) (lines : List Line) (refusal : List ℕ) (pushed more : ℕ) (sent sent' received : List Item) → sent' ≡ sent ++ bytes_of (take more (drop pushed refusal)) → ServerCarries h S number lines 0 (knows.Refused refusal pushed) sent received
    → ServerCarries h S number lines 0 (knows.Refused refusal (pushed + more)) sent' received
pushed_more h S number lines refusal pushed more sent sent' received is s =
    let piece = take more (drop pushed refusal) in
    let g = subst (Grows piece sent) (sym is) (grows_bytes sent piece) in
    let same = g.same_cuts in
    record {
      place = s.place;
      served = served_sent h S number s.place (told_by lines) sent sent' received piece g s.served;
      here = subst (λ (k : ℕ). HasRefused h S s.place k sent' received refusal (pushed + more)) (sym same) (refused_sent h S s.place (cuts sent) sent sent' received refusal pushed more g.last s.here);
      both = let b = s.both in omega (arith, b, same);
      empty = subst (λ (k : ℕ). part (k + 1) received ≡ []) (sym same) s.empty;
      open_end = g.same_ends ∙ s.open_end;
    }

here_parts : (h : Settings) (S : List Entry) (place : ℕ → ℕ) (k : ℕ) (sent sent' received : List Item) (kn : Knows) → part k sent' ≡ part k sent → IsHere h S place k sent received kn → IsHere h S place k sent' received kn
here_parts h S place k sent sent' received (knows.Nothing reader) e i = nothing_parts S place k sent sent' received reader.bytes e i
here_parts h S place k sent sent' received (knows.Accepted conn b) e i = accepted_parts h S place k sent sent' received received b e refl i
here_parts h S place k sent sent' received (knows.Refused bytes pushed) e i = refused_parts h S place k sent sent' received bytes pushed e i

-- a mark was pushed that cuts and ends nothing
pub marked : (h : Settings) (S : List Entry) (number : ℕ) (lines : List Line) (u : ℕ) (kn : Knows) (sent sent' received : List Item) → Grows [] sent sent' → ServerCarries h S number lines u kn sent received → ServerCarries h S number lines u kn sent' received
marked h S number lines u kn sent sent' received g s =
    let same = g.same_cuts in
    record {
      place = s.place;
      served = served_sent h S number s.place (told_by lines) sent sent' received [] g s.served;
      here = subst (λ (k : ℕ). IsHere h S s.place k sent' received kn) (sym same) (here_parts h S s.place (cuts sent) sent sent' received kn (g.last ∙ append-nil (part (cuts sent) sent)) s.here);
      both = let b = s.both in omega (arith, b, same);
      empty = subst (λ (k : ℕ). part (k + 1) received ≡ []) (sym same) s.empty;
      open_end = g.same_ends ∙ s.open_end;
    }

pub here_over : (h : Settings) (S : List Entry) (number : ℕ) (place : ℕ → ℕ) (told : List ℕ) (k : ℕ) (sent received : List Item) (kn : Knows) → HasServed h S number place told sent received → IsHere h S place k sent received kn → IsOver h S place k sent received
here_over h S number place told k sent received (knows.Nothing reader) s i = nothing_over h S place k sent received reader.bytes i
here_over h S number place told k sent received (knows.Accepted conn b) s i = accepted_over h S number place told k sent received b s i
here_over h S number place told k sent received (knows.Refused bytes pushed) s i = refused_over h S number place told k sent received bytes pushed s i

-- a cut was answered
pub answered : (h : Settings) (S : List Entry) (number : ℕ) (lines : List Line) (kn : Knows) (reader : Rest) (sent sent' received : List Item) → sent' ≡ sent ++ item.Mark mark.Cut ∷ [] → reader.bytes ≡ [] → ServerCarries h S number lines 1 kn sent received → ServerCarries h S number lines 0 (knows.Nothing reader) sent' received
answered h S number lines kn reader sent sent' received is none s =
    let c : Cuts [] sent sent' = subst (Cuts [] sent) (sym is) (cuts_at_once sent) in
    let one = c.one_more in
    record {
      place = s.place;
      served = served_cut h S number s.place (told_by lines) sent sent' received c (here_over h S number s.place (told_by lines) (cuts sent) sent received kn s.served s.here) s.served;
      here = record {
        unopened = λ d o same. (let w = s.served.within d o in absurd (omega (arith, w, same, one)));
        rest_is = none ∙ sym (subst (λ (k : ℕ). part k received ≡ []) (sym one) s.empty);
        silent = subst (λ (k : ℕ). part k sent' ≡ []) (sym one) c.empty;
      };
      both = let b = s.both in omega (arith, b, one);
      empty = part_later (cuts sent' + 1) received (let b = s.both in omega (arith, b, one));
      open_end = c.same_ends ∙ s.open_end;
    }

-- ---- the carrier's own entries

-- it cut the connection that joins the ends
pub cut_here : (h : Settings) (S : List Entry) (x : Entry) (number : ℕ) (lines : List Line) (u conn : ℕ) (b : Between) (sent received : List Item) → x.event ≡ event.Cut b.conn → Legal h (x ∷ S) → ServerCarries h S number lines (suc u) (knows.Accepted conn b) sent received → ServerCarries h (x ∷ S) number lines (suc u) (knows.Accepted conn b) sent received
cut_here h S x number lines u conn b sent received is legal s = record {
  place = s.place;
  served = served_cutting h S x number b.conn s.place (told_by lines) sent received is s.here.at.opening (let at = s.here.at.place_is in let both = s.both in omega (arith, at, both)) s.served;
  here = accepted_spared h (x ∷ []) S s.place (cuts sent) sent received b (spare_cut x b.conn is, tt) s.here;
  both = s.both;
  empty = s.empty;
  open_end = s.open_end;
}

told_last : (lines : List Line) (l : Line) → told_by (lines ++ l ∷ []) ≡ told_by lines ++ told_in l
unfolding told_by
told_last [] l = append-nil (told_in l)
told_last (x ∷ lines) l = ap (λ (t : List ℕ). told_in x ++ t) (told_last lines l) ∙ sym (append_assoc (told_in x) (told_by lines) (told_in l))

-- it ticked, by a line that tells this moment
pub ticked : (h : Settings) (S : List Entry) (x : Entry) (number now : ℕ) (lines : List Line) (l : Line) (u : ℕ) (kn : Knows) (sent received : List Item) → x.event ≡ event.Tick now → told_in l ≡ now ∷ [] → Legal h (x ∷ S) → ServerCarries h S number lines u kn sent received → ServerCarries h (x ∷ S) number (lines ++ l ∷ []) u kn sent received
ticked h S x number now lines l u kn sent received is tells legal s = record {
  place = s.place;
  served = subst (λ (t : List ℕ). HasServed h (x ∷ S) number s.place t sent received) (sym (told_last lines l ∙ ap (λ (t : List ℕ). told_by lines ++ t) tells)) (served_ticking h S x number now s.place (told_by lines) sent received is s.served);
  here = here_spared h (x ∷ []) S s.place (cuts sent) sent received kn (spare_tick x now is, tt) legal s.here;
  both = s.both;
  empty = s.empty;
  open_end = s.open_end;
}

-- a line that tells no moment
pub followed : (h : Settings) (S : List Entry) (number : ℕ) (lines : List Line) (l : Line) (u : ℕ) (kn : Knows) (sent received : List Item) → told_in l ≡ [] → ServerCarries h S number lines u kn sent received → ServerCarries h S number (lines ++ l ∷ []) u kn sent received
followed h S number lines l u kn sent received none s = record {
  place = s.place;
  served = subst (λ (t : List ℕ). HasServed h S number s.place t sent received) (sym (told_last lines l ∙ (ap (λ (t : List ℕ). told_by lines ++ t) none ∙ append-nil (told_by lines)))) s.served;
  here = s.here;
  both = s.both;
  empty = s.empty;
  open_end = s.open_end;
}

-- it opened a connection, which was accepted
pub opened_here : (h : Settings) (S : List Entry) (x : Entry) (f : Frame) (number : ℕ) (lines : List Line) (u conn most : ℕ) (reader : Rest) (rest : List ℕ) (sent received : List Item) → IsFirst x f → Legal h (x ∷ S) → x.answer ≡ answer.Opened conn → conn ≡ openings S + 1 → Begins f reader.bytes rest
    → ServerCarries h S number lines u (knows.Nothing reader) sent received → ServerCarries h (x ∷ S) number lines u (knows.Accepted conn (record { conn = conn; left = []; rest = rest; max_in = most; bad = false })) sent received
opened_here h S x f number lines u conn most reader rest sent received i legal is next b s = record {
  place = placed s.place (openings S + 1) (cuts sent);
  served = served_opened h S x f number s.place (told_by lines) sent received i s.here.unopened s.served;
  here = subst (λ (c : ℕ). HasAccepted h (x ∷ S) (placed s.place (openings S + 1) (cuts sent)) (cuts sent) sent received (record { conn = c; left = []; rest = rest; max_in = most; bad = false })) (sym next)
      (accepted_first h S x f s.place (cuts sent) most sent received reader.bytes rest i legal (is ∙ ap answer.Opened next) b s.here);
  both = s.both;
  empty = s.empty;
  open_end = s.open_end;
}

-- or refused
pub refused_here : (h : Settings) (S : List Entry) (x : Entry) (f : Frame) (number : ℕ) (lines : List Line) (u : ℕ) (reader : Rest) (rest bytes : List ℕ) (sent received : List Item) → IsFirst x f → Legal h (x ∷ S) → made_by x.answer ≡ None → bytes ≡ framed_all (only (refusal x.answer)) → Begins f reader.bytes rest
    → ServerCarries h S number lines u (knows.Nothing reader) sent received → ServerCarries h (x ∷ S) number lines u (knows.Refused bytes 0) sent received
refused_here h S x f number lines u reader rest bytes sent received i legal none is b s = record {
  place = placed s.place (openings S + 1) (cuts sent);
  served = served_opened h S x f number s.place (told_by lines) sent received i s.here.unopened s.served;
  here = refused_at h S x f s.place (cuts sent) sent received reader.bytes rest bytes i legal none is b s.here;
  both = s.both;
  empty = s.empty;
  open_end = s.open_end;
}

-- at first nothing happened
pub carries_none : (h : Settings) (number : ℕ) (reader : Rest) → reader.bytes ≡ [] → ServerCarries h [] number [] 0 (knows.Nothing reader) [] []
unfolding cuts ends part openings moments has_cut told_by
carries_none h number reader none = record {
  place = λ d. 0;
  served = record {
    apart = λ d e od oe same. absurd (no_opening d od);
    within = λ d o. omega arith;
    served = λ d o lt. absurd (no_opening d o);
    silent = λ k lt. inr refl;
    cut = λ d is. absurd (true≢false (sym is));
    ticks = refl;
    unasked = tt;
  };
  here = record { unopened = λ d o. absurd (no_opening d o); rest_is = none; silent = refl };
  both = refl;
  empty = refl;
  open_end = refl;
}
  where
    no_opening : (d : ℕ) → IsOpening [] d → ⊥
    no_opening d o = let a = o.above in let w = o.within in absurd (omega (arith, a, w))
