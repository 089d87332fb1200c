-- What is kept goes on over each call, in the words of the contracts.
use Rattle.std.proofs.lemmas.List.{take_all, take_more}
use Rattle.std.proofs.Common.{◌≡◌, ◌<◌, ◌≤◌, ◌∙◌, ◌+◌, append_assoc, get_or, length, ℕ, suc, Bool, true, false, List, [], ◌∷◌, ◌++◌, take, Option, Some, IfSome, Result, Ok, Err, IfOk, OnOk, refl, ap, sym, subst}
use Rattle.rs_wire.specs.declared.settings.Settings.{Settings}
use Rattle.rs_frame.specs.declared.frame.Frame.{Frame}
use Rattle.rs_chunk.specs.Rest.{Rest}
use Rattle.tape.specs.Told.{entry_of}
use Rattle.tape.specs.declared.entry.Entry.{Entry}
use Rattle.tape.specs.declared.event.Event.{Event}
use Rattle.tape.specs.declared.event.Event.TheVariants as event
use Rattle.tape.specs.declared.answer.Answer.{Answer}
use Rattle.conn_shared.specs.Members.{Follows, Knowledge}
use Rattle.link_model.specs.Carrying.{Between}
use Rattle.pump.specs.Turns.{GoesOn}
use Rattle.pump.proofs.Adding.{IsOn, goes_as, goes_both, goes_follows, goes_none}
use Rattle.cable_script.specs.declared.line.Line.{Line}
use Rattle.ring.specs.declared.item.Mark.{Mark}
use Rattle.ring.specs.declared.item.Mark.TheVariants as mark
use Rattle.ring.specs.declared.item.Item.{Item}
use Rattle.ring.specs.declared.item.Item.TheVariants as item
use Rattle.ring.specs.Parts.{cuts, ends}
use Rattle.threaded_model.specs.Threaded.{told_in}
use Rattle.carriers.specs.Moves.{HasGiven, HasHeard, HasTaken, HasTold, mark_for}
use Rattle.carriers.proofs.Items.{Grows, grows_mark}
use Rattle.threaded_server.specs.declared.knows.Knows.{Knows}
use Rattle.threaded_server.specs.declared.knows.Knows.TheVariants as knows
use Rattle.threaded_server.specs.Begun.{HasBegun, HasOpened, IsBegun, IsFirst, Passes}
use Rattle.threaded_server.specs.Carrying.{IsAny, IsCarrying, IsReading, IsSound, KeepsOn}
use Rattle.threaded_server.specs.Moves.{HasFilled, HasPassed, HasPushed}
use Rattle.threaded_server.proofs.Kept.{kept_begun, kept_cut, kept_filled, kept_followed, kept_given, kept_heard, kept_looked, kept_marked, kept_passed, kept_pushed, kept_taken}

-- ---- results

pub on_ok : {X E : Type 0} (r : Result X E) (P Q : Type 0) → (P → Q) → OnOk r P → OnOk r Q
on_ok (Ok x) P Q f h = f h
on_ok (Err e) P Q f h = tt

pub if_on : {X E : Type 0} (r : Result X E) (Q : Type 0) → Q → OnOk r Q
if_on (Ok x) Q q = q
if_on (Err e) Q q = tt

pub at_some : {X : Type 0} (o : Option X) (x : X) (P : X → Type 0) → o ≡ Some x → IfSome o P → P x
at_some {X} o x P is h = subst (λ (v : Option X). IfSome v P) is h

-- ---- steps

pub known : (u u' : ℕ) (was now : Knowledge) (kn known_as k' : Knows) (s s' r r' : List Item) → kn ≡ known_as → KeepsOn u u' was now known_as k' s s' r r' → KeepsOn u u' was now kn k' s s' r r'
known u u' was now kn known_as k' s s' r r' is f lines k = f lines (subst (λ (t : Knows). IsReading u lines was t s r) is k)

pub stays : (u : ℕ) (me : Knowledge) (kn : Knows) (s r : List Item) → KeepsOn u u me me kn kn s s r r
stays u me kn s r lines k = k

pub both : (u v w : ℕ) (was mid now : Knowledge) (a b c : Knows) (s s1 s2 r r1 r2 : List Item) → KeepsOn u v was mid a b s s1 r r1 → KeepsOn v w mid now b c s1 s2 r1 r2 → KeepsOn u w was now a c s s2 r r2
both u v w was mid now a b c s s1 s2 r r1 r2 f g lines k = g lines (f lines k)

pub fills : (me : Knowledge) (kn : Knows) (old new : Rest) (m : Mark) (s r r' : List Item) → kn ≡ knows.Nothing old → HasFilled old new m r r' → KeepsOn 0 (cuts (item.Mark m ∷ [])) me me kn (knows.Nothing new) s s r r'
fills me kn old new m s r r' is f = known 0 (cuts (item.Mark m ∷ [])) me me kn (knows.Nothing old) (knows.Nothing new) s s r r' is (λ lines k. kept_filled me lines old new f.0 m s r r' f.1 (ap (λ (x : Rest). x.bytes) f.2) k)

pub passes : (me : Knowledge) (kn : Knows) (refusal : List ℕ) (pushed : ℕ) (m : Mark) (s r r' : List Item) → kn ≡ knows.Refused refusal pushed → HasPassed m r r' → KeepsOn 0 (cuts (item.Mark m ∷ [])) me me kn kn s s r r'
passes me kn refusal pushed m s r r' is f = subst (λ (t : Knows). KeepsOn 0 (cuts (item.Mark m ∷ [])) me me t t s s r r') (sym is) (λ lines k. kept_passed me lines refusal f.0 pushed m s r r' f.1 k)

pub takes : (was now : Knowledge) (kn : Knows) (conn : ℕ) (b b' : Between) (m : Mark) (s r r' : List Item) → IsOn was now → kn ≡ knows.Accepted conn b → HasTaken was now b b' m r r' → KeepsOn 0 (cuts (item.Mark m ∷ [])) was now kn (knows.Accepted conn b') s s r r'
takes was now kn conn b b' m s r r' on is h = known 0 (cuts (item.Mark m ∷ [])) was now kn (knows.Accepted conn b) (knows.Accepted conn b') s s r r' is (λ lines k. kept_taken was now lines conn b b' m s r r' on h k)

pub hears : (u : ℕ) (was now : Knowledge) (kn : Knows) (conn : ℕ) (b b' : Between) (s r : List Item) → IsOn was now → kn ≡ knows.Accepted conn b → HasHeard was now b b' → KeepsOn u u was now kn (knows.Accepted conn b') s s r r
hears u was now kn conn b b' s r on is h = known u u was now kn (knows.Accepted conn b) (knows.Accepted conn b') s s r r is (λ lines k. kept_heard was now u lines conn b b' s r on h k)

pub gives : (was now : Knowledge) (kn : Knows) (conn : ℕ) (b b' : Between) (s s' r : List Item) → IsOn was now → kn ≡ knows.Accepted conn b → HasGiven was now b b' s s' → b'.left ≡ [] → KeepsOn 0 0 was now kn (knows.Accepted conn b') s s' r r
gives was now kn conn b b' s s' r on is h none = known 0 0 was now kn (knows.Accepted conn b) (knows.Accepted conn b') s s' r r is (λ lines k. kept_given was now lines conn b b' s s' r on h none k)

pub pushes : (me : Knowledge) (kn : Knows) (refusal : List ℕ) (pushed pushed' : ℕ) (s s' r : List Item) → kn ≡ knows.Refused refusal pushed → HasPushed refusal pushed pushed' s s' → KeepsOn 0 0 me me kn (knows.Refused refusal pushed') s s' r r
pushes me kn refusal pushed pushed' s s' r is f = known 0 0 me me kn (knows.Refused refusal pushed) (knows.Refused refusal pushed') s s' r r is
    (subst (λ (n : ℕ). KeepsOn 0 0 me me (knows.Refused refusal pushed) (knows.Refused refusal n) s s' r r) (sym f.1) (λ lines k. kept_pushed me lines refusal pushed f.0 s s' r f.3 k))

plain : (more : Bool) → (cuts (item.Mark (mark_for more) ∷ []) ≡ 0) × (ends (item.Mark (mark_for more) ∷ []) ≡ 0)
unfolding cuts ends
plain true = (refl, refl)
plain false = (refl, refl)

pub marks : (u : ℕ) (me : Knowledge) (kn : Knows) (more : Bool) (m : Mark) (s s' r : List Item) → m ≡ mark_for more → s' ≡ s ++ item.Mark m ∷ [] → KeepsOn u u me me kn kn s s' r r
marks u me kn more m s s' r is pushed lines k = kept_marked me u lines kn s s' r (subst (Grows [] s) (sym (pushed ∙ ap (λ (x : Mark). s ++ item.Mark x ∷ []) is)) (grows_mark s (mark_for more) (plain more))) k

pub plain_is : (more : Bool) (m : Mark) (was now : Knowledge) (kn kn' : Knows) (s s' r r' : List Item) → m ≡ mark_for more → KeepsOn 0 (cuts (item.Mark m ∷ [])) was now kn kn' s s' r r' → KeepsOn 0 0 was now kn kn' s s' r r'
plain_is more m was now kn kn' s s' r r' is k = subst (λ (n : ℕ). KeepsOn 0 n was now kn kn' s s' r r') (ap (λ (x : Mark). cuts (item.Mark x ∷ [])) is ∙ (plain more).0) k

cut_counts : cuts (item.Mark mark.Cut ∷ []) ≡ 1
unfolding cuts
cut_counts = refl

pub cut_is : (m : Mark) (was now : Knowledge) (kn kn' : Knows) (s s' r r' : List Item) → m ≡ mark.Cut → KeepsOn 0 (cuts (item.Mark m ∷ [])) was now kn kn' s s' r r' → KeepsOn 0 1 was now kn kn' s s' r r'
cut_is m was now kn kn' s s' r r' is k = subst (λ (n : ℕ). KeepsOn 0 n was now kn kn' s s' r r') (ap (λ (x : Mark). cuts (item.Mark x ∷ [])) is ∙ cut_counts) k

pub begins : (u : ℕ) (g : Settings) (was now : Knowledge) (kn : Knows) (reader : Rest) (kn' : Knows) (s r : List Item) → IsOn was now → kn ≡ knows.Nothing reader → HasBegun g was now reader kn' → KeepsOn u u was now kn kn' s s r r
begins u g was now kn reader kn' s r on is h = known u u was now kn (knows.Nothing reader) kn' s s r r is (λ lines k. kept_begun g was now u lines reader kn' s r on h k)

pub looks : (u : ℕ) (was now : Knowledge) (kn : Knows) (s r : List Item) → IsOn was now → Follows was.names was.front now.front → KeepsOn u u was now kn kn s s r r
looks u was now kn s r on f lines k = kept_looked was now u lines kn s r on f k

pub cuts_there : (g : Settings) (u : ℕ) (was now : Knowledge) (kn : Knows) (conn : ℕ) (b : Between) (a : Answer) (s r : List Item) → IsOn was now → kn ≡ knows.Accepted conn b → b.conn ≡ conn → HasTold g was now (event.Cut conn) a → KeepsOn (suc u) (suc u) was now kn kn s s r r
cuts_there g u was now kn conn b a s r on is same t = subst (λ (k : Knows). KeepsOn (suc u) (suc u) was now k k s s r r) (sym is) (λ lines k. kept_cut g was now conn b a u lines s r on same t k)

-- a line that tells no moment
pub follows : (was now : Knowledge) (l : Line) (lines : List Line) (kn kn' : Knows) (s s' r r' : List Item) → told_in l ≡ [] → KeepsOn 0 0 was now kn kn' s s' r r' → IsCarrying was lines kn s r → IsCarrying now (lines ++ l ∷ []) kn' s' r'
follows was now l lines kn kn' s s' r r' none f k = kept_followed now l lines kn' s' r' none (f lines k)

-- the first frame in front opened a connection
pub begun_by : (g : Settings) (was now : Knowledge) (frame : Frame) (o : Option Frame) (reader rest : Rest) (kn : Knows) → o ≡ Some frame → IfSome o (IsFirst reader) → rest.max_in ≡ reader.max_in → Passes reader.bytes rest.bytes → HasOpened g was now (event.Open (Some frame) false) rest kn → HasBegun g was now reader kn
begun_by g was now frame o reader rest kn is first limit passes opened = record {
  frame = frame;
  rest = rest.bytes;
  answer = opened.0;
  told = opened.1;
  spells = (at_some o frame (IsFirst reader) is first).1;
  passes = passes;
  is = subst (λ (most : ℕ). IsBegun most opened.0 rest.bytes kn) limit opened.2;
}

-- the number is that of the pump
pub number_is : (g : Settings) (kn : Knows) (conn : ℕ) (b : Between) → kn ≡ knows.Accepted conn b → IsSound g kn → b.conn ≡ conn
number_is g kn conn b is sound = (subst (IsSound g) is sound).1

-- ---- lines

-- a line more was followed
pub one_more : (me : Knowledge) (before lines : List Line) (i : ℕ) (l : Line) (kn : Knows) (s r : List Item) → i < length lines → l ≡ get_or lines i l → IsCarrying me ((before ++ take i lines) ++ l ∷ []) kn s r → IsCarrying me (before ++ take (i + 1) lines) kn s r
one_more me before lines i l kn s r lt is k =
    let more : take (i + 1) lines ≡ take i lines ++ l ∷ [] = take_more lines i l lt ∙ ap (λ (x : Line). take i lines ++ x ∷ []) (sym is) in
    subst (λ (ls : List Line). IsCarrying me ls kn s r) (append_assoc before (take i lines) (l ∷ []) ∙ ap (λ (ls : List Line). before ++ ls) (sym more)) k

-- all were followed
pub all_followed : (me : Knowledge) (before lines : List Line) (i : ℕ) (kn : Knows) (s r : List Item) → length lines ≤ i → IsCarrying me (before ++ take i lines) kn s r → IsCarrying me (before ++ lines) kn s r
all_followed me before lines i kn s r le k = subst (λ (ls : List Line). IsCarrying me (before ++ ls) kn s r) (take_all i lines le) k

-- ---- what this caller adds

pub if_to_on : {X E : Type 0} (r : Result X E) (P : X → Type 0) (Q : Type 0) → ((x : X) → P x → Q) → IfOk r P → OnOk r Q
if_to_on (Ok x) P Q f h = f x h
if_to_on (Err e) P Q f h = tt

pub adds_none : (me : Knowledge) → GoesOn IsAny me me.front
adds_none me = goes_none IsAny me

pub adds : (P : Event → Type 0) (me : Knowledge) (new : List Entry) → GoesOn P me new → GoesOn IsAny me new
adds P me new h = goes_as P IsAny me new (λ e p. tt) h

pub adds_told : (g : Settings) (me now : Knowledge) (e : Event) (a : Answer) → HasTold g me now e a → GoesOn IsAny me now.front
adds_told g me now e a t =
    let f = goes_follows IsAny me t.before t.follows in
    record {
      more = entry_of me.number e a ∷ f.more;
      on = t.is ∙ ap (λ (es : List Entry). entry_of me.number e a ∷ es) f.on;
      own = (λ named. (refl, tt), f.own);
    }

pub adds_both : (me mid : Knowledge) (new : List Entry) → IsOn me mid → GoesOn IsAny me mid.front → GoesOn IsAny mid new → GoesOn IsAny me new
adds_both me mid new on h k = goes_both IsAny me mid new on h k
